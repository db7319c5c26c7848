-- `exports::vault_print` meets its contract.
use Rattle.exports.proofs.ReportLaws.{print-done, print-refused}
use Rattle.exports.proofs.vault_print.Goals as goal

pub returns-in-Ok : goal.returns-in-Ok
returns-in-Ok c =
    print-done c.args.mode c.args.symbol.now c.args.buffer.now _ c.args.report.now _ c.mode_of.ensures c.print.ensures c.in-Ok.is c.state_of.ensures c.tell.ensures

pub returns-in-Err : goal.returns-in-Err
returns-in-Err c =
    print-refused c.args.mode c.args.symbol.now c.args.buffer.now _ c.args.report.now _ c.mode_of.ensures c.print.ensures c.in-Err.is c.number.ensures c.length_of.ensures c.tell-in-Err.ensures
