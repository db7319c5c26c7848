-- `exports::vault_check` meets its contract.
use Rattle.exports.proofs.ReportLaws.{number-refused}
use Rattle.exports.proofs.vault_check.Goals as goal

pub returns-in-Err : goal.returns-in-Err
returns-in-Err c = number-refused c.args.symbol.now c.check.ensures.number c.in-Err.is c.number.ensures
