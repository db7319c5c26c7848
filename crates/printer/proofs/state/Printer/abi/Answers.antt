-- `printer::state::Printer::abi` meets its contract.
use Rattle.printer.proofs.LeafLaws.{abi-some}
use Rattle.printer.proofs.state.Printer.abi.Goals as goal

pub returns-in-Some-Named-clause-says : goal.returns-in-Some-Named-clause-says
returns-in-Some-Named-clause-says c = abi-some _ _ _ _ _ _ _ _ c.in-Some-Named.is (rw c.in-Some-Named.is at c.in-Some-Named.field-0-is) c.extern_abi-in-Some-Named.ensures.says
