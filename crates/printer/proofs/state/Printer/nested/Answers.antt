-- `printer::state::Printer::nested` meets its contract.
use Rattle.printer.proofs.LeafLaws.{nested_laws}
use Rattle.printer.proofs.state.Printer.nested.Goals as goal

pub returns-then-is_none-clause-says : goal.returns-then-is_none-clause-says
returns-then-is_none-clause-says c = search nested_laws depth 8
