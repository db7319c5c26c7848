-- `printer::state::Printer::binder` meets its contract.
use Rattle.printer.proofs.LeafLaws.{binder_laws}
use Rattle.printer.proofs.state.Printer.binder.Goals as goal

pub returns-clause-says : goal.returns-clause-says
returns-clause-says c = search binder_laws depth 8
