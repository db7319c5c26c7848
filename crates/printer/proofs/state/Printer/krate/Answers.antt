-- `printer::state::Printer::krate` meets its contract.
use Rattle.printer.proofs.LeafLaws.{krate_laws}
use Rattle.printer.proofs.state.Printer.krate.Goals as goal

pub returns-then-is_none-clause-says : goal.returns-then-is_none-clause-says
returns-then-is_none-clause-says c = search krate_laws

pub returns-clause-says : goal.returns-clause-says
returns-clause-says c = search krate_laws
