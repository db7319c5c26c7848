-- `printer::state::Printer::after_word` meets its contract.
use Rattle.printer.proofs.LeafLaws.{after_laws}
use Rattle.printer.proofs.state.Printer.after_word.Goals as goal

pub returns-clause-says : goal.returns-clause-says
returns-clause-says c = search after_laws
