-- `printer::state::Printer::literal` meets its contract.
use Rattle.printer.proofs.LeafLaws.{literal_laws}
use Rattle.printer.proofs.state.Printer.literal.Goals as goal

pub returns-clause-says : goal.returns-clause-says
returns-clause-says c = search literal_laws depth 8
