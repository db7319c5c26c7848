-- `printer::state::Printer::uint` meets its contract.
use Rattle.printer.proofs.LeafLaws.{uint_laws}
use Rattle.printer.proofs.state.Printer.uint.Goals as goal

pub returns-in-Big-clause-says : goal.returns-in-Big-clause-says
returns-in-Big-clause-says c = search uint_laws depth 8
