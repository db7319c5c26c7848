-- `printer::state::Printer::signature` meets its contract.
use Rattle.printer.proofs.LeafLaws.{signature_laws}
use Rattle.printer.proofs.state.Printer.signature.Goals as goal

pub returns-then-stopped-clause-says : goal.returns-then-stopped-clause-says
returns-then-stopped-clause-says c = search signature_laws depth 8

pub returns-in_default-clause-says : goal.returns-in_default-clause-says
returns-in_default-clause-says c = search signature_laws depth 8

pub returns-clause-says : goal.returns-clause-says
returns-clause-says c = search signature_laws depth 8
