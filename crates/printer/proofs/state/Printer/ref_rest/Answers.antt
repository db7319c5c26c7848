-- `printer::state::Printer::ref_rest` meets its contract.
use Rattle.printer.proofs.LeafLaws.{reference_laws}
use Rattle.printer.proofs.state.Printer.ref_rest.Goals as goal

pub returns-then-stopped-clause-says : goal.returns-then-stopped-clause-says
returns-then-stopped-clause-says c = search reference_laws depth 8

pub returns-in_default-clause-says : goal.returns-in_default-clause-says
returns-in_default-clause-says c = search reference_laws depth 8

pub returns-clause-says : goal.returns-clause-says
returns-clause-says c = search reference_laws depth 8
