-- `parser::number::number` meets its contract.
use Rattle.parser.proofs.ReadingLaws.{number_laws}
use Rattle.parser.proofs.number.number.Goals as goal

pub returns-then-d-base : goal.returns-then-d-base
returns-then-d-base c = search number_laws

pub returns-in_default : goal.returns-in_default
returns-in_default c = search number_laws

pub loop-i-preserved : goal.loop-i-preserved
loop-i-preserved c = search number_laws
