-- `nibbles::text::more` meets its contract.
use Rattle.nibbles.proofs.StepLaws.{more_laws}
use Rattle.nibbles.proofs.text.more.Goals as goal

pub returns-in_default-2 : goal.returns-in_default-2
returns-in_default-2 c = search more_laws
