-- `nibbles::text::is_text` meets its contract. What the loop keeps is a record, which `using` does not close by.
use Rattle.nibbles.proofs.StepLaws.{text_laws}
use Rattle.nibbles.proofs.text.is_text.Goals as goal

pub loop-at-preserved-in-loop-at : goal.loop-at-preserved-in-loop-at
loop-at-preserved-in-loop-at c = search text_laws
