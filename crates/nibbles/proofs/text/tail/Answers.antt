-- `nibbles::text::tail` meets its contract.
use Rattle.nibbles.proofs.StepLaws.{read-on}
use Rattle.nibbles.proofs.text.tail.Goals as goal

pub loop-i-preserved : goal.loop-i-preserved
loop-i-preserved c = read-on c.loop-i.invariant c.loop-i-test.true _ c.more.ensures _ c.in_ok-value.was
