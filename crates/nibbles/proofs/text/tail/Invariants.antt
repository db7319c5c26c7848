-- What the loop of `nibbles::text::tail` keeps.
use Rattle.nibbles.proofs.StepLaws.{Reading}
use Rattle.nibbles.proofs.text.tail.Given as goal

abbrev pub invariant-loop-i : goal.invariant-loop-i
invariant-loop-i l = Reading l.s l.at l.left l.low l.v l.next l.value l._i
