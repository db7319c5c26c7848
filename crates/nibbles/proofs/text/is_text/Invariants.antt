-- What the loop of `nibbles::text::is_text` keeps, and what falls.
use Prim.Native.Nat.{◌-◌}
use lib.ListN.{length}
use Rattle.nibbles.proofs.StepLaws.{Along}
use Rattle.nibbles.proofs.text.is_text.Given as goal

abbrev pub invariant-loop-at : goal.invariant-loop-at
invariant-loop-at l = Along l.s l.at

abbrev pub decreases-loop-at : goal.decreases-loop-at
decreases-loop-at l = length l.s - l.at
