-- What falls in the loop of `readers::field::text`.
use Prim.Native.Nat.{◌-◌}
use lib.ListN.{length}
use Rattle.readers.proofs.field.text.Given as goal

abbrev pub decreases-loop-c : goal.decreases-loop-c
decreases-loop-c g l = length l.nibbles - l.at
