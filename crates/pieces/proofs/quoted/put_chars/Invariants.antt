-- What the loop of `pieces::quoted::put_chars` keeps, and what falls.
use mathlib.Core.Path.{◌≡◌}
use mathlib.Core.Bool.{true}
use Prim.Native.Nat.{◌-◌}
use lib.ListN.{length, drop}
use Rattle.nibbles.specs.Chars.{is_text}
use Rattle.pieces.specs.Quoted.{escaped_all, chars_of}
use Rattle.pieces.proofs.WritingLaws.{Going}
use Rattle.pieces.proofs.quoted.put_chars.Given as goal

abbrev pub invariant-loop-c : goal.invariant-loop-c
invariant-loop-c l = Going (escaped_all 34 (chars_of l.text)) (escaped_all 34 (chars_of (drop l.at l.text))) l.initial.out l.out l.w × (is_text (drop l.at l.text) ≡ true)

abbrev pub decreases-loop-c : goal.decreases-loop-c
decreases-loop-c l = length l.text - l.at
