-- `printer::leaf::signed` meets its contract.
use mathlib.Core.List.{[], ◌∷◌}
use Rattle.printer.specs.Letters as letters
use Rattle.printer.proofs.LeafLaws.{any-true, other-letter, other-byte}
use Rattle.printer.proofs.leaf.signed.Goals as goal

pub returns-in-104 : goal.returns-in-104
unfolding letters.signed_by letters.is_unsigned
returns-in-104 c = rw (← any-true c.args.letter 104 (106 ∷ 109 ∷ 111 ∷ 116 ∷ 121 ∷ []) c.in-104.is)

pub returns-in-97 : goal.returns-in-97
unfolding letters.signed_by letters.is_signed
returns-in-97 c = rw (other-letter c.args.letter c.in-97.is, ← any-true c.args.letter 97 (105 ∷ 108 ∷ 110 ∷ 115 ∷ 120 ∷ []) c.in-97.is)

pub returns-in_default : goal.returns-in_default
returns-in_default c = search other-byte
