-- What the loop of `punycode::spell::spell` keeps, and what falls.
use Prim.Native.Nat.{◌-◌}
use lib.ListN.{take, drop}
use Rattle.punycode.specs.Answer.{most}
use Rattle.punycode.specs.Decode.{initial-n, initial-bias, rounds}
use Rattle.punycode.proofs.SpellLaws.{Spelling}
use Rattle.punycode.proofs.spell.spell.Given as goal

abbrev pub invariant-loop-at : goal.invariant-loop-at
invariant-loop-at l = Spelling l.name l.chars (rounds (most - l.count) initial-n 0 initial-bias (take l.count l.initial.chars) (drop l.code l.name)) l.n l.i l.bias l.at l.len

abbrev pub decreases-loop-at : goal.decreases-loop-at
decreases-loop-at l = most - l.len
