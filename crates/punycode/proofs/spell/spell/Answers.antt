-- `punycode::spell::spell` meets its contract.
use native.Mathlib.Omega.{arith}
use Rattle.punycode.proofs.SpellLaws.{spell_next}
use Rattle.punycode.proofs.spell.spell.Goals as goal

pub loop-at-preserved : goal.loop-at-preserved
loop-at-preserved c = spell_next c.loop-at.invariant.turning c.loop-at-test.true _ c.next_char.ensures c.in_ok-step.ensures.ok_part (omega arith) c.insert.ensures.all c.insert.ensures.inserted
