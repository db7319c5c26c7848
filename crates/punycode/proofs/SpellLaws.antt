-- The loop over the code, from turn to turn, and the whole identifier. Assumes nothing.
use Rattle.std.specs.Prelude.{Option, Some, None, Result, Ok, Err, min, slice_range}
use mathlib.Core.Path.{◌≡◌, refl, sym, ap, ◌∙◌}
use mathlib.Core.List.{List, []}
use Prim.Native.Nat.{ℕ, zero, suc, ◌+◌, ◌-◌, ◌^◌, ◌≤◌, ◌<◌}
use native.Mathlib.Nat.{sub-zero}
use native.Mathlib.Omega.{arith}
use borrow.Author.Rules.{rules}
use borrow.Author.Tests.{lt-ltb, le-ltb}
use mir.Val.{Fits}
use mir.Syntax.{w32, w64}
use Rattle.std.proofs.lemmas.List.{take_min}
use lib.ListN.{length, take, drop, drop_of_length-le}
use lib.Seq.{drop-cons, length-take-le}
use Rattle.punycode.specs.Answer.{most, decoded, shown}
use Rattle.punycode.specs.Decode.{initial-n, initial-bias, Turn, turn, turn_of, insert_at, Spelt, spelt, long, More, go_on, round_of, rounds}
use Rattle.punycode.specs.Steps.{bias-limit, delta_at, as_turn}
use Rattle.punycode.specs.declared.DecodeError.{DecodeError}
use Rattle.punycode.specs.declared.DecodeError.TheVariants.{Long, Broken}
use Rattle.punycode.specs.declared.spell.Step.{Step}
use Rattle.punycode.proofs.TurnLaws.{turn_small}

-- ---- the loop as it is defined, a turn on
rounds-end : (room n i bias : ℕ) (out : List ℕ) → rounds room n i bias out [] ≡ spelt out
unfolding rounds round_of
rounds-end zero n i bias out = refl
rounds-end (suc room) n i bias out = refl

abbrev after : ℕ → List ℕ → More
after zero out = λ m j b rest. long
after (suc room) out = λ m j b rest. rounds room m (j + 1) b (insert_at j m out) rest

module _ (n i bias : ℕ) (out s : List ℕ) (at : ℕ) (h : at < length s) where
  round-some : (more : More) → round_of more n i bias out (drop at s) ≡ go_on more (turn_of n i (length out + 1) (delta_at bias s at))
  unfolding round_of
  round-some more = rw (drop-cons s at 0 h)

  rounds-turn : (room : ℕ) {t : Turn} → t ≡ turn_of n i (length out + 1) (delta_at bias s at) → rounds room n i bias out (drop at s) ≡ go_on (after room out) t
  unfolding rounds
  rounds-turn zero e = round-some (after zero out) ∙ sym (ap (go_on (after zero out)) e)
  rounds-turn (suc room) e = round-some (after (suc room) out) ∙ sym (ap (go_on (after (suc room) out)) e)

-- ---- the code's loop: what is left to decode is the whole, and the numbers are small. A turn asks nothing of the bias
pub record Turning (s places : List ℕ) (whole : Spelt) (n i bias at len : ℕ) : Type 0 where
  pub left : rounds (most - len) n i bias (take len places) (drop at s) ≡ whole
  pub all : length places ≡ most
  pub few : len ≤ most
  pub n-small : n < 2 ^ 32
  pub i-small : i < 2 ^ 32

pub record Spelling (s places : List ℕ) (whole : Spelt) (n i bias at len : ℕ) : Type 0 where
  pub turning : Turning s places whole n i bias at len
  pub bias-small : bias < bias-limit

module _ {s places : List ℕ} {whole : Spelt} {n i bias at len : ℕ} (r : Turning s places whole n i bias at len) where
  count : length (take len places) ≡ len
  count = length-take-le len places (omega (arith, r.all, r.few))

  pub spell-end : length s ≤ at → shown (Ok len) places ≡ whole
  unfolding shown
  spell-end h = sym (rounds-end (most - len) n i bias (take len places)) ∙ rw (drop_of_length-le s h) at r.left

  -- st is what `next_char` answered
  module _ (h : at < length s) (st : Option Step) (got : as_turn s st ≡ turn_of n i (len + 1) (delta_at bias s at)) where
    found : as_turn s st ≡ turn_of n i (length (take len places) + 1) (delta_at bias s at)
    found = rw count got

    pub spell-broken : st ≡ None → shown (Err Broken) places ≡ whole
    unfolding shown as_turn
    spell-broken e = sym (rounds-turn n i bias (take len places) s at h (most - len) (rw e at found)) ∙ r.left

    module _ {t : Step} (e : st ≡ Some t) where
      known : turn t.value t.place t.bias (drop t.next s) ≡ turn_of n i (len + 1) (delta_at bias s at)
      unfolding as_turn
      known = rw e at got

      pub spell-long : most ≤ len → shown (Err Long) places ≡ whole
      unfolding shown as_turn
      spell-long k =
          let full : most - len ≡ 0 = omega arith in
          sym (rounds-turn n i bias (take len places) s at h 0 (rw e at found)) ∙ rw full at r.left

      small : (t.value < 0x110000) × (t.place < len + 1) × (t.bias < bias-limit)
      small = turn_small n i (len + 1) (omega arith) (omega (arith, r.few)) (delta_at bias s at) known

      pub place-within : t.place ≤ len
      place-within = omega (arith, small)

      pub place-fits : Fits w64 (t.place + 1)
      place-fits = omega (arith, place-within, r.few)

      pub value-fits : Fits w32 t.value
      value-fits = omega (arith, small)

      pub spell_next : {later : List ℕ} → len < most → length later ≡ most → take (len + 1) later ≡ insert_at t.place t.value (take len places)
          → Spelling s later whole t.value (t.place + 1) t.bias t.next (len + 1)
      unfolding as_turn
      spell_next k q p =
          let z = small in
          let room : most - len ≡ suc (most - (len + 1)) = omega arith in
          record {
            turning =
                record {
                  left = rw p (sym (rounds-turn n i bias (take len places) s at h (suc (most - (len + 1))) (rw e at found)) ∙ rw room at r.left);
                  all = q;
                  few = omega arith;
                  n-small = omega arith;
                  i-small = omega (arith, place-within);
                };
            bias-small = omega arith;
          }

pub ruleset spell_laws = (spell-end, spell-broken, spell-long, place-fits, place-within, value-fits, spell_next, rules)

-- ---- the whole; n is how many basic characters there are, and text these
module _ (ascii code : ℕ) (s text : List ℕ) (cut : text ≡ slice_range s 0 (min ascii (length s))) where
  basic : text ≡ take ascii s
  basic = cut ∙ simp sub-zero (take_min ascii s)

  pub decode-long : (places : List ℕ) → most < length text → shown (Err Long) places ≡ decoded ascii code s
  unfolding shown decoded
  decode-long places h = simp (lt-ltb most (length (take ascii s)) (omega (arith, ap length basic)))

  pub decode-rest : (copied left : List ℕ) (r : Result ℕ DecodeError) → length text ≤ most → take (length text) copied ≡ text
      → shown r left ≡ rounds (most - length text) initial-n 0 initial-bias (take (length text) copied) (drop code s) → shown r left ≡ decoded ascii code s
  unfolding decoded
  decode-rest copied left r h p q =
      rw (le-ltb most (length (take ascii s)) (omega (arith, ap length basic)))
      (rw p at q ∙ ap (λ (l : List ℕ). rounds (most - length l) initial-n 0 initial-bias l (drop code s)) basic)

pub ruleset decode_laws = (decode-long, decode-rest, rules)
