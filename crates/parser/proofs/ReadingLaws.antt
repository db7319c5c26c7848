-- A number that is being read, over any base: what a loop that takes a digit a turn keeps. Assumes nothing.
use Rattle.parser.specs.Number.{fits, over}
use Rattle.std.specs.Prelude.{Option, Some, None, SomeIff}
use mathlib.Core.Path.{◌≡◌, refl, sym, ap, ◌∙◌}
use mathlib.Core.List.{List, [], ◌∷◌}
use Prim.Native.Nat.{ℕ, ◌+◌, ◌-◌, ◌*◌, ◌/◌, ◌^◌, ◌≤◌, ◌<◌}
use native.Mathlib.Nat.{le-div_iff_mul-le, div-lt_iff_lt-mul}
use native.Mathlib.Omega.{arith}
use borrow.Author.Rules.{rules}
use mir.Val.{Fits as Fits·}
use mir.Syntax.{w64}
use borrow.Author.Tests.{lt-ltb, le-ltb}
use lib.ListN.{length, get_or, drop}
use Rattle.parser.specs.Digits.{digit_of, digits, value}
use Rattle.parser.specs.Number.{number_at}
use Rattle.parser.proofs.DigitLaws.{Along, along-next, along-none, along-past, digit-62, digits_more, digits-none, digits-past, onto, onto-none, onto-nil, onto-more, onto-le}

-- ---- one digit more: p is the product, q what adding the digit to it answered
pub product-over : (b x d : ℕ) → 2 ^ 64 ≤ x * b → SomeIff None (x * b + d < 2 ^ 64) (x * b + d)
product-over b x d h = λ k. omega (arith, h, k)

pub sum-of : (b x d p : ℕ) (q : Option ℕ) → p ≡ x * b → SomeIff q (p + d < 2 ^ 64) (p + d) → SomeIff q (x * b + d < 2 ^ 64) (x * b + d)
sum-of b x d p q e h = rw (← e) h

pub ruleset onward_laws = (product-over, sum-of, rules)

-- x is the number of the digits from at to i
pub record Reading (b : ℕ) (s : List ℕ) (at x i : ℕ) : Type 0 where
  pub along : Along b s at i
  pub number : onto b x (digits b (drop i s)) ≡ value b (digits b (drop at s))
  pub small : x < 2 ^ 64

pub start : (b : ℕ) (s : List ℕ) (at : ℕ) → Reading b s at 0 at
start b s at = record { along = record { ends = refl }; number = sym (onto-none b (digits b (drop at s))); small = omega arith }

module _ {b : ℕ} {s : List ℕ} {at x i : ℕ} (r : Reading b s at x i) where
  -- the number, seen after one digit more
  turn : {d : ℕ} → i < length s → d ≡ digit_of (get_or s i 0) → d < b → onto b (x * b + d) (digits b (drop (i + 1) s)) ≡ value b (digits b (drop at s))
  turn {d} h e k =
      let more : digits b (drop i s) ≡ d ∷ digits b (drop (i + 1) s) = rw e (digits_more b s i h (rw e at k)) in
      sym (onto-more b x d (digits b (drop (i + 1) s))) ∙ sym (ap (onto b x) more) ∙ r.number

  ended : digits b (drop i s) ≡ [] → i ≡ at + length (digits b (drop at s)) → fits x i ≡ number_at b s at
  unfolding number_at
  ended none e =
      let v : value b (digits b (drop at s)) ≡ x = sym r.number ∙ ap (onto b x) none ∙ onto-nil b x in
      rw (v, ← e, lt-ltb x (2 ^ 64) r.small)

  pub none : {d : ℕ} → d ≡ digit_of (get_or s i 0) → b ≤ d → fits x i ≡ number_at b s at
  none e h = ended (digits-none b s i (omega arith)) (along-none r.along e h)

  pub past : length s ≤ i → fits x i ≡ number_at b s at
  past h = ended (digits-past b s i h) (along-past r.along h)

  passes : {d e : ℕ} → i < length s → d ≡ digit_of (get_or s i 0) → d < b → 2 ^ 64 ≤ x * b + d → e ≡ i + length (digits b (drop i s)) → over e ≡ number_at b s at
  unfolding number_at
  passes {d} h q k big p =
      let v : 2 ^ 64 ≤ value b (digits b (drop at s)) = omega (arith, turn h q k, onto-le b (x * b + d) (digits b (drop (i + 1) s)) (omega arith)) in
      rw (le-ltb _ _ v, p, r.along.ends)

-- ---- what `number` is left to show, from the facts as its places have them: d is what `digit` answered of the byte at i, m what `onward` did
module _ {b : ℕ} {s : List ℕ} {at x i : ℕ} (r : Reading b s at x i) {d : ℕ} (counts : d ≡ digit_of (get_or s i 0)) (digit : d < b) (inside : i < length s)
    {m : Option ℕ} (more : SomeIff m (x * b + d < 2 ^ 64) (x * b + d)) where
  pub onward-over : {e : ℕ} → m ≡ None → e ≡ i + length (digits b (drop i s)) → over e ≡ number_at b s at
  onward-over h p = let no : SomeIff None (x * b + d < 2 ^ 64) (x * b + d) = rw h at more in passes r inside counts digit (omega (arith, no)) p

  pub onward_next : {y : ℕ} → m ≡ Some y → Reading b s at y (i + 1)
  onward_next {y} h =
      let yes : SomeIff (Some y) (x * b + d < 2 ^ 64) (x * b + d) = rw h at more in
      record { along = along-next r.along inside counts digit; number = rw yes.1 (turn r inside counts digit); small = rw yes.1 yes.0 }

-- ---- and what a caller's loop has that asks before the step, by a division, whether it fits 64 bits: all that it does fits, and it reads the
-- same number
pub base-positive : (b d : ℕ) → d < b → b ≡ 0 → ⊥
base-positive b d h e = omega arith

module _ {b : ℕ} {s : List ℕ} {at x i : ℕ} (r : Reading b s at x i) {d : ℕ} (counts : d ≡ digit_of (get_or s i 0)) (small : d < b) where
  pub room_fits : d ≤ 0xffff_ffff_ffff_ffff
  room_fits = omega (arith, digit-62 (get_or s i 0))

  pub at-over : {e : ℕ} → (0xffff_ffff_ffff_ffff - d) / b < x → i < length s → e ≡ i + length (digits b (drop i s)) → over e ≡ number_at b s at
  at-over h k p =
      let pos : 1 ≤ b = omega (arith, small) in
      let no : 0xffff_ffff_ffff_ffff - d < x * b = (div-lt_iff_lt-mul pos).0 h in
      onward-over r counts small k {m = None} (λ q. omega (arith, no, q, room_fits)) refl p

  module _ (room : x ≤ (0xffff_ffff_ffff_ffff - d) / b) where
    stays : x * b + d ≤ 0xffff_ffff_ffff_ffff
    stays =
        let pos : 1 ≤ b = omega (arith, small) in
        let yes : x * b ≤ 0xffff_ffff_ffff_ffff - d = (le-div_iff_mul-le pos).0 room in
        omega (arith, yes, room_fits)

    pub product-fits : Fits· w64 (x * b)
    product-fits = omega (arith, stays)

    pub sum_fits : Fits· w64 (x * b + d)
    sum_fits = omega (arith, stays)

    pub at_next : i < length s → Reading b s at (x * b + d) (i + 1)
    at_next k = onward_next r counts small k {m = Some (x * b + d)} (omega (arith, stays), refl) refl

pub ruleset number_laws = (start, none, past, onward-over, onward_next, room_fits, base-positive, at-over, product-fits, sum_fits, at_next, rules)
