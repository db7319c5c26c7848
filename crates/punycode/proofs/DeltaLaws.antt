-- A delta that is being read: what a loop that takes a digit a turn keeps, and why nothing wraps. Assumes nothing.
use Rattle.std.specs.Prelude.{Option, Some, None}
use mathlib.Core.Path.{◌≡◌, refl, sym, ap, ◌∙◌}
use mathlib.Core.List.{List}
use Prim.Native.Nat.{ℕ, ◌+◌, ◌-◌, ◌*◌, ◌≤◌, ◌<◌}
use native.Mathlib.Decide.{dec_lt}
use native.Mathlib.Nat.{mul-le-mul_left, mul-le-mul_right}
use native.Mathlib.Omega.{arith}
use borrow.Author.Rules.{rules}
use borrow.Author.Tests.{lt-ltb, le-ltb}
use mir.Val.{Fits}
use mir.Syntax.{w64}
use lib.ListN.{length, get_or, drop}
use Rattle.punycode.specs.Decode.{base, puny_digit, threshold_of, Delta, read, unread, plus, delta_of}
use Rattle.punycode.specs.Steps.{delta_at, limit, limited, as_digit, as_delta}
use Rattle.punycode.proofs.DigitLaws.{Digit, digit-is, no-digit, threshold-range, threshold-below, plus-zero, plus-plus, delta-past, delta-bad, delta-last, delta-more}

-- past the limit, whatever follows
limited-read : (x : ℕ) (rest : List ℕ) → limit ≤ x → limited (read x rest) ≡ unread
unfolding limited
limited-read x rest h = simp (le-ltb x limit h)

limited-plus : (x : ℕ) (v : Delta) → limit ≤ x → limited (plus x v) ≡ unread
unfolding limited
limited-plus x (read v rest) h = limited-read (x + v) rest (omega arith)
limited-plus x unread h = refl

-- x is the number of the digits from at to i, and w and k are the weight and the k of the digit at i. A digit that does not end
-- the number is at least 1, so it adds the weight at least once: the weight stays below 36 times the number, and k below 36 weights
pub record Reading (bias : ℕ) (s : List ℕ) (at x w k i : ℕ) : Type 0 where
  pub number : plus x (delta_of bias k w (drop i s)) ≡ delta_at bias s at
  pub small : x < limit
  pub some : 1 ≤ w
  pub weight : w ≤ 35 * x + 1
  pub steps : k ≤ 36 * w

pub start : (bias : ℕ) (s : List ℕ) (at : ℕ) → Reading bias s at 0 1 36 at
start bias s at = record { number = plus-zero _; small = omega arith; some = omega arith; weight = omega arith; steps = omega arith }

module _ {bias : ℕ} {s : List ℕ} {at x w k i : ℕ} (r : Reading bias s at x w k i) where
  pub past : length s ≤ i → as_delta s None ≡ limited (delta_at bias s at)
  unfolding as_delta limited
  past h = rw (← r.number, delta-past bias k w s i h)

  -- g is what `digit` answered
  module _ (h : i < length s) {g : Option ℕ} (judged : g ≡ as_digit (puny_digit (get_or s i 0))) where
    pub bad : g ≡ None → as_delta s None ≡ limited (delta_at bias s at)
    unfolding as_delta limited
    bad e = rw (← r.number, delta-bad bias k w s i h (no-digit (get_or s i 0) judged e))

    module _ {d : ℕ} (known : g ≡ Some d) where
      seen : Digit (get_or s i 0) d
      seen = digit-is (get_or s i 0) judged known

      product : d * w ≤ 35 * w
      product = mul-le-mul_right w (omega (arith, seen.good))

      pub product-fits : Fits w64 (d * w)
      product-fits = omega (arith, product, r.weight, r.small)

      pub sum_fits : Fits w64 (x + d * w)
      sum_fits = omega (arith, product, r.weight, r.small)

      -- the whole, where this digit ends the number, and where it does not
      ended : d < threshold_of bias k → read (x + d * w) (drop (i + 1) s) ≡ delta_at bias s at
      ended l = sym (ap (plus x) (delta-last bias k w s i h seen.counts seen.good l)) ∙ r.number

      turned : threshold_of bias k ≤ d → plus (x + d * w) (delta_of bias (k + base) (w * (base - threshold_of bias k)) (drop (i + 1) s)) ≡ delta_at bias s at
      turned l =
          sym (plus-plus x (d * w) (delta_of bias (k + base) (w * (base - threshold_of bias k)) (drop (i + 1) s))) ∙ sym (ap (plus x) (delta-more bias k w s i h seen.counts seen.good l)) ∙ r.number

      pub over : limit ≤ x + d * w → as_delta s None ≡ limited (delta_at bias s at)
      unfolding as_delta
      over e = elim (dec_lt d (threshold_of bias k)) [
        | yes l ↦ rw (← ended l, limited-read (x + d * w) (drop (i + 1) s) e)
        | no l ↦ rw (← turned (omega arith), limited-plus (x + d * w) (delta_of bias (k + base) (w * (base - threshold_of bias k)) (drop (i + 1) s)) e)
      ]

      module _ (fits : x + d * w < limit) {t : ℕ} (told : t ≡ threshold_of bias k) where
        pub last : d < t → as_delta s (Some (x + d * w, i + 1)) ≡ limited (delta_at bias s at)
        unfolding as_delta limited
        last e = rw (← ended (omega arith)) (simp (lt-ltb (x + d * w) limit fits))

        pub weight-fits : Fits w64 (w * (36 - t))
        weight-fits = let most : w * (36 - t) ≤ w * 36 = mul-le-mul_left w (omega arith) in omega (arith, r.weight, r.small)

        pub next : t ≤ d → Reading bias s at (x + d * w) (w * (36 - t)) (k + 36) (i + 1)
        next e =
            let range = threshold-range bias k in
            let good = seen.good in
            let most : w * (36 - t) ≤ w * 35 = mul-le-mul_left w (omega arith) in
            let least : w * 10 ≤ w * (36 - t) = mul-le-mul_left w (omega arith) in
            let once : 1 * w ≤ d * w = mul-le-mul_right w (omega arith) in
            record {
              number = rw told (turned (omega arith));
              small = fits;
              some = omega (arith, r.some);
              weight = omega arith;
              steps = omega (arith, r.steps, r.some);
            }

pub ruleset read_laws = (start, past, bad, product-fits, sum_fits, over, last, weight-fits, threshold-below, next, rules)
