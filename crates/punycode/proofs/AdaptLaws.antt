-- The bias after a delta: the loop that lowers the delta, whose turns the delta itself bounds, and how large a bias gets. Assumes nothing.
use mathlib.Core.Path.{◌≡◌, refl, sym, ap, ◌∙◌}
use mathlib.Core.Bool.{Bool, true, false}
use Prim.Native.Nat.{ℕ, zero, suc, ◌+◌, ◌-◌, ◌*◌, ◌/◌, ◌^◌, ◌≤◌, ◌<◌}
use native.Mathlib.Decide.{dec_lt}
use native.Mathlib.Nat.{div-le_self, div-le_of_le-mul}
use native.Mathlib.Omega.{arith}
use borrow.Author.Rules.{rules}
use borrow.Author.Tests.{lt-ltb, le-ltb}
use mir.Val.{Fits}
use mir.Syntax.{w64}
use Rattle.punycode.specs.Decode.{bias_of, lowered, adapted}
use Rattle.punycode.specs.Steps.{limit, bias-limit}

lowered-more : (n d k : ℕ) → 455 < d → lowered (suc n) d k ≡ lowered n (d / 35) (k + 36)
unfolding lowered
lowered-more n d k h = simp (lt-ltb 455 d h)

lowered-done : (n d k : ℕ) → d ≤ 455 → lowered n d k ≡ bias_of d k
unfolding lowered
lowered-done zero d k h = refl
lowered-done (suc n) d k h = simp (le-ltb 455 d h)

-- any bound on the turns that is no less than the delta gives the same
lowered-enough : (n m d k : ℕ) → d ≤ n → d ≤ m → lowered n d k ≡ lowered m d k
lowered-enough zero m d k h e = lowered-done zero d k (omega arith) ∙ sym (lowered-done m d k (omega arith))
lowered-enough (suc n) zero d k h e = lowered-done (suc n) d k (omega arith) ∙ sym (lowered-done zero d k (omega arith))
lowered-enough (suc n) (suc m) d k h e = elim (dec_lt 455 d) [
  | yes l ↦ lowered-more n d k l ∙ lowered-enough n m (d / 35) (k + 36) (omega arith) (omega arith) ∙ sym (lowered-more m d k l)
  | no l ↦ lowered-done (suc n) d k (omega arith) ∙ sym (lowered-done (suc m) d k (omega arith))
]

bias-small : (d k : ℕ) → bias_of d k ≤ k + 36
bias-small d k = omega (arith, div-le_of_le-mul (d + 38) {m = 36 * d} {n = 36} (omega arith))

lowered-small : (n d k : ℕ) → lowered n d k ≤ k + d + 36
unfolding lowered
lowered-small zero d k = omega (arith, bias-small d k)
lowered-small (suc n) d k = elim (dec_lt 455 d) [
  | yes l ↦ omega (arith, lowered-more n d k l, lowered-small n (d / 35) (k + 36))
  | no l ↦ omega (arith, lowered-done (suc n) d k (omega arith), bias-small d k)
]

-- ---- the loop: it has come to d and k
pub record Lowering (delta d k : ℕ) : Type 0 where
  pub same : lowered d d k ≡ lowered delta delta 0
  pub bound : k + d ≤ delta

module _ {delta d k : ℕ} (r : Lowering delta d k) where
  pub low-next : 455 < d → Lowering delta (d / 35) (k + 36)
  low-next h =
      let e : d ≡ suc (d - 1) = omega arith in
      record {
        same = lowered-enough (d / 35) (d - 1) (d / 35) (k + 36) (omega arith) (omega arith) ∙ sym (lowered-more (d - 1) d k h) ∙ sym (ap (λ (n : ℕ). lowered n d k) e) ∙ r.same;
        bound = omega (arith, r.bound);
      }

  pub low_end : d ≤ 455 → k + 36 * d / (d + 38) ≡ lowered delta delta 0
  low_end h = sym (lowered-done d d k h) ∙ r.same

  pub bias-fits : delta < 2 ^ 33 → Fits w64 (k + 36 * d / (d + 38))
  bias-fits h = omega (arith, r.bound, bias-small d k)

pub ruleset lower_laws = (low-next, low_end, bias-fits, rules)

-- ---- what `adapt` asks and answers; m is what the delta is damped by
module _ (v m points : ℕ) (h : v < limit) where
  pub spread-small : v / m + v / m / points < 2 ^ 33
  spread-small = omega (arith, div-le_self v m, div-le_self (v / m) points)

  pub spread-fits : Fits w64 (v / m + v / m / points)
  spread-fits = omega (arith, spread-small)

  damped-small : lowered (v / m + v / m / points) (v / m + v / m / points) 0 < bias-limit
  damped-small = omega (arith, lowered-small (v / m + v / m / points) (v / m + v / m / points) 0, spread-small)

pub adapted-small : (v points : ℕ) (first : Bool) → v < limit → adapted v points first < bias-limit
unfolding adapted
adapted-small v points true h = damped-small v 700 points h
adapted-small v points false h = damped-small v 2 points h

module _ (v points : ℕ) {first : Bool} {r : ℕ} where
  pub adapt-first : first ≡ true → r ≡ lowered (v / 700 + v / 700 / points) (v / 700 + v / 700 / points) 0 → r ≡ adapted v points first
  unfolding adapted
  adapt-first e q = rw e q

  pub adapt-later : first ≡ false → r ≡ lowered (v / 2 + v / 2 / points) (v / 2 + v / 2 / points) 0 → r ≡ adapted v points first
  unfolding adapted
  adapt-later e q = rw e q

pub ruleset adapt_laws = (spread-fits, spread-small, adapt-first, adapt-later, rules)
