-- A digit, the threshold that tells the last one of a number, and one digit of a delta. Assumes nothing.
use Rattle.std.specs.Prelude.{Option, Some, None, min, max}
use mathlib.Core.Path.{◌≡◌, refl, sym, ◌∙◌}
use mathlib.Core.Bool.{Bool, true, false}
use mathlib.Core.List.{List}
use Prim.Native.Nat.{ℕ, ◌+◌, ◌-◌, ◌*◌, ◌≤◌, ◌<◌}
use native.Mathlib.Nat.{zero-add, add_assoc}
use native.Mathlib.Numerals.{add-one}
use native.Mathlib.Omega.{arith}
use borrow.Author.Tests.{le-leb, lt-leb, lt-ltb, le-ltb, leb-true, leb-false, ltb-true, ltb-false}
use borrow.Author.Rules.{rules}
use lib.Dec.{leb, ltb}
use lib.ListN.{length, get_or, drop, drop_of_length-le}
use lib.Seq.{drop-cons}
use Rattle.parser.specs.Digits.{if-then, within}
use Rattle.punycode.specs.Decode.{base, puny_digit, threshold_of, Delta, read, unread, plus, delta_of}
use Rattle.punycode.specs.Steps.{as_digit}

-- ---- a byte
module _ (c : ℕ) where
  pub digit-a : 97 ≤ c → c < 123 → Some (c - 97) ≡ as_digit (puny_digit c)
  unfolding as_digit puny_digit within
  digit-a h k = rw (le-leb 97 c h, le-leb c 122 (omega arith), lt-ltb (c - 97) 36 (omega arith))

  pub digit-0 : 48 ≤ c → c < 58 → Some (c - 48 + 26) ≡ as_digit (puny_digit c)
  unfolding as_digit puny_digit within
  digit-0 h k = let e : c - 48 + 26 ≡ c - 22 = omega arith in rw (lt-leb 97 c (omega arith), le-leb 48 c h, le-leb c 57 (omega arith), lt-ltb (c - 22) 36 (omega arith), e)

  pub below-0 : c < 48 → None ≡ as_digit (puny_digit c)
  unfolding as_digit puny_digit within
  below-0 h = rw (lt-leb 97 c (omega arith), lt-leb 48 c h)

  pub below-a : 57 < c → c < 97 → None ≡ as_digit (puny_digit c)
  unfolding as_digit puny_digit within
  below-a h k = rw (lt-leb 97 c k, le-leb 48 c (omega arith), lt-leb c 57 h)

  pub above-z : 122 < c → None ≡ as_digit (puny_digit c)
  unfolding as_digit puny_digit within
  above-z h = rw (le-leb 97 c (omega arith), lt-leb c 122 h, le-leb 48 c (omega arith), lt-leb c 57 (omega arith))

pub ruleset digit_laws = (digit-a, digit-0, below-0, below-a, above-z, rules)

-- what counts d is the digit d
pub record Digit (c d : ℕ) : Type 0 where
  pub counts : d ≡ puny_digit c
  pub good : d < base

module _ (c : ℕ) {g : Option ℕ} (told : g ≡ as_digit (puny_digit c)) where
  pub digit-is : {d : ℕ} → g ≡ Some d → Digit c d
  unfolding as_digit
  digit-is {d} e = go (ltb (puny_digit c) base) refl (sym e ∙ told)
    where
      go : (t : Bool) → ltb (puny_digit c) base ≡ t → Some d ≡ if-then t (Some (puny_digit c)) None → Digit c d
      go true h k = let p : d ≡ puny_digit c = cc in record { counts = p; good = omega (arith, ltb-true (puny_digit c) base h) }
      go false h k = absurd (let z : ◌≡◌ {A = ℕ} 0 1 = cc in omega arith)

  pub no-digit : g ≡ None → base ≤ puny_digit c
  unfolding as_digit
  no-digit e = go (ltb (puny_digit c) base) refl (sym e ∙ told)
    where
      go : (t : Bool) → ltb (puny_digit c) base ≡ t → None ≡ if-then t (Some (puny_digit c)) None → base ≤ puny_digit c
      go true h k = absurd (let z : ◌≡◌ {A = ℕ} 0 1 = cc in omega arith)
      go false h k = ltb-false (puny_digit c) base h

-- ---- the threshold
module _ (bias k : ℕ) where
  pub threshold-is : threshold_of bias k ≡ max 1 (min (k - bias) 26)
  unfolding threshold_of
  threshold-is = go (leb k (bias + 1)) refl (leb (bias + 26) k) refl
    where
      go : (a : Bool) → leb k (bias + 1) ≡ a → (b : Bool) → leb (bias + 26) k ≡ b → if-then a 1 (if-then b 26 (k - bias)) ≡ max 1 (min (k - bias) 26)
      go true h b e = omega (arith, leb-true k (bias + 1) h)
      go false h true e = omega (arith, leb-true (bias + 26) k e)
      go false h false e = omega (arith, leb-false k (bias + 1) h, leb-false (bias + 26) k e)

  pub threshold-range : (1 ≤ threshold_of bias k) × (threshold_of bias k ≤ 26)
  threshold-range = (omega (arith, threshold-is), omega (arith, threshold-is))

pub ruleset threshold_laws = (threshold-is, rules)

pub threshold-below : (bias k : ℕ) → threshold_of bias k ≤ 36
threshold-below bias k = omega (arith, threshold-is bias k)

-- ---- one digit of a delta
pub plus-zero : (v : Delta) → plus 0 v ≡ v
plus-zero (read v rest) = simp zero-add
plus-zero unread = refl

pub plus-plus : (a b : ℕ) (v : Delta) → plus a (plus b v) ≡ plus (a + b) v
plus-plus a b (read v rest) = simp add_assoc
plus-plus a b unread = refl

module _ (bias k w : ℕ) (s : List ℕ) (i : ℕ) where
  pub delta-past : length s ≤ i → delta_of bias k w (drop i s) ≡ unread
  unfolding delta_of
  delta-past h = rw (drop_of_length-le s h)

  module _ (h : i < length s) where
    pub delta-bad : base ≤ puny_digit (get_or s i 0) → delta_of bias k w (drop i s) ≡ unread
    unfolding delta_of
    delta-bad e = rw (drop-cons s i 0 h) (simp (le-leb base (puny_digit (get_or s i 0)) e))

    module _ {d : ℕ} (counts : d ≡ puny_digit (get_or s i 0)) (good : d < base) where
      pub delta-last : d < threshold_of bias k → delta_of bias k w (drop i s) ≡ read (d * w) (drop (i + 1) s)
      unfolding delta_of
      delta-last e = rw (drop-cons s i 0 h, add-one, ← counts) (simp (lt-leb base d good, lt-ltb d (threshold_of bias k) e))

      pub delta-more : threshold_of bias k ≤ d
          → delta_of bias k w (drop i s) ≡ plus (d * w) (delta_of bias (k + base) (w * (base - threshold_of bias k)) (drop (i + 1) s))
      unfolding delta_of
      delta-more e = rw (drop-cons s i 0 h, add-one, ← counts) (simp (lt-leb base d good, le-ltb d (threshold_of bias k) e))
