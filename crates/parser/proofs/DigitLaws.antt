-- What a byte counts as a digit, a run of digits one digit on, and the value of digits, over any base. Assumes nothing.
use mathlib.Core.Path.{◌≡◌, refl, sym, ap}
use mathlib.Core.Bool.{Bool, true, false}
use lib.Dec.{leb}
use mathlib.Core.List.{List, [], ◌∷◌}
use Prim.Native.Nat.{ℕ, zero, suc, ◌+◌, ◌-◌, ◌*◌, ◌^◌, ◌≤◌, ◌<◌, zero-le}
use native.Mathlib.Nat.{zero-mul, zero-add, mul-one, add-zero, mul_assoc, add-mul, add_assoc, pow-succ', pow-zero, le_trans, le-add_right, le-mul_of_pos_right, pow-le-pow_right}
use native.Mathlib.Numerals.{add-one}
use native.Mathlib.Omega.{arith}
use borrow.Author.Tests.{leb-true, le-leb, lt-leb, lt-ltb, le-ltb}
use borrow.Author.Rules.{rules}
use lib.ListN.{length, get_or, drop, drop_of_length-le}
use lib.Seq.{drop-cons}
use Rattle.parser.specs.Digits.{if-then, within, digit_of, digits, value}

-- ---- a byte
module _ (c : ℕ) where
  pub digit-0 : 48 ≤ c → c < 58 → c - 48 ≡ digit_of c
  unfolding digit_of within
  digit-0 h k = simp (le-leb 48 c h, le-leb c 57 (omega arith))

  pub digit-a : 97 ≤ c → c < 123 → c - 87 ≡ digit_of c
  unfolding digit_of within
  digit-a h k = simp (le-leb 48 c (omega arith), lt-leb c 57 (omega arith), le-leb 97 c h, le-leb c 122 (omega arith))

  pub digit-A : 65 ≤ c → c < 91 → c - 29 ≡ digit_of c
  unfolding digit_of within
  digit-A h k = simp (le-leb 48 c (omega arith), lt-leb c 57 (omega arith), lt-leb 97 c (omega arith), le-leb 65 c h, le-leb c 90 (omega arith))

  pub below-0 : c < 48 → 62 ≡ digit_of c
  unfolding digit_of within
  below-0 h = simp (lt-leb 48 c h, lt-leb 97 c (omega arith), lt-leb 65 c (omega arith))

  pub below-A : 57 < c → c < 65 → 62 ≡ digit_of c
  unfolding digit_of within
  below-A h k = simp (le-leb 48 c (omega arith), lt-leb c 57 h, lt-leb 97 c (omega arith), lt-leb 65 c k)

  pub below-a : 90 < c → c < 97 → 62 ≡ digit_of c
  unfolding digit_of within
  below-a h k = simp (le-leb 48 c (omega arith), lt-leb c 57 (omega arith), lt-leb 97 c k, le-leb 65 c (omega arith), lt-leb c 90 h)

  pub above-z : 122 < c → 62 ≡ digit_of c
  unfolding digit_of within
  above-z h = simp (le-leb 48 c (omega arith), lt-leb c 57 (omega arith), le-leb 97 c (omega arith), lt-leb c 122 h, le-leb 65 c (omega arith), lt-leb c 90 (omega arith))

-- no byte counts more than 62
within-le : (lo hi c a b m : ℕ) → (c ≤ hi → a ≤ m) → b ≤ m → within lo hi c a b ≤ m
unfolding within
within-le lo hi c a b m f g = go (leb lo c) (leb c hi) refl
  where
    go : (t u : Bool) → leb c hi ≡ u → if-then t (if-then u a b) b ≤ m
    go true true e = f (leb-true c hi e)
    go true false e = g
    go false u e = g

pub digit-62 : (c : ℕ) → digit_of c ≤ 62
unfolding digit_of
digit-62 c =
    within-le 48 57 c _ _ 62 (λ h. omega arith)
    (within-le 97 122 c _ _ 62 (λ h. omega arith) (within-le 65 90 c _ _ 62 (λ h. omega arith) (omega arith)))

-- closes each return of a function that computes `digit_of`, in whatever order it tests
pub ruleset digit_laws = (digit-0, digit-a, digit-A, below-0, below-A, below-a, above-z, rules)

-- ---- a run of digits
pub digits-past : (b : ℕ) (s : List ℕ) (i : ℕ) → length s ≤ i → digits b (drop i s) ≡ []
unfolding digits
digits-past b s i h = rw (drop_of_length-le s h)

pub digits-none : (b : ℕ) (s : List ℕ) (i : ℕ) → b ≤ digit_of (get_or s i 0) → digits b (drop i s) ≡ []
unfolding digits
digits-none b [] zero h = refl
digits-none b [] (suc i) h = refl
digits-none b (x ∷ xs) zero h = simp (le-ltb (digit_of x) b h)
digits-none b (x ∷ xs) (suc i) h = digits-none b xs i h

pub digits_more : (b : ℕ) (s : List ℕ) (i : ℕ) → i < length s → digit_of (get_or s i 0) < b
    → digits b (drop i s) ≡ digit_of (get_or s i 0) ∷ digits b (drop (i + 1) s)
unfolding digits
digits_more b s i h k = rw (drop-cons s i 0 h, add-one) (simp (lt-ltb (digit_of (get_or s i 0)) b k))

-- i is a place in the run at `at`, or its end: what is left of the run at i ends where the run ends
pub record Along (b : ℕ) (s : List ℕ) (at i : ℕ) : Type 0 where
  pub ends : i + length (digits b (drop i s)) ≡ at + length (digits b (drop at s))

-- d is what the byte at i counts, as a call of `digit` answers it
module _ {b : ℕ} {s : List ℕ} {at i : ℕ} (r : Along b s at i) where
  pub along-next : {d : ℕ} → i < length s → d ≡ digit_of (get_or s i 0) → d < b → Along b s at (i + 1)
  along-next h e k = record { ends = omega (arith, ap length (digits_more b s i h (omega arith))) }

  pub along-none : {d : ℕ} → d ≡ digit_of (get_or s i 0) → b ≤ d → i ≡ at + length (digits b (drop at s))
  along-none e h = omega (arith, ap length (digits-none b s i (omega arith)))

  pub along-past : length s ≤ i → i ≡ at + length (digits b (drop at s))
  along-past h = omega (arith, ap length (digits-past b s i h))

pub along-start : (b : ℕ) (s : List ℕ) (at : ℕ) → Along b s at at
along-start b s at = record { ends = refl }

pub ruleset run_laws = (along-start, along-next, along-none, along-past, rules)

-- ---- the value of digits, with the number x of the digits before them
abbrev pub onto : ℕ → ℕ → List ℕ → ℕ
onto b x ds = x * b ^ length ds + value b ds

pub onto-none : (b : ℕ) (ds : List ℕ) → value b ds ≡ onto b 0 ds
onto-none b ds = sym (simp (zero-mul, zero-add))

pub onto-nil : (b x : ℕ) → onto b x [] ≡ x
unfolding value
onto-nil b x = simp (pow-zero, mul-one, add-zero)

pub onto-more : (b x d : ℕ) (ds : List ℕ) → onto b x (d ∷ ds) ≡ onto b (x * b + d) ds
unfolding value
onto-more b x d ds = simp (pow-succ', add-mul, mul_assoc, add_assoc)

pub onto-le : (b x : ℕ) (ds : List ℕ) → 1 ≤ b → x ≤ onto b x ds
onto-le b x ds h =
    let p : 0 < b ^ length ds = rw pow-zero at (pow-le-pow_right {n = b} h {i = 0} {j = length ds} zero-le) in
    le_trans (le-mul_of_pos_right x p) (le-add_right _ _)
