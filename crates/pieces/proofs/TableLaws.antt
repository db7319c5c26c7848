-- Tables: starts and lengths over one run of bytes. One test that antt computes over all numbers below a bound gives what holds of each.
-- Assumes nothing.
use mathlib.Core.Path.{◌≡◌, refl, ap₂}
use mathlib.Core.Bool.{Bool, true, false}
use mathlib.Core.List.{List, [], ◌∷◌}
use Prim.Native.Nat.{ℕ, zero, suc, ◌+◌, ◌-◌, ◌≤◌, ◌<◌}
use native.Mathlib.Nat.{add-sub_cancel_left}
use native.Mathlib.Decide.{dec_lt}
use native.Mathlib.Omega.{arith}
use borrow.Author.Rules.{rules}
use mir.Val.{Fits}
use mir.Syntax.{w64}
use lib.Dec.{T, leb, leb→le, eqb, eqb→eq}
use lib.ListN.{length, get_or, take, drop}
use Rattle.pieces.specs.Laid.{Put, Wrote}

abbrev both : Bool → Bool → Bool
both true b = b
both false b = false

both_left : (a b : Bool) → T (both a b) → T a
both_left true b t = tt
both_left false b t = t

both_right : (a b : Bool) → T (both a b) → T b
both_right true b t = t
both_right false b t = absurd t

-- ---- a test passes at each number below a bound
abbrev pub below : (ℕ → Bool) → ℕ → Bool
below p zero = true
below p (suc n) = both (p n) (below p n)

pub passes : (p : ℕ → Bool) (n : ℕ) → T (below p n) → (k : ℕ) → k < n → T (p k)
passes p zero t k h = absurd (omega arith)
passes p (suc n) t k h = go (passes p n (both_right (p n) (below p n) t) k) (dec_lt k n)
  where
    go : (k < n → T (p k)) → Dec (k < n) → T (p k)
    go r (yes l) = r l
    go r (no l) = let e : n ≡ k = omega arith in rw e at (both_left (p n) (below p n) t)

-- two lists of numbers are the same
abbrev pub eq_list : List ℕ → List ℕ → Bool
eq_list [] [] = true
eq_list [] (y ∷ ys) = false
eq_list (x ∷ xs) [] = false
eq_list (x ∷ xs) (y ∷ ys) = both (eqb x y) (eq_list xs ys)

pub eq_list→eq : (xs ys : List ℕ) → T (eq_list xs ys) → xs ≡ ys
eq_list→eq [] [] t = refl
eq_list→eq [] (y ∷ ys) t = absurd t
eq_list→eq (x ∷ xs) [] t = absurd t
eq_list→eq (x ∷ xs) (y ∷ ys) t = ap₂ ◌∷◌ (eqb→eq x y (both_left (eqb x y) (eq_list xs ys) t)) (eq_list→eq xs ys (both_right (eqb x y) (eq_list xs ys) t))

-- ---- starts and lengths over one run: the lists are those that the code has
-- so many bytes from each start are the text
abbrev pub Holds : (ℕ → List ℕ) → List ℕ → List ℕ → List ℕ → Type 0
Holds text starts lengths run = T (below (λ i. eq_list (take (get_or lengths i 0) (drop (get_or starts i 0) run)) (text i)) (length starts))

-- a start or a length
pub entry-fits : (xs : List ℕ) (k : ℕ) → k < length xs → T (below (λ i. leb (get_or xs i 0) 255) (length xs)) → Fits w64 (get_or xs k 0)
entry-fits xs k h t = omega (arith, leb→le (get_or xs k 0) 255 (passes (λ i. leb (get_or xs i 0) 255) (length xs) t k h))

module _ (starts lengths : List ℕ) (k : ℕ) (h : k < length starts) where
  pub ends_by : (n : ℕ) → T (below (λ i. leb (get_or starts i 0 + get_or lengths i 0) n) (length starts)) → get_or starts k 0 + get_or lengths k 0 ≤ n
  ends_by n t = leb→le (get_or starts k 0 + get_or lengths k 0) n (passes (λ i. leb (get_or starts i 0 + get_or lengths i 0) n) (length starts) t k h)

  pub end_fits : T (below (λ i. leb (get_or starts i 0 + get_or lengths i 0) 255) (length starts)) → Fits w64 (get_or starts k 0 + get_or lengths k 0)
  end_fits t = omega (arith, ends_by 255 t)

  pub entry-is : (run : List ℕ) (text : ℕ → List ℕ) {d e : List ℕ} {r : Put}
      → Holds text starts lengths run
      → Wrote (take (get_or starts k 0 + get_or lengths k 0 - get_or starts k 0) (drop (get_or starts k 0) run)) d e r → Wrote (text k) d e r
  entry-is run text t w =
      rw (← eq_list→eq (take (get_or lengths k 0) (drop (get_or starts k 0) run)) (text k) (passes (λ i. eq_list (take (get_or lengths i 0) (drop (get_or starts i 0) run)) (text i)) (length starts) t k h), ← add-sub_cancel_left (get_or starts k 0) (get_or lengths k 0)) w

pub ruleset table-laws = (entry-fits, ends_by, end_fits, rules)
