-- The laws of `over`. Assumes nothing.
use Prim.Native.Nat.{ℕ, zero, suc, ◌+◌, ◌-◌, ◌≤◌}
use mathlib.Core.Path.{◌≡◌, refl, ap, sym}
use mathlib.Core.List.{List, [], ◌∷◌, ◌++◌}
use native.Mathlib.Nat.{suc-add, zero-add}
use native.Mathlib.Omega.{arith}
use lib.ListN.{length, set}
use Rattle.printer.specs.Over.{over}

pub over-nil : (o : List ℕ) (w : ℕ) → over o w [] ≡ o
unfolding over
over-nil [] w = refl
over-nil (x ∷ o) zero = refl
over-nil (x ∷ o) (suc w) = ap (◌∷◌ x) (over-nil o w)

pub length_over : (o : List ℕ) (w : ℕ) (t : List ℕ) → length (over o w t) ≡ length o
unfolding over
length_over [] w t = refl
length_over (x ∷ o) zero [] = refl
length_over (x ∷ o) zero (y ∷ t) = ap suc (length_over o zero t)
length_over (x ∷ o) (suc w) t = ap suc (length_over o w t)

-- text after text
pub over-over : (o : List ℕ) (w : ℕ) (t u : List ℕ) → over (over o w t) (w + length t) u ≡ over o w (t ++ u)
unfolding over
over-over [] w t u = refl
over-over (x ∷ o) zero [] u = refl
over-over (x ∷ o) zero (y ∷ t) u = rw zero-add (ap (◌∷◌ y) (rw zero-add at (over-over o zero t u)))
over-over (x ∷ o) (suc w) t u = rw suc-add (ap (◌∷◌ x) (over-over o w t u))

-- once full, more text changes nothing
pub over-cut : (o : List ℕ) (w : ℕ) (t u : List ℕ) → length o - w ≤ length t → over o w (t ++ u) ≡ over o w t
unfolding over
over-cut [] w t u h = refl
over-cut (x ∷ o) zero [] u h = absurd (omega arith)
over-cut (x ∷ o) zero (y ∷ t) u h = ap (◌∷◌ y) (over-cut o zero t u (omega arith))
over-cut (x ∷ o) (suc w) t u h = ap (◌∷◌ x) (over-cut o w t u (omega arith))

-- a store is a text of one byte
pub over-one : (o : List ℕ) (w : ℕ) (x : ℕ) → set o w x ≡ over o w (x ∷ [])
unfolding over
over-one [] w x = refl
over-one (y ∷ o) zero x = ap (◌∷◌ x) (sym (over-nil o zero))
over-one (y ∷ o) (suc w) x = ap (◌∷◌ y) (over-one o w x)
