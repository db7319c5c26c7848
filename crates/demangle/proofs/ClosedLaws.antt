-- Readings that a `_` closes: what holds of the place behind it holds of the place that they answer. Assumes nothing.
use Rattle.std.specs.Prelude.{Option, Some, None}
use Prim.Native.Nat.{ℕ, zero, suc, ◌+◌, ◌-◌, ◌^◌, ◌≤◌}
use mathlib.Core.Path.{◌≡◌, refl, sym}
use mathlib.Core.Bool.{Bool, true, false}
use mathlib.Core.List.{List}
use native.Mathlib.Omega.{arith}
use borrow.Author.Tests.{eqb-true}
use lib.Dec.{eqb, leb, ltb}
use lib.ListN.{length, take, drop, get_or}
use Rattle.parser.specs.Digits.{if-then, digits}
use Rattle.parser.specs.Scalar.{is_scalar}
use Rattle.parser.specs.Number.{small, integer62, below, back_at, hex_at}
use Rattle.parser.proofs.ByteLaws as bytes
use Rattle.nibbles.specs.Uint.{hex_value, trim}
use Rattle.nibbles.specs.Chars.{is_text}
use Rattle.nibbles.specs.declared.uint.Hex.{Hex}
use Rattle.nibbles.specs.declared.uint.Hex.TheVariants.{Small, Big}
use Rattle.printer.specs.Says.{U}
use Rattle.printer.specs.Readings.{flag_of, flag_at, scalar_of, scalar_at, literal_of, literal_at}

-- ---- what holds of the place that was answered
abbrev pub ReadAt : {A : Type 0} → (ℕ → Type 0) → Option (A × ℕ) → Type 0
ReadAt P (Some (v, j)) = P j
ReadAt P None = U

-- both ways of a test
pub either : {A : Type 0} (P : A → Type 0) (t : Bool) (a b : A) → P a → P b → P (if-then t a b)
either P true a b h k = h
either P false a b h k = k

pub small_at : (P : ℕ → Type 0) (v j : ℕ) → P j → ReadAt P (small v j)
unfolding small
small_at P v j h = either (ReadAt P) (ltb v (2 ^ 64)) _ _ h tt

-- ---- from the place i on, with the `_` at e inside the symbol
module _ (s : List ℕ) (P : ℕ → Type 0) (i : ℕ) (close : (e : ℕ) → i ≤ e → e + 1 ≤ length s → P (e + 1)) where
  closed : {A : Type 0} (Q : A → Type 0) (n : ℕ) (a b : A) → (P (i + n + 1) → Q a) → Q b → Q (if-then (eqb (get_or s (i + n) 0) 95) a b)
  closed Q n a b h k = go (eqb (get_or s (i + n) 0) 95) refl
    where
      go : (t : Bool) → eqb (get_or s (i + n) 0) 95 ≡ t → Q (if-then t a b)
      go true q = h (close (i + n) (omega arith) (omega (arith, bytes.inside s (i + n) (sym (eqb-true _ 95 q)) (omega arith))))
      go false q = k

  pub integer-at : ReadAt P (integer62 s i)
  unfolding integer62
  integer-at = closed (ReadAt P) _ _ _ (small_at P _ _) tt

  below_at : (from : ℕ) (n : Option (ℕ × ℕ)) → ReadAt P n → ReadAt P (below from n)
  unfolding below
  below_at from (Some (v, e)) h = either (ReadAt P) (ltb v from) _ _ h tt
  below_at from None h = tt

  pub back_at_lem : ReadAt P (back_at s i)
  unfolding back_at
  back_at_lem = below_at (i - 1) (integer62 s i) integer-at

  pub nibbles-at : ReadAt P (hex_at s i)
  unfolding hex_at
  nibbles-at = closed (ReadAt P) _ _ _ (λ h. h) tt

  hex-at : ReadAt P (hex_value s i)
  unfolding hex_value
  hex-at = closed (ReadAt P) _ _ _ (λ h. either (ReadAt P) (leb (length (trim (digits 16 (drop i s)))) 16) _ _ h h) tt

  flag-of : (x : Option (Hex × ℕ)) → ReadAt P x → ReadAt P (flag_of x)
  flag-of (Some (Small zero, e)) h = h
  flag-of (Some (Small (suc zero), e)) h = h
  flag-of (Some (Small (suc (suc v)), e)) h = tt
  flag-of (Some (Big k, e)) h = tt
  flag-of None h = tt

  pub flag_at_lem : ReadAt P (flag_at s i)
  unfolding flag_at
  flag_at_lem = flag-of (hex_value s i) hex-at

  scalar-of : (x : Option (Hex × ℕ)) → ReadAt P x → ReadAt P (scalar_of x)
  scalar-of (Some (Small v, e)) h = either (ReadAt P) (is_scalar v) _ _ h tt
  scalar-of (Some (Big k, e)) h = tt
  scalar-of None h = tt

  pub scalar-at : ReadAt P (scalar_at s i)
  unfolding scalar_at
  scalar-at = scalar-of (hex_value s i) hex-at

  literal-of : (x : Option (ℕ × ℕ)) → ReadAt P x → ReadAt P (literal_of s i x)
  literal-of (Some (e, j)) h = either (ReadAt P) (is_text (take (e - i) (drop i s))) _ _ h tt
  literal-of None h = tt

  pub literal-at : ReadAt P (literal_at s i)
  unfolding literal_at
  literal-at = literal-of (hex_at s i) nibbles-at
