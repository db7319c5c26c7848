-- Nibbles: their value fits 64 bits just where at most sixteen are left without the leading zeros. Assumes nothing.
use mathlib.Core.Path.{◌≡◌, refl, sym, ◌∙◌}
use mathlib.Core.Bool.{Bool, true, false}
use mathlib.Core.List.{List, [], ◌∷◌}
use Prim.Native.Nat.{ℕ, zero, suc, ◌+◌, ◌^◌, ◌≤◌, ◌<◌}
use native.Mathlib.Omega.{arith}
use native.Mathlib.Nat.{zero-mul, zero-add, le_trans, pow-le-pow_right, suc-mul, pow-succ', pow-zero}
use native.Mathlib.Decide.{dec_lt}
use borrow.Author.Rules.{rules}
use borrow.Author.Tests.{le-leb, lt-leb, eq-eqb, ne_eqb, ltb-true}
use lib.Arith.{digits_lt}
use lib.Dec.{ltb}
use lib.ListN.{length, get_or, drop}
use Rattle.std.specs.Prelude.{Some, None, Result, Ok, Err}
use Rattle.parser.specs.Digits.{if-then, digit_of, digits, value}
use Rattle.parser.specs.Number.{number_at}
use Rattle.parser.proofs.ReaderLaws.{Got, Passed, got, passed, after-fits}
use Rattle.nibbles.specs.Uint.{trim, hex_value}
use Rattle.nibbles.specs.declared.uint.Hex.TheVariants.{Small, Big}

abbrev Below : ℕ → List ℕ → Type 0
Below b [] = Unit {0}
Below b (d ∷ ds) = (d < b) × Below b ds

digits-below : (b : ℕ) (s : List ℕ) → Below b (digits b s)
unfolding digits
digits-below b [] = tt
digits-below b (c ∷ cs) = go (digits-below b cs) (ltb (digit_of c) b) refl
  where
    go : Below b (digits b cs) → (t : Bool) → ltb (digit_of c) b ≡ t → Below b (if-then t (digit_of c ∷ digits b cs) [])
    go r true h = (ltb-true (digit_of c) b h, r)
    go r false h = tt

value-below : (b : ℕ) (ds : List ℕ) → Below b ds → value b ds < b ^ length ds
unfolding value
value-below b [] h = omega (arith, pow-zero b)
value-below b (d ∷ ds) h = rw pow-succ' (digits_lt h.0 (value-below b ds h.1))

trim-below : (b : ℕ) (ds : List ℕ) → Below b ds → Below b (trim ds)
unfolding trim
trim-below b [] h = h
trim-below b (zero ∷ ds) h = trim-below b ds h.1
trim-below b (suc d ∷ ds) h = h

trim-value : (b : ℕ) (ds : List ℕ) → value b (trim ds) ≡ value b ds
unfolding trim value
trim-value b [] = refl
trim-value b (zero ∷ ds) = trim-value b ds ∙ sym (simp (zero-mul, zero-add))
trim-value b (suc d ∷ ds) = refl

-- what is trimmed starts with no zero, so it is as large as its length says
trim-large : (b n : ℕ) (ds : List ℕ) → 1 ≤ b → n < length (trim ds) → b ^ n ≤ value b (trim ds)
unfolding trim value
trim-large b n [] pos h = absurd (omega arith)
trim-large b n (zero ∷ ds) pos h = trim-large b n ds pos h
trim-large b n (suc d ∷ ds) pos h =
    le_trans (pow-le-pow_right pos {i = n} {j = length ds} (omega arith)) (rw suc-mul (omega arith))

-- ---- the returns of `hex_value`: n is what `number` answered, p what `peek` answered
module _ (s : List ℕ) (at e p : ℕ) (n : Result (ℕ × ℕ) ℕ) (numbered : n ≡ number_at 16 s at) (peeked : p ≡ get_or s e 0) where
  ds : List ℕ
  ds = digits 16 (drop at s)

  open_at : at + length (digits 16 (drop at s)) ≡ e → (p ≡ 95 → ⊥) → None ≡ hex_value s at
  unfolding hex_value
  open_at end h = rw (end, ne_eqb (get_or s e 0) 95 (λ k. h (peeked ∙ k)))

  module _ (x : ℕ) (known : n ≡ Ok (x, e)) where
    pub hex-small : p ≡ 95 → Some (Small x, e + 1) ≡ hex_value s at
    unfolding hex_value ds
    hex-small h =
        let g : Got 16 s at x e = got (sym known ∙ numbered) in
        let few : length (trim ds) ≤ 16 = elim (dec_lt 16 (length (trim ds))) [ yes k ↦ absurd (omega (arith, trim-large 16 16 ds (omega arith) k, trim-value 16 ds, g.is, g.fits)) | no k ↦ omega arith ] in
        rw (g.end, eq-eqb (get_or s e 0) 95 (sym peeked ∙ h), le-leb (length (trim ds)) 16 few, trim-value 16 ds, g.is)

    pub hex-small-open : (p ≡ 95 → ⊥) → None ≡ hex_value s at
    hex-small-open h = open_at (got (sym known ∙ numbered)).end h

  module _ (known : n ≡ Err e) where
    pub hex-big : p ≡ 95 → Some (Big e, e + 1) ≡ hex_value s at
    unfolding hex_value ds
    hex-big h =
        let g : Passed 16 s at e = passed (sym known ∙ numbered) in
        let many : 16 < length (trim ds) = elim (dec_lt 16 (length (trim ds))) [ yes k ↦ k | no k ↦ absurd (omega (arith, value-below 16 (trim ds) (trim-below 16 ds (digits-below 16 (drop at s))), pow-le-pow_right {n = 16} (omega arith) {i = length (trim ds)} {j = 16} (omega arith), trim-value 16 ds, g.big)) ] in
        rw (g.end, eq-eqb (get_or s e 0) 95 (sym peeked ∙ h), lt-leb (length (trim ds)) 16 many)

    pub hex-big-open : (p ≡ 95 → ⊥) → None ≡ hex_value s at
    hex-big-open h = open_at (passed (sym known ∙ numbered)).end h

pub ruleset hex_laws = (hex-small, hex-small-open, hex-big, hex-big-open, after-fits, rules)
