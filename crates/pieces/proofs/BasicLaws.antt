-- The basic types: the tables of the code, by letter. Which letters they are is computed over all bytes. Assumes nothing.
use mathlib.Core.Path.{◌≡◌, refl, sym, ◌∙◌}
use mathlib.Core.Bool.{Bool, true, false, not}
use mathlib.Core.List.{List, [], ◌∷◌}
use Prim.Native.Nat.{ℕ, ◌+◌, ◌-◌, ◌/◌, ◌%◌, ◌^◌, ◌≤◌, ◌<◌}
use Prim.Native.String.{String}
use native.Mathlib.Omega.{arith}
use borrow.Author.Tests.{ne_eqb, ltb-true, ltb-false}
use lib.Dec.{T, eqb, ltb}
use lib.ListN.{length, get_or, take, drop}
use Rattle.parser.specs.Digits.{if-then}
use Rattle.std.specs.Prelude.{Option, Some, None, Ok}
use Rattle.pieces.specs.Laid.{Put, Wrote}
use Rattle.pieces.specs.Words.{ascii}
use Rattle.pieces.specs.Basic.{basic, among, name_in, place, is_basic, basic_name}
use Rattle.pieces.proofs.TableLaws.{below, passes, Holds, entry-is, table-laws}
use Rattle.pieces.proofs.WritingLaws.{clash, wrote_none}

abbrev same : Bool → Bool → Bool
same true b = b
same false b = not b

same→eq : (a b : Bool) → T (same a b) → a ≡ b
same→eq true true t = refl
same→eq true false t = absurd t
same→eq false true t = absurd t
same→eq false false t = refl

-- a test that is said of each number below n is is_basic from a byte on
tells : (f : ℕ → Bool) (from n : ℕ) → T (below (λ i. same (f i) (is_basic (from + i))) n) → (c : ℕ) → from ≤ c → c - from < n → f (c - from) ≡ is_basic c
tells f from n t c l h =
    let back : from + (c - from) ≡ c = omega arith in
    rw back at (same→eq (f (c - from)) (is_basic (from + (c - from))) (passes (λ i. same (f i) (is_basic (from + i))) n t (c - from) h))

-- ---- the letters
-- as the code has them, in order; a dot where there is none
abbrev pub letters : List ℕ
letters = ascii "abcdef.hij.lmnop..stuv.xyz"

module _ (c : ℕ) where
  letter : (k : ℕ) → place c ≡ Some k → (97 ≤ c) × ((k ≡ c - 97) × (k < 26))
  letter k h = go (ltb c 97) (ltb c 123) refl refl h
    where
      go : (a b : Bool) → ltb c 97 ≡ a → ltb c 123 ≡ b → if-then a None (if-then b (Some (c - 97)) None) ≡ Some k → (97 ≤ c) × ((k ≡ c - 97) × (k < 26))
      go true b p q e = clash (cc)
      go false false p q e = clash (cc)
      go false true p q e =
          let l : 97 ≤ c = ltb-false c 97 p in
          let u : c < 123 = ltb-true c 123 q in
          let m : c - 97 ≡ k = cc in
          (l, (sym m, omega arith))

  before-a : c < 97 → false ≡ is_basic c
  unfolding is_basic among basic
  before-a h = tells (λ i. false) 0 97 tt c (omega arith) (omega arith)

  past-z : c < 256 → 123 ≤ c → false ≡ is_basic c
  unfolding is_basic among basic
  past-z h k = tells (λ i. false) 123 133 tt c (omega arith) (omega arith)

  -- o is what `place` answered
  module _ {o : Option ℕ} (p : o ≡ place c) where
    pub no_place : o ≡ None → c < 256 → false ≡ is_basic c
    no_place q h = go (ltb c 97) (ltb c 123) refl refl (sym p ∙ q)
      where
        go : (a b : Bool) → ltb c 97 ≡ a → ltb c 123 ≡ b → if-then a None (if-then b (Some (c - 97)) None) ≡ None → false ≡ is_basic c
        go true b s t e = before-a (ltb-true c 97 s)
        go false false s t e = past-z h (ltb-false c 123 t)
        go false true s t e = clash (cc)

    module _ {k : ℕ} (q : o ≡ Some k) where
      pub place_below : k < 26
      place_below = (letter k (sym p ∙ q)).1.1

      -- a bit for each
      pub set_is : (set : ℕ) → T (below (λ i. same (eqb (set / 2 ^ i % 2) 1) (is_basic (97 + i))) 26) → eqb (set / 2 ^ k % 2) 1 ≡ is_basic c
      set_is set t = let l = letter k (sym p ∙ q) in rw l.1.0 (tells (λ i. eqb (set / 2 ^ i % 2) 1) 97 26 t c l.0 (omega arith))

      -- the letter at each place is the one of that number just where it names a type
      pub letter-not : (letters : List ℕ) → (get_or letters k 0 ≡ c → ⊥) → T (below (λ i. same (eqb (get_or letters i 0) (97 + i)) (is_basic (97 + i))) 26) → false ≡ is_basic c
      letter-not letters n t =
          let l = letter k (sym p ∙ q) in
          let back : 97 + k ≡ c = omega arith in
          let tell : eqb (get_or letters k 0) (97 + k) ≡ is_basic c = rw l.1.0 (tells (λ i. eqb (get_or letters i 0) (97 + i)) 97 26 t c l.0 (omega arith)) in
          sym (ne_eqb (get_or letters k 0) (97 + k) (rw back n)) ∙ tell

pub ruleset is_basic_laws = (no_place, set_is)

-- ---- the names
name-none : (c : ℕ) (xs : List (ℕ × String)) → among c xs ≡ false → name_in c xs ≡ []
unfolding among name_in
name-none c [] h = refl
name-none c (x ∷ xs) h = go (λ k. name-none c xs k) (eqb x.0 c) h
  where
    go : (among c xs ≡ false → name_in c xs ≡ []) → (b : Bool) → if-then b true (among c xs) ≡ false → if-then b (ascii x.1) (name_in c xs) ≡ []
    go r true k = clash (cc)
    go r false k = r k

module _ (c : ℕ) {d : List ℕ} where
  pub no_name : false ≡ is_basic c → Wrote (basic_name c) d d (Ok 0)
  unfolding is_basic basic_name
  no_name h = rw (name-none c basic (sym h)) (wrote_none d)

  -- the letter is found again from its place
  pub name-is : {o : Option ℕ} {k : ℕ} (starts lengths run : List ℕ) {e : List ℕ} {r : Put} → o ≡ place c → o ≡ Some k → length starts ≡ 26 → Holds (λ i. basic_name (97 + i)) starts lengths run
      → Wrote (take (get_or starts k 0 + get_or lengths k 0 - get_or starts k 0) (drop (get_or starts k 0) run)) d e r → Wrote (basic_name c) d e r
  name-is {o} {k} starts lengths run p q n t w =
      let l = letter c k (sym p ∙ q) in
      let back : 97 + k ≡ c = omega arith in
      rw back at (entry-is starts lengths k (omega arith) run (λ i. basic_name (97 + i)) t w)

pub ruleset basic-laws = (no_place, letter-not, place_below, no_name, name-is, table-laws)
