-- The prefix, upper-case letters and ASCII: what the library's methods answer is what the definitions say. Assumes nothing.
use Rattle.std.specs.Prelude.{Option, Some, None, max}
use Rattle.std.specs.Cmp.{nat_eq_equiv}
use Rattle.std.specs.List.{starts_with}
use mathlib.Core.Path.{◌≡◌, refl, sym, ap, ◌∙◌}
use mathlib.Core.Bool.{Bool, true, false, true≢false, ◌&&◌, and-true}
use mathlib.Core.List.{List, [], ◌∷◌}
use Prim.Native.Nat.{ℕ, suc, ◌+◌, ◌≤◌, ◌<◌}
use native.Mathlib.Omega.{arith}
use native.Mathlib.Numerals.{add-one}
use borrow.Author.Rules.{rules}
use borrow.Author.Tests.{leb-true, leb-false, lt-ltb, le-ltb, ltb-true, ltb-false}
use lib.Dec.{leb, eqb, ltb}
use lib.ListN.{length, get_or, drop, drop_of_length-le}
use lib.Seq.{drop-cons}
use Rattle.parser.specs.Digits.{if-then}
use Rattle.printer.specs.Says.{U}
use Rattle.demangle.specs.Accept.{starts, prefix_of, all_ascii}

-- ---- the prefix
test-and : (t u : Bool) → t && u ≡ if-then t u false
test-and true u = refl
test-and false u = refl

pub starts-is : (s p : List ℕ) → starts_with eqb s p ≡ starts p s
unfolding starts
starts-is s [] = refl
starts-is [] (p ∷ ps) = refl
starts-is (x ∷ s) (p ∷ ps) = test-and (eqb p x) (starts_with eqb s ps) ∙ rw (nat_eq_equiv.symm p x, starts-is s ps)

module _ (s : List ℕ) {a : Bool} (one : a ≡ starts_with eqb s (82 ∷ [])) where
  pub prefix-one : a ≡ true → Some 1 ≡ prefix_of s
  unfolding prefix_of
  prefix-one h = rw (← starts-is s (82 ∷ []), ← one, h)

  module _ {b : Bool} (not-one : a ≡ false) (two : b ≡ starts_with eqb s (95 ∷ 82 ∷ [])) where
    pub prefix-two : b ≡ true → Some 2 ≡ prefix_of s
    unfolding prefix_of
    prefix-two h = rw (← starts-is s (82 ∷ []), ← one, not-one, ← starts-is s (95 ∷ 82 ∷ []), ← two, h)

    module _ {c : Bool} (not-two : b ≡ false) (three : c ≡ starts_with eqb s (95 ∷ 95 ∷ 82 ∷ [])) where
      pub prefix-three : c ≡ true → Some 3 ≡ prefix_of s
      unfolding prefix_of
      prefix-three h = rw (← starts-is s (82 ∷ []), ← one, not-one, ← starts-is s (95 ∷ 82 ∷ []), ← two, not-two, ← starts-is s (95 ∷ 95 ∷ 82 ∷ []), ← three, h)

      pub prefix-none : c ≡ false → None ≡ prefix_of s
      unfolding prefix_of
      prefix-none h = rw (← starts-is s (82 ∷ []), ← one, not-one, ← starts-is s (95 ∷ 82 ∷ []), ← two, not-two, ← starts-is s (95 ∷ 95 ∷ 82 ∷ []), ← three, h)

pub ruleset prefix_laws = (prefix-one, prefix-two, prefix-three, prefix-none, rules)

-- it stands within the symbol
within-if : (t u : Bool) (n m : ℕ) → if-then t u false ≡ true → (u ≡ true → n ≤ m) → suc n ≤ suc m
within-if true u n m h k = let q : n ≤ m = k h in omega arith
within-if false u n m h k = absurd (true≢false (sym h))

starts-within : (p s : List ℕ) → starts p s ≡ true → length p ≤ length s
unfolding starts
starts-within [] s h = omega arith
starts-within (p ∷ ps) [] h = absurd (true≢false (sym h))
starts-within (p ∷ ps) (x ∷ s) h = within-if (eqb x p) (starts ps s) (length ps) (length s) h (λ k. starts-within ps s k)

abbrev pub PrefixIn : List ℕ → Option ℕ → Type 0
PrefixIn s (Some k) = k ≤ length s
PrefixIn s None = U

pub prefix-within : (s : List ℕ) → PrefixIn s (prefix_of s)
unfolding prefix_of
prefix-within s = go (starts (82 ∷ []) s) (starts (95 ∷ 82 ∷ []) s) (starts (95 ∷ 95 ∷ 82 ∷ []) s) refl refl refl
  where
    go : (t u v : Bool) → starts (82 ∷ []) s ≡ t → starts (95 ∷ 82 ∷ []) s ≡ u → starts (95 ∷ 95 ∷ 82 ∷ []) s ≡ v → PrefixIn s (if-then t (Some 1) (if-then u (Some 2) (if-then v (Some 3) None)))
    go true u v h k l = starts-within _ s h
    go false true v h k l = starts-within _ s k
    go false false true h k l = starts-within _ s l
    go false false false h k l = tt

-- ---- ASCII: the greatest byte before a place stands for all of them
pub record Ascii (s : List ℕ) (i top : ℕ) : Type 0 where
  pub same : all_ascii s ≡ all_ascii (top ∷ drop i s)

-- of two bytes the greater counts
module _ (a b : ℕ) (s : List ℕ) where
  first-counts : b ≤ a → all_ascii (a ∷ b ∷ s) ≡ all_ascii (a ∷ s)
  unfolding all_ascii
  first-counts h = go (ltb a 128) refl
    where
      go : (t : Bool) → ltb a 128 ≡ t → all_ascii (a ∷ b ∷ s) ≡ all_ascii (a ∷ s)
      go true k = rw (k, lt-ltb b 128 (omega (arith, ltb-true a 128 k)))
      go false k = rw k

  second-counts : a < b → all_ascii (a ∷ b ∷ s) ≡ all_ascii (b ∷ s)
  unfolding all_ascii
  second-counts h = go (ltb a 128) refl
    where
      go : (t : Bool) → ltb a 128 ≡ t → all_ascii (a ∷ b ∷ s) ≡ all_ascii (b ∷ s)
      go true k = rw k
      go false k = rw (k, le-ltb b 128 (omega (arith, ltb-false a 128 k)))

module _ (s : List ℕ) where
  pub ascii-start : Ascii s 0 0
  ascii-start = record { same = unfold all_ascii in refl }

  module _ (i top : ℕ) (before : Ascii s i top) where
    ascii-keep : i < length s → get_or s i 0 ≤ top → Ascii s (i + 1) top
    ascii-keep h k = record { same = before.same ∙ rw (drop-cons s i 0 h, add-one) (first-counts top (get_or s i 0) (drop (suc i) s) k) }

    ascii-raise : i < length s → top < get_or s i 0 → Ascii s (i + 1) (get_or s i 0)
    ascii-raise h k = record { same = before.same ∙ rw (drop-cons s i 0 h, add-one) (second-counts top (get_or s i 0) (drop (suc i) s) k) }

    pub ascii-next : i < length s → Ascii s (i + 1) (max top (get_or s i 0))
    ascii-next h = go (leb (get_or s i 0) top) refl
      where
        go : (t : Bool) → leb (get_or s i 0) top ≡ t → Ascii s (i + 1) (max top (get_or s i 0))
        go true k =
            let n : get_or s i 0 ≤ top = leb-true (get_or s i 0) top k in
            let e : max top (get_or s i 0) ≡ top = omega (arith, n) in
            rw e (ascii-keep h n)
        go false k =
            let n : top < get_or s i 0 = leb-false (get_or s i 0) top k in
            let e : max top (get_or s i 0) ≡ get_or s i 0 = omega (arith, n) in
            rw e (ascii-raise h n)

    pub ascii-end : length s ≤ i → ltb top 128 ≡ all_ascii s
    unfolding all_ascii
    ascii-end h = sym (before.same ∙ rw (drop_of_length-le s h) (and-true (ltb top 128)))

pub ruleset ascii_laws = (ascii-start, ascii-next, ascii-end, rules)
