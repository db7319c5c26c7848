-- Identifiers: their bytes, the last `_` in them, and what `bytes`, `last_of`, `coded` and `ident` answer. Assumes nothing.
use Rattle.parser.specs.Bytes.{read}
use Rattle.std.specs.Prelude.{Option, Some, None}
use Rattle.std.proofs.lemmas.Option.{some_pair_parts}
use mathlib.Core.Path.{◌≡◌, refl, sym, ap, ◌∙◌}
use mathlib.Core.Bool.{Bool, true, false}
use mathlib.Core.List.{List, [], ◌∷◌, ◌++◌}
use Prim.Native.Nat.{ℕ, suc, ◌+◌, ◌-◌, ◌^◌, ◌≤◌, ◌<◌}
use native.Mathlib.Omega.{arith}
use native.Mathlib.Numerals.{add-one}
use borrow.Author.Rules.{rules}
use borrow.Author.Tests.{eq-eqb, ne_eqb, le-leb, lt-leb, leb-true}
use mir.Val.{Fits}
use mir.Syntax.{w64}
use lib.Dec.{eqb, leb}
use lib.ListN.{length, get_or, take, drop, length-take, length-drop}
use lib.Seq.{take-suc, take-length, length-take-le}
use Rattle.parser.specs.Digits.{if-then}
use Rattle.parser.specs.Bytes.{past}
use Rattle.parser.specs.Number.{length10}
use Rattle.parser.specs.Names.{parts, part_of, bytes_after, span_at, later_of, last_of, split_at, coded, coded_at, plain, ident_at}
use Rattle.parser.specs.declared.names.Name.{Name}

-- ---- an identifier's bytes: v is what `length_10` answered, a what `eat` answered
module _ (s : List ℕ) (at : ℕ) {v : Option (ℕ × ℕ)} (answered : v ≡ length10 s at) where
  pub bytes-none : v ≡ None → None ≡ span_at s at
  unfolding span_at bytes_after
  bytes-none k = rw (← answered, k)

  module _ {n e a : ℕ} (known : v ≡ Some (n, e)) (eaten : a ≡ past 95 s e) where
    pub too-far : length s < a + n → None ≡ span_at s at
    unfolding span_at bytes_after part_of
    too-far h = rw (← answered, known, ← eaten, lt-leb (a + n) (length s) h)

    pub bytes-part : a ≤ length s → n ≤ length s - a → read a (a + n) ≡ span_at s at
    unfolding span_at bytes_after part_of
    bytes-part h k = rw (← answered, known, ← eaten, le-leb (a + n) (length s) (omega arith))

pub ruleset bytes_laws = (bytes-none, rules)

-- ---- the last b
later_same : (b : ℕ) (xs : List ℕ) (x : ℕ) → x ≡ b → last_of b (xs ++ (x ∷ [])) ≡ Some (length xs)
unfolding last_of later_of
later_same b [] x h = rw (eq-eqb x b h)
later_same b (y ∷ xs) x h = rw (later_same b xs x h, add-one)

later-other : (b : ℕ) (xs : List ℕ) (x : ℕ) → (x ≡ b → ⊥) → last_of b (xs ++ (x ∷ [])) ≡ last_of b xs
unfolding last_of later_of
later-other b [] x h = rw (ne_eqb x b h)
later-other b (y ∷ xs) x h = rw (later-other b xs x h)

-- no b stands from i on
pub record Tried (b : ℕ) (t : List ℕ) (i : ℕ) : Type 0 where
  pub within : i ≤ length t
  pub same : last_of b (take i t) ≡ last_of b t

pub tried-none : (b : ℕ) (t : List ℕ) → Tried b t (length t)
tried-none b t = record { within = omega arith; same = ap (last_of b) (take-length t) }

module _ {b : ℕ} {t : List ℕ} {i : ℕ} (r : Tried b t i) where
  last_one : 0 < i → take i t ≡ take (i - 1) t ++ (get_or t (i - 1) 0 ∷ [])
  last_one h =
      let e : i ≡ suc (i - 1) = omega arith in
      ap (λ (k : ℕ). take k t) e ∙ take-suc t (i - 1) 0 (omega (arith, r.within))

  pub tried-index : 0 < i → i - 1 < length t
  tried-index h = omega (arith, r.within)

  pub tried-more : 0 < i → (get_or t (i - 1) 0 ≡ b → ⊥) → Tried b t (i - 1)
  tried-more h n = record { within = omega (arith, r.within); same = sym (later-other b (take (i - 1) t) (get_or t (i - 1) 0) n) ∙ sym (ap (last_of b) (last_one h)) ∙ r.same }

  pub tried-found : 0 < i → get_or t (i - 1) 0 ≡ b → Some (i - 1) ≡ last_of b t
  tried-found h e =
      ap Some (sym (length-take-le (i - 1) t (omega (arith, r.within)))) ∙ sym (later_same b (take (i - 1) t) (get_or t (i - 1) 0) e) ∙ sym (ap (last_of b) (last_one h)) ∙ r.same

  pub tried-all : i ≤ 0 → None ≡ last_of b t
  unfolding last_of
  tried-all h =
      let e : 0 ≡ i = omega arith in
      ap (λ (k : ℕ). last_of b (take k t)) e ∙ r.same

pub ruleset last_laws = (tried-none, tried-more, tried-found, tried-all, tried-index, rules)

-- ---- the bytes lie in the text, and the last b in the bytes
part-of-within : (s : List ℕ) (b n : ℕ) {a e : ℕ} → read a e ≡ part_of s b n → (a ≤ e) × (e ≤ length s)
unfolding part_of
part-of-within s b n {a} {e} q = go (leb (b + n) (length s)) refl q
  where
    go : (t : Bool) → leb (b + n) (length s) ≡ t → read a e ≡ if-then t (read b (b + n)) None → (a ≤ e) × (e ≤ length s)
    go true h p =
        let both = some_pair_parts a b e (b + n) p in
        let x : a ≡ b = both.0 in
        let y : e ≡ b + n = both.1 in
        let z : b + n ≤ length s = leb-true (b + n) (length s) h in
        (omega arith, omega arith)
    go false h p = absurd (let z : ◌≡◌ {A = ℕ} 0 1 = cc in omega arith)

after-within : (s : List ℕ) (v : Option (ℕ × ℕ)) {a e : ℕ} → read a e ≡ bytes_after s v → (a ≤ e) × (e ≤ length s)
unfolding bytes_after
after-within s (Some (n, i)) q = part-of-within s (past 95 s i) n q
after-within s None q = absurd (let z : ◌≡◌ {A = ℕ} 0 1 = cc in omega arith)

pub span-within : (s : List ℕ) (at : ℕ) {a e : ℕ} → read a e ≡ span_at s at → (a ≤ e) × (e ≤ length s)
unfolding span_at
span-within s at q = after-within s (length10 s at) q

later-within : (n i : ℕ) (f : Option ℕ) → ((j : ℕ) → Some j ≡ f → j < n) → (t : Bool) → Some i ≡ later_of f (if-then t (Some 0) None) → i < suc n
unfolding later_of
later-within n i (Some k) r t p = let e : i ≡ k + 1 = cc in omega (arith, r k refl)
later-within n i None r true p = let e : i ≡ 0 = cc in omega arith
later-within n i None r false p = absurd (let z : ◌≡◌ {A = ℕ} 0 1 = cc in omega arith)

pub last_within : (b : ℕ) (t : List ℕ) (i : ℕ) → Some i ≡ last_of b t → i < length t
unfolding last_of
last_within b [] i q = absurd (let z : ◌≡◌ {A = ℕ} 0 1 = cc in omega arith)
last_within b (x ∷ xs) i q = later-within (length xs) i (last_of b xs) (last_within b xs) (eqb x b) q

-- ---- an identifier behind its `u`: n is what `bytes` answered, f what `last_of` answered
module _ (s : List ℕ) (at : ℕ) {n : Option (ℕ × ℕ)} (answered : n ≡ span_at s at) where
  pub coded_none : n ≡ None → None ≡ coded_at s at
  unfolding coded_at coded
  coded_none k = rw (← answered, k)

  module _ {a e : ℕ} (known : n ≡ Some (a, e)) where
    pub part-order : a ≤ e
    part-order = (span-within s at (sym known ∙ answered)).0

    pub part_end : e ≤ length s
    part_end = (span-within s at (sym known ∙ answered)).1

    module _ {f : Option ℕ} (found : f ≡ last_of 95 (take (e - a) (drop a s))) where
      is : coded_at s at ≡ split_at a e f
      unfolding coded_at coded
      is = rw (← answered, known, ← found)

      pub coded-bare : f ≡ None → a ≡ e → None ≡ coded_at s at
      unfolding split_at
      coded-bare k q = rw (is, k, eq-eqb a e q)

      pub coded-whole : f ≡ None → (a ≡ e → ⊥) → Some (parts a a a e) ≡ coded_at s at
      unfolding split_at
      coded-whole k q = rw (is, k, ne_eqb a e q)

      module _ {i : ℕ} (k : f ≡ Some i) where
        pub coded-empty : a + i + 1 ≡ e → None ≡ coded_at s at
        unfolding split_at
        coded-empty q = rw (is, k, eq-eqb (a + i + 1) e q)

        pub coded-split : (a + i + 1 ≡ e → ⊥) → Some (parts a (a + i) (a + i + 1) e) ≡ coded_at s at
        unfolding split_at
        coded-split q = rw (is, k, ne_eqb (a + i + 1) e q)

        within : length s < 2 ^ 64 → a + i + 1 < 2 ^ 64
        within l =
            let w = span-within s at (sym known ∙ answered) in
            omega (arith, last_within 95 (take (e - a) (drop a s)) i (sym k ∙ found), length-take (e - a) (drop a s), length-drop a s)

        pub sum_fits : length s < 2 ^ 64 → Fits w64 (a + i)
        sum_fits l = omega (arith, within l)

        pub next_fits : length s < 2 ^ 64 → Fits w64 (a + i + 1)
        next_fits l = omega (arith, within l)

pub ruleset coded_laws = (coded_none, part-order, part_end, coded-bare, coded-whole, coded-empty, coded-split, sum_fits, next_fits, rules)

-- ---- an identifier: m is what `eat` answered, n what `bytes` answered
module _ (s : List ℕ) (at : ℕ) {m : ℕ} (eaten : m ≡ past 117 s at) where
  pub ident-coded : {r : Option Name} → (m ≡ at → ⊥) → r ≡ coded_at s m → r ≡ ident_at s at
  unfolding ident_at
  ident-coded h k = rw (ne_eqb (past 117 s at) at (λ e. h (eaten ∙ e)), ← eaten) k

  module _ (same : m ≡ at) {n : Option (ℕ × ℕ)} (answered : n ≡ span_at s at) where
    pub ident-none : n ≡ None → None ≡ ident_at s at
    unfolding ident_at plain
    ident-none k = rw (eq-eqb (past 117 s at) at (sym eaten ∙ same), ← answered, k)

    pub ident-plain : {a e : ℕ} → n ≡ Some (a, e) → Some (parts a e e e) ≡ ident_at s at
    unfolding ident_at plain
    ident-plain k = rw (eq-eqb (past 117 s at) at (sym eaten ∙ same), ← answered, k)

pub ruleset ident_laws = (ident-coded, ident-none, ident-plain, rules)
