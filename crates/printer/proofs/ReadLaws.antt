-- What the readings of more than one part answer, from what they were answered. Assumes nothing.
use Rattle.std.specs.Prelude.{Option, Some, None}
use mathlib.Core.Path.{◌≡◌, refl, sym, ap, ◌∙◌}
use mathlib.Core.Bool.{Bool, true, false, not}
use mathlib.Core.List.{List}
use Prim.Native.Nat.{ℕ, zero, suc, ◌+◌, ◌-◌, ◌≤◌, ◌<◌}
use native.Mathlib.Omega.{arith}
use borrow.Author.Rules.{rules}
use borrow.Author.Tests.{eq-eqb, ne_eqb, eqb-true, lt-ltb, le-ltb}
use lib.Dec.{eqb}
use lib.ListN.{length, take, drop, get_or, get_or-eq_default}
use Rattle.parser.specs.Digits.{if-then, digits}
use Rattle.parser.specs.Scalar.{is_scalar}
use Rattle.parser.specs.Bytes.{read, past}
use Rattle.parser.specs.Number.{integer62, optional62, hex_at}
use Rattle.parser.specs.Names.{ident_at}
use Rattle.parser.specs.declared.names.Name.{Name}
use Rattle.parser.proofs.ByteLaws.{inside}
use Rattle.nibbles.specs.Uint.{hex_value}
use Rattle.nibbles.specs.Chars.{is_text}
use Rattle.nibbles.specs.declared.uint.Hex.{Hex}
use Rattle.nibbles.specs.declared.uint.Hex.TheVariants.{Small, Big}
use Rattle.std.proofs.lemmas.Option.{some_pair_parts}
use Rattle.printer.specs.declared.read.Abi.{Abi}
use Rattle.printer.specs.declared.read.Abi.TheVariants.{C, Named}
use Rattle.printer.specs.Readings.{tag_at, mark_at, named_by, named_of, named_at, life_at, abi_of, abi_at, some_abi, behind_unsafe, head_of, head_at, flag_of, flag_at, scalar_of, scalar_at, literal_of, literal_at}

-- ---- a byte and the place behind it
pub look_in : (s : List ℕ) (at : ℕ) → at < length s → record { byte = get_or s at 0; behind = at + 1 } ≡ tag_at s at
unfolding tag_at
look_in s at h = rw (lt-ltb at (length s) h) refl

pub look-out : (s : List ℕ) (at : ℕ) → length s ≤ at → record { byte = 0; behind = at } ≡ tag_at s at
unfolding tag_at
look-out s at h = rw (le-ltb at (length s) h, get_or-eq_default s 0 {n = at} h) refl

pub ruleset look_laws = (look_in, look-out, rules)

-- ---- the `e` of a string behind a tag
pub mark-ref : (s : List ℕ) (at tag r : ℕ) → tag ≡ 82 → r ≡ past 101 s at → r ≡ mark_at s at tag
unfolding mark_at
mark-ref s at tag r h k = rw (eq-eqb tag 82 h) k

pub mark-none : (s : List ℕ) (at tag : ℕ) → (tag ≡ 82 → ⊥) → at ≡ mark_at s at tag
unfolding mark_at
mark-none s at tag h = rw (ne_eqb tag 82 h)

pub ruleset mark_laws = (mark-ref, mark-none, rules)

-- ---- a disambiguator: y is what `eat` answered
pub absent : (s : List ℕ) (at y : ℕ) → y ≡ past 115 s at → y ≡ at → read 0 at ≡ optional62 115 s at
unfolding optional62
absent s at y e h = rw (eq-eqb (past 115 s at) at (sym e ∙ h))

pub ruleset absent_laws = (absent, rules)

-- ---- a disambiguator and an identifier: n is what `disambiguator` answered, m what `ident` answered
module _ (s : List ℕ) (at : ℕ) (n : Option (ℕ × ℕ)) (answered : n ≡ optional62 115 s at) where
  pub named_none : n ≡ None → None ≡ named_at s at
  unfolding named_at
  named_none k = ap (named_of s) (sym k ∙ answered)

  module _ (d e : ℕ) (known : n ≡ Some (d, e)) (m : Option Name) (named : m ≡ ident_at s e) where
    by : (x : Option Name) → m ≡ x → named_by d x ≡ named_at s at
    unfolding named_at
    by x k = ap (named_by d) (sym k ∙ named) ∙ ap (named_of s) (sym known ∙ answered)

    pub named-unnamed : m ≡ None → None ≡ named_at s at
    named-unnamed k = by None k

    pub named-some : (x : Name) → m ≡ Some x → named_by d (Some x) ≡ named_at s at
    named-some x k = by (Some x) k

pub ruleset named_laws = (named_none, named-unnamed, named-some, rules)

-- ---- an optional lifetime: m is what `eat` answered
module _ (s : List ℕ) (at m : ℕ) (eaten : m ≡ past 76 s at) where
  pub life-none : m ≡ at → read 0 at ≡ life_at s at
  unfolding life_at
  life-none h = rw (eq-eqb (past 76 s at) at (sym eaten ∙ h))

  pub life-some : (r : Option (ℕ × ℕ)) → (m ≡ at → ⊥) → r ≡ integer62 s m → r ≡ life_at s at
  unfolding life_at
  life-some r h k = rw (ne_eqb (past 76 s at) at (λ e. h (eaten ∙ e)), ← eaten) k

pub ruleset life_laws = (life-none, life-some, rules)

-- ---- an ABI: m is what `eat` answered, n what `ident` answered
module _ (s : List ℕ) (at m : ℕ) (eaten : m ≡ past 67 s at) where
  pub abi-c : (m ≡ at → ⊥) → read C m ≡ abi_at s at
  unfolding abi_at
  abi-c h = rw (ne_eqb (past 67 s at) at (λ e. h (eaten ∙ e)), ← eaten)

  module _ (here : m ≡ at) (n : Option Name) (named : n ≡ ident_at s at) where
    named-is : (x : Option Name) → n ≡ x → abi_at s at ≡ abi_of x
    unfolding abi_at
    named-is x k = rw (eq-eqb (past 67 s at) at (sym eaten ∙ here)) (ap abi_of (sym named ∙ k))

    pub abi-none : n ≡ None → None ≡ abi_at s at
    abi-none k = sym (named-is None k)

    module _ (x : Name) (known : n ≡ Some x) where
      pub abi-empty : x.start ≡ x.split → None ≡ abi_at s at
      abi-empty h = sym (named-is (Some x) known ∙ rw (eq-eqb x.start x.split h))

      pub abi-coded : (x.start ≡ x.split → ⊥) → (x.code ≡ x.end → ⊥) → None ≡ abi_at s at
      abi-coded h k = sym (named-is (Some x) known ∙ rw (ne_eqb x.start x.split h, ne_eqb x.code x.end k))

      pub abi-named : (x.start ≡ x.split → ⊥) → x.code ≡ x.end → read (Named x.start x.split) x.end ≡ abi_at s at
      abi-named h k = sym (named-is (Some x) known ∙ rw (ne_eqb x.start x.split h, eq-eqb x.code x.end k))

pub ruleset abi_laws = (abi-c, abi-none, abi-empty, abi-coded, abi-named, rules)

-- m is what `eat` answered, r what `some_abi` answered
module _ (s : List ℕ) (at m : ℕ) (eaten : m ≡ past 75 s at) where
  pub behind-none : m ≡ at → read None at ≡ behind_unsafe s at
  unfolding behind_unsafe
  behind-none h = rw (eq-eqb (past 75 s at) at (sym eaten ∙ h))

  module _ (r : Option (Abi × ℕ)) (some : m ≡ at → ⊥) (answered : r ≡ abi_at s m) where
    behind-is : (x : Option (Abi × ℕ)) → r ≡ x → some_abi x ≡ behind_unsafe s at
    unfolding behind_unsafe
    behind-is x k = rw (ne_eqb (past 75 s at) at (λ e. some (eaten ∙ e)), ← eaten) (ap some_abi (sym k ∙ answered))

    pub behind-lost : r ≡ None → None ≡ behind_unsafe s at
    behind-lost k = behind-is None k

    pub behind-abi : (a : Abi) (e : ℕ) → r ≡ Some (a, e) → read (Some a) e ≡ behind_unsafe s at
    behind-abi a e k = behind-is (Some (a, e)) k

pub ruleset behind_laws = (behind-none, behind-lost, behind-abi, rules)

-- m is what `eat` answered, r what `optional_abi` answered, u whether something was eaten
module _ (s : List ℕ) (at m : ℕ) (eaten : m ≡ past 85 s at) (r : Option (Option Abi × ℕ)) (answered : r ≡ behind_unsafe s m) where
  head_is : (x : Option (Option Abi × ℕ)) → r ≡ x → head_of (not (eqb m at)) x ≡ head_at s at
  unfolding head_at
  head_is x k = rw (eaten) (ap (head_of (not (eqb (past 85 s at) at))) (rw eaten at (sym k ∙ answered)))

  pub head-lost : r ≡ None → None ≡ head_at s at
  head-lost k = head_is None k

  pub head-some : (a : Option Abi) (e : ℕ) (u : Bool) → r ≡ Some (a, e) → u ≡ not (eqb m at) → head_of u (Some (a, e)) ≡ head_at s at
  head-some a e u k h = rw h (head_is (Some (a, e)) k)

pub ruleset head_laws = (head-lost, head-some, rules)

-- ---- nibbles as a bool and as a character: n is what `hex_value` answered, g what `is_scalar` answered
module _ (s : List ℕ) (at : ℕ) (n : Option (Hex × ℕ)) (answered : n ≡ hex_value s at) where
  flag_is : (x : Option (Hex × ℕ)) → n ≡ x → flag_of x ≡ flag_at s at
  unfolding flag_at
  flag_is x k = ap flag_of (sym k ∙ answered)

  char_is : (x : Option (Hex × ℕ)) → n ≡ x → scalar_of x ≡ scalar_at s at
  unfolding scalar_at
  char_is x k = ap scalar_of (sym k ∙ answered)

  pub flag-none : n ≡ None → None ≡ flag_at s at
  flag-none k = flag_is None k

  pub char-none : n ≡ None → None ≡ scalar_at s at
  char-none k = char_is None k

  module _ (h : Hex) (e : ℕ) (known : n ≡ Some (h, e)) where
    pub flag-false : (v : ℕ) → h ≡ Small v → v ≡ 0 → read false e ≡ flag_at s at
    flag-false v k z = flag_is (Some (Small 0, e)) (known ∙ rw (k, z))

    pub flag_true : (v : ℕ) → h ≡ Small v → v ≡ 1 → read true e ≡ flag_at s at
    flag_true v k z = flag_is (Some (Small 1, e)) (known ∙ rw (k, z))

    pub flag-more : (v : ℕ) → h ≡ Small v → (v ≡ 0 → ⊥) → (v ≡ 1 → ⊥) → None ≡ flag_at s at
    flag-more zero k z o = absurd (z refl)
    flag-more (suc zero) k z o = absurd (o refl)
    flag-more (suc (suc v)) k z o = flag_is (Some (Small (suc (suc v)), e)) (known ∙ rw k)

    pub flag-big : (f : ℕ) → h ≡ Big f → None ≡ flag_at s at
    flag-big f k = flag_is (Some (Big f, e)) (known ∙ rw k)

    pub char-big : (f : ℕ) → h ≡ Big f → None ≡ scalar_at s at
    char-big f k = char_is (Some (Big f, e)) (known ∙ rw k)

    module _ (v : ℕ) (g : Bool) (small : h ≡ Small v) (judged : g ≡ is_scalar v) where
      here : scalar_of (Some (Small v, e)) ≡ scalar_at s at
      here = char_is (Some (Small v, e)) (known ∙ rw small)

      pub char-good : g ≡ true → read v e ≡ scalar_at s at
      char-good h = rw (sym judged ∙ h) at here

      pub char-bad : g ≡ false → None ≡ scalar_at s at
      char-bad h = rw (sym judged ∙ h) at here

pub ruleset flag_laws = (flag-false, flag_true, flag-more, flag-big, flag-none, rules)

pub ruleset char_laws = (char-good, char-bad, char-big, char-none, rules)

-- ---- a string: n is what `hex_nibbles` answered, g what `is_text` answered of the part
hex-to : (s : List ℕ) (at : ℕ) {e f : ℕ} → read e f ≡ hex_at s at → (at ≤ e) × (e ≤ length s)
unfolding hex_at
hex-to s at {e} {f} q = go (eqb (get_or s (at + length (digits 16 (drop at s))) 0) 95) refl q
  where
    go : (t : Bool) → eqb (get_or s (at + length (digits 16 (drop at s))) 0) 95 ≡ t → read e f ≡ if-then t (read (at + length (digits 16 (drop at s))) (at + length (digits 16 (drop at s)) + 1)) None → (at ≤ e) × (e ≤ length s)
    go true h p =
        let x : e ≡ at + length (digits 16 (drop at s)) = (some_pair_parts e (at + length (digits 16 (drop at s))) f _ p).0 in
        let i : at + length (digits 16 (drop at s)) < length s = inside s (at + length (digits 16 (drop at s))) (sym (eqb-true _ 95 h)) (omega arith) in
        (omega arith, omega arith)
    go false h p = absurd (let z : ◌≡◌ {A = ℕ} 0 1 = cc in omega arith)

module _ (s : List ℕ) (at : ℕ) (n : Option (ℕ × ℕ)) (answered : n ≡ hex_at s at) where
  pub literal-none : n ≡ None → None ≡ literal_at s at
  unfolding literal_at
  literal-none k = ap (literal_of s at) (sym k ∙ answered)

  module _ (e f : ℕ) (known : n ≡ Some (e, f)) where
    pub nibbles-order : at ≤ e
    nibbles-order = (hex-to s at (sym known ∙ answered)).0

    pub nibbles-end : e ≤ length s
    nibbles-end = (hex-to s at (sym known ∙ answered)).1

    module _ (g : Bool) (judged : g ≡ is_text (take (e - at) (drop at s))) where
      text-is : literal_of s at (Some (e, f)) ≡ literal_at s at
      unfolding literal_at
      text-is = ap (literal_of s at) (sym known ∙ answered)

      pub literal-good : g ≡ true → read e f ≡ literal_at s at
      literal-good h = rw (sym judged ∙ h) at text-is

      pub literal-bad : g ≡ false → None ≡ literal_at s at
      literal-bad h = rw (sym judged ∙ h) at text-is

pub ruleset literal_laws = (literal-none, nibbles-order, nibbles-end, literal-good, literal-bad, rules)
