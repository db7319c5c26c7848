-- What was read lies in the symbol: the places of an identifier's parts, of an ABI's name, of nibbles; and a character is one. Assumes nothing.
use Rattle.std.specs.Prelude.{Option, Some, None}
use Prim.Native.Nat.{ℕ, ◌+◌, ◌-◌, ◌^◌, ◌≤◌, ◌<◌}
use mathlib.Core.Path.{◌≡◌, refl, ap, sym, ◌∙◌}
use mathlib.Core.Bool.{Bool, true, false}
use mathlib.Core.List.{List}
use native.Mathlib.Omega.{arith}
use borrow.Author.Tests.{eqb-true, ltb-true}
use lib.Dec.{eqb, ltb, leb}
use lib.ListN.{length, take, drop, get_or, length-take, length-drop}
use Rattle.parser.specs.Digits.{if-then, digits, value}
use Rattle.parser.specs.Scalar.{is_scalar}
use Rattle.parser.specs.Bytes.{past}
use Rattle.parser.specs.Number.{optional62, hex_at}
use Rattle.parser.specs.Names.{parts, span_at, last_of, split_at, coded, coded_at, plain, ident_at}
use Rattle.parser.specs.declared.names.Name.{Name}
use Rattle.parser.proofs.ByteLaws.{inside}
use Rattle.parser.proofs.NameLaws.{span-within, last_within}
use Rattle.nibbles.specs.Uint.{hex_value, trim}
use Rattle.nibbles.specs.Chars.{is_text}
use Rattle.nibbles.specs.declared.uint.Hex.{Hex}
use Rattle.nibbles.specs.declared.uint.Hex.TheVariants.{Small, Big}
use Rattle.std.proofs.lemmas.Option.{some_pair_parts}
use Rattle.parser.specs.Bytes.{read}
use Rattle.printer.specs.declared.read.Abi.{Abi}
use Rattle.printer.specs.declared.read.Abi.TheVariants.{C, Named}
use Rattle.printer.specs.Readings.{Within, AbiWithin, named_by, named_of, named_at, abi_of, abi_at, some_abi, behind_unsafe, head_of, head_at, scalar_of, scalar_at, literal_of, literal_at}
use Rattle.printer.specs.declared.read.Head.{Head}

-- two answers that differ
apart : {A : Type 0} → ◌≡◌ {A = ℕ} 0 1 → A
apart e = absurd (omega arith)

-- ---- an identifier: what holds of its answer, by cases on it
abbrev InName : List ℕ → Option Name → Type 0
InName s (Some n) = Within s n
InName s None = Unit {0}

plain_in : (s : List ℕ) (at : ℕ) (p : Option (ℕ × ℕ)) → p ≡ span_at s at → InName s (plain p)
unfolding plain
plain_in s at (Some (a, e)) h = let w = span-within s at h in record { ascii = w.0; code = omega arith; end = omega arith; inside = w.1 }
plain_in s at None h = tt

split-in : (s : List ℕ) (a e : ℕ) → a ≤ e → e ≤ length s → (f : Option ℕ) → f ≡ last_of 95 (take (e - a) (drop a s)) → InName s (split_at a e f)
unfolding split_at
split-in s a e h k (Some i) q = go (eqb (a + i + 1) e) refl
  where
    go : (t : Bool) → eqb (a + i + 1) e ≡ t → InName s (if-then t None (Some (parts a (a + i) (a + i + 1) e)))
    go true u = tt
    go false u =
        let l : i < e - a = omega (arith, last_within 95 (take (e - a) (drop a s)) i q, length-take (e - a) (drop a s), length-drop a s) in
        record { ascii = omega arith; code = omega arith; end = omega arith; inside = k }
split-in s a e h k None q = go (eqb a e)
  where
    go : (t : Bool) → InName s (if-then t None (Some (parts a a a e)))
    go true = tt
    go false = record { ascii = omega arith; code = omega arith; end = h; inside = k }

coded_in : (s : List ℕ) (at : ℕ) (p : Option (ℕ × ℕ)) → p ≡ span_at s at → InName s (coded s p)
unfolding coded
coded_in s at (Some (a, e)) h = let w = span-within s at h in split-in s a e w.0 w.1 (last_of 95 (take (e - a) (drop a s))) refl
coded_in s at None h = tt

ident-in : (s : List ℕ) (at : ℕ) → InName s (ident_at s at)
unfolding ident_at coded_at
ident-in s at = go (eqb (past 117 s at) at)
  where
    go : (t : Bool) → InName s (if-then t (plain (span_at s at)) (coded s (span_at s (past 117 s at))))
    go true = plain_in s at (span_at s at) refl
    go false = coded_in s (past 117 s at) (span_at s (past 117 s at)) refl

in-name : (s : List ℕ) (x y : Option Name) → x ≡ y → InName s x → InName s y
in-name s x y h p = rw h at p

pub ident-within : (s : List ℕ) (at : ℕ) (x : Option Name) (n : Name) → x ≡ ident_at s at → x ≡ Some n → Within s n
ident-within s at x n h k = in-name s (ident_at s at) (Some n) (sym h ∙ k) (ident-in s at)

-- ---- with a number before it
abbrev InNamed : List ℕ → Option (ℕ × Name) → Type 0
InNamed s (Some (d, n)) = Within s n
InNamed s None = Unit {0}

named-by-in : (s : List ℕ) (d : ℕ) (x : Option Name) → InName s x → InNamed s (named_by d x)
named-by-in s d (Some n) w = w
named-by-in s d None w = tt

named_in : (s : List ℕ) (x : Option (ℕ × ℕ)) → InNamed s (named_of s x)
named_in s (Some (d, next)) = named-by-in s d (ident_at s next) (ident-in s next)
named_in s None = tt

in-named : (s : List ℕ) (x y : Option (ℕ × Name)) → x ≡ y → InNamed s x → InNamed s y
in-named s x y h p = rw h at p

pub named-within : (s : List ℕ) (at : ℕ) (x : Option (ℕ × Name)) (d : ℕ) (n : Name) → x ≡ named_at s at → x ≡ Some (d, n) → Within s n
unfolding named_at
named-within s at x d n h k = in-named s (named_of s (optional62 115 s at)) (Some (d, n)) (sym h ∙ k) (named_in s (optional62 115 s at))

-- the ASCII part's length, of the identifier's bytes
module _ (s : List ℕ) (n : Name) (w : Within s n) where
  pub ascii-within : n.split - n.start ≤ length (take (n.end - n.start) (drop n.start s))
  ascii-within = omega (arith, w.ascii, w.code, w.end, w.inside, length-take (n.end - n.start) (drop n.start s), length-drop n.start s)

  pub part-starts : n.start ≤ n.end
  part-starts = omega (arith, w.ascii, w.code, w.end)

  pub part-ends : n.end ≤ length s
  part-ends = w.inside

  pub ascii-after : n.start ≤ n.split
  ascii-after = w.ascii

  pub code-after : n.start ≤ n.code
  code-after = omega (arith, w.ascii, w.code)

-- ---- an ABI
abbrev InAbi : List ℕ → Option (Abi × ℕ) → Type 0
InAbi s (Some (a, next)) = AbiWithin s (Some a)
InAbi s None = Unit {0}

abi-of-in : (s : List ℕ) (x : Option Name) → InName s x → InAbi s (abi_of x)
abi-of-in s (Some n) w = go (eqb n.start n.split) (eqb n.code n.end)
  where
    go : (x y : Bool) → InAbi s (if-then x None (if-then y (read (Named n.start n.split) n.end) None))
    go true y = tt
    go false true = (w.ascii, omega (arith, w.code, w.end, w.inside))
    go false false = tt
abi-of-in s None w = tt

abi-in : (s : List ℕ) (k : ℕ) → InAbi s (abi_at s k)
unfolding abi_at
abi-in s k = go (eqb (past 67 s k) k)
  where
    go : (t : Bool) → InAbi s (if-then t (abi_of (ident_at s k)) (read C (past 67 s k)))
    go true = abi-of-in s (ident_at s k) (ident-in s k)
    go false = tt

abbrev InSome : List ℕ → Option (Option Abi × ℕ) → Type 0
InSome s (Some (a, next)) = AbiWithin s a
InSome s None = Unit {0}

some-abi-in : (s : List ℕ) (x : Option (Abi × ℕ)) → InAbi s x → InSome s (some_abi x)
some-abi-in s (Some (a, next)) h = h
some-abi-in s None h = tt

behind-in : (s : List ℕ) (at : ℕ) → InSome s (behind_unsafe s at)
unfolding behind_unsafe
behind-in s at = go (eqb (past 75 s at) at)
  where
    go : (t : Bool) → InSome s (if-then t (read None at) (some_abi (abi_at s (past 75 s at))))
    go true = tt
    go false = some-abi-in s (abi_at s (past 75 s at)) (abi-in s (past 75 s at))

abbrev InHead : List ℕ → Option (Head × ℕ) → Type 0
InHead s (Some (h, next)) = AbiWithin s h.abi
InHead s None = Unit {0}

head-of-in : (s : List ℕ) (u : Bool) (x : Option (Option Abi × ℕ)) → InSome s x → InHead s (head_of u x)
head-of-in s u (Some (a, next)) h = h
head-of-in s u None h = tt

in_head : (s : List ℕ) (x y : Option (Head × ℕ)) → x ≡ y → InHead s x → InHead s y
in_head s x y h p = rw h at p

pub head-within : (s : List ℕ) (at : ℕ) (x : Option (Head × ℕ)) (h : Head) (next : ℕ) → x ≡ head_at s at → x ≡ Some (h, next) → AbiWithin s h.abi
unfolding head_at
head-within s at x h next e k = in_head s _ (Some (h, next)) (sym e ∙ k) (head-of-in s _ _ (behind-in s _))

-- ---- nibbles
abbrev InHex : List ℕ → ℕ → Option (Hex × ℕ) → Type 0
InHex s at (Some (Small v, e)) = Unit {0}
InHex s at (Some (Big e, next)) = (at ≤ e) × (e ≤ length s)
InHex s at None = Unit {0}

hex-in : (s : List ℕ) (at : ℕ) → InHex s at (hex_value s at)
unfolding hex_value
hex-in s at = go (eqb (get_or s (at + length (digits 16 (drop at s))) 0) 95) refl (leb (length (trim (digits 16 (drop at s)))) 16)
  where
    go : (t : Bool) → eqb (get_or s (at + length (digits 16 (drop at s))) 0) 95 ≡ t → (u : Bool) → InHex s at (if-then t (if-then u (read (Small (value 16 (trim (digits 16 (drop at s))))) (at + length (digits 16 (drop at s)) + 1)) (read (Big (at + length (digits 16 (drop at s)))) (at + length (digits 16 (drop at s)) + 1))) None)
    go true h true = tt
    go true h false =
        let i : at + length (digits 16 (drop at s)) < length s = inside s (at + length (digits 16 (drop at s))) (sym (eqb-true _ 95 h)) (omega arith) in
        (omega arith, omega arith)
    go false h u = tt

in-hex : (s : List ℕ) (at : ℕ) (x y : Option (Hex × ℕ)) → x ≡ y → InHex s at x → InHex s at y
in-hex s at x y h p = rw h at p

hex-within : (s : List ℕ) (at : ℕ) (n : Option (Hex × ℕ)) (e next : ℕ) → n ≡ hex_value s at → n ≡ Some (Big e, next) → (at ≤ e) × (e ≤ length s)
hex-within s at n e next h k = in-hex s at (hex_value s at) (Some (Big e, next)) (sym h ∙ k) (hex-in s at)

pub hex-starts : (s : List ℕ) (at : ℕ) (n : Option (Hex × ℕ)) (e next : ℕ) → n ≡ hex_value s at → n ≡ Some (Big e, next) → at ≤ e
hex-starts s at n e next h k = (hex-within s at n e next h k).0

pub hex-ends : (s : List ℕ) (at : ℕ) (n : Option (Hex × ℕ)) (e next : ℕ) → n ≡ hex_value s at → n ≡ Some (Big e, next) → e ≤ length s
hex-ends s at n e next h k = (hex-within s at n e next h k).1

-- ---- a character
scalar-small : (v : ℕ) → is_scalar v ≡ true → v < 2 ^ 32
unfolding is_scalar
scalar-small v h = go (ltb v 0xD800) refl (ltb v 0xE000) (ltb v 0x110000) refl h
  where
    go : (x : Bool) → ltb v 0xD800 ≡ x → (y z : Bool) → ltb v 0x110000 ≡ z → if-then x true (if-then y false z) ≡ true → v < 2 ^ 32
    go true e y z u k = omega (arith, ltb-true v 0xD800 e)
    go false e true z u k = apart (ap (λ (b : Bool). if-then b 1 0) k)
    go false e false true u k = omega (arith, ltb-true v 0x110000 u)
    go false e false false u k = apart (ap (λ (b : Bool). if-then b 1 0) k)

abbrev InNum : Option (ℕ × ℕ) → Type 0
InNum (Some (v, e)) = v < 2 ^ 32
InNum None = Unit {0}

char-of-in : (x : Option (Hex × ℕ)) → InNum (scalar_of x)
char-of-in (Some (Small v, e)) = go (is_scalar v) refl
  where
    go : (t : Bool) → is_scalar v ≡ t → InNum (if-then t (read v e) None)
    go true h = scalar-small v h
    go false h = tt
char-of-in (Some (Big e, f)) = tt
char-of-in None = tt

in-num : (x y : Option (ℕ × ℕ)) → x ≡ y → InNum x → InNum y
in-num x y h p = rw h at p

pub char-small : (s : List ℕ) (at : ℕ) (n : Option (ℕ × ℕ)) (v e : ℕ) → n ≡ scalar_at s at → n ≡ Some (v, e) → v < 2 ^ 32
unfolding scalar_at
char-small s at n v e h k = in-num (scalar_of (hex_value s at)) (Some (v, e)) (sym h ∙ k) (char-of-in (hex_value s at))

-- ---- a string
abbrev InLiteral : List ℕ → ℕ → Option (ℕ × ℕ) → Type 0
InLiteral s at (Some (e, next)) = (at ≤ e) × (e ≤ length s) × (is_text (take (e - at) (drop at s)) ≡ true)
InLiteral s at None = Unit {0}

literal-in : (s : List ℕ) (at : ℕ) (n : Option (ℕ × ℕ)) → n ≡ hex_at s at → InLiteral s at (literal_of s at n)
unfolding hex_at
literal-in s at (Some (e, next)) h = go (is_text (take (e - at) (drop at s))) refl (eqb (get_or s (at + length (digits 16 (drop at s))) 0) 95) refl h
  where
    go : (t : Bool) → is_text (take (e - at) (drop at s)) ≡ t → (u : Bool) → eqb (get_or s (at + length (digits 16 (drop at s))) 0) 95 ≡ u → read e next ≡ if-then u (read (at + length (digits 16 (drop at s))) (at + length (digits 16 (drop at s)) + 1)) None → InLiteral s at (if-then t (read e next) None)
    go true q true k p =
        let x : e ≡ at + length (digits 16 (drop at s)) = (some_pair_parts e (at + length (digits 16 (drop at s))) next _ p).0 in
        let i : at + length (digits 16 (drop at s)) < length s = inside s (at + length (digits 16 (drop at s))) (sym (eqb-true _ 95 k)) (omega arith) in
        (omega arith, omega arith, q)
    go true q false k p = apart (cc)
    go false q u k p = tt
literal-in s at None h = tt

in-literal : (s : List ℕ) (at : ℕ) (x y : Option (ℕ × ℕ)) → x ≡ y → InLiteral s at x → InLiteral s at y
in-literal s at x y h p = rw h at p

module _ (s : List ℕ) (at : ℕ) (n : Option (ℕ × ℕ)) (e next : ℕ) (answered : n ≡ literal_at s at) (known : n ≡ Some (e, next)) where
  here : (at ≤ e) × (e ≤ length s) × (is_text (take (e - at) (drop at s)) ≡ true)
  unfolding literal_at
  here = in-literal s at (literal_of s at (hex_at s at)) (Some (e, next)) (sym answered ∙ known) (literal-in s at (hex_at s at) refl)

  pub literal-starts : at ≤ e
  literal-starts = here.0

  pub literal-ends : e ≤ length s
  literal-ends = here.1

  pub literal-text : is_text (take (e - at) (drop at s)) ≡ true
  literal-text = here.2
