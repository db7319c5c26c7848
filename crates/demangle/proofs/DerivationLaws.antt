-- What is known of a derivation by itself: it is a byte long at least, but for bindings, a list ends inside the symbol, and the byte that it
-- starts with is one of its part's. Assumes nothing.
use Rattle.std.specs.Prelude.{Some}
use mathlib.Core.Path.{◌≡◌, refl}
use mathlib.Core.Bool.{Bool, true, false, not}
use mathlib.Core.List.{List, [], ◌∷◌}
use Prim.Native.Nat.{ℕ, ◌+◌, ◌≤◌, ◌<◌}
use native.Mathlib.Omega.{arith}
use borrow.Author.Tests.{eqb-true, eq-eqb}
use lib.Dec.{T, eqb, lit≤}
use lib.ListN.{length, drop}
use Rattle.parser.specs.Digits.{if-then, within, digit_of, digits}
use Rattle.parser.specs.Bytes.{past}
use Rattle.parser.specs.Number.{optional62, decimal, length10}
use Rattle.parser.specs.Names.{ident_at, span_at, bytes_after, plain}
use Rattle.parser.proofs.DigitLaws.{digits-none}
use Rattle.pieces.specs.Basic as basics
use Rattle.pieces.specs.Basic.{is_basic}
use Rattle.printer.specs.Readings.{named_at}
use Rattle.parser.specs.declared.names.Name.{Name}
use Rattle.printer.specs.Letters as ltr
use Rattle.demangle.specs.Grammar as G
use Rattle.demangle.specs.Grammar.{◌!◌, Item, Part, path, type, bare, arg, const, pattern, trait, trait-path, bindings, field, many, Follow, Leads}
use Rattle.demangle.specs.Grammar.{Reads}
use Rattle.demangle.proofs.RunLaws.{◌∉◌, none_of, rest_of, at, missing}
use Rattle.demangle.proofs.GrowLaws.{past-grows, integer-grows, optional-grows, life-grows, back-grows, ident-grows, called-grows, letter-grows}
use Rattle.demangle.proofs.GrowLaws.{head-grows, flag-grows-to, scalar-grows-to, literal-grows-to, nibbles-grow}

-- how many bytes a part has at least
abbrev pub least : Part → ℕ
least path = 1
least type = 1
least bare = 1
least arg = 1
least const = 1
least pattern = 1
least trait = 1
least trait-path = 1
least bindings = 0
least field = 1
least (many x) = 1

least-back : {p q : Part} {n m i j : ℕ} → Leads p q n m → i < j → i + least p ≤ j
least-back G.to-path h = omega arith
least-back G.to_type h = omega arith
least-back G.to-const h = omega arith
least-back G.to-trait h = omega arith

module _ (s : List ℕ) where
  pub grows : {p : Part} {f : Follow} {n b i j : ℕ} → Reads s p f n b i j → i + least p ≤ j
  grows (G.crate-root e q) = omega (arith, called-grows s q)
  grows (G.inherent-impl e d r q) = omega (arith, optional-grows s _ d, grows r, grows q)
  grows (G.trait-impl e d r q t) = omega (arith, optional-grows s _ d, grows r, grows q, grows t)
  grows (G.trait-definition e r q) = omega (arith, grows r, grows q)
  grows (G.nested-path e c r q) = omega (arith, letter-grows s c, grows r, called-grows s q)
  grows (G.generic-args e r q) = omega (arith, grows r, grows q)
  grows (G.list-end e) = omega arith
  grows (G.list-more r q) = omega (arith, grows r, grows q)
  grows (G.lifetime-arg e q u) = omega (arith, integer-grows s q)
  grows (G.type-arg r) = omega (arith, grows r)
  grows (G.const-arg e r) = omega (arith, grows r)
  grows (G.plain_type r) = omega (arith, grows r)
  grows (G.basic-type t) = omega arith
  grows (G.array-type e r q) = omega (arith, grows r, grows q)
  grows (G.slice-type e r) = omega (arith, grows r)
  grows (G.tuple_type e r) = omega (arith, grows r)
  grows (G.ref-type e l u r) = omega (arith, life-grows s l, grows r)
  grows (G.mut-ref-type e l u r) = omega (arith, life-grows s l, grows r)
  grows (G.const-ptr-type e r) = omega (arith, grows r)
  grows (G.mut-ptr-type e r) = omega (arith, grows r)
  grows (G.fn-type e g h r q) = omega (arith, optional-grows s _ g, head-grows s h, grows r, grows q)
  grows (G.dyn-trait-type e g r e' l u) = omega (arith, optional-grows s _ g, grows r, integer-grows s l)
  grows (G.path-type o r) = omega (arith, grows r)
  grows (G.dyn-trait r q) = omega (arith, grows r, grows q)
  grows (G.generic-trait e r q) = omega (arith, grows r, grows q)
  grows (G.plain-trait o o' r) = omega (arith, grows r)
  grows (G.no-binding o) = omega arith
  grows (G.type-binding e q r t) = omega (arith, ident-grows s q, grows r, grows t)
  grows (G.unsigned-const t q) = omega (arith, nibbles-grow s q)
  grows (G.signed-const {i = i} t q) = omega (arith, past-grows s ltr.'n' (i + 1), nibbles-grow s q)
  grows (G.bool-const e q) = omega (arith, flag-grows-to s q)
  grows (G.char-const e q) = omega (arith, scalar-grows-to s q)
  grows (G.placeholder e) = omega arith
  grows (G.back u e q) = least-back u (omega (arith, back-grows s q))
  grows (G.followed u e q r) = least-back u (omega (arith, back-grows s q))
  grows (G.splat e r) = omega (arith, grows r)
  grows (G.pattern-type e r q) = omega (arith, grows r, grows q)
  grows (G.range-pattern e r q) = omega (arith, grows r, grows q)
  grows (G.or-pattern e r q) = omega (arith, grows r, grows q)
  grows (G.null-pattern e) = omega arith
  grows (G.const-binding e q e' r t) = omega (arith, ident-grows s q, grows r, grows t)
  grows (G.string-const e q) = omega (arith, literal-grows-to s q)
  grows (G.string-ref-const e e' q) = omega (arith, literal-grows-to s q)
  grows (G.ref-const e o r) = omega (arith, grows r)
  grows (G.mut-ref-const e r) = omega (arith, grows r)
  grows (G.array-const e r) = omega (arith, grows r)
  grows (G.tuple-const e r) = omega (arith, grows r)
  grows (G.unit-const e r e') = omega (arith, grows r)
  grows (G.call-const e r e' q) = omega (arith, grows r, grows q)
  grows (G.struct-const e r e' q) = omega (arith, grows r, grows q)
  grows (G.field-const e r) = omega (arith, called-grows s e, grows r)

-- ---- first bytes: those of a path, and bytes that no derivation of a part starts with
abbrev pub letters : List ℕ
letters = ltr.'C' ∷ ltr.'M' ∷ ltr.'X' ∷ ltr.'Y' ∷ ltr.'N' ∷ ltr.'I' ∷ ltr.'B' ∷ []

abbrev pub never : Part → List ℕ
never path = ltr.'w' ∷ ltr.'L' ∷ ltr.'K' ∷ ltr.'E' ∷ []
never bare = ltr.'w' ∷ ltr.'L' ∷ ltr.'K' ∷ ltr.'E' ∷ []
never type = ltr.'L' ∷ ltr.'K' ∷ ltr.'E' ∷ []
never arg = ltr.'E' ∷ []
never const = ltr.'E' ∷ []
never pattern = ltr.'E' ∷ []
never trait = ltr.'E' ∷ []
never trait-path = ltr.'E' ∷ []
never bindings = []
never field = ltr.'E' ∷ []
never (many x) = []

module _ (s : List ℕ) where
  pub path-first : {f : Follow} {n b i j : ℕ} → Reads s path f n b i j → T (ltr.any_of (s ! i) letters)
  unfolding ltr.any_of
  path-first (G.crate-root e q) = rw e tt
  path-first (G.inherent-impl e d r q) = rw e tt
  path-first (G.trait-impl e d r q t) = rw e tt
  path-first (G.trait-definition e r q) = rw e tt
  path-first (G.nested-path e c r q) = rw e tt
  path-first (G.generic-args e r q) = rw e tt
  path-first (G.back u e q) = rw e tt
  path-first (G.followed u e q r) = rw e tt

  -- a byte that passes a test that these letters fail
  of_test : (q : ℕ → Bool) (i : ℕ) → q ltr.'w' ≡ false → q ltr.'L' ≡ false → q ltr.'K' ≡ false → q ltr.'E' ≡ false → T (q (s ! i)) → s ! i ∉ never bare
  of_test q i w l k e t = none_of q (s ! i) (never bare) (w, (l, (k, (e, tt)))) t

  -- of the letters the last
  pub type-last-of : (i : ℕ) → s ! i ∉ never type → s ! i ∉ ltr.'E' ∷ []
  type-last-of i o = rest_of (s ! i) ltr.'K' (ltr.'E' ∷ []) (rest_of (s ! i) ltr.'L' (ltr.'K' ∷ ltr.'E' ∷ []) o)

  last_of : (i : ℕ) → s ! i ∉ never bare → s ! i ∉ ltr.'E' ∷ []
  last_of i o = type-last-of i (rest_of (s ! i) ltr.'w' (never type) o)

  named-first : (i : ℕ) {d : ℕ} {x : Name} → named_at s i ≡ Some (d, x) → s ! i ∉ ltr.'E' ∷ []
  unfolding named_at optional62 ident_at span_at length10 decimal bytes_after plain ltr.any_of digit_of within
  named-first i q = go (eqb (s ! i) ltr.'E') refl
    where
      go : (t : Bool) → eqb (s ! i) ltr.'E' ≡ t → T (not (if-then t true false))
      go true e =
          let e' : s ! i ≡ ltr.'E' = eqb-true _ _ e in
          let a : past 115 s i ≡ i = missing s 115 i (λ h. omega arith) in
          let b : past 117 s i ≡ i = missing s 117 i (λ h. omega arith) in
          let c : digits 10 (drop i s) ≡ [] = digits-none 10 s i (rw e' (lit≤ tt)) in
          let z : ◌≡◌ {A = ℕ} 0 1 = cc (rw (a, eq-eqb i i refl, b, eq-eqb i i refl, c) at q) in absurd (omega arith)
      go false e = tt

  pub first : {p : Part} {f : Follow} {n b i j : ℕ} → Reads s p f n b i j → s ! i ∉ never p
  unfolding ltr.any_of ltr.is_unsigned ltr.is_signed is_basic basics.among basics.basic
  first (G.crate-root e q) = rw e tt
  first (G.inherent-impl e d r q) = rw e tt
  first (G.trait-impl e d r q t) = rw e tt
  first (G.trait-definition e r q) = rw e tt
  first (G.nested-path e c r q) = rw e tt
  first (G.generic-args e r q) = rw e tt
  first (G.list-end e) = tt
  first (G.list-more r q) = tt
  first (G.lifetime-arg e q u) = rw e tt
  first (G.type-arg {i = i} r) = type-last-of i (first r)
  first (G.const-arg e r) = rw e tt
  first (G.plain_type {i = i} r) = rest_of (s ! i) ltr.'w' (never type) (first r)
  first (G.basic-type {i = i} t) = of_test is_basic i refl refl refl refl t
  first (G.array-type e r q) = rw e tt
  first (G.slice-type e r) = rw e tt
  first (G.tuple_type e r) = rw e tt
  first (G.ref-type e l u r) = rw e tt
  first (G.mut-ref-type e l u r) = rw e tt
  first (G.const-ptr-type e r) = rw e tt
  first (G.mut-ptr-type e r) = rw e tt
  first (G.fn-type e g h r q) = rw e tt
  first (G.dyn-trait-type e g r e' l u) = rw e tt
  first (G.path-type o r) = first r
  first (G.dyn-trait r q) = first r
  first (G.generic-trait e r q) = rw e tt
  first (G.plain-trait {i = i} o o' r) = last_of i (first r)
  first (G.no-binding o) = tt
  first (G.type-binding e q r t) = tt
  first (G.unsigned-const {i = i} t q) = last_of i (of_test ltr.is_unsigned i refl refl refl refl t)
  first (G.signed-const {i = i} t q) = last_of i (of_test ltr.is_signed i refl refl refl refl t)
  first (G.bool-const e q) = rw e tt
  first (G.char-const e q) = rw e tt
  first (G.placeholder e) = rw e tt
  first (G.back G.to-path e q) = rw e tt
  first (G.back G.to_type e q) = rw e tt
  first (G.back G.to-const e q) = rw e tt
  first (G.back G.to-trait e q) = rw e tt
  first (G.followed G.to-path e q r) = rw e tt
  first (G.followed G.to_type e q r) = rw e tt
  first (G.followed G.to-const e q r) = rw e tt
  first (G.followed G.to-trait e q r) = rw e tt
  first (G.splat e r) = rw e tt
  first (G.pattern-type e r q) = rw e tt
  first (G.range-pattern e r q) = rw e tt
  first (G.or-pattern e r q) = rw e tt
  first (G.null-pattern e) = rw e tt
  first (G.const-binding e q e' r t) = tt
  first (G.string-const e q) = rw e tt
  first (G.string-ref-const e e' q) = rw e tt
  first (G.ref-const e o r) = rw e tt
  first (G.mut-ref-const e r) = rw e tt
  first (G.array-const e r) = rw e tt
  first (G.tuple-const e r) = rw e tt
  first (G.unit-const e r e') = rw e tt
  first (G.call-const e r e' q) = rw e tt
  first (G.struct-const e r e' q) = rw e tt
  first (G.field-const {i = i} e r) = named-first i e

  -- a list ends inside the symbol
  pub list-ends : {x : Item} {f : Follow} {n b i j : ℕ} → Reads s (many x) f n b i j → j ≤ length s
  list-ends (G.list-end {i = i} e) = omega (arith, at s _ e)
  list-ends (G.list-more r q) = list-ends q
  list-ends (G.back x _ _) = elim x [ ]
  list-ends (G.followed x _ _ _) = elim x [ ]
