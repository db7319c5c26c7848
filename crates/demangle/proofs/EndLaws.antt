-- A derivation ends within the symbol. Assumes nothing.
use Prim.Native.Nat.{ℕ, suc, ◌+◌, ◌≤◌}
use mathlib.Core.Path.{◌≡◌, refl, sym}
use mathlib.Core.List.{List}
use native.Mathlib.Omega.{arith}
use lib.Dec.{T}
use lib.ListN.{length}
use Rattle.parser.specs.Bytes.{past}
use Rattle.pieces.specs.Basic as basics
use Rattle.pieces.specs.Basic.{is_basic}
use Rattle.printer.specs.Letters.{'n'}
use Rattle.printer.proofs.WithinLaws.{named-within}
use Rattle.demangle.specs.Grammar as G
use Rattle.demangle.specs.Grammar.{Part, path, type, bare, arg, const, pattern, trait, trait-path, bindings, field, many, Follow, Leads, Reads}
use Rattle.demangle.proofs.RunLaws.{inside, at}
use Rattle.demangle.proofs.ClosedLaws.{integer-at, back_at_lem, nibbles-at, flag_at_lem, scalar-at, literal-at}

-- ---- where a derivation ends: bindings, of which there may be none, where they started within
abbrev pub EndIn : List ℕ → Part → ℕ → ℕ → Type 0
EndIn s path i j = j ≤ length s
EndIn s type i j = j ≤ length s
EndIn s bare i j = j ≤ length s
EndIn s arg i j = j ≤ length s
EndIn s const i j = j ≤ length s
EndIn s pattern i j = j ≤ length s
EndIn s trait i j = j ≤ length s
EndIn s trait-path i j = j ≤ length s
EndIn s bindings i j = i ≤ length s → j ≤ length s
EndIn s field i j = j ≤ length s
EndIn s (many x) i j = j ≤ length s

module _ (s : List ℕ) where
  leads-in : {p q : Part} {n m j : ℕ} (i : ℕ) → Leads p q n m → j ≤ length s → EndIn s p i j
  leads-in i G.to-path h = h
  leads-in i G.to_type h = h
  leads-in i G.to-const h = h
  leads-in i G.to-trait h = h

  behind : (i k : ℕ) → G.◌!◌ s i ≡ suc k → i + 1 ≤ length s
  behind i k e = omega (arith, at s k e)

  basic-in : (i : ℕ) → T (is_basic (G.◌!◌ s i)) → i + 1 ≤ length s
  unfolding is_basic basics.among basics.basic
  basic-in i t = omega (arith, inside s is_basic i refl t)

  pub ends : {p : Part} {f : Follow} {n b i j : ℕ} → Reads s p f n b i j → EndIn s p i j
  ends (G.crate-root {i = i} e q) = (named-within s (i + 1) _ _ _ (sym q) refl).inside
  ends (G.inherent-impl e d r q) = ends q
  ends (G.trait-impl e d r q t) = ends t
  ends (G.trait-definition e r q) = ends q
  ends (G.nested-path {k = k} e c r q) = (named-within s k _ _ _ (sym q) refl).inside
  ends (G.generic-args e r q) = ends q
  ends (G.list-end {i = i} e) = behind i _ e
  ends (G.list-more r q) = ends q
  ends (G.lifetime-arg {i = i} e q u) = rw q at (integer-at s (λ j. j ≤ length s) (i + 1) (λ e h l. l))
  ends (G.type-arg r) = ends r
  ends (G.const-arg e r) = ends r
  ends (G.plain_type r) = ends r
  ends (G.basic-type {i = i} t) = basic-in i t
  ends (G.array-type e r q) = ends q
  ends (G.slice-type e r) = ends r
  ends (G.tuple_type e r) = ends r
  ends (G.ref-type e l u r) = ends r
  ends (G.mut-ref-type e l u r) = ends r
  ends (G.const-ptr-type e r) = ends r
  ends (G.mut-ptr-type e r) = ends r
  ends (G.fn-type e g h r q) = ends q
  ends (G.dyn-trait-type {k = k} e g r e' l u) = rw l at (integer-at s (λ j. j ≤ length s) (k + 1) (λ e h l. l))
  ends (G.path-type o r) = ends r
  ends (G.dyn-trait r q) = ends q (ends r)
  ends (G.generic-trait e r q) = ends q
  ends (G.plain-trait o o' r) = ends r
  ends (G.no-binding o) = λ h. h
  ends (G.type-binding e q r t) = λ h. ends t (ends r)
  ends (G.unsigned-const {i = i} t q) = rw q at (nibbles-at s (λ j. j ≤ length s) (i + 1) (λ e h l. l))
  ends (G.signed-const {i = i} t q) = rw q at (nibbles-at s (λ j. j ≤ length s) (past 'n' s (i + 1)) (λ e h l. l))
  ends (G.bool-const {i = i} e q) = rw q at (flag_at_lem s (λ j. j ≤ length s) (i + 1) (λ e h l. l))
  ends (G.char-const {i = i} e q) = rw q at (scalar-at s (λ j. j ≤ length s) (i + 1) (λ e h l. l))
  ends (G.placeholder {i = i} e) = behind i _ e
  ends (G.back {i = i} u e q) = leads-in i u (rw q at (back_at_lem s (λ j. j ≤ length s) (i + 1) (λ e h l. l)))
  ends (G.followed {i = i} u e q r) = leads-in i u (rw q at (back_at_lem s (λ j. j ≤ length s) (i + 1) (λ e h l. l)))
  ends (G.splat e r) = ends r
  ends (G.pattern-type e r q) = ends q
  ends (G.range-pattern e r q) = ends q
  ends (G.or-pattern e r q) = ends q
  ends (G.null-pattern {i = i} e) = behind i _ e
  ends (G.const-binding e q e' r t) = λ h. ends t (ends r)
  ends (G.string-const {i = i} e q) = rw q at (literal-at s (λ j. j ≤ length s) (i + 1) (λ e h l. l))
  ends (G.string-ref-const {i = i} e e' q) = rw q at (literal-at s (λ j. j ≤ length s) (i + 1 + 1) (λ e h l. l))
  ends (G.ref-const e o r) = ends r
  ends (G.mut-ref-const e r) = ends r
  ends (G.array-const e r) = ends r
  ends (G.tuple-const e r) = ends r
  ends (G.unit-const {j = j} e r e') = behind j _ e'
  ends (G.call-const e r e' q) = ends q
  ends (G.struct-const e r e' q) = ends q
  ends (G.field-const e r) = ends r
