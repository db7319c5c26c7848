-- What is claimed: the model and the grammar agree, a derivation's end is the only one, what is sound is accepted, and what has nothing to follow is
-- sound. Assumes nothing.
use Rattle.std.specs.Prelude.{Some}
use mathlib.Core.Path.{◌≡◌}
use mathlib.Core.Bool.{Bool, true, false}
use mathlib.Core.List.{List}
use Prim.Native.Nat.{ℕ, ◌+◌}
use native.Mathlib.Omega.{arith}
use Rattle.parser.specs.Number.{back_at}
use Rattle.pieces.specs.Piece.{Piece}
use Rattle.pieces.specs.Words.{comma-blank}
use Rattle.printer.specs.Says.{U, ok, Says}
use Rattle.printer.specs.Letters as ltr
use Rattle.printer.specs.Model as g
use Rattle.demangle.specs.Grammar as G
use Rattle.demangle.specs.Grammar.{◌!◌, Item, types, args, consts, patterns, traits, fields, Part, path, type, bare, arg, const, pattern, trait}
use Rattle.demangle.specs.Grammar.{trait-path, bindings, field, many}
use Rattle.demangle.specs.Grammar.{Follow, check, sound, free, Bound, Leads, Reads}
use Rattle.demangle.proofs.RunLaws.{same_end}
use Rattle.demangle.proofs.SoundLaws.{asks, level-right}
use Rattle.demangle.proofs.CompleteLaws.{follows, Lists, RunsMany, Runs, complete}

-- ---- a derivation of what asks f is one of what asks h
data Gives : Follow → Follow → Type 0 where
  same : {f : Follow} → Gives f f
  less : Gives sound check
  none : {f : Follow} → Gives free f

zero-bound : (f : Follow) (b v : ℕ) → v ≡ 0 → Bound f b v
zero-bound check b v e = tt
zero-bound sound b v e = omega arith
zero-bound free b v e = e

bound-gives : {f h : Follow} → Gives f h → (b v : ℕ) → Bound f b v → Bound h b v
bound-gives same b v u = u
bound-gives less b v u = tt
bound-gives (none {f}) b v u = zero-bound f b v u

module _ (s : List ℕ) where
  back-gives : {p q : Part} {h : Follow} {n m b i j v : ℕ} → Gives check h → Leads p q n m → s ! i ≡ ltr.'B' → back_at s (i + 1) ≡ Some (v, j) → Reads s p h n b i j
  back-gives same u e q = G.back u e q

  followed-gives : {p q : Part} {h : Follow} {n m b i j k v : ℕ} → Gives sound h → Leads p q n m → s ! i ≡ ltr.'B' → back_at s (i + 1) ≡ Some (v, j)
      → Reads s q sound m b v k → Reads s p h n b i j
  followed-gives same u e q r = G.followed u e q r
  followed-gives less u e q r = G.back u e q

  gives : {p : Part} {f h : Follow} {n b i j : ℕ} → Gives f h → Reads s p f n b i j → Reads s p h n b i j
  gives a (G.crate-root e q) = G.crate-root e q
  gives a (G.inherent-impl e d r q) = G.inherent-impl e d r (gives a q)
  gives a (G.trait-impl e d r q t) = G.trait-impl e d r (gives a q) (gives a t)
  gives a (G.trait-definition e r q) = G.trait-definition e (gives a r) (gives a q)
  gives a (G.nested-path e c r q) = G.nested-path e c (gives a r) q
  gives a (G.generic-args e r q) = G.generic-args e (gives a r) (gives a q)
  gives a (G.list-end e) = G.list-end e
  gives a (G.list-more r q) = G.list-more (gives a r) (gives a q)
  gives a (G.lifetime-arg e q u) = G.lifetime-arg e q (bound-gives a _ _ u)
  gives a (G.type-arg r) = G.type-arg (gives a r)
  gives a (G.const-arg e r) = G.const-arg e (gives a r)
  gives a (G.plain_type r) = G.plain_type (gives a r)
  gives a (G.basic-type t) = G.basic-type t
  gives a (G.array-type e r q) = G.array-type e (gives a r) (gives a q)
  gives a (G.slice-type e r) = G.slice-type e (gives a r)
  gives a (G.tuple_type e r) = G.tuple_type e (gives a r)
  gives a (G.ref-type e l u r) = G.ref-type e l (bound-gives a _ _ u) (gives a r)
  gives a (G.mut-ref-type e l u r) = G.mut-ref-type e l (bound-gives a _ _ u) (gives a r)
  gives a (G.const-ptr-type e r) = G.const-ptr-type e (gives a r)
  gives a (G.mut-ptr-type e r) = G.mut-ptr-type e (gives a r)
  gives a (G.fn-type e d h r q) = G.fn-type e d h (gives a r) (gives a q)
  gives a (G.dyn-trait-type e d r e' l u) = G.dyn-trait-type e d (gives a r) e' l (bound-gives a _ _ u)
  gives a (G.path-type o r) = G.path-type o (gives a r)
  gives a (G.dyn-trait r q) = G.dyn-trait (gives a r) (gives a q)
  gives a (G.generic-trait e r q) = G.generic-trait e (gives a r) (gives a q)
  gives a (G.plain-trait o o' r) = G.plain-trait o o' (gives a r)
  gives a (G.no-binding o) = G.no-binding o
  gives a (G.type-binding e q r t) = G.type-binding e q (gives a r) (gives a t)
  gives a (G.unsigned-const t q) = G.unsigned-const t q
  gives a (G.signed-const t q) = G.signed-const t q
  gives a (G.bool-const e q) = G.bool-const e q
  gives a (G.char-const e q) = G.char-const e q
  gives a (G.placeholder e) = G.placeholder e
  gives a (G.back u e q) = back-gives a u e q
  gives a (G.followed u e q r) = followed-gives a u e q r
  gives a (G.splat e r) = G.splat e (gives a r)
  gives a (G.pattern-type e r q) = G.pattern-type e (gives a r) (gives a q)
  gives a (G.range-pattern e r q) = G.range-pattern e (gives a r) (gives a q)
  gives a (G.or-pattern e r q) = G.or-pattern e (gives a r) (gives a q)
  gives a (G.null-pattern e) = G.null-pattern e
  gives a (G.const-binding e q e' r t) = G.const-binding e q e' (gives a r) (gives a t)
  gives a (G.string-const e q) = G.string-const e q
  gives a (G.string-ref-const e e' q) = G.string-ref-const e e' q
  gives a (G.ref-const e o r) = G.ref-const e o (gives a r)
  gives a (G.mut-ref-const e r) = G.mut-ref-const e (gives a r)
  gives a (G.array-const e r) = G.array-const e (gives a r)
  gives a (G.tuple-const e r) = G.tuple-const e (gives a r)
  gives a (G.unit-const e r e') = G.unit-const e (gives a r) e'
  gives a (G.call-const e r e' q) = G.call-const e (gives a r) e' (gives a q)
  gives a (G.struct-const e r e' q) = G.struct-const e (gives a r) e' (gives a q)
  gives a (G.field-const e r) = G.field-const e (gives a r)

  -- ---- two runs of a part from one place
  list-one : (m : Says U) (i : ℕ) {j k : ℕ} → Lists s m i j → Lists s m i k → j ≡ k
  list-one m i {j} {k} h r = same_end (h comma-blank (j + k) 0 (omega arith)).1 (r comma-blank (j + k) 0 (omega arith)).1

  items-one : (x : Item) (f : Bool) (n b i j k : ℕ) → RunsMany s x f n b i j → RunsMany s x f n b i k → j ≡ k
  items-one types f n b i j k h r = list-one _ i h r
  items-one args f n b i j k h r = list-one _ i h r
  items-one consts f n b i j k h r = list-one _ i h r
  items-one patterns f n b i j k h r = same_end (h (j + k) (omega arith)) (r (j + k) (omega arith))
  items-one traits f n b i j k h r = list-one _ i h r
  items-one fields f n b i j k h r = list-one _ i h r

  runs-one : (p : Part) (f : Bool) (n b i j k : ℕ) → Runs s p f n b i j → Runs s p f n b i k → j ≡ k
  runs-one path f n b i j k h r = same_end (h true) (r true)
  runs-one type f n b i j k h r = same_end h r
  runs-one bare f n b i j k h r = same_end h r
  runs-one arg f n b i j k h r = same_end h r
  runs-one const f n b i j k h r = same_end (h true) (r true)
  runs-one pattern f n b i j k h r = same_end h r
  runs-one trait f n b i j k h r = same_end (h (j + k) (omega arith)) (r (j + k) (omega arith))
  runs-one trait-path f n b i j k h r = same_end h.1 r.1
  runs-one bindings f n b i j k h r = same_end (h (j + k + 1) true (omega arith)) (r (j + k + 1) true (omega arith))
  runs-one field f n b i j k h r = same_end h r
  runs-one (many x) f n b i j k h r = items-one x f n b i j k h r

  -- ======== THE THEOREMS
  -- where the model reads a path without an error and without damage, there is a derivation
  pub derived : (n : ℕ) (value f : Bool) (b i j : ℕ) {v : U} {ps : List Piece} → ((g.level s n).path value f (g.held b)).run i ≡ ok v j false ps
      → Reads s path (asks f) n b i j
  derived n value f b i j e = (rw e at ((level-right s n).paths value f b i)).out

  -- the check, which follows nothing, is damaged by nothing
  pub checked : (n : ℕ) (value d : Bool) (b i j : ℕ) {v : U} {ps : List Piece} → ((g.level s n).path value false (g.held b)).run i ≡ ok v j d ps
      → Reads s path check n b i j
  checked n value true b i j e = absurd (rw e at ((level-right s n).paths value false b i)).out
  checked n value false b i j e = derived n value false b i j e

  -- where there is a derivation, the model reads the path to its end, without an error and without damage
  pub whole : {n b i j : ℕ} (value f : Bool) → Reads s path (asks f) n b i j
      → (ps : List Piece) × (((g.level s n).path value f (g.held b)).run i ≡ ok tt j false ps)
  whole value true r = let h = complete s r value in (h.print, h.is)
  whole value false r = let h = complete s r value in (h.print, h.is)

  -- two derivations from one place end at one place
  pub one_end : {p : Part} {f : Follow} {n b i j k : ℕ} → Reads s p f n b i j → Reads s p f n b i k → j ≡ k
  one_end {p} {f} {n} {b} {i} {j} {k} q r = runs-one p (follows f) n b i j k (complete s q) (complete s r)

  -- what is sound is accepted, to the same end; so the two readings end at one place
  pub unfollowed : {p : Part} {n b i j : ℕ} → Reads s p sound n b i j → Reads s p check n b i j
  unfollowed r = gives less r

  pub sound-ends : {p : Part} {n b i j k : ℕ} → Reads s p sound n b i j → Reads s p check n b i k → j ≡ k
  sound-ends q r = one_end (unfollowed q) r

  -- what reads no back reference and no lifetime but 0 is sound, and accepted
  pub free-reads : {p : Part} {f : Follow} {n b i j : ℕ} → Reads s p free n b i j → Reads s p f n b i j
  free-reads r = gives none r
