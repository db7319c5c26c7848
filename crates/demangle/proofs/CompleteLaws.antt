-- COMPLETE: where there is a derivation, the model reads to its end, without an error and without damage. Assumes nothing.
use Rattle.std.specs.Prelude.{Some}
use mathlib.Core.Path.{◌≡◌, refl, ap}
use mathlib.Core.Logic.{◌≢◌}
use mathlib.Core.Bool.{Bool, true, false, not}
use mathlib.Core.List.{List, [], ◌∷◌}
use Prim.Native.Nat.{ℕ, zero, suc, ◌+◌, ◌^◌, ◌≤◌, ◌<◌}
use native.Mathlib.Omega.{arith}
use borrow.Author.Tests.{eqb-true, eqb-false, le-leb}
use lib.Dec.{T, eqb, leb}
use lib.ListN.{length}
use Rattle.parser.specs.Digits.{if-then}
use Rattle.parser.specs.Bytes.{past}
use Rattle.parser.specs.Number.{integer62, optional62, back_at, hex_at}
use Rattle.parser.specs.Names.{ident_at}
use Rattle.parser.specs.declared.names.Name.{Name}
use Rattle.pieces.specs.Basic as basics
use Rattle.pieces.specs.Basic.{is_basic}
use Rattle.pieces.specs.Piece.{word}
use Rattle.pieces.specs.Words as W
use Rattle.pieces.specs.declared.words.Word.{Word}
use Rattle.printer.specs.Says.{U, invalid, too_deep, Res, ok, Says, refused, onto, next, ◌>>=◌, ◌then◌, give, emit, on_error, reader, need, choose, mute}
use Rattle.printer.specs.Says.{pick}
use Rattle.printer.specs.Readings.{life_at, head_at, literal_at}
use Rattle.printer.specs.declared.read.Head.{Head}
use Rattle.printer.specs.declared.kinds.Item.{Item}
use Rattle.printer.specs.declared.kinds.Item.TheVariants.{Ty as AType, Arg, Expr as AValue, Field, Trait}
use Rattle.printer.specs.Letters as ltr
use Rattle.printer.specs.Model as g
use Rattle.demangle.specs.Grammar as G
use Rattle.demangle.specs.Grammar.{◌!◌, Part, path, type, bare, arg, const, pattern, trait, trait-path, bindings, field, many, types, args, consts}
use Rattle.demangle.specs.Grammar.{patterns, traits, fields, each, Follow, check, sound, free, Bound}
use Rattle.demangle.specs.Grammar.{Leads, Reads}
use Rattle.demangle.proofs.RunLaws.{is_true, Good, good, same_end, say-good, join, hush-good, taken-good, caught-good, choose-good, ◌∉◌, any-of}
use Rattle.demangle.proofs.RunLaws.{add_none, pick_good, inside, at, found, missing, past-good, past-not-good}
use Rattle.demangle.proofs.ReadLaws.{eat-good, eat-not-good, by-tag-good, or-tag, hex-got}
use Rattle.demangle.proofs.GrowLaws.{ident-grows, integer-fits, life-fits}
use Rattle.demangle.proofs.DerivationLaws.{least, grows, letters, path-first, never, type-last-of, first, list-ends}
use Rattle.demangle.proofs.SoundLaws.{held-sum}

-- whether the model follows
abbrev pub follows : Follow → Bool
follows check = false
follows sound = true
follows free = true

-- ---- lifetimes: those that fit 64 bits are looked up alike in the count and in the count held
looked-up : (b v j : ℕ) → v < 2 ^ 64 → v ≤ b → Good ((g.life_of true (g.held b) v).run j) tt j
unfolding g.life_of choose emit
looked-up b v j h k = choose-good (eqb v 0) _ _ (λ _. good tt j _) (λ _. choose-good (leb v (g.held b)) _ _ (λ _. good tt j _) (λ e. absurd (out e)))
  where
    out : leb v (g.held b) ≡ false → ⊥
    out e = let z : ◌≡◌ {A = ℕ} 0 1 = cc (le-leb v (g.held b) (omega arith)) in omega arith

life-good : (f : Follow) (b v j : ℕ) → v < 2 ^ 64 → Bound f b v → Good ((g.life_of (follows f) (g.held b) v).run j) tt j
unfolding g.life_of choose emit
life-good check b v j h u = good tt j _
life-good sound b v j h u = looked-up b v j h u
life-good free b v j h u = looked-up b v j h (omega arith)

module _ (f : Follow) (b v j : ℕ) (fits : v < 2 ^ 64) (bound : Bound f b v) where
  ref-life-good : Good ((g.ref_life (follows f) (g.held b) v).run j) tt j
  unfolding g.ref_life emit ◌then◌ ◌>>=◌
  ref-life-good = choose-good (eqb v 0) _ _ (λ _. good tt j _) (λ _. join _ (life-good f b v j fits bound) (good tt j _))

  end-life-good : Good ((g.end_life (follows f) (g.held b) v).run j) tt j
  unfolding g.end_life emit ◌then◌ ◌>>=◌ next
  end-life-good = choose-good (eqb v 0) _ _ (λ _. good tt j _) (λ _. say-good (word W.plus ∷ []) (life-good f b v j fits bound))

module _ (s : List ℕ) where
  lifetime-good : (f : Follow) (b i : ℕ) {v j : ℕ} → integer62 s i ≡ Some (v, j) → Bound f b v → Good ((g.lifetime s (follows f) (g.held b)).run i) tt j
  unfolding g.lifetime need reader
  lifetime-good f b i {v} {j} e u = taken-good _ _ _ (ap g.got_from e) (life-good f b v j (integer-fits s i e) u)

  bound-good : (f : Follow) (b i : ℕ) {v j : ℕ} → s ! i ≡ ltr.'L' → integer62 s (i + 1) ≡ Some (v, j) → Bound f b v
      → Good ((g.bound s (follows f) (g.held b)).run i) tt j
  unfolding g.bound g.bound_life need reader
  bound-good f b i {v} {j} e q u = eat-good s i _ _ e (taken-good _ _ _ (ap g.got_from q) (end-life-good f b v j (integer-fits s (i + 1) q) u))

  reference-good : (m : Bool) (f : Follow) (b i : ℕ) {v j : ℕ} → life_at s i ≡ Some (v, j) → Bound f b v
      → Good ((g.reference s m (follows f) (g.held b)).run i) true j
  unfolding g.reference g.ref_rest need reader emit give ◌then◌ ◌>>=◌ next onto
  reference-good m f b i {v} {j} e u = say-good (word W.ref ∷ []) (taken-good _ _ _ (ap g.got_from e) (join _ (ref-life-good f b v j (life-fits s i e) u) (good true j _)))

  head-good : (i : ℕ) {h : Head} {j : ℕ} → head_at s i ≡ Some (h, j) → Good ((g.sig_head s).run i) true j
  unfolding g.sig_head need reader emit give ◌then◌ ◌>>=◌ next onto
  head-good i {j = j} e = taken-good _ _ _ (ap g.got_from e) (good true j _)

  uint-good : (tag i : ℕ) {e j : ℕ} → hex_at s i ≡ Some (e, j) → Good ((g.uint s tag).run i) tt j
  unfolding g.uint need reader emit
  uint-good tag i {j = j} q = taken-good _ _ _ (hex-got s i q).1 (good tt j _)

  int-good : (tag i : ℕ) {e j : ℕ} → hex_at s (past ltr.'n' s i) ≡ Some (e, j) → Good ((g.int s tag).run i) tt j
  unfolding g.int emit ◌then◌ ◌>>=◌ next
  int-good tag i {e} {j} q = go (eqb (s ! i) ltr.'n') refl
    where
      go : (t : Bool) → eqb (s ! i) ltr.'n' ≡ t → Good ((g.int s tag).run i) tt j
      go true h = let h' = eqb-true _ _ h in eat-good s i (g.say W.minus then g.uint s tag) (g.uint s tag) h' (say-good (word W.minus ∷ []) (uint-good tag (i + 1) (rw (found s _ i h') at q)))
      go false h = let h' = eqb-false _ _ h in eat-not-good s i (g.say W.minus then g.uint s tag) (g.uint s tag) h' (uint-good tag i (rw (missing s _ i h') at q))

  literal-good : (i : ℕ) {e j : ℕ} → literal_at s i ≡ Some (e, j) → Good ((g.literal s).run i) tt j
  unfolding g.literal need reader emit
  literal-good i {j = j} q = taken-good _ _ _ (ap (g.got_literal i) q) (good tt j _)

  -- ---- lists: as many turns as the list has bytes are enough
  abbrev pub Lists : Says U → ℕ → ℕ → Type 0
  Lists m i j = (t : Word) (k c : ℕ) → j ≤ i + k → (d : ℕ) × Good ((g.list_n s t m k c).run i) d j

  end-good : (m : Says U) (i : ℕ) → s ! i ≡ ltr.'E' → Lists m i (i + 1)
  unfolding g.list_n
  end-good m i e t zero c h = absurd (omega arith)
  end-good m i e t (suc k) c h = (c, past-good s _ i (λ j. ok c j false []) _ e (good c (i + 1) []))

  more-good : (m : Says U) {i j l : ℕ} → s ! i ∉ ltr.'E' ∷ [] → Good (m.run i) tt j → i < j → j < l → Lists m j l → Lists m i l
  unfolding g.list_n ltr.any_of emit ◌then◌ ◌>>=◌ next
  more-good m o h lt lt' r t zero c q = absurd (omega arith)
  more-good m {i} o h lt lt' r t (suc k) c q =
      let w = r t k (suc c) (omega arith) in
      (w.0, past-not-good s _ i (λ j. ok c j false []) _ (λ e. rw e at o) (say-good _ (join _ h w.1)))

  list-good : (p : g.Level) (m : Says U) (t : Word) (i : ℕ) {j : ℕ} → Lists m i j → j ≤ length s → (d : ℕ) × Good ((g.list_of s p t m).run i) d j
  unfolding g.list_of
  list-good p m t i h l = h t (length s) 0 (omega arith)

  -- ---- the productions, over what stands a level below
  module _ (p : g.Level) (f : Bool) (b : ℕ) where
    items-good : (k : Item) (i : ℕ) {j : ℕ} → Lists (g.element s p k f b) i j → j ≤ length s → (d : ℕ) × Good ((g.list s p k f b).run i) d j
    unfolding g.list
    items-good k i h l = list-good p _ _ i h l

    tuple-good : (k : Item) (i : ℕ) {j : ℕ} → Lists (g.element s p k f b) i j → j ≤ length s → Good ((g.tuple s p k f b).run i) tt j
    unfolding g.tuple emit ◌then◌ ◌>>=◌ next onto
    tuple-good k i {j} h l = say-good (word W.paren ∷ []) (join _ (items-good k i h l).1 (good tt j _))

    between-good : (from : Word) (k : Item) (to : Word) (i : ℕ) {j : ℕ} → Lists (g.element s p k f b) i j → j ≤ length s → Good ((g.between s p from k to f b).run i) tt j
    unfolding g.between emit ◌then◌ ◌>>=◌ next
    between-good from k to i {j} h l = say-good (word from ∷ []) (join _ (items-good k i h l).1 (good tt j _))

    fields-good : (from : Word) (k : Item) (to : Word) (value : Bool) (i : ℕ) {j : ℕ} → Lists (g.element s p k f b) i j → j ≤ length s
        → Good ((g.fields s p from k to value f b).run i) tt j
    unfolding g.fields emit ◌then◌ ◌>>=◌
    fields-good from k to value i {j} h l = join _ (between-good from k to i h l) (good tt j _)

    self-good : (i : ℕ) {j : ℕ} → Good ((g.type s p f b).run i) tt j → Good ((g.qself s p false f b).run i) tt j
    unfolding g.qself g.trt choose emit ◌then◌ ◌>>=◌ next onto
    self-good i {j} h = say-good (word W.less ∷ []) (join _ h (good tt j _))

    as-good : (i : ℕ) {j k : ℕ} → Good ((g.type s p f b).run i) tt j → Good ((p.path false f b).run j) tt k → Good ((g.qself s p true f b).run i) tt k
    unfolding g.qself g.trt choose emit ◌then◌ ◌>>=◌ next
    as-good i {j} {k} h q = say-good (word W.less ∷ []) (join _ h (join (λ _. g.say W.more) (say-good (word W.as-trait ∷ []) q) (good tt k (word W.more ∷ []))))

    braced-good : (tag : ℕ) (value : Bool) (i : ℕ) {j : ℕ} → Good ((g.body_by s p tag f b).run i) tt j → Good ((g.braced_by s p tag value f b).run i) tt j
    unfolding g.braced_by emit ◌then◌ ◌>>=◌ next
    braced-good tag value i {j} h = say-good _ (join _ h (good tt j _))

    refer-to-good : (m : Bool) (i : ℕ) {j : ℕ} → Good ((p.con true f b).run i) tt j → Good ((g.refer_to s p m f b).run i) tt j
    unfolding g.refer_to emit ◌then◌ ◌>>=◌ next
    refer-to-good m i h = say-good (word W.ref ∷ []) (say-good _ h)

    -- bindings: a turn for each, and one to end
    abbrev turn : ℕ → Bool → ℕ → Res U
    turn c o j = (g.binding s p o f b >>= λ y. choose y (g.bindings s p c true f b) (emit [])).run j

    none-good : (i k : ℕ) (opened : Bool) → s ! i ≢ ltr.'p' → i < i + k → Good ((g.bindings s p k opened f b).run i) tt i
    unfolding g.bindings emit
    none-good i zero opened o h = absurd (omega arith)
    none-good i (suc k) opened o h = past-not-good s _ i (turn k opened) _ o (good tt i _)

    bound-to-good : (i : ℕ) {x : Name} {k l : ℕ} → s ! i ≡ ltr.'p' → ident_at s (i + 1) ≡ Some x → Good ((g.bound_to s p f b).run x.end) tt k
        → i + 2 ≤ k → k ≤ l → ((c : ℕ) (o : Bool) → l < k + c → Good ((g.bindings s p c o f b).run k) tt l)
        → (c : ℕ) (o : Bool) → l < i + c → Good ((g.bindings s p c o f b).run i) tt l
    unfolding g.bindings g.binding g.bound_name need reader emit give choose ◌then◌ ◌>>=◌ next
    bound-to-good i e q h lt le r zero o w = absurd (omega arith)
    bound-to-good i {x = x} {k = k} e q h lt le r (suc c) o w = past-good s _ i (turn c o) _ e
        (join (λ y. choose y (g.bindings s p c true f b) (emit []))
        (say-good (word (if-then o W.comma-blank W.less) ∷ []) (taken-good _ _ _ (ap g.got_name q) (say-good (g.ident s x ∷ word W.equals ∷ []) (join _ h (good true k _))))) (r c true (omega arith)))

  -- ---- the model at a tag, with a level more
  path-tag : (n : ℕ) (value f : Bool) (b i : ℕ) {j k : ℕ} → s ! i ≡ suc k
      → Good (pick (suc k) (g.path_tags s (g.level s n) value f b) (λ m. refused tt invalid m) i (i + 1)) tt j
      → Good (((g.level s (suc n)).path value f b).run i) tt j
  unfolding g.level
  path-tag n value f b i e h = by-tag-good s tt _ i g.unknown (at s _ e) (rw e h)

  -- ---- what completeness says of each part
  abbrev element : Item → Bool → ℕ → ℕ → Says U
  element k f n b = g.element s (g.level s n) k f (g.held b)

  abbrev pub RunsMany : G.Item → Bool → ℕ → ℕ → ℕ → ℕ → Type 0
  RunsMany types f n b i j = Lists (element AType f n b) i j
  RunsMany args f n b i j = Lists (element Arg f n b) i j
  RunsMany consts f n b i j = Lists (element AValue f n b) i j
  RunsMany patterns f n b i j = (k : ℕ) → j ≤ i + k → Good ((g.alternatives s (g.level s n) k f (g.held b)).run i) tt j
  RunsMany traits f n b i j = Lists (element Trait f n b) i j
  RunsMany fields f n b i j = Lists (element Field f n b) i j

  abbrev pub Runs : Part → Bool → ℕ → ℕ → ℕ → ℕ → Type 0
  Runs path f n b i j = (value : Bool) → Good (((g.level s n).path value f (g.held b)).run i) tt j
  Runs type f n b i j = Good ((g.type s (g.level s n) f (g.held b)).run i) tt j
  Runs bare f n b i j = Good (((g.level s n).bare f (g.held b)).run i) tt j
  Runs arg f n b i j = Good ((g.arg s (g.level s n) f (g.held b)).run i) tt j
  Runs const f n b i j = (value : Bool) → Good (((g.level s n).con value f (g.held b)).run i) tt j
  Runs pattern f n b i j = Good ((g.pat s (g.level s n) f (g.held b)).run i) tt j
  Runs trait f n b i j = (k : ℕ) → j ≤ i + k → Good ((g.open_path s (g.level s n) f (g.held b) >>= λ o. g.bindings s (g.level s n) k o f (g.held b)).run i) tt j
  Runs trait-path f n b i j = (o : Bool) × Good ((g.open_path s (g.level s n) f (g.held b)).run i) o j
  Runs bindings f n b i j = (k : ℕ) (o : Bool) → j < i + k → Good ((g.bindings s (g.level s n) k o f (g.held b)).run i) tt j
  Runs field f n b i j = Good ((g.field s (g.level s n) f (g.held b)).run i) tt j
  Runs (many x) f n b i j = RunsMany x f n b i j

  -- ---- lists of each part
  bars-end : (f : Bool) (n b i : ℕ) → s ! i ≡ ltr.'E' → RunsMany patterns f n b i (i + 1)
  unfolding g.alternatives
  bars-end f n b i e zero h = absurd (omega arith)
  bars-end f n b i e (suc k) h = past-good s _ i (λ j. ok tt j false []) _ e (good tt (i + 1) [])

  bars-more : (f : Bool) (n b i : ℕ) {j l : ℕ} → s ! i ∉ ltr.'E' ∷ [] → Runs pattern f n b i j → i < j → j < l → RunsMany patterns f n b j l
      → RunsMany patterns f n b i l
  unfolding g.alternatives ltr.any_of emit ◌then◌ ◌>>=◌ next
  bars-more f n b i o h lt lt' r zero q = absurd (omega arith)
  bars-more f n b i o h lt lt' r (suc k) q =
      past-not-good s _ i (λ j. ok tt j false []) _ (λ e. rw e at o) (say-good (word W.or ∷ []) (join _ h (r k (omega arith))))

  many-end : (x : G.Item) (f : Bool) (n b i : ℕ) → s ! i ≡ ltr.'E' → RunsMany x f n b i (i + 1)
  many-end types f n b i e = end-good _ i e
  many-end args f n b i e = end-good _ i e
  many-end consts f n b i e = end-good _ i e
  many-end patterns f n b i e = bars-end f n b i e
  many-end traits f n b i e = end-good _ i e
  many-end fields f n b i e = end-good _ i e

  many_more : (x : G.Item) (f : Bool) (n b i : ℕ) {j l : ℕ} → s ! i ∉ never (each x) → i + least (each x) ≤ j → j < l → l ≤ length s
      → Runs (each x) f n b i j → RunsMany x f n b j l → RunsMany x f n b i l
  unfolding g.element g.dyn_trait
  many_more types f n b i o lt lt' le h r = more-good _ (type-last-of s i o) h (omega arith) lt' r
  many_more args f n b i o lt lt' le h r = more-good _ o h (omega arith) lt' r
  many_more consts f n b i o lt lt' le h r = more-good _ o (h true) (omega arith) lt' r
  many_more patterns f n b i o lt lt' le h r = bars-more f n b i o h (omega arith) lt' r
  many_more traits f n b i o lt lt' le h r = more-good _ o (h (length s) (omega arith)) (omega arith) lt' r
  many_more fields f n b i o lt lt' le h r = more-good _ o h (omega arith) lt' r

  -- ---- types and constants that start otherwise than by a tag of their own
  abbrev other : ℕ → Bool → ℕ → ℕ → ℕ → ℕ → Res U
  other n f b = λ c i j. pick c (g.type_tags s (g.level s n) f b) ((g.level s n).path false f b).run i j

  type-good : (n : ℕ) (f : Bool) (b i : ℕ) {j : ℕ} → i < length s → Good (g.basic_or s (other n f b) (s ! i) i (i + 1)) tt j
      → Good (((g.level s (suc n)).bare f b).run i) tt j
  unfolding g.level pick
  type-good n f b i l h = by-tag-good s tt [] i (g.basic_or s (other n f b)) l h

  type-tag : (n : ℕ) (f : Bool) (b i : ℕ) {j k : ℕ} → s ! i ≡ suc k → is_basic (suc k) ≡ false → Good (other n f b (suc k) i (i + 1)) tt j
      → Good (((g.level s (suc n)).bare f b).run i) tt j
  unfolding g.basic_or
  type-tag n f b i e o h = type-good n f b i (at s _ e) (rw (e, o) h)

  basic-good : (f : Bool) (n b i : ℕ) → T (is_basic (s ! i)) → Runs bare f n b i (i + 1)
  unfolding g.level g.basic_or is_basic basics.among basics.basic pick emit
  basic-good f zero b i t =
      by-tag-good s tt [] i (g.basic_or s (λ c m j. refused tt too_deep m)) (inside s is_basic i refl t) (rw (is_true (is_basic (s ! i)) t) (good tt (i + 1) _))
  basic-good f (suc n) b i t = type-good n f (g.held b) i (inside s is_basic i refl t) (rw (is_true (is_basic (s ! i)) t) (good tt (i + 1) _))

  path-type-good : (f : Bool) (n b i : ℕ) {j : ℕ} → T (ltr.any_of (s ! i) letters) → s ! i ≢ ltr.'B' → Runs path f n b i j → Runs bare f (suc n) b i j
  unfolding g.basic_or g.type_tags ltr.any_of is_basic basics.among basics.basic pick
  path-type-good f n b i {j} t o h = type-good n f (g.held b) i (inside s (λ c. ltr.any_of c letters) i refl t)
      (any-of (λ c. c ≢ ltr.'B' → Good (g.basic_or s (other n f (g.held b)) c i (i + 1)) tt j) (s ! i) letters
      (λ _. h false, (λ _. h false, (λ _. h false, (λ _. h false, (λ _. h false, (λ _. h false, (λ o'. absurd (o' refl), tt))))))) t o)

  abbrev constant : ℕ → Bool → Bool → ℕ → ℕ → ℕ → Res U
  constant n value f b i c = pick c (g.const_tags s (g.level s n) value f b) (λ m. g.integer s c m (i + 1)) i (i + 1)

  const-tag : (n : ℕ) (value f : Bool) (b i : ℕ) {j k : ℕ} → s ! i ≡ suc k → Good (constant n value f b i (suc k)) tt j
      → Good (((g.level s (suc n)).con value f b).run i) tt j
  unfolding g.level
  const-tag n value f b i e h = by-tag-good s tt _ i (g.integer s) (at s _ e) (rw e h)

  unsigned-good : (f : Bool) (n b i : ℕ) {e j : ℕ} → T (ltr.is_unsigned (s ! i)) → hex_at s (i + 1) ≡ Some (e, j) → Runs const f (suc n) b i j
  unfolding g.level g.const_tags g.integer ltr.is_unsigned ltr.any_of pick
  unsigned-good f n b i {j = j} t q value = by-tag-good s tt _ i (g.integer s) (inside s ltr.is_unsigned i refl t)
      (any-of (λ c. Good (constant n value f (g.held b) i c) tt j) (s ! i) (ltr.'h' ∷ ltr.'j' ∷ ltr.'m' ∷ ltr.'o' ∷ ltr.'t' ∷ ltr.'y' ∷ [])
      (u ltr.'h', (u ltr.'j', (u ltr.'m', (u ltr.'o', (u ltr.'t', (u ltr.'y', tt)))))) t)
    where
      u : (c : ℕ) → Good ((g.uint s c).run (i + 1)) tt j
      u c = uint-good c (i + 1) q

  signed-good : (f : Bool) (n b i : ℕ) {e j : ℕ} → T (ltr.is_signed (s ! i)) → hex_at s (past ltr.'n' s (i + 1)) ≡ Some (e, j) → Runs const f (suc n) b i j
  unfolding g.level g.const_tags g.integer ltr.is_unsigned ltr.is_signed ltr.any_of pick
  signed-good f n b i {j = j} t q value = by-tag-good s tt _ i (g.integer s) (inside s ltr.is_signed i refl t)
      (any-of (λ c. Good (constant n value f (g.held b) i c) tt j) (s ! i) (ltr.'a' ∷ ltr.'i' ∷ ltr.'l' ∷ ltr.'n' ∷ ltr.'s' ∷ ltr.'x' ∷ [])
      (u ltr.'a', (u ltr.'i', (u ltr.'l', (u ltr.'n', (u ltr.'s', (u ltr.'x', tt)))))) t)
    where
      u : (c : ℕ) → Good ((g.int s c).run (i + 1)) tt j
      u c = int-good c (i + 1) q

  -- ---- by the tag, without a level
  arg-tag : (p : g.Level) (f : Bool) (b i : ℕ) {c j : ℕ} → s ! i ≡ c
      → Good (pick c ((ltr.'L', g.lifetime s f b) ∷ (ltr.'K', p.con false f b) ∷ []) (g.type s p f b).run i (i + 1)) tt j → Good ((g.arg s p f b).run i) tt j
  unfolding g.arg ltr.any_of
  arg-tag p f b i e h = rw (or-tag s tt _ i (g.type s p f b).run tt, e) h

  arg-type : (p : g.Level) (f : Bool) (b i : ℕ) {j : ℕ} → s ! i ∉ never type → Good ((g.type s p f b).run i) tt j → Good ((g.arg s p f b).run i) tt j
  unfolding ltr.any_of
  arg-type p f b i o h = arg-tag p f b i refl (pick_good (s ! i) i _ _ _
      (add_none (s ! i) ltr.'L' (ltr.'K' ∷ []) (λ e. rw e at o) (add_none (s ! i) ltr.'K' [] (λ e. rw e at o) tt)) h)

  pat-tag : (p : g.Level) (f : Bool) (b i : ℕ) {j k : ℕ} → s ! i ≡ suc k
      → Good (pick (suc k) ((ltr.'R', g.range s p f b) ∷ (ltr.'O', p.ors f b) ∷ (ltr.'N', g.say W.null) ∷ []) (λ m. refused tt invalid m) i (i + 1)) tt j
      → Good ((g.pat s p f b).run i) tt j
  unfolding g.pat
  pat-tag p f b i e h = by-tag-good s tt _ i g.unknown (at s _ e) (rw e h)

  open-tag : (p : g.Level) (f : Bool) (b i : ℕ) {c j : ℕ} {o : Bool} → s ! i ≡ c
      → Good (pick c ((ltr.'B', g.open_back s p f b) ∷ (ltr.'I', g.open_generic s p f b) ∷ []) (g.shut_path s p f b).run i (i + 1)) o j
      → Good ((g.open_path s p f b).run i) o j
  unfolding g.open_path ltr.any_of
  open-tag p f b i e h = rw (or-tag s false _ i (g.shut_path s p f b).run tt, e) h

  shut-good : (p : g.Level) (f : Bool) (b i : ℕ) {j : ℕ} → s ! i ≢ ltr.'B' → s ! i ≢ ltr.'I' → Good ((p.path false f b).run i) tt j
      → Good ((g.open_path s p f b).run i) false j
  unfolding g.shut_path ltr.any_of give ◌then◌ ◌>>=◌
  shut-good p f b i {j} o o' h = open-tag p f b i refl (pick_good (s ! i) i _ _ _
      (add_none (s ! i) ltr.'B' (ltr.'I' ∷ []) o (add_none (s ! i) ltr.'I' [] o' tt)) (join _ h (good false j _)))

  variant_tag : (p : g.Level) (value f : Bool) (b i : ℕ) {j k : ℕ} → s ! i ≡ suc k
      → Good (pick (suc k) ((ltr.'U', g.say_if (not value) W.close) ∷ (ltr.'T', g.fields s p W.paren AValue W.paren-end value f b)
      ∷ (ltr.'S', g.fields s p W.fields Field W.fields-end value f b) ∷ []) (λ m. refused tt invalid m) i (i + 1)) tt j
      → Good ((g.variant s p value f b).run i) tt j
  unfolding g.variant
  variant_tag p value f b i e h = by-tag-good s tt _ i g.unknown (at s _ e) (rw e h)

  -- ---- function pointers and trait objects, whose binders are held
  result-good : (p : g.Level) (f : Bool) (b i : ℕ) {j : ℕ} → Good ((g.type s p f b).run i) tt j → (s ! i ≡ ltr.'u' → j ≡ i + 1)
      → Good ((g.result s p f b).run i) tt j
  unfolding g.result g.arrow emit ◌then◌ ◌>>=◌ next
  result-good p f b i {j} h k = go (eqb (s ! i) ltr.'u') refl
    where
      go : (t : Bool) → eqb (s ! i) ltr.'u' ≡ t → Good ((g.result s p f b).run i) tt j
      go true e = rw (k (eqb-true _ _ e)) (eat-good s i (emit []) (g.arrow s p f b) (eqb-true _ _ e) (good tt (i + 1) []))
      go false e = eat-not-good s i (emit []) (g.arrow s p f b) (eqb-false _ _ e) (say-good (word W.arrow ∷ []) h)

  signature-good : (p : g.Level) (f : Bool) (b i : ℕ) {h : Head} {j k l : ℕ} → head_at s i ≡ Some (h, j) → Lists (g.element s p AType f b) j k
      → k ≤ length s → Good ((g.result s p f b).run k) tt l → Good ((g.signature s p f b).run i) tt l
  unfolding g.signature g.parameters choose emit ◌then◌ ◌>>=◌ next
  signature-good p f b i e h le r = join _ (head-good i e) (join _ (items-good p f b AType _ h le).1 (say-good (word W.paren-end ∷ []) r))

  function-good : (p : g.Level) (f : Bool) (b i : ℕ) {m j k : ℕ} → optional62 ltr.'G' s i ≡ Some (m, j) → Good ((g.signature s p f (g.held (b + m))).run j) tt k
      → Good ((g.function s p f (g.held b)).run i) tt k
  unfolding g.function need reader emit ◌then◌ ◌>>=◌ next
  function-good p f b i {m} e h = taken-good _ _ _ (ap g.got_from e) (rw (held-sum b m) (say-good _ h))

  object-good : (p : g.Level) (f : Bool) (b i : ℕ) {m j k l : ℕ} → optional62 ltr.'G' s i ≡ Some (m, j) → Lists (g.element s p Trait f (g.held (b + m))) j k
      → k ≤ length s → Good ((g.bound s f (g.held b)).run k) tt l → Good ((g.object s p f (g.held b)).run i) tt l
  unfolding g.object g.traits need reader emit ◌then◌ ◌>>=◌ next
  object-good p f b i {m} {k = k} e h le r =
      say-good (word W.dyn ∷ []) (join _ (taken-good _ _ _ (ap g.got_from e) (rw (held-sum b m) (say-good _ (join _ (items-good p f _ Trait _ h le).1 (good tt k _))))) r)

  or-good : (f : Bool) (n b i : ℕ) {j k : ℕ} → Runs pattern f n b i j → RunsMany patterns f n b j k → k ≤ length s
      → Good (((g.level s (suc n)).ors f (g.held b)).run i) tt k
  unfolding g.level ◌then◌ ◌>>=◌
  or-good f n b i h r le = join _ h (r (length s) (omega arith))

  -- ---- back references: only read, and followed
  back-good : {p q : Part} {n m : ℕ} → Leads p q n m → (b i v j : ℕ) → s ! i ≡ ltr.'B' → back_at s (i + 1) ≡ Some (v, j) → Runs p false n b i j
  unfolding g.path_tags g.type_tags g.const_tags g.level g.back g.open_back g.target need reader is_basic basics.among basics.basic pick
  back-good (G.to-path {m}) b i v j e q = λ value. path-tag (suc m) value false _ i e (taken-good _ _ _ (ap g.got_from q) (good tt j _))
  back-good (G.to_type {m}) b i v j e q = type-tag (suc m) false _ i e refl (taken-good _ _ _ (ap g.got_from q) (good tt j _))
  back-good (G.to-const {m}) b i v j e q = λ value. const-tag (suc m) value false _ i e (taken-good _ _ _ (ap g.got_from q) (good tt j _))
  back-good (G.to-trait {m}) b i v j e q = (false, open-tag (g.level s (suc m)) false _ i e (taken-good _ _ _ (ap g.got_from q) (good false j _)))

  followed-path : (m b i v j k : ℕ) (value : Bool) → s ! i ≡ ltr.'B' → back_at s (i + 1) ≡ Some (v, j) → Runs path true m b v k
      → Good (((g.level s (suc (suc m))).path value true (g.held b)).run i) tt j
  unfolding g.path_tags g.level g.back g.target g.says need reader pick
  followed-path m b i v j k true e q h = path-tag (suc m) true true _ i e (taken-good _ _ _ (ap g.got_from q) (caught-good j (h true)))
  followed-path m b i v j k false e q h = path-tag (suc m) false true _ i e (taken-good _ _ _ (ap g.got_from q) (caught-good j (h false)))

  followed-const : (m b i v j k : ℕ) (value : Bool) → s ! i ≡ ltr.'B' → back_at s (i + 1) ≡ Some (v, j) → Runs const true m b v k
      → Good (((g.level s (suc (suc m))).con value true (g.held b)).run i) tt j
  unfolding g.const_tags g.level g.back g.target g.says need reader pick
  followed-const m b i v j k true e q h = const-tag (suc m) true true _ i e (taken-good _ _ _ (ap g.got_from q) (caught-good j (h true)))
  followed-const m b i v j k false e q h = const-tag (suc m) false true _ i e (taken-good _ _ _ (ap g.got_from q) (caught-good j (h false)))

  followed-good : {p q : Part} {n m : ℕ} → Leads p q n m → (b i v j k : ℕ) → s ! i ≡ ltr.'B' → back_at s (i + 1) ≡ Some (v, j) → Runs q true m b v k
      → Runs p true n b i j
  unfolding g.type_tags g.level g.back g.open_back g.target g.says need reader is_basic basics.among basics.basic pick
  followed-good (G.to-path {m}) b i v j k e q h = λ value. followed-path m b i v j k value e q h
  followed-good (G.to_type {m}) b i v j k e q h = type-tag (suc m) true _ i e refl (taken-good _ _ _ (ap g.got_from q) (caught-good j h))
  followed-good (G.to-const {m}) b i v j k e q h = λ value. followed-const m b i v j k value e q h
  followed-good (G.to-trait {m}) b i v j k e q h = (h.0, open-tag (g.level s (suc m)) true _ i e (taken-good _ _ _ (ap g.got_from q) (caught-good j h.1)))

  -- a return type that is written `u` is a basic type
  unit-good : (f : Bool) (n b i : ℕ) {j : ℕ} → Runs type f n b i j → s ! i ≡ ltr.'u' → j ≡ i + 1
  unfolding g.type is_basic basics.among basics.basic
  unit-good f n b i h e =
      let o : s ! i ≢ ltr.'w' = λ w. omega arith in
      same_end h (eat-not-good s i _ _ o (basic-good f n b i (rw e tt)))

  pub complete : {p : Part} {f : Follow} {n b i j : ℕ} → Reads s p f n b i j → Runs p (follows f) n b i j
  unfolding g.path_tags g.krate g.nest g.nested g.imp g.generic g.type g.type_tags g.refer g.pointer g.array g.size g.patterned g.range g.open_generic
      g.bound_to g.field g.element g.const_tags g.boolean g.character g.body_by g.unsized_literal g.ref_const g.adt mute on_error need reader choose emit give
      ◌then◌ ◌>>=◌ next onto is_basic basics.among basics.basic ltr.any_of pick
  complete (G.crate-root {x = x} e q) = λ value. path-tag _ value _ _ _ e (taken-good _ _ _ (ap g.got_named q) (good tt x.end _))
  complete (G.inherent-impl e d r q) = λ value. path-tag _ value _ _ _ e (taken-good _ _ _ (ap g.got_from d)
      (join _ (hush-good (complete r false)) (self-good _ _ _ _ (complete q))))
  complete (G.trait-impl e d r q t) = λ value. path-tag _ value _ _ _ e (taken-good _ _ _ (ap g.got_from d)
      (join _ (hush-good (complete r false)) (as-good _ _ _ _ (complete q) (complete t false))))
  complete (G.trait-definition e r q) = λ value. path-tag _ value _ _ _ e (as-good _ _ _ _ (complete r) (complete q false))
  complete (G.nested-path {x = x} e c r q) = λ value. path-tag _ value _ _ _ e (taken-good _ _ _ (ap g.got_from c)
      (join _ (complete r value) (say-good [] (taken-good _ _ _ (ap g.got_named q) (good tt x.end _)))))
  complete (G.generic-args {k = k} e r q) = λ value. path-tag _ value _ _ _ e (join _ (complete r value)
      (say-good (word (if-then value W.value-less W.less) ∷ []) (join _ (items-good _ _ _ Arg _ (complete q) (list-ends s q)).1 (good tt k _))))
  complete (G.list-end {x} {i = i} e) = many-end x _ _ _ i e
  complete (G.list-more {x} {i = i} r q) = many_more x _ _ _ i (first s r) (grows s r) (omega (arith, grows s q)) (list-ends s q) (complete r) (complete q)
  complete (G.lifetime-arg {f} {b = b} {i = i} e q u) = arg-tag _ _ _ _ e (lifetime-good f b (i + 1) q u)
  complete (G.type-arg {i = i} r) = arg-type _ _ _ i (first s r) (complete r)
  complete (G.const-arg e r) = arg-tag _ _ _ _ e (complete r false)
  complete (G.plain_type {i = i} r) = eat-not-good s i _ _ (λ e. rw e at (first s r)) (complete r)
  complete (G.basic-type {f} {n} {b} {i} t) = basic-good (follows f) n b i t
  complete (G.array-type {k = k} e r q) = type-tag _ _ _ _ e refl (say-good (word W.bracket ∷ []) (join _ (complete r) (join (λ _. g.say W.bracket-end) (say-good (word W.semicolon ∷ []) (complete q true)) (good tt k (word W.bracket-end ∷ [])))))
  complete (G.slice-type {j = j} e r) = type-tag _ _ _ _ e refl (say-good (word W.bracket ∷ []) (join _ (complete r) (good tt j _)))
  complete (G.tuple_type e r) = type-tag _ _ _ _ e refl (tuple-good _ _ _ AType _ (complete r) (list-ends s r))
  complete (G.ref-type {f} {b = b} {i = i} e l u r) = type-tag _ _ _ _ e refl (join _ (reference-good false f b (i + 1) l u) (complete r))
  complete (G.mut-ref-type {f} {b = b} {i = i} e l u r) = type-tag _ _ _ _ e refl (join _ (reference-good true f b (i + 1) l u) (complete r))
  complete (G.const-ptr-type e r) = type-tag _ _ _ _ e refl (say-good (word W.ptr-const ∷ []) (complete r))
  complete (G.mut-ptr-type e r) = type-tag _ _ _ _ e refl (say-good (word W.ptr-mut ∷ []) (complete r))
  complete (G.fn-type {f} {n} {b} {i} {l = l} {g = g} e d h r q) =
      type-tag _ _ _ _ e refl (function-good _ _ b (i + 1) d (signature-good _ _ _ _ h (complete r) (list-ends s r)
      (result-good _ _ _ l (complete q) (unit-good (follows f) n (b + g) l (complete q)))))
  complete (G.dyn-trait-type {f} {b = b} {i = i} {k = k} e d r e' l u) =
      type-tag _ _ _ _ e refl (object-good _ _ b (i + 1) d (complete r) (list-ends s r) (bound-good f b k e' l u))
  complete (G.path-type {i = i} o r) = path-type-good _ _ _ i (path-first s r) o (complete r)
  complete (G.dyn-trait r q) = λ k le. join _ (complete r).1 (complete q k (complete r).0 (omega (arith, grows s r)))
  complete (G.generic-trait {k = k} e r q) =
      (true, open-tag _ _ _ _ e (join _ (complete r false) (say-good (word W.less ∷ []) (join _ (list-good _ _ _ _ (complete q) (list-ends s q)).1 (good true k _)))))
  complete (G.plain-trait {i = i} o o' r) = (false, shut-good _ _ _ i o o' (complete r false))
  complete (G.no-binding {i = i} o) = λ k opened h. none-good _ _ _ i k opened o h
  complete (G.type-binding {i = i} {x = x} e q r t) = bound-to-good _ _ _ i e q (eat-not-good s x.end _ _ (λ c. rw c at (first s r)) (complete r))
      (omega (arith, ident-grows s q, grows s r)) (omega (arith, grows s t)) (complete t)
  complete (G.unsigned-const {f} {n} {b} {i} t q) = unsigned-good (follows f) n b i t q
  complete (G.signed-const {f} {n} {b} {i} t q) = signed-good (follows f) n b i t q
  complete (G.bool-const {j = j} e q) = λ value. const-tag _ value _ _ _ e (taken-good _ _ _ (ap g.got_from q) (good tt j _))
  complete (G.char-const {j = j} e q) = λ value. const-tag _ value _ _ _ e (taken-good _ _ _ (ap g.got_from q) (good tt j _))
  complete (G.placeholder {i = i} e) = λ value. const-tag _ value _ _ _ e (good tt (i + 1) _)
  complete (G.back {b = b} {i = i} {j = j} {v = v} u e q) = back-good u b i v j e q
  complete (G.followed {b = b} {i = i} {j = j} {k = k} {v = v} u e q r) = followed-good u b i v j k e q (complete r)
  complete (G.splat {i = i} e r) = eat-good s i _ _ e (say-good (word W.splat ∷ []) (complete r))
  complete (G.pattern-type e r q) = type-tag _ _ _ _ e refl (join _ (complete r) (say-good (word W.is ∷ []) (complete q)))
  complete (G.range-pattern e r q) = pat-tag _ _ _ _ e (join _ (complete r false) (say-good (word W.range ∷ []) (complete q false)))
  complete (G.or-pattern e r q) = pat-tag _ _ _ _ e (or-good _ _ _ _ (complete r) (complete q) (list-ends s q))
  complete (G.null-pattern {i = i} e) = pat-tag _ _ _ _ e (good tt (i + 1) _)
  complete (G.const-binding {i = i} {x = x} e q e' r t) = bound-to-good _ _ _ i e q (eat-good s x.end _ _ e' (complete r false))
      (omega (arith, ident-grows s q, grows s r)) (omega (arith, grows s t)) (complete t)
  complete (G.string-const {i = i} e q) = λ value. const-tag _ value _ _ _ e (braced-good _ _ _ ltr.'e' value (i + 1) (say-good (word W.star ∷ []) (literal-good (i + 1) q)))
  complete (G.string-ref-const {i = i} e e' q) = λ value. const-tag _ value _ _ _ e (eat-good s (i + 1) _ _ e' (literal-good (i + 1 + 1) q))
  complete (G.ref-const {i = i} e o r) =
      λ value. const-tag _ value _ _ _ e (eat-not-good s (i + 1) _ _ o (braced-good _ _ _ ltr.'R' value _ (refer-to-good _ _ _ false _ (complete r true))))
  complete (G.mut-ref-const {i = i} e r) = λ value. const-tag _ value _ _ _ e (braced-good _ _ _ ltr.'Q' value _ (refer-to-good _ _ _ true _ (complete r true)))
  complete (G.array-const e r) = λ value. const-tag _ value _ _ _ e (braced-good _ _ _ ltr.'A' value _
      (between-good _ _ _ _ AValue _ _ (complete r) (list-ends s r)))
  complete (G.tuple-const e r) = λ value. const-tag _ value _ _ _ e (braced-good _ _ _ ltr.'T' value _
      (tuple-good _ _ _ AValue _ (complete r) (list-ends s r)))
  complete (G.unit-const {j = j} e r e') = λ value. const-tag _ value _ _ _ e (say-good _ (join _ (complete r true)
      (variant_tag _ value _ _ _ e' (good tt (j + 1) _))))
  complete (G.call-const e r e' q) = λ value. const-tag _ value _ _ _ e (say-good _ (join _ (complete r true)
      (variant_tag _ value _ _ _ e' (fields-good _ _ _ _ AValue _ value _ (complete q) (list-ends s q)))))
  complete (G.struct-const e r e' q) = λ value. const-tag _ value _ _ _ e (say-good _ (join _ (complete r true)
      (variant_tag _ value _ _ _ e' (fields-good _ _ _ _ Field _ value _ (complete q) (list-ends s q)))))
  complete (G.field-const {x = x} e r) = taken-good _ _ _ (ap g.got_named e) (say-good (g.ident s x ∷ word W.field ∷ []) (complete r true))
