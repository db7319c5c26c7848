-- SOUND: where the model reads without an error and without damage, there is a derivation; and only what follows back references is damaged.
-- Assumes nothing.
use Rattle.std.specs.Prelude.{Some}
use mathlib.Core.Path.{◌≡◌, refl}
use mathlib.Core.Bool.{Bool, true, false}
use mathlib.Core.List.{List, [], ◌∷◌}
use Prim.Native.Nat.{ℕ, zero, suc, ◌+◌}
use native.Mathlib.Omega.{arith}
use borrow.Author.Tests.{eqb-true, leb-true}
use lib.Dec.{eqb, leb}
use lib.ListN.{length}
use Rattle.parser.specs.Digits.{if-then}
use Rattle.parser.specs.Bytes.{past, space_at}
use Rattle.parser.specs.Number.{integer62, optional62, back_at, hex_at}
use Rattle.parser.specs.Names.{ident_at}
use Rattle.parser.specs.declared.names.Name.{Name}
use Rattle.pieces.specs.Basic as basics
use Rattle.pieces.specs.Piece.{word}
use Rattle.pieces.specs.Words as W
use Rattle.pieces.specs.declared.words.Word.{Word}
use Rattle.pieces.specs.Basic.{is_basic}
use Rattle.printer.specs.Says.{U, Res, ok, Says, onto, next, ◌>>=◌, ◌then◌, give, emit, on_error, broken, breaks, reader, need, choose, mute, pick}
use Rattle.printer.specs.Readings.{named_at, life_at, head_at, flag_at, scalar_at, literal_at}
use Rattle.printer.specs.declared.read.Head.{Head}
use Rattle.printer.specs.declared.kinds.Kind.{Kind}
use Rattle.printer.specs.declared.kinds.Kind.TheVariants.{Path, Value as InValue, Ty, Const, Expr}
use Rattle.printer.specs.declared.kinds.Item.{Item}
use Rattle.printer.specs.declared.kinds.Item.TheVariants.{Ty as AType, Arg, Expr as AValue, Field, Trait}
use Rattle.printer.specs.Letters as ltr
use Rattle.printer.specs.Model as g
use Rattle.demangle.specs.Grammar as G
use Rattle.demangle.specs.Grammar.{◌!◌, Part, path, type, bare, arg, const, pattern, trait, trait-path, bindings, field, many, types, args, consts}
use Rattle.demangle.specs.Grammar.{patterns, traits, fields, each, Follow, check, sound, Bound, Leads, Reads}
use Rattle.demangle.proofs.RunLaws.{Sound, sure, after, said, map, hush-sound, caught-sound, choose-sound, pick-sound, ◌or◌, else, if-sound, past-sound}
use Rattle.demangle.proofs.RunLaws.{found, missing}
use Rattle.demangle.proofs.ReadLaws.{eat-sound, by-tag-sound, or-tag, read-sound, name-sound, named-sound}
use Rattle.demangle.proofs.ReadLaws.{literal-sound, hex-sound}

-- what a run that follows, or does not, asks
abbrev pub asks : Bool → Follow
asks true = sound
asks false = check

-- where the run r ends well it is a derivation of the part q from i; f says whether it follows
abbrev Derives : {A : Type 0} → List ℕ → Part → Bool → ℕ → ℕ → ℕ → Res A → Type 0
Derives s q f n b i r = Sound f r (λ _ j. Reads s q (asks f) n b i j)

-- ---- lifetimes
-- the model holds the binder count at 2^64 - 1
pub held-sum : (b m : ℕ) → g.held (g.held b + m) ≡ g.held (b + m)
held-sum b m = omega arith

zero-bound : (f : Bool) (b : ℕ) {v : ℕ} → v ≡ 0 → Bound (asks f) b v
zero-bound true b e = omega arith
zero-bound false b e = tt

module _ {w : Bool} where
  life-of-sound : (f : Bool) (b v j : ℕ) → Sound w ((g.life_of f (g.held b) v).run j) (λ _ k. (k ≡ j) × Bound (asks f) b v)
  unfolding g.life_of g.unbound choose emit broken breaks ◌then◌ ◌>>=◌ next
  life-of-sound true b v j = choose-sound (eqb v 0) _ _ j (λ e. sure (refl, zero-bound true b (eqb-true v 0 e)))
      (λ _. choose-sound (leb v (g.held b)) _ _ j (λ e. sure (refl, omega (arith, leb-true v (g.held b) e))) (λ _. sure tt))
  life-of-sound false b v j = sure (refl, tt)

  ref-life-sound : (f : Bool) (b v j : ℕ) → Sound w ((g.ref_life f (g.held b) v).run j) (λ _ k. (k ≡ j) × Bound (asks f) b v)
  unfolding g.ref_life emit ◌then◌ ◌>>=◌ next
  ref-life-sound f b v j =
      choose-sound (eqb v 0) _ _ j (λ e. sure (refl, zero-bound f b (eqb-true v 0 e))) (λ _. after _ (life-of-sound f b v j) (λ _ k q. sure q))

  end-life-sound : (f : Bool) (b v j : ℕ) → Sound w ((g.end_life f (g.held b) v).run j) (λ _ k. (k ≡ j) × Bound (asks f) b v)
  unfolding g.end_life emit ◌then◌ ◌>>=◌ next
  end-life-sound f b v j =
      choose-sound (eqb v 0) _ _ j (λ e. sure (refl, zero-bound f b (eqb-true v 0 e))) (λ _. said (word W.plus ∷ []) (life-of-sound f b v j))

module _ (s : List ℕ) where
  module _ {w : Bool} (f : Bool) (b i : ℕ) where
    lifetime-sound : Sound w ((g.lifetime s f (g.held b)).run i) (λ _ j. (v : ℕ) × (integer62 s i ≡ Some (v, j)) × Bound (asks f) b v)
    unfolding g.lifetime need reader
    lifetime-sound = read-sound i tt (integer62 s i) (g.life_of f (g.held b)) (λ v j e. map (life-of-sound f b v j) (λ _ k q. (v, rw q.0 e, q.1)))

    bound-life-sound : Sound w ((g.bound_life s f (g.held b)).run i) (λ _ j. (v : ℕ) × (integer62 s i ≡ Some (v, j)) × Bound (asks f) b v)
    unfolding g.bound_life need reader
    bound-life-sound = read-sound i tt (integer62 s i) (g.end_life f (g.held b)) (λ v j e. map (end-life-sound f b v j) (λ _ k q. (v, rw q.0 e, q.1)))

  bound-sound : {w : Bool} (f : Bool) (b i : ℕ)
      → Sound w ((g.bound s f (g.held b)).run i) (λ _ j. (v : ℕ) × (s ! i ≡ ltr.'L') × (integer62 s (i + 1) ≡ Some (v, j)) × Bound (asks f) b v)
  unfolding g.bound broken breaks
  bound-sound f b i = eat-sound s i _ _ (λ e. map (bound-life-sound f b (i + 1)) (λ _ j q. (q.0, e, q.1, q.2))) (λ _. sure tt)

  reference-sound : {w : Bool} (m f : Bool) (b i : ℕ)
      → Sound w ((g.reference s m f (g.held b)).run i) (λ y j. (v : ℕ) × (y ≡ true) × (life_at s i ≡ Some (v, j)) × Bound (asks f) b v)
  unfolding g.reference g.ref_rest need reader emit give ◌then◌ ◌>>=◌ next onto
  reference-sound m f b i = said (word W.ref ∷ []) (read-sound i false (life_at s i) _ (λ v j e.
      after _ (ref-life-sound f b v j) (λ _ k q. sure (v, refl, rw q.0 e, q.1))))

  -- ---- lists, of elements of a part
  list-sound : {f : Bool} {n b : ℕ} (q : G.Item) (t : Word) (m : Says U) → ((i : ℕ) → Derives s (each q) f n b i (m.run i)) → (k c i : ℕ)
      → Derives s (many q) f n b i ((g.list_n s t m k c).run i)
  unfolding g.list_n emit ◌then◌ ◌>>=◌ next
  list-sound q t m h zero c i = sure tt
  list-sound q t m h (suc k) c i = past-sound s _ i (λ j. ok c j false []) _ (λ e. sure (G.list-end e))
      (λ o. said _ (after _ (h i) (λ _ j r. map (list-sound q t m h k (suc c) j) (λ _ l w. G.list-more r w))))

  -- ---- a basic type, or what else starts with its byte
  basic-sound : (f : Bool) (n b i : ℕ) (d : ℕ → ℕ → ℕ → Res U) → Derives s bare f n b i (d (s ! i) i (i + 1))
      → Derives s bare f n b i ((g.by_tag s tt [] (g.basic_or s d)).run i)
  unfolding g.basic_or pick emit
  basic-sound f n b i d k = by-tag-sound s tt [] i (g.basic_or s d) (if-sound (is_basic (s ! i)) _ _ (λ t. sure (G.basic-type t)) k)

  -- ---- a back reference by its target
  target_sound : {A : Type 0} {q r : Part} {n m : ℕ} (z : A) (a : g.Deep A) → Leads q r n m
      → ((b i : ℕ) → Derives s r true m b i ((a true (g.held b)).run i)) → (f : Bool) (b i v j : ℕ) → s ! i ≡ ltr.'B' → back_at s (i + 1) ≡ Some (v, j)
      → Derives s q f n b i ((g.target s z a f (g.held b) v).run j)
  unfolding g.target reader
  target_sound z a u h true b i v j e e' = caught-sound ((a true (g.held b)).run v) j (h b v) (λ _ k r. G.followed u e e' r)
  target_sound z a u h false b i v j e e' = sure (G.back u e e')

  -- ---- leaves
  module _ {w : Bool} (tag i : ℕ) where
    uint-sound : Sound w ((g.uint s tag).run i) (λ _ j. (e : ℕ) × (hex_at s i ≡ Some (e, j)))
    unfolding g.uint need reader emit
    uint-sound = hex-sound i tt s _ (λ x e j q. sure (e, q))

  module _ {w : Bool} (tag i : ℕ) where
    int-sound : Sound w ((g.int s tag).run i) (λ _ j. (e : ℕ) × (hex_at s (past ltr.'n' s i) ≡ Some (e, j)))
    unfolding g.int emit ◌then◌ ◌>>=◌ next
    int-sound = eat-sound s i _ _ (λ e. rw (found s _ i e) (said (word W.minus ∷ []) (uint-sound tag (i + 1)))) (λ o. rw (missing s _ i o) (uint-sound tag i))

  literal-sounds : {w : Bool} (i : ℕ) → Sound w ((g.literal s).run i) (λ _ j. (e : ℕ) × (literal_at s i ≡ Some (e, j)))
  unfolding g.literal need reader emit
  literal-sounds i = literal-sound i tt (literal_at s i) _ (λ e j q. sure (e, q))

  head-sounds : {w : Bool} (i : ℕ)
      → Sound w ((g.sig_head s).run i) (λ y j. (h : Head) × (y ≡ true) × (head_at s i ≡ Some (h, j)))
  unfolding g.sig_head need reader emit give ◌then◌ ◌>>=◌ next onto
  head-sounds i = read-sound i false (head_at s i) _ (λ r j e. sure (r, refl, e))

-- the part that a back reference stands for, and the one it leads to; and what stands in a list
abbrev back-part : Kind → Part
back-part Path = path
back-part InValue = path
back-part Ty = bare
back-part Const = const
back-part Expr = const

abbrev target-part : Kind → Part
target-part Path = path
target-part InValue = path
target-part Ty = type
target-part Const = const
target-part Expr = const

leads : (k : Kind) (m : ℕ) → Leads (back-part k) (target-part k) (suc (suc m)) m
leads Path m = G.to-path
leads InValue m = G.to-path
leads Ty m = G.to_type
leads Const m = G.to-const
leads Expr m = G.to-const

abbrev item : Item → G.Item
item AType = types
item Arg = args
item AValue = consts
item Field = fields
item Trait = traits

-- ---- what it is for a level to be sound; what is read behind its first byte is told of the whole
pub record Right (s : List ℕ) (n : ℕ) (p : g.Level) : Type 0 where
  pub paths : (value f : Bool) (b i : ℕ) → Derives s path f n b i ((p.path value f (g.held b)).run i)
  consts : (value f : Bool) (b i : ℕ) → Derives s const f n b i ((p.con value f (g.held b)).run i)
  bares : (f : Bool) (b i : ℕ) → Derives s bare f n b i ((p.bare f (g.held b)).run i)
  ors : (f : Bool) (b i : ℕ) → s ! i ≡ ltr.'O' → Derives s pattern f n b i ((p.ors f (g.held b)).run (i + 1))
  aims : (k : Kind) (f : Bool) (b i v j : ℕ) → s ! i ≡ ltr.'B' → back_at s (i + 1) ≡ Some (v, j)
      → Derives s (back-part k) f (suc n) b i ((p.aim k f (g.held b) v).run j)
  opens : (f : Bool) (b i v j : ℕ) → s ! i ≡ ltr.'B' → back_at s (i + 1) ≡ Some (v, j) → Derives s trait-path f n b i ((p.open_at f (g.held b) v).run j)

module _ (s : List ℕ) (n : ℕ) (p : g.Level) (h : Right s n p) where
  -- types and arguments
  type-sound : (f : Bool) (b i : ℕ) → Derives s type f n b i ((g.type s p f (g.held b)).run i)
  unfolding g.type emit ◌then◌ ◌>>=◌ next
  type-sound f b i = eat-sound s i _ _ (λ e. said (word W.splat ∷ []) (map (h.bares f b (i + 1)) (λ _ j r. G.splat e r))) (λ o. map (h.bares f b i) (λ _ j r. G.plain_type r))

  arg-sound : (f : Bool) (b i : ℕ) → Derives s arg f n b i ((g.arg s p f (g.held b)).run i)
  unfolding g.arg ltr.any_of
  arg-sound f b i = rw (or-tag s tt _ i (g.type s p f (g.held b)).run tt) (pick-sound _ i _ _ _
      ((λ e. map (lifetime-sound s f b (i + 1)) (λ _ j q. G.lifetime-arg e q.1 q.2))
      or (λ e. map (h.consts false f b (i + 1)) (λ _ j r. G.const-arg e r))
      or else)
      (λ o. map (type-sound f b i) (λ _ j r. G.type-arg r)))

  -- patterns
  pat-sound : (f : Bool) (b i : ℕ) → Derives s pattern f n b i ((g.pat s p f (g.held b)).run i)
  unfolding g.pat g.range emit ◌then◌ ◌>>=◌ next
  pat-sound f b i = by-tag-sound s tt _ i g.unknown (pick-sound _ i _ _ _
      ((λ e. after _ (h.consts false f b (i + 1)) (λ _ j r. said (word W.range ∷ []) (map (h.consts false f b j) (λ _ k q. G.range-pattern e r q))))
      or (λ e. h.ors f b i e)
      or (λ e. sure (G.null-pattern e))
      or else)
      (λ o. sure tt))

  alternatives-sound : (f : Bool) (b k i : ℕ) → Derives s (many patterns) f n b i ((g.alternatives s p k f (g.held b)).run i)
  unfolding g.alternatives emit ◌then◌ ◌>>=◌ next
  alternatives-sound f b zero i = sure tt
  alternatives-sound f b (suc k) i = past-sound s _ i (λ j. ok tt j false []) _ (λ e. sure (G.list-end e))
      (λ o. said (word W.or ∷ []) (after _ (pat-sound f b i) (λ _ j r. map (alternatives-sound f b k j) (λ _ l w. G.list-more r w))))

  -- dyn traits
  bound-to-sound : (f : Bool) (b i : ℕ) {x : Name} → s ! i ≡ ltr.'p' → ident_at s (i + 1) ≡ Some x
      → Sound f ((g.bound_to s p f (g.held b)).run x.end) (λ _ k. (l : ℕ) → Reads s bindings (asks f) n b k l → Reads s bindings (asks f) n b i l)
  unfolding g.bound_to
  bound-to-sound f b i {x} e e' = eat-sound s x.end _ _ (λ c. map (h.consts false f b (x.end + 1)) (λ _ k r l q. G.const-binding e e' c r q))
      (λ o. map (type-sound f b x.end) (λ _ k r l q. G.type-binding e e' r q))

  binding-sound : (opened f : Bool) (b i : ℕ) → s ! i ≡ ltr.'p'
      → Sound f ((g.binding s p opened f (g.held b)).run (i + 1))
      (λ y k. (y ≡ true) × ((l : ℕ) → Reads s bindings (asks f) n b k l → Reads s bindings (asks f) n b i l))
  unfolding g.binding g.bound_name need reader emit give ◌then◌ ◌>>=◌ next onto
  binding-sound opened f b i e = said (word (if-then opened W.comma-blank W.less) ∷ []) (name-sound (i + 1) false (ident_at s (i + 1)) _ (λ x e'.
      said (g.ident s x ∷ word W.equals ∷ []) (after _ (bound-to-sound f b i e e') (λ _ k q. sure (refl, q)))))

  bindings-sound : (k : ℕ) (opened f : Bool) (b i : ℕ) → Derives s bindings f n b i ((g.bindings s p k opened f (g.held b)).run i)
  unfolding g.bindings emit choose ◌>>=◌ next
  bindings-sound zero opened f b i = sure tt
  bindings-sound (suc k) opened f b i = past-sound s _ i
      (λ j. (g.binding s p opened f (g.held b) >>= λ y. choose y (g.bindings s p k true f (g.held b)) (emit [])).run j) _
      (λ e. after _ (binding-sound opened f b i e) (λ y j q. rw q.0 (map (bindings-sound k true f b j) (λ _ l r. q.1 l r))))
      (λ o. sure (G.no-binding o))

  list-of-sound : {f : Bool} {b : ℕ} (q : G.Item) (t : Word) (m : Says U) → ((i : ℕ) → Derives s (each q) f n b i (m.run i)) → (i : ℕ)
      → Derives s (many q) f n b i ((g.list_of s p t m).run i)
  unfolding g.list_of
  list-of-sound q t m k i = list-sound s q t m k (length s) 0 i

  open-path-sound : (f : Bool) (b i : ℕ) → Derives s trait-path f n b i ((g.open_path s p f (g.held b)).run i)
  unfolding g.open_path g.open_back g.open_generic g.shut_path need reader emit give ◌then◌ ◌>>=◌ next onto ltr.any_of
  open-path-sound f b i = rw (or-tag s false _ i (g.shut_path s p f (g.held b)).run tt) (pick-sound _ i _ _ _
      ((λ e. read-sound (i + 1) false (back_at s (i + 1)) _ (λ v j e'. h.opens f b i v j e e'))
      or (λ e. after _ (h.paths false f b (i + 1)) (λ _ j r.
      said (word W.less ∷ []) (after _ (list-of-sound args _ _ (arg-sound f b) j) (λ _ k q. sure (G.generic-trait e r q)))))
      or else)
      (λ o. after _ (h.paths false f b i) (λ _ j r. sure (G.plain-trait (λ e. rw e at o) (λ e. rw e at o) r))))

  dyn-trait-sound : (f : Bool) (b i : ℕ) → Derives s trait f n b i ((g.dyn_trait s p f (g.held b)).run i)
  unfolding g.dyn_trait ◌>>=◌ next
  dyn-trait-sound f b i = after _ (open-path-sound f b i) (λ o j r. map (bindings-sound (length s) o f b j) (λ _ k q. G.dyn-trait r q))

  -- lists and what stands in them
  field-sound : (f : Bool) (b i : ℕ) → Derives s field f n b i ((g.field s p f (g.held b)).run i)
  unfolding g.field need reader emit ◌then◌ ◌>>=◌ next
  field-sound f b i = named-sound i tt (named_at s i) _ (λ d x e. said (g.ident s x ∷ word W.field ∷ []) (map (h.consts true f b x.end) (λ _ k q. G.field-const e q)))

  element-sound : (k : Item) (f : Bool) (b i : ℕ) → Derives s (each (item k)) f n b i ((g.element s p k f (g.held b)).run i)
  unfolding g.element
  element-sound AType f b i = type-sound f b i
  element-sound Arg f b i = arg-sound f b i
  element-sound AValue f b i = h.consts true f b i
  element-sound Field f b i = field-sound f b i
  element-sound Trait f b i = dyn-trait-sound f b i

  items-sound : (k : Item) (f : Bool) (b i : ℕ) → Derives s (many (item k)) f n b i ((g.list s p k f (g.held b)).run i)
  unfolding g.list
  items-sound k f b i = list-of-sound (item k) _ _ (element-sound k f b) i

  tuple-sound : (k : Item) (f : Bool) (b i : ℕ) → Derives s (many (item k)) f n b i ((g.tuple s p k f (g.held b)).run i)
  unfolding g.tuple emit ◌then◌ ◌>>=◌ next
  tuple-sound k f b i = said (word W.paren ∷ []) (after _ (items-sound k f b i) (λ c j r. sure r))

  between-sound : (from : Word) (k : Item) (to : Word) (f : Bool) (b i : ℕ) → Derives s (many (item k)) f n b i ((g.between s p from k to f (g.held b)).run i)
  unfolding g.between emit ◌then◌ ◌>>=◌ next
  between-sound from k to f b i = said (word from ∷ []) (after _ (items-sound k f b i) (λ c j r. sure r))

  -- the types by their tags
  refer-sound : (m f : Bool) (b i : ℕ) → Sound f ((g.refer s p m f (g.held b)).run i)
      (λ _ k. (v j : ℕ) × (life_at s i ≡ Some (v, j)) × Bound (asks f) b v × Reads s type (asks f) n b j k)
  unfolding g.refer choose ◌>>=◌ next
  refer-sound m f b i = after _ (reference-sound s m f b i) (λ y j q. rw q.1 (map (type-sound f b j) (λ _ k r. (q.0, j, q.2, q.3, r))))

  array-sound : (f : Bool) (b i : ℕ) → s ! i ≡ ltr.'A' → Derives s bare f (suc n) b i ((g.array s p true f (g.held b)).run (i + 1))
  unfolding g.array g.size emit choose ◌then◌ ◌>>=◌ next
  array-sound f b i e = said (word W.bracket ∷ []) (after _ (type-sound f b (i + 1)) (λ _ j r. after (λ _. g.say W.bracket-end) (said (word W.semicolon ∷ []) (h.consts true f b j)) (λ _ k q. sure (G.array-type e r q))))

  slice-sound : (f : Bool) (b i : ℕ) → s ! i ≡ ltr.'S' → Derives s bare f (suc n) b i ((g.array s p false f (g.held b)).run (i + 1))
  unfolding g.array g.size emit choose ◌then◌ ◌>>=◌ next
  slice-sound f b i e = said (word W.bracket ∷ []) (after _ (type-sound f b (i + 1)) (λ _ j r. sure (G.slice-type e r)))

  result-sound : (f : Bool) (b i : ℕ) → Derives s type f n b i ((g.result s p f (g.held b)).run i)
  unfolding g.result g.arrow is_basic basics.among basics.basic emit ◌then◌ ◌>>=◌ next
  result-sound f b i = eat-sound s i _ _ (λ e. sure (G.plain_type (G.basic-type (rw e tt)))) (λ o. said (word W.arrow ∷ []) (type-sound f b i))

  signature-sound : (f : Bool) (b i : ℕ) → Sound f ((g.signature s p f (g.held b)).run i)
      (λ _ l. (h : Head) × (j k : ℕ) × (head_at s i ≡ Some (h, j))
      × Reads s (many types) (asks f) n b j k × Reads s type (asks f) n b k l)
  unfolding g.signature g.parameters emit choose ◌then◌ ◌>>=◌ next
  signature-sound f b i = after _ (head-sounds s i) (λ y j q. rw q.1 (after _ (items-sound AType f b j) (λ _ k r.
      said (word W.paren-end ∷ []) (map (result-sound f b k) (λ _ l w. (q.0, j, k, q.2, r, w))))))

  function-sound : (f : Bool) (b i : ℕ) → s ! i ≡ ltr.'F' → Derives s bare f (suc n) b i ((g.function s p f (g.held b)).run (i + 1))
  unfolding g.function need reader emit ◌then◌ ◌>>=◌ next
  function-sound f b i e = read-sound (i + 1) tt (optional62 ltr.'G' s (i + 1)) _ (λ m j e'.
      rw (held-sum b m) (said _ (map (signature-sound f (b + m) j) (λ _ l q. G.fn-type e e' q.3 q.4 q.5))))

  traits-sound : (f : Bool) (b i : ℕ) → Sound f ((g.traits s p f (g.held b)).run i)
      (λ _ k. (m j : ℕ) × (optional62 ltr.'G' s i ≡ Some (m, j)) × Reads s (many traits) (asks f) n (b + m) j k)
  unfolding g.traits need reader emit ◌then◌ ◌>>=◌ next
  traits-sound f b i = read-sound i tt (optional62 ltr.'G' s i) _ (λ m j e.
      rw (held-sum b m) (said _ (after _ (items-sound Trait f (b + m) j) (λ _ k r. sure (m, j, e, r)))))

  object-sound : (f : Bool) (b i : ℕ) → s ! i ≡ ltr.'D' → Derives s bare f (suc n) b i ((g.object s p f (g.held b)).run (i + 1))
  unfolding g.object emit ◌then◌ ◌>>=◌ next
  object-sound f b i e = said (word W.dyn ∷ []) (after _ (traits-sound f b (i + 1)) (λ _ k r.
      map (bound-sound s f b k) (λ _ l q. G.dyn-trait-type e r.2 r.3 q.1 q.2 q.3)))

  back-sounds : (k : Kind) (f : Bool) (b i : ℕ) → s ! i ≡ ltr.'B' → Derives s (back-part k) f (suc n) b i ((g.back s p k f (g.held b)).run (i + 1))
  unfolding g.back need reader
  back-sounds k f b i e = read-sound (i + 1) tt (back_at s (i + 1)) _ (λ v j e'. h.aims k f b i v j e e')

  typed-sound : (f : Bool) (b i : ℕ) → Derives s bare f (suc n) b i (pick (s ! i) (g.type_tags s p f (g.held b)) (p.path false f (g.held b)).run i (i + 1))
  unfolding g.type_tags g.pointer g.patterned ltr.any_of emit ◌then◌ ◌>>=◌ next
  typed-sound f b i = pick-sound _ i _ _ _
      ((λ e. map (refer-sound false f b (i + 1)) (λ _ k q. G.ref-type e q.2 q.3 q.4))
      or (λ e. map (refer-sound true f b (i + 1)) (λ _ k q. G.mut-ref-type e q.2 q.3 q.4))
      or (λ e. said (word W.ptr-const ∷ []) (map (type-sound f b (i + 1)) (λ _ j r. G.const-ptr-type e r)))
      or (λ e. said (word W.ptr-mut ∷ []) (map (type-sound f b (i + 1)) (λ _ j r. G.mut-ptr-type e r)))
      or (λ e. array-sound f b i e)
      or (λ e. slice-sound f b i e)
      or (λ e. map (tuple-sound AType f b (i + 1)) (λ _ j r. G.tuple_type e r))
      or (λ e. function-sound f b i e)
      or (λ e. object-sound f b i e)
      or (λ e. back-sounds Ty f b i e)
      or (λ e. after _ (type-sound f b (i + 1)) (λ _ j r. said (word W.is ∷ []) (map (pat-sound f b j) (λ _ k q. G.pattern-type e r q))))
      or else)
      (λ o. map (h.paths false f b i) (λ _ j r. G.path-type (λ e. rw e at o) r))

  -- the constants by their tags
  braced-sound : {P : ℕ → Type 0} (tag : ℕ) (value f : Bool) (b i : ℕ) → Sound f ((g.body_by s p tag f (g.held b)).run i) (λ _ j. P j)
      → Sound f ((g.braced_by s p tag value f (g.held b)).run i) (λ _ j. P j)
  unfolding g.braced_by emit ◌then◌ ◌>>=◌ next
  braced-sound tag value f b i k = said _ (after _ k (λ _ j q. sure q))

  string-sound : (f : Bool) (b i : ℕ) → Sound f ((g.body_by s p ltr.'e' f (g.held b)).run i) (λ _ j. (e : ℕ) × (literal_at s i ≡ Some (e, j)))
  unfolding g.body_by g.unsized_literal choose emit ◌then◌ ◌>>=◌ next
  string-sound f b i = said (word W.star ∷ []) (literal-sounds s i)

  values-sound : (f : Bool) (b i : ℕ) → Derives s (many consts) f n b i ((g.body_by s p ltr.'A' f (g.held b)).run i)
  unfolding g.body_by choose
  values-sound f b i = between-sound _ AValue _ f b i

  tuple-value-sound : (f : Bool) (b i : ℕ) → Derives s (many consts) f n b i ((g.body_by s p ltr.'T' f (g.held b)).run i)
  unfolding g.body_by choose
  tuple-value-sound f b i = tuple-sound AValue f b i

  refer-to-sound : (m f : Bool) (b i : ℕ) → Derives s const f n b i ((g.refer_to s p m f (g.held b)).run i)
  unfolding g.refer_to emit ◌then◌ ◌>>=◌ next
  refer-to-sound m f b i = said (word W.ref ∷ []) (said _ (h.consts true f b i))

  ref-const-sound : (value f : Bool) (b i : ℕ) → s ! i ≡ ltr.'R' → Derives s const f (suc n) b i ((g.ref_const s p value f (g.held b)).run (i + 1))
  unfolding g.ref_const g.body_by choose
  ref-const-sound value f b i e = eat-sound s (i + 1) _ _ (λ e'. map (literal-sounds s (i + 1 + 1)) (λ _ j q. G.string-ref-const e e' q.1))
      (λ o. map (braced-sound ltr.'R' value f b (i + 1) (refer-to-sound false f b (i + 1))) (λ _ j r. G.ref-const e o r))

  fields-sound : (from : Word) (k : Item) (to : Word) (value f : Bool) (b i : ℕ)
      → Derives s (many (item k)) f n b i ((g.fields s p from k to value f (g.held b)).run i)
  unfolding g.fields emit ◌then◌ ◌>>=◌ next
  fields-sound from k to value f b i = after _ (between-sound from k to f b i) (λ _ j r. sure r)

  adt-sound : (value f : Bool) (b i : ℕ) → s ! i ≡ ltr.'V' → Derives s const f (suc n) b i ((g.adt s p value f (g.held b)).run (i + 1))
  unfolding g.adt g.variant emit ◌then◌ ◌>>=◌ next
  adt-sound value f b i e = said _ (after _ (h.paths true f b (i + 1)) (λ _ j r. by-tag-sound s tt _ j g.unknown (pick-sound _ j _ _ _
      ((λ e'. sure (G.unit-const e r e'))
      or (λ e'. map (fields-sound _ AValue _ value f b (j + 1)) (λ _ k q. G.call-const e r e' q))
      or (λ e'. map (fields-sound _ Field _ value f b (j + 1)) (λ _ k q. G.struct-const e r e' q))
      or else)
      (λ o. sure tt))))

  integer-sound : (f : Bool) (b i : ℕ) → Derives s const f (suc n) b i (g.integer s (s ! i) i (i + 1))
  unfolding g.integer
  integer-sound f b i = if-sound (ltr.is_unsigned (s ! i)) _ _ (λ t. map (uint-sound s (s ! i) (i + 1)) (λ _ j q. G.unsigned-const t q.1))
      (if-sound (ltr.is_signed (s ! i)) _ _ (λ t. map (int-sound s (s ! i) (i + 1)) (λ _ j q. G.signed-const t q.1)) (sure tt))

  const-back-sound : (value f : Bool) (b i : ℕ) → s ! i ≡ ltr.'B'
      → Derives s const f (suc n) b i ((g.back s p (if-then value Expr Const) f (g.held b)).run (i + 1))
  const-back-sound true f b i e = back-sounds Expr f b i e
  const-back-sound false f b i e = back-sounds Const f b i e

  const-sound : (value f : Bool) (b i : ℕ) → Derives s const f (suc n) b i (((g.above s p).con value f (g.held b)).run i)
  unfolding g.const_tags g.boolean g.character g.body_by choose need reader emit ◌then◌ ◌>>=◌ next
  const-sound value f b i = by-tag-sound s tt _ i (g.integer s) (pick-sound _ i _ _ _
      ((λ e. sure (G.placeholder e))
      or (λ e. read-sound (i + 1) tt (flag_at s (i + 1)) _ (λ u j q. sure (G.bool-const e q)))
      or (λ e. read-sound (i + 1) tt (scalar_at s (i + 1)) _ (λ v j q. sure (G.char-const e q)))
      or (λ e. map (braced-sound ltr.'e' value f b (i + 1) (string-sound f b (i + 1))) (λ _ j q. G.string-const e q.1))
      or (λ e. ref-const-sound value f b i e)
      or (λ e. map (braced-sound ltr.'Q' value f b (i + 1) (refer-to-sound true f b (i + 1))) (λ _ j r. G.mut-ref-const e r))
      or (λ e. map (braced-sound ltr.'A' value f b (i + 1) (values-sound f b (i + 1))) (λ _ j r. G.array-const e r))
      or (λ e. map (braced-sound ltr.'T' value f b (i + 1) (tuple-value-sound f b (i + 1))) (λ _ j r. G.tuple-const e r))
      or (λ e. adt-sound value f b i e)
      or (λ e. const-back-sound value f b i e)
      or else)
      (λ o. integer-sound f b i))

  -- the paths by their tags
  path-back-sound : (value f : Bool) (b i : ℕ) → s ! i ≡ ltr.'B'
      → Derives s path f (suc n) b i ((g.back s p (if-then value InValue Path) f (g.held b)).run (i + 1))
  path-back-sound true f b i e = back-sounds InValue f b i e
  path-back-sound false f b i e = back-sounds Path f b i e

  self-sound : (f : Bool) (b i : ℕ) → Derives s type f n b i ((g.qself s p false f (g.held b)).run i)
  unfolding g.qself g.trt choose emit ◌then◌ ◌>>=◌ next
  self-sound f b i = said (word W.less ∷ []) (after _ (type-sound f b i) (λ _ j r. sure r))

  as-sound : (f : Bool) (b i : ℕ)
      → Sound f ((g.qself s p true f (g.held b)).run i) (λ _ k. (j : ℕ) × Reads s type (asks f) n b i j × Reads s path (asks f) n b j k)
  unfolding g.qself g.trt choose emit ◌then◌ ◌>>=◌ next
  as-sound f b i = said (word W.less ∷ []) (after _ (type-sound f b i) (λ _ j r. after (λ _. g.say W.more) (said (word W.as-trait ∷ []) (h.paths false f b j)) (λ _ k q. sure (j, r, q))))

  path-sound : (value f : Bool) (b i : ℕ) → Derives s path f (suc n) b i (((g.above s p).path value f (g.held b)).run i)
  unfolding g.path_tags g.krate g.nest g.nested g.imp g.generic mute on_error need reader emit ◌then◌ ◌>>=◌ next
  path-sound value f b i = by-tag-sound s tt _ i g.unknown (pick-sound _ i _ _ _
      ((λ e. named-sound (i + 1) tt (named_at s (i + 1)) _ (λ d x q. sure (G.crate-root e q)))
      or (λ e. read-sound (i + 1) tt (space_at s (i + 1)) _ (λ c j e'. after _ (h.paths value f b j) (λ _ k r.
      said [] (named-sound k tt (named_at s k) _ (λ d x q. sure (G.nested-path e e' r q))))))
      or (λ e. read-sound (i + 1) tt (optional62 ltr.'s' s (i + 1)) _ (λ d j e'. after _ (hush-sound (h.paths false false b j)) (λ _ k r.
      map (self-sound f b k) (λ _ l q. G.inherent-impl e e' r q))))
      or (λ e. read-sound (i + 1) tt (optional62 ltr.'s' s (i + 1)) _ (λ d j e'. after _ (hush-sound (h.paths false false b j)) (λ _ k r.
      map (as-sound f b k) (λ _ l q. G.trait-impl e e' r q.1 q.2))))
      or (λ e. map (as-sound f b (i + 1)) (λ _ k q. G.trait-definition e q.1 q.2))
      or (λ e. after _ (h.paths value f b (i + 1)) (λ _ j r. said (word (if-then value W.value-less W.less) ∷ []) (after _ (items-sound Arg f b j) (λ _ k q. sure (G.generic-args e r q)))))
      or (λ e. path-back-sound value f b i e)
      or else)
      (λ o. sure tt))

  -- one level more
  says-sound : (k : Kind) (f : Bool) (b i : ℕ) → Derives s (target-part k) f n b i ((g.says s p k f (g.held b)).run i)
  unfolding g.says
  says-sound Path f b i = h.paths false f b i
  says-sound InValue f b i = h.paths true f b i
  says-sound Ty f b i = type-sound f b i
  says-sound Const f b i = h.consts false f b i
  says-sound Expr f b i = h.consts true f b i

  ors-sound : (f : Bool) (b i : ℕ) → s ! i ≡ ltr.'O' → Derives s pattern f (suc n) b i (((g.above s p).ors f (g.held b)).run (i + 1))
  unfolding ◌then◌ ◌>>=◌ next
  ors-sound f b i e = after _ (pat-sound f b (i + 1)) (λ _ j r. map (alternatives-sound f b (length s) j) (λ _ k q. G.or-pattern e r q))

  above-right : Right s (suc n) (g.above s p)
  above-right = record {
    paths = path-sound;
    consts = const-sound;
    bares = λ f b i. basic-sound s f (suc n) b i _ (typed-sound f b i);
    ors = ors-sound;
    aims = λ k f b i v j e e'. target_sound s tt (g.says s p k) (leads k n) (says-sound k true) f b i v j e e';
    opens = λ f b i v j e e'. target_sound s false (g.open_path s p) G.to-trait (open-path-sound true) f b i v j e e';
  }

-- ---- all levels
module _ (s : List ℕ) where
  -- the tag is read before the level is counted
  no-level-sound : (value f : Bool) (b i : ℕ) → Derives s const f zero b i (((g.deepest s).con value f (g.held b)).run i)
  unfolding pick
  no-level-sound value f b i = by-tag-sound s tt [] i _ (sure tt)

  deepest-right : Right s zero (g.deepest s)
  unfolding reader
  deepest-right = record {
    paths = λ value f b i. sure tt;
    consts = no-level-sound;
    bares = λ f b i. basic-sound s f zero b i _ (sure tt);
    ors = λ f b i e. sure tt;
    aims = λ k f b i v j e e'. sure tt;
    opens = λ f b i v j e e'. sure tt;
  }

  pub level-right : (n : ℕ) → Right s n (g.level s n)
  unfolding g.level
  level-right zero = deepest-right
  level-right (suc n) = above-right s n (g.level s n) (level-right n)
