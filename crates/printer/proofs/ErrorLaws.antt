-- Each error is Invalid or RecursedTooDeep, whatever is read: a printer whose status is one of the four named ones keeps one of them.
-- Assumes nothing.
use Rattle.std.specs.Prelude.{Option, Some, None, Ok, Err}
use Prim.Native.Nat.{ℕ, zero, suc, ◌-◌, ◌<◌}
use mathlib.Core.Path.{◌≡◌, ap}
use mathlib.Core.Bool.{Bool, true, false}
use mathlib.Core.List.{List, [], ◌∷◌}
use native.Mathlib.Omega.{arith}
use lib.Dec.{eqb, leb}
use lib.ListN.{length}
use borrow.Author.Rules.{rules}
use Rattle.parser.specs.Digits.{if-then}
use Rattle.parser.specs.Bytes.{past, byte_at}
use Rattle.parser.specs.Number.{back_at}
use Rattle.parser.specs.declared.names.Name.{Name}
use Rattle.nibbles.specs.declared.uint.Hex.{Hex}
use Rattle.nibbles.specs.declared.uint.Hex.TheVariants.{Small, Big}
use Rattle.pieces.specs.Basic.{is_basic}
use Rattle.pieces.specs.Piece.{Piece}
use Rattle.pieces.specs.Laid.{Put}
use Rattle.pieces.specs.declared.mode.Mode.{Mode}
use Rattle.pieces.specs.declared.words.Word.{Word}
use Rattle.printer.specs.Says.{U, Error, Res, ok, bad, Says, onto, next, ◌>>=◌, ◌then◌, give, emit, on_error, breaks, broken, reader, Got, got, lost, taken, need, choose, hush, mute, caught, Tags, pick}
use Rattle.printer.specs.Letters.{is_unsigned, is_signed}
use Rattle.printer.specs.Lay.{State, World, Out, out, at, state_of, fresh, filled, error_of, doing, full_state, fitted, text, laid, lays_on, lays, lay, code_of, moved_to, failed_at, settled_by, back_on, back_to}
use Rattle.printer.specs.Model as g
use Rattle.printer.specs.Parts as part
use Rattle.printer.specs.declared.kinds.Kind.{Kind}
use Rattle.printer.specs.declared.kinds.Item.{Item}
use Rattle.printer.specs.declared.kinds.Item.TheVariants.{Ty as AType, Arg, Expr as AValue, Field, Trait}
use Rattle.printer.specs.declared.state.Status.{Status}
use Rattle.printer.specs.declared.state.Status.TheVariants.{Going, Invalid, RecursedTooDeep, Full, Other}
use Rattle.printer.specs.declared.state.State as Code
use Rattle.printer.specs.declared.state.Printer.{Printer}

-- ---- the error of a run is one of two; and of what is said, with and without an error before it
abbrev Two : {A : Type 0} → Res A → Type 0
Two (ok a j d o) = U
Two (bad a x j d o) = x < 2

pub record Few {A : Type 0} (a : Says A) : Type 0 where
  pub runs : (i : ℕ) → Two (a.run i)
  pub turns : (x : Error) → x < 2 → a.stopped.turn x < 2

if-two : {A : Type 0} (t : Bool) (a b : Res A) → Two a → Two b → Two (if-then t a b)
if-two true a b h k = h
if-two false a b h k = k

onto-two : {A : Type 0} (d : Bool) (o : List Piece) (r : Res A) → Two r → Two (onto d o r)
unfolding onto
onto-two d o (ok a j e p) h = tt
onto-two d o (bad a x j e p) h = h

next-two : {A B : Type 0} (r : Res A) (f : A → Says B) → Two r → ((v : A) → Few (f v)) → Two (next r f)
unfolding next
next-two (ok a j d o) f h k = onto-two d o ((f a).run j) ((k a).runs j)
next-two (bad a x j d o) f h k = onto-two d o (bad (f a).stopped.value ((f a).stopped.turn x) j false (f a).stopped.pieces) ((k a).turns x h)

bind : {A B : Type 0} {a : Says A} {f : A → Says B} → Few a → ((v : A) → Few (f v)) → Few (a >>= f)
unfolding ◌>>=◌
bind {a = a} {f = f} h k = record { runs = λ i. next-two (a.run i) f (h.runs i) k; turns = λ x l. (k a.stopped.value).turns (a.stopped.turn x) (h.turns x l) }

infixr 20 ◌also◌
◌also◌ : {A B : Type 0} {a : Says A} {b : Says B} → Few a → Few b → Few (a then b)
unfolding ◌then◌
◌also◌ h k = bind h (λ _. k)

pub give-few : {A : Type 0} (z : A) → Few (give z)
unfolding give
give-few z = record { runs = λ i. tt; turns = λ x l. l }

pub emit-few : (ps : List Piece) → Few (emit ps)
unfolding emit
emit-few ps = record { runs = λ i. tt; turns = λ x l. l }

pub error-few : (ps : List Piece) → Few (on_error ps)
unfolding on_error
error-few ps = record { runs = λ i. tt; turns = λ x l. l }

pub breaks-few : (x : Error) → x < 2 → Few (breaks x)
unfolding breaks
breaks-few x h = record { runs = λ i. h; turns = λ y l. h }

pub broken-few : Few broken
unfolding broken
broken-few = breaks-few 0 (omega arith)

choose-few : {A : Type 0} (t : Bool) {a b : Says A} → Few a → Few b → Few (choose t a b)
unfolding choose
choose-few true h k = h
choose-few false h k = k

reader-few : {A : Type 0} (z : A) (m : ℕ → Res A) → ((i : ℕ) → Two (m i)) → Few (reader z m)
unfolding reader
reader-few z m h = record { runs = h; turns = λ x l. l }

-- ---- readings, which fail with Invalid
abbrev TwoGot : {A : Type 0} → Got A → Type 0
TwoGot (got a j) = U
TwoGot (lost x) = x < 2

taken-two : {A B : Type 0} (x : Got A) (i : ℕ) (z : B) (f : A → Says B) → TwoGot x → ((v : A) → Few (f v)) → Two (taken x i z f)
unfolding taken
taken-two (got a j) i z f h k = (k a).runs j
taken-two (lost x) i z f h k = h

need-few : {A B : Type 0} (p : ℕ → Got A) (z : B) (f : A → Says B) → ((i : ℕ) → TwoGot (p i)) → ((v : A) → Few (f v)) → Few (need p z f)
unfolding need
need-few p z f h k = reader-few z _ (λ i. taken-two (p i) i z f (h i) k)

from-two : {A : Type 0} (x : Option (A × ℕ)) → TwoGot (g.got_from x)
from-two (Some (v, j)) = tt
from-two None = omega arith

name-two : (x : Option Name) → TwoGot (g.got_name x)
name-two (Some n) = tt
name-two None = omega arith

named-two : (x : Option (ℕ × Name)) → TwoGot (g.got_named x)
named-two (Some (d, n)) = tt
named-two None = omega arith

hex-two : (i : ℕ) (x : Option (Hex × ℕ)) → TwoGot (g.got_hex i x)
hex-two i (Some (Small v, j)) = tt
hex-two i (Some (Big e, j)) = tt
hex-two i None = omega arith

literal-two : (i : ℕ) (x : Option (ℕ × ℕ)) → TwoGot (g.got_literal i x)
literal-two i (Some (e, j)) = tt
literal-two i None = omega arith

-- ---- by a tag
infixr 15 ◌or◌
data AllFew {A : Type 0} : Tags A → Type 0 where
  else : AllFew []
  ◌or◌ : {t : ℕ × Says A} {ts : Tags A} → Few t.1 → AllFew ts → AllFew (t ∷ ts)

pick-two : {A : Type 0} (c i j : ℕ) (ts : Tags A) (d : ℕ → Res A) → AllFew ts → ((k : ℕ) → Two (d k)) → Two (pick c ts d i j)
unfolding pick
pick-two c i j [] d else k = k i
pick-two c i j (t ∷ ts) d (h or hs) k = go (eqb c t.0) (pick-two c i j ts d hs k)
  where
    go : (x : Bool) → Two (pick c ts d i j) → Two (elim x [ true ↦ t.1.run j | false ↦ pick c ts d i j ])
    go true r = h.runs j
    go false r = r

byte-two : {A : Type 0} (x : Option (ℕ × ℕ)) (f : ℕ → ℕ → Res A) (z : Res A) → ((c j : ℕ) → Two (f c j)) → Two z → Two (g.on_byte x f z)
byte-two (Some (c, j)) f z h k = h c j
byte-two None f z h k = k

-- ---- what prints nothing, and a target
mute-few : {A : Type 0} {a : Says A} → Few a → Few (mute a)
unfolding mute
mute-few {A} {a} h = record { runs = λ i. go (a.run i) (h.runs i); turns = h.turns }
  where
    go : (r : Res A) → Two r → Two (hush r)
    go (ok v j d o) l = tt
    go (bad v x j d o) l = l

caught-two : {A : Type 0} (r : Res A) (j : ℕ) → Two (caught r j)
unfolding caught
caught-two (ok a k d o) j = tt
caught-two (bad a x k d o) j = tt

ruleset few_rules = (give-few, emit-few, error-few, broken-few, choose-few, bind, ◌also◌, need-few, from-two, name-two, named-two, hex-two, literal-two, mute-few, rules)

life-few : (f : Bool) (b lt : ℕ) → Few (g.life_of f b lt)
unfolding g.life_of g.unbound
life-few f b lt = search few_rules

pub ref-life-few : (f : Bool) (b lt : ℕ) → Few (g.ref_life f b lt)
unfolding g.ref_life
ref-life-few f b lt = search (few_rules, life-few)

-- ---- with so many levels left
record AtLevel (p : g.Level) : Type 0 where
  pub path : (value f : Bool) (b : ℕ) → Few (p.path value f b)
  pub con : (value f : Bool) (b : ℕ) → Few (p.con value f b)
  pub bare : (f : Bool) (b : ℕ) → Few (p.bare f b)
  pub ors : (f : Bool) (b : ℕ) → Few (p.ors f b)
  pub aim : (k : Kind) (f : Bool) (b v : ℕ) → Few (p.aim k f b v)
  pub open_at : (f : Bool) (b v : ℕ) → Few (p.open_at f b v)

module _ (s : List ℕ) where
  eat-few : (k : ℕ) → Few (g.eat s k)
  unfolding g.eat
  eat-few k = record { runs = λ i. if-two (eqb (past k s i) i) _ _ tt tt; turns = λ x l. l }

  tag-few : {A : Type 0} (z : A) (ts : Tags A) (d : ℕ → ℕ → ℕ → Res A) → AllFew ts → ((c i j : ℕ) → Two (d c i j)) → Few (g.by_tag s z ts d)
  unfolding g.by_tag
  tag-few z ts d h k = reader-few z _ (λ i. byte-two (byte_at s i) _ _ (λ c j. pick-two c i j ts (λ n. d c n j) h (λ n. k c n j)) (omega arith))

  or-few : {A : Type 0} (z : A) (ts : Tags A) (d : ℕ → Res A) → AllFew ts → ((i : ℕ) → Two (d i)) → Few (g.or_tag s z ts d)
  unfolding g.or_tag
  or-few z ts d h k = reader-few z _ (λ i. byte-two (byte_at s i) _ _ (λ c j. pick-two c i j ts d h k) (k i))

  unknown-two : (c i j : ℕ) → Two (g.unknown c i j)
  unknown-two c i j = omega arith

  -- ---- leaves
  pub krate-few : Few (g.krate s)
  unfolding g.krate
  krate-few = search few_rules

  pub nested-few : (ns : Option ℕ) → Few (g.nested s ns)
  unfolding g.nested
  nested-few ns = search few_rules

  pub lifetime-few : (f : Bool) (b : ℕ) → Few (g.lifetime s f b)
  unfolding g.lifetime
  lifetime-few f b = search (few_rules, life-few)

  pub reference-few : (is_mut f : Bool) (b : ℕ) → Few (g.reference s is_mut f b)
  unfolding g.reference g.ref_rest
  reference-few is_mut f b = search (few_rules, ref-life-few)

  pub bound-few : (f : Bool) (b : ℕ) → Few (g.bound s f b)
  unfolding g.bound g.bound_life g.end_life
  bound-few f b = search (few_rules, eat-few, life-few)

  pub head-few : Few (g.sig_head s)
  unfolding g.sig_head
  head-few = search few_rules

  pub uint-few : (tag : ℕ) → Few (g.uint s tag)
  unfolding g.uint
  uint-few tag = search few_rules

  pub int-few : (tag : ℕ) → Few (g.int s tag)
  unfolding g.int
  int-few tag = search (few_rules, eat-few, uint-few)

  integer-two : (c i j : ℕ) → Two (g.integer s c i j)
  unfolding g.integer
  integer-two c i j = if-two (is_unsigned c) _ _ ((uint-few c).runs j) (if-two (is_signed c) _ _ ((int-few c).runs j) (omega arith))

  pub integer-few : Few (part.integer_at s)
  unfolding part.integer_at
  integer-few = tag-few tt [] _ else integer-two

  pub boolean-few : Few (g.boolean s)
  unfolding g.boolean
  boolean-few = search few_rules

  pub character-few : Few (g.character s)
  unfolding g.character
  character-few = search few_rules

  pub literal-few : Few (g.literal s)
  unfolding g.literal
  literal-few = search few_rules

  pub unsized-few : Few (g.unsized_literal s)
  unfolding g.unsized_literal
  unsized-few = search (few_rules, literal-few)

  pub no-level-few : Few (part.no_level s)
  unfolding part.no_level
  no-level-few = tag-few tt [] _ else (λ c i j. omega arith)

  list-n-few : (t : Word) {a : Says U} → Few a → (k i : ℕ) → Few (g.list_n s t a k i)
  unfolding g.list_n
  list-n-few t h zero i = record { runs = λ p. omega arith; turns = λ x l. l }
  list-n-few t h (suc k) i = record {
    runs = λ p. if-two (eqb (past _ s p) p) _ _ ((emit-few _ also h also list-n-few t h k (suc i)).runs p) tt;
    turns = λ x l. l;
  }

  module _ (p : g.Level) (l : AtLevel p) where
    type-few : (f : Bool) (b : ℕ) → Few (g.type s p f b)
    unfolding g.type
    type-few f b = bind (eat-few _) (λ y. choose-few y (emit-few _ also l.bare f b) (l.bare f b))

    arg-few : (f : Bool) (b : ℕ) → Few (g.arg s p f b)
    unfolding g.arg
    arg-few f b = or-few tt _ _ (lifetime-few f b or l.con false f b or else) (type-few f b).runs

    qself-few : (with f : Bool) (b : ℕ) → Few (g.qself s p with f b)
    unfolding g.qself g.trt
    qself-few with f b = search (few_rules, type-few, l.path)

    binding-few : (opened f : Bool) (b : ℕ) → Few (g.binding s p opened f b)
    unfolding g.binding g.bound_name g.bound_to
    binding-few opened f b = search (few_rules, eat-few, l.con, type-few)

    bindings-few : (k : ℕ) (opened f : Bool) (b : ℕ) → Few (g.bindings s p k opened f b)
    unfolding g.bindings
    bindings-few zero opened f b = record { runs = λ i. omega arith; turns = (emit-few _).turns }
    bindings-few (suc k) opened f b = record {
      runs = λ i. if-two (eqb (past _ s i) i) _ _ ((emit-few _).runs i) ((bind (binding-few opened f b) (λ y. choose-few y (bindings-few k true f b) (emit-few []))).runs (past _ s i));
      turns = (emit-few _).turns;
    }

    pat-few : (f : Bool) (b : ℕ) → Few (g.pat s p f b)
    unfolding g.pat g.range
    pat-few f b = tag-few tt _ _ ((l.con false f b also emit-few _ also l.con false f b) or l.ors f b or emit-few _ or else) unknown-two

    alternatives-few : (k : ℕ) (f : Bool) (b : ℕ) → Few (g.alternatives s p k f b)
    unfolding g.alternatives
    alternatives-few zero f b = record { runs = λ i. omega arith; turns = broken-few.turns }
    alternatives-few (suc k) f b = record {
      runs = λ i. if-two (eqb (past _ s i) i) _ _ ((emit-few _ also pat-few f b also alternatives-few k f b).runs i) tt;
      turns = broken-few.turns;
    }

    trait-few : (f : Bool) (b : ℕ) → Few (g.dyn_trait s p f b)
    unfolding g.dyn_trait g.open_path g.open_back g.open_generic g.shut_path g.list_of
    trait-few f b =
        bind
        (or-few false _ _
        (need-few _ false _ (λ i. from-two (back_at s i)) (l.open_at f b) or
        (l.path false f b also emit-few _ also list-n-few _ (arg-few f b) (length s) 0 also give-few true) or else)
        (l.path false f b also give-few false).runs)
        (λ o. bindings-few (length s) o f b)

    element-few : (k : Item) (f : Bool) (b : ℕ) → Few (g.element s p k f b)
    unfolding g.element g.field
    element-few AType f b = type-few f b
    element-few Arg f b = arg-few f b
    element-few AValue f b = l.con true f b
    element-few Field f b = search (few_rules, l.con)
    element-few Trait f b = trait-few f b

    list-few : (k : Item) (f : Bool) (b : ℕ) → Few (g.list s p k f b)
    unfolding g.list g.list_of
    list-few k f b = list-n-few _ (element-few k f b) (length s) 0

    tuple-few : (k : Item) (f : Bool) (b : ℕ) → Few (g.tuple s p k f b)
    unfolding g.tuple
    tuple-few k f b = search (few_rules, list-few)

    braced-few : (tag : ℕ) (value f : Bool) (b : ℕ) → Few (g.braced_by s p tag value f b)
    unfolding g.braced_by g.body_by g.refer_to g.between
    braced-few tag value f b = search (few_rules, unsized-few, list-few, tuple-few, l.con)

    -- ---- a level more
    paths-few : (value f : Bool) (b : ℕ) → AllFew (g.path_tags s p value f b)
    unfolding g.path_tags g.nest g.imp g.generic g.back
    paths-few value f b = search (few_rules, else, ◌or◌, krate-few, nested-few, l.path, qself-few, list-few, l.aim) depth 12

    variant-few : (value f : Bool) (b : ℕ) → Few (g.variant s p value f b)
    unfolding g.variant g.fields g.between
    variant-few value f b = search (few_rules, tag-few, else, ◌or◌, list-few, unknown-two)

    consts-few : (value f : Bool) (b : ℕ) → AllFew (g.const_tags s p value f b)
    unfolding g.const_tags g.ref_const g.adt g.back
    consts-few value f b = search (few_rules, else, ◌or◌, eat-few, boolean-few, character-few, literal-few, braced-few, variant-few, l.path, l.aim) depth 20

    types-few : (f : Bool) (b : ℕ) → AllFew (g.type_tags s p f b)
    unfolding g.type_tags g.refer g.pointer g.array g.size g.function g.signature g.parameters g.result g.arrow g.object g.traits g.patterned g.back
    types-few f b = search (few_rules, else, ◌or◌, eat-few, reference-few, head-few, bound-few, type-few, l.con, list-few, tuple-few, pat-few, l.aim) depth 24

  basic-two : (d : ℕ → ℕ → ℕ → Res U) → ((c i j : ℕ) → Two (d c i j)) → (c i j : ℕ) → Two (g.basic_or s d c i j)
  unfolding g.basic_or
  basic-two d h c i j = if-two (is_basic c) _ _ ((emit-few _).runs j) (h c i j)

  target-few : {A : Type 0} (z : A) (a : g.Deep A) (f : Bool) (b v : ℕ) → Few (g.target s z a f b v)
  unfolding g.target
  target-few z a f b v = reader-few z _ (λ j. if-two f _ _ (caught-two ((a true b).run v) j) tt)

  at-level : (n : ℕ) → AtLevel (g.level s n)
  unfolding g.level
  at-level zero = record {
    path = λ value f b. reader-few tt _ (λ i. omega arith);
    con = λ value f b. tag-few tt [] _ else (λ c i j. omega arith);
    bare = λ f b. tag-few tt [] _ else (basic-two _ (λ c i j. omega arith));
    ors = λ f b. reader-few tt _ (λ i. omega arith);
    aim = λ k f b v. reader-few tt _ (λ i. omega arith);
    open_at = λ f b v. reader-few false _ (λ i. omega arith);
  }
  at-level (suc n) = let l : AtLevel (g.level s n) = at-level n in let p : g.Level = g.level s n in record {
    path = λ value f b. tag-few tt _ _ (paths-few p l value f b) unknown-two;
    con = λ value f b. tag-few tt _ _ (consts-few p l value f b) integer-two;
    bare = λ f b. tag-few tt [] _ else (basic-two _ (λ c i j. pick-two c i j (g.type_tags s p f b) (p.path false f b).run (types-few p l f b) (l.path false f b).runs));
    ors = λ f b. pat-few p l f b also alternatives-few p l (length s) f b;
    aim = λ k f b v. target-few tt (g.says s p k) f b v;
    open_at = λ f b v. target-few false (g.open_path s p) f b v;
  }

  pub path-few : (n : ℕ) (value f : Bool) (b : ℕ) → Few ((g.level s n).path value f b)
  path-few n = (at-level n).path

-- ---- done to a buffer
error-two : {A : Type 0} (r : Res A) → Two r → error_of r < 3
error-two (ok a j d o) h = omega arith
error-two (bad a x j d o) h = omega (arith, h)

fitted-two : (t : Bool) (x y : State) → x.error < 3 → y.error < 3 → (fitted t x y).error < 3
fitted-two true x y h k = h
fitted-two false x y h k = k

doing-two : {A : Type 0} {a : Says A} → Few a → (p e : ℕ) → e < 3 → Two (doing a p e)
unfolding doing
doing-two h p zero l = h.runs p
doing-two h p (suc x) l = h.turns x (omega (arith, l))

module _ {A : Type 0} (z : A) (m : Option Mode) {a : Says A} (h : Few a) where
  laid-two : (b : List ℕ) (n : ℕ) (d : Bool) (r : Res A) → Two r → (laid z m b n d r).world.st.error < 3
  laid-two b n d r k = fitted-two (leb (length (text m r)) (length b - n)) _ full_state (error-two r k) (omega arith)

  lays-two : (w : World) → w.st.error < 3 → (lays z m a w).world.st.error < 3
  unfolding lays
  lays-two w k = go w.st.full
    where
      go : (t : Bool) → (lays_on t z m a w).world.st.error < 3
      go true = k
      go false = laid-two w.buf w.st.written w.st.damaged (doing a w.st.place w.st.error) (doing-two h w.st.place w.st.error k)

-- ---- a status that is one of the four named ones
abbrev pub IsNamed : Status → Type 0
IsNamed Going = U
IsNamed Invalid = U
IsNamed RecursedTooDeep = U
IsNamed Full = U
IsNamed (Other n) = ⊥

pub named-code : (y : Status) → IsNamed y → code_of y < 3
named-code Going h = omega arith
named-code Invalid h = omega arith
named-code RecursedTooDeep h = omega arith
named-code Full h = omega arith
named-code (Other n) h = absurd h

pub code-named : (y : Status) → code_of y < 3 → IsNamed y
code-named Going h = tt
code-named Invalid h = tt
code-named RecursedTooDeep h = tt
code-named Full h = tt
code-named (Other n) h = absurd (omega (arith, h))

-- a method's promise, with an answer r or with none, keeps the status one of these
module _ (p q : Printer) (m : Option Mode) (named : IsNamed p.st.status) where
  kept : {A : Type 0} (z : A) (a : Says A) → Few a → code_of q.st.status ≡ (lays z m a (at p)).world.st.error → IsNamed q.st.status
  kept z a h e = code-named q.st.status (omega (arith, e, lays-two z m h (at p) (named-code p.st.status named)))

  pub named-after : {A : Type 0} {r : A} (z : A) (a : Says A) → Few a → out r (at q) ≡ lays z m a (at p) → IsNamed q.st.status
  named-after {A} z a h e = kept z a h (ap (λ (o : Out A). o.world.st.error) e)

  pub named-said : (a : Says U) → Few a → at q ≡ lay m a (at p) → IsNamed q.st.status
  unfolding lay
  named-said a h e = kept tt a h (ap (λ (w : World). w.st.error) e)

-- and so do the promises of a state's methods: d is what became of it
named-by : {x : State} (d : Code.State) → x.error < 3 → state_of d ≡ x → IsNamed d.status
named-by d h e = let c : code_of d.status ≡ _ = ap (λ (s : State). s.error) e in code-named d.status (rw c h)

module _ (d : Code.State) where
  pub named-fresh : {i : ℕ} → state_of d ≡ fresh i → IsNamed d.status
  named-fresh e = named-by d (omega arith) e

  module _ (c : Code.State) (named : IsNamed c.status) where
    before : code_of c.status < 3
    before = named-code c.status named

    pub named-moved : {i : ℕ} → state_of d ≡ moved_to i (state_of c) → IsNamed d.status
    named-moved e = named-by d before e

    pub named-failed : {x : ℕ} → state_of d ≡ failed_at x (state_of c) → x < 3 → IsNamed d.status
    named-failed e h = named-by d h e

    pub named-settled : (p : Put) → state_of d ≡ settled_by p (state_of c) → IsNamed d.status
    named-settled (Ok n) e = named-by d before e
    named-settled (Err x) e = named-by d (omega arith) e

    pub named-back : (i : ℕ) → state_of d ≡ back_to i (state_of c) → IsNamed d.status
    named-back i e = go (filled c.status) e
      where
        go : (t : Bool) → state_of d ≡ back_on t i (state_of c) → IsNamed d.status
        go true k = named-by d before k
        go false k = named-by d (omega arith) k

-- these answer for each public method of the printer and of its state, where a caller asks for a named status
pub ruleset kept_laws = (named-after, named-said, emit-few, error-few, breaks-few, broken-few, ref-life-few, krate-few, nested-few, lifetime-few, reference-few, bound-few, head-few, uint-few, int-few, integer-few, boolean-few, character-few, literal-few, unsized-few, no-level-few, path-few, named-fresh, named-moved, named-failed, named-settled, named-back, rules)
