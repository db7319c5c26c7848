-- What the functions of `leaf` come to: names, lifetimes, binders, literals. Assumes nothing.
use Rattle.std.specs.Prelude.{Option, Some, None}
use Rattle.pieces.specs.declared.mode.Mode.{Mode}
use Prim.Native.Nat.{ℕ, zero, suc, ◌+◌, ◌-◌, ◌≤◌, ◌<◌}
use mathlib.Core.Path.{◌≡◌, refl, sym, ◌∙◌}
use mathlib.Core.Bool.{Bool, true, false, not}
use mathlib.Core.Logic.{◌⊎◌, inl, inr, ⊎_elim}
use mathlib.Core.List.{List, [], ◌∷◌, ◌++◌, append_assoc}
use native.Mathlib.Omega.{arith}
use native.Mathlib.Numerals.{add-one}
use borrow.Author.Rules.{rules}
use borrow.Author.Tests.{eq-eqb, ne_eqb, le-leb, lt-leb}
use lib.Dec.{eqb}
use lib.ListN.{length, take, drop}
use Rattle.parser.specs.Digits.{if-then}
use Rattle.parser.specs.Bytes.{past}
use Rattle.parser.specs.Number.{integer62}
use Rattle.pieces.specs.Words as W
use Rattle.pieces.specs.declared.words.Word.{Word}
use Rattle.parser.specs.declared.names.Name.{Name}
use Rattle.printer.specs.declared.read.Abi.{Abi}
use Rattle.printer.specs.declared.read.Abi.TheVariants.{C, Named}
use Rattle.nibbles.specs.Uint.{hex_value}
use Rattle.nibbles.specs.declared.uint.Hex.{Hex}
use Rattle.nibbles.specs.declared.uint.Hex.TheVariants.{Small, Big}
use Rattle.pieces.specs.Quoted.{chars_of}
use Rattle.pieces.specs.Piece.{Piece, word, letter, number, hash, life, abi, run, kind, quote}
use Rattle.printer.specs.Lay.{State}
use Rattle.printer.specs.Says.{Says, ◌then◌, give, emit, broken, breaks, reader, choose, taken, need, asks, pick}
use Rattle.printer.specs.Lay.{World, world, Out, out, lays, lay, follows, moved_to}
use Rattle.printer.specs.declared.read.Tag.{Tag}
use Rattle.printer.specs.Readings.{AbiWithin, tag_at, named_at, life_at, head_at, flag_at, scalar_at, literal_at}
use Rattle.printer.specs.declared.read.Head.{Head}
use Rattle.printer.specs.Letters as letters
use Rattle.printer.specs.Model as g
use Rattle.printer.specs.Parts as part
use Rattle.printer.specs.Model.{say_if}
use Rattle.printer.proofs.LayLaws.{lay-nil, lay-off, lays-moved}
use Rattle.printer.proofs.StateLaws.{Halted, tests}
use Rattle.printer.proofs.ToldLaws.{told-there, told-then, given-true, told-refused, told-asked}
use Rattle.printer.proofs.TagLaws.{true-false, byte-in, byte-out, tag-next, tag_same, tag-unknown}
use Rattle.printer.proofs.ArmLaws.{arm_full, arm-then, arm-pieces, arm-piece, arm-run, need-stop, eat-stop, eat-no, eat-yes}
use Rattle.printer.proofs.NeedLaws.{read-next, read-fails, named-next, named-fails, hex-small, hex-large, hex-fails, literal-next, literal-fails}
use Rattle.printer.proofs.WithinLaws.{head-within, named-within, ascii-within, part-starts, part-ends, ascii-after, code-after, hex-starts, hex-ends, char-small, literal-starts, literal-ends, literal-text}

-- pieces, one after another
pub ruleset pieces = (arm-pieces, arm-piece, tests, rules)

-- ---- identifiers
pub ruleset name_laws = (ascii-within, part-starts, part-ends, ascii-after, code-after, tests, rules)

-- where nothing is printed, the name is read and that is all
module _ (m : Option Mode) (s : List ℕ) (o : List ℕ) (st mv : State) (x : Option (ℕ × Name)) (d : ℕ) (n : Name) (off : m ≡ None) (free : st.full ≡ false) (none : st.error ≡ 0) (answered : x ≡ named_at s st.place) (known : x ≡ Some (d, n)) (there : mv ≡ moved_to n.end st) where
  pub krate-off : world o mv ≡ lay m (g.krate s) (world o st)
  unfolding g.krate
  krate-off = named-next m o st mv (world o mv) s _ x d n free none answered known there (sym (lay-off m _ (world o mv) off))

  pub nested-off : (ns : Option ℕ) → world o mv ≡ lay m (g.nested s ns) (world o st)
  unfolding g.nested
  nested-off ns = named-next m o st mv (world o mv) s _ x d n free none answered known there (sym (lay-off m _ (world o mv) off))

module _ (m : Option Mode) (s : List ℕ) (o : List ℕ) (st mv : State) (w : World) (x : Option (ℕ × Name)) where
  pub krate-fails : st.error ≡ 0 → x ≡ named_at s st.place → x ≡ None → mv ≡ st → w ≡ lay m broken (world o mv) → w ≡ lay m (g.krate s) (world o st)
  unfolding g.krate
  krate-fails e h k l p = named-fails m o st mv w s _ x e h k l p

  pub krate-next : (d : ℕ) (n : Name) (y : World) → st.full ≡ false → st.error ≡ 0 → x ≡ named_at s st.place → x ≡ Some (d, n) → mv ≡ moved_to n.end st → y ≡ lay m (emit (g.ident s n ∷ [])) (world o mv) → w ≡ lay m (emit (hash d ∷ [])) y → w ≡ lay m (g.krate s) (world o st)
  unfolding g.krate
  krate-next d n y u e h k l p r = named-next m o st mv w s _ x d n u e h k l (arm-piece m _ _ (world o mv) y w p r)

pub ruleset krate_laws = (krate-fails, krate-off, krate-next, named-within, tests, rules)

module _ (m : Option Mode) (s : List ℕ) (k : Word) (n : Name) (v : World) where
  pub empty_name : n.start ≡ n.end → v ≡ lay m (emit (g.unless_empty s k n)) v
  unfolding g.unless_empty
  empty_name h = rw (eq-eqb n.start n.end h) (sym (lay-nil m v))

  pub some-name : (w : World) → (n.start ≡ n.end → ⊥) → w ≡ lay m (emit (word k ∷ g.ident s n ∷ [])) v → w ≡ lay m (emit (g.unless_empty s k n)) v
  unfolding g.unless_empty
  some-name w h p = rw (ne_eqb n.start n.end h) p

pub ruleset after_laws = (empty_name, some-name, arm-piece, tests, rules)

module _ (m : Option Mode) (c : ℕ) (v w : World) where
  pub space-closure : c ≡ 67 → w ≡ lay m (emit (word W.closure ∷ [])) v → w ≡ lay m (emit (g.space_name c ∷ [])) v
  unfolding g.space_name
  space-closure h p = rw (eq-eqb c 67 h) p

  space-shim : (c ≡ 67 → ⊥) → c ≡ 83 → w ≡ lay m (emit (word W.shim ∷ [])) v → w ≡ lay m (emit (g.space_name c ∷ [])) v
  unfolding g.space_name
  space-shim n h p = rw (ne_eqb c 67 n, eq-eqb c 83 h) p

  pub space-shim' : c ≡ 83 → w ≡ lay m (emit (word W.shim ∷ [])) v → w ≡ lay m (emit (g.space_name c ∷ [])) v
  space-shim' h p = space-shim (λ q. absurd (omega (arith, q, h))) h p

  pub space-letter : (c ≡ 67 → ⊥) → (c ≡ 83 → ⊥) → w ≡ lay m (emit (letter c ∷ [])) v → w ≡ lay m (emit (g.space_name c ∷ [])) v
  unfolding g.space_name
  space-letter n k p = rw (ne_eqb c 67 n, ne_eqb c 83 k) p

pub ruleset space_laws = (space-closure, space-shim', space-letter, tests, rules)

-- `::{`, the namespace, the name, the number
pub special-name : (m : Option Mode) (s : List ℕ) (ns d : ℕ) (n : Name) (v x y z w : World) → x ≡ lay m (emit (word W.special ∷ [])) v → y ≡ lay m (emit (g.space_name ns ∷ [])) x → z ≡ lay m (emit (g.unless_empty s W.colon n)) y → w ≡ lay m (emit (word W.hash ∷ number d ∷ word W.close ∷ [])) z → w ≡ lay m (emit (g.special_name s ns d n)) v
unfolding g.special_name
special-name m s ns d n v x y z w p q r t = arm-piece m (word W.special) _ v x w p (arm-piece m (g.space_name ns) _ x y w q (arm-pieces m (g.unless_empty s W.colon n) _ y z w r t))

pub ruleset special_laws = (special-name, tests, rules)

pub nested-stop : (m : Option Mode) (s : List ℕ) (ns : Option ℕ) (o : List ℕ) (st : State) (w : World) → Halted st → w ≡ lay m (emit asks) (world o st) → w ≡ lay m (g.nested s ns) (world o st)
unfolding g.nested
nested-stop m s ns o st w e p = need-stop m _ _ o st w e p

module _ (m : Option Mode) (s : List ℕ) (ns : Option ℕ) (o : List ℕ) (st mv : State) (w : World) (x : Option (ℕ × Name)) where
  pub nested-fails : st.error ≡ 0 → x ≡ named_at s st.place → x ≡ None → mv ≡ st → w ≡ lay m broken (world o mv) → w ≡ lay m (g.nested s ns) (world o st)
  unfolding g.nested
  nested-fails e h k l p = named-fails m o st mv w s _ x e h k l p

  module _ (d : ℕ) (n : Name) (free : st.full ≡ false) (none : st.error ≡ 0) (answered : x ≡ named_at s st.place) (known : x ≡ Some (d, n)) (there : mv ≡ moved_to n.end st) where
    pub nested-plain : ns ≡ None → w ≡ lay m (emit (g.unless_empty s W.colons n)) (world o mv) → w ≡ lay m (g.nested s ns) (world o st)
    unfolding g.nested g.nested_name
    nested-plain h p = named-next m o st mv w s _ x d n free none answered known there (rw h p)

    pub nested-special : (c : ℕ) → ns ≡ Some c → w ≡ lay m (emit (g.special_name s c d n)) (world o mv) → w ≡ lay m (g.nested s ns) (world o st)
    unfolding g.nested g.nested_name
    nested-special c h p = named-next m o st mv w s _ x d n free none answered known there (rw h p)

pub ruleset nested_laws = (nested-stop, nested-fails, nested-off, nested-plain, nested-special, named-within, tests, rules)

-- ---- lifetimes
pub unbound-is : (m : Option Mode) (v x w : World) → x ≡ lay m (emit (word W.tick ∷ [])) v → w ≡ lay m broken x → w ≡ lay m g.unbound v
unfolding g.unbound
unbound-is m v x w p q = arm-then m _ broken v x w p q

pub ruleset unbound_laws = (unbound-is, tests, rules)

follows_on : (m : Option Mode) → (m ≡ None → ⊥) → follows m ≡ true
follows_on None h = absurd (h refl)
follows_on (Some m) h = refl

module _ (m : Option Mode) (b lt : ℕ) (v : World) where
  pub life-off : m ≡ None → v ≡ lay m (g.life_of (follows m) b lt) v
  unfolding g.life_of choose
  life-off h = rw h (sym (lay-off None [] v refl))

  module _ (w : World) (shows : m ≡ None → ⊥) where
    pub life-zero : lt ≡ 0 → w ≡ lay m (emit (word W.tick ∷ word W.underscore ∷ [])) v → w ≡ lay m (g.life_of (follows m) b lt) v
    unfolding g.life_of choose
    life-zero h p = rw (follows_on m shows, eq-eqb lt 0 h) p

    pub life-found : (d : ℕ) → (lt ≡ 0 → ⊥) → lt ≤ b → d ≡ b - lt → w ≡ lay m (emit (life d ∷ [])) v → w ≡ lay m (g.life_of (follows m) b lt) v
    unfolding g.life_of choose
    life-found d h k e p = rw (follows_on m shows, ne_eqb lt 0 h, le-leb lt b k, ← e) p

    pub life-unbound : (lt ≡ 0 → ⊥) → b < lt → w ≡ lay m g.unbound v → w ≡ lay m (g.life_of (follows m) b lt) v
    unfolding g.life_of choose
    life-unbound h k p = rw (follows_on m shows, ne_eqb lt 0 h, lt-leb lt b k) p

pub depth_is : (b lt : ℕ) → b - lt ≡ b - lt
depth_is b lt = refl

pub ruleset life_laws = (life-off, life-zero, life-found, life-unbound, depth_is, tests, rules)

module _ (m : Option Mode) (s : List ℕ) (b : ℕ) (o : List ℕ) (st mv : State) (w : World) (x : Option (ℕ × ℕ)) where
  pub lifetime-fails : st.error ≡ 0 → x ≡ integer62 s st.place → x ≡ None → mv ≡ st → w ≡ lay m broken (world o mv) → w ≡ lay m (g.lifetime s (follows m) b) (world o st)
  unfolding g.lifetime
  lifetime-fails e h k l p = read-fails m o st mv w (integer62 s) _ x e h k l p

  pub lifetime-next : (v q : ℕ) → st.full ≡ false → st.error ≡ 0 → x ≡ integer62 s st.place → x ≡ Some (v, q) → mv ≡ moved_to q st → w ≡ lay m (g.life_of (follows m) b v) (world o mv) → w ≡ lay m (g.lifetime s (follows m) b) (world o st)
  unfolding g.lifetime
  lifetime-next v q u e h k l p = read-next m o st mv w (integer62 s) _ x v q u e h k l p

pub ruleset lifetime_laws = (lifetime-fails, lifetime-next, tests, rules)

module _ (m : Option Mode) (b lt : ℕ) (v : World) where
  pub ref-none : lt ≡ 0 → v ≡ lay m (g.ref_life (follows m) b lt) v
  unfolding g.ref_life choose
  ref-none h = rw (eq-eqb lt 0 h) (sym (lay-nil m v))

  pub ref-some : (x w : World) → (lt ≡ 0 → ⊥) → x ≡ lay m (g.life_of (follows m) b lt) v → w ≡ lay m (emit (letter 32 ∷ [])) x → w ≡ lay m (g.ref_life (follows m) b lt) v
  unfolding g.ref_life choose
  ref-some x w h p q = rw (ne_eqb lt 0 h) (arm-then m _ _ v x w p q)

  pub end_none : lt ≡ 0 → v ≡ lay m (g.end_life (follows m) b lt) v
  unfolding g.end_life choose
  end_none h = rw (eq-eqb lt 0 h) (sym (lay-nil m v))

  pub end-some : (x w : World) → (lt ≡ 0 → ⊥) → x ≡ lay m (emit (word W.plus ∷ [])) v → w ≡ lay m (g.life_of (follows m) b lt) x → w ≡ lay m (g.end_life (follows m) b lt) v
  unfolding g.end_life choose
  end-some x w h p q = rw (ne_eqb lt 0 h) (arm-then m _ _ v x w p q)

pub ruleset edge_laws = (ref-none, ref-some, end_none, end-some, tests, rules)

-- the end of a trait object: y is what `eat` answered, x what `integer_62` answered behind it
module _ (m : Option Mode) (s : List ℕ) (b : ℕ) (o : List ℕ) (st : State) (w : World) where
  pub bound-stop : Halted st → w ≡ lay m broken (world o st) → w ≡ lay m (g.bound s (follows m) b) (world o st)
  unfolding g.bound choose
  bound-stop e p = eat-stop m s 76 _ o st w e p

  module _ (y : ℕ) (free : st.full ≡ false) (none : st.error ≡ 0) (eaten : y ≡ past 76 s st.place) where
    pub bound-none : y ≡ st.place → w ≡ lay m broken (world o st) → w ≡ lay m (g.bound s (follows m) b) (world o st)
    unfolding g.bound choose
    bound-none n p = eat-no m s 76 _ o st w y free none eaten st n refl p

    pub bound_some : (mv : State) → (y ≡ st.place → ⊥) → mv ≡ moved_to y st → w ≡ lay m (g.bound_life s (follows m) b) (world o mv) → w ≡ lay m (g.bound s (follows m) b) (world o st)
    unfolding g.bound g.bound_life choose
    bound_some mv there l p = eat-yes m s 76 _ o st w y free none eaten mv there l p

pub ruleset bound_laws = (bound-stop, bound-none, bound_some, tests, rules)

module _ (m : Option Mode) (s : List ℕ) (b : ℕ) (o : List ℕ) (st mv : State) (w : World) (x : Option (ℕ × ℕ)) where
  pub bound-fails : st.error ≡ 0 → x ≡ integer62 s st.place → x ≡ None → mv ≡ st → w ≡ lay m broken (world o mv) → w ≡ lay m (g.bound_life s (follows m) b) (world o st)
  unfolding g.bound_life
  bound-fails e h k l p = read-fails m o st mv w (integer62 s) _ x e h k l p

  pub bound-next : (v q : ℕ) → st.full ≡ false → st.error ≡ 0 → x ≡ integer62 s st.place → x ≡ Some (v, q) → mv ≡ moved_to q st → w ≡ lay m (g.end_life (follows m) b v) (world o mv) → w ≡ lay m (g.bound_life s (follows m) b) (world o st)
  unfolding g.bound_life
  bound-next v q u e h k l p = read-next m o st mv w (integer62 s) _ x v q u e h k l p

pub ruleset bound_life_laws = (bound-fails, bound-next, tests, rules)

-- ---- a reference's sign, its lifetime and `mut`
pub reference-is : (m : Option Mode) (s : List ℕ) (is_mut f : Bool) (b : ℕ) (v x : World) (z : Out Bool) → x ≡ lay m (emit (word W.ref ∷ [])) v → z ≡ lays false m (g.ref_rest s is_mut f b) x → z ≡ lays false m (g.reference s is_mut f b) v
unfolding g.reference
reference-is m s is_mut f b v x z p q = told-then m _ _ v x z p q

module _ (m : Option Mode) (s : List ℕ) (is_mut f : Bool) (b : ℕ) (o o1 : List ℕ) (st r : State) where
  pub ref-stop : Halted st → world o1 r ≡ lay m (emit asks) (world o st) → out false (world o1 r) ≡ lays false m (g.ref_rest s is_mut f b) (world o st)
  unfolding g.ref_rest need reader
  ref-stop h p = told-asked m (g.ref_rest s is_mut f b) o st r o1 refl h p

  module _ (x : Option (ℕ × ℕ)) (none : st.error ≡ 0) (answered : x ≡ life_at s st.place) where
    pub ref-fails : x ≡ None → world o1 r ≡ lay m broken (world o st) → out false (world o1 r) ≡ lays false m (g.ref_rest s is_mut f b) (world o st)
    unfolding g.ref_rest need reader taken broken
    ref-fails k q = told-refused m 0 (g.ref_rest s is_mut f b) o st st r o1 none refl (rw (← answered, k)) q

    pub ref-next : (lt e : ℕ) (mv : State) (y : World) (t : Bool) → st.full ≡ false → x ≡ Some (lt, e) → mv ≡ moved_to e st → y ≡ lay m (g.ref_life f b lt) (world o mv) → world o1 r ≡ lay m (say_if is_mut W.mut) y → t ≡ not r.full → out t (world o1 r) ≡ lays false m (g.ref_rest s is_mut f b) (world o st)
    unfolding g.ref_rest need reader taken
    ref-next lt e mv y t u k l q1 q2 h =
        let rest : Says Bool = g.ref_life f b lt then say_if is_mut W.mut then give true in
        let z : out t (world o1 r) ≡ lays false m rest (world o mv) = told-then m _ _ (world o mv) y _ q1 (told-then m _ _ y (world o1 r) _ q2 (given-true m t o1 r h)) in
        told-there false m rest o (moved_to e st) mv _ l z ∙ sym (lays-moved false m (g.ref_rest s is_mut f b) rest e o st u none (rw (← answered, k)))

pub ruleset reference_laws = (reference-is, ref-stop, ref-fails, ref-next, tests, rules)

-- ---- binders
module _ (m : Option Mode) (b i : ℕ) (v w : World) where
  pub life-first : (n : ℕ) → n ≡ g.held (b + i) → i ≡ 0 → w ≡ lay m (emit (life n ∷ [])) v → w ≡ lay m (emit (g.one_life b i)) v
  unfolding g.one_life
  life-first n e h p = rw (eq-eqb i 0 h, ← e) p

  pub life-later : (n : ℕ) (x : World) → n ≡ g.held (b + i) → (i ≡ 0 → ⊥) → x ≡ lay m (emit (word W.comma-blank ∷ [])) v → w ≡ lay m (emit (life n ∷ [])) x → w ≡ lay m (emit (g.one_life b i)) v
  unfolding g.one_life
  life-later n x e h p q = rw (ne_eqb i 0 h, ← e) (arm-piece m _ _ v x w p q)

pub ruleset one_life_laws = (life-first, life-later, tests, rules)

-- what is left to be printed of a binder's n lifetimes above b, the i-th next, is what there was to be printed at the first
abbrev left_of : ℕ → ℕ → ℕ → List Piece
left_of b i k = g.lives b i k ++ (word W.for-end ∷ [])

pub record Binding (m : Option Mode) (b n i : ℕ) (start v : World) : Type 0 where
  pub rest : lay m (emit (left_of b i (n - i))) v ≡ lay m (emit (left_of b 0 n)) start
  pub within : i ≤ n

pub bind-off : (m : Option Mode) (b n : ℕ) (v : World) → m ≡ None → v ≡ lay m (emit (g.binder b n)) v
bind-off m b n v h = sym (lay-off m (g.binder b n) v h)

pub bind-none : (m : Option Mode) (b n : ℕ) (v : World) → n ≡ 0 → v ≡ lay m (emit (g.binder b n)) v
unfolding g.binder
bind-none m b n v h = rw h (sym (lay-nil m v))

pub bind-start : (m : Option Mode) (b n : ℕ) (v : World) → Binding m b n 0 v v
bind-start m b n v = let z : n - 0 ≡ n = omega arith in record { rest = rw z; within = omega arith }

pub bind-more : (m : Option Mode) (b n i : ℕ) (start v x : World) → Binding m b n i start v → i < n → x ≡ lay m (emit (g.one_life b i)) v → Binding m b n (i + 1) start x
unfolding g.lives
bind-more m b n i start v x r h p = record { rest = go (n - i) refl; within = omega arith }
  where
    go : (k : ℕ) → n - i ≡ k → lay m (emit (left_of b (i + 1) (n - (i + 1)))) x ≡ lay m (emit (left_of b 0 n)) start
    go zero e = absurd (omega arith)
    go (suc k) e =
        let l : n - (i + 1) ≡ k = omega arith in
        let q : lay m (emit (left_of b i (suc k))) v ≡ lay m (emit (left_of b 0 n)) start = rw e at r.rest in
        rw (l, add-one) (arm-pieces m (g.one_life b i) (left_of b (suc i) k) v x _ p refl ∙ rw append_assoc at q)

module _ (m : Option Mode) (b n i : ℕ) (u start v : World) (r : Binding m b n i start v) (some : n ≡ 0 → ⊥) (begun : start ≡ lay m (emit (word W.for ∷ [])) u) where
  all : lay m (emit (left_of b 0 n)) start ≡ lay m (emit (g.binder b n)) u
  unfolding g.binder
  all = rw (ne_eqb n 0 some) (arm-piece m (word W.for) (left_of b 0 n) u start _ begun refl)

  pub bind-end : (w : World) → n ≤ i → w ≡ lay m (emit (word W.for-end ∷ [])) v → w ≡ lay m (emit (g.binder b n)) u
  unfolding g.lives
  bind-end w h p = let z : n - i ≡ 0 = omega (arith, r.within) in p ∙ ((rw z at r.rest) ∙ all)

pub bind-full : (m : Option Mode) (b n i : ℕ) (u start : World) (o : List ℕ) (st : State) → Binding m b n i start (world o st) → (n ≡ 0 → ⊥) → start ≡ lay m (emit (word W.for ∷ [])) u → st.full ≡ true → world o st ≡ lay m (emit (g.binder b n)) u
bind-full m b n i u start o st r some begun h = arm_full m _ o st h ∙ (r.rest ∙ all m b n i u start (world o st) r some begun)

pub ruleset binder_laws = (bind-off, bind-none, bind-start, bind-more, bind-end, bind-full, tests, rules)

-- ---- function pointers
module _ (m : Option Mode) (s : List ℕ) (k : Option Abi) (v : World) where
  pub abi-none : k ≡ None → v ≡ lay m (emit (g.maybe_abi s k)) v
  unfolding g.maybe_abi
  abi-none h = rw h (sym (lay-nil m v))

  pub abi-c : (a : Abi) (w : World) → k ≡ Some a → a ≡ C → w ≡ lay m (emit (word W.extern ∷ word W.c ∷ word W.extern-end ∷ [])) v → w ≡ lay m (emit (g.maybe_abi s k)) v
  unfolding g.maybe_abi
  abi-c a w h z p = rw (h, z) p

  pub abi-some : (a : Abi) (x y : ℕ) (w : World) → k ≡ Some a → a ≡ Named x y → w ≡ lay m (emit (word W.extern ∷ abi (take (y - x) (drop x s)) ∷ word W.extern-end ∷ [])) v → w ≡ lay m (emit (g.maybe_abi s k)) v
  unfolding g.maybe_abi g.abi_pieces
  abi-some a x y w h z p = rw (h, z) p

abi-places : (s : List ℕ) (k : Option Abi) (a : Abi) (x y : ℕ) → AbiWithin s k → k ≡ Some a → a ≡ Named x y → (x ≤ y) × (y ≤ length s)
abi-places s k a x y w h z = rw (h, z) at w

pub abi-starts : (s : List ℕ) (k : Option Abi) (a : Abi) (x y : ℕ) → AbiWithin s k → k ≡ Some a → a ≡ Named x y → x ≤ y
abi-starts s k a x y w h z = (abi-places s k a x y w h z).0

pub abi-ends : (s : List ℕ) (k : Option Abi) (a : Abi) (x y : ℕ) → AbiWithin s k → k ≡ Some a → a ≡ Named x y → y ≤ length s
abi-ends s k a x y w h z = (abi-places s k a x y w h z).1

pub head-is : (m : Option Mode) (s : List ℕ) (h : Head) (v x y w : World) → x ≡ lay m (say_if h.is_unsafe W.unsafe) v → y ≡ lay m (emit (g.maybe_abi s h.abi)) x → w ≡ lay m (emit (word W.fn ∷ [])) y → w ≡ lay m (emit (g.head_pieces s h)) v
unfolding g.head_pieces
head-is m s h v x y w p q r = arm-pieces m _ _ v x w p (arm-pieces m _ _ x y w q r)

pub ruleset abi_laws = (abi-none, abi-c, abi-some, abi-starts, abi-ends, head-is, tests, rules)

-- what stands before the parameters, read
module _ (m : Option Mode) (s : List ℕ) (o o1 : List ℕ) (st r : State) where
  pub sig-stop : Halted st → world o1 r ≡ lay m (emit asks) (world o st) → out false (world o1 r) ≡ lays false m (g.sig_head s) (world o st)
  unfolding g.sig_head need reader
  sig-stop h p = told-asked m (g.sig_head s) o st r o1 refl h p

  module _ (x : Option (Head × ℕ)) (none : st.error ≡ 0) (answered : x ≡ head_at s st.place) where
    pub sig-fails : x ≡ None → world o1 r ≡ lay m broken (world o st) → out false (world o1 r) ≡ lays false m (g.sig_head s) (world o st)
    unfolding g.sig_head need reader taken broken
    sig-fails k q = told-refused m 0 (g.sig_head s) o st st r o1 none refl (rw (← answered, k)) q

    pub sig-next : (h : Head) (e : ℕ) (mv : State) (t : Bool) → st.full ≡ false → x ≡ Some (h, e) → mv ≡ moved_to e st → world o1 r ≡ lay m (emit (g.head_pieces s h)) (world o mv) → t ≡ not r.full → out t (world o1 r) ≡ lays false m (g.sig_head s) (world o st)
    unfolding g.sig_head need reader taken
    sig-next h e mv t f k l q y =
        let rest : Says Bool = emit (g.head_pieces s h) then give true in
        let z : out t (world o1 r) ≡ lays false m rest (world o mv) = told-then m _ _ (world o mv) (world o1 r) _ q (given-true m t o1 r y) in
        told-there false m rest o (moved_to e st) mv _ l z ∙ sym (lays-moved false m (g.sig_head s) rest e o st f none (rw (← answered, k)))

pub ruleset signature_laws = (sig-stop, sig-fails, sig-next, head-within, tests, rules)

-- ---- integers
pub small_is : (m : Option Mode) (t n : ℕ) (v x w : World) → x ≡ lay m (emit (number n ∷ [])) v → w ≡ lay m (emit (kind t ∷ [])) x → w ≡ lay m (emit (g.small_pieces t n)) v
unfolding g.small_pieces
small_is m t n v x w p q = arm-piece m _ _ v x w p q

pub large_is : (m : Option Mode) (s : List ℕ) (t a e : ℕ) (v x y w : World) → x ≡ lay m (emit (word W.hex ∷ [])) v → y ≡ lay m (emit (run (take (e - a) (drop a s)) ∷ [])) x → w ≡ lay m (emit (kind t ∷ [])) y → w ≡ lay m (emit (g.large_pieces s t a e)) v
unfolding g.large_pieces
large_is m s t a e v x y w p q r = arm-piece m _ _ v x w p (arm-piece m _ _ x y w q r)

pub ruleset integer_piece_laws = (small_is, large_is, tests, rules)

pub uint-stop : (m : Option Mode) (s : List ℕ) (t : ℕ) (o : List ℕ) (st : State) (w : World) → Halted st → w ≡ lay m (emit asks) (world o st) → w ≡ lay m (g.uint s t) (world o st)
unfolding g.uint
uint-stop m s t o st w e p = need-stop m _ _ o st w e p

module _ (m : Option Mode) (s : List ℕ) (t : ℕ) (o : List ℕ) (st mv : State) (w : World) (x : Option (Hex × ℕ)) where
  pub uint-fails : st.error ≡ 0 → x ≡ hex_value s st.place → x ≡ None → mv ≡ st → w ≡ lay m broken (world o mv) → w ≡ lay m (g.uint s t) (world o st)
  unfolding g.uint
  uint-fails e h k l p = hex-fails m o st mv w s _ x e h k l p

  module _ (h : Hex) (v q : ℕ) (free : st.full ≡ false) (none : st.error ≡ 0) (answered : x ≡ hex_value s st.place) (known : x ≡ Some (h, q)) (there : mv ≡ moved_to q st) where
    pub uint-small : h ≡ Small v → w ≡ lay m (emit (g.small_pieces t v)) (world o mv) → w ≡ lay m (g.uint s t) (world o st)
    unfolding g.uint g.integer_pieces
    uint-small k p = hex-small m o st mv w s _ x v q free none answered (known ∙ rw k) there p

    pub uint-large : h ≡ Big v → w ≡ lay m (emit (g.large_pieces s t st.place v)) (world o mv) → w ≡ lay m (g.uint s t) (world o st)
    unfolding g.uint g.integer_pieces
    uint-large k p = hex-large m o st mv w s _ x v q free none answered (known ∙ rw k) there p

pub ruleset uint_laws = (uint-stop, uint-fails, uint-small, uint-large, hex-starts, hex-ends, tests, rules)

module _ (m : Option Mode) (s : List ℕ) (t : ℕ) (o : List ℕ) (st mv : State) (w : World) (y : ℕ) (free : st.full ≡ false) (none : st.error ≡ 0) (eaten : y ≡ past 110 s st.place) where
  pub int-plain : y ≡ st.place → mv ≡ st → w ≡ lay m (g.uint s t) (world o mv) → w ≡ lay m (g.int s t) (world o st)
  unfolding g.int choose
  int-plain n l p = eat-no m s 110 _ o st w y free none eaten mv n l p

  pub int-minus : (x : World) → (y ≡ st.place → ⊥) → mv ≡ moved_to y st → x ≡ lay m (emit (word W.minus ∷ [])) (world o mv) → w ≡ lay m (g.uint s t) x → w ≡ lay m (g.int s t) (world o st)
  unfolding g.int choose
  int-minus x n l p q = eat-yes m s 110 _ o st w y free none eaten mv n l (arm-then m _ _ (world o mv) x w p q)

pub ruleset int_laws = (int-plain, int-minus, tests, rules)

-- what `signed_by` says
no-some : {A P : Type 0} {a : A} → None ≡ Some a → P
no-some {A} {P} {a} h = absurd (let z : ◌≡◌ {A = ℕ} 0 1 = cc in omega arith)

unsigned-is : (c : ℕ) → letters.signed_by c ≡ Some false → letters.is_unsigned c ≡ true
unfolding letters.signed_by
unsigned-is c h = go (letters.is_unsigned c) (letters.is_signed c) refl h
  where
    go : (x y : Bool) → letters.is_unsigned c ≡ x → ◌≡◌ {A = Option Bool} (if-then x (Some false) (if-then y (Some true) None)) (Some false) → letters.is_unsigned c ≡ true
    go true y e q = e
    go false true e q = let z : true ≡ false = cc in absurd (true-false z)
    go false false e q = no-some q

signed-is : (c : ℕ) → letters.signed_by c ≡ Some true → (letters.is_unsigned c ≡ false) × (letters.is_signed c ≡ true)
unfolding letters.signed_by
signed-is c h = go (letters.is_unsigned c) (letters.is_signed c) refl refl h
  where
    go : (x y : Bool) → letters.is_unsigned c ≡ x → letters.is_signed c ≡ y → ◌≡◌ {A = Option Bool} (if-then x (Some false) (if-then y (Some true) None)) (Some true) → (letters.is_unsigned c ≡ false) × (letters.is_signed c ≡ true)
    go true y e k q = let z : false ≡ true = cc in absurd (true-false (sym z))
    go false true e k q = (e, k)
    go false false e k q = no-some q

neither-is : (c : ℕ) → letters.signed_by c ≡ None → (letters.is_unsigned c ≡ false) × (letters.is_signed c ≡ false)
unfolding letters.signed_by
neither-is c h = go (letters.is_unsigned c) (letters.is_signed c) refl refl h
  where
    go : (x y : Bool) → letters.is_unsigned c ≡ x → letters.is_signed c ≡ y → ◌≡◌ {A = Option Bool} (if-then x (Some false) (if-then y (Some true) None)) None → (letters.is_unsigned c ≡ false) × (letters.is_signed c ≡ false)
    go true y e k q = no-some (sym q)
    go false true e k q = no-some (sym q)
    go false false e k q = (e, k)

-- by the letter of the type: d is what `signed` answered
letter-some : (c : ℕ) (t : Bool) → letters.signed_by c ≡ Some t → eqb c 0 ≡ false
unfolding letters.signed_by letters.is_unsigned letters.is_signed letters.any_of
letter-some zero t h = no-some h
letter-some (suc c) t h = ne_eqb (suc c) 0 (λ e. absurd (omega (arith, e)))

module _ (m : Option Mode) (s : List ℕ) (o : List ℕ) (st mv : State) (w : World) (x : Tag) (answered : x ≡ tag_at s st.place) (none : st.error ≡ 0) (d : Option Bool) (judged : d ≡ letters.signed_by x.byte) where
  pub integer-unsigned : d ≡ Some false → st.full ≡ false → mv ≡ moved_to x.behind st → w ≡ lay m (g.uint s x.byte) (world o mv) → w ≡ lay m (part.integer_at s) (world o st)
  unfolding part.integer_at g.integer pick
  integer-unsigned h f l p = tag-next m s o st w x answered none [] (g.integer s) (g.uint s x.byte) mv x.byte refl (letter-some x.byte false (sym judged ∙ h)) f l p (rw (unsigned-is x.byte (sym judged ∙ h)))

  pub integer-signed : d ≡ Some true → st.full ≡ false → mv ≡ moved_to x.behind st → w ≡ lay m (g.int s x.byte) (world o mv) → w ≡ lay m (part.integer_at s) (world o st)
  unfolding part.integer_at g.integer pick
  integer-signed h f l p =
      let k = signed-is x.byte (sym judged ∙ h) in
      tag-next m s o st w x answered none [] (g.integer s) (g.int s x.byte) mv x.byte refl (letter-some x.byte true (sym judged ∙ h)) f l p (rw (k.0, k.1))

  pub integer-none : d ≡ None → w ≡ lay m broken (world o st) → w ≡ lay m (part.integer_at s) (world o st)
  integer-none h p = unfold part.integer_at in (tag_same m s o st w x answered none (g.integer s) g.unknown (λ j. unfold g.integer in (rw ((neither-is x.byte (sym judged ∙ h)).0, (neither-is x.byte (sym judged ∙ h)).1))) (tag-unknown m s o st w x answered none [] (λ j. unfold pick in refl) p))

pub ruleset integer_laws = (integer-unsigned, integer-signed, integer-none, tests, rules)

-- ---- where no level is left
module _ (m : Option Mode) (s : List ℕ) (o : List ℕ) (st : State) (w : World) where
  pub level_in : st.error ≡ 0 → st.place < length s → w ≡ lay m (breaks 1) (world o st) → w ≡ lay m (part.no_level s) (world o st)
  unfolding part.no_level g.by_tag reader pick breaks
  level_in e h p = arm-run m (part.no_level s) (breaks 1) o st w e p (rw (byte-in s st.place h))

  pub level_out : st.error ≡ 0 → length s ≤ st.place → w ≡ lay m broken (world o st) → w ≡ lay m (part.no_level s) (world o st)
  unfolding part.no_level g.by_tag reader pick broken breaks
  level_out e h p = arm-run m (part.no_level s) broken o st w e p (rw (byte-out s st.place h))

pub ruleset level_laws = (level_in, level_out, tests, rules)

-- ---- bools, characters, strings
module _ (m : Option Mode) (s : List ℕ) (o : List ℕ) (st mv : State) (w : World) where
  pub bool-fails : (x : Option (Bool × ℕ)) → st.error ≡ 0 → x ≡ flag_at s st.place → x ≡ None → mv ≡ st → w ≡ lay m broken (world o mv) → w ≡ lay m (g.boolean s) (world o st)
  unfolding g.boolean
  bool-fails x e h k l p = read-fails m o st mv w (flag_at s) _ x e h k l p

  pub bool-next : (x : Option (Bool × ℕ)) (t : Bool) (q : ℕ) (n : Word) → st.full ≡ false → st.error ≡ 0 → x ≡ flag_at s st.place → x ≡ Some (t, q) → mv ≡ moved_to q st → n ≡ if-then t W.true W.false → w ≡ lay m (emit (word n ∷ [])) (world o mv) → w ≡ lay m (g.boolean s) (world o st)
  unfolding g.boolean
  bool-next x t q n u e h k l b p = read-next m o st mv w (flag_at s) _ x t q u e h k l (rw (← b) p)

  pub char-fails : (x : Option (ℕ × ℕ)) → st.error ≡ 0 → x ≡ scalar_at s st.place → x ≡ None → mv ≡ st → w ≡ lay m broken (world o mv) → w ≡ lay m (g.character s) (world o st)
  unfolding g.character
  char-fails x e h k l p = read-fails m o st mv w (scalar_at s) _ x e h k l p

  pub char-next : (x : Option (ℕ × ℕ)) (v q : ℕ) → st.full ≡ false → st.error ≡ 0 → x ≡ scalar_at s st.place → x ≡ Some (v, q) → mv ≡ moved_to q st → w ≡ lay m (emit (quote 39 (v ∷ []) ∷ [])) (world o mv) → w ≡ lay m (g.character s) (world o st)
  unfolding g.character
  char-next x v q u e h k l p = read-next m o st mv w (scalar_at s) _ x v q u e h k l p

  pub string-fails : (x : Option (ℕ × ℕ)) → st.error ≡ 0 → x ≡ literal_at s st.place → x ≡ None → mv ≡ st → w ≡ lay m broken (world o mv) → w ≡ lay m (g.literal s) (world o st)
  unfolding g.literal
  string-fails x e h k l p = literal-fails m o st mv w s _ x e h k l p

  pub string-next : (x : Option (ℕ × ℕ)) (v q : ℕ) → st.full ≡ false → st.error ≡ 0 → x ≡ literal_at s st.place → x ≡ Some (v, q) → mv ≡ moved_to q st → w ≡ lay m (emit (quote 34 (chars_of (take (v - st.place) (drop st.place s))) ∷ [])) (world o mv) → w ≡ lay m (g.literal s) (world o st)
  unfolding g.literal
  string-next x v q u e h k l p = literal-next m o st mv w s _ x v q u e h k l p

pub string-stop : (m : Option Mode) (s : List ℕ) (o : List ℕ) (st : State) (w : World) → Halted st → w ≡ lay m (emit asks) (world o st) → w ≡ lay m (g.literal s) (world o st)
unfolding g.literal
string-stop m s o st w e p = need-stop m _ _ o st w e p

pub ruleset literal_laws = (string-stop, bool-fails, bool-next, char-fails, char-next, char-small, string-fails, string-next, literal-starts, literal-ends, literal-text, tests, rules)

pub unsized-is : (m : Option Mode) (s : List ℕ) (v x w : World) → x ≡ lay m (emit (word W.star ∷ [])) v → w ≡ lay m (g.literal s) x → w ≡ lay m (g.unsized_literal s) v
unfolding g.unsized_literal
unsized-is m s v x w p q = arm-then m _ _ v x w p q

pub ruleset unsized_laws = (unsized-is, tests, rules)

-- ---- a letter among others, as a `match` has it
abbrev pub Any : ℕ → ℕ → List ℕ → Type 0
Any c k [] = c ≡ k
Any c k (l ∷ ls) = ◌⊎◌ (c ≡ k) (Any c l ls)

pub any-true : (c k : ℕ) (ks : List ℕ) → Any c k ks → true ≡ letters.any_of c (k ∷ ks)
unfolding letters.any_of
any-true c k [] h = rw (eq-eqb c k h)
any-true c k (l ∷ ls) h = ⊎_elim (λ e. rw (eq-eqb c k e)) (λ r. go (eqb c k) (any-true c l ls r)) h
  where
    go : (t : Bool) → true ≡ letters.any_of c (l ∷ ls) → true ≡ if-then t true (letters.any_of c (l ∷ ls))
    go true e = refl
    go false e = e

pub any_false : (c k : ℕ) (ks : List ℕ) → (Any c k ks → ⊥) → false ≡ letters.any_of c (k ∷ ks)
unfolding letters.any_of
any_false c k [] h = rw (ne_eqb c k h)
any_false c k (l ∷ ls) h = rw (ne_eqb c k (λ e. h (inl e))) (any_false c l ls (λ r. h (inr r)))

-- no letter of a signed type is one of an unsigned type
pub other-letter : (c : ℕ) → Any c 97 (105 ∷ 108 ∷ 110 ∷ 115 ∷ 120 ∷ []) → letters.is_unsigned c ≡ false
unfolding letters.is_unsigned letters.any_of
other-letter c h = ⊎_elim (λ e. rw e) (λ h1. ⊎_elim (λ e. rw e) (λ h2. ⊎_elim (λ e. rw e) (λ h3. ⊎_elim (λ e. rw e) (λ h4. ⊎_elim (λ e. rw e) (λ e. rw e) h4) h3) h2) h1) h

pub other-byte : (c : ℕ) → (Any c 104 (106 ∷ 109 ∷ 111 ∷ 116 ∷ 121 ∷ []) → ⊥) → (Any c 97 (105 ∷ 108 ∷ 110 ∷ 115 ∷ 120 ∷ []) → ⊥) → None ≡ letters.signed_by c
unfolding letters.signed_by letters.is_unsigned letters.is_signed
other-byte c h k = rw (← any_false c 104 (106 ∷ 109 ∷ 111 ∷ 116 ∷ 121 ∷ []) h, ← any_false c 97 (105 ∷ 108 ∷ 110 ∷ 115 ∷ 120 ∷ []) k)
