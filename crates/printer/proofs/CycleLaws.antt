-- What the members of the cycle come to: levels, kinds, tags, targets. Assumes nothing.
use Rattle.printer.proofs.ArmLaws.{list_full, list-error, list_over, list-end, list-more}
use Rattle.printer.proofs.StateLaws.{tests}
use Rattle.printer.proofs.WithinLaws.{ident-within, named-within}
use Rattle.std.specs.Prelude.{Option, Some, None}
use Rattle.pieces.specs.declared.mode.Mode.{Mode}
use Prim.Native.Nat.{ℕ, zero, suc, ◌+◌, ◌-◌, ◌≤◌, ◌<◌}
use mathlib.Core.Path.{◌≡◌, refl, ap, sym, ◌∙◌}
use mathlib.Core.Bool.{Bool, true, false, not}
use mathlib.Core.Logic.{◌⊎◌, inl, inr, ⊎_elim}
use mathlib.Core.List.{List, [], ◌∷◌, ◌++◌}
use native.Mathlib.Omega.{arith}
use borrow.Author.Rules.{rules}
use borrow.Author.Tests.{eq-eqb, ne_eqb, eqb-true, eqb-false}
use lib.Dec.{eqb}
use lib.ListN.{length}
use Rattle.parser.specs.Digits.{if-then}
use Rattle.parser.specs.Bytes.{past, space_at}
use Rattle.parser.specs.Number.{optional62, back_at}
use Rattle.parser.specs.Names.{ident_at}
use Rattle.parser.specs.declared.names.Name.{Name}
use Rattle.pieces.specs.Basic.{is_basic, among, basic as basic_types}
use Rattle.pieces.specs.Words as W
use Rattle.pieces.specs.declared.words.Word.{Word}
use Rattle.parser.specs.declared.names.Name.{Name}
use Rattle.pieces.specs.Piece.{word, basic}
use Rattle.printer.specs.Lay.{State}
use Rattle.printer.specs.declared.kinds.Kind.{Kind}
use Rattle.printer.specs.declared.kinds.Kind.TheVariants.{Path, Value as InValue, Ty, Const, Expr}
use Rattle.printer.specs.declared.kinds.Item.{Item}
use Rattle.printer.specs.declared.kinds.Item.TheVariants.{Ty as AType, Arg, Expr as AValue, Field, Trait}
use Rattle.printer.specs.declared.read.Tag.{Tag}
use Rattle.printer.specs.Says.{U, ok, bad, Says, Stop, ◌>>=◌, ◌then◌, give, emit, on_error, breaks, broken, reader, taken, need, choose, caught, refused, asking, saying, asks, pick, too_deep}
use Rattle.printer.specs.Readings.{tag_at, mark_at, named_at}
use Rattle.printer.specs.Lay.{World, world, Out, out, lays, lay, moved_to, back_to, failed_at, follows}
use Rattle.printer.specs.Model as g
use Rattle.printer.specs.Parts as part
use Rattle.printer.specs.Model.{say_if}
use Rattle.printer.specs.Letters.{'B', 'I', 'K', 'L', 'R', 'O', 'N'}
use Rattle.printer.proofs.LayLaws.{lay-nil, lay-caught, lays-caught, lays-same, lays-moved, lays-still, lays-failed, backed, doing-run}
use Rattle.printer.proofs.NeedLaws.{read-next, read-fails, named-next, named-fails}
use Rattle.printer.proofs.StateLaws.{Halted}
use Rattle.printer.proofs.ArmLaws.{arm-there, arm-then, arm-bind, arm-list, arm-mute-then, arm-stop, arm-error, arm-run, arm-moved, need-stop, eat-stop, eat-no, eat-yes}
use Rattle.printer.proofs.TagLaws.{true-false, bare-run, byte-in, byte-out, or-key-run, or-rest-run, tag-next, tag-rest, tag_same, tag-unknown, or-next, or-rest}
use Rattle.printer.proofs.ToldLaws.{told-there, told-then, told-list, given-true, given-false, told-refused, told-asked}
use Rattle.printer.proofs.LeafLaws.{Any}

-- ---- a level
level-is : (s : List ℕ) (n : ℕ) → (n ≡ 0 → ⊥) → g.level s n ≡ g.above s (g.level s (n - 1))
unfolding g.level
level-is s zero h = absurd (h refl)
level-is s (suc n) h = let k : suc n - 1 ≡ n = omega arith in rw k

-- the measure of the cycle: what an element of a list may call with as many levels left
abbrev pub rank : Item → ℕ
rank AType = 1
rank Arg = 2
rank AValue = 0
rank Field = 1
rank Trait = 7

-- ---- at a state that has stopped every part is `?`
module _ (s : List ℕ) (f : Bool) (b : ℕ) where
  path-asks : (n : ℕ) (v : Bool) → ((g.level s n).path v f b).stopped ≡ asking tt
  unfolding g.level g.by_tag reader
  path-asks zero v = refl
  path-asks (suc n) v = refl

  con-asks : (n : ℕ) (v : Bool) → ((g.level s n).con v f b).stopped ≡ asking tt
  unfolding g.level g.by_tag reader
  con-asks zero v = refl
  con-asks (suc n) v = refl

  bare-asks : (n : ℕ) → ((g.level s n).bare f b).stopped ≡ asking tt
  unfolding g.level g.by_tag reader
  bare-asks zero = refl
  bare-asks (suc n) = refl

  type-asks : (n : ℕ) → (g.type s (g.level s n) f b).stopped ≡ asking tt
  unfolding g.type g.eat ◌>>=◌ choose
  type-asks n = ap (λ (t : Stop U). record { value = t.value; turn = λ x. t.turn x; pieces = t.pieces }) (bare-asks n)

  binds-still : (p : g.Level) (k : ℕ) → (g.bindings s p k false f b).stopped ≡ saying []
  unfolding g.bindings emit
  binds-still p zero = refl
  binds-still p (suc k) = refl

  trait-asks : (n : ℕ) → (g.dyn_trait s (g.level s n) f b).stopped ≡ asking tt
  unfolding g.dyn_trait g.open_path g.or_tag ◌>>=◌ reader
  trait-asks n = ap (λ (t : Stop U). record { value = t.value; turn = λ x. t.turn x; pieces = asks ++ t.pieces }) (binds-still (g.level s n) (length s))

module _ (m : Option Mode) (s : List ℕ) (n : ℕ) (f : Bool) (b : ℕ) (o : List ℕ) (st : State) (w : World) (stopped : Halted st) (asked : w ≡ lay m (emit asks) (world o st)) where
  pub path-stop : (value : Bool) → w ≡ lay m ((g.level s n).path value f b) (world o st)
  path-stop value = arm-stop m _ o st w (path-asks s f b n value) stopped asked

  pub con-stop : (value : Bool) → w ≡ lay m ((g.level s n).con value f b) (world o st)
  con-stop value = arm-stop m _ o st w (con-asks s f b n value) stopped asked

  pub bare-stop : w ≡ lay m ((g.level s n).bare f b) (world o st)
  bare-stop = arm-stop m _ o st w (bare-asks s f b n) stopped asked

  pub type-stop : w ≡ lay m (g.type s (g.level s n) f b) (world o st)
  type-stop = arm-stop m _ o st w (type-asks s f b n) stopped asked

  pub trait-stop : w ≡ lay m (g.dyn_trait s (g.level s n) f b) (world o st)
  trait-stop = arm-stop m _ o st w (trait-asks s f b n) stopped asked

  pub arg-stop : w ≡ lay m (g.arg s (g.level s n) f b) (world o st)
  unfolding g.arg g.or_tag reader
  arg-stop = arm-stop m _ o st w refl stopped asked

  pub pat-stop : w ≡ lay m (g.pat s (g.level s n) f b) (world o st)
  unfolding g.pat g.by_tag reader
  pat-stop = arm-stop m _ o st w refl stopped asked

  pub variant-stop : (value : Bool) → w ≡ lay m (g.variant s (g.level s n) value f b) (world o st)
  unfolding g.variant g.by_tag reader
  variant-stop value = arm-stop m _ o st w refl stopped asked

  pub onto-stop : w ≡ lay m (g.bound_to s (g.level s n) f b) (world o st)
  unfolding g.bound_to choose
  onto-stop = eat-stop m s 75 _ o st w stopped (type-stop)

  pub traits-stop : w ≡ lay m (g.traits s (g.level s n) f b) (world o st)
  unfolding g.traits
  traits-stop = need-stop m _ _ o st w stopped asked

  pub field-stop : w ≡ lay m (g.field s (g.level s n) f b) (world o st)
  unfolding g.field
  field-stop = need-stop m _ _ o st w stopped asked

-- ---- by the kind
module _ (m : Option Mode) (s : List ℕ) (p : g.Level) (k : Kind) (f : Bool) (b : ℕ) (v w : World) where
  pub says-path : k ≡ Path → w ≡ lay m (p.path false f b) v → w ≡ lay m (g.says s p k f b) v
  unfolding g.says
  says-path h q = rw h q

  pub says-value : k ≡ InValue → w ≡ lay m (p.path true f b) v → w ≡ lay m (g.says s p k f b) v
  unfolding g.says
  says-value h q = rw h q

  pub says-type : k ≡ Ty → w ≡ lay m (g.type s p f b) v → w ≡ lay m (g.says s p k f b) v
  unfolding g.says
  says-type h q = rw h q

  pub says-const : k ≡ Const → w ≡ lay m (p.con false f b) v → w ≡ lay m (g.says s p k f b) v
  unfolding g.says
  says-const h q = rw h q

  pub says-expr : k ≡ Expr → w ≡ lay m (p.con true f b) v → w ≡ lay m (g.says s p k f b) v
  unfolding g.says
  says-expr h q = rw h q

pub ruleset visit-laws = (says-path, says-value, says-type, says-const, says-expr)

module _ (m : Option Mode) (s : List ℕ) (p : g.Level) (k : Item) (f : Bool) (b : ℕ) (v w : World) where
  pub item-type : k ≡ AType → w ≡ lay m (g.type s p f b) v → w ≡ lay m (g.element s p k f b) v
  unfolding g.element
  item-type h q = rw h q

  pub item-arg : k ≡ Arg → w ≡ lay m (g.arg s p f b) v → w ≡ lay m (g.element s p k f b) v
  unfolding g.element
  item-arg h q = rw h q

  pub item-value : k ≡ AValue → w ≡ lay m (p.con true f b) v → w ≡ lay m (g.element s p k f b) v
  unfolding g.element
  item-value h q = rw h q

  pub item-field : k ≡ Field → w ≡ lay m (g.field s p f b) v → w ≡ lay m (g.element s p k f b) v
  unfolding g.element
  item-field h q = rw h q

  pub item-trait : k ≡ Trait → w ≡ lay m (g.dyn_trait s p f b) v → w ≡ lay m (g.element s p k f b) v
  unfolding g.element
  item-trait h q = rw h q

pub ruleset one_laws = (item-type, item-arg, item-value, item-field, item-trait)

-- ---- a level more
module _ (m : Option Mode) (s : List ℕ) (n : ℕ) (value f : Bool) (b : ℕ) (o : List ℕ) (st : State) (w : World) where
  pub path-deep : n ≡ 0 → st.error ≡ 0 → w ≡ lay m (breaks too_deep) (world o st) → w ≡ lay m ((g.level s n).path value f b) (world o st)
  unfolding g.level breaks reader
  path-deep z e p = rw z (arm-run m ((g.level s 0).path value f b) (breaks too_deep) o st w e p refl)

  pub path-next : (n ≡ 0 → ⊥) → w ≡ lay m (g.by_tag s tt (g.path_tags s (g.level s (n - 1)) value f b) g.unknown) (world o st) → w ≡ lay m ((g.level s n).path value f b) (world o st)
  path-next some p = p ∙ ap (λ (l : g.Level). lay m (l.path value f b) (world o st)) (sym (level-is s n some))

  pub con-deep : n ≡ 0 → w ≡ lay m (part.no_level s) (world o st) → w ≡ lay m ((g.level s n).con value f b) (world o st)
  unfolding g.level part.no_level
  con-deep z p = rw z p

  pub con-next : (n ≡ 0 → ⊥) → w ≡ lay m (g.by_tag s tt (g.const_tags s (g.level s (n - 1)) value f b) (g.integer s)) (world o st) → w ≡ lay m ((g.level s n).con value f b) (world o st)
  con-next some p = p ∙ ap (λ (l : g.Level). lay m (l.con value f b) (world o st)) (sym (level-is s n some))

module _ (m : Option Mode) (s : List ℕ) (n : ℕ) (f : Bool) (b : ℕ) (o : List ℕ) (st : State) (w : World) where
  pub ors-deep : n ≡ 0 → st.error ≡ 0 → w ≡ lay m (breaks too_deep) (world o st) → w ≡ lay m ((g.level s n).ors f b) (world o st)
  unfolding g.level breaks reader
  ors-deep z e p = rw z (arm-run m ((g.level s 0).ors f b) (breaks too_deep) o st w e p refl)

  pub ors-next : (x : World) → (n ≡ 0 → ⊥) → x ≡ lay m (g.pat s (g.level s (n - 1)) f b) (world o st) → w ≡ lay m (g.alternatives s (g.level s (n - 1)) (length s) f b) x → w ≡ lay m ((g.level s n).ors f b) (world o st)
  ors-next x h q r = arm-then m _ _ (world o st) x w q r ∙ ap (λ (l : g.Level). lay m (l.ors f b) (world o st)) (sym (level-is s n h))

pub ruleset path-laws = (path-stop, path-deep, path-next)

pub ruleset con-laws = (con-stop, con-deep, con-next)

pub ruleset ors-laws = (ors-deep, ors-next)

bare-as : (s : List ℕ) (i : ℕ) (x : Tag) → x ≡ tag_at s i → (p : g.Level) (f : Bool) (b : ℕ) → is_basic x.byte ≡ false → (part.typed s p f b).run i ≡ ((g.above s p).bare f b).run i
unfolding part.typed
bare-as s i x answered p f b h = bare-run s i x answered (g.type_tags s p f b) (p.path false f b).run h

-- a type: x is what `look` answered, y what `is_basic` answered
module _ (m : Option Mode) (s : List ℕ) (n : ℕ) (f : Bool) (b : ℕ) (o : List ℕ) (st : State) (w : World) (x : Tag) (answered : x ≡ tag_at s st.place) (none : st.error ≡ 0) (y : Bool) (judged : y ≡ is_basic x.byte) where
  basic-some : (c : ℕ) → is_basic c ≡ true → eqb c 0 ≡ false
  unfolding is_basic among basic_types
  basic-some zero h = absurd (true-false (sym h))
  basic-some (suc c) h = ne_eqb (suc c) 0 (λ e. absurd (omega (arith, e)))

  basic-at : (mv : State) (k : ℕ) → y ≡ true → st.full ≡ false → mv ≡ moved_to x.behind st → w ≡ lay m (emit (basic x.byte ∷ [])) (world o mv) → w ≡ lay m ((g.level s k).bare f b) (world o st)
  unfolding g.level g.basic_or pick
  basic-at mv zero h u l p = tag-next m s o st w x answered none [] _ (emit (basic x.byte ∷ [])) mv x.byte refl (basic-some x.byte (sym judged ∙ h)) u l p (rw (sym judged ∙ h))
  basic-at mv (suc k) h u l p = tag-next m s o st w x answered none [] _ (emit (basic x.byte ∷ [])) mv x.byte refl (basic-some x.byte (sym judged ∙ h)) u l p (rw (sym judged ∙ h))

  pub bare-basic : (mv : State) → y ≡ true → st.full ≡ false → mv ≡ moved_to x.behind st → w ≡ lay m (emit (basic x.byte ∷ [])) (world o mv) → w ≡ lay m ((g.level s n).bare f b) (world o st)
  bare-basic mv h u l p = basic-at mv n h u l p

  pub bare-deep : y ≡ false → n ≡ 0 → w ≡ lay m (part.no_level s) (world o st) → w ≡ lay m ((g.level s n).bare f b) (world o st)
  unfolding g.level part.no_level
  bare-deep h z p = rw z (tag_same m s o st w x answered none (g.basic_or s (λ c i j. refused tt too_deep i)) (λ c i j. refused tt too_deep i) (λ j. unfold g.basic_or in (rw (sym judged ∙ h))) p)

  pub bare-next : y ≡ false → (n ≡ 0 → ⊥) → w ≡ lay m (part.typed s (g.level s (n - 1)) f b) (world o st) → w ≡ lay m ((g.level s n).bare f b) (world o st)
  bare-next h some p =
      arm-run m ((g.above s (g.level s (n - 1))).bare f b) (part.typed s (g.level s (n - 1)) f b) o st w none p
      (bare-as s st.place x answered (g.level s (n - 1)) f b (sym judged ∙ h))
      ∙ ap (λ (l : g.Level). lay m (l.bare f b) (world o st)) (sym (level-is s n some))

pub ruleset bare-laws = (bare-stop, bare-basic, bare-deep, bare-next)

-- ---- by the tag: x is what `look` answered
module _ (m : Option Mode) (s : List ℕ) (p : g.Level) (value : Bool) (f : Bool) (b : ℕ) (o : List ℕ) (st : State) (w : World) (x : Tag) (answered : x ≡ tag_at s st.place) (none : st.error ≡ 0) where
  pub path-crate : (mv : State) → x.byte ≡ 67 → st.full ≡ false → mv ≡ moved_to x.behind st → w ≡ lay m (g.krate s) (world o mv) → w ≡ lay m (g.by_tag s tt (g.path_tags s p value f b) g.unknown) (world o st)
  unfolding g.path_tags pick
  path-crate mv h u l q = tag-next m s o st w x answered none _ g.unknown (g.krate s) mv 67 h refl u l q refl

  pub path-nest : (mv : State) → x.byte ≡ 78 → st.full ≡ false → mv ≡ moved_to x.behind st → w ≡ lay m (g.nest s p value f b) (world o mv) → w ≡ lay m (g.by_tag s tt (g.path_tags s p value f b) g.unknown) (world o st)
  unfolding g.path_tags pick
  path-nest mv h u l q = tag-next m s o st w x answered none _ g.unknown (g.nest s p value f b) mv 78 h refl u l q refl

  pub path-self : (mv : State) → x.byte ≡ 89 → st.full ≡ false → mv ≡ moved_to x.behind st → w ≡ lay m (g.qself s p true f b) (world o mv) → w ≡ lay m (g.by_tag s tt (g.path_tags s p value f b) g.unknown) (world o st)
  unfolding g.path_tags pick
  path-self mv h u l q = tag-next m s o st w x answered none _ g.unknown (g.qself s p true f b) mv 89 h refl u l q refl

  pub path-generic : (mv : State) → x.byte ≡ 73 → st.full ≡ false → mv ≡ moved_to x.behind st → w ≡ lay m (g.generic s p value f b) (world o mv) → w ≡ lay m (g.by_tag s tt (g.path_tags s p value f b) g.unknown) (world o st)
  unfolding g.path_tags pick
  path-generic mv h u l q = tag-next m s o st w x answered none _ g.unknown (g.generic s p value f b) mv 73 h refl u l q refl

  pub path-impl : (mv : State) → Any x.byte 77 (88 ∷ []) → st.full ≡ false → mv ≡ moved_to x.behind st → w ≡ lay m (g.imp s p (eqb x.byte 88) f b) (world o mv) → w ≡ lay m (g.by_tag s tt (g.path_tags s p value f b) g.unknown) (world o st)
  unfolding g.path_tags pick
  path-impl mv h u l q =
      ⊎_elim
      (λ e. tag-next m s o st w x answered none (g.path_tags s p value f b) g.unknown (g.imp s p false f b) mv 77 e refl u l (rw e at q) refl)
      (λ e. tag-next m s o st w x answered none (g.path_tags s p value f b) g.unknown (g.imp s p true f b) mv 88 e refl u l (rw e at q) refl)
      h

  pub path-back : (mv : State) (kd : Kind) → kd ≡ if-then value InValue Path → x.byte ≡ 66 → st.full ≡ false → mv ≡ moved_to x.behind st → w ≡ lay m (g.back s p kd f b) (world o mv) → w ≡ lay m (g.by_tag s tt (g.path_tags s p value f b) g.unknown) (world o st)
  unfolding g.path_tags pick
  path-back mv kd r h u l q = tag-next m s o st w x answered none _ g.unknown (g.back s p kd f b) mv 66 h refl u l q (rw r)

  pub path-other : (x.byte ≡ 67 → ⊥) → (x.byte ≡ 78 → ⊥) → (Any x.byte 77 (88 ∷ []) → ⊥) → (x.byte ≡ 89 → ⊥) → (x.byte ≡ 73 → ⊥) → (x.byte ≡ 66 → ⊥) → w ≡ lay m broken (world o st) → w ≡ lay m (g.by_tag s tt (g.path_tags s p value f b) g.unknown) (world o st)
  unfolding g.path_tags pick
  path-other n67 n78 nn n89 n73 n66 q = tag-unknown m s o st w x answered none (g.path_tags s p value f b) (λ j. rw (ne_eqb x.byte 67 n67, ne_eqb x.byte 78 n78, ne_eqb x.byte 77 (λ e. nn (inl e)), ne_eqb x.byte 88 (λ e. nn (inr e)), ne_eqb x.byte 89 n89, ne_eqb x.byte 73 n73, ne_eqb x.byte 66 n66, pick)) q

module _ (m : Option Mode) (s : List ℕ) (p : g.Level) (f : Bool) (b : ℕ) (o : List ℕ) (st : State) (w : World) (x : Tag) (answered : x ≡ tag_at s st.place) (none : st.error ≡ 0) where
  pub type-ref : (mv : State) → x.byte ≡ 82 → st.full ≡ false → mv ≡ moved_to x.behind st → w ≡ lay m (g.refer s p false f b) (world o mv) → w ≡ lay m (part.typed s p f b) (world o st)
  unfolding part.typed g.type_tags pick
  type-ref mv h u l q = tag-next m s o st w x answered none _ _ (g.refer s p false f b) mv 82 h refl u l q refl

  pub type-mut : (mv : State) → x.byte ≡ 81 → st.full ≡ false → mv ≡ moved_to x.behind st → w ≡ lay m (g.refer s p true f b) (world o mv) → w ≡ lay m (part.typed s p f b) (world o st)
  unfolding part.typed g.type_tags pick
  type-mut mv h u l q = tag-next m s o st w x answered none _ _ (g.refer s p true f b) mv 81 h refl u l q refl

  pub type-const-ptr : (mv : State) → x.byte ≡ 80 → st.full ≡ false → mv ≡ moved_to x.behind st → w ≡ lay m (g.pointer s p W.ptr-const f b) (world o mv) → w ≡ lay m (part.typed s p f b) (world o st)
  unfolding part.typed g.type_tags pick
  type-const-ptr mv h u l q = tag-next m s o st w x answered none _ _ (g.pointer s p W.ptr-const f b) mv 80 h refl u l q refl

  pub type-mut-ptr : (mv : State) → x.byte ≡ 79 → st.full ≡ false → mv ≡ moved_to x.behind st → w ≡ lay m (g.pointer s p W.ptr-mut f b) (world o mv) → w ≡ lay m (part.typed s p f b) (world o st)
  unfolding part.typed g.type_tags pick
  type-mut-ptr mv h u l q = tag-next m s o st w x answered none _ _ (g.pointer s p W.ptr-mut f b) mv 79 h refl u l q refl

  pub type-array : (mv : State) → x.byte ≡ 65 → st.full ≡ false → mv ≡ moved_to x.behind st → w ≡ lay m (g.array s p true f b) (world o mv) → w ≡ lay m (part.typed s p f b) (world o st)
  unfolding part.typed g.type_tags pick
  type-array mv h u l q = tag-next m s o st w x answered none _ _ (g.array s p true f b) mv 65 h refl u l q refl

  pub type-slice : (mv : State) → x.byte ≡ 83 → st.full ≡ false → mv ≡ moved_to x.behind st → w ≡ lay m (g.array s p false f b) (world o mv) → w ≡ lay m (part.typed s p f b) (world o st)
  unfolding part.typed g.type_tags pick
  type-slice mv h u l q = tag-next m s o st w x answered none _ _ (g.array s p false f b) mv 83 h refl u l q refl

  pub type-tuple : (mv : State) → x.byte ≡ 84 → st.full ≡ false → mv ≡ moved_to x.behind st → w ≡ lay m (g.tuple s p AType f b) (world o mv) → w ≡ lay m (part.typed s p f b) (world o st)
  unfolding part.typed g.type_tags pick
  type-tuple mv h u l q = tag-next m s o st w x answered none _ _ (g.tuple s p AType f b) mv 84 h refl u l q refl

  pub type-function : (mv : State) → x.byte ≡ 70 → st.full ≡ false → mv ≡ moved_to x.behind st → w ≡ lay m (g.function s p f b) (world o mv) → w ≡ lay m (part.typed s p f b) (world o st)
  unfolding part.typed g.type_tags pick
  type-function mv h u l q = tag-next m s o st w x answered none _ _ (g.function s p f b) mv 70 h refl u l q refl

  pub type-object : (mv : State) → x.byte ≡ 68 → st.full ≡ false → mv ≡ moved_to x.behind st → w ≡ lay m (g.object s p f b) (world o mv) → w ≡ lay m (part.typed s p f b) (world o st)
  unfolding part.typed g.type_tags pick
  type-object mv h u l q = tag-next m s o st w x answered none _ _ (g.object s p f b) mv 68 h refl u l q refl

  pub type-back : (mv : State) → x.byte ≡ 66 → st.full ≡ false → mv ≡ moved_to x.behind st → w ≡ lay m (g.back s p Ty f b) (world o mv) → w ≡ lay m (part.typed s p f b) (world o st)
  unfolding part.typed g.type_tags pick
  type-back mv h u l q = tag-next m s o st w x answered none _ _ (g.back s p Ty f b) mv 66 h refl u l q refl

  pub type-sub : (mv : State) → x.byte ≡ 87 → st.full ≡ false → mv ≡ moved_to x.behind st → w ≡ lay m (g.patterned s p f b) (world o mv) → w ≡ lay m (part.typed s p f b) (world o st)
  unfolding part.typed g.type_tags pick
  type-sub mv h u l q = tag-next m s o st w x answered none _ _ (g.patterned s p f b) mv 87 h refl u l q refl

  pub type-named : (x.byte ≡ 82 → ⊥) → (x.byte ≡ 81 → ⊥) → (x.byte ≡ 80 → ⊥) → (x.byte ≡ 79 → ⊥) → (x.byte ≡ 65 → ⊥) → (x.byte ≡ 83 → ⊥) → (x.byte ≡ 84 → ⊥) → (x.byte ≡ 70 → ⊥) → (x.byte ≡ 68 → ⊥) → (x.byte ≡ 66 → ⊥) → (x.byte ≡ 87 → ⊥) → w ≡ lay m (part.named s p f b) (world o st) → w ≡ lay m (part.typed s p f b) (world o st)
  unfolding part.typed part.named g.type_tags pick
  type-named n82 n81 n80 n79 n65 n83 n84 n70 n68 n66 n87 q = tag-rest m s o st w x answered none (g.type_tags s p f b) (λ c k j. (p.path false f b).run k) (λ j. rw (ne_eqb x.byte 82 n82, ne_eqb x.byte 81 n81, ne_eqb x.byte 80 n80, ne_eqb x.byte 79 n79, ne_eqb x.byte 65 n65, ne_eqb x.byte 83 n83, ne_eqb x.byte 84 n84, ne_eqb x.byte 70 n70, ne_eqb x.byte 68 n68, ne_eqb x.byte 66 n66, ne_eqb x.byte 87 n87, pick)) q

module _ (m : Option Mode) (s : List ℕ) (p : g.Level) (f : Bool) (b : ℕ) (o : List ℕ) (st : State) (w : World) where
  pub named_in : st.error ≡ 0 → st.place < length s → w ≡ lay m (p.path false f b) (world o st) → w ≡ lay m (part.named s p f b) (world o st)
  unfolding part.named g.by_tag reader pick
  named_in e h q = arm-run m (part.named s p f b) (p.path false f b) o st w e q (rw (byte-in s st.place h))

  pub named-out : st.error ≡ 0 → length s ≤ st.place → w ≡ lay m broken (world o st) → w ≡ lay m (part.named s p f b) (world o st)
  unfolding part.named g.by_tag reader pick broken breaks
  named-out e h q = arm-run m (part.named s p f b) broken o st w e q (rw (byte-out s st.place h))

pub ruleset named-laws = (named_in, named-out)

-- a constant's tags as the code tests them: Q and R by one range
pub record IsLit (c : ℕ) : Type 0 where
  pub is : ◌⊎◌ (Any c 65 (84 ∷ 101 ∷ [])) ((81 ≤ c) × (c < 83))

pub record Gap (c : ℕ) : Type 0 where
  pub first : c ≡ 81 → ⊥
  pub second : c ≡ 82 → ⊥

module _ (m : Option Mode) (s : List ℕ) (p : g.Level) (value : Bool) (f : Bool) (b : ℕ) (o : List ℕ) (st : State) (w : World) (x : Tag) (answered : x ≡ tag_at s st.place) (none : st.error ≡ 0) where
  pub con-placeholder : (mv : State) → x.byte ≡ 112 → st.full ≡ false → mv ≡ moved_to x.behind st → w ≡ lay m (g.say W.underscore) (world o mv) → w ≡ lay m (g.by_tag s tt (g.const_tags s p value f b) (g.integer s)) (world o st)
  unfolding g.const_tags pick
  con-placeholder mv h u l q = tag-next m s o st w x answered none _ (g.integer s) (g.say W.underscore) mv 112 h refl u l q refl

  pub con-bool : (mv : State) → x.byte ≡ 98 → st.full ≡ false → mv ≡ moved_to x.behind st → w ≡ lay m (g.boolean s) (world o mv) → w ≡ lay m (g.by_tag s tt (g.const_tags s p value f b) (g.integer s)) (world o st)
  unfolding g.const_tags pick
  con-bool mv h u l q = tag-next m s o st w x answered none _ (g.integer s) (g.boolean s) mv 98 h refl u l q refl

  pub con-char : (mv : State) → x.byte ≡ 99 → st.full ≡ false → mv ≡ moved_to x.behind st → w ≡ lay m (g.character s) (world o mv) → w ≡ lay m (g.by_tag s tt (g.const_tags s p value f b) (g.integer s)) (world o st)
  unfolding g.const_tags pick
  con-char mv h u l q = tag-next m s o st w x answered none _ (g.integer s) (g.character s) mv 99 h refl u l q refl

  pub con-adt : (mv : State) → x.byte ≡ 86 → st.full ≡ false → mv ≡ moved_to x.behind st → w ≡ lay m (g.adt s p value f b) (world o mv) → w ≡ lay m (g.by_tag s tt (g.const_tags s p value f b) (g.integer s)) (world o st)
  unfolding g.const_tags pick
  con-adt mv h u l q = tag-next m s o st w x answered none _ (g.integer s) (g.adt s p value f b) mv 86 h refl u l q refl

  pub con-lit : (mv : State) → IsLit x.byte → st.full ≡ false → mv ≡ moved_to x.behind st → w ≡ lay m (part.lit_by s p x.byte value f b) (world o mv) → w ≡ lay m (g.by_tag s tt (g.const_tags s p value f b) (g.integer s)) (world o st)
  unfolding g.const_tags part.lit_by pick choose
  con-lit mv h u l q = ⊎_elim (⊎_elim (λ e. tag-next m s o st w x answered none (g.const_tags s p value f b) (g.integer s) (part.lit_by s p 65 value f b) mv 65 e refl u l (rw e at q) refl) (⊎_elim (λ e. tag-next m s o st w x answered none (g.const_tags s p value f b) (g.integer s) (part.lit_by s p 84 value f b) mv 84 e refl u l (rw e at q) refl) (λ e. tag-next m s o st w x answered none (g.const_tags s p value f b) (g.integer s) (part.lit_by s p 101 value f b) mv 101 e refl u l (rw e at q) refl))) (λ r. go (eqb x.byte 81) refl r) h.is
    where
      go : (k : Bool) → eqb x.byte 81 ≡ k → (81 ≤ x.byte) × (x.byte < 83) → w ≡ lay m (g.by_tag s tt (g.const_tags s p value f b) (g.integer s)) (world o st)
      go true i r = let e : x.byte ≡ 81 = eqb-true x.byte 81 i in tag-next m s o st w x answered none (g.const_tags s p value f b) (g.integer s) (part.lit_by s p 81 value f b) mv 81 e refl u l (rw e at q) refl
      go false i r = let j = eqb-false x.byte 81 i in let e : x.byte ≡ 82 = omega (arith, j) in tag-next m s o st w x answered none (g.const_tags s p value f b) (g.integer s) (part.lit_by s p 82 value f b) mv 82 e refl u l (rw e at q) refl

  pub con-back : (mv : State) (kd : Kind) → kd ≡ if-then value Expr Const → x.byte ≡ 66 → st.full ≡ false → mv ≡ moved_to x.behind st → w ≡ lay m (g.back s p kd f b) (world o mv) → w ≡ lay m (g.by_tag s tt (g.const_tags s p value f b) (g.integer s)) (world o st)
  unfolding g.const_tags pick
  con-back mv kd r h u l q = tag-next m s o st w x answered none _ (g.integer s) (g.back s p kd f b) mv 66 h refl u l q (rw r)

  pub con-integer : (Any x.byte 65 (84 ∷ 101 ∷ []) → ⊥) → Gap x.byte → (x.byte ≡ 112 → ⊥) → (x.byte ≡ 98 → ⊥) → (x.byte ≡ 99 → ⊥) → (x.byte ≡ 86 → ⊥) → (x.byte ≡ 66 → ⊥) → w ≡ lay m (part.integer_at s) (world o st) → w ≡ lay m (g.by_tag s tt (g.const_tags s p value f b) (g.integer s)) (world o st)
  unfolding part.integer_at g.const_tags pick
  con-integer nn gp n112 n98 n99 n86 n66 q = tag-rest m s o st w x answered none (g.const_tags s p value f b) (g.integer s) (λ j. rw (ne_eqb x.byte 112 n112, ne_eqb x.byte 98 n98, ne_eqb x.byte 99 n99, ne_eqb x.byte 101 (λ e. nn (inr (inr e))), ne_eqb x.byte 82 gp.second, ne_eqb x.byte 81 gp.first, ne_eqb x.byte 65 (λ e. nn (inl e)), ne_eqb x.byte 84 (λ e. nn (inr (inl e))), ne_eqb x.byte 86 n86, ne_eqb x.byte 66 n66, pick)) q

-- a string that is referred to: y is what `string_mark` answered
module _ (m : Option Mode) (s : List ℕ) (p : g.Level) (t : ℕ) (value f : Bool) (b : ℕ) (o : List ℕ) (st : State) (w : World) (y : ℕ) (free : st.full ≡ false) (none : st.error ≡ 0) (eaten : y ≡ mark_at s st.place t) where
  lit-here : (mv : State) → eqb t 82 ≡ true → (y ≡ st.place → ⊥) → mv ≡ moved_to y st → w ≡ lay m (g.literal s) (world o mv) → w ≡ lay m (part.lit_by s p t value f b) (world o st)
  unfolding part.lit_by g.ref_const choose mark_at
  lit-here mv e h l q = rw e (eat-yes m s 101 _ o st w y free none (eaten ∙ rw e) mv h l q)

  lit-else : eqb t 82 ≡ false → y ≡ st.place
  unfolding mark_at
  lit-else e = eaten ∙ rw e

  pub lit-string : (mv : State) → (y ≡ st.place → ⊥) → mv ≡ moved_to y st → w ≡ lay m (g.literal s) (world o mv) → w ≡ lay m (part.lit_by s p t value f b) (world o st)
  lit-string mv h l q = go (eqb t 82) refl
    where
      go : (k : Bool) → eqb t 82 ≡ k → w ≡ lay m (part.lit_by s p t value f b) (world o st)
      go true e = lit-here mv e h l q
      go false e = absurd (h (lit-else e))

  braced-here : eqb t 82 ≡ true → y ≡ st.place → w ≡ lay m (g.braced_by s p 82 value f b) (world o st) → w ≡ lay m (part.lit_by s p t value f b) (world o st)
  unfolding part.lit_by g.ref_const choose mark_at
  braced-here e h q = rw e (eat-no m s 101 _ o st w y free none (eaten ∙ rw e) st h refl q)

  braced-else : eqb t 82 ≡ false → w ≡ lay m (g.braced_by s p t value f b) (world o st) → w ≡ lay m (part.lit_by s p t value f b) (world o st)
  unfolding part.lit_by choose
  braced-else e q = rw e q

  pub lit-braced : y ≡ st.place → w ≡ lay m (g.braced_by s p t value f b) (world o st) → w ≡ lay m (part.lit_by s p t value f b) (world o st)
  lit-braced h q = go (eqb t 82) refl
    where
      go : (k : Bool) → eqb t 82 ≡ k → w ≡ lay m (part.lit_by s p t value f b) (world o st)
      go true e = let i : t ≡ 82 = eqb-true t 82 e in braced-here e h (rw i at q)
      go false e = braced-else e q

pub ruleset lit-laws = (lit-string, lit-braced)

module _ (m : Option Mode) (s : List ℕ) (p : g.Level) (f : Bool) (b : ℕ) (o : List ℕ) (st : State) (w : World) (x : Tag) (answered : x ≡ tag_at s st.place) (none : st.error ≡ 0) where
  pub arg-life : (mv : State) → x.byte ≡ 76 → st.full ≡ false → mv ≡ moved_to x.behind st → w ≡ lay m (g.lifetime s f b) (world o mv) → w ≡ lay m (g.arg s p f b) (world o st)
  unfolding g.arg pick
  arg-life mv h u l q = or-next m s o st w x answered none _ _ (g.lifetime s f b) mv 76 h refl u l q refl

  pub arg-const : (mv : State) → x.byte ≡ 75 → st.full ≡ false → mv ≡ moved_to x.behind st → w ≡ lay m (p.con false f b) (world o mv) → w ≡ lay m (g.arg s p f b) (world o st)
  unfolding g.arg pick
  arg-const mv h u l q = or-next m s o st w x answered none _ _ (p.con false f b) mv 75 h refl u l q refl

  pub arg-type : (x.byte ≡ 76 → ⊥) → (x.byte ≡ 75 → ⊥) → w ≡ lay m (g.type s p f b) (world o st) → w ≡ lay m (g.arg s p f b) (world o st)
  unfolding g.arg pick
  arg-type n1 n2 q = or-rest m s o st w x answered none (('L', g.lifetime s f b) ∷ ('K', p.con false f b) ∷ []) (g.type s p f b).run (g.type s p f b) (λ j. rw (ne_eqb x.byte 76 n1, ne_eqb x.byte 75 n2, pick)) q refl

pub ruleset arg_laws = (arg-stop, arg-life, arg-const, arg-type)

module _ (m : Option Mode) (s : List ℕ) (p : g.Level) (f : Bool) (b : ℕ) (o : List ℕ) (st : State) (w : World) (x : Tag) (answered : x ≡ tag_at s st.place) (none : st.error ≡ 0) where
  pub pat-range : (mv : State) → x.byte ≡ 82 → st.full ≡ false → mv ≡ moved_to x.behind st → w ≡ lay m (g.range s p f b) (world o mv) → w ≡ lay m (g.pat s p f b) (world o st)
  unfolding g.pat pick
  pat-range mv h u l q = tag-next m s o st w x answered none _ g.unknown (g.range s p f b) mv 82 h refl u l q refl

  pub pat-or : (mv : State) → x.byte ≡ 79 → st.full ≡ false → mv ≡ moved_to x.behind st → w ≡ lay m (p.ors f b) (world o mv) → w ≡ lay m (g.pat s p f b) (world o st)
  unfolding g.pat pick
  pat-or mv h u l q = tag-next m s o st w x answered none _ g.unknown (p.ors f b) mv 79 h refl u l q refl

  pub pat-null : (mv : State) → x.byte ≡ 78 → st.full ≡ false → mv ≡ moved_to x.behind st → w ≡ lay m (g.say W.null) (world o mv) → w ≡ lay m (g.pat s p f b) (world o st)
  unfolding g.pat pick
  pat-null mv h u l q = tag-next m s o st w x answered none _ g.unknown (g.say W.null) mv 78 h refl u l q refl

  pub pat-other : (x.byte ≡ 82 → ⊥) → (x.byte ≡ 79 → ⊥) → (x.byte ≡ 78 → ⊥) → w ≡ lay m broken (world o st) → w ≡ lay m (g.pat s p f b) (world o st)
  unfolding g.pat pick
  pat-other n1 n2 n3 q = tag-unknown m s o st w x answered none (('R', g.range s p f b) ∷ ('O', p.ors f b) ∷ ('N', g.say W.null) ∷ []) (λ j. rw (ne_eqb x.byte 82 n1, ne_eqb x.byte 79 n2, ne_eqb x.byte 78 n3, pick)) q

pub ruleset pat-laws = (pat-stop, pat-range, pat-or, pat-null, pat-other)

module _ (m : Option Mode) (s : List ℕ) (p : g.Level) (value : Bool) (f : Bool) (b : ℕ) (o : List ℕ) (st : State) (w : World) (x : Tag) (answered : x ≡ tag_at s st.place) (none : st.error ≡ 0) where
  pub variant-unit : (mv : State) → x.byte ≡ 85 → st.full ≡ false → mv ≡ moved_to x.behind st → w ≡ lay m (say_if (not value) W.close) (world o mv) → w ≡ lay m (g.variant s p value f b) (world o st)
  unfolding g.variant pick
  variant-unit mv h u l q = tag-next m s o st w x answered none _ g.unknown (say_if (not value) W.close) mv 85 h refl u l q refl

  pub variant-tuple : (mv : State) → x.byte ≡ 84 → st.full ≡ false → mv ≡ moved_to x.behind st → w ≡ lay m (g.fields s p W.paren AValue W.paren-end value f b) (world o mv) → w ≡ lay m (g.variant s p value f b) (world o st)
  unfolding g.variant pick
  variant-tuple mv h u l q = tag-next m s o st w x answered none _ g.unknown (g.fields s p W.paren AValue W.paren-end value f b) mv 84 h refl u l q refl

  pub variant-struct : (mv : State) → x.byte ≡ 83 → st.full ≡ false → mv ≡ moved_to x.behind st → w ≡ lay m (g.fields s p W.fields Field W.fields-end value f b) (world o mv) → w ≡ lay m (g.variant s p value f b) (world o st)
  unfolding g.variant pick
  variant-struct mv h u l q = tag-next m s o st w x answered none _ g.unknown (g.fields s p W.fields Field W.fields-end value f b) mv 83 h refl u l q refl

  pub variant-other : (x.byte ≡ 85 → ⊥) → (x.byte ≡ 84 → ⊥) → (x.byte ≡ 83 → ⊥) → w ≡ lay m broken (world o st) → w ≡ lay m (g.variant s p value f b) (world o st)
  unfolding g.variant pick
  variant-other n1 n2 n3 q = tag-unknown m s o st w x answered none ((85, say_if (not value) W.close) ∷ (84, g.fields s p W.paren AValue W.paren-end value f b) ∷ (83, g.fields s p W.fields Field W.fields-end value f b) ∷ []) (λ j. rw (ne_eqb x.byte 85 n1, ne_eqb x.byte 84 n2, ne_eqb x.byte 83 n3, pick)) q

pub ruleset variant-laws = (variant-stop, variant-unit, variant-tuple, variant-struct, variant-other)

-- ---- targets: there is what the target came to, back what `back_to` answered
target_is : {A : Type 0} (s : List ℕ) (z : A) (a : g.Deep A) (f : Bool) (b v i : ℕ) → f ≡ true → (g.target s z a f b v).run i ≡ caught ((a f b).run v) i
unfolding g.target reader
target_is s z a f b v i h = rw h

target-off : {A : Type 0} (s : List ℕ) (z : A) (a : g.Deep A) (f : Bool) (b v i : ℕ) → f ≡ false → (g.target s z a f b v).run i ≡ ok z i false []
unfolding g.target reader
target-off s z a f b v i h = rw h

on-follows : (m : Option Mode) → (m ≡ None → ⊥) → follows m ≡ true
on-follows None h = absurd (h refl)
on-follows (Some m) h = refl

off-follows : (m : Option Mode) → m ≡ None → follows m ≡ false
off-follows m h = rw h

module _ (m : Option Mode) (s : List ℕ) (n : ℕ) (k : Kind) (b v : ℕ) (o : List ℕ) (st mv : State) where
  pub aim-deep : (w : World) → n ≡ 0 → st.error ≡ 0 → mv ≡ st → w ≡ lay m (breaks too_deep) (world o mv) → w ≡ lay m ((g.level s n).aim k (follows m) b v) (world o st)
  unfolding g.level breaks reader
  aim-deep w z e l p = rw z (arm-run m ((g.level s 0).aim k (follows m) b v) (breaks too_deep) o st w e (arm-there m (breaks too_deep) o st mv w l p) refl)

  module _ (some : n ≡ 0 → ⊥) (none : st.error ≡ 0) where
    aim-above : (w : World) → w ≡ lay m ((g.above s (g.level s (n - 1))).aim k (follows m) b v) (world o st) → w ≡ lay m ((g.level s n).aim k (follows m) b v) (world o st)
    aim-above w p = p ∙ ap (λ (l : g.Level). lay m (l.aim k (follows m) b v) (world o st)) (sym (level-is s n some))

    pub aim-off : m ≡ None → mv ≡ st → world o mv ≡ lay m ((g.level s n).aim k (follows m) b v) (world o st)
    aim-off h l =
        let a = g.says s (g.level s (n - 1)) k in
        let e : (emit []).run st.place ≡ ok tt st.place false [] = unfold emit in refl in
        ap (world o) l ∙ aim-above (world o st)
        (arm-run m (g.target s tt a (follows m) b v) (emit []) o st (world o st) none (sym (lay-nil m (world o st))) (e ∙ sym (target-off s tt a (follows m) b v st.place (off-follows m h))))

    pub aim-shown : (o1 : List ℕ) (r1 r2 : State) → st.full ≡ false → (m ≡ None → ⊥) → mv ≡ moved_to v st → world o1 r1 ≡ lay m (g.says s (g.level s (n - 1)) k (follows m) b) (world o mv) → r2 ≡ back_to st.place r1 → world o1 r2 ≡ lay m ((g.level s n).aim k (follows m) b v) (world o st)
    aim-shown o1 r1 r2 u h l p1 p2 =
        let a = g.says s (g.level s (n - 1)) k in
        aim-above (world o1 r2)
        (ap (world o1) p2 ∙ (ap (backed st.place) (p1 ∙ ap (λ (x : State). lay m (a (follows m) b) (world o x)) l)
        ∙ sym (lay-caught m v (g.target s tt a (follows m) b v) (a (follows m) b) o st u none (target_is s tt a (follows m) b v st.place (on-follows m h)))))

pub ruleset aim-laws = (aim-deep, aim-off, aim-shown)

-- ---- open paths
module _ (m : Option Mode) (s : List ℕ) (p : g.Level) (f : Bool) (b : ℕ) (v : World) where
  pub shut-is : (o : List ℕ) (st : State) → world o st ≡ lay m (p.path false f b) v → out false (world o st) ≡ lays false m (g.shut_path s p f b) v
  unfolding g.shut_path
  shut-is o st q = told-then m (p.path false f b) (give false) v (world o st) _ q (given-false m o st)

  pub generic-open : (x y : World) (o : List ℕ) (n : ℕ) (st : State) (t : Bool) → x ≡ lay m (p.path false f b) v → y ≡ lay m (emit (word W.less ∷ [])) x → out n (world o st) ≡ lays 0 m (g.list s p Arg f b) y → t ≡ not st.full → out t (world o st) ≡ lays false m (g.open_generic s p f b) v
  unfolding g.open_generic g.list g.sep_of g.element
  generic-open x y o n st t q r l h = told-then m _ _ v x _ q (told-then m _ _ x y _ r (told-list m _ _ y (out n (world o st)) _ l (given-true m t o st h)))

module _ (m : Option Mode) (s : List ℕ) (p : g.Level) (f : Bool) (b : ℕ) (o : List ℕ) (st mv : State) where
  pub open-fails : (x : Option (ℕ × ℕ)) (r : State) (o1 : List ℕ) → st.error ≡ 0 → x ≡ back_at s st.place → x ≡ None → mv ≡ st → world o1 r ≡ lay m broken (world o mv) → out false (world o1 r) ≡ lays false m (g.open_back s p f b) (world o st)
  unfolding g.open_back need reader taken broken
  open-fails x r o1 e h k l q = told-refused m 0 (g.open_back s p f b) o st mv r o1 e l (rw (← h, k)) q

  pub open_next : (x : Option (ℕ × ℕ)) (v q : ℕ) (z : Out Bool) → st.full ≡ false → st.error ≡ 0 → x ≡ back_at s st.place → x ≡ Some (v, q) → mv ≡ moved_to q st → z ≡ lays false m (p.open_at f b v) (world o mv) → z ≡ lays false m (g.open_back s p f b) (world o st)
  unfolding g.open_back need reader taken
  open_next x v q z u e h k l r = told-there false m (p.open_at f b v) o (moved_to q st) mv z l r ∙ sym (lays-moved false m (g.open_back s p f b) (p.open_at f b v) q o st u e (rw (← h, k)))

  module _ (x : Tag) (answered : x ≡ tag_at s st.place) (none : st.error ≡ 0) (z : Out Bool) where
    open-picks : (a : Says Bool) (k : ℕ) → st.full ≡ false → x.byte ≡ k → eqb k 0 ≡ false → mv ≡ moved_to x.behind st → pick k (('B', g.open_back s p f b) ∷ ('I', g.open_generic s p f b) ∷ []) (g.shut_path s p f b).run st.place x.behind ≡ a.run x.behind → z ≡ lays false m a (world o mv) → z ≡ lays false m (g.open_path s p f b) (world o st)
    unfolding g.open_path
    open-picks a k u h e l t r = told-there false m a o (moved_to x.behind st) mv z l r ∙ sym (lays-moved false m (g.open_path s p f b) a x.behind o st u none (or-key-run s st.place x answered false _ _ k h e ∙ t))

    pub open-back : st.full ≡ false → x.byte ≡ 66 → mv ≡ moved_to x.behind st → z ≡ lays false m (g.open_back s p f b) (world o mv) → z ≡ lays false m (g.open_path s p f b) (world o st)
    unfolding pick
    open-back u h l r = open-picks (g.open_back s p f b) 66 u h refl l refl r

    pub open-generic : st.full ≡ false → x.byte ≡ 73 → mv ≡ moved_to x.behind st → z ≡ lays false m (g.open_generic s p f b) (world o mv) → z ≡ lays false m (g.open_path s p f b) (world o st)
    unfolding pick
    open-generic u h l r = open-picks (g.open_generic s p f b) 73 u h refl l refl r

module _ (m : Option Mode) (s : List ℕ) (p : g.Level) (f : Bool) (b : ℕ) (o : List ℕ) (st : State) (x : Tag) (answered : x ≡ tag_at s st.place) (none : st.error ≡ 0) (z : Out Bool) where
  pub open-other : (x.byte ≡ 66 → ⊥) → (x.byte ≡ 73 → ⊥) → z ≡ lays false m (g.shut_path s p f b) (world o st) → z ≡ lays false m (g.open_path s p f b) (world o st)
  unfolding g.open_path pick
  open-other n1 n2 r = r ∙ lays-same false m (g.shut_path s p f b) (g.open_path s p f b) (world o st) (doing-run _ _ st.place st.error none (sym (or-rest-run s st.place x answered false (('B', g.open_back s p f b) ∷ ('I', g.open_generic s p f b) ∷ []) (g.shut_path s p f b).run (λ j. rw (ne_eqb x.byte 66 n1, ne_eqb x.byte 73 n2, pick)))))

pub ruleset open-laws = (shut-is, generic-open, open-fails, open_next, open-other, open-back, open-generic)

module _ (m : Option Mode) (s : List ℕ) (n b v : ℕ) (o : List ℕ) (st mv : State) where
  pub oaim-deep : (r : State) (o1 : List ℕ) → n ≡ 0 → st.error ≡ 0 → mv ≡ st → world o1 r ≡ lay m (breaks too_deep) (world o mv) → out false (world o1 r) ≡ lays false m ((g.level s n).open_at (follows m) b v) (world o st)
  unfolding g.level reader
  oaim-deep r o1 z e l p = rw z (told-refused m 1 ((g.level s 0).open_at (follows m) b v) o st mv r o1 e l refl p)

  module _ (some : n ≡ 0 → ⊥) (none : st.error ≡ 0) where
    oaim-above : (z : Out Bool) → z ≡ lays false m ((g.above s (g.level s (n - 1))).open_at (follows m) b v) (world o st) → z ≡ lays false m ((g.level s n).open_at (follows m) b v) (world o st)
    oaim-above z p = p ∙ ap (λ (l : g.Level). lays false m (l.open_at (follows m) b v) (world o st)) (sym (level-is s n some))

    pub oaim-off : st.full ≡ false → m ≡ None → mv ≡ st → out false (world o mv) ≡ lays false m ((g.level s n).open_at (follows m) b v) (world o st)
    oaim-off u h l =
        let a = g.open_path s (g.level s (n - 1)) in
        ap (λ (x : State). out false (world o x)) l ∙ oaim-above (out false (world o st))
        (sym (lays-still false false m (g.target s false a (follows m) b v) o st st.place u none (target-off s false a (follows m) b v st.place (off-follows m h))))

    pub oaim-shown : (o1 : List ℕ) (t : Bool) (r1 r2 : State) → st.full ≡ false → (m ≡ None → ⊥) → mv ≡ moved_to v st → out t (world o1 r1) ≡ lays false m (g.open_path s (g.level s (n - 1)) (follows m) b) (world o mv) → r2 ≡ back_to st.place r1 → out t (world o1 r2) ≡ lays false m ((g.level s n).open_at (follows m) b v) (world o st)
    oaim-shown o1 t r1 r2 u h l p1 p2 =
        let a = g.open_path s (g.level s (n - 1)) in
        oaim-above (out t (world o1 r2))
        (ap (λ (x : State). out t (world o1 x)) p2 ∙ (ap (λ (x : Out Bool). out x.value (backed st.place x.world)) (told-there false m (a (follows m) b) o (moved_to v st) mv _ l p1)
        ∙ sym (lays-caught false m v (g.target s false a (follows m) b v) (a (follows m) b) o st u none (target_is s false a (follows m) b v st.place (on-follows m h)))))

pub ruleset oaim-laws = (oaim-deep, oaim-off, oaim-shown)

-- ---- bindings: one of them
module _ (m : Option Mode) (s : List ℕ) (p : g.Level) (f : Bool) (b : ℕ) (o : List ℕ) (st : State) where
  pub name-stop : (r : State) (o1 : List ℕ) → Halted st → world o1 r ≡ lay m (emit asks) (world o st) → out false (world o1 r) ≡ lays false m (g.bound_name s p f b) (world o st)
  unfolding g.bound_name need reader
  name-stop r o1 e q = told-asked m (g.bound_name s p f b) o st r o1 refl e q

  module _ (x : Option Name) (none : st.error ≡ 0) (answered : x ≡ ident_at s st.place) where
    pub name-fails : (r : State) (o1 : List ℕ) → x ≡ None → world o1 r ≡ lay m broken (world o st) → out false (world o1 r) ≡ lays false m (g.bound_name s p f b) (world o st)
    unfolding g.bound_name need reader taken broken
    name-fails r o1 k q = told-refused m 0 (g.bound_name s p f b) o st st r o1 none refl (rw (← answered, k)) q

    pub name-next : (n : Name) (mv : State) (y : World) (o1 : List ℕ) (r : State) (t : Bool) → st.full ≡ false → x ≡ Some n → mv ≡ moved_to n.end st → y ≡ lay m (emit (g.ident s n ∷ word W.equals ∷ [])) (world o mv) → world o1 r ≡ lay m (g.bound_to s p f b) y → t ≡ not r.full → out t (world o1 r) ≡ lays false m (g.bound_name s p f b) (world o st)
    name-next n mv y o1 r t u k l q1 q2 h =
        let rest : Says Bool = emit (g.ident s n ∷ word W.equals ∷ []) then g.bound_to s p f b then give true in
        let z : out t (world o1 r) ≡ lays false m rest (world o mv) = told-then m _ _ (world o mv) y _ q1 (told-then m _ _ y (world o1 r) _ q2 (given-true m t o1 r h)) in
        told-there false m rest o (moved_to n.end st) mv _ l z ∙ sym (lays-moved false m (g.bound_name s p f b) rest n.end o st u none (unfold g.bound_name need reader taken in (rw (← answered, k))))

pub ruleset name-laws = (name-stop, name-fails, name-next)

pub binding-is : (m : Option Mode) (s : List ℕ) (p : g.Level) (t f : Bool) (b : ℕ) (k : Word) (v x : World) (z : Out Bool) → k ≡ if-then t W.comma-blank W.less → x ≡ lay m (emit (word k ∷ [])) v → z ≡ lays false m (g.bound_name s p f b) x → z ≡ lays false m (g.binding s p t f b) v
unfolding g.binding
binding-is m s p t f b k v x z h q r = rw (← h) (told-then m _ _ v x z q r)

is-not : (d e : Bool) → not d ≡ e → d ≡ not e
is-not true e h = ap not h
is-not false e h = ap not h

-- ---- bindings, one after another: z is what all of them come to, which the invariant keeps; y is what `eat` answered
module _ (m : Option Mode) (s : List ℕ) (p : g.Level) (k : ℕ) (t f : Bool) (b : ℕ) (o : List ℕ) (st : State) (z : World) (kept : z ≡ lay m (g.bindings s p k t f b) (world o st)) where
  pub binds-error : (w : World) → Halted st → w ≡ lay m (say_if t W.more) (world o st) → w ≡ z
  binds-error w e q = arm-error m (g.bindings s p k t f b) (say_if t W.more) o st w e q (sym (go k)) ∙ sym kept
    where
      go : (j : ℕ) → (g.bindings s p j t f b).stopped ≡ (say_if t W.more).stopped
      go zero = unfold g.bindings in refl
      go (suc j) = unfold g.bindings in refl

  module _ (none : st.error ≡ 0) where
    pub binds-over : (mv : State) → k ≡ 0 → st.full ≡ false → mv ≡ failed_at 1 st → world o mv ≡ z
    binds-over mv h u l = ap (world o) l ∙ (sym (ap (λ (x : Out U). x.world) (lays-failed tt tt m (g.bindings s p k t f b) o st u none (go k h))) ∙ (unfold lay in refl ∙ sym kept))
      where
        go : (j : ℕ) → j ≡ 0 → (g.bindings s p j t f b).run st.place ≡ bad tt 0 st.place false []
        go zero h = unfold g.bindings in refl
        go (suc j) h = absurd (omega arith)

    module _ (y : ℕ) (some : k ≡ 0 → ⊥) (eaten : y ≡ past 112 s st.place) where
      pub binds-end : (w : World) → y ≡ st.place → w ≡ lay m (say_if t W.more) (world o st) → w ≡ z
      binds-end w h q = arm-run m (g.bindings s p k t f b) (say_if t W.more) o st w none q (sym (go k some)) ∙ sym kept
        where
          go : (j : ℕ) → (j ≡ 0 → ⊥) → (g.bindings s p j t f b).run st.place ≡ (say_if t W.more).run st.place
          go zero h = absurd (h refl)
          go (suc j) _ = unfold g.bindings in (rw (eq-eqb (past 112 s st.place) st.place (sym eaten ∙ h)))

      binds-one : (mv : State) (x : Out Bool) → st.full ≡ false → (y ≡ st.place → ⊥) → mv ≡ moved_to y st → x ≡ lays false m (g.binding s p t f b) (world o mv) → lay m (choose x.value (g.bindings s p (k - 1) true f b) (emit [])) x.world ≡ z
      binds-one mv x u h l q =
          let c : Bool → Says U = λ a. choose a (g.bindings s p (k - 1) true f b) (emit []) in
          arm-moved m (g.bindings s p k t f b) (g.binding s p t f b >>= c) y o st mv _ u none l (arm-bind false m (g.binding s p t f b) c (world o mv) x _ q refl) (go k some) ∙ sym kept
        where
          go : (j : ℕ) → (j ≡ 0 → ⊥) → (g.bindings s p j t f b).run st.place ≡ (g.binding s p t f b >>= λ a. choose a (g.bindings s p (j - 1) true f b) (emit [])).run y
          go zero h = absurd (h refl)
          go (suc j) _ = let i : suc j - 1 ≡ j = omega arith in rw i (unfold g.bindings in (rw (ne_eqb (past 112 s st.place) st.place (λ e. h (eaten ∙ e)), ← eaten)))

      pub binds-cut : (mv r : State) (o1 : List ℕ) (d : Bool) → st.full ≡ false → (y ≡ st.place → ⊥) → mv ≡ moved_to y st → out d (world o1 r) ≡ lays false m (g.binding s p t f b) (world o mv) → not d ≡ true → world o1 r ≡ z
      unfolding choose
      binds-cut mv r o1 d u h l q e = sym (lay-nil m (world o1 r)) ∙ (rw (is-not d true e) at (binds-one mv (out d (world o1 r)) u h l q))

      pub binds-more : (mv r : State) (o1 : List ℕ) (d : Bool) → st.full ≡ false → (y ≡ st.place → ⊥) → mv ≡ moved_to y st → out d (world o1 r) ≡ lays false m (g.binding s p t f b) (world o mv) → not d ≡ false → z ≡ lay m (g.bindings s p (k - 1) true f b) (world o1 r)
      unfolding choose
      binds-more mv r o1 d u h l q e = sym (rw (is-not d false e) at (binds-one mv (out d (world o1 r)) u h l q))

pub ruleset binds-laws = (binds-error, binds-over, binds-end, binds-cut)

-- ---- patterns, one after another
module _ (m : Option Mode) (s : List ℕ) (p : g.Level) (k : ℕ) (f : Bool) (b : ℕ) (o : List ℕ) (st : State) (z : World) (kept : z ≡ lay m (g.alternatives s p k f b) (world o st)) where
  pub alts-error : (w : World) → Halted st → w ≡ lay m broken (world o st) → w ≡ z
  alts-error w e q = arm-error m (g.alternatives s p k f b) broken o st w e q (sym (go k)) ∙ sym kept
    where
      go : (j : ℕ) → (g.alternatives s p j f b).stopped ≡ broken.stopped
      go zero = unfold g.alternatives in refl
      go (suc j) = unfold g.alternatives in refl

  module _ (none : st.error ≡ 0) where
    pub alts-over : (mv : State) → k ≡ 0 → st.full ≡ false → mv ≡ failed_at 1 st → world o mv ≡ z
    alts-over mv h u l = ap (world o) l ∙ (sym (ap (λ (x : Out U). x.world) (lays-failed tt tt m (g.alternatives s p k f b) o st u none (go k h))) ∙ (unfold lay in refl ∙ sym kept))
      where
        go : (j : ℕ) → j ≡ 0 → (g.alternatives s p j f b).run st.place ≡ bad tt 0 st.place false []
        go zero h = unfold g.alternatives in refl
        go (suc j) h = absurd (omega arith)

    module _ (y : ℕ) (some : k ≡ 0 → ⊥) (eaten : y ≡ past 69 s st.place) where
      pub alts-end : (mv : State) → st.full ≡ false → (y ≡ st.place → ⊥) → mv ≡ moved_to y st → world o mv ≡ z
      alts-end mv u h l = ap (world o) l ∙ (sym (ap (λ (x : Out U). x.world) (lays-still tt tt m (g.alternatives s p k f b) o st y u none (go k some))) ∙ (unfold lay in refl ∙ sym kept))
        where
          go : (j : ℕ) → (j ≡ 0 → ⊥) → (g.alternatives s p j f b).run st.place ≡ ok tt y false []
          go zero h = absurd (h refl)
          go (suc j) _ = unfold g.alternatives in (rw (ne_eqb (past 69 s st.place) st.place (λ e. h (eaten ∙ e)), ← eaten))

      pub alts-more : (x v : World) → y ≡ st.place → x ≡ lay m (emit (word W.or ∷ [])) (world o st) → v ≡ lay m (g.pat s p f b) x → z ≡ lay m (g.alternatives s p (k - 1) f b) v
      alts-more x v h q r =
          kept ∙ sym (arm-run m (g.alternatives s p k f b) (g.say W.or then g.pat s p f b then g.alternatives s p (k - 1) f b) o st _ none (arm-then m _ _ (world o st) x _ q (arm-then m _ _ x v _ r refl)) (sym (go k some)))
        where
          go : (j : ℕ) → (j ≡ 0 → ⊥) → (g.alternatives s p j f b).run st.place ≡ (g.say W.or then g.pat s p f b then g.alternatives s p (j - 1) f b).run st.place
          go zero h = absurd (h refl)
          go (suc j) _ = let i : suc j - 1 ≡ j = omega arith in rw i (unfold g.alternatives in (rw (eq-eqb (past 69 s st.place) st.place (sym eaten ∙ h))))

pub ruleset alts-laws = (alts-error, alts-over, alts-end)

-- ---- by a test
pub choose_yes : (m : Option Mode) (t : Bool) (a b : Says U) (v w : World) → t ≡ true → w ≡ lay m a v → w ≡ lay m (choose t a b) v
unfolding choose
choose_yes m t a b v w h p = rw h p

pub choose-nothing : (m : Option Mode) (t : Bool) (a : Says U) (v : World) → t ≡ false → v ≡ lay m (choose t a (emit [])) v
unfolding choose
choose-nothing m t a v h = rw h (sym (lay-nil m v))

-- a type, with its `w`: y is what `eat` answered, x what is there before the type
module _ (m : Option Mode) (s : List ℕ) (p : g.Level) (f : Bool) (b : ℕ) (o : List ℕ) (st : State) (x w : World) (y : ℕ) (free : st.full ≡ false) (none : st.error ≡ 0) (eaten : y ≡ past 119 s st.place) (shown : w ≡ lay m (p.bare f b) x) where
  pub type-bare : y ≡ st.place → x ≡ world o st → w ≡ lay m (g.type s p f b) (world o st)
  unfolding g.type choose
  type-bare h n = eat-no m s 119 _ o st w y free none eaten st h refl (shown ∙ ap (lay m (p.bare f b)) n)

  pub type-splat : (mv : State) → (y ≡ st.place → ⊥) → mv ≡ moved_to y st → x ≡ lay m (emit (word W.splat ∷ [])) (world o mv) → w ≡ lay m (g.type s p f b) (world o st)
  unfolding g.type choose
  type-splat mv h there q = eat-yes m s 119 _ o st w y free none eaten mv h there (arm-then m _ _ (world o mv) x w q shown)

-- a reference: z is what `reference` answered
module _ (m : Option Mode) (s : List ℕ) (p : g.Level) (is_mut f : Bool) (b : ℕ) (v : World) (t : Bool) (o : List ℕ) (st : State) (told : out t (world o st) ≡ lays false m (g.reference s is_mut f b) v) where
  pub refer-more : (w : World) → t ≡ true → w ≡ lay m (g.type s p f b) (world o st) → w ≡ lay m (g.refer s p is_mut f b) v
  unfolding g.refer choose
  refer-more w h q = arm-bind false m _ _ v (out t (world o st)) w told (rw h q)

  pub refer-over : t ≡ false → world o st ≡ lay m (g.refer s p is_mut f b) v
  unfolding g.refer choose
  refer-over h = arm-bind false m _ _ v (out t (world o st)) (world o st) told (rw h (sym (lay-nil m (world o st))))

pub ruleset refer-laws = (refer-more, refer-over)

-- what is bound: y is what `eat` answered
module _ (m : Option Mode) (s : List ℕ) (p : g.Level) (f : Bool) (b : ℕ) (o : List ℕ) (st : State) (w : World) (y : ℕ) (free : st.full ≡ false) (none : st.error ≡ 0) where
  pub onto-const : (mv : State) → y ≡ past 75 s st.place → (y ≡ st.place → ⊥) → mv ≡ moved_to y st → w ≡ lay m (p.con false f b) (world o mv) → w ≡ lay m (g.bound_to s p f b) (world o st)
  unfolding g.bound_to choose
  onto-const mv eaten h l q = eat-yes m s 75 _ o st w y free none eaten mv h l q

  pub onto-type : y ≡ past 75 s st.place → y ≡ st.place → w ≡ lay m (g.type s p f b) (world o st) → w ≡ lay m (g.bound_to s p f b) (world o st)
  unfolding g.bound_to choose
  onto-type eaten h q = eat-no m s 75 _ o st w y free none eaten st h refl q

  pub result-arrow : y ≡ past 117 s st.place → y ≡ st.place → w ≡ lay m (g.pointer s p W.arrow f b) (world o st) → w ≡ lay m (g.result s p f b) (world o st)
  unfolding g.result g.arrow g.pointer choose
  result-arrow eaten h q = eat-no m s 117 _ o st w y free none eaten st h refl q

pub result-unit : (m : Option Mode) (s : List ℕ) (p : g.Level) (f : Bool) (b : ℕ) (o : List ℕ) (st : State) (y : ℕ) (mv : State) → st.full ≡ false → st.error ≡ 0 → y ≡ past 117 s st.place → (y ≡ st.place → ⊥) → mv ≡ moved_to y st → world o mv ≡ lay m (g.result s p f b) (world o st)
unfolding g.result choose
result-unit m s p f b o st y mv free none eaten h l = eat-yes m s 117 _ o st (world o mv) y free none eaten mv h l (sym (lay-nil m (world o mv)))

pub result-stop : (m : Option Mode) (s : List ℕ) (p : g.Level) (f : Bool) (b : ℕ) (o : List ℕ) (st : State) (w : World) → Halted st → w ≡ lay m (g.pointer s p W.arrow f b) (world o st) → w ≡ lay m (g.result s p f b) (world o st)
unfolding g.result g.arrow g.pointer choose
result-stop m s p f b o st w h q = eat-stop m s 117 _ o st w h q

pub ruleset onto-laws = (onto-stop, onto-const, onto-type)

pub ruleset ret-laws = (result-stop, result-unit, result-arrow)

-- ---- the body of a constant in braces, by its tag
module _ (m : Option Mode) (s : List ℕ) (p : g.Level) (t : ℕ) (f : Bool) (b : ℕ) (v w : World) where
  pub body-string : t ≡ 101 → w ≡ lay m (g.unsized_literal s) v → w ≡ lay m (g.body_by s p t f b) v
  unfolding g.body_by choose
  body-string h q = rw h q

  pub body-array : t ≡ 65 → w ≡ lay m (g.between s p W.bracket AValue W.bracket-end f b) v → w ≡ lay m (g.body_by s p t f b) v
  unfolding g.body_by choose
  body-array h q = rw h q

  pub body-tuple : t ≡ 84 → w ≡ lay m (g.tuple s p AValue f b) v → w ≡ lay m (g.body_by s p t f b) v
  unfolding g.body_by choose
  body-tuple h q = rw h q

  pub body-ref : (t ≡ 101 → ⊥) → (t ≡ 65 → ⊥) → (t ≡ 84 → ⊥) → w ≡ lay m (g.refer_to s p (eqb t 81) f b) v → w ≡ lay m (g.body_by s p t f b) v
  unfolding g.body_by choose
  body-ref n1 n2 n3 q = rw (ne_eqb t 101 n1, ne_eqb t 65 n2, ne_eqb t 84 n3) q

pub ruleset body-laws = (body-string, body-array, body-tuple, body-ref)

-- a function pointer behind its head: t is what `signature` answered
module _ (m : Option Mode) (s : List ℕ) (p : g.Level) (f : Bool) (b : ℕ) (v : World) (t : Bool) (o : List ℕ) (st : State) (told : out t (world o st) ≡ lays false m (g.sig_head s) v) where
  signature-more : (w : World) → t ≡ true → w ≡ lay m (g.parameters s p f b) (world o st) → w ≡ lay m (g.signature s p f b) v
  unfolding g.signature choose
  signature-more w h q = arm-bind false m _ _ v (out t (world o st)) w told (rw h q)

  signature-over : t ≡ false → world o st ≡ lay m (g.signature s p f b) v
  unfolding g.signature choose
  signature-over h = arm-bind false m _ _ v (out t (world o st)) (world o st) told (rw h (sym (lay-nil m (world o st))))

-- ---- binders: x is what `opt_integer_62` answered, k what `held` answered
module _ (m : Option Mode) (s : List ℕ) (p : g.Level) (f : Bool) (b : ℕ) (o : List ℕ) (st mv : State) (x : Option (ℕ × ℕ)) (answered : x ≡ optional62 71 s st.place) (none : st.error ≡ 0) where
  pub function-fails : (w : World) → x ≡ None → mv ≡ st → w ≡ lay m broken (world o mv) → w ≡ lay m (g.function s p f b) (world o st)
  unfolding g.function
  function-fails w h l q = read-fails m o st mv w (optional62 71 s) _ x none answered h l q

  pub traits-fails : (w : World) → x ≡ None → mv ≡ st → w ≡ lay m broken (world o mv) → w ≡ lay m (g.traits s p f b) (world o st)
  unfolding g.traits
  traits-fails w h l q = read-fails m o st mv w (optional62 71 s) _ x none answered h l q

  pub function-over : (n q : ℕ) (y : World) (h : Bool) (o1 : List ℕ) (r : State) → st.full ≡ false → x ≡ Some (n, q) → mv ≡ moved_to q st → y ≡ lay m (emit (g.binder b n)) (world o mv) → out h (world o1 r) ≡ lays false m (g.sig_head s) y → h ≡ false → world o1 r ≡ lay m (g.function s p f b) (world o st)
  unfolding g.function
  function-over n q y h o1 r free known there bound told is = read-next m o st mv (world o1 r) (optional62 71 s) _ x n q free none answered known there (arm-then m _ _ (world o mv) y (world o1 r) bound (signature-over m s p f (g.held (b + n)) y h o1 r told is))

  module _ (n q k : ℕ) (y : World) (free : st.full ≡ false) (known : x ≡ Some (n, q)) (there : mv ≡ moved_to q st) (counted : k ≡ g.held (b + n)) (bound : y ≡ lay m (emit (g.binder b n)) (world o mv)) where
    function-next : (w : World) → w ≡ lay m (g.signature s p f k) y → w ≡ lay m (g.function s p f b) (world o st)
    unfolding g.function
    function-next w r = read-next m o st mv w (optional62 71 s) _ x n q free none answered known there (arm-then m _ _ (world o mv) y w bound (rw counted at r))

    pub function-more : (w : World) (h : Bool) (o1 : List ℕ) (r : State) → out h (world o1 r) ≡ lays false m (g.sig_head s) y → h ≡ true → w ≡ lay m (g.parameters s p f k) (world o1 r) → w ≡ lay m (g.function s p f b) (world o st)
    function-more w h o1 r told is shown = function-next w (signature-more m s p f k y h o1 r told w is shown)

    pub traits-next : (c : ℕ) (o1 : List ℕ) (r : State) → out c (world o1 r) ≡ lays 0 m (g.list s p Trait f k) y → world o1 r ≡ lay m (g.traits s p f b) (world o st)
    unfolding g.traits
    traits-next c o1 r l = read-next m o st mv (world o1 r) (optional62 71 s) _ x n q free none answered known there (arm-then m _ _ (world o mv) y (world o1 r) bound (arm-list m _ _ y (out c (world o1 r)) (world o1 r) (rw counted at l) (sym (lay-nil m (world o1 r)))))

pub ruleset func-laws = (function-fails, function-more, function-over)

pub ruleset dyns-laws = (traits-stop, traits-fails, traits-next)

-- ---- a reading and what follows it, in the members that start with one
module _ (m : Option Mode) (s : List ℕ) (p : g.Level) (f : Bool) (b : ℕ) (o : List ℕ) (st mv : State) (w : World) where
  module _ (value : Bool) (x : Option (Option ℕ × ℕ)) (none : st.error ≡ 0) (answered : x ≡ space_at s st.place) where
    pub nest-fails : x ≡ None → mv ≡ st → w ≡ lay m broken (world o mv) → w ≡ lay m (g.nest s p value f b) (world o st)
    unfolding g.nest
    nest-fails k l q = read-fails m o st mv w (space_at s) _ x none answered k l q

    pub nest-next : (ns : Option ℕ) (q : ℕ) (y z : World) → st.full ≡ false → x ≡ Some (ns, q) → mv ≡ moved_to q st → y ≡ lay m (p.path value f b) (world o mv) → z ≡ lay m (on_error (word W.colons ∷ [])) y → w ≡ lay m (g.nested s ns) z → w ≡ lay m (g.nest s p value f b) (world o st)
    unfolding g.nest
    nest-next ns q y z u k l r1 r2 r3 = read-next m o st mv w (space_at s) _ x ns q u none answered k l (arm-then m _ _ (world o mv) y w r1 (arm-then m _ _ y z w r2 r3))

  module _ (with : Bool) (x : Option (ℕ × ℕ)) (none : st.error ≡ 0) (answered : x ≡ optional62 115 s st.place) where
    pub imp-fails : x ≡ None → mv ≡ st → w ≡ lay m broken (world o mv) → w ≡ lay m (g.imp s p with f b) (world o st)
    unfolding g.imp
    imp-fails k l q = read-fails m o st mv w (optional62 115 s) _ x none answered k l q

    pub imp-next : (v q : ℕ) (y : World) → st.full ≡ false → x ≡ Some (v, q) → mv ≡ moved_to q st → y ≡ lay None (p.path false false b) (world o mv) → w ≡ lay m (g.qself s p with f b) y → w ≡ lay m (g.imp s p with f b) (world o st)
    unfolding g.imp
    imp-next v q y u k l r1 r2 = read-next m o st mv w (optional62 115 s) _ x v q u none answered k l (arm-mute-then m _ _ (world o mv) y w r1 r2)

  module _ (kd : Kind) (x : Option (ℕ × ℕ)) (none : st.error ≡ 0) (answered : x ≡ back_at s st.place) where
    pub back-lost : x ≡ None → mv ≡ st → w ≡ lay m broken (world o mv) → w ≡ lay m (g.back s p kd f b) (world o st)
    unfolding g.back
    back-lost k l q = read-fails m o st mv w (back_at s) _ x none answered k l q

    pub back-got : (v q : ℕ) → st.full ≡ false → x ≡ Some (v, q) → mv ≡ moved_to q st → w ≡ lay m (p.aim kd f b v) (world o mv) → w ≡ lay m (g.back s p kd f b) (world o st)
    unfolding g.back
    back-got v q u k l r = read-next m o st mv w (back_at s) _ x v q u none answered k l r

  module _ (x : Option (ℕ × Name)) (none : st.error ≡ 0) (answered : x ≡ named_at s st.place) where
    pub field-fails : x ≡ None → mv ≡ st → w ≡ lay m broken (world o mv) → w ≡ lay m (g.field s p f b) (world o st)
    unfolding g.field
    field-fails k l q = named-fails m o st mv w s _ x none answered k l q

    pub field_next : (d : ℕ) (i : Name) (y : World) → st.full ≡ false → x ≡ Some (d, i) → mv ≡ moved_to i.end st → y ≡ lay m (emit (g.ident s i ∷ word W.field ∷ [])) (world o mv) → w ≡ lay m (p.con true f b) y → w ≡ lay m (g.field s p f b) (world o st)
    unfolding g.field
    field_next d i y n h l r1 r2 = named-next m o st mv w s _ x d i n none answered h l (arm-then m _ _ (world o mv) y w r1 r2)

pub ruleset nest-laws = (nest-fails, nest-next)

pub ruleset imp-laws = (imp-fails, imp-next)

pub ruleset back-laws = (back-lost, back-got)

pub ruleset field_laws = (field-stop, field-fails, field_next)

-- a path with generic arguments: k is the word that opens them
pub generic-is : (m : Option Mode) (s : List ℕ) (p : g.Level) (value f : Bool) (b : ℕ) (k : Word) (v x y : World) (z : Out ℕ) (w : World) → x ≡ lay m (p.path value f b) v → k ≡ if-then value W.value-less W.less → y ≡ lay m (emit (word k ∷ [])) x → z ≡ lays 0 m (g.list s p Arg f b) y → w ≡ lay m (emit (word W.more ∷ [])) z.world → w ≡ lay m (g.generic s p value f b) v
unfolding g.generic
generic-is m s p value f b k v x y z w r1 h r2 r3 r4 = arm-then m _ _ v x w r1 (arm-then m _ _ x y w (rw h at r2) (arm-list m _ _ y z w r3 r4))

-- one of two, by a test
pub choose-yes : {A : Type 0} (t : Bool) (a b : A) → t ≡ true → a ≡ if-then t a b
choose-yes t a b h = rw h

pub choose-no : {A : Type 0} (t : Bool) (a b : A) → t ≡ false → b ≡ if-then t a b
choose-no t a b h = rw h

pub ruleset choose_laws = (choose-yes, choose-no, rules)

-- ---- what each member of the cycle is shown by
pub ruleset adt_rules = (arm-then, tests, rules)

pub ruleset aim_rules = (aim-laws, tests, rules)

pub ruleset alt_rules = (alts-laws, tests, rules)

pub ruleset arg_rules = (arg_laws, tests, rules)

pub ruleset arr_rules = (arm-then, tests, rules)

pub ruleset bar_rules = (bare-laws, tests, rules)

pub ruleset bd_rules = (binding-is, tests, rules)

pub ruleset bk_rules = (back-laws, tests, rules)

pub ruleset bn_rules = (ident-within, name-laws, tests, rules)

pub ruleset bod_rules = (body-laws, tests, rules)

pub ruleset bor_rules = (refer-laws, tests, rules)

pub ruleset brc_rules = (arm-then, tests, rules)

pub ruleset bs_rules = (binds-laws, tests, rules)

pub ruleset bt_rules = (onto-laws, tests, rules)

pub ruleset con_rules = (con-laws, tests, rules)

pub ruleset ct_rules = (con-adt, con-back, con-bool, con-char, con-placeholder, tests, rules)

pub ruleset dt_rules = (arm-bind, trait-stop, tests, rules)

pub ruleset fl_rules = (arm-list, arm-then, tests, rules)

pub ruleset fld_rules = (field_laws, named-within, tests, rules)

pub ruleset fnp_rules = (func-laws, tests, rules)

pub ruleset gns_rules = (generic-is, tests, rules)

pub ruleset imp_rules = (imp-laws, tests, rules)

pub ruleset lit_rules = (lit-laws, tests, rules)

pub ruleset ls_rules = (list-end, list-error, list_full, list_over, tests, rules)

pub ruleset nam_rules = (named-laws, tests, rules)

pub ruleset nst_rules = (nest-laws, tests, rules)

pub ruleset oa_rules = (oaim-laws, tests, rules)

pub ruleset ob_rules = (open-laws, tests, rules)

pub ruleset obj_rules = (arm-then, tests, rules)

pub ruleset og_rules = (open-laws, tests, rules)

pub ruleset one_rules = (one_laws, tests, rules)

pub ruleset op_rules = (open-laws, tests, rules)

pub ruleset ors_rules = (ors-laws, tests, rules)

pub ruleset par_rules = (arm-list, arm-then, tests, rules)

pub ruleset pat_rules = (pat-laws, tests, rules)

pub ruleset path_rules = (path-laws, tests, rules)

pub ruleset pt_rules = (path-back, path-crate, path-generic, path-impl, path-nest, path-other, path-self, tests, rules)

pub ruleset ptr_rules = (arm-then, tests, rules)

pub ruleset ret_rules = (ret-laws, tests, rules)

pub ruleset rk_rules = (arm-then, tests, rules)

pub ruleset rng_rules = (arm-then, tests, rules)

pub ruleset see_rules = (visit-laws, tests, rules)

pub ruleset seq_rules = (arm-list, arm-then, tests, rules)

pub ruleset slf_rules = (arm-then, tests, rules)

pub ruleset sub_rules = (arm-then, tests, rules)

pub ruleset sz_rules = (arm-then, choose-nothing, choose_yes, tests, rules)

pub ruleset trs_rules = (dyns-laws, tests, rules)

pub ruleset trt_rules = (arm-then, choose-nothing, choose_yes, tests, rules)

pub ruleset tup_rules = (arm-bind, arm-then, tests, rules)

pub ruleset ty_rules = (type-stop, tests, rules)

pub ruleset tys_rules = (type-array, type-back, type-const-ptr, type-function, type-mut, type-mut-ptr, type-named, type-object, type-ref, type-slice, type-sub, type-tuple, tests, rules)

pub ruleset var_rules = (variant-laws, tests, rules)
