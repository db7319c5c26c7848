-- By the tag that stands at the place: x is what `look` answered. Assumes nothing.
use Rattle.std.specs.Prelude.{Option, Some, None}
use Rattle.pieces.specs.declared.mode.Mode.{Mode}
use Prim.Native.Nat.{ℕ, zero, suc, ◌+◌, ◌≤◌, ◌<◌}
use mathlib.Core.Path.{◌≡◌, refl, ap, sym, ◌∙◌}
use mathlib.Core.Bool.{Bool, true, false}
use mathlib.Core.List.{List, [], ◌∷◌}
use native.Mathlib.Omega.{arith}
use borrow.Author.Tests.{eq-eqb, ltb-true, ltb-false}
use lib.Dec.{eqb, ltb}
use lib.ListN.{length, get_or, drop, get_or-eq_default}
use Rattle.parser.specs.Digits.{if-then}
use Rattle.parser.specs.Bytes.{read, first_byte, byte_at}
use Rattle.pieces.specs.Basic.{is_basic}
use Rattle.printer.specs.declared.read.Tag.{Tag}
use Rattle.printer.specs.Says.{U, Res, Says, broken, breaks, reader, refused, Tags, pick, invalid}
use Rattle.printer.specs.Readings.{tag_at}
use Rattle.printer.specs.Lay.{State, World, world, lay, moved_to}
use Rattle.printer.specs.Model as g
use Rattle.printer.proofs.ArmLaws.{arm-run, arm-moved}

pub true-false : true ≡ false → ⊥
true-false h = let z : ◌≡◌ {A = ℕ} 1 0 = ap (λ (t : Bool). if-then t 1 0) h in absurd (omega arith)

-- ---- the byte at a place
first-in : (s : List ℕ) (i j : ℕ) → i < length s → first_byte (drop i s) j ≡ read (get_or s i 0) (j + 1)
unfolding first_byte
first-in [] i j h = absurd (omega arith)
first-in (c ∷ s) zero j h = refl
first-in (c ∷ s) (suc i) j h = first-in s i j (omega arith)

first_out : (s : List ℕ) (i j : ℕ) → length s ≤ i → first_byte (drop i s) j ≡ None
unfolding first_byte
first_out [] zero j h = refl
first_out [] (suc i) j h = refl
first_out (c ∷ s) zero j h = absurd (omega arith)
first_out (c ∷ s) (suc i) j h = first_out s i j (omega arith)

pub byte-in : (s : List ℕ) (i : ℕ) → i < length s → byte_at s i ≡ read (get_or s i 0) (i + 1)
unfolding byte_at
byte-in s i h = first-in s i i h

pub byte-out : (s : List ℕ) (i : ℕ) → length s ≤ i → byte_at s i ≡ None
unfolding byte_at
byte-out s i h = first_out s i i h

module _ (s : List ℕ) (i : ℕ) (x : Tag) (answered : x ≡ tag_at s i) where
  -- it is there, with its place behind it; or there is none, and the tag is 0
  at-end : ltb i (length s) ≡ false → x.byte ≡ 0
  unfolding tag_at
  at-end h = ap (λ (t : Tag). t.byte) answered ∙ get_or-eq_default s 0 {n = i} (ltb-false i (length s) h)

  inside : ltb i (length s) ≡ true → byte_at s i ≡ read x.byte x.behind
  unfolding tag_at
  inside h =
      let k : (tag_at s i).behind ≡ i + 1 = rw h in
      byte-in s i (ltb-true i (length s) h) ∙ (ap (λ (j : ℕ). read (get_or s i 0) j) (sym k) ∙ ap (λ (t : Tag). read t.byte t.behind) (sym answered))

  outside : ltb i (length s) ≡ false → byte_at s i ≡ None
  outside h = byte-out s i (ltb-false i (length s) h)

  pub there : (k : ℕ) → x.byte ≡ k → eqb k 0 ≡ false → byte_at s i ≡ read k x.behind
  there k h z = go (ltb i (length s)) refl
    where
      go : (t : Bool) → ltb i (length s) ≡ t → byte_at s i ≡ read k x.behind
      go true e = inside e ∙ ap (λ (c : ℕ). read c x.behind) h
      go false e = absurd (true-false (sym (eq-eqb k 0 (sym h ∙ at-end e)) ∙ z))

  -- what runs at a tag that is none of the table's runs without the table
  pub rest-run : {A : Type 0} (z : A) (ts : Tags A) (d : ℕ → ℕ → ℕ → Res A) → ((j : ℕ) → pick x.byte ts (λ n. d x.byte n j) i j ≡ d x.byte i j) → (g.by_tag s z [] d).run i ≡ (g.by_tag s z ts d).run i
  unfolding g.by_tag reader pick
  rest-run {A} z ts d h = go (ltb i (length s)) refl
    where
      go : (t : Bool) → ltb i (length s) ≡ t → g.on_byte (byte_at s i) (λ c j. d c i j) (refused z invalid i) ≡ g.on_byte (byte_at s i) (λ c j. pick c ts (λ n. d c n j) i j) (refused z invalid i)
      go true e = rw (inside e) (sym (h x.behind))
      go false e = rw (outside e)

  pub key-run : {A : Type 0} (z : A) (ts : Tags A) (d : ℕ → ℕ → ℕ → Res A) (k : ℕ) → x.byte ≡ k → eqb k 0 ≡ false → (g.by_tag s z ts d).run i ≡ pick k ts (λ n. d k n x.behind) i x.behind
  unfolding g.by_tag reader
  key-run z ts d k h n = ap (λ (y : Option (ℕ × ℕ)). g.on_byte y (λ c j. pick c ts (λ n. d c n j) i j) (refused z invalid i)) (there k h n)

  -- the same where what is no tag goes on, the end too
  pub or-key-run : {A : Type 0} (z : A) (ts : Tags A) (d : ℕ → Res A) (k : ℕ) → x.byte ≡ k → eqb k 0 ≡ false → (g.or_tag s z ts d).run i ≡ pick k ts d i x.behind
  unfolding g.or_tag reader
  or-key-run z ts d k h n = ap (λ (y : Option (ℕ × ℕ)). g.on_byte y (λ c j. pick c ts d i j) (d i)) (there k h n)

  pub or-rest-run : {A : Type 0} (z : A) (ts : Tags A) (d : ℕ → Res A) → ((j : ℕ) → pick x.byte ts d i j ≡ d i) → (g.or_tag s z ts d).run i ≡ d i
  unfolding g.or_tag reader
  or-rest-run {A} z ts d h = go (ltb i (length s)) refl
    where
      go : (t : Bool) → ltb i (length s) ≡ t → g.on_byte (byte_at s i) (λ c j. pick c ts d i j) (d i) ≡ d i
      go true e = rw (inside e) (h x.behind)
      go false e = rw (outside e)

alike : {A : Type 0} (s : List ℕ) (i : ℕ) (x : Tag) → x ≡ tag_at s i → (z : A) (d e : ℕ → ℕ → ℕ → Res A) → ((j : ℕ) → d x.byte i j ≡ e x.byte i j) → (g.by_tag s z [] d).run i ≡ (g.by_tag s z [] e).run i
unfolding g.by_tag reader pick
alike {A} s i x answered z d e h = go (ltb i (length s)) refl
  where
    go : (t : Bool) → ltb i (length s) ≡ t → g.on_byte (byte_at s i) (λ c j. d c i j) (refused z invalid i) ≡ g.on_byte (byte_at s i) (λ c j. e c i j) (refused z invalid i)
    go true q = rw (inside s i x answered q) (h x.behind)
    go false q = rw (outside s i x answered q)

either : {A : Type 0} (y : Option (ℕ × ℕ)) (r : A) → r ≡ g.on_byte y (λ c j. r) r
either (Some (c, j)) r = refl
either None r = refl

-- ---- what is done: st before, mv the state that the code goes on with
module _ (m : Option Mode) (s : List ℕ) (o : List ℕ) (st : State) (w : World) (x : Tag) (answered : x ≡ tag_at s st.place) (none : st.error ≡ 0) where
  pub tag-next : (ts : Tags U) (d : ℕ → ℕ → ℕ → Res U) (a : Says U) (mv : State) (k : ℕ) → x.byte ≡ k → eqb k 0 ≡ false → st.full ≡ false → mv ≡ moved_to x.behind st → w ≡ lay m a (world o mv) → pick k ts (λ i. d k i x.behind) st.place x.behind ≡ a.run x.behind → w ≡ lay m (g.by_tag s tt ts d) (world o st)
  tag-next ts d a mv k h n f l p t = arm-moved m (g.by_tag s tt ts d) a x.behind o st mv w f none l p (key-run s st.place x answered tt ts d k h n ∙ t)

  pub tag-rest : (ts : Tags U) (d : ℕ → ℕ → ℕ → Res U) → ((j : ℕ) → pick x.byte ts (λ i. d x.byte i j) st.place j ≡ d x.byte st.place j) → w ≡ lay m (g.by_tag s tt [] d) (world o st) → w ≡ lay m (g.by_tag s tt ts d) (world o st)
  tag-rest ts d h p = arm-run m (g.by_tag s tt ts d) (g.by_tag s tt [] d) o st w none p (rest-run s st.place x answered tt ts d h)

  -- two that go on alike at this tag, and the end is Invalid for both
  pub tag_same : (d e : ℕ → ℕ → ℕ → Res U) → ((j : ℕ) → e x.byte st.place j ≡ d x.byte st.place j) → w ≡ lay m (g.by_tag s tt [] e) (world o st) → w ≡ lay m (g.by_tag s tt [] d) (world o st)
  tag_same d e h p = arm-run m (g.by_tag s tt [] d) (g.by_tag s tt [] e) o st w none p (alike s st.place x answered tt e d h)

  pub tag-unknown : (ts : Tags U) → ((j : ℕ) → pick x.byte ts (λ i. g.unknown x.byte i j) st.place j ≡ refused tt invalid st.place) → w ≡ lay m broken (world o st) → w ≡ lay m (g.by_tag s tt ts g.unknown) (world o st)
  unfolding g.by_tag reader pick broken breaks
  tag-unknown ts h p = tag-rest ts g.unknown h (arm-run m (g.by_tag s tt [] g.unknown) broken o st w none p (either (byte_at s st.place) _))

  pub or-next : (ts : Tags U) (d : ℕ → Res U) (a : Says U) (mv : State) (k : ℕ) → x.byte ≡ k → eqb k 0 ≡ false → st.full ≡ false → mv ≡ moved_to x.behind st → w ≡ lay m a (world o mv) → pick k ts d st.place x.behind ≡ a.run x.behind → w ≡ lay m (g.or_tag s tt ts d) (world o st)
  or-next ts d a mv k h n f l p t = arm-moved m (g.or_tag s tt ts d) a x.behind o st mv w f none l p (or-key-run s st.place x answered tt ts d k h n ∙ t)

  pub or-rest : (ts : Tags U) (d : ℕ → Res U) (a : Says U) → ((j : ℕ) → pick x.byte ts d st.place j ≡ d st.place) → w ≡ lay m a (world o st) → d st.place ≡ a.run st.place → w ≡ lay m (g.or_tag s tt ts d) (world o st)
  or-rest ts d a h p t = arm-run m (g.or_tag s tt ts d) a o st w none p (sym (or-rest-run s st.place x answered tt ts d h ∙ t))

-- a type that is no basic one is by its tag
pub bare-run : (s : List ℕ) (i : ℕ) (x : Tag) → x ≡ tag_at s i → (ts : Tags U) (d : ℕ → Res U) → is_basic x.byte ≡ false → (g.by_tag s tt ts (λ c k j. d k)).run i ≡ (g.by_tag s tt [] (g.basic_or s (λ c k j. pick c ts d k j))).run i
bare-run s i x answered ts d h = go (ltb i (length s)) refl
  where
    go : (t : Bool) → ltb i (length s) ≡ t → (g.by_tag s tt ts (λ c k j. d k)).run i ≡ (g.by_tag s tt [] (g.basic_or s (λ c k j. pick c ts d k j))).run i
    go true e = unfold g.by_tag g.basic_or reader pick in (rw (inside s i x answered e, h))
    go false e = unfold g.by_tag reader in (rw (outside s i x answered e))
