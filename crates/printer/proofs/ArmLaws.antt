-- What each step of a printer's code comes to, backwards from the goal `w ≡ lay m a (world o st)`, for `search`. Assumes nothing.
use Rattle.std.specs.Prelude.{Option, None}
use Rattle.pieces.specs.declared.mode.Mode.{Mode}
use Prim.Native.Nat.{ℕ, zero, suc, ◌+◌, ◌-◌}
use mathlib.Core.Path.{◌≡◌, refl, ap, sym, ◌∙◌}
use mathlib.Core.Bool.{Bool, true, false, not}
use mathlib.Core.List.{List, [], ◌∷◌, ◌++◌}
use native.Mathlib.Omega.{arith}
use borrow.Author.Tests.{eq-eqb, ne_eqb}
use lib.Dec.{eqb}
use Rattle.parser.specs.Bytes.{past}
use Rattle.pieces.specs.declared.words.Word.{Word}
use Rattle.pieces.specs.Piece.{Piece}
use Rattle.printer.specs.Lay.{State}
use Rattle.printer.specs.Says.{U, ok, bad, Says, next, ◌>>=◌, ◌then◌, emit, breaks, broken, Got, got, lost, taken, need, mute, asking, still, asks, invalid}
use Rattle.printer.specs.Lay.{World, world, Out, out, lays, lay, doing, moved_to, failed_at}
use Rattle.printer.specs.Model as g
use Rattle.printer.specs.Model.{say_if}
use Rattle.printer.proofs.StateLaws.{Halted}
use Rattle.printer.proofs.LayLaws.{lay-full, lays-full, lay-same, lays-same, lay-then, lays-bind, lay-moved, lay-mute, lays-still, lays-failed, lays-stopped, doing-run, doing-stop}

-- ---- any printer
pub arm_full : (m : Option Mode) (a : Says U) (o : List ℕ) (st : State) → st.full ≡ true → world o st ≡ lay m a (world o st)
arm_full m a o st h = sym (lay-full m a (world o st) h)

-- the same printer at a state that is the same
pub arm-there : (m : Option Mode) (a : Says U) (o : List ℕ) (st mv : State) (w : World) → mv ≡ st → w ≡ lay m a (world o mv) → w ≡ lay m a (world o st)
arm-there m a o st mv w h p = p ∙ ap (λ (x : State). lay m a (world o x)) h

-- ---- one thing after another; after what gives a value; by that value
pub arm-then : (m : Option Mode) (a b : Says U) (v x w : World) → x ≡ lay m a v → w ≡ lay m b x → w ≡ lay m (a then b) v
arm-then m a b v x w p q = rw (lay-then m a b v, ← p) q

pub arm-bind : {A : Type 0} (z : A) (m : Option Mode) (a : Says A) (f : A → Says U) (v : World) (x : Out A) (w : World) → x ≡ lays z m a v → w ≡ lay m (f x.value) x.world → w ≡ lay m (a >>= f) v
unfolding lay
arm-bind z m a f v x w p q = q ∙ (ap (λ (y : Out _). (lays tt m (f y.value) y.world).world) p ∙ sym (ap (λ (y : Out U). y.world) (lays-bind z tt m a f v)))

pub arm-list : (m : Option Mode) (a : Says ℕ) (b : Says U) (v : World) (x : Out ℕ) (w : World) → x ≡ lays 0 m a v → w ≡ lay m b x.world → w ≡ lay m (a then b) v
unfolding ◌then◌
arm-list m a b v x w p q = arm-bind 0 m a (λ _. b) v x w p q

pub arm-mute-then : (m : Option Mode) (a b : Says U) (v x w : World) → x ≡ lay None a v → w ≡ lay m b x → w ≡ lay m (mute a then b) v
arm-mute-then m a b v x w p q = arm-then m (mute a) b v x w (p ∙ sym (lay-mute m a v)) q

-- pieces, some after others
pub arm-pieces : (m : Option Mode) (ps qs : List Piece) (v x w : World) → x ≡ lay m (emit ps) v → w ≡ lay m (emit qs) x → w ≡ lay m (emit (ps ++ qs)) v
arm-pieces m ps qs v x w p q = arm-then m (emit ps) (emit qs) v x w p q ∙ lay-same m (emit ps then emit qs) (emit (ps ++ qs)) v (go v.st.place v.st.error)
  where
    go : (i e : ℕ) → doing (emit ps then emit qs) i e ≡ doing (emit (ps ++ qs)) i e
    go i zero = unfold doing ◌then◌ ◌>>=◌ next emit in refl
    go i (suc e) = unfold doing ◌then◌ ◌>>=◌ next emit in refl

pub arm-piece : (m : Option Mode) (p : Piece) (qs : List Piece) (v x w : World) → x ≡ lay m (emit (p ∷ [])) v → w ≡ lay m (emit qs) x → w ≡ lay m (emit (p ∷ qs)) v
arm-piece m p qs v x w h k = arm-pieces m (p ∷ []) qs v x w h k

-- ---- at a state that has stopped only what is said then counts: `?`, or something else
halted : (m : Option Mode) (a b : Says U) (o : List ℕ) (st : State) → Halted st → b.stopped ≡ a.stopped → lay m b (world o st) ≡ lay m a (world o st)
halted m a b o st h k = go st.full refl
  where
    go : (x : Bool) → st.full ≡ x → lay m b (world o st) ≡ lay m a (world o st)
    go true f = lay-full m b (world o st) f ∙ sym (lay-full m a (world o st) f)
    go false f = lay-same m b a (world o st) (doing-stop b a st.place st.error (h.no f) k)

pub arm-stop : (m : Option Mode) (a : Says U) (o : List ℕ) (st : State) (w : World) → a.stopped ≡ asking tt → Halted st → w ≡ lay m (emit asks) (world o st) → w ≡ lay m a (world o st)
unfolding emit
arm-stop m a o st w k e p = p ∙ halted m a (emit asks) o st e (sym k)

pub arm-error : (m : Option Mode) (a b : Says U) (o : List ℕ) (st : State) (w : World) → Halted st → w ≡ lay m b (world o st) → b.stopped ≡ a.stopped → w ≡ lay m a (world o st)
arm-error m a b o st w e p k = p ∙ halted m a b o st e k

-- with none: what runs the same from here; and from another place
pub arm-run : (m : Option Mode) (a b : Says U) (o : List ℕ) (st : State) (w : World) → st.error ≡ 0 → w ≡ lay m b (world o st) → b.run st.place ≡ a.run st.place → w ≡ lay m a (world o st)
arm-run m a b o st w e p k = p ∙ lay-same m b a (world o st) (doing-run b a st.place st.error e k)

pub arm-moved : (m : Option Mode) (a b : Says U) (q : ℕ) (o : List ℕ) (st mv : State) (w : World) → st.full ≡ false → st.error ≡ 0 → mv ≡ moved_to q st → w ≡ lay m b (world o mv) → a.run st.place ≡ b.run q → w ≡ lay m a (world o st)
arm-moved m a b q o st mv w f e l p k = p ∙ (ap (λ (x : State). lay m b (world o x)) l ∙ sym (lay-moved m a b q o st f e k))

-- ---- a reading that is there, and one that fails
pub need-stop : {A : Type 0} (m : Option Mode) (p : ℕ → Got A) (f : A → Says U) (o : List ℕ) (st : State) (w : World) → Halted st → w ≡ lay m (emit asks) (world o st) → w ≡ lay m (need p tt f) (world o st)
unfolding need
need-stop m p f o st w e k = arm-stop m (need p tt f) o st w refl e k

pub arm-got : {A : Type 0} (m : Option Mode) (p : ℕ → Got A) (f : A → Says U) (v : A) (q : ℕ) (o : List ℕ) (st mv : State) (w : World) → st.full ≡ false → st.error ≡ 0 → p st.place ≡ got v q → mv ≡ moved_to q st → w ≡ lay m (f v) (world o mv) → w ≡ lay m (need p tt f) (world o st)
unfolding need taken
arm-got m p f v q o st mv w u e h l k = arm-moved m (need p tt f) (f v) q o st mv w u e l k (rw h)

pub arm-lost : {A : Type 0} (m : Option Mode) (p : ℕ → Got A) (f : A → Says U) (o : List ℕ) (st mv : State) (w : World) → st.error ≡ 0 → p st.place ≡ lost invalid → mv ≡ st → w ≡ lay m broken (world o mv) → w ≡ lay m (need p tt f) (world o st)
unfolding need taken breaks broken
arm-lost m p f o st mv w e h l k = arm-run m (need p tt f) broken o st w e (arm-there m broken o st mv w l k) (rw h)

-- ---- eat, and go by whether it was there: y is what `eat` answered
module _ (m : Option Mode) (s : List ℕ) (k : ℕ) (f : Bool → Says U) (o : List ℕ) (st : State) (w : World) where
  pub eat-stop : Halted st → w ≡ lay m (f false) (world o st) → w ≡ lay m (g.eat s k >>= f) (world o st)
  eat-stop h p = arm-error m (g.eat s k >>= f) (f false) o st w h p (unfold g.eat ◌>>=◌ in refl)

  module _ (y : ℕ) (free : st.full ≡ false) (none : st.error ≡ 0) (eaten : y ≡ past k s st.place) where
    pub eat-no : (mv : State) → y ≡ st.place → mv ≡ st → w ≡ lay m (f false) (world o mv) → w ≡ lay m (g.eat s k >>= f) (world o st)
    eat-no mv n l p =
        arm-bind false m (g.eat s k) f (world o st) (out false (world o st)) w
        (sym (lays-still false false m (g.eat s k) o st st.place free none (unfold g.eat in (rw (eq-eqb (past k s st.place) st.place (sym eaten ∙ n)))))) (arm-there m (f false) o st mv w l p)

    pub eat-yes : (mv : State) → (y ≡ st.place → ⊥) → mv ≡ moved_to y st → w ≡ lay m (f true) (world o mv) → w ≡ lay m (g.eat s k >>= f) (world o st)
    eat-yes mv n l p =
        arm-bind false m (g.eat s k) f (world o st) (out true (world o mv)) w
        (ap (λ (x : State). out true (world o x)) l ∙ sym (lays-still false true m (g.eat s k) o st y free none (unfold g.eat in (rw (ne_eqb (past k s st.place) st.place (λ q. n (eaten ∙ q)), ← eaten))))) p

-- ---- a thing of no value, then one with a value
pub lays-then : {B : Type 0} (z : B) (m : Option Mode) (a : Says U) (b : Says B) (w : World) → lays z m (a then b) w ≡ lays z m b (lay m a w)
unfolding ◌then◌ lay
lays-then z m a b w = lays-bind tt z m a (λ _. b) w

-- ---- lists: z is what the whole list comes to, which the invariant keeps; y is what `eat` answered
module _ (m : Option Mode) (s : List ℕ) (t : Word) (a : Says U) (k n : ℕ) (o : List ℕ) (st : State) (z : Out ℕ) (kept : z ≡ lays 0 m (g.list_n s t a k n) (world o st)) where
  pub list_full : st.full ≡ true → out 0 (world o st) ≡ z
  list_full h = sym (kept ∙ lays-full 0 m _ (world o st) h)

  pub list-error : st.full ≡ false → (st.error ≡ 0 → ⊥) → out n (world o st) ≡ z
  list-error f e = sym (kept ∙ lays-stopped 0 n m (g.list_n s t a k n) o st f e (go k))
    where
      go : (j : ℕ) → (g.list_n s t a j n).stopped ≡ still n
      go zero = unfold g.list_n in refl
      go (suc j) = unfold g.list_n in refl

  pub list_over : (mv : State) → k ≡ 0 → st.full ≡ false → st.error ≡ 0 → mv ≡ failed_at 1 st → out n (world o mv) ≡ z
  list_over mv h f e l = ap (λ (x : State). out n (world o x)) l ∙ sym (kept ∙ lays-failed 0 n m (g.list_n s t a k n) o st f e (go k h))
    where
      go : (j : ℕ) → j ≡ 0 → (g.list_n s t a j n).run st.place ≡ bad n 0 st.place false []
      go zero h = unfold g.list_n in refl
      go (suc j) h = absurd (omega arith)

  module _ (y : ℕ) (some : k ≡ 0 → ⊥) (none : st.error ≡ 0) (eaten : y ≡ past 69 s st.place) where
    pub list-end : (mv : State) → st.full ≡ false → (y ≡ st.place → ⊥) → mv ≡ moved_to y st → out n (world o mv) ≡ z
    list-end mv f h l = ap (λ (x : State). out n (world o x)) l ∙ sym (kept ∙ lays-still 0 n m (g.list_n s t a k n) o st y f none (go k some))
      where
        go : (j : ℕ) → (j ≡ 0 → ⊥) → (g.list_n s t a j n).run st.place ≡ ok n y false []
        go zero h = absurd (h refl)
        go (suc j) _ = unfold g.list_n in (rw (ne_eqb (past 69 s st.place) st.place (λ q. h (eaten ∙ q)), ← eaten))

    pub list-more : (sep : Word) (x v : World) → y ≡ st.place → sep ≡ t → x ≡ lay m (say_if (not (eqb n 0)) sep) (world o st) → v ≡ lay m a x → z ≡ lays 0 m (g.list_n s t a (k - 1) (n + 1)) v
    list-more sep x v h e p1 p2 = kept ∙ go k some
      where
        q1 : x ≡ lay m (say_if (not (eqb n 0)) t) (world o st)
        q1 = rw e at p1

        go : (j : ℕ) → (j ≡ 0 → ⊥) → lays 0 m (g.list_n s t a j n) (world o st) ≡ lays 0 m (g.list_n s t a (j - 1) (n + 1)) v
        go zero h = absurd (h refl)
        go (suc j) _ =
            let j1 : suc j - 1 ≡ j = omega arith in
            let n1 : n + 1 ≡ suc n = omega arith in
            let k1 : (g.list_n s t a (suc j) n).run st.place ≡ (say_if (not (eqb n 0)) t then a then g.list_n s t a j (suc n)).run st.place = unfold g.list_n in (rw (eq-eqb (past 69 s st.place) st.place (sym eaten ∙ h))) in
            lays-same 0 m (g.list_n s t a (suc j) n) (say_if (not (eqb n 0)) t then a then g.list_n s t a j (suc n)) (world o st) (doing-run _ _ st.place st.error none k1)
            ∙ (lays-then 0 m (say_if (not (eqb n 0)) t) (a then g.list_n s t a j (suc n)) (world o st)
            ∙ (lays-then 0 m a (g.list_n s t a j (suc n)) (lay m (say_if (not (eqb n 0)) t) (world o st))
            ∙ rw (j1, n1, ← q1, ← p2)))
