-- Parts with a value beside them, backwards from the goal `z ≡ lays false m a (world o st)`. Assumes nothing.
use Rattle.std.specs.Prelude.{Option}
use Rattle.pieces.specs.declared.mode.Mode.{Mode}
use Prim.Native.Nat.{ℕ, zero, suc}
use mathlib.Core.Path.{◌≡◌, refl, ap, sym, ◌∙◌}
use mathlib.Core.Bool.{Bool, true, false, not}
use mathlib.Core.List.{List, append-nil}
use native.Mathlib.Omega.{arith}
use Rattle.parser.specs.Digits.{if-then}
use Rattle.printer.specs.Says.{U, bad, Says, onto, next, ◌>>=◌, ◌then◌, give, emit, breaks, refused, asking, asks, marks}
use Rattle.printer.specs.Lay.{State, World, world, Out, out, lays, lay}
use Rattle.printer.proofs.StateLaws.{Halted}
use Rattle.printer.proofs.LayLaws.{lay-full, lays-full, lays-same, lays-bind, lays-still, lays-stopped, doing-run, doing-stop}
use Rattle.printer.proofs.ArmLaws.{arm-there, lays-then}

pub told-there : {A : Type 0} (y : A) (m : Option Mode) (a : Says A) (o : List ℕ) (st mv : State) (z : Out A) → mv ≡ st → z ≡ lays y m a (world o mv) → z ≡ lays y m a (world o st)
told-there y m a o st mv z h p = p ∙ ap (λ (x : State). lays y m a (world o x)) h

pub told-full : (m : Option Mode) (a : Says Bool) (o : List ℕ) (st : State) → st.full ≡ true → out false (world o st) ≡ lays false m a (world o st)
told-full m a o st h = sym (lays-full false m a (world o st) h)

pub told-then : (m : Option Mode) (a : Says U) (b : Says Bool) (v x : World) (z : Out Bool) → x ≡ lay m a v → z ≡ lays false m b x → z ≡ lays false m (a then b) v
told-then m a b v x z p q = rw (lays-then false m a b v, ← p) q

pub told-list : (m : Option Mode) (a : Says ℕ) (b : Says Bool) (v : World) (x : Out ℕ) (z : Out Bool) → x ≡ lays 0 m a v → z ≡ lays false m b x.world → z ≡ lays false m (a then b) v
unfolding ◌then◌
told-list m a b v x z p q = q ∙ (ap (λ (y : Out ℕ). lays false m b y.world) p ∙ sym (lays-bind 0 false m a (λ _. b) v))

-- a value given: it stays where the buffer is full
given : (m : Option Mode) (t : Bool) (o : List ℕ) (st : State) → out (if-then st.full false t) (world o st) ≡ lays false m (give t) (world o st)
given m t o st = go st.full st.error refl refl
  where
    go : (k : Bool) (e : ℕ) → st.full ≡ k → st.error ≡ e → out (if-then k false t) (world o st) ≡ lays false m (give t) (world o st)
    go true e h q = told-full m (give t) o st h
    go false zero h q = sym (lays-still false t m (give t) o st st.place h q (unfold give in refl))
    go false (suc e) h q = sym (lays-stopped false t m (give t) o st h (λ z. absurd (omega (arith, z, q))) (unfold give in refl))

pub given-true : (m : Option Mode) (y : Bool) (o : List ℕ) (st : State) → y ≡ not st.full → out y (world o st) ≡ lays false m (give true) (world o st)
given-true m y o st h = ap (λ (t : Bool). out t (world o st)) (h ∙ go st.full) ∙ given m true o st
  where
    go : (k : Bool) → not k ≡ if-then k false true
    go true = refl
    go false = refl

pub given-false : (m : Option Mode) (o : List ℕ) (st : State) → out false (world o st) ≡ lays false m (give false) (world o st)
given-false m o st = ap (λ (t : Bool). out t (world o st)) (go st.full) ∙ given m false o st
  where
    go : (k : Bool) → false ≡ if-then k false false
    go true = refl
    go false = refl

-- an error as the answer of a part with a value, and `?`
pub told-refused : (m : Option Mode) (x : ℕ) (a : Says Bool) (o : List ℕ) (st mv r : State) (o1 : List ℕ) → st.error ≡ 0 → mv ≡ st → a.run st.place ≡ refused false x st.place → world o1 r ≡ lay m (breaks x) (world o mv) → out false (world o1 r) ≡ lays false m a (world o st)
told-refused m x a o st mv r o1 e l h p =
    let b : Says Bool = breaks x then give false in
    let k : b.run st.place ≡ a.run st.place = unfold breaks ◌then◌ ◌>>=◌ next onto give in (ap (bad false x st.place false) (append-nil (marks x)) ∙ sym h) in
    given-false m o1 r
    ∙ (ap (lays false m (give false)) (arm-there m (breaks x) o st mv (world o1 r) l p)
    ∙ (sym (lays-then false m (breaks x) (give false) (world o st))
    ∙ lays-same false m b a (world o st) (doing-run b a st.place st.error e k)))

pub told-asked : (m : Option Mode) (a : Says Bool) (o : List ℕ) (st r : State) (o1 : List ℕ) → a.stopped ≡ asking false → Halted st → world o1 r ≡ lay m (emit asks) (world o st) → out false (world o1 r) ≡ lays false m a (world o st)
told-asked m a o st r o1 k e p = go st.full refl
  where
    go : (x : Bool) → st.full ≡ x → out false (world o1 r) ≡ lays false m a (world o st)
    go true f = ap (out false) (p ∙ lay-full m (emit asks) (world o st) f) ∙ told-full m a o st f
    go false f =
        let b : Says Bool = emit asks then give false in
        let j : b.stopped ≡ a.stopped = unfold emit ◌then◌ ◌>>=◌ give in (sym k) in
        given-false m o1 r
        ∙ (ap (lays false m (give false)) p
        ∙ (sym (lays-then false m (emit asks) (give false) (world o st))
        ∙ lays-same false m b a (world o st) (doing-stop b a st.place st.error (e.no f) j)))
