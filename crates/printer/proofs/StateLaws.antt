-- The code's state and the state that it is, and what the tests of the code say of it. Assumes nothing.
use Rattle.std.specs.Prelude.{Option, Some, None, Ok, Err, is_some, not}
use Prim.Native.Nat.{ℕ, ◌+◌, ◌<◌, ◌^◌}
use mathlib.Core.Path.{◌≡◌, refl, sym, ap, ◌∙◌}
use mathlib.Core.Bool.{Bool, true, false}
use native.Mathlib.Omega.{arith}
use borrow.Author.Rules.{rules}
use Rattle.parser.specs.Digits.{if-then}
use Rattle.pieces.specs.Laid.{Put}
use Rattle.pieces.specs.declared.put.NoRoom.{NoRoom}
use Rattle.pieces.specs.declared.mode.Mode.{Mode}
use Rattle.printer.specs.declared.state.State as Code
use Rattle.printer.specs.declared.state.Status.{Status}
use Rattle.printer.specs.declared.state.Status.TheVariants.{Going as IsGoing, Invalid, RecursedTooDeep, Full, Other}
use Rattle.printer.specs.Lay.{State, state_of, filled, code_of, halts, Going, full_state, moved_to, advanced_by, sum_of, settled_by}

clash : {A : Type 0} → true ≡ false → A
clash h = let z : ◌≡◌ {A = ℕ} 1 0 = ap (λ (t : Bool). if-then t 1 0) h in absurd (omega arith)

-- ---- after a piece
pub sum-of : (s : State) (p : Put) (n : ℕ) → sum_of p s < 2 ^ 64 → p ≡ Ok n → s.written + n < 2 ^ 64
sum-of s p n h k = rw k at h

pub settled-done : (s r : State) (p : Put) (n : ℕ) → p ≡ Ok n → r ≡ advanced_by n s → r ≡ settled_by p s
settled-done s r p n k h = rw k h

pub settled-full : (s r : State) (p : Put) (e : NoRoom) → p ≡ Err e → r ≡ full_state → r ≡ settled_by p s
settled-full s r p e k h = rw k h

pub ruleset settle_laws = (sum-of, settled-done, settled-full, rules)

-- ---- what the tests of the code say of a status y: b is what `is_full` or `stopped` answered
module _ (y : Status) {b : Bool} where
  pub full-here : b ≡ filled y → b ≡ true → filled y ≡ true
  full-here h k = sym h ∙ k

  pub room-else : b ≡ filled y → b ≡ false → filled y ≡ false
  room-else h k = sym h ∙ k

  pub full-not : b ≡ filled y → not b ≡ not (filled y)
  full-not h = ap not h

  pub room-here : b ≡ halts y → b ≡ false → filled y ≡ false
  room-here h k = go y (sym h ∙ k)
    where
      go : (z : Status) → halts z ≡ false → filled z ≡ false
      go IsGoing q = refl
      go Invalid q = clash q
      go RecursedTooDeep q = clash q
      go Full q = clash q
      go (Other n) q = clash q

  pub none_here : b ≡ halts y → b ≡ false → code_of y ≡ 0
  none_here h k = go y (sym h ∙ k)
    where
      go : (z : Status) → halts z ≡ false → code_of z ≡ 0
      go IsGoing q = refl
      go Invalid q = clash q
      go RecursedTooDeep q = clash q
      go Full q = clash q
      go (Other n) q = clash q

pub error-else : (y : Status) {b c : Bool} → b ≡ filled y → b ≡ false → c ≡ halts y → c ≡ true → code_of y ≡ 0 → ⊥
error-else y f nf h k = go y (sym f ∙ nf) (sym h ∙ k)
  where
    go : (z : Status) → filled z ≡ false → halts z ≡ true → code_of z ≡ 0 → ⊥
    go IsGoing q r e = clash (sym r)
    go Invalid q r e = absurd (omega (arith, e))
    go RecursedTooDeep q r e = absurd (omega (arith, e))
    go Full q r e = clash q
    go (Other n) q r e = absurd (omega (arith, e))

pub going-here : (c : Code.State) {b : Bool} → b ≡ halts c.status → b ≡ false → Going (state_of c)
going-here c h k = record { room = room-here c.status h k; none = none_here c.status h k }

pub going-room : (c : Code.State) → Going (state_of c) → filled c.status ≡ false
going-room c g = g.room

pub going-none : (c : Code.State) → Going (state_of c) → code_of c.status ≡ 0
going-none c g = g.none

pub going-moved : (p : ℕ) (s r : State) → r ≡ moved_to p s → Going s → Going r
going-moved p s r h q = rw h (record { room = q.room; none = q.none })

-- a state that has stopped: full, or with an error
pub record Halted (s : State) : Type 0 where
  pub no : s.full ≡ false → s.error ≡ 0 → ⊥

pub halted-here : (c : Code.State) {b : Bool} → b ≡ halts c.status → b ≡ true → Halted (state_of c)
halted-here c h k = record { no = λ f e. go c.status (sym h ∙ k) f e }
  where
    go : (z : Status) → halts z ≡ true → filled z ≡ false → code_of z ≡ 0 → ⊥
    go IsGoing q f e = clash (sym q)
    go Invalid q f e = absurd (omega (arith, e))
    go RecursedTooDeep q f e = absurd (omega (arith, e))
    go Full q f e = clash f
    go (Other n) q f e = absurd (omega (arith, e))

-- ---- whether there is a mode: b is what `is_none` answered
pub off-here : (m : Option Mode) {b : Bool} → is_some m ≡ not b → b ≡ true → m ≡ None
off-here None h k = refl
off-here (Some m) h k = clash (rw k at h)

pub on-here : (m : Option Mode) {b : Bool} → is_some m ≡ not b → b ≡ false → m ≡ None → ⊥
on-here m h k e = clash (sym (rw (e, k) at h))

pub ruleset tests = (full-not, room-here, none_here, full-here, room-else, error-else, going-here, going-moved, halted-here, going-room, going-none, off-here, on-here)
