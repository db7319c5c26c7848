-- What a printer does, in code's terms: a buffer and the code's state, before and after. Assumes nothing: these are definitions.
use Rattle.std.specs.Prelude.{Option, Some, None, Ok, Err, ℕ, zero, suc, ◌+◌, ◌-◌, List, Bool, true, false, ◌||◌, ◌≡◌, length, leb, max}
use Rattle.printer.specs.Over.{over}
use Rattle.printer.specs.Says.{U, Res, ok, bad, Says, stop}
use Rattle.pieces.specs.Piece.{Piece, render}
use Rattle.printer.specs.declared.state.Status.{Status}
use Rattle.printer.specs.declared.state.Status.TheVariants.{Going as IsGoing, Invalid, RecursedTooDeep, Full, Other}
use Rattle.printer.specs.declared.state.State as Code
use Rattle.printer.specs.declared.state.Printer.{Printer}
use Rattle.pieces.specs.Laid.{Put}
use Rattle.pieces.specs.declared.mode.Mode.{Mode}

-- where the printer stands, and what has become of the buffer
pub record State : Type 0 where
  pub place : ℕ
  pub error : ℕ
  pub damaged : Bool
  pub written : ℕ
  pub full : Bool

-- the error as the model numbers it: none, Invalid, RecursedTooDeep, or another from 4 on; a full buffer has none
abbrev pub code_of : Status → ℕ
code_of IsGoing = 0
code_of Invalid = 1
code_of RecursedTooDeep = 2
code_of Full = 0
code_of (Other n) = max n 4

abbrev pub filled : Status → Bool
filled IsGoing = false
filled Invalid = false
filled RecursedTooDeep = false
filled Full = true
filled (Other n) = false

-- the code's state
abbrev pub state_of : Code.State → State
state_of s = record { place = s.place; error = code_of s.status; damaged = s.damaged; written = s.written; full = filled s.status }

-- with nothing written
abbrev pub fresh : ℕ → State
fresh i = record { place = i; error = 0; damaged = false; written = 0; full = false }

-- with an error set, or full
abbrev pub halts : Status → Bool
halts IsGoing = false
halts Invalid = true
halts RecursedTooDeep = true
halts Full = true
halts (Other n) = true

pub record World : Type 0 where
  pub buf : List ℕ
  pub st : State

abbrev pub world : List ℕ → State → World
world b s = record { buf = b; st = s }

-- a world, and a value
pub record Out (A : Type 0) : Type 0 where
  pub value : A
  pub world : World

abbrev pub out : {A : Type 0} → A → World → Out A
out v w = record { value = v; world = w }

-- a printer's buffer and state; with what a function answers
abbrev pub at : Printer → World
at p = world p.out.now (state_of p.st)

abbrev pub given : {A : Type 0} → A → Printer → Out A
given v p = out v (at p)

-- with no error and room
pub record Going (s : State) : Type 0 where
  pub room : s.full ≡ false
  pub none : s.error ≡ 0

-- the parts of a result; the error as the code numbers it
abbrev pub value_of : {A : Type 0} → Res A → A
value_of (ok a j d o) = a
value_of (bad a x j d o) = a

abbrev pub place_of : {A : Type 0} → Res A → ℕ
place_of (ok a j d o) = j
place_of (bad a x j d o) = j

abbrev pub error_of : {A : Type 0} → Res A → ℕ
error_of (ok a j d o) = 0
error_of (bad a x j d o) = suc x

abbrev pub damage_of : {A : Type 0} → Res A → Bool
damage_of (ok a j d o) = d
damage_of (bad a x j d o) = d

abbrev pub pieces_of : {A : Type 0} → Res A → List Piece
pieces_of (ok a j d o) = o
pieces_of (bad a x j d o) = o

-- from a place, with the code's error set or none
unfoldable pub doing : {A : Type 0} → Says A → ℕ → ℕ → Res A
doing a p zero = a.run p
doing a p (suc x) = stop a x p

-- the state of a buffer that is full says nothing else
abbrev pub full_state : State
full_state = record { place = 0; error = 0; damaged = false; written = 0; full = true }

abbrev pub fitted : {A : Type 0} → Bool → A → A → A
fitted true a b = a
fitted false a b = b

abbrev pub text : {A : Type 0} → Option Mode → Res A → List ℕ
text mode r = render mode (pieces_of r)

abbrev pub laid : {A : Type 0} → A → Option Mode → List ℕ → ℕ → Bool → Res A → Out A
laid z mode b n d r =
    record {
      value = fitted (leb (length (text mode r)) (length b - n)) (value_of r) z;
      world =
          record {
            buf = over b n (text mode r);
            st =
                fitted (leb (length (text mode r)) (length b - n))
                (record { place = place_of r; error = error_of r; damaged = d || damage_of r; written = n + length (text mode r); full = false })
                full_state;
          };
    }

abbrev pub lays_on : {A : Type 0} → Bool → A → Option Mode → Says A → World → Out A
lays_on true z mode a w = record { value = z; world = w }
lays_on false z mode a w = laid z mode w.buf w.st.written w.st.damaged (doing a w.st.place w.st.error)

-- what a is, done to a buffer: its text laid from `written` on, its state after and its value, unless the buffer is full: then z
unfoldable pub lays : {A : Type 0} → A → Option Mode → Says A → World → Out A
lays z mode a w = lays_on w.st.full z mode a w

unfoldable pub lay : Option Mode → Says U → World → World
unfolding lays
lay mode a w = (lays tt mode a w).world

abbrev pub moved_to : ℕ → State → State
moved_to p s = record { place = p; error = s.error; damaged = s.damaged; written = s.written; full = s.full }

abbrev pub is_error : ℕ → Bool
is_error zero = false
is_error (suc x) = true

abbrev pub back_on : Bool → ℕ → State → State
back_on true p s = s
back_on false p s = record { place = p; error = 0; damaged = s.damaged || is_error s.error; written = s.written; full = false }

abbrev pub back_to : ℕ → State → State
back_to p s = back_on s.full p s

abbrev pub hurt_at : ℕ → State → State
hurt_at p s = record { place = p; error = 0; damaged = true; written = s.written; full = false }

abbrev pub failed_at : ℕ → State → State
failed_at x s = record { place = s.place; error = x; damaged = s.damaged; written = s.written; full = s.full }

abbrev pub advanced_by : ℕ → State → State
advanced_by n s = record { place = s.place; error = s.error; damaged = s.damaged; written = s.written + n; full = s.full }

-- after a piece: what a writer answered
abbrev pub sum_of : Put → State → ℕ
sum_of (Ok n) s = s.written + n
sum_of (Err e) s = 0

abbrev pub settled_by : Put → State → State
settled_by (Ok n) s = advanced_by n s
settled_by (Err e) s = full_state

-- what is off follows no back reference and looks no lifetime up
abbrev pub follows : Option Mode → Bool
follows None = false
follows (Some m) = true
