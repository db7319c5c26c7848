-- A row of document 01 as numbers for C. Assumes nothing: these are definitions.
use Rattle.std.specs.Prelude.{Bool, true, false, List, [], ◌∷◌, ℕ, zero, suc}
use Rattle.printer.specs.Over.{over}
use Rattle.demangle.specs.Rows.{Told, whole, damaged, unknown, Row}
use Rattle.pieces.specs.declared.mode.Mode.{Mode}
use Rattle.pieces.specs.declared.mode.Mode.TheVariants.{Plain, Short}

-- 0 is plain, any other number short
unfoldable pub mode_by : ℕ → Mode
mode_by zero = Plain
mode_by (suc n) = Short

-- the states' numbers
unfoldable pub state_number : Told → ℕ
state_number unknown = 0
state_number whole = 1
state_number damaged = 2

unfoldable pub state_by : Bool → ℕ
state_by true = 1
state_by false = 2

-- the number that is answered, the buffer and the report after the call
pub record Reported : Type 0 where
  pub number : ℕ
  pub buffer : List ℕ
  pub report : List ℕ

abbrev pub reported : ℕ → List ℕ → List ℕ → Reported
reported n b r = record { number = n; buffer = b; report = r }

-- of a row, in a report r: length and state stand at its front, as far as it has room
unfoldable pub given : List ℕ → Row → Reported
given r q = reported q.number q.buffer (over r 0 (q.length ∷ state_number q.state ∷ []))
