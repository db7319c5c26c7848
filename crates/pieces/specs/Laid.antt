-- A text written at the front of a lent buffer that may be too short. Assumes nothing: these are definitions.
use Rattle.std.specs.Prelude.{◌≡◌, List, [], ◌∷◌, ℕ, leb, length, Result, Ok, Err}
use Rattle.parser.specs.Digits.{if-then}
use Rattle.pieces.specs.declared.put.NoRoom.{NoRoom}

-- the buffer with the text over its first bytes, as far as it goes
unfoldable pub laid : List ℕ → List ℕ → List ℕ
laid [] d = d
laid (x ∷ t) [] = []
laid (x ∷ t) (y ∷ d) = x ∷ laid t d

-- what a writer answers: how many bytes it wrote, or that there is no room
abbrev pub Put : Type 0
Put = Result ℕ NoRoom

abbrev pub no_room : NoRoom
no_room = record {}

-- the text's length where it fits
unfoldable pub room : ℕ → ℕ → Put
room n m = if-then (leb n m) (Ok n) (Err no_room)

-- what a writer of the text t leaves and answers
pub record Wrote (t before after : List ℕ) (r : Put) : Type 0 where
  pub left : after ≡ laid t before
  pub said : r ≡ room (length t) (length before)
