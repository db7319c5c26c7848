-- What the steps of `decode` answer, as parts of the decoding procedure. Assumes nothing: these are definitions.
use Rattle.std.specs.Prelude.{Option, Some, None, List, ℕ, ◌^◌, ltb, drop}
use Rattle.parser.specs.Digits.{if-then}
use Rattle.punycode.specs.Decode.{base, delta_of, Delta, read, unread, Turn, turn, no_turn}
use Rattle.punycode.specs.declared.spell.Step.{Step}

-- what counts below the base is a digit
unfoldable pub as_digit : ℕ → Option ℕ
as_digit d = if-then (ltb d base) (Some d) None

-- the delta at a place
abbrev pub delta_at : ℕ → List ℕ → ℕ → Delta
delta_at bias name at = delta_of bias base 1 (drop at name)

-- a delta that is read stays below this; none that is larger leads to a Unicode scalar value (`limit-refuses-nothing`)
abbrev pub limit : ℕ
limit = 2 ^ 32

unfoldable pub limited : Delta → Delta
limited (read v rest) = if-then (ltb v limit) (read v rest) unread
limited unread = unread

-- every bias stays below this (`adapted-small`)
abbrev pub bias-limit : ℕ
bias-limit = 2 ^ 34

-- an answer's next place stands for the text from there on
unfoldable pub as_delta : List ℕ → Option (ℕ × ℕ) → Delta
as_delta name (Some (v, next)) = read v (drop next name)
as_delta name None = unread

unfoldable pub as_turn : List ℕ → Option Step → Turn
as_turn name (Some s) = turn s.value s.place s.bias (drop s.next name)
as_turn name None = no_turn
