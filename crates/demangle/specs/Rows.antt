-- Document 01's rows: the number and the values of each answer, which row a call must meet, and what the buffer holds afterwards.
-- Assumes nothing: these are definitions.
use Rattle.std.specs.Prelude.{Some, Result, Ok, Err, Bool, true, false, not, List, ℕ, ◌+◌, leb, length, drop, codes}
use Rattle.parser.specs.Digits.{if-then}
use Rattle.pieces.specs.Piece.{render}
use Rattle.pieces.specs.declared.mode.Mode.{Mode}
use Rattle.printer.specs.Says.{U, Res, ok, bad}
use Rattle.printer.specs.Lay.{pieces_of}
use Rattle.printer.specs.Model.{level}
use Rattle.printer.specs.Over.{over}
use Rattle.demangle.specs.Accept.{Verdict, levels, verdict_of}
use Rattle.demangle.specs.declared.refusal.Refusal.{Refusal}
use Rattle.demangle.specs.declared.refusal.Refusal.TheVariants.{Invalid, RecursedTooDeep, TooLong, NoRoom}
use Rattle.demangle.specs.declared.print.Printed.{Printed}

-- ---- the check: an answer's number, and the number that a symbol's must have
unfoldable pub refusal_number : Refusal → ℕ
refusal_number Invalid = 1
refusal_number RecursedTooDeep = 2
refusal_number TooLong = 3
refusal_number NoRoom = 4

-- how a refusal is named in a text
abbrev pub refusal_name : Refusal → List ℕ
refusal_name Invalid = codes "Invalid"
refusal_name RecursedTooDeep = codes "RecursedTooDeep"
refusal_name TooLong = codes "TooLong"
refusal_name NoRoom = codes "NoRoom"

unfoldable pub check_number : Result U Refusal → ℕ
check_number (Ok u) = 0
check_number (Err e) = refusal_number e

unfoldable pub number_by : Verdict → ℕ
number_by (Ok v) = 0
number_by (Err Invalid) = 1
number_by (Err RecursedTooDeep) = 2
number_by (Err TooLong) = 3
number_by (Err NoRoom) = 4

unfoldable pub number_of : List ℕ → ℕ
number_of s = number_by (verdict_of s)

-- ---- the suffix: behind what was read; with a refusal it is empty, at the symbol's end
unfoldable pub suffix_by : List ℕ → Verdict → ℕ
suffix_by s (Ok (k, i)) = k + i
suffix_by s (Err e) = length s

unfoldable pub suffix_from : List ℕ → ℕ
suffix_from s = suffix_by s (verdict_of s)

-- ---- the print: a row has a number, a length, a state, and what the buffer holds afterwards
pub data Told : Type 0 where
  whole : Told
  damaged : Told
  unknown : Told

pub record Row : Type 0 where
  pub number : ℕ
  pub length : ℕ
  pub state : Told
  pub buffer : List ℕ

abbrev pub row : ℕ → ℕ → Told → List ℕ → Row
row n l t b = record { number = n; length = l; state = t; buffer = b }

-- an answer's values, with the buffer as the call left it
unfoldable pub answer : Result Printed Refusal → List ℕ → Row
answer (Ok t) b = row 0 t.length (if-then t.whole whole damaged) b
answer (Err Invalid) b = row 1 0 unknown b
answer (Err RecursedTooDeep) b = row 2 0 unknown b
answer (Err TooLong) b = row 3 0 unknown b
answer (Err NoRoom) b = row 4 (length b) unknown b

-- the first path behind the prefix as the printer reads it: a value's path, targets followed and lifetimes looked up
unfoldable pub first_path : List ℕ → Res U
first_path s = ((level s levels).path true true 0).run 0

unfoldable pub text_of : Mode → List ℕ → List ℕ
text_of mode s = render (Some mode) (pieces_of (first_path s))

-- whole: no error, and no target damaged
abbrev pub soundly : Res U → Bool
soundly (ok a j d o) = not d
soundly (bad a x j d o) = false

-- row 0 where the text fits, row 4 where it is longer. It stands at the front, to the buffer's end if it is longer; bytes past it stay
unfoldable pub shown : Mode → List ℕ → List ℕ → Row
shown mode s b =
    if-then (leb (length (text_of mode s)) (length b))
    (row 0 (length (text_of mode s)) (if-then (soundly (first_path s)) whole damaged) (over b 0 (text_of mode s)))
    (row 4 (length b) unknown (over b 0 (text_of mode s)))

-- rows 1 to 3 leave the buffer b as it was; no verdict is NoRoom (`never-full` in proofs/WithinLaws.antt)
unfoldable pub row_by : Mode → List ℕ → List ℕ → Verdict → Row
row_by mode s b (Ok (k, i)) = shown mode (drop k s) b
row_by mode s b (Err Invalid) = row 1 0 unknown b
row_by mode s b (Err RecursedTooDeep) = row 2 0 unknown b
row_by mode s b (Err TooLong) = row 3 0 unknown b
row_by mode s b (Err NoRoom) = row 4 (length b) unknown b

unfoldable pub row_of : Mode → List ℕ → List ℕ → Row
row_of mode s b = row_by mode s b (verdict_of s)
