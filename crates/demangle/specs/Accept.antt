-- Which symbols are accepted, and where their reading ends: document 01's order of refusals. Assumes nothing: these are definitions.
use Rattle.std.specs.Prelude.{Option, Some, None, Result, Ok, Err, Bool, true, false, ◌&&◌, List, [], ◌∷◌, ℕ, zero, suc, eqb, leb, ltb, length, drop, get_or}
use Rattle.parser.specs.Digits.{if-then}
use Rattle.printer.specs.Says.{U, Res, ok, bad}
use Rattle.printer.specs.Model.{level}
use Rattle.demangle.specs.declared.refusal.Refusal.{Refusal}
use Rattle.demangle.specs.declared.refusal.Refusal.TheVariants.{Invalid, RecursedTooDeep, TooLong}

-- how far a reading came, a place behind the prefix; and of a symbol how many bytes its prefix has, and how many were read behind it
abbrev pub Reached : Type 0
Reached = Result ℕ Refusal

abbrev pub Verdict : Type 0
Verdict = Result (ℕ × ℕ) Refusal

-- how many bytes a symbol may have, and how many levels a reading may count
abbrev pub most : ℕ
most = 4096

abbrev pub levels : ℕ
levels = 500

-- whether bytes stand at the front
unfoldable pub starts : List ℕ → List ℕ → Bool
starts [] s = true
starts (p ∷ ps) [] = false
starts (p ∷ ps) (x ∷ s) = if-then (eqb x p) (starts ps s) false

-- the length of the prefix `R`, `_R` or `__R`, where one of them is there
unfoldable pub prefix_of : List ℕ → Option ℕ
prefix_of s =
    if-then (starts (82 ∷ []) s) (Some 1)
    (if-then (starts (95 ∷ 82 ∷ []) s) (Some 2)
    (if-then (starts (95 ∷ 95 ∷ 82 ∷ []) s) (Some 3) None))

-- `A` to `Z`
unfoldable pub is_upper : ℕ → Bool
is_upper c = leb 65 c && leb c 90

unfoldable pub all_ascii : List ℕ → Bool
all_ascii [] = true
all_ascii (c ∷ s) = ltb c 128 && all_ascii s

-- a path read from a place with all levels left; nothing is followed or printed
abbrev pub reached_of : Res U → Reached
reached_of (ok a j d o) = Ok j
reached_of (bad a zero j d o) = Err Invalid
reached_of (bad a (suc x) j d o) = Err RecursedTooDeep

unfoldable pub path_at : List ℕ → ℕ → Reached
path_at s i = reached_of (((level s levels).path false false 0).run i)

-- behind the first path: a second one, where an upper-case letter stands there
unfoldable pub second_at : List ℕ → ℕ → Reached
second_at s i = if-then (is_upper (get_or s i 0)) (path_at s i) (Ok i)

unfoldable pub behind_at : List ℕ → Reached → Reached
behind_at s (Ok i) = second_at s i
behind_at s (Err e) = Err e

-- what stands behind the prefix: an upper-case letter first, and ASCII all of it
unfoldable pub reading_of : List ℕ → Reached
reading_of s = if-then (is_upper (get_or s 0 0) && all_ascii s) (behind_at s (path_at s 0)) (Err Invalid)

-- a prefix of k bytes, and a reading behind it
unfoldable pub verdict_by : ℕ → Reached → Verdict
verdict_by k (Ok i) = Ok (k, i)
verdict_by k (Err e) = Err e

unfoldable pub verdict_at : List ℕ → Option ℕ → Verdict
verdict_at s (Some k) = verdict_by k (reading_of (drop k s))
verdict_at s None = Err Invalid

unfoldable pub verdict_of : List ℕ → Verdict
verdict_of s = if-then (ltb most (length s)) (Err TooLong) (verdict_at s (prefix_of s))
