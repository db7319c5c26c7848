-- Numbers in text: decimal, hexadecimal, a crate's number, and lifetimes by their depth. Assumes nothing: these are definitions.
use Rattle.std.specs.Prelude.{true, false, List, [], ◌∷◌, ◌++◌, map, ℕ, zero, suc, ◌+◌, ◌/◌, ◌%◌, ltb}
use Rattle.parser.specs.Digits.{if-then}

-- n's digits in a base from 2 on, the most significant first, without leading zeros: those of the quotient, then the remainder. The
-- first number bounds how many; `elim` computes only the branch that is taken
unfoldable pub numeral_in : ℕ → ℕ → ℕ → List ℕ
numeral_in zero b n = []
numeral_in (suc f) b n = elim (ltb n b) [ true ↦ n ∷ [] | false ↦ numeral_in f b (n / b) ++ (n % b ∷ []) ]

unfoldable pub numeral : ℕ → ℕ → List ℕ
numeral b n = numeral_in (suc n) b n

-- n in decimal, in ASCII
unfoldable pub decimal : ℕ → List ℕ
decimal n = map (λ (d : ℕ). 48 + d) (numeral 10 n)

-- a digit below 16 in ASCII, and n in hexadecimal, in lower case
unfoldable pub hex_digit : ℕ → ℕ
hex_digit d = if-then (ltb d 10) (48 + d) (87 + d)

unfoldable pub hexadecimal : ℕ → List ℕ
hexadecimal n = map hex_digit (numeral 16 n)

-- a crate's number: in hexadecimal, between brackets
unfoldable pub hash_text : ℕ → List ℕ
hash_text v = (91 ∷ []) ++ (hexadecimal v ++ (93 ∷ []))

-- a lifetime by its depth: a letter below 26, `_` and the depth in decimal from there on
unfoldable pub depth_text : ℕ → List ℕ
depth_text d = if-then (ltb d 26) ((97 + d) ∷ []) ((95 ∷ []) ++ decimal d)

unfoldable pub life_text : ℕ → List ℕ
life_text d = (39 ∷ []) ++ depth_text d
