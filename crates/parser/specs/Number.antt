-- The number readers' answers at a place. Assumes nothing: these are definitions.
use Rattle.std.specs.Prelude.{Option, Some, None, Result, Ok, Err, List, [], ◌∷◌, ℕ, zero, suc, ◌+◌, ◌-◌, ◌^◌, ltb, eqb, length, drop, get_or}
use Rattle.parser.specs.Digits.{digits, value, if-then}
use Rattle.parser.specs.Bytes.{read, past}

-- the first of the digits, if there is one
unfoldable pub first_digit : List ℕ → ℕ → Option (ℕ × ℕ)
first_digit [] at = None
first_digit (d ∷ ds) at = read d (at + 1)

unfoldable pub digit_at : ℕ → List ℕ → ℕ → Option (ℕ × ℕ)
digit_at b s at = first_digit (digits b (drop at s)) at

-- a number that fits 64 bits, and one that does not
abbrev pub fits : ℕ → ℕ → Result (ℕ × ℕ) ℕ
fits v next = Ok (v, next)

abbrev pub over : ℕ → Result (ℕ × ℕ) ℕ
over next = Err next

-- the digits at a place: their value where it fits 64 bits, and in both cases the place after them
abbrev pub run_of : ℕ → List ℕ → ℕ → Result (ℕ × ℕ) ℕ
run_of b ds at = if-then (ltb (value b ds) (2 ^ 64)) (fits (value b ds) (at + length ds)) (over (at + length ds))

unfoldable pub number_at : ℕ → List ℕ → ℕ → Result (ℕ × ℕ) ℕ
number_at b s at = run_of b (digits b (drop at s)) at

-- a number, where it fits 64 bits, and the next place
unfoldable pub small : ℕ → ℕ → Option (ℕ × ℕ)
small v next = if-then (ltb v (2 ^ 64)) (read v next) None

-- a base-62 number (RFC 2603): `_` alone is 0; otherwise the digits before the `_` are read in base 62, and one is added
unfoldable pub counted : List ℕ → ℕ
counted [] = 0
counted (d ∷ ds) = value 62 (d ∷ ds) + 1

unfoldable pub integer62 : List ℕ → ℕ → Option (ℕ × ℕ)
integer62 s at =
    let ds : List ℕ = digits 62 (drop at s) in
    let e : ℕ = at + length ds in
    if-then (eqb (get_or s e 0) 95) (small (counted ds) (e + 1)) None

-- one more
unfoldable pub raised : Option (ℕ × ℕ) → Option (ℕ × ℕ)
raised (Some (v, next)) = small (v + 1) next
raised None = None

-- an optional number: 0 where its tag is absent, else one more than the number behind the tag
unfoldable pub optional62 : ℕ → List ℕ → ℕ → Option (ℕ × ℕ)
optional62 tag s at = if-then (eqb (past tag s at) at) (read 0 at) (raised (integer62 s (past tag s at)))

-- a number in decimal: no digit is none, and a first digit 0 ends it
unfoldable pub decimal : List ℕ → ℕ → Option (ℕ × ℕ)
decimal [] at = None
decimal (zero ∷ ds) at = read 0 (at + 1)
decimal (suc d ∷ ds) at = small (value 10 (suc d ∷ ds)) (at + length (suc d ∷ ds))

unfoldable pub length10 : List ℕ → ℕ → Option (ℕ × ℕ)
length10 s at = decimal (digits 10 (drop at s)) at

-- hex nibbles, any number of them, up to a `_`
unfoldable pub hex_at : List ℕ → ℕ → Option (ℕ × ℕ)
hex_at s at =
    let e : ℕ = at + length (digits 16 (drop at s)) in
    if-then (eqb (get_or s e 0) 95) (read e (e + 1)) None

-- a back reference, behind its tag: it leads to a place before the tag's
unfoldable pub below : ℕ → Option (ℕ × ℕ) → Option (ℕ × ℕ)
below from (Some (v, next)) = if-then (ltb v from) (read v next) None
below from None = None

unfoldable pub back_at : List ℕ → ℕ → Option (ℕ × ℕ)
back_at s at = below (at - 1) (integer62 s at)
