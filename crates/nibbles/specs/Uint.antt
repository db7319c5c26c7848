-- The value of hex nibbles at a place. Assumes nothing: these are definitions.
use Rattle.std.specs.Prelude.{List, [], ◌∷◌, ℕ, zero, suc, ◌+◌, leb, eqb, length, drop, get_or, Option, Some, None}
use Rattle.parser.specs.Digits.{digits, value, if-then}
use Rattle.nibbles.specs.declared.uint.Hex.{Hex}
use Rattle.nibbles.specs.declared.uint.Hex.TheVariants.{Small, Big}

-- without leading zeros
unfoldable pub trim : List ℕ → List ℕ
trim [] = []
trim (zero ∷ ds) = trim ds
trim (suc d ∷ ds) = suc d ∷ ds

-- nibbles up to a `_`, and the next place: none left is 0, at most sixteen left have a value, and more do not fit
unfoldable pub hex_value : List ℕ → ℕ → Option (Hex × ℕ)
hex_value s at =
    let ds : List ℕ = digits 16 (drop at s) in
    let e : ℕ = at + length ds in
    if-then (eqb (get_or s e 0) 95)
    (if-then (leb (length (trim ds)) 16) (Some (Small (value 16 (trim ds)), e + 1)) (Some (Big e, e + 1)))
    None
