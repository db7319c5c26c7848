-- Single bytes at a place. Assumes nothing: these are definitions.
use Rattle.std.specs.Prelude.{Option, Some, None, List, [], ◌∷◌, ℕ, ◌+◌, eqb, drop}
use Rattle.parser.specs.Digits.{if-then, within}

-- a reading: a value, and the next place
abbrev pub read : {A : Type 0} → A → ℕ → Option (A × ℕ)
read v next = Some (v, next)

-- past a byte b, where the text that is left starts with it
unfoldable pub past_first : ℕ → List ℕ → ℕ → ℕ
past_first b [] at = at
past_first b (c ∷ cs) at = if-then (eqb c b) (at + 1) at

unfoldable pub past : ℕ → List ℕ → ℕ → ℕ
past b s at = past_first b (drop at s) at

-- the first byte of the text that is left
unfoldable pub first_byte : List ℕ → ℕ → Option (ℕ × ℕ)
first_byte [] at = None
first_byte (c ∷ cs) at = read c (at + 1)

unfoldable pub byte_at : List ℕ → ℕ → Option (ℕ × ℕ)
byte_at s at = first_byte (drop at s) at

-- a namespace: `A`-`Z` is special, `a`-`z` is not
unfoldable pub space_of : Option (ℕ × ℕ) → Option (Option ℕ × ℕ)
space_of (Some (c, next)) = within 65 90 c (read (Some c) next) (within 97 122 c (read None next) None)
space_of None = None

unfoldable pub space_at : List ℕ → ℕ → Option (Option ℕ × ℕ)
space_at s at = space_of (byte_at s at)
