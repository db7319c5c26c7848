-- What the private readers answer, a byte at a time: `char_at` does not rest on these. Assumes nothing: these are definitions.
use Rattle.std.specs.Prelude.{List, [], ◌∷◌, ℕ, zero, suc, ◌+◌, ◌-◌, ◌*◌, ltb, drop, Option, Some, None}
use Rattle.parser.specs.Digits.{if-then, within}
use Rattle.parser.specs.Scalar.{is_scalar}
use Rattle.nibbles.specs.Utf8.{first}
use Rattle.nibbles.specs.Chars.{octets, found}

-- the first byte, if there is one
abbrev pub octet_in : List ℕ → Option ℕ
octet_in [] = None
octet_in (b ∷ bs) = Some b

unfoldable pub octet_at : List ℕ → ℕ → Option ℕ
octet_at s at = octet_in (octets (drop at s))

-- a value with the six bits of a continuation byte behind it, if one comes first
unfoldable pub more_in : ℕ → List ℕ → Option ℕ
more_in v [] = None
more_in v (b ∷ bs) = within 0x80 0xBF b (Some (v * 64 + (b - 0x80))) None

unfoldable pub more_at : ℕ → List ℕ → ℕ → Option ℕ
more_at v s at = more_in v (octets (drop at s))

-- a value whose bytes are all read: no less than its form allows, and a scalar
unfoldable pub settled_of : ℕ → ℕ → ℕ → Option (ℕ × ℕ)
settled_of low v next = if-then (ltb v low) None (if-then (is_scalar v) (Some (v, next)) None)

-- a value of which k continuation bytes are left
unfoldable pub tail_in : ℕ → ℕ → ℕ → List ℕ → ℕ → Option (ℕ × ℕ)
tail_in zero low v bs at = settled_of low v at
tail_in (suc k) low v [] at = None
tail_in (suc k) low v (b ∷ bs) at = within 0x80 0xBF b (tail_in k low (v * 64 + (b - 0x80)) bs (at + 2)) None

unfoldable pub tail_at : ℕ → ℕ → ℕ → List ℕ → ℕ → Option (ℕ × ℕ)
tail_at k low v s at = tail_in k low v (octets (drop at s)) at

-- the first character at a place
unfoldable pub first_at : List ℕ → ℕ → Option (ℕ × ℕ)
first_at s at = found (first (octets (drop at s))) at
