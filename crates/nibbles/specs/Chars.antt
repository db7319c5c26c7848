-- UTF-8 in pairs of hex nibbles: the bytes that a text spells, the character at a place, and the whole as characters. Assumes nothing: these are definitions.
use Rattle.std.specs.Prelude.{Bool, true, false, List, [], ◌∷◌, ℕ, ◌+◌, ◌*◌, ◌<◌, ltb, eqb, length, drop, Option, Some, None, Result, Ok, Err}
use Rattle.parser.specs.Digits.{if-then, digit_of}
use Rattle.nibbles.specs.Utf8.{utf8, First, one, none, first, Text, text, no_text, decode}
use Rattle.nibbles.specs.declared.text.NotText.{NotText}

-- pairs of nibbles that spell bytes, the first nibble of a pair the greater half. An upper-case letter is no nibble: it counts from 36
pub data Spells : List ℕ → List ℕ → Type 0 where
  empty : Spells [] []
  pair : {h l : ℕ} {s bytes : List ℕ} → digit_of h < 16 → digit_of l < 16 → Spells s bytes → Spells (h ∷ l ∷ s) ((digit_of h * 16 + digit_of l) ∷ bytes)

-- the bytes that the pairs of nibbles at the front of a text spell, as far as they go
unfoldable pub octets : List ℕ → List ℕ
octets [] = []
octets (h ∷ []) = []
octets (h ∷ l ∷ s) = if-then (ltb (digit_of h) 16) (if-then (ltb (digit_of l) 16) ((digit_of h * 16 + digit_of l) ∷ octets s) []) []

-- the pairs go to the end of the text
abbrev pub paired : List ℕ → Bool
paired s = eqb (2 * length (octets s)) (length s)

-- a character and the next place: two nibbles a byte
abbrev pub found : First → ℕ → Option (ℕ × ℕ)
found (one c rest) at = Some (c, at + 2 * length (utf8 c))
found none at = None

-- what `char_at` answers: a character and the next place, or `Ok None`, the end of the text, or `Err`, no character
abbrev pub Char : Type 0
Char = Result (Option (ℕ × ℕ)) NotText

abbrev pub no_char : Char
no_char = Err (record {})

abbrev pub char_of : Option (ℕ × ℕ) → Char
char_of (Some p) = Ok (Some p)
char_of None = no_char

abbrev pub char_in : List ℕ → ℕ → Char
char_in [] at = Ok None
char_in (b ∷ s) at = char_of (found (first (octets (b ∷ s))) at)

-- the character at a place and the next place
unfoldable pub char_at : List ℕ → ℕ → Char
char_at s at = char_in (drop at s) at

-- the whole text as characters: pairs of nibbles to the end, and their bytes well formed
unfoldable pub text_of : List ℕ → Text
text_of s = if-then (paired s) (decode (octets s)) no_text

abbrev pub is_some : Text → Bool
is_some (text cs) = true
is_some no_text = false

unfoldable pub is_text : List ℕ → Bool
is_text s = is_some (text_of s)
