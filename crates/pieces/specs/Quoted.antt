-- Quoted text, as document 01 has it. Assumes nothing: these are definitions.
use Rattle.std.specs.Prelude.{List, [], ◌∷◌, ◌++◌, ℕ, ltb, leb, eqb}
use Rattle.parser.specs.Digits.{if-then}
use Rattle.nibbles.specs.Utf8.{Text, text, no_text}
use Rattle.nibbles.specs.Chars.{text_of}
use Rattle.pieces.specs.Numeral.{hexadecimal}

abbrev pub backslash : ℕ → List ℕ
backslash b = 92 ∷ b ∷ []

-- `\u{..}` with as many hex digits as needed
unfoldable pub unicode : ℕ → List ℕ
unicode c = (92 ∷ 117 ∷ 123 ∷ []) ++ (hexadecimal c ++ (125 ∷ []))

-- a character with no escape letter: printable ASCII is itself
unfoldable pub other : ℕ → List ℕ
other c = if-then (ltb c 32) (unicode c) (if-then (leb 127 c) (unicode c) (c ∷ []))

-- a character that is not the quote: `\0 \t \n \r \\` have a letter
unfoldable pub unquoted : ℕ → List ℕ
unquoted c =
    if-then (eqb c 0) (backslash 48)
    (if-then (eqb c 9) (backslash 116)
    (if-then (eqb c 10) (backslash 110)
    (if-then (eqb c 13) (backslash 114)
    (if-then (eqb c 92) (backslash 92) (other c)))))

-- ONE character inside quotes: the enclosing quote is escaped too
unfoldable pub escaped : ℕ → ℕ → List ℕ
escaped quote c = if-then (eqb c quote) (backslash quote) (unquoted c)

unfoldable pub escaped_all : ℕ → List ℕ → List ℕ
escaped_all quote [] = []
escaped_all quote (c ∷ cs) = escaped quote c ++ escaped_all quote cs

unfoldable pub quoted : ℕ → List ℕ → List ℕ
quoted quote cs = (quote ∷ []) ++ (escaped_all quote cs ++ (quote ∷ []))

-- the characters that a text of nibbles spells
abbrev pub chars_in : Text → List ℕ
chars_in (text cs) = cs
chars_in no_text = []

unfoldable pub chars_of : List ℕ → List ℕ
chars_of s = chars_in (text_of s)
