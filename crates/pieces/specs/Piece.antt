-- What is printed, before the mode is known, and its text by mode. Assumes nothing: these are definitions.
use Rattle.std.specs.Prelude.{Bool, true, false, List, [], ◌∷◌, ◌++◌, ℕ, eqb, Option, Some, None}
use Rattle.parser.specs.Digits.{if-then}
use Rattle.pieces.specs.declared.mode.Mode.{Mode}
use Rattle.pieces.specs.declared.mode.Mode.TheVariants.{Plain, Short}
use Rattle.pieces.specs.declared.words.Word.{Word}
use Rattle.pieces.specs.Words.{word_at}
use Rattle.pieces.specs.Numeral.{decimal, hash_text, life_text}
use Rattle.pieces.specs.Basic.{basic_name}
use Rattle.pieces.specs.Quoted.{quoted}
use Rattle.pieces.specs.Names.{name_text, abi_text}

pub data Piece : Type 0 where
  -- a fixed word; a letter; bytes of the symbol as they are; an ABI's name
  word : Word → Piece
  letter : ℕ → Piece
  run abi : List ℕ → Piece
  -- an identifier: how many of its bytes are its ASCII part, where its Punycode starts, and its bytes
  name : ℕ → ℕ → List ℕ → Piece
  -- a number in decimal; a crate's number; a lifetime by its depth
  number hash life : ℕ → Piece
  -- a basic type by its letter; and as the type of an integer
  basic kind : ℕ → Piece
  -- characters between quotes
  quote : ℕ → List ℕ → Piece

-- shown only where the text is not short
abbrev pub unless : Bool → List ℕ → List ℕ
unless true t = []
unless false t = t

-- the text of a piece: short or plain. A crate's number 0 is never shown
unfoldable pub spell : Bool → Piece → List ℕ
spell short (word w) = word_at w
spell short (letter b) = b ∷ []
spell short (run t) = t
spell short (abi t) = abi_text t
spell short (name a c t) = name_text a c t
spell short (number n) = decimal n
spell short (hash n) = unless short (if-then (eqb n 0) [] (hash_text n))
spell short (life d) = life_text d
spell short (basic c) = basic_name c
spell short (kind c) = unless short (basic_name c)
spell short (quote q cs) = quoted q cs

unfoldable pub spelled : Bool → List Piece → List ℕ
unfolding spell
spelled short [] = []
spelled short (p ∷ ps) = spell short p ++ spelled short ps

abbrev pub is_short : Mode → Bool
is_short Plain = false
is_short Short = true

-- the text in a mode; without one nothing is printed
unfoldable pub render : Option Mode → List Piece → List ℕ
unfolding spelled
render None ps = []
render (Some m) ps = spelled (is_short m) ps
