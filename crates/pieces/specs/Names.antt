-- Identifiers in text. Assumes nothing: these are definitions.
use Rattle.std.specs.Prelude.{List, [], ◌∷◌, ◌++◌, map, ℕ, leb, eqb, length, take, drop}
use Rattle.parser.specs.Digits.{if-then}
use Rattle.punycode.specs.Decode.{Spelt, spelt, long, broken}
use Rattle.punycode.specs.Answer.{decoded}
use Rattle.nibbles.specs.Utf8.{encoded}
use Rattle.pieces.specs.Words.{ascii}

-- the ASCII part and `-`, where there is one
unfoldable pub basic_part : List ℕ → List ℕ
basic_part [] = []
basic_part (c ∷ cs) = (c ∷ cs) ++ (45 ∷ [])

-- standard Punycode, in `punycode{..}`
unfoldable pub parts : List ℕ → List ℕ → List ℕ
parts basic code = basic_part basic ++ (code ++ (125 ∷ []))

unfoldable pub raw_name : List ℕ → List ℕ → List ℕ
raw_name basic code = ascii "punycode{" ++ parts basic code

unfoldable pub shown_name : Spelt → List ℕ → List ℕ → List ℕ
shown_name (spelt cs) basic code = encoded cs
shown_name long basic code = raw_name basic code
shown_name broken basic code = raw_name basic code

-- an identifier's bytes, of which the first `ascii` are its ASCII part and those from `code` on its Punycode: without Punycode the
-- ASCII part; else its characters in UTF-8, or the raw form
unfoldable pub name_text : ℕ → ℕ → List ℕ → List ℕ
name_text ascii code name =
    if-then (leb (length name) code) (take ascii name)
    (shown_name (decoded ascii code name) (take ascii name) (drop code name))

-- an ABI's name: `-` for `_`
abbrev pub dashed : ℕ → ℕ
dashed b = if-then (eqb b 95) 45 b

unfoldable pub abi_text : List ℕ → List ℕ
abi_text name = map dashed name
