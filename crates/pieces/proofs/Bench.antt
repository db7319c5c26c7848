-- Texts of pieces, by computation: one table, one claim. Assumes nothing.
use mathlib.Core.Path.{◌≡◌, refl}
use mathlib.Core.List.{List, [], ◌∷◌, ◌++◌, map}
use Prim.Native.Nat.{ℕ}
use Rattle.parser.specs.Digits.{within}
use Rattle.parser.specs.Scalar.{is_scalar}
use Rattle.nibbles.specs.Utf8.{utf8, encoded}
use Rattle.punycode.specs.Decode.{puny_digit, threshold_of, delta_of, lowered, adapted, turn_of, insert_at, round_of, rounds}
use Rattle.punycode.specs.Answer.{decoded}
use Rattle.pieces.specs.Laid.{laid}
use Rattle.pieces.specs.Words.{ascii}
use Rattle.pieces.specs.Numeral.{numeral_in, numeral, decimal, hex_digit, hexadecimal, hash_text, depth_text, life_text}
use Rattle.pieces.specs.Basic.{basic, name_in, basic_name}
use Rattle.pieces.specs.Quoted.{unicode, other, unquoted, escaped, escaped_all, quoted}
use Rattle.pieces.specs.Names.{basic_part, parts, raw_name, shown_name, name_text, abi_text}

-- a text as it is defined, and as it is written
unfoldable lines : List (List ℕ × List ℕ)
lines =
    (decimal 0, ascii "0") ∷
    (decimal 10, ascii "10") ∷
    (decimal 18446744073709551615, ascii "18446744073709551615") ∷
    (hexadecimal 2, ascii "2") ∷
    (hexadecimal 255, ascii "ff") ∷
    (hash_text 2, ascii "[2]") ∷
    (life_text 0, ascii "'a") ∷
    (life_text 25, ascii "'z") ∷
    (life_text 26, ascii "'_26") ∷
    (basic_name 117, ascii "()") ∷
    (basic_name 103, []) ∷
    -- each escape, and the other quote
    (quoted 39 (0 ∷ 9 ∷ 10 ∷ 13 ∷ 92 ∷ 39 ∷ 34 ∷ 126 ∷ 127 ∷ 0x1F600 ∷ []), ascii "'\\0\\t\\n\\r\\\\\\'\"~\\u{7f}\\u{1f600}'") ∷
    (quoted 34 (39 ∷ 34 ∷ []), ascii "\"'\\\"\"") ∷
    -- a name without Punycode, `bücher`, and two that are broken: with a basic part and with none
    (name_text 3 3 (ascii "foo"), ascii "foo") ∷
    (name_text 5 6 (ascii "bcher_kva"), ascii "b" ++ (0xC3 ∷ 0xBC ∷ ascii "cher")) ∷
    (name_text 5 6 (ascii "bcher_KVA"), ascii "punycode{bcher-KVA}") ∷
    (name_text 0 0 (ascii "KVA"), ascii "punycode{KVA}") ∷
    (abi_text (ascii "C_unwind"), ascii "C-unwind") ∷
    -- in a buffer that is too short
    (laid (decimal 12345) (0 ∷ 0 ∷ 0 ∷ []), ascii "123") ∷ []

right : map (λ l. l.0) lines ≡ map (λ l. l.1) lines
unfolding lines ascii numeral_in numeral decimal hex_digit hexadecimal hash_text depth_text life_text basic name_in basic_name unicode other unquoted escaped escaped_all quoted basic_part parts raw_name shown_name name_text abi_text laid utf8 encoded decoded rounds round_of insert_at turn_of adapted lowered delta_of threshold_of puny_digit within is_scalar
right = refl
