-- Texts and the characters that they spell, by computation: one table, one claim. Assumes nothing.
use mathlib.Core.Path.{◌≡◌, refl}
use mathlib.Core.List.{List, [], ◌∷◌, map}
use Prim.Native.Nat.{ℕ}
use Prim.Native.Char.{code}
use Prim.Native.String.{String}
use Rattle.parser.specs.Digits.{within, digit_of}
use Rattle.parser.specs.Scalar.{is_scalar}
use Rattle.nibbles.specs.Utf8.{utf8, after, payload, first, Text, text, no_text, decoded, decode}
use Rattle.nibbles.specs.Chars.{octets, text_of}

-- the characters' numbers
codes : String → List ℕ
codes String.[] = []
codes (String.◌∷◌ c t) = code c ∷ codes t

lines : List (String × Text)
unfolding codes
lines =
    ("", text []) ∷
    ("6162", text (codes "ab")) ∷
    ("007f", text (0 ∷ 0x7F ∷ [])) ∷
    ("c280dfbf", text (0x80 ∷ 0x7FF ∷ [])) ∷
    ("e0a080ed9fbfee8080efbfbf", text (0x800 ∷ 0xD7FF ∷ 0xE000 ∷ 0xFFFF ∷ [])) ∷
    ("f0908080f48fbfbf", text (0x10000 ∷ 0x10FFFF ∷ [])) ∷
    ("61c3a9e28899f09f9880", text (codes "aé∙😀")) ∷
    -- overlong, in each form
    ("c1bf", no_text) ∷
    ("e09fbf", no_text) ∷
    ("f08fbfbf", no_text) ∷
    -- surrogates; above U+10FFFF; no first byte of any form
    ("eda080", no_text) ∷
    ("edbfbf", no_text) ∷
    ("f4908080", no_text) ∷
    ("f8808080", no_text) ∷
    -- cut, a stray continuation, one that is missing
    ("61e288", no_text) ∷
    ("80", no_text) ∷
    ("c361", no_text) ∷
    -- an odd count, an upper-case nibble, a byte that is none
    ("616", no_text) ∷
    ("6A", no_text) ∷
    ("6_", no_text) ∷ []

right : map (λ l. text_of (codes l.0)) lines ≡ map (λ l. l.1) lines
unfolding codes lines text_of octets decode decoded first payload after utf8 is_scalar digit_of within
right = refl
