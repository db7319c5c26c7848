-- The twenty-one basic types: a letter and a name. Assumes nothing: these are definitions.
use Rattle.std.specs.Prelude.{Bool, true, false, List, [], ◌∷◌, ℕ, ◌-◌, eqb, ltb, Option, Some, None}
use Prim.Native.String.{String}
use Rattle.parser.specs.Digits.{if-then}
use Rattle.pieces.specs.Words.{ascii}

-- a lower-case letter's place in the alphabet
abbrev pub place : ℕ → Option ℕ
place c = if-then (ltb c 97) None (if-then (ltb c 123) (Some (c - 97)) None)

-- each letter's name
unfoldable pub basic : List (ℕ × String)
basic =
    (98, "bool") ∷ (99, "char") ∷ (101, "str") ∷ (117, "()") ∷ (97, "i8") ∷ (115, "i16") ∷ (108, "i32") ∷ (120, "i64") ∷
    (110, "i128") ∷ (105, "isize") ∷ (104, "u8") ∷ (116, "u16") ∷ (109, "u32") ∷ (121, "u64") ∷ (111, "u128") ∷
    (106, "usize") ∷ (102, "f32") ∷ (100, "f64") ∷ (122, "!") ∷ (112, "_") ∷ (118, "...") ∷ []

unfoldable pub among : ℕ → List (ℕ × String) → Bool
among c [] = false
among c (x ∷ xs) = if-then (eqb x.0 c) true (among c xs)

unfoldable pub name_in : ℕ → List (ℕ × String) → List ℕ
name_in c [] = []
name_in c (x ∷ xs) = if-then (eqb x.0 c) (ascii x.1) (name_in c xs)

-- whether a letter names a basic type, and its name; none for another letter
unfoldable pub is_basic : ℕ → Bool
is_basic c = among c basic

unfoldable pub basic_name : ℕ → List ℕ
basic_name c = name_in c basic
