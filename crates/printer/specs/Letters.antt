-- The letters of the grammar, and which of them are an integer's type. Assumes nothing: these are definitions.
use Rattle.std.specs.Prelude.{Option, Some, None, Bool, true, false, List, [], ◌∷◌, ℕ, eqb}
use Rattle.parser.specs.Digits.{if-then}

abbrev pub 'A' : ℕ
'A' = 65

abbrev pub 'B' : ℕ
'B' = 66

abbrev pub 'C' : ℕ
'C' = 67

abbrev pub 'D' : ℕ
'D' = 68

abbrev pub 'E' : ℕ
'E' = 69

abbrev pub 'F' : ℕ
'F' = 70

abbrev pub 'G' : ℕ
'G' = 71

abbrev pub 'I' : ℕ
'I' = 73

abbrev pub 'K' : ℕ
'K' = 75

abbrev pub 'L' : ℕ
'L' = 76

abbrev pub 'M' : ℕ
'M' = 77

abbrev pub 'N' : ℕ
'N' = 78

abbrev pub 'O' : ℕ
'O' = 79

abbrev pub 'P' : ℕ
'P' = 80

abbrev pub 'Q' : ℕ
'Q' = 81

abbrev pub 'R' : ℕ
'R' = 82

abbrev pub 'S' : ℕ
'S' = 83

abbrev pub 'T' : ℕ
'T' = 84

abbrev pub 'U' : ℕ
'U' = 85

abbrev pub 'V' : ℕ
'V' = 86

abbrev pub 'W' : ℕ
'W' = 87

abbrev pub 'X' : ℕ
'X' = 88

abbrev pub 'Y' : ℕ
'Y' = 89

abbrev pub 'a' : ℕ
'a' = 97

abbrev pub 'b' : ℕ
'b' = 98

abbrev pub 'c' : ℕ
'c' = 99

abbrev pub 'e' : ℕ
'e' = 101

abbrev pub 'h' : ℕ
'h' = 104

abbrev pub 'i' : ℕ
'i' = 105

abbrev pub 'j' : ℕ
'j' = 106

abbrev pub 'l' : ℕ
'l' = 108

abbrev pub 'm' : ℕ
'm' = 109

abbrev pub 'n' : ℕ
'n' = 110

abbrev pub 'o' : ℕ
'o' = 111

abbrev pub 'p' : ℕ
'p' = 112

abbrev pub 's' : ℕ
's' = 115

abbrev pub 't' : ℕ
't' = 116

abbrev pub 'u' : ℕ
'u' = 117

abbrev pub 'w' : ℕ
'w' = 119

abbrev pub 'x' : ℕ
'x' = 120

abbrev pub 'y' : ℕ
'y' = 121

-- ---- integers: h j m o t y are unsigned, a i l n s x signed
unfoldable pub any_of : ℕ → List ℕ → Bool
any_of c [] = false
any_of c (k ∷ ks) = if-then (eqb c k) true (any_of c ks)

unfoldable pub is_unsigned : ℕ → Bool
is_unsigned c = any_of c ('h' ∷ 'j' ∷ 'm' ∷ 'o' ∷ 't' ∷ 'y' ∷ [])

unfoldable pub is_signed : ℕ → Bool
is_signed c = any_of c ('a' ∷ 'i' ∷ 'l' ∷ 'n' ∷ 's' ∷ 'x' ∷ [])

-- whether an integer's type is signed; none for another letter
unfoldable pub signed_by : ℕ → Option Bool
signed_by c = if-then (is_unsigned c) (Some false) (if-then (is_signed c) (Some true) None)
