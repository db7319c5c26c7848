-- A short text as a number of base 256, and back. Assumes nothing: these are definitions.
use Rattle.std.specs.Prelude.{true, false, List, [], ◌∷◌, ℕ, zero, suc, ◌+◌, ◌*◌, ◌/◌, ◌%◌, eqb, ltb, length, Option, Some, None}

-- the bytes of a number, the lowest first, without those at the top that are 0. The first number bounds how many; `elim` computes only
-- the branch that is taken
unfoldable pub bytes_in : ℕ → ℕ → List ℕ
bytes_in zero n = []
bytes_in (suc f) n = elim (eqb n 0) [ true ↦ [] | false ↦ n % 256 ∷ bytes_in f (n / 256) ]

unfoldable pub bytes_of : ℕ → List ℕ
bytes_of n = bytes_in (suc n) n

-- the number of a text
unfoldable pub little : List ℕ → ℕ
little [] = 0
little (b ∷ t) = b + 256 * little t

-- the number of a text of at most eight bytes; a longer one has none
unfoldable pub packed : List ℕ → Option ℕ
packed t = elim (ltb 8 (length t)) [ true ↦ None | false ↦ Some (little t) ]
