-- Identifiers at a place. Assumes nothing: these are definitions.
use Rattle.std.specs.Prelude.{Option, Some, None, List, [], ◌∷◌, ℕ, ◌+◌, ◌-◌, eqb, leb, length, take, drop}
use Rattle.parser.specs.Digits.{if-then}
use Rattle.parser.specs.Bytes.{read, past}
use Rattle.parser.specs.Number.{length10}
use Rattle.parser.specs.declared.names.Name.{Name}

-- so many bytes from a place, which end within the text: the first place, and the place after them
unfoldable pub part_of : List ℕ → ℕ → ℕ → Option (ℕ × ℕ)
part_of s a n = if-then (leb (a + n) (length s)) (read a (a + n)) None

unfoldable pub bytes_after : List ℕ → Option (ℕ × ℕ) → Option (ℕ × ℕ)
bytes_after s (Some (n, next)) = part_of s (past 95 s next) n
bytes_after s None = None

-- an identifier's bytes: a decimal length, an optional `_`, that many bytes
unfoldable pub span_at : List ℕ → ℕ → Option (ℕ × ℕ)
span_at s at = bytes_after s (length10 s at)

-- the place of the last b
unfoldable pub later_of : Option ℕ → Option ℕ → Option ℕ
later_of (Some i) f = Some (i + 1)
later_of None f = f

unfoldable pub last_of : ℕ → List ℕ → Option ℕ
last_of b [] = None
last_of b (x ∷ xs) = later_of (last_of b xs) (if-then (eqb x b) (Some 0) None)

abbrev pub parts : ℕ → ℕ → ℕ → ℕ → Name
parts a b c e = record { start = a; split = b; code = c; end = e }

-- an identifier's bytes from a to e with its Punycode after the last `_`, or all of it, and that is not empty
unfoldable pub split_at : ℕ → ℕ → Option ℕ → Option Name
split_at a e (Some i) = if-then (eqb (a + i + 1) e) None (Some (parts a (a + i) (a + i + 1) e))
split_at a e None = if-then (eqb a e) None (Some (parts a a a e))

unfoldable pub coded : List ℕ → Option (ℕ × ℕ) → Option Name
coded s (Some (a, e)) = split_at a e (last_of 95 (take (e - a) (drop a s)))
coded s None = None

unfoldable pub coded_at : List ℕ → ℕ → Option Name
coded_at s at = coded s (span_at s at)

unfoldable pub plain : Option (ℕ × ℕ) → Option Name
plain (Some (a, e)) = Some (parts a e e e)
plain None = None

-- an identifier: with `u` before its length it has Punycode
unfoldable pub ident_at : List ℕ → ℕ → Option Name
ident_at s at = if-then (eqb (past 117 s at) at) (plain (span_at s at)) (coded_at s (past 117 s at))
