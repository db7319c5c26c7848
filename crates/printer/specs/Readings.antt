-- What the printer reads at once, as a value and the next place. Assumes nothing: these are definitions.
use Rattle.std.specs.Prelude.{Option, Some, None, Bool, true, false, not, List, ℕ, zero, suc, ◌+◌, ◌-◌, ◌≤◌, eqb, ltb, length, take, drop, get_or}
use Rattle.parser.specs.Digits.{if-then}
use Rattle.parser.specs.Scalar.{is_scalar}
use Rattle.parser.specs.Bytes.{read, past}
use Rattle.parser.specs.Number.{integer62, optional62, hex_at}
use Rattle.parser.specs.Names.{ident_at}
use Rattle.parser.specs.declared.names.Name.{Name}
use Rattle.nibbles.specs.Uint.{hex_value}
use Rattle.nibbles.specs.Chars.{is_text}
use Rattle.nibbles.specs.declared.uint.Hex.{Hex}
use Rattle.nibbles.specs.declared.uint.Hex.TheVariants.{Small, Big}
use Rattle.printer.specs.declared.read.Tag.{Tag}
use Rattle.printer.specs.declared.read.Abi.{Abi}
use Rattle.printer.specs.declared.read.Abi.TheVariants.{C, Named}
use Rattle.printer.specs.declared.read.Head.{Head}

-- the byte at a place, 0 past the end, and the place behind it
unfoldable pub tag_at : List ℕ → ℕ → Tag
tag_at s at = record { byte = get_or s at 0; behind = if-then (ltb at (length s)) (at + 1) at }

-- behind a tag R, the place behind an e
unfoldable pub mark_at : List ℕ → ℕ → ℕ → ℕ
mark_at s at tag = if-then (eqb tag 82) (past 101 s at) at

-- a disambiguator and an identifier, whose end is the next place
abbrev pub named_by : ℕ → Option Name → Option (ℕ × Name)
named_by d (Some n) = Some (d, n)
named_by d None = None

abbrev pub named_of : List ℕ → Option (ℕ × ℕ) → Option (ℕ × Name)
named_of s (Some (d, next)) = named_by d (ident_at s next)
named_of s None = None

unfoldable pub named_at : List ℕ → ℕ → Option (ℕ × Name)
named_at s at = named_of s (optional62 115 s at)

-- the lifetime of a reference: 0 where there is none
unfoldable pub life_at : List ℕ → ℕ → Option (ℕ × ℕ)
life_at s at = if-then (eqb (past 76 s at) at) (read 0 at) (integer62 s (past 76 s at))

-- what stands before the parameters of a function pointer: whether it is unsafe, and its ABI: none, `C`, or a name without Punycode, which
-- is not empty
abbrev pub abi_of : Option Name → Option (Abi × ℕ)
abi_of (Some n) = if-then (eqb n.start n.split) None (if-then (eqb n.code n.end) (read (Named n.start n.split) n.end) None)
abi_of None = None

unfoldable pub abi_at : List ℕ → ℕ → Option (Abi × ℕ)
abi_at s k = if-then (eqb (past 67 s k) k) (abi_of (ident_at s k)) (read C (past 67 s k))

abbrev pub some_abi : Option (Abi × ℕ) → Option (Option Abi × ℕ)
some_abi (Some (a, next)) = read (Some a) next
some_abi None = None

unfoldable pub behind_unsafe : List ℕ → ℕ → Option (Option Abi × ℕ)
behind_unsafe s at = if-then (eqb (past 75 s at) at) (read None at) (some_abi (abi_at s (past 75 s at)))

abbrev pub head_of : Bool → Option (Option Abi × ℕ) → Option (Head × ℕ)
head_of u (Some (a, next)) = read (record { is_unsafe = u; abi = a }) next
head_of u None = None

unfoldable pub head_at : List ℕ → ℕ → Option (Head × ℕ)
head_at s at = head_of (not (eqb (past 85 s at) at)) (behind_unsafe s (past 85 s at))

-- a bool: 0 or 1
abbrev pub flag_of : Option (Hex × ℕ) → Option (Bool × ℕ)
flag_of (Some (Small zero, next)) = read false next
flag_of (Some (Small (suc zero), next)) = read true next
flag_of (Some (Small (suc (suc v)), next)) = None
flag_of (Some (Big e, next)) = None
flag_of None = None

unfoldable pub flag_at : List ℕ → ℕ → Option (Bool × ℕ)
flag_at s at = flag_of (hex_value s at)

-- a char: a Unicode scalar
abbrev pub scalar_of : Option (Hex × ℕ) → Option (ℕ × ℕ)
scalar_of (Some (Small v, next)) = if-then (is_scalar v) (read v next) None
scalar_of (Some (Big e, next)) = None
scalar_of None = None

unfoldable pub scalar_at : List ℕ → ℕ → Option (ℕ × ℕ)
scalar_at s at = scalar_of (hex_value s at)

-- a string's nibbles: where they end
abbrev pub literal_of : List ℕ → ℕ → Option (ℕ × ℕ) → Option (ℕ × ℕ)
literal_of s at (Some (e, next)) = if-then (is_text (take (e - at) (drop at s))) (read e next) None
literal_of s at None = None

unfoldable pub literal_at : List ℕ → ℕ → Option (ℕ × ℕ)
literal_at s at = literal_of s at (hex_at s at)

-- the places of an identifier's parts, in their order and within the symbol
pub record Within (s : List ℕ) (n : Name) : Type 0 where
  pub ascii : n.start ≤ n.split
  pub code : n.split ≤ n.code
  pub end : n.code ≤ n.end
  pub inside : n.end ≤ length s

-- an ABI's name likewise
abbrev pub AbiWithin : List ℕ → Option Abi → Type 0
AbiWithin s None = Unit {0}
AbiWithin s (Some C) = Unit {0}
AbiWithin s (Some (Named a b)) = (a ≤ b) × (b ≤ length s)
