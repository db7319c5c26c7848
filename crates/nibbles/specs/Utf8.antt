-- UTF-8: the encoding of scalar values, and a byte string's characters, which are those that encode to it. Assumes nothing: these are definitions.
use Rattle.std.specs.Prelude.{◌≡◌, true, List, [], ◌∷◌, ◌++◌, ℕ, zero, suc, ◌+◌, ◌-◌, ◌*◌, ◌/◌, ◌%◌, ltb, eqb, length, get_or}
use Rattle.parser.specs.Digits.{if-then}
use Rattle.parser.specs.Scalar.{is_scalar}

-- a continuation byte: 10 and the lowest six bits
abbrev pub cont : ℕ → ℕ
cont x = 0x80 + x % 64

-- Unicode, table 3-6: the bytes of a scalar
unfoldable pub utf8 : ℕ → List ℕ
utf8 c =
    if-then (ltb c 0x80) (c ∷ [])
    (if-then (ltb c 0x800) ((0xC0 + c / 64) ∷ cont c ∷ [])
    (if-then (ltb c 0x10000) ((0xE0 + c / 4096) ∷ cont (c / 64) ∷ cont c ∷ [])
    ((0xF0 + c / 262144) ∷ cont (c / 4096) ∷ cont (c / 64) ∷ cont c ∷ [])))

-- bytes that begin with the encoding of a scalar
pub record Starts (c : ℕ) (rest bytes : List ℕ) : Type 0 where
  pub scalar : is_scalar c ≡ true
  pub bytes-are : bytes ≡ utf8 c ++ rest

-- of a list of scalars, joined
unfoldable pub encoded : List ℕ → List ℕ
encoded [] = []
encoded (c ∷ cs) = utf8 c ++ encoded cs

abbrev pub Scalars : List ℕ → Type 0
Scalars [] = Unit {0}
Scalars (c ∷ cs) = (is_scalar c ≡ true) × Scalars cs

-- Unicode, D84a and D92: the bytes are the encoding of these scalars
pub record Encodes (cs bytes : List ℕ) : Type 0 where
  pub scalars : Scalars cs
  pub bytes-are : encoded cs ≡ bytes

-- a byte string is well formed where it is the encoding of scalars
abbrev pub WellFormed : List ℕ → Type 0
WellFormed bytes = (cs : List ℕ) × Encodes cs bytes

-- ---- the same, computed: the payload bits give a candidate, which counts where it is a scalar that encodes to the front of the bytes
pub data Left : Type 0 where
  left : List ℕ → Left
  other : Left

-- what is left of the bytes after a front
unfoldable pub after : List ℕ → List ℕ → Left
after [] bs = left bs
after (f ∷ fs) [] = other
after (f ∷ fs) (b ∷ bs) = if-then (eqb f b) (after fs bs) other

-- the payload bits, put together as the first byte says (table 3-6, read backwards)
unfoldable pub payload : List ℕ → ℕ
payload bs =
    let a : ℕ = get_or bs 0 0 in
    let b : ℕ = get_or bs 1 0 - 0x80 in
    let c : ℕ = get_or bs 2 0 - 0x80 in
    let d : ℕ = get_or bs 3 0 - 0x80 in
    if-then (ltb a 0xC0) a
    (if-then (ltb a 0xE0) ((a - 0xC0) * 64 + b)
    (if-then (ltb a 0xF0) ((a - 0xE0) * 4096 + b * 64 + c)
    ((a - 0xF0) * 262144 + b * 4096 + c * 64 + d)))

pub data First : Type 0 where
  one : ℕ → List ℕ → First
  none : First

abbrev pub counts : ℕ → Left → First
counts c (left rest) = one c rest
counts c other = none

-- the first character of a byte string, and the bytes after it
unfoldable pub first : List ℕ → First
first bs = if-then (is_scalar (payload bs)) (counts (payload bs) (after (utf8 (payload bs)) bs)) none

pub data Text : Type 0 where
  text : List ℕ → Text
  no_text : Text

abbrev pub onto : ℕ → Text → Text
onto c (text cs) = text (c ∷ cs)
onto c no_text = no_text

abbrev pub followed : First → (List ℕ → Text) → Text
followed (one c rest) read = onto c (read rest)
followed none read = no_text

-- the characters of a byte string, if there are at most n
unfoldable pub decoded : ℕ → List ℕ → Text
decoded zero [] = text []
decoded zero (b ∷ bs) = no_text
decoded (suc n) [] = text []
decoded (suc n) (b ∷ bs) = followed (first (b ∷ bs)) (λ rest. decoded n rest)

-- the characters of a byte string: there are no more than bytes
unfoldable pub decode : List ℕ → Text
decode bs = decoded (length bs) bs
