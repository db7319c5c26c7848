-- Punycode's decoding procedure, RFC 3492 section 6.2, over whole numbers. Assumes nothing: these are definitions.
-- Beyond the RFC stand document 01's limits: upper-case letters are no digits, a value is a Unicode scalar, and there is room for
-- so many characters. For each character the digits and its value are judged before the room, as the Rust does.
use Rattle.std.specs.Prelude.{Bool, List, [], ◌∷◌, ◌++◌, ℕ, zero, suc, ◌+◌, ◌-◌, ◌*◌, ◌/◌, ◌%◌, ltb, leb, eqb, length, take, drop}
use Rattle.parser.specs.Digits.{if-then, within}
use Rattle.parser.specs.Scalar.{is_scalar}

-- section 5, the parameters
abbrev pub base : ℕ
base = 36

abbrev pub tmin : ℕ
tmin = 1

abbrev pub tmax : ℕ
tmax = 26

abbrev pub skew : ℕ
skew = 38

abbrev pub damp : ℕ
damp = 700

abbrev pub initial-bias : ℕ
initial-bias = 72

abbrev pub initial-n : ℕ
initial-n = 128

-- section 5: a-z count 0 to 25, 0-9 count 26 to 35; any other byte is no digit, and counts 36
unfoldable pub puny_digit : ℕ → ℕ
puny_digit c = within 97 122 c (c - 97) (within 48 57 c (c - 22) base)

-- section 6.2: t, which is tmin if k <= bias + tmin, or tmax if k >= bias + tmax, or k - bias otherwise
unfoldable pub threshold_of : ℕ → ℕ → ℕ
threshold_of bias k = if-then (leb k (bias + tmin)) tmin (if-then (leb (bias + tmax) k) tmax (k - bias))

-- a generalized variable-length integer (section 3.3): its value and the text behind it, or none where a digit is bad or missing
pub data Delta : Type 0 where
  read : ℕ → List ℕ → Delta
  unread : Delta

abbrev pub plus : ℕ → Delta → Delta
plus a (read v rest) = read (a + v) rest
plus a unread = unread

-- section 6.2, the loop over k
unfoldable pub delta_of : ℕ → ℕ → ℕ → List ℕ → Delta
delta_of bias k w [] = unread
delta_of bias k w (c ∷ cs) =
    let d : ℕ = puny_digit c in
    let t : ℕ = threshold_of bias k in
    let last : Delta = read (d * w) cs in
    let more : Delta = plus (d * w) (delta_of bias (k + base) (w * (base - t)) cs) in
    if-then (leb base d) unread (if-then (ltb d t) last more)

-- section 6.1, what adapt returns behind its while loop
abbrev pub bias_of : ℕ → ℕ → ℕ
bias_of delta k = k + (base - tmin + 1) * delta / (delta + skew)

-- section 6.1, the while loop; n bounds its turns, of which delta itself is more than enough (`lowered-enough`)
unfoldable pub lowered : ℕ → ℕ → ℕ → ℕ
lowered zero delta k = bias_of delta k
lowered (suc n) delta k =
    let more : ℕ = lowered n (delta / (base - tmin)) (k + base) in
    if-then (ltb ((base - tmin) * tmax / 2) delta) more (bias_of delta k)

-- section 6.1, adapt: the new bias
unfoldable pub adapted : ℕ → ℕ → Bool → ℕ
adapted delta points first =
    let d : ℕ = delta / if-then first damp 2 in
    let e : ℕ = d + d / points in
    lowered e e 0

-- section 6.2, a turn of the loop over the code up to the insertion: the new n, the place of its character, the new bias and the
-- code left; or none, where there is no delta or n is no scalar value. len is the number of characters, the new one counted
pub data Turn : Type 0 where
  turn : (n i bias : ℕ) → List ℕ → Turn
  no_turn : Turn

unfoldable pub turn_of : ℕ → ℕ → ℕ → Delta → Turn
turn_of n i len unread = no_turn
turn_of n i len (read v rest) =
    let p : ℕ = i + v in
    let m : ℕ = n + p / len in
    if-then (is_scalar m) (turn m (p % len) (adapted v len (eqb i 0)) rest) no_turn

unfoldable pub insert_at : ℕ → ℕ → List ℕ → List ℕ
insert_at i c cs = take i cs ++ (c ∷ drop i cs)

-- the characters, or what went wrong first: no room for one more, or a digit or a value that is not right
pub data Spelt : Type 0 where
  spelt : List ℕ → Spelt
  long : Spelt
  broken : Spelt

-- what becomes of a turn
abbrev pub More : Type 0
More = ℕ → ℕ → ℕ → List ℕ → Spelt

abbrev pub go_on : More → Turn → Spelt
go_on more (turn n i bias rest) = more n i bias rest
go_on more no_turn = broken

-- section 6.2, the loop over the code up to the end of its first turn
unfoldable pub round_of : More → ℕ → ℕ → ℕ → List ℕ → List ℕ → Spelt
round_of more n i bias out [] = spelt out
round_of more n i bias out (c ∷ cs) = go_on more (turn_of n i (length out + 1) (delta_of bias base 1 (c ∷ cs)))

-- section 6.2, the loop over the code, with room for so many characters more
unfoldable pub rounds : ℕ → ℕ → ℕ → ℕ → List ℕ → List ℕ → Spelt
rounds zero n i bias out code = round_of (λ m j b rest. long) n i bias out code
rounds (suc room) n i bias out code = round_of (λ m j b rest. rounds room m (j + 1) b (insert_at j m out) rest) n i bias out code
