-- What is decoded from a name of bytes is scalar values: the basic characters are bytes, and each turn judges its value. Assumes nothing.
use mathlib.Core.Path.{◌≡◌, refl}
use mathlib.Core.Bool.{Bool, true, false}
use mathlib.Core.List.{List, [], ◌∷◌, ◌++◌}
use Prim.Native.Nat.{ℕ, zero, suc, ◌+◌, ◌-◌, ◌/◌, ◌%◌, ◌<◌}
use native.Mathlib.Omega.{arith}
use borrow.Author.Tests.{lt-ltb}
use lib.Dec.{ltb, eqb}
use lib.ListN.{length, get_or, take, drop}
use Rattle.parser.specs.Digits.{if-then}
use Rattle.parser.specs.Scalar.{is_scalar}
use Rattle.nibbles.specs.Utf8.{Scalars}
use Rattle.punycode.specs.Answer.{most, decoded}
use Rattle.punycode.specs.Decode.{base, initial-n, initial-bias, Delta, read, unread, delta_of, adapted, Turn, turn, no_turn, turn_of, insert_at, Spelt, spelt, More, go_on, round_of, rounds}
use Rattle.pieces.proofs.WritingLaws.{clash}

scalars-append : (a b : List ℕ) → Scalars a → Scalars b → Scalars (a ++ b)
scalars-append [] b s t = t
scalars-append (x ∷ a) b s t = (s.0, scalars-append a b s.1 t)

scalars-take : (n : ℕ) (l : List ℕ) → Scalars l → Scalars (take n l)
scalars-take zero l s = tt
scalars-take (suc n) [] s = tt
scalars-take (suc n) (x ∷ l) s = (s.0, scalars-take n l s.1)

scalars-drop : (n : ℕ) (l : List ℕ) → Scalars l → Scalars (drop n l)
scalars-drop zero l s = s
scalars-drop (suc n) [] s = tt
scalars-drop (suc n) (x ∷ l) s = scalars-drop n l s.1

pub scalar-at : (l : List ℕ) (i : ℕ) → Scalars l → i < length l → is_scalar (get_or l i 0) ≡ true
scalar-at [] i s h = absurd (omega arith)
scalar-at (x ∷ l) zero s h = s.0
scalar-at (x ∷ l) (suc i) s h = scalar-at l i s.1 (omega arith)

bytes-scalars : (l : List ℕ) → ((i : ℕ) → get_or l i 0 < 256) → Scalars l
unfolding is_scalar
bytes-scalars [] b = tt
bytes-scalars (x ∷ l) b = (let h : x < 256 = b 0 in rw (lt-ltb x 0xD800 (omega arith)), bytes-scalars l (λ i. b (suc i)))

-- ---- a turn, and the turns
turn-scalar : (n i len : ℕ) (v : Delta) {m j b : ℕ} {r : List ℕ} → turn_of n i len v ≡ turn m j b r → is_scalar m ≡ true
unfolding turn_of
turn-scalar n i len unread e = clash (cc)
turn-scalar n i len (read v rest) {m} {j} {b} {r} e = go (is_scalar x) refl e
  where
    x : ℕ
    x = n + (i + v) / len

    go : (t : Bool) → is_scalar x ≡ t → if-then t (turn x ((i + v) % len) (adapted v len (eqb i 0)) rest) no_turn ≡ turn m j b r → is_scalar m ≡ true
    go true h q = let p : x ≡ m = cc in rw p at h
    go false h q = clash (cc)

-- what follows a turn gives scalars, where the turn's value is one
abbrev Keeps : More → Type 0
Keeps more = (m j b : ℕ) (r cs : List ℕ) → is_scalar m ≡ true → more m j b r ≡ spelt cs → Scalars cs

round-scalars : (more : More) (n i bias : ℕ) (out code cs : List ℕ) → Keeps more → Scalars out → round_of more n i bias out code ≡ spelt cs → Scalars cs
unfolding round_of
round-scalars more n i bias out [] cs k s e = let p : out ≡ cs = cc in rw p at s
round-scalars more n i bias out (c ∷ code) cs k s e = go (turn_of n i (length out + 1) (delta_of bias base 1 (c ∷ code))) refl e
  where
    go : (t : Turn) → turn_of n i (length out + 1) (delta_of bias base 1 (c ∷ code)) ≡ t → go_on more t ≡ spelt cs → Scalars cs
    go (turn m j b r) h q = k m j b r cs (turn-scalar n i (length out + 1) (delta_of bias base 1 (c ∷ code)) h) q
    go no_turn h q = clash (cc)

rounds-scalars : (room n i bias : ℕ) (out code cs : List ℕ) → Scalars out → rounds room n i bias out code ≡ spelt cs → Scalars cs
unfolding rounds insert_at
rounds-scalars zero n i bias out code cs s e = round-scalars (λ m j b r. Spelt.long) n i bias out code cs (λ m j b r ds h q. clash (cc)) s e
rounds-scalars (suc room) n i bias out code cs s e =
    round-scalars (λ m j b r. rounds room m (j + 1) b (insert_at j m out) r) n i bias out code cs
    (λ m j b r ds h q. rounds-scalars room m (j + 1) b (insert_at j m out) r ds (scalars-append (take j out) (m ∷ drop j out) (scalars-take j out s) (h, scalars-drop j out s)) q)
    s e

pub decoded-scalars : (ascii code : ℕ) (s cs : List ℕ) → ((i : ℕ) → get_or s i 0 < 256) → spelt cs ≡ decoded ascii code s → Scalars cs
unfolding decoded
decoded-scalars ascii code s cs b e = go (ltb most (length (take ascii s))) e
  where
    go : (t : Bool) → spelt cs ≡ if-then t Spelt.long (rounds (most - length (take ascii s)) initial-n 0 initial-bias (take ascii s) (drop code s)) → Scalars cs
    go true q = clash (cc)
    go false q = rounds-scalars (most - length (take ascii s)) initial-n 0 initial-bias (take ascii s) (drop code s) cs (scalars-take ascii s (bytes-scalars s b)) (cc)
