-- The four forms of an encoding, and reading as its inverse: the first character of bytes, and all of them. Assumes nothing.
use mathlib.Core.Path.{◌≡◌, refl, sym, ap, ◌∙◌}
use mathlib.Core.Bool.{Bool, true, false}
use mathlib.Core.List.{List, [], ◌∷◌, ◌++◌}
use Prim.Native.Nat.{ℕ, zero, suc, ◌+◌, ◌/◌, ◌≤◌, ◌<◌}
use native.Mathlib.Omega.{arith}
use native.Mathlib.Nat.{div-div-eq-div-mul}
use native.Mathlib.Decide.{dec_lt}
use borrow.Author.Tests.{lt-ltb, le-ltb, eq-eqb, eqb-true, ltb-true}
use lib.Dec.{eqb}
use lib.ListN.{length, length-append}
use Rattle.parser.specs.Digits.{if-then}
use Rattle.parser.specs.Scalar.{is_scalar}
use Rattle.nibbles.specs.Utf8.{utf8, cont, encoded, Scalars, Starts, Encodes, Left, left, other, after, payload, First, one, none, counts, first, Text, text, no_text, onto, followed, decoded, decode}

-- no two constructors are equal: `clash (cc)` answers a case that cannot be
pub clash : {A : Type 0} → ◌≡◌ {A = ℕ} 0 1 → A
clash z = absurd (omega arith)

-- ---- the four forms
module _ (c : ℕ) where
  pub utf8-one : c < 0x80 → utf8 c ≡ c ∷ []
  unfolding utf8
  utf8-one h = rw (lt-ltb c 0x80 h)

  pub utf8-two : 0x80 ≤ c → c < 0x800 → utf8 c ≡ (0xC0 + c / 64) ∷ cont c ∷ []
  unfolding utf8
  utf8-two l h = rw (le-ltb c 0x80 l, lt-ltb c 0x800 h)

  pub utf8-three : 0x800 ≤ c → c < 0x10000 → utf8 c ≡ (0xE0 + c / 4096) ∷ cont (c / 64) ∷ cont c ∷ []
  unfolding utf8
  utf8-three l h = rw (le-ltb c 0x80 (omega arith), le-ltb c 0x800 l, lt-ltb c 0x10000 h)

  pub utf8-four : 0x10000 ≤ c → utf8 c ≡ (0xF0 + c / 262144) ∷ cont (c / 4096) ∷ cont (c / 64) ∷ cont c ∷ []
  unfolding utf8
  utf8-four l = rw (le-ltb c 0x80 (omega arith), le-ltb c 0x800 (omega arith), le-ltb c 0x10000 l)

pub data Form (c : ℕ) : Type 0 where
  one_byte : c < 0x80 → Form c
  two_bytes : 0x80 ≤ c → c < 0x800 → Form c
  three-bytes : 0x800 ≤ c → c < 0x10000 → Form c
  four_bytes : 0x10000 ≤ c → Form c

pub form : (c : ℕ) → Form c
form c = elim (dec_lt c 0x80) [ yes h ↦ one_byte h | no h ↦ elim (dec_lt c 0x800) [ yes k ↦ two_bytes (omega arith) k | no k ↦ elim (dec_lt c 0x10000) [ yes l ↦ three-bytes (omega arith) l | no l ↦ four_bytes (omega arith) ] ] ]

pub some_bytes : (c : ℕ) → 1 ≤ length (utf8 c)
some_bytes c = go (form c)
  where
    go : Form c → 1 ≤ length (utf8 c)
    go (one_byte h) = rw (utf8-one c h) (omega arith)
    go (two_bytes l h) = rw (utf8-two c l h) (omega arith)
    go (three-bytes l h) = rw (utf8-three c l h) (omega arith)
    go (four_bytes l) = rw (utf8-four c l) (omega arith)

pub scalar_below : (c : ℕ) → is_scalar c ≡ true → c < 0x110000
unfolding is_scalar
scalar_below c h = elim (dec_lt c 0xE000) [ yes k ↦ omega arith | no k ↦ ltb-true c 0x110000 (rw (le-ltb c 0xD800 (omega arith), le-ltb c 0xE000 (omega arith)) at h) ]

-- the payload bits of an encoding are the scalar
payload-is : (c : ℕ) (rest : List ℕ) → c < 0x110000 → Form c → payload (utf8 c ++ rest) ≡ c
unfolding payload
payload-is c rest s (one_byte h) = rw (utf8-one c h, lt-ltb c 0xC0 (omega arith))
payload-is c rest s (two_bytes l h) = rw (utf8-two c l h, le-ltb (0xC0 + c / 64) 0xC0 (omega arith), lt-ltb (0xC0 + c / 64) 0xE0 (omega arith)) (omega arith)
payload-is c rest s (three-bytes l h) = rw (utf8-three c l h, le-ltb (0xE0 + c / 4096) 0xC0 (omega arith), le-ltb (0xE0 + c / 4096) 0xE0 (omega arith), lt-ltb (0xE0 + c / 4096) 0xF0 (omega arith)) (omega (arith, div-div-eq-div-mul c 64 64))
payload-is c rest s (four_bytes l) = rw (utf8-four c l, le-ltb (0xF0 + c / 262144) 0xC0 (omega arith), le-ltb (0xF0 + c / 262144) 0xE0 (omega arith), le-ltb (0xF0 + c / 262144) 0xF0 (omega arith)) (omega (arith, div-div-eq-div-mul c 64 64, div-div-eq-div-mul c 4096 64))

-- ---- what is left after a front
after_front : (fs rest : List ℕ) → after fs (fs ++ rest) ≡ left rest
unfolding after
after_front [] rest = refl
after_front (f ∷ fs) rest = rw (eq-eqb f f refl) (after_front fs rest)

after-splits : (fs bs rest : List ℕ) → after fs bs ≡ left rest → bs ≡ fs ++ rest
unfolding after
after-splits [] bs rest e = cc
after-splits (f ∷ fs) [] rest e = clash (cc)
after-splits (f ∷ fs) (b ∷ bs) rest e = go (λ q. after-splits fs bs rest q) (eqb f b) refl e
  where
    go : (after fs bs ≡ left rest → bs ≡ fs ++ rest) → (t : Bool) → eqb f b ≡ t → if-then t (after fs bs) other ≡ left rest → b ∷ bs ≡ f ∷ (fs ++ rest)
    go r true h q = let p : f ≡ b = eqb-true f b h in cc (r q)
    go r false h q = clash (cc)

-- ---- the first character
pub first-is : (c : ℕ) (rest : List ℕ) → is_scalar c ≡ true → first (utf8 c ++ rest) ≡ one c rest
unfolding first
first-is c rest s = rw (payload-is c rest (scalar_below c s) (form c), s, after_front (utf8 c) rest)

pub first-starts : (bytes : List ℕ) {c : ℕ} {rest : List ℕ} → first bytes ≡ one c rest → Starts c rest bytes
unfolding first
first-starts bytes {c} {rest} e = go (is_scalar (payload bytes)) refl (after (utf8 (payload bytes)) bytes) refl e
  where
    go : (t : Bool) → is_scalar (payload bytes) ≡ t → (l : Left) → after (utf8 (payload bytes)) bytes ≡ l → if-then t (counts (payload bytes) l) none ≡ one c rest → Starts c rest bytes
    go true h (left r) k q =
        let p : payload bytes ≡ c = cc in
        let o : r ≡ rest = cc in
        record { scalar = rw p at h; bytes-are = rw (p, o) at (after-splits (utf8 (payload bytes)) bytes r k) }
    go true h other k q = clash (cc)
    go false h l k q = clash (cc)

pub rest-less : (bytes : List ℕ) {c : ℕ} {rest : List ℕ} → first bytes ≡ one c rest → length rest < length bytes
rest-less bytes {c} {rest} e = omega (arith, some_bytes c, ap length (first-starts bytes e).bytes-are, length-append (utf8 c) rest)

-- ---- the characters, one after the other: fuel beyond the length changes nothing
fuel : (m n : ℕ) (bs : List ℕ) → length bs ≤ m → length bs ≤ n → decoded m bs ≡ decoded n bs
unfolding decoded
fuel zero zero bs h k = refl
fuel zero (suc n) [] h k = refl
fuel zero (suc n) (b ∷ bs) h k = absurd (omega arith)
fuel (suc m) zero [] h k = refl
fuel (suc m) zero (b ∷ bs) h k = absurd (omega arith)
fuel (suc m) (suc n) [] h k = refl
fuel (suc m) (suc n) (b ∷ bs) h k = go (λ rest l. fuel m n rest (omega arith) (omega arith)) (first (b ∷ bs)) refl
  where
    go : ((rest : List ℕ) → length rest < length (b ∷ bs) → decoded m rest ≡ decoded n rest) → (f : First) → first (b ∷ bs) ≡ f → followed f (λ r. decoded m r) ≡ followed f (λ r. decoded n r)
    go same (one c rest) e = ap (onto c) (same rest (rest-less (b ∷ bs) e))
    go same none e = refl

pub decode-on : (bytes : List ℕ) {c : ℕ} {rest : List ℕ} → first bytes ≡ one c rest → decode bytes ≡ onto c (decode rest)
unfolding decode decoded
decode-on [] e = absurd (omega (arith, rest-less [] e))
decode-on (b ∷ bs) {c} {rest} e = rw e (ap (onto c) (fuel (length bs) (length rest) rest (omega (arith, rest-less (b ∷ bs) e)) (omega arith)))

pub decode-none : (b : ℕ) (bs : List ℕ) → first (b ∷ bs) ≡ none → decode (b ∷ bs) ≡ no_text
unfolding decode decoded
decode-none b bs e = rw e

-- ---- the two directions
pub encoded-decodes : (cs : List ℕ) → Scalars cs → decode (encoded cs) ≡ text cs
unfolding encoded
encoded-decodes [] s = unfold decode decoded in refl
encoded-decodes (c ∷ cs) s = decode-on (utf8 c ++ encoded cs) (first-is c (encoded cs) s.0) ∙ ap (onto c) (encoded-decodes cs s.1)

none-encode : (cs : List ℕ) → text [] ≡ text cs → Encodes cs []
unfolding encoded
none-encode [] e = record { scalars = tt; bytes-are = refl }
none-encode (c ∷ cs) e = clash (cc)

pub one_more : {c : ℕ} {rest bytes cs : List ℕ} → Starts c rest bytes → Encodes cs rest → Encodes (c ∷ cs) bytes
unfolding encoded
one_more {c} s e = record { scalars = (s.scalar, e.scalars); bytes-are = ap (λ (l : List ℕ). utf8 c ++ l) e.bytes-are ∙ sym s.bytes-are }

decoded-encodes : (n : ℕ) (bytes cs : List ℕ) → decoded n bytes ≡ text cs → Encodes cs bytes
unfolding decoded
decoded-encodes zero [] cs e = none-encode cs e
decoded-encodes zero (b ∷ bs) cs e = clash (cc)
decoded-encodes (suc n) [] cs e = none-encode cs e
decoded-encodes (suc n) (b ∷ bs) cs e = go (λ rest ds q. decoded-encodes n rest ds q) (first (b ∷ bs)) refl e
  where
    turn : ((rest ds : List ℕ) → decoded n rest ≡ text ds → Encodes ds rest) → (c : ℕ) (rest : List ℕ) → first (b ∷ bs) ≡ one c rest → (d : Text) → decoded n rest ≡ d → onto c d ≡ text cs → Encodes cs (b ∷ bs)
    turn r c rest h (text ds) k q =
        let p : cs ≡ c ∷ ds = cc in
        rw p (one_more (first-starts (b ∷ bs) h) (r rest ds k))
    turn r c rest h no_text k q = clash (cc)

    go : ((rest ds : List ℕ) → decoded n rest ≡ text ds → Encodes ds rest) → (f : First) → first (b ∷ bs) ≡ f → followed f (λ rest. decoded n rest) ≡ text cs → Encodes cs (b ∷ bs)
    go r (one c rest) h q = turn r c rest h (decoded n rest) refl q
    go r none h q = clash (cc)

pub decode-encodes : (bytes cs : List ℕ) → decode bytes ≡ text cs → Encodes cs bytes
unfolding decode
decode-encodes bytes cs e = decoded-encodes (length bytes) bytes cs e
