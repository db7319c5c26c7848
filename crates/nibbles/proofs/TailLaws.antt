-- A first byte and the continuation bytes that it asks for give the first character: one law for the forms of two, three and four bytes. Assumes nothing.
use mathlib.Core.Path.{◌≡◌, refl, ap}
use mathlib.Core.Bool.{Bool, true, false}
use mathlib.Core.List.{List, [], ◌∷◌, ◌++◌}
use Prim.Native.Nat.{ℕ, zero, suc, ◌+◌, ◌-◌, ◌*◌, ◌/◌, ◌%◌, ◌≤◌, ◌<◌}
use native.Mathlib.Omega.{arith}
use native.Mathlib.Nat.{div-div-eq-div-mul}
use borrow.Author.Tests.{ltb-true, ltb-false, leb-true, leb-false}
use lib.Dec.{ltb, leb}
use lib.ListN.{length, get_or}
use Rattle.parser.specs.Digits.{if-then, within}
use Rattle.parser.specs.Scalar.{is_scalar}
use Rattle.nibbles.specs.Utf8.{utf8, cont, First, one, none, first}
use Rattle.nibbles.specs.Chars.{found}
use Rattle.nibbles.specs.Steps.{settled_of, tail_in}
use Rattle.std.specs.Prelude.{Option, Some, None}
use Rattle.nibbles.proofs.Utf8Laws.{clash, scalar_below, Form, one_byte, two_bytes, three-bytes, four_bytes, form, utf8-one, utf8-two, utf8-three, utf8-four, first-is, first-starts}

-- c without its k lowest groups of six bits, and the k continuation bytes that hold these
abbrev pub upper : ℕ → ℕ → ℕ
upper zero c = c
upper (suc k) c = upper k c / 64

abbrev pub conts : ℕ → ℕ → List ℕ
conts zero c = []
conts (suc k) c = cont (upper k c) ∷ conts k c

length-conts : (k c : ℕ) → length (conts k c) ≡ k
length-conts zero c = refl
length-conts (suc k) c = ap suc (length-conts k c)

-- ---- what k continuation bytes say
-- c has the upper bits v and the k continuation bytes at the front of bs
record Fit (k low v : ℕ) (bs : List ℕ) (c : ℕ) (rest : List ℕ) : Type 0 where
  bytes-are : bs ≡ conts k c ++ rest
  bits : upper k c ≡ v
  least : low ≤ c
  scalar : is_scalar c ≡ true

abbrev Tail : ℕ → ℕ → ℕ → List ℕ → ℕ → Option (ℕ × ℕ) → Type 0
Tail k low v bs at (Some (c, next)) = (rest : List ℕ) × Fit k low v bs c rest × (next ≡ at + 2 * k)
Tail k low v bs at None = (c : ℕ) (rest : List ℕ) → Fit k low v bs c rest → ⊥

settled-tail : (low v : ℕ) (bs : List ℕ) (at : ℕ) → Tail zero low v bs at (settled_of low v at)
unfolding settled_of
settled-tail low v bs at = go (ltb v low) refl (is_scalar v) refl
  where
    go : (t : Bool) → ltb v low ≡ t → (u : Bool) → is_scalar v ≡ u → Tail zero low v bs at (if-then t None (if-then u (Some (v, at)) None))
    go true h u k = λ c rest f. omega (arith, ltb-true v low h, f.bits, f.least)
    go false h true k = (bs, record { bytes-are = refl; bits = refl; least = ltb-false v low h; scalar = k }, omega arith)
    go false h false k = λ c rest f. clash (cc (ap is_scalar f.bits, f.scalar))

-- one byte more, in its range
turn : (k low v b : ℕ) (bs : List ℕ) (at : ℕ) → 0x80 ≤ b → b ≤ 0xBF → (r : Option (ℕ × ℕ)) → Tail k low (v * 64 + (b - 0x80)) bs (at + 2) r → Tail (suc k) low v (b ∷ bs) at r
turn k low v b bs at h l (Some (c, next)) t =
    let f = t.1 in
    let e : b ≡ 0x80 + upper k c % 64 = omega (arith, f.bits) in
    (t.0, record { bytes-are = cc f.bytes-are; bits = omega (arith, f.bits); least = f.least; scalar = f.scalar }, omega (arith, t.2))
turn k low v b bs at h l None t = λ c rest f.
    let e : b ≡ 0x80 + upper k c % 64 = cc f.bytes-are in
    t c rest (record { bytes-are = cc f.bytes-are; bits = omega (arith, f.bits); least = f.least; scalar = f.scalar })

-- a byte out of its range
stray : (k low v b : ℕ) (bs : List ℕ) → (0x80 ≤ b → b ≤ 0xBF → ⊥) → (c : ℕ) (rest : List ℕ) → Fit (suc k) low v (b ∷ bs) c rest → ⊥
stray k low v b bs h c rest f =
    let e : b ≡ 0x80 + upper k c % 64 = cc f.bytes-are in
    h (omega arith) (omega arith)

tail : (k low v : ℕ) (bs : List ℕ) (at : ℕ) → Tail k low v bs at (tail_in k low v bs at)
unfolding tail_in within
tail zero low v bs at = settled-tail low v bs at
tail (suc k) low v [] at = λ c rest f. clash (cc f.bytes-are)
tail (suc k) low v (b ∷ bs) at = go (tail k low (v * 64 + (b - 0x80)) bs (at + 2)) (leb 0x80 b) refl (leb b 0xBF) refl
  where
    go : Tail k low (v * 64 + (b - 0x80)) bs (at + 2) (tail_in k low (v * 64 + (b - 0x80)) bs (at + 2)) → (t : Bool) → leb 0x80 b ≡ t → (u : Bool) → leb b 0xBF ≡ u → Tail (suc k) low v (b ∷ bs) at (if-then t (if-then u (tail_in k low (v * 64 + (b - 0x80)) bs (at + 2)) None) None)
    go r true h true l = turn k low v b bs at (leb-true 0x80 b h) (leb-true b 0xBF l) (tail_in k low (v * 64 + (b - 0x80)) bs (at + 2)) r
    go r true h false l = stray k low v b bs (λ p q. omega (arith, leb-false b 0xBF l))
    go r false h u l = stray k low v b bs (λ p q. omega (arith, leb-false 0x80 b h))

-- ---- the first byte h of an encoding tells the form
pub record Leads (c h : ℕ) : Type 0 where
  pub one : h < 0xC0 → h < 0x80
  pub two : 0xC0 ≤ h → h < 0xE0 → (0x80 ≤ c) × (c < 0x800)
  pub three : 0xE0 ≤ h → h < 0xF0 → (0x800 ≤ c) × (c < 0x10000)
  pub four : 0xF0 ≤ h → (0x10000 ≤ c) × (h < 0xF8)

pub leads : (c : ℕ) (rest : List ℕ) → c < 0x110000 → Leads c (get_or (utf8 c ++ rest) 0 0)
leads c rest s = go (form c)
  where
    go : Form c → Leads c (get_or (utf8 c ++ rest) 0 0)
    go (one_byte h) = rw (utf8-one c h) (omega arith)
    go (two_bytes l h) = rw (utf8-two c l h) (omega arith)
    go (three-bytes l h) = rw (utf8-three c l h) (omega arith)
    go (four_bytes l) = rw (utf8-four c l) (omega arith)

-- a form of k continuation bytes: its first bytes lie from base to below top, its scalars from low to below high
pub record Kind (k base top low high : ℕ) : Type 0 where
  pub holds : (c h : ℕ) → c < 0x110000 → Leads c h → base ≤ h → h < top → (low ≤ c) × (c < high)
  pub reach : (c : ℕ) → base + upper k c < top → c < high
  pub spells : (c : ℕ) → low ≤ c → c < high → utf8 c ≡ (base + upper k c) ∷ conts k c

pub kind-two : Kind 1 0xC0 0xE0 0x80 0x800
kind-two = record { holds = λ c h s l p q. l.two p q; reach = λ c h. omega arith; spells = λ c l h. utf8-two c l h }

pub kind-three : Kind 2 0xE0 0xF0 0x800 0x10000
kind-three = record { holds = λ c h s l p q. l.three p q; reach = λ c h. omega arith; spells = λ c l h. rw (div-div-eq-div-mul c 64 64) (utf8-three c l h) }

-- the first bytes F5 to F7 lead beyond the scalars, which is for `is_scalar` to say
pub kind-four : Kind 3 0xF0 0xF8 0x10000 0x200000
kind-four = record { holds = λ c h s l p q. ((l.four p).0, omega arith); reach = λ c h. omega arith; spells = λ c l h. rw (div-div-eq-div-mul c 64 64, div-div-eq-div-mul c 4096 64) (utf8-four c l) }

-- ---- together
module _ {k base top low high : ℕ} (kind : Kind k base top low high) (b : ℕ) (bs : List ℕ) (at : ℕ) (from : base ≤ b) (to : b < top) where
  taken : (c next : ℕ) → Tail k low (b - base) bs (at + 2) (Some (c, next)) → Some (c, next) ≡ found (first (b ∷ bs)) at
  taken c next t =
      let f = t.1 in
      let u = kind.spells c f.least (kind.reach c (omega (arith, f.bits))) in
      let p : base + upper k c ≡ b = omega (arith, f.bits) in
      let e : b ∷ bs ≡ utf8 c ++ t.0 = rw (u, p) (ap (λ (l : List ℕ). b ∷ l) f.bytes-are) in
      let n : next ≡ at + 2 * length (utf8 c) = rw u (omega (arith, length-conts k c, t.2)) in
      rw (e, first-is c t.0 f.scalar, n)

  refused : Tail k low (b - base) bs (at + 2) None → (f : First) → first (b ∷ bs) ≡ f → None ≡ found f at
  refused t none h = refl
  refused t (one c rest) h =
      let s = first-starts (b ∷ bs) h in
      let l : Leads c b = rw (← s.bytes-are) at (leads c rest (scalar_below c s.scalar)) in
      let r = kind.holds c b (scalar_below c s.scalar) l from to in
      let u = kind.spells c r.0 r.1 in
      let e : b ∷ bs ≡ (base + upper k c) ∷ (conts k c ++ rest) = rw u at s.bytes-are in
      let p : b ≡ base + upper k c = cc in
      absurd (t c rest (record { bytes-are = cc; bits = omega arith; least = r.0; scalar = s.scalar }))

  pub long-form : tail_in k low (b - base) bs (at + 2) ≡ found (first (b ∷ bs)) at
  long-form = go (tail_in k low (b - base) bs (at + 2)) (tail k low (b - base) bs (at + 2))
    where
      go : (r : Option (ℕ × ℕ)) → Tail k low (b - base) bs (at + 2) r → r ≡ found (first (b ∷ bs)) at
      go (Some (c, next)) t = taken c next t
      go None t = refused t (first (b ∷ bs)) refl
