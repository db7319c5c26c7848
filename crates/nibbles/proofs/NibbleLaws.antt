-- Pairs of nibbles: the bytes that they spell, a part of them at a time, and the character at a place. Assumes nothing.
use mathlib.Core.Path.{◌≡◌, refl, ap, subst, ◌∙◌}
use mathlib.Core.Bool.{Bool, true, false}
use mathlib.Core.List.{List, [], ◌∷◌, ◌++◌}
use Prim.Native.Nat.{ℕ, suc, ◌+◌, ◌*◌, ◌≤◌, ◌<◌}
use native.Mathlib.Omega.{arith}
use borrow.Author.Tests.{lt-ltb, ltb-true}
use lib.Dec.{ltb}
use lib.ListN.{length, drop}
use lib.Seq.{drop-drop}
use Rattle.parser.specs.Digits.{if-then, digit_of}
use Rattle.nibbles.specs.Utf8.{utf8, Starts, First, one, none, first}
use Rattle.std.specs.Prelude.{Some, None, Ok, Err}
use Rattle.nibbles.specs.Chars.{Spells, empty, pair, octets, found, Char, char_of, char_in, char_at}
use Rattle.nibbles.proofs.Utf8Laws.{clash, first-starts}

-- a pair that spells a byte
pub octets-pair : (h l : ℕ) (s : List ℕ) → digit_of h < 16 → digit_of l < 16 → octets (h ∷ l ∷ s) ≡ (digit_of h * 16 + digit_of l) ∷ octets s
unfolding octets
octets-pair h l s p q = rw (lt-ltb (digit_of h) 16 p, lt-ltb (digit_of l) 16 q)

-- ---- a text whose pairs spell a first byte
pub record Pair (h l b : ℕ) (s bs : List ℕ) : Type 0 where
  pub high : digit_of h < 16
  pub low : digit_of l < 16
  pub byte : digit_of h * 16 + digit_of l ≡ b
  pub others : octets s ≡ bs

pub pair_of : (h l : ℕ) (s : List ℕ) {b : ℕ} {bs : List ℕ} → octets (h ∷ l ∷ s) ≡ b ∷ bs → Pair h l b s bs
unfolding octets
pair_of h l s {b} {bs} e = go (ltb (digit_of h) 16) refl (ltb (digit_of l) 16) refl e
  where
    go : (t : Bool) → ltb (digit_of h) 16 ≡ t → (u : Bool) → ltb (digit_of l) 16 ≡ u → if-then t (if-then u ((digit_of h * 16 + digit_of l) ∷ octets s) []) [] ≡ b ∷ bs → Pair h l b s bs
    go true p true q k = record { high = ltb-true (digit_of h) 16 p; low = ltb-true (digit_of l) 16 q; byte = cc; others = cc }
    go true p false q k = clash (cc)
    go false p u q k = clash (cc)

-- after the pairs that spell xs
pub record Past (s xs ys : List ℕ) : Type 0 where
  pub fit : 2 * length xs ≤ length s
  pub others : octets (drop (2 * length xs) s) ≡ ys

pub past : (xs s ys : List ℕ) → octets s ≡ xs ++ ys → Past s xs ys
past [] s ys e = record { fit = omega arith; others = e }
past (x ∷ xs) [] ys e = clash (unfold octets in cc)
past (x ∷ xs) (h ∷ []) ys e = clash (unfold octets in cc)
past (x ∷ xs) (h ∷ l ∷ s) ys e =
    let p : Past s xs ys = past xs s ys (pair_of h l s e).others in
    let t : 2 * suc (length xs) ≡ suc (suc (2 * length xs)) = omega arith in
    record { fit = omega (arith, p.fit); others = rw t p.others }

-- ---- relation and function
pub spelled : {s bytes : List ℕ} → Spells s bytes → (octets s ≡ bytes) × (2 * length bytes ≡ length s)
spelled empty = (unfold octets in refl, omega arith)
spelled (pair {h} {l} {s} {bytes} p q r) =
    let i = spelled r in
    (octets-pair h l s p q ∙ ap (λ (bs : List ℕ). (digit_of h * 16 + digit_of l) ∷ bs) i.0, omega (arith, i.1))

pub spells : (s : List ℕ) → 2 * length (octets s) ≡ length s → Spells s (octets s)
unfolding octets
spells [] e = empty
spells (h ∷ []) e = absurd (omega arith)
spells (h ∷ l ∷ s) e = go (λ q. spells s q) (ltb (digit_of h) 16) refl (ltb (digit_of l) 16) refl e
  where
    go : (2 * length (octets s) ≡ length s → Spells s (octets s)) → (t : Bool) → ltb (digit_of h) 16 ≡ t → (u : Bool) → ltb (digit_of l) 16 ≡ u → 2 * length (if-then t (if-then u ((digit_of h * 16 + digit_of l) ∷ octets s) []) []) ≡ suc (suc (length s)) → Spells (h ∷ l ∷ s) (if-then t (if-then u ((digit_of h * 16 + digit_of l) ∷ octets s) []) [])
    go r true p true q k = pair (ltb-true (digit_of h) 16 p) (ltb-true (digit_of l) 16 q) (r (omega arith))
    go r true p false q k = absurd (omega arith)
    go r false p u q k = absurd (omega arith)

-- ---- what an answer of `char_at` says
pub record Reads (s : List ℕ) (at c next : ℕ) (rest : List ℕ) : Type 0 where
  pub starts : Starts c rest (octets (drop at s))
  pub place : next ≡ at + 2 * length (utf8 c)
  pub fit : 2 * length (utf8 c) ≤ length (drop at s)
  pub others : octets (drop next s) ≡ rest

pub record NoChar (s : List ℕ) (at : ℕ) : Type 0 where
  pub some : 1 ≤ length (drop at s)
  pub none_first : first (octets (drop at s)) ≡ none

abbrev pub Says : List ℕ → ℕ → Char → Type 0
Says s at (Ok (Some (c, next))) = (rest : List ℕ) × Reads s at c next rest
Says s at (Ok None) = drop at s ≡ []
Says s at (Err e) = NoChar s at

pub says : (s : List ℕ) (at : ℕ) {r : Char} → char_at s at ≡ r → Says s at r
unfolding char_at
says s at {r} e = subst (Says s at) e (go (drop at s) refl)
  where
    turn : (b : ℕ) (l : List ℕ) → drop at s ≡ b ∷ l → (f : First) → first (octets (b ∷ l)) ≡ f → Says s at (char_of (found f at))
    turn b l k (one c rest) h =
        let t : Starts c rest (octets (drop at s)) = first-starts (octets (drop at s)) (rw k h) in
        let p = past (utf8 c) (drop at s) rest t.bytes-are in
        (rest, record { starts = t; place = refl; fit = p.fit; others = rw drop-drop at p.others })
    turn b l k none h = record { some = rw k (omega arith); none_first = rw k h }

    go : (l : List ℕ) → drop at s ≡ l → Says s at (char_in l at)
    go [] h = h
    go (b ∷ l) h = turn b l h (first (octets (b ∷ l))) refl
