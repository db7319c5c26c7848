-- Single bytes: the text that is left at a place, by whether the place is inside, and what `eat`, `next` and `namespace` answer. Assumes nothing.
use Rattle.parser.specs.Bytes.{read}
use Rattle.std.specs.Prelude.{Option, Some, None}
use mathlib.Core.Path.{◌≡◌, sym}
use mathlib.Core.List.{List}
use Prim.Native.Nat.{ℕ, ◌+◌, ◌≤◌, ◌<◌}
use native.Mathlib.Decide.{dec_lt}
use native.Mathlib.Omega.{arith}
use borrow.Author.Rules.{rules}
use borrow.Author.Tests.{le-leb, lt-leb, eq-eqb, ne_eqb}
use lib.ListN.{length, get_or, drop_of_length-le, get_or-eq_default}
use lib.Seq.{drop-cons}
use Rattle.parser.specs.Digits.{within}
use Rattle.parser.specs.Bytes.{past, past_first, byte_at, first_byte, space_at, space_of}

-- past the end the byte is 0
pub past_end : (s : List ℕ) (i : ℕ) → length s ≤ i → 0 ≡ get_or s i 0
past_end s i h = sym (get_or-eq_default s 0 h)

-- a byte that is not 0 stands within the text
pub inside : (s : List ℕ) (i : ℕ) {p : ℕ} → p ≡ get_or s i 0 → 0 < p → i < length s
inside s i {p} e h = elim (dec_lt i (length s)) [ yes k ↦ k | no k ↦ absurd (out k) ]
  where
    out : ¬ (i < length s) → ⊥
    out k = let z : 0 ≡ get_or s i 0 = past_end s i (omega arith) in omega arith

pub ruleset peek_laws = (past_end, rules)

module _ (s : List ℕ) (at b : ℕ) where
  pub eat-past : length s ≤ at → at ≡ past b s at
  unfolding past past_first
  eat-past h = rw (drop_of_length-le s h)

  pub eat-other : at < length s → (get_or s at 0 ≡ b → ⊥) → at ≡ past b s at
  unfolding past past_first
  eat-other h k = rw (drop-cons s at 0 h, ne_eqb (get_or s at 0) b k)

  pub eat-same : at < length s → get_or s at 0 ≡ b → at + 1 ≡ past b s at
  unfolding past past_first
  eat-same h k = rw (drop-cons s at 0 h, eq-eqb (get_or s at 0) b k)

pub ruleset eat_laws = (eat-past, eat-other, eat-same, rules)

module _ (s : List ℕ) (at : ℕ) where
  pub next_past : length s ≤ at → None ≡ byte_at s at
  unfolding byte_at first_byte
  next_past h = rw (drop_of_length-le s h)

  pub next-read : at < length s → read (get_or s at 0) (at + 1) ≡ byte_at s at
  unfolding byte_at first_byte
  next-read h = rw (drop-cons s at 0 h)

pub ruleset next_laws = (next_past, next-read, rules)

-- n is what `next` answered
module _ (s : List ℕ) (at : ℕ) {n : Option (ℕ × ℕ)} (answered : n ≡ byte_at s at) where
  pub space-none : n ≡ None → None ≡ space_at s at
  unfolding space_at space_of
  space-none k = rw (← answered, k)

  module _ {c e : ℕ} (known : n ≡ Some (c, e)) where
    pub space-special : 65 ≤ c → c < 91 → read (Some c) e ≡ space_at s at
    unfolding space_at space_of within
    space-special h k = rw (← answered, known, le-leb 65 c h, le-leb c 90 (omega arith))

    pub space-plain : 97 ≤ c → c < 123 → read None e ≡ space_at s at
    unfolding space_at space_of within
    space-plain h k =
        rw (← answered, known, le-leb 65 c (omega arith), lt-leb c 90 (omega arith), le-leb 97 c h, le-leb c 122 (omega arith))

    pub space-below : c < 65 → None ≡ space_at s at
    unfolding space_at space_of within
    space-below h = rw (← answered, known, lt-leb 65 c h, lt-leb 97 c (omega arith))

    pub space-between : 90 < c → c < 97 → None ≡ space_at s at
    unfolding space_at space_of within
    space-between h k = rw (← answered, known, le-leb 65 c (omega arith), lt-leb c 90 h, lt-leb 97 c k)

    pub space-above : 122 < c → None ≡ space_at s at
    unfolding space_at space_of within
    space-above h =
        rw (← answered, known, le-leb 65 c (omega arith), lt-leb c 90 (omega arith), le-leb 97 c (omega arith), lt-leb c 122 h)

pub ruleset space_laws = (space-none, space-special, space-plain, space-below, space-between, space-above, rules)
