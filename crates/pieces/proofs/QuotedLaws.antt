-- Quoted text: one character by its cases, and the characters of a text from place to place. Assumes nothing.
use mathlib.Core.Path.{◌≡◌, refl, sym, ap, ◌∙◌}
use mathlib.Core.Bool.{true}
use mathlib.Core.List.{List, [], ◌∷◌, ◌++◌, append-nil}
use Prim.Native.Nat.{ℕ, ◌-◌, ◌≤◌, ◌<◌}
use native.Mathlib.Omega.{arith}
use borrow.Author.Rules.{rules}
use borrow.Author.Tests.{lt-ltb, le-ltb, le-leb, lt-leb, eq-eqb, ne_eqb}
use lib.ListN.{length, drop}
use Rattle.nibbles.specs.Utf8.{Text, text, no_text, onto}
use Rattle.nibbles.specs.Chars.{Char, char_at, text_of, is_some, is_text}
use Rattle.nibbles.proofs.Utf8.{one-within, text_at, never-bad, still-text}
use Rattle.std.specs.Prelude.{Option, Some, None, Ok, Err, IsErr}
use Rattle.std.specs.Result.{result_from_control_flow}
use Rattle.std.proofs.Common.{Break}
use Rattle.pieces.specs.Laid.{Put, Wrote}
use Rattle.pieces.specs.Quoted.{backslash, unicode, other, unquoted, escaped, escaped_all, quoted, chars_in, chars_of}
use Rattle.pieces.proofs.WritingLaws.{clash, rest, back, piece-laws, Going, going_end, going-full, loop-laws}

-- ---- one character
module _ (q c : ℕ) {d e : List ℕ} {r : Put} where
  pub escape-quote : c ≡ q → Wrote (backslash q) d e r → Wrote (escaped q c) d e r
  unfolding escaped
  escape-quote h w = rw (eq-eqb c q h) w

  module _ (h : c ≡ q → ⊥) where
    -- a character k that has a letter
    pub escape-letter : (k : ℕ) {t : List ℕ} → c ≡ k → unquoted k ≡ t → Wrote t d e r → Wrote (escaped q c) d e r
    unfolding escaped
    escape-letter k {t} z u w = rw (ne_eqb c q h, z, u) w

    -- a character that has none
    module _ (z : c ≡ 0 → ⊥) (t : c ≡ 9 → ⊥) (n : c ≡ 10 → ⊥) (l : c ≡ 13 → ⊥) (b : c ≡ 92 → ⊥) where
      as-other : Wrote (other c) d e r → Wrote (escaped q c) d e r
      unfolding escaped unquoted
      as-other w = rw (ne_eqb c q h, ne_eqb c 0 z, ne_eqb c 9 t, ne_eqb c 10 n, ne_eqb c 13 l, ne_eqb c 92 b) w

      pub escape-same : 32 ≤ c → c < 127 → Wrote (c ∷ []) d e r → Wrote (escaped q c) d e r
      unfolding other
      escape-same l h w = as-other (rw (le-ltb c 32 l, lt-leb 127 c h) w)

      pub escape-low : c < 32 → Wrote (unicode c) d e r → Wrote (escaped q c) d e r
      unfolding other
      escape-low h w = as-other (rw (lt-ltb c 32 h) w)

      pub escape-high : 32 ≤ c → 127 ≤ c → Wrote (unicode c) d e r → Wrote (escaped q c) d e r
      unfolding other
      escape-high l h w = as-other (rw (le-ltb c 32 l, le-leb 127 c h) w)

pub ruleset escape-laws = (escape-quote, escape-letter, escape-same, escape-low, escape-high, rules)

-- ---- a character between quotes
pub quoted-one : (q c : ℕ) {d e : List ℕ} {r : Put} → Wrote ((q ∷ []) ++ (escaped q c ++ (q ∷ []))) d e r → Wrote (quoted q (c ∷ [])) d e r
unfolding quoted escaped_all
quoted-one q c w = rw (append-nil (escaped q c)) w

pub ruleset char-laws = (quoted-one, piece-laws)

-- ---- a text: what is left at a place of it; o is what `char_at` answered there
module _ (s : List ℕ) (at : ℕ) (good : is_text (drop at s) ≡ true) {o : Char} (read : o ≡ char_at s at) where
  module _ {p : Option (ℕ × ℕ)} {c next : ℕ} (is : o ≡ Ok p) (one : p ≡ Some (c, next)) where
    found : char_at s at ≡ Ok (Some (c, next))
    found = sym read ∙ is ∙ ap Ok one

    pub still-good : is_text (drop next s) ≡ true
    still-good = sym (still-text s at found) ∙ good

    pub text-less : length s - next < length s - at
    text-less = let w = one-within s at found in omega (arith, w.on, w.there)

    pub text-left : escaped_all 34 (chars_of (drop at s)) ≡ escaped 34 c ++ escaped_all 34 (chars_of (drop next s))
    unfolding chars_of is_text escaped_all
    text-left = ap (λ (t : Text). escaped_all 34 (chars_in t)) (text_at s at found) ∙ go (text_of (drop next s)) still-good
      where
        go : (t : Text) → is_some t ≡ true → escaped_all 34 (chars_in (onto c t)) ≡ escaped 34 c ++ escaped_all 34 (chars_in t)
        go (text cs) h = refl
        go no_text h = clash (cc)

    -- the law of the loop with the next place in sight
    pub text-full : {whole d e f : List ℕ} {w : ℕ} {q : Put} {y : _} {z : _} {r : Put} → Going whole (escaped_all 34 (chars_of (drop at s))) d e w → Wrote (escaped 34 c) (rest e w) f q
        → q ≡ result_from_control_flow y → y ≡ Break z → IsErr r → Wrote whole d (back e w f) r
    text-full g v o k h = going-full g v o (escaped_all 34 (chars_of (drop next s))) text-left k h

  module _ {whole d e : List ℕ} {w : ℕ} (g : Going whole (escaped_all 34 (chars_of (drop at s))) d e w) where
    pub text-stop : {p : Option (ℕ × ℕ)} → o ≡ Ok p → p ≡ None → Wrote whole d e (Ok w)
    text-stop is none = going_end g (unfold chars_of escaped_all in ap (λ (t : Text). escaped_all 34 (chars_in t)) (text_at s at (sym read ∙ is ∙ ap Ok none)))

    -- a text meets no place without a character
    pub text-bad : {x : _} → o ≡ Err x → Wrote whole d e (Ok w)
    text-bad is = absurd (never-bad s at good (sym read ∙ is))

pub ruleset text-laws = (still-good, text-less, text-left, text-full, text-stop, text-bad, loop-laws)
