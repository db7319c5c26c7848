-- Identifiers: characters as UTF-8, and a name in its three forms. Assumes nothing.
use mathlib.Core.Path.{◌≡◌, refl}
use mathlib.Core.List.{List, [], ◌∷◌, ◌++◌}
use Prim.Native.Nat.{ℕ, zero, suc, ◌+◌, ◌-◌, ◌≤◌, ◌<◌}
use native.Mathlib.Omega.{arith}
use native.Mathlib.Numerals.{add-one}
use borrow.Author.Rules.{rules}
use borrow.Author.Tests.{le-leb, lt-leb, ltb-false}
use mir.Val.{Fits}
use mir.Syntax.{w8}
use lib.ListN.{length, get_or, take, drop, length-drop, drop_of_length-le}
use lib.Seq.{take_all, drop-cons, length-take-le}
use Rattle.nibbles.specs.Utf8.{utf8, encoded, Scalars}
use Rattle.nibbles.proofs.Utf8Laws.{utf8-one}
use Rattle.punycode.specs.Answer.{most, decoded, shown, count_of}
use Rattle.punycode.specs.declared.DecodeError.{DecodeError}
use Rattle.punycode.specs.declared.DecodeError.TheVariants.{Long, Broken}
use Rattle.std.specs.Prelude.{Result, Ok, Err, Option, Some, None, SomeIff, IsSome}
use Rattle.std.specs.Char.{IsScalar}
use Rattle.parser.specs.Digits.{if-then}
use Rattle.parser.specs.Scalar.{is_scalar}
use mathlib.Core.Bool.{Bool, true, false, cond, ◌&&◌}
use lib.Dec.{ltb, leb}
use lib.Utf8.{scalar, encode}
use Rattle.pieces.specs.Laid.{Put, Wrote}
use Rattle.pieces.specs.Names.{basic_part, parts, raw_name, shown_name, name_text}
use Rattle.pieces.proofs.ScalarLaws.{scalar-at, decoded-scalars}
use Rattle.pieces.proofs.WritingLaws.{clash, wrote_none, piece-laws, Going, going_end, loop-laws}

-- ---- a character as UTF-8, by the library's encoding
module _ (c : ℕ) where
  same : encode c ≡ utf8 c
  unfolding encode utf8
  same = go (ltb c 0x80) (ltb c 0x800) (ltb c 0x10000) _ _ _ _
    where
      go : (x y z : Bool) (k l m n : List ℕ) → cond x k (cond y l (cond z m n)) ≡ if-then x k (if-then y l (if-then z m n))
      go true y z k l m n = refl
      go false true z k l m n = refl
      go false false true k l m n = refl
      go false false false k l m n = refl

  pub one_byte : {d e : List ℕ} {r : Put} → c < 0x80 → Wrote (c ∷ []) d e r → Wrote (utf8 c) d e r
  one_byte h w = rw (utf8-one c h) w

  pub scalar_char : is_scalar c ≡ true → scalar c ≡ true
  unfolding is_scalar
  scalar_char h = go (ltb c 0xD800) (ltb c 0xE000) refl h
    where
      go : (x y : Bool) → ltb c 0xE000 ≡ y → if-then x true (if-then y false (ltb c 0x110000)) ≡ true → cond x true (leb 0xE000 c && ltb c 0x110000) ≡ true
      go true y e k = refl
      go false true e k = clash (cc)
      go false false e k = rw (le-leb 0xE000 c (ltb-false c 0xE000 e)) k

  -- o is what `from_u32` answered
  module _ (h : is_scalar c ≡ true) (o : Option ℕ) (made : SomeIff o (IsScalar c) c) where
    pub some_char : IsSome o
    some_char = go o made
      where
        go : (o : Option ℕ) → SomeIff o (IsScalar c) c → IsSome o
        go (Some x) k = refl
        go None k = absurd (k (scalar_char h))

    pub as_utf8 : {x : ℕ} {t u d e : List ℕ} {r : Put} → o ≡ Some x → t ≡ encode x → u ≡ t → Wrote u d e r → Wrote (utf8 c) d e r
    as_utf8 {x} q s v w = let n : x ≡ c = (rw q at made).1 in rw (v, s, n, same) at w

pub ruleset utf8-laws = (one_byte, some_char, as_utf8, rules)

-- ---- characters, from place to place
module _ (s : List ℕ) (i : ℕ) (h : i < length s) where
  pub chars-left : encoded (drop i s) ≡ utf8 (get_or s i 0) ++ encoded (drop (i + 1) s)
  unfolding encoded
  chars-left = rw (add-one, drop-cons s i 0 h)

pub chars-end : (s : List ℕ) (i : ℕ) {whole d e : List ℕ} {w : ℕ} → Going whole (encoded (drop i s)) d e w → length s ≤ i → Wrote whole d e (Ok w)
unfolding encoded
chars-end s i g h = going_end g (rw (drop_of_length-le s {i = i} h) refl)

pub ruleset encoded-laws = (scalar-at, chars-left, chars-end, loop-laws)

-- ---- a name that is shown raw
-- a part of a slice to its end
tail-is : (s : List ℕ) (a : ℕ) → take (length s - a) (drop a s) ≡ drop a s
tail-is s a = take_all (length s - a) (drop a s) (omega (arith, length-drop a s))

module _ (s : List ℕ) (a : ℕ) {d : List ℕ} where
  pub basic-none : a ≡ 0 → Wrote (basic_part (take a s)) d d (Ok 0)
  unfolding basic_part
  basic-none z = rw z (wrote_none d)

  pub basic-some : {e : List ℕ} {r : Put} → (a ≡ 0 → ⊥) → a ≤ length s → Wrote (take a s ++ (45 ∷ [])) d e r → Wrote (basic_part (take a s)) d e r
  unfolding basic_part
  basic-some z h w = rw (cut s a z h) w
    where
      cut : (s : List ℕ) (a : ℕ) → (a ≡ 0 → ⊥) → a ≤ length s → basic_part (take a s) ≡ take a s ++ (45 ∷ [])
      cut s zero z h = absurd (z refl)
      cut [] (suc a) z h = absurd (omega arith)
      cut (x ∷ s) (suc a) z h = refl

pub ruleset basic-part-laws = (basic-none, basic-some, length-take-le, rules)

pub both-parts : (s : List ℕ) (a b : ℕ) {d e : List ℕ} {r : Put} → Wrote (basic_part (take a s) ++ (take (length s - b) (drop b s) ++ (125 ∷ []))) d e r → Wrote (parts (take a s) (drop b s)) d e r
unfolding parts
both-parts s a b w = rw (← tail-is s b) w

pub ruleset parts_laws = (both-parts, piece-laws)

-- ---- a name; o is what `decode` answered, and places what it left
module _ (ascii code : ℕ) (s : List ℕ) {d e : List ℕ} {r : Put} where
  pub name-plain : length s ≤ code → Wrote (take ascii s) d e r → Wrote (name_text ascii code s) d e r
  unfolding name_text
  name-plain h w = rw (le-leb (length s) code h) w

  module _ (h : code < length s) (o : Result ℕ DecodeError) (places : List ℕ) (got : shown o places ≡ decoded ascii code s) where
    pub name-shown : {n : ℕ} → o ≡ Ok n → Wrote (encoded (take n places)) d e r → Wrote (name_text ascii code s) d e r
    unfolding name_text shown_name shown
    name-shown k w = rw (lt-leb (length s) code h, ← got, k) w

    -- an answer that is not of characters
    pub name-raw : ((n : ℕ) → o ≡ Ok n → ⊥) → Wrote (raw_name (take ascii s) (drop code s)) d e r → Wrote (name_text ascii code s) d e r
    unfolding name_text
    name-raw k w = rw (lt-leb (length s) code h, ← got) (go o k)
      where
        go : (o : Result ℕ DecodeError) → ((n : ℕ) → o ≡ Ok n → ⊥) → Wrote (shown_name (shown o places) (take ascii s) (drop code s)) d e r
        go (Ok n) k = absurd (k n refl)
        go (Err Long) k = unfold shown_name shown in w
        go (Err Broken) k = unfold shown_name shown in w

pub few-chars : (o : Result ℕ DecodeError) {n : ℕ} → count_of o ≤ most → o ≡ Ok n → n ≤ 128
few-chars o h k = rw k at h

pub name-scalars : (ascii code : ℕ) (s : List ℕ) (o : Result ℕ DecodeError) (places : List ℕ) {n : ℕ} → shown o places ≡ decoded ascii code s → o ≡ Ok n → ((i : ℕ) → Fits w8 (get_or s i 0)) → Scalars (take n places)
unfolding shown
name-scalars ascii code s o places {n} got k b = decoded-scalars ascii code s (take n places) (λ i. (b i).fits) (rw k at got)

pub ruleset name-laws = (name-plain, name-shown, name-raw, name-scalars, few-chars, length-take-le, rules)
