-- The digits of a number over any base from 2 on, and the numerals that the code writes: decimal by the quotient and the last digit,
-- hexadecimal by as many digits as the leading zeros leave. Assumes nothing.
use mathlib.Core.Path.{◌≡◌, refl, sym, ap, ◌∙◌}
use mathlib.Core.List.{List, [], ◌∷◌, ◌++◌, map-append}
use Prim.Native.Nat.{ℕ, zero, suc, ◌+◌, ◌-◌, ◌*◌, ◌/◌, ◌%◌, ◌^◌, ◌≤◌, ◌<◌}
use native.Mathlib.Nat.{div-lt_self, mod-eq_of_lt, div-div-eq-div-mul, div-one, div-lt_iff_lt-mul, le-div_iff_mul-le, pow-succ', pow-suc, pow-zero, pow-le-pow_right, le_trans, lt_of_lt_of_le, le-mul_of_pos_right, mul-suc}
use native.Mathlib.Decide.{dec_lt}
use native.Mathlib.Omega.{arith}
use borrow.Author.Tests.{lt-ltb, le-ltb}
use mir.Val.{Fits}
use mir.Syntax.{w64}
use lib.Dec.{T, leb, leb→le}
use lib.Pow.{pow-add, pow_mono}
use lib.Count.{count_leading_zeros, leading_le, leading_length}
use lib.ListN.{length, get_or, length-append, length-map, get_or-append}
use lib.Seq.{get_or_at}
use Rattle.pieces.specs.Laid.{Put, Wrote}
use Rattle.pieces.specs.Numeral.{numeral_in, numeral, decimal, hex_digit, hexadecimal, depth_text}
use Rattle.pieces.proofs.WritingLaws.{piece-laws, copy-laws, get_or-map-in}

one : (f b n : ℕ) → n < b → numeral_in (suc f) b n ≡ n ∷ []
unfolding numeral_in
one f b n h = rw (lt-ltb n b h, numeral_in)

more : (f b n : ℕ) → b ≤ n → numeral_in (suc f) b n ≡ numeral_in f b (n / b) ++ (n % b ∷ [])
unfolding numeral_in
more f b n h = rw (le-ltb n b h, numeral_in)

-- any bound above n gives the same digits
enough : (b : ℕ) → 1 < b → (f g n : ℕ) → n < f → n < g → numeral_in f b n ≡ numeral_in g b n
enough b h zero g n p q = absurd (omega arith)
enough b h (suc f) zero n p q = absurd (omega arith)
enough b h (suc f) (suc g) n p q = go (dec_lt n b) (λ (k : n / b < n). enough b h f g (n / b) (omega arith) (omega arith))
  where
    go : Dec (n < b) → (n / b < n → numeral_in f b (n / b) ≡ numeral_in g b (n / b)) → numeral_in (suc f) b n ≡ numeral_in (suc g) b n
    go (yes k) r = one f b n k ∙ sym (one g b n k)
    go (no k) r = more f b n (omega arith) ∙ ap (λ (l : List ℕ). l ++ (n % b ∷ [])) (r (div-lt_self (omega arith) h)) ∙ sym (more g b n (omega arith))

numeral-one : (b n : ℕ) → n < b → numeral b n ≡ n ∷ []
unfolding numeral
numeral-one b n h = one n b n h

numeral-more : (b n : ℕ) → 1 < b → b ≤ n → numeral b n ≡ numeral b (n / b) ++ (n % b ∷ [])
unfolding numeral
numeral-more b n h k =
    let less : n / b < n = div-lt_self (omega arith) h in
    more n b n k ∙ ap (λ (l : List ℕ). l ++ (n % b ∷ [])) (enough b h n (suc (n / b)) (n / b) less (omega arith))

-- ---- decimal
module _ (n : ℕ) {d e : List ℕ} {r : Put} where
  pub digit-only : n < 10 → Wrote ((48 + n) ∷ []) d e r → Wrote (decimal n) d e r
  unfolding decimal
  digit-only h w = rw (numeral-one 10 n h) w

  pub digit-last : 10 ≤ n → Wrote (decimal (n / 10) ++ ((48 + n % 10) ∷ [])) d e r → Wrote (decimal n) d e r
  unfolding decimal
  digit-last h w = rw (numeral-more 10 n (omega arith) h, map-append) w

pub falls : (n t : ℕ) → n ≡ t → 10 ≤ n → n / 10 < t
falls n t e h = omega arith

pub ruleset decimal-laws = (digit-only, digit-last, falls, piece-laws)

-- ---- a lifetime by its depth
module _ (n : ℕ) {d e : List ℕ} {r : Put} where
  pub depth-letter : n < 26 → Wrote ((97 + n) ∷ []) d e r → Wrote (depth_text n) d e r
  unfolding depth_text
  depth-letter h w = rw (lt-ltb n 26 h) w

  pub depth-number : 26 ≤ n → Wrote ((95 ∷ []) ++ decimal n) d e r → Wrote (depth_text n) d e r
  unfolding depth_text
  depth-number h w = rw (le-ltb n 26 h) w

pub ruleset depth_laws = (depth-letter, depth-number, piece-laws)

-- ---- hexadecimal
-- n digits of v
cut : ℕ → ℕ → ℕ → List ℕ
cut b zero v = []
cut b (suc n) v = cut b n (v / b) ++ (v % b ∷ [])

length_cut : (b n v : ℕ) → length (cut b n v) ≡ n
unfolding cut
length_cut b zero v = refl
length_cut b (suc n) v = let r = length_cut b n (v / b) in omega (arith, length-append (cut b n (v / b)) (v % b ∷ []))

-- v needs more than n digits
abbrev More : ℕ → ℕ → ℕ → Type 0
More b zero v = Unit {0}
More b (suc n) v = b ^ suc n ≤ v

cut-numeral : (b : ℕ) → 1 < b → (n v : ℕ) → More b n v → v < b ^ suc n → cut b (suc n) v ≡ numeral b v
unfolding cut
cut-numeral b h zero v l u =
    let s : v < b = rw (pow-succ', pow-zero, native.Mathlib.Nat.mul-one) at u in
    ap (λ (d : ℕ). d ∷ []) (mod-eq_of_lt s) ∙ sym (numeral-one b v s)
cut-numeral b h (suc n) v l u =
    let many : b ≤ v = le_trans (le-mul_of_pos_right b (rw pow-zero at (pow-le-pow_right {n = b} (omega arith) {i = 0} {j = n} (omega arith)))) (rw (← pow-succ' b n) l) in
    ap (λ (t : List ℕ). t ++ (v % b ∷ [])) (cut-numeral b h n (v / b) (low n ((le-div_iff_mul-le (omega arith)).1 (rw (← pow-suc b n) l))) ((div-lt_iff_lt-mul (omega arith)).1 (rw (← pow-suc b (suc n)) u)))
    ∙ sym (numeral-more b v h many)
  where
    low : (m : ℕ) → b ^ m ≤ v / b → More b m (v / b)
    low zero k = tt
    low (suc m) k = k

get_or-cut : (b n v i : ℕ) → i ≤ n → get_or (cut b (suc n) v) i 0 ≡ v / b ^ (n - i) % b
unfolding cut
get_or-cut b zero v i h =
    let z : i ≡ 0 = omega arith in
    rw (z, pow-zero, div-one)
get_or-cut b (suc n) v i h = go (dec_lt i (suc n)) (λ (k : i ≤ n). get_or-cut b n (v / b) i k)
  where
    go : Dec (i < suc n) → (i ≤ n → get_or (cut b (suc n) (v / b)) i 0 ≡ v / b / b ^ (n - i) % b) → get_or (cut b (suc n) (v / b) ++ (v % b ∷ [])) i 0 ≡ v / b ^ (suc n - i) % b
    go (yes k) r =
        let e : suc n - i ≡ suc (n - i) = omega arith in
        get_or-append (cut b (suc n) (v / b)) (v % b ∷ []) 0 i (omega (arith, length_cut b (suc n) (v / b))) ∙ r (omega arith) ∙ rw (e, pow-succ', div-div-eq-div-mul)
    go (no k) r =
        let e : suc n - i ≡ 0 = omega arith in
        let z : suc n ≡ i = omega arith in
        get_or_at (cut b (suc n) (v / b)) (v % b) [] 0 i (length_cut b (suc n) (v / b) ∙ z) ∙ rw (e, pow-zero, div-one)

-- ---- sixteen is 2 ^ 4
sixteen : (k : ℕ) → 2 ^ (4 * k) ≡ 16 ^ k
sixteen zero = refl
sixteen (suc k) = rw (mul-suc 4 k, pow-add 2 (4 * k) 4, sixteen k, pow-suc 16 k)

-- the digits that the leading zeros leave
abbrev needed : ℕ → ℕ
needed v = (67 - count_leading_zeros 64 v) / 4

module _ (v : ℕ) (pos : v ≡ 0 → ⊥) (f : Fits w64 v) where
  last : ℕ
  last = needed v - 1

  bits : ℕ
  bits = (leading_length 64 v f.fits).0

  some : 1 ≤ bits
  unfolding bits
  some = elim (dec_lt 0 bits) [ yes k ↦ k | no k ↦ absurd (few (omega arith)) ]
    where
      few : bits ≡ 0 → ⊥
      few z = let w : v < 2 ^ 0 = rw z at (leading_length 64 v f.fits).2 in omega arith

  needed-some : (1 ≤ needed v) × (needed v ≤ 16)
  unfolding bits
  needed-some = let m = (leading_length 64 v f.fits).1 in let s : 1 ≤ bits = some in (omega arith, omega arith)

  below : v < 16 ^ suc last
  unfolding bits last
  below =
      let m = (leading_length 64 v f.fits).1 in
      let s = needed-some in
      rw (← sixteen (suc (needed v - 1))) (lt_of_lt_of_le (leading_length 64 v f.fits).2 (pow_mono (omega arith)))

  above : (n : ℕ) → n ≡ last → More 16 n v
  unfolding bits last
  above zero e = tt
  above (suc n) e =
      let m = (leading_length 64 v f.fits).1 in
      let t : suc (bits - 1) ≡ bits = let s : 1 ≤ bits = some in omega arith in
      let half : 2 ^ (bits - 1) * 2 ≤ 2 * v + 1 = rw (← pow-suc 2 (bits - 1), t) (leading_length 64 v f.fits).3 in
      le_trans (rw (← sixteen (suc n)) (pow_mono (let s : 1 ≤ bits = some in omega arith))) (let q : 2 ^ (bits - 1) ≤ v = omega arith in q)

  digits_are : cut 16 (suc last) v ≡ numeral 16 v
  digits_are = cut-numeral 16 (omega arith) last v (above last refl) below

  pub hex-size : length (hexadecimal v) ≡ needed v
  unfolding hexadecimal last
  hex-size = length-map (numeral 16 v) hex_digit ∙ sym (ap length digits_are) ∙ length_cut 16 (suc last) v ∙ (let s = needed-some in omega arith)

  module _ {i : ℕ} (h : i < needed v) where
    pub hex-byte : {b : ℕ} → b ≡ hex_digit (v / 2 ^ (4 * (needed v - 1 - i)) % 16) → b ≡ get_or (hexadecimal v) i 0
    unfolding hexadecimal last
    hex-byte q =
        let s = needed-some in
        let n : length (numeral 16 v) ≡ suc last = sym (ap length digits_are) ∙ length_cut 16 (suc last) v in
        q
        ∙ ap hex_digit (rw (sixteen (needed v - 1 - i)) (sym (get_or-cut 16 last v i (omega arith)) ∙ ap (λ (l : List ℕ). get_or l i 0) digits_are))
        ∙ sym (get_or-map-in hex_digit (numeral 16 v) i (omega (arith, n)))

    -- the digits' places are within 64 bits
    pub shift_fits : Fits w64 (4 * (needed v - 1 - i))
    shift_fits = let s = needed-some in omega arith

    pub shift_small : 4 * (needed v - 1 - i) < 64
    shift_small = let s = needed-some in omega arith

pub zeros-few : (v n : ℕ) → T (leb 64 n) → count_leading_zeros 64 v ≤ n
zeros-few v n t = omega (arith, leading_le 64 v, leb→le 64 n t)

pub hex-zero : (v : ℕ) {d e : List ℕ} {r : Put} → v ≡ 0 → Wrote (48 ∷ []) d e r → Wrote (hexadecimal v) d e r
unfolding hexadecimal hex_digit
hex-zero v z w = rw (z, numeral-one 16 0 (omega arith)) w

pub ruleset hex-laws = (hex-zero, hex-size, hex-byte, shift_fits, shift_small, zeros-few, copy-laws)

module _ (n : ℕ) where
  pub digit_low : n < 10 → 48 + n ≡ hex_digit n
  unfolding hex_digit
  digit_low h = rw (lt-ltb n 10 h)

  pub digit-high : 10 ≤ n → 87 + n ≡ hex_digit n
  unfolding hex_digit
  digit-high h = rw (le-ltb n 10 h)

pub ruleset digit_laws = (digit_low, digit-high)
