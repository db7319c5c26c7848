-- What the readers of one number answer, from what they were answered. Assumes nothing.
use Rattle.parser.specs.Bytes.{read}
use Rattle.parser.specs.Number.{fits, over}
use Rattle.std.specs.Prelude.{Option, Some, None, Result, Ok, Err}
use Rattle.std.specs.Result.{result_ok}
use Rattle.std.proofs.lemmas.Option.{some_pair_parts}
use mathlib.Core.Path.{◌≡◌, refl, sym, ap, ◌∙◌}
use mathlib.Core.Bool.{Bool, true, false}
use mathlib.Core.List.{List, [], ◌∷◌}
use Prim.Native.Nat.{ℕ, zero, suc, ◌+◌, ◌-◌, ◌^◌, ◌≤◌, ◌<◌}
use native.Mathlib.Omega.{arith}
use native.Mathlib.Nat.{add-zero}
use borrow.Author.Tests.{lt-ltb, le-ltb, eq-eqb, ne_eqb, ltb-true, ltb-false}
use borrow.Author.Rules.{rules}
use mir.Val.{Fits as Fits·}
use mir.Syntax.{w64}
use lib.Dec.{ltb, eqb}
use lib.ListN.{length, get_or, drop}
use Rattle.parser.specs.Digits.{if-then, within, digit_of, digits, value}
use Rattle.parser.specs.Bytes.{past}
use Rattle.parser.specs.Number.{first_digit, digit_at, number_at, small, counted, integer62, raised, optional62, decimal, length10, hex_at, below, back_at}
use Rattle.parser.proofs.ByteLaws.{inside}
use Rattle.parser.proofs.DigitLaws.{digits-none, digits_more, digits-past}

-- both ways the same
if-same : {A : Type 0} (t : Bool) (a : A) → if-then t a a ≡ a
if-same true a = refl
if-same false a = refl

-- ---- what an answer of `number` says
pub record Got (b : ℕ) (s : List ℕ) (at x e : ℕ) : Type 0 where
  pub end : at + length (digits b (drop at s)) ≡ e
  pub is : value b (digits b (drop at s)) ≡ x
  pub fits : x < 2 ^ 64

pub record Passed (b : ℕ) (s : List ℕ) (at e : ℕ) : Type 0 where
  pub end : at + length (digits b (drop at s)) ≡ e
  pub big : 2 ^ 64 ≤ value b (digits b (drop at s))

module _ {b : ℕ} {s : List ℕ} {at : ℕ} where
  pub got : {x e : ℕ} → fits x e ≡ number_at b s at → Got b s at x e
  unfolding number_at
  got {x} {e} q = go (ltb (value b (digits b (drop at s))) (2 ^ 64)) refl q
    where
      go : (t : Bool) → ltb (value b (digits b (drop at s))) (2 ^ 64) ≡ t → fits x e ≡ if-then t (fits (value b (digits b (drop at s))) (at + length (digits b (drop at s)))) (over (at + length (digits b (drop at s)))) → Got b s at x e
      go true h p =
          let both : ◌≡◌ {A = ℕ × ℕ} (x, e) (value b (digits b (drop at s)), at + length (digits b (drop at s))) = cc in
          let v : value b (digits b (drop at s)) ≡ x = sym (ap (λ (y : ℕ × ℕ). y.0) both) in
          record { end = sym (ap (λ (y : ℕ × ℕ). y.1) both); is = v; fits = rw v at (ltb-true (value b (digits b (drop at s))) (2 ^ 64) h) }
      go false h p = absurd (let z : ◌≡◌ {A = ℕ} 0 1 = cc in omega arith)

  pub passed : {e : ℕ} → over e ≡ number_at b s at → Passed b s at e
  unfolding number_at
  passed {e} q = go (ltb (value b (digits b (drop at s))) (2 ^ 64)) refl q
    where
      go : (t : Bool) → ltb (value b (digits b (drop at s))) (2 ^ 64) ≡ t → over e ≡ if-then t (fits (value b (digits b (drop at s))) (at + length (digits b (drop at s)))) (over (at + length (digits b (drop at s)))) → Passed b s at e
      go true h p = absurd (let z : ◌≡◌ {A = ℕ} 0 1 = cc in omega arith)
      go false h p = record { end = cc; big = ltb-false _ _ h }

-- ---- a number that fits, and one that does not
small-fits : (v n : ℕ) → v < 2 ^ 64 → small v n ≡ Some (v, n)
unfolding small
small-fits v n h = simp (lt-ltb v (2 ^ 64) h)

small-over : (v n : ℕ) → 2 ^ 64 ≤ v → small v n ≡ None
unfolding small
small-over v n h = simp (le-ltb v (2 ^ 64) h)

-- the place after a `_` fits
pub after-fits : (s : List ℕ) (i p : ℕ) → p ≡ get_or s i 0 → p ≡ 95 → length s < 2 ^ 64 → Fits· w64 (i + 1)
after-fits s i p e h k = omega (arith, inside s i e (omega arith))

-- ---- one digit: d is what `digit` answered
module _ (b : ℕ) (s : List ℕ) (at : ℕ) where
  pub digit-past : length s ≤ at → None ≡ digit_at b s at
  unfolding digit_at first_digit
  digit-past h = rw (digits-past b s at h)

  module _ {d : ℕ} (counts : d ≡ digit_of (get_or s at 0)) where
    pub digit-none : b ≤ d → None ≡ digit_at b s at
    unfolding digit_at first_digit
    digit-none h = rw (digits-none b s at (omega arith))

    pub digit-some : at < length s → d < b → read d (at + 1) ≡ digit_at b s at
    unfolding digit_at first_digit
    digit-some h k = rw (digits_more b s at h (omega arith), ← counts)

pub ruleset digit_at_laws = (digit-past, digit-none, digit-some, rules)

-- ---- base 62: p and q are what `peek` answered, n what `number` answered
counted-more : (ds : List ℕ) → value 62 ds ≤ counted ds
unfolding counted value
counted-more [] = omega arith
counted-more (d ∷ ds) = omega arith

counted-some : (ds : List ℕ) → 1 ≤ length ds → counted ds ≡ value 62 ds + 1
unfolding counted
counted-some [] h = absurd (omega arith)
counted-some (d ∷ ds) h = refl

digit-95 : 62 ≤ digit_of 95
unfolding digit_of within
digit-95 = omega arith

module _ (s : List ℕ) (at p : ℕ) (peeked : p ≡ get_or s at 0) where
  pub integer-zero : p ≡ 95 → read 0 (at + 1) ≡ integer62 s at
  unfolding integer62 counted small
  integer-zero h =
      let none : digits 62 (drop at s) ≡ [] = digits-none 62 s at (rw (← peeked, h) (digit-95)) in
      rw (none, add-zero, eq-eqb (get_or s at 0) 95 (sym peeked ∙ h))

  module _ (first : p ≡ 95 → ⊥) (n : Result (ℕ × ℕ) ℕ) (numbered : n ≡ number_at 62 s at) where
    pub integer-over : (e : ℕ) → n ≡ over e → None ≡ integer62 s at
    unfolding integer62
    integer-over e k =
        let ds : List ℕ = digits 62 (drop at s) in
        rw (small-over (counted ds) (at + length ds + 1) (omega (arith, (passed (sym k ∙ numbered)).big, counted-more ds)))
        (sym (if-same (eqb (get_or s (at + length ds) 0) 95) None))

    module _ (x e q : ℕ) (known : n ≡ fits x e) (last : q ≡ get_or s e 0) where
      g : Got 62 s at x e
      g = got (sym known ∙ numbered)

      pub integer-open : (q ≡ 95 → ⊥) → None ≡ integer62 s at
      unfolding integer62
      integer-open h = rw (g.end, ne_eqb (get_or s e 0) 95 (λ k. h (last ∙ k)))

      -- the number of at least one digit
      more : q ≡ 95 → counted (digits 62 (drop at s)) ≡ x + 1
      more h =
          let apart : at ≡ e → ⊥ = λ k. first (peeked ∙ ap (λ (i : ℕ). get_or s i 0) k ∙ sym last ∙ h) in
          counted-some (digits 62 (drop at s)) (omega (arith, g.end)) ∙ ap (λ (v : ℕ). v + 1) g.is

      pub integer-max : q ≡ 95 → x ≡ 0xffff_ffff_ffff_ffff → None ≡ integer62 s at
      unfolding integer62
      integer-max h k = rw (g.end, eq-eqb (get_or s e 0) 95 (sym last ∙ h), more h, small-over (x + 1) (e + 1) (omega arith))

      pub integer-value : q ≡ 95 → (x ≡ 0xffff_ffff_ffff_ffff → ⊥) → read (x + 1) (e + 1) ≡ integer62 s at
      unfolding integer62
      integer-value h k =
          rw (g.end, eq-eqb (get_or s e 0) 95 (sym last ∙ h), more h, small-fits (x + 1) (e + 1) (omega (arith, g.fits)))

pub ruleset integer_laws = (integer-zero, after-fits, integer-over, integer-open, integer-max, integer-value, rules)

-- ---- an optional number after a tag: m is what `eat` answered, n what `integer_62` answered
module _ (s : List ℕ) (at tag m : ℕ) (eaten : m ≡ past tag s at) where
  pub optional-absent : m ≡ at → read 0 at ≡ optional62 tag s at
  unfolding optional62
  optional-absent h = rw (eq-eqb (past tag s at) at (sym eaten ∙ h))

  module _ (n : Option (ℕ × ℕ)) (tagged : m ≡ at → ⊥) (answered : n ≡ integer62 s m) where
    -- behind the tag
    behind : {r : Option (ℕ × ℕ)} → r ≡ raised n → r ≡ optional62 tag s at
    unfolding optional62
    behind k = rw (ne_eqb (past tag s at) at (λ e. tagged (eaten ∙ e)), ← eaten, ← answered) k

    pub optional-invalid : n ≡ None → None ≡ optional62 tag s at
    unfolding raised
    optional-invalid k = behind (rw k)

    module _ (x e : ℕ) (known : n ≡ Some (x, e)) where
      pub optional-max : x ≡ 0xffff_ffff_ffff_ffff → None ≡ optional62 tag s at
      unfolding raised
      optional-max k = behind (rw (known, small-over (x + 1) e (omega arith)))

      pub optional-value : x < 2 ^ 64 → (x ≡ 0xffff_ffff_ffff_ffff → ⊥) → read (x + 1) e ≡ optional62 tag s at
      unfolding raised
      optional-value h k = behind (rw (known, small-fits (x + 1) e (omega arith)))

pub ruleset optional_laws = (optional-absent, optional-invalid, optional-max, optional-value, rules)

-- ---- an identifier's length: m is what `digit_at` answered, n what `number` answered
decimal-zero : (d e at : ℕ) (ds others : List ℕ) → ds ≡ d ∷ others → e ≡ at + 1 → d ≡ 0 → read 0 e ≡ decimal ds at
unfolding decimal
decimal-zero d e at ds others are next z = rw (are, z, next)

decimal-nonzero : (d : ℕ) (ds : List ℕ) (at : ℕ) → (d ≡ 0 → ⊥) → decimal (d ∷ ds) at ≡ small (value 10 (d ∷ ds)) (at + length (d ∷ ds))
unfolding decimal
decimal-nonzero zero ds at h = absurd (h refl)
decimal-nonzero (suc d) ds at h = refl

-- the digits start with d, which was read
record Leads (ds : List ℕ) (at d e : ℕ) : Type 0 where
  others : List ℕ
  are : ds ≡ d ∷ others
  next : e ≡ at + 1

leads : (ds : List ℕ) {at d e : ℕ} → read d e ≡ first_digit ds at → Leads ds at d e
unfolding first_digit
leads [] h = absurd (let z : ◌≡◌ {A = ℕ} 0 1 = cc in omega arith)
leads (c ∷ cs) {at} {d} {e} h = let both = some_pair_parts d c e (at + 1) h in record { others = cs; are = ap (λ (v : ℕ). v ∷ cs) (sym both.0); next = both.1 }

no-decimal : (ds : List ℕ) (at : ℕ) → None ≡ first_digit ds at → None ≡ decimal ds at
unfolding first_digit decimal
no-decimal [] at h = refl
no-decimal (c ∷ cs) at h = absurd (let z : ◌≡◌ {A = ℕ} 0 1 = cc in omega arith)

module _ (s : List ℕ) (at : ℕ) (m : Option (ℕ × ℕ)) (answered : m ≡ digit_at 10 s at) where
  pub length_none : m ≡ None → None ≡ length10 s at
  unfolding length10 digit_at
  length_none k = no-decimal (digits 10 (drop at s)) at (sym k ∙ answered)

  module _ (d e : ℕ) (known : m ≡ Some (d, e)) where
    lead : Leads (digits 10 (drop at s)) at d e
    unfolding digit_at
    lead = leads (digits 10 (drop at s)) (sym known ∙ answered)

    pub length-zero : d ≡ 0 → read 0 e ≡ length10 s at
    unfolding length10
    length-zero z = decimal-zero d e at (digits 10 (drop at s)) lead.others lead.are lead.next z

    module _ (some : d ≡ 0 → ⊥) (n : Result (ℕ × ℕ) ℕ) (numbered : n ≡ number_at 10 s at) where
      many : length10 s at ≡ small (value 10 (digits 10 (drop at s))) (at + length (digits 10 (drop at s)))
      unfolding length10
      many = rw lead.are (decimal-nonzero d lead.others at some)

      -- what `ok` makes of what `number` answered
      pub length-rest : {r : Option (ℕ × ℕ)} → r ≡ result_ok n → r ≡ length10 s at
      length-rest h = h ∙ go n numbered
        where
          go : (v : Result (ℕ × ℕ) ℕ) → v ≡ number_at 10 s at → result_ok v ≡ length10 s at
          go (Ok (x, f)) k =
              let g : Got 10 s at x f = got k in
              rw (many, g.is, g.end, small-fits x f g.fits)
          go (Err f) k = rw (many, small-over _ _ (passed k).big)

pub ruleset length_laws = (length_none, length-zero, length-rest, rules)

-- ---- hex nibbles: p is what `peek` answered at their end
module _ (s : List ℕ) (at e p : ℕ) (end : e ≡ at + length (digits 16 (drop at s))) (peeked : p ≡ get_or s e 0) where
  pub hex-open : (p ≡ 95 → ⊥) → None ≡ hex_at s at
  unfolding hex_at
  hex-open h = rw (← end, ne_eqb (get_or s e 0) 95 (λ k. h (peeked ∙ k)))

  pub hex-to : p ≡ 95 → read e (e + 1) ≡ hex_at s at
  unfolding hex_at
  hex-to h = rw (← end, eq-eqb (get_or s e 0) 95 (sym peeked ∙ h))

pub ruleset hex_laws = (hex-open, hex-to, after-fits, rules)

-- ---- back references: n is what `integer_62` answered
module _ (s : List ℕ) (at : ℕ) (n : Option (ℕ × ℕ)) (answered : n ≡ integer62 s at) where
  pub back-invalid : n ≡ None → None ≡ back_at s at
  unfolding back_at below
  back-invalid k = rw (← answered, k)

  module _ (v e : ℕ) (known : n ≡ Some (v, e)) where
    ahead : at - 1 ≤ v → None ≡ back_at s at
    unfolding back_at below
    ahead h = rw (← answered, known, le-ltb v (at - 1) h)

    pub back_start : at ≡ 0 → None ≡ back_at s at
    back_start h = ahead (omega arith)

    pub back-ahead : (at ≡ 0 → ⊥) → at - 1 ≤ v → None ≡ back_at s at
    back-ahead h k = ahead k

    pub back_target : (at ≡ 0 → ⊥) → v < at - 1 → read v e ≡ back_at s at
    unfolding back_at below
    back_target h k = rw (← answered, known, lt-ltb v (at - 1) k)

pub ruleset back_laws = (back-invalid, back_start, back-ahead, back_target, rules)
