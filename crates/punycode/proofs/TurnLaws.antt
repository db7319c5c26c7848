-- A turn of the loop over the code: the limit on a delta refuses nothing, a turn's numbers stay small, and what the next character is. Assumes nothing.
use Rattle.std.specs.Prelude.{Option, Some, None}
use mathlib.Core.Path.{◌≡◌, refl, ap, ◌∙◌}
use mathlib.Core.Bool.{Bool, true, false}
use mathlib.Core.List.{List}
use Prim.Native.Nat.{ℕ, ◌+◌, ◌/◌, ◌%◌, ◌^◌, ◌≤◌, ◌<◌}
use native.Mathlib.Decide.{dec_lt}
use native.Mathlib.Nat.{le-div_iff_mul-le, div-le_self, mod-lt}
use native.Mathlib.Omega.{arith}
use borrow.Author.Rules.{rules}
use borrow.Author.Tests.{lt-ltb, le-ltb, ltb-true}
use mir.Val.{Fits}
use mir.Syntax.{w64}
use lib.Dec.{ltb, eqb}
use Rattle.parser.specs.Digits.{if-then}
use Rattle.parser.specs.Scalar.{is_scalar}
use Rattle.punycode.specs.Answer.{most}
use Rattle.punycode.specs.Decode.{Delta, read, unread, adapted, turn, no_turn, turn_of}
use Rattle.punycode.specs.Steps.{delta_at, limit, bias-limit, limited, as_delta, as_turn}
use Rattle.punycode.proofs.AdaptLaws.{adapted-small}

-- ---- the limit
scalar-over : (v : ℕ) → 0x110000 ≤ v → is_scalar v ≡ false
unfolding is_scalar
scalar-over v h = simp (le-ltb v 0xD800 (omega arith), le-ltb v 0xE000 (omega arith), le-ltb v 0x110000 h)

clash : {t : Bool} → t ≡ true → t ≡ false → ⊥
clash h k = let z : ◌≡◌ {A = ℕ} 0 1 = cc in omega arith

scalar-small : (v : ℕ) → is_scalar v ≡ true → v < 0x110000
scalar-small v h = elim (dec_lt v 0x110000) [
  | yes l ↦ l
  | no l ↦ absurd (clash h (scalar-over v (omega arith)))
]

limited-small : (v : Delta) {x : ℕ} {rest : List ℕ} → read x rest ≡ limited v → x < limit
unfolding limited
limited-small unread e = absurd (let z : ◌≡◌ {A = ℕ} 0 1 = cc in omega arith)
limited-small (read y more) {x} {rest} e = go (ltb y limit) refl e
  where
    go : (t : Bool) → ltb y limit ≡ t → read x rest ≡ if-then t (read y more) unread → x < limit
    go true h q = let p : x ≡ y = cc in omega (arith, ltb-true y limit h)
    go false h q = absurd (let z : ◌≡◌ {A = ℕ} 0 1 = cc in omega arith)

module _ (n i len : ℕ) (some : 1 ≤ len) (few : len ≤ most + 1) where
  -- 2^32 shared among at most 129 places is past the last scalar value
  past-scalars : (v : ℕ) → limit ≤ v → is_scalar (n + (i + v) / len) ≡ false
  past-scalars v h =
      let q : 0x110000 ≤ (i + v) / len = (le-div_iff_mul-le some).1 (omega arith) in
      scalar-over (n + (i + v) / len) (omega arith)

  below-limit : (v : ℕ) → is_scalar (n + (i + v) / len) ≡ true → v < limit
  below-limit v h = elim (dec_lt v limit) [ yes l ↦ l | no l ↦ absurd (clash h (past-scalars v (omega arith))) ]

  -- The 64-bit law: the code stops reading a delta at the limit, well before anything wraps, and a turn over whole numbers with a
  -- delta that large has no character. So no delta that whole numbers accept is refused because it is too large.
  pub limit-refuses-nothing : (v : Delta) → turn_of n i len (limited v) ≡ turn_of n i len v
  unfolding turn_of limited
  limit-refuses-nothing unread = refl
  limit-refuses-nothing (read v rest) = elim (dec_lt v limit) [
    | yes l ↦ simp (lt-ltb v limit l)
    | no l ↦ simp (le-ltb v limit (omega arith), past-scalars v (omega arith))
  ]

  -- ---- how large a turn's numbers are
  pub turn_small : (v : Delta) {m j b : ℕ} {rest : List ℕ} → turn m j b rest ≡ turn_of n i len v → (m < 0x110000) × (j < len) × (b < bias-limit)
  unfolding turn_of
  turn_small unread e = absurd (let z : ◌≡◌ {A = ℕ} 0 1 = cc in omega arith)
  turn_small (read v more) {m} {j} {b} {rest} e = go (is_scalar (n + (i + v) / len)) refl e
    where
      go : (t : Bool) → is_scalar (n + (i + v) / len) ≡ t
          → turn m j b rest ≡ if-then t (turn (n + (i + v) / len) ((i + v) % len) (adapted v len (eqb i 0)) more) no_turn
          → (m < 0x110000) × (j < len) × (b < bias-limit)
      go true h q =
          let p0 : m ≡ n + (i + v) / len = cc in
          let p1 : j ≡ (i + v) % len = cc in
          let p2 : b ≡ adapted v len (eqb i 0) = cc in
          (omega (arith, scalar-small (n + (i + v) / len) h), omega (arith, mod-lt (i + v) some), omega (arith, adapted-small v len (eqb i 0) (below-limit v h)))
      go false h q = absurd (let z : ◌≡◌ {A = ℕ} 0 1 = cc in omega arith)

-- ---- what `next_char` is left to show; r is what `read_delta` answered
module _ (s : List ℕ) (at n i bias len : ℕ) (some : 1 ≤ len) (few : len ≤ most + 1) (r : Option (ℕ × ℕ)) (got : as_delta s r ≡ limited (delta_at bias s at)) where
  turned : turn_of n i len (as_delta s r) ≡ turn_of n i len (delta_at bias s at)
  turned = ap (turn_of n i len) got ∙ limit-refuses-nothing n i len some few (delta_at bias s at)

  pub turn-none : r ≡ None → as_turn s None ≡ turn_of n i len (delta_at bias s at)
  unfolding turn_of as_turn as_delta
  turn-none e = rw e at turned

  module _ {v next : ℕ} (known : r ≡ Some (v, next)) where
    pub value-small : v < limit
    unfolding as_delta
    value-small = limited-small (delta_at bias s at) (rw known at got)

    pub turn-bad : false ≡ is_scalar (n + (i + v) / len) → as_turn s None ≡ turn_of n i len (delta_at bias s at)
    unfolding turn_of as_turn as_delta
    turn-bad e = rw (known, ← e) at turned

    pub turn-good : {b : ℕ} → true ≡ is_scalar (n + (i + v) / len) → b ≡ adapted v len (eqb i 0)
        → as_turn s (Some (record { value = n + (i + v) / len; place = (i + v) % len; bias = b; next = next })) ≡ turn_of n i len (delta_at bias s at)
    unfolding turn_of as_turn as_delta
    turn-good e q = rw q (rw (known, ← e) at turned)

  module _ {v next : ℕ} (known : r ≡ Some (v, next)) (i-small : i < 2 ^ 32) where
    pub sum_fits : Fits w64 (i + v)
    sum_fits = omega (arith, value-small known)

    pub value-fits : n < 2 ^ 32 → Fits w64 (n + (i + v) / len)
    value-fits h = omega (arith, value-small known, div-le_self (i + v) len)

pub ruleset turn_laws = (turn-none, turn-bad, turn-good, value-small, sum_fits, value-fits, rules)
