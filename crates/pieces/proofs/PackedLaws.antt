-- Short texts as numbers of base 256: the bytes of a number, one a turn, and the numbers that the code has. Assumes nothing.
use mathlib.Core.Path.{◌≡◌, refl, sym, ap, ◌∙◌}
use mathlib.Core.List.{List, ◌∷◌}
use Prim.Native.Nat.{ℕ, zero, suc, ◌+◌, ◌-◌, ◌/◌, ◌%◌, ◌^◌, ◌≤◌, ◌<◌}
use native.Mathlib.Nat.{div-lt_self, div-lt_iff_lt-mul, pow-suc, pow-zero}
use native.Mathlib.Omega.{arith}
use borrow.Author.Rules.{rules}
use borrow.Author.Tests.{ne_eqb}
use lib.ListN.{length, set}
use Rattle.std.specs.Prelude.{Ok, Err}
use Rattle.pieces.specs.Laid.{no_room, Wrote}
use Rattle.pieces.specs.Packed.{bytes_in, bytes_of}
use Rattle.pieces.proofs.WritingLaws.{Going, going_start, going-size, going_end, byte_next, byte-stop}

one_more : (f n : ℕ) → (n ≡ 0 → ⊥) → bytes_in (suc f) n ≡ n % 256 ∷ bytes_in f (n / 256)
unfolding bytes_in
one_more f n h = rw (ne_eqb n 0 h, bytes_in)

-- any bound above n gives the same bytes
enough : (f g n : ℕ) → n < f → n < g → bytes_in f n ≡ bytes_in g n
unfolding bytes_in
enough zero g n p q = absurd (omega arith)
enough (suc f) zero n p q = absurd (omega arith)
enough (suc f) (suc g) zero p q = refl
enough (suc f) (suc g) (suc m) p q =
    let some : suc m ≡ 0 → ⊥ = λ e. omega arith in
    let less : suc m / 256 < suc m = div-lt_self (omega arith) (omega arith) in
    one_more f (suc m) some ∙ ap (λ (l : List ℕ). suc m % 256 ∷ l) (enough f g (suc m / 256) (omega arith) (omega arith)) ∙ sym (one_more g (suc m) some)

more : (n : ℕ) → (n ≡ 0 → ⊥) → bytes_of n ≡ n % 256 ∷ bytes_of (n / 256)
unfolding bytes_of
more n h =
    let less : n / 256 < n = div-lt_self (omega arith) (omega arith) in
    one_more n n h ∙ ap (λ (l : List ℕ). n % 256 ∷ l) (enough n (suc (n / 256)) (n / 256) less (omega arith))

-- so many bytes hold what is left
pub packed-room : (n i : ℕ) → n < 256 ^ (8 - i) → i < 8 → n / 256 < 256 ^ (8 - (i + 1))
packed-room n i u h =
    let e : 8 - i ≡ suc (8 - (i + 1)) = omega arith in
    (div-lt_iff_lt-mul (omega arith)).1 (rw (← pow-suc 256 (8 - (i + 1)), ← e) u)

module _ {whole d e : List ℕ} {n i : ℕ} (g : Going whole (bytes_of n) d e i) where
  pub packed-end : n ≡ 0 → Wrote whole d e (Ok i)
  unfolding bytes_of bytes_in
  packed-end h = going_end g (ap bytes_of h)

  pub packed-last : n < 256 ^ (8 - i) → 8 ≤ i → i ≤ 8 → Wrote whole d e (Ok 8)
  packed-last u h k =
      let z : 8 - i ≡ 0 = omega arith in
      let w : n < 1 = rw (z, pow-zero) at u in
      let t : i ≡ 8 = omega arith in
      rw t at (packed-end (omega arith))

  module _ (h : n ≡ 0 → ⊥) where
    pub packed-full : length e ≤ i → Wrote whole d e (Err no_room)
    packed-full k = byte-stop g (more n h) k

    pub packed-next : i < length e → Going whole (bytes_of (n / 256)) d (set e i (n % 256)) (i + 1)
    packed-next k = byte_next g (more n h) k

pub ruleset packed-laws = (going_start, going-size, packed-room, packed-end, packed-last, packed-full, packed-next, rules)
