-- A reading ends no earlier than it starts, and a base-62 number fits 64 bits. Assumes nothing.
use Rattle.std.specs.Prelude.{Option, Some, None}
use mathlib.Core.Path.{◌≡◌, refl, ap}
use mathlib.Core.Bool.{Bool, true, false}
use mathlib.Core.List.{List, [], ◌∷◌}
use Prim.Native.Nat.{ℕ, zero, suc, ◌+◌, ◌^◌, ◌≤◌, ◌<◌}
use native.Mathlib.Omega.{arith}
use borrow.Author.Tests.{ltb-true}
use lib.Dec.{eqb, ltb, leb}
use lib.ListN.{length, drop, get_or}
use Rattle.parser.specs.Digits.{if-then, within, digits}
use Rattle.parser.specs.Bytes.{read, past, past_first, byte_at, first_byte, space_at, space_of}
use Rattle.parser.specs.Number.{small, integer62, raised, optional62, decimal, length10, back_at, hex_at}
use Rattle.parser.specs.Names.{part_of, bytes_after, span_at, split_at, coded, coded_at, plain, ident_at}
use Rattle.parser.specs.declared.names.Name.{Name}
use Rattle.printer.specs.Says.{U, Got, got, lost}
use Rattle.printer.specs.Readings.{named_by, named_of, named_at, life_at, abi_of, abi_at, some_abi, behind_unsafe, head_of, head_at, flag_at}
use Rattle.printer.specs.Readings.{scalar_at, literal_at}
use Rattle.printer.specs.declared.read.Abi.{Abi}
use Rattle.printer.specs.declared.read.Head.{Head}
use Rattle.demangle.proofs.ClosedLaws.{ReadAt, either, small_at, integer-at, back_at_lem, nibbles-at, flag_at_lem, scalar-at, literal-at}
use Rattle.printer.specs.Model as g

-- what holds of each place that a reading answers
abbrev At-least : {A : Type 0} → ℕ → Got A → Type 0
At-least i (got a j) = i ≤ j
At-least i (lost x) = U

grown : {A : Type 0} {i j : ℕ} {a : A} (x : Got A) → x ≡ got a j → At-least i x → i ≤ j
grown x e h = rw e at h

module _ {A B : Type 0} (r : A → Got B) (i : ℕ) where
  got-either : (t : Bool) (a b : A) → At-least i (r a) → At-least i (r b) → At-least i (r (if-then t a b))
  got-either t a b h k = either (λ x. At-least i (r x)) t a b h k

ranged : {A : Type 0} (P : A → Type 0) (lo hi c : ℕ) (a b : A) → P a → P b → P (within lo hi c a b)
unfolding within
ranged P lo hi c a b h k = either P (leb lo c) _ b (either P (leb c hi) a b h k) k

first_past : (k i : ℕ) (l : List ℕ) → i ≤ past_first k l i
unfolding past_first
first_past k i [] = omega arith
first_past k i (c ∷ cs) = go (eqb c k)
  where
    go : (t : Bool) → i ≤ if-then t (i + 1) i
    go true = omega arith
    go false = omega arith

module _ (s : List ℕ) where
  pub past-grows : (k i : ℕ) → i ≤ past k s i
  unfolding past
  past-grows k i = first_past k i (drop i s)

  -- numbers: behind a `_`, and from a later place
  behind : {i : ℕ} (e : ℕ) → i ≤ e → e + 1 ≤ length s → i ≤ e + 1
  behind e h l = omega arith

  integer-from : (i : ℕ) → ReadAt (λ j. i ≤ j) (integer62 s i)
  integer-from i = integer-at s (λ j. i ≤ j) i behind

  raised-grows : (i : ℕ) (n : Option (ℕ × ℕ)) → ReadAt (λ j. i ≤ j) n → ReadAt (λ j. i ≤ j) (raised n)
  unfolding raised
  raised-grows i (Some (v, e)) h = small_at (λ j. i ≤ j) (v + 1) e h
  raised-grows i None h = tt

  later-num : {i k : ℕ} (n : Option (ℕ × ℕ)) → i ≤ k → ReadAt (λ j. k ≤ j) n → ReadAt (λ j. i ≤ j) n
  later-num (Some (v, e)) h l = omega arith
  later-num None h l = tt

  later : {A : Type 0} {i j : ℕ} (x : Got A) → i ≤ j → At-least j x → At-least i x
  later (got a k) h l = omega arith
  later (lost x) h l = tt

  past-from : (k i : ℕ) → ReadAt (λ j. i ≤ j) (integer62 s (past k s i))
  past-from k i = later-num (integer62 s (past k s i)) (past-grows k i) (integer-from (past k s i))

  optional-from : (k i : ℕ) → ReadAt (λ j. i ≤ j) (optional62 k s i)
  unfolding optional62
  optional-from k i = either (ReadAt (λ j. i ≤ j)) (eqb (past k s i) i) _ _ (omega arith) (raised-grows i (integer62 s (past k s i)) (past-from k i))

  life-from : (i : ℕ) → ReadAt (λ j. i ≤ j) (life_at s i)
  unfolding life_at
  life-from i = either (ReadAt (λ j. i ≤ j)) (eqb (past 76 s i) i) _ _ (omega arith) (past-from 76 i)

  -- names
  decimal-from : (i : ℕ) (ds : List ℕ) → ReadAt (λ j. i ≤ j) (decimal ds i)
  unfolding decimal
  decimal-from i [] = tt
  decimal-from i (zero ∷ ds) = omega arith
  decimal-from i (suc d ∷ ds) = small_at (λ j. i ≤ j) _ _ (omega arith)

  abbrev Starts : ℕ → Option (ℕ × ℕ) → Type 0
  Starts i (Some (a, e)) = (i ≤ a) × (a ≤ e)
  Starts i None = U

  bytes-grow : (i : ℕ) (n : Option (ℕ × ℕ)) → ReadAt (λ j. i ≤ j) n → Starts i (bytes_after s n)
  unfolding bytes_after part_of
  bytes-grow i (Some (n, next)) h = go (leb (past 95 s next + n) (length s))
    where
      go : (t : Bool) → Starts i (if-then t (read (past 95 s next) (past 95 s next + n)) None)
      go true = (omega (arith, past-grows 95 next), omega arith)
      go false = tt
  bytes-grow i None h = tt

  span-from : (i : ℕ) → Starts i (span_at s i)
  unfolding span_at length10
  span-from i = bytes-grow i (decimal (digits 10 (drop i s)) i) (decimal-from i (digits 10 (drop i s)))

  plain-grows : (i : ℕ) (p : Option (ℕ × ℕ)) → Starts i p → At-least i (g.got_name (plain p))
  unfolding plain
  plain-grows i (Some (a, e)) h = omega arith
  plain-grows i None h = tt

  split-grows : (i a e : ℕ) (f : Option ℕ) → i ≤ e → At-least i (g.got_name (split_at a e f))
  unfolding split_at
  split-grows i a e (Some k) h = got-either g.got_name i (eqb (a + k + 1) e) _ _ tt h
  split-grows i a e None h = got-either g.got_name i (eqb a e) _ _ tt h

  coded_grows : (i : ℕ) (p : Option (ℕ × ℕ)) → Starts i p → At-least i (g.got_name (coded s p))
  unfolding coded
  coded_grows i (Some (a, e)) h = split-grows i a e _ (omega arith)
  coded_grows i None h = tt

  ident-from : (i : ℕ) → At-least i (g.got_name (ident_at s i))
  unfolding ident_at coded_at
  ident-from i = got-either g.got_name i (eqb (past 117 s i) i) _ _ (plain-grows i (span_at s i) (span-from i))
      (later (g.got_name (coded s (span_at s (past 117 s i)))) (past-grows 117 i) (coded_grows _ (span_at s (past 117 s i)) (span-from (past 117 s i))))

  named-grows : (i : ℕ) (n : Option (ℕ × ℕ)) → ReadAt (λ j. i ≤ j) n → At-least i (g.got_named (named_of s n))
  named-grows i (Some (d, next)) h = called (ident_at s next) (later (g.got_name (ident_at s next)) h (ident-from next))
    where
      called : (x : Option Name) → At-least i (g.got_name x) → At-least i (g.got_named (named_by d x))
      called (Some n) k = k
      called None k = tt
  named-grows i None h = tt

  named-from : (i : ℕ) → At-least i (g.got_named (named_at s i))
  unfolding named_at
  named-from i = named-grows i (optional62 115 s i) (optional-from 115 i)

  space-from : (i : ℕ) (l : List ℕ) → ReadAt (λ j. i ≤ j) (space_of (first_byte l i))
  unfolding space_of first_byte
  space-from i [] = tt
  space-from i (c ∷ cs) = ranged (ReadAt (λ j. i ≤ j)) 65 90 c _ _ (omega arith) (ranged (ReadAt (λ j. i ≤ j)) 97 122 c _ _ (omega arith) tt)

  letter-from : (i : ℕ) → ReadAt (λ j. i ≤ j) (space_at s i)
  unfolding space_at byte_at
  letter-from i = space-from i (drop i s)

  -- what stands before the parameters of a function pointer
  abi-grows : (i : ℕ) (n : Option Name) → At-least i (g.got_name n) → ReadAt (λ j. i ≤ j) (abi_of n)
  abi-grows i (Some n) h = either (ReadAt (λ j. i ≤ j)) (eqb n.start n.split) _ _ tt (either (ReadAt (λ j. i ≤ j)) (eqb n.code n.end) _ _ h tt)
  abi-grows i None h = tt

  abi-from : (i : ℕ) → ReadAt (λ j. i ≤ j) (abi_at s i)
  unfolding abi_at
  abi-from i = either (ReadAt (λ j. i ≤ j)) (eqb (past 67 s i) i) _ _ (abi-grows i (ident_at s i) (ident-from i)) (past-grows 67 i)

  some-grows : {i k : ℕ} (x : Option (Abi × ℕ)) → i ≤ k → ReadAt (λ j. k ≤ j) x → ReadAt (λ j. i ≤ j) (some_abi x)
  some-grows (Some (a, next)) l h = omega arith
  some-grows None l h = tt

  behind-from : (i : ℕ) → ReadAt (λ j. i ≤ j) (behind_unsafe s i)
  unfolding behind_unsafe
  behind-from i = either (ReadAt (λ j. i ≤ j)) (eqb (past 75 s i) i) _ _ (omega arith) (some-grows (abi_at s (past 75 s i)) (past-grows 75 i) (abi-from (past 75 s i)))

  head-grown : {i k : ℕ} (u : Bool) (x : Option (Option Abi × ℕ)) → i ≤ k → ReadAt (λ j. k ≤ j) x → ReadAt (λ j. i ≤ j) (head_of u x)
  head-grown u (Some (a, next)) l h = omega arith
  head-grown u None l h = tt

  head-from : (i : ℕ) → ReadAt (λ j. i ≤ j) (head_at s i)
  unfolding head_at
  head-from i = head-grown _ (behind_unsafe s (past 85 s i)) (past-grows 85 i) (behind-from (past 85 s i))

  -- what each reader answered
  pub ident-grows : {i : ℕ} {n : Name} → ident_at s i ≡ Some n → i ≤ n.end
  ident-grows {i} e = grown (g.got_name (ident_at s i)) (ap g.got_name e) (ident-from i)

  pub called-grows : {i d : ℕ} {n : Name} → named_at s i ≡ Some (d, n) → i ≤ n.end
  called-grows {i} e = grown (g.got_named (named_at s i)) (ap g.got_named e) (named-from i)

  module _ {i j : ℕ} where
    pub integer-grows : {v : ℕ} → integer62 s i ≡ Some (v, j) → i ≤ j
    integer-grows e = rw e at (integer-from i)

    pub optional-grows : {v : ℕ} (k : ℕ) → optional62 k s i ≡ Some (v, j) → i ≤ j
    optional-grows k e = rw e at (optional-from k i)

    pub life-grows : {v : ℕ} → life_at s i ≡ Some (v, j) → i ≤ j
    life-grows e = rw e at (life-from i)

    pub back-grows : {v : ℕ} → back_at s i ≡ Some (v, j) → i ≤ j
    back-grows e = rw e at (back_at_lem s (λ j. i ≤ j) i behind)

    pub letter-grows : {c : Option ℕ} → space_at s i ≡ Some (c, j) → i ≤ j
    letter-grows e = rw e at (letter-from i)

    pub head-grows : {h : Head} → head_at s i ≡ Some (h, j) → i ≤ j
    head-grows e = rw e at (head-from i)

    pub flag-grows-to : {u : Bool} → flag_at s i ≡ Some (u, j) → i ≤ j
    flag-grows-to e = rw e at (flag_at_lem s (λ j. i ≤ j) i behind)

    pub scalar-grows-to : {v : ℕ} → scalar_at s i ≡ Some (v, j) → i ≤ j
    scalar-grows-to e = rw e at (scalar-at s (λ j. i ≤ j) i behind)

    pub literal-grows-to : {e : ℕ} → literal_at s i ≡ Some (e, j) → i ≤ j
    literal-grows-to e = rw e at (literal-at s (λ j. i ≤ j) i behind)

    pub nibbles-grow : {e : ℕ} → hex_at s i ≡ Some (e, j) → i ≤ j
    nibbles-grow e = rw e at (nibbles-at s (λ j. i ≤ j) i behind)

-- ---- what a base-62 number is at most
abbrev Fits : Option (ℕ × ℕ) → Type 0
Fits (Some (v, j)) = v < 2 ^ 64
Fits None = U

small-fits : (v j : ℕ) → Fits (small v j)
unfolding small
small-fits v j = go (ltb v (2 ^ 64)) refl
  where
    go : (t : Bool) → ltb v (2 ^ 64) ≡ t → Fits (if-then t (read v j) None)
    go true e = ltb-true v (2 ^ 64) e
    go false e = tt

module _ (s : List ℕ) where
  integer-fit : (i : ℕ) → Fits (integer62 s i)
  unfolding integer62
  integer-fit i = either Fits (eqb (get_or s (i + length (digits 62 (drop i s))) 0) 95) _ _ (small-fits _ _) tt

  pub integer-fits : (i : ℕ) {v j : ℕ} → integer62 s i ≡ Some (v, j) → v < 2 ^ 64
  integer-fits i e = rw e at (integer-fit i)

  pub life-fits : (i : ℕ) {v j : ℕ} → life_at s i ≡ Some (v, j) → v < 2 ^ 64
  unfolding life_at
  life-fits i e = rw e at (either Fits (eqb (past 76 s i) i) (read 0 i) (integer62 s (past 76 s i)) (omega arith) (integer-fit (past 76 s i)))
