-- The laws of what is read at once: a byte that is there or not, a tag, a number, a name. In both directions. Assumes nothing.
use Rattle.std.specs.Prelude.{Option, Some, None}
use Rattle.std.proofs.lemmas.Option.{some_pair_parts}
use mathlib.Core.Path.{◌≡◌, refl, ap}
use mathlib.Core.Logic.{◌≢◌}
use mathlib.Core.Bool.{Bool, true, false}
use mathlib.Core.List.{List, []}
use Prim.Native.Nat.{ℕ, suc, ◌+◌, ◌<◌, ◌≤◌}
use native.Mathlib.Decide.{dec_lt}
use native.Mathlib.Omega.{arith}
use lib.Dec.{eqb, leb}
use lib.ListN.{length, get_or, drop}
use Rattle.parser.specs.Digits.{if-then, digits, value}
use Rattle.parser.specs.Number.{hex_at}
use Rattle.parser.specs.Bytes.{read}
use Rattle.parser.specs.declared.names.Name.{Name}
use Rattle.parser.proofs.ByteLaws as bytes
use Rattle.nibbles.specs.Uint.{hex_value, trim}
use Rattle.nibbles.specs.declared.uint.Hex.{Hex}
use Rattle.nibbles.specs.declared.uint.Hex.TheVariants.{Small, Big}
use Rattle.printer.specs.Says.{invalid, Res, ok, Says, refused, next, ◌>>=◌, reader, choose, got, taken, Tags, pick}
use Rattle.printer.specs.Model as g
use Rattle.demangle.specs.Grammar.{◌!◌}
use Rattle.demangle.proofs.RunLaws.{Sound, sure, after, Good, good, join, past-sound, past-good, past-not-good, ◌∉◌, tags, pick-none}

-- ---- by a byte that is there or not
module _ {A : Type 0} (s : List ℕ) {k : ℕ} (i : ℕ) (a b : Says A) where
  pub eat-sound : {P : A → ℕ → Type 0} {w : Bool} → (s ! i ≡ suc k → Sound w (a.run (i + 1)) P) → (s ! i ≢ suc k → Sound w (b.run i) P)
      → Sound w ((g.eat s (suc k) >>= λ y. choose y a b).run i) P
  unfolding ◌>>=◌ g.eat next choose
  eat-sound {P = P} {w = w} h o = after {Q = λ y j. if-then y ((s ! i ≡ suc k) × (j ≡ i + 1)) ((s ! i ≢ suc k) × (j ≡ i))} (λ y. choose y a b)
      (past-sound s k i (λ j. ok true j false []) (ok false i false []) (λ e. sure (e, refl)) (λ e. sure (e, refl)))
      (λ y j. elim y as (λ z. if-then z ((s ! i ≡ suc k) × (j ≡ i + 1)) ((s ! i ≢ suc k) × (j ≡ i)) → Sound w ((choose z a b).run j) P) [ true ↦ λ q. rw q.1 (h q.0) | false ↦ λ q. rw q.1 (o q.0) ])

  pub eat-good : {v : A} {j : ℕ} → s ! i ≡ suc k → Good (a.run (i + 1)) v j → Good ((g.eat s (suc k) >>= λ y. choose y a b).run i) v j
  unfolding ◌>>=◌ g.eat choose
  eat-good e h = join (λ y. choose y a b) (past-good s k i (λ j. ok true j false []) _ e (good true (i + 1) [])) h

  pub eat-not-good : {v : A} {j : ℕ} → s ! i ≢ suc k → Good (b.run i) v j → Good ((g.eat s (suc k) >>= λ y. choose y a b).run i) v j
  unfolding ◌>>=◌ g.eat choose
  eat-not-good o h = join (λ y. choose y a b) (past-not-good s k i (λ j. ok true j false []) _ o (good false i [])) h

-- ---- by the tag
module _ {A : Type 0} (s : List ℕ) (z : A) (ts : Tags A) (i : ℕ) where
  module _ (d : ℕ → ℕ → ℕ → Res A) where
    abbrev tagged : Res A
    tagged = pick (s ! i) ts (λ k. d (s ! i) k (i + 1)) i (i + 1)

    by-tag : i < length s → (g.by_tag s z ts d).run i ≡ tagged
    unfolding g.by_tag reader
    by-tag h = rw (← bytes.next-read s i h)

    by-tag-end : length s ≤ i → (g.by_tag s z ts d).run i ≡ refused z invalid i
    unfolding g.by_tag reader
    by-tag-end h = rw (← bytes.next_past s i h)

    pub by-tag-sound : {P : A → ℕ → Type 0} {w : Bool} → Sound w tagged P → Sound w ((g.by_tag s z ts d).run i) P
    by-tag-sound h = elim (dec_lt i (length s)) [ yes k ↦ rw (by-tag k) h | no k ↦ rw (by-tag-end (omega arith)) (sure tt) ]

    pub by-tag-good : {v : A} {j : ℕ} → i < length s → Good tagged v j → Good ((g.by_tag s z ts d).run i) v j
    by-tag-good h k = rw (by-tag h) k

  -- none of the tags is 0
  module _ (d : ℕ → Res A) (none : 0 ∉ tags ts) where
    pub or-tag : (g.or_tag s z ts d).run i ≡ pick (s ! i) ts d i (i + 1)
    unfolding g.or_tag reader
    or-tag = elim (dec_lt i (length s)) [
      | yes k ↦ rw (← bytes.next-read s i k)
      | no k ↦ rw (← bytes.next_past s i (omega arith), ← bytes.past_end s i (omega arith), pick-none 0 i (i + 1) ts d none)
    ]

-- nibbles up to e, where a `_` stands there; and what they are as a number
abbrev nibbles : Bool → ℕ → Option (ℕ × ℕ)
nibbles t e = if-then t (read e (e + 1)) None

abbrev hex : Bool → Bool → ℕ → ℕ → Option (Hex × ℕ)
hex t u v e = if-then t (if-then u (read (Small v) (e + 1)) (read (Big e) (e + 1))) None

-- ---- readings: what follows is sound where the reader has answered
module _ {B : Type 0} {P : B → ℕ → Type 0} {w : Bool} (i : ℕ) (z : B) where
  pub read-sound : {A : Type 0} (x : Option (A × ℕ)) (f : A → Says B) → ((v : A) (j : ℕ) → x ≡ Some (v, j) → Sound w ((f v).run j) P)
      → Sound w (taken (g.got_from x) i z f) P
  unfolding taken
  read-sound (Some (v, j)) f h = h v j refl
  read-sound None f h = sure tt

  pub name-sound : (x : Option Name) (f : Name → Says B) → ((n : Name) → x ≡ Some n → Sound w ((f n).run n.end) P)
      → Sound w (taken (g.got_name x) i z f) P
  unfolding taken
  name-sound (Some n) f h = h n refl
  name-sound None f h = sure tt

  pub named-sound : (x : Option (ℕ × Name)) (f : ℕ × Name → Says B) → ((d : ℕ) (n : Name) → x ≡ Some (d, n) → Sound w ((f (d, n)).run n.end) P)
      → Sound w (taken (g.got_named x) i z f) P
  unfolding taken
  named-sound (Some (d, n)) f h = h d n refl
  named-sound None f h = sure tt

  pub literal-sound : (x : Option (ℕ × ℕ)) (f : ℕ × ℕ → Says B) → ((e j : ℕ) → x ≡ Some (e, j) → Sound w ((f (i, e)).run j) P)
      → Sound w (taken (g.got_literal i x) i z f) P
  unfolding taken
  literal-sound (Some (e, j)) f h = h e j refl
  literal-sound None f h = sure tt

  -- an integer's nibbles, whether they fit 64 bits or not
  hex-cases : (t u : Bool) (v e : ℕ) (f : g.Integer → Says B) → ((x : g.Integer) (e' j : ℕ) → nibbles t e ≡ Some (e', j) → Sound w ((f x).run j) P)
      → Sound w (taken (g.got_hex i (hex t u v e)) i z f) P
  unfolding taken
  hex-cases true true v e f h = h _ _ _ refl
  hex-cases true false v e f h = h _ _ _ refl
  hex-cases false u v e f h = sure tt

  pub hex-sound : (s : List ℕ) (f : g.Integer → Says B) → ((x : g.Integer) (e j : ℕ) → hex_at s i ≡ Some (e, j) → Sound w ((f x).run j) P)
      → Sound w (taken (g.got_hex i (hex_value s i)) i z f) P
  unfolding hex_value hex_at
  hex-sound s f h =
      let ds = digits 16 (drop i s) in
      hex-cases (eqb (get_or s (i + length ds) 0) 95) (leb (length (trim ds)) 16) (value 16 (trim ds)) (i + length ds) f h

got-cases : (i : ℕ) (t u : Bool) (v e : ℕ) {e' j : ℕ} → nibbles t e ≡ Some (e', j) → (x : g.Integer) × (g.got_hex i (hex t u v e) ≡ got x j)
got-cases i true true v e {e'} {j} q = (g.small v, ap (λ (k : ℕ). got (g.small v) k) (some_pair_parts e e' (e + 1) j q).1)
got-cases i true false v e {e'} {j} q = (g.large i e, ap (λ (k : ℕ). got (g.large i e) k) (some_pair_parts e e' (e + 1) j q).1)
got-cases i false u v e q = let x : ◌≡◌ {A = ℕ} 0 1 = cc in absurd (omega arith)

pub hex-got : (s : List ℕ) (i : ℕ) {e j : ℕ} → hex_at s i ≡ Some (e, j) → (x : g.Integer) × (g.got_hex i (hex_value s i) ≡ got x j)
unfolding hex_value hex_at
hex-got s i q =
    let ds = digits 16 (drop i s) in
    got-cases i (eqb (get_or s (i + length ds) 0) 95) (leb (length (trim ds)) 16) (value 16 (trim ds)) (i + length ds) q
