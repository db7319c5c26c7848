-- The fixed words: the number of each, and the bytes of that number. Assumes nothing.
use mathlib.Core.Path.{◌≡◌, refl, sym, ◌∙◌}
use mathlib.Core.Bool.{Bool, true}
use mathlib.Core.List.{List, [], ◌∷◌, map}
use Prim.Native.Nat.{ℕ, zero, suc, ◌≤◌, ◌<◌}
use native.Mathlib.Omega.{arith}
use borrow.Author.Rules.{rules}
use lib.Dec.{T}
use lib.ListN.{get_or, length}
use Rattle.std.specs.Prelude.{Option, Some, None}
use Rattle.pieces.specs.declared.words.Word.{Word}
use Rattle.pieces.specs.declared.words.Word.TheVariants.{Invalid, Deep, Splat}
use Rattle.pieces.specs.Laid.{Put, Wrote}
use Rattle.pieces.specs.Packed.{bytes_in, bytes_of, little, packed}
use Rattle.pieces.specs.Words.{ascii, word_at, words, word_by}
use Rattle.pieces.proofs.TableLaws.{eq_list, eq_list→eq}
use Rattle.pieces.proofs.WritingLaws.{wrote_none}

-- a word's number spells it: a test that is computed word by word
abbrev spells : Option ℕ → List ℕ → Bool
spells None t = true
spells (Some v) t = eq_list (bytes_of v) t

each-spells : (w : Word) → T (spells (packed (word_at w)) (word_at w))
unfolding packed little bytes_of bytes_in word_at ascii
each-spells Invalid = tt
each-spells _ = tt

module _ (w : Word) where
  -- the bytes of a word's number are the word
  pub word_bytes : {v : ℕ} → Some v ≡ packed (word_at w) → bytes_of v ≡ word_at w
  word_bytes {v} q = eq_list→eq (bytes_of v) (word_at w) (rw (← q) at (each-spells w))

  pub word_short : {v : ℕ} {o : Option ℕ} {d e : List ℕ} {r : Put} → o ≡ packed (word_at w) → o ≡ Some v → Wrote (bytes_of v) d e r → Wrote (word_at w) d e r
  word_short {v} q s t = rw (word_bytes (sym s ∙ q)) at t

-- the third of the longer words
longer : (w : Word) → None ≡ packed (word_at w) → (w ≡ Invalid → ⊥) → (w ≡ Deep → ⊥) → w ≡ Splat
unfolding packed little word_at ascii
longer Invalid q i d = absurd (i refl)
longer Deep q i d = absurd (d refl)
longer Splat q i d = refl
longer _ q i d = cc

-- the text of a longer word, by the word that it is
pub word_text : (w v : Word) {t d e : List ℕ} {r : Put} → w ≡ v → t ≡ word_at v → Wrote t d e r → Wrote (word_at w) d e r
word_text w v is q t = rw (is, ← q) t

pub word_last : (w : Word) {o : Option ℕ} {t d e : List ℕ} {r : Put} → o ≡ packed (word_at w) → ((v : ℕ) → o ≡ Some v → ⊥) → (w ≡ Invalid → ⊥) → (w ≡ Deep → ⊥)
    → t ≡ word_at Splat → Wrote t d e r → Wrote (word_at w) d e r
word_last w {o} q s i d k t = rw (longer w (go o q s) i d, ← k) t
  where
    go : (o : Option ℕ) → o ≡ packed (word_at w) → ((v : ℕ) → o ≡ Some v → ⊥) → None ≡ packed (word_at w)
    go None q s = q
    go (Some v) q s = absurd (s v refl)

pub ruleset word_laws = (word_short, word_text, word_last, rules)

-- ---- a word by its number
in-order : (ws : List Word) (k : ℕ) (w : Word) → k < length ws → word_at (get_or ws k w) ≡ get_or (map word_at ws) k []
in-order [] k w h = absurd (omega arith)
in-order (x ∷ ws) zero w h = refl
in-order (x ∷ ws) (suc k) w h = in-order ws k w (omega arith)

past-all : (ws : List Word) (k : ℕ) → length ws ≤ k → get_or (map word_at ws) k [] ≡ []
past-all [] k h = refl
past-all (x ∷ ws) zero h = absurd (omega arith)
past-all (x ∷ ws) (suc k) h = past-all ws k (omega arith)

module _ (k : ℕ) where
  pub word_numbered : (w : Word) {d e : List ℕ} {r : Put} → k < 52 → Wrote (word_at (get_or words k w)) d e r → Wrote (word_by k) d e r
  unfolding word_by words
  word_numbered w h t = rw (in-order words k w h) at t

  pub word_beyond : {d e : List ℕ} {r : Put} → 52 ≤ k → Wrote [] d e r → Wrote (word_by k) d e r
  unfolding word_by words
  word_beyond h t = rw (past-all words k h) t

pub ruleset number_laws = (word_numbered, word_beyond, wrote_none, rules)
