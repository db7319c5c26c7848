-- The laws of runs, in both directions. Nothing of the grammar is in it. Assumes nothing.
--   Sound w r P    where the run r ends well, P holds of its value and its end; and r is damaged only if w
--   Good r a j     the run r ends well, with the value a, at j
use mathlib.Core.Path.{◌≡◌, refl, sym, ◌∙◌}
use mathlib.Core.Logic.{◌≢◌}
use mathlib.Core.Bool.{Bool, true, false, not}
use mathlib.Core.List.{List, [], ◌∷◌, ◌++◌}
use Prim.Native.Nat.{ℕ, suc, ◌+◌, ◌<◌}
use native.Mathlib.Decide.{dec_lt}
use native.Mathlib.Omega.{arith}
use borrow.Author.Tests.{eqb-true, eqb-false, eq-eqb, ne_eqb}
use lib.Dec.{T, eqb}
use lib.ListN.{length}
use Rattle.parser.specs.Digits.{if-then}
use Rattle.parser.specs.Bytes.{past}
use Rattle.parser.proofs.ByteLaws as bytes
use Rattle.pieces.specs.Piece.{Piece}
use Rattle.printer.specs.Says.{U, Res, ok, bad, Says, onto, next, choose, hush, caught, Got, got, taken, Tags, pick}
use Rattle.printer.specs.Letters as ltr
use Rattle.demangle.specs.Grammar.{◌!◌}

infix 30 ◌∉◌
infixr 15 ◌or◌
pub is_true : (b : Bool) → T b → b ≡ true
is_true true t = refl
is_true false t = absurd t

-- ---- SOUND
abbrev pub Ends : {A : Type 0} → Bool → Res A → (A → ℕ → Type 0) → Type 0
Ends w (ok a j false o) P = P a j
Ends w (ok a j true o) P = T w
Ends w (bad a x j d o) P = U

pub record Sound {A : Type 0} (w : Bool) (r : Res A) (P : A → ℕ → Type 0) : Type 0 where
  pub out : Ends w r P

abbrev pub sure : {A : Type 0} {w : Bool} {r : Res A} {P : A → ℕ → Type 0} → Ends w r P → Sound w r P
sure h = record { out = h }

onto-sound : {A : Type 0} {P : A → ℕ → Type 0} {w : Bool} (o : List Piece) (r : Res A) → Sound w r P → Sound w (onto false o r) P
unfolding onto
onto-sound o (ok a j false p) h = sure h.out
onto-sound o (ok a j true p) h = sure h.out
onto-sound o (bad a x j d p) h = sure tt

onto-damaged : {A : Type 0} {P : A → ℕ → Type 0} {w : Bool} (o : List Piece) (r : Res A) → T w → Sound w (onto true o r) P
unfolding onto
onto-damaged o (ok a j d p) t = sure t
onto-damaged o (bad a x j d p) t = sure tt

module _ {A B : Type 0} {Q : A → ℕ → Type 0} {P : B → ℕ → Type 0} (f : A → Says B) {w : Bool} where
  after-ends : (r : Res A) → Ends w r Q → ((a : A) (j : ℕ) → Q a j → Sound w ((f a).run j) P) → Sound w (next r f) P
  unfolding next onto
  after-ends (ok a j false o) h k = onto-sound o ((f a).run j) (k a j h)
  after-ends (ok a j true o) h k = onto-damaged o ((f a).run j) h
  after-ends (bad a x j d o) h k = sure tt

  pub after : {r : Res A} → Sound w r Q → ((a : A) (j : ℕ) → Q a j → Sound w ((f a).run j) P) → Sound w (next r f) P
  after {r} h k = after-ends r h.out k

-- a text, then another thing
pub said : {A : Type 0} {P : A → ℕ → Type 0} {w : Bool} (ps : List Piece) {r : Res A} → Sound w r P → Sound w (onto false ps r) P
said ps {r} h = onto-sound ps r h

map-ends : {A : Type 0} {Q P : A → ℕ → Type 0} {w : Bool} (r : Res A) → Sound w r Q → ((a : A) (j : ℕ) → Q a j → P a j) → Sound w r P
map-ends (ok a j false o) h k = sure (k a j h.out)
map-ends (ok a j true o) h k = sure h.out
map-ends (bad a x j d o) h k = sure tt

pub map : {A : Type 0} {Q P : A → ℕ → Type 0} {w : Bool} {r : Res A} → Sound w r Q → ((a : A) (j : ℕ) → Q a j → P a j) → Sound w r P
map {r = r} h k = map-ends r h k

-- what is read without following is never damaged
calm-ends : {A : Type 0} {P : A → ℕ → Type 0} {w : Bool} (r : Res A) → Sound false r P → Sound w (hush r) P
calm-ends (ok a j false o) h = sure h.out
calm-ends (ok a j true o) h = absurd h.out
calm-ends (bad a x j d o) h = sure tt

pub hush-sound : {A : Type 0} {P : A → ℕ → Type 0} {w : Bool} {r : Res A} → Sound false r P → Sound w (hush r) P
hush-sound {r = r} h = calm-ends r h

pub caught-sound : {A : Type 0} {P Q : A → ℕ → Type 0} (r : Res A) (j : ℕ) → Sound true r P → ((a : A) (k : ℕ) → P a k → Q a j) → Sound true (caught r j) Q
unfolding caught
caught-sound (ok a k false o) j h q = sure (q a k h.out)
caught-sound (ok a k true o) j h q = sure tt
caught-sound (bad a x k d o) j h q = sure tt

pub choose-sound : {A : Type 0} {P : A → ℕ → Type 0} {w : Bool} (t : Bool) (a b : Says A) (i : ℕ)
    → (t ≡ true → Sound w (a.run i) P) → (t ≡ false → Sound w (b.run i) P) → Sound w ((choose t a b).run i) P
unfolding choose
choose-sound true a b i h k = h refl
choose-sound false a b i h k = k refl

pub if-sound : {A : Type 0} {P : A → ℕ → Type 0} {w : Bool} (t : Bool) (a b : Res A) → (T t → Sound w a P) → Sound w b P → Sound w (if-then t a b) P
if-sound true a b h k = h tt
if-sound false a b h k = k

-- one case for each tag, and one where the byte is none of them
abbrev pub tags : {A : Type 0} → Tags A → List ℕ
tags [] = []
tags (t ∷ ts) = t.0 ∷ tags ts

-- a byte that is none of these
abbrev pub ◌∉◌ : ℕ → List ℕ → Type 0
◌∉◌ c ks = T (not (ltr.any_of c ks))

pub data Each {A : Type 0} (w : Bool) (P : A → ℕ → Type 0) (c j : ℕ) : Tags A → Type 0 where
  else : Each w P c j []
  ◌or◌ : {t : ℕ × Says A} {ts : Tags A} → (c ≡ t.0 → Sound w (t.1.run j) P) → Each w P c j ts → Each w P c j (t ∷ ts)

pub pick-sound : {A : Type 0} {P : A → ℕ → Type 0} {w : Bool} (c i j : ℕ) (ts : Tags A) (d : ℕ → Res A)
    → Each w P c j ts → (c ∉ tags ts → Sound w (d i) P) → Sound w (pick c ts d i j) P
unfolding pick ltr.any_of
pick-sound c i j [] d else k = k tt
pick-sound {A} {P} {w} c i j (t ∷ ts) d (h or hs) k = go (eqb c t.0) refl (λ o. pick-sound c i j ts d hs o)
  where
    go : (x : Bool) → eqb c t.0 ≡ x → ((c ∉ tags ts → Sound w (d i) P) → Sound w (pick c ts d i j) P) → Sound w (pick c (t ∷ ts) d i j) P
    go true e r = rw (e, pick) (h (eqb-true c t.0 e))
    go false e r = rw (e, pick) (r (λ o. k (rw (e, ltr.any_of) o)))

-- where it is none of them
pub pick-none : {A : Type 0} (c i j : ℕ) (ts : Tags A) (d : ℕ → Res A) → c ∉ tags ts → pick c ts d i j ≡ d i
unfolding pick ltr.any_of
pick-none c i j [] d o = refl
pick-none c i j (t ∷ ts) d o = go (eqb c t.0) refl (pick-none c i j ts d) o
  where
    go : (x : Bool) → eqb c t.0 ≡ x → (c ∉ tags ts → pick c ts d i j ≡ d i) → c ∉ tags (t ∷ ts) → pick c (t ∷ ts) d i j ≡ d i
    go true e r o = absurd (rw (e, ltr.any_of) at o)
    go false e r o = rw (e, pick) (r (rw (e, ltr.any_of) at o))

-- ---- GOOD
pub record Good {A : Type 0} (r : Res A) (a : A) (j : ℕ) : Type 0 where
  pub print : List Piece
  pub is : r ≡ ok a j false print

pub good : {A : Type 0} (a : A) (j : ℕ) (o : List Piece) → Good (ok a j false o) a j
good a j o = record { print = o; is = refl }

-- two ends of one run
pub same_end : {A : Type 0} {r : Res A} {a b : A} {j k : ℕ} → Good r a j → Good r b k → j ≡ k
same_end g h = let e = sym g.is ∙ h.is in cc

pub say-good : {A : Type 0} {a : A} {j : ℕ} (o : List Piece) {r : Res A} → Good r a j → Good (onto false o r) a j
unfolding onto
say-good o g = record { print = o ++ g.print; is = rw g.is refl }

pub join : {A B : Type 0} {r : Res A} {a : A} {j : ℕ} {b : B} {k : ℕ} (f : A → Says B) → Good r a j → Good ((f a).run j) b k → Good (next r f) b k
unfolding next
join f g h = rw g.is (say-good g.print h)

pub hush-good : {A : Type 0} {r : Res A} {v : A} {j : ℕ} → Good r v j → Good (hush r) v j
hush-good {v = v} {j = j} g = rw g.is (good v j [])

pub taken-good : {A B : Type 0} {g : Got A} {v : A} {j : ℕ} {u : B} {k : ℕ} (i : ℕ) (z : B) (f : A → Says B)
    → g ≡ got v j → Good ((f v).run j) u k → Good (taken g i z f) u k
unfolding taken
taken-good i z f e h = rw e h

pub caught-good : {A : Type 0} {r : Res A} {a : A} {k : ℕ} (j : ℕ) → Good r a k → Good (caught r j) a j
unfolding caught
caught-good {a = a} j g = rw g.is (good a j g.print)

pub pick_good : {A : Type 0} {v : A} {k : ℕ} (c i j : ℕ) (ts : Tags A) (d : ℕ → Res A) → c ∉ tags ts → Good (d i) v k → Good (pick c ts d i j) v k
pick_good c i j ts d o h = rw (pick-none c i j ts d o) h

pub choose-good : {A : Type 0} (t : Bool) (a b : Says A) {i : ℕ} {v : A} {j : ℕ}
    → (t ≡ true → Good (a.run i) v j) → (t ≡ false → Good (b.run i) v j) → Good ((choose t a b).run i) v j
unfolding choose
choose-good true a b h k = h refl
choose-good false a b h k = k refl

-- ---- bytes
-- what holds of each of some letters holds of a byte that is one of them
abbrev Letters : (ℕ → Type 0) → List ℕ → Type 0
Letters P [] = U
Letters P (k ∷ ks) = P k × Letters P ks

pub any-of : (P : ℕ → Type 0) (c : ℕ) (ks : List ℕ) → Letters P ks → T (ltr.any_of c ks) → P c
unfolding ltr.any_of
any-of P c [] h t = absurd t
any-of P c (k ∷ ks) h t = go (eqb c k) refl (any-of P c ks h.1) t
  where
    go : (x : Bool) → eqb c k ≡ x → (T (ltr.any_of c ks) → P c) → T (ltr.any_of c (k ∷ ks)) → P c
    go true e r u = rw (eqb-true c k e) h.0
    go false e r u = r (rw (e, ltr.any_of) at u)

pub add_none : (c k : ℕ) (ks : List ℕ) → c ≢ k → c ∉ ks → c ∉ k ∷ ks
unfolding ltr.any_of
add_none c k ks o h = rw (ne_eqb c k o, ltr.any_of) h

pub rest_of : (c k : ℕ) (ks : List ℕ) → c ∉ k ∷ ks → c ∉ ks
unfolding ltr.any_of
rest_of c k ks o = go (eqb c k) refl o
  where
    go : (x : Bool) → eqb c k ≡ x → c ∉ k ∷ ks → c ∉ ks
    go true e o = absurd (rw (e, ltr.any_of) at o)
    go false e o = rw (e, ltr.any_of) at o

-- a byte that passes a test is none of the letters that fail it
pub none_of : (p : ℕ → Bool) (c : ℕ) (ks : List ℕ) → Letters (λ k. p k ≡ false) ks → T (p c) → c ∉ ks
unfolding ltr.any_of
none_of p c [] h t = tt
none_of p c (k ∷ ks) h t = go (eqb c k) refl (none_of p c ks h.1 t)
  where
    go : (x : Bool) → eqb c k ≡ x → c ∉ ks → c ∉ k ∷ ks
    go true e o = absurd (rw h.0 at (rw (eqb-true c k e) at t))
    go false e o = rw (e, ltr.any_of) o

module _ (s : List ℕ) where
  -- a byte that passes a test that 0 fails stands inside the symbol
  pub inside : (p : ℕ → Bool) (i : ℕ) → p 0 ≡ false → T (p (s ! i)) → i < length s
  inside p i z t = elim (dec_lt i (length s)) [ yes k ↦ k | no k ↦ absurd (out k) ]
    where
      out : ¬ (i < length s) → ⊥
      out k = rw (← bytes.past_end s i (omega arith), z) at t

  pub at : {i : ℕ} (k : ℕ) → s ! i ≡ suc k → i < length s
  at {i} k e = bytes.inside s i (sym e) (omega arith)

  -- past a byte
  pub found : (k i : ℕ) → s ! i ≡ suc k → past (suc k) s i ≡ i + 1
  found k i e = sym (bytes.eat-same s i (suc k) (at k e) e)

  pub missing : (k i : ℕ) → s ! i ≢ k → past k s i ≡ i
  missing k i o = elim (dec_lt i (length s)) [ yes h ↦ sym (bytes.eat-other s i k h o) | no h ↦ sym (bytes.eat-past s i k (omega arith)) ]

  module _ {A : Type 0} (k i : ℕ) (f : ℕ → Res A) (r : Res A) where
    -- where the byte k stands at i, f goes on behind it, and else it is r
    abbrev pub past-or : Res A
    past-or = if-then (eqb (past k s i) i) r (f (past k s i))

    past-found : past k s i ≡ i + 1 → past-or ≡ f (i + 1)
    past-found e = rw (e, ne_eqb (i + 1) i (λ q. omega arith))

    past-missing : past k s i ≡ i → past-or ≡ r
    past-missing e = rw (e, eq-eqb i i refl)

  module _ {A : Type 0} (k i : ℕ) (f : ℕ → Res A) (r : Res A) where
    pub past-sound : {P : A → ℕ → Type 0} {w : Bool} → (s ! i ≡ suc k → Sound w (f (i + 1)) P) → (s ! i ≢ suc k → Sound w r P)
        → Sound w (past-or (suc k) i f r) P
    past-sound {P} {w} h o = go (eqb (s ! i) (suc k)) refl
      where
        go : (x : Bool) → eqb (s ! i) (suc k) ≡ x → Sound w (past-or (suc k) i f r) P
        go true e = rw (past-found (suc k) i f r (found k i (eqb-true _ _ e))) (h (eqb-true _ _ e))
        go false e = rw (past-missing (suc k) i f r (missing (suc k) i (eqb-false _ _ e))) (o (eqb-false _ _ e))

    pub past-good : {v : A} {j : ℕ} → s ! i ≡ suc k → Good (f (i + 1)) v j → Good (past-or (suc k) i f r) v j
    past-good e h = rw (past-found (suc k) i f r (found k i e)) h

    pub past-not-good : {v : A} {j : ℕ} → s ! i ≢ suc k → Good r v j → Good (past-or (suc k) i f r) v j
    past-not-good o h = rw (past-missing (suc k) i f r (missing (suc k) i o)) h
