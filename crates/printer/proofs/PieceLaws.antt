-- From a piece laid into the free rest of the buffer to what is done to buffer and state. Assumes nothing.
use Rattle.std.specs.Prelude.{Option, Some, None, Ok, Err}
use Rattle.pieces.specs.declared.mode.Mode.{Mode}
use Prim.Native.Nat.{ℕ, zero, suc, ◌+◌, ◌-◌, ◌^◌, ◌≤◌, ◌<◌, min}
use mathlib.Core.Path.{◌≡◌, refl, ap, sym, ◌∙◌}
use mathlib.Core.Bool.{Bool, true, false}
use mathlib.Core.List.{List, [], ◌∷◌, ◌++◌, append-nil}
use native.Mathlib.Omega.{arith}
use borrow.Author.Tests.{le-leb, lt-leb, leb-true, leb-false}
use lib.Dec.{leb}
use lib.ListN.{length, take, drop, length-drop, drop_of_length-le}
use lib.Seq.{take_all, take-nil, drop-nil}
use Rattle.parser.specs.Digits.{if-then}
use Rattle.pieces.specs.Laid.{Put, no_room, laid, room, Wrote}
use Rattle.pieces.specs.declared.put.NoRoom.{NoRoom}
use Rattle.pieces.specs.Piece.{Piece, spell, spelled, render, is_short}
use Rattle.printer.specs.Lay.{State}
use Rattle.printer.specs.Over.{over}
use Rattle.printer.specs.Says.{emit}
use Rattle.printer.specs.Lay.{World, world, lay, fitted, full_state, sum_of, settled_by}
use Rattle.printer.proofs.LayLaws.{lay-full, lay-off, lay-emit, written}

-- ---- the answer of a writer
done : (n m : ℕ) {k : ℕ} → ◌≡◌ {A = Put} (Ok k) (room n m) → (k ≡ n) × (n ≤ m)
unfolding room
done n m {k} q = go (leb n m) refl q
  where
    go : (t : Bool) → leb n m ≡ t → ◌≡◌ {A = Put} (Ok k) (if-then t (Ok n) (Err no_room)) → (k ≡ n) × (n ≤ m)
    go true h p = (cc, leb-true n m h)
    go false h p = absurd (let z : ◌≡◌ {A = ℕ} 0 1 = cc in omega arith)

short : (n m : ℕ) {e : NoRoom} → ◌≡◌ {A = Put} (Err e) (room n m) → m < n
unfolding room
short n m {e} q = go (leb n m) refl q
  where
    go : (t : Bool) → leb n m ≡ t → ◌≡◌ {A = Put} (Err e) (if-then t (Ok n) (Err no_room)) → m < n
    go true h p = absurd (let z : ◌≡◌ {A = ℕ} 0 1 = cc in omega arith)
    go false h p = leb-false n m h

-- ---- a text over a buffer from a place on is what stands before the place, and the text laid over the rest
over-split : (o : List ℕ) (n : ℕ) (t : List ℕ) → over o n t ≡ take n o ++ laid t (drop n o)
unfolding over laid
over-split [] zero [] = refl
over-split [] zero (x ∷ t) = refl
over-split [] (suc n) [] = refl
over-split [] (suc n) (x ∷ t) = refl
over-split (y ∷ o) zero [] = refl
over-split (y ∷ o) zero (x ∷ t) = ap (λ (l : List ℕ). x ∷ l) (over-split o zero t)
over-split (y ∷ o) (suc n) t = ap (λ (l : List ℕ). y ∷ l) (over-split o n t)

take-least : (o : List ℕ) (n : ℕ) → take (min n (length o)) o ≡ take n o
take-least [] n = take-nil (min n 0) ∙ sym (take-nil n)
take-least (y ∷ o) zero = let e : min 0 (suc (length o)) ≡ 0 = omega arith in rw e
take-least (y ∷ o) (suc n) = let e : min (suc n) (suc (length o)) ≡ suc (min n (length o)) = omega arith in rw e (ap (λ (l : List ℕ). y ∷ l) (take-least o n))

drop-least : (o : List ℕ) (n : ℕ) → drop (min n (length o)) o ≡ drop n o
drop-least [] n = drop-nil (min n 0) ∙ sym (drop-nil n)
drop-least (y ∷ o) zero = let e : min 0 (suc (length o)) ≡ 0 = omega arith in rw e
drop-least (y ∷ o) (suc n) = let e : min (suc n) (suc (length o)) ≡ suc (min n (length o)) = omega arith in rw e (drop-least o n)

-- the free rest of a buffer as it is lent, and the buffer when it is back
abbrev pub rest : List ℕ → ℕ → List ℕ
rest o w = take (length o - w) (drop w o)

abbrev pub back : List ℕ → ℕ → List ℕ → List ℕ
back o w f = take w o ++ (f ++ drop (length o - w) (drop w o))

-- ---- a piece, from the facts as a function's places have them: w is where the free rest starts, p what the writer answered
module _ (o : List ℕ) (st : State) (w : ℕ) (starts : w ≡ min st.written (length o)) where
  pub starts-within : w ≤ length o
  starts-within = omega arith

  rest-is : rest o w ≡ drop st.written o
  rest-is = take_all (length o - w) (drop w o) (omega (arith, length-drop w o)) ∙ (ap (λ (k : ℕ). drop k o) starts ∙ drop-least o st.written)

  size : length (rest o w) ≡ length o - st.written
  size = ap length rest-is ∙ length-drop st.written o

  module _ (t f : List ℕ) (p : Put) (wrote : Wrote t (rest o w) f p) where
    back_is : back o w f ≡ over o st.written t
    back_is =
        ap (λ (l : List ℕ). take w o ++ (f ++ l)) (drop_of_length-le (drop w o) {i = length o - w} (omega (arith, length-drop w o)))
        ∙ (ap (λ (l : List ℕ). take w o ++ l) (append-nil f ∙ (wrote.left ∙ ap (laid t) rest-is))
        ∙ (ap (λ (l : List ℕ). l ++ laid t (drop st.written o)) (ap (λ (k : ℕ). take k o) starts ∙ take-least o st.written)
        ∙ sym (over-split o st.written t)))

    fits : (n : ℕ) → p ≡ Ok n → (n ≡ length t) × (length t ≤ length o - st.written)
    fits n said =
        let k = done (length t) (length (rest o w)) (sym said ∙ wrote.said) in
        (k.0, omega (arith, size))

    pub sum_fits : length o < 2 ^ 64 → st.written < 2 ^ 64 → sum_of p st < 2 ^ 64
    sum_fits h k = go p refl
      where
        go : (q : Put) → p ≡ q → sum_of q st < 2 ^ 64
        go (Ok n) said = let q = fits n said in omega arith
        go (Err e) said = omega arith

    pub piece-laid : (m : Option Mode) (ps : List Piece) (r : State) → st.full ≡ false → r ≡ settled_by p st → render m ps ≡ t → world (back o w f) r ≡ lay m (emit ps) (world o st)
    piece-laid m ps r free h e =
        ap (λ (x : State). world (back o w f) x) (h ∙ go p refl)
        ∙ (ap (λ (b : List ℕ). world b (written o st t).st) back_is
        ∙ sym (lay-emit m ps o st free ∙ ap (written o st) e))
      where
        go : (q : Put) → p ≡ q → settled_by q st ≡ fitted (leb (length t) (length o - st.written)) (record { place = st.place; error = st.error; damaged = st.damaged; written = st.written + length t; full = false }) full_state
        go (Ok n) said = let q = fits n said in rw (le-leb (length t) (length o - st.written) q.1, ← q.0, free)
        go (Err e) said = let k = short (length t) (length (rest o w)) (sym said ∙ wrote.said) in rw (lt-leb (length t) (length o - st.written) (omega (arith, size)))

-- ---- the text of one piece in a mode that prints
pub one_piece : (m : Mode) (p : Piece) (t : List ℕ) → spell (is_short m) p ≡ t → render (Some m) (p ∷ []) ≡ t
unfolding render spelled
one_piece m p t e = append-nil (spell (is_short m) p) ∙ e

-- with nothing printed, or the buffer full, nothing is done
pub quiet-full : (m : Option Mode) (ps : List Piece) (o : List ℕ) (st : State) → st.full ≡ true → world o st ≡ lay m (emit ps) (world o st)
quiet-full m ps o st h = sym (lay-full m (emit ps) (world o st) h)

pub quiet-off : (m : Option Mode) (ps : List Piece) (w : World) → m ≡ None → w ≡ lay m (emit ps) w
quiet-off m ps w h = sym (lay-off m ps w h)
