-- What `check`, `suffix` and `print` answer. Assumes nothing.
use Rattle.std.specs.Prelude.{Some, Ok, Err, max}
use mathlib.Core.Path.{◌≡◌, refl, sym, ap, ◌∙◌}
use mathlib.Core.Bool.{Bool, true, false, not, true≢false}
use mathlib.Core.List.{List}
use Prim.Native.Nat.{ℕ, suc, ◌+◌, ◌-◌, ◌^◌, ◌≤◌, ◌<◌}
use native.Mathlib.Omega.{arith}
use borrow.Author.Rules.{rules}
use mir.Val.{Fits}
use mir.Syntax.{w64}
use lib.Dec.{leb}
use lib.ListN.{length, take, drop, length-drop}
use lib.Seq.{take_all}
use Rattle.pieces.specs.declared.mode.Mode.{Mode}
use Rattle.printer.specs.Says.{U, Res, ok, bad, Says}
use Rattle.printer.specs.Over.{over}
use Rattle.printer.specs.Lay.{State, state_of, World, world, at, lay, lays, doing, fitted, full_state, text, place_of, error_of, damage_of, fresh, code_of, filled}
use Rattle.printer.specs.Model.{level}
use Rattle.printer.specs.declared.state.Status.{Status}
use Rattle.printer.specs.declared.state.Status.TheVariants.{Going, Invalid as IsInvalid, RecursedTooDeep as IsDeep, Full, Other}
use Rattle.printer.specs.declared.state.Printer.{Printer}
use Rattle.printer.proofs.OverLaws.{length_over}
use Rattle.demangle.proofs.WithinLaws.{accepted-within}
use Rattle.demangle.specs.Accept.{Verdict, levels, verdict_of}
use Rattle.demangle.specs.Rows.{check_number, refusal_number, number_by, number_of, suffix_by, suffix_from, Row, answer, first_path, text_of, soundly, shown, row_by, row_of}
use Rattle.demangle.specs.declared.refusal.Refusal.{Refusal}
use Rattle.demangle.specs.declared.refusal.Refusal.TheVariants.{Invalid, RecursedTooDeep, TooLong, NoRoom}

-- ---- a refusal's number and its row are the verdict's
number-same : (e : Refusal) → refusal_number e ≡ number_by (Err e)
unfolding refusal_number number_by
number-same Invalid = refl
number-same RecursedTooDeep = refl
number-same TooLong = refl
number-same NoRoom = refl

row-same : (mode : Mode) (s b : List ℕ) (e : Refusal) → answer (Err e) b ≡ row_by mode s b (Err e)
unfolding answer row_by
row-same mode s b Invalid = refl
row-same mode s b RecursedTooDeep = refl
row-same mode s b TooLong = refl
row-same mode s b NoRoom = refl

-- ---- the check; v is what was judged
module _ (s : List ℕ) {v : Verdict} (judged : v ≡ verdict_of s) where
  pub check_done : {x : ℕ × ℕ} → v ≡ Ok x → check_number (Ok tt) ≡ number_of s
  unfolding check_number number_of number_by
  check_done h = rw (← judged, h)

  pub check-refused : {e : Refusal} → v ≡ Err e → check_number (Err e) ≡ number_of s
  unfolding check_number number_of
  check-refused {e} h = number-same e ∙ ap number_by (sym h ∙ judged)

  -- where the suffix starts
  pub start-done : {k i : ℕ} → v ≡ Ok (k, i) → k + i ≡ suffix_from s
  unfolding suffix_from suffix_by
  start-done h = rw (← judged, h)

  pub start-refused : {e : Refusal} → v ≡ Err e → length s ≡ suffix_from s
  unfolding suffix_from suffix_by
  start-refused h = rw (← judged, h)

  pub start_fits : {k i : ℕ} → v ≡ Ok (k, i) → length s < 2 ^ 64 → Fits w64 (k + i)
  start_fits h n = let m : _ ≤ length s = accepted-within s judged h in omega arith

pub ruleset check_laws = (check_done, check-refused, rules)

pub ruleset start_laws = (start-done, start-refused, start_fits, rules)

-- it lies within the symbol
suffix-by : (s : List ℕ) (v : Verdict) → v ≡ verdict_of s → suffix_by s v ≤ length s
unfolding suffix_by
suffix-by s (Ok (k, i)) h = accepted-within s h refl
suffix-by s (Err e) h = omega arith

pub suffix_within : (s : List ℕ) {n : ℕ} → n ≡ suffix_from s → n ≤ length s
unfolding suffix_from
suffix_within s h = rw h (suffix-by s (verdict_of s) refl)

-- a part to the end has the bytes that are left
pub tail-bytes : (n : ℕ) (s : List ℕ) → take (length s - n) (drop n s) ≡ drop n s
tail-bytes n s = take_all (length s - n) (drop n s) (omega (arith, length-drop n s))

pub ruleset suffix_laws = (suffix_within, rules)

-- ---- the print
minus-zero : (n : ℕ) → n - 0 ≡ n
minus-zero n = omega arith

-- a buffer and a fresh state after a path: its text is laid, and the state is its run's, or full
abbrev ended : Mode → Res U → State
ended m r = record { place = place_of r; error = error_of r; damaged = damage_of r; written = 0 + length (text (Some m) r); full = false }

laid-fresh : (m : Mode) (a : Says U) (o : List ℕ) → lay (Some m) a (world o (fresh 0)) ≡ world (over o 0 (text (Some m) (a.run 0))) (fitted (leb (length (text (Some m) (a.run 0))) (length o)) (ended m (a.run 0)) full_state)
unfolding lay lays doing
laid-fresh m a o =
    ap (λ (n : ℕ). world (over o 0 (text (Some m) (a.run 0))) (fitted (leb (length (text (Some m) (a.run 0))) n) (ended m (a.run 0)) full_state)) (minus-zero (length o))

-- full exactly where the text does not fit
fits_not : (t : Bool) (q s : State) → s ≡ fitted t q full_state → q.full ≡ false → s.full ≡ true → t ≡ false
fits_not true q s h k l = absurd (true≢false (sym l ∙ ap (λ (x : State). x.full) h ∙ k))
fits_not false q s h k l = refl

fits : (t : Bool) (q s : State) → s ≡ fitted t q full_state → s.full ≡ false → t ≡ true
fits true q s h k = refl
fits false q s h k = absurd (true≢false (sym (ap (λ (x : State). x.full) h) ∙ k))

fits-as : (t : Bool) (q s : State) → s ≡ fitted t q full_state → s.full ≡ false → s ≡ q
fits-as true q s h k = h
fits-as false q s h k = absurd (true≢false (sym (ap (λ (x : State). x.full) h) ∙ k))

-- whole: by the error and the damage
sound-by : (r : Res U) (d : Bool) → 0 ≡ error_of r → d ≡ damage_of r → not d ≡ soundly r
sound-by (ok a j e o) d h k = rw k
sound-by (bad a y j e o) d h k = absurd (omega (arith, h))

unsound-by : (r : Res U) {x : ℕ} → suc x ≡ error_of r → false ≡ soundly r
unsound-by (ok a j e o) h = absurd (omega (arith, h))
unsound-by (bad a y j e o) h = refl

unsound-above : (r : Res U) (n : ℕ) → max n 4 ≡ error_of r → false ≡ soundly r
unsound-above (ok a j e o) n h = absurd (omega (arith, h))
unsound-above (bad a y j e o) n h = refl

abbrev printed : List ℕ → Says U
printed s = (level s levels).path true true 0

-- p is the printer before, and q after; o is the buffer before, and e after
module _ (mode : Mode) (s o e : List ℕ) (p q : Printer) (lent : p.out.now ≡ o) (new : state_of p.st ≡ fresh 0) (done : at q ≡ lay (Some mode) ((level s levels).path true true 0) (at p)) (back : e ≡ q.out.now) where
  after : at q ≡ world (over o 0 (text_of mode s)) (fitted (leb (length (text_of mode s)) (length o)) (ended mode (first_path s)) full_state)
  unfolding text_of first_path
  after = (rw (lent, new) at done) ∙ laid-fresh mode (printed s) o

  state : state_of q.st ≡ fitted (leb (length (text_of mode s)) (length o)) (ended mode (first_path s)) full_state
  state = ap (λ (w : World). w.st) after

  laid-is : e ≡ over o 0 (text_of mode s)
  laid-is = back ∙ ap (λ (w : World). w.buf) after

  abbrev fitting : Bool
  fitting = leb (length (text_of mode s)) (length o)

  pub text-full : q.st.status ≡ Full → answer (Err NoRoom) e ≡ shown mode s o
  unfolding answer shown
  text-full h = rw (fits_not fitting (ended mode (first_path s)) (state_of q.st) state refl (rw h), laid-is, length_over o 0 (text_of mode s))

  module _ (room : filled q.st.status ≡ false) where
    same : state_of q.st ≡ ended mode (first_path s)
    same = fits-as fitting (ended mode (first_path s)) (state_of q.st) state room

    error-is : code_of q.st.status ≡ error_of (first_path s)
    error-is = ap (λ (x : State). x.error) same

    length-is : q.st.written ≡ length (text_of mode s)
    unfolding text_of
    length-is = let h : q.st.written ≡ 0 + length (text_of mode s) = ap (λ (x : State). x.written) same in omega (arith, h)

    done-is : (w : Bool) → w ≡ soundly (first_path s) → answer (Ok (record { length = q.st.written; whole = w })) e ≡ shown mode s o
    unfolding answer shown
    done-is w h = rw (fits fitting (ended mode (first_path s)) (state_of q.st) state room, h, length-is, laid-is)

  pub text-done : q.st.status ≡ Going → answer (Ok (record { length = q.st.written; whole = not q.st.damaged })) e ≡ shown mode s o
  text-done h =
      let room : filled q.st.status ≡ false = rw h in
      done-is room (not q.st.damaged) (sound-by (first_path s) q.st.damaged (rw h at (error-is room)) (ap (λ (x : State). x.damaged) (same room)))

  module _ (full : q.st.status ≡ Full → ⊥) (going : q.st.status ≡ Going → ⊥) where
    pub text-damaged : answer (Ok (record { length = q.st.written; whole = false })) e ≡ shown mode s o
    text-damaged = go q.st.status refl
      where
        go : (x : Status) → q.st.status ≡ x → answer (Ok (record { length = q.st.written; whole = false })) e ≡ shown mode s o
        go Going h = absurd (going h)
        go IsInvalid h = done-is (rw h) false (unsound-by (first_path s) (rw h at (error-is (rw h))))
        go IsDeep h = done-is (rw h) false (unsound-by (first_path s) (rw h at (error-is (rw h))))
        go Full h = absurd (full h)
        go (Other n) h = done-is (rw h) false (unsound-above (first_path s) n (rw h at (error-is (rw h))))

pub ruleset text_laws = (text-full, text-done, text-damaged, rules)

-- v is what was judged, b the buffer before
module _ (mode : Mode) (s b : List ℕ) {v : Verdict} (judged : v ≡ verdict_of s) where
  module _ {k i : ℕ} (known : v ≡ Ok (k, i)) where
    pub print-within : k ≤ length s
    print-within = let h : k + i ≤ length s = accepted-within s judged known in omega arith

    pub print-done : {q : Row} → q ≡ shown mode (take (length s - k) (drop k s)) b → q ≡ row_of mode s b
    unfolding row_of row_by
    print-done h = h ∙ rw (tail-bytes k s, ← judged, known)

  pub print-refused : {e : Refusal} → v ≡ Err e → answer (Err e) b ≡ row_of mode s b
  unfolding row_of
  print-refused {e} h = row-same mode s b e ∙ ap (row_by mode s b) (sym h ∙ judged)

pub ruleset print_laws = (print-within, print-done, print-refused, rules)
