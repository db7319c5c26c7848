-- Any two answers that a promise allows coincide. Assumes nothing.
use mathlib.Core.Path.{◌≡◌, refl, sym, ap, ◌∙◌}
use mathlib.Core.Bool.{Bool, true, false}
use mathlib.Core.List.{List}
use Prim.Native.Nat.{ℕ, zero, suc}
use denote.Ref.{Bor}
use Rattle.parser.specs.Digits.{if-then}
use Rattle.demangle.specs.Part.{TailOf}
use Rattle.std.specs.Prelude.{Result, Ok, Err}
use Rattle.printer.specs.Says.{U}
use Rattle.pieces.specs.declared.mode.Mode.{Mode}
use native.Mathlib.Omega.{arith}
use Rattle.demangle.specs.Accept.{Verdict, verdict_of}
use Rattle.demangle.proofs.WithinLaws.{Refuses, never-full}
use Rattle.demangle.specs.Rows.{refusal_number, number_by, check_number, number_of, suffix_from, Told, whole, damaged, unknown, Row, answer, row_of}
use Rattle.demangle.specs.declared.refusal.Refusal.{Refusal}
use Rattle.demangle.specs.declared.refusal.Refusal.TheVariants.{Invalid, RecursedTooDeep, TooLong, NoRoom}
use Rattle.demangle.specs.declared.print.Printed.{Printed}

-- ---- an answer read off its number, where t is what it is when nothing was refused
abbrev answered_as : {A : Type 0} → A → ℕ → Result A Refusal
answered_as t zero = Ok t
answered_as t (suc zero) = Err Invalid
answered_as t (suc (suc zero)) = Err RecursedTooDeep
answered_as t (suc (suc (suc zero))) = Err TooLong
answered_as t (suc (suc (suc (suc n)))) = Err NoRoom

checked-back : (r : Result U Refusal) → answered_as tt (check_number r) ≡ r
unfolding check_number refusal_number
checked-back (Ok u) = refl
checked-back (Err Invalid) = refl
checked-back (Err RecursedTooDeep) = refl
checked-back (Err TooLong) = refl
checked-back (Err NoRoom) = refl

pub check-unique : (s : List ℕ) (r q : Result U Refusal) → check_number r ≡ number_of s → check_number q ≡ number_of s → r ≡ q
check-unique s r q h k = sym (checked-back r) ∙ ap (answered_as tt) (h ∙ sym k) ∙ checked-back q

-- none is NoRoom
check-refuses : (s : List ℕ) (e : Refusal) (v : Verdict) → v ≡ verdict_of s → check_number (Err e) ≡ number_by v → Refuses e
unfolding check_number number_by refusal_number
check-refuses s NoRoom (Ok x) h k = absurd (omega (arith, k))
check-refuses s NoRoom (Err Invalid) h k = absurd (omega (arith, k))
check-refuses s NoRoom (Err RecursedTooDeep) h k = absurd (omega (arith, k))
check-refuses s NoRoom (Err TooLong) h k = absurd (omega (arith, k))
check-refuses s NoRoom (Err NoRoom) h k = never-full s h refl
check-refuses s Invalid v h k = tt
check-refuses s RecursedTooDeep v h k = tt
check-refuses s TooLong v h k = tt

pub check-room : (s : List ℕ) (e : Refusal) → check_number (Err e) ≡ number_of s → Refuses e
unfolding number_of
check-room s e k = check-refuses s e (verdict_of s) refl k

-- ---- an answer read off its row
abbrev pub is_whole : Told → Bool
is_whole whole = true
is_whole damaged = false
is_whole unknown = false

abbrev row_as : Row → Result Printed Refusal
row_as q = answered_as (record { length = q.length; whole = is_whole q.state }) q.number

abbrev done : Printed → Result Printed Refusal
done t = Ok t

whole-back : (w : Bool) → is_whole (if-then w whole damaged) ≡ w
whole-back true = refl
whole-back false = refl

printed-back : (r : Result Printed Refusal) (b : List ℕ) → row_as (answer r b) ≡ r
unfolding answer
printed-back (Ok t) b = ap (λ (w : Bool). done (record { length = t.length; whole = w })) (whole-back t.whole)
printed-back (Err Invalid) b = refl
printed-back (Err RecursedTooDeep) b = refl
printed-back (Err TooLong) b = refl
printed-back (Err NoRoom) b = refl

buffer-back : (r : Result Printed Refusal) (b : List ℕ) → (answer r b).buffer ≡ b
unfolding answer
buffer-back (Ok t) b = refl
buffer-back (Err Invalid) b = refl
buffer-back (Err RecursedTooDeep) b = refl
buffer-back (Err TooLong) b = refl
buffer-back (Err NoRoom) b = refl

-- the answer, and each byte of the buffer afterwards; d and e are the buffers after two calls
pub print-unique : (mode : Mode) (s b : List ℕ) (r q : Result Printed Refusal) (d e : List ℕ) → answer r d ≡ row_of mode s b → answer q e ≡ row_of mode s b → (r ≡ q) × (d ≡ e)
print-unique mode s b r q d e h k =
    (sym (printed-back r d) ∙ ap row_as (h ∙ sym k) ∙ printed-back q e, sym (buffer-back r d) ∙ ap (λ (x : Row). x.buffer) (h ∙ sym k) ∙ buffer-back q e)

-- ---- a part: where it starts, and its bytes
pub suffix-unique : (s r q : Bor (List ℕ)) → TailOf s (suffix_from s.now) r → TailOf s (suffix_from s.now) q → (r.ref_ptr.0 ≡ q.ref_ptr.0) × (r.ref_ptr.1 ≡ q.ref_ptr.1) × (r.now ≡ q.now)
suffix-unique s r q h k = (h.block ∙ sym k.block, h.start ∙ sym k.start, h.bytes ∙ sym k.bytes)
