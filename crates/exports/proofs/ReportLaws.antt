-- What the exported functions answer. Assumes nothing.
use Rattle.std.specs.Prelude.{Result, Ok, Err}
use mathlib.Core.Path.{◌≡◌, refl, ap, ◌∙◌}
use mathlib.Core.Bool.{Bool, true, false}
use mathlib.Core.List.{List, [], ◌∷◌}
use Prim.Native.Nat.{ℕ, zero, suc, ◌≤◌, ◌<◌}
use native.Mathlib.Omega.{arith}
use borrow.Author.Rules.{rules}
use lib.ListN.{length, set}
use Rattle.parser.specs.Digits.{if-then}
use Rattle.printer.specs.Says.{U}
use Rattle.printer.specs.Over.{over}
use Rattle.demangle.specs.Rows.{refusal_number, check_number, number_of, whole, damaged, answer, row_of}
use Rattle.demangle.specs.declared.refusal.Refusal.{Refusal}
use Rattle.demangle.specs.declared.refusal.Refusal.TheVariants.{Invalid, RecursedTooDeep, TooLong, NoRoom}
use Rattle.demangle.specs.declared.print.Printed.{Printed}
use Rattle.pieces.specs.declared.mode.Mode.{Mode}
use Rattle.pieces.specs.declared.mode.Mode.TheVariants.{Plain, Short}
use Rattle.exports.specs.Report.{mode_by, state_number, state_by, reported, given}

-- ---- the check
module _ (s : List ℕ) {c : Result U Refusal} (answered : check_number c ≡ number_of s) where
  pub number-done : c ≡ Ok tt → 0 ≡ number_of s
  unfolding check_number
  number-done h = rw (← answered, h)

  pub number-refused : {e : Refusal} {n : ℕ} → c ≡ Err e → n ≡ refusal_number e → n ≡ number_of s
  unfolding check_number
  number-refused h k = rw (← answered, h) k

pub ruleset check_laws = (number-done, number-refused, rules)

-- ---- the mode and the state
pub mode-plain : (m : ℕ) → m ≡ 0 → Plain ≡ mode_by m
unfolding mode_by
mode-plain m h = rw h

pub mode-short : (m : ℕ) → (m ≡ 0 → ⊥) → Short ≡ mode_by m
unfolding mode_by
mode-short zero h = absurd (h refl)
mode-short (suc m) h = refl

pub ruleset mode_laws = (mode-plain, mode-short, rules)

pub state-whole : (w : Bool) → w ≡ true → 1 ≡ state_by w
unfolding state_by
state-whole w h = rw h

pub state-damaged : (w : Bool) → w ≡ false → 2 ≡ state_by w
unfolding state_by
state-damaged w h = rw h

pub ruleset state_laws = (state-whole, state-damaged, rules)

state-is : (w : Bool) → state_by w ≡ state_number (if-then w whole damaged)
unfolding state_by state_number
state-is true = refl
state-is false = refl

-- ---- the report
pub put-there : (r : List ℕ) (i v : ℕ) → i < length r → set r i v ≡ over r i (v ∷ [])
unfolding over
put-there [] i v h = absurd (omega arith)
put-there (x ∷ []) zero v h = refl
put-there (x ∷ y ∷ r) zero v h = refl
put-there (x ∷ r) (suc i) v h = ap (λ (t : List ℕ). x ∷ t) (put-there r i v (omega arith))

pub put-past : (r : List ℕ) (i v : ℕ) → length r ≤ i → r ≡ over r i (v ∷ [])
unfolding over
put-past [] i v h = refl
put-past (x ∷ r) zero v h = absurd (omega arith)
put-past (x ∷ r) (suc i) v h = ap (λ (t : List ℕ). x ∷ t) (put-past r i v (omega arith))

pub ruleset put_laws = (put-there, put-past, rules)

two : (r : List ℕ) (l t : ℕ) → over (over r 0 (l ∷ [])) 1 (t ∷ []) ≡ over r 0 (l ∷ t ∷ [])
unfolding over
two [] l t = refl
two (x ∷ []) l t = refl
two (x ∷ y ∷ []) l t = refl
two (x ∷ y ∷ z ∷ r) l t = refl

pub told-two : (r f g : List ℕ) (l t : ℕ) → f ≡ over r 0 (l ∷ []) → g ≡ over f 1 (t ∷ []) → g ≡ over r 0 (l ∷ t ∷ [])
told-two r f g l t h k = k ∙ rw h (two r l t)

pub ruleset tell_laws = (told-two, rules)

-- ---- the print: e and f are buffer and report after the call
pub length-full : (x : Refusal) (e : List ℕ) → x ≡ NoRoom → length e ≡ (answer (Err x) e).length
unfolding answer
length-full x e h = rw h

pub length-none : (x : Refusal) (e : List ℕ) → (x ≡ NoRoom → ⊥) → 0 ≡ (answer (Err x) e).length
unfolding answer
length-none Invalid e o = refl
length-none RecursedTooDeep e o = refl
length-none TooLong e o = refl
length-none NoRoom e o = absurd (o refl)

pub ruleset length_laws = (length-full, length-none, rules)

module _ (mode : ℕ) (s b e r f : List ℕ) {m : Mode} {p : Result Printed Refusal} (chosen : m ≡ mode_by mode) (met : answer p e ≡ row_of m s b) where
  pub print-done : {x : Printed} {t : ℕ} → p ≡ Ok x → t ≡ state_by x.whole → f ≡ over r 0 (x.length ∷ t ∷ []) → reported 0 e f ≡ given r (row_of (mode_by mode) s b)
  unfolding given answer
  print-done {x} {t} h k l = rw (← chosen, ← met, h, l, k, state-is x.whole)

  pub print-refused : {x : Refusal} {n l : ℕ} → p ≡ Err x → n ≡ refusal_number x → l ≡ (answer (Err x) e).length → f ≡ over r 0 (l ∷ 0 ∷ []) → reported n e f ≡ given r (row_of (mode_by mode) s b)
  unfolding given answer state_number refusal_number
  print-refused {x} {n} h k l o = rw (← chosen, ← met, h, k, o, l) (go x)
    where
      go : (y : Refusal) → reported (refusal_number y) e (over r 0 ((answer (Err y) e).length ∷ 0 ∷ [])) ≡ given r (answer (Err y) e)
      go Invalid = refl
      go RecursedTooDeep = refl
      go TooLong = refl
      go NoRoom = refl

pub ruleset print_laws = (print-done, print-refused, rules)
