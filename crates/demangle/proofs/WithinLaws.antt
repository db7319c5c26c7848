-- Where a reading ended lies within the symbol, and its refusal is one of three. Assumes nothing.
use Rattle.std.specs.Prelude.{Option, Some, None, Ok, Err}
use mathlib.Core.Path.{◌≡◌, refl, sym, ◌∙◌, subst}
use mathlib.Core.Bool.{false, ◌&&◌}
use mathlib.Core.List.{List}
use Prim.Native.Nat.{ℕ, zero, suc, ◌+◌, ◌≤◌}
use native.Mathlib.Omega.{arith}
use lib.Dec.{ltb}
use lib.ListN.{length, drop, get_or, length-drop}
use Rattle.printer.specs.Says.{U, Res, ok, bad}
use Rattle.printer.specs.Model.{level}
use Rattle.demangle.proofs.ClosedLaws.{either}
use Rattle.demangle.proofs.EndLaws.{ends}
use Rattle.demangle.proofs.GrammarLaws.{checked}
use Rattle.demangle.proofs.PrefixLaws.{PrefixIn, prefix-within}
use Rattle.demangle.specs.Accept.{Reached, Verdict, levels, most, prefix_of, is_upper, all_ascii, reached_of, path_at, second_at, behind_at, reading_of, verdict_by, verdict_at, verdict_of}
use Rattle.demangle.specs.declared.refusal.Refusal.{Refusal}
use Rattle.demangle.specs.declared.refusal.Refusal.TheVariants.{Invalid, RecursedTooDeep, TooLong, NoRoom}

-- a symbol is refused by what it is, and not for want of room
abbrev pub Refuses : Refusal → Type 0
Refuses Invalid = U
Refuses RecursedTooDeep = U
Refuses TooLong = U
Refuses NoRoom = ⊥

abbrev ReachedIn : List ℕ → Reached → Type 0
ReachedIn s (Ok i) = i ≤ length s
ReachedIn s (Err e) = Refuses e

abbrev VerdictIn : List ℕ → Verdict → Type 0
VerdictIn s (Ok (k, i)) = k + i ≤ length s
VerdictIn s (Err e) = Refuses e

module _ (s : List ℕ) where
  run_in : (i : ℕ) (r : Res U) → ((level s levels).path false false 0).run i ≡ r → ReachedIn s (reached_of r)
  run_in i (ok a j d o) e = ends s (checked s levels false d 0 i j e)
  run_in i (bad a zero j d o) e = tt
  run_in i (bad a (suc x) j d o) e = tt

  path-in : (i : ℕ) → ReachedIn s (path_at s i)
  unfolding path_at
  path-in i = run_in i (((level s levels).path false false 0).run i) refl

  second-in : (i : ℕ) → i ≤ length s → ReachedIn s (second_at s i)
  unfolding second_at
  second-in i h = either (ReachedIn s) (is_upper (get_or s i 0)) (path_at s i) (Ok i) (path-in i) h

  behind-in : (f : Reached) → ReachedIn s f → ReachedIn s (behind_at s f)
  unfolding behind_at
  behind-in (Ok i) h = second-in i h
  behind-in (Err e) h = h

  reading-in : ReachedIn s (reading_of s)
  unfolding reading_of
  reading-in =
      either (ReachedIn s) (is_upper (get_or s 0 0) && all_ascii s) (behind_at s (path_at s 0)) (Err Invalid) (behind-in (path_at s 0) (path-in 0)) tt

verdict-by : (s : List ℕ) (k : ℕ) (f : Reached) → k ≤ length s → ReachedIn (drop k s) f → VerdictIn s (verdict_by k f)
unfolding verdict_by
verdict-by s k (Ok i) h l = omega (arith, length-drop k s)
verdict-by s k (Err e) h l = l

verdict-at : (s : List ℕ) (x : Option ℕ) → PrefixIn s x → VerdictIn s (verdict_at s x)
unfolding verdict_at
verdict-at s (Some k) h = verdict-by s k _ h (reading-in (drop k s))
verdict-at s None h = tt

verdict-in : (s : List ℕ) → VerdictIn s (verdict_of s)
unfolding verdict_of
verdict-in s = either (VerdictIn s) (ltb most (length s)) (Err TooLong) (verdict_at s (prefix_of s)) tt (verdict-at s (prefix_of s) (prefix-within s))

-- prefix and reading of an accepted symbol
pub accepted-within : (s : List ℕ) {v : Verdict} {k i : ℕ} → v ≡ verdict_of s → v ≡ Ok (k, i) → k + i ≤ length s
accepted-within s h e = subst (VerdictIn s) (sym h ∙ e) (verdict-in s)

-- no verdict is NoRoom
pub never-full : (s : List ℕ) {v : Verdict} {e : Refusal} → v ≡ verdict_of s → v ≡ Err e → Refuses e
never-full s h e = subst (VerdictIn s) (sym h ∙ e) (verdict-in s)

-- nor does a refusal that comes from a reading become one
pub judge_room : (s : List ℕ) {f : Reached} {e : Refusal} {v : Verdict} → f ≡ reading_of s → f ≡ Err e → v ≡ Err e → v ≡ Err NoRoom → ⊥
judge_room s h k l m = subst (VerdictIn s) (sym l ∙ m) (subst (ReachedIn s) (sym h ∙ k) (reading-in s))
