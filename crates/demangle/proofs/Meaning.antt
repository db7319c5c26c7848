-- What Done, the suffix, whole and damaged mean, by the grammar and without the printer. Assumes nothing.
use Rattle.std.specs.Prelude.{Option, Some, None, Ok, Err}
use mathlib.Core.Path.{◌≡◌, refl, sym, ap, ◌∙◌, subst}
use mathlib.Core.Bool.{Bool, true, false, ◌&&◌, true≢false}
use mathlib.Core.List.{List}
use Prim.Native.Nat.{ℕ, zero, suc, ◌+◌, ◌≤◌}
use native.Mathlib.Omega.{arith}
use borrow.Author.Tests.{ltb-false, le-ltb, le-leb}
use lib.Dec.{ltb}
use lib.ListN.{length, drop, get_or}
use Rattle.parser.specs.Digits.{if-then}
use Rattle.printer.specs.Says.{U, Res, ok, bad}
use Rattle.printer.specs.Model.{level}
use Rattle.demangle.specs.Accept.{Reached, Verdict, most, levels, prefix_of, is_upper, all_ascii, reached_of, path_at, second_at, behind_at, reading_of, verdict_by, verdict_at, verdict_of}
use Rattle.demangle.specs.Rows.{refusal_number, number_by, number_of, suffix_by, suffix_from, whole, damaged, first_path, text_of, soundly, shown, row_by, row_of}
use Rattle.demangle.specs.Grammar.{path, check, free, Reads}
use Rattle.demangle.specs.Sound.{Ready, Behind, alone, second, Accepts, SoundTo}
use Rattle.demangle.proofs.GrammarLaws as grammar
use Rattle.demangle.proofs.Unique.{is_whole}
use Rattle.demangle.specs.declared.refusal.Refusal.TheVariants.{Invalid, RecursedTooDeep, TooLong, NoRoom}
use Rattle.pieces.specs.declared.mode.Mode.{Mode}

-- ---- the parts of an answer
abbrev is_at : Reached → Bool
is_at (Ok i) = true
is_at (Err e) = false

abbrev place_of : Reached → ℕ
place_of (Ok i) = i
place_of (Err e) = 0

abbrev is_accepted : Verdict → Bool
is_accepted (Ok v) = true
is_accepted (Err e) = false

abbrev prefix_in : Verdict → ℕ
prefix_in (Ok (k, i)) = k
prefix_in (Err e) = 0

abbrev place_in : Verdict → ℕ
place_in (Ok (k, i)) = i
place_in (Err e) = 0

-- ---- a path that the check reads
module _ (t : List ℕ) where
  run-derived : (i j : ℕ) (r : Res U) → ((level t levels).path false false 0).run i ≡ r → reached_of r ≡ Ok j → Reads t path check levels 0 i j
  run-derived i j (ok a k d o) e h = subst (Reads t path check levels 0 i) (ap place_of h) (grammar.checked t levels false d 0 i k e)
  run-derived i j (bad a zero k d o) e h = absurd (true≢false (sym (ap is_at h)))
  run-derived i j (bad a (suc x) k d o) e h = absurd (true≢false (sym (ap is_at h)))

  path-derived : (i j : ℕ) → path_at t i ≡ Ok j → Reads t path check levels 0 i j
  unfolding path_at
  path-derived i j h = run-derived i j (((level t levels).path false false 0).run i) refl h

  path-reached : (i j : ℕ) → Reads t path check levels 0 i j → path_at t i ≡ Ok j
  unfolding path_at
  path-reached i j r = ap reached_of (grammar.whole t false false r).1

  -- ---- behind the first path
  second-derived : (i j : ℕ) (u : Bool) → is_upper (get_or t i 0) ≡ u → if-then u (path_at t i) (Ok i) ≡ Ok j → Behind t i j
  second-derived i j true e h = second e (path-derived i j h)
  second-derived i j false e h = subst (Behind t i) (ap place_of h) (alone e)

  second-reached : (i j : ℕ) → Behind t i j → second_at t i ≡ Ok j
  unfolding second_at
  second-reached i j (alone e) = rw e
  second-reached i j (second e r) = rw e (path-reached i j r)

-- ---- accepted: from the verdict
by-accepted : (m : ℕ) (r : Reached) (k j : ℕ) → verdict_by m r ≡ Ok (k, j) → (m ≡ k) × (r ≡ Ok j)
unfolding verdict_by
by-accepted m (Ok i) k j h = (ap prefix_in h, ap (λ (v : Verdict). Ok (place_in v)) h)
by-accepted m (Err e) k j h = absurd (true≢false (sym (ap is_accepted h)))

module _ (s : List ℕ) (k : ℕ) (short : length s ≤ most) (found : prefix_of s ≡ Some k) where
  behind-derived : (j : ℕ) (f : Reached) → path_at (drop k s) 0 ≡ f → behind_at (drop k s) f ≡ Ok j → Ready s k → Accepts s k j
  unfolding behind_at second_at
  behind-derived j (Ok i) e h q =
      record { ready = q; end = i; first = path-derived (drop k s) 0 i e; rest = second-derived (drop k s) i j (is_upper (get_or (drop k s) i 0)) refl h }
  behind-derived j (Err x) e h q = absurd (true≢false (sym (ap is_at h)))

  ready-derived : (j : ℕ) (u a : Bool) → is_upper (get_or (drop k s) 0 0) ≡ u → all_ascii (drop k s) ≡ a → if-then (u && a) (behind_at (drop k s) (path_at (drop k s) 0)) (Err Invalid) ≡ Ok j → Accepts s k j
  ready-derived j true true e g h =
      behind-derived j (path_at (drop k s) 0) refl h (record { short = short; prefix = found; letter = e; ascii = g })
  ready-derived j true false e g h = absurd (true≢false (sym (ap is_at h)))
  ready-derived j false a e g h = absurd (true≢false (sym (ap is_at h)))

  reading-derived : (j : ℕ) → reading_of (drop k s) ≡ Ok j → Accepts s k j
  unfolding reading_of
  reading-derived j h = ready-derived j (is_upper (get_or (drop k s) 0 0)) (all_ascii (drop k s)) refl refl h

prefix-derived : (s : List ℕ) (m : Option ℕ) (k j : ℕ) → length s ≤ most → prefix_of s ≡ m → verdict_at s m ≡ Ok (k, j) → Accepts s k j
unfolding verdict_at
prefix-derived s (Some m) k j l f h = go (by-accepted m (reading_of (drop m s)) k j h)
  where
    go : (m ≡ k) × (reading_of (drop m s) ≡ Ok j) → Accepts s k j
    go q = subst (λ (x : ℕ). Accepts s x j) q.0 (reading-derived s m l f j q.1)
prefix-derived s None k j l f h = absurd (true≢false (sym (ap is_accepted h)))

length-derived : (s : List ℕ) (k j : ℕ) (z : Bool) → ltb most (length s) ≡ z → if-then z (Err TooLong) (verdict_at s (prefix_of s)) ≡ Ok (k, j) → Accepts s k j
length-derived s k j true e h = absurd (true≢false (sym (ap is_accepted h)))
length-derived s k j false e h = prefix-derived s (prefix_of s) k j (ltb-false most (length s) e) refl h

-- ======== THE THEOREMS
-- accepted, with a prefix of k bytes and a suffix j bytes behind it: exactly where there are the derivations
pub accepts : (s : List ℕ) (k j : ℕ) → verdict_of s ≡ Ok (k, j) → Accepts s k j
unfolding verdict_of
accepts s k j h = length-derived s k j (ltb most (length s)) refl h

pub accepted : (s : List ℕ) (k j : ℕ) → Accepts s k j → verdict_of s ≡ Ok (k, j)
unfolding verdict_of verdict_at verdict_by reading_of behind_at
accepted s k j a =
    rw (le-ltb most (length s) a.ready.short, a.ready.prefix, a.ready.letter, a.ready.ascii, path-reached (drop k s) 0 a.end a.first, second-reached (drop k s) a.end j a.rest)

-- so of the check's number and of the suffix: Done exactly for such a symbol, and the suffix starts where the last derivation ends
number-done : (s : List ℕ) (v : Verdict) → verdict_of s ≡ v → number_by v ≡ 0 → (k : ℕ) × (j : ℕ) × Accepts s k j
unfolding number_by refusal_number
number-done s (Ok (k, j)) e h = (k, j, accepts s k j e)
number-done s (Err Invalid) e h = absurd (omega (arith, h))
number-done s (Err RecursedTooDeep) e h = absurd (omega (arith, h))
number-done s (Err TooLong) e h = absurd (omega (arith, h))
number-done s (Err NoRoom) e h = absurd (omega (arith, h))

pub done-accepts : (s : List ℕ) → number_of s ≡ 0 → (k : ℕ) × (j : ℕ) × Accepts s k j
unfolding number_of
done-accepts s h = number-done s (verdict_of s) refl h

pub accepts-done : (s : List ℕ) (k j : ℕ) → Accepts s k j → (number_of s ≡ 0) × (suffix_from s ≡ k + j)
unfolding number_of number_by suffix_from suffix_by
accepts-done s k j a = (rw (accepted s k j a), rw (accepted s k j a))

-- the reading is unique
pub accepts-one : (s : List ℕ) (k j l m : ℕ) → Accepts s k j → Accepts s l m → (k ≡ l) × (j ≡ m)
accepts-one s k j l m a b = let h = sym (accepted s k j a) ∙ accepted s l m b in (ap prefix_in h, ap place_in h)

pub first_one : (s : List ℕ) (k j m : ℕ) (a : Accepts s k j) (b : Accepts s k m) → a.end ≡ b.end
first_one s k j m a b = grammar.one_end (drop k s) a.first b.first

-- ---- whole: exactly where the first path is sound
run_sound : (t : List ℕ) (r : Res U) → ((level t levels).path true true 0).run 0 ≡ r → soundly r ≡ true → (j : ℕ) × SoundTo t j
run_sound t (ok a j true o) e h = absurd (true≢false (sym h))
run_sound t (ok a j false o) e h = (j, grammar.derived t levels true true 0 0 j e)
run_sound t (bad a x j d o) e h = absurd (true≢false (sym h))

path-sound : (t : List ℕ) → soundly (first_path t) ≡ true → (j : ℕ) × SoundTo t j
unfolding first_path
path-sound t h = run_sound t (((level t levels).path true true 0).run 0) refl h

sound-path : (t : List ℕ) (j : ℕ) → SoundTo t j → soundly (first_path t) ≡ true
unfolding first_path
sound-path t j r = ap soundly (grammar.whole t true true r).1

pub free-sound : (t : List ℕ) (j : ℕ) → Reads t path free levels 0 0 j → SoundTo t j
free-sound t j r = grammar.free-reads t r

-- s is accepted with a prefix of k bytes, and its text fits the buffer b
module _ (mode : Mode) (s b : List ℕ) (k i : ℕ) (taken : verdict_of s ≡ Ok (k, i)) (fits : length (text_of mode (drop k s)) ≤ length b) where
  state-is : (row_of mode s b).state ≡ if-then (soundly (first_path (drop k s))) whole damaged
  unfolding row_of row_by shown
  state-is = rw (taken, le-leb (length (text_of mode (drop k s))) (length b) fits)

  pub whole-sound : (row_of mode s b).state ≡ whole → (j : ℕ) × SoundTo (drop k s) j
  whole-sound h = go (soundly (first_path (drop k s))) refl (sym state-is ∙ h)
    where
      go : (t : Bool) → soundly (first_path (drop k s)) ≡ t → if-then t whole damaged ≡ whole → (j : ℕ) × SoundTo (drop k s) j
      go true e q = path-sound (drop k s) e
      go false e q = absurd (true≢false (sym (ap is_whole q)))

  pub sound-whole : (j : ℕ) → SoundTo (drop k s) j → (row_of mode s b).state ≡ whole
  sound-whole j r = state-is ∙ rw (sound-path (drop k s) j r)

  pub unsound-damaged : ((j : ℕ) → SoundTo (drop k s) j → ⊥) → (row_of mode s b).state ≡ damaged
  unsound-damaged n = go (soundly (first_path (drop k s))) refl
    where
      go : (t : Bool) → soundly (first_path (drop k s)) ≡ t → (row_of mode s b).state ≡ damaged
      go true e = let q = path-sound (drop k s) e in absurd (n q.0 q.1)
      go false e = state-is ∙ rw e

  pub damaged-unsound : (row_of mode s b).state ≡ damaged → (j : ℕ) → SoundTo (drop k s) j → ⊥
  damaged-unsound h j r = true≢false (ap is_whole (sym (sound-whole j r) ∙ h))

  -- the consequence: no back reference, and no lifetime but 0
  pub free-whole : (j : ℕ) → Reads (drop k s) path free levels 0 0 j → (row_of mode s b).state ≡ whole
  free-whole j r = sound-whole j (free-sound (drop k s) j r)

-- ---- the end: the followed reading of a sound symbol ends where the check's reading ended the first path
pub sound-ends : (s : List ℕ) (k j e : ℕ) (a : Accepts s k j) → SoundTo (drop k s) e → e ≡ a.end
sound-ends s k j e a r = grammar.sound-ends (drop k s) r a.first
