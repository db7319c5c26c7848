-- What `path`, `second`, `reading` and `judge` answer. Assumes nothing.
use Rattle.std.specs.Prelude.{Option, Some, None, Ok, Err, max}
use Rattle.std.specs.Char.{is_ascii_uppercase}
use mathlib.Core.Path.{◌≡◌, refl, ap, ◌∙◌}
use mathlib.Core.Bool.{Bool, true, false, true≢false}
use mathlib.Core.List.{List}
use Prim.Native.Nat.{ℕ, zero, suc, ◌-◌, ◌≤◌, ◌<◌}
use native.Mathlib.Omega.{arith}
use borrow.Author.Rules.{rules}
use borrow.Author.Tests.{lt-ltb, le-ltb}
use lib.Dec.{leb-zero}
use lib.ListN.{length, get_or, take, drop, length-drop}
use lib.Seq.{take_all}
use Rattle.pieces.specs.Piece.{render}
use Rattle.printer.specs.Says.{U, Res, ok, bad, Says}
use Rattle.printer.specs.Lay.{State, state_of, World, world, at, lay, lays, place_of, error_of, damage_of, doing, fresh, code_of}
use Rattle.printer.specs.Model.{level}
use Rattle.printer.specs.declared.state.Status.TheVariants.{Going, Invalid as IsInvalid, RecursedTooDeep as IsDeep, Full, Other}
use Rattle.printer.specs.declared.state.Printer.{Printer}
use Rattle.demangle.specs.Accept.{Reached, levels, most, prefix_of, is_upper, all_ascii, reached_of, path_at, second_at, behind_at, reading_of, verdict_by, verdict_at, verdict_of}
use Rattle.demangle.specs.declared.refusal.Refusal.{Refusal}
use Rattle.demangle.specs.declared.refusal.Refusal.TheVariants.{Invalid, RecursedTooDeep, TooLong}
use Rattle.demangle.proofs.PrefixLaws.{prefix-within}

-- ---- a path that is read and not printed: the state afterwards is its place and its error
abbrev ended : Res U → State
ended r = record { place = place_of r; error = error_of r; damaged = damage_of r; written = 0; full = false }

off-state : (a : Says U) (o : List ℕ) (i : ℕ) → (lay None a (world o (fresh i))).st ≡ ended (a.run i)
unfolding lay lays doing render
off-state a o i = rw (leb-zero)

abbrev reached : ℕ → Reached
reached i = Ok i

reached-at : (r : Res U) (q : ℕ) → q ≡ place_of r → 0 ≡ error_of r → Ok q ≡ reached_of r
reached-at (ok a j d o) q h k = ap reached h
reached-at (bad a x j d o) q h k = absurd (omega (arith, k))

reached-invalid : (r : Res U) → 1 ≡ error_of r → Err Invalid ≡ reached_of r
reached-invalid (ok a j d o) k = absurd (omega (arith, k))
reached-invalid (bad a zero j d o) k = refl
reached-invalid (bad a (suc x) j d o) k = absurd (omega (arith, k))

reached-deep : (r : Res U) → 2 ≤ error_of r → Err RecursedTooDeep ≡ reached_of r
reached-deep (ok a j d o) k = absurd (omega (arith, k))
reached-deep (bad a zero j d o) k = absurd (omega (arith, k))
reached-deep (bad a (suc x) j d o) k = refl

abbrev checked : List ℕ → Says U
checked s = (level s levels).path false false 0

-- p is the printer before, and q after
module _ (s : List ℕ) (i : ℕ) (p q : Printer) (new : state_of p.st ≡ fresh i) (done : at q ≡ lay None ((level s levels).path false false 0) (at p)) where
  after : state_of q.st ≡ ended ((checked s).run i)
  after = ap (λ (w : World). w.st) (rw new at done) ∙ off-state (checked s) p.out.now i

  place_after : q.st.place ≡ place_of ((checked s).run i)
  place_after = ap (λ (x : State). x.place) after

  error-after : code_of q.st.status ≡ error_of ((checked s).run i)
  error-after = ap (λ (x : State). x.error) after

  pub path-at : q.st.status ≡ Going → Ok q.st.place ≡ path_at s i
  unfolding path_at
  path-at h = reached-at ((checked s).run i) _ place_after (rw h at error-after)

  pub path-invalid : q.st.status ≡ IsInvalid → Err Invalid ≡ path_at s i
  unfolding path_at
  path-invalid h = reached-invalid ((checked s).run i) (rw h at error-after)

  pub path-deep : q.st.status ≡ IsDeep → Err RecursedTooDeep ≡ path_at s i
  unfolding path_at
  path-deep h = let e : 2 ≡ error_of ((checked s).run i) = rw h at error-after in reached-deep ((checked s).run i) (omega (arith, e))

  pub path-other : {n : ℕ} → q.st.status ≡ Other n → Err RecursedTooDeep ≡ path_at s i
  unfolding path_at
  path-other {n} h = let e : max n 4 ≡ error_of ((checked s).run i) = rw h at error-after in reached-deep ((checked s).run i) (omega (arith, e))

  pub path-full : q.st.status ≡ Full → Err RecursedTooDeep ≡ path_at s i
  path-full h = absurd (true≢false (rw h at (ap (λ (x : State). x.full) after)))

pub ruleset path_laws = (path-at, path-invalid, path-deep, path-other, path-full, rules)

-- ---- the second path, where an upper-case letter stands behind the first
module _ (s : List ℕ) (i : ℕ) {b : ℕ} (byte : b ≡ get_or s i 0) where
  pub second_none : false ≡ is_ascii_uppercase b → Ok i ≡ second_at s i
  unfolding second_at is_upper
  second_none h = rw (← byte, ← h)

  pub second-path : {r : Reached} → true ≡ is_ascii_uppercase b → r ≡ path_at s i → r ≡ second_at s i
  unfolding second_at is_upper
  second-path h k = k ∙ rw (← byte, ← h)

pub ruleset second_laws = (second_none, second-path, rules)

-- ---- behind the prefix
module _ (s : List ℕ) {b : ℕ} (byte : b ≡ get_or s 0 0) where
  pub reading-letter : false ≡ is_ascii_uppercase b → Err Invalid ≡ reading_of s
  unfolding reading_of is_upper
  reading-letter h = rw (← byte, ← h)

  module _ (upper : true ≡ is_ascii_uppercase b) {t : Bool} (bytes : t ≡ all_ascii s) where
    pub reading-ascii : t ≡ false → Err Invalid ≡ reading_of s
    unfolding reading_of is_upper
    reading-ascii h = rw (← byte, ← upper, ← bytes, h)

    module _ (ascii : t ≡ true) {f : Reached} (first : f ≡ path_at s 0) where
      pub reading-error : {e : Refusal} → f ≡ Err e → Err e ≡ reading_of s
      unfolding reading_of behind_at is_upper
      reading-error h = rw (← byte, ← upper, ← bytes, ascii, ← first, h)

pub reading-paths : (s : List ℕ) {f r : Reached} {i b : ℕ} {t : Bool} → r ≡ second_at s i → f ≡ Ok i → f ≡ path_at s 0 → t ≡ all_ascii s → t ≡ true → b ≡ get_or s 0 0 → true ≡ is_ascii_uppercase b → r ≡ reading_of s
unfolding reading_of behind_at is_upper
reading-paths s k h first bytes ascii byte upper = k ∙ rw (← byte, ← upper, ← bytes, ascii, ← first, h)

pub ruleset reading_laws = (reading-letter, reading-ascii, reading-error, reading-paths, rules)

-- ---- the verdict
module _ (s : List ℕ) where
  pub judge-long : most < length s → Err TooLong ≡ verdict_of s
  unfolding verdict_of
  judge-long h = rw (lt-ltb most (length s) h)

  module _ (short : length s ≤ most) {x : Option ℕ} (found : x ≡ prefix_of s) where
    pub judge-none : x ≡ None → Err Invalid ≡ verdict_of s
    unfolding verdict_of verdict_at
    judge-none h = rw (le-ltb most (length s) short, ← found, h)

    module _ {k : ℕ} (some : x ≡ Some k) where
      tail : take (length s - k) (drop k s) ≡ drop k s
      tail = take_all (length s - k) (drop k s) (omega (arith, length-drop k s))

      pub judge-within : k ≤ length s
      judge-within = rw (← found, some) at (prefix-within s)

      pub judge-error : {f : Reached} {e : Refusal} → f ≡ reading_of (take (length s - k) (drop k s)) → f ≡ Err e → Err e ≡ verdict_of s
      unfolding verdict_of verdict_at verdict_by
      judge-error h l = rw (le-ltb most (length s) short, ← found, some, ← tail, ← h, l)

      pub judge-found : {f : Reached} {i : ℕ} → f ≡ reading_of (take (length s - k) (drop k s)) → f ≡ Ok i → Ok (k, i) ≡ verdict_of s
      unfolding verdict_of verdict_at verdict_by
      judge-found h l = rw (le-ltb most (length s) short, ← found, some, ← tail, ← h, l)

pub ruleset judge_laws = (judge-long, judge-none, judge-within, judge-error, judge-found, rules)
