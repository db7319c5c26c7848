-- What the functions of `text` come to: the text of each piece, and the words that go by a test. Assumes nothing.
use Rattle.std.specs.Prelude.{Option, Some, None}
use Rattle.pieces.specs.declared.mode.Mode.{Mode}
use Prim.Native.Nat.{ℕ, ◌^◌, ◌<◌, min}
use mathlib.Core.Path.{◌≡◌, refl, sym, ◌∙◌}
use mathlib.Core.Bool.{Bool, true, false}
use mathlib.Core.List.{List, [], ◌∷◌}
use borrow.Author.Rules.{rules}
use borrow.Author.Tests.{ne_eqb}
use Rattle.pieces.specs.Words as W
use Rattle.pieces.specs.declared.mode.Mode.TheVariants.{Plain, Short}
use Rattle.pieces.specs.Laid.{Put, Wrote}
use lib.ListN.{length}
use Rattle.pieces.specs.Numeral.{hash_text}
use Rattle.pieces.specs.Piece.{Piece, word, run, hash, basic, kind, spell, spelled, render, is_short}
use Rattle.printer.specs.Lay.{State}
use Rattle.printer.specs.Says.{emit, on_error, breaks, broken}
use Rattle.printer.specs.Lay.{World, world, lay, failed_at, sum_of, settled_by}
use Rattle.printer.specs.Model.{piece_if}
use Rattle.printer.proofs.LayLaws.{lay-nil, lay-spell, lay-same, lay-breaks, render-nil, doing-run}
use Rattle.printer.proofs.ArmLaws.{arm_full, arm-error}
use Rattle.printer.proofs.StateLaws.{Halted, tests}
use Rattle.printer.proofs.PieceLaws.{rest, back, one_piece, quiet-full, quiet-off, starts-within, sum_fits, piece-laid}

-- ---- a piece, in a mode that prints: w is where the free rest starts, p what the writer answered
pub said : (o : List ℕ) (st : State) (w : ℕ) → w ≡ min st.written (length o) → (m : Mode) (x : Piece) (f : List ℕ) (p : Put)
    → ((short : Bool) → Wrote (spell short x) (rest o w) f p) → (r : State) → st.full ≡ false → r ≡ settled_by p st → world (back o w f) r ≡ lay (Some m) (emit (x ∷ [])) (world o st)
said o st w starts m x f p wrote r free h = piece-laid o st w starts (spell (is_short m) x) f p (wrote (is_short m)) (Some m) (x ∷ []) r free h (one_piece m x (spell (is_short m) x) refl)

pub room-for : (o : List ℕ) (st : State) (w : ℕ) → w ≡ min st.written (length o) → (x : Piece) (f : List ℕ) (p : Put)
    → ((short : Bool) → Wrote (spell short x) (rest o w) f p) → length o < 2 ^ 64 → st.written < 2 ^ 64 → sum_of p st < 2 ^ 64
room-for o st w starts x f p wrote h k = sum_fits o st w starts (spell true x) f p (wrote true) h k

pub ruleset write_laws = (quiet-full, starts-within, room-for, said, tests, rules)

pub ruleset say_laws = (quiet-off, tests, rules)

-- ---- what only a plain text shows
nothing : (m : Option Mode) (ps : List Piece) (v : World) → render m ps ≡ [] → v ≡ lay m (emit ps) v
nothing m ps v h = sym (lay-spell m ps [] v (h ∙ sym (render-nil m)) ∙ lay-nil m v)

pub hash-short : (m : Option Mode) (n : ℕ) (v : World) → m ≡ Some Short → v ≡ lay m (emit (hash n ∷ [])) v
hash-short m n v h = rw h (nothing (Some Short) (hash n ∷ []) v (unfold render spelled spell in refl))

pub hash-zero : (m : Option Mode) (n : ℕ) (v : World) → m ≡ Some Plain → n ≡ 0 → v ≡ lay m (emit (hash n ∷ [])) v
hash-zero m n v h z = rw (h, z) (nothing (Some Plain) (hash 0 ∷ []) v (unfold render spelled spell in refl))

pub hash-off : (m : Option Mode) (n : ℕ) (v : World) → m ≡ None → v ≡ lay m (emit (hash n ∷ [])) v
hash-off m n v h = quiet-off m (hash n ∷ []) v h

pub hash-plain : (m : Option Mode) (n : ℕ) (v w : World) → m ≡ Some Plain → (n ≡ 0 → ⊥) → w ≡ lay (Some Plain) (emit (run (hash_text n) ∷ [])) v → w ≡ lay m (emit (hash n ∷ [])) v
hash-plain m n v w h z p = rw h (p ∙ lay-spell (Some Plain) (run (hash_text n) ∷ []) (hash n ∷ []) v (unfold render spelled spell in (rw (ne_eqb n 0 z))))

pub ruleset hash_laws = (hash-short, hash-zero, hash-off, hash-plain, tests, rules)

pub kind-short : (m : Option Mode) (c : ℕ) (v : World) → m ≡ Some Short → v ≡ lay m (emit (kind c ∷ [])) v
kind-short m c v h = rw h (nothing (Some Short) (kind c ∷ []) v (unfold render spelled spell in refl))

pub kind-off : (m : Option Mode) (c : ℕ) (v : World) → m ≡ None → v ≡ lay m (emit (kind c ∷ [])) v
kind-off m c v h = quiet-off m (kind c ∷ []) v h

pub kind-plain : (m : Option Mode) (c : ℕ) (v w : World) → m ≡ Some Plain → w ≡ lay (Some Plain) (emit (basic c ∷ [])) v → w ≡ lay m (emit (kind c ∷ [])) v
kind-plain m c v w h p = rw h (p ∙ lay-spell (Some Plain) (basic c ∷ []) (kind c ∷ []) v (unfold render spelled spell in refl))

pub ruleset kind_laws = (kind-short, kind-off, kind-plain, tests, rules)

-- ---- a word by a test
pub if-true : (m : Option Mode) (t : Bool) (x : Piece) (v w : World) → t ≡ true → w ≡ lay m (emit (x ∷ [])) v → w ≡ lay m (piece_if t x) v
if-true m t x v w h p = rw h p

pub if-false : (m : Option Mode) (t : Bool) (x : Piece) (v : World) → t ≡ false → v ≡ lay m (piece_if t x) v
if-false m t x v h = rw h (sym (lay-nil m v))

pub ruleset if_laws = (if-true, if-false, rules)

-- ---- a word where an error is set; the markers
pub error-none : (m : Option Mode) (ps : List Piece) (o : List ℕ) (st : State) → st.error ≡ 0 → world o st ≡ lay m (on_error ps) (world o st)
unfolding emit on_error
error-none m ps o st e = sym (lay-nil m (world o st)) ∙ lay-same m (emit []) (on_error ps) (world o st) (doing-run (emit []) (on_error ps) st.place st.error e refl)

pub error-some : (m : Option Mode) (ps : List Piece) (o : List ℕ) (st : State) (w : World) → Halted st → w ≡ lay m (emit ps) (world o st) → w ≡ lay m (on_error ps) (world o st)
unfolding emit on_error
error-some m ps o st w e p = arm-error m (on_error ps) (emit ps) o st w e p refl

pub ruleset error_laws = (arm_full, error-none, error-some, tests, rules)

pub mark-invalid : (m : Option Mode) (o : List ℕ) (st mk : State) (w : World) → st.full ≡ false → mk ≡ failed_at 1 st → w ≡ lay m (emit (word W.invalid ∷ [])) (world o mk) → w ≡ lay m broken (world o st)
unfolding broken
mark-invalid m o st mk w f h p = p ∙ lay-breaks m 0 o st mk f h

pub mark-deep : (m : Option Mode) (o : List ℕ) (st mk : State) (w : World) → st.full ≡ false → mk ≡ failed_at 2 st → w ≡ lay m (emit (word W.deep ∷ [])) (world o mk) → w ≡ lay m (breaks 1) (world o st)
mark-deep m o st mk w f h p = p ∙ lay-breaks m 1 o st mk f h

pub ruleset mark_laws = (arm_full, mark-invalid, mark-deep, tests, rules)
