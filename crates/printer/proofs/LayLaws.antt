-- The laws of `lay`: a printer done to a buffer. Assumes nothing.
use Rattle.std.specs.Prelude.{Option, Some, None}
use Rattle.pieces.specs.declared.mode.Mode.{Mode}
use Prim.Native.Nat.{ℕ, zero, suc, ◌+◌, ◌-◌, ◌≤◌, ◌<◌}
use mathlib.Core.Path.{◌≡◌, refl, ap, sym, ◌∙◌}
use mathlib.Core.Bool.{Bool, true, false, ◌||◌, or_assoc, or-false, or-true}
use mathlib.Core.List.{List, [], ◌∷◌, ◌++◌, append_assoc}
use native.Mathlib.Nat.{add_assoc, add-zero}
use native.Mathlib.Omega.{arith}
use lib.ListN.{length, length-append}
use lib.Dec.{leb, leb-zero}
use borrow.Author.Tests.{le-leb, lt-leb, leb-true, leb-false}
use Rattle.printer.specs.Lay.{State}
use Rattle.printer.specs.Over.{over}
use Rattle.printer.specs.Says.{U, Res, ok, bad, Says, Stop, onto, next, ◌>>=◌, ◌then◌, emit, breaks, hush, mute, caught, marks}
use Rattle.pieces.specs.Piece.{Piece, render, spelled, spell}
use Rattle.printer.specs.Lay.{World, world, Out, out, value_of, place_of, error_of, damage_of, pieces_of, doing, full_state, fitted, text, laid, lays_on, lays, lay, moved_to, back_to, failed_at}
use Rattle.printer.proofs.OverLaws.{over-nil, length_over, over-over, over-cut}

-- ---- pieces
spelled-append : (h : Bool) (o p : List Piece) → spelled h (o ++ p) ≡ spelled h o ++ spelled h p
unfolding spelled
spelled-append h [] p = refl
spelled-append h (x ∷ o) p = ap (λ (t : List ℕ). spell h x ++ t) (spelled-append h o p) ∙ sym (append_assoc (spell h x) (spelled h o) (spelled h p))

pub render-append : (m : Option Mode) (o p : List Piece) → render m (o ++ p) ≡ render m o ++ render m p
unfolding render
render-append None o p = refl
render-append (Some m) o p = spelled-append _ o p

-- ---- results
pub next-is : {A B : Type 0} (r : Res A) (f : A → Says B) → next r f ≡ onto (damage_of r) (pieces_of r) (doing (f (value_of r)) (place_of r) (error_of r))
unfolding next doing
next-is (ok a j d o) f = refl
next-is (bad a x j d o) f = refl

pub doing-bind : {A B : Type 0} (a : Says A) (f : A → Says B) (p e : ℕ) → doing (a >>= f) p e ≡ next (doing a p e) f
unfolding doing ◌>>=◌ next onto
doing-bind a f p zero = refl
doing-bind a f p (suc x) = refl

-- ---- lay
pub lays-full : {A : Type 0} (z : A) (m : Option Mode) (a : Says A) (w : World) → w.st.full ≡ true → lays z m a w ≡ out z w
unfolding lays
lays-full z m a w h = rw h

pub lays-open : {A : Type 0} (z : A) (m : Option Mode) (a : Says A) (w : World) → w.st.full ≡ false → lays z m a w ≡ laid z m w.buf w.st.written w.st.damaged (doing a w.st.place w.st.error)
unfolding lays
lays-open z m a w h = rw h

-- what is left fits after the first part as the whole does before it
leb-rest : (x y l n : ℕ) → x ≤ l - n → leb (x + y) (l - n) ≡ leb y (l - (n + x))
leb-rest x y l n h = go (leb y (l - (n + x))) refl
  where
    go : (q : Bool) → leb y (l - (n + x)) ≡ q → leb (x + y) (l - n) ≡ q
    go true e = let k : y ≤ l - (n + x) = leb-true _ _ e in le-leb (x + y) (l - n) (omega arith)
    go false e = let k : l - (n + x) < y = leb-false _ _ e in lt-leb (x + y) (l - n) (omega arith)

-- the second of two, where the first fits and where it does not
laid-onto : {A : Type 0} (z : A) (m : Option Mode) (b : List ℕ) (n : ℕ) (d e : Bool) (o : List Piece) (q : Res A) → length (render m o) ≤ length b - n → laid z m b n d (onto e o q) ≡ laid z m (over b n (render m o)) (n + length (render m o)) (d || e) q
unfolding onto
laid-onto z m b n d e o (ok a j g p) h = simp (render-append, over-over, length_over, length-append, leb-rest, add_assoc, or_assoc)
laid-onto z m b n d e o (bad a x j g p) h = simp (render-append, over-over, length_over, length-append, leb-rest, add_assoc, or_assoc)

laid-cut : {A : Type 0} (z : A) (m : Option Mode) (b : List ℕ) (n : ℕ) (d e : Bool) (o : List Piece) (q : Res A) → length b - n < length (render m o) → laid z m b n d (onto e o q) ≡ out z (world (over b n (render m o)) full_state)
unfolding onto
laid-cut z m b n d e o (ok a j g p) h =
    let k1 : length b - n ≤ length (render m o) = omega arith in
    let k2 : leb (length (render m o) + length (render m p)) (length b - n) ≡ false = lt-leb (length (render m o) + length (render m p)) (length b - n) (omega arith) in
    simp (render-append, over-cut b n (render m o) (render m p) k1, length-append, k2)
laid-cut z m b n d e o (bad a x j g p) h =
    let k1 : length b - n ≤ length (render m o) = omega arith in
    let k2 : leb (length (render m o) + length (render m p)) (length b - n) ≡ false = lt-leb (length (render m o) + length (render m p)) (length b - n) (omega arith) in
    simp (render-append, over-cut b n (render m o) (render m p) k1, length-append, k2)

laid_next : {A B : Type 0} (y : A) (z : B) (m : Option Mode) (b : List ℕ) (n : ℕ) (d : Bool) (r : Res A) (f : A → Says B) (q : Bool) → leb (length (text m r)) (length b - n) ≡ q → laid z m b n d (next r f) ≡ lays z m (f (laid y m b n d r).value) (laid y m b n d r).world
unfolding lays
laid_next y z m b n d r f true h =
    let k : length (text m r) ≤ length b - n = leb-true _ _ h in
    rw (next-is r f, h) (laid-onto z m b n d (damage_of r) (pieces_of r) (doing (f (value_of r)) (place_of r) (error_of r)) k)
laid_next y z m b n d r f false h =
    let k : length b - n < length (text m r) = leb-false _ _ h in
    rw (next-is r f, h) (laid-cut z m b n d (damage_of r) (pieces_of r) (doing (f (value_of r)) (place_of r) (error_of r)) k)

pub lays-bind : {A B : Type 0} (y : A) (z : B) (m : Option Mode) (a : Says A) (f : A → Says B) (w : World) → lays z m (a >>= f) w ≡ lays z m (f (lays y m a w).value) (lays y m a w).world
unfolding lays
lays-bind y z m a f w = go w.st.full refl
  where
    go : (k : Bool) → w.st.full ≡ k → lays_on k z m (a >>= f) w ≡ lays z m (f (lays_on k y m a w).value) (lays_on k y m a w).world
    go true e = sym (lays-full z m (f y) w e)
    go false e = rw (doing-bind a f w.st.place w.st.error) (laid_next y z m w.buf w.st.written w.st.damaged (doing a w.st.place w.st.error) f _ refl)

pub lay-then : (m : Option Mode) (a b : Says U) (w : World) → lay m (a then b) w ≡ lay m b (lay m a w)
unfolding lay ◌then◌
lay-then m a b w = ap (λ (x : Out U). x.world) (lays-bind tt tt m a (λ _. b) w)

-- two that do the same from here
pub lays-same : {A : Type 0} (z : A) (m : Option Mode) (a b : Says A) (w : World) → doing a w.st.place w.st.error ≡ doing b w.st.place w.st.error → lays z m a w ≡ lays z m b w
unfolding lays
lays-same z m a b w h = go w.st.full
  where
    go : (k : Bool) → lays_on k z m a w ≡ lays_on k z m b w
    go true = refl
    go false = ap (laid z m w.buf w.st.written w.st.damaged) h

pub lay-same : (m : Option Mode) (a b : Says U) (w : World) → doing a w.st.place w.st.error ≡ doing b w.st.place w.st.error → lay m a w ≡ lay m b w
unfolding lay
lay-same m a b w h = ap (λ (x : Out U). x.world) (lays-same tt m a b w h)

-- with no error only the run counts, with one only what is said then
pub doing-run : {A : Type 0} (a b : Says A) (p e : ℕ) → e ≡ 0 → a.run p ≡ b.run p → doing a p e ≡ doing b p e
unfolding doing
doing-run a b p e h k = rw h k

pub doing-stop : {A : Type 0} (a b : Says A) (p e : ℕ) → (e ≡ 0 → ⊥) → a.stopped ≡ b.stopped → doing a p e ≡ doing b p e
unfolding doing
doing-stop a b p zero h k = absurd (h refl)
doing-stop {A} a b p (suc x) h k = ap (λ (t : Stop A). bad t.value (t.turn x) p false t.pieces) k

-- no text
pub render-nil : (m : Option Mode) → render m [] ≡ []
unfolding render spelled
render-nil None = refl
render-nil (Some m) = refl

quiet : {A : Type 0} (z v : A) (m : Option Mode) (o : List ℕ) (s : State) (p : ℕ) (d : Bool) → laid z m o s.written s.damaged (ok v p d []) ≡ out v (world o (record { place = p; error = 0; damaged = s.damaged || d; written = s.written; full = false }))
quiet z v m o s p d = simp (render-nil, over-nil, leb-zero, add-zero)

quiet-bad : {A : Type 0} (z v : A) (m : Option Mode) (o : List ℕ) (s : State) (x p : ℕ) (d : Bool) → laid z m o s.written s.damaged (bad v x p d []) ≡ out v (world o (record { place = p; error = suc x; damaged = s.damaged || d; written = s.written; full = false }))
quiet-bad z v m o s x p d = simp (render-nil, over-nil, leb-zero, add-zero)

-- what says nothing and stays, by its value
pub lays-still : {A : Type 0} (z v : A) (m : Option Mode) (a : Says A) (o : List ℕ) (s : State) (p : ℕ) → s.full ≡ false → s.error ≡ 0 → a.run s.place ≡ ok v p false [] → lays z m a (world o s) ≡ out v (world o (moved_to p s))
unfolding doing
lays-still z v m a o s p f e h =
    let k : doing a s.place s.error ≡ ok v p false [] = rw e h in
    let g : out v (world o (record { place = p; error = 0; damaged = s.damaged || false; written = s.written; full = false })) ≡ out v (world o (moved_to p s)) = rw (or-false, e, f) in
    lays-open z m a (world o s) f ∙ (ap (laid z m o s.written s.damaged) k ∙ (quiet z v m o s p false ∙ g))

pub lays-failed : {A : Type 0} (z v : A) (m : Option Mode) (a : Says A) (o : List ℕ) (s : State) → s.full ≡ false → s.error ≡ 0 → a.run s.place ≡ bad v 0 s.place false [] → lays z m a (world o s) ≡ out v (world o (failed_at 1 s))
unfolding doing
lays-failed z v m a o s f e h =
    let k : doing a s.place s.error ≡ bad v 0 s.place false [] = rw e h in
    let g : out v (world o (record { place = s.place; error = 1; damaged = s.damaged || false; written = s.written; full = false })) ≡ out v (world o (failed_at 1 s)) = rw (or-false, f) in
    lays-open z m a (world o s) f ∙ (ap (laid z m o s.written s.damaged) k ∙ (quiet-bad z v m o s 0 s.place false ∙ g))

pub lays-stopped : {A : Type 0} (z v : A) (m : Option Mode) (a : Says A) (o : List ℕ) (s : State) → s.full ≡ false → (s.error ≡ 0 → ⊥) → a.stopped ≡ record { value = v; turn = λ x. x; pieces = [] } → lays z m a (world o s) ≡ out v (world o s)
lays-stopped {A} z v m a o s f e h = lays-open z m a (world o s) f ∙ go s.error refl
  where
    go : (x : ℕ) → s.error ≡ x → laid z m o s.written s.damaged (doing a s.place x) ≡ out v (world o s)
    go zero k = absurd (e k)
    go (suc x) k =
        let i : doing a s.place (suc x) ≡ bad v x s.place false [] = unfold doing in (ap (λ (t : Stop A). bad t.value (t.turn x) s.place false t.pieces) h) in
        let g : out v (world o (record { place = s.place; error = suc x; damaged = s.damaged || false; written = s.written; full = false })) ≡ out v (world o s) = rw (or-false, k, f) in
        ap (laid z m o s.written s.damaged) i ∙ (quiet-bad z v m o s x s.place false ∙ g)

pub lay-nil : (m : Option Mode) (w : World) → lay m (emit []) w ≡ w
unfolding lay lays emit
lay-nil m w = ap (λ (x : Out U). x.world) (go w.st.full w.st.error refl refl)
  where
    go : (k : Bool) (x : ℕ) → w.st.full ≡ k → w.st.error ≡ x → lays tt m (emit []) w ≡ out tt w
    go true x f e = lays-full tt m (emit []) w f
    go false zero f e = lays-still tt tt m (emit []) w.buf w.st w.st.place f e refl
    go false (suc x) f e = lays-stopped tt tt m (emit []) w.buf w.st f (λ h. absurd (omega (arith, h, e))) refl

-- ---- the steps of mini2, for this type
pub lay-full : (m : Option Mode) (a : Says U) (w : World) → w.st.full ≡ true → lay m a w ≡ w
unfolding lay
lay-full m a w h = ap (λ (x : Out U). x.world) (lays-full tt m a w h)

pub lays-moved : {A : Type 0} (z : A) (m : Option Mode) (a b : Says A) (q : ℕ) (o : List ℕ) (s : State) → s.full ≡ false → s.error ≡ 0 → a.run s.place ≡ b.run q → lays z m a (world o s) ≡ lays z m b (world o (moved_to q s))
unfolding doing
lays-moved z m a b q o s f e h =
    let k : doing a s.place s.error ≡ doing b q s.error = rw e h in
    lays-open z m a (world o s) f ∙ (ap (laid z m o s.written s.damaged) k ∙ sym (lays-open z m b (world o (moved_to q s)) f))

pub lay-moved : (m : Option Mode) (a b : Says U) (q : ℕ) (o : List ℕ) (s : State) → s.full ≡ false → s.error ≡ 0 → a.run s.place ≡ b.run q → lay m a (world o s) ≡ lay m b (world o (moved_to q s))
unfolding lay
lay-moved m a b q o s f e h = ap (λ (x : Out U). x.world) (lays-moved tt m a b q o s f e h)

-- what is mute is laid as with printing off
hush-laid : (m : Option Mode) (o : List ℕ) (n : ℕ) (d : Bool) (r : Res U) → laid tt m o n d (hush r) ≡ laid tt None o n d r
unfolding render
hush-laid m o n d (ok a j g p) = rw (render-nil m)
hush-laid m o n d (bad a x j g p) = rw (render-nil m)

pub doing-mute : {A : Type 0} (a : Says A) (p e : ℕ) → doing (mute a) p e ≡ hush (doing a p e)
unfolding doing mute
doing-mute a p zero = refl
doing-mute a p (suc x) = refl

pub lay-mute : (m : Option Mode) (a : Says U) (w : World) → lay m (mute a) w ≡ lay None a w
unfolding lay lays
lay-mute m a w = ap (λ (x : Out U). x.world) (go w.st.full)
  where
    go : (k : Bool) → lays_on k tt m (mute a) w ≡ lays_on k tt None a w
    go true = refl
    go false = rw (doing-mute a w.st.place w.st.error) (hush-laid m w.buf w.st.written w.st.damaged (doing a w.st.place w.st.error))

-- ---- what writes
pub lay-off : (m : Option Mode) (ps : List Piece) (w : World) → m ≡ None → lay m (emit ps) w ≡ w
lay-off m ps w h = rw h (sym (lay-mute None (emit ps) w) ∙ (lay-same None (mute (emit ps)) (emit []) w (go w.st.place w.st.error) ∙ lay-nil None w))
  where
    go : (p e : ℕ) → doing (mute (emit ps)) p e ≡ doing (emit []) p e
    go p zero = unfold doing mute emit in refl
    go p (suc x) = unfold doing mute emit in refl

-- a text laid into a buffer, with the state as it is
abbrev pub written : List ℕ → State → List ℕ → World
written o s t =
    world (over o s.written t)
    (fitted (leb (length t) (length o - s.written)) (record { place = s.place; error = s.error; damaged = s.damaged; written = s.written + length t; full = false }) full_state)

pub lay-emit : (m : Option Mode) (ps : List Piece) (o : List ℕ) (s : State) → s.full ≡ false → lay m (emit ps) (world o s) ≡ written o s (render m ps)
unfolding lay
lay-emit m ps o s f = ap (λ (x : Out U). x.world) (lays-open tt m (emit ps) (world o s) f) ∙ go s.error
  where
    go : (e : ℕ) → (laid tt m o s.written s.damaged (doing (emit ps) s.place e)).world ≡ world (over o s.written (render m ps)) (fitted (leb (length (render m ps)) (length o - s.written)) (record { place = s.place; error = e; damaged = s.damaged; written = s.written + length (render m ps); full = false }) full_state)
    go zero = unfold doing emit in (rw or-false)
    go (suc x) = unfold doing emit in (rw or-false)

-- pieces that read the same are laid the same
pub lay-spell : (m : Option Mode) (ps qs : List Piece) (w : World) → render m ps ≡ render m qs → lay m (emit ps) w ≡ lay m (emit qs) w
lay-spell m ps qs w h = go w.st.full refl
  where
    go : (k : Bool) → w.st.full ≡ k → lay m (emit ps) w ≡ lay m (emit qs) w
    go true f = lay-full m (emit ps) w f ∙ sym (lay-full m (emit qs) w f)
    go false f = lay-emit m ps w.buf w.st f ∙ (ap (written w.buf w.st) h ∙ sym (lay-emit m qs w.buf w.st f))

-- a marker, with and without an error before it
pub lay-breaks : (m : Option Mode) (x : ℕ) (o : List ℕ) (s s' : State) → s.full ≡ false → s' ≡ failed_at (suc x) s → lay m (emit (marks x)) (world o s') ≡ lay m (breaks x) (world o s)
lay-breaks m x o s s' f h =
    rw h (lay-emit m (marks x) o (failed_at (suc x) s) f ∙ sym (unfold lay in (ap (λ (y : Out U). y.world) (lays-open tt m (breaks x) (world o s) f) ∙ go s.error)))
  where
    go : (e : ℕ) → (laid tt m o s.written s.damaged (doing (breaks x) s.place e)).world ≡ written o (failed_at (suc x) s) (render m (marks x))
    go zero = unfold doing breaks in (rw or-false)
    go (suc y) = unfold doing breaks in (rw or-false)

-- a target: an error in it is damage, and the run goes on where it was
abbrev pub backed : ℕ → World → World
backed p w = world w.buf (back_to p w.st)

caught-laid : {A : Type 0} (z : A) (m : Option Mode) (o : List ℕ) (n : ℕ) (d : Bool) (j : ℕ) (r : Res A) (k : Bool) → leb (length (text m r)) (length o - n) ≡ k → laid z m o n d (caught r j) ≡ out (laid z m o n d r).value (backed j (laid z m o n d r).world)
unfolding caught
caught-laid z m o n d j (ok a p g ps) true h = rw (h, or-false)
caught-laid z m o n d j (ok a p g ps) false h = rw h
caught-laid z m o n d j (bad a x p g ps) true h = rw (h, or-true, or-true)
caught-laid z m o n d j (bad a x p g ps) false h = rw h

pub lays-caught : {A : Type 0} (z : A) (m : Option Mode) (v : ℕ) (b a : Says A) (o : List ℕ) (s : State) → s.full ≡ false → s.error ≡ 0 → b.run s.place ≡ caught (a.run v) s.place → lays z m b (world o s) ≡ out (lays z m a (world o (moved_to v s))).value (backed s.place (lays z m a (world o (moved_to v s))).world)
unfolding doing
lays-caught {A} z m v b a o s f e h =
    let k : doing b s.place s.error ≡ caught (doing a v s.error) s.place = rw e h in
    lays-open z m b (world o s) f ∙ (ap (laid z m o s.written s.damaged) k
    ∙ (caught-laid z m o s.written s.damaged s.place (doing a v s.error) _ refl
    ∙ ap (λ (x : Out A). out x.value (backed s.place x.world)) (sym (lays-open z m a (world o (moved_to v s)) f))))

pub lay-caught : (m : Option Mode) (v : ℕ) (b a : Says U) (o : List ℕ) (s : State) → s.full ≡ false → s.error ≡ 0 → b.run s.place ≡ caught (a.run v) s.place → lay m b (world o s) ≡ backed s.place (lay m a (world o (moved_to v s)))
unfolding lay
lay-caught m v b a o s f e h = ap (λ (x : Out U). x.world) (lays-caught tt m v b a o s f e h)
