-- A text laid at the front of a buffer: what a writer answers, pieces one after the other, and a text piece by piece in a loop. Assumes nothing.
use mathlib.Core.Path.{◌≡◌, refl, sym, ap, ◌∙◌}
use mathlib.Core.Bool.{Bool, true, false}
use mathlib.Core.List.{List, [], ◌∷◌, ◌++◌, map, append-nil, append_assoc}
use Prim.Native.Nat.{ℕ, zero, suc, ◌+◌, ◌-◌, ◌^◌, ◌≤◌, ◌<◌}
use native.Mathlib.Omega.{arith}
use borrow.Author.Rules.{rules}
use borrow.Author.Tests.{le-leb, lt-leb, leb-true, leb-false, eq-eqb, ne_eqb}
use mir.Val.{Fits}
use mir.Syntax.{w64}
use lib.Dec.{leb}
use native.Mathlib.Numerals.{add-one}
use lib.ListN.{length, set, drop, take, get_or, length-append, length-map, length-drop, take-append-drop, drop_of_length-le}
use lib.Seq.{take_all, take_at, drop_at, drop-cons, set_split}
use Rattle.parser.specs.Digits.{if-then}
use Rattle.std.specs.Prelude.{Ok, Err, IsErr}
use Rattle.std.specs.Result.{result_from_control_flow}
use Rattle.std.proofs.Common.{Continue, Break}
use Rattle.pieces.specs.declared.put.NoRoom.{NoRoom}
use Rattle.pieces.specs.Laid.{Put, no_room, laid, room, Wrote}
use Rattle.pieces.specs.Names.{dashed, abi_text}

-- no two constructors are equal: `clash (cc)` answers a case that cannot be
pub clash : {A : Type 0} → ◌≡◌ {A = ℕ} 0 1 → A
clash z = absurd (omega arith)

-- ---- the answer
room-done : (n m : ℕ) → n ≤ m → room n m ≡ Ok n
unfolding room
room-done n m h = rw (le-leb n m h)

room-none : (n m : ℕ) → m < n → room n m ≡ Err no_room
unfolding room
room-none n m h = rw (lt-leb n m h)

done : (n m : ℕ) {k : ℕ} → Ok k ≡ room n m → (k ≡ n) × (n ≤ m)
unfolding room
done n m {k} q = go (leb n m) refl q
  where
    go : (t : Bool) → leb n m ≡ t → Ok k ≡ if-then t (Ok n) (Err no_room) → (k ≡ n) × (n ≤ m)
    go true h p = (cc, leb-true n m h)
    go false h p = clash (cc)

full : (n m : ℕ) {x : NoRoom} → Err x ≡ room n m → m < n
unfolding room
full n m {x} q = go (leb n m) refl q
  where
    go : (t : Bool) → leb n m ≡ t → Err x ≡ if-then t (Ok n) (Err no_room) → m < n
    go true h p = clash (cc)
    go false h p = leb-false n m h

-- ---- the buffer
length-laid : (t d : List ℕ) → length (laid t d) ≡ length d
unfolding laid
length-laid [] d = refl
length-laid (x ∷ t) [] = refl
length-laid (x ∷ t) (y ∷ d) = ap suc (length-laid t d)

laid-fit : (t u d : List ℕ) → length t ≤ length d → laid (t ++ u) d ≡ t ++ laid u (drop (length t) d)
unfolding laid
laid-fit [] u d h = refl
laid-fit (x ∷ t) u [] h = absurd (omega arith)
laid-fit (x ∷ t) u (y ∷ d) h = ap (λ (l : List ℕ). x ∷ l) (laid-fit t u d (omega arith))

laid-over : (t u d : List ℕ) → length d ≤ length t → laid (t ++ u) d ≡ laid t d
unfolding laid
laid-over [] [] [] h = refl
laid-over [] (x ∷ u) [] h = refl
laid-over [] u (y ∷ d) h = absurd (omega arith)
laid-over (x ∷ t) u [] h = refl
laid-over (x ∷ t) u (y ∷ d) h = ap (λ (l : List ℕ). x ∷ l) (laid-over t u d (omega arith))

same_size : {t d e : List ℕ} {r : Put} → Wrote t d e r → length e ≡ length d
same_size {t} {d} w = ap length w.left ∙ length-laid t d

-- ---- nothing, and one byte
pub wrote_none : (d : List ℕ) → Wrote [] d d (Ok 0)
unfolding laid
wrote_none d = record { left = refl; said = sym (room-done 0 (length d) (omega arith)) }

pub byte-done : (b : ℕ) (d : List ℕ) → (length d ≡ 0 → ⊥) → Wrote (b ∷ []) d (set d 0 b) (Ok 1)
unfolding laid
byte-done b [] h = absurd (h refl)
byte-done b (y ∷ d) h = record { left = refl; said = sym (room-done 1 (length (y ∷ d)) (omega arith)) }

pub byte_full : (b : ℕ) (d : List ℕ) → length d ≡ 0 → Wrote (b ∷ []) d d (Err no_room)
unfolding laid
byte_full b [] h = record { left = refl; said = sym (room-none 1 0 (omega arith)) }
byte_full b (y ∷ d) h = absurd (omega arith)

pub ruleset byte_laws = (byte-done, byte_full, rules)

-- ---- a piece after a text that is written, in the rest of the buffer
-- the rest of a buffer from a place on, as it is lent, and the buffer when it is back
abbrev pub rest : List ℕ → ℕ → List ℕ
rest e a = take (length e - a) (drop a e)

abbrev pub back : List ℕ → ℕ → List ℕ → List ℕ
back e a f = take a e ++ (f ++ drop (length e - a) (drop a e))

back-same : (e : List ℕ) (i : ℕ) → back e i (rest e i) ≡ e
back-same e i = ap (λ (l : List ℕ). take i e ++ l) (take-append-drop (length e - i) (drop i e)) ∙ take-append-drop i e

no_more : {t d e : List ℕ} {x : NoRoom} → (u : List ℕ) → Wrote t d e (Err x) → Wrote (t ++ u) d e (Err x)
no_more {t} {d} u w =
    let k = full (length t) (length d) w.said in
    record {
      left = w.left ∙ sym (laid-over t u d (omega arith));
      said = w.said ∙ room-none (length t) (length d) k ∙ sym (room-none (length (t ++ u)) (length d) (omega (arith, length-append t u)));
    }

module _ {t d e : List ℕ} {a : ℕ} (w : Wrote t d e (Ok a)) where
  ends : (a ≡ length t) × (length t ≤ length d)
  ends = done (length t) (length d) w.said

  ends-within : a ≤ length e
  ends-within = let k = ends in omega (arith, same_size w)

  splits : e ≡ t ++ drop (length t) d
  unfolding laid
  splits = w.left ∙ ap (λ (l : List ℕ). laid l d) (sym (append-nil t)) ∙ laid-fit t [] d ends.1

  rest-is : rest e a ≡ drop (length t) d
  rest-is =
      let k = ends in
      take_all (length e - a) (drop a e) (omega (arith, length-drop a e)) ∙ ap (drop a) splits ∙ drop_at t (drop (length t) d) a (sym k.0)

  size : length (rest e a) ≡ length d - length t
  size = ap length rest-is ∙ length-drop (length t) d

  module _ {u f : List ℕ} where
    both_left : {r : Put} → Wrote u (rest e a) f r → back e a f ≡ laid (t ++ u) d
    both_left v =
        let k = ends in
        ap (λ (l : List ℕ). take a e ++ (f ++ l)) (drop_of_length-le (drop a e) {i = length e - a} (omega (arith, length-drop a e)))
        ∙ ap (λ (l : List ℕ). take a e ++ l) (append-nil f ∙ v.left ∙ ap (laid u) rest-is)
        ∙ ap (λ (l : List ℕ). l ++ laid u (drop (length t) d)) (ap (take a) splits ∙ take_at t (drop (length t) d) a (sym k.0))
        ∙ sym (laid-fit t u d k.1)

    then-done : {k : ℕ} → Wrote u (rest e a) f (Ok k) → Wrote (t ++ u) d (back e a f) (Ok (a + k))
    then-done {k} v =
        let p = ends in
        let q = done (length u) (length (rest e a)) v.said in
        let s = length-append t u in
        let z = size in
        let n : a + k ≡ length (t ++ u) = omega arith in
        record { left = both_left v; said = ap Ok n ∙ sym (room-done (length (t ++ u)) (length d) (omega arith)) }

    then-full : {x : NoRoom} → Wrote u (rest e a) f (Err x) → Wrote (t ++ u) d (back e a f) (Err x)
    then-full v =
        let p = ends in
        let q = full (length u) (length (rest e a)) v.said in
        let s = length-append t u in
        let z = size in
        record { left = both_left v; said = v.said ∙ room-none (length u) (length (rest e a)) q ∙ sym (room-none (length (t ++ u)) (length d) (omega arith)) }

-- ---- two pieces, as the places of a function have them: p and q are the writers' answers, which `?` takes as x and y
-- what `?` hands on is the refusal
refused : {x : NoRoom} (r : Put) → IsErr r → r ≡ Err x
refused (Ok n) h = clash (cc)
refused (Err y) h = refl

module _ {t d e : List ℕ} {p : Put} (w : Wrote t d e p) {x : _} (s : p ≡ result_from_control_flow x) where
  pub stops : (u : List ℕ) {g : _} {r : Put} → x ≡ Break g → IsErr r → Wrote (t ++ u) d e r
  stops u {g} {r} k h = rw (refused {x = g.0} r h) (no_more u (rw (s, k) at w))

  module _ {a : ℕ} (k : x ≡ Continue a) where
    pub lends : a ≤ length e
    lends = ends-within (rw (s, k) at w)

    module _ {u f : List ℕ} {q : Put} {y : _} (v : Wrote u (rest e a) f q) (o : q ≡ result_from_control_flow y) where
      pub both-full : {g : _} {r : Put} → y ≡ Break g → IsErr r → Wrote (t ++ u) d (back e a f) r
      both-full {g} {r} l h = rw (refused {x = g.0} r h) (then-full (rw (s, k) at w) (rw (o, l) at v))

      module _ {n : ℕ} (l : y ≡ Continue n) where
        pub both-done : Wrote (t ++ u) d (back e a f) (Ok (a + n))
        both-done = then-done (rw (s, k) at w) (rw (o, l) at v)

        pub both-fit : length d < 2 ^ 64 → Fits w64 (a + n)
        both-fit h = omega (arith, ends both-done)

pub ruleset piece-laws = (stops, lends, both-full, both-done, both-fit, rules)

-- ---- a text in a loop: so much of the whole is written, and this is left
pub record Going (whole left d e : List ℕ) (w : ℕ) : Type 0 where
  pub front : List ℕ
  pub split : front ++ left ≡ whole
  pub wrote : Wrote front d e (Ok w)

pub going_start : (whole d : List ℕ) → Going whole whole d d 0
going_start whole d = record { front = []; split = refl; wrote = wrote_none d }

module _ {whole left d e : List ℕ} {w : ℕ} (g : Going whole left d e w) where
  pub going_end : left ≡ [] → Wrote whole d e (Ok w)
  going_end z = rw (← g.split, z, append-nil) g.wrote

  pub going-size : length e ≡ length d
  going-size = same_size g.wrote

  pub going-within : w ≤ length e
  going-within = ends-within g.wrote

  -- the size when a part is back
  pub going-back : (f : List ℕ) → length f ≡ length (rest e w) → length (back e w f) ≡ length d
  going-back f k =
      rw (length-append (take w e) (f ++ drop (length e - w) (drop w e)), length-append f (drop (length e - w) (drop w e)), k, ← length-append (rest e w) (drop (length e - w) (drop w e)), ← length-append (take w e) (rest e w ++ drop (length e - w) (drop w e)))
      (ap length (back-same e w) ∙ going-size)

  module _ (u more : List ℕ) (s : left ≡ u ++ more) where
    joined : (g.front ++ u) ++ more ≡ whole
    joined = append_assoc g.front u more ∙ ap (λ (l : List ℕ). g.front ++ l) (sym s) ∙ g.split

    on : {f : List ℕ} {k : ℕ} → Wrote u (rest e w) f (Ok k) → Going whole more d (back e w f) (w + k)
    on v = record { front = g.front ++ u; split = joined; wrote = then-done g.wrote v }

    off : {f : List ℕ} {x : NoRoom} → Wrote u (rest e w) f (Err x) → Wrote whole d (back e w f) (Err x)
    off v = rw joined at (no_more more (then-full g.wrote v))

  -- q is what the writer of the next piece answered, which `?` takes as y
  module _ {u f : List ℕ} {q : Put} (v : Wrote u (rest e w) f q) {y : _} (o : q ≡ result_from_control_flow y) where
    pub going-fit : {k : ℕ} → y ≡ Continue k → length d < 2 ^ 64 → Fits w64 (w + k)
    going-fit k h = omega (arith, ends (then-done g.wrote (rw (o, k) at v)))

    module _ (more : List ℕ) (s : left ≡ u ++ more) where
      pub going_next : {k : ℕ} → y ≡ Continue k → Going whole more d (back e w f) (w + k)
      going_next k = on u more s (rw (o, k) at v)

      pub going-full : {z : _} {r : Put} → y ≡ Break z → IsErr r → Wrote whole d (back e w f) r
      going-full {z} {r} k h = rw (refused {x = z.0} r h) (off u more s (rw (o, k) at v))

pub ruleset loop-laws = (going_start, going-size, going-back, going-within, going-fit, going_next, going-full, rules)

-- ---- a text in a loop, a byte a turn
back-set : (e : List ℕ) (i b : ℕ) → i < length e → back e i (set (rest e i) 0 b) ≡ set e i b
back-set e i b h =
    rw (take_all (length e - i) (drop i e) (omega (arith, length-drop i e)), drop_of_length-le (drop i e) {i = length e - i} (omega (arith, length-drop i e)), drop-cons e i 0 h, append-nil)
    (sym (set_split e i b h))

module _ {whole left d e : List ℕ} {i : ℕ} (g : Going whole left d e i) {b : ℕ} {more : List ℕ} (s : left ≡ b ∷ more) where
  size-left : length (rest e i) ≡ length e - i
  size-left = ap length (take_all (length e - i) (drop i e) (omega (arith, length-drop i e))) ∙ length-drop i e

  pub byte-stop : length e ≤ i → Wrote whole d e (Err no_room)
  byte-stop k = rw back-same at (off g (b ∷ []) more s (byte_full b (rest e i) (omega (arith, size-left))))

  pub byte_next : i < length e → Going whole more d (set e i b) (i + 1)
  byte_next k = rw (← back-set e i b k) (on g (b ∷ []) more s (byte-done b (rest e i) (λ z. omega (arith, size-left))))

module _ {whole d e : List ℕ} {i : ℕ} (g : Going whole (drop i whole) d e i) (n : ℕ) (size : length whole ≡ n) where
  pub copy-end : n ≤ i → i ≤ n → Wrote whole d e (Ok n)
  copy-end h k = let z : i ≡ n = omega arith in rw z at (going_end g (drop_of_length-le whole {i = i} (omega arith)))

  module _ (h : i < n) where
    turn : drop i whole ≡ get_or whole i 0 ∷ drop (i + 1) whole
    turn = rw add-one (drop-cons whole i 0 (omega arith))

    pub copy-full : length e ≤ i → Wrote whole d e (Err no_room)
    copy-full k = byte-stop g turn k

    pub copy-next : {b : ℕ} → b ≡ get_or whole i 0 → i < length e → Going whole (drop (i + 1) whole) d (set e i b) (i + 1)
    copy-next q k = rw q (byte_next g turn k)

pub get_or-map-in : (f : ℕ → ℕ) (l : List ℕ) (i : ℕ) → i < length l → get_or (map f l) i 0 ≡ f (get_or l i 0)
get_or-map-in f [] i h = absurd (omega arith)
get_or-map-in f (x ∷ l) zero h = refl
get_or-map-in f (x ∷ l) (suc i) h = get_or-map-in f l i (omega arith)

pub ruleset copy-laws = (going_start, going-size, copy-end, copy-full, copy-next, rules)

-- an ABI's name, with `-` for `_`
module _ (s : List ℕ) where
  pub abi-size : length (abi_text s) ≡ length s
  unfolding abi_text
  abi-size = length-map s dashed

  pub abi-byte : {i b : ℕ} → i < length s → b ≡ dashed (get_or s i 0) → b ≡ get_or (abi_text s) i 0
  unfolding abi_text
  abi-byte {i} h q = q ∙ sym (get_or-map-in dashed s i h)

pub ruleset abi-laws = (abi-size, abi-byte, copy-laws)

module _ (b : ℕ) where
  pub dashed-is : b ≡ 95 → 45 ≡ dashed b
  dashed-is h = rw (eq-eqb b 95 h)

  pub dashed-not : (b ≡ 95 → ⊥) → b ≡ dashed b
  dashed-not h = rw (ne_eqb b 95 h)

pub ruleset dash_laws = (dashed-is, dashed-not, rules)
