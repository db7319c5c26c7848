-- The places: a text copied to their front, and a character inserted. Assumes nothing.
use mathlib.Core.Path.{◌≡◌, refl, sym, ap, ◌∙◌}
use mathlib.Core.List.{List, [], ◌∷◌, ◌++◌, append_assoc}
use Prim.Native.Nat.{ℕ, suc, ◌+◌, ◌-◌, ◌≤◌, ◌<◌}
use native.Mathlib.Numerals.{add-one}
use native.Mathlib.Omega.{arith}
use borrow.Author.Rules.{rules}
use lib.ListN.{length, get_or, take, drop, set, length-set, get_or-append}
use lib.Seq.{take_all, take-suc, take-suc-set, take-set-lt, take-length, drop-length, length-take-le, set_at, get_or-set_other, get_or-take, drop-cons}
use Rattle.punycode.specs.Answer.{most}
use Rattle.punycode.specs.Decode.{insert_at}

-- ---- a text copied: its first i bytes are
pub record Copying (s places : List ℕ) (i : ℕ) : Type 0 where
  pub copied : take i places ≡ take i s
  pub all : length places ≡ most

pub copy-start : (s places : List ℕ) → length places ≡ most → Copying s places 0
copy-start s places h = record { copied = refl; all = h }

module _ {s places : List ℕ} {i : ℕ} (r : Copying s places i) where
  pub copy-next : i < length s → length s ≤ most → Copying s (set places i (get_or s i 0)) (i + 1)
  copy-next h m =
      record {
        copied = rw add-one (take-suc-set places i (get_or s i 0) (omega (arith, r.all)) ∙ ap (λ (l : List ℕ). l ++ (get_or s i 0 ∷ [])) r.copied ∙ sym (take-suc s i 0 (omega arith)));
        all = length-set places i (get_or s i 0) ∙ r.all;
      }

  pub copy-end : i ≡ length s → take (length s) places ≡ s
  copy-end h = rw (h, take_all (length s) s (omega arith)) at r.copied

pub ruleset copy_laws = (copy-start, copy-next, copy-end, rules)

-- ---- a character inserted: the places from j on have moved up by one, up to the first len, and j is free
pub record Opened (before places : List ℕ) (len place j : ℕ) : Type 0 where
  pub least : place ≤ j
  pub within : j ≤ len
  pub moved : take (len + 1) places ≡ insert_at j (get_or places j 0) (take len before)
  pub all : length places ≡ most
  pub whole : length (take len before) ≡ len

set-insert : (j x y : ℕ) (s : List ℕ) → j ≤ length s → set (insert_at j x s) j y ≡ insert_at j y s
unfolding insert_at
set-insert j x y s h = set_at (take j s) x (drop j s) y j (length-take-le j s h)

insert-last : (x : ℕ) (s : List ℕ) → insert_at (length s) x s ≡ s ++ (x ∷ [])
unfolding insert_at
insert-last x s = rw (take-length s, drop-length s)

-- where the character is that before the place, it may as well stand a place earlier
insert-same : (j x : ℕ) (s : List ℕ) → j < length s → get_or s j 0 ≡ x → insert_at (j + 1) x s ≡ insert_at j x s
unfolding insert_at
insert-same j x s h e = rw (add-one, take-suc s j 0 h, drop-cons s j 0 h, e) (append_assoc (take j s) (x ∷ []) (x ∷ drop (suc j) s))

get_or-insert : (i j x : ℕ) (s : List ℕ) → i < j → j ≤ length s → get_or (insert_at j x s) i 0 ≡ get_or s i 0
unfolding insert_at
get_or-insert i j x s h k = get_or-append (take j s) (x ∷ drop j s) 0 i (omega (arith, length-take-le j s k)) ∙ get_or-take j s i 0 h

pub open-start : (before : List ℕ) (len place : ℕ) → length before ≡ most → place ≤ len → len < most → Opened before before len place len
open-start before len place h l k =
    let all : length (take len before) ≡ len = length-take-le len before (omega arith) in
    record {
      least = l;
      within = omega arith;
      moved = rw (add-one, take-suc before len 0 (omega arith)) (sym (insert-last (get_or before len 0) (take len before)) ∙ ap (λ (n : ℕ). insert_at n (get_or before len 0) (take len before)) all);
      all = h;
      whole = all;
    }

module _ {before places : List ℕ} {len place j : ℕ} (r : Opened before places len place j) where
  stored : (x : ℕ) → take (len + 1) (set places j x) ≡ insert_at j x (take len before)
  stored x =
      take-set-lt (len + 1) places j x (omega (arith, r.within))
      ∙ ap (λ (l : List ℕ). set l j x) r.moved
      ∙ set-insert j (get_or places j 0) x (take len before) (omega (arith, r.whole, r.within))

  pub open_next : place < j → Opened before (set places (j - 1 + 1) (get_or places (j - 1) 0)) len place (j - 1)
  open_next h =
      let x : ℕ = get_or places (j - 1) 0 in
      let s : List ℕ = take len before in
      let e : j - 1 + 1 ≡ j = omega arith in
      let old : get_or s (j - 1) 0 ≡ x =
      sym (get_or-insert (j - 1) j (get_or places j 0) s (omega arith) (omega (arith, r.whole, r.within)))
      ∙ sym (ap (λ (l : List ℕ). get_or l (j - 1) 0) r.moved)
      ∙ get_or-take (len + 1) places (j - 1) 0 (omega (arith, r.within)) in
      let here : get_or (set places j x) (j - 1) 0 ≡ x = get_or-set_other places j (j - 1) x 0 (λ q. omega arith) in
      rw e
      (record {
        least = omega arith;
        within = omega (arith, r.within);
        moved = stored x ∙ ap (λ (n : ℕ). insert_at n x s) (sym e) ∙ insert-same (j - 1) x s (omega (arith, r.whole, r.within)) old ∙ ap (λ (y : ℕ). insert_at (j - 1) y s) (sym here);
        all = length-set places j x ∙ r.all;
        whole = r.whole;
      })

  pub open-end : (c : ℕ) → j ≤ place → take (len + 1) (set places place c) ≡ insert_at place c (take len before)
  open-end c h = let e : j ≡ place = omega (arith, r.least) in rw e at (stored c)

  pub open-size : (k c : ℕ) → length (set places k c) ≡ most
  open-size k c = length-set places k c ∙ r.all

pub ruleset insert_laws = (open-start, open_next, open-end, open-size, rules)
