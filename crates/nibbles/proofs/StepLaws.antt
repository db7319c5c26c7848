-- What each function is left to show, from the facts as its places have them. Assumes nothing.
use Rattle.std.specs.Prelude.{Option, Some, None, Ok}
use mathlib.Core.Path.{◌≡◌, refl, sym, ap, subst, ◌∙◌}
use mathlib.Core.Bool.{Bool, true, false}
use mathlib.Core.List.{List, [], ◌∷◌}
use Prim.Native.Nat.{ℕ, suc, ◌+◌, ◌-◌, ◌*◌, ◌^◌, ◌≤◌, ◌<◌}
use native.Mathlib.Omega.{arith}
use native.Mathlib.Nat.{pow-le-pow_right, pow-succ', sub-zero}
use native.Mathlib.Numerals.{add-one}
use borrow.Author.Rules.{rules}
use borrow.Author.Tests.{lt-ltb, le-ltb, le-leb, lt-leb, leb-true}
use mir.Val.{Fits}
use mir.Syntax.{w32, w64}
use lib.Dec.{leb}
use lib.ListN.{length, get_or, drop, length-drop, drop_of_length-le}
use lib.Seq.{drop-cons, drop-drop, take_all}
use Rattle.std.specs.List.{slice_range}
use Rattle.parser.specs.Digits.{if-then, within, digit_of}
use Rattle.parser.specs.Scalar.{is_scalar}
use Rattle.nibbles.specs.Utf8.{utf8, payload, after, First, one, none, first}
use Rattle.nibbles.specs.Chars.{octets, found, no_char, char_of, char_at, is_some, is_text}
use Rattle.nibbles.specs.Steps.{octet_in, octet_at, more_in, more_at, settled_of, tail_in, tail_at, first_at}
use Rattle.nibbles.proofs.Utf8Laws.{utf8-one, scalar_below, first-starts, first-is}
use Rattle.nibbles.proofs.NibbleLaws.{octets-pair, Past, past}
use Rattle.nibbles.proofs.Utf8.{one-within, text_at, still-text}
use Rattle.nibbles.proofs.TailLaws.{Leads, leads, Kind, kind-two, kind-three, kind-four, long-form}

-- ---- `octet`: t is what `get` answered, h and l are what `digit` answered
octets-half : (t : List ℕ) → length t < 2 → octets t ≡ []
unfolding octets
octets-half [] h = refl
octets-half (x ∷ []) h = refl
octets-half (x ∷ y ∷ r) h = absurd (omega arith)

octets-high : (t : List ℕ) → 16 ≤ digit_of (get_or t 0 0) → octets t ≡ []
unfolding octets
octets-high [] h = refl
octets-high (x ∷ []) h = refl
octets-high (x ∷ y ∷ r) h = rw (le-ltb (digit_of x) 16 h)

octets-low : (t : List ℕ) → digit_of (get_or t 0 0) < 16 → 16 ≤ digit_of (get_or t 1 0) → octets t ≡ []
unfolding octets
octets-low [] h k = refl
octets-low (x ∷ []) h k = refl
octets-low (x ∷ y ∷ r) h k = rw (lt-ltb (digit_of x) 16 h, le-ltb (digit_of y) 16 k)

octets-some : (t : List ℕ) → 2 ≤ length t → digit_of (get_or t 0 0) < 16 → digit_of (get_or t 1 0) < 16 → octet_in (octets t) ≡ Some (digit_of (get_or t 0 0) * 16 + digit_of (get_or t 1 0))
octets-some [] h k l = absurd (omega arith)
octets-some (x ∷ []) h k l = absurd (omega arith)
octets-some (x ∷ y ∷ r) h k l = rw (octets-pair x y r k l)

module _ (s : List ℕ) (at : ℕ) where
  pub octet-past : length s < at → None ≡ octet_at s at
  unfolding octet_at octets
  octet-past h = rw (drop_of_length-le s {i = at} (omega arith))

  module _ (t : List ℕ) (front : t ≡ slice_range s at (length s)) where
    at-front : octet_in (octets t) ≡ octet_at s at
    unfolding octet_at
    at-front = let e : slice_range s at (length s) ≡ drop at s = take_all (length s - at) (drop at s) (omega (arith, length-drop at s)) in rw (front, e)

    pub octet-half : length t < 2 → None ≡ octet_at s at
    octet-half h = rw (octets-half t h) at at-front

    module _ (h : ℕ) (high : h ≡ digit_of (get_or t 0 0)) where
      pub octet-high : 16 ≤ h → None ≡ octet_at s at
      octet-high k = rw (octets-high t (rw high at k)) at at-front

      module _ (l : ℕ) (low : l ≡ digit_of (get_or t 1 0)) (k : h < 16) where
        pub octet-low : 16 ≤ l → None ≡ octet_at s at
        octet-low q = rw (octets-low t (rw high at k) (rw low at q)) at at-front

        pub octet-of : 2 ≤ length t → l < 16 → Some (h * 16 + l) ≡ octet_at s at
        octet-of n q = rw (octets-some t n (rw high at k) (rw low at q), ← high, ← low) at at-front

pub ruleset octet_laws = (octet-past, octet-half, octet-high, octet-low, octet-of, rules)

-- ---- what an answer of `octet` says
record Byte (s : List ℕ) (at b : ℕ) : Type 0 where
  bytes-are : octets (drop at s) ≡ b ∷ octets (drop (at + 2) s)
  fit : at + 2 ≤ length s

abbrev Holds : List ℕ → ℕ → Option ℕ → Type 0
Holds s at (Some b) = Byte s at b
Holds s at None = octets (drop at s) ≡ []

holds : (s : List ℕ) (at : ℕ) {g r : Option ℕ} → g ≡ octet_at s at → g ≡ r → Holds s at r
unfolding octet_at
holds s at e k = subst (Holds s at) (sym e ∙ k) (go (octets (drop at s)) refl)
  where
    go : (bs : List ℕ) → octets (drop at s) ≡ bs → Holds s at (octet_in bs)
    go [] h = h
    go (b ∷ bs) h =
        let p : Past (drop at s) (b ∷ []) bs = past (b ∷ []) (drop at s) bs h in
        record { bytes-are = h ∙ ap (λ (l : List ℕ). b ∷ l) (sym (rw (drop-drop 2 at s) at p.others)); fit = omega (arith, p.fit, length-drop at s) }

-- ---- `more`: g is what `octet` answered
module _ (v : ℕ) (s : List ℕ) (at : ℕ) (g : Option ℕ) (read : g ≡ octet_at s at) where
  pub more-none : g ≡ None → None ≡ more_at v s at
  unfolding more_at more_in
  more-none k = rw (holds s at read k)

  module _ (b : ℕ) (known : g ≡ Some b) where
    pub more-low : b < 0x80 → None ≡ more_at v s at
    unfolding more_at more_in within
    more-low h = rw ((holds s at read known).bytes-are, lt-leb 0x80 b h)

    pub more-high : 0xC0 ≤ b → None ≡ more_at v s at
    unfolding more_at more_in within
    more-high h = rw ((holds s at read known).bytes-are, le-leb 0x80 b (omega arith), lt-leb b 0xBF (omega arith))

    pub more-is : 0x80 ≤ b → b < 0xC0 → Some (v * 64 + (b - 0x80)) ≡ more_at v s at
    unfolding more_at more_in within
    more-is h k = rw ((holds s at read known).bytes-are, le-leb 0x80 b h, le-leb b 0xBF (omega arith))

pub ruleset more_laws = (more-none, more-low, more-high, more-is, rules)

-- ---- what an answer of `more` says: the value is still small, the byte is there, and the tail goes on after it
record Group (v : ℕ) (s : List ℕ) (at w : ℕ) : Type 0 where
  small : w ≤ v * 64 + 63
  fit : at + 2 ≤ length s
  on : (k low : ℕ) → tail_at k low w s (at + 2) ≡ tail_at (suc k) low v s at

abbrev Goes : ℕ → List ℕ → ℕ → Option ℕ → Type 0
Goes v s at (Some w) = Group v s at w
Goes v s at None = (k low : ℕ) → None ≡ tail_at (suc k) low v s at

goes : (v : ℕ) (s : List ℕ) (at : ℕ) {g r : Option ℕ} → g ≡ more_at v s at → g ≡ r → Goes v s at r
unfolding more_at more_in tail_at tail_in within
goes v s at e k = subst (Goes v s at) (sym e ∙ k) (go (octets (drop at s)) refl)
  where
    turn : (b : ℕ) (bs : List ℕ) → octets (drop at s) ≡ b ∷ bs → (t : Bool) → leb 0x80 b ≡ t → (u : Bool) → leb b 0xBF ≡ u → Goes v s at (if-then t (if-then u (Some (v * 64 + (b - 0x80))) None) None)
    turn b bs h true p true q =
        let o : Some b ≡ octet_at s at = unfold octet_at in rw h in
        let y : Byte s at b = holds s at {r = Some b} o refl in
        record { small = omega (arith, leb-true b 0xBF q); fit = y.fit; on = λ k low. rw (y.bytes-are, p, q) }
    turn b bs h true p false q = λ k low. rw (h, p, q)
    turn b bs h false p u q = λ k low. rw (h, p)

    go : (bs : List ℕ) → octets (drop at s) ≡ bs → Goes v s at (more_in v bs)
    go [] h = λ k low. rw h
    go (b ∷ bs) h = turn b bs h (leb 0x80 b) refl (leb b 0xBF) refl

-- ---- `tail`: i continuation bytes are read, and what is left of the tail is the whole
pub record Reading (s : List ℕ) (at left low v next value i : ℕ) : Type 0 where
  pub within : i ≤ left
  pub on : tail_at (left - i) low value s next ≡ tail_at left low v s at
  pub small : value < 64 ^ (i + 1)

pub read-start : (s : List ℕ) (at left low v : ℕ) → v < 64 → Reading s at left low v at v 0
read-start s at left low v h = record { within = omega arith; on = rw sub-zero; small = h }

module _ {s : List ℕ} {at left low v next value i : ℕ} (r : Reading s at left low v next value i) where
  pub value_small : left ≤ 3 → value < 2 ^ 32
  value_small k = omega (arith, r.small, r.within, pow-le-pow_right {n = 64} (omega arith) {i = i + 1} {j = 4} (omega (arith, r.within)))

  pub value_fits : left ≤ 3 → Fits w32 value
  value_fits k = omega (arith, value_small k)

  -- g is what `more` answered
  module _ (h : i < left) (g : Option ℕ) (read : g ≡ more_at value s next) where
    one_less : left - i ≡ suc (left - (i + 1))
    one_less = omega arith

    pub read-none : g ≡ None → None ≡ tail_at left low v s at
    read-none e = goes value s next read e (left - (i + 1)) low ∙ rw one_less at r.on

    module _ (w : ℕ) (known : g ≡ Some w) where
      pub place_fits : length s < 2 ^ 64 → Fits w64 (next + 2)
      place_fits k = omega (arith, (goes value s next read known).fit)

      pub read-on : Reading s at left low v (next + 2) w (i + 1)
      read-on =
          let y = goes value s next read known in
          let p : 64 ^ (i + 1 + 1) ≡ 64 ^ (i + 1) * 64 = rw (add-one (i + 1), pow-succ') (omega arith) in
          record { within = omega arith; on = y.on (left - (i + 1)) low ∙ rw one_less at r.on; small = omega (arith, y.small, r.small, p) }

  -- all are read
  module _ (all : left ≤ i) where
    settled : settled_of low value next ≡ tail_at left low v s at
    unfolding tail_at tail_in
    settled =
        let e : left - i ≡ 0 = omega (arith, r.within) in
        rw e at r.on

    pub read-low : value < low → None ≡ tail_at left low v s at
    unfolding settled_of
    read-low h = rw (lt-ltb value low h) at settled

    pub read-scalar : low ≤ value → true ≡ is_scalar value → Some (value, next) ≡ tail_at left low v s at
    unfolding settled_of
    read-scalar h t = rw (le-ltb value low h, sym t) at settled

    pub read-bad : low ≤ value → false ≡ is_scalar value → None ≡ tail_at left low v s at
    unfolding settled_of
    read-bad h t = rw (le-ltb value low h, sym t) at settled

pub ruleset tail_laws = (read-start, value_small, value_fits, read-none, place_fits, read-on, read-low, read-scalar, read-bad, rules)

-- ---- `first`: g is what `octet` answered
module _ (s : List ℕ) (at : ℕ) (g : Option ℕ) (read : g ≡ octet_at s at) where
  pub first-none : g ≡ None → None ≡ first_at s at
  unfolding first_at
  first-none k = rw (holds s at read k) (unfold first payload utf8 after is_scalar in refl)

  module _ (b : ℕ) (known : g ≡ Some b) where
    begins : first_at s at ≡ found (first (b ∷ octets (drop (at + 2) s))) at
    unfolding first_at
    begins = rw ((holds s at read known).bytes-are)

    -- no scalar's encoding begins with b
    alone : ((c : ℕ) → c < 0x110000 → Leads c b → ⊥) → None ≡ first_at s at
    alone no_lead = rw begins (go (first (b ∷ octets (drop (at + 2) s))) refl)
      where
        go : (f : First) → first (b ∷ octets (drop (at + 2) s)) ≡ f → None ≡ found f at
        go none h = refl
        go (one c rest) h =
            let t = first-starts (b ∷ octets (drop (at + 2) s)) h in
            absurd (no_lead c (scalar_below c t.scalar) (rw (← t.bytes-are) at (leads c rest (scalar_below c t.scalar))))

    pub first-stray : {least : ℕ} → least ≤ b → 0x80 ≤ least → b < 0xC0 → None ≡ first_at s at
    first-stray h m k = alone (λ c p l. omega (arith, l.one k))

    pub first-above : 0xF8 ≤ b → None ≡ first_at s at
    first-above h = alone (λ c p l. omega (arith, (l.four (omega arith)).1))

    pub first-ascii : b < 0x80 → Some (b, at + 2) ≡ first_at s at
    first-ascii h =
        let u = utf8-one b h in
        let i : is_scalar b ≡ true = unfold is_scalar in rw (lt-ltb b 0xD800 (omega arith)) in
        let e : first (b ∷ octets (drop (at + 2) s)) ≡ one b (octets (drop (at + 2) s)) = rw u at (first-is b (octets (drop (at + 2) s)) i) in
        rw (begins, e, u)

    pub octet-fits : length s < 2 ^ 64 → Fits w64 (at + 2)
    octet-fits h = omega (arith, (holds s at read known).fit)

    -- r is what `tail` answered
    module _ (r : Option (ℕ × ℕ)) where
      long : {k base top low high : ℕ} → Kind k base top low high → base ≤ b → b < top → r ≡ tail_at k low (b - base) s (at + 2) → r ≡ first_at s at
      unfolding tail_at
      long kind h l e = e ∙ long-form kind b (octets (drop (at + 2) s)) at h l ∙ sym begins

      pub first-two : 0xC0 ≤ b → b < 0xE0 → r ≡ tail_at 1 0x80 (b - 0xC0) s (at + 2) → r ≡ first_at s at
      first-two = long kind-two

      pub first-three : 0xE0 ≤ b → b < 0xF0 → r ≡ tail_at 2 0x800 (b - 0xE0) s (at + 2) → r ≡ first_at s at
      first-three = long kind-three

      pub first-four : 0xF0 ≤ b → b < 0xF8 → r ≡ tail_at 3 0x10000 (b - 0xF0) s (at + 2) → r ≡ first_at s at
      first-four = long kind-four

pub ruleset first_laws = (first-none, first-stray, first-above, first-ascii, octet-fits, first-two, first-three, first-four, rules)

-- ---- `char_at`: r is what `first` answered
module _ (s : List ℕ) (at : ℕ) where
  pub char-end : length s ≤ at → Ok None ≡ char_at s at
  unfolding char_at
  char-end h = rw (drop_of_length-le s h)

  module _ (h : at < length s) (r : Option (ℕ × ℕ)) (e : r ≡ first_at s at) where
    here : char_of r ≡ char_at s at
    unfolding char_at first_at
    here = rw (e, drop-cons s at 0 h)

    pub char-some : (p : ℕ × ℕ) → r ≡ Some p → Ok (Some p) ≡ char_at s at
    char-some p k = rw k at here

    pub char-none : r ≡ None → no_char ≡ char_at s at
    char-none k = rw k at here

pub ruleset char_laws = (char-end, char-some, char-none, rules)

-- ---- `is_text`: r is what `first` answered
-- what is left at the place decides
pub record Along (s : List ℕ) (at : ℕ) : Type 0 where
  pub same : is_text s ≡ is_text (drop at s)

pub along-start : (s : List ℕ) → Along s 0
along-start s = record { same = refl }

module _ {s : List ℕ} {at : ℕ} (a : Along s at) where
  pub along-end : length s ≤ at → true ≡ is_text s
  along-end h = sym (a.same ∙ unfold is_text in ap is_some (text_at s at (sym (char-end s at h))))

  module _ (h : at < length s) {r : Option (ℕ × ℕ)} (read : r ≡ first_at s at) where
    pub along-bad : r ≡ None → false ≡ is_text s
    along-bad e = sym (a.same ∙ unfold is_text in ap is_some (text_at s at (sym (char-none s at h r read e))))

    module _ {c next : ℕ} (known : r ≡ Some (c, next)) where
      here-is : char_at s at ≡ Ok (Some (c, next))
      here-is = sym (char-some s at h r read (c, next) known)

      pub along-on : Along s next
      along-on = record { same = a.same ∙ still-text s at here-is }

      pub along-less : length s - next < length s - at
      along-less =
          let w = one-within s at here-is in
          omega (arith, w.on, w.there)

-- g is what `octet` answered: a byte, which is a character by itself if it is small; m is the bound that the code asks of it
module _ {s : List ℕ} {at : ℕ} (a : Along s at) {g : Option ℕ} (read : g ≡ octet_at s at) {b : ℕ} (known : g ≡ Some b) {m : ℕ} (under : b < m) (few : m ≤ 0x80) where
  small : b < 0x80
  small = omega (arith, under, few)

  there : at < length s
  there = omega (arith, (holds s at read known).fit)

  pub quick-on : Along s (at + 2)
  quick-on = along-on a there {r = Some (b, at + 2)} (first-ascii s at g read b known small) {c = b} {next = at + 2} refl

  pub quick-less : length s - (at + 2) < length s - at
  quick-less = along-less a there {r = Some (b, at + 2)} (first-ascii s at g read b known small) {c = b} {next = at + 2} refl

pub ruleset text_laws = (along-start, along-end, along-bad, along-on, along-less, octet-fits, quick-on, quick-less, rules)
