-- The theorems: what is read is what was encoded, for bytes and for nibbles, and no text ever meets a bad character. Assumes nothing.
use Rattle.std.specs.Prelude.{Some, None, Ok, Err}
use mathlib.Core.Path.{◌≡◌, refl, sym, ap, ◌∙◌}
use mathlib.Core.Logic.{◌↔◌}
use mathlib.Core.Bool.{Bool, true, false}
use mathlib.Core.List.{List, [], ◌∷◌, ◌++◌}
use Prim.Native.Nat.{ℕ, ◌+◌, ◌-◌, ◌*◌, ◌≤◌, ◌<◌}
use native.Mathlib.Omega.{arith}
use borrow.Author.Tests.{eq-eqb, ne_eqb, eqb-true, eqb-false}
use lib.Dec.{eqb}
use lib.ListN.{length, drop, length-append, length-drop}
use Rattle.parser.specs.Digits.{if-then}
use Rattle.parser.specs.Scalar.{is_scalar}
use Rattle.nibbles.specs.Utf8.{utf8, encoded, Scalars, Starts, Encodes, WellFormed, one, first, Text, text, no_text, onto, decoded, decode}
use Rattle.nibbles.specs.Chars.{Spells, octets, paired, Char, no_char, char_at, text_of, is_some, is_text}
use Rattle.nibbles.proofs.Utf8Laws.{clash, first-is, first-starts, some_bytes, decode-on, decode-none, encoded-decodes, decode-encodes}
use Rattle.nibbles.proofs.NibbleLaws.{spelled, spells, Reads, NoChar, Says, says}

-- ---- bytes
-- a character that was encoded is read back, with the bytes after it
pub reads-encoded : (c : ℕ) (rest : List ℕ) → is_scalar c ≡ true → first (utf8 c ++ rest) ≡ one c rest
reads-encoded = first-is

-- a character that is read is a scalar, and the bytes begin with its encoding
pub read-is-encoded : (bytes : List ℕ) {c : ℕ} {rest : List ℕ} → first bytes ≡ one c rest → Starts c rest bytes
read-is-encoded = first-starts

-- bytes decode to a list exactly where they are the encoding of it
pub decodes : (bytes cs : List ℕ) → (decode bytes ≡ text cs) ↔ Encodes cs bytes
decodes bytes cs = (decode-encodes bytes cs, λ e. ap decode (sym e.bytes-are) ∙ encoded-decodes cs e.scalars)

-- so the list is unique
pub unique : (cs ds : List ℕ) → Scalars cs → Scalars ds → encoded cs ≡ encoded ds → cs ≡ ds
unique cs ds s t e = cc (encoded-decodes cs s, encoded-decodes ds t)

some-text : (t : Text) → is_some t ≡ true → (cs : List ℕ) × (t ≡ text cs)
some-text (text cs) e = (cs, refl)
some-text no_text e = clash (cc)

pub well-formed : (bytes : List ℕ) → (is_some (decode bytes) ≡ true) ↔ WellFormed bytes
well-formed bytes = (there, λ w. rw ((decodes bytes w.0).1 w.1))
  where
    there : is_some (decode bytes) ≡ true → WellFormed bytes
    there e = let t = some-text (decode bytes) e in (t.0, (decodes bytes t.0).0 t.1)

-- ---- nibbles
-- a text is that of a list of characters exactly where its nibbles are pairs that spell their encoding
pub text-exactly : (s cs : List ℕ) → (text_of s ≡ text cs) ↔ (Spells s (encoded cs) × Scalars cs)
unfolding text_of
text-exactly s cs = (there (paired s) refl, back)
  where
    there : (t : Bool) → paired s ≡ t → if-then t (decode (octets s)) no_text ≡ text cs → Spells s (encoded cs) × Scalars cs
    there true h e =
        let k = decode-encodes (octets s) cs e in
        (rw k.bytes-are (spells s (eqb-true (2 * length (octets s)) (length s) h)), k.scalars)
    there false h e = clash (cc)

    back : Spells s (encoded cs) × Scalars cs → if-then (paired s) (decode (octets s)) no_text ≡ text cs
    back p =
        let k = spelled p.0 in
        rw (k.0, eq-eqb (2 * length (encoded cs)) (length s) k.1) (encoded-decodes cs p.1)

pub is-text-exactly : (s : List ℕ) → (is_text s ≡ true) ↔ ((cs : List ℕ) × (Spells s (encoded cs) × Scalars cs))
unfolding is_text
is-text-exactly s = (there, λ p. rw ((text-exactly s p.0).1 p.1))
  where
    there : is_some (text_of s) ≡ true → (cs : List ℕ) × (Spells s (encoded cs) × Scalars cs)
    there e = let t = some-text (text_of s) e in (t.0, (text-exactly s t.0).0 t.1)

-- ---- a character at a place
-- it is a scalar, it takes nibbles, and these are there
pub record Within (s : List ℕ) (at c next : ℕ) : Type 0 where
  pub scalar : is_scalar c ≡ true
  pub on : at < next
  pub there : next ≤ length s

pub one-within : (s : List ℕ) (at : ℕ) {c next : ℕ} → char_at s at ≡ Ok (Some (c, next)) → Within s at c next
one-within s at {c} e =
    let r = (says s at e).1 in
    record { scalar = r.starts.scalar; on = omega (arith, some_bytes c, r.place); there = omega (arith, some_bytes c, r.place, r.fit, length-drop at s) }

-- ---- a loop over a text
-- the text from a place on, by what `char_at` answers there
abbrev pub text_after : List ℕ → Char → Text
text_after s (Ok (Some (c, next))) = onto c (text_of (drop next s))
text_after s (Ok None) = text []
text_after s (Err e) = no_text

-- the count of nibbles is even after a character just where it was before
even-on : (s : List ℕ) (at c next : ℕ) (rest : List ℕ) → Reads s at c next rest → paired (drop at s) ≡ paired (drop next s)
even-on s at c next rest r =
    let d : length (drop at s) ≡ length s - at = length-drop at s in
    let f : length (drop next s) ≡ length s - next = length-drop next s in
    let l : length (octets (drop at s)) ≡ length (utf8 c) + length rest = ap length r.starts.bytes-are ∙ length-append (utf8 c) rest in
    let m : length (octets (drop next s)) ≡ length rest = ap length r.others in
    eqb_same (2 * length (octets (drop at s))) (length (drop at s)) (2 * length (octets (drop next s))) (length (drop next s)) (λ h. omega (arith, r.place, r.fit)) (λ h. omega (arith, r.place, r.fit))
  where
    eqb_same : (a b c d : ℕ) → (a ≡ b → c ≡ d) → (c ≡ d → a ≡ b) → eqb a b ≡ eqb c d
    eqb_same a b c d f g = go (eqb a b) refl
      where
        go : (t : Bool) → eqb a b ≡ t → eqb a b ≡ eqb c d
        go true h = h ∙ sym (eq-eqb c d (f (eqb-true a b h)))
        go false h = h ∙ sym (ne_eqb c d (λ k. eqb-false a b h (g k)))

if-onto : (t : Bool) (c : ℕ) (x : Text) → if-then t (onto c x) no_text ≡ onto c (if-then t x no_text)
if-onto true c x = refl
if-onto false c x = refl

if_none : (t : Bool) → if-then t no_text no_text ≡ no_text
if_none true = refl
if_none false = refl

pub text_at : (s : List ℕ) (at : ℕ) {r : Char} → char_at s at ≡ r → text_of (drop at s) ≡ text_after s r
unfolding text_of
text_at s at {r} e = go r (says s at e)
  where
    none-at : NoChar s at → (bs : List ℕ) → octets (drop at s) ≡ bs → if-then (eqb (2 * length bs) (length (drop at s))) (decode bs) no_text ≡ no_text
    none-at k [] h = rw (ne_eqb 0 (length (drop at s)) (λ q. omega (arith, k.some)))
    none-at k (b ∷ bs) h = rw (decode-none b bs (ap first (sym h) ∙ k.none_first)) (if_none (eqb (2 * length (b ∷ bs)) (length (drop at s))))

    go : (r : Char) → Says s at r → if-then (paired (drop at s)) (decode (octets (drop at s))) no_text ≡ text_after s r
    go (Ok (Some (c, next))) k =
        let q = k.1 in
        rw (even-on s at c next k.0 q, decode-on (octets (drop at s)) (ap first q.starts.bytes-are ∙ first-is c k.0 q.starts.scalar), ← q.others) (if-onto (paired (drop next s)) c (decode (octets (drop next s))))
    go (Ok None) h = rw h (unfold octets decode decoded in refl)
    go (Err e) k = none-at k (octets (drop at s)) refl

-- where a text is left at a place: the end, or its first character and the place where the others are left
abbrev pub Next : List ℕ → ℕ → List ℕ → Type 0
Next s at [] = char_at s at ≡ Ok None
Next s at (c ∷ cs) = (next : ℕ) × (char_at s at ≡ Ok (Some (c, next))) × (text_of (drop next s) ≡ text cs)

pub read-on : (s : List ℕ) (at : ℕ) (cs : List ℕ) → text_of (drop at s) ≡ text cs → Next s at cs
read-on s at cs e = go (char_at s at) refl
  where
    turn : (c next : ℕ) → char_at s at ≡ Ok (Some (c, next)) → (t : Text) → text_of (drop next s) ≡ t → onto c t ≡ text cs → Next s at cs
    turn c next h (text ds) k q =
        let p : cs ≡ c ∷ ds = cc in
        rw p (next, h, k)
    turn c next h no_text k q = clash (cc)

    go : (r : Char) → char_at s at ≡ r → Next s at cs
    go (Ok (Some (c, next))) h = turn c next h (text_of (drop next s)) refl (sym (text_at s at h) ∙ e)
    go (Ok None) h =
        let p : cs ≡ [] = cc (text_at s at h) in
        rw p h
    go (Err x) h = clash (cc (text_at s at h, e))

-- the same as a test: a text never meets a bad character, and what is left after one is text where it was before
pub never-bad : (s : List ℕ) (at : ℕ) → is_text (drop at s) ≡ true → char_at s at ≡ no_char → ⊥
unfolding is_text
never-bad s at e h = clash (cc (ap is_some (text_at s at h)))

pub still-text : (s : List ℕ) (at : ℕ) {c next : ℕ} → char_at s at ≡ Ok (Some (c, next)) → is_text (drop at s) ≡ is_text (drop next s)
unfolding is_text
still-text s at {c} {next} h = ap is_some (text_at s at h) ∙ some-onto (text_of (drop next s))
  where
    some-onto : (t : Text) → is_some (onto c t) ≡ is_some t
    some-onto (text cs) = refl
    some-onto no_text = refl
