-- What a printer says: ONE type for what is read and what is printed, with and without an error set. Assumes nothing: these are definitions.
use Rattle.std.specs.Prelude.{Bool, true, false, ◌||◌, List, [], ◌∷◌, ◌++◌, ℕ, zero, suc, eqb}
use Rattle.pieces.specs.Piece.{Piece, word}
use Rattle.pieces.specs.Words as W
use Rattle.pieces.specs.Words.{ask}

infixl 20 ◌>>=◌
infixr 20 ◌then◌
abbrev pub U : Type 0
U = Unit {0}

-- the errors; the code's number of the error x is suc x
abbrev pub Error : Type 0
Error = ℕ

abbrev pub invalid : Error
invalid = 0

abbrev pub too_deep : Error
too_deep = 1

-- `?`, and the markers of the errors
abbrev pub asks : List Piece
asks = word ask ∷ []

abbrev pub marks : Error → List Piece
marks zero = word W.invalid ∷ []
marks (suc x) = word W.deep ∷ []

-- what a run comes to: a value, the place after it, whether a target was damaged, and what was printed; or, with an error, the value all the same
pub data Res (A : Type 0) : Type 0 where
  ok : A → ℕ → Bool → List Piece → Res A
  bad : A → Error → ℕ → Bool → List Piece → Res A

-- what is said where an error is set, and what becomes of the error
pub record Stop (A : Type 0) : Type 0 where
  pub value : A
  pub turn : Error → Error
  pub pieces : List Piece

pub record Says (A : Type 0) : Type 0 where
  pub run : ℕ → Res A
  pub stopped : Stop A

-- the parts of a run, joined: the damage stays, the print goes on
unfoldable pub onto : {A : Type 0} → Bool → List Piece → Res A → Res A
onto d o (ok a j e p) = ok a j (d || e) (o ++ p)
onto d o (bad a x j e p) = bad a x j (d || e) (o ++ p)

-- with the error x set, at place j
abbrev pub stop : {A : Type 0} → Says A → Error → ℕ → Res A
stop a x j = bad a.stopped.value (a.stopped.turn x) j false a.stopped.pieces

unfoldable pub next : {A B : Type 0} → Res A → (A → Says B) → Res B
unfolding onto
next (ok a j d o) f = onto d o ((f a).run j)
next (bad a x j d o) f = onto d o (stop (f a) x j)

abbrev pub joined : {A B : Type 0} → Stop A → Stop B → Stop B
joined s t = record { value = t.value; turn = λ x. t.turn (s.turn x); pieces = s.pieces ++ t.pieces }

unfoldable pub ◌>>=◌ : {A B : Type 0} → Says A → (A → Says B) → Says B
unfolding next
◌>>=◌ a f = record { run = λ i. next (a.run i) f; stopped = joined a.stopped (f a.stopped.value).stopped }

unfoldable pub ◌then◌ : {A B : Type 0} → Says A → Says B → Says B
unfolding ◌>>=◌
◌then◌ a b = a >>= λ _. b

-- with an error set: nothing; a text; `?`
abbrev pub still : {A : Type 0} → A → Stop A
still z = record { value = z; turn = λ x. x; pieces = [] }

abbrev pub saying : List Piece → Stop U
saying ps = record { value = tt; turn = λ x. x; pieces = ps }

abbrev pub asking : {A : Type 0} → A → Stop A
asking z = record { value = z; turn = λ x. x; pieces = asks }

abbrev pub refused : {A : Type 0} → A → Error → ℕ → Res A
refused z x i = bad z x i false (marks x)

unfoldable pub give : {A : Type 0} → A → Says A
give z = record { run = λ i. ok z i false []; stopped = still z }

-- a text, printed with and without an error; and one that is printed only with an error set
unfoldable pub emit : List Piece → Says U
emit ps = record { run = λ i. ok tt i false ps; stopped = saying ps }

unfoldable pub on_error : List Piece → Says U
on_error ps = record { run = λ i. ok tt i false []; stopped = saying ps }

-- `invalid!`: the marker, also over an error, which becomes x
unfoldable pub breaks : Error → Says U
breaks x = record { run = refused tt x; stopped = record { value = tt; turn = λ _. x; pieces = marks x } }

unfoldable pub broken : Says U
unfolding breaks
broken = breaks invalid

-- a function that begins with a reading: `?` where an error is set
unfoldable pub reader : {A : Type 0} → A → (ℕ → Res A) → Says A
reader z m = record { run = m; stopped = asking z }

-- a reading: a value and the place after it
pub data Got (A : Type 0) : Type 0 where
  got : A → ℕ → Got A
  lost : Error → Got A

unfoldable pub taken : {A B : Type 0} → Got A → ℕ → B → (A → Says B) → Res B
taken (got a j) i z f = (f a).run j
taken (lost x) i z f = refused z x i

-- `parse!`: where the reading fails its marker ends the function, and where an error is set `?` does
unfoldable pub need : {A B : Type 0} → (ℕ → Got A) → B → (A → Says B) → Says B
unfolding taken reader
need p z f = reader z (λ i. taken (p i) i z f)

unfoldable pub choose : {A : Type 0} → Bool → Says A → Says A → Says A
choose true a b = a
choose false a b = b

-- nothing of it is printed
abbrev pub hush : {A : Type 0} → Res A → Res A
hush (ok a j d o) = ok a j d []
hush (bad a x j d o) = bad a x j d []

unfoldable pub mute : {A : Type 0} → Says A → Says A
mute a = record { run = λ i. hush (a.run i); stopped = record { value = a.stopped.value; turn = a.stopped.turn; pieces = [] } }

-- a target: an error in it is damage, and the run goes on at j
unfoldable pub caught : {A : Type 0} → Res A → ℕ → Res A
caught (ok a k d o) j = ok a j d o
caught (bad a x k d o) j = ok a j true o

-- the first tag that the byte c is: it goes on behind it, at j. Where c is none of them, the other goes on at the byte's place i
abbrev pub Tags : Type 0 → Type 0
Tags A = List (ℕ × Says A)

unfoldable pub pick : {A : Type 0} → ℕ → Tags A → (ℕ → Res A) → ℕ → ℕ → Res A
pick c [] d i j = d i
pick c (t ∷ ts) d i j = elim (eqb c t.0) [ true ↦ t.1.run j | false ↦ pick c ts d i j ]
