-- The language and its text, by levels left: the definition of every printed byte. A line a production, in the Rust's order and by its
-- names where they help. Assumes nothing: these are definitions.
--   f: whether targets are followed and lifetimes looked up (nothing is where nothing is printed).   b: the binder count.
use Rattle.std.specs.Prelude.{Option, Some, None, Bool, true, false, not, List, [], ◌∷◌, ◌++◌, ℕ, zero, suc, ◌+◌, ◌-◌, ◌^◌, min, leb, eqb, length, take, drop}
use Rattle.parser.specs.Digits.{if-then}
use Rattle.parser.specs.Bytes.{past, byte_at, space_at}
use Rattle.parser.specs.Number.{integer62, optional62, back_at}
use Rattle.parser.specs.Names.{ident_at}
use Rattle.parser.specs.declared.names.Name.{Name}
use Rattle.nibbles.specs.Uint.{hex_value}
use Rattle.nibbles.specs.declared.uint.Hex.{Hex}
use Rattle.nibbles.specs.declared.uint.Hex.TheVariants.{Small, Big}
use Rattle.pieces.specs.Basic.{is_basic}
use Rattle.pieces.specs.Quoted.{chars_of}
use Rattle.pieces.specs.Piece.{Piece, word, letter, run, abi, name, number, hash, life, basic, kind, quote}
use Rattle.pieces.specs.Words as W
use Rattle.pieces.specs.declared.words.Word.{Word}
use Rattle.printer.specs.Says.{U, invalid, too_deep, Res, ok, bad, Says, refused, next, ◌>>=◌, ◌then◌, give, emit, on_error, broken, reader, still, Got, got, lost, need, choose, mute, caught, Tags, pick}
use Rattle.printer.specs.Letters.{'A', 'B', 'C', 'D', 'E', 'F', 'G', 'I', 'K', 'L', 'M', 'N', 'O', 'P', 'Q', 'R', 'S', 'T', 'U', 'V', 'W', 'X', 'Y', 'b', 'c', 'e', 'n', 'p', 's', 'u', 'w', is_unsigned, is_signed}
use Rattle.printer.specs.Readings.{named_at, life_at, head_at, flag_at, scalar_at, literal_at}
use Rattle.printer.specs.declared.read.Head.{Head}
use Rattle.printer.specs.declared.read.Abi.{Abi}
use Rattle.printer.specs.declared.read.Abi.TheVariants.{C, Named}
use Rattle.printer.specs.declared.kinds.Kind.{Kind}
use Rattle.printer.specs.declared.kinds.Kind.TheVariants.{Path, Value as InValue, Ty, Const, Expr}
use Rattle.printer.specs.declared.kinds.Item.{Item}
use Rattle.printer.specs.declared.kinds.Item.TheVariants.{Ty as AType, Arg, Expr as AValue, Field, Trait}

-- ---- words
abbrev pub say : Word → Says U
say k = emit (word k ∷ [])

abbrev pub piece_if : Bool → Piece → Says U
piece_if t p = emit (if-then t (p ∷ []) [])

abbrev pub say_if : Bool → Word → Says U
say_if t k = piece_if t (word k)

-- a special namespace: `closure`, `shim`, or its letter
unfoldable pub space_name : ℕ → Piece
space_name c = if-then (eqb c 'C') (word W.closure) (if-then (eqb c 'S') (word W.shim) (letter c))

-- an integer's digits and its type
unfoldable pub small_pieces : ℕ → ℕ → List Piece
small_pieces tag v = number v ∷ kind tag ∷ []

-- ---- identifiers that were read
module _ (s : List ℕ) where
  abbrev pub ident : Name → Piece
  ident n = name (n.split - n.start) (n.code - n.start) (take (n.end - n.start) (drop n.start s))

  -- with a word before it, unless it is empty
  unfoldable pub unless_empty : Word → Name → List Piece
  unless_empty k n = if-then (eqb n.start n.end) [] (word k ∷ ident n ∷ [])

  -- `::{closure:name#1}`
  unfoldable pub special_name : ℕ → ℕ → Name → List Piece
  special_name ns d n = (word W.special ∷ space_name ns ∷ unless_empty W.colon n) ++ (word W.hash ∷ number d ∷ word W.close ∷ [])

  -- a nested path's own name, in a namespace that is shown or in another
  unfoldable pub nested_name : Option ℕ → ℕ → Name → List Piece
  nested_name None d n = unless_empty W.colons n
  nested_name (Some ns) d n = special_name ns d n

-- ---- readings, as `parse!` takes them
abbrev pub got_from : {A : Type 0} → Option (A × ℕ) → Got A
got_from (Some (v, next)) = got v next
got_from None = lost invalid

-- an identifier, whose end is the next place; with a number before it
abbrev pub got_name : Option Name → Got Name
got_name (Some n) = got n n.end
got_name None = lost invalid

abbrev pub got_named : Option (ℕ × Name) → Got (ℕ × Name)
got_named (Some (d, n)) = got (d, n) n.end
got_named None = lost invalid

-- an integer: its value, or that it does not fit and where its nibbles lie
pub data Integer : Type 0 where
  small : ℕ → Integer
  large : ℕ → ℕ → Integer

abbrev pub got_hex : ℕ → Option (Hex × ℕ) → Got Integer
got_hex at (Some (Small v, next)) = got (small v) next
got_hex at (Some (Big e, next)) = got (large at e) next
got_hex at None = lost invalid

abbrev pub got_literal : ℕ → Option (ℕ × ℕ) → Got (ℕ × ℕ)
got_literal at (Some (e, next)) = got (at, e) next
got_literal at None = lost invalid

-- a byte and the place behind it, or none
abbrev pub on_byte : {A : Type 0} → Option (ℕ × ℕ) → (ℕ → ℕ → A) → A → A
on_byte (Some (c, j)) f z = f c j
on_byte None f z = z

-- a tag that no production has
abbrev pub unknown : ℕ → ℕ → ℕ → Res U
unknown c i j = refused tt invalid i

-- ---- lifetimes
-- a lifetime that no binder binds
unfoldable pub unbound : Says U
unbound = say W.tick then broken

-- a lifetime by its number: 0 is `'_`, else it is looked up, where that is done at all
unfoldable pub life_of : Bool → ℕ → ℕ → Says U
life_of f b lt =
    choose f
    (choose (eqb lt 0) (emit (word W.tick ∷ word W.underscore ∷ []))
    (choose (leb lt b) (emit (life (b - lt) ∷ [])) unbound))
    (emit [])

-- after `&`: nothing for 0
unfoldable pub ref_life : Bool → ℕ → ℕ → Says U
ref_life f b lt = choose (eqb lt 0) (emit []) (life_of f b lt then emit (letter 32 ∷ []))

-- the end of a trait object: nothing for 0
unfoldable pub end_life : Bool → ℕ → ℕ → Says U
end_life f b lt = choose (eqb lt 0) (emit []) (say W.plus then life_of f b lt)

-- the binder count, held at 2^64 - 1: each lifetime bound has been printed, so no text in any buffer has as many
abbrev pub held : ℕ → ℕ
held n = min n (2 ^ 64 - 1)

-- lifetimes bound above a count: the i-th, and n of them from the i-th on
unfoldable pub one_life : ℕ → ℕ → List Piece
one_life b i = if-then (eqb i 0) (life (held (b + i)) ∷ []) (word W.comma-blank ∷ life (held (b + i)) ∷ [])

unfoldable pub lives : ℕ → ℕ → ℕ → List Piece
lives b i zero = []
lives b i (suc n) = one_life b i ++ lives b (suc i) n

-- `for<'a, 'b> `
unfoldable pub binder : ℕ → ℕ → List Piece
binder b n = if-then (eqb n 0) [] (word W.for ∷ (lives b 0 n ++ (word W.for-end ∷ [])))

-- the separator of a list
unfoldable pub sep_of : Item → Word
sep_of AType = W.comma-blank
sep_of Arg = W.comma-blank
sep_of AValue = W.comma-blank
sep_of Field = W.comma-blank
sep_of Trait = W.plus

-- by follow and binder count; and the target of a back reference, by its place
abbrev pub Deep : Type 0 → Type 0
Deep A = Bool → ℕ → Says A

-- what can be read with so many levels left
pub record Level : Type 0 where
  pub path : Bool → Deep U
  pub con : Bool → Deep U
  pub bare : Deep U
  pub ors : Deep U
  pub aim : Kind → Bool → ℕ → ℕ → Says U
  pub open_at : Bool → ℕ → ℕ → Says Bool

module _ (s : List ℕ) where
  -- a byte that is there or not
  unfoldable pub eat : ℕ → Says Bool
  eat k = record { run = λ i. if-then (eqb (past k s i) i) (ok false i false []) (ok true (past k s i) false []); stopped = still false }

  -- by the byte c at the place i, before j; what is none of the tags goes on with c, i and j. At the end it is Invalid, or goes on too
  unfoldable pub by_tag : {A : Type 0} → A → Tags A → (ℕ → ℕ → ℕ → Res A) → Says A
  by_tag z ts d = reader z (λ i. on_byte (byte_at s i) (λ c j. pick c ts (λ k. d c k j) i j) (refused z invalid i))

  unfoldable pub or_tag : {A : Type 0} → A → Tags A → (ℕ → Res A) → Says A
  or_tag z ts d = reader z (λ i. on_byte (byte_at s i) (λ c j. pick c ts d i j) (d i))

  -- ---- leaves
  unfoldable pub krate : Says U
  krate = need (λ i. got_named (named_at s i)) tt (λ r. emit (ident s r.1 ∷ hash r.0 ∷ []))

  unfoldable pub nested : Option ℕ → Says U
  nested ns = need (λ i. got_named (named_at s i)) tt (λ r. emit (nested_name s ns r.0 r.1))

  unfoldable pub lifetime : Deep U
  lifetime f b = need (λ i. got_from (integer62 s i)) tt (life_of f b)

  unfoldable pub bound_life : Deep U
  bound_life f b = need (λ i. got_from (integer62 s i)) tt (end_life f b)

  unfoldable pub bound : Deep U
  bound f b = eat 'L' >>= λ y. choose y (bound_life f b) broken

  -- a reference's sign, its lifetime if that is not 0, and `mut`; the value says whether the type comes behind them
  unfoldable pub ref_rest : Bool → Deep Bool
  ref_rest is_mut f b = need (λ i. got_from (life_at s i)) false (λ lt. ref_life f b lt then say_if is_mut W.mut then give true)

  unfoldable pub reference : Bool → Deep Bool
  reference is_mut f b = say W.ref then ref_rest is_mut f b

  -- the ABI of a function pointer: none, `C`, or the name between two places
  unfoldable pub abi_pieces : ℕ → ℕ → List Piece
  abi_pieces a b = word W.extern ∷ abi (take (b - a) (drop a s)) ∷ word W.extern-end ∷ []

  unfoldable pub maybe_abi : Option Abi → List Piece
  maybe_abi None = []
  maybe_abi (Some C) = word W.extern ∷ word W.c ∷ word W.extern-end ∷ []
  maybe_abi (Some (Named a b)) = abi_pieces a b

  unfoldable pub head_pieces : Head → List Piece
  head_pieces h = if-then h.is_unsafe (word W.unsafe ∷ []) [] ++ (maybe_abi h.abi ++ (word W.fn ∷ []))

  -- what stands before the parameters; the value says whether they come behind it
  unfoldable pub sig_head : Says Bool
  sig_head = need (λ i. got_from (head_at s i)) false (λ h. emit (head_pieces h) then give true)

  -- an integer that does not fit 64 bits by its nibbles
  unfoldable pub large_pieces : ℕ → ℕ → ℕ → List Piece
  large_pieces tag a e = word W.hex ∷ run (take (e - a) (drop a s)) ∷ kind tag ∷ []

  unfoldable pub integer_pieces : ℕ → Integer → List Piece
  integer_pieces tag (small v) = small_pieces tag v
  integer_pieces tag (large a e) = large_pieces tag a e

  unfoldable pub uint : ℕ → Says U
  uint tag = need (λ i. got_hex i (hex_value s i)) tt (λ v. emit (integer_pieces tag v))

  unfoldable pub int : ℕ → Says U
  int tag = eat 'n' >>= λ y. choose y (say W.minus then uint tag) (uint tag)

  -- by the letter of its type: h j m o t y are unsigned, a i l n s x signed, and no other is an integer's
  unfoldable pub integer : ℕ → ℕ → ℕ → Res U
  integer c i j = if-then (is_unsigned c) ((uint c).run j) (if-then (is_signed c) ((int c).run j) (refused tt invalid i))

  unfoldable pub boolean : Says U
  boolean = need (λ i. got_from (flag_at s i)) tt (λ t. say (if-then t W.true W.false))

  unfoldable pub character : Says U
  character = need (λ i. got_from (scalar_at s i)) tt (λ c. emit (quote 39 (c ∷ []) ∷ []))

  unfoldable pub literal : Says U
  literal = need (λ i. got_literal i (literal_at s i)) tt (λ p. emit (quote 34 (chars_of (take (p.1 - p.0) (drop p.0 s))) ∷ []))

  unfoldable pub unsized_literal : Says U
  unsized_literal = say W.star then literal

  -- ---- a list up to an E, with k turns left; i elements are read. Turns never run out
  unfoldable pub list_n : Word → Says U → ℕ → ℕ → Says ℕ
  list_n t a zero i = record { run = λ p. bad i invalid p false []; stopped = still i }
  list_n t a (suc k) i = record { run = λ p. if-then (eqb (past 'E' s p) p) ((say_if (not (eqb i 0)) t then a then list_n t a k (suc i)).run p) (ok i (past 'E' s p) false []); stopped = still i }

  module _ (p : Level) where
    -- types, with an optional `w` before them
    unfoldable pub type : Deep U
    type f b = eat 'w' >>= λ y. choose y (say W.splat then p.bare f b) (p.bare f b)

    unfoldable pub arg : Deep U
    arg f b = or_tag tt (('L', lifetime f b) ∷ ('K', p.con false f b) ∷ []) (type f b).run

    -- `<type>`, `<type as trait>`
    unfoldable pub trt : Bool → Deep U
    trt with f b = choose with (say W.as-trait then p.path false f b) (emit [])

    unfoldable pub qself : Bool → Deep U
    qself with f b = say W.less then type f b then trt with f b then say W.more

    -- N: a path in a namespace
    unfoldable pub nest : Bool → Deep U
    nest value f b = need (λ i. got_from (space_at s i)) tt (λ ns. p.path value f b then on_error (word W.colons ∷ []) then nested ns)

    -- M, X: the path of the `impl` is read and not printed
    unfoldable pub imp : Bool → Deep U
    imp with f b = need (λ i. got_from (optional62 's' s i)) tt (λ _. mute (p.path false false b) then qself with f b)

    -- B
    unfoldable pub back : Kind → Deep U
    back k f b = need (λ i. got_from (back_at s i)) tt (p.aim k f b)

    -- what is bound to an associated type
    unfoldable pub bound_to : Deep U
    bound_to f b = eat 'K' >>= λ y. choose y (p.con false f b) (type f b)

    -- one binding behind its `p`; the value says whether its name was read
    unfoldable pub bound_name : Deep Bool
    bound_name f b = need (λ i. got_name (ident_at s i)) false (λ n. emit (ident s n ∷ word W.equals ∷ []) then bound_to f b then give true)

    unfoldable pub binding : Bool → Deep Bool
    binding opened f b = say (if-then opened W.comma-blank W.less) then bound_name f b

    -- the bindings, with k turns left; and the end of the trait's generics, where they are open
    unfoldable pub bindings : ℕ → Bool → Deep U
    bindings zero opened f b = record { run = λ i. bad tt invalid i false []; stopped = (say_if opened W.more).stopped }
    bindings (suc k) opened f b = record {
      run = λ i. if-then (eqb (past 'p' s i) i) ((say_if opened W.more).run i)
          ((binding opened f b >>= λ y. choose y (bindings k true f b) (emit [])).run (past 'p' s i));
      stopped = (say_if opened W.more).stopped;
    }

    -- patterns
    unfoldable pub range : Deep U
    range f b = p.con false f b then say W.range then p.con false f b

    unfoldable pub pat : Deep U
    pat f b = by_tag tt (('R', range f b) ∷ ('O', p.ors f b) ∷ ('N', say W.null) ∷ []) unknown

    -- the patterns behind the first in an O, up to its E: an error ends them with the marker, once more
    unfoldable pub alternatives : ℕ → Deep U
    alternatives zero f b = record { run = λ i. bad tt invalid i false []; stopped = broken.stopped }
    alternatives (suc k) f b = record {
      run = λ i. if-then (eqb (past 'E' s i) i) ((say W.or then pat f b then alternatives k f b).run i) (ok tt (past 'E' s i) false []);
      stopped = broken.stopped;
    }

    -- a field of a struct
    unfoldable pub field : Deep U
    field f b = need (λ i. got_named (named_at s i)) tt (λ r. emit (ident s r.1 ∷ word W.field ∷ []) then p.con true f b)

    -- a path whose generics may be left open for what is bound behind it: the value says whether they are
    unfoldable pub open_back : Deep Bool
    open_back f b = need (λ i. got_from (back_at s i)) false (p.open_at f b)

    -- ---- lists, of elements that are said as a
    unfoldable pub list_of : Word → Says U → Says ℕ
    list_of t a = list_n t a (length s) 0

    unfoldable pub open_generic : Deep Bool
    open_generic f b = p.path false f b then say W.less then list_of W.comma-blank (arg f b) then give true

    unfoldable pub shut_path : Deep Bool
    shut_path f b = p.path false f b then give false

    unfoldable pub open_path : Deep Bool
    open_path f b = or_tag false (('B', open_back f b) ∷ ('I', open_generic f b) ∷ []) (shut_path f b).run

    unfoldable pub dyn_trait : Deep U
    dyn_trait f b = open_path f b >>= λ o. bindings (length s) o f b

    -- what a back reference leads to; what stands in a list
    unfoldable pub says : Kind → Deep U
    says Path f b = p.path false f b
    says InValue f b = p.path true f b
    says Ty f b = type f b
    says Const f b = p.con false f b
    says Expr f b = p.con true f b

    unfoldable pub element : Item → Deep U
    element AType f b = type f b
    element Arg f b = arg f b
    element AValue f b = p.con true f b
    element Field f b = field f b
    element Trait f b = dyn_trait f b

    unfoldable pub list : Item → Bool → ℕ → Says ℕ
    list k f b = list_of (sep_of k) (element k f b)

    -- I: a path with generic arguments
    unfoldable pub generic : Bool → Deep U
    generic value f b = p.path value f b then say (if-then value W.value-less W.less) then list Arg f b then say W.more

    -- R, Q: a reference
    unfoldable pub refer : Bool → Deep U
    refer is_mut f b = reference is_mut f b >>= λ more. choose more (type f b) (emit [])

    -- P, O: a pointer behind its word
    unfoldable pub pointer : Word → Deep U
    pointer k f b = say k then type f b

    -- A, S: an array with its length, a slice
    unfoldable pub size : Bool → Deep U
    size sized f b = choose sized (say W.semicolon then p.con true f b) (emit [])

    unfoldable pub array : Bool → Deep U
    array sized f b = say W.bracket then type f b then size sized f b then say W.bracket-end

    -- T: a tuple of types or of constants; one alone keeps its comma
    unfoldable pub tuple : Item → Deep U
    tuple k f b = say W.paren then (list k f b >>= λ n. say_if (eqb n 1) W.comma then say W.paren-end)

    -- F: a function pointer, whose binder counts for what follows
    unfoldable pub arrow : Deep U
    arrow f b = say W.arrow then type f b

    unfoldable pub result : Deep U
    result f b = eat 'u' >>= λ y. choose y (emit []) (arrow f b)

    unfoldable pub parameters : Deep U
    parameters f b = list AType f b then say W.paren-end then result f b

    unfoldable pub signature : Deep U
    signature f b = sig_head >>= λ more. choose more (parameters f b) (emit [])

    unfoldable pub function : Deep U
    function f b = need (λ i. got_from (optional62 'G' s i)) tt (λ n. emit (binder b n) then signature f (held (b + n)))

    -- D: a trait object, whose binder counts for its traits and not for the lifetime behind them
    unfoldable pub traits : Deep U
    traits f b = need (λ i. got_from (optional62 'G' s i)) tt (λ n. emit (binder b n) then list Trait f (held (b + n)) then emit [])

    unfoldable pub object : Deep U
    object f b = say W.dyn then traits f b then bound f b

    -- W: a type and a pattern
    unfoldable pub patterned : Deep U
    patterned f b = type f b then say W.is then pat f b

    -- R, Q: a reference to a constant
    unfoldable pub refer_to : Bool → Deep U
    refer_to is_mut f b = say W.ref then say_if is_mut W.mut then p.con true f b

    -- from a word to a word
    unfoldable pub between : Word → Item → Word → Deep U
    between from k to f b = say from then list k f b then say to

    -- by the tag: the body, in braces; but a reference to a string is the string
    unfoldable pub body_by : ℕ → Deep U
    body_by tag f b =
        choose (eqb tag 'e') unsized_literal
        (choose (eqb tag 'A') (between W.bracket AValue W.bracket-end f b)
        (choose (eqb tag 'T') (tuple AValue f b) (refer_to (eqb tag 'Q') f b)))

    unfoldable pub braced_by : ℕ → Bool → Deep U
    braced_by tag value f b = say_if (not value) W.brace then body_by tag f b then say_if (not value) W.close

    unfoldable pub ref_const : Bool → Deep U
    ref_const value f b = eat 'e' >>= λ y. choose y literal (braced_by 'R' value f b)

    -- V: a value of a struct or an enum: its path, and its fields. Where those are not read, no brace closes it
    unfoldable pub fields : Word → Item → Word → Bool → Deep U
    fields from k to value f b = between from k to f b then say_if (not value) W.close

    unfoldable pub variant : Bool → Deep U
    variant value f b =
        by_tag tt
        (('U', say_if (not value) W.close) ∷
        ('T', fields W.paren AValue W.paren-end value f b) ∷
        ('S', fields W.fields Field W.fields-end value f b) ∷ [])
        unknown

    unfoldable pub adt : Bool → Deep U
    adt value f b = say_if (not value) W.brace then p.path true f b then variant value f b

    -- ---- by the tag, with a level more
    unfoldable pub path_tags : Bool → Bool → ℕ → Tags U
    path_tags value f b =
        ('C', krate) ∷
        ('N', nest value f b) ∷
        ('M', imp false f b) ∷
        ('X', imp true f b) ∷
        ('Y', qself true f b) ∷
        ('I', generic value f b) ∷
        ('B', back (if-then value InValue Path) f b) ∷ []

    unfoldable pub type_tags : Bool → ℕ → Tags U
    type_tags f b =
        ('R', refer false f b) ∷
        ('Q', refer true f b) ∷
        ('P', pointer W.ptr-const f b) ∷
        ('O', pointer W.ptr-mut f b) ∷
        ('A', array true f b) ∷
        ('S', array false f b) ∷
        ('T', tuple AType f b) ∷
        ('F', function f b) ∷
        ('D', object f b) ∷
        ('B', back Ty f b) ∷
        ('W', patterned f b) ∷ []

    unfoldable pub const_tags : Bool → Bool → ℕ → Tags U
    const_tags value f b =
        ('p', say W.underscore) ∷
        ('b', boolean) ∷
        ('c', character) ∷
        ('e', braced_by 'e' value f b) ∷
        ('R', ref_const value f b) ∷
        ('Q', braced_by 'Q' value f b) ∷
        ('A', braced_by 'A' value f b) ∷
        ('T', braced_by 'T' value f b) ∷
        ('V', adt value f b) ∷
        ('B', back (if-then value Expr Const) f b) ∷ []

  -- a basic type, which counts no level, or what else starts with its byte
  unfoldable pub basic_or : (ℕ → ℕ → ℕ → Res U) → ℕ → ℕ → ℕ → Res U
  basic_or d c i j = if-then (is_basic c) ((emit (basic c ∷ [])).run j) (d c i j)

  -- the target of a back reference: an error in it is damage. It is not visited where nothing is followed
  unfoldable pub target : {A : Type 0} → A → Deep A → Bool → ℕ → ℕ → Says A
  target z a f b v = reader z (λ j. if-then f (caught ((a true b).run v) j) (ok z j false []))

  -- no level is left
  abbrev pub deepest : Level
  deepest = record {
    path = λ value f b. reader tt (refused tt too_deep);
    con = λ value f b. by_tag tt [] (λ c i j. refused tt too_deep i);
    bare = λ f b. by_tag tt [] (basic_or (λ c i j. refused tt too_deep i));
    ors = λ f b. reader tt (refused tt too_deep);
    aim = λ k f b v. reader tt (refused tt too_deep);
    open_at = λ f b v. reader false (refused false too_deep);
  }

  -- one level more than p has
  abbrev pub above : Level → Level
  above p = record {
    path = λ value f b. by_tag tt (path_tags p value f b) unknown;
    con = λ value f b. by_tag tt (const_tags p value f b) integer;
    bare = λ f b. by_tag tt [] (basic_or (λ c i j. pick c (type_tags p f b) (p.path false f b).run i j));
    ors = λ f b. pat p f b then alternatives p (length s) f b;
    aim = λ k f b v. target tt (says p k) f b v;
    open_at = λ f b v. target false (open_path p) f b v;
  }

  unfoldable pub level : ℕ → Level
  level zero = deepest
  level (suc n) = above (level n)
