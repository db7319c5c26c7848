-- The fixed words. Assumes nothing: these are definitions.
use Rattle.std.specs.Prelude.{List, [], ◌∷◌, ℕ, map, get_or}
use Prim.Native.Char.{code}
use Prim.Native.String as Text
use Prim.Native.String.{String}
use Rattle.pieces.specs.declared.words.Word.{Word}
use Rattle.pieces.specs.declared.words.Word.TheVariants.{Invalid, Deep, Ask, Colons, Special, Closure, Shim, Colon, Hash, Close, Less, As, More, ValueLess, CommaBlank, Plus, Ref, Mut, PtrConst, PtrMut, Bracket, Semicolon, BracketEnd, Paren, Comma, ParenEnd, Unsafe, Extern, ExternEnd, Fn, Arrow, Dyn, Is, Splat, Equals, Range, Or, Null, Underscore, Minus, False, True, Brace, Star, Fields, Field, FieldsEnd, Hex, C, For, ForEnd, Tick}

-- a text's ASCII codes
unfoldable pub ascii : String → List ℕ
ascii Text.[] = []
ascii (Text.◌∷◌ c t) = code c ∷ ascii t

-- the text of each word
unfoldable pub word_at : Word → List ℕ
unfolding ascii
word_at Invalid = ascii "{invalid syntax}"
word_at Deep = ascii "{recursion limit reached}"
word_at Ask = ascii "?"
word_at Colons = ascii "::"
word_at Special = ascii "::{"
word_at Closure = ascii "closure"
word_at Shim = ascii "shim"
word_at Colon = ascii ":"
word_at Hash = ascii "#"
word_at Close = ascii "}"
word_at Less = ascii "<"
word_at As = ascii " as "
word_at More = ascii ">"
word_at ValueLess = ascii "::<"
word_at CommaBlank = ascii ", "
word_at Plus = ascii " + "
word_at Ref = ascii "&"
word_at Mut = ascii "mut "
word_at PtrConst = ascii "*const "
word_at PtrMut = ascii "*mut "
word_at Bracket = ascii "["
word_at Semicolon = ascii "; "
word_at BracketEnd = ascii "]"
word_at Paren = ascii "("
word_at Comma = ascii ","
word_at ParenEnd = ascii ")"
word_at Unsafe = ascii "unsafe "
word_at Extern = ascii "extern \""
word_at ExternEnd = ascii "\" "
word_at Fn = ascii "fn("
word_at Arrow = ascii " -> "
word_at Dyn = ascii "dyn "
word_at Is = ascii " is "
word_at Splat = ascii "#[splat] "
word_at Equals = ascii " = "
word_at Range = ascii "..="
word_at Or = ascii " | "
word_at Null = ascii "!null"
word_at Underscore = ascii "_"
word_at Minus = ascii "-"
word_at False = ascii "false"
word_at True = ascii "true"
word_at Brace = ascii "{"
word_at Star = ascii "*"
word_at Fields = ascii " { "
word_at Field = ascii ": "
word_at FieldsEnd = ascii " }"
word_at Hex = ascii "0x"
word_at C = ascii "C"
word_at For = ascii "for<"
word_at ForEnd = ascii "> "
word_at Tick = ascii "'"

-- the words by number, and the text of a number: none past the last word's
unfoldable pub words : List Word
words =
    Invalid ∷ Deep ∷ Ask ∷ Colons ∷ Special ∷ Closure ∷ Shim ∷ Colon ∷ Hash ∷ Close ∷ Less ∷ As ∷
    More ∷ ValueLess ∷ CommaBlank ∷ Plus ∷ Ref ∷ Mut ∷ PtrConst ∷ PtrMut ∷ Bracket ∷ Semicolon ∷ BracketEnd ∷ Paren ∷
    Comma ∷ ParenEnd ∷ Unsafe ∷ Extern ∷ ExternEnd ∷ Fn ∷ Arrow ∷ Dyn ∷ Is ∷ Splat ∷ Equals ∷ Range ∷
    Or ∷ Null ∷ Underscore ∷ Minus ∷ False ∷ True ∷ Brace ∷ Star ∷ Fields ∷ Field ∷ FieldsEnd ∷ Hex ∷
    C ∷ For ∷ ForEnd ∷ Tick ∷ []

unfoldable pub word_by : ℕ → List ℕ
unfolding words
word_by k = get_or (map word_at words) k []

-- their names, as other specs have them
abbrev pub invalid : Word
invalid = Invalid

abbrev pub deep : Word
deep = Deep

abbrev pub ask : Word
ask = Ask

abbrev pub colons : Word
colons = Colons

abbrev pub special : Word
special = Special

abbrev pub closure : Word
closure = Closure

abbrev pub shim : Word
shim = Shim

abbrev pub colon : Word
colon = Colon

abbrev pub hash : Word
hash = Hash

abbrev pub close : Word
close = Close

abbrev pub less : Word
less = Less

abbrev pub as-trait : Word
as-trait = As

abbrev pub more : Word
more = More

abbrev pub value-less : Word
value-less = ValueLess

abbrev pub comma-blank : Word
comma-blank = CommaBlank

abbrev pub plus : Word
plus = Plus

abbrev pub ref : Word
ref = Ref

abbrev pub mut : Word
mut = Mut

abbrev pub ptr-const : Word
ptr-const = PtrConst

abbrev pub ptr-mut : Word
ptr-mut = PtrMut

abbrev pub bracket : Word
bracket = Bracket

abbrev pub semicolon : Word
semicolon = Semicolon

abbrev pub bracket-end : Word
bracket-end = BracketEnd

abbrev pub paren : Word
paren = Paren

abbrev pub comma : Word
comma = Comma

abbrev pub paren-end : Word
paren-end = ParenEnd

abbrev pub unsafe : Word
unsafe = Unsafe

abbrev pub extern : Word
extern = Extern

abbrev pub extern-end : Word
extern-end = ExternEnd

abbrev pub fn : Word
fn = Fn

abbrev pub arrow : Word
arrow = Arrow

abbrev pub dyn : Word
dyn = Dyn

abbrev pub is : Word
is = Is

abbrev pub splat : Word
splat = Splat

abbrev pub equals : Word
equals = Equals

abbrev pub range : Word
range = Range

abbrev pub or : Word
or = Or

abbrev pub null : Word
null = Null

abbrev pub underscore : Word
underscore = Underscore

abbrev pub minus : Word
minus = Minus

abbrev pub false : Word
false = False

abbrev pub true : Word
true = True

abbrev pub brace : Word
brace = Brace

abbrev pub star : Word
star = Star

abbrev pub fields : Word
fields = Fields

abbrev pub field : Word
field = Field

abbrev pub fields-end : Word
fields-end = FieldsEnd

abbrev pub hex : Word
hex = Hex

abbrev pub c : Word
c = C

abbrev pub for : Word
for = For

abbrev pub for-end : Word
for-end = ForEnd

abbrev pub tick : Word
tick = Tick
