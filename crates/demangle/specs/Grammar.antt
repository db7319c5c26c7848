-- The language, without its text: `Reads s p f n b i j` is a derivation of the part p of the symbol s from the place i to the place j. Written
-- from RFC 2603, as the rustc book carries its grammar on, a constructor a production; what the crate adds stands behind it.
--   f: what is asked of back references and lifetimes.   n: the levels left (500 at the start).   b: how many lifetimes are bound.
-- Numbers, identifiers, nibbles and text are the answers of the readers of `parser`, `nibbles` and `printer`. A condition with ≢ says which
-- production takes a byte that could start two. The prefix `_R`, which no version number follows, and the suffix stand outside.
-- Assumes nothing: these are definitions.
use Rattle.std.specs.Prelude.{Option, Some, ◌≡◌, ◌≢◌, Bool, List, ℕ, suc, ◌+◌, ◌≤◌, T, get_or}
use Rattle.parser.specs.Bytes.{past, space_at}
use Rattle.parser.specs.Number.{integer62, optional62, back_at, hex_at}
use Rattle.parser.specs.Names.{ident_at}
use Rattle.parser.specs.declared.names.Name.{Name}
use Rattle.pieces.specs.Basic.{is_basic}
use Rattle.printer.specs.Readings.{named_at, life_at, head_at, flag_at, scalar_at, literal_at}
use Rattle.printer.specs.declared.read.Head.{Head}
use Rattle.printer.specs.Letters.{'A', 'B', 'C', 'D', 'E', 'F', 'G', 'I', 'K', 'L', 'M', 'N', 'O', 'P', 'Q', 'R', 'S', 'T', 'U', 'V', 'W', 'X', 'Y'}
use Rattle.printer.specs.Letters.{'b', 'c', 'e', 'n', 'p', 's', 'w', is_unsigned, is_signed}

infixl 90 ◌!◌
-- the byte at a place; 0, which is no byte of the grammar, past the end
abbrev pub ◌!◌ : List ℕ → ℕ → ℕ
◌!◌ s i = get_or s i 0

-- what stands in a list
pub data Item : Type 0 where
  types args consts patterns traits fields : Item

-- what is read; `bare` is a type without the `w` that may stand before it
pub data Part : Type 0 where
  path type bare arg const pattern trait trait-path bindings field : Part
  many : Item → Part

abbrev pub each : Item → Part
each types = type
each args = arg
each consts = const
each patterns = pattern
each traits = trait
each fields = field

pub data Follow : Type 0 where
  -- back references and lifetimes are only read: the check, and a path that is skipped behind M and X
  check : Follow
  -- each back reference leads to a part with a derivation, and each lifetime is 0 or bound
  sound : Follow
  -- there is no back reference, and no lifetime but 0, outside such a path
  free : Follow

-- what is asked of the lifetime v where b are bound; 0 is bound always
abbrev pub Bound : Follow → ℕ → ℕ → Type 0
Bound check b v = Unit {0}
Bound sound b v = v ≤ b
Bound free b v = v ≡ 0

-- a back reference for the part p, with n levels left, leads to a part q with m levels left
pub data Leads : Part → Part → ℕ → ℕ → Type 0 where
  to-path : {m : ℕ} → Leads path path (suc (suc m)) m
  to_type : {m : ℕ} → Leads bare type (suc (suc m)) m
  to-const : {m : ℕ} → Leads const const (suc (suc m)) m
  to-trait : {m : ℕ} → Leads trait-path trait-path (suc m) m

module _ (s : List ℕ) where
  pub data Reads : Part → Follow → ℕ → ℕ → ℕ → ℕ → Type 0 where
    -- ======== RFC 2603
    -- ---- path: each counts a level
    -- crate-root → C identifier
    crate-root : {f : Follow} {n b i d : ℕ} {x : Name} → s ! i ≡ 'C' → named_at s (i + 1) ≡ Some (d, x) → Reads path f (suc n) b i x.end
    -- inherent-impl → M impl-path type, impl-path → disambiguator? path
    inherent-impl : {f : Follow} {n b i j k l d : ℕ}
        → s ! i ≡ 'M' → optional62 's' s (i + 1) ≡ Some (d, j) → Reads path check n b j k → Reads type f n b k l → Reads path f (suc n) b i l
    -- trait-impl → X impl-path type path
    trait-impl : {f : Follow} {n b i j k l m d : ℕ}
        → s ! i ≡ 'X' → optional62 's' s (i + 1) ≡ Some (d, j) → Reads path check n b j k → Reads type f n b k l → Reads path f n b l m
        → Reads path f (suc n) b i m
    -- trait-definition → Y type path
    trait-definition : {f : Follow} {n b i j k : ℕ} → s ! i ≡ 'Y' → Reads type f n b (i + 1) j → Reads path f n b j k → Reads path f (suc n) b i k
    -- nested-path → N namespace path identifier
    nested-path : {f : Follow} {n b i j k d : ℕ} {c : Option ℕ} {x : Name}
        → s ! i ≡ 'N' → space_at s (i + 1) ≡ Some (c, j) → Reads path f n b j k → named_at s k ≡ Some (d, x) → Reads path f (suc n) b i x.end
    -- generic-args → I path {generic-arg} E
    generic-args : {f : Follow} {n b i j k : ℕ} → s ! i ≡ 'I' → Reads path f n b (i + 1) j → Reads (many args) f n b j k → Reads path f (suc n) b i k
    -- ---- lists up to an E
    list-end : {x : Item} {f : Follow} {n b i : ℕ} → s ! i ≡ 'E' → Reads (many x) f n b i (i + 1)
    list-more : {x : Item} {f : Follow} {n b i j k : ℕ} → Reads (each x) f n b i j → Reads (many x) f n b j k → Reads (many x) f n b i k
    -- ---- generic-arg
    -- generic-arg → lifetime, lifetime → L base-62-number
    lifetime-arg : {f : Follow} {n b i j v : ℕ} → s ! i ≡ 'L' → integer62 s (i + 1) ≡ Some (v, j) → Bound f b v → Reads arg f n b i j
    -- generic-arg → type
    type-arg : {f : Follow} {n b i j : ℕ} → Reads type f n b i j → Reads arg f n b i j
    -- generic-arg → K const
    const-arg : {f : Follow} {n b i j : ℕ} → s ! i ≡ 'K' → Reads const f n b (i + 1) j → Reads arg f n b i j
    -- ---- type: each counts a level, but for a basic one
    plain_type : {f : Follow} {n b i j : ℕ} → Reads bare f n b i j → Reads type f n b i j
    -- basic-type → lower: one of the twenty-one
    basic-type : {f : Follow} {n b i : ℕ} → T (is_basic (s ! i)) → Reads bare f n b i (i + 1)
    -- array-type → A type const
    array-type : {f : Follow} {n b i j k : ℕ} → s ! i ≡ 'A' → Reads type f n b (i + 1) j → Reads const f n b j k → Reads bare f (suc n) b i k
    -- slice-type → S type
    slice-type : {f : Follow} {n b i j : ℕ} → s ! i ≡ 'S' → Reads type f n b (i + 1) j → Reads bare f (suc n) b i j
    -- tuple_type → T {type} E
    tuple_type : {f : Follow} {n b i j : ℕ} → s ! i ≡ 'T' → Reads (many types) f n b (i + 1) j → Reads bare f (suc n) b i j
    -- ref-type → R lifetime? type
    ref-type : {f : Follow} {n b i j k v : ℕ} → s ! i ≡ 'R' → life_at s (i + 1) ≡ Some (v, j) → Bound f b v → Reads type f n b j k → Reads bare f (suc n) b i k
    -- mut-ref-type → Q lifetime? type
    mut-ref-type : {f : Follow} {n b i j k v : ℕ}
        → s ! i ≡ 'Q' → life_at s (i + 1) ≡ Some (v, j) → Bound f b v → Reads type f n b j k → Reads bare f (suc n) b i k
    -- const-ptr-type → P type
    const-ptr-type : {f : Follow} {n b i j : ℕ} → s ! i ≡ 'P' → Reads type f n b (i + 1) j → Reads bare f (suc n) b i j
    -- mut-ptr-type → O type
    mut-ptr-type : {f : Follow} {n b i j : ℕ} → s ! i ≡ 'O' → Reads type f n b (i + 1) j → Reads bare f (suc n) b i j
    -- fn-type → F fn-sig, fn-sig → binder? U? (K abi)? {type} E type, binder → G base-62-number, abi → C | undisambiguated-identifier:
    -- what the binder binds is bound in all of it
    fn-type : {f : Follow} {n b i j k l m g : ℕ} {h : Head}
        → s ! i ≡ 'F' → optional62 'G' s (i + 1) ≡ Some (g, j) → head_at s j ≡ Some (h, k) → Reads (many types) f n (b + g) k l
        → Reads type f n (b + g) l m → Reads bare f (suc n) b i m
    -- dyn-trait-type → D dyn-bounds lifetime, dyn-bounds → binder? {dyn-trait} E: what the binder binds is not bound in the lifetime
    dyn-trait-type : {f : Follow} {n b i j k l g v : ℕ}
        → s ! i ≡ 'D' → optional62 'G' s (i + 1) ≡ Some (g, j) → Reads (many traits) f n (b + g) j k → s ! k ≡ 'L' → integer62 s (k + 1) ≡ Some (v, l)
        → Bound f b v → Reads bare f (suc n) b i l
    -- type → path: it counts one level and the path another
    path-type : {f : Follow} {n b i j : ℕ} → s ! i ≢ 'B' → Reads path f n b i j → Reads bare f (suc n) b i j
    -- ---- dyn-trait → path {dyn-trait-assoc-binding}: an I or a B that opens the path counts no level itself
    dyn-trait : {f : Follow} {n b i j k : ℕ} → Reads trait-path f n b i j → Reads bindings f n b j k → Reads trait f n b i k
    generic-trait : {f : Follow} {n b i j k : ℕ} → s ! i ≡ 'I' → Reads path f n b (i + 1) j → Reads (many args) f n b j k → Reads trait-path f n b i k
    plain-trait : {f : Follow} {n b i j : ℕ} → s ! i ≢ 'B' → s ! i ≢ 'I' → Reads path f n b i j → Reads trait-path f n b i j
    -- dyn-trait-assoc-binding → p undisambiguated-identifier type
    no-binding : {f : Follow} {n b i : ℕ} → s ! i ≢ 'p' → Reads bindings f n b i i
    type-binding : {f : Follow} {n b i k l : ℕ} {x : Name}
        → s ! i ≡ 'p' → ident_at s (i + 1) ≡ Some x → Reads type f n b x.end k → Reads bindings f n b k l → Reads bindings f n b i l
    -- ---- const: each counts a level
    -- const → type const-data: of an unsigned integer {hex-digit} _, of a signed one n? {hex-digit} _, of a bool 0 or 1, of a char a scalar value
    unsigned-const : {f : Follow} {n b i j e : ℕ} → T (is_unsigned (s ! i)) → hex_at s (i + 1) ≡ Some (e, j) → Reads const f (suc n) b i j
    signed-const : {f : Follow} {n b i j e : ℕ} → T (is_signed (s ! i)) → hex_at s (past 'n' s (i + 1)) ≡ Some (e, j) → Reads const f (suc n) b i j
    bool-const : {f : Follow} {n b i j : ℕ} {u : Bool} → s ! i ≡ 'b' → flag_at s (i + 1) ≡ Some (u, j) → Reads const f (suc n) b i j
    char-const : {f : Follow} {n b i j v : ℕ} → s ! i ≡ 'c' → scalar_at s (i + 1) ≡ Some (v, j) → Reads const f (suc n) b i j
    -- const → p
    placeholder : {f : Follow} {n b i : ℕ} → s ! i ≡ 'p' → Reads const f (suc n) b i (i + 1)
    -- ---- path, type, const → backref, backref → B base-62-number, which is below the place of its B: only read; or the target has a derivation,
    -- one level deeper and under the binders of the place it came from
    back : {p q : Part} {n m b i j v : ℕ} → Leads p q n m → s ! i ≡ 'B' → back_at s (i + 1) ≡ Some (v, j) → Reads p check n b i j
    followed : {p q : Part} {n m b i j k v : ℕ} → Leads p q n m → s ! i ≡ 'B' → back_at s (i + 1) ≡ Some (v, j) → Reads q sound m b v k → Reads p sound n b i j
    -- ======== what the crate adds
    -- ---- depth: the levels above, of which RFC 2603 has none. Greedy reading: the conditions with ≢, and the `_` behind an identifier's length, never
    -- the first of its bytes. It leaves out a version number, constants of other types than those above, an `n` before other than
    -- a signed one, and an abi that is empty or has Punycode
    -- ---- type → w type, where no second w follows; pattern-type → W type pattern
    splat : {f : Follow} {n b i j : ℕ} → s ! i ≡ 'w' → Reads bare f n b (i + 1) j → Reads type f n b i j
    pattern-type : {f : Follow} {n b i j k : ℕ} → s ! i ≡ 'W' → Reads type f n b (i + 1) j → Reads pattern f n b j k → Reads bare f (suc n) b i k
    -- ---- pattern → R const const | O pattern {pattern} E | N: only the O counts a level
    range-pattern : {f : Follow} {n b i j k : ℕ} → s ! i ≡ 'R' → Reads const f n b (i + 1) j → Reads const f n b j k → Reads pattern f n b i k
    or-pattern : {f : Follow} {n b i j k : ℕ} → s ! i ≡ 'O' → Reads pattern f n b (i + 1) j → Reads (many patterns) f n b j k → Reads pattern f (suc n) b i k
    null-pattern : {f : Follow} {n b i : ℕ} → s ! i ≡ 'N' → Reads pattern f n b i (i + 1)
    -- ---- dyn-trait-assoc-binding → p undisambiguated-identifier K const: the book has it, RFC 2603 has not
    const-binding : {f : Follow} {n b i k l : ℕ} {x : Name}
        → s ! i ≡ 'p' → ident_at s (i + 1) ≡ Some x → s ! x.end ≡ 'K' → Reads const f n b (x.end + 1) k → Reads bindings f n b k l
        → Reads bindings f n b i l
    -- ---- const → e {hex-digit} _, a string; R e {hex-digit} _, a reference to one, one level in all; R const | Q const, references
    string-const : {f : Follow} {n b i j e : ℕ} → s ! i ≡ 'e' → literal_at s (i + 1) ≡ Some (e, j) → Reads const f (suc n) b i j
    string-ref-const : {f : Follow} {n b i j e : ℕ} → s ! i ≡ 'R' → s ! (i + 1) ≡ 'e' → literal_at s (i + 1 + 1) ≡ Some (e, j) → Reads const f (suc n) b i j
    ref-const : {f : Follow} {n b i j : ℕ} → s ! i ≡ 'R' → s ! (i + 1) ≢ 'e' → Reads const f n b (i + 1) j → Reads const f (suc n) b i j
    mut-ref-const : {f : Follow} {n b i j : ℕ} → s ! i ≡ 'Q' → Reads const f n b (i + 1) j → Reads const f (suc n) b i j
    -- const → A {const} E | T {const} E, arrays and tuples
    array-const : {f : Follow} {n b i j : ℕ} → s ! i ≡ 'A' → Reads (many consts) f n b (i + 1) j → Reads const f (suc n) b i j
    tuple-const : {f : Follow} {n b i j : ℕ} → s ! i ≡ 'T' → Reads (many consts) f n b (i + 1) j → Reads const f (suc n) b i j
    -- const → V path U | V path T {const} E | V path S {field} E, values of structs and enums; field → identifier const
    unit-const : {f : Follow} {n b i j : ℕ} → s ! i ≡ 'V' → Reads path f n b (i + 1) j → s ! j ≡ 'U' → Reads const f (suc n) b i (j + 1)
    call-const : {f : Follow} {n b i j k : ℕ}
        → s ! i ≡ 'V' → Reads path f n b (i + 1) j → s ! j ≡ 'T' → Reads (many consts) f n b (j + 1) k → Reads const f (suc n) b i k
    struct-const : {f : Follow} {n b i j k : ℕ}
        → s ! i ≡ 'V' → Reads path f n b (i + 1) j → s ! j ≡ 'S' → Reads (many fields) f n b (j + 1) k → Reads const f (suc n) b i k
    field-const : {f : Follow} {n b i k d : ℕ} {x : Name} → named_at s i ≡ Some (d, x) → Reads const f n b x.end k → Reads field f n b i k
