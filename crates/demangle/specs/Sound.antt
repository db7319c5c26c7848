-- What the answers mean, without the printer: which symbols have derivations. Assumes nothing: these are definitions.
use Rattle.std.specs.Prelude.{Some, ◌≡◌, true, false, List, ℕ, ◌≤◌, length, drop, get_or}
use Rattle.demangle.specs.Accept.{most, levels, prefix_of, is_upper, all_ascii}
use Rattle.demangle.specs.Grammar.{path, check, sound, Reads}

-- a symbol that may be read: not too long, with a prefix of k bytes, an upper-case letter behind it, and ASCII from there on
pub record Ready (s : List ℕ) (k : ℕ) : Type 0 where
  pub short : length s ≤ most
  pub prefix : prefix_of s ≡ Some k
  pub letter : is_upper (get_or (drop k s) 0 0) ≡ true
  pub ascii : all_ascii (drop k s) ≡ true

-- behind the first path, which ended at i: nothing more, or a second path from depth 0, where an upper-case letter stands there
pub data Behind (t : List ℕ) (i : ℕ) : ℕ → Type 0 where
  alone : is_upper (get_or t i 0) ≡ false → Behind t i i
  second : {j : ℕ} → is_upper (get_or t i 0) ≡ true → Reads t path check levels 0 i j → Behind t i j

-- accepted, with a prefix of k bytes; the reading ends j bytes behind it, where the suffix starts
pub record Accepts (s : List ℕ) (k j : ℕ) : Type 0 where
  pub ready : Ready s k
  pub end : ℕ
  pub first : Reads (drop k s) path check levels 0 0 end
  pub rest : Behind (drop k s) end j

-- the first path behind the prefix is sound: it has a derivation with targets followed and lifetimes bound, to the place j
abbrev pub SoundTo : List ℕ → ℕ → Type 0
SoundTo t j = Reads t path sound levels 0 0 j
