-- What `decode` answers. Assumes nothing: these are definitions.
use Rattle.std.specs.Prelude.{Result, Ok, Err, List, ℕ, ◌-◌, ltb, length, take, drop}
use Rattle.parser.specs.Digits.{if-then}
use Rattle.punycode.specs.Decode.{initial-n, initial-bias, Spelt, spelt, long, broken, rounds}
use Rattle.punycode.specs.declared.DecodeError.{DecodeError}
use Rattle.punycode.specs.declared.DecodeError.TheVariants.{Long, Broken}

-- document 01: so many characters at most
abbrev pub most : ℕ
most = 128

-- an identifier's bytes, of which the first `ascii` are its ASCII part, its basic characters, and those from `code` on its code
unfoldable pub decoded : ℕ → ℕ → List ℕ → Spelt
decoded ascii code name =
    let basic : List ℕ = take ascii name in
    if-then (ltb most (length basic)) long (rounds (most - length basic) initial-n 0 initial-bias basic (drop code name))

-- an answer, with the places that were lent as they are left
unfoldable pub shown : Result ℕ DecodeError → List ℕ → Spelt
shown (Ok n) places = spelt (take n places)
shown (Err Long) places = long
shown (Err Broken) places = broken

-- how many characters an answer has
abbrev pub count_of : Result ℕ DecodeError → ℕ
count_of (Ok n) = n
count_of (Err e) = 0
