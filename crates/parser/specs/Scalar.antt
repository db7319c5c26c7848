-- Unicode scalar values. Assumes nothing: this is a definition.
use Rattle.std.specs.Prelude.{Bool, true, false, ℕ, ltb}
use Rattle.parser.specs.Digits.{if-then}

-- Unicode, D76: any code point but the surrogates
unfoldable pub is_scalar : ℕ → Bool
is_scalar v = if-then (ltb v 0xD800) true (if-then (ltb v 0xE000) false (ltb v 0x110000))
