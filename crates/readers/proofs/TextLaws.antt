-- A character's nibbles end behind the place that it stands at. Assumes nothing.
use mathlib.Core.Path.{◌≡◌, sym, ap, ◌∙◌}
use mathlib.Core.List.{List}
use Prim.Native.Nat.{ℕ, ◌-◌, ◌<◌}
use native.Mathlib.Omega.{arith}
use lib.ListN.{length}
use Rattle.std.specs.Prelude.{Option, Some, Ok}
use Rattle.nibbles.specs.Chars.{Char, char_at}
use Rattle.nibbles.proofs.Utf8.{one-within}

-- o is what `char_at` answered
pub text-less : (s : List ℕ) (at : ℕ) {o : Char} {p : Option (ℕ × ℕ)} {c next : ℕ} → o ≡ char_at s at → o ≡ Ok p → p ≡ Some (c, next) → length s - next < length s - at
text-less s at read is one =
    let w = one-within s at (sym read ∙ is ∙ ap Ok one) in
    omega (arith, w.on, w.there)

pub ruleset text_laws = (text-less)
