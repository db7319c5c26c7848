-- A state and a mode by number. Assumes nothing.
use Rattle.std.specs.Prelude.{max}
use Prim.Native.Nat.{ℕ, ◌≤◌}
use mathlib.Core.Path.{◌≡◌}
use mathlib.Core.Bool.{false}
use native.Mathlib.Omega.{arith}
use borrow.Author.Rules.{rules}
use borrow.Author.Tests.{ne_eqb}
use lib.Dec.{eqb}
use Rattle.parser.specs.Digits.{if-then}

-- ---- a status by its number
module _ (n : ℕ) where
  pub status_other : 4 ≤ n → max n 4 ≡ if-then (eqb n 3) 0 n
  status_other h = rw (ne_eqb n 3 (λ q. omega arith)) (omega arith)

  pub status-room : (n ≡ 3 → ⊥) → false ≡ eqb n 3
  status-room h = rw (ne_eqb n 3 h)

pub ruleset status_laws = (status_other, status-room, rules)

module _ (n : ℕ) where
  pub error_other : if-then (eqb (max n 4) 3) 0 (max n 4) ≡ max n 4
  error_other = rw (ne_eqb (max n 4) 3 (λ q. omega arith))

  pub error-room : eqb (max n 4) 3 ≡ false
  error-room = rw (ne_eqb (max n 4) 3 (λ q. omega arith))

pub ruleset error_laws = (error_other, error-room, rules)
