-- A value is a scalar by the first test that tells. Assumes nothing.
use mathlib.Core.Path.{◌≡◌}
use mathlib.Core.Bool.{true, false}
use Prim.Native.Nat.{ℕ, ◌≤◌, ◌<◌}
use native.Mathlib.Omega.{arith}
use borrow.Author.Rules.{rules}
use borrow.Author.Tests.{lt-ltb, le-ltb}
use Rattle.parser.specs.Scalar.{is_scalar}

module _ (v : ℕ) where
  pub scalar-low : v < 0xD800 → true ≡ is_scalar v
  unfolding is_scalar
  scalar-low h = simp (lt-ltb v 0xD800 h)

  pub scalar-surrogate : 0xD800 ≤ v → v < 0xE000 → false ≡ is_scalar v
  unfolding is_scalar
  scalar-surrogate h k = simp (le-ltb v 0xD800 h, lt-ltb v 0xE000 k)

  pub scalar-high : 0xE000 ≤ v → v < 0x110000 → true ≡ is_scalar v
  unfolding is_scalar
  scalar-high h k = simp (le-ltb v 0xD800 (omega arith), le-ltb v 0xE000 h, lt-ltb v 0x110000 k)

  pub scalar-none : 0x110000 ≤ v → false ≡ is_scalar v
  unfolding is_scalar
  scalar-none h = simp (le-ltb v 0xD800 (omega arith), le-ltb v 0xE000 (omega arith), le-ltb v 0x110000 h)

pub ruleset scalar_laws = (scalar-low, scalar-surrogate, scalar-high, scalar-none, rules)
