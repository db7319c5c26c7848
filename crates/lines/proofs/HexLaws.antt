-- A hex digit counts what it stands for. Assumes nothing.
use mathlib.Core.Path.{◌≡◌, sym, ◌∙◌}
use Prim.Native.Nat.{ℕ, ◌+◌, ◌-◌, ◌≤◌, ◌<◌}
use native.Mathlib.Omega.{arith}
use borrow.Author.Rules.{rules}
use Rattle.parser.specs.Digits.{digit_of}
use Rattle.parser.proofs.DigitLaws.{digit-0, digit-a}

module _ (d : ℕ) where
  pub digit_low : d < 10 → digit_of (48 + d) ≡ d
  digit_low h =
      let e : 48 + d - 48 ≡ d = omega arith in
      sym (digit-0 (48 + d) (omega arith) (omega arith)) ∙ e

  pub digit-high : 10 ≤ d → d < 16 → digit_of (87 + d) ≡ d
  digit-high h k =
      let e : 87 + d - 87 ≡ d = omega arith in
      sym (digit-a (87 + d) (omega arith) (omega arith)) ∙ e

pub ruleset digit_laws = (digit_low, digit-high, rules)
