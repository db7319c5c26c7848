-- `parser::number::run_end` meets its contract.
use Rattle.parser.proofs.DigitLaws.{along-none}
use Rattle.parser.proofs.number.run_end.Goals as goal

pub returns-then-digit-base : goal.returns-then-digit-base
returns-then-digit-base c = along-none c.loop-i.invariant c.digit.ensures c.if-digit-base.true
