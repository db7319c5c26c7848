-- What the loop of `parser::number::run_end` keeps.
use Rattle.parser.proofs.DigitLaws.{Along}
use Rattle.parser.proofs.number.run_end.Given as goal

abbrev pub invariant-loop-i : goal.invariant-loop-i
invariant-loop-i l = Along l.base l.s l.at l.i
