-- What the loop of `parser::number::number` keeps.
use Rattle.parser.proofs.ReadingLaws.{Reading}
use Rattle.parser.proofs.number.number.Given as goal

abbrev pub invariant-loop-i : goal.invariant-loop-i
invariant-loop-i l = Reading l.base l.s l.at l.x l.i
