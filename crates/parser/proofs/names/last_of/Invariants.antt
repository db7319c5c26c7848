-- What the loop of `parser::names::last_of` keeps.
use Rattle.parser.proofs.NameLaws.{Tried}
use Rattle.parser.proofs.names.last_of.Given as goal

abbrev pub invariant-loop-i : goal.invariant-loop-i
invariant-loop-i l = Tried l.b l.t l.i
