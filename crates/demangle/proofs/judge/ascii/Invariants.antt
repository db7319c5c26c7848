-- What the loop of `demangle::judge::ascii` keeps.
use Rattle.demangle.proofs.PrefixLaws.{Ascii}
use Rattle.demangle.proofs.judge.ascii.Given as goal

abbrev pub invariant-loop-b : goal.invariant-loop-b
invariant-loop-b l = Ascii l.s l.b-index l.top
