-- `demangle::judge::reading` meets its contract.
use Rattle.demangle.proofs.JudgeLaws.{reading-paths}
use Rattle.demangle.proofs.judge.reading.Goals as goal

pub returns : goal.returns
returns c = reading-paths c.args.s.now c.second.ensures c.in_ok-path.was c.path.ensures c.ascii.ensures c.if-not-ascii.false c.peek-b.ensures c.if-not-is_ascii_uppercase.ensures.value
