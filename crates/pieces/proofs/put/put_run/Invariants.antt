-- What the loop of `pieces::put::put_run` keeps.
use lib.ListN.{drop}
use Rattle.pieces.proofs.WritingLaws.{Going}
use Rattle.pieces.proofs.put.put_run.Given as goal

abbrev pub invariant-loop-i : goal.invariant-loop-i
invariant-loop-i l = Going l.run (drop l.i l.run) l.initial.out l.out l.i
