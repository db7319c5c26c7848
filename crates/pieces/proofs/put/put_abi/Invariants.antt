-- What the loop of `pieces::put::put_abi` keeps.
use lib.ListN.{drop}
use Rattle.pieces.specs.Names.{abi_text}
use Rattle.pieces.proofs.WritingLaws.{Going}
use Rattle.pieces.proofs.put.put_abi.Given as goal

abbrev pub invariant-loop-i : goal.invariant-loop-i
invariant-loop-i l = Going (abi_text l.run) (drop l.i (abi_text l.run)) l.initial.out l.out l.i
