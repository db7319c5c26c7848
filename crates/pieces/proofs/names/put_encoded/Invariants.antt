-- What the loop of `pieces::names::put_encoded` keeps.
use lib.ListN.{drop}
use Rattle.nibbles.specs.Utf8.{encoded}
use Rattle.pieces.proofs.WritingLaws.{Going}
use Rattle.pieces.proofs.names.put_encoded.Given as goal

abbrev pub invariant-loop-c : goal.invariant-loop-c
invariant-loop-c l = Going (encoded l.chars) (encoded (drop l.c-index l.chars)) l.initial.out l.out l.w
