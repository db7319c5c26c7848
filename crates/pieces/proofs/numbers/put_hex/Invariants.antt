-- What the loop of `pieces::numbers::put_hex` keeps.
use lib.ListN.{drop}
use Rattle.pieces.specs.Numeral.{hexadecimal}
use Rattle.pieces.proofs.WritingLaws.{Going}
use Rattle.pieces.proofs.numbers.put_hex.Given as goal

abbrev pub invariant-loop-i : goal.invariant-loop-i
invariant-loop-i l = Going (hexadecimal l.v) (drop l.i (hexadecimal l.v)) l.initial.out l.out l.i
