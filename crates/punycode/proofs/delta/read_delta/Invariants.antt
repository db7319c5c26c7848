-- What the loop of `punycode::delta::read_delta` keeps.
use Rattle.punycode.proofs.DeltaLaws.{Reading}
use Rattle.punycode.proofs.delta.read_delta.Given as goal

abbrev pub invariant-loop-i : goal.invariant-loop-i
invariant-loop-i l = Reading l.bias l.name l.at l.x l.w l.k l.i
