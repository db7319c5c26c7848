-- What the loop of `punycode::places::copy` keeps.
use Rattle.punycode.proofs.PlaceLaws.{Copying}
use Rattle.punycode.proofs.places.copy.Given as goal

abbrev pub invariant-loop-i : goal.invariant-loop-i
invariant-loop-i l = Copying l.text l.chars l.i
