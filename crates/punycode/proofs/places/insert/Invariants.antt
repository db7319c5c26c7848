-- What the loop of `punycode::places::insert` keeps.
use Rattle.punycode.proofs.PlaceLaws.{Opened}
use Rattle.punycode.proofs.places.insert.Given as goal

abbrev pub invariant-loop-j : goal.invariant-loop-j
invariant-loop-j l = Opened l.initial.chars l.chars l.len l.place l.j
