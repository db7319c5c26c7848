-- What the loop of `punycode::adapt::lower` keeps, and what falls.
use Rattle.punycode.proofs.AdaptLaws.{Lowering}
use Rattle.punycode.proofs.adapt.lower.Given as goal

abbrev pub invariant-loop-d : goal.invariant-loop-d
invariant-loop-d l = Lowering l.delta l.d l.k

abbrev pub decreases-loop-d : goal.decreases-loop-d
decreases-loop-d l = l.d
