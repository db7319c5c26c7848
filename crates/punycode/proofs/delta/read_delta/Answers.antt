-- `punycode::delta::read_delta` meets its contract, where a digit is read.
use Rattle.punycode.proofs.DeltaLaws.{read_laws}
use Rattle.punycode.proofs.delta.read_delta.Goals as goal

pub returns-then-x-ge-LIMIT : goal.returns-then-x-ge-LIMIT
returns-then-x-ge-LIMIT c = search (read_laws, c.in_ok-d.was)

pub returns-then-d-t : goal.returns-then-d-t
returns-then-d-t c = search (read_laws, c.in_ok-d.was)

pub loop-i-preserved : goal.loop-i-preserved
loop-i-preserved c = search (read_laws, c.in_ok-d.was)
