-- `punycode::places::insert` meets its contract.
use Rattle.punycode.proofs.PlaceLaws.{insert_laws}
use Rattle.punycode.proofs.places.insert.Goals as goal

pub loop-j-init : goal.loop-j-init
loop-j-init c = search insert_laws

pub loop-j-preserved : goal.loop-j-preserved
loop-j-preserved c = search insert_laws

pub returns-clause-inserted : goal.returns-clause-inserted
returns-clause-inserted c = search insert_laws
