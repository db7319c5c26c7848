-- `pieces::put::put_packed` meets its contract.
use Rattle.pieces.proofs.PackedLaws.{packed-laws}
use Rattle.pieces.proofs.put.put_packed.Goals as goal

pub loop-i-init : goal.loop-i-init
loop-i-init c = search packed-laws

pub returns-then-left-eq0 : goal.returns-then-left-eq0
returns-then-left-eq0 c = search packed-laws

pub returns-then-i-out : goal.returns-then-i-out
returns-then-i-out c = search packed-laws

pub loop-i-preserved : goal.loop-i-preserved
loop-i-preserved c = search packed-laws

pub returns : goal.returns
returns c = search packed-laws
