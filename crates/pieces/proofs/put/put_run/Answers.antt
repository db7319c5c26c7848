-- `pieces::put::put_run` meets its contract.
use Rattle.pieces.proofs.WritingLaws.{copy-laws}
use Rattle.pieces.proofs.put.put_run.Goals as goal

pub loop-i-init : goal.loop-i-init
loop-i-init c = search copy-laws

pub returns-then-i-out : goal.returns-then-i-out
returns-then-i-out c = search copy-laws

pub loop-i-preserved : goal.loop-i-preserved
loop-i-preserved c = search copy-laws

pub returns : goal.returns
returns c = search copy-laws
