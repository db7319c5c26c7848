-- `pieces::put::put_abi` meets its contract.
use Rattle.pieces.proofs.WritingLaws.{abi-laws}
use Rattle.pieces.proofs.put.put_abi.Goals as goal

pub loop-i-init : goal.loop-i-init
loop-i-init c = search abi-laws

pub returns-then-i-out : goal.returns-then-i-out
returns-then-i-out c = search abi-laws

pub loop-i-preserved : goal.loop-i-preserved
loop-i-preserved c = search abi-laws

pub returns : goal.returns
returns c = search abi-laws
