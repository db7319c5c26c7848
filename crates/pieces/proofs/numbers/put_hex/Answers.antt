-- `pieces::numbers::put_hex` meets its contract.
use Rattle.pieces.proofs.NumeralLaws.{hex-laws}
use Rattle.pieces.proofs.numbers.put_hex.Goals as goal

pub returns-then-v-eq0 : goal.returns-then-v-eq0
returns-then-v-eq0 c = search hex-laws

pub loop-i-init : goal.loop-i-init
loop-i-init c = search hex-laws

pub returns-then-i-out : goal.returns-then-i-out
returns-then-i-out c = search hex-laws

pub loop-i-preserved : goal.loop-i-preserved
loop-i-preserved c = search hex-laws

pub returns : goal.returns
returns c = search hex-laws
