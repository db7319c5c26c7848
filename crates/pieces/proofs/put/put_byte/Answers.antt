-- `pieces::put::put_byte` meets its contract.
use Rattle.pieces.proofs.WritingLaws.{byte_laws}
use Rattle.pieces.proofs.put.put_byte.Goals as goal

pub returns-then-out-eq0 : goal.returns-then-out-eq0
returns-then-out-eq0 c = search byte_laws

pub returns : goal.returns
returns c = search byte_laws
