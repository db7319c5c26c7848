-- `pieces::names::put_basic_part` meets its contract.
use Rattle.pieces.proofs.NameLaws.{basic-part-laws}
use Rattle.pieces.proofs.names.put_basic_part.Goals as goal

pub returns-then-ascii-eq0 : goal.returns-then-ascii-eq0
returns-then-ascii-eq0 c = search basic-part-laws

pub returns : goal.returns
returns c = search basic-part-laws
