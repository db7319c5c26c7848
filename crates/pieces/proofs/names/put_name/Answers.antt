-- `pieces::names::put_name` meets its contract.
use Rattle.pieces.proofs.NameLaws.{name-laws}
use Rattle.pieces.proofs.names.put_name.Goals as goal

pub returns-then-code-name : goal.returns-then-code-name
returns-then-code-name c = search name-laws

pub returns-in_default : goal.returns-in_default
returns-in_default c = search name-laws

pub put_encoded-requires : goal.put_encoded-requires
put_encoded-requires c = search name-laws

pub returns : goal.returns
returns c = search name-laws
