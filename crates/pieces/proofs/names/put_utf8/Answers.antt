-- `pieces::names::put_utf8` meets its contract.
use Rattle.pieces.proofs.NameLaws.{utf8-laws}
use Rattle.pieces.proofs.names.put_utf8.Goals as goal

pub returns-then-c-lt128 : goal.returns-then-c-lt128
returns-then-c-lt128 c = search utf8-laws

pub unwrap-requires : goal.unwrap-requires
unwrap-requires c = search utf8-laws

pub returns : goal.returns
returns c = search utf8-laws
