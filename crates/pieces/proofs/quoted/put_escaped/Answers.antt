-- `pieces::quoted::put_escaped` meets its contract.
use Rattle.pieces.specs.Quoted.{unquoted}
use Rattle.pieces.proofs.QuotedLaws.{escape-laws}
use Rattle.pieces.proofs.quoted.put_escaped.Goals as goal
use Rattle.pieces.proofs.quoted.put_escaped.Goals.{in_default-2-via-then-c-lt32, in_default-2-via-else-c-lt32+else-c-lt127}

pub returns-then-c-quote : goal.returns-then-c-quote
unfolding unquoted
returns-then-c-quote c = search escape-laws

pub returns-in-0 : goal.returns-in-0
unfolding unquoted
returns-in-0 c = search escape-laws

pub returns-in-9 : goal.returns-in-9
unfolding unquoted
returns-in-9 c = search escape-laws

pub returns-in-10 : goal.returns-in-10
unfolding unquoted
returns-in-10 c = search escape-laws

pub returns-in-13 : goal.returns-in-13
unfolding unquoted
returns-in-13 c = search escape-laws

pub returns-in-92 : goal.returns-in-92
unfolding unquoted
returns-in-92 c = search escape-laws

pub returns-in-32-to-126 : goal.returns-in-32-to-126
returns-in-32-to-126 c = search escape-laws

pub returns-in_default-2 : goal.returns-in_default-2
returns-in_default-2 c = elim c.in_default-2.branch [ in_default-2-via-then-c-lt32 w ↦ search escape-laws | in_default-2-via-else-c-lt32+else-c-lt127 w ↦ search escape-laws ]
