-- `pieces::quoted::put_chars` meets its contract.
use Rattle.pieces.proofs.QuotedLaws.{text-laws}
use Rattle.pieces.proofs.quoted.put_chars.Goals as goal

pub loop-c-init : goal.loop-c-init
loop-c-init c = search text-laws

pub slice_bounds-put_escaped-count : goal.slice_bounds-put_escaped-count
slice_bounds-put_escaped-count c = search text-laws

pub slice_bounds-put_escaped-start : goal.slice_bounds-put_escaped-start
slice_bounds-put_escaped-start c = search text-laws

pub returns-in_err-w : goal.returns-in_err-w
returns-in_err-w c = search text-laws

pub overflow_add-w : goal.overflow_add-w
overflow_add-w c = search text-laws

pub loop-c-preserved : goal.loop-c-preserved
loop-c-preserved c = search text-laws

pub loop-c-smaller : goal.loop-c-smaller
loop-c-smaller c = search text-laws

pub returns-in_default : goal.returns-in_default
returns-in_default c = search text-laws

pub returns-in_default-2 : goal.returns-in_default-2
returns-in_default-2 c = search text-laws
