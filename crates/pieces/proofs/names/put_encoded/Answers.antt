-- `pieces::names::put_encoded` meets its contract.
use Rattle.pieces.proofs.NameLaws.{encoded-laws}
use Rattle.pieces.proofs.names.put_encoded.Goals as goal

pub loop-c-init : goal.loop-c-init
loop-c-init c = search encoded-laws

pub slice_bounds-put_utf8-count : goal.slice_bounds-put_utf8-count
slice_bounds-put_utf8-count c = search encoded-laws

pub slice_bounds-put_utf8-start : goal.slice_bounds-put_utf8-start
slice_bounds-put_utf8-start c = search encoded-laws

pub put_utf8-requires : goal.put_utf8-requires
put_utf8-requires c = search encoded-laws

pub returns-in_err-w : goal.returns-in_err-w
returns-in_err-w c = search encoded-laws

pub overflow_add-w : goal.overflow_add-w
overflow_add-w c = search encoded-laws

pub loop-c-preserved : goal.loop-c-preserved
loop-c-preserved c = search encoded-laws

pub returns : goal.returns
returns c = search encoded-laws
