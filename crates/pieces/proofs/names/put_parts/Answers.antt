-- `pieces::names::put_parts` meets its contract.
use Rattle.pieces.proofs.NameLaws.{parts_laws}
use Rattle.pieces.proofs.names.put_parts.Goals as goal

pub returns-in_err-a : goal.returns-in_err-a
returns-in_err-a c = search parts_laws

pub slice_bounds-put_run_end-count : goal.slice_bounds-put_run_end-count
slice_bounds-put_run_end-count c = search parts_laws

pub slice_bounds-put_run_end-start : goal.slice_bounds-put_run_end-start
slice_bounds-put_run_end-start c = search parts_laws

pub returns-in_err-k : goal.returns-in_err-k
returns-in_err-k c = search parts_laws

pub overflow_add-result : goal.overflow_add-result
overflow_add-result c = search parts_laws

pub returns : goal.returns
returns c = search parts_laws
