-- `pieces::quoted::put_escaped_end` meets its contract.
use Rattle.pieces.proofs.WritingLaws.{piece-laws}
use Rattle.pieces.proofs.quoted.put_escaped_end.Goals as goal

pub returns-in_err-a : goal.returns-in_err-a
returns-in_err-a c = search piece-laws

pub slice_bounds-put_byte-count : goal.slice_bounds-put_byte-count
slice_bounds-put_byte-count c = search piece-laws

pub slice_bounds-put_byte-start : goal.slice_bounds-put_byte-start
slice_bounds-put_byte-start c = search piece-laws

pub returns-in_err-k : goal.returns-in_err-k
returns-in_err-k c = search piece-laws

pub overflow_add-result : goal.overflow_add-result
overflow_add-result c = search piece-laws

pub returns : goal.returns
returns c = search piece-laws
