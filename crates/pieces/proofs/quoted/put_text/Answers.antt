-- `pieces::quoted::put_text` meets its contract.
use Rattle.pieces.specs.Quoted.{quoted}
use Rattle.pieces.proofs.WritingLaws.{piece-laws}
use Rattle.pieces.proofs.quoted.put_text.Goals as goal

pub returns-in_err-a : goal.returns-in_err-a
unfolding quoted
returns-in_err-a c = search piece-laws

pub slice_bounds-put_chars_end-count : goal.slice_bounds-put_chars_end-count
slice_bounds-put_chars_end-count c = search piece-laws

pub slice_bounds-put_chars_end-start : goal.slice_bounds-put_chars_end-start
slice_bounds-put_chars_end-start c = search piece-laws

pub returns-in_err-k : goal.returns-in_err-k
unfolding quoted
returns-in_err-k c = search piece-laws

pub overflow_add-result : goal.overflow_add-result
overflow_add-result c = search piece-laws

pub returns : goal.returns
unfolding quoted
returns c = search piece-laws
