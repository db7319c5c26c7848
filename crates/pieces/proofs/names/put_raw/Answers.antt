-- `pieces::names::put_raw` meets its contract.
use Rattle.pieces.specs.Names.{raw_name}
use Rattle.pieces.specs.Words.{ascii}
use Rattle.pieces.proofs.WritingLaws.{piece-laws}
use Rattle.pieces.proofs.names.put_raw.Goals as goal

pub returns-in_err-a : goal.returns-in_err-a
unfolding raw_name ascii
returns-in_err-a c = search piece-laws

pub slice_bounds-put_parts-count : goal.slice_bounds-put_parts-count
slice_bounds-put_parts-count c = search piece-laws

pub slice_bounds-put_parts-start : goal.slice_bounds-put_parts-start
slice_bounds-put_parts-start c = search piece-laws

pub returns-in_err-k : goal.returns-in_err-k
unfolding raw_name ascii
returns-in_err-k c = search piece-laws

pub overflow_add-result : goal.overflow_add-result
overflow_add-result c = search piece-laws

pub returns : goal.returns
unfolding raw_name ascii
returns c = search piece-laws
