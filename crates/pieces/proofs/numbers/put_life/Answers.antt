-- `pieces::numbers::put_life` meets its contract.
use Rattle.pieces.specs.Numeral.{life_text}
use Rattle.pieces.proofs.WritingLaws.{piece-laws}
use Rattle.pieces.proofs.numbers.put_life.Goals as goal

pub returns-in_err-a : goal.returns-in_err-a
unfolding life_text
returns-in_err-a c = search piece-laws

pub slice_bounds-put_depth-count : goal.slice_bounds-put_depth-count
slice_bounds-put_depth-count c = search piece-laws

pub slice_bounds-put_depth-start : goal.slice_bounds-put_depth-start
slice_bounds-put_depth-start c = search piece-laws

pub returns-in_err-k : goal.returns-in_err-k
unfolding life_text
returns-in_err-k c = search piece-laws

pub overflow_add-result : goal.overflow_add-result
overflow_add-result c = search piece-laws

pub returns : goal.returns
unfolding life_text
returns c = search piece-laws
