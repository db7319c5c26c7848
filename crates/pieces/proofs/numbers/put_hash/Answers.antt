-- `pieces::numbers::put_hash` meets its contract.
use Rattle.pieces.specs.Numeral.{hash_text}
use Rattle.pieces.proofs.WritingLaws.{piece-laws}
use Rattle.pieces.proofs.numbers.put_hash.Goals as goal

pub returns-in_err-a : goal.returns-in_err-a
unfolding hash_text
returns-in_err-a c = search piece-laws

pub slice_bounds-put_hex_end-count : goal.slice_bounds-put_hex_end-count
slice_bounds-put_hex_end-count c = search piece-laws

pub slice_bounds-put_hex_end-start : goal.slice_bounds-put_hex_end-start
slice_bounds-put_hex_end-start c = search piece-laws

pub returns-in_err-k : goal.returns-in_err-k
unfolding hash_text
returns-in_err-k c = search piece-laws

pub overflow_add-result : goal.overflow_add-result
overflow_add-result c = search piece-laws

pub returns : goal.returns
unfolding hash_text
returns c = search piece-laws
