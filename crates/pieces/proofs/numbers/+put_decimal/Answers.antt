-- `pieces::numbers::put_decimal` meets its contract.
use Rattle.pieces.proofs.NumeralLaws.{decimal-laws}
use Rattle.pieces.proofs.numbers.+put_decimal.Goals as goal

pub returns-then-n-lt10 : goal.returns-then-n-lt10
returns-then-n-lt10 t c = search decimal-laws

pub returns-in_err-at : goal.returns-in_err-at
returns-in_err-at t c = search decimal-laws

pub slice_bounds-put_byte-count : goal.slice_bounds-put_byte-count
slice_bounds-put_byte-count t c = search decimal-laws

pub slice_bounds-put_byte-start : goal.slice_bounds-put_byte-start
slice_bounds-put_byte-start t c = search decimal-laws

pub returns-in_err-k : goal.returns-in_err-k
returns-in_err-k t c = search decimal-laws

pub overflow_add-result : goal.overflow_add-result
overflow_add-result t c = search decimal-laws

pub returns : goal.returns
returns t c = search decimal-laws
