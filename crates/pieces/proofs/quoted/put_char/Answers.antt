-- `pieces::quoted::put_char` meets its contract.
use Rattle.pieces.proofs.QuotedLaws.{char-laws}
use Rattle.pieces.proofs.quoted.put_char.Goals as goal

pub returns-in_err-a : goal.returns-in_err-a
returns-in_err-a c = search char-laws

pub slice_bounds-put_escaped_end-count : goal.slice_bounds-put_escaped_end-count
slice_bounds-put_escaped_end-count c = search char-laws

pub slice_bounds-put_escaped_end-start : goal.slice_bounds-put_escaped_end-start
slice_bounds-put_escaped_end-start c = search char-laws

pub returns-in_err-k : goal.returns-in_err-k
returns-in_err-k c = search char-laws

pub overflow_add-result : goal.overflow_add-result
overflow_add-result c = search char-laws

pub returns : goal.returns
returns c = search char-laws
