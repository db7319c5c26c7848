-- `pieces::numbers::put_depth` meets its contract.
use Rattle.std.proofs.Common.{◌≤◌, arith}
use Rattle.pieces.proofs.NumeralLaws.{depth_laws}
use Rattle.pieces.proofs.numbers.put_depth.Goals as goal

pub returns-in_err-a : goal.returns-in_err-a
returns-in_err-a c = let deep : 26 ≤ c.args.depth = omega arith in search depth_laws

pub slice_bounds-put_decimal-count : goal.slice_bounds-put_decimal-count
slice_bounds-put_decimal-count c = search depth_laws

pub slice_bounds-put_decimal-start : goal.slice_bounds-put_decimal-start
slice_bounds-put_decimal-start c = search depth_laws

pub returns-in_err-k : goal.returns-in_err-k
returns-in_err-k c = let deep : 26 ≤ c.args.depth = omega arith in search depth_laws

pub returns : goal.returns
returns c = let deep : 26 ≤ c.args.depth = omega arith in search depth_laws

pub overflow_add-result : goal.overflow_add-result
overflow_add-result c = search depth_laws
