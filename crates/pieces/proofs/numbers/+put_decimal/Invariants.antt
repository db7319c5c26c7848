-- What falls in the recursion of `pieces::numbers::put_decimal`: the number.
use Rattle.pieces.proofs.numbers.+put_decimal.Given as goal

abbrev pub decreases-put_decimal : goal.decreases-put_decimal
decreases-put_decimal l = l.n
