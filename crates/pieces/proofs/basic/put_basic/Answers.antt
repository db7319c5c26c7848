-- `pieces::basic::put_basic` meets its contract.
use Rattle.pieces.specs.Words.{ascii}
use Rattle.pieces.specs.Basic.{basic, among, name_in, is_basic, basic_name}
use Rattle.pieces.proofs.BasicLaws.{letters, letter-not, no_name, basic-laws}
use Rattle.pieces.proofs.basic.put_basic.Goals as goal

pub returns-in_default : goal.returns-in_default
returns-in_default c = search basic-laws

pub returns-then-k-tag : goal.returns-then-k-tag
unfolding is_basic among basic ascii
returns-then-k-tag c = no_name _ (letter-not _ c.place.ensures c.in-Some.is letters c.if-k-tag.true tt)

pub slice_bounds-put_run-end : goal.slice_bounds-put_run-end
slice_bounds-put_run-end c = search basic-laws

pub returns : goal.returns
unfolding basic_name name_in basic ascii
returns c = search basic-laws
