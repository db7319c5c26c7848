-- `pieces::words::put_word` meets its contract.
use Rattle.pieces.specs.Words.{words}
use Rattle.pieces.proofs.WordLaws.{number_laws}
use Rattle.pieces.proofs.words.put_word.Goals as goal

pub returns-then-k-lt52 : goal.returns-then-k-lt52
unfolding words
returns-then-k-lt52 c = search number_laws

pub returns-else-k-lt52 : goal.returns-else-k-lt52
returns-else-k-lt52 c = search number_laws
