-- `pieces::words::Word::lay` meets its contract.
use Rattle.pieces.specs.Words.{ascii, word_at}
use Rattle.pieces.proofs.WordLaws.{word_laws}
use Rattle.pieces.proofs.words.Word.lay.Goals as goal

pub returns-in-Some : goal.returns-in-Some
returns-in-Some c = search word_laws

pub returns-in-Invalid : goal.returns-in-Invalid
unfolding word_at ascii
returns-in-Invalid c = search word_laws

pub returns-in-Deep : goal.returns-in-Deep
unfolding word_at ascii
returns-in-Deep c = search word_laws

pub returns-in_default-self : goal.returns-in_default-self
unfolding word_at ascii
returns-in_default-self c = search word_laws
