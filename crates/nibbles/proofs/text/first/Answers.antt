-- `nibbles::text::first` meets its contract, where the byte is in a range of its `match`.
use Rattle.nibbles.proofs.StepLaws.{first_laws}
use Rattle.nibbles.proofs.text.first.Goals as goal

pub returns-in-Some-192-to-223 : goal.returns-in-Some-192-to-223
returns-in-Some-192-to-223 c = search first_laws

pub returns-in-Some-224-to-239 : goal.returns-in-Some-224-to-239
returns-in-Some-224-to-239 c = search first_laws

pub returns-in-Some-240-to-247 : goal.returns-in-Some-240-to-247
returns-in-Some-240-to-247 c = search first_laws

pub returns-in_default : goal.returns-in_default
returns-in_default c = search first_laws

pub returns-in_default-2 : goal.returns-in_default-2
returns-in_default-2 c = search first_laws
