-- `punycode::spell::next_char` meets its contract, where a delta is read.
use Rattle.punycode.proofs.TurnLaws.{turn_laws, turn-bad}
use Rattle.punycode.proofs.spell.next_char.Goals as goal

pub overflow_add-value : goal.overflow_add-value
overflow_add-value c = search (turn_laws, c.in_ok-delta.was)

pub adapt-requires-clause-delta_lt_limit : goal.adapt-requires-clause-delta_lt_limit
adapt-requires-clause-delta_lt_limit c = search (turn_laws, c.in_ok-delta.was)

pub returns-else-is_scalar : goal.returns-else-is_scalar
returns-else-is_scalar c = turn-bad c.args.name.now c.args.at c.args.n c.args.i c.args.bias c.args.len c.requires.le_len c.requires.len_bound _ c.read_delta.ensures c.in_ok-delta.was c.if-is_scalar.ensures
