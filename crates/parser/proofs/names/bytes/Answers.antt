-- `parser::names::bytes` meets its contract.
use native.Mathlib.Omega.{arith}
use Rattle.parser.proofs.NameLaws.{bytes-part, too-far}
use Rattle.parser.proofs.names.bytes.Goals.{then-a-s-via-then-a-s, then-a-s-via-else-a-s+then-n-s}
use Rattle.parser.proofs.names.bytes.Goals as goal

pub returns-then-a-s : goal.returns-then-a-s
returns-then-a-s c =
    too-far c.args.s.now c.args.at c.length_10.ensures c.in_ok-n.was c.eat-a.ensures
    (elim c.then-a-s.branch [ then-a-s-via-then-a-s w ↦ omega arith | then-a-s-via-else-a-s+then-n-s w ↦ omega arith ])

pub returns : goal.returns
returns c = bytes-part c.args.s.now c.args.at c.length_10.ensures c.in_ok-n.was c.eat-a.ensures (omega arith) (omega arith)
