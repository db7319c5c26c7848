-- What the loop of `printer::state::Printer::binder` keeps.
use Rattle.std.proofs.Common.{◌≡◌}
use Rattle.printer.proofs.LeafLaws.{Binding}
use Rattle.printer.specs.Lay.{at}
use Rattle.printer.proofs.state.Printer.binder.Given as goal

abbrev pub invariant-loop-i : goal.invariant-loop-i
invariant-loop-i l = record {
  binding : Binding l.mode l.count l.n l.i (at l.initial.self) (at l.self);
  some : l.n ≡ 0 → ⊥;
  lent : l.self.out.ghost_name ≡ l.initial.self.out.ghost_name;
}
