-- `printer::state::Printer::write` meets its contract.
use Rattle.printer.proofs.TextLaws.{said, room-for}
use Rattle.printer.proofs.StateLaws.{room-else}
use Rattle.printer.proofs.state.Printer.write.Goals as goal

pub settle-requires : goal.settle-requires
settle-requires g c = room-for c.args.self.now.out.now _ _ c.free-from.ensures.value (g.T.Text.piece c.args.piece) _ _ c.put-put.ensures c.free-from.ensures.room_bound c.free-from.ensures.written_bound

pub returns-clause-says : goal.returns-clause-says
returns-clause-says g c = said c.args.self.now.out.now _ _ c.free-from.ensures.value c.args.mode (g.T.Text.piece c.args.piece) _ _ c.put-put.ensures _ (room-else c.args.self.now.st.status c.is_full.ensures c.if-is_full.false) c.settle.ensures
