use Rattle.std.proofs.Common.{sym}
use Rattle.server_core.specs.Session.{IsInTurn}
use Rattle.server_core.proofs.session.ServerSession.slot_row.Goals as goal
use Rattle.rpc_base.proofs.FirstLemmas.{found-holds}

pub row-requires : goal.row-requires
row-requires c = found-holds _ IsInTurn c.self.inside.slots c.in-Some.request
    c.self.invariant.in_turn (sym c.in-Some.ensures)
