use Rattle.std.proofs.Common.{sym}
use Rattle.server_core.specs.KeepsPool.{IsKept}
use Rattle.server_core.specs.Session.{is_in_slot}
use Rattle.server_core.proofs.session.ServerSession.is_unheld.Goals as goal
use Rattle.rpc_base.proofs.FirstLemmas.{found-holds}

pub is_unheld-requires : goal.is_unheld-requires
is_unheld-requires c =
    found-holds (is_in_slot c.slot.result) (IsKept c.args.pool.now) c.self.inside.slots
    c.in-Some.newest (rw (← c.self.view_is) at c.requires.keeps_pool).kept
    (sym c.in-Some.ensures)
