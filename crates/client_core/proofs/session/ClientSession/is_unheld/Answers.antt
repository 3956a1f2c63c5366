use Rattle.std.proofs.Common.{sym}
use Rattle.client_core.specs.KeepsPool.{IsKept}
use Rattle.client_core.specs.Replies.{is_request}
use Rattle.client_core.proofs.session.ClientSession.is_unheld.Goals as goal
use Rattle.rpc_base.proofs.FirstLemmas.{found-holds}

pub refs-requires : goal.refs-requires
refs-requires c =
    (found-holds (is_request c.args.request) (IsKept c.args.pool.now) c.self.inside.calls
    c.in-Some.call (rw (← c.self.view_is) at c.requires.keeps_pool).kept
    (sym c.in-Some.ensures)).ask
