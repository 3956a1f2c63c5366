use Rattle.std.specs.Prelude.{slice_get}
use Rattle.rpc_laws.specs.GoBackN.{row_of}
use Rattle.rpc_laws.specs.declared.rows.TimerRow.TheVariants.{Breaks, RollsBack}
use Rattle.node_steps.proofs.DueLemmas.{breaks-not, rolls-not, row-late}
use Rattle.endpoint_node.proofs.node.Node.is_active_due.Goals as goal

pub returns-in-Waits : goal.returns-in-Waits
returns-in-Waits c = rw (← c.self.view_is) (rw c.in-Waits.is at c.timer.ensures)

pub returns-in-RollsBack : goal.returns-in-RollsBack
returns-in-RollsBack c =
    rw (← c.self.view_is) (row-late RollsBack rolls-not c.args.active.now.call
    (λ p. row_of c.args.at c.self.inside.limits.timeout c.args.i c.self.inside.store.queued p)
    (slice_get c.self.inside.store.clients c.args.i) (rw c.in-RollsBack.is at c.timer.ensures))

pub returns-in-Breaks : goal.returns-in-Breaks
returns-in-Breaks c =
    rw (← c.self.view_is) (row-late Breaks breaks-not c.args.active.now.call
    (λ p. row_of c.args.at c.self.inside.limits.timeout c.args.i c.self.inside.store.queued p)
    (slice_get c.self.inside.store.clients c.args.i) (rw c.in-Breaks.is at c.timer.ensures))
