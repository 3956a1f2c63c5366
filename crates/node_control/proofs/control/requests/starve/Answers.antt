use Rattle.std.proofs.Common.{refl}
use Rattle.rpc_base.specs.declared.event.Event.TheVariants.{Starved}
use Rattle.rpc_laws.specs.declared.rows.ControlRow.TheVariants.{Starves}
use Rattle.node_steps.specs.Handed.{timed_of}
use Rattle.endpoint_node.specs.contracts.node.Node.{the_view}
use Rattle.node_steps.proofs.ControlRows.{acts-told}
use Rattle.node_control.proofs.control.requests.starve.Goals as goal

pub returns : goal.returns
returns g c =
    rw (← c.node.view_is) (acts-told g.R.Recorder.log c.args.rec.now c.note.new.self c.args.peer
    c.args.head.now Starves (timed_of (the_view c.node.inside))
    (Starved c.args.peer c.args.head.now.client c.args.head.now.credits) (λ asks. refl)
    (λ asks. refl) c.note.ensures)
