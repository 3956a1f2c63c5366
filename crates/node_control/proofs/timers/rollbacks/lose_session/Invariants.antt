use Rattle.std.proofs.Common.{length, List}
use Rattle.std.specs.Prelude.{slice_get}
use Rattle.rpc_laws.specs.declared.tables.Call.{Call}
use Rattle.session_store.specs.Changes.{calls_in}
use Rattle.node_steps.specs.Timers.{HasLost}
use Rattle.node_steps.specs.Steps.{LeavesLost}
use Rattle.node_steps.specs.Changes.{◌⟶◌}
use Rattle.node_control.proofs.timers.rollbacks.lose_session.Given as goal

abbrev pub invariant-calls : goal.invariant-calls
invariant-calls g l =
    record {
      lost : (left : List Call) × HasLost g.R.Recorder.log g.K.Continuation.given l.me l.i left
          (l.fn.store.clients ⟶ l.store.clients) (l.fn.rec ⟶ l.rec) (l.fn.k ⟶ l.k);
      rest : LeavesLost g.K.Continuation.given (l.fn.store ⟶ l.store) (l.fn.k ⟶ l.k);
    }

abbrev pub decreases-calls : goal.decreases-calls
decreases-calls g l = length (calls_in (slice_get l.store.clients l.i))
