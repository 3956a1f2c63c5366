use Rattle.std.proofs.Common.{◌≤◌, ◌-◌}
use Rattle.rpc_laws.specs.ControlSteps.{TimesSession}
use Rattle.rpc_laws.specs.Steps.{Visits}
use Rattle.rpc_outside.specs.Linking.{NoneComes}
use Rattle.node_steps.specs.Timers.{MakesTimes}
use Rattle.node_steps.specs.Handed.{timed_of}
use Rattle.node_steps.specs.Leaves.{LeavesTimed}
use Rattle.node_steps.specs.Changes.{◌⟶◌}
use Rattle.node_control.proofs.timers.watch.Given as goal

abbrev pub invariant-sessions : goal.invariant-sessions
invariant-sessions g l = record {
  timed : MakesTimes g.R.Recorder.log g.K.Continuation.given g.L.Link
      (Visits (TimesSession l.timeout) l.from) l.told (timed_of l.initial.node ⟶ timed_of l.node)
      (l.initial.rec ⟶ l.rec) (l.initial.k ⟶ l.k) (l.initial.link ⟶ l.link);
  rest : LeavesTimed g.K.Continuation.given l.initial.node l.node l.initial.k l.k;
  within : l.from ≤ l.count;
  lists : NoneComes g.L.Link.waiting g.L.Link.received l.initial.link l.link;
  few : l.told.sent ≤ l.from;
}

abbrev pub decreases-sessions : goal.decreases-sessions
decreases-sessions g l = l.count - l.from
