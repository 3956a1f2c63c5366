use Rattle.std.proofs.Common.{refl, sym, ◌∙◌, rules}
use Rattle.rpc_base.specs.declared.event.Event.TheVariants.{Closing, NcloseBusy, NcloseState}
use Rattle.node_steps.specs.Handed.{timed_of}
use Rattle.endpoint_node.specs.contracts.node.Node.{the_view}
use Rattle.node_steps.proofs.SessionSteps.{closed-busy, closed-idle, closed-state}
use Rattle.node_steps.proofs.SessionSteps.{disconnects-as}
use Rattle.node_steps.proofs.SessionSteps.{notes-still}
use Rattle.endpoint_node.proofs.node.Node.disconnect.Goals as goal

pub returns-then-not-is_connected-clause-step : goal.returns-then-not-is_connected-clause-step
returns-then-not-is_connected-clause-step g c = record {
  makes = let event = NcloseState c.args.session c.state-state.result in
      let state = rw (← c.self.view_is) at c.state-state.ensures in
      rw (← c.self.view_is) (disconnects-as g.R.Recorder.log c.args.session
      (timed_of (the_view c.self.inside)) _ _ _ event
      (closed-state _ c.state-state.result c.args.session _ state
      (sym c.is_connected.ensures ∙ c.if-not-is_connected.true))
      (notes-still g.R.Recorder.log (timed_of (the_view c.self.inside)) _ _
      event (λ asks. refl) c.note.ensures));
  rest = search rules;
}

pub returns-then-calls-ne0-clause-step : goal.returns-then-calls-ne0-clause-step
returns-then-calls-ne0-clause-step g c = record {
  makes = let event = NcloseBusy c.args.session c.pending-calls.result in
      let state = rw (← c.self.view_is) at c.state-state.ensures in
      let calls = rw (← c.self.view_is) at c.pending-calls.ensures in
      rw (← c.self.view_is) (disconnects-as g.R.Recorder.log c.args.session
      (timed_of (the_view c.self.inside)) _ _ _ event
      (closed-busy _ c.state-state.result c.args.session _ c.pending-calls.result state calls
      (sym c.is_connected.ensures ∙ c.if-not-is_connected.false) c.if-calls-ne0.true)
      (notes-still g.R.Recorder.log (timed_of (the_view c.self.inside)) _ _
      event (λ asks. refl) c.note-then-calls-ne0.ensures));
  rest = search rules;
}

pub returns-clause-step : goal.returns-clause-step
returns-clause-step g c = record {
  makes = disconnects-as g.R.Recorder.log c.args.session
      (timed_of c.args.self.now) _ _ _ (Closing c.args.session)
      (closed-idle _ c.state-state.result c.args.session _ c.pending-calls.result
      c.state-state.ensures c.pending-calls.ensures
      (sym c.is_connected.ensures ∙ c.if-not-is_connected.false) c.if-calls-ne0.false)
      c.begin_closing.ensures.makes;
  rest = c.begin_closing.ensures.rest;
}
