use Rattle.node_steps.proofs.LeavesSteps.{leaves-none}
use Rattle.std.proofs.Common.{sym, ◌∙◌}
use Rattle.rpc_base.specs.declared.event.Event.TheVariants.{ClosedUnheard, FailedNoAnswer}
use Rattle.node_steps.specs.Handed.{timed_of}
use Rattle.endpoint_node.specs.contracts.node.Node.{the_view}
use Rattle.node_steps.proofs.CallStates.{told-apart, told-closing, told-connecting, told-open}
use Rattle.node_steps.proofs.TimerRetries.{gives-up-by, gives-up-none, given-closing}
use Rattle.node_steps.proofs.TimerRetries.{given-connecting, known-at}
use Rattle.node_control.proofs.timers.retries.give_up.Goals as goal

pub returns-in_default : goal.returns-in_default
returns-in_default g c = record {
  makes = let xs = c.node.inside.store.clients in
      let x = known-at xs c.args.i (rw (← c.node.view_is) at c.requires.known) in
      let told = rw (x.1) at c.state.ensures in
      rw (← c.node.view_is) (gives-up-none g.R.Recorder.log c.args.i
      (timed_of (the_view c.node.inside)) _ x.0 x.1
      (told-apart x.0.state x.0.asked (λ same. c.in_default.not-Connecting (told ∙ same)))
      (told-open x.0.state x.0.asked (λ same. c.in_default.not-Closing (told ∙ same))));
  rest = leaves-none _;
}

pub returns-in-Connecting : goal.returns-in-Connecting
returns-in-Connecting g c = record {
  makes = let xs = c.node.inside.store.clients in
      let x = known-at xs c.args.i (rw (← c.node.view_is) at c.requires.known) in
      let told = rw (x.1) at c.state.ensures in
      let state = told-connecting x.0.state x.0.asked (sym told ∙ c.in-Connecting.is) in
      rw (← c.node.view_is) (gives-up-by g.R.Recorder.log c.args.i
      (timed_of (the_view c.node.inside)) _ _ _ x.0 (FailedNoAnswer c.args.i) x.1
      (given-connecting xs c.args.i x.0 x.1 c.node.invariant.0.kept.valid.numbered state)
      (rw (← c.node.view_is) at c.fail_unanswered.ensures.makes));
  rest = c.fail_unanswered.ensures.rest;
}

pub returns-in-Closing : goal.returns-in-Closing
returns-in-Closing g c = record {
  makes = let xs = c.node.inside.store.clients in
      let x = known-at xs c.args.i (rw (← c.node.view_is) at c.requires.known) in
      let told = rw (x.1) at c.state.ensures in
      let state = told-closing x.0.state x.0.asked (sym told ∙ c.in-Closing.is) in
      rw (← c.node.view_is) (gives-up-by g.R.Recorder.log c.args.i
      (timed_of (the_view c.node.inside)) _ _ _ x.0 (ClosedUnheard c.args.i) x.1
      (given-closing xs c.args.i x.0 x.1 c.node.invariant.0.kept.valid.numbered state)
      (rw (← c.node.view_is) at c.close_unheard.ensures.makes));
  rest = c.close_unheard.ensures.rest;
}
