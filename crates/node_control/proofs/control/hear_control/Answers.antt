use Rattle.std.proofs.Common.{ap, subst, ◌∙◌, rules}
use Rattle.std.specs.List.{AllByRecursion}
use Rattle.node_steps.specs.Fits.{IsSendable}
use Rattle.node_steps.specs.Handed.{Holding}
use Rattle.node_steps.specs.Inboxes.{IsFront}
use Rattle.node_steps.proofs.ControlSteps.{listens-said, listens-silent}
use Rattle.node_control.proofs.control.hear_control.Goals as goal

pub returns-in-None-clause-step : goal.returns-in-None-clause-step
returns-in-None-clause-step g c = record {
  listens = let first = rw c.in-Some.is at c.front.ensures.there in
      let front = subst (λ (n : Holding). IsFront n.lists.inbox c.in-Some.packet) c.node.view_is
      first in
      let handles = rw c.in-None.is at c.handle_control.ensures.handles in
      listens-silent g.R.Recorder.log g.L.Link c.in-Some.packet _ _ _ front _ _ _ handles;
  rest = c.handle_control.ensures.rest;
  lists = search rules;
}

pub returns-in-Some-handle_control-clause-step : goal.returns-in-Some-handle_control-clause-step
returns-in-Some-handle_control-clause-step g c = record {
  listens = let first = rw c.in-Some.is at c.front.ensures.there in
      let front = subst (λ (n : Holding). IsFront n.lists.inbox c.in-Some.packet) c.node.view_is
      first in
      let h = c.handle_control.ensures in
      let then = c.node-in-Some-handle_control in
      let sendable = subst (λ (n : Holding). AllByRecursion IsSendable n.lists.queued)
      then.view_is then.invariant.0.sendable in
      let me = ap (λ (n : Holding). n.lists.me) then.view_is ∙ h.rest.me in
      let handles = rw c.in-Some-handle_control.is at h.handles in
      let said = c.speak-went.ensures in
      rw (c.told_of.ensures, c.keep_life.ensures) (listens-said g.R.Recorder.log g.L.Link
      c.in-Some.packet _ _ _ front _ c.speak-went.result _ _ _ _ _ _ sendable me handles said.spoke
      said.cause said.busy said.went said.fault);
  rest = let rest = c.handle_control.ensures.rest in
      rw c.keep_life.ensures (record {
        ring = rest.ring;
        served = rest.served;
        me = rest.me;
        jobs = rest.jobs;
        handed = rest.handed;
      });
  lists = c.speak-went.ensures.lists;
}
