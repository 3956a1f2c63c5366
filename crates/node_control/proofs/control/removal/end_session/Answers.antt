use Rattle.std.proofs.Common.{List, length, ap, ◌∙◌, arith}
use Rattle.rpc_laws.specs.declared.tables.Server.{Server}
use Rattle.node_steps.proofs.ControlRemoval.{ended-whole}
use Rattle.node_steps.proofs.PacketServers.{slice_get-some}
use Rattle.node_control.proofs.control.removal.end_session.Goals as goal

pub returns-clause-fewer : goal.returns-clause-fewer
returns-clause-fewer g c =
    omega (
      arith,
      c.remove_session.ensures.fewer,
      ap (λ (vs : List Server). length vs) c.flush_slots.ensures.step.rest.servers,
    )

pub returns-clause-step : goal.returns-clause-step
returns-clause-step g c = record {
  makes = let first = c.flush_slots.ensures in
      let last = c.remove_session.ensures in
      ended-whole g.R.Recorder.log c.args.i _ _ _ _ _ _ first.step.rest.servers first.step.rest.me
      first.step.makes last.step.makes (slice_get-some _ c.args.i c.requires.known);
  rest = let first = c.flush_slots.ensures in let last = c.remove_session.ensures in record {
    inbox = last.step.rest.inbox ∙ first.step.rest.inbox;
    jobs = last.step.rest.jobs ∙ first.step.rest.jobs;
    handed = last.step.rest.handed ∙ first.step.rest.handed;
  };
}
