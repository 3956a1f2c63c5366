-- one job after another is passed on
use Rattle.std.proofs.Common.{arith}
use Rattle.relay_steps.proofs.PassLemmas.{passes-more, passes-none, passes-stop}
use Rattle.relay_steps.specs.Passing.{relayed}
use Rattle.relay_steps.proofs.passing.pass_all.Goals as goal

pub jobs-init : goal.jobs-init
jobs-init g c = (
  c.requires.stands,
  passes-none g.V.Service g.D.Duty.answer g.R.Recorder.log
      (relayed c.args.endpoint.now c.args.relays.now) c.args.rec.now,
  omega arith,
)

pub jobs-preserved : goal.jobs-preserved
jobs-preserved g c = (
  c.in_ok-pass_on.ensures.stands,
  passes-more g.V.Service g.D.Duty.answer g.R.Recorder.log
      (relayed c.args.endpoint.now c.args.relays.now) (relayed c.jobs.endpoint c.jobs.relays)
      (relayed c.pass_on.new.endpoint c.pass_on.new.relays) c.next_handle.new.endpoint
      c.in-Some.handle c.args.rec.now c.jobs.rec c.pass_on.new.rec c.jobs.invariant.1
      c.in-Some.ensures.hands_out c.next_handle.ensures.others c.in_ok-pass_on.ensures.passes,
  omega (arith, c.jobs.invariant.2, c.in_ok-pass_on.ensures.cause),
)

pub returns-in_err-pass_on-clause-goes_on : goal.returns-in_err-pass_on-clause-goes_on
returns-in_err-pass_on-clause-goes_on g c =
    passes-stop g.V.Service g.D.Duty.answer g.R.Recorder.log
    (relayed c.args.endpoint.now c.args.relays.now) (relayed c.jobs.endpoint c.jobs.relays)
    c.next_handle.new.endpoint c.pass_on.new.endpoint c.in-Some.handle c.args.rec.now c.jobs.rec
    c.pass_on.new.rec c.jobs.invariant.1 c.in-Some.ensures.hands_out c.next_handle.ensures.others
    c.in_err-pass_on.ensures.wanting.0 c.in_err-pass_on.ensures.wanting.1
