-- a job whose call is refused is answered here
use Rattle.relay_steps.proofs.PassLemmas.{passes-here}
use Rattle.relay_steps.specs.Passing.{relayed}
use Rattle.relay_steps.proofs.passing.pass_on.Goals as goal

pub returns-in-Err-TooLarge : goal.returns-in-Err-TooLarge
returns-in-Err-TooLarge g c = record {
  stands = c.work_job.ensures.stands;
  passes = passes-here g.V.Service g.D.Duty.answer g.R.Recorder.log c.args.handle
      (relayed c.args.endpoint.now c.args.relays.now) c.ask_job.new.endpoint
      c.work_job.new.endpoint c.work_job.new.relays c.args.rec.now c.ask_job.new.rec
      (c.in-Err-TooLarge.ensures.refused (λ e. cc)) c.in-Err-TooLarge.ensures.unchanged
      c.work_job.ensures.others c.work_job.ensures.answers c.work_job.ensures.counted;
  wanting = tt;
  cause = c.in-Err-TooLarge.ensures.cause.no_less;
}

pub returns-in-Err-NotConnected : goal.returns-in-Err-NotConnected
returns-in-Err-NotConnected g c = record {
  stands = c.work_job-in-Err-NotConnected.ensures.stands;
  passes = passes-here g.V.Service g.D.Duty.answer g.R.Recorder.log c.args.handle
      (relayed c.args.endpoint.now c.args.relays.now) c.ask_job.new.endpoint
      c.work_job-in-Err-NotConnected.new.endpoint c.work_job-in-Err-NotConnected.new.relays
      c.args.rec.now c.ask_job.new.rec
      (c.in-Err-NotConnected.ensures.refused (λ e. cc)) c.in-Err-NotConnected.ensures.unchanged
      c.work_job-in-Err-NotConnected.ensures.others c.work_job-in-Err-NotConnected.ensures.answers
      c.work_job-in-Err-NotConnected.ensures.counted;
  wanting = tt;
  cause = c.in-Err-NotConnected.ensures.cause.no_less;
}
