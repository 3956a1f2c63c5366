use Rattle.std.proofs.Common.{ap, length, arith, refl}
use Rattle.node_steps.proofs.JobsCrew.{finished-long, finished-none, finished-turn, one-less}
use Rattle.node_steps.specs.Handed.{timed_of}
use Rattle.node_poll.proofs.jobs.finish_next.Goals as goal

pub returns-in_default-clause-step : goal.returns-in_default-clause-step
returns-in_default-clause-step g c = record {
  makes = finished-none g.R.Recorder.log g.W.Workers.answer _ _ _ _ _ _
      c.in_default.ensures.unchanged c.in_default.ensures.first;
  rest = record { clients = refl; served = λ mode all. all; background = λ mode all. all; handed = refl };
  waiting = c.in_default.ensures.waits;
  given = c.in_default.ensures.given;
  limit = c.in_default.ensures.limit;
  looks = c.in_default.ensures.looks;
  team = c.in_default.ensures.team;
}

pub returns-then-bytes-clause-step : goal.returns-then-bytes-clause-step
returns-then-bytes-clause-step g c = record {
  makes = finished-long g.R.Recorder.log g.W.Workers.answer _ _ _ _
      c.in-Some.finished _ c.sound.ensures.kept c.in-Some.ensures.out c.in-Some.ensures.answered.1
      c.in-Some.ensures.first _
      (λ most.
      let same = ap length c.bytes.ensures.message in omega (arith, most, c.if-bytes.true, same));
  rest = record { clients = refl; served = λ mode all. all; background = λ mode all. all; handed = refl };
  waiting = c.in-Some.ensures.waits;
  given = c.in-Some.ensures.given;
  limit = c.in-Some.ensures.limit;
  looks = c.in-Some.ensures.looks;
  team = c.in-Some.ensures.team;
}

pub returns-then-bytes-clause-fewer : goal.returns-then-bytes-clause-fewer
returns-then-bytes-clause-fewer g c = λ yes. one-less _ _ _ c.in-Some.ensures.out

pub returns-clause-step : goal.returns-clause-step
returns-clause-step g c = record {
  makes = finished-turn g.R.Recorder.log g.W.Workers.answer _ _ _ _
      c.in-Some.finished _ c.sound.ensures.kept c.in-Some.ensures.out c.in-Some.ensures.answered.1
      c.in-Some.ensures.first _ _ _ c.finish-went.result c.requires.room c.finish-went.ensures.done
      c.finish-went.ensures.jobs
      (λ no. (let none = c.finish-went.ensures.none no in (ap timed_of none.0, none.1, none.2)));
  rest = c.finish-went.ensures.rest;
  waiting = c.in-Some.ensures.waits;
  given = c.in-Some.ensures.given;
  limit = c.in-Some.ensures.limit;
  looks = c.in-Some.ensures.looks;
  team = c.in-Some.ensures.team;
}

pub returns-clause-fewer : goal.returns-clause-fewer
returns-clause-fewer g c = λ yes. one-less _ _ _ c.in-Some.ensures.out
