-- the ends of calls are settled, and then the jobs that wait are passed on
use Rattle.std.proofs.Common.{[]}
use Rattle.relay_steps.proofs.PassLemmas.{after-none}
use Rattle.relay_turns.proofs.TurnLemmas.{on-both, past-settled, relays-all}
use Rattle.server_core.proofs.FlushLemmas.{grew-none}
use Rattle.relay_turns.proofs.turn.relay_all.Goals as goal

pub returns-clause-relays : goal.returns-clause-relays
returns-clause-relays g c =
    on-both c.pass_all.result c.pass_all.ensures.passes c.pass_all.ensures.stands
    (λ passes stands.
    relays-all g.R.Recorder.log g.V.Service g.D.Duty.answer c.args.ended.now.dones.items
    c.args.endpoint.now c.numbers.new.endpoint c.args.relays.now c.settle_all.new.endpoint
    c.pass_all.new.endpoint c.settle_all.new.relays c.pass_all.new.relays c.args.rec.now
    c.pass_all.new.rec c.numbers.ensures.same c.settle_all.ensures.others
    c.settle_all.ensures.settles c.numbers.ensures.numbers passes stands)

pub returns-clause-goes_on : goal.returns-clause-goes_on
returns-clause-goes_on g c =
    past-settled g.R.Recorder.log g.V.Service g.D.Duty.answer c.args.ended.now.dones.items
    c.args.endpoint.now c.numbers.new.endpoint c.args.relays.now c.settle_all.new.endpoint
    c.pass_all.new.endpoint c.settle_all.new.relays c.pass_all.new.relays c.args.rec.now
    c.pass_all.new.rec c.numbers.ensures.same c.settle_all.ensures.others
    c.settle_all.ensures.settles c.pass_all.ensures.goes_on

pub returns-in_err-check-clause-goes_on : goal.returns-in_err-check-clause-goes_on
returns-in_err-check-clause-goes_on g c = rw c.numbers.ensures.same (record {
  noted = [];
  grew = grew-none g.R.Recorder.log c.args.rec.now;
  stands = after-none g.V.Service g.D.Duty.answer c.args.endpoint.now;
})
