-- the ends of calls are settled, one after another
use Rattle.std.proofs.Common.{refl}
use Rattle.relay_turns.proofs.TurnLemmas.{none-left, settled-end, settled-next, with-twice}
use Rattle.relay_turns.proofs.turn.settle_all.Goals as goal

pub ends-init : goal.ends-init
ends-init g c = (c.requires.stands, refl, λ last end does. does)

pub ends-preserved : goal.ends-preserved
ends-preserved g c =
    let i = c.ends.invariant in (
      c.settle_one.ensures.stands,
      with-twice c.args.endpoint.now c.ends.endpoint c.settle_one.new.endpoint i.1
          c.settle_one.ensures.others,
      settled-next g.D.Duty.answer c.args.ended.now.dones.items c.ends.ended.dones.items
          c.take.new.self.dones.items c.in-Some.done c.args.endpoint.now.workers
          c.ends.endpoint.workers c.settle_one.new.endpoint.workers c.args.relays.now
          c.ends.relays c.settle_one.new.relays c.in-Some.ensures.items i.2
          c.settle_one.ensures.settles c.settle_one.ensures.stands,
    )

pub returns-clause-settles : goal.returns-clause-settles
returns-clause-settles g c =
    settled-end g.D.Duty.answer c.args.ended.now.dones.items c.ends.ended.dones.items
    c.args.endpoint.now.workers c.ends.endpoint.workers c.args.relays.now c.ends.relays
    (none-left c.take.result c.ends.ended.dones.items c.take.new.self.dones.items c.in_default.is
    c.take.ensures.items c.take.ensures.rest) c.ends.invariant.2
