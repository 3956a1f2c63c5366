-- the job whose call is over is answered, and counted
use Rattle.std.proofs.Common.{◌+◌, [], ◌∙◌, ap, arith, inr, refl, subst, sym}
use Rattle.relays.proofs.RelayLemmas.{nobodys, relaying, settled-stands}
use Rattle.relays.specs.Relaying.{IsNobodys, Relaying, Stands}
use Rattle.relays.proofs.relays.Relays.settle.Goals as goal

pub returns-in_default-clause-settles : goal.returns-in_default-clause-settles
returns-in_default-clause-settles g c =
    let r = c.self.inside in
    let was = relaying r.jobs r.asked.items r.relayed r.here in
    inr (
      subst (λ (q : Relaying). IsNobodys c.args.done.now.tag q) c.self.view_is
          (nobodys c.args.done.now.tag c.place_of-place.result was c.place_of-place.ensures
          c.in_default.ensures.beyond),
      refl,
      ap (λ q. relaying r.jobs q.items r.relayed r.here) c.in_default.ensures.none ∙ c.self.view_is,
    )

pub returns-then-answer_by-clause-stands : goal.returns-then-answer_by-clause-stands
returns-then-answer_by-clause-stands g c =
    let r = c.self.inside in
    let was = relaying r.jobs r.asked.items r.relayed r.here in
    let later = relaying r.jobs c.take_at.new.asked.items (r.relayed + 1) r.here in
    settled-stands g.D.Duty.answer c.in-Some.handle c.args.desk.now c.answer_by.new.desk
    c.sound.ensures.sound c.answer_by.ensures.answers was later c.place_of-place.result
    c.in-Some.ensures.taken c.in-Some.ensures.others refl (omega arith)
    (subst (λ (q : Relaying). Stands c.args.desk.now [] q) (sym c.self.view_is) c.requires.stands)

pub returns-else-answer_by-clause-stands : goal.returns-else-answer_by-clause-stands
returns-else-answer_by-clause-stands g c =
    let r = c.self.inside in
    let was = relaying r.jobs r.asked.items r.relayed r.here in
    let later = relaying r.jobs c.take_at.new.asked.items r.relayed (r.here + 1) in
    settled-stands g.D.Duty.answer c.in-Some.handle c.args.desk.now c.answer_by.new.desk
    c.sound.ensures.sound c.answer_by.ensures.answers was later c.place_of-place.result
    c.in-Some.ensures.taken c.in-Some.ensures.others refl (omega arith)
    (subst (λ (q : Relaying). Stands c.args.desk.now [] q) (sym c.self.view_is) c.requires.stands)
