-- the job is answered, and counted
use Rattle.std.proofs.Common.{[], ◌∷◌, subst, sym}
use Rattle.relays.proofs.RelayLemmas.{here-stands, relaying}
use Rattle.relays.specs.Relaying.{Relaying, Stands}
use Rattle.relays.proofs.relays.Relays.work_here.Goals as goal

pub returns-clause-stands : goal.returns-clause-stands
returns-clause-stands g c =
    let r = c.self.inside in
    let was = relaying r.jobs r.asked.items r.relayed r.here in
    here-stands g.D.Duty.answer c.args.handle c.args.desk.now c.work_here.new.self
    c.sound.ensures.sound c.work_here.ensures.answers was
    (subst (λ (q : Relaying). Stands c.args.desk.now (c.args.handle ∷ []) q) (sym c.self.view_is)
    c.requires.stands)
