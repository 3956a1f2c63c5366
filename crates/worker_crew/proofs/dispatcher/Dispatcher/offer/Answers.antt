use Rattle.std.proofs.Common.{rules, arith, refl, sym, ap, ◌∙◌, ◌++◌, ◌∷◌, []}
use Rattle.worker_board.specs.declared.view.View.{View}
use Rattle.worker_board.specs.declared.view.End.TheVariants.{Open}
use Rattle.worker_board.specs.Word.{offer_of}
use Rattle.worker_crew.specs.Dispatching.{Dispatching, jobs_in}
use Rattle.worker_crew.specs.Jobs.{job_of}
use Rattle.worker_crew.proofs.PlacesLemmas.{closed-place, near, is-free, popped, given-now, jobs-now}
use Rattle.worker_crew.proofs.RoomLemmas.{fits-given}
use Rattle.worker_crew.proofs.TicketLemmas.{ticket-now}
use Rattle.worker_crew.proofs.dispatcher.Dispatcher.offer.Goals as goal

pub offer-ticket-requires-clause-place : goal.offer-ticket-requires-clause-place
offer-ticket-requires-clause-place g c =
    omega (
      arith,
      ap (λ b. b.places) c.deref.ensures,
      near _ _ _ _ _ _
          (popped c.in-Some.place c.pop.new.self.items c.self.invariant.1.kept c.pop.ensures.items c.in-Some.is),
    )

pub offer-ticket-requires-clause-free : goal.offer-ticket-requires-clause-free
offer-ticket-requires-clause-free g c = closed-place _ (is-free _ _ _ _ _ _
    (popped c.in-Some.place c.pop.new.self.items c.self.invariant.1.kept c.pop.ensures.items c.in-Some.is))

pub invariant_of-self : goal.invariant_of-self
invariant_of-self g c =
    let ledger = ap (λ (v : View). v.ledger) c.offer-ticket.ensures.view in
    let kept = popped c.in-Some.place c.pop.new.self.items c.self.invariant.1.kept
    c.pop.ensures.items c.in-Some.is in (
      search rules,
      record {
        kept = given-now c.in-Some.place c.pop.new.self.items (offer_of c.args.job Open) kept refl
            ledger c.push_reserved.ensures.items;
        fits = fits-given g.D.Duty.answer _ _ c.in-Some.place c.args.job c.self.invariant.1.fits
            c.requires.room ledger;
        all = search rules;
        rooms = search rules;
        few = search rules;
      },
    )

pub returns-clause-jobs : goal.returns-clause-jobs
returns-clause-jobs g c =
    jobs-now c.in-Some.place c.pop.new.self.items (offer_of c.args.job Open)
    (popped c.in-Some.place c.pop.new.self.items c.self.invariant.1.kept c.pop.ensures.items c.in-Some.is)
    (ap (λ (v : View). v.ledger) c.offer-ticket.ensures.view) c.push_reserved.ensures.items
    ∙ ap (λ (s : Dispatching). jobs_in s ++ job_of c.args.job ∷ []) c.self.view_is

pub returns-clause-ticket : goal.returns-clause-ticket
returns-clause-ticket g c =
    c.offer-ticket.ensures.ticket
    ∙ sym (ticket-now c.in-Some.place c.pop.new.self.items (offer_of c.args.job Open)
    (popped c.in-Some.place c.pop.new.self.items c.self.invariant.1.kept c.pop.ensures.items c.in-Some.is)
    (ap (λ (v : View). v.ledger) c.offer-ticket.ensures.view) c.push_reserved.ensures.items)
