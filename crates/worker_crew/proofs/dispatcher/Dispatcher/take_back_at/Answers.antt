use Rattle.std.proofs.Common.{rules, arith, refl, sym, ap, ◌∙◌, subst}
use Rattle.worker_board.specs.declared.view.View.{View}
use Rattle.worker_board.specs.declared.view.End.TheVariants.{TakenBack}
use Rattle.worker_crew.specs.Dispatching.{Dispatching, jobs_in, place_at}
use Rattle.worker_board.specs.Word.{IsOpen, offers_at}
use Rattle.worker_crew.specs.Jobs.{job_of}
use Rattle.worker_crew.proofs.PlacesLemmas.{offered-at, place-in, place-open, kept-now, jobs-left, offered-job}
use Rattle.worker_crew.proofs.RoomLemmas.{fits-ended, room-newest}
use Rattle.worker_crew.proofs.dispatcher.Dispatcher.take_back_at.Goals as goal

pub take_back-requires-clause-place : goal.take_back-requires-clause-place
take_back-requires-clause-place g c =
    omega (
      arith,
      ap (λ b. b.places) c.deref.ensures,
      place-in _ _ _ _ _ _ _ c.self.invariant.1.kept (search rules) c.index-place.ensures,
    )

pub take_back-requires-clause-offered : goal.take_back-requires-clause-offered
take_back-requires-clause-offered g c =
    place-open _ _ _ _ _ _ _ c.self.invariant.1.kept (search rules) c.index-place.ensures

pub invariant_of-self-2 : goal.invariant_of-self-2
invariant_of-self-2 g c =
    let ledger = ap (λ (v : View). v.ledger) c.in_ok-job.ensures.taken_back in (
      search rules,
      record {
        kept = kept-now c.args.i c.index-place.result.now TakenBack c.self.invariant.1.kept
            (search rules) c.index-place.ensures refl ledger c.push_reserved.ensures.items
            c.remove.ensures.items;
        fits = fits-ended g.D.Duty.answer _ _ c.index-place.result.now TakenBack
            c.self.invariant.1.fits ledger;
        all = search rules;
        rooms = search rules;
        few = search rules;
      },
    )

pub returns-clause-jobs : goal.returns-clause-jobs
returns-clause-jobs g c =
    ap jobs_in (sym c.self.view_is)
    ∙ jobs-left c.args.i c.index-place.result.now TakenBack (job_of c.in_ok-job.job)
    c.self.invariant.1.kept (search rules) c.index-place.ensures
    (offered-job _ c.in_ok-job.job c.in_ok-job.ensures.unworked)
    (ap (λ (v : View). v.ledger) c.in_ok-job.ensures.taken_back) c.remove.ensures.items

pub returns-clause-room : goal.returns-clause-room
returns-clause-room g c = room-newest g.D.Duty.answer c.in_ok-job.job _ c.in_ok-job.ensures.unworked
    (c.self.invariant.1.fits c.index-place.result.now)

pub returns-clause-offered : goal.returns-clause-offered
returns-clause-offered g c = subst (λ (s : Dispatching). IsOpen (offers_at s.view.ledger (place_at c.args.i s)))
    c.self.view_is (offered-at c.args.i c.self.invariant.1.kept (search rules))

pub returns-in_err-job-clause-offered : goal.returns-in_err-job-clause-offered
returns-in_err-job-clause-offered g c = subst (λ (s : Dispatching). IsOpen
    (offers_at s.view.ledger (place_at c.args.i s)))
    c.self.view_is (offered-at c.args.i c.self.invariant.1.kept (search rules))
