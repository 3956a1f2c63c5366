use Rattle.std.proofs.Common.{rules, arith, refl, sym, ap, ◌∙◌, ◌≡◌, ℕ, subst}
use Rattle.worker_board.specs.declared.view.View.{View}
use Rattle.worker_board.specs.declared.view.End.TheVariants.{Collected}
use Rattle.worker_crew.specs.Dispatching.{Dispatching, jobs_in, place_at}
use Rattle.worker_board.specs.Word.{IsOpen, offers_at}
use Rattle.worker_crew.specs.Jobs.{job_of}
use Rattle.worker_crew.proofs.PlacesLemmas.{read-at, offered-at, place-in, place-open, kept-now, jobs-left, same-job}
use Rattle.worker_crew.specs.Places.{newest_job}
use Rattle.worker_crew.proofs.RoomLemmas.{fits-ended}
use Rattle.worker_crew.proofs.dispatcher.Dispatcher.collect_at.Goals as goal

pub collect-requires-clause-place : goal.collect-requires-clause-place
collect-requires-clause-place g c =
    omega (
      arith,
      ap (λ b. b.places) c.deref.ensures,
      place-in _ _ _ _ _ _ _ c.self.invariant.1.kept (search rules) c.index-place.ensures,
    )

pub collect-requires-clause-offered : goal.collect-requires-clause-offered
collect-requires-clause-offered g c =
    place-open _ _ _ _ _ _ _ c.self.invariant.1.kept (search rules) c.index-place.ensures

pub invariant_of-self-2 : goal.invariant_of-self-2
invariant_of-self-2 g c =
    let ledger = ap (λ (v : View). v.ledger) c.in_ok-job.ensures.collected in (
      search rules,
      record {
        kept = kept-now c.args.i c.index-place.result.now Collected c.self.invariant.1.kept
            (search rules) c.index-place.ensures refl ledger c.push_reserved.ensures.items
            c.remove.ensures.items;
        fits = fits-ended g.D.Duty.answer _ _ c.index-place.result.now Collected
            c.self.invariant.1.fits ledger;
        all = search rules;
        rooms = search rules;
        few = search rules;
      },
    )

pub returns-clause-jobs : goal.returns-clause-jobs
returns-clause-jobs g c =
    ap jobs_in (sym c.self.view_is)
    ∙ jobs-left c.args.i c.index-place.result.now Collected (job_of c.in_ok-job.job)
    c.self.invariant.1.kept (search rules) c.index-place.ensures
    (same-job _ c.in_ok-job.job c.in_ok-job.ensures.answered.0)
    (ap (λ (v : View). v.ledger) c.in_ok-job.ensures.collected) c.remove.ensures.items

pub returns-clause-offered : goal.returns-clause-offered
returns-clause-offered g c = subst (λ (s : Dispatching). IsOpen (offers_at s.view.ledger (place_at c.args.i s)))
    c.self.view_is (offered-at c.args.i c.self.invariant.1.kept (search rules))

pub returns-in_err-job-clause-offered : goal.returns-in_err-job-clause-offered
returns-in_err-job-clause-offered g c = subst (λ (s : Dispatching). IsOpen
    (offers_at s.view.ledger (place_at c.args.i s)))
    c.self.view_is (offered-at c.args.i c.self.invariant.1.kept (search rules))

pub returns-clause-job : goal.returns-clause-job
returns-clause-job g c =
    subst (λ (s : Dispatching). newest_job (offers_at s.view.ledger (place_at c.args.i s)) ≡ job_of c.in_ok-job.job)
    c.self.view_is
    (subst (λ (p : ℕ). newest_job (offers_at c.self.inside.seat.seat.me.0.ledger p) ≡ job_of c.in_ok-job.job)
    (read-at c.self.inside.busy.items c.args.i c.index-place.result.now (search rules) c.index-place.ensures)
    (same-job _ c.in_ok-job.job c.in_ok-job.ensures.answered.0))
