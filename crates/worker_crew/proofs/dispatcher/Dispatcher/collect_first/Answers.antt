use Rattle.std.proofs.Common.{rules, refl, sym, ap, ap₂, ◌∙◌}
use Rattle.worker_board.specs.declared.view.End.TheVariants.{Collected}
use Rattle.worker_crew.specs.Dispatching.{Dispatching, place_at}
use Rattle.worker_crew.specs.Jobs.{job_of}
use Rattle.worker_crew.specs.Places.{jobs_at}
use Rattle.worker_crew.proofs.PlacesLemmas.{left-one}
use Rattle.worker_crew.proofs.RoomLemmas.{none-back-ended, none-back-same}
use Rattle.worker_crew.proofs.TicketLemmas.{found-more}
use Rattle.worker_crew.proofs.dispatcher.Dispatcher.collect_first.Goals as goal

pub returns-in-Some-clause-out : goal.returns-in-Some-clause-out
returns-in-Some-clause-out g c =
    left-one c.loop-i.i (job_of c.in-Some.job)
    (sym (ap₂ jobs_at c.loop-i.invariant.ledger c.loop-i.invariant.busy) ∙ c.in-Some.ensures.jobs)

pub returns-in-Some-clause-none_back : goal.returns-in-Some-clause-none_back
returns-in-Some-clause-none_back g c = λ none.
    let now = c.in-Some.ensures.collected in
    none-back-ended {v = c.loop-i.self.view} (place_at c.loop-i.i c.loop-i.self) Collected refl
    (ap (λ (s : Dispatching). s.view.ledger) now) (ap (λ (s : Dispatching). s.view.lost) now)
    (none-back-same c.loop-i.invariant.ledger c.loop-i.invariant.lost none)

pub loop-i-preserved : goal.loop-i-preserved
loop-i-preserved g c = found-more _ c.loop-i.self c.collect_at.new.self c.loop-i.i
    (search rules) c.loop-i.invariant c.in_default.ensures.missed
