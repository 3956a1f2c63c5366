use Rattle.std.proofs.Common.{◌≡◌, sym, ap, ap₂, ◌∙◌, ◌++◌, subst, List, IsPermutation}
use Rattle.std.proofs.lemmas.List.Sorted.{IsPermutation-trans}
use Rattle.place_queue.specs.declared.knows.Numbered.{Numbered}
use Rattle.place_queue.specs.Order.{AllTold}
use Rattle.worker_board.specs.Tickets.{OfferNo}
use Rattle.worker_crew.specs.Crews.{CrewState}
use Rattle.worker_crew.specs.Dispatching.{Dispatching, jobs_in}
use Rattle.worker_crew.specs.Jobs.{Job}
use Rattle.worker_crew.specs.Leaving.{jobs_of}
use Rattle.worker_crew.specs.Places.{jobs_at}
use Rattle.worker_crew.proofs.LeavingLemmas.{all-left-same, all-lost-same}
use Rattle.worker_crew.proofs.crew.Crew.stop.Goals as goal

pub collect_each-requires-clause-lost : goal.collect_each-requires-clause-lost
collect_each-requires-clause-lost g c =
    all-lost-same c.take_back_each.new.dispatcher c.settle.new.self
    (ap (λ (s : Dispatching). s.busy) c.settle.ensures.same ∙ c.take_in_each.ensures.jobs.busy)
    (ap (λ (s : Dispatching). s.view.ledger) c.settle.ensures.same ∙ c.take_in_each.ensures.jobs.ledger)
    (ap (λ (s : Dispatching). s.view.lost) c.settle.ensures.same ∙ c.take_in_each.ensures.jobs.lost)
    c.take_back_each.ensures.lost

pub collect_each-requires-clause-left : goal.collect_each-requires-clause-left
collect_each-requires-clause-left g c =
    all-left-same g.D.Duty.answer c.take_back_each.new.dispatcher.view c.settle.new.self.view
    c.take_back_each.new.left.items
    (ap (λ (s : Dispatching). s.view.ledger) c.settle.ensures.same ∙ c.take_in_each.ensures.jobs.ledger)
    c.take_back_each.ensures.left

pub returns-clause-jobs : goal.returns-clause-jobs
returns-clause-jobs g c =
    let same : jobs_in c.settle.new.self ≡ jobs_in c.take_back_each.new.dispatcher =
    ap jobs_in c.settle.ensures.same
    ∙ ap₂ jobs_at c.take_in_each.ensures.jobs.ledger c.take_in_each.ensures.jobs.busy in
    subst (λ (s : CrewState). IsPermutation (jobs_in s.dispatching)
    (jobs_of c.collect_each.new.left.items)) c.self.view_is
    (IsPermutation-trans (jobs_in c.self.inside.dispatcher)
    (jobs_of c.take_back_each.new.left.items ++ jobs_in c.settle.new.self)
    (jobs_of c.collect_each.new.left.items)
    (subst (λ (l : List Job). IsPermutation (jobs_in c.self.inside.dispatcher)
    (jobs_of c.take_back_each.new.left.items ++ l)) (sym same) c.take_back_each.ensures.out)
    c.collect_each.ensures.out)

pub returns-clause-tickets : goal.returns-clause-tickets
returns-clause-tickets g c =
    subst (λ (x : List OfferNo × List Numbered). AllTold x.0 x.1)
    (λ i. (sym c.collect_each.ensures.put i, sym c.collect_each.ensures.told i))
    c.settle.ensures.told
