use Rattle.std.proofs.Common.{rules, refl, sym, subst, ap, ◌∙◌, ◌++◌, ◌∷◌, [], arith}
use Rattle.worker_crew.specs.Crews.{CrewState, KeepsTo}
use Rattle.worker_crew.specs.Dispatching.{Dispatching, jobs_in}
use Rattle.worker_crew.specs.Jobs.{job_of}
use Rattle.worker_crew.proofs.CrewLemmas.{keeps-given, waits-given, one-more}
use Rattle.worker_crew.proofs.crew.working.CrewWorkers.give.Goals as goal
use Rattle.worker_crew.proofs.crew.working.CrewWorkers.give.Goals.{in-Alone, in-ByHands}

pub invariant_of-self-in-ByHands : goal.invariant_of-self-in-ByHands
invariant_of-self-in-ByHands g c = (
  keeps-given c.offer-ticket.new.self c.put.new.dispatcher c.offer-ticket.result.place c.args.job _
      c.put.new.later.items c.self.invariant.0 c.offer-ticket.ensures.offered
      c.put.ensures.same c.put.ensures.few c.put.ensures.behind,
  search rules,
  omega (
    arith,
    c.self.invariant.2,
    ap (λ (s : Dispatching). s.places) c.offer-ticket.ensures.offered,
    ap (λ (s : Dispatching). s.places) c.put.ensures.same,
  ),
  search rules,
)

pub returns-clause-out : goal.returns-clause-out
returns-clause-out g c =
    let was = c.offer-ticket.ensures.jobs
    ∙ ap (λ (s : CrewState). jobs_in s.dispatching ++ job_of c.args.job ∷ []) c.self.view_is in
    elim c.match-self.branch [
      | in-Alone w ↦ one-more (job_of c.args.job)
          (ap (λ (s : CrewState). jobs_in s.dispatching) w.self-is ∙ was)
      | in-ByHands w ↦ one-more (job_of c.args.job)
          (ap (λ (s : CrewState). jobs_in s.dispatching) w.self-is
          ∙ ap jobs_in w.put.ensures.same ∙ was)
    ]

pub returns-clause-keeps : goal.returns-clause-keeps
returns-clause-keeps g c = elim c.match-self.branch [
  | in-Alone w ↦ subst KeepsTo (sym w.self-is)
      (keeps-given c.offer-ticket.new.self c.offer-ticket.new.self c.offer-ticket.result.place
      c.args.job _ c.self.inside.later.items c.self.invariant.0 c.offer-ticket.ensures.offered refl
      (omega arith)
      (waits-given c.offer-ticket.new.self c.offer-ticket.result.place c.args.job _
      c.self.invariant.0 c.offer-ticket.ensures.offered))
  | in-ByHands w ↦ subst KeepsTo (sym w.self-is)
      (keeps-given c.offer-ticket.new.self w.put.new.dispatcher c.offer-ticket.result.place c.args.job _
      w.put.new.later.items c.self.invariant.0 c.offer-ticket.ensures.offered
      w.put.ensures.same w.put.ensures.few w.put.ensures.behind)
]
