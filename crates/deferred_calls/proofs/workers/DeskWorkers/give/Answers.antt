use Rattle.std.proofs.Common.{rules, arith, subst, sym, ap, ◌∙◌, ◌∷◌, ◌+◌, ◌<◌, length, List, IsPermutation}
use Rattle.worker_crew.specs.Jobs.{job_of}
use Rattle.deferred_calls.specs.declared.job.Numbered.{Numbered}
use Rattle.deferred_calls.specs.Desks.{out_of}
use Rattle.deferred_calls.specs.Moves.{given_to}
use Rattle.deferred_calls.proofs.DeskLemmas.{jobs, sound_given}
use Rattle.deferred_calls.proofs.OutLemmas.{given_out}
use Rattle.deferred_calls.proofs.workers.DeskWorkers.give.Goals as goal

pub invariant_of-self : goal.invariant_of-self
invariant_of-self g c = let d = c.self.inside in
    let less : length d.waiting.items + length d.handled.items + length d.answered.items < d.jobs =
    subst (λ s. length s.waiting + length s.handled + length s.answered < s.limit) (sym c.self.view_is) (search rules) in (
      sound_given g.D.Duty.answer d.jobs d.given d.waiting.items c.put_behind.new.queue.items d.handled.items
          d.answered.items c.args.job c.self.invariant.0 c.requires.room less c.put_behind.ensures.items,
      omega (arith, c.self.invariant.1, c.put_behind.ensures.capacity),
      search rules,
      search rules,
    )

pub returns-clause-out : goal.returns-clause-out
returns-clause-out g c = let d = c.self.inside in
    subst (λ t. IsPermutation (job_of c.args.job ∷ out_of c.args.self.now) (out_of t))
    (sym (ap (λ (w : List Numbered). jobs d.jobs (d.given + 1) w d.handled.items d.answered.items) c.put_behind.ensures.items
    ∙ ap (given_to c.args.job) c.self.view_is))
    (given_out c.args.job c.args.self.now)
