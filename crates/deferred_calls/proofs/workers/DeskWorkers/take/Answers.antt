use Rattle.std.proofs.Common.{subst, ◌∷◌, IsPermutation, refl}
use Rattle.worker_crew.specs.Jobs.{job_of}
use Rattle.deferred_calls.specs.Desks.{out_of}
use Rattle.deferred_calls.proofs.DeskLemmas.{jobs}
use Rattle.deferred_calls.proofs.OutLemmas.{taken_out}
use Rattle.deferred_calls.proofs.workers.DeskWorkers.take.Goals as goal

pub returns-clause-out : goal.returns-clause-out
returns-clause-out g c = let d = c.self.inside in let rest = c.take_first.new.queue.items in
    subst (λ s. IsPermutation (out_of s) (job_of c.in_ok-parcel.parcel ∷ out_of (jobs d.jobs d.given d.waiting.items d.handled.items rest))) c.self.view_is
    (taken_out c.in_ok-parcel.parcel rest (jobs d.jobs d.given d.waiting.items d.handled.items d.answered.items) _ c.in_ok-parcel.ensures.items refl)
