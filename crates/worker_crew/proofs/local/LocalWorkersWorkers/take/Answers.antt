use Rattle.std.proofs.Common.{subst, sym, map, IsPermutation, ◌∷◌, ◌++◌}
use Rattle.worker_crew.specs.Jobs.{job_of}
use Rattle.worker_crew.specs.Local.{out_of}
use Rattle.worker_crew.proofs.LocalLemmas.{comes-out}
use Rattle.worker_crew.proofs.local.LocalWorkersWorkers.take.Goals as goal

pub returns-clause-out : goal.returns-clause-out
returns-clause-out g c =
    let parcel = c.in_ok-parcel.parcel in
    let waiting = c.self.inside.waiting.items in
    let rest = c.take_first.new.queue.items in
    subst (λ s. IsPermutation (out_of s) (job_of parcel ∷ map job_of (waiting ++ rest))) c.self.view_is
    (subst (λ l. IsPermutation (map job_of (waiting ++ l))
    (job_of parcel ∷ map job_of (waiting ++ rest))) (sym c.in_ok-parcel.ensures.items)
    (comes-out job_of parcel waiting rest))
