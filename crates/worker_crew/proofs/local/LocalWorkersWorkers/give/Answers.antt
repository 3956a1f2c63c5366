use Rattle.std.proofs.Common.{subst, map, IsPermutation, ◌∷◌, ◌++◌}
use Rattle.worker_crew.specs.Jobs.{job_of}
use Rattle.worker_crew.specs.Local.{out_of}
use Rattle.worker_crew.proofs.LocalLemmas.{goes-in}
use Rattle.worker_crew.proofs.local.LocalWorkersWorkers.give.Goals as goal

pub returns-clause-out : goal.returns-clause-out
returns-clause-out g c =
    subst (λ s. IsPermutation (job_of c.args.job ∷ out_of s)
    (map job_of (c.put_last.new.queue.items ++ c.self.inside.worked.items))) c.self.view_is
    (goes-in job_of c.args.job c.self.inside.waiting.items c.self.inside.worked.items
    c.put_last.new.queue.items c.put_last.ensures.items)
