use Rattle.std.proofs.Common.{◌≡◌, ◌∙◌, refl}
use Rattle.rpc_world.proofs.WorkingLemmas.{works-left, works-one-more, works-to-end}
use Rattle.rpc_world.proofs.working.work_all.Goals as goal

pub jobs-preserved : goal.jobs-preserved
jobs-preserved c = (
  c.jobs.invariant.0,
  c.jobs.invariant.1,
  works-one-more _ _ _ c.in-Some.named.0 c.in-Some.named.1 _ _ _ c.jobs.invariant.0 c.jobs.invariant.2
      (rw c.workers.ensures.value at c.in-Some.ensures.worked)
      (rw c.jobs.invariant.1 at c.note_work.ensures),
)

pub returns : goal.returns
returns c =
    let left : c.work.new.self ≡ c.jobs.working.workers =
    c.in_default.ensures.unchanged ∙ c.workers.ensures.value in
    works-left _ _ _ _ _ left
    (works-to-end _ _ _ _ c.jobs.invariant.2
    (rw c.workers.ensures.value at (c.in_default.ensures.none.0 refl)))
