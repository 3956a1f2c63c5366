use Rattle.std.proofs.Common.{◌==◌, ◌∙◌, not, sym, ap}
use Rattle.std.specs.List.{filter}
use Rattle.rpc_base.proofs.FirstLemmas.{none-counted}
use Rattle.rpc_base.proofs.TablesLemmas.{any-missing, without_first-found}
use Rattle.rpc_laws.specs.declared.tables.WorkedJob.{WorkedJob}
use Rattle.rpc_world.proofs.LeftLemmas.{left-one}
use Rattle.work_laws.proofs.FilterLemmas.{none-filtered}
use Rattle.rpc_world.proofs.finished.leave_out.Goals as goal

pub jobs-preserved : goal.jobs-preserved
jobs-preserved c =
    let is = without_first-found _ _ _ (sym c.in-Some.ensures) in
    ap (filter (λ (w : WorkedJob). not (w.node == c.args.node))) (c.remove_at-job.ensures.list ∙ sym is)
    ∙ (left-one (λ (w : WorkedJob). w.node == c.args.node) c.jobs.worked ∙ c.jobs.invariant)

pub returns : goal.returns
returns c =
    let none = none-counted (λ (w : WorkedJob). w.node == c.args.node) c.jobs.worked
    (any-missing (λ (w : WorkedJob). w.node == c.args.node) c.jobs.worked (sym c.in_default.ensures)) in
    sym (none-filtered (λ (w : WorkedJob). w.node == c.args.node) c.jobs.worked none) ∙ c.jobs.invariant
