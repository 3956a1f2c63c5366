use Rattle.std.proofs.Common.{sym, ◌∙◌}
use Rattle.rpc_base.proofs.TablesLemmas.{find-found, find-missing, without_first-found}
use Rattle.rpc_base.proofs.TablesLemmas.{without_first-missing}
use Rattle.node_steps.specs.Jobs.{is_named}
use Rattle.node_poll.proofs.jobs.take_job.Goals as goal

pub returns-in_default-clause-found : goal.returns-in_default-clause-found
returns-in_default-clause-found c =
    sym (find-missing (is_named c.args.session c.args.request) c.args.jobs.now.items
    (sym c.place_of_job.ensures ∙ c.in_default.is))

pub returns-in_default-clause-left : goal.returns-in_default-clause-left
returns-in_default-clause-left c =
    sym (without_first-missing (is_named c.args.session c.args.request) c.args.jobs.now.items
    (sym c.place_of_job.ensures ∙ c.in_default.is))

pub returns-clause-found : goal.returns-clause-found
returns-clause-found c =
    c.take_at.ensures.job ∙ sym (find-found (is_named c.args.session c.args.request)
    c.args.jobs.now.items c.in-Some.place (sym c.place_of_job.ensures ∙ c.in-Some.is))

pub returns-clause-left : goal.returns-clause-left
returns-clause-left c =
    c.take_at.ensures.others ∙ sym (without_first-found (is_named c.args.session c.args.request)
    c.args.jobs.now.items c.in-Some.place (sym c.place_of_job.ensures ∙ c.in-Some.is))
