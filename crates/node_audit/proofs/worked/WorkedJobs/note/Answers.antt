use Rattle.std.proofs.Common.{ℕ, ap, sym, ◌∙◌}
use Rattle.rpc_base.specs.declared.event.Event.TheVariants.{Worked}
use Rattle.node_audit.proofs.WorkedLemmas.{jobs-more}
use Rattle.node_audit.proofs.worked.WorkedJobs.note.Goals as goal

pub returns-in-Ok-clause-noted : goal.returns-in-Ok-clause-noted
returns-in-Ok-clause-noted c = λ g a.
    jobs-more c.args.self.now.jobs.keys g c.args.fact.now a c.session.inside.0 c.get.result c.insert.new.self.keys
    (c.in-Worked.is
    ∙ ap (λ (t : ℕ). Worked t c.in-Worked.request) (sym c.session.view_is)
    ∙ ap (Worked c.session.inside.0) (sym c.get.ensures.value))
    (λ t r. c.in-Ok.ensures.updates.0 (t, r))
