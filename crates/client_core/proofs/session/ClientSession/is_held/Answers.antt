use Rattle.std.proofs.Common.{ap, sym, ◌∙◌}
use Rattle.client_core.proofs.EntryLemmas.{placed-full}
use Rattle.client_core.proofs.session.ClientSession.is_held.Goals as goal

pub refs-requires : goal.refs-requires
refs-requires c =
    placed-full c.args.pool.now c.args.self.now c.args.entry.now c.in-Some.place
    c.requires.keeps_pool c.requires.posted
    (sym (ap (λ e. e.place) c.entry.view_is) ∙ c.in-Some.is)
