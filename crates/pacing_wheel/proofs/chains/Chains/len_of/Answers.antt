use Rattle.std.proofs.Common.{ap, sym, ◌∙◌}
use Rattle.pacing_wheel.specs.declared.chains.Ends.{Ends}
use Rattle.pacing_wheel.proofs.PopLemmas.{length-at}
use Rattle.pacing_wheel.proofs.chains.Chains.len_of.Goals as goal

pub returns : goal.returns
returns c =
    rw (← c.self.view_is) (ap (λ (e : Ends). e.len) c.ends_at.ensures
    ∙ sym (length-at c.self.inside.links.items c.self.inside.places.items c.args.place))
