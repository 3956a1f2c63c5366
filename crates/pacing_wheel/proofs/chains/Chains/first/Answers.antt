use Rattle.std.proofs.Common.{ap, sym, ◌∙◌, arith, Some}
use Rattle.pacing_wheel.specs.declared.chains.Link.{Link}
use Rattle.pacing_wheel.proofs.PopLemmas.{first-item}
use Rattle.pacing_wheel.proofs.chains.Chains.first.Goals as goal

pub returns : goal.returns
returns c =
    rw (← c.self.view_is) (ap (λ (x : Link). Some x.item) c.link_at.ensures
    ∙ sym (first-item c.self.inside.links.items c.self.inside.places.items c.args.place c.ends_at-ends.result
    c.ends_at-ends.ensures (omega (arith, c.if-ends-eq0.false))))
