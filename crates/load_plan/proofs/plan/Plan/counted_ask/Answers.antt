-- counting goes round at 256
use Rattle.std.proofs.Common.{◌≡◌, ap, arith, length, ◌∙◌}
use Rattle.load_plan.specs.Calls.{Calls}
use Rattle.load_plan.proofs.CountedLemmas.{length-counted, round-counted}
use Rattle.load_plan.proofs.plan.Plan.counted_ask.Goals as goal

pub returns-clause-bytes : goal.returns-clause-bytes
returns-clause-bytes c =
    let seed : c.self.inside.seed ≡ c.args.self.now.seed =
    ap (λ (k : Calls). k.seed) c.self.view_is in
    let asked = rw (c.from.ensures, c.from-values.ensures, seed) at c.counted_from.ensures in
    asked ∙ round-counted c.args.self.now.seed c.args.call c.args.self.now.size

pub returns-clause-most : goal.returns-clause-most
returns-clause-most c =
    let seed : c.self.inside.seed ≡ c.args.self.now.seed =
    ap (λ (k : Calls). k.seed) c.self.view_is in
    let size : c.self.inside.size ≡ c.args.self.now.size =
    ap (λ (k : Calls). k.size) c.self.view_is in
    let asked = rw (c.from.ensures, c.from-values.ensures, seed) at c.counted_from.ensures in
    let long = ap length asked ∙ length-counted _ c.args.self.now.size in
    let few = c.self.invariant.0 in
    omega (arith, long, size, few)
