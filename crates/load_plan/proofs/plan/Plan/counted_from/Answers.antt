-- a part of the counted bytes
use Rattle.std.proofs.Common.{◌≡◌, ◌+◌, ◌-◌, ◌%◌, take, drop, ap, refl, arith}
use Rattle.load_plan.specs.Calls.{Calls, counted_from}
use Rattle.load_plan.proofs.CountedLemmas.{part-counted}
use Rattle.load_plan.proofs.plan.Plan.counted_from.Goals as goal

pub returns : goal.returns
returns c =
    let first = c.args.first in
    let size = c.self.inside.size in
    let total = c.self.inside.counted.items in
    let part : take size (drop (first % 256) total) ≡ counted_from first size =
    part-counted first size total c.self.invariant.3 in
    let shown : size ≡ c.args.self.now.size = ap (λ (k : Calls). k.size) c.self.view_is in
    let many : first % 256 + size - first % 256 ≡ size = omega arith in
    rw (c.from.ensures, c.deref.ensures.value, many, part, shown) refl
