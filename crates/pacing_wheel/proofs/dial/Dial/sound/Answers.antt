use Rattle.std.proofs.Common.{arith, ◌≤◌}
use Rattle.pacing_wheel.specs.Wheel.{together, Covers}
use Rattle.pacing_wheel.proofs.MergeLemmas.{ordered}
use Rattle.pacing_wheel.proofs.DialLemmas.{all-together, each-in-order, together-in-order}
use Rattle.pacing_wheel.proofs.dial.Dial.sound.Goals as goal

pub returns-clause-sorted : goal.returns-clause-sorted
returns-clause-sorted c =
    let ls = c.self.inside.chains.lists in
    rw (← c.self.view_is) (ordered (together ls) (together-in-order ls
    (each-in-order c.self.inside.cursor 0 ls c.self.invariant.0)))

pub returns-clause-inside : goal.returns-clause-inside
returns-clause-inside c =
    let cursor = c.self.inside.cursor in
    rw (← c.self.view_is) (all-together (λ p. Covers cursor p.due) cursor 0 c.self.inside.chains.lists
    (λ j p low s. s.0) c.self.invariant.0)

pub returns-clause-fits : goal.returns-clause-fits
returns-clause-fits c =
    rw (← c.self.view_is) (all-together (λ p. p.due ≤ 18446744073709551615) c.self.inside.cursor 0
    c.self.inside.chains.lists (λ j p low s. omega (arith, s.2)) c.self.invariant.0)
