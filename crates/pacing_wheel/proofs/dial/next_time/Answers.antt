use Rattle.std.proofs.Common.{ap, arith, sym, ◌∙◌, length}
use Rattle.pacing_wheel.specs.Chains.{list_at}
use Rattle.pacing_wheel.proofs.DialLemmas.{none-stand, pass-place}
use Rattle.pacing_wheel.proofs.dial.next_time.Goals as goal

pub returns-then-waiting-eq0-clause-turn : goal.returns-then-waiting-eq0-clause-turn
returns-then-waiting-eq0-clause-turn c =
    none-stand c.args.limit 0 c.args.chains.now.lists (c.requires.waiting ∙ c.if-waiting-eq0.true)

pub loop-time-preserved : goal.loop-time-preserved
loop-time-preserved c =
    let inv = c.loop-time.invariant in
    let ls = c.args.chains.now.lists in (
      pass-place c.loop-time.time ls inv.0 (ap (λ k. length (list_at ls k)) (sym c.place_of.ensures)
          ∙ (sym c.len_of.ensures ∙ c.if-len_of-eq0.true)),
      omega (arith, inv.1),
      omega (arith, c.loop-time-test.true),
    )
