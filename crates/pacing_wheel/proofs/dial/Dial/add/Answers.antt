use Rattle.std.proofs.Common.{◌≡◌, ◌+◌, ◌%◌, ap, ◌∙◌, arith, length}
use Rattle.pacing_wheel.specs.declared.pacer.Paced.{Paced}
use Rattle.pacing_wheel.specs.Wheel.{dial, together}
use Rattle.pacing_wheel.proofs.MergeLemmas.{length-added}
use Rattle.pacing_wheel.proofs.DialLemmas.{added-together, last-length, mod-small, stand-added}
use Rattle.pacing_wheel.proofs.dial.Dial.add.Goals as goal

pub invariant_of-self : goal.invariant_of-self
invariant_of-self c =
    let ls = c.self.inside.chains.lists in
    let cursor = c.self.inside.cursor in
    let p : Paced = record { due = c.args.due; entry = c.args.entry } in
    let i = c.place_of.result in
    let covers = (rw (← c.self.view_is) at c.requires.covers) in
    let room = (rw (← c.self.view_is) at c.requires.room) in
    let at : c.args.due % 4096 ≡ 0 + i = omega (arith, c.place_of.ensures) in
    let whole = c.self.invariant.3 (omega (arith, room)) in
    let full = added-together cursor 0 i c.args.due c.args.entry ls c.self.invariant.0 covers at
    (omega (arith, whole, c.place_of.ensures, mod-small c.args.due)) in
    rw c.push.ensures (
      stand-added cursor 0 i p ls c.self.invariant.0 (covers, at, c.ranges.due.fits),
      omega (arith, ap length full, length-added c.args.due c.args.entry (together ls), c.self.invariant.1),
      omega (arith, room, c.self.invariant.1, c.self.invariant.2),
      (λ some. last-length i p ls ∙ whole),
    )

pub returns : goal.returns
returns c =
    let ls = c.self.inside.chains.lists in
    let cursor = c.self.inside.cursor in
    let i = c.place_of.result in
    let covers = (rw (← c.self.view_is) at c.requires.covers) in
    let room = (rw (← c.self.view_is) at c.requires.room) in
    let at : c.args.due % 4096 ≡ 0 + i = omega (arith, c.place_of.ensures) in
    rw (← c.self.view_is, c.push.ensures) (ap (λ ps. dial cursor ps c.self.inside.size)
    (added-together cursor 0 i c.args.due c.args.entry ls c.self.invariant.0 covers at
    (omega (arith, c.self.invariant.3 (omega (arith, room)), c.place_of.ensures, mod-small c.args.due))))
