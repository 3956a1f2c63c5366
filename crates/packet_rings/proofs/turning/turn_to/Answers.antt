use Rattle.std.proofs.Common.{◌≡◌, ◌<◌, ◌++◌, length, drop, take, true, false, slice_get, arith}
use Rattle.packet_rings.specs.Entries.{is_entry, option_is}
use Rattle.packet_rings.proofs.TurningLemmas.{turn-step, passed-here, passed-later}
use Rattle.packet_rings.proofs.turning.turn_to.Goals as goal

pub returns-then-is_in_front-clause-before : goal.returns-then-is_in_front-clause-before
returns-then-is_in_front-clause-before c =
    let p = is_entry c.args.owner.now c.args.number in
    let xs = c.args.entries.now.items in
    let within : c.loop-i.i < length xs = omega arith in
    let here : option_is p (slice_get (drop c.loop-i.i xs ++ take c.loop-i.i xs) 0) ≡ true = cc in
    omega (arith, passed-here p xs c.loop-i.i within here)

pub loop-i-preserved : goal.loop-i-preserved
loop-i-preserved c =
    let p = is_entry c.args.owner.now c.args.number in
    let xs = c.args.entries.now.items in
    let within : c.loop-i.i < length xs = omega arith in
    let here : option_is p (slice_get (drop c.loop-i.i xs ++ take c.loop-i.i xs) 0) ≡ false = cc in
    record {
      turned = turn-step _ _ _ _ c.loop-i.invariant.turned c.turn.ensures within;
      passed = omega (arith, passed-later p xs c.loop-i.i within here);
    }
