use Rattle.std.proofs.Common.{arith}
use Rattle.pacing_wheel.proofs.DialLemmas.{each-in-order, mod-small}
use Rattle.pacing_wheel.proofs.dial.Dial.first_with.Goals as goal

pub found_in-requires : goal.found_in-requires
found_in-requires c =
    let some = c.if-self-eq0.false in
    let places = c.self.invariant.3 (omega (arith, c.self.invariant.2, some)) in
    record {
      order = each-in-order c.self.inside.cursor 0 c.self.inside.chains.lists c.self.invariant.0;
      from = omega (arith, places, c.place_of.ensures, mod-small c.self.inside.cursor);
      waiting = c.self.invariant.1;
    }
