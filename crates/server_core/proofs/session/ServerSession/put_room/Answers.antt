use Rattle.std.proofs.Common.{◌≡◌, true, false, ap, sym, ◌∙◌, arith}
use Rattle.packet_header.specs.Parts.{IsMessage}
use Rattle.server_core.specs.Reusing.{IsPut, IsRoom}
use Rattle.server_core.specs.Session.{answer_of}
use Rattle.server_core.specs.contracts.session.ServerSession.{the_view}
use Rattle.server_core.specs.declared.running.Room.TheVariants.{Made, Own}
use Rattle.server_core.proofs.WorkedLemmas.{puts-room, room-session}
use Rattle.server_core.proofs.session.ServerSession.put_room.Goals as goal

pub lend-requires-clause-few : goal.lend-requires-clause-few
lend-requires-clause-few c =
    omega (arith, c.requires.awaited.turn.few (ap answer_of c.requires.awaited.working))

pub worked-requires : goal.worked-requires
worked-requires c =
    omega (arith, c.requires.awaited.turn.few (ap answer_of c.requires.awaited.working))

pub invariant_of-self : goal.invariant_of-self
invariant_of-self c =
    let awaited = rw (← c.self.view_is) at c.requires.awaited in
    let room : IsRoom (Own c.in-Own.size) = rw c.in-Own.is at c.requires.room in
    let message : IsMessage c.lend.result.size = omega (arith, c.lend.ensures.size, room) in
    rw c.lend.ensures.slots (room-session c.args.pool.now c.lend.new.pool (the_view c.self.inside)
    c.args.request c.lend.result c.self.invariant awaited c.lend.ensures.pool message)

pub returns-in-Own : goal.returns-in-Own
returns-in-Own c =
    let awaited = rw (← c.self.view_is) at c.requires.awaited in
    let room : IsRoom (Own c.in-Own.size) = rw c.in-Own.is at c.requires.room in
    let message : IsMessage c.lend.result.size = omega (arith, c.lend.ensures.size, room) in
    rw (c.lend.ensures.slots, c.in-Own.is, ← c.self.view_is) (puts-room c.args.pool.now
    c.lend.new.pool (the_view c.self.inside) c.args.request c.lend.result c.self.invariant awaited
    c.lend.ensures.pool message c.in-Own.size c.lend.ensures.size)

pub invariant_of-self-in-Made : goal.invariant_of-self-in-Made
invariant_of-self-in-Made c =
    let awaited = rw (← c.self.view_is) at c.requires.awaited in
    let room : IsRoom (Made c.in-Made.buffer) = rw c.in-Made.is at c.requires.room in
    let made = c.put_message-answer.ensures in
    let put : IsPut c.put_message-answer.result c.args.pool.now c.put_message-answer.new.pool =
    record {
      lowest = made.place;
      buf = c.in-Made.buffer;
      after_is = made.pool;
      there = made.there;
      size_is = (sym made.size, omega (arith, made.size, made.fits));
      own = λ own. (let clash : false ≡ true = sym made.own ∙ own in cc);
    } in
    let message : IsMessage c.put_message-answer.result.size = rw made.size room.0 in
    rw (c.replace.ensures, c.worked.ensures) (room-session c.args.pool.now
    c.put_message-answer.new.pool (the_view c.self.inside) c.args.request
    c.put_message-answer.result c.self.invariant awaited put message)

pub returns-in-Made : goal.returns-in-Made
returns-in-Made c =
    let awaited = rw (← c.self.view_is) at c.requires.awaited in
    let room : IsRoom (Made c.in-Made.buffer) = rw c.in-Made.is at c.requires.room in
    let made = c.put_message-answer.ensures in
    let put : IsPut c.put_message-answer.result c.args.pool.now c.put_message-answer.new.pool =
    record {
      lowest = made.place;
      buf = c.in-Made.buffer;
      after_is = made.pool;
      there = made.there;
      size_is = (sym made.size, omega (arith, made.size, made.fits));
      own = λ own. (let clash : false ≡ true = sym made.own ∙ own in cc);
    } in
    let message : IsMessage c.put_message-answer.result.size = rw made.size room.0 in
    rw (c.replace.ensures, c.worked.ensures, c.in-Made.is, ← c.self.view_is) (puts-room
    c.args.pool.now c.put_message-answer.new.pool (the_view c.self.inside) c.args.request
    c.put_message-answer.result c.self.invariant awaited put message c.in-Made.buffer.len made.size)
