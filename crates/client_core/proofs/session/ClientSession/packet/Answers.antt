use Rattle.std.proofs.Common.{◌≡◌, Some, sym, ap, ◌∙◌}
use Rattle.packet_header.specs.Parts.{part}
use Rattle.buffer_pool.specs.Pool.{buf_at}
use Rattle.client_core.specs.Session.{IsInTurn}
use Rattle.client_core.specs.KeepsPool.{IsKept}
use Rattle.client_core.specs.Posting.{call_of, is_owner}
use Rattle.client_core.proofs.PacketLemmas.{no-body, part-body, part-within, placed-part, spelled}
use Rattle.client_core.proofs.session.ClientSession.packet.Goals as goal
use Rattle.rpc_base.proofs.FirstLemmas.{found-holds}
use Rattle.message_buffer.specs.Messages.{message_in}

pub head-header-requires-clause-turn : goal.head-header-requires-clause-turn
head-header-requires-clause-turn c =
    found-holds (is_owner c.self.inside.number c.entry.inside.owner) IsInTurn c.self.inside.calls
    c.in-Some.call.now c.self.invariant.1.in_turn (sym c.in-Some.ensures)

pub head-header-requires-clause-posted : goal.head-header-requires-clause-posted
head-header-requires-clause-posted c =
    (rw (← c.self.view_is, ← c.entry.view_is, ← c.in-Some.ensures) at c.requires.posted).0

pub get-requires : goal.get-requires
get-requires c =
    let kept = found-holds (is_owner c.self.inside.number c.entry.inside.owner)
    (IsKept c.args.pool.now) c.self.inside.calls c.in-Some.call.now
    (rw (← c.self.view_is) at c.requires.keeps_pool).kept (sym c.in-Some.ensures) in
    let posted = rw (← c.self.view_is, ← c.entry.view_is, ← c.in-Some.ensures) at c.requires.posted in
    rw (placed-part c.in-Some.call.now c.entry.inside.number c.in-Some-place.place
    (sym c.in-Some-place.is ∙ posted.1)).0 kept.ask

pub packet-requires : goal.packet-requires
packet-requires c =
    let kept = found-holds (is_owner c.self.inside.number c.entry.inside.owner)
    (IsKept c.args.pool.now) c.self.inside.calls c.in-Some.call.now
    (rw (← c.self.view_is) at c.requires.keeps_pool).kept (sym c.in-Some.ensures) in
    let posted = rw (← c.self.view_is, ← c.entry.view_is, ← c.in-Some.ensures) at c.requires.posted in
    rw c.from.ensures (part-within c.args.pool.now c.in-Some.call.now c.entry.inside.number
    c.in-Some-place.place c.get.result.now kept (sym c.in-Some-place.is ∙ posted.1)
    c.get.ensures)

pub returns-in-None-clause-spelled : goal.returns-in-None-clause-spelled
returns-in-None-clause-spelled c =
    let kept = found-holds (is_owner c.self.inside.number c.entry.inside.owner)
    (IsKept c.args.pool.now) c.self.inside.calls c.in-Some.call.now
    (rw (← c.self.view_is) at c.requires.keeps_pool).kept (sym c.in-Some.ensures) in
    let posted = rw (← c.self.view_is, ← c.entry.view_is, ← c.in-Some.ensures) at c.requires.posted in
    let is : call_of c.args.self.now c.args.entry.now ≡ Some c.in-Some.call.now =
    rw (← c.self.view_is, ← c.entry.view_is) (sym c.in-Some.ensures) in
    let server : c.self.inside.server ≡ c.args.self.now.server = ap (λ s. s.server) c.self.view_is in
    let life : c.self.inside.life ≡ c.args.self.now.life = ap (λ s. s.life) c.self.view_is in
    let number : c.entry.inside.number ≡ c.args.entry.now.number = ap (λ e. e.number) c.entry.view_is in
    let head = rw (c.head-header.ensures.head, server, life, number) at c.encode.ensures.head in
    let body = no-body c.in-Some.call.now c.entry.inside.number
    (part (message_in (buf_at c.args.pool.now c.in-Some.call.now.ask))
    c.entry.inside.number) (sym c.in-None.is ∙ posted.1) in
    spelled c.args.pool.now c.args.self.now c.args.entry.now c.in-Some.call.now c.encode.new.out _
    is kept.size head (rw number at body)
    (rw (c.head-header.ensures.head, server, life, number) at c.head-header.ensures.in_range)

pub returns-in-Some-place-clause-spelled : goal.returns-in-Some-place-clause-spelled
returns-in-Some-place-clause-spelled c =
    let kept = found-holds (is_owner c.self.inside.number c.entry.inside.owner)
    (IsKept c.args.pool.now) c.self.inside.calls c.in-Some.call.now
    (rw (← c.self.view_is) at c.requires.keeps_pool).kept (sym c.in-Some.ensures) in
    let posted = rw (← c.self.view_is, ← c.entry.view_is, ← c.in-Some.ensures) at c.requires.posted in
    let is : call_of c.args.self.now c.args.entry.now ≡ Some c.in-Some.call.now =
    rw (← c.self.view_is, ← c.entry.view_is) (sym c.in-Some.ensures) in
    let server : c.self.inside.server ≡ c.args.self.now.server = ap (λ s. s.server) c.self.view_is in
    let life : c.self.inside.life ≡ c.args.self.now.life = ap (λ s. s.life) c.self.view_is in
    let number : c.entry.inside.number ≡ c.args.entry.now.number = ap (λ e. e.number) c.entry.view_is in
    let head = rw (c.head-header.ensures.head, server, life, number) at c.encode.ensures.head in
    let part_is = rw c.from.ensures at c.packet.ensures.part in
    let body = part-body c.args.pool.now c.in-Some.call.now c.entry.inside.number
    c.in-Some-place.place c.get.result.now c.packet.result.1.now
    (sym c.in-Some-place.is ∙ posted.1) c.get.ensures part_is in
    spelled c.args.pool.now c.args.self.now c.args.entry.now c.in-Some.call.now c.encode.new.out _
    is kept.size head (rw number at body)
    (rw (c.head-header.ensures.head, server, life, number) at c.head-header.ensures.in_range)
