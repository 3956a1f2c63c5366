use Rattle.std.proofs.Common.{sym, ap, ◌∙◌}
use Rattle.packet_rings.specs.contracts.entry.Entry.{the_view as entry_view}
use Rattle.server_core.specs.contracts.session.ServerSession.{the_view}
use Rattle.server_core.specs.KeepsPool.{IsKept}
use Rattle.server_core.specs.Replies.{is_owner}
use Rattle.server_core.specs.Session.{IsInTurn}
use Rattle.server_core.proofs.ReplyLemmas.{part-within, placed-full, spelled-placed, spelled-unplaced}
use Rattle.server_core.proofs.session.ServerSession.packet.Goals as goal
use Rattle.rpc_base.proofs.FirstLemmas.{found-holds}

pub head-header-requires-clause-turn : goal.head-header-requires-clause-turn
head-header-requires-clause-turn c =
    found-holds (is_owner c.self.inside.number c.entry.inside.owner) IsInTurn c.self.inside.slots
    c.in-Some.request.now c.self.invariant.in_turn (sym c.in-Some.ensures)

pub get-requires : goal.get-requires
get-requires c =
    placed-full c.args.pool.now c.args.self.now c.args.entry.now c.in-Some-place.place
    c.requires.keeps_pool c.requires.posted
    (sym (ap (λ e. e.place) c.entry.view_is) ∙ c.in-Some-place.is)

pub packet-requires : goal.packet-requires
packet-requires c =
    let turn = found-holds (is_owner c.self.inside.number c.entry.inside.owner) IsInTurn
    c.self.inside.slots c.in-Some.request.now c.self.invariant.in_turn
    (sym c.in-Some.ensures) in
    let kept = found-holds (is_owner c.self.inside.number c.entry.inside.owner)
    (IsKept c.args.pool.now) c.self.inside.slots c.in-Some.request.now
    (rw (← c.self.view_is) at c.requires.keeps_pool).kept (sym c.in-Some.ensures) in
    let posted = rw (← c.self.view_is, ← c.entry.view_is, ← c.in-Some.ensures) at c.requires.posted in
    rw (c.from.ensures, c.count.ensures) (part-within c.args.pool.now c.in-Some.request.now
    c.entry.inside.number c.in-Some-place.place c.get.result.now kept turn posted.taken
    posted.there (sym c.in-Some-place.is ∙ posted.place_is) c.get.ensures)

pub returns-in-None-clause-spelled : goal.returns-in-None-clause-spelled
returns-in-None-clause-spelled c =
    let turn = found-holds (is_owner c.self.inside.number c.entry.inside.owner) IsInTurn
    c.self.inside.slots c.in-Some.request.now c.self.invariant.in_turn
    (sym c.in-Some.ensures) in
    let posted = rw (← c.self.view_is, ← c.entry.view_is, ← c.in-Some.ensures) at c.requires.posted in
    rw (← c.self.view_is, ← c.entry.view_is) (spelled-unplaced c.args.pool.now
    (the_view c.self.inside) (entry_view c.entry.inside) c.in-Some.request.now c.encode.new.out
    c.self.invariant (sym c.in-Some.ensures) turn posted.taken posted.there
    (sym c.in-None.is ∙ posted.place_is) (rw c.head-header.ensures.head
    at c.encode.ensures.head) (rw c.head-header.ensures.head at c.head-header.ensures.in_range))

pub returns-in-Some-place-clause-spelled : goal.returns-in-Some-place-clause-spelled
returns-in-Some-place-clause-spelled c =
    let kept = found-holds (is_owner c.self.inside.number c.entry.inside.owner)
    (IsKept c.args.pool.now) c.self.inside.slots c.in-Some.request.now
    (rw (← c.self.view_is) at c.requires.keeps_pool).kept (sym c.in-Some.ensures) in
    let posted = rw (← c.self.view_is, ← c.entry.view_is, ← c.in-Some.ensures) at c.requires.posted in
    let body = rw (c.from.ensures, c.count.ensures) at c.packet.ensures.part in
    rw (← c.self.view_is, ← c.entry.view_is) (spelled-placed c.args.pool.now
    (the_view c.self.inside) (entry_view c.entry.inside) c.in-Some.request.now
    c.in-Some-place.place c.get.result.now c.encode.new.out c.packet.result.1.now
    c.self.invariant (sym c.in-Some.ensures) kept (sym c.in-Some-place.is ∙ posted.place_is)
    c.get.ensures (rw c.head-header.ensures.head at c.encode.ensures.head) body
    (rw c.head-header.ensures.head at c.head-header.ensures.in_range))
