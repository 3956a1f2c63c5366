use Rattle.std.proofs.Common.{◌≡◌, length, refl, ap, ◌∙◌, arith}
use Rattle.std.proofs.lemmas.List.{length-map}
use Rattle.server_core.specs.Session.{Session as Serving}
use Rattle.server_core.specs.Shown.{shown}
use Rattle.session_store.specs.Sides.{Shown}
use Rattle.session_ends.proofs.ListLemmas.{get-there, got-same}
use Rattle.session_store.proofs.EndingLemmas.{ended, unheld-at}
use Rattle.session_store.proofs.ShareLemmas.{server-ended, server-within}
use Rattle.server_core.specs.Shown.{way_of}
use Rattle.session_ends.specs.EndOrder.{code_of}
use Rattle.session_ends.proofs.EndOrderLemmas.{end-left, end-there}
use Rattle.session_store.proofs.RoomLemmas.{room-stays}
use Rattle.session_store.proofs.store.Store.end_server.Goals as goal

pub overflow_sub-self : goal.overflow_sub-self
overflow_sub-self c =
    let s = c.self.inside in
    let v = c.index.result.now in
    let at = get-there s.servers.items c.args.i v
    (omega (
      arith,
      c.requires.known,
      ap (λ (x : Shown). length x.servers) c.self.view_is,
      length-map s.servers.items (shown s.pool),
    )) c.index.ensures in
    server-within s.shares s.pool s.pool s.sides.items s.servers.items c.self.invariant.2 c.args.i v
    at c.from.result (c.from.ensures ∙ c.credits.ensures)

pub remove-requires : goal.remove-requires
remove-requires c =
    let s = c.self.inside in
    let w = c.index-server.result.now in
    let at = get-there s.servers.items c.args.i w
    (omega (
      arith,
      c.requires.known,
      ap (λ (x : Shown). length x.servers) c.self.view_is,
      length-map s.servers.items (shown s.pool),
    )) c.index-server.ensures in
    let own : c.code_at-code.result ≡ code_of (way_of w) =
    omega (
      arith,
      c.code_at-code.ensures,
      c.peer.ensures,
      c.life.ensures,
      c.client.ensures,
      c.session.ensures,
    ) in
    let there = end-there s.ends.items s.servers.items c.self.invariant.3 c.place_in-place.result
    c.code_at-code.result c.args.i w at own c.place_in-place.ensures.parts in
    omega (arith, there.0)

pub end_at-requires-clause-unheld : goal.end_at-requires-clause-unheld
end_at-requires-clause-unheld c =
    let s = c.self.inside in
    unheld-at s.pool s.sides.items s.servers.items s.queue.tx s.queue.pacer c.self.invariant.0 c.args.self.now
    c.self.view_is c.args.i c.requires.drained

pub invariant_of-self : goal.invariant_of-self
invariant_of-self c =
    let s = c.self.inside in
    let w = c.index-server.result.now in
    let at = get-there s.servers.items c.args.i w
    (omega (
      arith,
      c.requires.known,
      ap (λ (x : Shown). length x.servers) c.self.view_is,
      length-map s.servers.items (shown s.pool),
    )) c.index-server.ensures in
    let own : c.code_at-code.result ≡ code_of (way_of w) =
    omega (
      arith,
      c.code_at-code.ensures,
      c.peer.ensures,
      c.life.ensures,
      c.client.ensures,
      c.session.ensures,
    ) in
    let h = ended s.pool s.sides.items s.servers.items s.queue.tx s.queue.pacer c.self.invariant.0 c.args.self.now
    c.self.view_is c.args.i c.requires.drained c.end_at.new.pool c.end_at.new.servers.items
    c.end_at.ensures.ends in (
      h.kept,
      c.self.invariant.1,
      server-ended s.shares s.pool c.end_at.new.pool s.sides.items s.servers.items
          c.self.invariant.2 c.args.i c.end_at.ensures.ends.server c.end_at.ensures.ends.at
          c.from.result (c.from.ensures ∙ c.credits.ensures ∙ ap (λ (v : Serving). v.credits)
          (c.index.ensures ∙ got-same s.servers.items c.args.i c.end_at.ensures.ends.server
          c.index.result.now c.end_at.ensures.ends.at)) c.end_at.new.servers.items
          c.end_at.ensures.ends.changed,
      rw (c.end_at.ensures.ends.changed, c.remove.ensures.items) (end-left s.ends.items
          s.servers.items c.self.invariant.3 c.place_in-place.result c.code_at-code.result
          c.args.i w at own c.place_in-place.ensures.parts),
      room-stays refl refl c.end_at.ensures.room c.remove.ensures.capacity c.self.invariant.4,
    )

pub returns : goal.returns
returns c =
    let s = c.self.inside in
    let h = ended s.pool s.sides.items s.servers.items s.queue.tx s.queue.pacer c.self.invariant.0 c.args.self.now
    c.self.view_is c.args.i c.requires.drained c.end_at.new.pool c.end_at.new.servers.items
    c.end_at.ensures.ends in
    record {
      servers = h.left;
      clients = rw (← c.self.view_is) h.clients;
      queued = rw (← c.self.view_is) refl;
      size = rw (← c.self.view_is) refl;
      places = rw (← c.self.view_is) h.places;
      handed = rw (← c.self.view_is) h.handed;
    }
