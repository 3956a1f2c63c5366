use Rattle.session_ends.specs.Joined.{joined}
use Rattle.session_store.proofs.FinishLemmas.{kept-server}
use Rattle.std.proofs.Common.{◌≡◌, ◌≤◌, ◌+◌, ℕ, ap, arith, length, rules, sym, ◌∙◌, ◌++◌}
use Rattle.std.proofs.Common.{List, [], ◌∷◌}
use Rattle.std.proofs.lemmas.List.{length-map}
use Rattle.std.specs.List.{insert}
use Rattle.std.specs.Vec.{vec_capacity, vec_len}
use Rattle.server_core.specs.Session.{Session as Serving, new_session}
use Rattle.server_core.specs.Shown.{shown, way_of}
use Rattle.session_ends.specs.EndOrder.{code_of}
use Rattle.session_ends.proofs.EndOrderLemmas.{end-added, no-more-ends}
use Rattle.session_store.proofs.ShareLemmas.{server-added}
use Rattle.session_store.specs.Sides.{Shown}
use Rattle.session_store.proofs.store.Store.take_server.Goals as goal

pub invariant_of-self-2 : goal.invariant_of-self-2
invariant_of-self-2 c =
    let s = c.self.inside in
    let v = c.args.server in
    let own : v ≡ new_session v.number v.client v.life v.peer v.credits =
    ap (λ xs. record v { slots = xs }) c.requires.fresh in
    let below = rw (← c.self.view_is) at c.requires.above in
    let pushed : c.push.new.self.items ≡ s.servers.items ++ v ∷ [] =
    (rw c.unwrap-2.ensures at c.push.ensures.items)
    ∙ ap (λ (vs : List Serving). vs ++ v ∷ []) c.reserve.ensures.items in
    let placed : c.insert.new.self.items
    ≡ insert s.ends.items c.place_in-place.result c.code_at-code.result =
    (rw c.unwrap.ensures at c.insert.ensures.items)
    ∙ ap (λ (es : List ℕ). insert es c.place_in-place.result c.code_at-code.result)
    c.reserve-2.ensures.items in
    let code : c.code_at-code.result ≡ code_of (way_of v) =
    omega (
      arith,
      c.code_at-code.ensures,
      c.peer.ensures,
      c.life.ensures,
      c.client.ensures,
      c.session.ensures,
    ) in (
      rw pushed (kept-server s.pool s.sides.items s.servers.items
          (joined s.queue.tx s.queue.pacer) v v.number v.client v.life v.peer v.credits
          c.self.invariant.0 below own),
      c.self.invariant.1,
      rw pushed (server-added s.shares s.pool s.sides.items s.servers.items
          c.self.invariant.2 s.queue.tx s.queue.pacer c.args.self.now c.self.view_is
          c.shares_with-shares.result c.credits.result c.shares_with-shares.ensures
          (omega (arith, c.credits.ensures, c.sound.ensures.few)) v (sym c.credits.ensures)),
      rw (pushed, placed) (end-added s.ends.items s.servers.items
          c.place_in-place.result v c.code_at-code.result c.self.invariant.3 code (
            omega (arith, c.sound.ensures.life.1),
            omega (arith, c.sound.ensures.client),
            omega (arith, c.sound.ensures.number),
          )
          c.place_in-place.ensures.within c.place_in-place.ensures.parts),
      record {
        for_clients = c.self.invariant.4.for_clients;
        for_servers = omega (
          arith,
          c.self.invariant.4.for_servers,
          c.reserve.ensures.capacity,
          c.push.ensures.capacity,
        );
        for_ends = omega (
          arith,
          c.self.invariant.4.for_ends,
          c.reserve-2.ensures.capacity,
          c.insert.ensures.capacity,
        );
      },
    )

pub returns-in_err-of-2-clause-succeeds : goal.returns-in_err-of-2-clause-succeeds
returns-in_err-of-2-clause-succeeds c = λ few.
    let s = c.self.inside in
    let room : vec_len s.ends + 1 ≤ vec_capacity s.ends =
    omega (
      arith,
      few,
      no-more-ends s.ends.items s.servers.items c.self.invariant.3,
      ap (λ (x : Shown). length x.servers) c.self.view_is,
      ap (λ (x : Shown). x.size) c.self.view_is,
      length-map s.servers.items (shown s.pool),
      c.self.invariant.4.for_ends,
      s.ends.ok.0,
    ) in
    let ok = c.reserve-2.ensures.succeeds room in
    search (rules, ok)
