use Rattle.std.proofs.Common.{ℕ, refl, ◌≡◌, length, ap, ◌∙◌, ◌++◌, List, [], ◌∷◌, arith}
use Rattle.std.specs.Vec.{vec_len}
use Rattle.rpc_laws.specs.Lives.{first_life}
use Rattle.client_core.specs.Session.{Session, new_session}
use Rattle.session_ends.specs.declared.side.Side.{Side}
use Rattle.session_ends.specs.declared.stage.Stage.TheVariants.{Connecting}
use Rattle.session_ends.specs.Joined.{joined}
use Rattle.session_store.proofs.AskLemmas.{kept-paired}
use Rattle.session_store.proofs.ShareLemmas.{client-added, opened-share}
use Rattle.session_store.proofs.store.Store.open.Goals as goal

abbrev made : ℕ → Session → Side
made peer session = record { peer = peer; stage = Connecting 0 0; session = session }

pub invariant_of-self-2 : goal.invariant_of-self-2
invariant_of-self-2 c =
    let s = c.self.inside in
    let long : vec_len s.sides ≡ length s.sides.items = omega arith in
    let side = made c.args.peer c.new-session.result in
    let pushed : c.push.new.self.items ≡ s.sides.items ++ side ∷ [] =
    (rw c.unwrap.ensures at c.push.ensures.items)
    ∙ ap (λ (xs : List Side). xs ++ side ∷ []) c.reserve.ensures.items in (
      rw pushed (kept-paired s.pool s.sides.items s.servers.items
          (joined s.queue.tx s.queue.pacer) _ 0 _ c.args.credits c.self.invariant.0
          (c.new-session.ensures.session
          ∙ ap (λ n. new_session n 0 first_life c.args.credits) (c.len.ensures ∙ long))),
      c.self.invariant.1,
      rw pushed (client-added s.shares s.pool s.sides.items s.servers.items c.self.invariant.2
          s.queue.tx s.queue.pacer c.args.self.now c.self.view_is c.shares_with-shares.result
          c.args.credits c.shares_with-shares.ensures c.requires.most side
          (opened-share s.pool side _ 0 _ c.args.credits 0 0 refl c.new-session.ensures.session)),
      c.self.invariant.3,
      record {
        for_clients = omega (
          arith,
          c.self.invariant.4.for_clients,
          c.reserve.ensures.capacity,
          c.push.ensures.capacity,
        );
        for_servers = c.self.invariant.4.for_servers;
        for_ends = c.self.invariant.4.for_ends;
      },
    )
