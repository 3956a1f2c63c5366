use Rattle.std.proofs.Common.{Some, None, ap, arith, sym, ◌∙◌}
use Rattle.std.specs.Prelude.{count_by}
use Rattle.session_store.specs.Effects.{packet_of_entry}
use Rattle.session_store.specs.Joined.{is_paced, undue, put_listed}
use Rattle.session_ends.specs.Joined.{joined}
use Rattle.session_store.proofs.StoreLemmas.{pace-room, queue-room, connected-at, kept-posted}
use Rattle.session_store.proofs.StoreLemmas.{may-post, paced-there, posted-call, posted-clients}
use Rattle.session_store.proofs.StoreLemmas.{posted-sum, room-there, unposted-clients}
use Rattle.session_store.proofs.StoreLemmas.{unposted-kept, unposted-sum, unposted-handed}
use Rattle.session_store.proofs.StoreLemmas.{posted-handed}
use Rattle.session_store.proofs.PutLemmas.{kept-put}
use Rattle.session_store.proofs.UndueLemmas.{paced-counted, room-undue, flat}
use Rattle.session_store.proofs.ShareLemmas.{clients-kept, posts-kept}
use Rattle.session_store.proofs.ChangesLemmas.{changes-queue, servers-held}
use Rattle.session_store.specs.Changes.{PostsAt}
use Rattle.std.proofs.Common.{refl}
use Rattle.session_store.proofs.RoomLemmas.{room-stays}
use Rattle.session_store.proofs.store.Store.post.Goals as goal

pub post_at-posted-requires-clause-keeps : goal.post_at-posted-requires-clause-keeps
post_at-posted-requires-clause-keeps c =
    may-post c.self.inside.pool c.self.inside.sides.items c.self.inside.servers.items
    (joined c.self.inside.queue.tx c.self.inside.queue.pacer) c.self.invariant.0

pub invariant_of-self : goal.invariant_of-self
invariant_of-self c =
    let s = c.self.inside in
    let h = rw c.in_default.is at c.post_at-posted.ensures.posts in
    let connected = connected-at s.sides.items c.args.i c.index.result.now h.side c.index.ensures
    h.at (sym c.is_connected.ensures ∙ c.if-not-is_connected.false) in (
      unposted-kept s.pool c.post_at-posted.new.pool s.sides.items
          c.post_at-posted.new.sides.items s.servers.items (joined s.queue.tx s.queue.pacer) c.args.i h
          c.self.invariant.0,
      c.self.invariant.1,
      clients-kept s.shares s.pool c.post_at-posted.new.pool s.sides.items
          c.post_at-posted.new.sides.items s.servers.items (posts-kept c.args.i None _ _
          (unposted-clients s.pool c.post_at-posted.new.pool s.sides.items
          c.post_at-posted.new.sides.items s.servers.items (joined s.queue.tx s.queue.pacer) c.args.i h
          connected)) c.self.invariant.2,
      c.self.invariant.3,
      room-stays refl c.post_at-posted.ensures.room refl refl c.self.invariant.4,
    )

pub put-requires : goal.put-requires
put-requires c =
    let s = c.self.inside in
    let h = rw c.in-Some.is at c.post_at-posted.ensures.posts in
    let connected = connected-at s.sides.items c.args.i c.index.result.now h.side c.index.ensures
    h.at (sym c.is_connected.ensures ∙ c.if-not-is_connected.false) in
    record {
      room = room-there s.pool c.post_at-posted.new.pool s.sides.items
          c.post_at-posted.new.sides.items s.servers.items (joined s.queue.tx s.queue.pacer) c.args.i
          c.in-Some.entry c.self.invariant.0 h connected (undue c.args.self.now) (flat s.pool
          s.sides.items s.servers.items s.queue.tx s.queue.pacer c.args.self.now c.self.view_is)
          (room-undue c.args.i c.args.self.now (queue-room s.pool s.sides.items s.servers.items s.queue.tx
          s.queue.pacer c.args.self.now c.self.view_is c.args.i h.side h.at connected c.requires.room));
      paced = λ some. (let free = paced-there s.pool c.post_at-posted.new.pool s.sides.items
          c.post_at-posted.new.sides.items s.servers.items (joined s.queue.tx s.queue.pacer) c.args.i
          c.in-Some.entry c.self.invariant.0 h connected (undue c.args.self.now) (flat s.pool
          s.sides.items s.servers.items s.queue.tx s.queue.pacer c.args.self.now c.self.view_is)
          (count_by is_paced c.args.self.now.queued) (pace-room s.pool s.sides.items
          s.servers.items s.queue.tx s.queue.pacer c.args.self.now c.self.view_is c.args.i h.side h.at connected
          (c.requires.paced some)) in
          omega (
            arith,
            free,
            c.self.invariant.1.half,
            paced-counted s.queue.tx s.queue.pacer,
            ap (λ v. count_by is_paced v.queued) c.self.view_is,
          ));
      call = λ some. posted-call s.pool c.post_at-posted.new.pool s.sides.items
          c.post_at-posted.new.sides.items s.servers.items (joined s.queue.tx s.queue.pacer) c.args.i
          c.in-Some.entry c.self.invariant.0 h connected;
      paces = c.self.invariant.1;
    }

pub invariant_of-self-2 : goal.invariant_of-self-2
invariant_of-self-2 c =
    let s = c.self.inside in
    let h = rw c.in-Some.is at c.post_at-posted.ensures.posts in
    let connected = connected-at s.sides.items c.args.i c.index.result.now h.side c.index.ensures
    h.at (sym c.is_connected.ensures ∙ c.if-not-is_connected.false) in
    let room = room-there s.pool c.post_at-posted.new.pool s.sides.items
    c.post_at-posted.new.sides.items s.servers.items (joined s.queue.tx s.queue.pacer) c.args.i
    c.in-Some.entry c.self.invariant.0 h connected (undue c.args.self.now) (flat s.pool
    s.sides.items s.servers.items s.queue.tx s.queue.pacer c.args.self.now c.self.view_is)
    (room-undue c.args.i c.args.self.now (queue-room s.pool s.sides.items s.servers.items s.queue.tx
    s.queue.pacer c.args.self.now c.self.view_is c.args.i h.side h.at connected c.requires.room)) in (
      kept-put c.post_at-posted.new.pool c.post_at-posted.new.sides.items s.servers.items
          c.in-Some.entry (joined s.queue.tx s.queue.pacer) (joined c.put.new.self.tx c.put.new.self.pacer)
          c.put.ensures.put c.put.ensures.size
          (kept-posted s.pool c.post_at-posted.new.pool s.sides.items c.post_at-posted.new.sides.items
          s.servers.items (joined s.queue.tx s.queue.pacer) c.args.i c.in-Some.entry c.self.invariant.0 h connected
          room),
      c.put.ensures.paces,
      clients-kept s.shares s.pool c.post_at-posted.new.pool s.sides.items
          c.post_at-posted.new.sides.items s.servers.items (posts-kept c.args.i
          (Some (packet_of_entry c.in-Some.entry)) _ _ (posted-clients s.pool
          c.post_at-posted.new.pool s.sides.items c.post_at-posted.new.sides.items s.servers.items
          (joined s.queue.tx s.queue.pacer) c.args.i c.in-Some.entry c.self.invariant.0 h connected room))
          c.self.invariant.2,
      c.self.invariant.3,
      room-stays c.put.ensures.size c.post_at-posted.ensures.room refl refl c.self.invariant.4,
    )

pub returns-in_default-clause-posts : goal.returns-in_default-clause-posts
returns-in_default-clause-posts c =
    let s = c.self.inside in
    let h = rw c.in_default.is at c.post_at-posted.ensures.posts in
    let connected = connected-at s.sides.items c.args.i c.index.result.now h.side
    c.index.ensures h.at (sym c.is_connected.ensures ∙ c.if-not-is_connected.false) in
    changes-queue s.pool c.post_at-posted.new.pool s.sides.items c.post_at-posted.new.sides.items
    s.servers.items s.servers.items s.queue.tx s.queue.tx s.queue.pacer s.queue.pacer c.args.self.now c.self.view_is
    (PostsAt c.args.i None) (rw (← c.self.view_is) (unposted-clients s.pool c.post_at-posted.new.pool
    s.sides.items c.post_at-posted.new.sides.items s.servers.items
    (joined s.queue.tx s.queue.pacer) c.args.i h connected))
    (rw h.step.pool refl) (unposted-sum s.pool c.post_at-posted.new.pool
    s.sides.items c.post_at-posted.new.sides.items s.servers.items
    (joined s.queue.tx s.queue.pacer) c.args.i h) (put_listed c.args.due None)
    (unposted-handed s.pool c.post_at-posted.new.pool
    s.sides.items c.post_at-posted.new.sides.items s.servers.items
    (joined s.queue.tx s.queue.pacer) c.args.i h) refl refl

pub returns-clause-posts : goal.returns-clause-posts
returns-clause-posts c =
    let s = c.self.inside in
    let h = rw c.in-Some.is at c.post_at-posted.ensures.posts in
    let connected = connected-at s.sides.items c.args.i c.index.result.now h.side
    c.index.ensures h.at (sym c.is_connected.ensures ∙ c.if-not-is_connected.false) in
    let room = room-there s.pool c.post_at-posted.new.pool s.sides.items
    c.post_at-posted.new.sides.items s.servers.items (joined s.queue.tx s.queue.pacer) c.args.i
    c.in-Some.entry c.self.invariant.0 h connected (undue c.args.self.now) (flat s.pool
    s.sides.items s.servers.items s.queue.tx s.queue.pacer c.args.self.now c.self.view_is)
    (room-undue c.args.i c.args.self.now (queue-room s.pool s.sides.items s.servers.items s.queue.tx
    s.queue.pacer c.args.self.now c.self.view_is c.args.i h.side h.at connected c.requires.room)) in
    changes-queue s.pool c.post_at-posted.new.pool s.sides.items c.post_at-posted.new.sides.items
    s.servers.items s.servers.items s.queue.tx c.put.new.self.tx s.queue.pacer c.put.new.self.pacer
    c.args.self.now c.self.view_is (PostsAt c.args.i (Some (packet_of_entry c.in-Some.entry)))
    (rw (← c.self.view_is) (posted-clients s.pool c.post_at-posted.new.pool
    s.sides.items c.post_at-posted.new.sides.items s.servers.items
    (joined s.queue.tx s.queue.pacer) c.args.i c.in-Some.entry c.self.invariant.0 h connected room))
    (rw h.step.pool (servers-held s.pool s.servers.items c.in-Some.entry.place)) (posted-sum s.pool c.post_at-posted.new.pool
    s.sides.items c.post_at-posted.new.sides.items s.servers.items
    (joined s.queue.tx s.queue.pacer) c.args.i c.in-Some.entry c.self.invariant.0 h connected room) (put_listed c.args.due (Some c.in-Some.entry))
    (posted-handed s.pool c.post_at-posted.new.pool
    s.sides.items c.post_at-posted.new.sides.items s.servers.items
    (joined s.queue.tx s.queue.pacer) c.args.i c.in-Some.entry c.self.invariant.0 h connected room) c.put.ensures.queue c.put.ensures.size
