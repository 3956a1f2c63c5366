use Rattle.server_core.proofs.QueuedLemmas.{first-counted}
use Rattle.std.proofs.Common.{◌≡◌, ◌%◌, Some, refl, ap, ◌∙◌, arith}
use Rattle.std.proofs.lemmas.Bool.{lt-ltb}
use Rattle.server_core.specs.Serving.{begun, first_taken, with_slots}
use Rattle.server_core.specs.Session.{newest}
use Rattle.server_core.specs.contracts.session.ServerSession.{the_view}
use Rattle.server_core.proofs.BeginLemmas.{begun-served, begun-newest, first-keeps, first-shows}
use Rattle.server_core.proofs.BeginLemmas.{first-turn, idle-reply, is-reply, return-held}
use Rattle.server_core.proofs.GivenLemmas.{spare-given}
use Rattle.server_core.proofs.SlotLemmas.{begun-session, few-left}
use Rattle.server_core.proofs.OtherLemmas.{first-others}
use Rattle.server_core.proofs.SpareLemmas.{first-spare}
use Rattle.server_core.specs.Replies.{IsReplyIn}
use Rattle.server_core.specs.Serving.{given_up}
use Rattle.buffer_pool.specs.Pool.{filled, lowest_empty}
use Rattle.server_core.specs.Steps.{IsReply}
use Rattle.server_core.proofs.HoldBeginLemmas.{first-holds, first-leaves, listed}
use Rattle.server_core.proofs.CountLemmas.{given-refs}
use Rattle.server_core.specs.Session.{is_in_slot}
use Rattle.server_core.proofs.HoldStepLemmas.{early-unplaced}
use Rattle.server_core.proofs.session.ServerSession.begin_first.Goals as goal
use Rattle.std.proofs.Common.{◌∷◌, []}
use Rattle.buffer_pool.proofs.CountLemmas.{refs_filled}
use Rattle.packet_rings.proofs.MentionsLemmas.{mentions-append, mentions-none}

pub put_message-ask-requires : goal.put_message-ask-requires
put_message-ask-requires c =
    rw (c.give_up.ensures.pool, c.slot.ensures)
    (omega (
      arith,
      spare-given c.args.pool.now
          (newest c.args.head.now.request (the_view c.self.inside)),
      c.requires.begins.spare,
    ))

pub push-requires-clause-few : goal.push-requires-clause-few
push-requires-clause-few c = rw (c.give_up.ensures.slots, c.slot.ensures)
    (few-left (the_view c.self.inside) c.self.invariant _ (omega arith))

pub invariant_of-self : goal.invariant_of-self
invariant_of-self c =
    rw (c.push.ensures, c.give_up.ensures.slots, c.slot.ensures)
    (begun-session (the_view c.self.inside)
    (first_taken c.args.head.now c.put_message-ask.result.place) c.self.invariant
    (first-turn c.args.head.now c.put_message-ask.result.place c.requires.begins.size c.requires.many))

pub returns-clause-shown : goal.returns-clause-shown
returns-clause-shown c =
    let keeps = rw (← c.self.view_is) at c.requires.begins.keeps_pool in
    let lowest = rw (c.give_up.ensures.pool, c.slot.ensures) at c.put_message-ask.ensures.place in
    let there = rw (c.put_message-ask.ensures.pool, c.give_up.ensures.pool, c.slot.ensures)
    at c.put_message-ask.ensures.there in
    rw (
      c.push.ensures,
      c.give_up.ensures.slots,
      c.put_message-ask.ensures.pool,
      c.give_up.ensures.pool,
      c.slot.ensures,
      ← c.self.view_is,
    )
    (first-shows c.args.pool.now (the_view c.self.inside) c.args.head.now keeps
    c.put_message-ask.result.place c.args.ask lowest there c.requires.len c.requires.room)

pub returns-clause-replies : goal.returns-clause-replies
returns-clause-replies c =
    let s = the_view c.self.inside in
    let head = c.args.head.now in
    let pool = c.args.pool.now in
    let k = c.put_message-ask.result.place in
    let e = c.entry-reply.result in
    let d = first_taken head k in
    let given = given_up (newest head.request s) pool in
    let new = filled k c.args.ask given in
    let keeps = rw (← c.self.view_is) at c.requires.begins.keeps_pool in
    let unheld = rw (← c.self.view_is) at c.requires.begins.unheld in
    let lowest : lowest_empty given ≡ Some k =
    rw (c.give_up.ensures.pool, c.slot.ensures) at c.put_message-ask.ensures.place in
    let there = rw (c.put_message-ask.ensures.pool, c.give_up.ensures.pool, c.slot.ensures)
    at c.put_message-ask.ensures.there in
    let whole = begun-session s d c.self.invariant (first-turn head k c.requires.begins.size c.requires.many) in
    let reply : IsReply head.request 0 (with_slots (begun d s.slots) s) new e =
    rw c.entry-reply.ensures (is-reply new (with_slots (begun d s.slots) s) d 0 whole
    (begun-newest s d c.self.invariant) (omega arith) (idle-reply d 0 refl)
    (return-held new d 0 (lt-ltb 1 _ c.requires.many))) in
    let mine : IsReplyIn d e =
    rw c.entry-reply.ensures (record {
      taken = omega arith;
      there = idle-reply d 0 refl;
      place_is = refl;
    }) in
    let place = ap (λ x. x.place) c.entry-reply.ensures ∙ early-unplaced d 0 c.requires.many in
    rw (
      c.push.ensures,
      c.give_up.ensures.slots,
      c.put_message-ask.ensures.pool,
      c.give_up.ensures.pool,
      c.slot.ensures,
      ← c.self.view_is,
    )
    (record {
      reply = reply;
      begins = record {
        places = record {
          spare = first-spare pool s head k c.args.ask keeps lowest;
          others = first-others pool s head k c.args.ask lowest;
          keeps_pool = first-keeps pool s head keeps k c.args.ask lowest there c.requires.len
              c.requires.room;
        };
        replies = λ es. record {
          holds = λ all. first-holds pool s head.request c.self.invariant keeps d refl new
              (begun d (listed (newest head.request s))) (first-leaves pool s head k c.args.ask lowest)
              es all 0 e refl reply mine;
          queued = λ all counted. first-counted pool s head.request c.self.invariant keeps d refl pool
              es all counted e refl (ap (λ x. x.owner) c.entry-reply.ensures);
          counts = λ p. omega (
            arith,
            refs_filled given k p c.args.ask lowest,
            given-refs (is_in_slot (head.request % 8)) pool s.slots p keeps unheld,
            mentions-append p es (e ∷ []),
            mentions-none p e place,
          );
        };
        served = λ mode_of new all. begun-served mode_of s.slots d new all;
      };
    })

pub give_up-requires-clause-apart : goal.give_up-requires-clause-apart
give_up-requires-clause-apart c = c.self.invariant.apart c.slot.result
