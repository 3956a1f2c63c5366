use Rattle.std.specs.Prelude.{◌==◌}
use Rattle.std.proofs.lemmas.Bool.{ne_eqb}
use Rattle.std.proofs.Common.{◌≡◌, ◌≢◌, ◌+◌, ◌%◌, ◌<◌, ◌≤◌, true, false, Some, None, ◌∷◌, []}
use Rattle.std.proofs.Common.{refl, sym, ap, ◌∙◌, arith}
use Rattle.rpc_laws.specs.Requests.{answered, given}
use Rattle.rpc_laws.specs.ServerTable.{is_rfr}
use Rattle.rpc_outside.specs.declared.service.Mode.TheVariants.{Unserved}
use Rattle.message_buffer.specs.Buffer.{bytes_of}
use Rattle.packet_header.specs.Parts.{packet_count}
use Rattle.packet_header.proofs.PartsLemmas.{packet_count_most}
use Rattle.server_core.specs.KeepsPool.{IsAsked, IsKept}
use Rattle.server_core.specs.Session.{IsInTurn, ask_of, is_in_slot}
use Rattle.server_core.specs.Shown.{shown}
use Rattle.server_core.specs.Steps.{bytes_with, gone_on_as, grown}
use Rattle.server_core.proofs.FlushLemmas.{grew-none}
use Rattle.server_core.proofs.HandlingLemmas.{ran-once, takes-none}
use Rattle.server_core.proofs.StepLemmas.{asked-gone, gave-gone, is-inline, is-taking, last-inline}
use Rattle.server_core.proofs.StepLemmas.{last-job, last-whole}
use Rattle.server_core.proofs.StepLemmas.{more-bytes, more-turn, part-turn, ran-gone, took-gone}
use Rattle.server_core.proofs.StepLemmas.{taking-by, whole-bytes}
use Rattle.server_core.proofs.ShortLemmas.{is-given, is-long, not-last}
use Rattle.server_core.proofs.session.ServerSession.take.Goals as goal
use Rattle.server_core.proofs.StaysLemmas.{places-then, stays-then}
use Rattle.rpc_base.proofs.FirstLemmas.{found-holds}

pub take_next-reply-requires-clause-turn : goal.take_next-reply-requires-clause-turn
take_next-reply-requires-clause-turn g c =
    let found = sym c.in-Some.ensures in
    let next = rw found at c.requires.next in
    let turn = found-holds (is_in_slot (c.args.head.now.request % 8)) IsInTurn c.args.self.now.slots
    c.in-Some.request c.requires.ready.session.in_turn found in
    let rfr : is_rfr c.args.head.now.kind ≡ true = sym c.is_rfr.ensures ∙ c.if-is_rfr.true in
    more-turn c.in-Some.request turn (rw found at c.requires.ready.can_hold).1 (rw next.in_turn at (next.more rfr).there)

pub take_next-reply-requires-then-from-count-clause-turn : goal.take_next-reply-requires-then-from-count-clause-turn
take_next-reply-requires-then-from-count-clause-turn g c =
    let found = sym c.in-Some.ensures in
    let turn = found-holds (is_in_slot (c.args.head.now.request % 8)) IsInTurn c.args.self.now.slots
    c.in-Some.request c.requires.ready.session.in_turn found in
    part-turn c.in-Some.request turn (rw found at c.requires.ready.can_hold).1
    (omega (arith, c.if-from-count.true, c.from.ensures, c.count.ensures))

pub get-requires : goal.get-requires
get-requires g c =
    let found = sym c.in-Some.ensures in
    let kept = found-holds (is_in_slot (c.args.head.now.request % 8))
    (IsKept c.write_part.new.pool) c.args.self.now.slots c.in-Some.request
    c.write_part.ensures.stays.places.keeps_pool.kept found in
    let asked : IsAsked c.write_part.new.pool c.in-Some.request.size c.in-Some-ask.place =
    rw (sym c.in-Some-ask.ensures) at kept.ask in
    asked.full

pub unreachable-requires-in_default-ask : goal.unreachable-requires-in_default-ask
unreachable-requires-in_default-ask g c =
    let found = sym c.in-Some.ensures in
    let next = rw found at c.requires.next in
    let part = next.part (sym c.is_rfr.ensures ∙ c.if-is_rfr.false) in
    let turn = found-holds (is_in_slot (c.args.head.now.request % 8)) IsInTurn c.args.self.now.slots
    c.in-Some.request c.requires.ready.session.in_turn found in
    let (p, taking) = is-taking c.in-Some.request turn (omega (arith, part.within, next.in_turn)) in
    let none : None ≡ ask_of c.in-Some.request.state = c.in_default-ask.ensures in
    let some : ask_of c.in-Some.request.state ≡ Some p = ap ask_of taking in
    cc

pub room-size-requires-clause-message : goal.room-size-requires-clause-message
room-size-requires-clause-message g c =
    let found = sym c.in-Some.ensures in
    let turn = found-holds (is_in_slot (c.args.head.now.request % 8)) IsInTurn c.args.self.now.slots
    c.in-Some.request c.requires.ready.session.in_turn found in
    let kept = found-holds (is_in_slot (c.args.head.now.request % 8))
    (IsKept c.write_part.new.pool) c.args.self.now.slots c.in-Some.request
    c.write_part.ensures.stays.places.keeps_pool.kept found in
    let asked : IsAsked c.write_part.new.pool c.in-Some.request.size c.in-Some-ask.place =
    rw (sym c.in-Some-ask.ensures) at kept.ask in
    let size = rw c.get.ensures at asked.size_is in
    omega (arith, c.bytes-whole.ensures.len, size.0, turn.size)

pub room-size-requires-clause-served : goal.room-size-requires-clause-served
room-size-requires-clause-served g c =
    let found = sym c.in-Some.ensures in
    let next = rw found at c.requires.next in
    let part = next.part (sym c.is_rfr.ensures ∙ c.if-is_rfr.false) in
    rw part.req_type (found-holds (is_in_slot (c.args.head.now.request % 8))
    (λ q. g.V.Service.mode_of q.req_type ≢ Unserved) c.args.self.now.slots c.in-Some.request
    c.requires.serving.all_served found)

pub take_working-ask-requires-clause-kept : goal.take_working-ask-requires-clause-kept
take_working-ask-requires-clause-kept g c =
    let found = sym c.in-Some.ensures in
    let kept = found-holds (is_in_slot (c.args.head.now.request % 8))
    (IsKept c.write_part.new.pool) c.args.self.now.slots c.in-Some.request
    c.write_part.ensures.stays.places.keeps_pool.kept found in
    rw (sym c.in-Some-ask.ensures) at kept.ask

pub take_working-ask-requires-2-clause-kept : goal.take_working-ask-requires-2-clause-kept
take_working-ask-requires-2-clause-kept g c =
    let found = sym c.in-Some.ensures in
    let kept = found-holds (is_in_slot (c.args.head.now.request % 8))
    (IsKept c.write_part.new.pool) c.args.self.now.slots c.in-Some.request
    c.write_part.ensures.stays.places.keeps_pool.kept found in
    rw (sym c.in-Some-ask.ensures) at kept.ask

pub write_part-requires-clause-taking : goal.write_part-requires-clause-taking
write_part-requires-clause-taking g c = taking-by c.in-Some.request.state c.in-Some-ask.place c.in-Some-ask.ensures

pub take_working-ask-requires-clause-taking : goal.take_working-ask-requires-clause-taking
take_working-ask-requires-clause-taking g c =
    taking-by c.in-Some.request.state c.in-Some-ask.place c.in-Some-ask.ensures

pub take_working-ask-requires-2-clause-taking : goal.take_working-ask-requires-2-clause-taking
take_working-ask-requires-2-clause-taking g c =
    taking-by c.in-Some.request.state c.in-Some-ask.place c.in-Some-ask.ensures

pub take_working-ask-requires-clause-size : goal.take_working-ask-requires-clause-size
take_working-ask-requires-clause-size g c =
    let found = sym c.in-Some.ensures in
    let turn = found-holds (is_in_slot (c.args.head.now.request % 8)) IsInTurn c.args.self.now.slots
    c.in-Some.request c.requires.ready.session.in_turn found in
    turn.size

pub take_working-ask-requires-2-clause-size : goal.take_working-ask-requires-2-clause-size
take_working-ask-requires-2-clause-size g c =
    let found = sym c.in-Some.ensures in
    let turn = found-holds (is_in_slot (c.args.head.now.request % 8)) IsInTurn c.args.self.now.slots
    c.in-Some.request c.requires.ready.session.in_turn found in
    turn.size

pub last_given-requires : goal.last_given-requires
last_given-requires g c =
    let found = sym c.in-Some.ensures in
    let next = rw found at c.requires.next in
    let part = next.part (sym c.is_rfr.ensures ∙ c.if-is_rfr.false) in
    let turn = found-holds (is_in_slot (c.args.head.now.request % 8)) IsInTurn c.args.self.now.slots
    c.in-Some.request c.requires.ready.session.in_turn found in
    omega (arith, packet_count_most c.in-Some.request.size turn.size, part.within, next.in_turn)

pub put_room-answer-requires-clause-awaited : goal.put_room-answer-requires-clause-awaited
put_room-answer-requires-clause-awaited g c =
    rw c.last_given.ensures c.take_working-ask-2.ensures.awaited

pub run-reply-requires-clause-serves : goal.run-reply-requires-clause-serves
run-reply-requires-clause-serves g c =
    let found = sym c.in-Some.ensures in
    let kept = found-holds (is_in_slot (c.args.head.now.request % 8))
    (IsKept c.write_part.new.pool) c.args.self.now.slots c.in-Some.request
    c.write_part.ensures.stays.places.keeps_pool.kept found in
    let ask_is = c.bytes-whole.ensures.message
    ∙ whole-bytes c.write_part.new.pool c.in-Some.request c.in-Some-ask.place
    c.get.result.now kept (sym c.in-Some-ask.ensures) c.get.ensures
    (omega (arith, c.if-from-count.false, c.from.ensures, c.count.ensures)) in
    let own = whole-bytes c.write_part.new.pool c.in-Some.request c.in-Some-ask.place
    c.take_working-ask-2.result kept (sym c.in-Some-ask.ensures)
    c.take_working-ask-2.ensures.ask (omega
    (arith, c.if-from-count.false, c.from.ensures, c.count.ensures)) in
    let next = rw found at c.requires.next in
    let part = next.part (sym c.is_rfr.ensures ∙ c.if-is_rfr.false) in
    let served : g.V.Service.mode_of c.args.head.now.req_type ≢ Unserved =
    rw part.req_type (found-holds (is_in_slot (c.args.head.now.request % 8))
    (λ q. g.V.Service.mode_of q.req_type ≢ Unserved) c.args.self.now.slots c.in-Some.request
    c.requires.serving.all_served found) in
    let known : c.args.mode ≢ Unserved = rw c.requires.serving.mode at served in
    record {
      inline = rw c.requires.serving.mode (is-inline c.args.mode known
          (sym c.is_background.ensures ∙ c.if-is_background.false));
      room = λ served stands. rw (
        c.bytes.ensures.message,
        own,
        ← ask_is,
        c.put_room-answer.ensures.size_is,
        c.in-Ok-of.ensures.size,
      )
          (c.room-size.ensures.length served stands);
      founded = c.requires.serving.founded;
    }

pub returns-then-is_rfr-clause-does : goal.returns-then-is_rfr-clause-does
returns-then-is_rfr-clause-does g c = λ tx.
    let found = sym c.in-Some.ensures in
    let next = rw found at c.requires.next in
    let kept = found-holds (is_in_slot (c.args.head.now.request % 8))
    (IsKept c.args.pool.now) c.args.self.now.slots c.in-Some.request
    c.requires.ready.keeps_pool.kept found in
    let rfr : is_rfr c.args.head.now.kind ≡ true = sym c.is_rfr.ensures ∙ c.if-is_rfr.true in
    let behind : packet_count c.in-Some.request.size ≤ c.in-Some.request.taken =
    omega (arith, (next.more rfr).behind, next.in_turn) in
    let joined = more-bytes c.args.pool.now c.in-Some.request c.args.body.now kept behind (next.more rfr).none in
    record {
      taken = rw rfr refl;
      ring_is = refl;
      leaves = record {
        handled = record {
          answer = [];
          steps = took-gone c.args.pool.now c.args.self.now c.in-Some.request c.args.head.now
              c.requires.ready.session found next.same c.args.body.now
              (bytes_with c.args.pool.now c.in-Some.request) joined
              ∙ ap (λ w. w ∷ []) (sym c.take_next-reply.ensures.shown);
          by_service = tt;
          grew = grew-none g.R.Recorder.log c.args.rec.now;
        };
        reply = rw (next.in_turn, ← next.same) c.take_next-reply.ensures.replies.reply;
        give = tt;
        no_bytes = tt;
        service = refl;
        session = tt;
        pool = tt;
        all_served = c.take_next-reply.ensures.replies.stays.served g.V.Service.mode_of
            c.requires.serving.all_served;
        places = c.take_next-reply.ensures.replies.stays.places;
      };
      replies = c.take_next-reply.ensures.replies.stays.replies tx.items;
      short = λ inline last fits same. cc;
    }

pub returns-then-from-count-clause-does : goal.returns-then-from-count-clause-does
returns-then-from-count-clause-does g c = λ tx.
    let found = sym c.in-Some.ensures in
    let next = rw found at c.requires.next in
    let part = next.part (sym c.is_rfr.ensures ∙ c.if-is_rfr.false) in
    let more : c.args.head.now.number + 1 < packet_count c.args.head.now.size =
    rw part.size (omega
    (arith, next.in_turn, c.if-from-count.true, c.from.ensures, c.count.ensures)) in
    record {
      taken = not-last c.args.head.now more;
      ring_is = refl;
      leaves = record {
        handled = record {
          answer = [];
          steps = took-gone c.args.pool.now c.args.self.now c.in-Some.request c.args.head.now
              c.requires.ready.session found next.same c.args.body.now
              (bytes_with c.write_part.new.pool c.in-Some.request) (sym c.write_part.ensures.bytes)
              ∙ ap (λ w. w ∷ []) (sym (c.take_next-reply-then-from-count.ensures.shown
              ∙ ap (gone_on_as c.in-Some.request.number
              (grown (bytes_with c.write_part.new.pool c.in-Some.request)))
              c.write_part.ensures.shown));
          by_service = tt;
          grew = grew-none g.R.Recorder.log c.args.rec.now;
        };
        reply = rw (next.in_turn, ← next.same)
            c.take_next-reply-then-from-count.ensures.replies.reply;
        give = tt;
        no_bytes = tt;
        service = refl;
        session = tt;
        pool = tt;
        all_served = c.take_next-reply-then-from-count.ensures.replies.stays.served
            g.V.Service.mode_of c.requires.serving.all_served;
        places = places-then c.write_part.ensures.stays.places
            c.take_next-reply-then-from-count.ensures.replies.stays.places;
      };
      replies = (stays-then c.write_part.ensures.stays
          c.take_next-reply-then-from-count.ensures.replies.stays).replies tx.items;
      short = λ inline last fits same. cc;
    }

pub returns-then-is_background-clause-does : goal.returns-then-is_background-clause-does
returns-then-is_background-clause-does g c = λ tx.
    let found = sym c.in-Some.ensures in
    let next = rw found at c.requires.next in
    let part = next.part (sym c.is_rfr.ensures ∙ c.if-is_rfr.false) in
    let kept = found-holds (is_in_slot (c.args.head.now.request % 8))
    (IsKept c.write_part.new.pool) c.args.self.now.slots c.in-Some.request
    c.write_part.ensures.stays.places.keeps_pool.kept found in
    let bytes = bytes_with c.write_part.new.pool c.in-Some.request in
    let asked = asked-gone c.args.pool.now c.args.self.now c.in-Some.request c.args.head.now
    c.requires.ready.session found next.same c.args.body.now bytes
    (sym c.write_part.ensures.bytes) in
    let ask_is = c.bytes-whole.ensures.message
    ∙ whole-bytes c.write_part.new.pool c.in-Some.request c.in-Some-ask.place
    c.get.result.now kept (sym c.in-Some-ask.ensures) c.get.ensures
    (omega (arith, c.if-from-count.false, c.from.ensures, c.count.ensures)) in
    let own = whole-bytes c.write_part.new.pool c.in-Some.request c.in-Some-ask.place
    c.take_working-ask.result kept (sym c.in-Some-ask.ensures)
    c.take_working-ask.ensures.ask (omega
    (arith, c.if-from-count.false, c.from.ensures, c.count.ensures)) in
    let kind = sym c.is_rfr.ensures ∙ c.if-is_rfr.false in
    let last : c.args.head.now.number + 1 ≡ packet_count c.args.head.now.size =
    rw part.size (omega (
      arith,
      part.within,
      next.in_turn,
      c.if-from-count.false,
      c.from.ensures,
      c.count.ensures,
    )) in
    record {
      taken = last-job c.args.mode c.args.head.now kind last
          (sym c.is_background.ensures ∙ c.if-is_background.true);
      ring_is = refl;
      leaves = record {
        handled = record {
          answer = [];
          steps = gave-gone c.args.pool.now c.args.self.now c.in-Some.request c.args.head.now
              c.requires.ready.session found next.same c.args.body.now
              (bytes_with c.write_part.new.pool c.in-Some.request) (sym c.write_part.ensures.bytes)
              ∙ ap (λ w. w ∷ []) (sym (c.take_working-ask.ensures.shown
              ∙ ap (gone_on_as c.in-Some.request.number (λ x. given (grown [] x)))
              c.write_part.ensures.shown));
          by_service = tt;
          grew = grew-none g.R.Recorder.log c.args.rec.now;
        };
        reply = tt;
        give = rw c.parcel.ensures (record {
          session = c.take_working-ask.ensures.number;
          request = refl;
          req_type = refl;
          ask = own ∙ sym asked;
          room = λ served stands. rw (own, ← ask_is, c.in-Ok.ensures.room.0)
              (c.room-size.ensures.length served stands);
          most = rw c.in-Ok.ensures.room.0 c.room-size.ensures.most;
        });
        no_bytes = tt;
        service = refl;
        session = tt;
        pool = tt;
        all_served = c.take_working-ask.ensures.stays.served g.V.Service.mode_of
            c.requires.serving.all_served;
        places = places-then c.write_part.ensures.stays.places
            c.take_working-ask.ensures.stays.places;
      };
      replies = (stays-then c.write_part.ensures.stays
          c.take_working-ask.ensures.stays).replies tx.items;
      short = λ inline last fits same. cc;
    }

pub returns-clause-does : goal.returns-clause-does
returns-clause-does g c = λ tx.
    let found = sym c.in-Some.ensures in
    let next = rw found at c.requires.next in
    let part = next.part (sym c.is_rfr.ensures ∙ c.if-is_rfr.false) in
    let kept = found-holds (is_in_slot (c.args.head.now.request % 8))
    (IsKept c.write_part.new.pool) c.args.self.now.slots c.in-Some.request
    c.write_part.ensures.stays.places.keeps_pool.kept found in
    let bytes = bytes_with c.write_part.new.pool c.in-Some.request in
    let asked = asked-gone c.args.pool.now c.args.self.now c.in-Some.request c.args.head.now
    c.requires.ready.session found next.same c.args.body.now bytes
    (sym c.write_part.ensures.bytes) in
    let own = whole-bytes c.write_part.new.pool c.in-Some.request c.in-Some-ask.place
    c.take_working-ask-2.result kept (sym c.in-Some-ask.ensures)
    c.take_working-ask-2.ensures.ask (omega
    (arith, c.if-from-count.false, c.from.ensures, c.count.ensures)) in
    let ran = c.run-reply.ensures.runs in
    let answer = bytes_of ran.buf in
    let put = rw c.last_given.ensures at c.put_room-answer.ensures in
    let held = ran-once put ran in
    let last : c.args.head.now.number + 1 ≡ packet_count c.in-Some.request.size =
    omega (
      arith,
      part.within,
      next.in_turn,
      c.if-from-count.false,
      c.from.ensures,
      c.count.ensures,
    ) in
    let gives = held.replies c.args.head.now.number last in
    let v = shown c.args.pool.now c.args.self.now in
    let before : shown c.take_working-ask-2.new.pool c.take_working-ask-2.new.self
    ≡ gone_on_as c.in-Some.request.number (λ x. given (grown [] x)) v =
    c.take_working-ask-2.ensures.shown ∙ ap
    (gone_on_as c.in-Some.request.number (λ x. given (grown [] x)))
    c.write_part.ensures.shown in
    let same = c.bytes.ensures.message ∙ own ∙ sym asked in
    let kind = sym c.is_rfr.ensures ∙ c.if-is_rfr.false in
    let whole : c.args.head.now.number + 1 ≡ packet_count c.args.head.now.size =
    rw part.size last in
    record {
      taken = last-inline c.args.mode c.args.head.now kind whole
          (sym c.is_background.ensures ∙ c.if-is_background.false);
      ring_is = refl;
      leaves = record {
        handled = record {
          answer = answer;
          steps = ran-gone c.args.pool.now c.args.self.now c.in-Some.request c.args.head.now
              c.requires.ready.session found next.same c.args.body.now bytes
              (sym c.write_part.ensures.bytes) answer ∙ ap (λ w. w ∷ []) (sym
              ((rw next.same at held.shown_is)
              ∙ ap (gone_on_as c.args.head.now.request (answered answer)) before));
          by_service = rw same at ran.by_service;
          grew = rw (same, put.number, c.take_working-ask-2.ensures.number) at ran.grew;
        };
        reply = rw (c.run-reply.ensures.reply, ← next.same) gives.reply;
        give = tt;
        no_bytes = rw (← next.same) held.no_bytes;
        service = tt;
        session = tt;
        pool = tt;
        all_served = gives.stays.served g.V.Service.mode_of
            (c.take_working-ask-2.ensures.stays.served g.V.Service.mode_of
            c.requires.serving.all_served);
        places = places-then c.write_part.ensures.stays.places (places-then
            c.take_working-ask-2.ensures.stays.places gives.stays.places);
      };
      replies = rw (c.run-reply.ensures.reply, ← next.same) ((stays-then c.write_part.ensures.stays
          (stays-then c.take_working-ask-2.ensures.stays gives.stays)).replies tx.items);
      short = λ inline last fits same. cc;
    }

pub returns-in_default-make_answer-clause-does : goal.returns-in_default-make_answer-clause-does
returns-in_default-make_answer-clause-does g c = λ tx.
    let next = rw (sym c.in-Some.ensures) at c.requires.next in
    let kind = sym c.is_rfr.ensures ∙ c.if-is_rfr.false in
    let part = next.part kind in
    let last : c.args.head.now.number + 1 ≡ packet_count c.args.head.now.size =
    rw part.size (omega (
      arith,
      part.within,
      next.in_turn,
      c.if-from-count.false,
      c.from.ensures,
      c.count.ensures,
    )) in
    takes-none (last-whole c.args.head.now kind last) c.write_part.ensures.shown
    c.write_part.ensures.uses c.write_part.ensures.stays c.requires.serving.all_served
    (λ inline is_last fits same.
    is-given c.args.mode (sym c.is_background.ensures ∙ c.if-is_background.true) inline)

pub returns-in_default-of-clause-does : goal.returns-in_default-of-clause-does
returns-in_default-of-clause-does g c = λ tx.
    let found = sym c.in-Some.ensures in
    let next = rw found at c.requires.next in
    let kept = found-holds (is_in_slot (c.args.head.now.request % 8))
    (IsKept c.write_part.new.pool) c.args.self.now.slots c.in-Some.request
    c.write_part.ensures.stays.places.keeps_pool.kept found in
    let part = next.part (sym c.is_rfr.ensures ∙ c.if-is_rfr.false) in
    let turn = found-holds (is_in_slot (c.args.head.now.request % 8)) IsInTurn c.args.self.now.slots
    c.in-Some.request c.requires.ready.session.in_turn found in
    let several : (packet_count c.args.head.now.size == 1) ≡ false =
    ne_eqb (packet_count c.args.head.now.size) 1
    (λ one. absurd (omega (arith, rw part.size at one, part.within, next.in_turn, turn.some))) in
    let bytes = bytes_with c.write_part.new.pool c.in-Some.request in
    let asked = asked-gone c.args.pool.now c.args.self.now c.in-Some.request c.args.head.now
    c.requires.ready.session found next.same c.args.body.now bytes
    (sym c.write_part.ensures.bytes) in
    let ask_is = c.bytes-whole.ensures.message
    ∙ whole-bytes c.write_part.new.pool c.in-Some.request c.in-Some-ask.place
    c.get.result.now kept (sym c.in-Some-ask.ensures) c.get.ensures
    (omega (arith, c.if-from-count.false, c.from.ensures, c.count.ensures)) in
    let last : c.args.head.now.number + 1 ≡ packet_count c.args.head.now.size =
    rw part.size (omega (
      arith,
      part.within,
      next.in_turn,
      c.if-from-count.false,
      c.from.ensures,
      c.count.ensures,
    )) in
    let kind = sym c.is_rfr.ensures ∙ c.if-is_rfr.false in
    takes-none (last-whole c.args.head.now kind last) c.write_part.ensures.shown
    c.write_part.ensures.uses c.write_part.ensures.stays c.requires.serving.all_served
    (λ inline is_last fits same. is-long g.V.Service.answer
    (g.V.Service.stands c.args.service.now) c.args.head.now.req_type bytes c.room-size.result c.requires.serving.founded
    (rw ask_is at c.room-size.ensures.length) c.in_default-of.ensures.long
    (rw (several, asked) at fits))
