use Rattle.std.proofs.Common.{◌≡◌, None, [], ◌∷◌, refl, sym, ap, ◌∙◌, arith}
use Rattle.std.proofs.lemmas.Bool.{eq-eqb}
use Rattle.message_buffer.specs.Buffer.{bytes_of}
use Rattle.packet_header.specs.Parts.{packet_count}
use Rattle.packet_header.proofs.PartsLemmas.{packet_count_above}
use Rattle.rpc_laws.specs.Requests.{answered, given}
use Rattle.server_core.specs.Shown.{shown}
use Rattle.server_core.specs.Steps.{begun_with, first_shown, gone_on_as}
use Rattle.server_core.proofs.FlushLemmas.{grew-none, grew-then}
use Rattle.server_core.proofs.StepLemmas.{asked-begun, first-took, gave-begun, none-shown}
use Rattle.server_core.proofs.HandlingLemmas.{begins-none, ran-once}
use Rattle.server_core.proofs.StepLemmas.{is-inline, last-inline, last-job, ran-whole, took-begun}
use Rattle.server_core.proofs.StepLemmas.{whole-first}
use Rattle.server_core.proofs.ShortLemmas.{is-given, is-long, more-come, not-last}
use Rattle.server_core.proofs.session.ServerSession.begin.Goals as goal
use Rattle.server_core.proofs.StaysLemmas.{places-then, replies-then}

pub make_message-requires-clause-first : goal.make_message-requires-clause-first
make_message-requires-clause-first g c =
    omega (arith, c.requires.ready.beginning.long)

pub returns-then-count-gt1-clause-does : goal.returns-then-count-gt1-clause-does
returns-then-count-gt1-clause-does g c =
    let v = shown c.args.pool.now c.args.self.now in
    let none = none-shown c.args.pool.now c.args.self.now c.args.head.now.request c.requires.ready.session
    c.requires.ready.beginning.newer in
    record {
      taken = not-last c.args.head.now (omega (
        arith,
        c.if-count-gt1.true,
        c.count.ensures,
        c.requires.ready.beginning.first,
      ));
      ring_is = c.flush_older.ensures.ring;
      leaves = record {
        handled = record {
          answer = [];
          steps = took-begun v c.args.head.now c.args.body.now none
              ∙ ap (λ x. begun_with x v ∷ []) (first-took c.args.head.now c.args.body.now
              c.in-Ok.ask c.in-Ok.ensures.message c.requires.ready.beginning.long)
              ∙ ap (λ w. w ∷ []) (sym (c.begin_first-reply.ensures.shown
              ∙ ap (begun_with _) c.flush_older.ensures.shown));
          by_service = tt;
          grew = grew-then g.R.Recorder.log c.args.rec.now c.flush_older.new.rec
              c.flush_older.new.rec _ [] c.flush_older.ensures.noted
              (grew-none g.R.Recorder.log c.flush_older.new.rec);
        };
        reply = rw c.requires.ready.beginning.first c.begin_first-reply.ensures.replies.reply;
        give = tt;
        no_bytes = tt;
        service = refl;
        session = tt;
        pool = tt;
        all_served = c.begin_first-reply.ensures.replies.begins.served g.V.Service.mode_of
            (rw c.requires.serving.mode c.requires.served) c.requires.serving.all_served;
        places = places-then c.flush_older.ensures.places
            c.begin_first-reply.ensures.replies.begins.places;
      };
      replies = replies-then c.flush_older.ensures.replies
          (c.begin_first-reply.ensures.replies.begins.replies c.flush_older.new.tx.items);
      short = λ inline last fits same. cc;
    }

pub returns-then-is_background-clause-does : goal.returns-then-is_background-clause-does
returns-then-is_background-clause-does g c =
    let v = shown c.args.pool.now c.args.self.now in
    let none = none-shown c.args.pool.now c.args.self.now c.args.head.now.request c.requires.ready.session
    c.requires.ready.beginning.newer in
    let one : packet_count c.args.head.now.size ≡ 1 =
    omega (
      arith,
      c.if-count-gt1.false,
      c.count.ensures,
      packet_count_above c.args.head.now.size,
    ) in
    let own = whole-first c.args.head.now.size c.args.body.now c.in-Ok-make_message.ask
    c.in-Ok-make_message.ensures.message c.requires.ready.beginning.long one in
    record {
      taken = last-job c.args.mode c.args.head.now c.requires.ready.beginning.kind
          (omega (arith, c.requires.ready.beginning.first, one))
          (sym c.is_background.ensures ∙ c.if-is_background.true);
      ring_is = c.flush_older-then-is_background.ensures.ring;
      leaves = record {
        handled = record {
          answer = [];
          steps = gave-begun v c.args.head.now c.args.body.now none
              ∙ ap (λ w. w ∷ []) (sym (c.begin_working.ensures.shown
              ∙ ap (begun_with _) c.flush_older-then-is_background.ensures.shown));
          by_service = tt;
          grew = grew-then g.R.Recorder.log c.args.rec.now
              c.flush_older-then-is_background.new.rec c.flush_older-then-is_background.new.rec _ []
              c.flush_older-then-is_background.ensures.noted
              (grew-none g.R.Recorder.log c.flush_older-then-is_background.new.rec);
        };
        reply = tt;
        give = rw c.parcel.ensures (record {
          session = c.begin_working.ensures.number;
          request = refl;
          req_type = refl;
          ask = own ∙ sym (asked-begun v c.args.head.now c.args.body.now none);
          room = λ served stands. rw own (c.in-Ok-make_room.ensures.room served stands);
          most = c.in-Ok-make_room.ensures.message.0;
        });
        no_bytes = tt;
        service = refl;
        session = tt;
        pool = tt;
        all_served = c.begin_working.ensures.begins.served g.V.Service.mode_of
            (rw c.requires.serving.mode c.requires.served) c.requires.serving.all_served;
        places = places-then c.flush_older-then-is_background.ensures.places
            c.begin_working.ensures.begins.places;
      };
      replies = replies-then c.flush_older-then-is_background.ensures.replies
          (c.begin_working.ensures.begins.replies c.flush_older-then-is_background.new.tx.items);
      short = λ inline last fits same. cc;
    }

pub run-reply-requires-clause-serves : goal.run-reply-requires-clause-serves
run-reply-requires-clause-serves g c =
    record {
      inline = rw c.requires.serving.mode (is-inline c.args.mode c.requires.served
          (sym c.is_background.ensures ∙ c.if-is_background.false));
      room = λ served stands. c.room-2.ensures.length served stands
          ∙ sym (c.begin_inline-answer.ensures.size_is ∙ c.in-Ok-of.ensures.size);
      founded = c.requires.serving.founded;
    }

pub returns-clause-does : goal.returns-clause-does
returns-clause-does g c =
    let v = shown c.args.pool.now c.args.self.now in
    let none = none-shown c.args.pool.now c.args.self.now c.args.head.now.request c.requires.ready.session
    c.requires.ready.beginning.newer in
    let ran = c.run-reply.ensures.runs in
    let answer = bytes_of ran.buf in
    let began = ran-once c.begin_inline-answer.ensures ran in
    let asked = asked-begun v c.args.head.now c.args.body.now none in
    let one : packet_count c.args.head.now.size ≡ 1 =
    omega (
      arith,
      c.if-count-gt1.false,
      c.count.ensures,
      packet_count_above c.args.head.now.size,
    ) in
    record {
      taken = last-inline c.args.mode c.args.head.now c.requires.ready.beginning.kind
          (omega (arith, c.requires.ready.beginning.first, one))
          (sym c.is_background.ensures ∙ c.if-is_background.false);
      ring_is = c.flush_older-2.ensures.ring;
      leaves = record {
        handled = record {
          answer = answer;
          steps = ran-whole v c.args.head.now c.args.body.now answer none
              ∙ ap (λ w. w ∷ []) (sym (began.shown_is
              ∙ ap (λ x. gone_on_as c.args.head.now.request (answered answer)
              (begun_with (given (first_shown c.args.head.now [] None)) x))
              c.flush_older-2.ensures.shown));
          by_service = rw asked ran.by_service;
          grew = rw asked (grew-then g.R.Recorder.log c.args.rec.now
              c.flush_older-2.new.rec c.run-reply.new.rec _ _
              c.flush_older-2.ensures.noted
              (rw c.begin_inline-answer.ensures.number at ran.grew));
        };
        reply = rw (c.run-reply.ensures.reply, c.requires.ready.beginning.first)
            began.replies.reply;
        give = tt;
        no_bytes = began.no_bytes;
        service = tt;
        session = tt;
        pool = tt;
        all_served = began.replies.begins.served g.V.Service.mode_of
            (rw c.requires.serving.mode c.requires.served) c.requires.serving.all_served;
        places = places-then c.flush_older-2.ensures.places began.replies.begins.places;
      };
      replies = rw (c.run-reply.ensures.reply, c.requires.ready.beginning.first) (replies-then
          c.flush_older-2.ensures.replies
          (began.replies.begins.replies c.flush_older-2.new.tx.items));
      short = λ inline last fits same. cc;
    }

pub returns-in_default-clause-does : goal.returns-in_default-clause-does
returns-in_default-clause-does g c =
    begins-none c.requires.serving.all_served c.requires.ready.keeps_pool (λ inline last fits same.
    more-come c.args.head.now (omega (
      arith,
      c.if-count-gt1.true,
      c.count.ensures,
      c.requires.ready.beginning.first,
    )) last)

pub returns-in_default-make_room-clause-does : goal.returns-in_default-make_room-clause-does
returns-in_default-make_room-clause-does g c =
    begins-none c.requires.serving.all_served c.requires.ready.keeps_pool (λ inline last fits same.
    is-given c.args.mode (sym c.is_background.ensures ∙ c.if-is_background.true) inline)

pub returns-in_default-make_message-clause-does : goal.returns-in_default-make_message-clause-does
returns-in_default-make_message-clause-does g c =
    begins-none c.requires.serving.all_served c.requires.ready.keeps_pool (λ inline last fits same.
    is-given c.args.mode (sym c.is_background.ensures ∙ c.if-is_background.true) inline)

pub returns-in_default-of-clause-does : goal.returns-in_default-of-clause-does
returns-in_default-of-clause-does g c =
    let one : packet_count c.args.head.now.size ≡ 1 =
    omega (
      arith,
      c.if-count-gt1.false,
      c.count.ensures,
      packet_count_above c.args.head.now.size,
    ) in
    begins-none c.requires.serving.all_served c.requires.ready.keeps_pool (λ inline last fits same.
    is-long g.V.Service.answer (g.V.Service.stands c.args.service.now) c.args.head.now.req_type
    c.args.body.now c.room-2.result c.requires.serving.founded c.room-2.ensures.length
    c.in_default-of.ensures.long (rw (eq-eqb (packet_count c.args.head.now.size) 1 one) at fits))
