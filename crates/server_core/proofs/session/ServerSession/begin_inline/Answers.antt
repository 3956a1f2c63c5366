use Rattle.std.proofs.Common.{ap, ◌∙◌, arith}
use Rattle.message_buffer.specs.Buffer.{bytes_of}
use Rattle.rpc_laws.specs.Requests.{answered}
use Rattle.server_core.specs.Steps.{gone_on_as}
use Rattle.server_core.proofs.StaysLemmas.{begins-then}
use Rattle.server_core.proofs.session.ServerSession.begin_inline.Goals as goal

pub begin_working-requires : goal.begin_working-requires
begin_working-requires c = c.requires.begins.whole

pub put_room-requires-clause-awaited : goal.put_room-requires-clause-awaited
put_room-requires-clause-awaited c = rw c.given.ensures c.begin_working.ensures.awaited

pub returns : goal.returns
returns c =
    let put = rw c.given.ensures at c.put_room.ensures in
    record {
      room = put.room;
      size_is = put.size_is;
      number = put.number ∙ c.begin_working.ensures.number;
      once = λ b fits own.
          let held = put.once b fits own in
          let gives = held.replies 0 (omega (arith, c.requires.begins.whole.one)) in
          record {
            shown_is = held.shown_is
                ∙ ap (gone_on_as c.args.head.now.request (answered (bytes_of b)))
                c.begin_working.ensures.shown;
            no_bytes = held.no_bytes;
            replies = record {
              reply = gives.reply;
              begins = begins-then c.begin_working.ensures.begins gives.stays;
            };
          };
    }
