use Rattle.std.proofs.Common.{◌≡◌, Some, length, sym, ap, ◌∙◌}
use Rattle.message_buffer.specs.Buffer.{bytes_of}
use Rattle.message_buffer.specs.Lending.{rewritten}
use Rattle.message_buffer.specs.Messages.{HasSize, message_in}
use Rattle.message_buffer.proofs.MessageLemmas.{size-within}
use Rattle.server_core.proofs.PoolLemmas.{changed-there}
use Rattle.server_core.proofs.ServedLemmas.{served-bytes, served-own, served-size}
use Rattle.server_core.proofs.session.ServerSession.run.Goals as goal

pub serve-requires-clause-room : goal.serve-requires-clause-room
serve-requires-clause-room g c = λ served stands.
    let long = size-within _ c.get_mut-buffer.result.now c.args.answer.size
    c.requires.room.stored.size c.get_mut-buffer.ensures.buffer in
    c.requires.serves.room served stands ∙ sym (c.whole_mut.ensures.len ∙ long)

pub returns-clause-runs : goal.returns-clause-runs
returns-clause-runs g c =
    let size = c.args.answer.size in
    let p = c.args.answer.place in
    let pool = c.args.pool.now in
    let b = c.get_mut-buffer.result.now in
    let there = c.get_mut-buffer.ensures.buffer in
    let out = c.serve.new.out in
    let (served, stand) = c.requires.serves.founded in
    let long : length out ≡ size =
    ap length (c.serve.ensures.answer served stand) ∙ c.requires.serves.room served stand in
    let sized : HasSize size (Some b) = rw there at c.requires.room.stored.size in
    let bytes = served-bytes out b size sized long in
    let same : bytes_of c.get.result.now ≡ bytes_of (rewritten out b) =
    ap message_in (sym c.get.ensures ∙ changed-there p b (rewritten out b) pool there) in
    record {
      buf = rewritten out b;
      pool_is = c.hold.ensures;
      size_is = served-size out b size sized long;
      own = λ e. served-own out b size sized long (rw there at (c.requires.room.stored.own e));
      by_service = λ some stands. (
        bytes ∙ c.serve.ensures.answer some stands,
        c.serve.ensures.next some stands,
      );
      grew = rw (c.bytes.ensures.message, same) at c.note_ran.ensures;
    }
