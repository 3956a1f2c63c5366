use Rattle.std.proofs.Common.{◌≡◌, refl, ap, ◌∙◌, arith}
use Rattle.message_buffer.specs.Buffer.{capacity_of}
use Rattle.buffer_pool.specs.Pool.{spare_of}
use Rattle.client_core.proofs.PoolLemmas.{first-buffer, second-buffer}
use Rattle.client_core.proofs.call.ActiveCall.start.Goals as goal
use Rattle.buffer_pool.proofs.CountLemmas.{spare_filled}

pub put-answer-requires : goal.put-answer-requires
put-answer-requires c =
    omega (
      arith,
      ap spare_of c.put-ask.ensures.pool,
      spare_filled c.args.pool.now _ c.args.waiting.req c.put-ask.ensures.place,
      c.requires,
    )

pub returns-clause-call : goal.returns-clause-call
returns-clause-call c =
    let second = rw c.put-ask.ensures.pool at c.put-answer.ensures.place in
    let ask_buffer = rw (c.put-answer.ensures.pool, c.put-ask.ensures.pool) at c.get.ensures in
    let answer_buffer = rw (c.put-answer.ensures.pool, c.put-ask.ensures.pool) at c.get-2.ensures in
    let len : c.len.result ≡ c.args.waiting.req.len =
    c.len.ensures.len ∙ ap (λ b. b.len)
    (first-buffer c.args.pool.now c.put-ask.result c.put-answer.result c.args.waiting.req
    c.args.waiting.resp c.put-ask.ensures.place second c.get.result.now ask_buffer) in
    let room : c.capacity.result ≡ capacity_of c.args.waiting.resp =
    c.capacity.ensures.capacity ∙ ap capacity_of
    (second-buffer c.args.pool.now c.put-ask.result c.put-answer.result c.args.waiting.req
    c.args.waiting.resp c.put-ask.ensures.place second c.get-2.result.now answer_buffer) in
    rw (len, room) refl
