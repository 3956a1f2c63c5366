use Rattle.std.proofs.Common.{◌≡◌, ◌∙◌, [], drop, refl, arith}
use Rattle.server_core.specs.Serving.{all_given_up}
use Rattle.std.proofs.Math.ListN.{drop_of_length-le}
use Rattle.server_core.proofs.GivenLemmas.{front-beside, next-front, unheld-rest}
use Rattle.server_core.proofs.PlaceLemmas.{gone-keeps}
use Rattle.server_core.proofs.CountLemmas.{all-refs}
use Rattle.server_core.proofs.OtherLemmas.{all-others}
use Rattle.server_core.proofs.SpareLemmas.{all-spare}
use Rattle.server_core.proofs.session.ServerSession.finish.Goals as goal

pub empty_buffers-own-requires-clause-apart : goal.empty_buffers-own-requires-clause-apart
empty_buffers-own-requires-clause-apart c = λ p.
    let front = next-front c.as_slice-request-items.result.now c.loop-request.request-index
    c.request-item.result c.loop-request-test.true c.request-item.is in
    let beside = front-beside c.loop-request.pool c.request-item.result _
    (rw front at c.loop-request.invariant.keeps) in
    omega (arith, beside.apart p)

pub loop-request-preserved : goal.loop-request-preserved
loop-request-preserved c =
    let front = next-front c.as_slice-request-items.result.now c.loop-request.request-index
    c.request-item.result c.loop-request-test.true c.request-item.is in
    let beside = front-beside c.loop-request.pool c.request-item.result _
    (rw front at c.loop-request.invariant.keeps) in
    let unheld = rw front at c.loop-request.invariant.unheld in
    rw c.empty_buffers-own.ensures.pool (record {
      left = rw front at c.loop-request.invariant.left;
      keeps = gone-keeps c.loop-request.pool c.request-item.result _ beside;
      unheld = unheld-rest c.loop-request.pool c.request-item.result _ beside unheld.1;
    })

pub returns : goal.returns
returns c =
    let slots = c.args.self.slots in
    let pool = c.args.pool.now in
    let keeps = c.requires.keeps_pool in
    let none : drop c.loop-request.request-index c.as_slice-request-items.result.now ≡ [] =
    drop_of_length-le c.as_slice-request-items.result.now {i = c.loop-request.request-index}
    c.loop-request-test.false in
    let left : c.loop-request.pool ≡ all_given_up slots pool = rw none at c.loop-request.invariant.left in
    rw left (record {
      pool = refl;
      spare = all-spare pool slots keeps c.requires.unheld;
      others = all-others pool slots;
      counts = λ entries counts p. all-refs pool slots p keeps c.requires.unheld ∙ counts p;
    })
