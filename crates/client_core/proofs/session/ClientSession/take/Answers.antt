use Rattle.std.proofs.Common.{◌≡◌, Some, sym, ◌∙◌}
use Rattle.client_core.specs.KeepsPool.{IsKept}
use Rattle.client_core.specs.Replies.{call_as, is_request}
use Rattle.client_core.proofs.AnswerLemmas.{answered-gone, answered-refs, keeps-written}
use Rattle.client_core.proofs.CallLemmas.{ends-last, ok-not-goes, ok-not-small, part-of, small-not-goes}
use Rattle.client_core.proofs.PlacesLemmas.{two-places}
use Rattle.client_core.proofs.CountLemmas.{counts-answered}
use Rattle.client_core.specs.Counting.{Counts}
use Rattle.client_core.proofs.session.ClientSession.take.Goals as goal
use Rattle.rpc_base.proofs.FirstLemmas.{found-holds}

pub write_part-requires-clause-kept : goal.write_part-requires-clause-kept
write_part-requires-clause-kept c =
    found-holds (is_request c.args.call.request)
    (IsKept c.args.pool.now) c.args.self.now.active c.args.call c.requires.call.keeps_pool.kept
    c.requires.call.active

pub write_part-requires-clause-part : goal.write_part-requires-clause-part
write_part-requires-clause-part c =
    let kept = found-holds (is_request c.args.call.request)
    (IsKept c.args.pool.now) c.args.self.now.active c.args.call c.requires.call.keeps_pool.kept
    c.requires.call.active in
    part-of c.args.pool.now c.args.call c.args.head.now _ kept c.requires.turn c.requires.taken
    (ok-not-small _ _ (sym c.in-EndsOk.ensures))

pub end-done-requires-clause-call : goal.end-done-requires-clause-call
end-done-requires-clause-call c =
    let kept = found-holds (is_request c.args.call.request)
    (IsKept c.args.pool.now) c.args.self.now.active c.args.call c.requires.call.keeps_pool.kept
    c.requires.call.active in
    let part = part-of c.args.pool.now c.args.call c.args.head.now _ kept c.requires.turn
    c.requires.taken (ok-not-small _ _ (sym c.in-EndsOk.ensures)) in
    record {
      keeps_pool = rw c.write_part.ensures (keeps-written c.args.pool.now c.args.call c.args.head.now
          c.args.body.now c.args.self.now.active c.requires.call.active c.requires.call.keeps_pool part);
      active = c.requires.call.active;
    }

pub end-done-requires-clause-unheld : goal.end-done-requires-clause-unheld
end-done-requires-clause-unheld c =
    let last = ends-last c.args.call c.args.head.now _ c.requires.turn c.requires.taken
    (ok-not-goes _ (sym c.in-EndsOk.ensures)) in
    rw c.write_part.ensures (answered-refs c.args.pool.now c.args.call c.args.head.now
    c.args.body.now c.args.call.ask ∙ c.requires.unheld last)

pub end-done-requires-in-EndsTooSmall-clause-unheld : goal.end-done-requires-in-EndsTooSmall-clause-unheld
end-done-requires-in-EndsTooSmall-clause-unheld c =
    c.requires.unheld (ends-last c.args.call c.args.head.now _ c.requires.turn c.requires.taken
    (small-not-goes _ _ (sym c.in-EndsTooSmall.ensures)))

pub returns-in-EndsOk-clause-replies : goal.returns-in-EndsOk-clause-replies
returns-in-EndsOk-clause-replies c =
    let apart = two-places (is_request c.args.call.request) c.args.call c.args.self.now.active
    c.requires.call.active (c.requires.call.keeps_pool.apart c.args.call.ask) in
    let found : call_as c.args.head.now.request c.args.self.now ≡ Some c.args.call =
    rw c.requires.of_call c.requires.call.active in (
      c.args.call,
      record {
        found = found;
        next = c.requires.taken.next;
        last = ends-last c.args.call c.args.head.now _ c.requires.turn c.requires.taken
            (ok-not-goes _ (sym c.in-EndsOk.ensures));
        ends = rw (← c.in-EndsOk.ensures) (rw c.write_part.ensures at c.end-done.ensures.done);
        session = c.end-done.ensures.session;
        pool = rw c.write_part.ensures at c.end-done.ensures.pool
            ∙ answered-gone c.args.pool.now c.args.call c.args.head.now c.args.body.now apart;
      },
    )

pub returns-in-EndsTooSmall-clause-replies : goal.returns-in-EndsTooSmall-clause-replies
returns-in-EndsTooSmall-clause-replies c =
    let found : call_as c.args.head.now.request c.args.self.now ≡ Some c.args.call =
    rw c.requires.of_call c.requires.call.active in (
      c.args.call,
      record {
        found = found;
        next = c.requires.taken.next;
        last = ends-last c.args.call c.args.head.now _ c.requires.turn c.requires.taken
            (small-not-goes _ _ (sym c.in-EndsTooSmall.ensures));
        ends = rw (← c.in-EndsTooSmall.ensures) c.end-done-in-EndsTooSmall.ensures.done;
        session = c.end-done-in-EndsTooSmall.ensures.session;
        pool = c.end-done-in-EndsTooSmall.ensures.pool;
      },
    )

pub returns-in-EndsOk-clause-still : goal.returns-in-EndsOk-clause-still
returns-in-EndsOk-clause-still c = record {
  counts = λ entries counts.
      let written : Counts c.write_part.new.pool entries =
      rw c.write_part.ensures (counts-answered c.args.pool.now entries c.args.call
      c.args.head.now c.args.body.now counts) in
      c.end-done.ensures.still.counts entries written;
  keeps_pool = c.end-done.ensures.still.keeps_pool;
}

pub returns-in-GoesOn-clause-still : goal.returns-in-GoesOn-clause-still
returns-in-GoesOn-clause-still c = c.go_on.ensures.still

pub returns-in-EndsTooSmall-clause-still : goal.returns-in-EndsTooSmall-clause-still
returns-in-EndsTooSmall-clause-still c = c.end-done-in-EndsTooSmall.ensures.still
