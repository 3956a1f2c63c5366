use Rattle.std.specs.Prelude.{slice_get}
use Rattle.node_steps.proofs.DueLemmas.{session-asks, session-by}
use Rattle.endpoint_node.proofs.node.Node.is_session_due.Goals as goal

pub returns-then-is_request_due : goal.returns-then-is_request_due
returns-then-is_request_due c =
    let s = c.args.self.now.lists in
    session-asks c.args.at s.timeout c.args.i s.queued (slice_get s.clients c.args.i)
    (rw c.if-is_request_due.true at c.is_request_due.ensures)

pub returns : goal.returns
returns c =
    let s = c.args.self.now.lists in
    session-by c.args.at s.timeout c.args.i s.queued c.is_call_due.result
    (slice_get s.clients c.args.i) (rw c.if-is_request_due.false at c.is_request_due.ensures)
    c.is_call_due.ensures
