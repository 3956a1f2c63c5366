use Rattle.std.proofs.Common.{ap}
use Rattle.std.specs.Prelude.{slice_get}
use Rattle.std.specs.List.{AllByRecursion}
use Rattle.rpc_laws.specs.GoBackN.{row_of}
use Rattle.session_store.specs.Changes.{calls_in}
use Rattle.node_steps.specs.Due.{CallRests}
use Rattle.node_steps.proofs.DueLemmas.{idle-rests, in-calls, known-all, known-none, known-told}
use Rattle.node_steps.proofs.DueLemmas.{next-late, next-rests}
use Rattle.node_steps.proofs.TimerNext.{active-of, ascends-calls, next-calls, next-fewer}
use Rattle.node_steps.proofs.TimerNext.{next-none}
use Rattle.endpoint_node.proofs.node.Node.is_call_due.Goals as goal

pub calls-init : goal.calls-init
calls-init c = known-none _ (calls_in (slice_get c.args.self.now.lists.clients c.args.i))

pub calls-smaller : goal.calls-smaller
calls-smaller c =
    let same = ap (λ t. t.lists.clients) c.self.view_is in
    next-fewer c.calls.after c.args.i c.self.inside.store.clients c.args.self.now.lists.clients same
    c.self.invariant.0.ascends c.in-Some.active c.requires.known
    (rw c.in-Some.is at c.active.ensures)

pub is_active_due-requires : goal.is_active_due-requires
is_active_due-requires c =
    let same = ap (λ t. t.lists.clients) c.self.view_is in
    record {
      known = c.requires.known;
      active = active-of c.calls.after c.args.i c.args.self.now.lists.clients c.in-Some.active
          (ascends-calls c.args.i c.self.inside.store.clients c.args.self.now.lists.clients same
          c.self.invariant.0.ascends)
          (next-calls c.calls.after c.args.i c.self.inside.store.clients
          c.args.self.now.lists.clients same c.in-Some.active c.requires.known
          (rw c.in-Some.is at c.active.ensures));
    }

pub calls-preserved : goal.calls-preserved
calls-preserved c =
    let s = c.args.self.now.lists in
    let same = ap (λ t. t.lists.clients) c.self.view_is in
    let order = ascends-calls c.args.i c.self.inside.store.clients s.clients same
    c.self.invariant.0.ascends in
    let told = next-calls c.calls.after c.args.i c.self.inside.store.clients s.clients same
    c.in-Some.active c.requires.known (rw c.in-Some.is at c.active.ensures) in
    known-told (CallRests c.args.at s.timeout c.args.i s.queued)
    (idle-rests c.args.at s.timeout c.args.i s.queued) c.calls.after
    (calls_in (slice_get s.clients c.args.i)) c.in-Some.active order c.calls.invariant told
    (next-rests c.calls.after (λ p. row_of c.args.at s.timeout c.args.i s.queued p) c.in-Some.active
    (slice_get s.clients c.args.i) order told
    (rw c.if-is_active_due.false at c.is_active_due.ensures))

pub returns-then-is_active_due : goal.returns-then-is_active_due
returns-then-is_active_due c =
    let s = c.args.self.now.lists in
    let same = ap (λ t. t.lists.clients) c.self.view_is in
    let order = ascends-calls c.args.i c.self.inside.store.clients s.clients same
    c.self.invariant.0.ascends in
    let told = next-calls c.calls.after c.args.i c.self.inside.store.clients s.clients same
    c.in-Some.active c.requires.known (rw c.in-Some.is at c.active.ensures) in
    next-late c.calls.after (λ p. row_of c.args.at s.timeout c.args.i s.queued p) c.in-Some.active
    (slice_get s.clients c.args.i) order told
    (rw c.if-is_active_due.true at c.is_active_due.ensures)

pub returns : goal.returns
returns c =
    let s = c.args.self.now.lists in
    let same = ap (λ t. t.lists.clients) c.self.view_is in
    in-calls (AllByRecursion (CallRests c.args.at s.timeout c.args.i s.queued))
    (slice_get s.clients c.args.i)
    (known-all (CallRests c.args.at s.timeout c.args.i s.queued)
    (idle-rests c.args.at s.timeout c.args.i s.queued) c.calls.after
    (calls_in (slice_get s.clients c.args.i)) c.calls.invariant
    (next-none c.calls.after c.args.i c.self.inside.store.clients s.clients same c.requires.known
    (rw c.in_default.is at c.active.ensures)))
