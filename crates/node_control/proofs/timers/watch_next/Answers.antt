use Rattle.std.proofs.Common.{ap, refl, arith, length, List, ◌<◌}
use Rattle.std.specs.Prelude.{slice_get}
use Rattle.rpc_laws.specs.declared.tables.Client.{Client}
use Rattle.node_steps.proofs.TimerNext.{active-of, ascends-calls, next-calls, next-none}
use Rattle.node_steps.proofs.TimerNext.{number-none, number-some}
use Rattle.node_steps.proofs.LeavesSteps.{timed-none}
use Rattle.node_control.proofs.timers.watch_next.Goals as goal

pub returns-in_default-clause-looks : goal.returns-in_default-clause-looks
returns-in_default-clause-looks g c =
    let same = ap (λ t. t.lists.clients) c.node.view_is in
    let known : c.args.i < length c.args.node.now.lists.clients =
    omega (
      arith,
      c.if-i-clients.false,
      c.clients.ensures.count,
      ap (λ (xs : List Client). length xs) same,
    ) in (
      number-none c.args.after (slice_get c.args.node.now.lists.clients c.args.i)
          (next-none c.args.after c.args.i c.node.inside.store.clients
          c.args.node.now.lists.clients same known
          (rw c.in_default.is at c.active.ensures)),
      refl,
      refl,
      refl,
    )

pub returns-in_default-clause-order : goal.returns-in_default-clause-order
returns-in_default-clause-order g c =
    ascends-calls c.args.i c.node.inside.store.clients c.args.node.now.lists.clients
    (ap (λ t. t.lists.clients) c.node.view_is) c.node.invariant.0.ascends

pub watch_call-requires : goal.watch_call-requires
watch_call-requires g c =
    let same = ap (λ t. t.lists.clients) c.node.view_is in
    let known : c.args.i < length c.args.node.now.lists.clients =
    omega (
      arith,
      c.if-i-clients.false,
      c.clients.ensures.count,
      ap (λ (xs : List Client). length xs) same,
    ) in
    record {
      known = known;
      active = active-of c.args.after c.args.i c.args.node.now.lists.clients c.in-Some.active
          (ascends-calls c.args.i c.node.inside.store.clients c.args.node.now.lists.clients same
          c.node.invariant.0.ascends)
          (next-calls c.args.after c.args.i c.node.inside.store.clients
          c.args.node.now.lists.clients same c.in-Some.active known
          (rw c.in-Some.is at c.active.ensures));
    }

pub returns-clause-looks : goal.returns-clause-looks
returns-clause-looks g c =
    let same = ap (λ t. t.lists.clients) c.node.view_is in
    let known : c.args.i < length c.args.node.now.lists.clients =
    omega (
      arith,
      c.if-i-clients.false,
      c.clients.ensures.count,
      ap (λ (xs : List Client). length xs) same,
    ) in (
      number-some c.args.after (slice_get c.args.node.now.lists.clients c.args.i) c.in-Some.active
          (next-calls c.args.after c.args.i c.node.inside.store.clients
          c.args.node.now.lists.clients same c.in-Some.active known
          (rw c.in-Some.is at c.active.ensures)),
      c.watch_call.ensures.ended,
    )

pub returns-clause-order : goal.returns-clause-order
returns-clause-order g c =
    ascends-calls c.args.i c.node.inside.store.clients c.args.node.now.lists.clients
    (ap (λ t. t.lists.clients) c.node.view_is) c.node.invariant.0.ascends

pub returns-then-i-clients-clause-rest : goal.returns-then-i-clients-clause-rest
returns-then-i-clients-clause-rest g c = timed-none g.K.Continuation.given _ _

pub returns-in_default-clause-rest : goal.returns-in_default-clause-rest
returns-in_default-clause-rest g c = timed-none g.K.Continuation.given _ _
