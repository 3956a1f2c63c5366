use Rattle.std.proofs.lemmas.Result.{err_from_is_err_and}
use Rattle.std.proofs.lemmas.Grind.{common_steps}
use Rattle.std.proofs.lemmas.Bool.{false≢true}
use Rattle.std.proofs.Common.{◌∙◌, Some, ap, refl, arith, sym}
use Rattle.node_steps.proofs.NodeFits.{few-queued}
use Rattle.node_steps.proofs.LeavesSteps.{leaves-none, leaves-then}
use Rattle.node_steps.proofs.SendCounts.{held-busy, held-fault, held-none}
use Rattle.rpc_laws.specs.PollOrder.{Sends}
use Rattle.node_steps.proofs.NoteSteps.{none-comes, sent-more, sent-none, sent-still}
use Rattle.node_poll.proofs.sends.send_ready.Goals as goal

pub packets-init : goal.packets-init
packets-init g c = record {
  sent = sent-none g.R.Recorder.log g.L.Link.sent Sends _ _ _;
  busies = refl;
  faults = refl;
  lists = record { waits = refl; stays = refl };
  rest = leaves-none _;
  fewer = omega arith;
}

pub packets-preserved : goal.packets-preserved
packets-preserved g c =
    let i = c.packets.invariant in
    let whole = c.in-Some.is ∙ ap Some c.in-Whole.is in
    let went = c.in_ok-taken.ensures.sent whole in
    record {
      sent = sent-more g.R.Recorder.log g.L.Link.sent Sends _ _ _ _ _ _ _ _ _ i.sent
          went.0;
      busies = went.1 ∙ i.busies;
      faults = c.in_ok-taken.ensures.cause ∙ i.faults;
      lists = none-comes g.L.Link.waiting g.L.Link.received _ _ _ i.lists
          c.send_front.ensures.lists;
      rest = leaves-then _ _ _ i.rest c.send_front.ensures.rest;
      fewer = omega (arith, c.in_ok-taken.ensures.fewer whole, i.fewer);
    }

pub returns-in_err-taken : goal.returns-in_err-taken
returns-in_err-taken g c =
    let p = err_from_is_err_and c.from_residual.result c.from_residual.ensures.1 in
    rw p.1 (record {
      sent = sent-still g.R.Recorder.log g.L.Link.sent _ _ _ _ _ _ _ _ _ _
          c.packets.invariant.sent c.in_err-taken.ensures.fault.0;
      all = tt;
      busy = tt;
      count = tt;
      few = tt;
      held = held-fault _ _ _ _ _ _ _ c.packets.invariant.faults c.packets.invariant.busies
          c.in_err-taken.ensures.cause c.in_err-taken.ensures.fault.1;
      rest = leaves-then _ _ _ c.packets.invariant.rest c.send_front.ensures.rest;
      lists = none-comes g.L.Link.waiting g.L.Link.received _ _ _ c.packets.invariant.lists
          c.send_front.ensures.lists;
      cause = rw (← c.packets.invariant.faults) c.in_err-taken.ensures.cause;
    })

pub returns-in-Busy : goal.returns-in-Busy
returns-in-Busy g c = record {
  sent = sent-still g.R.Recorder.log g.L.Link.sent _ _ _ _ _ _ _ _ _ _
      c.packets.invariant.sent (c.in_ok-taken.ensures.busy (c.in-Some.is ∙ ap Some c.in-Busy.is)).0;
  all = λ no. absurd (false≢true (sym no));
  busy = λ _.
      rw (← c.packets.invariant.busies)
      (c.in_ok-taken.ensures.busy (c.in-Some.is ∙ ap Some c.in-Busy.is)).1;
  count = grind (arith, common_steps);
  few = omega (arith, c.queued-before.ensures, few-queued _ _ _ c.node.invariant.0);
  held = held-busy _ _ _ _ _ _ _ c.packets.invariant.faults c.packets.invariant.busies
      c.in_ok-taken.ensures.cause
      (c.in_ok-taken.ensures.busy (c.in-Some.is ∙ ap Some c.in-Busy.is)).1;
  rest = leaves-then _ _ _ c.packets.invariant.rest c.send_front.ensures.rest;
  lists = none-comes g.L.Link.waiting g.L.Link.received _ _ _ c.packets.invariant.lists
      c.send_front.ensures.lists;
  cause = c.in_ok-taken.ensures.cause ∙ c.packets.invariant.faults;
}

pub returns : goal.returns
returns g c = record {
  sent = sent-still g.R.Recorder.log g.L.Link.sent _ _ _ _ _ _ _ _ _ _
      c.packets.invariant.sent (c.in_ok-taken.ensures.over c.in_default.is).1;
  all = λ _.
      let over = c.in_ok-taken.ensures.over c.in_default.is in
      (over.0, over.2 ∙ c.packets.invariant.busies);
  busy = λ yes. absurd (false≢true yes);
  count = grind (arith, common_steps);
  few = omega (arith, c.queued-before.ensures, few-queued _ _ _ c.node.invariant.0);
  held = let over = c.in_ok-taken.ensures.over c.in_default.is in
      let faults = c.in_ok-taken.ensures.cause ∙ c.packets.invariant.faults in
      rw (over.0, faults, over.2 ∙ c.packets.invariant.busies) (held-none _);
  rest = leaves-then _ _ _ c.packets.invariant.rest c.send_front.ensures.rest;
  lists = none-comes g.L.Link.waiting g.L.Link.received _ _ _ c.packets.invariant.lists
      c.send_front.ensures.lists;
  cause = c.in_ok-taken.ensures.cause ∙ c.packets.invariant.faults;
}
