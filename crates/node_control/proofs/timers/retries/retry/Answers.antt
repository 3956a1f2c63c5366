use Rattle.node_steps.proofs.LeavesSteps.{leaves-none}
use Rattle.std.proofs.Common.{◌≡◌, Some, None, sym, refl, arith}
use Rattle.rpc_laws.specs.declared.rows.RetryRow.TheVariants.{Asks, GivesUp, Rests}
use Rattle.rpc_laws.specs.declared.tables.Client.{Client}
use Rattle.rpc_laws.specs.ControlSteps.{own_request, retry_row}
use Rattle.node_steps.specs.Handed.{timed_of}
use Rattle.node_steps.proofs.TimerRetries.{known-at, of-known, retries-asks, retries-none}
use Rattle.node_steps.proofs.TimerRetries.{retries-over, retries-rest}
use Rattle.node_control.proofs.timers.retries.retry.Goals as goal

pub returns-in_default : goal.returns-in_default
returns-in_default g c = record {
  spoken = let s = timed_of c.args.node.now in
      let x = known-at s.lists.clients c.args.i c.requires.known in
      let own = of-known (λ y. None ≡ own_request s.lists.life y) s.lists.clients c.args.i x.0 x.1
      (rw c.in_default.is at c.own_request.ensures) in
      retries-none g.R.Recorder.log g.L.Link c.args.timeout c.args.i s x.0 x.1 (sym own) _ _;
  rest = leaves-none _;
  lists = record { waits = refl; stays = refl };
  few = omega arith;
}

pub returns-in-Rests : goal.returns-in-Rests
returns-in-Rests g c = record {
  spoken = let s = timed_of c.args.node.now in
      let x = known-at s.lists.clients c.args.i c.requires.known in
      let own = of-known (λ y. Some c.in-Some.head ≡ own_request s.lists.life y) s.lists.clients c.args.i x.0 x.1
      (rw c.in-Some.is at c.own_request.ensures) in
      let row = of-known (λ (y : Client). Rests ≡ retry_row s.clock c.args.timeout y.sends y.sent_at)
      s.lists.clients c.args.i x.0 x.1 (rw c.in-Rests.is at c.retry_row.ensures) in
      retries-rest g.R.Recorder.log g.L.Link c.args.timeout c.args.i s x.0 x.1 c.in-Some.head
      (sym own) (sym row) _ _;
  rest = leaves-none _;
  lists = record { waits = refl; stays = refl };
  few = omega arith;
}

pub returns-in-Asks : goal.returns-in-Asks
returns-in-Asks g c = record {
  spoken = let s = timed_of c.args.node.now in
      let x = known-at s.lists.clients c.args.i c.requires.known in
      let own = of-known (λ y. Some c.in-Some.head ≡ own_request s.lists.life y) s.lists.clients c.args.i x.0 x.1
      (rw c.in-Some.is at c.own_request.ensures) in
      let row = of-known (λ (y : Client). Asks ≡ retry_row s.clock c.args.timeout y.sends y.sent_at)
      s.lists.clients c.args.i x.0 x.1 (rw c.in-Asks.is at c.retry_row.ensures) in
      retries-asks g.R.Recorder.log g.L.Link c.args.timeout c.args.i s x.0 x.1 c.in-Some.head
      (sym own) (sym row) _ _ _ _ _ c.send_request.ensures.spoken;
  rest = c.send_request.ensures.rest;
  lists = c.send_request.ensures.lists;
  few = c.send_request.ensures.few;
}

pub returns-in-GivesUp : goal.returns-in-GivesUp
returns-in-GivesUp g c = record {
  spoken = let s = timed_of c.args.node.now in
      let x = known-at s.lists.clients c.args.i c.requires.known in
      let own = of-known (λ y. Some c.in-Some.head ≡ own_request s.lists.life y) s.lists.clients c.args.i x.0 x.1
      (rw c.in-Some.is at c.own_request.ensures) in
      let row = of-known (λ (y : Client). GivesUp
      ≡ retry_row s.clock c.args.timeout y.sends y.sent_at) s.lists.clients c.args.i x.0 x.1 (rw c.in-GivesUp.is at c.retry_row.ensures) in
      retries-over g.R.Recorder.log g.L.Link c.args.timeout c.args.i s x.0 x.1 c.in-Some.head
      (sym own) (sym row) _ _ _ _ c.give_up.ensures.makes;
  rest = c.give_up.ensures.rest;
  lists = record { waits = refl; stays = refl };
  few = omega arith;
}
