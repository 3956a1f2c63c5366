use Rattle.std.proofs.Common.{Some, false, true, refl, arith}
use Rattle.rpc_base.specs.declared.event.Event.TheVariants.{Accepted}
use Rattle.rpc_laws.specs.declared.rows.ControlRow.TheVariants.{Accepts, Starves}
use Rattle.memory_count.proofs.Risen.{none-risen-by, one-risen}
use Rattle.node_steps.specs.Changes.{◌⟶◌}
use Rattle.node_steps.specs.Handed.{timed_of}
use Rattle.node_steps.proofs.ControlRows.{acts-controls, acts-noted}
use Rattle.node_control.proofs.control.requests.accept_session.Goals as goal

pub returns-in-Ok : goal.returns-in-Ok
returns-in-Ok g c = record {
  makes = let s = timed_of c.args.node.now in
      let t = timed_of c.add_accepted.new.node in
      let h = c.args.head.now in
      let n = s.lists.server_numbers in
      rw c.in-Ok.ensures.number (acts-controls g.R.Recorder.log c.args.rec.now
      c.add_accepted.new.rec c.args.peer h (Accepts n) s t
      (c.args.memory.now ⟶ c.add_accepted.new.memory) false (c.requires.row false)
      (none-risen-by _ _ (omega (arith, c.in-Ok.ensures.cause)))
      (acts-noted g.R.Recorder.log c.args.rec.now c.add_accepted.new.rec c.args.peer h (Accepts n)
      s t (λ l. Some (Accepted l.server_numbers c.args.peer h.client h.credits h.from_life))
      (Accepted n c.args.peer h.client h.credits h.from_life) (λ asks. refl) (λ asks. refl)
      c.in-Ok.ensures.makes));
  rest = c.in-Ok.ensures.rest;
}

pub returns-in-Err : goal.returns-in-Err
returns-in-Err g c = record {
  makes = let s = timed_of c.args.node.now in
      let unchanged = c.in-Err.ensures.unchanged in
      rw unchanged.0 (acts-controls g.R.Recorder.log c.args.rec.now c.starve.new.rec c.args.peer
      c.args.head.now Starves s s (c.args.memory.now ⟶ c.add_accepted.new.memory) true
      (c.requires.row true) (one-risen _ _ c.in-Err.ensures.cause)
      (rw (unchanged.0, unchanged.1) at c.starve.ensures));
  rest = c.in-Err.ensures.rest;
}
