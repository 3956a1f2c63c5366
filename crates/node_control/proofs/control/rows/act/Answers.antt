use Rattle.std.proofs.Common.{false, Some, refl, ap, ◌∙◌}
use Rattle.rpc_base.specs.declared.event.Event.{Event}
use Rattle.rpc_base.specs.declared.event.Event.TheVariants.{ClosedHeard, FailedNoRoom}
use Rattle.rpc_base.specs.declared.event.Event.TheVariants.{Connected as IsConnected}
use Rattle.rpc_laws.specs.declared.rows.ControlRow.TheVariants.{Accepts, Closes, Connects}
use Rattle.rpc_laws.specs.declared.rows.ControlRow.TheVariants.{Fails}
use Rattle.session_mgmt.specs.Control.{starved_if}
use Rattle.memory_count.proofs.Risen.{none-risen}
use Rattle.node_steps.specs.Changes.{◌⟶◌}
use Rattle.node_steps.specs.Handed.{timed_of}
use Rattle.node_steps.proofs.ControlRows.{accepts-fits, acts-controls, acts-none, acts-noted}
use Rattle.node_steps.proofs.ControlRows.{asked-credits, closes-there, connects-there}
use Rattle.node_steps.proofs.ControlRows.{fails-there, named-below, wants-none}
use Rattle.node_control.proofs.control.rows.act.Goals as goal

pub returns-in-Ignores : goal.returns-in-Ignores
returns-in-Ignores g c = record {
  makes = let s = timed_of c.args.node.now in
      acts-controls g.R.Recorder.log c.args.rec.now c.args.rec.now c.args.peer c.args.head.now
      c.args.row s s
      (c.args.memory.now ⟶ c.args.memory.now) false (c.requires.row false)
      (wants-none c.args.memory.now _ _ c.in-Ignores.is refl)
      (acts-none g.R.Recorder.log c.args.rec.now
      c.args.peer c.args.head.now c.args.row s (λ asks. rw c.in-Ignores.is refl));
  rest = record { inbox = refl; jobs = refl; handed = refl };
}

pub returns-in-Confirms : goal.returns-in-Confirms
returns-in-Confirms g c = record {
  makes = let s = timed_of c.args.node.now in
      acts-controls g.R.Recorder.log c.args.rec.now c.args.rec.now c.args.peer c.args.head.now
      c.args.row s s
      (c.args.memory.now ⟶ c.args.memory.now) false (c.requires.row false)
      (wants-none c.args.memory.now _ _ c.in-Confirms.is refl)
      (acts-none g.R.Recorder.log c.args.rec.now
      c.args.peer c.args.head.now c.args.row s (λ asks. rw c.in-Confirms.is refl));
  rest = record { inbox = refl; jobs = refl; handed = refl };
}

pub returns-in-Misses : goal.returns-in-Misses
returns-in-Misses g c = record {
  makes = let s = timed_of c.args.node.now in
      acts-controls g.R.Recorder.log c.args.rec.now c.args.rec.now c.args.peer c.args.head.now
      c.args.row s s
      (c.args.memory.now ⟶ c.args.memory.now) false (c.requires.row false)
      (wants-none c.args.memory.now _ _ c.in-Misses.is refl)
      (acts-none g.R.Recorder.log c.args.rec.now
      c.args.peer c.args.head.now c.args.row s (λ asks. rw c.in-Misses.is refl));
  rest = record { inbox = refl; jobs = refl; handed = refl };
}

pub returns-in-Disowns : goal.returns-in-Disowns
returns-in-Disowns g c = record {
  makes = let s = timed_of c.args.node.now in
      acts-controls g.R.Recorder.log c.args.rec.now c.args.rec.now c.args.peer c.args.head.now
      c.args.row s s
      (c.args.memory.now ⟶ c.args.memory.now) false (c.requires.row false)
      (wants-none c.args.memory.now _ _ c.in-Disowns.is refl)
      (acts-none g.R.Recorder.log c.args.rec.now
      c.args.peer c.args.head.now c.args.row s (λ asks. rw c.in-Disowns.is refl));
  rest = record { inbox = refl; jobs = refl; handed = refl };
}

pub returns-in-Declines : goal.returns-in-Declines
returns-in-Declines g c = record {
  makes = let s = timed_of c.args.node.now in
      acts-controls g.R.Recorder.log c.args.rec.now c.decline.new.rec c.args.peer c.args.head.now
      c.args.row s s
      (c.args.memory.now ⟶ c.args.memory.now) false (c.requires.row false)
      (wants-none c.args.memory.now _ _ c.in-Declines.is refl)
      (rw c.in-Declines.is c.decline.ensures);
  rest = record { inbox = refl; jobs = refl; handed = refl };
}

pub unreachable-requires : goal.unreachable-requires
unreachable-requires g c = absurd (rw c.in-Starves.is at c.requires.cause)

pub accept_session-requires : goal.accept_session-requires
accept_session-requires g c =
    let cause = rw c.in-Accepts.is at c.requires.cause in
    let credits = asked-credits c.args.head.now cause.asked c.requires.in_range in
    record {
      row = λ lacks. c.requires.row lacks ∙ ap (starved_if lacks)
          (c.in-Accepts.is ∙ ap (λ t. Accepts t) cause.number);
      fits = accepts-fits c.args.peer c.args.head.now c.args.node.now.lists cause.fits;
      in_range = c.requires.in_range;
      some = credits.0;
      most = credits.1;
    }

pub returns-in-Ends : goal.returns-in-Ends
returns-in-Ends g c = record {
  makes = acts-controls g.R.Recorder.log c.args.rec.now c.end_named.new.rec c.args.peer c.args.head.now
      c.args.row (timed_of c.args.node.now) (timed_of c.end_named.new.node)
      (c.args.memory.now ⟶ c.args.memory.now) false
      (c.requires.row false) (wants-none c.args.memory.now _ _ c.in-Ends.is refl)
      (rw c.in-Ends.is c.end_named.ensures.makes);
  rest = c.end_named.ensures.rest;
}

pub connect_session-requires : goal.connect_session-requires
connect_session-requires g c =
    let cause = rw c.in-Connects.is at c.requires.cause in
    let there = connects-there c.args.peer c.args.head.now c.args.node.now.lists
    c.sound.ensures.kept.valid.numbered c.in-Connects.server cause in
    record {
      connecting = record { known = there.known; stands = there.stands };
      server = named-below c.args.head.now c.in-Connects.server c.requires.in_range
          cause.cause.1;
      life = c.requires.in_range.from_life.0;
    }

pub fail_session-requires : goal.fail_session-requires
fail_session-requires g c =
    let there = fails-there c.args.peer c.args.head.now c.args.node.now.lists
    c.sound.ensures.kept.valid.numbered (rw c.in-Fails.is at c.requires.cause) in
    record { known = there.known; stands = there.stands }

pub close_session-requires : goal.close_session-requires
close_session-requires g c =
    let there = closes-there c.args.peer c.args.head.now c.args.node.now.lists
    c.sound.ensures.kept.valid.numbered (rw c.in-Closes.is at c.requires.cause) in
    record { known = there.known; stands = there.stands }

pub returns-in-Connects : goal.returns-in-Connects
returns-in-Connects g c = record {
  makes = let s = timed_of c.args.node.now in
      let t = timed_of c.connect_session.new.node in
      let connected : Event = IsConnected c.args.head.now.client c.in-Connects.server
      c.args.head.now.from_life in
      acts-controls g.R.Recorder.log c.args.rec.now c.connect_session.new.rec c.args.peer
      c.args.head.now (Connects c.in-Connects.server) s t
      (c.args.memory.now ⟶ c.args.memory.now) false
      (rw c.in-Connects.is at (c.requires.row false)) (none-risen c.args.memory.now)
      (acts-noted g.R.Recorder.log c.args.rec.now c.connect_session.new.rec c.args.peer
      c.args.head.now (Connects c.in-Connects.server) s t (λ l. Some connected) connected
      (λ asks. refl) (λ asks. refl) c.connect_session.ensures.makes);
  rest = c.connect_session.ensures.rest;
}

pub returns-in-Fails : goal.returns-in-Fails
returns-in-Fails g c = record {
  makes = let s = timed_of c.args.node.now in
      let t = timed_of c.fail_session.new.node in
      acts-controls g.R.Recorder.log c.args.rec.now c.fail_session.new.rec c.args.peer
      c.args.head.now c.args.row s t
      (c.args.memory.now ⟶ c.args.memory.now) false (c.requires.row false)
      (wants-none c.args.memory.now _ _ c.in-Fails.is refl)
      (rw c.in-Fails.is
      (acts-noted g.R.Recorder.log c.args.rec.now c.fail_session.new.rec c.args.peer
      c.args.head.now Fails s t (λ l. Some (FailedNoRoom c.args.head.now.client))
      (FailedNoRoom c.args.head.now.client)
      (λ asks. refl) (λ asks. refl) c.fail_session.ensures.makes));
  rest = c.fail_session.ensures.rest;
}

pub returns-in-Closes : goal.returns-in-Closes
returns-in-Closes g c = record {
  makes = let s = timed_of c.args.node.now in
      let t = timed_of c.close_session.new.node in
      acts-controls g.R.Recorder.log c.args.rec.now c.close_session.new.rec c.args.peer
      c.args.head.now c.args.row s t
      (c.args.memory.now ⟶ c.args.memory.now) false (c.requires.row false)
      (wants-none c.args.memory.now _ _ c.in-Closes.is refl)
      (rw c.in-Closes.is
      (acts-noted g.R.Recorder.log c.args.rec.now c.close_session.new.rec c.args.peer
      c.args.head.now Closes s t (λ l. Some (ClosedHeard c.args.head.now.client))
      (ClosedHeard c.args.head.now.client)
      (λ asks. refl) (λ asks. refl) c.close_session.ensures.makes));
  rest = c.close_session.ensures.rest;
}
