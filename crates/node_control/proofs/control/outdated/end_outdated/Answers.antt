use Rattle.std.proofs.Common.{◌≡◌, None, refl, ◌∙◌}
use Rattle.rpc_laws.specs.ControlTable.{outdated}
use Rattle.node_steps.proofs.ControlRows.{none-outdated, outdated-ended}
use Rattle.node_steps.proofs.NoteSteps.{makes-more, makes-none, makes-until}
use Rattle.node_control.proofs.control.outdated.end_outdated.Goals as goal

pub sessions-init : goal.sessions-init
sessions-init g c = (
  makes-none g.R.Recorder.log _ _ _,
  record { inbox = refl; jobs = refl; handed = refl },
)

pub sessions-preserved : goal.sessions-preserved
sessions-preserved g c =
    let i = c.sessions.invariant in
    let h = c.end_session.ensures.step in
    let found = c.in-Some.ensures.found in (
      makes-more g.R.Recorder.log _ _ _ _ _ _ _ i.0
          (outdated-ended g.R.Recorder.log _ _ c.args.peer c.args.head.now _ _ c.in-Some.i
          found.0 found.1 h.makes),
      record {
        inbox = h.rest.inbox ∙ i.1.inbox;
        jobs = h.rest.jobs ∙ i.1.jobs;
        handed = h.rest.handed ∙ i.1.handed;
      },
    )

pub returns : goal.returns
returns g c = record {
  makes = let i = c.sessions.invariant in
      let none = c.place_of_outdated.ensures.missing c.in_default.is in
      makes-until g.R.Recorder.log _ (λ t. outdated c.args.peer c.args.head.now t.lists ≡ None) _
      _ _ _ i.0 (λ asks. none-outdated c.args.peer c.args.head.now _ _ none);
  rest = c.sessions.invariant.1;
}
