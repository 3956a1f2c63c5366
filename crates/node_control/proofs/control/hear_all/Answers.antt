use Rattle.std.proofs.Common.{◌≡◌, ◌∙◌, List, [], length, refl, ap, arith, length-drop}
use Rattle.rpc_laws.specs.declared.tables.Arrival.{Arrival}
use Rattle.rpc_laws.specs.ControlSteps.{Hears}
use Rattle.node_steps.specs.Handed.{Holding}
use Rattle.node_steps.proofs.ControlSteps.{listens-more, listens-none, listens-until, none-waits}
use Rattle.node_steps.proofs.NoteSteps.{none-comes}
use Rattle.node_control.proofs.control.hear_all.Goals as goal

pub packets-init : goal.packets-init
packets-init g c = record {
  listens = listens-none g.R.Recorder.log g.L.Link Hears _ _ _ _;
  heard = omega (
    arith,
    c.len-count.ensures.len,
    ap (λ (n : Holding). length n.lists.inbox) c.node.view_is,
  );
  few = c.len-count.ensures.within;
  sent = omega arith;
  ring = refl;
  served = λ mode all. all;
  me = refl;
  jobs = refl;
  handed = refl;
  lists = record { waits = refl; stays = refl };
}

pub packets-preserved : goal.packets-preserved
packets-preserved g c =
    let i = c.packets.invariant in
    let h = c.hear_control-one.ensures in
    record {
      listens = listens-more g.R.Recorder.log g.L.Link Hears c.packets.told
          c.hear_control-one.result _ _ _ _ _ _ _ _ _ _ _ _ _ refl
          refl refl i.listens h.step.listens;
      heard = omega (
        arith,
        i.heard,
        h.one,
        ap (λ (xs : List Arrival). length xs) h.inbox,
        length-drop 1 c.packets.node.lists.inbox,
        c.packets-test.true,
      );
      few = i.few;
      sent = omega (arith, i.sent, h.one, h.few);
      ring = h.step.rest.ring ∙ i.ring;
      served = λ mode all. h.step.rest.served mode (i.served mode all);
      me = h.step.rest.me ∙ i.me;
      jobs = h.step.rest.jobs ∙ i.jobs;
      handed = h.step.rest.handed ∙ i.handed;
      lists = none-comes g.L.Link.waiting g.L.Link.received _ _ _ i.lists h.step.lists;
    }

pub returns-clause-step : goal.returns-clause-step
returns-clause-step g c = record {
  listens = let i = c.packets.invariant in
      listens-until g.R.Recorder.log g.L.Link Hears (λ t. t.lists.inbox ≡ []) c.packets.told _ _ _ _ _ _ _
      i.listens
      (λ asks. none-waits c.packets.node.lists.inbox
      (omega (arith, i.heard, c.packets-test.false)));
  rest = let i = c.packets.invariant in record {
    ring = i.ring;
    served = i.served;
    me = i.me;
    jobs = i.jobs;
    handed = i.handed;
  };
  lists = c.packets.invariant.lists;
}
