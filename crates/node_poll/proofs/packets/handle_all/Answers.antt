use Rattle.std.proofs.Common.{refl, arith}
use Rattle.node_steps.specs.Jobs.{staff_of}
use Rattle.rpc_laws.specs.Service.{rules_of}
use Rattle.node_steps.proofs.PacketCrew.{all-handled-more, all-handled-none, all-handled-over}
use Rattle.node_steps.proofs.PacketCrew.{leaves-handled-then, ring-fewer}
use Rattle.node_steps.proofs.HandedBack.{gives-none}
use Rattle.node_poll.proofs.packets.handle_all.Goals as goal

pub packets-init : goal.packets-init
packets-init g c = record {
  handles = all-handled-none g.R.Recorder.log g.K.Continuation.given
      (staff_of g.W.Workers) (rules_of g.V.Service)
      g.W.Workers.answer _ _ _ _ _ _ _;
  rest = record {
    served = c.requires.serving.served;
    founded = c.requires.serving.founded;
    me = refl;
    worked = refl;
    looks = refl;
    team = refl;
    handed = gives-none g.K.Continuation.given _ _;
  };
  fewer = omega arith;
}

pub packets-preserved : goal.packets-preserved
packets-preserved g c =
    let i = c.packets.invariant in
    let h = c.handle_front.ensures in
    let one = ring-fewer _ _ (c.can_handle.ensures.some c.packets-test.true) h.ring in
    record {
      handles = all-handled-more g.R.Recorder.log g.K.Continuation.given
          (staff_of g.W.Workers) (rules_of g.V.Service)
          g.W.Workers.answer _ _ _ _ _ _ _ _ _ _ _ _ _ _ _ _ _ _ _ i.rest.me i.handles h.handles;
      rest = leaves-handled-then g.V.Service g.W.Workers g.K.Continuation.given
          _ _ _ _ _ _ _ _ _ _ _ _ i.rest h.rest;
      fewer = omega (arith, one, i.fewer);
    }

pub returns-clause-handles : goal.returns-clause-handles
returns-clause-handles g c =
    all-handled-over g.R.Recorder.log g.K.Continuation.given
    (staff_of g.W.Workers) (rules_of g.V.Service)
    g.W.Workers.answer _ _ _ _ _ _ _ _ _ _ _
    (c.can_handle.ensures.over c.packets-test.false) c.packets.invariant.handles

pub returns-clause-rest : goal.returns-clause-rest
returns-clause-rest g c = c.packets.invariant.rest
