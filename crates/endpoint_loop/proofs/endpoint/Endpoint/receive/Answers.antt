use Rattle.std.proofs.Common.{◌++◌, ◌∷◌, [], ◌∙◌, take, refl, arith, length-append}
use Rattle.rpc_outside.specs.Linking.{Carried}
use Rattle.endpoint_loop.proofs.StandingLaw.{goes-nowhere}
use Rattle.endpoint_loop.proofs.TurnLaw.{came-more, came-none, goes-further}
use Rattle.endpoint_loop.proofs.TurnLaw.{takes-more, takes-none}
use Rattle.endpoint_loop.proofs.endpoint.Endpoint.receive.Goals as goal

pub datagrams-init : goal.datagrams-init
datagrams-init g c = record {
  came = [];
  count = refl;
  comes = came-none g.L.Link.received g.L.Link.waiting c.args.link.now;
  takes = takes-none g.R.Recorder.log c.args.self.now c.args.rec.now;
  goes_on = goes-nowhere g.R.Recorder.log
      g.V.Service g.W.Workers _ _ _ _ refl refl;
  sent = refl;
  busies = refl;
  faults = refl;
}

pub datagrams-preserved : goal.datagrams-preserved
datagrams-preserved g c =
    let i = c.datagrams.invariant in
    let d : Carried = (c.in-Packet.peer, take c.in-Packet.len c.recv.new.out) in
    record {
      came = i.came ++ d ∷ [];
      count = omega (arith, i.count, length-append i.came (d ∷ []));
      comes = came-more g.L.Link.received g.L.Link.waiting i.came _ _ _ c.recv.new.out
          c.in-Packet.peer c.in-Packet.len (omega (arith, i.count, c.datagrams-test.true)) i.comes
          (rw c.in-Packet.is at c.in_ok-recv.ensures.packet);
      takes = takes-more g.R.Recorder.log i.came d _ _ _ _ _ _ i.takes
          c.deliver-delivery.ensures.call.makes c.deliver-delivery.ensures.call.leaves
          c.deliver-delivery.ensures.call.handed;
      goes_on = goes-further g.R.Recorder.log
          g.V.Service g.W.Workers _ _ _ _ _ _ i.goes_on
          c.deliver-delivery.ensures.call.goes_on;
      sent = c.in_ok-recv.ensures.sent ∙ i.sent;
      busies = c.in_ok-recv.ensures.busies ∙ i.busies;
      faults = c.in_ok-recv.ensures.cause ∙ i.faults;
    }
