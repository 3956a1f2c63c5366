use Rattle.std.proofs.Common.{◌≡◌, List, length}
use Rattle.rpc_outside.specs.Linking.{Carried}
use Rattle.endpoint_loop.specs.Stands.{GoesOn}
use Rattle.endpoint_loop.specs.Turns.{Came, TakesIn}
use Rattle.endpoint_loop.proofs.endpoint.Endpoint.receive.Given as goal

abbrev pub invariant-datagrams : goal.invariant-datagrams
invariant-datagrams g l = record {
  came : List Carried;
  count : length came ≡ l.counter;
  comes : Came g.L.Link.received g.L.Link.waiting came l.initial.link l.link;
  takes : TakesIn g.R.Recorder.log came l.initial.self l.self l.initial.rec
      l.rec;
  goes_on : GoesOn g.R.Recorder.log
      g.V.Service g.W.Workers l.initial.self l.self l.initial.rec l.rec;
  sent : g.L.Link.sent l.link ≡ g.L.Link.sent l.initial.link;
  busies : g.L.Link.busies l.link ≡ g.L.Link.busies l.initial.link;
  faults : g.L.Link.faults l.link ≡ g.L.Link.faults l.initial.link;
}
