use Rattle.std.proofs.Common.{ap, arith, length, sym}
use Rattle.node_steps.specs.Peers.{is_with}
use Rattle.node_steps.proofs.PeerPlaces.{none-first, none-more, none-with}
use Rattle.endpoint_node.proofs.node.Node.place_with.Goals as goal

pub places-init : goal.places-init
places-init c = none-first (λ i. is_with i c.args.peer c.args.self.now.lists)

pub places-preserved : goal.places-preserved
places-preserved c =
    none-more (λ i. is_with i c.args.peer c.args.self.now.lists) c.places.place
    c.places.invariant (sym c.if-is_with.ensures)

pub returns-clause-none : goal.returns-clause-none
returns-clause-none c = λ _.
    none-with c.args.peer c.places.place c.args.self.now.lists
    (omega (
      arith,
      c.places-test.false,
      c.max-count.ensures,
      c.clients.ensures.count,
      ap (λ t. length t.lists.clients) c.self.view_is,
    ))
    (omega (
      arith,
      c.places-test.false,
      c.max-count.ensures,
      c.servers.ensures,
      ap (λ t. length t.lists.servers) c.self.view_is,
    )) c.places.invariant
