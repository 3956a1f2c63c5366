use Rattle.std.proofs.Common.{◌≡◌, ◌∙◌, ap, arith, length}
use Rattle.rpc_laws.specs.Groups.{Asks}
use Rattle.rpc_world.proofs.PeerSteps.{asks-names}
use Rattle.rpc_world.proofs.QuietLemmas.{asked-makes, asks-still, leaving-step}
use Rattle.rpc_world.proofs.StepLemmas.{grew-facts, grew-since, stepped}
use Rattle.rpc_world.proofs.calling.ask_on.Goals as goal

pub land-requires : goal.land-requires
land-requires c =
    let makes = asked-makes c.ask-asked.result _ c.wants_memory.result c.if-wants_memory.false
    c.wants_memory.ensures.other c.ask-asked.ensures.asks in
    grew-since _ _ _ _ _ _ makes.grew (ap length c.facts-before.ensures)

pub returns-clause-performed : goal.returns-clause-performed
returns-clause-performed c =
    let is_n : c.from.result ≡ c.args.node = c.from.ensures ∙ c.node.view_is in
    let land = c.in_ok-land.ensures in
    let P = Asks c.args.session c.args.req_type c.args.ask.now c.args.room in
    let makes = rw (c.in_ok-req.ensures.bytes, c.in_ok-resp.ensures.capacity)
    at (asked-makes c.ask-asked.result _ c.wants_memory.result c.if-wants_memory.false
    c.wants_memory.ensures.other c.ask-asked.ensures.asks) in
    stepped P c.args.node c.args.stage.now _
    c.at_mut-asking.result.now _ _ _ _ _ _ c.stage.view_is
    (asks-names _ c.args.session c.args.req_type c.args.ask.now c.args.room) c.requires.numbered.playing
    (rw is_n at c.at_mut-asking.ensures.value)
    (leaving-step P c.args.node c.args.stage.now.worked c.at_mut-asking.result.now _ makes.noted
    c.ask-asked.ensures.leaves (λ s t h. asks-still c.args.session c.args.req_type c.args.ask.now c.args.room
    s makes.noted t h) makes.step)
    (grew-facts _ _ _ _ _ makes.grew land.whole) (ap length c.facts-before.ensures) (rw is_n at land.stage)

pub returns-then-wants_memory-clause-cause : goal.returns-then-wants_memory-clause-cause
returns-then-wants_memory-clause-cause c =
    let one = c.wants_memory.ensures.lacks c.if-wants_memory.true in
    let risen = c.ask-asked.ensures.cause in
    let req = c.in_ok-req.ensures.cause in
    let resp = c.in_ok-resp.ensures.cause in
    record {
      no_less = omega (arith, req, resp, risen.no_less);
      rose = omega (arith, req, resp, one, risen.rose);
    }
