use Rattle.std.proofs.Common.{◌≡◌, ◌∙◌, ap, arith, length}
use Rattle.rpc_laws.specs.Groups.{Connects}
use Rattle.rpc_world.proofs.QuietLemmas.{connects-still, leaving-step, opened-makes}
use Rattle.rpc_world.proofs.PeerSteps.{connects-names}
use Rattle.rpc_world.proofs.StepLemmas.{grew-facts, grew-since, stepped}
use Rattle.rpc_world.proofs.connecting.connect_on.Goals as goal

pub land-requires : goal.land-requires
land-requires c =
    let makes = opened-makes c.connect-opened.result _ c.wants_memory.result
    c.if-wants_memory.false c.wants_memory.ensures.other c.connect-opened.ensures.makes in
    grew-since _ _ _ _ _ _ makes.grew (ap length c.facts-before.ensures)

pub returns-clause-performed : goal.returns-clause-performed
returns-clause-performed c =
    let is_n : c.from.result ≡ c.args.a = c.from.ensures ∙ c.a.view_is in
    let land = c.in_ok-land.ensures in
    let P = Connects c.b.inside.0 c.args.credits 0 in
    let makes = opened-makes c.connect-opened.result _ c.wants_memory.result
    c.if-wants_memory.false c.wants_memory.ensures.other c.connect-opened.ensures.makes in
    let done = stepped P c.args.a c.args.stage.now _
    c.at_mut-opening.result.now _ _ _ _ _ _ c.stage.view_is
    (connects-names _ c.b.inside.0 c.args.credits 0 (rw (← c.b.view_is) at c.requires.peer)) c.requires.numbered.playing
    (rw is_n at c.at_mut-opening.ensures.value)
    (leaving-step P c.args.a c.args.stage.now.worked c.at_mut-opening.result.now _ makes.noted
    c.connect-opened.ensures.leaves
    (λ s t h. connects-still c.b.inside.0 c.args.credits 0 s makes.noted t h) makes.step)
    (grew-facts _ _ _ _ _ makes.grew land.whole) (ap length c.facts-before.ensures) (rw is_n at land.stage) in
    rw c.b.view_is at done

pub returns-then-wants_memory-clause-cause : goal.returns-then-wants_memory-clause-cause
returns-then-wants_memory-clause-cause c =
    let one = c.wants_memory.ensures.lacks c.if-wants_memory.true in
    let risen = c.connect-opened.ensures.cause in
    record { no_less = omega (arith, risen.no_less); rose = omega (arith, one, risen.rose) }
