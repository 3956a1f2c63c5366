use Rattle.std.specs.Prelude.{slice_get}
use Rattle.std.proofs.Common.{◌≡◌, ◌++◌, ◌∙◌, ap, length, map, drop, refl, subst, sym, true, arith, List}
use Rattle.std.specs.List.{list_any}
use Rattle.network_model.specs.Sending.{Sending, copy_from}
use Rattle.rpc_base.specs.declared.fact.Fact.{Fact}
use Rattle.rpc_laws.proofs.PollLemmas.{poll-within}
use Rattle.rpc_laws.specs.InFlight.{flight_after_all}
use Rattle.rpc_laws.specs.PollOrder.{PollBy, SendsAll}
use Rattle.rpc_laws.specs.Working.{FinishesWorked}
use Rattle.rpc_outside.specs.PlainAnswer.{plain_mode}
use Rattle.node_steps.specs.Notes.{sent_of}
use Rattle.rpc_world.specs.Answered.{Play, Whole}
use Rattle.sim_script.specs.FollowsScript.{is_wanting}
use Rattle.rpc_world.proofs.PeerSteps.{poll-names}
use Rattle.rpc_world.proofs.PollingLemmas.{at-polls, landed, mine, never-busy, plays-at, poll-step}
use Rattle.rpc_world.proofs.PollingLemmas.{sent-all, sent-flight}
use Rattle.rpc_world.proofs.StepLemmas.{grew-facts, grew-since, since, stepped}
use Rattle.rpc_world.proofs.WantLemmas.{wanted-risen}
use Rattle.rpc_world.proofs.stepping.poll_node.Goals as goal

pub land_sent-requires : goal.land_sent-requires
land_sent-requires c =
    grew-since _ _ _ _ _ _ c.in-Ok.ensures.polls.grew (ap length c.facts-before.ensures)
    c.in_ok-check_whole.ensures.whole

pub returns-clause-performed : goal.returns-clause-performed
returns-clause-performed c =
    let is_n : c.from.result ≡ c.args.node = c.from.ensures ∙ c.node.view_is in
    let polls = c.in-Ok.ensures.polls in
    let from = ap length c.facts-before.ensures in
    let grew = grew-facts _ _ _ _ _ polls.grew c.in_ok-check_whole.ensures.whole in
    let now = c.stage.inside.clock in
    let free = never-busy c.in-Ok._turn.busy c.in-Ok.ensures.busy in
    let back = since _ _ _ _ grew from in
    let whole : Whole polls.noted =
    subst (λ (x : List Fact). Whole x) back (sym c.is_wanted.ensures ∙ c.if-is_wanted.false) in
    let e = c.at_mut-polled.result.now in
    let at = rw is_n at c.at_mut-polled.ensures.value in
    let plays = c.requires.numbered.playing.each c.args.node e
    (ap (λ (z : Play). slice_get z.ends c.args.node) (sym c.stage.view_is) ∙ at) in
    let does = polls.does plays.staffed in
    let own = mine c.args.node now c.args.stage.now.worked e c.poll.new.self polls.noted _ c.sound.ensures.kept
    free does.0 plays in
    let z : Play = record {
      ends = c.stage.inside.nodes;
      flight = c.stage.inside.flight;
      worked = c.stage.inside.worked;
      clock = c.stage.inside.clock;
    } in
    let sent : c.poll.new.link.sent ≡ sent_of polls.noted =
    sent-all _ _ _ does.1.took (ap (λ (l : Sending). l.sent) c.new-link.ensures) in
    let flight : c.stage.inside.flight ++ map (copy_from c.args.node) c.poll.new.link.sent
    ≡ flight_after_all c.stage.inside.flight (drop (length c.facts-before.result.now)
    c.poll.new.rec.facts.items) =
    ap (λ ds. c.stage.inside.flight ++ map (copy_from c.args.node) ds) sent
    ∙ sym (sent-flight c.args.node polls.noted c.stage.inside.flight own)
    ∙ ap (flight_after_all c.stage.inside.flight) (sym back) in
    at-polls c.args.node now c.args.stage.now _ _ _ (ap (λ (z : Play). z.clock) c.stage.view_is)
    (stepped (PollBy (FinishesWorked c.args.stage.now.worked) SendsAll plain_mode now) c.args.node
    c.args.stage.now z e c.poll.new.self polls.noted _ _ _ _ c.stage.view_is
    (λ s x t i h. poll-names _ plain_mode now s x t i
    (poll-within c.args.stage.now.worked plain_mode now s x t h)) c.requires.numbered.playing at
    (λ p. poll-step c.args.node now c.args.stage.now.worked e c.poll.new.self polls.noted _
    c.sound.ensures.kept free (polls.does p.staffed).0 p (polls.does p.staffed).1.answers whole)
    grew from (landed z _ c.args.node c.poll.new.self _
    (drop (length c.facts-before.result.now) c.poll.new.rec.facts.items) (rw is_n at c.in_ok-land_sent.ensures.stage) flight))

pub is_wanted-requires : goal.is_wanted-requires
is_wanted-requires c =
    grew-since _ _ _ _ _ _ c.in-Ok.ensures.polls.grew (ap length c.facts-before.ensures)
    c.in_ok-check_whole.ensures.whole

pub returns-then-is_wanted-clause-cause : goal.returns-then-is_wanted-clause-cause
returns-then-is_wanted-clause-cause c =
    let plays = plays-at _ _ _ _ c.stage.view_is c.requires.numbered.playing c.at_mut-polled.ensures.value in
    let polls = c.in-Ok.ensures.polls in
    let tells = (polls.does plays.staffed).1 in
    let grew = grew-facts _ _ _ _ _ polls.grew c.in_ok-check_whole.ensures.whole in
    let back = since _ _ _ _ grew (ap length c.facts-before.ensures) in
    let none = c.in-Ok.ensures.cause ∙ ap (λ (l : Sending). l.faults) c.new-link.ensures in
    let told : list_any (λ f. is_wanting f.event) polls.noted ≡ true =
    ap (list_any (λ (f : Fact). is_wanting f.event)) (sym back)
    ∙ (sym c.is_wanted.ensures ∙ c.if-is_wanted.true) in
    let risen = wanted-risen polls.noted _ _ _ _ _ tells.held none refl tells.wants told in
    let more = c.in_ok-check_whole.ensures.cause in
    record { no_less = omega (arith, risen.no_less, more); rose = omega (arith, risen.rose, more) }
