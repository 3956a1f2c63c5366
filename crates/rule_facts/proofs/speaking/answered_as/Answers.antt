use Rattle.std.proofs.Common.{List, Option, ℕ, Some, drop, subst, take}
use Rattle.rpc_base.specs.declared.fact.Fact.{Fact}
use Rattle.packet_header.specs.declared.packet.ControlHeader.{ControlHeader}
use Rattle.rpc_laws.specs.ControlSteps.{SpeaksIf}
use Rattle.rpc_laws.specs.ControlTable.{control_facts}
use Rattle.rule_facts.specs.Fronts.{Fronts}
use Rattle.rule_facts.proofs.FrontLemmas.{fronts-within, rest-is}
use Rattle.rule_facts.proofs.SpeakingLemmas.{row-answers}
use Rattle.rule_facts.proofs.speaking.answered_as.Goals as goal

pub returns-clause-some : goal.returns-clause-some
returns-clause-some c =
    let s = c.args.lists.now in
    let h = c.args.head.now in
    let peer = c.args.peer in
    let row = c.args.row.now in
    let facts = c.args.facts.now in
    let n = c.in-Some.count in
    let front : Fronts (control_facts s peer h row) facts (Some n) =
    subst (λ (o : Option ℕ). Fronts (control_facts s peer h row) facts o) c.in-Some.is c.in_ok-count.ensures.fronts in
    let whole = rest-is facts n (fronts-within (control_facts s peer h row) facts n front) in
    let speaks =
    subst (λ (z : List Fact). SpeaksIf s.me peer c.control_reply-reply.result (take c.in-Some-said.more z)) whole
    c.in-Some-said.ensures.some in
    row-answers s peer h row facts n c.in-Some-said.more front
    (subst (λ (o : Option ControlHeader). SpeaksIf s.me peer o (take c.in-Some-said.more (drop n facts)))
    c.control_reply-reply.ensures speaks)
