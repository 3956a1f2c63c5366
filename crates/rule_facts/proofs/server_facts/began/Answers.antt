use Rattle.std.proofs.Common.{ℕ, List, Option, subst}
use Rattle.std.specs.List.{find}
use Rattle.packet_header.specs.declared.packet.MessageHeader.{MessageHeader}
use Rattle.rpc_base.specs.declared.fact.Fact.{Fact}
use Rattle.rpc_laws.specs.declared.tables.Lists.{Lists}
use Rattle.rpc_laws.specs.Requests.{is_server}
use Rattle.rpc_laws.specs.ServerTable.{flushes_older, took_facts}
use Rattle.rule_facts.specs.Fronts.{Fronts}
use Rattle.rule_facts.proofs.HandlingLemmas.{before-none, behind-none, behind-some}
use Rattle.rule_facts.proofs.server_facts.began.Goals as goal

pub returns-in_default-clause-fronts : goal.returns-in_default-clause-fronts
returns-in_default-clause-fronts c =
    let h : MessageHeader = c.args.head.now in
    let s : Lists = c.args.lists.now in
    let older : List Fact = flushes_older s.me s.queued (find (is_server h.session) s.servers) h.request in
    before-none older (λ case. took_facts c.args.mode s.me case.answer h c.args.body.now) c.args.facts.now
    (subst (λ (o : Option ℕ). Fronts older c.args.facts.now o) c.in_default.is c.in_ok-count.ensures.fronts)

pub returns-in_default-took-clause-fronts : goal.returns-in_default-took-clause-fronts
returns-in_default-took-clause-fronts c =
    let h : MessageHeader = c.args.head.now in
    let s : Lists = c.args.lists.now in
    let older : List Fact = flushes_older s.me s.queued (find (is_server h.session) s.servers) h.request in
    behind-none older (λ case. took_facts c.args.mode s.me case.answer h c.args.body.now) c.args.facts.now
    c.in-Some.count (subst (λ (o : Option ℕ). Fronts older c.args.facts.now o) c.in-Some.is c.in_ok-count.ensures.fronts)
    c.in_default-took.ensures.fronts

pub returns-clause-fronts : goal.returns-clause-fronts
returns-clause-fronts c =
    let h : MessageHeader = c.args.head.now in
    let s : Lists = c.args.lists.now in
    let older : List Fact = flushes_older s.me s.queued (find (is_server h.session) s.servers) h.request in
    behind-some older (λ case. took_facts c.args.mode s.me case.answer h c.args.body.now) c.args.facts.now
    c.in-Some.count c.in-Some-took.more
    (subst (λ (o : Option ℕ). Fronts older c.args.facts.now o) c.in-Some.is c.in_ok-count.ensures.fronts)
    c.in-Some-took.ensures.fronts
