use Rattle.std.proofs.Common.{◌∙◌, sym}
use Rattle.packet_header.specs.declared.packet.Kind.TheVariants.{Cr, Response}
use Rattle.packet_header.specs.declared.packet.MessageHeader.{MessageHeader}
use Rattle.rpc_laws.specs.declared.tables.Lists.{Lists}
use Rattle.rpc_laws.specs.PollOrder.{replies_facts}
use Rattle.rule_facts.proofs.HandlingLemmas.{by-kind, some-fixed, stale}
use Rattle.rule_facts.proofs.ring_facts.handled.Goals as goal

pub returns-then-not-is_for-clause-fronts : goal.returns-then-not-is_for-clause-fronts
returns-then-not-is_for-clause-fronts c =
    stale c.args.lists.now c.args.peer c.args.head.now c.args.body.now c.args.facts.now c.dropped.result
    (sym c.is_for.ensures ∙ c.if-not-is_for.true) c.dropped.ensures

pub returns-in-Cr-clause-fronts : goal.returns-in-Cr-clause-fronts
returns-in-Cr-clause-fronts c =
    let h : MessageHeader = c.args.head.now in
    let s : Lists = c.args.lists.now in
    by-kind s c.args.peer h c.args.body.now Cr c.args.facts.now c.replied.result (sym c.is_for.ensures ∙ c.if-not-is_for.false) c.in-Cr.is
    (some-fixed (replies_facts s c.args.peer h c.args.body.now) c.args.facts.now c.replied.result c.replied.ensures)

pub returns-in-Response-clause-fronts : goal.returns-in-Response-clause-fronts
returns-in-Response-clause-fronts c =
    let h : MessageHeader = c.args.head.now in
    let s : Lists = c.args.lists.now in
    by-kind s c.args.peer h c.args.body.now Response c.args.facts.now c.replied-in-Response.result
    (sym c.is_for.ensures ∙ c.if-not-is_for.false) c.in-Response.is
    (some-fixed (replies_facts s c.args.peer h c.args.body.now) c.args.facts.now c.replied-in-Response.result
    c.replied-in-Response.ensures)
