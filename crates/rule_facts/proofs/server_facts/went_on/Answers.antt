use Rattle.std.proofs.Common.{ℕ, List, subst, sym}
use Rattle.packet_header.specs.declared.packet.MessageHeader.{MessageHeader}
use Rattle.rpc_laws.specs.declared.tables.Lists.{Lists}
use Rattle.rpc_laws.specs.ServerTable.{took_facts}
use Rattle.rule_facts.specs.Handling.{SomeFronts}
use Rattle.rule_facts.proofs.server_facts.went_on.Goals as goal

pub returns : goal.returns
returns c =
    let h : MessageHeader = c.args.head.now in
    let s : Lists = c.args.lists.now in
    subst (λ (z : List ℕ). SomeFronts (λ case. took_facts c.args.mode s.me case.answer h z) c.args.facts.now c.took.result)
    (sym (c.taken_before-before.ensures c.args.body.now)) c.took.ensures.fronts
