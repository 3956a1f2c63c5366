use Rattle.std.proofs.Common.{◌-◌, ◌++◌, ◌∷◌, [], ℕ, List, None, Some, drop, length, take}
use Rattle.packet_header.specs.declared.packet.MessageHeader.{MessageHeader}
use Rattle.rpc_base.specs.declared.event.Event.TheVariants.{Took}
use Rattle.rpc_base.specs.declared.fact.Fact.{Fact}
use Rattle.rpc_base.specs.declared.owner.Owner.TheVariants.{Reply}
use Rattle.rpc_laws.specs.Facts.{plain}
use Rattle.rpc_laws.specs.ServerTable.{brings}
use Rattle.rule_facts.proofs.HandlingLemmas.{before-none, behind-none, behind-some, told-by}
use Rattle.rule_facts.proofs.server_facts.took.Goals as goal

pub returns-in_default-clause-fronts : goal.returns-in_default-clause-fronts
returns-in_default-clause-fronts c =
    let h : MessageHeader = c.args.head.now in
    let ask : List ℕ = c.args.before.now ++ c.args.body.now in
    before-none (plain c.args.me (Took (Reply h.session h.request) h.number) ∷ [])
    (λ case. brings c.args.mode c.args.me case.answer h ask) c.args.facts.now c.in_default.ensures.fronts

pub returns-in_default-brought-clause-fronts : goal.returns-in_default-brought-clause-fronts
returns-in_default-brought-clause-fronts c =
    let h : MessageHeader = c.args.head.now in
    let ask : List ℕ = c.args.before.now ++ c.args.body.now in
    let facts : List Fact = c.args.facts.now in
    let count : ℕ = c.in-Some.count in
    behind-none (plain c.args.me (Took (Reply h.session h.request) h.number) ∷ [])
    (λ case. brings c.args.mode c.args.me case.answer h ask) facts count c.in-Some.ensures.fronts
    (told-by c.args.mode c.args.me h ask (take (length facts - count) (drop count facts)) None
    c.in_default-brought.ensures.fronts)

pub returns-clause-fronts : goal.returns-clause-fronts
returns-clause-fronts c =
    let h : MessageHeader = c.args.head.now in
    let ask : List ℕ = c.args.before.now ++ c.args.body.now in
    let facts : List Fact = c.args.facts.now in
    let count : ℕ = c.in-Some.count in
    behind-some (plain c.args.me (Took (Reply h.session h.request) h.number) ∷ [])
    (λ case. brings c.args.mode c.args.me case.answer h ask) facts count c.in-Some-brought.more c.in-Some.ensures.fronts
    (told-by c.args.mode c.args.me h ask (take (length facts - count) (drop count facts)) (Some c.in-Some-brought.more)
    c.in-Some-brought.ensures.fronts)
