use Rattle.std.proofs.Common.{◌∷◌, [], subst, sym}
use Rattle.packet_header.specs.declared.packet.MessageHeader.{MessageHeader}
use Rattle.rpc_base.specs.declared.event.Event.TheVariants.{Again, Dropped, Posted}
use Rattle.rpc_base.specs.declared.owner.Owner.TheVariants.{Reply}
use Rattle.rpc_laws.specs.declared.rows.ServerRow.{ServerRow}
use Rattle.rpc_laws.specs.declared.tables.Lists.{Lists}
use Rattle.rpc_laws.specs.Facts.{plain}
use Rattle.rule_facts.specs.Handling.{row_facts, SomeFronts}
use Rattle.rule_facts.proofs.HandlingLemmas.{some-fixed}
use Rattle.rule_facts.proofs.server_facts.row_noted.Goals as goal

pub returns-in-Drops-clause-fronts : goal.returns-in-Drops-clause-fronts
returns-in-Drops-clause-fronts c =
    let h : MessageHeader = c.args.head.now in
    let s : Lists = c.args.lists.now in
    subst (λ (row : ServerRow). SomeFronts (row_facts c.args.mode s h c.args.body.now row) c.args.facts.now
    c.dropped.result) (sym c.in-Drops.is)
    (some-fixed (plain s.me (Dropped c.in-Drops.reason) ∷ []) c.args.facts.now c.dropped.result c.dropped.ensures)

pub returns-in-Repeats-clause-fronts : goal.returns-in-Repeats-clause-fronts
returns-in-Repeats-clause-fronts c =
    let h : MessageHeader = c.args.head.now in
    let s : Lists = c.args.lists.now in
    subst (λ (row : ServerRow). SomeFronts (row_facts c.args.mode s h c.args.body.now row) c.args.facts.now
    c.repeated.result) (sym c.in-Repeats.is)
    (some-fixed (plain s.me (Again (Reply h.session h.request) h.number)
    ∷ plain s.me (Posted (Reply h.session h.request) h.number) ∷ []) c.args.facts.now c.repeated.result
    c.repeated.ensures)
