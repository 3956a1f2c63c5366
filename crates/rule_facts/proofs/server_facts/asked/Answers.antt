use Rattle.std.proofs.Common.{ℕ, Option, false, subst, true}
use Rattle.packet_header.specs.declared.packet.MessageHeader.{MessageHeader}
use Rattle.rpc_laws.specs.declared.tables.Lists.{Lists}
use Rattle.rule_facts.specs.Handling.{row_facts, SomeFronts}
use Rattle.rule_facts.proofs.HandlingLemmas.{by-row, FoundRow, with-row}
use Rattle.rule_facts.proofs.server_facts.asked.Goals as goal

pub returns-in-Some-clause-fronts : goal.returns-in-Some-clause-fronts
returns-in-Some-clause-fronts c =
    let s : Lists = c.args.lists.now in
    let h : MessageHeader = c.args.head.now in
    let r : FoundRow s c.args.peer h false c.plain_mode-mode.result c.are_full-full.result c.server_row-row.result =
    record { plain = c.plain_mode-mode.ensures; fills = c.are_full-full.ensures; found = c.server_row-row.ensures } in
    by-row s c.args.peer h c.args.body.now false c.plain_mode-mode.result c.are_full-full.result c.server_row-row.result
    c.args.facts.now c.in-Some.count r
    (subst (λ (o : Option ℕ). SomeFronts (row_facts c.plain_mode-mode.result s h c.args.body.now c.server_row-row.result)
    c.args.facts.now o) c.in-Some.is c.in_ok-count.ensures.fronts)

pub returns-clause-fronts : goal.returns-clause-fronts
returns-clause-fronts c =
    let s : Lists = c.args.lists.now in
    let h : MessageHeader = c.args.head.now in
    let r : FoundRow s c.args.peer h false c.plain_mode-mode.result c.are_full-full.result c.server_row-row.result =
    record { plain = c.plain_mode-mode.ensures; fills = c.are_full-full.ensures; found = c.server_row-row.ensures } in
    let q : FoundRow s c.args.peer h true c.plain_mode-mode.result c.are_full-full.result c.server_row-starved.result =
    record { plain = c.plain_mode-mode.ensures; fills = c.are_full-full.ensures; found = c.server_row-starved.ensures } in
    with-row s c.args.peer h c.args.body.now c.plain_mode-mode.result c.are_full-full.result c.server_row-row.result
    c.server_row-starved.result c.args.facts.now c.in_ok-count-2.count r q
    (subst (λ (o : Option ℕ). SomeFronts (row_facts c.plain_mode-mode.result s h c.args.body.now c.server_row-row.result)
    c.args.facts.now o) c.in_default.is c.in_ok-count.ensures.fronts)
    c.in_ok-count-2.ensures.fronts
