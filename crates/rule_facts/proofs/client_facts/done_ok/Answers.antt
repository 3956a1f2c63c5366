use Rattle.std.proofs.Common.{◌<◌, ◌-◌, ◌++◌, ◌∙◌, ℕ, List, drop, length, rules, sym, take}
use Rattle.rpc_base.specs.declared.event.Event.TheVariants.{DoneOk}
use Rattle.rpc_base.specs.declared.fact.Fact.{Fact}
use Rattle.rpc_laws.specs.Facts.{with_bytes}
use Rattle.rule_facts.proofs.FrontLemmas.{fronts-one, parted-first}
use Rattle.rule_facts.proofs.HandlingLemmas.{says-done-ok}
use Rattle.rule_facts.proofs.client_facts.done_ok.Goals as goal

pub returns : goal.returns
returns c =
    let facts : List Fact = c.args.facts.now in
    let answer : List ℕ = c.args.before.now ++ c.args.last.now in
    let f : Fact = c.index-facts-0.result in
    let some : 0 < length c.args.facts.now = search rules in
    let parted = parted-first facts f some c.index-facts-0.is in
    let same =
    (says-done-ok c.args.me c.args.call answer f).0 (sym c.says_done_ok.ensures ∙ c.if-not-says_done_ok.false) in
    fronts-one (with_bytes c.args.me (DoneOk c.args.call) answer) f (take (length facts - 1) (drop 1 facts)) facts
    parted same
