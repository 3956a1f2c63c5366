use Rattle.std.proofs.Common.{◌≤◌, ℕ, Option, Some, subst, sym}
use Rattle.std.proofs.lemmas.Option.{slice_get_past}
use Rattle.rpc_laws.specs.declared.tables.Client.{Client}
use Rattle.rpc_laws.specs.GoBackN.{client_facts}
use Rattle.rule_facts.specs.Fronts.{Fronts}
use Rattle.rule_facts.proofs.FrontLemmas.{fronts-nothing}
use Rattle.rule_facts.proofs.watching.watched.Goals as goal

pub returns-then-sessions-i-clause-fronts : goal.returns-then-sessions-i-clause-fronts
returns-then-sessions-i-clause-fronts c =
    let s = c.args.lists.now in
    let past =
    slice_get_past s.clients c.args.i
    (subst (λ (n : ℕ). n ≤ c.args.i) c.len-sessions.ensures c.if-sessions-i.true) in
    subst (λ (x : Option Client).
    Fronts (client_facts c.args.clock c.args.timeout s.me s.queued c.args.number x) c.args.facts.now
    (Some 0))
    (sym past) (fronts-nothing c.args.facts.now)

pub returns-clause-fronts : goal.returns-clause-fronts
returns-clause-fronts c =
    let s = c.args.lists.now in
    subst (λ (x : Option Client).
    Fronts (client_facts c.args.clock c.args.timeout s.me s.queued c.args.number x) c.args.facts.now
    c.in_ok-count.count)
    (sym c.at-client.ensures) c.in_ok-count.ensures.fronts
