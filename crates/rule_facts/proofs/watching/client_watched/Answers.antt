use Rattle.std.proofs.Common.{Option, subst, sym, ◌∙◌}
use Rattle.rpc_base.proofs.TablesLemmas.{find-found, find-missing}
use Rattle.rpc_laws.specs.declared.tables.Call.{Call}
use Rattle.rpc_laws.specs.Calls.{is_call}
use Rattle.rpc_laws.specs.GoBackN.{call_facts}
use Rattle.rule_facts.specs.Fronts.{Fronts}
use Rattle.rule_facts.proofs.FrontLemmas.{fronts-nothing}
use Rattle.rule_facts.proofs.watching.client_watched.Goals as goal

pub returns-in_default-clause-fronts : goal.returns-in_default-clause-fronts
returns-in_default-clause-fronts c =
    rw (find-missing (is_call c.args.number) c.args.client.now.calls (sym c.in_default.ensures))
    (fronts-nothing c.args.facts.now)

pub returns-clause-fronts : goal.returns-clause-fronts
returns-clause-fronts c =
    let s = c.args.lists.now in
    let found =
    find-found (is_call c.args.number) c.args.client.now.calls c.in-Some.place
    (sym c.in-Some.ensures)
    ∙ c.at-call.ensures in
    subst (λ (o : Option Call).
    Fronts (call_facts c.args.clock c.args.timeout s.me s.queued c.args.client.now o)
    c.args.facts.now
    c.in_ok-count.count)
    (sym found) c.in_ok-count.ensures.fronts
