use Rattle.std.proofs.Common.{sym, ◌∙◌}
use Rattle.rpc_base.proofs.TablesLemmas.{find-found, find-missing}
use Rattle.rpc_laws.specs.Calls.{is_active}
use Rattle.rule_facts.proofs.FrontLemmas.{fronts-nothing}
use Rattle.rule_facts.proofs.client_facts.session_ended.Goals as goal

pub returns-in_default : goal.returns-in_default
returns-in_default c =
    rw (find-missing (is_active c.args.head.now.request) c.args.client.now.calls (sym c.in_default.ensures))
    (fronts-nothing c.args.facts.now)

pub returns : goal.returns
returns c =
    rw (find-found (is_active c.args.head.now.request) c.args.client.now.calls c.in-Some.place
    (sym c.in-Some.ensures) ∙ c.at.ensures)
    c.call_ended.ensures
