use Rattle.std.proofs.Common.{sym, ◌∙◌}
use Rattle.rpc_base.proofs.TablesLemmas.{find-found, find-missing}
use Rattle.rpc_laws.specs.Sessions.{is_client}
use Rattle.rule_facts.proofs.FrontLemmas.{fronts-nothing}
use Rattle.rule_facts.proofs.client_facts.named_ended.Goals as goal

pub returns-in_default : goal.returns-in_default
returns-in_default c =
    rw (find-missing (is_client c.args.head.now.session) c.args.lists.now.clients (sym c.in_default.ensures))
    (fronts-nothing c.args.facts.now)

pub returns : goal.returns
returns c =
    rw (find-found (is_client c.args.head.now.session) c.args.lists.now.clients c.in-Some.place
    (sym c.in-Some.ensures) ∙ c.at.ensures)
    c.session_ended.ensures
