use Rattle.std.proofs.Common.{sym, ◌∙◌}
use Rattle.rpc_base.proofs.TablesLemmas.{find-found, find-missing}
use Rattle.rpc_laws.specs.Requests.{is_server}
use Rattle.rule_facts.proofs.FrontLemmas.{fronts-nothing}
use Rattle.rule_facts.proofs.server_facts.older_flushed.Goals as goal

pub returns-in_default-clause-fronts : goal.returns-in_default-clause-fronts
returns-in_default-clause-fronts c =
    rw (find-missing (is_server c.args.head.now.session) c.args.lists.now.servers (sym c.in_default.ensures))
    (fronts-nothing c.args.facts.now)

pub returns-clause-fronts : goal.returns-clause-fronts
returns-clause-fronts c =
    rw (find-found (is_server c.args.head.now.session) c.args.lists.now.servers c.in-Some.place
    (sym c.in-Some.ensures) ∙ c.at-server.ensures)
    c.in_ok-count.ensures.fronts
