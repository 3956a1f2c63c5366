use Rattle.std.proofs.Common.{sym, ◌∙◌, refl}
use Rattle.rpc_base.proofs.TablesLemmas.{find-found, find-missing}
use Rattle.rpc_laws.specs.Requests.{is_server}
use Rattle.rule_facts.proofs.finishing.awaited.Goals as goal

pub returns-in_default : goal.returns-in_default
returns-in_default c =
    rw (find-missing (is_server c.args.job.now.session) c.args.servers.now (sym c.in_default.ensures))
    refl

pub returns : goal.returns
returns c =
    rw (find-found (is_server c.args.job.now.session) c.args.servers.now c.in-Some.place
    (sym c.in-Some.ensures) ∙ c.at.ensures)
    c.awaited_in.ensures
