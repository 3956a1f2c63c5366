use Rattle.std.proofs.Common.{sym, ◌∙◌, refl}
use Rattle.rpc_base.proofs.TablesLemmas.{find-found, find-missing}
use Rattle.rpc_laws.specs.Calls.{is_active}
use Rattle.node_tables.proofs.pacing.client_size.Goals as goal

pub returns-in-None-clause-size : goal.returns-in-None-clause-size
returns-in-None-clause-size c =
    rw (find-missing (is_active c.args.request) c.args.client.now.calls (sym c.in-None.ensures)) refl

pub returns-in-Some-clause-size : goal.returns-in-Some-clause-size
returns-in-Some-clause-size c =
    rw (find-found (is_active c.args.request) c.args.client.now.calls c.in-Some.place (sym c.in-Some.ensures)
    ∙ c.at.ensures) c.call_size.ensures
