use Rattle.std.proofs.Common.{sym, ◌∙◌, refl}
use Rattle.rpc_base.proofs.TablesLemmas.{find-found, find-missing}
use Rattle.rpc_laws.specs.Sessions.{is_client}
use Rattle.node_tables.proofs.pacing.packet_size.Goals as goal

pub returns-in-None-clause-size : goal.returns-in-None-clause-size
returns-in-None-clause-size c =
    rw (find-missing (is_client c.args.session) c.args.clients.now (sym c.in-None.ensures)) refl

pub returns-in-Some-clause-size : goal.returns-in-Some-clause-size
returns-in-Some-clause-size c =
    rw (find-found (is_client c.args.session) c.args.clients.now c.in-Some.place (sym c.in-Some.ensures)
    ∙ c.at.ensures) c.client_size.ensures.size
