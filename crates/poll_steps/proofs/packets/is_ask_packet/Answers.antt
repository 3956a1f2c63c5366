use Rattle.std.proofs.Common.{sym, ◌∙◌}
use Rattle.rpc_base.proofs.TablesLemmas.{find-found, find-missing}
use Rattle.rpc_laws.specs.Sessions.{is_client}
use Rattle.poll_steps.proofs.packets.is_ask_packet.Goals as goal

pub returns-in_default : goal.returns-in_default
returns-in_default c = rw (find-missing (is_client c.args.session) c.args.lists.now.clients (sym c.in_default.ensures)) (λ h. cc, λ h. absurd h)

pub returns : goal.returns
returns c =
    rw (find-found (is_client c.args.session) c.args.lists.now.clients c.in-Some.place (sym c.in-Some.ensures) ∙ c.at.ensures) c.is_call_packet.ensures
