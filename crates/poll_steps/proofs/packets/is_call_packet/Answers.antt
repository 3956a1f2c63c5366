use Rattle.std.proofs.Common.{sym, ◌∙◌}
use Rattle.rpc_base.proofs.TablesLemmas.{find-found, find-missing}
use Rattle.rpc_laws.specs.Calls.{is_active}
use Rattle.poll_steps.proofs.packets.is_call_packet.Goals as goal

pub returns-in_default : goal.returns-in_default
returns-in_default c = rw (find-missing (is_active c.args.request) c.args.client.now.calls (sym c.in_default.ensures)) (λ h. cc, λ h. absurd h)

pub returns : goal.returns
returns c =
    rw (find-found (is_active c.args.request) c.args.client.now.calls c.in-Some.place (sym c.in-Some.ensures) ∙ c.at-call.ensures) c.is_client_packet.ensures
