use Rattle.std.proofs.Common.{sym, ◌∙◌}
use Rattle.rpc_base.proofs.TablesLemmas.{find-found, find-missing}
use Rattle.rpc_laws.specs.Requests.{is_request}
use Rattle.poll_steps.proofs.packets.is_request_packet.Goals as goal

pub returns-in_default : goal.returns-in_default
returns-in_default c = rw (find-missing (is_request c.args.request) c.args.server.now.slots (sym c.in_default.ensures)) (λ h. cc, λ h. absurd h)

pub returns : goal.returns
returns c =
    rw (find-found (is_request c.args.request) c.args.server.now.slots c.in-Some.place (sym c.in-Some.ensures) ∙ c.at.ensures) c.is_server_packet.ensures
