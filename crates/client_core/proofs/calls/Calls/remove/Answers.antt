use Rattle.std.proofs.Common.{sym}
use Rattle.rpc_base.proofs.TablesLemmas.{without_first-found, without_first-missing}
use Rattle.client_core.specs.Replies.{is_request}
use Rattle.client_core.proofs.calls.Calls.remove.Goals as goal

pub returns-in-Some : goal.returns-in-Some
returns-in-Some c =
    rw c.take_out.ensures (sym (without_first-found (is_request c.args.request) c.args.self.now _
    (sym c.in-Some.ensures)))

pub returns-in_default : goal.returns-in_default
returns-in_default c =
    sym (without_first-missing (is_request c.args.request) c.args.self.now
    (sym c.in_default.ensures))
