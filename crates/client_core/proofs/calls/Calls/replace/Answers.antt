use Rattle.std.proofs.Common.{sym}
use Rattle.rpc_base.proofs.TablesLemmas.{at_first-missing}
use Rattle.client_core.specs.Replies.{is_request}
use Rattle.rpc_base.proofs.TablesLemmas.{at_first-replaced}
use Rattle.client_core.proofs.calls.Calls.replace.Goals as goal

pub returns-in-Some : goal.returns-in-Some
returns-in-Some c =
    rw c.set.ensures (sym (at_first-replaced (is_request c.args.request) c.args.call c.args.self.now
    _ (sym c.in-Some.ensures)))

pub returns-in_default : goal.returns-in_default
returns-in_default c =
    sym (at_first-missing (is_request c.args.request) (λ x. c.args.call) c.args.self.now (sym c.in_default.ensures))
