use Rattle.std.proofs.Common.{sym, ◌∙◌}
use Rattle.rpc_base.proofs.TablesLemmas.{find-found, find-missing}
use Rattle.client_core.specs.Replies.{is_request}
use Rattle.client_core.proofs.calls.Calls.of_request.Goals as goal

pub returns-in_default : goal.returns-in_default
returns-in_default c = sym (find-missing (is_request c.args.request) c.args.self.now (sym c.in_default.ensures))

pub returns : goal.returns
returns c = sym (find-found (is_request c.args.request) c.args.self.now _ (sym c.in-Some.ensures) ∙ c.at.ensures)
