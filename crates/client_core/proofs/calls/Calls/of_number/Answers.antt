use Rattle.std.proofs.Common.{sym, ◌∙◌}
use Rattle.rpc_base.proofs.TablesLemmas.{find-found, find-missing}
use Rattle.client_core.specs.Timeouts.{is_numbered}
use Rattle.client_core.proofs.calls.Calls.of_number.Goals as goal

pub returns-in_default : goal.returns-in_default
returns-in_default c = sym (find-missing (is_numbered c.args.number) c.args.self.now (sym c.in_default.ensures))

pub returns : goal.returns
returns c = sym (find-found (is_numbered c.args.number) c.args.self.now _ (sym c.in-Some.ensures) ∙ c.at.ensures)
