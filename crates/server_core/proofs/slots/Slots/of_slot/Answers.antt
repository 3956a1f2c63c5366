use Rattle.std.proofs.Common.{sym, ◌∙◌}
use Rattle.rpc_base.proofs.TablesLemmas.{find-found, find-missing}
use Rattle.server_core.specs.Session.{is_in_slot}
use Rattle.server_core.proofs.slots.Slots.of_slot.Goals as goal

pub returns-in_default : goal.returns-in_default
returns-in_default c = sym (find-missing (is_in_slot c.args.slot) c.args.self.now (sym c.in_default.ensures))

pub returns : goal.returns
returns c = sym (find-found (is_in_slot c.args.slot) c.args.self.now _ (sym c.in-Some.ensures) ∙ c.at.ensures)
