use Rattle.std.proofs.Common.{sym, ◌∙◌}
use Rattle.rpc_base.proofs.TablesLemmas.{find-found, find-missing}
use Rattle.server_core.specs.Replies.{is_owner}
use Rattle.server_core.proofs.slots.Slots.of_owner.Goals as goal

pub returns-in_default : goal.returns-in_default
returns-in_default c =
    sym (find-missing (is_owner c.args.session c.args.owner) c.args.self.now
    (sym c.in_default.ensures))

pub returns : goal.returns
returns c =
    sym (find-found (is_owner c.args.session c.args.owner) c.args.self.now _
    (sym c.in-Some.ensures) ∙ c.at.ensures)
