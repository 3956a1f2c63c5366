use Rattle.std.proofs.Common.{sym}
use Rattle.rpc_base.proofs.TablesLemmas.{at_first-found, at_first-missing}
use Rattle.server_core.specs.Replies.{is_owner}
use Rattle.server_core.specs.Serving.{one_left}
use Rattle.server_core.proofs.HomeLemmas.{home-left}
use Rattle.server_core.proofs.slots.Slots.leave.Goals as goal

pub returns-in-Some : goal.returns-in-Some
returns-in-Some c =
    rw (c.set_at.ensures, c.left-request.ensures, c.self.view_is)
    (sym (at_first-found (is_owner c.args.session c.args.owner) one_left c.args.self.now
    c.in-Some.at c.at.result.now (sym c.in-Some.ensures) c.at.ensures))

pub returns-in_default : goal.returns-in_default
returns-in_default c = sym (at_first-missing _ _ _ (sym c.in_default.ensures))

pub invariant_of-self : goal.invariant_of-self
invariant_of-self c =
    rw (returns-in-Some c, ← c.self.view_is) (home-left c.self.inside.homes
    c.self.inside.items.items (is_owner c.args.session c.args.owner) c.self.invariant)
