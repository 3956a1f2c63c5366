use Rattle.std.proofs.Common.{sym, ◌∙◌}
use Rattle.rpc_base.proofs.TablesLemmas.{at_first-found, at_first-missing, find-found, find-missing}
use Rattle.client_core.specs.Session.{can_post}
use Rattle.client_core.specs.Posting.{one_posted}
use Rattle.client_core.proofs.calls.Calls.post_next.Goals as goal

pub returns-in_default-clause-call : goal.returns-in_default-clause-call
returns-in_default-clause-call c = sym (find-missing can_post c.args.self.now (sym c.in_default.ensures))

pub returns-in_default-clause-calls : goal.returns-in_default-clause-calls
returns-in_default-clause-calls c =
    sym (at_first-missing can_post one_posted c.args.self.now (sym c.in_default.ensures))

pub returns-clause-call : goal.returns-clause-call
returns-clause-call c = sym (find-found can_post c.args.self.now _ (sym c.in-Some.ensures) ∙ c.at-call.ensures)

pub returns-clause-calls : goal.returns-clause-calls
returns-clause-calls c =
    rw c.set.ensures (sym (at_first-found can_post one_posted c.args.self.now _ _
    (sym c.in-Some.ensures) c.at-call.ensures))
