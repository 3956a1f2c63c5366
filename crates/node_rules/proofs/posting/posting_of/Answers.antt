use Rattle.std.proofs.Common.{sym, ◌∙◌, refl}
use Rattle.rpc_base.proofs.TablesLemmas.{find-found, find-missing}
use Rattle.rpc_laws.specs.Posting.{can_post}
use Rattle.node_rules.proofs.posting.posting_of.Goals as goal

pub returns-in_default : goal.returns-in_default
returns-in_default c = rw (find-missing can_post c.args.calls.now (sym c.in_default.ensures)) refl

pub returns : goal.returns
returns c =
    rw (find-found can_post c.args.calls.now c.in-Some.place (sym c.in-Some.ensures) ∙ c.at.ensures)
    c.next_packet.ensures
