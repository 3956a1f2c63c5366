use Rattle.std.proofs.Common.{sym, ◌∙◌}
use Rattle.rpc_base.proofs.TablesLemmas.{find-found, find-missing}
use Rattle.rpc_laws.specs.Requests.{in_slot_of}
use Rattle.rule_facts.proofs.FrontLemmas.{fronts-nothing}
use Rattle.rule_facts.proofs.session_ends.slot_flushed.Goals as goal

pub returns-in_default-clause-fronts : goal.returns-in_default-clause-fronts
returns-in_default-clause-fronts c =
    rw (find-missing (in_slot_of c.args.request) c.args.server.now.slots (sym c.in_default.ensures))
    (fronts-nothing c.args.facts.now)

pub returns-clause-fronts : goal.returns-clause-fronts
returns-clause-fronts c =
    rw (find-found (in_slot_of c.args.request) c.args.server.now.slots c.in-Some.place
    (sym c.in-Some.ensures) ∙ c.at.ensures)
    c.in_ok-count.ensures.fronts
