use Rattle.std.proofs.Common.{◌++◌, ℕ, List, ap, refl, sym, ◌∙◌}
use Rattle.rpc_base.proofs.TablesLemmas.{find-found, find-missing}
use Rattle.rpc_laws.specs.Requests.{is_request}
use Rattle.rule_facts.proofs.server_facts.taken_in.Goals as goal

pub returns-in_default : goal.returns-in_default
returns-in_default c = λ body.
    rw (find-missing (is_request c.args.request) c.args.slots.now (sym c.in_default.ensures)) refl

pub returns : goal.returns
returns c = λ body.
    rw (find-found (is_request c.args.request) c.args.slots.now c.in-Some.place
    (sym c.in-Some.ensures) ∙ c.at.ensures)
    (ap (λ (z : List ℕ). z ++ body) (sym c.bytes.ensures))
