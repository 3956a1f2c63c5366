use Rattle.std.proofs.Common.{sym, ap, ◌∙◌, ℕ, Some}
use Rattle.std.specs.Prelude.{option_map}
use Rattle.rpc_base.proofs.TablesLemmas.{find-found, find-missing}
use Rattle.rpc_laws.specs.Pacing.{due_at, is_paced}
use Rattle.node_tables.proofs.pacing.due_by.Goals as goal

pub returns-in_default : goal.returns-in_default
returns-in_default c = sym (ap (option_map (due_at c.args.clock)) (find-missing (is_paced c.args.session) c.args.paces.now (sym c.in_default.ensures)))

pub returns : goal.returns
returns c =
    ap (λ (n : ℕ). Some n) c.max.ensures
    ∙ sym (ap (option_map (due_at c.args.clock)) (find-found (is_paced c.args.session) c.args.paces.now c.in-Some.place (sym c.in-Some.ensures) ∙ c.at.ensures))
