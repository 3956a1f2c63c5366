use Rattle.std.proofs.Common.{sym, ap, ◌∙◌, slice_set}
use Rattle.rpc_base.proofs.TablesLemmas.{at_first-found, at_first-missing}
use Rattle.node_tables.proofs.PaceLemmas.{paced-rate}
use Rattle.node_tables.proofs.pacing.delay.Goals as goal

pub delay_pace-requires-clause-rate : goal.delay_pace-requires-clause-rate
delay_pace-requires-clause-rate c =
    paced-rate c.args.session c.args.paces.now c.in-Some.place c.at_mut.result.now (sym c.in-Some.ensures)
    c.at_mut.ensures.value

pub returns-in_default : goal.returns-in_default
returns-in_default c = sym (at_first-missing _ _ _ (sym c.in_default.ensures))

pub returns : goal.returns
returns c =
    ap (λ x. slice_set c.args.paces.now c.in-Some.place x) c.delay_pace.ensures
    ∙ sym (at_first-found _ _ _ _ _ (sym c.in-Some.ensures) c.at_mut.ensures.value)
