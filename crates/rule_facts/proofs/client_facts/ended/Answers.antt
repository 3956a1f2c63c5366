use Rattle.std.proofs.Common.{◌++◌, Some, subst, sym}
use Rattle.rpc_laws.specs.declared.rows.EndRow.{EndRow}
use Rattle.rpc_laws.specs.ClientTable.{end_facts}
use Rattle.rule_facts.specs.Fronts.{Fronts}
use Rattle.rule_facts.proofs.FrontLemmas.{fronts-nothing}
use Rattle.rule_facts.proofs.client_facts.ended.Goals as goal

pub returns-in-GoesOn : goal.returns-in-GoesOn
returns-in-GoesOn c =
    subst (λ (row : EndRow). Fronts (end_facts c.args.me c.args.call (c.args.before.now ++ c.args.last.now) row)
    c.args.facts.now (Some 0)) (sym c.in-GoesOn.is) (fronts-nothing c.args.facts.now)
