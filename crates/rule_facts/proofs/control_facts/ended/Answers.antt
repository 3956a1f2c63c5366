use Rattle.std.proofs.Common.{Option, Some, subst}
use Rattle.rpc_laws.specs.declared.tables.Server.{Server}
use Rattle.rpc_laws.specs.ControlTable.{session_end}
use Rattle.rule_facts.specs.Fronts.{Fronts}
use Rattle.rule_facts.proofs.FrontLemmas.{fronts-nothing}
use Rattle.rule_facts.proofs.control_facts.ended.Goals as goal

pub returns-in_default-clause-fronts : goal.returns-in_default-clause-fronts
returns-in_default-clause-fronts c =
    let s = c.args.lists.now in
    subst (λ (v : Option Server). Fronts (session_end s.me s.queued v) c.args.facts.now (Some 0))
    c.in_default.ensures (fronts-nothing c.args.facts.now)
