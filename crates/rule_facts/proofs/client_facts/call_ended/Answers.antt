use Rattle.std.proofs.Common.{Option, Some, subst, sym}
use Rattle.rpc_laws.specs.declared.tables.Call.{Call}
use Rattle.rpc_laws.specs.declared.tables.Progress.{Progress}
use Rattle.rpc_laws.specs.ClientTable.{progress_ending}
use Rattle.rule_facts.specs.Fronts.{Fronts}
use Rattle.rule_facts.proofs.FrontLemmas.{fronts-nothing}
use Rattle.rule_facts.proofs.client_facts.call_ended.Goals as goal

pub returns-in-None : goal.returns-in-None
returns-in-None c =
    let call : Call = c.args.call.now in
    subst (λ (p : Option Progress). Fronts (progress_ending c.args.me call.what c.args.head.now c.args.body.now p)
    c.args.facts.now (Some 0)) (sym c.in-None.is) (fronts-nothing c.args.facts.now)
