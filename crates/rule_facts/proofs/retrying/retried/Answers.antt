use Rattle.std.proofs.Common.{◌≤◌, ℕ, Option, Some, subst, sym}
use Rattle.std.proofs.lemmas.Option.{slice_get_past}
use Rattle.rpc_laws.specs.declared.tables.Client.{Client}
use Rattle.rpc_laws.specs.ControlSteps.{RetriesOf}
use Rattle.rule_facts.specs.Retrying.{IsFront}
use Rattle.rule_facts.proofs.RetryLemmas.{none-front}
use Rattle.rule_facts.proofs.retrying.retried.Goals as goal

pub returns-then-sessions-i : goal.returns-then-sessions-i
returns-then-sessions-i c =
    let s = c.args.lists.now in
    let past =
    slice_get_past s.clients c.args.i
    (subst (λ (n : ℕ). n ≤ c.args.i) c.len-sessions.ensures c.if-sessions-i.true) in
    subst (λ (x : Option Client).
    IsFront (RetriesOf c.args.clock c.args.timeout s.me s.life x) c.args.facts.now (Some 0))
    (sym past) (none-front c.args.facts.now)

pub returns : goal.returns
returns c =
    let s = c.args.lists.now in
    subst (λ (x : Option Client).
    IsFront (RetriesOf c.args.clock c.args.timeout s.me s.life x) c.args.facts.now
    c.client_retried.result)
    (sym c.at-client.ensures) c.client_retried.ensures
