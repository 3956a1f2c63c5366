use Rattle.std.proofs.Common.{◌≡◌, ◌≤◌, ℕ, Option, refl, subst, sym, true}
use Rattle.std.proofs.lemmas.Option.{slice_get_past}
use Rattle.rpc_laws.specs.declared.tables.Client.{Client}
use Rattle.rule_facts.specs.Watching.{client_waits}
use Rattle.rule_facts.proofs.watching.is_quiet.Goals as goal

pub returns-then-sessions-i : goal.returns-then-sessions-i
returns-then-sessions-i c =
    let s = c.args.lists.now in
    let past =
    slice_get_past s.clients c.args.i
    (subst (λ (n : ℕ). n ≤ c.args.i) c.len-sessions.ensures c.if-sessions-i.true) in
    subst (λ (x : Option Client). true ≡ client_waits c.args.clock c.args.timeout s.queued x)
    (sym past) refl

pub returns : goal.returns
returns c =
    let s = c.args.lists.now in
    subst (λ (x : Option Client). c.calls_wait.result ≡ client_waits c.args.clock c.args.timeout
    s.queued x)
    (sym c.at-client.ensures) c.calls_wait.ensures
