use Rattle.std.proofs.Common.{◌∙◌, refl}
use Rattle.rpc_laws.proofs.BegunLemmas.{begun-all}
use Rattle.rule_facts.specs.Watching.{call_waits}
use Rattle.rule_facts.proofs.watching.calls_wait.Goals as goal

pub returns : goal.returns
returns c =
    c.all_wait.ensures
    ∙ begun-all (call_waits c.args.clock c.args.timeout c.args.session c.args.queued.now)
    (λ call waits. rw waits refl) _ _ c.begun.ensures
