use Rattle.std.proofs.Common.{◌∙◌, refl}
use Rattle.rpc_laws.specs.Posting.{holds_slot}
use Rattle.rpc_laws.proofs.BegunLemmas.{begun-any}
use Rattle.node_rules.proofs.posting.is_taken.Goals as goal

pub returns : goal.returns
returns c =
    c.some_holds.ensures
    ∙ begun-any (λ call. holds_slot c.args.slot call.progress) (λ call waits. rw waits refl) _ _
    c.begun.ensures
