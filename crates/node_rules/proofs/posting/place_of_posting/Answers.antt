use Rattle.std.proofs.Common.{◌∙◌, refl}
use Rattle.rpc_laws.specs.Posting.{can_post}
use Rattle.rpc_laws.proofs.BegunLemmas.{begun-position}
use Rattle.node_rules.proofs.posting.place_of_posting.Goals as goal

pub returns : goal.returns
returns c =
    c.first_postable.ensures
    ∙ begun-position can_post (λ call waits. rw waits refl) _ _ c.begun.ensures
