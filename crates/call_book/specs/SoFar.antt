-- The facts of a history so far, and whether each is of a call.
use Rattle.std.specs.Prelude.{◌≡◌, true, List, [], ◌∷◌}
use Rattle.rpc_base.specs.declared.fact.Fact.{Fact}
use Rattle.rpc_laws.specs.Endpoints.{Lived, told}
use Rattle.rpc_laws.specs.OwnAnswer.{AtEach}
use Rattle.lawful_history.specs.OwnTold.{is_own_at}

-- the facts so far and those that follow, each with the life of its node, the newest first
abbrev pub so_far_from : List Lived → List Fact → List Lived
so_far_from past [] = past
so_far_from past (f ∷ h) = so_far_from (told past f ∷ past) h

-- from the beginning of a history
abbrev pub so_far : List Fact → List Lived
so_far h = so_far_from [] h

-- each fact is of a call, as the facts before it tell
abbrev pub CallsTold : List Fact → Type 0
CallsTold h = AtEach (λ past f. is_own_at past f.who f.event f.first ≡ true) [] h
