-- What is own, by what the facts so far tell.
use Rattle.std.specs.Prelude.{ℕ, ◌≡◌, Bool, true, List, []}
use Rattle.std.specs.List.{AllByRecursion}
use Rattle.node_laws.specs.UsedOnce.{UsedOnce}
use Rattle.report_text.specs.Told.{AllTold, IsTold}
use Rattle.rpc_base.specs.declared.event.Event.{Event}
use Rattle.rpc_base.specs.declared.fact.Fact.{Fact}
use Rattle.rpc_base.specs.declared.fact.Who.{Who}
use Rattle.rpc_base.specs.declared.fact.Who.TheVariants.{Node, Net}
use Rattle.rpc_laws.specs.AtMostOnce.{Once}
use Rattle.rpc_laws.specs.Endpoints.{EachLife, Endpoint, Lived, present}
use Rattle.rpc_laws.specs.OwnAnswer.{AtEach, OwnBy, OwnEvent, served_by}
use Rattle.rpc_laws.specs.Service.{AnswersAt, Serving}
use Rattle.lawful_history.specs.Told.{is_own}

-- the facts so far have the bytes that their lines show
abbrev pub AreTold : List Lived → Type 0
AreTold past = AllByRecursion (λ f. IsTold f.fact) past

-- where they do, and tell that the next one is of a call, it is so, if only a handler's answer is
-- the service's
abbrev pub WhatIsToldIsOwn : Type 0
WhatIsToldIsOwn =
    (v : Serving) (past : List Lived) (n : Endpoint) (e : Event) (first second : List ℕ)
    → AreTold past → is_own past n e first ≡ true
    → AnswersAt v (served_by v.mode n.node past) e first second
    → OwnEvent v past n e first second

-- whether a fact is of a call, as the facts before it tell
abbrev pub is_own_at : List Lived → Who → Event → (first : List ℕ) → Bool
is_own_at past (Node n) e first = is_own past (present n past) e first
is_own_at past Net e first = true

-- so is each fact of a history that is own and in which numbers are used once
abbrev pub WhatIsOwnIsTold : Type 0
WhatIsOwnIsTold =
    (services : ℕ → Serving) (h : List Fact) → EachLife UsedOnce h → EachLife Once h → AllTold h
    → OwnBy services h → AtEach (λ past f. is_own_at past f.who f.event f.first ≡ true) [] h
