-- Endpoints: a node is one endpoint after another, each of which has a life. Sessions, calls and
-- requests are an endpoint's.
use Rattle.std.specs.Prelude.{ℕ, ◌+◌, ◌==◌, ◌&&◌, not, Bool, true, false, List, [], ◌∷◌}
use Rattle.std.specs.Prelude.{if◌then◌else◌}
use Rattle.rpc_base.specs.declared.event.Event.{Event}
use Rattle.rpc_base.specs.declared.event.Event.TheVariants.{Restarted}
use Rattle.rpc_base.specs.declared.fact.Fact.{Fact}
use Rattle.rpc_base.specs.declared.fact.Who.{Who}
use Rattle.rpc_base.specs.declared.fact.Who.TheVariants.{Node, Net}
use Rattle.rpc_laws.specs.AtMostOnce.{is_at}
use Rattle.rpc_laws.specs.Facts.{plain, with_bytes, with_two}
use Rattle.rpc_laws.specs.Lives.{first_life}

-- a node in one of its lives
pub record Endpoint : Type 0 where
  pub node : ℕ
  pub life : ℕ

-- a fact, and the life that its node had before it, 0 where it is the network's
pub record Lived : Type 0 where
  pub life : ℕ
  pub fact : Fact

-- facts of an endpoint: an event, with no bytes, one piece of bytes, or two
abbrev pub noted : Endpoint → Event → Lived
noted n e = record { life = n.life; fact = plain n.node e }

abbrev pub noted_with : Endpoint → Event → List ℕ → Lived
noted_with n e bytes = record { life = n.life; fact = with_bytes n.node e bytes }

abbrev pub noted_two : Endpoint → Event → List ℕ → List ℕ → Lived
noted_two n e first second = record { life = n.life; fact = with_two n.node e first second }

-- whether a life begins
abbrev pub begins_life : Event → Bool
begins_life (Restarted life) = true
begins_life _ = false

abbrev pub life_after : ℕ → Fact → ℕ → ℕ
life_after n f life = if is_at n f.who && begins_life f.event then life + 1 else life

-- the life that node n has after some facts, the newest first: the first one, and one more for each
-- time that it was restarted
abbrev pub life_by : ℕ → List Lived → ℕ
life_by n [] = first_life
life_by n (f ∷ past) = life_after n f.fact (life_by n past)

-- what node n is after these facts
abbrev pub present : ℕ → List Lived → Endpoint
present n past = record { node = n; life = life_by n past }

-- a fact that comes next, with the life of its node
abbrev pub life_at : Who → List Lived → ℕ
life_at (Node n) past = life_by n past
life_at Net past = 0

abbrev pub told : List Lived → Fact → Lived
told past f = record { life = life_at f.who past; fact = f }

-- the facts of one endpoint, in their order, where its node has this life before them
abbrev pub facts_from : (now : ℕ) → Endpoint → List Fact → List Fact
facts_from now n [] = []
facts_from now n (f ∷ h) =
    if is_at n.node f.who && (now == n.life && not (begins_life f.event))
    then f ∷ facts_from now n h
    else facts_from (life_after n.node f now) n h

-- of a history from its beginning
abbrev pub facts_by : Endpoint → List Fact → List Fact
facts_by n h = facts_from first_life n h

-- a claim of the facts of each endpoint of a history
abbrev pub EachLife : (List Fact → Type 0) → List Fact → Type 0
EachLife P h = (n : Endpoint) → P (facts_by n h)

-- the facts that follow those so far, in their order, each with the life of its node
abbrev pub lived_from : List Lived → List Fact → List Lived
lived_from past [] = []
lived_from past (f ∷ h) = told past f ∷ lived_from (told past f ∷ past) h

-- of a history from its beginning
abbrev pub lived : List Fact → List Lived
lived h = lived_from [] h
