-- What was handed in with the calls of a node that aren't over, and how it is given back.
use Rattle.std.specs.Prelude.{◌≡◌, ℕ, List, [], ◌∷◌}
use Rattle.client_core.specs.Handing.{Handed}
use Rattle.client_core.specs.declared.outcome.Done.{Done}
use Rattle.rpc_laws.specs.declared.tables.Lists.{Lists}
use Rattle.rpc_laws.specs.declared.tables.Timed.{Timed}
use Rattle.session_store.specs.Handing.{HandsBackAt}
use Rattle.node_steps.specs.Given.{Gave}

-- a node as contracts see it: as the definitions over histories have it, and with what was handed
-- in with the calls of each client session, in their order
pub record Holding : Type 0 where
  pub lists : Lists
  pub clock : ℕ
  pub handed : List (List Handed)

abbrev pub holding : List (List Handed) → Timed → Holding
holding handed s = record { lists = s.lists; clock = s.clock; handed = handed }

-- with other greatest known lives
abbrev pub knowing : List ℕ → Holding → Holding
knowing known h = record h { lists = record h.lists { known = known } }

-- as the definitions over histories have it
abbrev pub timed_of : Holding → Timed
timed_of h = record { lists = h.lists; clock = h.clock }

-- these calls are over, one after another, and what was handed in with each is given back
abbrev pub HandBack : List Done → List (List Handed) → List (List Handed) → Type 0
HandBack [] old new = new ≡ old
HandBack (d ∷ ds) old new =
    (then : List (List Handed)) × HandsBackAt d.session d old then × HandBack ds then new

-- the calls that are over are those that the continuation was given, in order
pub record GivesBackTo {K : Type 0} (given : K → List Done → Type 0) (old new : List (List Handed))
    (from to : K) : Type 0 where
  pub dones : List Done
  pub back : HandBack dones old new
  pub gave : Gave given from to dones
