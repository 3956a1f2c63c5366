-- Numbers are used once at a node: a call number is asked once, a session number is made once and
-- gets its other end once, and no two calls of a session begin as one request.
use Rattle.std.specs.Prelude.{ℕ, ◌≡◌, ◌≤◌, ◌==◌, Bool, false, List, count_by}
use Rattle.rpc_base.specs.declared.event.Event.{Event}
use Rattle.rpc_base.specs.declared.event.Event.TheVariants.{PairedClient, PairedServer, Opened}
use Rattle.rpc_base.specs.declared.event.Event.TheVariants.{Accepted, Connected}
use Rattle.rpc_base.specs.declared.fact.Fact.{Fact}
use Rattle.node_laws.specs.CallHistory.{asks_call}
use Rattle.node_laws.specs.EndedCalls.{BeganAs}

-- client session s is made
abbrev pub makes_client : ℕ → Event → Bool
makes_client s (PairedClient session peer other credits life) = session == s
makes_client s (Opened session peer credits) = session == s
makes_client s _ = false

-- client session s gets its other end
abbrev pub joins_client : ℕ → Event → Bool
joins_client s (PairedClient session peer other credits life) = session == s
joins_client s (Connected session other life) = session == s
joins_client s _ = false

-- server session t is made, for its other end
abbrev pub makes_server : ℕ → Event → Bool
makes_server t (PairedServer session peer other credits life) = session == t
makes_server t (Accepted session peer other credits life) = session == t
makes_server t _ = false

-- of the facts of one node
pub record UsedOnce (facts : List Fact) : Type 0 where
  pub asked : (c : ℕ) → count_by (λ f. asks_call c f.event) facts ≤ 1
  pub made : (s : ℕ) → count_by (λ f. makes_client s f.event) facts ≤ 1
  pub joined : (s : ℕ) → count_by (λ f. joins_client s f.event) facts ≤ 1
  pub served : (t : ℕ) → count_by (λ f. makes_server t f.event) facts ≤ 1
  pub begun : (c d s r : ℕ) → BeganAs facts c s r → BeganAs facts d s r → c ≡ d
