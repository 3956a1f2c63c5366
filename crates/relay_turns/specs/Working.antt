-- What holds between the turns of a run that relays.
use Rattle.std.specs.Prelude.{◌≡◌, ℕ, List, [], ◌∷◌, map}
use Rattle.client_core.specs.Handing.{Handed}
use Rattle.deferred_calls.specs.declared.job.Numbered.{Numbered}
use Rattle.desk_laws.specs.Staying.{desk_members}
use Rattle.relay_steps.specs.Passing.{Relayed}
use Rattle.relays.specs.Relaying.{Stands as StandsWith}
use Rattle.rpc_base.specs.declared.fact.Fact.{Fact}
use Rattle.rpc_base.specs.declared.limits.Limits.{Limits}
use Rattle.rpc_outside.specs.declared.service.Service as Service
use Rattle.rpc_turns.specs.Turns.{Stands}

-- the call of a job
pub record Nested : Type 0 where
  pub call : ℕ
  pub job : Numbered

abbrev pub nested_job : Nested → Numbered
nested_job n = n.job

-- what was handed in with a call is that of the call of a job, whose number is its tag
pub record IsHandedOf (h : Handed) (n : Nested) : Type 0 where
  pub call : n.call ≡ h.call
  pub tag : h.tag ≡ n.job.number

-- one by one
abbrev pub AreHandedOf : List Handed → List Nested → Type 0
AreHandedOf [] [] = Unit {0}
AreHandedOf [] (n ∷ ns) = ⊥
AreHandedOf (h ∷ hs) [] = ⊥
AreHandedOf (h ∷ hs) (n ∷ ns) = IsHandedOf h n × AreHandedOf hs ns

-- the endpoint has one client session, whose calls that aren't over are these calls of the jobs
-- that were asked
pub record HasPending {V : Type 0} (pending : List Nested) (s : Relayed V) : Type 0 where
  pub calls : List Handed
  pub handed : s.endpoint.handed ≡ calls ∷ []
  pub are_of : AreHandedOf calls pending
  pub jobs : map nested_job pending ≡ s.relays.asked

-- the endpoint of node 0 stands for these facts; the handles of its desk that are out are of the
-- jobs that were asked, and no job waits for one; and the calls that aren't over are those jobs'
pub record WorksOn {V : Type 0} (service : Service.Ghosts V) (answer : ℕ → List ℕ → List ℕ)
    (limits : Limits) (past : List Fact) (s : Relayed V) : Type 0 where
  pub stands : Stands service (desk_members answer) limits past s.endpoint
  pub relays : StandsWith s.endpoint.workers [] s.relays
  pub none_waits : s.endpoint.workers.waiting ≡ []
  pub pending : List Nested
  pub has_pending : HasPending pending s

-- for some facts
abbrev pub IsAtWork : {V : Type 0} → Service.Ghosts V → (ℕ → List ℕ → List ℕ) → Relayed V → Type 0
IsAtWork service answer s =
    (limits : Limits) × (past : List Fact) × WorksOn service answer limits past s
