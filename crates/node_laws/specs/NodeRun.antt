-- A run of one node: what it notes from when it is made, one group of facts after another.
use Rattle.std.specs.Prelude.{ℕ, ◌≡◌, ◌≤◌, ◌<◌, ◌⊎◌, ◌+◌, true, Option, Some, None, List, [], ◌∷◌}
use Rattle.std.specs.Prelude.{◌++◌, count_by, length}
use Rattle.std.specs.List.{list_any}
use Rattle.rpc_base.specs.declared.event.Event.{Event}
use Rattle.rpc_base.specs.declared.event.Event.TheVariants.{Made, PairedClient, PairedServer}
use Rattle.rpc_base.specs.declared.event.Event.TheVariants.{Restarted}
use Rattle.rpc_base.specs.declared.event.Event.TheVariants.{Worked, Missed}
use Rattle.rpc_base.specs.declared.fact.Fact.{Fact}
use Rattle.rpc_base.specs.declared.limits.Limits.{Limits}
use Rattle.rpc_base.specs.declared.limits.TheConstants.{MOST_CREDITS, SESSION_NUMBERS}
use Rattle.rpc_outside.specs.declared.service.Mode.{Mode}
use Rattle.rpc_laws.specs.declared.tables.Timed.{Timed}
use Rattle.rpc_laws.specs.AtMostOnce.{works_request}
use Rattle.rpc_laws.specs.Deliveries.{Delivers}
use Rattle.rpc_laws.specs.Facts.{plain}
use Rattle.rpc_laws.specs.Groups.{Asks, Connects, Disconnects, SetsRate, client_refusal}
use Rattle.rpc_laws.specs.Groups.{server_refusal}
use Rattle.rpc_laws.specs.Jobs.{is_job}
use Rattle.rpc_laws.specs.NodeLists.{new_node}
use Rattle.rpc_laws.specs.PollOrder.{Poll}
use Rattle.rpc_laws.specs.Service.{Serving, Answers}
use Rattle.rpc_laws.specs.Steps.{Goes, Chain}

-- one event is noted, with no bytes
pub record Notes (event : Event) (s : Timed) (x : List Fact) (t : Timed) : Type 0 where
  pub facts : x ≡ plain s.lists.me event ∷ []
  pub goes : Goes s x t

-- an end of a session has 1 to 256 credits
pub record IsCredits (credits : ℕ) : Type 0 where
  pub some : 1 ≤ credits
  pub few : credits ≤ MOST_CREDITS

-- an end of a pair may be made, for an end of this number and life: its credits are few, and
-- nothing refuses it
pub record MayPair (refusal : Option Event) (other credits : ℕ) : Type 0 where
  pub credits_fit : IsCredits credits
  pub other_is : other < SESSION_NUMBERS
  pub fits : refusal ≡ None

-- why an end of a pair isn't made: a client end or a server end is refused
abbrev pub Refuses : ℕ → Event → Timed → Type 0
Refuses credits event s =
    (client_refusal credits s.lists ≡ Some event) ⊎ (server_refusal credits s.lists ≡ Some event)

-- what is noted at once: an application call with its answer or refusal; a datagram is delivered; a
-- poll; and, by the world, that a job that is out was worked, or that there was none to work
pub data Group (mode : ℕ → Mode) (s : Timed) (x : List Fact) (t : Timed) : Type 0 where
  pairs_client : (peer server credits life : ℕ)
      → MayPair (client_refusal credits s.lists) server credits
      → Notes (PairedClient (length s.lists.clients) peer server credits life) s x t
      → Group mode s x t
  pairs_server : (peer client credits life : ℕ)
      → MayPair (server_refusal credits s.lists) client credits
      → Notes (PairedServer s.lists.server_numbers peer client credits life) s x t
      → Group mode s x t
  refuses : (credits : ℕ) → IsCredits credits → (event : Event) → Refuses credits event s
      → Notes event s x t → Group mode s x t
  connects : (peer credits rate : ℕ) → IsCredits credits → Connects peer credits rate s x t
      → Group mode s x t
  disconnects : (session : ℕ) → Disconnects session s x t → Group mode s x t
  sets_rate : (session rate : ℕ) → SetsRate session rate s x t → Group mode s x t
  asks : (session req_type : ℕ) → (ask : List ℕ) → (room : ℕ) → Asks session req_type ask room s x t
      → Group mode s x t
  delivers : (peer : ℕ) → (bytes : List ℕ) → Delivers peer bytes s x t → Group mode s x t
  polls : (now : ℕ) → Poll mode now s x t → Group mode s x t
  works : (session request : ℕ) → list_any (is_job session request) s.lists.jobs.out ≡ true
      → Notes (Worked session request) s x t → Group mode s x t
  misses : (i : ℕ) → Notes (Missed i) s x t → Group mode s x t

-- g is what a node notes in one life, from when it is made or restarted, with this number, these
-- limits and this service, and t what it is then: one group after another, no job is worked twice,
-- and each Ran has the service's answer after what ran in the event loop before it
pub record LifeRun (v : Serving) (me life : ℕ) (limits : Limits) (g : List Fact) (t : Timed)
    : Type 0 where
  pub steps : Chain (Group v.mode) (new_node me life limits) g t
  pub worked_once : (session request : ℕ) → count_by (λ f. works_request session request f.event) g
      ≤ 1
  pub answers : Answers v [] g

-- g is what a node notes from when it is made in this life: that life, and where it is restarted
-- the next one. The Made that the world notes of it stands before g
pub data NodeRun (v : Serving) (me : ℕ) (limits : Limits) : ℕ → List Fact → Timed → Type 0 where
  lives_on : (life : ℕ) (g : List Fact) (t : Timed) → LifeRun v me life limits g t
      → NodeRun v me limits life g t
  restarts : (life : ℕ) (part rest : List Fact) (s t : Timed) → LifeRun v me life limits part s
      → NodeRun v me limits (life + 1) rest t
      → NodeRun v me limits life (part ++ plain me (Restarted (life + 1)) ∷ rest) t

-- the same where g may begin with that Made
pub record MadeRun (v : Serving) (me : ℕ) (limits : Limits) (first : ℕ) (g : List Fact) (t : Timed)
    : Type 0 where
  pub rest : List Fact
  pub made : (g ≡ rest) ⊎ (g ≡ plain me (Made limits.ring) ∷ rest)
  pub run : NodeRun v me limits first rest t
