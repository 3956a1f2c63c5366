-- A history at rest: nothing is on its way, and no node has a call to begin.
use Rattle.std.specs.Prelude.{ℕ, ◌≡◌, Bool, true, false, Some, List, [], ◌∷◌, slice_get}
use Rattle.end_laws.specs.Moments.{Moment, first_moment, moved}
use Rattle.rpc_base.specs.declared.event.Event.{Event}
use Rattle.rpc_base.specs.declared.event.Event.TheVariants.{Asked, Polled, Restarted}
use Rattle.rpc_base.specs.declared.fact.Fact.{Fact}
use Rattle.rpc_laws.specs.declared.tables.Lists.{Lists}
use Rattle.world_laws.specs.NodeFacts.{facts_of}

-- what the facts of a history leave: the nodes' lists, and the copies in flight
abbrev pub moment_from : Moment → List Fact → Moment
moment_from w [] = w
moment_from w (f ∷ h) = moment_from (moved w f) h

abbrev pub moment_of : List Fact → Moment
moment_of h = moment_from first_moment h

-- nothing has arrived at a node that it didn't handle, nothing is queued, and no job is out
pub record IsEmpty (l : Lists) : Type 0 where
  pub ring : l.ring ≡ []
  pub inbox : l.inbox ≡ []
  pub queued : l.queued ≡ []
  pub jobs : l.jobs.out ≡ []

-- whether a call was asked in the present life and no poll came since
abbrev pub awaits_after : Event → Bool → Bool
awaits_after (Asked call session req_type room) awaits = true
awaits_after (Polled now) awaits = false
awaits_after (Restarted life) awaits = false
awaits_after _ awaits = awaits

abbrev pub awaits_poll : Bool → List Fact → Bool
awaits_poll awaits [] = awaits
awaits_poll awaits (f ∷ facts) = awaits_poll (awaits_after f.event awaits) facts

-- nothing is in flight, the lists of each node are empty, and no node was asked a call since its
-- last poll
pub record IsSettled (h : List Fact) : Type 0 where
  pub flight : (moment_of h).flight ≡ []
  pub lists : (n : ℕ) (l : Lists) → slice_get (moment_of h).nodes n ≡ Some l → IsEmpty l
  pub polled : (n : ℕ) → awaits_poll false (facts_of n h) ≡ false
