-- A turn of an endpoint: datagrams are received and delivered, and then it polls.
use Rattle.std.specs.Prelude.{◌≡◌, ℕ, ◌≤◌, ◌⊎◌, Bool, true, false, Option, None, option_map}
use Rattle.std.specs.Prelude.{is_none, IfOk, Result}
use Rattle.std.specs.Prelude.{IfSome, List, [], ◌∷◌, ◌++◌, length}
use Rattle.rpc_outside.specs.Recording.{Log}
use Rattle.rpc_laws.specs.Deliveries.{Delivers}
use Rattle.rpc_laws.specs.Steps.{Rel, Then}
use Rattle.rpc_outside.specs.Linking.{Carried, KeepsAddresses, NoneComes}
use Rattle.rpc_laws.specs.declared.tables.Lists.{Lists}
use Rattle.node_steps.specs.Peers.{is_with}
use Rattle.rpc_outside.specs.declared.link.Link as Link
use Rattle.endpoint_loop.specs.Endpoints.{Leaves}
use Rattle.endpoint_loop.specs.declared.endpoint.poll.Turn.{Turn}
use Rattle.endpoint_loop.specs.declared.endpoint.turn.TheConstants.{MOST_ARRIVALS}
use Rattle.node_steps.specs.Changes.{◌⟶◌, Change}
use Rattle.node_steps.specs.Notes.{Makes}
use Rattle.endpoint_loop.specs.Polls.{LinkTells, MakesPoll, turn_of, wire_of}
use Rattle.endpoint_loop.specs.Endpoints.{Running}
use Rattle.endpoint_loop.specs.Bounds.{Bounds}
use Rattle.endpoint_loop.specs.Stands.{GoesOn}
use Rattle.node_steps.specs.Handed.{GivesBackTo}
use Rattle.memory_count.specs.Faults.{HasCause, HasRisen}
use Rattle.node_steps.specs.Links.{FailedAs}

-- these datagrams are delivered, one after another
abbrev pub DeliversAll : List Carried → Rel
DeliversAll [] s x t = (x ≡ []) × (t ≡ s)
DeliversAll (d ∷ ds) s x t = Then (Delivers d.0 d.1) (DeliversAll ds) s x t

-- these datagrams came from a link, at most as many as a turn receives: they were the first of
-- those that waited, and are the last of those received, where the link tells these
pub record Came {L : Type 0} (received waiting : L → Option (List Carried)) (came : List Carried)
    (from to : L) : Type 0 where
  pub most : length came ≤ MOST_ARRIVALS
  pub last : received to ≡ option_map (λ ds. ds ++ came) (received from)
  pub front : waiting from ≡ option_map (λ ds. came ++ ds) (waiting to)

-- no more came: they are as many as a turn receives, or none waits, where that is told
abbrev pub IsAll : (came : List Carried) → (waiting : Option (List Carried)) → Type 0
IsAll came waiting = (length came ≡ MOST_ARRIVALS) ⊎ IfSome waiting (λ ds. ds ≡ [])

-- these datagrams are delivered, and the service, the workers and what was handed in stay
pub record TakesIn {R V W : Type 0} (log : R → Log) (came : List Carried) (old new : Running V W)
    (before now : R) : Type 0 where
  pub delivers : Makes log (DeliversAll came) old.timed new.timed before now
  pub leaves : Leaves old new
  pub handed : new.handed ≡ old.handed

-- the datagrams that came are delivered; where the link didn't fail, no more came
pub record Receives {R L V W : Type 0} (log : R → Log) (net : Link.Ghosts L) (failed : Bool)
    (old new : Running V W) (before now : R) (from to : L) : Type 0 where
  pub came : List Carried
  pub comes : Came net.received net.waiting came from to
  pub all : failed ≡ false → IsAll came (net.waiting to)
  pub takes : TakesIn log came old new before now

-- a live session is with this peer
pub record HasSession (peer : ℕ) (s : Lists) : Type 0 where
  pub place : ℕ
  pub here : is_with place peer s ≡ true

-- a link tells all that it told before
pub record TellsAsBefore {L : Type 0} (net : Link.Ghosts L) (old new : L) : Type 0 where
  pub sent : net.sent new ≡ net.sent old
  pub lists : NoneComes net.waiting net.received old new
  pub addresses : KeepsAddresses net.bound net.numbers old new
  pub faults : net.faults new ≡ net.faults old
  pub busies : net.busies new ≡ net.busies old

-- what a turn told: what its poll told, where the link didn't fail in receiving
abbrev pub told_after : (failed : Bool) → Option Turn → Option Turn
told_after true polled = None
told_after false polled = polled

-- what a link tells after receiving, which sends nothing
pub record ReceivesOnly (failed : Bool) (link then_link : LinkTells) : Type 0 where
  pub sent : then_link.sent ≡ link.sent
  pub busies : then_link.troubles.busies ≡ link.troubles.busies
  pub faults : FailedAs failed link.troubles.faults then_link.troubles.faults

-- the recorder grew by a delivery for each datagram that came, in order, and then by a poll. Where
-- the link didn't fail in receiving, no more datagrams came; where it did, the poll was made all
-- the same. The poll told nothing where the link failed in it
pub record MakesTurn {R K L V W : Type 0} (b : Bounds R K V W) (net : Link.Ghosts L)
    (told : Option Turn) (now : ℕ) (link : Change L) (e : Change (Running V W)) (rec : Change R)
    (k : Change K) (memory : Change ℕ) : Type 0 where
  pub came : List Carried
  pub comes : Came net.received net.waiting came link.old link.new
  pub failed : Bool
  pub all : failed ≡ false → IsAll came (net.waiting link.new)
  pub between : Running V W
  pub mid : R
  pub takes : TakesIn b.log came e.old between rec.old mid
  pub mid_link : LinkTells
  pub receives : ReceivesOnly failed (wire_of net link.old) mid_link
  pub polled : Option Turn
  pub told_as : told ≡ told_after failed polled
  pub polls : MakesPoll b polled now (mid_link ⟶ wire_of net link.new) (between ⟶ e.new)
      (mid ⟶ rec.new) k memory
  pub cause : FailedAs (is_none polled) mid_link.troubles.faults (net.faults link.new)

-- a turn, and what it leaves: whatever the endpoint stood for, it stands for that and the facts of
-- the turn; the turn is busy only where the link was busy once more; the workers are of the same
-- team; the link failed exactly where a fault is told; what was handed in is given back with the
-- calls that end; and memory isn't refused less often
pub record Turns {R K L V W E : Type 0} (b : Bounds R K V W) (net : Link.Ghosts L)
    (told : Result Turn E) (now : ℕ) (link : Change L) (e : Change (Running V W)) (rec : Change R)
    (k : Change K) (memory : Change ℕ) : Type 0 where
  pub turns : MakesTurn b net (turn_of told) now link e rec k memory
  pub goes_on : GoesOn b.log b.service b.workers e.old e.new rec.old rec.new
  pub busy : IfOk told (λ turn. turn.busy ≡ true
      → HasRisen (net.busies link.old) (net.busies link.new))
  pub team : b.workers.team e.new.workers ≡ b.workers.team e.old.workers
  pub cause : HasCause (net.faults link.old) (net.faults link.new) told
  pub handed : GivesBackTo b.given e.old.handed e.new.handed k.old k.new
  pub no_less : memory.old ≤ memory.new
