-- Turns of an endpoint by a clock.
use Rattle.std.specs.Prelude.{◌≡◌, ℕ, Option, List, ◌++◌, length, map, option_map}
use Rattle.std.specs.List.{filter}
use Rattle.client_core.specs.Shown.{done_fact}
use Rattle.client_core.specs.declared.outcome.Done.{Done}
use Rattle.endpoint_loop.specs.declared.endpoint.poll.Turn.{Turn}
use Rattle.node_steps.specs.Changes.{◌⟶◌, Change}
use Rattle.node_steps.specs.Given.{Gave}
use Rattle.node_steps.specs.Notes.{asked_in, is_end, sent_of}
use Rattle.endpoint_loop.specs.Endpoints.{Running}
use Rattle.endpoint_loop.specs.Stands.{StandsFor}
use Rattle.endpoint_loop.specs.Turns.{MakesTurn}
use Rattle.rpc_base.specs.declared.fact.Fact.{Fact}
use Rattle.rpc_base.specs.declared.limits.Limits.{Limits}
use Rattle.rpc_outside.specs.Linking.{Carried}
use Rattle.rpc_outside.specs.Recording.{Grew, Log}
use Rattle.rpc_outside.specs.Ticking.{Gives}
use Rattle.rpc_outside.specs.declared.service.Service as Service
use Rattle.rpc_turns.specs.Moments.{Edges, Moment, Outside, Rested}
use Rattle.endpoint_loop.specs.Bounds.{bounds}
use Rattle.rpc_turns.specs.Rests.{CountsTurn, Rests, is_asleep}
use Rattle.worker_crew.specs.declared.workers.Workers as Workers

-- the endpoint of node 0 stands for these facts, which it noted since it was made: they are a run
-- of its node with these limits
pub record Stands {V W : Type 0} (service : Service.Ghosts V) (workers : Workers.Ghosts W)
    (limits : Limits) (g : List Fact) (e : Running V W) : Type 0 where
  pub node : e.timed.lists.me ≡ 0
  pub runs : StandsFor service workers limits g e

-- the recorder grew by facts, and for whatever the endpoint stood, it stands for that and these
-- facts after it, in the life that it had
pub record GoesOnBy {R V W : Type 0} (log : R → Log) (service : Service.Ghosts V)
    (workers : Workers.Ghosts W) (old new : Running V W) (before now : R) : Type 0 where
  pub noted : List Fact
  pub grew : Grew (log before) (log now) noted
  pub goes_on : (limits : Limits) → (past : List Fact) → Stands service workers limits past old
      → Stands service workers limits (past ++ noted) new
  pub lives : (limits : Limits) → (past : List Fact) → Stands service workers limits past old
      → new.timed.lists.life ≡ old.timed.lists.life

-- a turn of a run: where the run is asleep its link waited, then the clock gave one number, and the
-- endpoint made one turn then
pub record TakesTurn {V W L C R K : Type 0} (service : Service.Ghosts V)
    (workers : Workers.Ghosts W) (o : Outside L C R) (given : K → List Done → Type 0)
    (told : Option Turn) (old new : Moment (Rested V W) L C R) (from to : K) (memory : Change ℕ)
    : Type 0 where
  pub ready : L
  pub rests : Rests o.net (is_asleep old.run.rest) old.edges.link ready
  pub now : ℕ
  pub ticks : Gives o.gave old.edges.clock new.edges.clock now
  pub turns : MakesTurn (bounds o.log given service workers) o.net told now (ready ⟶ new.edges.link)
      (old.run.endpoint ⟶ new.run.endpoint) (old.edges.rec ⟶ new.edges.rec) (from ⟶ to) memory
  pub counts : CountsTurn told new.run.endpoint.timed.lists old.run.rest new.run.rest

-- what the facts of a turn tell besides: the calls that the continuation was given are those whose
-- ends were noted, in order; no call was asked; and the link, where it tells what it sent, sent
-- just the datagrams that were noted as sent
pub record TellsMore {K : Type 0} (given : K → List Done → Type 0)
    (sent then_sent : Option (List Carried)) (noted : List Fact) (from to : K) : Type 0 where
  pub dones : List Done
  pub ends : filter is_end noted ≡ map (done_fact 0) dones
  pub gave : Gave given from to dones
  pub asks : asked_in noted ≡ 0
  pub sends : then_sent ≡ option_map (λ ds. ds ++ sent_of noted) sent

-- the recorder grew by the facts of a turn, by which the endpoint goes on
pub record TellsTurn {V W L C R K : Type 0} (service : Service.Ghosts V)
    (workers : Workers.Ghosts W) (o : Outside L C R) (given : K → List Done → Type 0)
    (old new : Moment (Running V W) L C R) (from to : K) : Type 0 where
  pub goes : GoesOnBy o.log service workers old.run new.run old.edges.rec new.edges.rec
  pub told : (limits : Limits) → (past : List Fact) → Stands service workers limits past old.run
      → TellsMore given (o.net.sent old.edges.link) (o.net.sent new.edges.link) goes.noted from to

-- a clock gave these answers more
abbrev pub GivesAll : {C : Type 0} → (gave : C → List ℕ → Type 0) → (old new : C) → List ℕ → Type 0
GivesAll gave old new times = (before : List ℕ) → gave old before → gave new (before ++ times)

-- n turns were made: the recorder grew by their facts, the link sent just what they say was sent,
-- where it tells that, and the clock gave one number for each
pub record RunsOn {V W L C R : Type 0} (service : Service.Ghosts V) (workers : Workers.Ghosts W)
    (o : Outside L C R) (old new : Moment (Running V W) L C R) (n : ℕ) : Type 0 where
  pub goes : GoesOnBy o.log service workers old.run new.run old.edges.rec new.edges.rec
  pub sends : (limits : Limits) → (past : List Fact) → Stands service workers limits past old.run
      → o.net.sent new.edges.link
      ≡ option_map (λ ds. ds ++ sent_of goes.noted) (o.net.sent old.edges.link)
  pub times : List ℕ
  pub count : length times ≡ n
  pub ticks : GivesAll o.gave old.edges.clock new.edges.clock times

-- what a run did in so many turns since it was around these edges, whose endpoint is the one that
-- is left: the facts are a run of node 0 in this life with these limits, the link, where it tells
-- that, sent just what they say was sent, and the clock gave a number for each turn
pub record HasTurned {V W L C R : Type 0} (service : Service.Ghosts V) (workers : Workers.Ghosts W)
    (o : Outside L C R) (life : ℕ) (limits : Limits) (old : Edges L C R)
    (new : Moment (Running V W) L C R) (made : ℕ) : Type 0 where
  pub noted : List Fact
  pub grew : Grew (o.log old.rec) (o.log new.edges.rec) noted
  pub in_life : new.run.timed.lists.life ≡ life
  pub stands : Stands service workers limits noted new.run
  pub sends : o.net.sent new.edges.link
      ≡ option_map (λ ds. ds ++ sent_of noted) (o.net.sent old.link)
  pub times : List ℕ
  pub count : length times ≡ made
  pub ticks : GivesAll o.gave old.clock new.edges.clock times
