-- What a command did to the world.
use Rattle.std.specs.Prelude.{◌≡◌, ℕ, Bool, true, false, Option, Some, None, List, [], ◌∷◌}
use Rattle.std.specs.Prelude.{◌++◌, slice_get}
use Rattle.std.specs.List.{list_all}
use Rattle.rpc_base.specs.declared.event.Event.{Event}
use Rattle.rpc_base.specs.declared.event.Event.TheVariants.{Missed, Worked}
use Rattle.rpc_base.specs.declared.fact.Fact.{Fact}
use Rattle.network_model.specs.declared.stage.Stage.{Stage}
use Rattle.rpc_laws.specs.declared.tables.Timed.{Timed}
use Rattle.rpc_laws.specs.Facts.{plain}
use Rattle.rpc_laws.specs.Groups.{pair_refusal}
use Rattle.sim_script.specs.FollowsScript.{PairsBy, PairsEnds, Round, is_polled}
use Rattle.rpc_world.specs.Answered.{End, Plainly, Play, stage_of, totals_of}
use Rattle.rpc_world.specs.Before.{AllPlay}

-- the facts grew by a group by which P leads from the old stage to the new one, and which answers
-- plainly; afterwards the workers of each endpoint still have what the world says
pub record Performed (P : Stage → List Fact → Stage → Type 0) (old new : Play)
    (before now : List Fact) : Type 0 where
  pub group : List Fact
  pub grew : now ≡ before ++ group
  pub does : P (stage_of old) group (stage_of new)
  pub plain : Plainly group (totals_of old) (totals_of new)
  pub keeps : AllPlay old → AllPlay new

-- nothing refuses node n an end of a pair with these credits
abbrev pub TakesEnd : (n credits : ℕ) → Play → Type 0
TakesEnd n credits s =
    (e : End) → slice_get s.ends n ≡ Some e → pair_refusal credits e.timed.lists ≡ None

-- both ends of a pair were made
pub record TakesEnds (a b credits : ℕ) (s : Stage) (x : List Fact) (t : Stage) : Type 0 where
  pub client : Timed
  pub server : Timed
  pub is_client : slice_get s.nodes a ≡ Some client
  pub is_server : slice_get s.nodes b ≡ Some server
  pub ends : PairsEnds a b credits client server s x t

-- whether a node takes no end of a pair: then why was noted, and otherwise nothing
abbrev pub NotesRefusal : Bool → Option Event → ℕ → List Fact → List Fact → Type 0
NotesRefusal true refusal me before now =
    (e : Event) × (refusal ≡ Some e) × (now ≡ before ++ plain me e ∷ [])
NotesRefusal false refusal me before now = (refusal ≡ None) × (now ≡ before)

-- the server's node was asked for its end, where the client's node takes its own
pub record AsksServer (a b credits : ℕ) (s : Stage) (x : List Fact) (t : Stage) : Type 0 where
  pub client : Timed
  pub server : Timed
  pub is_client : slice_get s.nodes a ≡ Some client
  pub is_server : slice_get s.nodes b ≡ Some server
  pub pairs : PairsBy None (pair_refusal credits server.lists) a b credits client server s x t

-- a round was made, and it is quiet exactly where its only facts are Polled
pub record MakesRound (is_quiet : Bool) (old new : Play) (before now : List Fact) : Type 0 where
  pub made : Performed Round old new before now
  pub quiet : is_quiet ≡ list_all (λ f. is_polled f.event) made.group

-- what is noted of waiting job j, which is the one of this request where there is one
abbrev pub work_event : ℕ → Option (ℕ × ℕ) → Event
work_event j None = Missed j
work_event j (Some named) = Worked named.0 named.1
