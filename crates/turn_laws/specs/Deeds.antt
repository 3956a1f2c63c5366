-- What a node does in turns and in calls of its application, one after another.
use Rattle.std.specs.Prelude.{ℕ, ◌≡◌, ◌≤◌, List, [], ◌∷◌, ◌++◌, count_by}
use Rattle.rpc_base.specs.declared.fact.Fact.{Fact}
use Rattle.rpc_base.specs.declared.limits.Limits.{Limits}
use Rattle.rpc_outside.specs.declared.service.Mode.{Mode}
use Rattle.rpc_outside.specs.Linking.{Carried}
use Rattle.rpc_laws.specs.declared.tables.Timed.{Timed}
use Rattle.rpc_laws.specs.AtMostOnce.{works_request}
use Rattle.rpc_laws.specs.NodeLists.{new_node}
use Rattle.rpc_laws.specs.Service.{Serving, Answers}
use Rattle.rpc_laws.specs.Steps.{Then}
use Rattle.end_laws.specs.JointRun.{AloneGroup}
use Rattle.endpoint_loop.specs.Turns.{DeliversAll}

-- what a node did in a turn or in a call: its number, the datagrams that came in it, in order, each
-- with the peer that it is said to be from, and what it noted
pub record Deed : Type 0 where
  pub node : ℕ
  pub came : List Carried
  pub noted : List Fact

-- a node makes a group by itself, or does nothing more
pub data MayAct (mode : ℕ → Mode) (s : Timed) (x : List Fact) (t : Timed) : Type 0 where
  acts : AloneGroup mode s x t → MayAct mode s x t
  rests : x ≡ [] → t ≡ s → MayAct mode s x t

-- what came was delivered, in that order, and then the node made a group by itself or did nothing
-- more
abbrev pub Does : (ℕ → Mode) → Deed → Timed → Timed → Type 0
Does mode d s t = Then (DeliversAll d.came) (MayAct mode) s d.noted t

-- one deed after another
abbrev pub DoesAll : (ℕ → Mode) → List Deed → Timed → Timed → Type 0
DoesAll mode [] s t = t ≡ s
DoesAll mode (d ∷ ds) s t = (u : Timed) × Does mode d s u × DoesAll mode ds u t

-- what was noted in them
abbrev pub noted_in : List Deed → List Fact
noted_in [] = []
noted_in (d ∷ ds) = d.noted ++ noted_in ds

-- ds is what a node did since it was made, with this number, this life, these limits and this
-- service, and t what it is then: one deed after another, no job is worked twice, and each Ran has
-- the service's answer after what ran in the event loop before it
pub record NodeDid (v : Serving) (me life : ℕ) (limits : Limits) (ds : List Deed) (t : Timed)
    : Type 0 where
  pub steps : DoesAll v.mode ds (new_node me life limits) t
  pub worked_once : (session request : ℕ)
      → count_by (λ f. works_request session request f.event) (noted_in ds) ≤ 1
  pub answers : Answers v [] (noted_in ds)
