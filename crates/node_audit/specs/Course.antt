-- How far a node has come, life after life.
use Rattle.std.specs.Prelude.{ℕ, ◌≡◌, ◌↔◌, Bool, true, false, Option, Some, None}
use Rattle.std.specs.Prelude.{List, ◌∷◌, ◌++◌}
use Rattle.rpc_base.specs.declared.event.Event.TheVariants.{Made}
use Rattle.rpc_base.specs.declared.fact.Fact.{Fact}
use Rattle.rpc_laws.specs.declared.tables.Timed.{Timed}
use Rattle.rpc_laws.specs.Facts.{plain}
use Rattle.rpc_laws.specs.Lives.{first_life}
use Rattle.rpc_laws.specs.Service.{plain_serving}
use Rattle.rpc_laws.specs.UsualLimits.{with_ring}
use Rattle.node_laws.specs.NodeRun.{NodeRun}
use Rattle.front_laws.specs.Laws.{NoneBegins}
use Rattle.world_laws.specs.NodeFacts.{Runs}
use Rattle.node_audit.specs.Groups.{KeepsGroups}
use Rattle.node_audit.specs.Handled.{IsHandled, KeepsHandled}
use Rattle.node_audit.specs.declared.course.Course.{Course}

-- a run of a node of a script that begins in some life
abbrev pub RunsFrom : (me life ring : ℕ) → List Fact → Timed → Type 0
RunsFrom me life ring g t = NodeRun plain_serving me (with_ring ring) life g t

-- after these facts, at whose end this life begins, a run goes on as one that begins with it
abbrev pub LeadsTo : (me life ring : ℕ) → List Fact → Type 0
LeadsTo me life ring past =
    (x : List Fact) (t : Timed)
    → RunsFrom me first_life ring (past ++ x) t ↔ RunsFrom me life ring x t

-- the facts so far are a node's Made and those of its earlier lives, and then those of its present
-- life, which are groups, maybe with the beginning of a poll, and are handled as they are to be
pub record KeepsCourse (c : Course) (me : ℕ) (g : List Fact) : Type 0 where
  pub ring : ℕ
  pub life : ℕ
  pub past : List Fact
  pub present : List Fact
  pub facts : g ≡ plain me (Made ring) ∷ past ++ present
  pub leads : LeadsTo me life ring past
  pub one : NoneBegins present
  pub groups : KeepsGroups c.groups me life ring present
  pub handled : KeepsHandled c.handled present
  pub right : IsHandled present

-- no run of the node begins with these facts
abbrev pub IsBroken : (me : ℕ) → List Fact → Type 0
IsBroken me g = (x : List Fact) → Runs me (g ++ x) → ⊥

abbrev pub IsGoing : Bool → Course → (me : ℕ) → List Fact → Type 0
IsGoing true c me g = KeepsCourse c me g
IsGoing false c me g = IsBroken me g

abbrev pub Begins : (me : ℕ) → List Fact → Option Course → Type 0
Begins me g None = IsBroken me g
Begins me g (Some c) = KeepsCourse c me g
