-- The laws of fronts, of every run of a node.
use Rattle.std.specs.Prelude.{ℕ, ◌≡◌, ◌⊎◌, false, List, [], ◌++◌}
use Rattle.std.specs.List.{AllByRecursion}
use Rattle.rpc_base.specs.declared.fact.Fact.{Fact}
use Rattle.rpc_base.specs.declared.limits.Limits.{Limits}
use Rattle.rpc_outside.specs.declared.service.Mode.{Mode}
use Rattle.rpc_laws.specs.declared.tables.Timed.{Timed}
use Rattle.rpc_laws.specs.Endpoints.{begins_life}
use Rattle.rpc_laws.specs.NodeLists.{new_node}
use Rattle.rpc_laws.specs.PollOrder.{Poll}
use Rattle.rpc_laws.specs.Service.{Serving}
use Rattle.rpc_laws.specs.Steps.{Chain}
use Rattle.node_laws.specs.NodeRun.{Group, LifeRun, NodeRun}
use Rattle.node_laws.specs.Valid.{Valid}
use Rattle.front_laws.specs.Told.{left_by}
use Rattle.front_laws.specs.Whole.{ends_open}

-- a front of a life is such a life, and what comes after it are groups
pub record Parts (v : Serving) (me life : ℕ) (limits : Limits) (g x : List Fact) (t : Timed)
    : Type 0 where
  pub between : Timed
  pub run : LifeRun v me life limits g between
  pub rest : Chain (Group v.mode) between x t

-- a life is cut wherever its node isn't in the midst of a poll
abbrev pub LivesAreCut : Type 0
LivesAreCut =
    (v : Serving) (me life : ℕ) (limits : Limits) (g x : List Fact) (t : Timed)
    → LifeRun v me life limits (g ++ x) t → ends_open false g ≡ false
    → Parts v me life limits g x t

-- these facts are a run, which leaves its node somehow
pub record IsFront (v : Serving) (me life : ℕ) (limits : Limits) (g : List Fact) : Type 0 where
  pub left : Timed
  pub run : NodeRun v me limits life g left

-- and so is a run: each such front of it is one
abbrev pub RunsAreCut : Type 0
RunsAreCut =
    (v : Serving) (me life : ℕ) (limits : Limits) (g x : List Fact) (t : Timed)
    → NodeRun v me limits life (g ++ x) t → ends_open false g ≡ false
    → IsFront v me life limits g

-- a run leaves its node as its facts tell
abbrev pub FactsTellTheState : Type 0
FactsTellTheState =
    (v : Serving) (me life : ℕ) (limits : Limits) (g : List Fact) (t : Timed)
    → NodeRun v me limits life g t → left_by (new_node me life limits) g ≡ t

-- the same facts, which leave the same state
pub record Same (x y : List Fact) (t u : Timed) : Type 0 where
  pub facts : x ≡ y
  pub left : t ≡ u

-- of all fronts of some facts at most one is a poll of a node whose tables are in order
abbrev pub OneFrontIsAPoll : Type 0
OneFrontIsAPoll =
    (mode : ℕ → Mode) (now other : ℕ) (s : Timed) (x y r q : List Fact) (t u : Timed)
    → Valid s.lists
    → Poll mode now s x t → Poll mode other s y u → x ++ r ≡ y ++ q → Same x y t u

-- these facts end outside of a poll, and of their fronts only none and all do
pub record IsOneGroup (x : List Fact) : Type 0 where
  pub some : x ≡ [] → ⊥
  pub shut : ends_open false x ≡ false
  pub alone : (a b : List Fact) → x ≡ a ++ b → ends_open false a ≡ false → (a ≡ []) ⊎ (b ≡ [])

-- no life begins at any of these facts
abbrev pub NoneBegins : List Fact → Type 0
NoneBegins y = AllByRecursion (λ f. begins_life f.event ≡ false) y

-- the next group of a run: with it the facts are a run too
pub record Next (v : Serving) (me life : ℕ) (limits : Limits) (g : List Fact) (s : Timed)
    (y : List Fact) : Type 0 where
  pub after : Timed
  pub group : Group v.mode s y after
  pub run : NodeRun v me limits life (g ++ y) after

-- where a run goes on with such facts, of one life, they are its next group
abbrev pub OneGroupIsNext : Type 0
OneGroupIsNext =
    (v : Serving) (me life : ℕ) (limits : Limits) (g y x : List Fact) (s t : Timed)
    → NodeRun v me limits life g s → NodeRun v me limits life ((g ++ y) ++ x) t → IsOneGroup y
    → NoneBegins y → Next v me life limits g s y
