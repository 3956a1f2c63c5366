-- How far the groups of a life of a node of the plain service have come.
use Rattle.std.specs.Prelude.{ℕ, ◌≡◌, Bool, true, false, List, [], ◌∷◌, ◌++◌}
use Rattle.rpc_base.specs.declared.fact.Fact.{Fact}
use Rattle.rpc_laws.specs.declared.tables.Timed.{Timed}
use Rattle.rpc_laws.specs.NodeLists.{new_lists, new_node}
use Rattle.rpc_laws.specs.PollOrder.{Poll}
use Rattle.rpc_laws.specs.Steps.{Chain}
use Rattle.rpc_laws.specs.UsualLimits.{with_ring}
use Rattle.rpc_outside.specs.PlainAnswer.{plain_mode}
use Rattle.node_laws.specs.NodeRun.{Group}
use Rattle.front_laws.specs.Whole.{ends_open}
use Rattle.node_rules.specs.SingleFacts.{at_clock, BeginsPolls}
use Rattle.node_audit.specs.declared.groups.Groups.{Groups}

-- a node as its last group left it
abbrev pub left : Groups → Timed
left a = at_clock a.clock a.lists

-- a node as it is made or restarted, in no poll
pub record IsNew (a : Groups) (me life ring : ℕ) : Type 0 where
  pub lists : a.lists ≡ new_lists me life (with_ring ring)
  pub clock : a.clock ≡ 0
  pub shut : a.pending ≡ []

-- of the fronts of these facts only the empty one ends outside of a poll
abbrev pub InPoll : List Fact → Type 0
InPoll x = (y z : List Fact) → x ≡ y ++ z → ends_open false y ≡ false → y ≡ []

-- these facts of a life are groups, and then those of a poll that isn't over
pub record KeepsGroups (a : Groups) (me life ring : ℕ) (x : List Fact) : Type 0 where
  pub done : List Fact
  pub facts : x ≡ done ++ a.pending
  pub groups : Chain (Group plain_mode) (new_node me life (with_ring ring)) done (left a)
  pub in_poll : InPoll a.pending

-- no groups begin with these facts
abbrev pub NoGroups : (me life ring : ℕ) → List Fact → Type 0
NoGroups me life ring x =
    (y : List Fact) (t : Timed)
    → Chain (Group plain_mode) (new_node me life (with_ring ring)) (x ++ y) t → ⊥

abbrev pub GoesOn : Bool → Groups → (me life ring : ℕ) → List Fact → Type 0
GoesOn true a me life ring x = KeepsGroups a me life ring x
GoesOn false a me life ring x = NoGroups me life ring x

-- a fact outside of a poll is a group, or only polls begin with it
pub data NotesAlone (a : Groups) (f : Fact) (b : Groups) : Bool → Type 0 where
  alone : Group plain_mode (left a) (f ∷ []) (left b) → b.pending ≡ a.pending
      → NotesAlone a f b true
  begins : BeginsPolls a.lists f → NotesAlone a f b false

-- the facts of the open poll are a poll, which is over, or they are none
pub data EndsPoll (a b : Groups) : Bool → Type 0 where
  ends : (now : ℕ) → Poll plain_mode now (left a) a.pending (left b) → b.pending ≡ []
      → EndsPoll a b true
  no_poll : ((now : ℕ) (t : Timed) → Poll plain_mode now (left a) a.pending t → ⊥)
      → EndsPoll a b false
