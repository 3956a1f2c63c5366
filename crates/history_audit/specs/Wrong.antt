-- Which claim of a history is broken.
use Rattle.std.specs.Prelude.{◌≡◌, ◌++◌, List}
use Rattle.call_book.specs.SoFar.{CallsTold}
use Rattle.history_audit.specs.declared.fault.Wrong.{Wrong}
use Rattle.history_audit.specs.declared.fault.Wrong.TheVariants.{Call, Net, Ring, Run}
use Rattle.history_audit.specs.Tables.{RunsOutside}
use Rattle.one_history.specs.NetFacts.{AllOfNet}
use Rattle.ring_laws.specs.CalmRing.{MessagesFit}
use Rattle.rpc_base.specs.declared.fact.Fact.{Fact}

-- these facts break the claim
abbrev pub IsBroken : Wrong → List Fact → Type 0
IsBroken Net h = AllOfNet h → ⊥
IsBroken Call h = CallsTold h → ⊥
IsBroken Ring h = MessagesFit h → ⊥
IsBroken (Run n) h = RunsOutside n h → ⊥

-- some first facts of these break it
pub record IsWrong (w : Wrong) (h : List Fact) : Type 0 where
  pub front : List Fact
  pub rest : List Fact
  pub whole : h ≡ front ++ rest
  pub broken : IsBroken w front
