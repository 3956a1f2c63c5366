-- What the tables have of the facts so far, and which histories are fair so far.
use Rattle.std.specs.Prelude.{ℕ, ◌≡◌, false, List}
use Rattle.call_book.specs.SoFar.{CallsTold, so_far}
use Rattle.call_book.specs.Tells.{Tells}
use Rattle.front_laws.specs.Whole.{is_open}
use Rattle.history_audit.specs.Calm.{IsRough}
use Rattle.history_audit.specs.declared.tables.Tables.{Tables}
use Rattle.history_audit.specs.Lives.{AreLives}
use Rattle.history_audit.specs.Nodes.{KeepsEach}
use Rattle.one_history.specs.NetFacts.{AllOfNet}
use Rattle.report_text.specs.Told.{AllTold}
use Rattle.ring_laws.specs.CalmRing.{MessagesFit}
use Rattle.rpc_base.specs.declared.fact.Fact.{Fact}
use Rattle.rpc_base.specs.declared.fact.Who.{Who}
use Rattle.rpc_base.specs.declared.fact.Who.TheVariants.{Node, Net}
use Rattle.world_laws.specs.NodeFacts.{facts_of, Runs}

-- the tables have these facts
pub record HaveNoted (t : Tables) (h : List Fact) : Type 0 where
  pub nodes : KeepsEach t.nodes.nodes h
  pub lives : AreLives t.lives.lives.items h
  pub rough : IsRough t.rough.rough h
  pub book : Tells t.book (so_far h)

-- what is claimed at each fact by the facts before it
pub record IsClaimed (h : List Fact) : Type 0 where
  pub net : AllOfNet h
  pub calls : CallsTold h
  pub fits : MessagesFit h

-- a node that isn't in the midst of a poll has noted its Made and a run
abbrev pub RunsOutside : ℕ → List Fact → Type 0
RunsOutside n h = is_open n false h ≡ false → Runs n (facts_of n h)

abbrev pub RunsAt : Who → List Fact → Type 0
RunsAt (Node n) h = RunsOutside n h
RunsAt Net h = Unit {0}

-- nothing of these facts is unlawful
pub record IsFair (h : List Fact) : Type 0 where
  pub runs : (n : ℕ) → RunsOutside n h
  pub claimed : IsClaimed h
  pub told : AllTold h
