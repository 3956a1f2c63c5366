-- What is to be looked at to say whether a history is lawful.
use Rattle.std.specs.Prelude.{◌≡◌, ◌↔◌, true, List, []}
use Rattle.lawful_history.specs.Lawful.{Lawful}
use Rattle.lawful_history.specs.OwnTold.{is_own_at}
use Rattle.one_history.specs.NetFacts.{AllOfNet}
use Rattle.report_text.specs.Told.{AllTold}
use Rattle.ring_laws.specs.CalmRing.{MessagesFit}
use Rattle.rpc_base.specs.declared.fact.Fact.{Fact}
use Rattle.rpc_laws.specs.OwnAnswer.{AtEach}
use Rattle.world_laws.specs.NodeFacts.{EachRuns}

pub record Checked (h : List Fact) : Type 0 where
  -- each node's facts are its Made and a run
  pub nodes : EachRuns h
  -- the network notes its own events
  pub net : AllOfNet h
  -- each fact is of a call, as the facts before it tell
  pub calls : AtEach (λ past f. is_own_at past f.who f.event f.first ≡ true) [] h
  -- before a repeat, a rollback and a restart no packet of a call finds a full ring
  pub fits : MessagesFit h
  -- each fact has just the bytes that its line shows
  pub told : AllTold h

-- that is all
abbrev pub LawfulIsChecked : Type 0
LawfulIsChecked = (h : List Fact) → Checked h ↔ Lawful h
