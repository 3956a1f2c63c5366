-- What makes a history lawful, and which of its fronts are.
use Rattle.std.specs.Prelude.{List, ◌++◌}
use Rattle.front_laws.specs.Whole.{IsWhole}
use Rattle.lawful_history.specs.Lawful.{Lawful}
use Rattle.one_history.specs.NetFacts.{AllOfNet}
use Rattle.report_text.specs.Told.{AllTold}
use Rattle.ring_laws.specs.CalmRing.{MessagesFit}
use Rattle.rpc_base.specs.declared.fact.Fact.{Fact}
use Rattle.rpc_laws.specs.OwnAnswer.{Own}
use Rattle.world_laws.specs.NodeFacts.{EachRuns}

-- where each node's facts are its Made and a run, the network notes its own events, each handler
-- runs on its call's bytes, no message finds a full ring in a calm history, and no fact has other
-- bytes than its line shows, all else follows
abbrev pub RunsAreLawful : Type 0
RunsAreLawful =
    (h : List Fact) → EachRuns h → AllOfNet h → Own h → MessagesFit h → AllTold h → Lawful h

-- a front in which no node is in the midst of a poll is as lawful as the whole
abbrev pub WholeFrontsAreLawful : Type 0
WholeFrontsAreLawful = (p x : List Fact) → Lawful (p ++ x) → IsWhole p → Lawful p
