-- What is so of the history of each script, whatever the network does and whenever workers finish.
use Rattle.std.specs.Prelude.{ℕ, List, []}
use Rattle.node_laws.specs.CreditBalance.{Credit}
use Rattle.node_laws.specs.EndedCalls.{EndsClean}
use Rattle.node_laws.specs.EndedSessions.{SessionsEndClean}
use Rattle.node_laws.specs.OlderRequests.{BeginsClean}
use Rattle.node_laws.specs.UsedOnce.{UsedOnce}
use Rattle.one_history.specs.NetFacts.{AllOfNet}
use Rattle.report_text.specs.Told.{AllTold}
use Rattle.ring_laws.specs.CalmRing.{MessagesFit}
use Rattle.rpc_base.specs.declared.fact.Fact.{Fact}
use Rattle.rpc_laws.specs.AtMostOnce.{Once}
use Rattle.rpc_laws.specs.Endpoints.{EachLife}
use Rattle.rpc_laws.specs.OwnAnswer.{Own}
use Rattle.world_laws.specs.Laws.{KeepsRing, SendsOwnPackets}
use Rattle.world_laws.specs.NodeFacts.{facts_of, Runs}
use Rattle.world_laws.specs.OneCall.{OneCall}

pub record Lawful (h : List Fact) : Type 0 where
  -- each node does what the rules of a node say
  pub nodes : (n : ℕ) → Runs n (facts_of n h)
  -- the network carries, loses and repeats, misses jobs and ticks
  pub net : AllOfNet h
  -- in each life of a node no request runs twice, and no call begins or ends twice
  pub once : EachLife Once h
  -- each handler runs on its call's bytes, and each call ends with its own handler's answer
  pub own : Own h
  -- each run of a handler is for one call, and each call is one request, whose handler runs at
  -- most once
  pub one_call : OneCall h
  -- in each life a node uses its call numbers, its session numbers and the request numbers of a
  -- session once
  pub numbers : EachLife UsedOnce h
  -- at every moment the unanswered packets and free credits of a live session make its limit
  pub credit : EachLife Credit h
  -- before a repeat, a rollback and a restart no packet of a call finds a full ring
  pub fits : MessagesFit h
  -- no receive ring is longer than its room
  pub ring : KeepsRing h
  -- where a call ends none of its packets is queued, and none is posted later
  pub ends_clean : EachLife (EndsClean []) h
  -- where a packet of a request is taken no reply to an older one of its slot is queued, and none
  -- is posted later
  pub begins_clean : EachLife (BeginsClean []) h
  -- where a server session ends no reply of it is queued, and none is posted later
  pub sessions_clean : EachLife (SessionsEndClean []) h
  -- each packet goes to its session's peer, and is the one that its owner has by its node's tables
  pub sends_own : SendsOwnPackets h
  -- each fact has just the bytes that its line shows
  pub told : AllTold h
