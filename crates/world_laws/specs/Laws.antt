-- The laws of each node in the histories that follow a script.
use Rattle.std.specs.Prelude.{ℕ, ◌≡◌, Some, List, [], slice_get}
use Rattle.end_laws.specs.TwoNodes.{PairsTwoNodes}
use Rattle.network_model.specs.declared.stage.Stage.{Stage}
use Rattle.node_laws.specs.CallHistory.{latest_first, TellsTable}
use Rattle.node_laws.specs.CreditBalance.{Credit}
use Rattle.node_laws.specs.EndedCalls.{EndsClean}
use Rattle.node_laws.specs.EndedSessions.{SessionsEndClean}
use Rattle.node_laws.specs.OlderRequests.{BeginsClean}
use Rattle.node_laws.specs.RequestHistory.{TellsRequests}
use Rattle.node_laws.specs.RingLimit.{RingWithin, InboxWithin}
use Rattle.node_laws.specs.SendsOwn.{SendsOwn}
use Rattle.node_laws.specs.UsedOnce.{UsedOnce}
use Rattle.rpc_base.specs.declared.fact.Fact.{Fact}
use Rattle.rpc_laws.specs.declared.tables.Lists.{Lists}
use Rattle.rpc_laws.specs.declared.tables.Timed.{Timed}
use Rattle.rpc_laws.specs.AtMostOnce.{Once}
use Rattle.rpc_laws.specs.Endpoints.{EachLife, Endpoint, facts_by}
use Rattle.script_grammar.specs.declared.line.Line.{Line}
use Rattle.sim_script.specs.FollowsScript.{Follows}
use Rattle.world_laws.specs.CallOrder.{CallsInOrder}
use Rattle.world_laws.specs.FewCredits.{PairsFewCredits}
use Rattle.world_laws.specs.NodeFacts.{facts_of, ring_of, RunsOf}
use Rattle.world_laws.specs.OneCall.{OneCall}

-- of every history that follows a script in which each pairing is of two nodes and has 1 to 256
-- credits
abbrev pub OfEveryHistory : (List Fact → Type 0) → Type 0
OfEveryHistory P =
    (script : List Line) (h : List Fact) → PairsTwoNodes script → PairsFewCredits script
    → Follows script h → P h

-- of every life of every node of every such history
abbrev pub OfEveryLife : (List Fact → Type 0) → Type 0
OfEveryLife P = OfEveryHistory (EachLife P)

-- in no life is the receive ring longer than the one that the node was made with
abbrev pub KeepsRing : List Fact → Type 0
KeepsRing h = (n : Endpoint) → RingWithin (ring_of (facts_of n.node h)) [] (facts_by n h)

-- what a node sends in a life is what its own tables have, from when it was made with its ring or
-- restarted
abbrev pub SendsOwnPackets : List Fact → Type 0
SendsOwnPackets h = (n : Endpoint) → SendsOwn n.life (ring_of (facts_of n.node h)) (facts_by n h)

-- a node's tables of calls and of requests say what these facts tell
pub record TellsTables (past : List Fact) (s : Lists) : Type 0 where
  pub calls : TellsTable past s
  pub requests : TellsRequests past s

-- in this stage the tables of each node say what the node's facts of its present life tell
abbrev pub TablesTell : List Fact → Stage → Type 0
TablesTell h end =
    (n : ℕ) (t : Timed) → slice_get end.nodes n ≡ Some t
    → TellsTables (latest_first [] (facts_by (record { node = n; life = t.lists.life }) h)) t.lists

-- so they do in the stage that a history of the script leaves
abbrev pub EndTells : List Line → List Fact → Type 0
EndTells script h = (f : Follows script h) → TablesTell h f.0

-- each node's facts are its Made and a run that leaves it as it is at the end; no other number has
-- facts
abbrev pub FollowsRuns : Type 0
FollowsRuns =
    (script : List Line) (h : List Fact) → PairsTwoNodes script → PairsFewCredits script
    → (f : Follows script h) → RunsOf h f.0

-- no request runs twice at a node, and no call begins or ends twice
abbrev pub HappensAtMostOnce : Type 0
HappensAtMostOnce = OfEveryLife Once

-- at every moment of a node's facts its sessions are in balance
abbrev pub CreditBalances : Type 0
CreditBalances = OfEveryLife Credit

-- at each end of a call its packets are handed back
abbrev pub EndedCallsAreNotQueued : Type 0
EndedCallsAreNotQueued = OfEveryLife (EndsClean [])

-- where a packet of a request is taken, no reply to an older request of its slot is queued or
-- posted later
abbrev pub OlderRequestsAreNotQueued : Type 0
OlderRequestsAreNotQueued = OfEveryLife (BeginsClean [])

-- at the end the tables of calls and of requests of each node say what the node's facts of its
-- present life tell
abbrev pub TablesTellTheHistory : Type 0
TablesTellTheHistory =
    (script : List Line) (h : List Fact) → PairsTwoNodes script → PairsFewCredits script
    → EndTells script h

-- a node's ring is never longer than the one that it was made with
abbrev pub RingFits : Type 0
RingFits = OfEveryHistory KeepsRing

-- where a server session ends, no reply of it is queued, and none is posted later
abbrev pub EndedSessionsAreNotQueued : Type 0
EndedSessionsAreNotQueued = OfEveryLife (SessionsEndClean [])

-- a node's inbox is never longer than its room
abbrev pub InboxFits : Type 0
InboxFits = OfEveryLife (InboxWithin [])

-- what a node sends is what its own tables have
abbrev pub SendsItsOwn : Type 0
SendsItsOwn = OfEveryHistory SendsOwnPackets

-- in each life a node's call numbers, session numbers and the requests of a session are used once
abbrev pub NumbersAreUsedOnce : Type 0
NumbersAreUsedOnce = OfEveryLife UsedOnce

-- each call that ends with an answer, or for want of room for one, was asked, begun, run and ended
-- in this order
abbrev pub CallsAreInOrder : Type 0
CallsAreInOrder = OfEveryHistory CallsInOrder

-- each run of a handler is for one call, and each call has one at most
abbrev pub CallsRunOnce : Type 0
CallsRunOnce = OfEveryHistory OneCall
