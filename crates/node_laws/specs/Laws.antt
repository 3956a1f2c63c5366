-- The laws of the runs of one node.
use Rattle.std.specs.Prelude.{ℕ, ◌≤◌, List, []}
use Rattle.rpc_base.specs.declared.fact.Fact.{Fact}
use Rattle.rpc_base.specs.declared.limits.Limits.{Limits}
use Rattle.rpc_laws.specs.declared.tables.Lists.{Lists}
use Rattle.rpc_laws.specs.declared.tables.Timed.{Timed}
use Rattle.rpc_laws.specs.AtMostOnce.{Once}
use Rattle.rpc_laws.specs.Groups.{shares}
use Rattle.rpc_laws.specs.Service.{Serving}
use Rattle.node_laws.specs.CallHistory.{latest_first, TellsTable}
use Rattle.node_laws.specs.CreditBalance.{Credit}
use Rattle.node_laws.specs.EndedCalls.{EndsClean}
use Rattle.node_laws.specs.EndedSessions.{SessionsEndClean}
use Rattle.node_laws.specs.Kept.{Kept}
use Rattle.node_laws.specs.NodeRun.{LifeRun}
use Rattle.node_laws.specs.OlderRequests.{BeginsClean}
use Rattle.node_laws.specs.PassedOver.{PassesOver}
use Rattle.node_laws.specs.QueuedPackets.{QueueAlwaysFits}
use Rattle.node_laws.specs.RequestHistory.{TellsRequests}
use Rattle.node_laws.specs.RingLimit.{RingWithin, InboxWithin}
use Rattle.node_laws.specs.SendsOwn.{SendsOwn}
use Rattle.node_laws.specs.UsedOnce.{UsedOnce}

-- of every life of a node, whatever its service, its number, its life and its limits
abbrev pub OfEveryRun : ((ring : ℕ) → List Fact → Timed → Type 0) → Type 0
OfEveryRun P =
    (v : Serving) (me life : ℕ) (limits : Limits) (g : List Fact) (t : Timed)
    → LifeRun v me life limits g t → P limits.ring g t

-- what always holds of a node's lists does
abbrev pub ListsAreKept : Type 0
ListsAreKept = OfEveryRun (λ ring g t. Kept t.lists)

-- the unanswered packets and the free credits of each live session make its limit, and no packet is
-- posted without a free credit
abbrev pub CreditBalances : Type 0
CreditBalances = OfEveryRun (λ ring g t. Credit g)

-- no request runs twice, and no call begins or ends twice
abbrev pub HappensAtMostOnce : Type 0
HappensAtMostOnce = OfEveryRun (λ ring g t. Once g)

-- no packet of a call is queued at its end, and none is posted later
abbrev pub EndedCallsAreNotQueued : Type 0
EndedCallsAreNotQueued = OfEveryRun (λ ring g t. EndsClean [] g)

-- no reply to an older request is queued where a packet of a newer one of its slot is taken, and
-- none is posted later
abbrev pub OlderRequestsAreNotQueued : Type 0
OlderRequestsAreNotQueued = OfEveryRun (λ ring g t. BeginsClean [] g)

-- no reply of a server session is queued where it ends, and none is posted later
abbrev pub EndedSessionsAreNotQueued : Type 0
EndedSessionsAreNotQueued = OfEveryRun (λ ring g t. SessionsEndClean [] g)

-- the table of calls says what the facts tell
abbrev pub TablesTellTheHistory : Type 0
TablesTellTheHistory = OfEveryRun (λ ring g t. TellsTable (latest_first [] g) t.lists)

-- the table of requests says what the facts tell
abbrev pub RequestsTellTheHistory : Type 0
RequestsTellTheHistory = OfEveryRun (λ ring g t. TellsRequests (latest_first [] g) t.lists)

-- the ring is never longer than its room
abbrev pub RingFits : Type 0
RingFits = OfEveryRun (λ ring g t. RingWithin ring [] g)

-- the inbox is never longer than its room
abbrev pub InboxFits : Type 0
InboxFits = OfEveryRun (λ ring g t. InboxWithin [] g)

-- no packet of a call is queued twice, the queued packets of a live session and its free credits
-- are no more than its limit, and those of all sessions no more than the ring is long
abbrev pub QueuedPacketsFit : Type 0
QueuedPacketsFit = OfEveryRun (λ ring g t. QueueAlwaysFits ring g)

-- the credits of a node's live sessions are no more than its ring is long
abbrev pub SharesFit : Type 0
SharesFit = OfEveryRun (λ ring g t. shares t.lists ≤ ring)

-- call numbers, session numbers and the requests of a session are used once
abbrev pub NumbersAreUsedOnce : Type 0
NumbersAreUsedOnce = OfEveryRun (λ ring g t. UsedOnce g)

-- what a node sends is what its own tables have
abbrev pub SendsItsOwn : Type 0
SendsItsOwn =
    (v : Serving) (me life : ℕ) (limits : Limits) (g : List Fact) (t : Timed)
    → LifeRun v me life limits g t → SendsOwn life limits.ring g

-- what is bad, overflowed, dropped or heard changes nothing but its list and its count
abbrev pub DatagramsArePassedOver : Type 0
DatagramsArePassedOver = (clock : ℕ) (s : Lists) (f : Fact) → PassesOver clock s f
