-- What holds of a node's lists and tables, and of what it has queued, at every moment of a run.
use Rattle.std.specs.Prelude.{◌≡◌, ◌≤◌, ℕ, true, sum_by}
use Rattle.std.specs.List.{AllByRecursion}
use Rattle.rpc_base.specs.declared.limits.TheConstants.{MOST_CALLS}
use Rattle.rpc_laws.specs.declared.tables.Arrival.{Arrival}
use Rattle.rpc_laws.specs.declared.tables.Client.{Client}
use Rattle.rpc_laws.specs.declared.tables.Lists.{Lists}
use Rattle.rpc_laws.specs.Front.{is_message}
use Rattle.node_laws.specs.QueuedPackets.{QueuedOnce}
use Rattle.node_laws.specs.Valid.{EightTurns, Valid}
use Rattle.node_laws.specs.Windows.{Windows, LiveQueued}

-- how many calls a session counts
abbrev pub asked_on : Client → ℕ
asked_on x = x.asked

abbrev pub AsksFew : Client → Type 0
AsksFew x = x.asked ≤ MOST_CALLS

-- what stands in the receive ring is a packet of a call
abbrev pub IsPacket : Arrival → Type 0
IsPacket a = is_message a.bytes ≡ true

-- the tables are in order; the sessions count the calls that were accepted, and none counts more
-- than it may; the receive ring has packets of calls; and each queued packet of a call is an
-- unanswered one of an active call of a live session, and queued once
pub record Kept (s : Lists) : Type 0 where
  pub valid : Valid s
  pub asked : sum_by asked_on s.clients ≡ s.asked
  pub few : AllByRecursion AsksFew s.clients
  pub reads : AllByRecursion IsPacket s.ring
  pub eight : AllByRecursion EightTurns s.clients
  pub windows : Windows s.clients s.queued
  pub live : LiveQueued s.clients s.queued
  pub once : QueuedOnce s.queued
