-- The packets of calls that are queued: each at most once, with the free credits of its session no
-- more than the session's limit, and with the free credits of all live sessions no more than the
-- receive ring is long.
use Rattle.std.specs.Prelude.{ℕ, ◌≡◌, ◌≤◌, ◌+◌, ◌==◌, Bool, true, false, List, [], ◌∷◌, count_by}
use Rattle.std.specs.Prelude.{sum_by, if◌then◌else◌}
use Rattle.std.specs.List.{AllByRecursion}
use Rattle.rpc_base.specs.declared.fact.Fact.{Fact}
use Rattle.rpc_base.specs.declared.owner.Owner.{Owner}
use Rattle.rpc_base.specs.declared.owner.Owner.TheVariants.{Ask}
use Rattle.rpc_laws.specs.declared.tables.Queued.{Queued}
use Rattle.rpc_laws.specs.Queues.{is_queued}
use Rattle.node_laws.specs.CreditBalance.{SessionAccount, Accounts, accounts_after, no_accounts}
use Rattle.node_laws.specs.EndedCalls.{queued_by}

-- no packet of a call stands there twice
abbrev pub QueuedOnce : List Queued → Type 0
QueuedOnce queued = (s r k : ℕ) → count_by (is_queued (Ask s r) k) queued ≤ 1

-- a packet of client session s
abbrev pub is_ask_of : ℕ → Owner → Bool
is_ask_of s (Ask session request) = session == s
is_ask_of s _ = false

-- how many packets of the calls of session s are queued
abbrev pub queued_of : ℕ → List Queued → ℕ
queued_of s queued = count_by (λ q. is_ask_of s q.owner) queued

-- those of a live session and its free credits are no more than its limit
abbrev pub IsWithin : List Queued → SessionAccount → Type 0
IsWithin queued x = x.live ≡ true → queued_of x.number queued + x.free ≤ x.limit

-- a packet of any call
abbrev pub is_ask : Owner → Bool
is_ask (Ask s r) = true
is_ask _ = false

-- how many packets of calls are queued
abbrev pub asks_in : List Queued → ℕ
asks_in queued = count_by (λ q. is_ask q.owner) queued

-- the free credits of the live sessions
abbrev pub free_credits : List SessionAccount → ℕ
free_credits xs = sum_by (λ x. if x.live then x.free else 0) xs

-- so it is of a queue and of all client sessions, at a node whose ring has this length: each packet
-- is queued once, each session is within its limit, and all of them fit the ring
pub record QueueFits (ring : ℕ) (queued : List Queued) (sessions : List SessionAccount)
    : Type 0 where
  pub once : QueuedOnce queued
  pub within : AllByRecursion (IsWithin queued) sessions
  pub total : asks_in queued + free_credits sessions ≤ ring

-- between the facts so far, the newest first, which leave these accounts, and those that follow;
-- and at each moment after
abbrev pub QueueFitsFrom : (ring : ℕ) → List Fact → Accounts → List Fact → Type 0
QueueFitsFrom ring past a [] = QueueFits ring (queued_by past) a.sessions
QueueFitsFrom ring past a (f ∷ g) =
    QueueFits ring (queued_by past) a.sessions
    × QueueFitsFrom ring (f ∷ past) (accounts_after f.event a) g

-- so it is at every moment of a history
abbrev pub QueueAlwaysFits : (ring : ℕ) → List Fact → Type 0
QueueAlwaysFits ring g = QueueFitsFrom ring [] no_accounts g
