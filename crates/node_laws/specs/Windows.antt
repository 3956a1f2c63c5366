-- The queued packets of an active call have numbers from what it has got up to below what it
-- posted, and no packet is queued of a call that isn't active, nor of a session that isn't live.
use Rattle.std.specs.Prelude.{ℕ, ◌≡◌, ◌≤◌, ◌<◌, true, Option, Some, None, List}
use Rattle.std.specs.List.{AllByRecursion, find}
use Rattle.rpc_base.specs.declared.owner.Owner.{Owner}
use Rattle.rpc_base.specs.declared.owner.Owner.TheVariants.{Ask, Reply, Control}
use Rattle.rpc_laws.specs.declared.tables.Call.{Call}
use Rattle.rpc_laws.specs.declared.tables.Client.{Client}
use Rattle.rpc_laws.specs.declared.tables.Progress.{Progress}
use Rattle.rpc_laws.specs.declared.tables.Queued.{Queued}
use Rattle.rpc_laws.specs.Calls.{is_active}
use Rattle.rpc_laws.specs.Sessions.{is_client, is_live}

-- k is one of the numbers that are posted and not answered
abbrev pub InsideOf : ℕ → Option Progress → Type 0
InsideOf k None = ⊥
InsideOf k (Some p) = (p.got ≤ k) × (k < p.posted)

-- the same of a call that is found
abbrev pub Inside : ℕ → Option Call → Type 0
Inside k None = ⊥
Inside k (Some c) = InsideOf k c.progress

-- the same of request r of a session that is found
abbrev pub Stands : ℕ → ℕ → Option Client → Type 0
Stands k r None = ⊥
Stands k r (Some x) = Inside k (find (is_active r) x.calls)

-- a packet of a call is within its window; other packets may stand anywhere
abbrev pub InWindow : List Client → Owner → ℕ → Type 0
InWindow xs (Ask s r) k = Stands k r (find (is_client s) xs)
InWindow xs (Reply s r) k = Unit {0}
InWindow xs Control k = Unit {0}

-- each queued packet is
abbrev pub Windows : List Client → List Queued → Type 0
Windows xs queued = AllByRecursion (λ q. InWindow xs q.owner q.number) queued

-- a client session that is found is live
abbrev pub LiveAt : Option Client → Type 0
LiveAt None = ⊥
LiveAt (Some x) = is_live x.state ≡ true

-- a packet of a call is of a live session
abbrev pub OfLive : List Client → Owner → Type 0
OfLive xs (Ask s r) = LiveAt (find (is_client s) xs)
OfLive xs (Reply s r) = Unit {0}
OfLive xs Control = Unit {0}

-- each queued packet is
abbrev pub LiveQueued : List Client → List Queued → Type 0
LiveQueued xs queued = AllByRecursion (λ q. OfLive xs q.owner) queued
