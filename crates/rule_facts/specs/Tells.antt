-- A fact with no bytes that tells this: tests by which facts are compared with those of the rules.
use Rattle.std.specs.Prelude.{ℕ, ◌==◌, ◌&&◌, Bool, true, false, length}
use Rattle.rpc_base.specs.declared.event.Event.{Event}
use Rattle.rpc_base.specs.declared.event.Event.TheVariants.{Heard, Accepted, Declined, Starved}
use Rattle.rpc_base.specs.declared.event.Event.TheVariants.{Connected as IsConnected, FailedNoRoom}
use Rattle.rpc_base.specs.declared.event.Event.TheVariants.{FailedNoAnswer, ClosedHeard}
use Rattle.rpc_base.specs.declared.event.Event.TheVariants.{ClosedUnheard, Ended}
use Rattle.rpc_base.specs.declared.event.Event.TheVariants.{Broken as IsBroken, Begun}
use Rattle.rpc_base.specs.declared.event.Event.TheVariants.{Posted, Flushed, Took, Again}
use Rattle.rpc_base.specs.declared.event.Event.TheVariants.{Dropped, Given, Rolled, DoneTooSmall}
use Rattle.rpc_base.specs.declared.event.Event.TheVariants.{DonePeerLost, Polled}
use Rattle.rpc_base.specs.declared.fact.Fact.{Fact}
use Rattle.rpc_base.specs.declared.fact.Who.{Who}
use Rattle.rpc_base.specs.declared.fact.Who.TheVariants.{Node, Net}
use Rattle.rpc_base.specs.declared.owner.Owner.{Owner}
use Rattle.rpc_base.specs.declared.state.DropReason.{DropReason}
use Rattle.rpc_base.specs.declared.state.DropReason.TheVariants.{StaleLife, NoSession, WrongPeer}
use Rattle.rpc_base.specs.declared.state.DropReason.TheVariants.{Old}
use Rattle.rpc_base.specs.declared.state.DropReason.TheVariants.{NotFirst}
use Rattle.rpc_base.specs.declared.state.DropReason.TheVariants.{Working, Unserved, JobsFull}
use Rattle.rpc_base.specs.declared.state.DropReason.TheVariants.{NoMemory}
use Rattle.rpc_base.specs.declared.state.DropReason.TheVariants.{Mismatch, Ahead, Beyond, NoCall}
use Rattle.rpc_base.specs.declared.state.DropReason.TheVariants.{Past}
use Rattle.rpc_base.specs.declared.state.DropReason.TheVariants.{Queued}
use Rattle.rpc_base.specs.Owners.{same_owner}

abbrev pub is_node : ℕ → Who → Bool
is_node me (Node n) = n == me
is_node me Net = false

-- a fact of this node, with no bytes
abbrev pub is_plain : ℕ → Fact → Bool
is_plain me f = is_node me f.who && ((length f.first == 0) && (length f.second == 0))

-- the place of a reason in its type
abbrev pub reason_number : DropReason → ℕ
reason_number StaleLife = 0
reason_number NoSession = 1
reason_number WrongPeer = 2
reason_number Old = 3
reason_number NotFirst = 4
reason_number Working = 5
reason_number Unserved = 6
reason_number JobsFull = 7
reason_number NoMemory = 8
reason_number Mismatch = 9
reason_number Ahead = 10
reason_number Beyond = 11
reason_number NoCall = 12
reason_number Past = 13
reason_number Queued = 14

abbrev pub is_reason : DropReason → DropReason → Bool
is_reason a b = reason_number a == reason_number b

-- whether an event tells just this
abbrev pub tells_heard : Event → Bool
tells_heard Heard = true
tells_heard _ = false

abbrev pub tells_accepted : (s p t n life : ℕ) → Event → Bool
tells_accepted s p t n life (Accepted x0 x1 x2 x3 x4) =
    (x0 == s) && ((x1 == p) && ((x2 == t) && ((x3 == n) && (x4 == life))))
tells_accepted s p t n life _ = false

abbrev pub tells_declined : ℕ → ℕ → ℕ → Event → Bool
tells_declined p t n (Declined x0 x1 x2) = (x0 == p) && ((x1 == t) && (x2 == n))
tells_declined p t n _ = false

abbrev pub tells_starved : ℕ → ℕ → ℕ → Event → Bool
tells_starved p t n (Starved x0 x1 x2) = (x0 == p) && ((x1 == t) && (x2 == n))
tells_starved p t n _ = false

abbrev pub tells_connected : (s t life : ℕ) → Event → Bool
tells_connected s t life (IsConnected x0 x1 x2) = (x0 == s) && ((x1 == t) && (x2 == life))
tells_connected s t life _ = false

abbrev pub tells_failed_no_room : ℕ → Event → Bool
tells_failed_no_room s (FailedNoRoom x0) = x0 == s
tells_failed_no_room s _ = false

abbrev pub tells_failed_no_answer : ℕ → Event → Bool
tells_failed_no_answer s (FailedNoAnswer x0) = x0 == s
tells_failed_no_answer s _ = false

abbrev pub tells_closed_heard : ℕ → Event → Bool
tells_closed_heard s (ClosedHeard x0) = x0 == s
tells_closed_heard s _ = false

abbrev pub tells_closed_unheard : ℕ → Event → Bool
tells_closed_unheard s (ClosedUnheard x0) = x0 == s
tells_closed_unheard s _ = false

abbrev pub tells_ended : ℕ → Event → Bool
tells_ended s (Ended x0) = x0 == s
tells_ended s _ = false

abbrev pub tells_broken : ℕ → Event → Bool
tells_broken s (IsBroken x0) = x0 == s
tells_broken s _ = false

abbrev pub tells_begun : ℕ → ℕ → Event → Bool
tells_begun c r (Begun x0 x1) = (x0 == c) && (x1 == r)
tells_begun c r _ = false

abbrev pub tells_posted : Owner → ℕ → Event → Bool
tells_posted o k (Posted x0 x1) = (same_owner x0 o) && (x1 == k)
tells_posted o k _ = false

abbrev pub tells_flushed : Owner → ℕ → Event → Bool
tells_flushed o k (Flushed x0 x1) = (same_owner x0 o) && (x1 == k)
tells_flushed o k _ = false

abbrev pub tells_took : Owner → ℕ → Event → Bool
tells_took o k (Took x0 x1) = (same_owner x0 o) && (x1 == k)
tells_took o k _ = false

abbrev pub tells_again : Owner → ℕ → Event → Bool
tells_again o k (Again x0 x1) = (same_owner x0 o) && (x1 == k)
tells_again o k _ = false

abbrev pub tells_dropped : DropReason → Event → Bool
tells_dropped why (Dropped x0) = is_reason x0 why
tells_dropped why _ = false

abbrev pub tells_given : ℕ → ℕ → Event → Bool
tells_given s r (Given x0 x1) = (x0 == s) && (x1 == r)
tells_given s r _ = false

abbrev pub tells_rolled : ℕ → ℕ → ℕ → Event → Bool
tells_rolled c k g (Rolled x0 x1 x2) = (x0 == c) && ((x1 == k) && (x2 == g))
tells_rolled c k g _ = false

abbrev pub tells_done_too_small : ℕ → ℕ → Event → Bool
tells_done_too_small c n (DoneTooSmall x0 x1) = (x0 == c) && (x1 == n)
tells_done_too_small c n _ = false

abbrev pub tells_done_peer_lost : ℕ → Event → Bool
tells_done_peer_lost c (DonePeerLost x0) = x0 == c
tells_done_peer_lost c _ = false

abbrev pub tells_polled : ℕ → Event → Bool
tells_polled now (Polled x0) = x0 == now
tells_polled now _ = false
