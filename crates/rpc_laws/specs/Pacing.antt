-- Pacing: when the packets of a client session with a rate are due. Those of other sessions, and
-- replies, are ready at once.
use Rattle.std.specs.Prelude.{ℕ, ◌+◌, ◌-◌, ◌*◌, ◌^◌, ◌==◌, ◌&&◌, nat_lt, max, min, Bool, Option}
use Rattle.std.specs.Prelude.{Some, None, option_map, List, [], ◌∷◌, ◌++◌, length}
use Rattle.std.specs.Int.{div_ceil}
use Rattle.std.specs.List.{filter, find}
use Rattle.rpc_base.specs.declared.limits.TheConstants.{HEAD_BYTES}
use Rattle.packet_header.specs.Parts.{part_size}
use Rattle.rpc_base.specs.Tables.{at_first}
use Rattle.rpc_base.specs.declared.event.Event.{Event}
use Rattle.rpc_base.specs.declared.event.Event.TheVariants.{Opened, PairedClient, Rated, Posted}
use Rattle.rpc_base.specs.declared.owner.Owner.TheVariants.{Ask}
use Rattle.rpc_laws.specs.declared.tables.Call.{Call}
use Rattle.rpc_laws.specs.declared.tables.Client.{Client}
use Rattle.rpc_laws.specs.declared.tables.Pace.{Pace}
use Rattle.rpc_laws.specs.declared.tables.Queued.{Queued}
use Rattle.rpc_laws.specs.Calls.{is_active}
use Rattle.rpc_laws.specs.Queues.{is_due}
use Rattle.rpc_laws.specs.Sessions.{is_client}

abbrev pub is_pace_of : ℕ → Pace → Bool
is_pace_of session p = p.session == session

-- whether it is the pace of a session that has a rate
abbrev pub is_paced : ℕ → Pace → Bool
is_paced session p = is_pace_of session p && nat_lt 0 p.rate

-- the length of the datagram of packet k of a call: its header, and its part of the call's bytes
abbrev pub call_size : ℕ → Option Call → ℕ
call_size k None = HEAD_BYTES
call_size k (Some c) = HEAD_BYTES + part_size (length c.what.ask) k

-- that of packet k of request r of a client session
abbrev pub packet_size : (r k : ℕ) → Option Client → ℕ
packet_size r k None = HEAD_BYTES
packet_size r k (Some x) = call_size k (find (is_active r) x.calls)

-- the next packet of a pace is due now, or when the ones before it allow
abbrev pub due_at : (clock : ℕ) → Pace → ℕ
due_at clock p = max clock p.next

-- after a packet of so many bytes the next one is due so much later; the sum stops at 2^64 - 1
abbrev pub delayed : (clock size : ℕ) → Pace → Pace
delayed clock size p =
    record p { next = min (due_at clock p + div_ceil (size * 1000) p.rate) (2 ^ 64 - 1) }

-- when a packet that is posted is due, where it is paced
abbrev pub due_of : (clock : ℕ) → Event → List Pace → Option ℕ
due_of clock (Posted (Ask session r) k) paces =
    option_map (due_at clock) (find (is_paced session) paces)
due_of clock _ paces = None

-- a session's rate is that of its last Rated, and 0 before; each packet that is paced delays the
-- next one
abbrev pub paces_after : (clock : ℕ) → Event → List Client → List Pace → List Pace
paces_after clock (Opened s peer credits) clients paces =
    paces ++ record { session = s; rate = 0; next = 0 } ∷ []
paces_after clock (PairedClient s peer t credits life) clients paces =
    paces ++ record { session = s; rate = 0; next = 0 } ∷ []
paces_after clock (Rated s rate) clients paces =
    at_first (is_pace_of s) (λ p. record p { rate = rate }) paces
paces_after clock (Posted (Ask s r) k) clients paces =
    at_first (is_paced s) (delayed clock (packet_size r k (find (is_client s) clients))) paces
paces_after clock _ clients paces = paces

-- the queued packets that may be sent at this clock, in the order in which they are: in the sending
-- of a poll those that are due by then, behind those that were ready before
abbrev pub line : (clock : ℕ) → List Queued → List Queued
line clock queued = filter (λ q. is_due clock q.due) queued
