-- What a client session begins and posts next.
use Rattle.std.specs.Prelude.{ℕ, ◌+◌, ◌*◌, ◌%◌, ◌==◌, nat_lt, Bool, false, not, Option, Some, None}
use Rattle.std.specs.Prelude.{option_and_then, option_map, List, [], ◌∷◌, slice_get, slice_index}
use Rattle.std.specs.Prelude.{if◌then◌else◌}
use Rattle.std.specs.List.{find, list_any, position}
use Rattle.rpc_base.specs.declared.event.Event.{Event}
use Rattle.rpc_base.specs.declared.event.Event.TheVariants.{Begun, Posted}
use Rattle.rpc_base.specs.declared.owner.Owner.TheVariants.{Ask}
use Rattle.rpc_laws.specs.declared.tables.Asking.{Asking}
use Rattle.rpc_laws.specs.declared.tables.Call.{Call}
use Rattle.rpc_laws.specs.declared.tables.Client.{Client}
use Rattle.rpc_laws.specs.declared.tables.Lists.{Lists}
use Rattle.rpc_laws.specs.declared.tables.Progress.{Progress}
use Rattle.rpc_laws.specs.Calls.{is_waiting, asked_packets, known_packets}
use Rattle.rpc_laws.specs.Sessions.{is_connected}

abbrev pub holds_slot : ℕ → Option Progress → Bool
holds_slot slot None = false
holds_slot slot (Some p) = p.request % 8 == slot

-- whether an active call has this slot
abbrev pub is_taken : List Call → ℕ → Bool
is_taken calls slot = list_any (λ c. holds_slot slot c.progress) calls

-- the lowest free slot, from 0 to 7
abbrev pub lowest_free : List Call → Option ℕ
lowest_free calls =
    position (λ slot. not (is_taken calls slot)) (0 ∷ 1 ∷ 2 ∷ 3 ∷ 4 ∷ 5 ∷ 6 ∷ 7 ∷ [])

-- the number of the next request of a slot
abbrev pub next_turn : List ℕ → ℕ → ℕ
next_turn turns slot = slot + 8 * slice_index turns slot

-- the oldest waiting call begins in the lowest free slot
abbrev pub beginning : Client → Option Event
beginning x =
    option_and_then (λ c. option_map (λ slot. Begun c.what.number (next_turn x.turns slot))
    (lowest_free x.calls)) (find is_waiting x.calls)

abbrev pub has_postable : Asking → Option Progress → Bool
has_postable a None = false
has_postable a (Some p) = nat_lt p.posted (known_packets (asked_packets a) p.answer)

-- whether a call has a packet that may be posted
abbrev pub can_post : Call → Bool
can_post c = has_postable c.what c.progress

abbrev pub next_packet : ℕ → Option Progress → Option Event
next_packet session progress = option_map (λ p. Posted (Ask session p.request) p.posted) progress

-- the oldest active call that may post posts its next packet, where a credit is free
abbrev pub posting : Client → Option Event
posting x =
    if x.free == 0 then None
    else option_and_then (λ c. next_packet x.way.number c.progress) (find can_post x.calls)

-- of a Connected session alone
abbrev pub if_connected : (Client → Option Event) → Client → Option Event
if_connected next x = if is_connected x.state then next x else None

abbrev pub next_begun : ℕ → Lists → Option Event
next_begun i s = option_and_then (if_connected beginning) (slice_get s.clients i)

abbrev pub next_posted : ℕ → Lists → Option Event
next_posted i s = option_and_then (if_connected posting) (slice_get s.clients i)
