-- The ring and the inbox fit at every moment of a run, and the credits of the live sessions fit the ring.
use Rattle.std.proofs.Common.{◌≡◌, ℕ, ◌+◌, ◌≤◌, Bool, true, false, cond, List, [], ◌∷◌, ◌++◌}
use Rattle.std.proofs.Common.{length, drop, length-append, length-drop, refl, ap, arith}
use Rattle.rpc_base.specs.declared.event.Event.{Event}
use Rattle.rpc_base.specs.declared.event.Event.TheVariants.{Arrived, Heard, Took, Again, Dropped}
use Rattle.rpc_base.specs.declared.fact.Fact.{Fact}
use Rattle.rpc_laws.specs.declared.tables.Arrival.{Arrival}
use Rattle.rpc_laws.specs.declared.tables.Lists.{Lists}
use Rattle.rpc_laws.specs.Deliveries.{inbox_room}
use Rattle.rpc_laws.specs.Front.{is_message, is_control}
use Rattle.rpc_laws.specs.NodeLists.{after, new_lists}
use Rattle.rpc_laws.specs.Queues.{ring_after, inbox_after}
use Rattle.node_laws.specs.Laws.{RingFits, InboxFits, SharesFit}
use Rattle.node_laws.specs.RingLimit.{RingWithin, InboxWithin}
use Rattle.node_laws.proofs.Allowed.{AllowedBy, Leads, LeadsBy}
use Rattle.node_laws.proofs.RunLaws.{run_leads, run_leads_by, run_valid}

-- one more where there is room, and one less
pushed-by : (peer room : ℕ) (bytes : List ℕ) (ring : List Arrival) (test b : Bool) → test ≡ b
    → (test ≡ true → length ring + 1 ≤ room) → length ring ≤ room
    → length (cond b (ring ++ record { peer = peer; bytes = bytes } ∷ []) ring) ≤ room
pushed-by peer room bytes ring test true e more h =
    let one = more e in omega (arith, length-append ring (record { peer = peer; bytes = bytes } ∷ []))
pushed-by peer room bytes ring test false e more h = h

dropped-by : (room : ℕ) (ring : List Arrival) → length ring ≤ room → length (drop 1 ring) ≤ room
dropped-by room ring h = omega (arith, length-drop 1 ring)

ring-after : (e : Event) (bytes second : List ℕ) (s : Lists) → AllowedBy s e bytes second
    → length s.ring ≤ s.room → length (ring_after e bytes s.ring) ≤ s.room
ring-after (Arrived peer) bytes second s a h =
    pushed-by peer s.room bytes s.ring (is_message bytes) (is_message bytes) refl (λ e. let more = a.message e in omega arith) h
ring-after (Took owner k) bytes second s a h = dropped-by s.room s.ring h
ring-after (Again owner k) bytes second s a h = dropped-by s.room s.ring h
ring-after (Dropped why) bytes second s a h = dropped-by s.room s.ring h
ring-after _ bytes second s a h = h

inbox-after : (e : Event) (bytes second : List ℕ) (s : Lists) → AllowedBy s e bytes second
    → length s.inbox ≤ inbox_room → length (inbox_after e bytes s.inbox) ≤ inbox_room
inbox-after (Arrived peer) bytes second s a h =
    pushed-by peer inbox_room bytes s.inbox (is_control bytes) (is_control bytes) refl (λ e. let more = a.control e in omega arith) h
inbox-after Heard bytes second s a h = dropped-by inbox_room s.inbox h
inbox-after _ bytes second s a h = h

within : (s : Lists) (g : List Fact) (t : Lists) → length s.ring ≤ s.room → LeadsBy s g t → RingWithin s.room s.ring g
within s [] t h l = h
within s (f ∷ g) t h l = (h, within (after l.0 s f) g t (ring-after f.event f.first f.second s l.1 h) l.2)

inbox-within : (s : Lists) (g : List Fact) (t : Lists) → length s.inbox ≤ inbox_room → LeadsBy s g t
    → InboxWithin s.inbox g
inbox-within s [] t h l = h
inbox-within s (f ∷ g) t h l = (h, inbox-within (after l.0 s f) g t (inbox-after f.event f.first f.second s l.1 h) l.2)

pub ring_within : RingFits
ring_within p me life limits g t r = within (new_lists me life limits) g t.lists (omega arith) (run_leads_by r)

pub inbox_within : InboxFits
inbox_within p me life limits g t r = inbox-within (new_lists me life limits) g t.lists (omega arith) (run_leads_by r)

-- the ring keeps its length
room-stays : (s : Lists) (g : List Fact) (t : Lists) → Leads s g t → t.room ≡ s.room
room-stays s [] t l = ap (λ (u : Lists). u.room) l
room-stays s (f ∷ g) t l = room-stays (after l.0 s f) g t l.2

pub shares_fit : SharesFit
shares_fit p me life limits g t r =
    let valid = run_valid r in
    let shared = valid.shared in
    let room = room-stays (new_lists me life limits) g t.lists (run_leads r) in
    omega arith
