-- The packets of the replies: their headers, and the bodies that the pool has.
use Rattle.server_core.specs.declared.slot.SlotState.TheVariants.{Taking, Working, Answered}
use Rattle.server_core.specs.declared.slot.SlotState.{SlotState}
use Rattle.std.proofs.Common.{◌≡◌, ℕ, ◌+◌, ◌-◌, ◌%◌, ◌<◌, ◌≤◌, Bool, true, false, ◌&&◌, cond, ltb}
use Rattle.std.proofs.Common.{eqb, Option, Some, None, List, [], length, refl, sym, ap, ◌∙◌, arith}
use Rattle.std.proofs.Common.{ltb-true}
use Rattle.std.specs.Prelude.{count_by, option_map}
use Rattle.std.specs.List.{find}
use Rattle.std.proofs.lemmas.Bool.{and_parts, eq-eqb, eqb-true, ltb-false}
use Rattle.packet_header.specs.Header.{HasHead, MessageInRange}
use Rattle.packet_header.specs.Parts.{packet_count, part}
use Rattle.packet_header.specs.declared.packet.Packet.TheVariants.{Message}
use Rattle.rpc_base.specs.declared.owner.Owner.{Owner}
use Rattle.rpc_base.specs.declared.owner.Owner.TheVariants.{Ask, Reply, Control}
use Rattle.message_buffer.specs.Buffer.{Buffer, bytes_of}
use Rattle.buffer_pool.specs.Pool.{Pool, IsFull, buf_at}
use Rattle.packet_rings.specs.Values.{EntryValue}
use Rattle.rpc_laws.specs.Packets.{server_packet, IsSpelled}
use Rattle.rpc_laws.specs.Requests.{is_request}
use Rattle.server_core.specs.declared.slot.Stored.{Stored}
use Rattle.server_core.specs.declared.slot.SlotRequest.{SlotRequest}
use Rattle.server_core.specs.KeepsPool.{IsKept, IsStored, KeepsPool}
use Rattle.rpc_laws.specs.ServerTable.{is_worked_on}
use Rattle.server_core.specs.Rows.{as_newest}
use Rattle.server_core.specs.Replies.{IsReplyTo, head_of, is_owner, owner_reply, packet_of, place_of, request_of}
use Rattle.server_core.specs.Session.{HasCome, IsInTurn, IsSession, Session, answer_of, is_at_work, is_in_slot}
use Rattle.server_core.specs.Shown.{shown, shown_request, way_of}
use Rattle.server_core.proofs.ListLemmas.{found-shown}
use Rattle.rpc_base.proofs.FirstLemmas.{found-holds, found-own, count-fewer}
use Rattle.rpc_base.proofs.TakingLemmas.{find-passes}
use Rattle.message_buffer.proofs.MessageLemmas.{size-within, message-length}
use Rattle.message_buffer.specs.Messages.{HasSize, message_in}

-- the answer is there where a packet from the last of the request on was taken
last-worked : (n k : ℕ) → k + 1 ≡ n → (eqb (k + 1) n && true) ≡ false → ⊥
last-worked n k last there = let is = eq-eqb (k + 1) n last in cc

there-cases : (size taken k : ℕ) (at : SlotState) → HasCome size taken at → k < taken
    → (eqb (k + 1) (packet_count size) && is_at_work at) ≡ false → packet_count size ≤ k + 1
    → (a : Stored) × (answer_of at ≡ Some a) × (k + 1 - packet_count size < packet_count a.size)
there-cases size taken k (Taking p) come below there above = absurd (omega (arith, come, below, above))
there-cases size taken k Working come below there above =
    absurd (last-worked (packet_count size) k (omega (arith, come, below, above)) there)
there-cases size taken k (Answered a) come below there above = (a, refl, omega (arith, come.known, below, above))

pub answer-there : (q : SlotRequest) (k : ℕ) → IsInTurn q → k < q.taken
    → is_worked_on (as_newest q) k ≡ false → packet_count q.size ≤ k + 1 → (a : Stored)
    × (answer_of q.state ≡ Some a) × (k + 1 - packet_count q.size < packet_count a.size)
answer-there q k turn below there above = there-cases q.size q.taken k q.state turn.come below there above

-- a reply with a place is a part of the answer, and one without is a credit return
placed-by : (k n p : ℕ) (o : Option Stored) (b : Bool) → ltb (k + 1) n ≡ b
    → Some p ≡ cond b None (option_map (λ a. a.place) o) → (a : Stored) × (o ≡ Some a)
    × (p ≡ a.place) × (n ≤ k + 1)
placed-by k n p o true t e = cc
placed-by k n p None false t e = cc
placed-by k n p (Some a) false t e = let same : p ≡ a.place = cc in (a, refl, same, ltb-false (k + 1) n t)

pub placed-part : (q : SlotRequest) (k p : ℕ) → Some p ≡ place_of q k → (a : Stored)
    × (answer_of q.state ≡ Some a) × (p ≡ a.place) × (packet_count q.size ≤ k + 1)
placed-part q k p e = placed-by k (packet_count q.size) p (answer_of q.state) _ refl e

unplaced-by : (k n : ℕ) (o : Option Stored) (b : Bool) → ltb (k + 1) n ≡ b
    → (n ≤ k + 1 → (a : Stored) × (o ≡ Some a)) → None ≡ cond b None (option_map (λ a. a.place) o)
    → ltb (k + 1) n ≡ true
unplaced-by k n o true t there e = t
unplaced-by k n None false t there e = let (a, is) = there (ltb-false (k + 1) n t) in cc
unplaced-by k n (Some a) false t there e = cc

pub unplaced-part : (q : SlotRequest) (k : ℕ) → IsInTurn q → k < q.taken
    → is_worked_on (as_newest q) k ≡ false → None ≡ place_of q k
    → ltb (k + 1) (packet_count q.size) ≡ true
unplaced-part q k turn below idle e =
    unplaced-by k (packet_count q.size) (answer_of q.state) _ refl (λ above. let there = answer-there q k turn below idle above in (there.0, there.1)) e

pub kept-answer : (pool : Pool) (q : SlotRequest) (a : Stored) → IsKept pool q
    → answer_of q.state ≡ Some a → IsStored pool a
kept-answer pool q a kept is = rw is at kept.answer

pub kept-length : (pool : Pool) (a : Stored) (p : ℕ) (buf : Buffer) → IsStored pool a → p ≡ a.place
    → buf_at pool p ≡ Some buf → buf.len ≡ a.size
kept-length pool a p buf kept same at = size-within (buf_at pool a.place) buf a.size kept.size (rw same at at)

-- the request of an owner is the one with its number
reply-passes : (n t r : ℕ) (q : SlotRequest) → is_owner n (Reply t r) q ≡ true → (eqb n t ≡ true)
    × (eqb q.number r ≡ true)
reply-passes n t r q passes = and_parts _ _ passes

pub number-slot : (r : ℕ) (q : SlotRequest) → eqb q.number r ≡ true → is_in_slot (r % 8) q ≡ true
number-slot r q passes = eq-eqb (q.number % 8) (r % 8) (ap (λ n. n % 8) (eqb-true q.number r passes))

pub number-few : (s : Session) (r : ℕ) → IsSession s → count_by (λ q. eqb q.number r) s.slots ≤ 1
number-few s r h = omega (
  arith,
  count-fewer (λ q. eqb q.number r) (is_in_slot (r % 8))
      (number-slot r) s.slots,
  h.apart (r % 8),
)

owned-cases : (pool : Pool) (s : Session) (k : ℕ) (q : SlotRequest) (owner : Owner) → IsSession s
    → find (is_owner s.number owner) s.slots ≡ Some q
    → owner_reply owner k (shown pool s) ≡ server_packet (way_of s) (shown_request pool q) k
owned-cases pool s k q (Reply t r) h found =
    let passes = reply-passes s.number t r q (find-passes (is_owner s.number (Reply t r)) s.slots q found) in
    let own = found-own (is_owner s.number (Reply t r))
    (λ x. eqb x.number r) s.slots q (number-few s r h) found passes.1 in
    let shown_own = found-shown (shown_request pool) (is_request r) (λ x. eqb x.number r) (λ x. refl) s.slots in
    rw (passes.0, shown_own, own) refl
owned-cases pool s k q (Ask t r) h found =
    let passes = find-passes (is_owner s.number (Ask t r)) s.slots q found in cc
owned-cases pool s k q Control h found =
    let passes = find-passes (is_owner s.number Control) s.slots q found in cc

pub owned-packet : (pool : Pool) (s : Session) (e : EntryValue) (q : SlotRequest) → IsSession s
    → request_of s e ≡ Some q
    → packet_of pool s e ≡ server_packet (way_of s) (shown_request pool q) e.number
owned-packet pool s e q h found = owned-cases pool s e.number q e.owner h found

-- a credit return as it is sent
pub spelled-return : (pool : Pool) (s : Session) (e : EntryValue) (q : SlotRequest)
    (head body : List ℕ) → IsSession s → request_of s e ≡ Some q
    → ltb (e.number + 1) (packet_count q.size) ≡ true
    → HasHead (Message (head_of s.client s.life e.number q)) head → body ≡ []
    → MessageInRange (head_of s.client s.life e.number q) → IsSpelled (packet_of pool s e) head body
spelled-return pool s e q head body h found early has none range =
    rw (owned-packet pool s e q h found, early) (rw early at has, none, rw early at range)

-- a part of the answer as it is sent
pub spelled-part : (pool : Pool) (s : Session) (e : EntryValue) (q : SlotRequest) (a : Stored)
    (buf : Buffer) (head body : List ℕ) → IsSession s → request_of s e ≡ Some q
    → answer_of q.state ≡ Some a → ltb (e.number + 1) (packet_count q.size) ≡ false
    → buf_at pool a.place ≡ Some buf → HasSize a.size (buf_at pool a.place)
    → HasHead (Message (head_of s.client s.life e.number q)) head
    → body ≡ part (bytes_of buf) (e.number + 1 - packet_count q.size)
    → MessageInRange (head_of s.client s.life e.number q) → IsSpelled (packet_of pool s e) head body
spelled-part pool s e q a buf head body h found is late there size has same range =
    let long : length (bytes_of buf) ≡ a.size =
    ap (λ o. length (message_in o)) (sym there)
    ∙ message-length (buf_at pool a.place) a.size size in
    rw (owned-packet pool s e q h found, late, is, there, long) (rw (late, is) at has, same, rw (late, is) at range)

-- the part of an answer is one of its parts
pub part-within : (pool : Pool) (q : SlotRequest) (k p : ℕ) (buf : Buffer) → IsKept pool q
    → IsInTurn q → k < q.taken → is_worked_on (as_newest q) k ≡ false → Some p ≡ place_of q k
    → buf_at pool p ≡ Some buf → k + 1 - packet_count q.size < packet_count buf.len
part-within pool q k p buf kept turn below idle e at =
    let (a, is, same, above) = placed-part q k p e in
    let (b, there, within) = answer-there q k turn below idle above in
    let one : b ≡ a = cc in
    let long = kept-length pool a p buf (kept-answer pool q a kept is) same at in
    rw (long, ← one) within

-- a place that an entry names is full
placed-cases : (pool : Pool) (s : Session) (e : EntryValue) (p : ℕ) (o : Option SlotRequest)
    → KeepsPool pool s.slots → request_of s e ≡ o → IsReplyTo o e → e.place ≡ Some p → IsFull pool p
placed-cases pool s e p None keeps found posted place = absurd posted
placed-cases pool s e p (Some q) keeps found posted place =
    let kept = found-holds (is_owner s.number e.owner) (IsKept pool) s.slots q keeps.kept found in
    let (a, is, same, above) = placed-part q e.number p (sym place ∙ posted.place_is) in
    rw same (kept-answer pool q a kept is).full

pub placed-full : (pool : Pool) (s : Session) (e : EntryValue) (p : ℕ) → KeepsPool pool s.slots
    → IsReplyTo (request_of s e) e → e.place ≡ Some p → IsFull pool p
placed-full pool s e p keeps posted place = placed-cases pool s e p (request_of s e) keeps refl posted place

-- what is sent of an entry without a place, and of one with a place
pub spelled-unplaced : (pool : Pool) (s : Session) (e : EntryValue) (q : SlotRequest)
    (head : List ℕ) → IsSession s → request_of s e ≡ Some q → IsInTurn q → e.number < q.taken
    → is_worked_on (as_newest q) e.number ≡ false → None ≡ place_of q e.number
    → HasHead (Message (head_of s.client s.life e.number q)) head
    → MessageInRange (head_of s.client s.life e.number q) → IsSpelled (packet_of pool s e) head []
spelled-unplaced pool s e q head h found turn below idle place has range =
    spelled-return pool s e q head [] h found (unplaced-part q e.number turn below idle place) has refl range

not-early : (k n : ℕ) (b : Bool) → ltb (k + 1) n ≡ b → n ≤ k + 1 → b ≡ false
not-early k n true t above = absurd (omega (arith, ltb-true (k + 1) n t, above))
not-early k n false t above = refl

pub spelled-placed : (pool : Pool) (s : Session) (e : EntryValue) (q : SlotRequest) (p : ℕ)
    (buf : Buffer) (head body : List ℕ) → IsSession s → request_of s e ≡ Some q → IsKept pool q
    → Some p ≡ place_of q e.number → buf_at pool p ≡ Some buf
    → HasHead (Message (head_of s.client s.life e.number q)) head
    → body ≡ part (bytes_of buf) (e.number + 1 - packet_count q.size)
    → MessageInRange (head_of s.client s.life e.number q) → IsSpelled (packet_of pool s e) head body
spelled-placed pool s e q p buf head body h found kept place at has same range =
    let (a, is, here, above) = placed-part q e.number p place in
    let late = not-early e.number (packet_count q.size) _ refl above in
    spelled-part pool s e q a buf head body h found is late (rw here at at)
    (kept-answer pool q a kept is).size has same range
