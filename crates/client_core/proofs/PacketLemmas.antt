-- The packets of a call's entries: their headers, and the bodies that the pool has.
use Rattle.std.proofs.Common.{◌≡◌, ℕ, ◌<◌, ◌≤◌, Bool, true, false, cond, ltb, Option, Some, None}
use Rattle.std.proofs.Common.{List, [], length, refl, arith, ltb-true}
use Rattle.std.specs.Prelude.{IfSome}
use Rattle.packet_header.specs.Header.{HasHead, MessageInRange}
use Rattle.packet_header.specs.Parts.{packet_count, part, IsMessage}
use Rattle.packet_header.specs.declared.packet.Kind.TheVariants.{Request, Rfr}
use Rattle.packet_header.specs.declared.packet.Packet.TheVariants.{Message}
use Rattle.packet_header.proofs.PartsLemmas.{packet_count_above, packet_count_most}
use Rattle.message_buffer.specs.Buffer.{Buffer, bytes_of}
use Rattle.buffer_pool.specs.Pool.{Pool, buf_at}
use Rattle.packet_rings.specs.Values.{EntryValue}
use Rattle.rpc_laws.specs.Calls.{known_packets}
use Rattle.client_core.specs.declared.call.ActiveCall.{ActiveCall}
use Rattle.client_core.specs.Session.{Session, IsInTurn}
use Rattle.client_core.specs.KeepsPool.{IsKept}
use Rattle.client_core.specs.Posting.{call_of, head_of, place_of}
use Rattle.client_core.specs.Shown.{packet_of}
use Rattle.message_buffer.specs.Messages.{HasSize, message_in}
use Rattle.rpc_laws.specs.Packets.{IsSpelled}
use Rattle.message_buffer.proofs.MessageLemmas.{size-within, message-length}

-- no packet that a call is known to have has a number past 2,046
known-most : (asked : ℕ) (size : Option ℕ) → asked ≤ 1024 → IfSome size IsMessage → known_packets asked size ≤ 2047
known-most asked None few small = omega arith
known-most asked (Some size) few small = omega (arith, packet_count_most size small)

-- a request for a part of the answer has a number that its header may have
pub later-number : (c : ActiveCall) (k : ℕ) → IsInTurn c → k < c.posted → packet_count c.len ≤ k
    → (1 ≤ k) × (k ≤ 2046)
later-number c k turn posted above =
    let most = known-most (packet_count c.len) c.size (packet_count_most c.len turn.len) turn.size in
    (omega (arith, packet_count_above c.len, above), omega (arith, most, turn.known, posted))

-- a packet with a place is a part of the request
place-cases : (k n p q : ℕ) (b : Bool) → ltb k n ≡ b → Some p ≡ cond b (Some q) None → (p ≡ q) × (k < n)
place-cases k n p q true t e = let same : p ≡ q = cc in (same, ltb-true k n t)
place-cases k n p q false t e = cc

pub placed-part : (c : ActiveCall) (k p : ℕ) → Some p ≡ place_of c k → (p ≡ c.ask) × (k < packet_count c.len)
placed-part c k p e = place-cases k (packet_count c.len) p c.ask _ refl e

pub part-within : (pool : Pool) (c : ActiveCall) (k p : ℕ) (buf : Buffer) → IsKept pool c
    → Some p ≡ place_of c k → buf_at pool p ≡ Some buf → k < packet_count buf.len
part-within pool c k p buf kept e at =
    let (same, below) = placed-part c k p e in
    let size : buf.len ≡ c.len = size-within (buf_at pool c.ask) buf c.len kept.size (rw same at at) in
    rw size below

-- the packet of an entry, by what is sent of it
spelled-cases : (peer other life size : ℕ) (ask : List ℕ) (c : ActiveCall) (k : ℕ) (head body : List ℕ)
    (b : Bool) → HasHead (Message (cond b (record {
      kind = Request;
      req_type = c.req_type;
      size = size;
      session = other;
      number = k;
      request = c.request;
      to_life = life;
    }) (record {
      kind = Rfr;
      req_type = 0;
      size = 0;
      session = other;
      number =
          k;
      request = c.request;
      to_life = life;
    }))) head → body ≡ cond b (part ask k) []
    → MessageInRange (cond b (record {
      kind = Request;
      req_type = c.req_type;
      size = size;
      session = other;
      number = k;
      request = c.request;
      to_life = life;
    })
    (record {
      kind = Rfr;
      req_type = 0;
      size = 0;
      session = other;
      number = k;
      request = c.request;
      to_life = life;
    })) → IsSpelled (Some (cond b (record {
      peer = peer;
      packet = Message (record {
        kind = Request;
        req_type = c.req_type;
        size = size;
        session = other;
        number = k;
        request = c.request;
        to_life = life;
      });
      body = part ask k;
    }) (record {
      peer = peer;
      packet = Message (record { kind = Rfr; req_type = 0; size = 0; session = other; number = k; request = c.request; to_life = life });
      body = [];
    }))) head body
spelled-cases peer other life size ask c k head body true h e r = (h, e, r)
spelled-cases peer other life size ask c k head body false h e r = (h, e, r)

pub spelled : (pool : Pool) (s : Session) (e : EntryValue) (c : ActiveCall) (head body : List ℕ)
    → call_of s e ≡ Some c → HasSize c.len (buf_at pool c.ask)
    → HasHead (Message (head_of s.server s.life e.number c)) head
    → body ≡ cond (ltb e.number (packet_count c.len))
    (part (message_in (buf_at pool c.ask)) e.number) []
    → MessageInRange (head_of s.server s.life e.number c) → IsSpelled (packet_of pool s e) head body
spelled pool s e c head body is size h same range =
    let long : length (message_in (buf_at pool c.ask)) ≡ c.len = message-length (buf_at pool c.ask) c.len size in
    rw (is, long) (spelled-cases e.peer s.server s.life c.len (message_in (buf_at pool c.ask)) c e.number
    head body (ltb e.number (packet_count c.len)) h same range)

-- the body of an entry without a place, and of one with a place
none-cases : (k n : ℕ) (q : ℕ) (b : Bool) (xs : List ℕ) → None ≡ cond b (Some q) None → [] ≡ cond b xs []
none-cases k n q true xs e = cc
none-cases k n q false xs e = refl

pub no-body : (c : ActiveCall) (k : ℕ) (xs : List ℕ) → None ≡ place_of c k
    → [] ≡ cond (ltb k (packet_count c.len)) xs []
no-body c k xs e = none-cases k (packet_count c.len) c.ask _ xs e

some-cases : (p q : ℕ) (b : Bool) (body xs : List ℕ) → Some p ≡ cond b (Some q) None → body ≡ xs → body ≡ cond b xs []
some-cases p q true body xs e same = same
some-cases p q false body xs e same = cc

pub part-body : (pool : Pool) (c : ActiveCall) (k p : ℕ) (buf : Buffer) (body : List ℕ)
    → Some p ≡ place_of c k → buf_at pool p ≡ Some buf → body ≡ part (bytes_of buf) k
    → body ≡ cond (ltb k (packet_count c.len)) (part (message_in (buf_at pool c.ask)) k) []
part-body pool c k p buf body e at same =
    let here : p ≡ c.ask = (placed-part c k p e).0 in
    let found : buf_at pool c.ask ≡ Some buf = rw here at at in
    rw found (some-cases p c.ask _ body (part (bytes_of buf) k) e same)
