-- What is read is what is spelled, and each refusal has its reason.
use Rattle.rpc_base.specs.declared.limits.TheConstants.{HEAD_BYTES}
use Rattle.packet_header.specs.declared.layout.TheConstants.{MAGIC, PADDING, PADDING_BYTES, TO_LIFE}
use Rattle.std.proofs.Common.{◌≡◌, ◌≢◌, ◌↔◌, ◌≤◌, ◌∙◌, ℕ, ◌==◌, nat_lt, ◌||◌, not, Bool, true, false}
use Rattle.std.proofs.Common.{if◌then◌else◌, List, length, slice_index, Option, Some, None, Result}
use Rattle.std.proofs.Common.{Ok, Err, IfOk, unwrap_or, inl, inr, refl, sym, ap, arith}
use Rattle.std.proofs.lemmas.Bool.{eqb-false, eqb-true, lt-ltb, ltb-false, ltb-true, not-false, not-true}
use Rattle.std.proofs.lemmas.Bool.Decides.{nat_tests}
use Rattle.packet_header.specs.declared.packet.Kind.{Kind}
use Rattle.packet_header.specs.declared.packet.ControlKind.{ControlKind}
use Rattle.packet_header.specs.declared.packet.MessageHeader.{MessageHeader}
use Rattle.packet_header.specs.declared.packet.ControlHeader.{ControlHeader}
use Rattle.packet_header.specs.declared.packet.Packet.{Packet}
use Rattle.packet_header.specs.declared.packet.Packet.TheVariants.{Message, Control}
use Rattle.packet_header.specs.declared.packet.BadPacket.{BadPacket}
use Rattle.packet_header.specs.declared.packet.BadPacket.TheVariants.{Short, Magic, Field, Length, Kind as NoKind}
use Rattle.packet_header.specs.declared.decoding.AnyKind.{AnyKind}
use Rattle.packet_header.specs.declared.decoding.AnyKind.TheVariants.{OfMessage, OfControl}
use Rattle.packet_header.specs.Header.{HasControlHead, HasHead, HasLength, HasMessageHead, InRange}
use Rattle.packet_header.specs.Header.{MessageLength, ControlInRange, MessageInRange, IsLife, IsServer}
use Rattle.packet_header.specs.Header.{Spells, control_code, kind_code, number_at}
use Rattle.packet_header.specs.Reading.{checked, control_at, control_fault, control_fields}
use Rattle.packet_header.specs.Reading.{first_outside, message_fields, control_read, decoded}
use Rattle.packet_header.specs.Reading.{is_full_part, kind_of, life_of, message_at, message_fault}
use Rattle.packet_header.specs.Reading.{message_in, message_of, message_read, read_as, server_of}
use Rattle.packet_header.specs.Reading.{wanted}
use Rattle.packet_header.specs.Refusals.{FirstOutside, IsOfKind, Refuses, length_of}
use Rattle.packet_header.proofs.Faults.{control-no_fault, message-no_fault, no_fault-control, no_fault-message}
use Rattle.packet_header.proofs.KindBytes.{IsKindOf, kind_of-byte, kind_of-none, kind_of-control, kind_of-message}
use Rattle.packet_header.proofs.Lengths.{length-tested, tested-length}
use Rattle.rpc_base.proofs.BasicLemmas.{unless-true}

-- the two tests before the kind
short_no : (n : ℕ) → HEAD_BYTES ≤ n → nat_lt n HEAD_BYTES ≡ false
short_no n h = grind (arith, nat_tests)

other_magic : (n : ℕ) → (n ≡ MAGIC → ⊥) → not (n == MAGIC) ≡ true
other_magic n h = grind (arith, nat_tests)

magic_no : (n : ℕ) → n ≡ MAGIC → not (n == MAGIC) ≡ false
magic_no n h = grind (arith, nat_tests)

-- a header of a kind is read as that kind
pub decoded-of_kind : (bytes : List ℕ) (code : ℕ) → IsOfKind code bytes → decoded bytes ≡ read_as (kind_of code) bytes
unfolding decoded
decoded-of_kind bytes code h = rw (short_no _ h.whole, magic_no _ h.magic, h.kind) refl

-- a packet that passes both tests is read
passes : (fault : Option ℕ) (fits : Bool) (p : Packet) (want got : ℕ) → fault ≡ None → fits ≡ true
    → checked fault fits p want got ≡ Ok p
passes fault fits p want got f g = rw (f, g) refl

message_read-ok : (m : MessageHeader) (n : ℕ) → MessageInRange m
    → MessageLength m.kind m.size m.number n → message_read m n ≡ Ok (Message m)
unfolding message_read
message_read-ok m n range long =
    passes _ _ (Message m) _ n (message-no_fault m range)
    (length-tested m.kind m.size m.number n long)

message_at-same : (m : MessageHeader) (bytes : List ℕ) → HasMessageHead m bytes → message_at m.kind bytes ≡ m
unfolding message_at
message_at-same m bytes h = rw (h.req_type, h.size, h.session, h.number, h.request, h.to_life) refl

-- a message header is read as it stands
message-decoded : (m : MessageHeader) (bytes : List ℕ) → HasMessageHead m bytes
    → decoded bytes ≡ message_read m (length bytes)
message-decoded m bytes h =
    decoded-of_kind bytes (kind_code m.kind) (record { whole = h.whole; magic = h.magic; kind = h.kind })
    ∙ ap (λ kind. read_as kind bytes) (kind_of-message m.kind)
    ∙ ap (λ x. message_read x (length bytes)) (message_at-same m bytes h)

twenty : (n : ℕ) → n ≡ HEAD_BYTES → (n == HEAD_BYTES) ≡ true
twenty n h = grind (arith, nat_tests)

control_read-ok : (c : ControlHeader) (n : ℕ) → ControlInRange c → n ≡ HEAD_BYTES → control_read c 0 n ≡ Ok (Control c)
unfolding control_read
control_read-ok c n range long = passes _ _ (Control c) HEAD_BYTES n (control-no_fault c range) (twenty n long)

no_session : (n : ℕ) → n ≤ 65534 → (n == 65535) ≡ false
no_session n h = grind (arith, nat_tests)

server_of-same : (b : Bool) (server : Option ℕ) → IsServer b server → server_of (unwrap_or server 65535) ≡ server
server_of-same true (Some server) h = rw (no_session server h.1) refl
server_of-same false None h = refl
server_of-same true None h = absurd h
server_of-same false (Some server) h = absurd h

no_life : (n : ℕ) → 1 ≤ n → (n == 0) ≡ false
no_life n h = grind (arith, nat_tests)

life_of-same : (b : Bool) (life : Option ℕ) → IsLife b life → life_of (unwrap_or life 0) ≡ life
life_of-same true (Some life) h = rw (no_life life h.0) refl
life_of-same false None h = refl
life_of-same true None h = absurd h
life_of-same false (Some life) h = absurd h

control_at-same : (c : ControlHeader) (bytes : List ℕ) → HasControlHead c bytes → ControlInRange c
    → control_at c.kind bytes ≡ c
unfolding control_at
control_at-same c bytes h range =
    let server = ap server_of h.server ∙ server_of-same _ c.server range.server in
    let to_life = ap life_of h.to_life ∙ life_of-same _ c.to_life range.to_life in
    rw (h.client, server, h.credits, h.status, h.from_life, to_life) refl

-- a control header is read as it stands
control-decoded : (c : ControlHeader) (bytes : List ℕ) → HasControlHead c bytes → ControlInRange c
    → decoded bytes ≡ control_read c 0 (length bytes)
control-decoded c bytes h range =
    decoded-of_kind bytes (control_code c.kind) (record { whole = h.whole; magic = h.magic; kind = h.kind })
    ∙ ap (λ kind. read_as kind bytes) (kind_of-control c.kind)
    ∙ ap (λ x. control_read x (number_at PADDING PADDING_BYTES bytes) (length bytes)) (control_at-same c bytes h range)
    ∙ ap (λ padding. control_read c padding (length bytes)) h.padding

-- a datagram that spells a packet is read as that packet
pub spells-decoded : (p : Packet) (bytes : List ℕ) → Spells p bytes → decoded bytes ≡ Ok p
spells-decoded (Message m) bytes s =
    message-decoded m bytes s.head ∙ message_read-ok m (length bytes) s.in_range s.long
spells-decoded (Control c) bytes s =
    control-decoded c bytes s.head s.in_range ∙ control_read-ok c (length bytes) s.in_range s.long

-- what a reading says of the datagram
abbrev Tells : Result Packet BadPacket → List ℕ → Type 0
Tells (Ok p) bytes = Spells p bytes
Tells (Err bad) bytes = Refuses bad bytes

message_at-head : (kind : Kind) (bytes : List ℕ) → IsOfKind (kind_code kind) bytes
    → HasMessageHead (message_at kind bytes) bytes
unfolding message_at
message_at-head kind bytes h =
    record {
      whole = h.whole;
      magic = h.magic;
      kind = h.kind;
      req_type = refl;
      size = refl;
      session = refl;
      number = refl;
      request = refl;
      to_life = refl;
    }

not_both : (b : Bool) → b ≡ true → b ≡ false → ⊥
not_both b h g = cc

message-tells : (kind : Kind) (bytes : List ℕ) → IsOfKind (kind_code kind) bytes →
    (fault : Option ℕ) (fits : Bool) →
    message_fault (message_at kind bytes) ≡ fault →
    (length bytes == wanted (message_at kind bytes).kind (message_at kind bytes).size
    (message_at kind bytes).number || is_full_part (message_at kind bytes).kind
    (message_at kind bytes).size (length bytes)) ≡ fits →
    Tells (checked fault fits (Message (message_at kind bytes))
    (wanted (message_at kind bytes).kind (message_at kind bytes).size
    (message_at kind bytes).number) (length bytes)) bytes
unfolding message_fault
message-tells kind bytes of_kind (Some offset) fits f g = inl (kind, of_kind, f)
message-tells kind bytes of_kind None true f g =
    record {
      head = message_at-head kind bytes of_kind;
      in_range = no_fault-message (message_at kind bytes) f;
      long = tested-length _ _ _ _ g;
    }
message-tells kind bytes of_kind None false f g =
    record {
      packet = Message (message_at kind bytes);
      head = message_at-head kind bytes of_kind;
      in_range = no_fault-message (message_at kind bytes) f;
      wanted_length = refl;
      own_length = refl;
      other = λ long. not_both _ (length-tested _ _ _ _ long) g;
    }

message_read-tells : (kind : Kind) (bytes : List ℕ) → IsOfKind (kind_code kind) bytes
    → Tells (message_read (message_at kind bytes) (length bytes)) bytes
unfolding message_read
message_read-tells kind bytes of_kind = message-tells kind bytes of_kind _ _ refl refl

server_number : (b : Bool) (n : ℕ) → (n == 65535) ≡ b → n ≡ unwrap_or (if b then None else Some n) 65535
server_number true n h = eqb-true n 65535 h
server_number false n h = refl

life_number : (b : Bool) (n : ℕ) → (n == 0) ≡ b → n ≡ unwrap_or (if b then None else Some n) 0
life_number true n h = eqb-true n 0 h
life_number false n h = refl

control_at-head : (kind : ControlKind) (bytes : List ℕ) → IsOfKind (control_code kind) bytes
    → number_at PADDING PADDING_BYTES bytes ≡ 0 → HasControlHead (control_at kind bytes) bytes
unfolding control_at
control_at-head kind bytes h padding =
    record {
      whole = h.whole;
      magic = h.magic;
      kind = h.kind;
      client = refl;
      server = server_number _ (number_at 4 2 bytes) refl;
      credits = refl;
      status = refl;
      from_life = refl;
      padding = padding;
      to_life = life_number _ (number_at TO_LIFE 4 bytes) refl;
    }

control-tells : (kind : ControlKind) (bytes : List ℕ) → IsOfKind (control_code kind) bytes →
    (fault : Option ℕ) (fits : Bool) →
    control_fault (control_at kind bytes) (number_at PADDING PADDING_BYTES bytes) ≡ fault →
    (length bytes == HEAD_BYTES) ≡ fits →
    Tells (checked fault fits (Control (control_at kind bytes)) HEAD_BYTES (length bytes)) bytes
unfolding control_fault
control-tells kind bytes of_kind (Some offset) fits f g = inr (kind, of_kind, f)
control-tells kind bytes of_kind None true f g =
    let (range, padding) = no_fault-control _ _ f in
    record { head = control_at-head kind bytes of_kind padding; in_range = range; long = eqb-true _ HEAD_BYTES g }
control-tells kind bytes of_kind None false f g =
    let (range, padding) = no_fault-control _ _ f in
    record {
      packet = Control (control_at kind bytes);
      head = control_at-head kind bytes of_kind padding;
      in_range = range;
      wanted_length = refl;
      own_length = refl;
      other = λ long. eqb-false _ HEAD_BYTES g long;
    }

control_read-tells : (kind : ControlKind) (bytes : List ℕ) → IsOfKind (control_code kind) bytes
    → Tells (control_read (control_at kind bytes) (number_at PADDING PADDING_BYTES bytes) (length bytes)) bytes
unfolding control_read
control_read-tells kind bytes of_kind = control-tells kind bytes of_kind _ _ refl refl

read_as-tells : (bytes : List ℕ) → HEAD_BYTES ≤ length bytes → slice_index bytes 0 ≡ MAGIC
    → (kind : Option AnyKind) → IsKindOf (slice_index bytes 1) kind
    → Tells (read_as kind bytes) bytes
read_as-tells bytes whole magic None h = (record { whole = whole; magic = magic; kind = refl }, h)
read_as-tells bytes whole magic (Some (OfMessage kind)) h =
    message_read-tells kind bytes (record { whole = whole; magic = magic; kind = h })
read_as-tells bytes whole magic (Some (OfControl kind)) h =
    control_read-tells kind bytes (record { whole = whole; magic = magic; kind = h })

tests-tell : (bytes : List ℕ) → (short other : Bool) → nat_lt (length bytes) HEAD_BYTES ≡ short
    → not (slice_index bytes 0 == MAGIC) ≡ other →
    Tells (if short then Err (Short (length bytes))
    else (if other then Err (Magic (slice_index bytes 0)) else read_as
    (kind_of (slice_index bytes 1)) bytes)) bytes
tests-tell bytes true other h g = (refl, ltb-true (length bytes) HEAD_BYTES h)
tests-tell bytes false true h g = (ltb-false (length bytes) HEAD_BYTES h, refl, eqb-false _ MAGIC (not-true _ g))
tests-tell bytes false false h g =
    read_as-tells bytes (ltb-false (length bytes) HEAD_BYTES h)
    (eqb-true _ MAGIC (not-false _ g)) _ (kind_of-byte (slice_index bytes 1))

decoded-tells : (bytes : List ℕ) → Tells (decoded bytes) bytes
unfolding decoded
decoded-tells bytes = tests-tell bytes _ _ refl refl

-- what is read spells the packet
pub decoded-spells : (p : Packet) (bytes : List ℕ) → decoded bytes ≡ Ok p → Spells p bytes
decoded-spells p bytes h = let t = rw h at (decoded-tells bytes) in t

-- what is refused has its reason
pub decoded-refuses : (bad : BadPacket) (bytes : List ℕ) → decoded bytes ≡ Err bad → Refuses bad bytes
decoded-refuses bad bytes h = let t = rw h at (decoded-tells bytes) in t

faulty : (fault : Option ℕ) (fits : Bool) (p : Packet) (want got offset : ℕ) → fault ≡ Some offset
    → checked fault fits p want got ≡ Err (Field offset)
faulty fault fits p want got offset h = rw h refl

message_read-faulty : (m : MessageHeader) (n offset : ℕ)
    → first_outside (message_fields m) ≡ Some offset → message_read m n ≡ Err (Field offset)
unfolding message_read message_fault
message_read-faulty m n offset h = faulty _ _ (Message m) _ n offset h

control_read-faulty : (c : ControlHeader) (padding n offset : ℕ)
    → first_outside (control_fields c padding) ≡ Some offset
    → control_read c padding n ≡ Err (Field offset)
unfolding control_read control_fault
control_read-faulty c padding n offset h = faulty _ _ (Control c) HEAD_BYTES n offset h

first_outside-decoded : (offset : ℕ) (bytes : List ℕ) → FirstOutside offset bytes → decoded bytes ≡ Err (Field offset)
first_outside-decoded offset bytes (inl (kind, of_kind, fault)) =
    decoded-of_kind bytes _ of_kind
    ∙ ap (λ k. read_as k bytes) (kind_of-message kind)
    ∙ message_read-faulty (message_at kind bytes) (length bytes) offset fault
first_outside-decoded offset bytes (inr (kind, of_kind, fault)) =
    decoded-of_kind bytes _ of_kind
    ∙ ap (λ k. read_as k bytes) (kind_of-control kind)
    ∙ control_read-faulty (control_at kind bytes) (number_at PADDING PADDING_BYTES bytes) (length bytes) offset fault

misfits : (fault : Option ℕ) (fits : Bool) (p : Packet) (want got : ℕ) → fault ≡ None → fits ≡ false
    → checked fault fits p want got ≡ Err (Length want got)
misfits fault fits p want got f g = rw (f, g) refl

message_read-misfits : (m : MessageHeader) (n : ℕ) → MessageInRange m
    → (MessageLength m.kind m.size m.number n → ⊥)
    → message_read m n ≡ Err (Length (wanted m.kind m.size m.number) n)
unfolding message_read
message_read-misfits m n range other =
    misfits _ _ (Message m) _ n (message-no_fault m range)
    (unless-true _ (λ t. other (tested-length m.kind m.size m.number n t)))

control_read-misfits : (c : ControlHeader) (n : ℕ) → ControlInRange c → (n ≡ HEAD_BYTES → ⊥)
    → control_read c 0 n ≡ Err (Length HEAD_BYTES n)
unfolding control_read
control_read-misfits c n range other =
    misfits _ _ (Control c) HEAD_BYTES n (control-no_fault c range) (unless-true _ (λ t. other (eqb-true n HEAD_BYTES t)))

misfit-decoded : (p : Packet) (bytes : List ℕ) → HasHead p bytes → InRange p
    → ¬ HasLength p (length bytes) → decoded bytes ≡ Err (Length (length_of p) (length bytes))
misfit-decoded (Message m) bytes h range other =
    message-decoded m bytes h ∙ message_read-misfits m (length bytes) range other
misfit-decoded (Control c) bytes h range other =
    control-decoded c bytes h range ∙ control_read-misfits c (length bytes) range other

-- a reason is told
pub refuses-decoded : (bad : BadPacket) (bytes : List ℕ) → Refuses bad bytes → decoded bytes ≡ Err bad
unfolding decoded
refuses-decoded (Short len) bytes (e, h) = rw (lt-ltb (length bytes) HEAD_BYTES h, e) refl
refuses-decoded (Magic byte) bytes (whole, e, other) =
    rw (short_no _ whole, other_magic _ (λ same. other (e ∙ same)), e) refl
refuses-decoded (NoKind byte) bytes (of_kind, h) =
    decoded-of_kind bytes byte of_kind ∙ ap (λ k. read_as k bytes) (kind_of-none byte h)
    ∙ ap (λ b. Err (NoKind b)) of_kind.kind
refuses-decoded (Field offset) bytes h = first_outside-decoded offset bytes h
refuses-decoded (Length want got) bytes h =
    misfit-decoded h.packet bytes h.head h.in_range (λ long. h.other (rw h.own_length long))
    ∙ (rw (h.wanted_length, h.own_length) refl)

-- the clauses of a call that answers so
pub reading-spelled : (result : Result Packet BadPacket) (bytes : List ℕ) → result ≡ decoded bytes
    → IfOk result (λ p. Spells p bytes)
reading-spelled (Ok p) bytes h = decoded-spells p bytes (sym h)
reading-spelled (Err bad) bytes h = tt

pub reading-found : (result : Result Packet BadPacket) (bytes : List ℕ) → result ≡ decoded bytes
    → (p : Packet) → Spells p bytes → result ≡ Ok p
reading-found result bytes h p s = h ∙ spells-decoded p bytes s

pub reading-refused : (result : Result Packet BadPacket) (bytes : List ℕ) → result ≡ decoded bytes
    → (bad : BadPacket) → (result ≡ Err bad) ↔ Refuses bad bytes
reading-refused result bytes h bad =
    (λ e. decoded-refuses bad bytes (sym h ∙ e), λ r. h ∙ refuses-decoded bad bytes r)

-- no datagram spells two packets
pub one_packet : (p q : Packet) (bytes : List ℕ) → Spells p bytes → Spells q bytes → p ≡ q
one_packet p q bytes s t =
    let e : Ok p ≡ Ok q = sym (spells-decoded p bytes s) ∙ spells-decoded q bytes t in
    cc

message_in-some : (result : Result Packet BadPacket) (m : MessageHeader)
    → message_in result ≡ Some m → result ≡ Ok (Message m)
message_in-some (Ok (Message x)) m h = let e : x ≡ m = cc in ap (λ y. Ok (Message y)) e
message_in-some (Ok (Control c)) m h = absurd (cc)
message_in-some (Err bad) m h = absurd (cc)

-- a datagram with a message's header spells it
pub message_of-spells : (m : MessageHeader) (bytes : List ℕ) → message_of bytes ≡ Some m → Spells (Message m) bytes
message_of-spells m bytes h = decoded-spells (Message m) bytes (message_in-some (decoded bytes) m h)

-- and the other way
pub spells-message_of : (m : MessageHeader) (bytes : List ℕ) → Spells (Message m) bytes → message_of bytes ≡ Some m
spells-message_of m bytes s = ap message_in (spells-decoded (Message m) bytes s)

-- a control packet has no message's header
pub control-no_message : (c : ControlHeader) (bytes : List ℕ) → Spells (Control c) bytes → message_of bytes ≡ None
control-no_message c bytes s = ap message_in (spells-decoded (Control c) bytes s)

-- a packet of a call begins with a header of its kind, which is read as it stands
pub record BeginsWith (m : MessageHeader) (bytes : List ℕ) : Type 0 where
  pub whole : HEAD_BYTES ≤ length bytes
  pub kind : kind_of (slice_index bytes 1) ≡ Some (OfMessage m.kind)
  pub fields : message_at m.kind bytes ≡ m

begins-with : (m : MessageHeader) (bytes : List ℕ) → message_of bytes ≡ Some m → BeginsWith m bytes
begins-with m bytes h =
    let s = message_of-spells m bytes h in
    record {
      whole = s.head.whole;
      kind = ap kind_of s.head.kind ∙ kind_of-message m.kind;
      fields = message_at-same m bytes s.head;
    }

-- a datagram that is a packet of a call has a header
pub message_of-some : (bytes : List ℕ) → message_of bytes ≢ None
    → (m : MessageHeader) × (message_of bytes ≡ Some m) × BeginsWith m bytes
message_of-some bytes h = by (message_of bytes) refl
  where
    by : (o : Option MessageHeader) → message_of bytes ≡ o
        → (m : MessageHeader) × (message_of bytes ≡ Some m) × BeginsWith m bytes
    by None e = absurd (h e)
    by (Some m) e = (m, e, begins-with m bytes e)
