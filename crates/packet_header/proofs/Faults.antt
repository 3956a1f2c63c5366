-- A packet has no fault exactly where its fields are in range.
use Rattle.std.proofs.Common.{◌≡◌, ◌<◌, ℕ, ◌==◌, ◌||◌, None, refl, arith}
use Rattle.packet_header.specs.declared.packet.Kind.{Kind}
use Rattle.packet_header.specs.declared.packet.Kind.TheVariants.{Request, Rfr, Cr, Response}
use Rattle.packet_header.specs.declared.packet.MessageHeader.{MessageHeader}
use Rattle.packet_header.specs.declared.packet.ControlHeader.{ControlHeader}
use Rattle.packet_header.specs.Parts.{packet_count}
use Rattle.packet_header.specs.Ranges.{Within, within, lives, sessions, message_row, control_row}
use Rattle.packet_header.specs.Header.{MessageInRange, ControlInRange}
use Rattle.packet_header.specs.Reading.{message_fault, control_fault, is_life, is_server}
use Rattle.packet_header.proofs.RangeTests.{within-holds, holds-within, server-holds, holds-server}
use Rattle.packet_header.proofs.RangeTests.{life-holds, holds-life}
use Rattle.packet_header.proofs.RangeTests.{either-holds, holds-either, passed_five, passed_seven}
use Rattle.packet_header.proofs.RangeTests.{eqb_zero}

pub no_fault-message : (m : MessageHeader) → message_fault m ≡ None → MessageInRange m
unfolding message_fault
no_fault-message m h =
    let (types, sizes, session, numbers, to_life) =
    passed_five _ _ _ _ _
    (within (message_row m.kind m.size).types m.req_type)
    (within (message_row m.kind m.size).sizes m.size)
    (within sessions m.session)
    (within (message_row m.kind m.size).numbers m.number)
    (within lives m.to_life)
    h in
    record {
      req_type = within-holds _ _ types;
      size = within-holds _ _ sizes;
      session = within-holds _ _ session;
      number = within-holds _ _ numbers;
      to_life = within-holds _ _ to_life;
    }

pub message-no_fault : (m : MessageHeader) → MessageInRange m → message_fault m ≡ None
unfolding message_fault
message-no_fault m r =
    rw (
      holds-within _ _ r.req_type,
      holds-within _ _ r.size,
      holds-within _ _ r.session,
      holds-within _ _ r.number,
      holds-within _ _ r.to_life,
    ) refl

pub no_fault-control : (c : ControlHeader) (padding : ℕ) → control_fault c padding ≡ None
    → ControlInRange c × (padding ≡ 0)
unfolding control_fault
no_fault-control c padding h =
    let (client, server, credits, status, from_life, rest, to_life) =
    passed_seven _ _ _ _ _ _ _
    (within sessions c.client)
    (is_server (control_row c.kind c.status).has_server c.server)
    (within (control_row c.kind c.status).credits c.credits)
    (c.status == 0 || c.status == (control_row c.kind c.status).refusal)
    (within lives c.from_life)
    (padding == 0)
    (is_life (control_row c.kind c.status).has_life c.to_life)
    h in (
      record {
        client = within-holds _ _ client;
        server = server-holds _ _ server;
        credits = within-holds _ _ credits;
        status = either-holds _ _ status;
        from_life = within-holds _ _ from_life;
        to_life = life-holds _ _ to_life;
      },
      eqb_zero padding rest,
    )

pub control-no_fault : (c : ControlHeader) → ControlInRange c → control_fault c 0 ≡ None
unfolding control_fault
control-no_fault c r =
    rw (
      holds-within _ _ r.client,
      holds-server _ _ r.server,
      holds-within _ _ r.credits,
      holds-either _ _ r.status,
      holds-within _ _ r.from_life,
      holds-life _ _ r.to_life,
    ) refl

below_count : (kind : Kind) (size number : ℕ) → Within (message_row kind size).numbers number
    → kind ≡ Request → number < packet_count size
below_count Request size number h e = omega arith
below_count Rfr size number h e = absurd (cc)
below_count Cr size number h e = absurd (cc)
below_count Response size number h e = absurd (cc)

-- a request without fault names a part of its message
pub no_fault-part : (m : MessageHeader) → message_fault m ≡ None → m.kind ≡ Request → m.number < packet_count m.size
unfolding message_fault
no_fault-part m h =
    let (types, sizes, session, numbers, to_life) =
    passed_five _ _ _ _ _
    (within (message_row m.kind m.size).types m.req_type)
    (within (message_row m.kind m.size).sizes m.size)
    (within sessions m.session)
    (within (message_row m.kind m.size).numbers m.number)
    (within lives m.to_life)
    h in
    below_count m.kind m.size m.number (within-holds _ _ numbers)
