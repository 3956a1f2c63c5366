-- The ranges of each kind of message header, as facts on its fields.
use Rattle.std.proofs.Common.{◌≡◌, ◌≤◌, ◌<◌, arith}
use Rattle.packet_header.specs.declared.packet.Kind.TheVariants.{Request, Rfr, Cr, Response}
use Rattle.packet_header.specs.declared.packet.MessageHeader.{MessageHeader}
use Rattle.packet_header.specs.Parts.{packet_count}
use Rattle.packet_header.specs.Header.{MessageInRange}

pub request-in_range : (m : MessageHeader) → m.kind ≡ Request → m.req_type < 256 → m.size ≤ 1048576
    → m.session < 65535 → m.number < packet_count m.size → 0 < m.to_life
    → m.to_life < 4294967296 → MessageInRange m
request-in_range m kind types sizes session numbers low_life high_life =
    record {
      req_type = rw kind (omega arith, omega arith);
      size = rw kind (omega arith, omega arith);
      session = (omega arith, omega arith);
      number = rw kind (omega arith, omega arith);
      to_life = (omega arith, omega arith);
    }

pub rfr-in_range : (m : MessageHeader) → m.kind ≡ Rfr → m.req_type ≡ 0 → m.size ≡ 0
    → m.session < 65535 → 0 < m.number → m.number ≤ 2046 → 0 < m.to_life
    → m.to_life < 4294967296 → MessageInRange m
rfr-in_range m kind types sizes session low high low_life high_life =
    record {
      req_type = rw kind (omega arith, omega arith);
      size = rw kind (omega arith, omega arith);
      session = (omega arith, omega arith);
      number = rw kind (omega arith, omega arith);
      to_life = (omega arith, omega arith);
    }

pub cr-in_range : (m : MessageHeader) → m.kind ≡ Cr → m.req_type ≡ 0 → m.size ≡ 0
    → m.session < 65535 → m.number ≤ 1022 → 0 < m.to_life
    → m.to_life < 4294967296 → MessageInRange m
cr-in_range m kind types sizes session high low_life high_life =
    record {
      req_type = rw kind (omega arith, omega arith);
      size = rw kind (omega arith, omega arith);
      session = (omega arith, omega arith);
      number = rw kind (omega arith, omega arith);
      to_life = (omega arith, omega arith);
    }

pub response-in_range : (m : MessageHeader) → m.kind ≡ Response → m.req_type < 256
    → m.size ≤ 1048576 → m.session < 65535 → m.number ≤ 2046 → 0 < m.to_life
    → m.to_life < 4294967296 → MessageInRange m
response-in_range m kind types sizes session high low_life high_life =
    record {
      req_type = rw kind (omega arith, omega arith);
      size = rw kind (omega arith, omega arith);
      session = (omega arith, omega arith);
      number = rw kind (omega arith, omega arith);
      to_life = (omega arith, omega arith);
    }

-- what is in range of a request
pub request-number : (m : MessageHeader) → MessageInRange m → m.kind ≡ Request → m.number < packet_count m.size
request-number m range kind = let (low, high) = rw kind at range.number in omega arith
