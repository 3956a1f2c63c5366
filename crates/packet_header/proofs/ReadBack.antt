-- The packets of a call are read back: a head and its part of the message, or a head alone.
use Rattle.rpc_base.specs.declared.limits.TheConstants.{HEAD_BYTES}
use Rattle.std.proofs.Common.{◌≡◌, ◌<◌, ◌≤◌, ◌+◌, ℕ, List, [], ◌++◌, length, refl, ap, Ok, arith}
use Rattle.packet_header.specs.declared.packet.Kind.TheVariants.{Request, Rfr, Cr, Response}
use Rattle.packet_header.specs.declared.packet.MessageHeader.{MessageHeader}
use Rattle.packet_header.specs.declared.packet.Packet.TheVariants.{Message}
use Rattle.packet_header.specs.Parts.{packet_count, part}
use Rattle.packet_header.specs.Header.{HasHead}
use Rattle.packet_header.specs.Reading.{decoded}
use Rattle.packet_header.proofs.Heads.{decoded-append}
use Rattle.packet_header.proofs.PartsLemmas.{length-part, response_length}

-- part k of the request q
pub request-read : (q : List ℕ) (req_type session k request to_life : ℕ) (head : List ℕ) →
    req_type < 256 → length q ≤ 1048576 → session < 65535 → k < packet_count (length q) → 0 < to_life → to_life < 4294967296 → length head ≡ HEAD_BYTES →
    HasHead (Message (record {
      kind = Request;
      req_type = req_type;
      size = length q;
      session = session;
      number = k;
      request = request;
      to_life = to_life;
    })) head →
    decoded (head ++ part q k) ≡ Ok (Message (record {
      kind = Request;
      req_type = req_type;
      size = length q;
      session = session;
      number = k;
      request = request;
      to_life = to_life;
    }))
request-read q req_type session k request to_life head types sizes sessions numbers low_life high_life twenty h =
    let m : MessageHeader =
    record {
      kind = Request;
      req_type = req_type;
      size = length q;
      session = session;
      number = k;
      request = request;
      to_life = to_life;
    } in
    decoded-append (Message m) head (part q k)
    (record {
      req_type = (omega arith, omega arith);
      size = (omega arith, omega arith);
      session = (omega arith, omega arith);
      number = (omega arith, omega arith);
      to_life = (omega arith, omega arith);
    })
    h twenty (ap (λ n. HEAD_BYTES + n) (length-part q k))

-- part k of the response a, in server packet j
pub response-read : (a : List ℕ) (req_type session k j request to_life : ℕ) (head : List ℕ) →
    req_type < 256 → length a ≤ 1048576 → session < 65535 → k < packet_count (length a) → j ≤ 2046
    → 0 < to_life → to_life < 4294967296 → length head ≡ HEAD_BYTES →
    HasHead (Message (record {
      kind = Response;
      req_type = req_type;
      size = length a;
      session = session;
      number = j;
      request = request;
      to_life = to_life;
    })) head →
    decoded (head ++ part a k) ≡ Ok (Message (record {
      kind = Response;
      req_type = req_type;
      size = length a;
      session = session;
      number = j;
      request = request;
      to_life = to_life;
    }))
response-read a req_type session k j request to_life head types sizes sessions parts numbers low_life high_life twenty h =
    let m : MessageHeader =
    record {
      kind = Response;
      req_type = req_type;
      size = length a;
      session = session;
      number = j;
      request = request;
      to_life = to_life;
    } in
    let long = response_length (length a) k j parts in
    decoded-append (Message m) head (part a k)
    (record {
      req_type = (omega arith, omega arith);
      size = (omega arith, omega arith);
      session = (omega arith, omega arith);
      number = (omega arith, omega arith);
      to_life = (omega arith, omega arith);
    })
    h twenty (rw (length-part a k) long)

pub rfr-read : (session number request to_life : ℕ) (head : List ℕ) →
    session < 65535 → 0 < number → number ≤ 2046 → 0 < to_life → to_life < 4294967296 → length head ≡ HEAD_BYTES →
    HasHead (Message (record {
      kind = Rfr;
      req_type = 0;
      size = 0;
      session = session;
      number = number;
      request = request;
      to_life = to_life;
    })) head →
    decoded (head ++ []) ≡ Ok (Message (record {
      kind = Rfr;
      req_type = 0;
      size = 0;
      session = session;
      number = number;
      request = request;
      to_life = to_life;
    }))
rfr-read session number request to_life head sessions low high low_life high_life twenty h =
    let m : MessageHeader =
    record {
      kind = Rfr;
      req_type = 0;
      size = 0;
      session = session;
      number = number;
      request = request;
      to_life = to_life;
    } in
    decoded-append (Message m) head []
    (record {
      req_type = (omega arith, omega arith);
      size = (omega arith, omega arith);
      session = (omega arith, omega arith);
      number = (omega arith, omega arith);
      to_life = (omega arith, omega arith);
    })
    h twenty refl

pub cr-read : (session number request to_life : ℕ) (head : List ℕ) →
    session < 65535 → number ≤ 1022 → 0 < to_life → to_life < 4294967296 → length head ≡ HEAD_BYTES →
    HasHead (Message (record {
      kind = Cr;
      req_type = 0;
      size = 0;
      session = session;
      number = number;
      request = request;
      to_life = to_life;
    })) head →
    decoded (head ++ []) ≡ Ok (Message (record {
      kind = Cr;
      req_type = 0;
      size = 0;
      session = session;
      number = number;
      request = request;
      to_life = to_life;
    }))
cr-read session number request to_life head sessions high low_life high_life twenty h =
    let m : MessageHeader =
    record {
      kind = Cr;
      req_type = 0;
      size = 0;
      session = session;
      number = number;
      request = request;
      to_life = to_life;
    } in
    decoded-append (Message m) head []
    (record {
      req_type = (omega arith, omega arith);
      size = (omega arith, omega arith);
      session = (omega arith, omega arith);
      number = (omega arith, omega arith);
      to_life = (omega arith, omega arith);
    })
    h twenty refl
