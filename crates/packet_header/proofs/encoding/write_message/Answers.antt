-- The three numbers have the bytes of the fields in turn.
use Rattle.std.proofs.Common.{ap, arith}
use Rattle.packet_header.specs.declared.packet.MessageHeader.{MessageHeader}
use Rattle.packet_header.specs.Header.{kind_code}
use Rattle.packet_header.proofs.HeadNumbers.{message-written}
use Rattle.packet_header.proofs.encoding.write_message.Goals as goal

pub returns : goal.returns
returns c =
    let same = c.header.view_is in
    let kind = ap (λ (m : MessageHeader). kind_code m.kind) same in
    let req_type = ap (λ (m : MessageHeader). m.req_type) same in
    let size = ap (λ (m : MessageHeader). m.size) same in
    let session = ap (λ (m : MessageHeader). m.session) same in
    let number = ap (λ (m : MessageHeader). m.number) same in
    let request = ap (λ (m : MessageHeader). m.request) same in
    message-written c.args.header.now _ _ _ _ c.requires
    (omega (arith, request, c.get.ensures.value, c.get.ensures.below)) c.write_numbers.ensures
    (omega (arith, c.kind_code.ensures, kind, req_type, size, session))
    (omega (arith, c.get.ensures.value, request, number))
    (ap (λ (m : MessageHeader). m.to_life) same)
