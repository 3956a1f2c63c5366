-- The kind and the fields are those of the header that the datagram has.
use Rattle.std.proofs.Common.{◌≡◌, Some, ap, sym, ◌∙◌, arith}
use Rattle.packet_header.specs.declared.decoding.AnyKind.TheVariants.{OfMessage}
use Rattle.packet_header.specs.Reading.{message_at}
use Rattle.packet_header.proofs.Readings.{message_of-spells, message_of-some}
use Rattle.packet_header.proofs.decoding.message_header.Goals as goal

pub bounds-bytes-1 : goal.bounds-bytes-1
bounds-bytes-1 c =
    let has = message_of-some c.args.bytes.now c.requires.message in
    omega (arith, has.2.whole)

pub message_at-requires : goal.message_at-requires
message_at-requires c =
    let has = message_of-some c.args.bytes.now c.requires.message in
    has.2.whole

pub unreachable-requires : goal.unreachable-requires
unreachable-requires c =
    let has = message_of-some c.args.bytes.now c.requires.message in
    let kind = c.kind_of.ensures ∙ has.2.kind in
    cc

pub unreachable-requires-in-None : goal.unreachable-requires-in-None
unreachable-requires-in-None c =
    let has = message_of-some c.args.bytes.now c.requires.message in
    let kind = c.kind_of.ensures ∙ has.2.kind in
    cc

pub returns-clause-header : goal.returns-clause-header
returns-clause-header c =
    let has = message_of-some c.args.bytes.now c.requires.message in
    let read : Some (OfMessage c.in-Some-OfMessage.kind) ≡ Some (OfMessage (has.0).kind) =
    ap (λ x. Some x) (sym c.in-Some-OfMessage.field-0-is) ∙ sym c.in-Some-OfMessage.is
    ∙ c.kind_of.ensures ∙ has.2.kind in
    let same : c.in-Some-OfMessage.kind ≡ (has.0).kind = cc in
    has.1 ∙ ap (λ x. Some x) (sym (c.message_at.ensures
    ∙ ap (λ kind. message_at kind c.args.bytes.now) same ∙ has.2.fields))

pub returns-clause-spelled : goal.returns-clause-spelled
returns-clause-spelled c = message_of-spells _ c.args.bytes.now (returns-clause-header c)
