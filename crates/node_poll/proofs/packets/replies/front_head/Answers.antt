use Rattle.std.proofs.Common.{◌≡◌, ◌+◌, None, length, refl, sym, subst, ap, ◌∙◌, arith}
use Rattle.rpc_base.specs.declared.limits.TheConstants.{HEAD_BYTES}
use Rattle.node_steps.proofs.PacketSteps.{packet-there}
use Rattle.std.specs.Option.{option_copied}
use Rattle.packet_header.specs.Header.{MessageLength}
use Rattle.packet_header.specs.Reading.{message_of}
use Rattle.rpc_laws.specs.Front.{front_body}
use Rattle.std.proofs.lemmas.List.{length-drop}
use Rattle.node_steps.proofs.PacketReplies.{body-there, front-reads, head-there, none-front}
use Rattle.node_poll.proofs.packets.replies.front_head.Goals as goal

pub returns-in_default-clause-value : goal.returns-in_default-clause-value
returns-in_default-clause-value c =
    rw (← c.node.view_is) (sym (none-front c.node.inside.rx.items
    (sym c.front.ensures ∙ ap option_copied c.in_default.is)))

pub message_header-requires : goal.message_header-requires
message_header-requires c =
    let here = sym c.front.ensures ∙ ap option_copied c.in-Some.is in
    record {
      message = rw c.bytes.ensures.bytes (front-reads c.node.inside.rx.items c.in-Some.front.now here
          c.node.invariant.0.kept.reads);
    }

pub returns-clause-value : goal.returns-clause-value
returns-clause-value c =
    let here = sym c.front.ensures ∙ ap option_copied c.in-Some.is in
    rw (← c.node.view_is) (sym c.message_header.ensures.header ∙ ap message_of c.bytes.ensures.bytes
    ∙ sym (head-there c.node.inside.rx.items c.in-Some.front.now here))

pub returns-clause-long : goal.returns-clause-long
returns-clause-long c =
    let here = sym c.front.ensures ∙ ap option_copied c.in-Some.is in
    let m = c.message_header.result in
    let body = body-there c.node.inside.rx.items c.in-Some.front.now here in
    let same : length c.bytes.result.now ≡ HEAD_BYTES + length (front_body c.args.node.now.lists.ring) =
    rw (← c.node.view_is, body, c.bytes.ensures.bytes) (omega (
      arith,
      length-drop HEAD_BYTES c.in-Some.front.now.bytes,
      rw c.bytes.ensures.bytes at c.message_header.ensures.spelled.head.whole,
    )) in
    subst (λ n. MessageLength m.kind m.size m.number n) same c.message_header.ensures.spelled.long

pub returns-in_default-clause-there : goal.returns-in_default-clause-there
returns-in_default-clause-there c = λ some none.
    packet-there c.args.node.now.lists.ring None (returns-in_default-clause-value c) refl some
    (rw (← c.node.view_is) c.node.invariant.0.kept.reads)
