-- The three numbers have the bytes of the fields in turn.
use Rattle.std.proofs.Common.{◌∙◌, ap, arith, unwrap_or}
use Rattle.packet_header.specs.declared.packet.ControlHeader.{ControlHeader}
use Rattle.packet_header.specs.Header.{control_code}
use Rattle.packet_header.proofs.HeadNumbers.{control-written}
use Rattle.packet_header.proofs.encoding.write_control.Goals as goal

pub returns : goal.returns
returns c =
    let same = c.header.view_is in
    let kind = ap (λ (h : ControlHeader). control_code h.kind) same in
    let client = ap (λ (h : ControlHeader). h.client) same in
    let server = ap (λ (h : ControlHeader). unwrap_or h.server 65535) same in
    let credits = ap (λ (h : ControlHeader). h.credits) same in
    let status = ap (λ (h : ControlHeader). h.status) same in
    let from_life = ap (λ (h : ControlHeader). h.from_life) same in
    let to_life = ap (λ (h : ControlHeader). unwrap_or h.to_life 0) same in
    control-written c.args.header.now _ _ _ _ c.requires c.write_numbers.ensures
    (omega (arith, c.control_code.ensures, kind, client, c.server_number.ensures, server, credits))
    (omega (arith, status, from_life)) (c.life_number.ensures ∙ to_life)
