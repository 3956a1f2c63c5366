use Rattle.std.proofs.Common.{List, ℕ, subst, sym, ◌∙◌}
use Rattle.packet_header.specs.declared.packet.Packet.TheVariants.{Control as ControlPacket}
use Rattle.rule_facts.specs.Heads.{IsSpelled}
use Rattle.rule_facts.proofs.SpeakingLemmas.{speaks-one, spoken-alone}
use Rattle.rule_facts.proofs.speaking.hands.Goals as goal

pub returns : goal.returns
returns c =
    let h = c.args.head.now in
    let f = c.args.fact.now in
    let says = sym c.says_handed.ensures ∙ c.if-not-says_handed.false in (
      (λ yes. speaks-one c.args.me c.args.peer h f says
          (subst (λ (z : List ℕ). IsSpelled (ControlPacket h) z) c.bytes.ensures (c.is_control_head.ensures.0 yes))),
      (λ s. c.is_control_head.ensures.1 (subst (λ (z : List ℕ). IsSpelled (ControlPacket h) z) (sym c.bytes.ensures)
          (spoken-alone c.args.me c.args.peer h f s).spelled)),
    )
