-- A packet has one header.
use Rattle.std.proofs.Common.{◌≡◌, ℕ, Bool, List, ◌∙◌, subst, sym}
use Rattle.std.specs.Prelude.{◌↔◌, IsTrue}
use Rattle.std.specs.Str.{bytes_eq}
use Rattle.std.proofs.lemmas.Slice.Eq.{bytes_eq-Decides}
use Rattle.packet_header.specs.declared.packet.Packet.{Packet}
use Rattle.packet_header.specs.Laws.{IsHeadOf}
use Rattle.packet_header.proofs.Heads.{one_head}

pub head-is : (p : Packet) (told head : List ℕ) (b : Bool) → IsHeadOf p head → b ≡ bytes_eq told head
    → IsTrue b ↔ IsHeadOf p told
head-is p told head b h e = (
  λ yes. subst (λ (xs : List ℕ). IsHeadOf p xs) (sym ((bytes_eq-Decides told head).0 (sym e ∙ yes))) h,
  λ k. e ∙ (bytes_eq-Decides told head).1 (one_head p told head k.0 h.0 k.1 h.1 k.2 h.2),
)
