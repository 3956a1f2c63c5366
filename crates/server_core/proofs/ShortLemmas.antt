-- A short answer of a type that is handled inline needs no memory: why a packet that was dropped for
-- want of it isn't the last one of a request with such an answer.
use Rattle.std.proofs.Common.{◌≡◌, ℕ, ◌+◌, ◌<◌, ◌≤◌, true, false, List, length, arith}
use Rattle.std.proofs.lemmas.Bool.{and_parts, eqb-true, false_from_ne_true}
use Rattle.packet_header.specs.Parts.{packet_count}
use Rattle.packet_header.specs.declared.packet.MessageHeader.{MessageHeader}
use Rattle.rpc_laws.specs.ServerTable.{is_last}
use Rattle.rpc_laws.specs.Service.{is_mode_background}
use Rattle.rpc_outside.specs.Served.{Served, StandsForSome}
use Rattle.rpc_outside.specs.declared.service.Mode.{Mode}
use Rattle.rpc_outside.specs.declared.service.Mode.TheVariants.{Inline}

-- more packets are to come
pub more-come : (h : MessageHeader) → h.number + 1 < packet_count h.size → is_last h ≡ true → ⊥
more-come h more last =
    let same = eqb-true (h.number + 1) (packet_count h.size) ((and_parts _ _ last).1) in
    absurd (omega (arith, same, more))

pub not-last : (h : MessageHeader) → h.number + 1 < packet_count h.size → is_last h ≡ false
not-last h more = false_from_ne_true (is_last h) (more-come h more)

-- a worker handles it
pub is-given : (mode : Mode) → is_mode_background mode ≡ true → mode ≡ Inline → ⊥
is-given mode given is = let clash = rw is at given in cc

-- its answer is longer than a part
pub is-long : (answer : Served → ℕ → List ℕ → List ℕ) (stands : Served → Type 0) (req_type : ℕ)
    (ask : List ℕ) (size : ℕ) → StandsForSome stands
    → ((served : Served) → stands served → length (answer served req_type ask) ≡ size) → 1024 < size
    → ((served : Served) → stands served → length (answer served req_type ask) ≤ 1024) → ⊥
is-long answer stands req_type ask size founded room long fits =
    let (served, stand) = founded in
    absurd (omega (arith, room served stand, fits served stand, long))
