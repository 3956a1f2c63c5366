-- A kind and the byte that stands for it.
use Rattle.std.proofs.Common.{◌≡◌, ◌<◌, ℕ, ◌==◌, Bool, true, false, if◌then◌else◌, Option, Some, None, refl, arith}
use Rattle.std.proofs.lemmas.Bool.{eqb-true}
use Rattle.std.proofs.lemmas.Bool.Decides.{nat_tests}
use Rattle.packet_header.specs.declared.packet.Kind.{Kind}
use Rattle.packet_header.specs.declared.packet.Kind.TheVariants.{Request, Rfr, Cr, Response}
use Rattle.packet_header.specs.declared.packet.ControlKind.{ControlKind}
use Rattle.packet_header.specs.declared.packet.ControlKind.TheVariants.{ConnectRequest}
use Rattle.packet_header.specs.declared.packet.ControlKind.TheVariants.{ConnectReply}
use Rattle.packet_header.specs.declared.packet.ControlKind.TheVariants.{DisconnectRequest}
use Rattle.packet_header.specs.declared.packet.ControlKind.TheVariants.{DisconnectReply}
use Rattle.packet_header.specs.declared.decoding.AnyKind.{AnyKind}
use Rattle.packet_header.specs.declared.decoding.AnyKind.TheVariants.{OfMessage, OfControl}
use Rattle.packet_header.specs.Header.{kind_code, control_code}
use Rattle.packet_header.specs.Reading.{kind_of}

pub kind_of-message : (kind : Kind) → kind_of (kind_code kind) ≡ Some (OfMessage kind)
unfolding kind_of
kind_of-message Request = refl
kind_of-message Rfr = refl
kind_of-message Cr = refl
kind_of-message Response = refl

pub kind_of-control : (kind : ControlKind) → kind_of (control_code kind) ≡ Some (OfControl kind)
unfolding kind_of
kind_of-control ConnectRequest = refl
kind_of-control ConnectReply = refl
kind_of-control DisconnectRequest = refl
kind_of-control DisconnectReply = refl

-- the byte of either sort of kind
abbrev pub any_code : AnyKind → ℕ
any_code (OfMessage kind) = kind_code kind
any_code (OfControl kind) = control_code kind

-- what a byte of no kind is, and what one of a kind is
abbrev pub IsKindOf : ℕ → Option AnyKind → Type 0
IsKindOf byte None = 7 < byte
IsKindOf byte (Some kind) = byte ≡ any_code kind

none_of : (byte : ℕ) → (byte == 0) ≡ false → (byte == 1) ≡ false → (byte == 2) ≡ false
    → (byte == 3) ≡ false → (byte == 4) ≡ false → (byte == 5) ≡ false → (byte == 6) ≡ false
    → (byte == 7) ≡ false → 7 < byte
none_of byte p0 p1 p2 p3 p4 p5 p6 p7 = grind (arith, nat_tests)

-- the chain of tests, by what each of them gives
chain : (byte : ℕ) (a b c d e f g h : Bool) → (byte == 0) ≡ a → (byte == 1) ≡ b → (byte == 2) ≡ c
    → (byte == 3) ≡ d → (byte == 4) ≡ e → (byte == 5) ≡ f → (byte == 6) ≡ g → (byte == 7) ≡ h →
    IsKindOf byte (if a then Some (OfMessage Request)
    else (if b then Some (OfMessage Rfr) else (if c then Some (OfMessage Cr)
    else (if d then Some (OfMessage Response)
    else (if e then Some (OfControl ConnectRequest)
    else (if f then Some (OfControl ConnectReply)
    else (if g then Some (OfControl DisconnectRequest)
    else (if h then Some (OfControl DisconnectReply) else (None)))))))))
chain byte true b c d e f g h p0 p1 p2 p3 p4 p5 p6 p7 = eqb-true byte 0 p0
chain byte false true c d e f g h p0 p1 p2 p3 p4 p5 p6 p7 = eqb-true byte 1 p1
chain byte false false true d e f g h p0 p1 p2 p3 p4 p5 p6 p7 = eqb-true byte 2 p2
chain byte false false false true e f g h p0 p1 p2 p3 p4 p5 p6 p7 = eqb-true byte 3 p3
chain byte false false false false true f g h p0 p1 p2 p3 p4 p5 p6 p7 = eqb-true byte 4 p4
chain byte false false false false false true g h p0 p1 p2 p3 p4 p5 p6 p7 = eqb-true byte 5 p5
chain byte false false false false false false true h p0 p1 p2 p3 p4 p5 p6 p7 = eqb-true byte 6 p6
chain byte false false false false false false false true p0 p1 p2 p3 p4 p5 p6 p7 = eqb-true byte 7 p7
chain byte false false false false false false false false p0 p1 p2 p3 p4 p5 p6 p7 =
    none_of byte p0 p1 p2 p3 p4 p5 p6 p7

pub kind_of-byte : (byte : ℕ) → IsKindOf byte (kind_of byte)
unfolding kind_of
kind_of-byte byte = chain byte _ _ _ _ _ _ _ _ refl refl refl refl refl refl refl refl

message_code : (kind : Kind) → 7 < kind_code kind → ⊥
message_code Request h = omega arith
message_code Rfr h = omega arith
message_code Cr h = omega arith
message_code Response h = omega arith

session_code : (kind : ControlKind) → 7 < control_code kind → ⊥
session_code ConnectRequest h = omega arith
session_code ConnectReply h = omega arith
session_code DisconnectRequest h = omega arith
session_code DisconnectReply h = omega arith

no_kind : (byte : ℕ) (kind : Option AnyKind) → IsKindOf byte kind → 7 < byte → kind ≡ None
no_kind byte None h above = refl
no_kind byte (Some (OfMessage kind)) h above = absurd (message_code kind (rw h at above))
no_kind byte (Some (OfControl kind)) h above = absurd (session_code kind (rw h at above))

pub kind_of-none : (byte : ℕ) → 7 < byte → kind_of byte ≡ None
kind_of-none byte above = no_kind byte (kind_of byte) (kind_of-byte byte) above
