-- What is taken out of a datagram is what was put in.
use Rattle.std.proofs.Common.{◌≡◌, ◌≤◌, ℕ, List, [], ◌∷◌, ◌++◌, length, drop}
use Rattle.std.proofs.Common.{refl, sym, ◌∙◌, ap, arith, ◌-◌, ◌*◌, inl, inr}
use Rattle.std.proofs.Math.Nat.{min-le_left}
use Rattle.std.proofs.lemmas.Bool.{le-leb}
use Rattle.std.proofs.lemmas.List.Elements.{All-head, All-weaker}
use Rattle.std.specs.List.{All}
use Rattle.packet_header.specs.declared.packet.Packet.TheVariants.{Message, Control}
use Rattle.packet_header.specs.declared.packet.Kind.TheVariants.{Request, Rfr, Cr, Response}
use Rattle.packet_header.specs.declared.packet.Kind.{Kind}
use Rattle.packet_header.specs.Header.{MessageLength}
use Rattle.packet_header.specs.Parts.{part_size, tail}
use Rattle.packet_header.proofs.PartsLemmas.{packet_count_room, packet_count_above}
use Rattle.packet_frames.specs.declared.sizes.TheConstants.{FRAME_BYTE}
use Rattle.packet_frames.specs.Frames.{IsPacket, item, items, packets_in, packets_of}
use Rattle.packet_frames.specs.Laws.{ReadsBack, OneListOnly, TakesEachPacket}
use Rattle.packet_frames.proofs.RowLemmas.{IsShort, first_packets-short, items-push, length_items}
use Rattle.packet_frames.proofs.RowLemmas.{packets_of-items, packets_of-push}

-- the packets of a frame's bytes with one packet more
pub packets_of_pushed : (bytes p : List ℕ)
    → bytes ≡ FRAME_BYTE ∷ items (packets_of (drop 1 bytes)) → IsShort p
    → packets_of (drop 1 (bytes ++ item p)) ≡ packets_of (drop 1 bytes) ++ p ∷ []
packets_of_pushed bytes p e short =
    packets_of-push bytes p (packets_of (drop 1 bytes))
    (first_packets-short (length (drop 1 bytes)) (drop 1 bytes)) short e

-- they are still a frame's bytes
pub frame_pushed : (bytes p : List ℕ)
    → bytes ≡ FRAME_BYTE ∷ items (packets_of (drop 1 bytes)) → IsShort p
    → bytes ++ item p ≡ FRAME_BYTE ∷ items (packets_of (drop 1 (bytes ++ item p)))
frame_pushed bytes p e short =
    ap (λ bs. bs ++ item p) e
    ∙ (ap (λ row. FRAME_BYTE ∷ row) (items-push (packets_of (drop 1 bytes)) p)
    ∙ ap (λ ps. FRAME_BYTE ∷ items ps) (sym (packets_of_pushed bytes p e short)))

-- the same of bytes that are said to be these
pub packets_after : (bytes p new : List ℕ)
    → bytes ≡ FRAME_BYTE ∷ items (packets_of (drop 1 bytes)) → IsShort p
    → new ≡ bytes ++ item p → packets_of (drop 1 new) ≡ packets_of (drop 1 bytes) ++ p ∷ []
packets_after bytes p new e short is =
    ap (λ xs. packets_of (drop 1 xs)) is ∙ packets_of_pushed bytes p e short

pub frame_after : (bytes p new : List ℕ)
    → bytes ≡ FRAME_BYTE ∷ items (packets_of (drop 1 bytes)) → IsShort p
    → new ≡ bytes ++ item p → new ≡ FRAME_BYTE ∷ items (packets_of (drop 1 new))
frame_after bytes p new e short is =
    is ∙ (frame_pushed bytes p e short
    ∙ ap (λ xs. FRAME_BYTE ∷ items (packets_of (drop 1 xs))) (sym is))

-- a frame has fewer packets than bytes
pub count_most : (bytes : List ℕ) (count : ℕ)
    → bytes ≡ FRAME_BYTE ∷ items (packets_of (drop 1 bytes))
    → count ≡ length (packets_of (drop 1 bytes)) → length bytes ≤ 65507 → count ≤ 65507
count_most bytes count e c h =
    omega (arith, ap length e, length_items (packets_of (drop 1 bytes)), c, h)

all-short : (ps : List (List ℕ)) → All IsPacket ps → All IsShort ps
all-short ps h = All-weaker IsPacket IsShort (λ p is. is.short) ps h

-- a packet alone
bare-back : (p : List ℕ) → IsPacket p → packets_in p ≡ p ∷ []
bare-back [] h = absurd (omega (arith, h.begins))
bare-back (x ∷ p) h =
    rw (h.begins) (rw (le-leb 1 (length (x ∷ p)) (omega arith))
    (rw (le-leb (length (x ∷ p)) 2048 h.short) refl))

pub reads_back : ReadsBack
reads_back [] h = refl
reads_back (p ∷ []) h = bare-back p (All-head IsPacket p [] h)
reads_back (p ∷ q ∷ ps) h = packets_of-items (p ∷ q ∷ ps) (all-short (p ∷ q ∷ ps) h)

pub one_list_only : OneListOnly
one_list_only ps qs h k e = sym (reads_back ps h) ∙ (ap packets_in e ∙ reads_back qs k)

tail-most : (n : ℕ) → tail n ≤ 1024
tail-most n = omega (arith, packet_count_room n, packet_count_above n)

part-most : (n k : ℕ) → part_size n k ≤ 1024
part-most n k = min-le_left 1024 (n - 1024 * k)

short-message : (kind : Kind) (size number n : ℕ) → MessageLength kind size number n → n ≤ 2048
short-message Request size number n h = omega (arith, h, part-most size number)
short-message Rfr size number n h = omega (arith, h)
short-message Cr size number n h = omega (arith, h)
short-message Response size number n (inl h) = omega (arith, h, tail-most size)
short-message Response size number n (inr h) = omega (arith, h.1)

pub takes_each_packet : TakesEachPacket
takes_each_packet (Message m) bytes s = record {
  begins = s.head.magic;
  short = short-message m.kind m.size m.number (length bytes) s.long;
}
takes_each_packet (Control c) bytes s = record {
  begins = s.head.magic;
  short = omega (arith, s.long);
}
