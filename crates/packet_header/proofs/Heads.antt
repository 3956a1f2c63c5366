-- Heads: two of one packet are equal, and what follows a head changes nothing of it.
use Rattle.rpc_base.specs.declared.limits.TheConstants.{HEAD_BYTES}
use Rattle.packet_header.specs.declared.layout.TheConstants.{TO_LIFE}
use Rattle.std.proofs.Common.{◌≡◌, ◌≤◌, ◌<◌, ◌+◌, ◌*◌, ◌^◌, ◌∙◌, ℕ, zero, suc, List, [], ◌∷◌, ◌++◌}
use Rattle.std.proofs.Common.{length, drop, slice_index, sym, ap, arith, Ok, length-append}
use Rattle.std.proofs.Math.ListN.{get_or-append, drop_of_length-le}
use Rattle.std.proofs.Math.Nat.{add-mul, mul-le-mul_right}
use Rattle.std.proofs.lemmas.List.{drop-append-le, drop-drop, drop_more, length-drop}
use Rattle.byteorder.specs.Numbers.{big_from-append, big_from-cons, big_from-lt}
use Rattle.byteorder.specs.Endian.{big_number, big_from}
use Rattle.packet_header.specs.declared.packet.MessageHeader.{MessageHeader}
use Rattle.packet_header.specs.declared.packet.ControlHeader.{ControlHeader}
use Rattle.packet_header.specs.declared.packet.Packet.{Packet}
use Rattle.packet_header.specs.declared.packet.Packet.TheVariants.{Message, Control}
use Rattle.packet_header.specs.Header.{AreBytes, HasControlHead, HasHead, HasLength, HasMessageHead}
use Rattle.packet_header.specs.Header.{InRange, Spells, number_at}
use Rattle.packet_header.specs.Reading.{body_of, decoded}
use Rattle.packet_header.proofs.Bytes.{bytes-drop}
use Rattle.packet_header.proofs.Readings.{spells-decoded}

number-append : (i n : ℕ) (head body : List ℕ) → i + n ≤ length head
    → number_at i n (head ++ body) ≡ number_at i n head
number-append i n head body h =
    ap (big_number n) (drop-append-le i head body (omega arith))
    ∙ big_from-append n (drop i head) body (omega (arith, length-drop i head))

message_head-append : (m : MessageHeader) (head body : List ℕ) → HasMessageHead m head
    → HasMessageHead m (head ++ body)
message_head-append m head body h =
    let whole = h.whole in
    record {
      whole = omega (arith, length-append head body);
      magic = get_or-append head body 0 0 (omega arith) ∙ h.magic;
      kind = get_or-append head body 0 1 (omega arith) ∙ h.kind;
      req_type = get_or-append head body 0 2 (omega arith) ∙ h.req_type;
      size = number-append 3 3 head body (omega arith) ∙ h.size;
      session = number-append 6 2 head body (omega arith) ∙ h.session;
      number = number-append 8 2 head body (omega arith) ∙ h.number;
      request = number-append 10 6 head body (omega arith) ∙ h.request;
      to_life = number-append TO_LIFE 4 head body (omega arith) ∙ h.to_life;
    }

control_head-append : (c : ControlHeader) (head body : List ℕ) → HasControlHead c head
    → HasControlHead c (head ++ body)
control_head-append c head body h =
    let whole = h.whole in
    record {
      whole = omega (arith, length-append head body);
      magic = get_or-append head body 0 0 (omega arith) ∙ h.magic;
      kind = get_or-append head body 0 1 (omega arith) ∙ h.kind;
      client = number-append 2 2 head body (omega arith) ∙ h.client;
      server = number-append 4 2 head body (omega arith) ∙ h.server;
      credits = number-append 6 2 head body (omega arith) ∙ h.credits;
      status = get_or-append head body 0 8 (omega arith) ∙ h.status;
      from_life = number-append 9 4 head body (omega arith) ∙ h.from_life;
      padding = number-append 13 3 head body (omega arith) ∙ h.padding;
      to_life = number-append TO_LIFE 4 head body (omega arith) ∙ h.to_life;
    }

head-append : (p : Packet) (head body : List ℕ) → HasHead p head → HasHead p (head ++ body)
head-append (Message m) head body h = message_head-append m head body h
head-append (Control c) head body h = control_head-append c head body h

long-append : (p : Packet) (head body : List ℕ) → length head ≡ HEAD_BYTES → HasLength p (HEAD_BYTES + length body)
    → HasLength p (length (head ++ body))
long-append p head body h long =
    let e : length (head ++ body) ≡ HEAD_BYTES + length body = omega (arith, length-append head body) in
    rw e long

-- a head of a packet in range and a body of a length for it are a datagram of this packet
pub spells-append : (p : Packet) (head body : List ℕ) → InRange p → HasHead p head
    → length head ≡ HEAD_BYTES → HasLength p (HEAD_BYTES + length body) → Spells p (head ++ body)
spells-append p head body range h twenty long =
    record { head = head-append p head body h; in_range = range; long = long-append p head body twenty long }

-- such a datagram is read as this packet
pub decoded-append : (p : Packet) (head body : List ℕ) → InRange p → HasHead p head
    → length head ≡ HEAD_BYTES → HasLength p (HEAD_BYTES + length body) → decoded (head ++ body) ≡ Ok p
decoded-append p head body range h twenty long =
    spells-decoded p (head ++ body) (spells-append p head body range h twenty long)

pub body_of-append : (head body : List ℕ) → length head ≡ HEAD_BYTES → body_of (head ++ body) ≡ body
body_of-append head body h =
    drop-append-le HEAD_BYTES head body (omega arith)
    ∙ ap (λ front. front ++ body) (drop_of_length-le head {i = HEAD_BYTES} (omega arith))

-- the first digits of equal numbers are equal
less : (x y p r s : ℕ) → x * p + r ≡ y * p + s → r < p → s < p → x < y → ⊥
less x y p r s e f g h =
    let top : (x + 1) * p ≤ y * p = mul-le-mul_right p (omega arith) in
    let expand = add-mul x 1 p in
    omega arith

first_same : (x y p r s : ℕ) → x * p + r ≡ y * p + s → r < p → s < p → x ≡ y
first_same x y p r s e f g =
    let below : x < y → ⊥ = less x y p r s e f g in
    let above : y < x → ⊥ = less y x p s r (sym e) g f in
    omega arith

second_same : (x y p r s : ℕ) → x * p + r ≡ y * p + s → x ≡ y → r ≡ s
second_same x y p r s e same = let f = rw same at e in omega arith

-- two lists that go on alike and begin with the same number are equal
same_front : (n : ℕ) (xs ys : List ℕ) → AreBytes xs → AreBytes ys → n ≤ length xs → n ≤ length ys
    → big_number n xs ≡ big_number n ys → drop n xs ≡ drop n ys → xs ≡ ys
same_front zero xs ys f g h k e d = d
same_front (suc n) [] ys f g h k e d = absurd (omega arith)
same_front (suc n) (x ∷ xs) [] f g h k e d = absurd (omega arith)
same_front (suc n) (x ∷ xs) (y ∷ ys) f g h k e d =
    let after_x = big_from-cons 0 n x xs in
    let after_y = big_from-cons 0 n y ys in
    let below_x = big_from-lt 1 n (x ∷ xs) f in
    let below_y = big_from-lt 1 n (y ∷ ys) g in
    let first = first_same x y (256 ^ n) (big_from 1 n (x ∷ xs)) (big_from 1 n (y ∷ ys)) e below_x below_y in
    let same : big_from 1 n (x ∷ xs) ≡ big_from 1 n (y ∷ ys) = second_same x y (256 ^ n) _ _ e first in
    let after = same_front n xs ys (λ k. f (suc k)) (λ k. g (suc k)) (omega arith) (omega arith)
    (sym after_x ∙ same ∙ after_y) d in
    cc

-- the same of what stands at an offset
same_at : (i n : ℕ) (a b : List ℕ) → AreBytes a → AreBytes b → i + n ≤ length a → i + n ≤ length b
    → number_at i n a ≡ number_at i n b → drop (i + n) a ≡ drop (i + n) b → drop i a ≡ drop i b
same_at i n a b f g h k e d =
    same_front n (drop i a) (drop i b) (bytes-drop i a f) (bytes-drop i b g)
    (omega (arith, length-drop i a)) (omega (arith, length-drop i b)) e
    (drop-drop n i a ∙ d ∙ sym (drop-drop n i b))

byte_at : (i : ℕ) (a b : List ℕ) → i < length a → i < length b → slice_index a i ≡ slice_index b i
    → drop (i + 1) a ≡ drop (i + 1) b → drop i a ≡ drop i b
byte_at i a b h k e d =
    drop_more a i 0 h ∙ (rw (e, d) (sym (drop_more b i 0 k)))

message-one_head : (m : MessageHeader) (a b : List ℕ) → AreBytes a → AreBytes b → length a ≡ HEAD_BYTES
    → length b ≡ HEAD_BYTES → HasMessageHead m a → HasMessageHead m b → a ≡ b
message-one_head m a b f g la lb h k =
    let end : drop HEAD_BYTES a ≡ drop HEAD_BYTES b =
    drop_of_length-le a {i = HEAD_BYTES} (omega arith)
    ∙ sym (drop_of_length-le b {i = HEAD_BYTES} (omega arith)) in
    let to_life = same_at TO_LIFE 4 a b f g (omega arith) (omega arith) (h.to_life ∙ sym k.to_life) end in
    let request = same_at 10 6 a b f g (omega arith) (omega arith) (h.request ∙ sym k.request) to_life in
    let number = same_at 8 2 a b f g (omega arith) (omega arith) (h.number ∙ sym k.number) request in
    let session = same_at 6 2 a b f g (omega arith) (omega arith) (h.session ∙ sym k.session) number in
    let size = same_at 3 3 a b f g (omega arith) (omega arith) (h.size ∙ sym k.size) session in
    let req_type = byte_at 2 a b (omega arith) (omega arith) (h.req_type ∙ sym k.req_type) size in
    let kind = byte_at 1 a b (omega arith) (omega arith) (h.kind ∙ sym k.kind) req_type in
    byte_at 0 a b (omega arith) (omega arith) (h.magic ∙ sym k.magic) kind

control-one_head : (c : ControlHeader) (a b : List ℕ) → AreBytes a → AreBytes b → length a ≡ HEAD_BYTES
    → length b ≡ HEAD_BYTES → HasControlHead c a → HasControlHead c b → a ≡ b
control-one_head c a b f g la lb h k =
    let end : drop HEAD_BYTES a ≡ drop HEAD_BYTES b =
    drop_of_length-le a {i = HEAD_BYTES} (omega arith)
    ∙ sym (drop_of_length-le b {i = HEAD_BYTES} (omega arith)) in
    let to_life = same_at TO_LIFE 4 a b f g (omega arith) (omega arith) (h.to_life ∙ sym k.to_life) end in
    let padding = same_at 13 3 a b f g (omega arith) (omega arith) (h.padding ∙ sym k.padding) to_life in
    let from_life = same_at 9 4 a b f g (omega arith) (omega arith) (h.from_life ∙ sym k.from_life) padding in
    let status = byte_at 8 a b (omega arith) (omega arith) (h.status ∙ sym k.status) from_life in
    let credits = same_at 6 2 a b f g (omega arith) (omega arith) (h.credits ∙ sym k.credits) status in
    let server = same_at 4 2 a b f g (omega arith) (omega arith) (h.server ∙ sym k.server) credits in
    let client = same_at 2 2 a b f g (omega arith) (omega arith) (h.client ∙ sym k.client) server in
    let kind = byte_at 1 a b (omega arith) (omega arith) (h.kind ∙ sym k.kind) client in
    byte_at 0 a b (omega arith) (omega arith) (h.magic ∙ sym k.magic) kind

-- a packet has one head
pub one_head : (p : Packet) (a b : List ℕ) → AreBytes a → AreBytes b → length a ≡ HEAD_BYTES → length b ≡ HEAD_BYTES
    → HasHead p a → HasHead p b → a ≡ b
one_head (Message m) a b f g la lb h k = message-one_head m a b f g la lb h k
one_head (Control c) a b f g la lb h k = control-one_head c a b f g la lb h k
