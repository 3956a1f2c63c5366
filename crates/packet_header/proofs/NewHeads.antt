-- Each packet in range has a head.
use Rattle.packet_header.specs.declared.layout.TheConstants.{MAGIC}
use Rattle.std.proofs.Common.{◌≡◌, ◌<◌, ◌/◌, ◌^◌, ℕ, zero, suc, List, [], ◌∷◌, ◌++◌, unwrap_or}
use Rattle.std.proofs.Common.{Bool, true, false, Option, Some, None, ◌⊎◌, refl, arith}
use Rattle.std.proofs.Math.Nat.{mod-lt}
use Rattle.std.specs.Int.{byte_at, bytes_high_first}
use Rattle.byteorder.specs.Numbers.{big_number-reads_back}
use Rattle.byteorder.specs.Endian.{big_bytes}
use Rattle.packet_header.specs.declared.packet.Kind.{Kind}
use Rattle.packet_header.specs.declared.packet.Kind.TheVariants.{Request, Rfr, Cr, Response}
use Rattle.packet_header.specs.declared.packet.ControlKind.{ControlKind}
use Rattle.packet_header.specs.declared.packet.ControlKind.TheVariants.{ConnectRequest}
use Rattle.packet_header.specs.declared.packet.ControlKind.TheVariants.{ConnectReply}
use Rattle.packet_header.specs.declared.packet.ControlKind.TheVariants.{DisconnectRequest}
use Rattle.packet_header.specs.declared.packet.ControlKind.TheVariants.{DisconnectReply}
use Rattle.packet_header.specs.declared.packet.MessageHeader.{MessageHeader}
use Rattle.packet_header.specs.declared.packet.ControlHeader.{ControlHeader}
use Rattle.packet_header.specs.declared.packet.Packet.{Packet}
use Rattle.packet_header.specs.declared.packet.Packet.TheVariants.{Message, Control}
use Rattle.packet_header.specs.Ranges.{Within, message_row, control_row}
use Rattle.packet_header.specs.Header.{AreBytes, ControlInRange, InRange, IsLife, IsServer, MessageInRange}
use Rattle.packet_header.specs.Header.{control_code, kind_code}
use Rattle.packet_header.specs.Laws.{HasOneHead, IsHeadOf, RequestFits}
use Rattle.packet_header.proofs.Heads.{one_head}

bytes_none : AreBytes []
bytes_none k = omega arith

bytes-cons : (x : ℕ) (xs : List ℕ) → x < 256 → AreBytes xs → AreBytes (x ∷ xs)
bytes-cons x xs h all zero = h
bytes-cons x xs h all (suc k) = all k

bytes-append : (xs ys : List ℕ) → AreBytes xs → AreBytes ys → AreBytes (xs ++ ys)
bytes-append [] ys f g = g
bytes-append (x ∷ xs) ys f g = bytes-cons x (xs ++ ys) (f zero) (bytes-append xs ys (λ k. f (suc k)) g)

byte_below : (i x : ℕ) → byte_at i x < 256
byte_below zero x = mod-lt x (omega arith)
byte_below (suc i) x = mod-lt (x / 256 ^ suc i) (omega arith)

bytes_high : (n x : ℕ) → AreBytes (big_bytes n x)
bytes_high zero x = bytes_none
bytes_high (suc n) x = bytes-cons (byte_at n x) (bytes_high_first n x) (byte_below n x) (bytes_high n x)

pub message_fits : (kind : Kind) (req_type size number : ℕ)
    → Within (message_row kind size).types req_type → Within (message_row kind size).sizes size
    → Within (message_row kind size).numbers number → (req_type < 256) × (size < 256 ^ 3)
    × (number < 256 ^ 2)
message_fits Request req_type size number (f, f2) (g, g2) (h, h2) = (omega arith, omega arith, omega arith)
message_fits Rfr req_type size number (f, f2) (g, g2) (h, h2) = (omega arith, omega arith, omega arith)
message_fits Cr req_type size number (f, f2) (g, g2) (h, h2) = (omega arith, omega arith, omega arith)
message_fits Response req_type size number (f, f2) (g, g2) (h, h2) = (omega arith, omega arith, omega arith)

pub code_below : (kind : Kind) → kind_code kind < 256
code_below Request = omega arith
code_below Rfr = omega arith
code_below Cr = omega arith
code_below Response = omega arith

-- the fields in turn
abbrev message_head : MessageHeader → List ℕ
message_head m =
    MAGIC ∷ kind_code m.kind ∷ m.req_type ∷ (big_bytes 3 m.size
    ++ (big_bytes 2 m.session ++ (big_bytes 2 m.number
    ++ (big_bytes 6 m.request ++ big_bytes 4 m.to_life))))

message-bytes : (m : MessageHeader) → m.req_type < 256 → AreBytes (message_head m)
message-bytes m h =
    let request : List ℕ = big_bytes 6 m.request ++ big_bytes 4 m.to_life in
    let z = bytes-append (big_bytes 6 m.request) (big_bytes 4 m.to_life) (bytes_high 6 m.request)
    (bytes_high 4 m.to_life) in
    let number : List ℕ = big_bytes 2 m.number ++ request in
    let session : List ℕ = big_bytes 2 m.session ++ number in
    let size : List ℕ = big_bytes 3 m.size ++ session in
    let a = bytes-append (big_bytes 2 m.number) request (bytes_high 2 m.number) z in
    let b = bytes-append (big_bytes 2 m.session) number (bytes_high 2 m.session) a in
    let c = bytes-append (big_bytes 3 m.size) session (bytes_high 3 m.size) b in
    let d = bytes-cons m.req_type size h c in
    let e = bytes-cons (kind_code m.kind) (m.req_type ∷ size) (code_below m.kind) d in
    bytes-cons MAGIC (kind_code m.kind ∷ m.req_type ∷ size) (omega arith) e

pub message-made : (m : MessageHeader) → MessageInRange m → m.request < 2 ^ 48 → IsHeadOf (Message m) (message_head m)
message-made m range below =
    let (types, sizes, numbers) =
    message_fits m.kind m.req_type m.size m.number range.req_type range.size range.number in
    let (low, session) = range.session in
    let (some, to_life) = range.to_life in (
      message-bytes m types,
      refl,
      record {
        whole = omega arith;
        magic = refl;
        kind = refl;
        req_type = refl;
        size = big_number-reads_back 3 m.size [] sizes;
        session = big_number-reads_back 2 m.session [] (omega arith);
        number = big_number-reads_back 2 m.number [] numbers;
        request = big_number-reads_back 6 m.request (big_bytes 4 m.to_life) below;
        to_life = big_number-reads_back 4 m.to_life [] (omega arith);
      },
    )

pub control_fits : (kind : ControlKind) (credits status : ℕ)
    → Within (control_row kind status).credits credits → (status ≡ 0)
    ⊎ (status ≡ (control_row kind status).refusal) → (credits < 256 ^ 2) × (status < 256)
control_fits ConnectRequest credits status (f, g) h = (omega arith, omega arith)
control_fits ConnectReply credits status (f, g) h = (omega arith, omega arith)
control_fits DisconnectRequest credits status (f, g) h = (omega arith, omega arith)
control_fits DisconnectReply credits status (f, g) h = (omega arith, omega arith)

pub control_below : (kind : ControlKind) → control_code kind < 256
control_below ConnectRequest = omega arith
control_below ConnectReply = omega arith
control_below DisconnectRequest = omega arith
control_below DisconnectReply = omega arith

pub server_fits : (b : Bool) (server : Option ℕ) → IsServer b server → unwrap_or server 65535 < 256 ^ 2
server_fits true (Some server) (low, high) = omega arith
server_fits false None h = omega arith
server_fits true None h = absurd h
server_fits false (Some server) h = absurd h

-- the two lives with the zeros between them, and the fields in turn
abbrev life_bytes : ControlHeader → List ℕ
life_bytes c = big_bytes 4 c.from_life ++ (big_bytes 3 0 ++ big_bytes 4 (unwrap_or c.to_life 0))

abbrev control_head : ControlHeader → List ℕ
control_head c =
    MAGIC ∷ control_code c.kind ∷ (big_bytes 2 c.client
    ++ (big_bytes 2 (unwrap_or c.server 65535)
    ++ (big_bytes 2 c.credits ++ (c.status ∷ life_bytes c))))

life-bytes : (c : ControlHeader) → AreBytes (life_bytes c)
life-bytes c =
    let to_life : List ℕ = big_bytes 4 (unwrap_or c.to_life 0) in
    let zeros = bytes-append (big_bytes 3 0) to_life (bytes_high 3 0) (bytes_high 4 (unwrap_or c.to_life 0)) in
    bytes-append (big_bytes 4 c.from_life) (big_bytes 3 0 ++ to_life) (bytes_high 4 c.from_life) zeros

life_fits : (b : Bool) (life : Option ℕ) → IsLife b life → unwrap_or life 0 < 256 ^ 4
life_fits true (Some life) (low, high) = omega arith
life_fits false None h = omega arith
life_fits true None h = absurd h
life_fits false (Some life) h = absurd h

control-bytes : (c : ControlHeader) → c.status < 256 → AreBytes (control_head c)
control-bytes c h =
    let status : List ℕ = c.status ∷ life_bytes c in
    let credits : List ℕ = big_bytes 2 c.credits ++ status in
    let server : List ℕ = big_bytes 2 (unwrap_or c.server 65535) ++ credits in
    let client : List ℕ = big_bytes 2 c.client ++ server in
    let p = bytes-cons c.status (life_bytes c) h (life-bytes c) in
    let q = bytes-append (big_bytes 2 c.credits) status (bytes_high 2 c.credits) p in
    let r = bytes-append (big_bytes 2 (unwrap_or c.server 65535)) credits
    (bytes_high 2 (unwrap_or c.server 65535)) q in
    let s = bytes-append (big_bytes 2 c.client) server (bytes_high 2 c.client) r in
    let t = bytes-cons (control_code c.kind) client (control_below c.kind) s in
    bytes-cons MAGIC (control_code c.kind ∷ client) (omega arith) t

pub control-made : (c : ControlHeader) → ControlInRange c → IsHeadOf (Control c) (control_head c)
control-made c range =
    let (credits, status) = control_fits c.kind c.credits c.status range.credits range.status in
    let (low, client) = range.client in
    let (some, from_life) = range.from_life in
    let to_life : List ℕ = big_bytes 4 (unwrap_or c.to_life 0) in (
      control-bytes c status,
      refl,
      record {
        whole = omega arith;
        magic = refl;
        kind = refl;
        client = big_number-reads_back 2 c.client [] (omega arith);
        server = big_number-reads_back 2 (unwrap_or c.server 65535) [] (server_fits _ c.server range.server);
        credits = big_number-reads_back 2 c.credits [] credits;
        status = refl;
        from_life = big_number-reads_back 4 c.from_life (big_bytes 3 0 ++ to_life) (omega arith);
        padding = big_number-reads_back 3 0 to_life (omega arith);
        to_life = big_number-reads_back 4 (unwrap_or c.to_life 0) [] (life_fits _ c.to_life range.to_life);
      },
    )

one_of : (p : Packet) (head other : List ℕ) → IsHeadOf p head → IsHeadOf p other → other ≡ head
one_of p head other (all, long, h) (others, other_long, other_head) =
    one_head p other head others all other_long long other_head h

pub has_one_head : (p : Packet) → InRange p → RequestFits p → HasOneHead p
has_one_head (Message m) range fits =
    let made = message-made m range fits in
    (message_head m, made, λ other is. one_of (Message m) (message_head m) other made is)
has_one_head (Control c) range fits =
    let made = control-made c range in
    (control_head c, made, λ other is. one_of (Control c) (control_head c) other made is)
