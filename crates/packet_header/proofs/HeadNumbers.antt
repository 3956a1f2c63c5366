-- Headers that are given as numbers, each of which has the bytes of several fields.
use Rattle.packet_header.specs.declared.layout.TheConstants.{MAGIC}
use Rattle.std.proofs.Common.{◌≡◌, ◌<◌, ◌+◌, ◌*◌, ◌/◌, ◌%◌, ◌^◌, ◌∙◌, ℕ, zero, suc, List, [], ◌∷◌}
use Rattle.std.proofs.Common.{◌++◌, unwrap_or, refl, sym, ap, subst, arith}
use Rattle.std.proofs.Math.Nat.{div-div-eq-div-mul, div-one, mod-eq_of_lt, mul-add-div_right}
use Rattle.std.proofs.Math.Nat.{mul-add-mod_self_right, mul_assoc, one-le-pow, pow-succ'}
use Rattle.std.proofs.lemmas.Nat.{div-mul-add, pow-add}
use Rattle.std.specs.Int.{byte_at, bytes_high_first}
use Rattle.byteorder.specs.Endian.{big_bytes}
use Rattle.packet_header.specs.declared.packet.MessageHeader.{MessageHeader}
use Rattle.packet_header.specs.declared.packet.ControlHeader.{ControlHeader}
use Rattle.packet_header.specs.Header.{ControlInRange, HasControlHead, HasMessageHead}
use Rattle.packet_header.specs.Header.{MessageInRange, control_code, head_bytes, kind_code}
use Rattle.packet_header.proofs.NewHeads.{code_below, control-made, control_below, control_fits}
use Rattle.packet_header.proofs.NewHeads.{message-made, message_fits, server_fits}

-- a byte of a number, by its place
byte_at-pow : (k x : ℕ) → byte_at k x ≡ x / 256 ^ k % 256
byte_at-pow zero x = ap (λ (y : ℕ). y % 256) (sym (div-one x))
byte_at-pow (suc k) x = refl

byte-low : (n a b : ℕ) → byte_at n (a * 256 * 256 ^ n + b) ≡ byte_at n b
byte-low n a b =
    let some = one-le-pow n 256 (omega arith) in
    byte_at-pow n (a * 256 * 256 ^ n + b)
    ∙ ap (λ (q : ℕ). q % 256) (mul-add-div_right {m = 256 ^ n} some (a * 256) b)
    ∙ mul-add-mod_self_right a 256 (b / 256 ^ n) ∙ sym (byte_at-pow n b)

-- the low bytes of a number are those of its lower part
bytes-low : (n a b : ℕ) → bytes_high_first n (a * 256 ^ n + b) ≡ bytes_high_first n b
bytes-low zero a b = refl
bytes-low (suc n) a b =
    let power : a * 256 ^ suc n ≡ a * 256 * 256 ^ n =
    ap (λ (p : ℕ). a * p) (pow-succ' 256 n) ∙ sym (mul_assoc a 256 (256 ^ n)) in
    rw (power, byte-low n a b, bytes-low n (a * 256) b) refl

byte-high : (m n a b : ℕ) → b < 256 ^ n → byte_at (n + m) (a * 256 ^ n + b) ≡ byte_at m a
byte-high m n a b h =
    byte_at-pow (n + m) (a * 256 ^ n + b)
    ∙ ap (λ (p : ℕ). (a * 256 ^ n + b) / p % 256) (pow-add 256 n m)
    ∙ ap (λ (q : ℕ). q % 256) (sym (div-div-eq-div-mul (a * 256 ^ n + b) (256 ^ n) (256 ^ m)))
    ∙ ap (λ (q : ℕ). q / 256 ^ m % 256) (div-mul-add a (256 ^ n) b h)
    ∙ sym (byte_at-pow m a)

-- the bytes of a number are those of its upper part, and then those of its lower part
split_bytes : (m n k a b : ℕ) → k ≡ m + n → b < 256 ^ n
    → bytes_high_first k (a * 256 ^ n + b) ≡ bytes_high_first m a ++ bytes_high_first n b
split_bytes zero n k a b e h = let same : k ≡ n = omega arith in rw same (bytes-low n a b)
split_bytes (suc m) n zero a b e h = absurd (omega arith)
split_bytes (suc m) n (suc k) a b e h =
    let place : k ≡ n + m = omega arith in
    let byte : byte_at k (a * 256 ^ n + b) ≡ byte_at m a = rw place (byte-high m n a b h) in
    rw (byte, split_bytes m n k a b (omega arith) h) refl

one_byte : (x : ℕ) → x < 256 → big_bytes 1 x ≡ x ∷ []
one_byte x h = ap (λ (y : ℕ). y ∷ []) (mod-eq_of_lt h)

front_bytes : (magic code : ℕ) → magic < 256 → code < 256
    → big_bytes 2 (magic * 256 + code) ≡ magic ∷ code ∷ []
front_bytes magic code g h =
    split_bytes 1 1 2 magic code refl h
    ∙ ap (λ (front : List ℕ). front ++ big_bytes 1 code) (one_byte magic g)
    ∙ ap (λ (back : List ℕ). magic ∷ back) (one_byte code h)

-- the kind and the type behind the magic byte
type_bytes : (magic code req_type : ℕ) → magic < 256 → code < 256 → req_type < 256
    → big_bytes 3 ((magic * 256 + code) * 256 + req_type) ≡ magic ∷ code ∷ req_type ∷ []
type_bytes magic code req_type f g h =
    split_bytes 2 1 3 (magic * 256 + code) req_type refl h
    ∙ ap (λ (front : List ℕ). front ++ big_bytes 1 req_type) (front_bytes magic code f g)
    ∙ ap (λ (back : List ℕ). magic ∷ code ∷ back) (one_byte req_type h)

-- and the size and the session behind these
session_bytes : (magic code req_type size session : ℕ) → magic < 256 → code < 256
    → req_type < 256 → size < 256 ^ 3 → session < 256 ^ 2
    → big_bytes 8 ((((magic * 256 + code) * 256 + req_type) * 16777216 + size) * 65536 + session)
    ≡ magic ∷ code ∷ req_type ∷ (big_bytes 3 size ++ big_bytes 2 session)
session_bytes magic code req_type size session f g h k l =
    let types : ℕ = (magic * 256 + code) * 256 + req_type in
    split_bytes 6 2 8 (types * 16777216 + size) session refl l
    ∙ ap (λ (front : List ℕ). front ++ big_bytes 2 session) (split_bytes 3 3 6 types size refl k
    ∙ ap (λ (front : List ℕ). front ++ big_bytes 3 size) (type_bytes magic code req_type f g h))

pub message-written : (m : MessageHeader) (out : List ℕ) (first second last : ℕ) → MessageInRange m
    → m.request < 2 ^ 48 → out ≡ head_bytes first second last
    → first ≡ (((MAGIC * 256 + kind_code m.kind) * 256 + m.req_type) * 16777216 + m.size) * 65536
    + m.session
    → second ≡ m.number * 281474976710656 + m.request → last ≡ m.to_life → HasMessageHead m out
message-written m out first second last range below e f g h =
    let (types, sizes, numbers) =
    message_fits m.kind m.req_type m.size m.number range.req_type range.size range.number in
    let (low, session) = range.session in
    let (whole, long, head) = message-made m range below in
    let front = session_bytes MAGIC (kind_code m.kind) m.req_type m.size m.session (omega arith)
    (code_below m.kind) types sizes (omega arith) in
    let back = split_bytes 2 6 8 m.number m.request refl below in
    let life : List ℕ = big_bytes 4 m.to_life in
    let fields : List ℕ = MAGIC ∷ kind_code m.kind ∷ m.req_type
    ∷ (big_bytes 3 m.size ++ big_bytes 2 m.session) in
    subst (HasMessageHead m) (sym (e
    ∙ ap (λ (x : ℕ). head_bytes first second x) h
    ∙ ap (λ (x : ℕ). big_bytes 8 x ++ (big_bytes 8 second ++ life)) f
    ∙ ap (λ (l : List ℕ). l ++ (big_bytes 8 second ++ life)) front
    ∙ ap (λ (x : ℕ). fields ++ (big_bytes 8 x ++ life)) g
    ∙ ap (λ (l : List ℕ). fields ++ (l ++ life)) back)) head

-- two sessions and the credits behind the kind
credits_bytes : (magic code client server credits : ℕ) → magic < 256 → code < 256
    → client < 256 ^ 2 → server < 256 ^ 2 → credits < 256 ^ 2
    → big_bytes 8 ((((magic * 256 + code) * 65536 + client) * 65536 + server) * 65536 + credits)
    ≡ magic ∷ code ∷ (big_bytes 2 client ++ (big_bytes 2 server ++ big_bytes 2 credits))
credits_bytes magic code client server credits f g h k l =
    let kind : ℕ = magic * 256 + code in
    split_bytes 6 2 8 ((kind * 65536 + client) * 65536 + server) credits refl l
    ∙ ap (λ (front : List ℕ). front ++ big_bytes 2 credits)
    (split_bytes 4 2 6 (kind * 65536 + client) server refl k
    ∙ ap (λ (front : List ℕ). front ++ big_bytes 2 server) (split_bytes 2 2 4 kind client refl h
    ∙ ap (λ (front : List ℕ). front ++ big_bytes 2 client) (front_bytes magic code f g)))

-- the sender's life behind the status, and three zeros
padded_bytes : (status life : ℕ) → status < 256 → life < 256 ^ 4
    → big_bytes 8 ((status * 4294967296 + life) * 16777216)
    ≡ status ∷ (big_bytes 4 life ++ big_bytes 3 0)
padded_bytes status life h k =
    let number : ℕ = status * 4294967296 + life in
    let zeros : number * 16777216 ≡ number * 16777216 + 0 = omega arith in
    ap (λ (x : ℕ). big_bytes 8 x) zeros ∙ split_bytes 5 3 8 number 0 refl (omega arith)
    ∙ ap (λ (front : List ℕ). front ++ big_bytes 3 0) (split_bytes 1 4 5 status life refl k
    ∙ ap (λ (front : List ℕ). front ++ big_bytes 4 life) (one_byte status h))

pub control-written : (c : ControlHeader) (out : List ℕ) (first second last : ℕ) → ControlInRange c
    → out ≡ head_bytes first second last
    → first ≡ (((MAGIC * 256 + control_code c.kind) * 65536 + c.client) * 65536
    + unwrap_or c.server 65535) * 65536 + c.credits
    → second ≡ (c.status * 4294967296 + c.from_life) * 16777216
    → last ≡ unwrap_or c.to_life 0 → HasControlHead c out
control-written c out first second last range e f g h =
    let (credits, status) = control_fits c.kind c.credits c.status range.credits range.status in
    let (low, client) = range.client in
    let (some, from_life) = range.from_life in
    let (whole, long, head) = control-made c range in
    let front = credits_bytes MAGIC (control_code c.kind) c.client (unwrap_or c.server 65535)
    c.credits (omega arith) (control_below c.kind) (omega arith)
    (server_fits _ c.server range.server) credits in
    let back = padded_bytes c.status c.from_life status (omega arith) in
    let life : List ℕ = big_bytes 4 (unwrap_or c.to_life 0) in
    let fields : List ℕ = MAGIC ∷ control_code c.kind ∷ (big_bytes 2 c.client
    ++ (big_bytes 2 (unwrap_or c.server 65535) ++ big_bytes 2 c.credits)) in
    subst (HasControlHead c) (sym (e
    ∙ ap (λ (x : ℕ). head_bytes first second x) h
    ∙ ap (λ (x : ℕ). big_bytes 8 x ++ (big_bytes 8 second ++ life)) f
    ∙ ap (λ (l : List ℕ). l ++ (big_bytes 8 second ++ life)) front
    ∙ ap (λ (x : ℕ). fields ++ (big_bytes 8 x ++ life)) g
    ∙ ap (λ (l : List ℕ). fields ++ (l ++ life)) back)) head
