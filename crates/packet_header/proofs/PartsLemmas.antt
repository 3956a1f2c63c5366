-- The parts of a message: how long each is, and that together they are the message.
use Rattle.rpc_base.specs.declared.limits.TheConstants.{HEAD_BYTES}
use Rattle.std.proofs.Common.{◌≡◌, ◌≤◌, ◌<◌, ◌+◌, ◌-◌, ◌*◌, ◌∙◌, inl, inr, ℕ, min, nat_lt, Bool}
use Rattle.std.proofs.Common.{true, false, List, ◌++◌, length, take, drop, refl, sym, ap, arith}
use Rattle.std.proofs.lemmas.List.{length-drop, length-take, take_all}
use Rattle.std.proofs.Math.Seq.{take-add}
use Rattle.std.proofs.lemmas.Bool.{ltb-false, ltb-true}
use Rattle.packet_header.specs.declared.packet.Kind.TheVariants.{Response}
use Rattle.packet_header.specs.Parts.{packet_count, part, part_size, tail}
use Rattle.packet_header.specs.Header.{MessageLength}

pub packet_count-one : (n : ℕ) → n ≤ 1024 → packet_count n ≡ 1
packet_count-one n h = omega arith

pub packet_count_above : (n : ℕ) → 0 < packet_count n
packet_count_above n = omega arith

-- packets of 1,024 bytes have room for the message, and one packet fewer hasn't
pub packet_count_room : (n : ℕ) → n ≤ 1024 * packet_count n
packet_count_room n = omega arith

pub packet_count_needed : (n : ℕ) → 0 < n → 1024 * (packet_count n - 1) < n
packet_count_needed n h = omega arith

-- a message of at most 1,048,576 bytes takes at most 1,024 packets
pub packet_count_most : (n : ℕ) → n ≤ 1048576 → packet_count n ≤ 1024
packet_count_most n h = omega arith

pub length-part : {T : Type 0} → (q : List T) (k : ℕ) → length (part q k) ≡ part_size (length q) k
length-part q k = length-take 1024 (drop (1024 * k) q) ∙ ap (min 1024) (length-drop (1024 * k) q)

-- a message of one packet is its part
pub part-whole : {T : Type 0} → (q : List T) → length q ≤ 1024 → part q 0 ≡ q
part-whole q h = take_all 1024 q h

-- all parts but the last are full
pub part_size-full : (n k : ℕ) → k + 1 < packet_count n → part_size n k ≡ 1024
part_size-full n k h = omega arith

pub part_size-last : (n k : ℕ) → k + 1 ≡ packet_count n → part_size n k ≡ tail n
part_size-last n k h = omega arith

-- one part more
pub part-front : {T : Type 0} → (q : List T) (k : ℕ) → take (1024 * k) q ++ part q k ≡ take (1024 * (k + 1)) q
part-front q k = let e : 1024 * (k + 1) ≡ 1024 * k + 1024 = omega arith in rw e (sym (take-add (1024 * k) 1024 q))

-- all parts are the message
pub front-whole : {T : Type 0} → (q : List T) (k : ℕ) → packet_count (length q) ≤ k → take (1024 * k) q ≡ q
front-whole q k h = take_all (1024 * k) q (omega arith)

response_part : (n k number : ℕ) (more : Bool) → nat_lt (k + 1) (packet_count n) ≡ more
    → k < packet_count n → MessageLength Response n number (HEAD_BYTES + part_size n k)
response_part n k number true h g =
    let below = ltb-true (k + 1) (packet_count n) h in
    inr (omega arith, ap (λ size. HEAD_BYTES + size) (part_size-full n k below))
response_part n k number false h g =
    let above = ltb-false (k + 1) (packet_count n) h in
    inl (ap (λ size. HEAD_BYTES + size) (part_size-last n k (omega arith)))

-- each part of a response has a length for its header
pub response_length : (n k number : ℕ) → k < packet_count n → MessageLength Response n number (HEAD_BYTES + part_size n k)
response_length n k number h = response_part n k number _ refl h
