-- The bytes of a request, once one more of its parts is written.
use Rattle.std.proofs.Common.{◌≡◌, ℕ, ◌+◌, ◌*◌, ◌<◌, ◌≤◌, List, ◌++◌, length, take, drop, sym}
use Rattle.std.proofs.Common.{◌∙◌, arith}
use Rattle.std.proofs.lemmas.List.{length-take-le, take-take, take_at}
use Rattle.packet_header.specs.Parts.{packet_count, part_size}
use Rattle.message_buffer.specs.Buffer.{Buffer, bytes_of, capacity_of, overwritten, written}
use Rattle.message_buffer.proofs.MessageLemmas.{next-part, part-next}

-- the bytes of a message with its next part
pub with-next : (k size : ℕ) (body : List ℕ) (b : Buffer) → b.len ≡ size → size ≤ capacity_of b
    → k < packet_count size → length body ≡ part_size size k
    → take (1024 * (k + 1)) (bytes_of (written (1024 * k) body b))
    ≡ take (1024 * k) (bytes_of b) ++ body
with-next k size body b len room below long =
    let at : 1024 * (k + 1) ≡ 1024 * k + 1024 = omega arith in
    let within : 1024 * k + length body ≤ size = omega (arith, long, below) in
    let next = next-part (1024 * k) size body b.store (part-next size k (length body) within long) room in
    let front : take (1024 * k) (take size b.store) ≡ take (1024 * k) b.store =
    take-take (1024 * k) size b.store (omega (arith, within)) in
    rw (at, len, front) next

-- and those before it
pub before-same : (at : ℕ) (body : List ℕ) (b : Buffer) → at + length body ≤ b.len
    → b.len ≤ capacity_of b → take at (bytes_of (written at body b)) ≡ take at (bytes_of b)
before-same at body b within room =
    let less : at ≤ b.len = omega (arith, within) in
    let long : length (take at b.store) ≡ at = length-take-le at b.store (omega (arith, less, room)) in
    take-take at b.len (overwritten at body b.store) less
    ∙ take_at (take at b.store) (body ++ drop (at + length body) b.store) at long
    ∙ sym (take-take at b.len b.store less)
