-- What a buffer ends as, once a `&mut` to its message has ended.
use Rattle.std.specs.Prelude.{ℕ, List, ◌++◌, length, take, drop, nat_le, if◌then◌else◌}
use Rattle.std.specs.List.{concat}
use Rattle.std.specs.Borrow.{Lends, MutBor, Fml, Array, u8}
use Rattle.rpc_base.specs.declared.limits.TheConstants.{HEAD_BYTES}
use Rattle.message_buffer.specs.Buffer.{Buffer, capacity_of, overwritten, written}
use Rattle.message_buffer.specs.Block.{buffer_in}
use Rattle.message_buffer.specs.contracts.buffer.MsgBuf.{the_row}

-- the bytes of a buffer, in the order of its block
abbrev pub block_of : Buffer → List ℕ
block_of b = concat (take 1 b.heads) ++ (b.store ++ concat (drop 1 b.heads))

-- what bytes that pass the capacity would leave. A slice keeps its length, so this never comes
abbrev pub overrun : List ℕ → Buffer → Buffer
overrun message b =
    buffer_in (take (length (block_of b)) (overwritten HEAD_BYTES message (block_of b)))
    (capacity_of b) b.len

-- the buffer with its message written anew: its other bytes, its length and its heads stay
abbrev pub rewritten : List ℕ → Buffer → Buffer
rewritten message b =
    if nat_le (length message) (capacity_of b) then written 0 message b else overrun message b

-- b's message is what was left behind r
abbrev pub lends_message : MutBor Buffer → MutBor (List ℕ) → Fml
lends_message b r = Lends the_row (Array u8 0) b r (λ message. rewritten message b.now)
