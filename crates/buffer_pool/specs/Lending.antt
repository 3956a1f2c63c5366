-- What a pool ends as, once a `&mut` to one of its buffers has ended.
use Rattle.std.specs.Prelude.{ℕ}
use Rattle.std.specs.Borrow.{Lends, MutBor, Fml}
use Rattle.message_buffer.specs.Buffer.{Buffer}
use Rattle.message_buffer.specs.contracts.buffer.MsgBuf.{the_row as buffer_row}
use Rattle.buffer_pool.specs.Pool.{Pool, changed}
use Rattle.buffer_pool.specs.contracts.pool.BufferPool.{the_row}

-- the buffer of place p is the last one behind r. No count and no other buffer changes
abbrev pub lends_buffer : MutBor Pool → ℕ → MutBor Buffer → Fml
lends_buffer s p r = Lends the_row buffer_row s r (λ buf. changed p buf s.now)
