use Rattle.std.proofs.Common.{◌≡◌, None, replicate}
use Rattle.buffer_pool.proofs.pool.BufferPool.new.Given as goal

abbrev pub invariant-loop-place : goal.invariant-loop-place
invariant-loop-place l = (l.bufs.items ≡ replicate l._place None) × (l.memory ≡ l.initial.memory)
