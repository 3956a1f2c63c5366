-- The buffers of calls.
use Rattle.std.specs.Prelude.{◌≡◌, ℕ, ◌≤◌, List}
use Rattle.message_buffer.specs.Buffer.{Buffer, bytes_of, capacity_of}
use Rattle.rpc_base.specs.declared.limits.TheConstants.{MOST_MESSAGE_BYTES}

-- the buffers that a call is asked with: its bytes, which are not too many, and room for an answer
-- of so many bytes
pub record AreBuffersFor (ask : List ℕ) (most : ℕ) (req resp : Buffer) : Type 0 where
  pub asks : bytes_of req ≡ ask
  pub len : req.len ≤ MOST_MESSAGE_BYTES
  pub room : capacity_of resp ≡ most
