-- The message that a buffer has, if there is a buffer.
use Rattle.std.specs.Prelude.{◌≡◌, ◌≤◌, ℕ, List, [], Option, Some, None}
use Rattle.message_buffer.specs.Buffer.{Buffer, bytes_of, capacity_of}

-- its bytes
abbrev pub message_in : Option Buffer → List ℕ
message_in None = []
message_in (Some b) = bytes_of b

-- it is the buffer of a message of this size
abbrev pub HasSize : ℕ → Option Buffer → Type 0
HasSize size None = ⊥
HasSize size (Some b) = (b.len ≡ size) × (size ≤ capacity_of b)
