-- How a message is cut into packets of at most 1,024 bytes.
use Rattle.std.specs.Prelude.{ℕ, ◌≤◌, ◌-◌, ◌*◌, max, min, List, take, drop}
use Rattle.std.specs.Int.{div_ceil}
use Rattle.rpc_base.specs.declared.limits.TheConstants.{MOST_MESSAGE_BYTES, PART_BYTES}

-- a message has at most 1,048,576 bytes
abbrev pub IsMessage : ℕ → Type 0
IsMessage size = size ≤ MOST_MESSAGE_BYTES

-- so many packets carry n bytes: n / 1,024, rounded up, and at least one
abbrev pub packet_count : ℕ → ℕ
packet_count n = max 1 (div_ceil n PART_BYTES)

-- part k of a message: its bytes from 1,024 k up to 1,024 (k + 1) or the end
abbrev pub part : {T : Type 0} → List T → ℕ → List T
part q k = take PART_BYTES (drop (PART_BYTES * k) q)

-- the length of part k of a message of n bytes
abbrev pub part_size : ℕ → ℕ → ℕ
part_size n k = min PART_BYTES (n - PART_BYTES * k)

-- the length of the last part of a message of n bytes
abbrev pub tail : ℕ → ℕ
tail n = n - PART_BYTES * (packet_count n - 1)
