-- How a block of bytes is a buffer: the header of packet 0, then the data, then the other headers.
use Rattle.std.specs.Prelude.{◌≡◌, ◌≤◌, ℕ, zero, suc, ◌+◌, ◌-◌, ◌*◌, ◌==◌, if◌then◌else◌, List, []}
use Rattle.std.specs.Prelude.{◌∷◌, length, take, drop}
use Rattle.rpc_base.specs.declared.limits.TheConstants.{HEAD_BYTES, MOST_CAPACITY}
use Rattle.packet_header.specs.Parts.{packet_count}
use Rattle.message_buffer.specs.Buffer.{Buffer}

-- the first so many pieces of a list, each of one width
abbrev pub pieces : ℕ → ℕ → List ℕ → List (List ℕ)
pieces width zero bytes = []
pieces width (suc n) bytes = take width bytes ∷ pieces width n (drop width bytes)

-- the header of packet 0 stands in front, the others behind the data
abbrev pub heads_in : List ℕ → ℕ → List (List ℕ)
heads_in block capacity =
    take HEAD_BYTES block ∷ pieces HEAD_BYTES (packet_count capacity - 1)
    (drop (HEAD_BYTES + capacity) block)

-- the data stands behind the first header
abbrev pub data_in : List ℕ → ℕ → List ℕ
data_in block capacity = take capacity (drop HEAD_BYTES block)

abbrev pub buffer_in : List ℕ → ℕ → ℕ → Buffer
buffer_in block capacity len =
    record { len = len; store = data_in block capacity; heads = heads_in block capacity }

-- how long the block is: the data and one header for each packet
abbrev pub block_size : ℕ → ℕ
block_size capacity = capacity + HEAD_BYTES * packet_count capacity

-- where the header of a packet begins
abbrev pub head_start : ℕ → ℕ → ℕ
head_start capacity index = if index == 0 then 0 else capacity + HEAD_BYTES * index

-- the block has its size, and the message fits its capacity
pub record FitsBlock (block : List ℕ) (capacity len : ℕ) : Type 0 where
  pub size : length block ≡ block_size capacity
  pub within : len ≤ capacity
  pub most : capacity ≤ MOST_CAPACITY
