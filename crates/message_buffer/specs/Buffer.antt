-- A message's buffer as its callers see it, and the words for what is done to it.
use Rattle.std.specs.Prelude.{ℕ, ◌+◌, List, ◌++◌, length, take, drop, slice_set}

pub record Buffer : Type 0 where
  -- how many of the data bytes are the message, from the first on
  pub len : ℕ
  -- all data bytes, as many as the capacity
  pub store : List ℕ
  -- a header for each packet that a message of the capacity takes
  pub heads : List (List ℕ)

-- how long a message may become
abbrev pub capacity_of : Buffer → ℕ
capacity_of b = length b.store

-- the message
abbrev pub bytes_of : Buffer → List ℕ
bytes_of b = take b.len b.store

-- the buffer with another length: no data byte and no head changes
abbrev pub with_len : ℕ → Buffer → Buffer
with_len n b = record b { len = n }

-- the list with the bytes from `at` on replaced by others, as many as they are
abbrev pub overwritten : ℕ → List ℕ → List ℕ → List ℕ
overwritten at from bytes = take at bytes ++ (from ++ drop (at + length from) bytes)

-- the buffer with its data bytes from `at` on replaced: no other byte, and no head, changes
abbrev pub written : ℕ → List ℕ → Buffer → Buffer
written at from b = record b { store = overwritten at from b.store }

-- the buffer with another header for one packet: no other head and no byte changes
abbrev pub stamped : ℕ → List ℕ → Buffer → Buffer
stamped index head b = record b { heads = slice_set b.heads index head }
