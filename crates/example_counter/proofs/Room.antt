-- The room of an answer.
use Rattle.std.proofs.Common.{◌≡◌, ◌≤◌, ℕ, List, length, arith}
use Rattle.byteorder.specs.Endian.{big_bytes}
use Rattle.byteorder.specs.Numbers.{length-bytes_high_first}
use Rattle.example_counter.specs.Counting.{count_of}
use Rattle.rpc_outside.specs.Served.{Served}

-- where the answer fits, there is room for 8 bytes
pub eight : (served : Served) (out : List ℕ)
    → length (big_bytes 8 (count_of served)) ≡ length out → 8 ≤ length out
eight served out e = let n = length-bytes_high_first 8 (count_of served) in omega (arith, n, e)
