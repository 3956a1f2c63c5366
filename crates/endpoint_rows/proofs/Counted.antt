-- Lists for which a service of a count stands.
use Rattle.std.proofs.Common.{◌≡◌, ◌≤◌, ◌<◌, ◌%◌, ◌^◌, ℕ, List, [], length, sym, ap, ◌∙◌, arith, mod-eq_of_lt, replicate}
use Rattle.std.proofs.lemmas.List.{length-replicate}
use Rattle.byteorder.specs.Endian.{big_bytes}
use Rattle.byteorder.specs.Numbers.{length-bytes_high_first}
use Rattle.endpoint_rows.specs.Counting.{count_of}
use Rattle.rpc_outside.specs.Served.{Served}

-- as many requests as were counted
abbrev pub so_many : ℕ → Served
so_many count = replicate count (0, [])

pub stands-for : (count : ℕ) → count < 2 ^ 64 → count ≡ count_of (so_many count)
stands-for count h = sym (ap (λ n. n % 2 ^ 64) (length-replicate count (0, [])) ∙ mod-eq_of_lt h)

-- where the answer fits, there is room for 8 bytes
pub eight : (served : Served) (out : List ℕ) → length (big_bytes 8 (count_of served)) ≡ length out → 8 ≤ length out
eight served out e = let n = length-bytes_high_first 8 (count_of served) in omega (arith, n, e)
