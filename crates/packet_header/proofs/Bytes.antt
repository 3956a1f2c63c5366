-- The numbers that stand in bytes.
use Rattle.std.proofs.Common.{◌≡◌, ◌<◌, ◌+◌, ◌*◌, ◌^◌, ℕ, List, drop, arith}
use Rattle.std.proofs.lemmas.List.{get_or-drop}
use Rattle.byteorder.specs.Numbers.{big_from-lt}
use Rattle.packet_header.specs.Header.{AreBytes, number_at}

pub bytes-drop : (i : ℕ) (bytes : List ℕ) → AreBytes bytes → AreBytes (drop i bytes)
bytes-drop i bytes h k = rw (get_or-drop i bytes k 0) (h (i + k))

-- n bytes hold numbers below 256^n
pub number_fits : (offset n : ℕ) (bytes : List ℕ) → AreBytes bytes → number_at offset n bytes < 256 ^ n
number_fits offset n bytes h = big_from-lt 0 n (drop offset bytes) (bytes-drop offset bytes h)

-- a request number's six bytes are two and then four
pub request-number : (bytes : List ℕ) → number_at 10 6 bytes ≡ number_at 10 2 bytes * 4294967296 + number_at 12 4 bytes
request-number bytes =
    omega (
      arith,
      get_or-drop 10 bytes 2 0,
      get_or-drop 10 bytes 3 0,
      get_or-drop 10 bytes 4 0,
      get_or-drop 10 bytes 5 0,
      get_or-drop 12 bytes 0 0,
      get_or-drop 12 bytes 1 0,
      get_or-drop 12 bytes 2 0,
      get_or-drop 12 bytes 3 0,
    )
