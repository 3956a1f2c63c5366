-- Bytes that move from one list to another, a part at a time.
use Rattle.std.proofs.Common.{◌≡◌, ℕ, ◌+◌, ◌-◌, List, ◌++◌, length, take, drop, refl, append_assoc, take-append-drop}
use Rattle.std.proofs.lemmas.List.{take_rest, drop-drop}

-- what is left after `done` gives its front away once more
pub moved-on : (whole done rest : List ℕ) (n : ℕ) → whole ≡ done ++ rest
    → whole ≡ (done ++ take n rest) ++ take (length rest - n) (drop n rest)
moved-on whole done rest n e =
    rw (take_rest rest n, append_assoc done (take n rest) (drop n rest), take-append-drop n rest) e

-- the part that was given is the front of what was left
pub gives-front : (bytes out : List ℕ) (at n : ℕ) → take n out ≡ take n (take (length bytes - at) (drop at bytes))
    → drop at bytes ≡ take n out ++ drop (at + n) bytes
gives-front bytes out at n e =
    rw (e, take_rest bytes at, ← drop-drop n at bytes, take-append-drop n (drop at bytes)) refl
