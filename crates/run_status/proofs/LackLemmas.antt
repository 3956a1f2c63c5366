-- Want of memory has its cause, from one call to the next.
use Rattle.std.proofs.Common.{ℕ, ◌≤◌, Result, Ok, Err, arith}
use Rattle.memory_count.specs.Faults.{HasReason, HasRisenBy}

-- a call lets the count not fall, however it answers
pub reason-no-less : {T E : Type 0} (r : Result T E) (m n : ℕ) → HasReason m n r → m ≤ n
reason-no-less (Ok x) m n le = le
reason-no-less (Err e) m n risen = risen.no_less

-- what rose rose from each lower count
pub risen-after : (k l m n : ℕ) → l ≤ m → HasRisenBy k m n → HasRisenBy k l n
risen-after k l m n le p = record {
  no_less = let after = p.no_less in omega (arith, le, after);
  rose = let after = p.no_less in let rose = p.rose in omega (arith, le, after, rose);
}
