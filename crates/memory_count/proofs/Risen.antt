-- How counts of faults add up.
use Rattle.std.proofs.Common.{ℕ, ◌+◌, ◌≤◌, arith, min}
use Rattle.memory_count.specs.Faults.{HasRisen, HasRisenBy, end_of_count}

pub none-risen : (n : ℕ) → HasRisenBy 0 n n
none-risen n = record { no_less = omega arith; rose = omega arith }

pub none-risen-by : (m n : ℕ) → m ≤ n → HasRisenBy 0 m n
none-risen-by m n le = record { no_less = le; rose = omega arith }

-- one after the other
pub both-risen : (a b l m n : ℕ) → HasRisenBy a l m → HasRisenBy b m n → HasRisenBy (a + b) l n
both-risen a b l m n p q = record {
  no_less = let r = p.no_less in let s = q.no_less in omega arith;
  rose = let r = p.no_less in let s = q.no_less in let t = p.rose in let u = q.rose in omega arith;
}

pub fewer-risen : (a b m n : ℕ) → b ≤ a → HasRisenBy a m n → HasRisenBy b m n
fewer-risen a b m n le p = record {
  no_less = p.no_less;
  rose = let t = p.rose in omega arith;
}

pub one-risen : (m n : ℕ) → HasRisen m n → HasRisenBy 1 m n
one-risen m n p = record { no_less = p.no_less; rose = p.rose }

pub risen-one : (m n : ℕ) → HasRisenBy 1 m n → HasRisen m n
risen-one m n p = record { no_less = p.no_less; rose = p.rose }
