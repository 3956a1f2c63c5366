-- What a session's credits are, and what each call makes of them.
use Rattle.std.specs.Prelude.{◌≡◌, ℕ, ◌+◌, ◌-◌, ◌≤◌, List, length, replicate, sum, slice_index}
use Rattle.std.specs.Prelude.{slice_set}
use Rattle.rpc_base.specs.declared.limits.TheConstants.{MOST_CREDITS}

-- the free credits, and the unanswered packets of each of the eight slots
pub record Credits : Type 0 where
  pub free : ℕ
  pub unanswered : List ℕ

-- the credits that there are, free or not
abbrev pub limit_of : Credits → ℕ
limit_of c = c.free + sum c.unanswered

-- eight slots, and 1 to 256 credits in all
pub record IsBalanced (c : Credits) : Type 0 where
  pub slots : length c.unanswered ≡ 8
  pub some : 1 ≤ limit_of c
  pub most : limit_of c ≤ MOST_CREDITS

-- all are free
abbrev pub full_book : ℕ → Credits
full_book limit = record { free = limit; unanswered = replicate 8 0 }

-- one free credit goes to a packet of the slot
abbrev pub charged : ℕ → Credits → Credits
charged slot c = record {
  free = c.free - 1;
  unanswered = slice_set c.unanswered slot (slice_index c.unanswered slot + 1);
}

-- one packet of the slot gives its credit back
abbrev pub given_back : ℕ → Credits → Credits
given_back slot c = record {
  free = c.free + 1;
  unanswered = slice_set c.unanswered slot (slice_index c.unanswered slot - 1);
}

-- all packets of the slot give their credits back
abbrev pub rolled : ℕ → Credits → Credits
rolled slot c = record {
  free = c.free + slice_index c.unanswered slot;
  unanswered = slice_set c.unanswered slot 0;
}
