-- What a datagram changes that is no packet or finds no room, and a packet that is dropped or
-- heard: nothing but its list and its count.
use Rattle.std.specs.Prelude.{◌≡◌, ℕ, drop}
use Rattle.rpc_base.specs.declared.state.DropReason.{DropReason}
use Rattle.rpc_base.specs.declared.event.Event.TheVariants.{Bad, Dropped, Heard, Overflowed}
use Rattle.rpc_base.specs.declared.fact.Fact.{Fact}
use Rattle.rpc_laws.specs.declared.tables.Lists.{Lists}
use Rattle.rpc_laws.specs.NodeLists.{after, one_more}

pub record PassesOver (clock : ℕ) (s : Lists) (f : Fact) : Type 0 where
  -- a datagram that is no packet changes nothing
  pub bad : (peer : ℕ) → f.event ≡ Bad peer → after clock s f ≡ s
  -- one that found no room is counted
  pub overflowed : (peer : ℕ) → f.event ≡ Overflowed peer → after clock s f
      ≡ record s { counts = record s.counts { overflowed = one_more s.counts.overflowed } }
  -- a packet that is dropped leaves the front of the ring, and is counted
  pub dropped : (why : DropReason) → f.event ≡ Dropped why → after clock s f ≡ record s {
    ring = drop 1 s.ring;
    counts = record s.counts { dropped = one_more s.counts.dropped };
  }
  -- a control packet that was heard leaves the front of the inbox
  pub heard : f.event ≡ Heard → after clock s f ≡ record s { inbox = drop 1 s.inbox }
