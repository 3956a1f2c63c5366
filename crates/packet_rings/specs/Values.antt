-- What contracts see of a datagram and of an entry.
use Rattle.std.specs.Prelude.{ℕ, Option, List}
use Rattle.rpc_base.specs.declared.owner.Owner.{Owner}

-- the peer that it came from, and its bytes
pub record DatagramValue : Type 0 where
  pub peer : ℕ
  pub bytes : List ℕ

abbrev pub datagram : ℕ → List ℕ → DatagramValue
datagram p bs = record { peer = p; bytes = bs }

-- the fields of an entry
pub record EntryValue : Type 0 where
  pub owner : Owner
  pub number : ℕ
  pub place : Option ℕ
  pub peer : ℕ
