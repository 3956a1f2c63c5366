-- What a source, a sink and a link in memory hold.
use Rattle.std.specs.Prelude.{ℕ, ◌<◌, ◌≤◌, ◌⊎◌, List, Option, length}
use Rattle.rpc_outside.specs.CallLog.{CallLog, IsNamed}
use Rattle.rpc_outside.specs.Linking.{Carried}
use Rattle.rpc_outside.specs.declared.link.TheConstants.{MOST_LINK_BYTES}

-- the bytes that are left to be read, and the calls
pub record Input : Type 0 where
  pub left : List ℕ
  pub log : CallLog

-- the bytes that were written, the room for all of them, and the calls
pub record Output : Type 0 where
  pub written : List ℕ
  pub room : ℕ
  pub log : CallLog

-- the datagrams that were sent, given out and not given out, the address that was bound last, where
-- it is told, the room for all that are sent, the calls, and the sends among them: the named ones
-- of these are busy
pub record Linked : Type 0 where
  pub sent : List Carried
  pub received : List Carried
  pub waiting : List Carried
  pub bound : Option (List ℕ)
  pub room : ℕ
  pub log : CallLog
  pub sends : CallLog

-- a datagram of n bytes can't be sent any more, or is too long
abbrev pub HasNoRoom : List Carried → ℕ → ℕ → Type 0
HasNoRoom sent room n = (room ≤ length sent) ⊎ (MOST_LINK_BYTES < n)

-- the send that comes next is busy
abbrev pub IsBusy : Linked → Type 0
IsBusy link = ¬ IsNamed link.log × IsNamed link.sends

-- the send of n bytes that comes next fails
abbrev pub FailsToSend : Linked → ℕ → Type 0
FailsToSend link n = IsNamed link.log ⊎ (¬ IsNamed link.sends × HasNoRoom link.sent link.room n)
