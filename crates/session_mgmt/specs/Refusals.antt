-- What a node notes of a session that it refuses, or doesn't close.
use Rattle.std.specs.Prelude.{ℕ, Option, Some, None, Result, Ok, Err}
use Rattle.rpc_base.specs.declared.event.Event.{Event}
use Rattle.rpc_base.specs.declared.event.Event.TheVariants.{NcloseBusy, NcloseState}
use Rattle.rpc_base.specs.declared.event.Event.TheVariants.{NconnectNumbers, NconnectRing}
use Rattle.session_mgmt.specs.declared.answers.CloseError.{CloseError}
use Rattle.session_mgmt.specs.declared.answers.CloseError.TheVariants.{Busy, NotConnected}
use Rattle.session_mgmt.specs.declared.answers.ConnectError.{ConnectError}
use Rattle.session_mgmt.specs.declared.answers.ConnectError.TheVariants.{NoMemory, NumbersSpent}
use Rattle.session_mgmt.specs.declared.answers.ConnectError.TheVariants.{RingFull}

-- of a refusal; it notes nothing of want of memory
abbrev pub refused : ConnectError → Option Event
refused NumbersSpent = Some NconnectNumbers
refused (RingFull shares credits ring) = Some (NconnectRing shares credits ring)
refused NoMemory = None

-- how many refusals of memory one tells
abbrev pub lacks_for : ConnectError → ℕ
lacks_for NoMemory = 1
lacks_for why = 0

-- and how many the answer to a call that makes a session does
abbrev pub lacks : Result ℕ ConnectError → ℕ
lacks (Ok session) = 0
lacks (Err why) = lacks_for why

-- of a session that it doesn't close
abbrev pub closing : ℕ → CloseError → Event
closing session (NotConnected state) = NcloseState session state
closing session (Busy calls) = NcloseBusy session calls
