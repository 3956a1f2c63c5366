-- The words of a report for what isn't a number: owners, states, reasons and bytes.
use Rattle.std.specs.Prelude.{ℕ, ◌+◌, ◌/◌, ◌%◌, nat_lt, if◌then◌else◌, List, [], ◌∷◌, ◌++◌, codes}
use Rattle.std.specs.Prelude.{decimal, flat_map}
use Rattle.rpc_base.specs.declared.owner.Owner.{Owner}
use Rattle.rpc_base.specs.declared.owner.Owner.TheVariants.{Ask, Reply, Control}
use Rattle.rpc_base.specs.declared.state.SessionState.{SessionState}
use Rattle.rpc_base.specs.declared.state.SessionState.TheVariants.{Unknown, Connecting, Connected}
use Rattle.rpc_base.specs.declared.state.SessionState.TheVariants.{Closing, Closed, Failed, Broken}
use Rattle.rpc_base.specs.declared.state.SessionState.TheVariants.{Spent}
use Rattle.rpc_base.specs.declared.state.DropReason.{DropReason}
use Rattle.rpc_base.specs.declared.state.DropReason.TheVariants.{StaleLife, NoSession, WrongPeer}
use Rattle.rpc_base.specs.declared.state.DropReason.TheVariants.{Old}
use Rattle.rpc_base.specs.declared.state.DropReason.TheVariants.{NotFirst, Working, Unserved}
use Rattle.rpc_base.specs.declared.state.DropReason.TheVariants.{JobsFull, NoMemory, Mismatch}
use Rattle.rpc_base.specs.declared.state.DropReason.TheVariants.{Ahead, Beyond, NoCall, Past}
use Rattle.rpc_base.specs.declared.state.DropReason.TheVariants.{Queued}

-- a call by its client session and request, a slot by its server session and request, and control
abbrev pub owner_text : Owner → List ℕ
owner_text (Ask session request) = codes "c " ++ decimal session ++ codes " " ++ decimal request
owner_text (Reply session request) = codes "s " ++ decimal session ++ codes " " ++ decimal request
owner_text Control = codes "k 0 0"

-- a state is its name in lower case
abbrev pub state_text : SessionState → List ℕ
state_text Unknown = codes "unknown"
state_text Connecting = codes "connecting"
state_text Connected = codes "connected"
state_text Closing = codes "closing"
state_text Closed = codes "closed"
state_text Failed = codes "failed"
state_text Broken = codes "broken"
state_text Spent = codes "spent"

-- a reason is its name in lower case
abbrev pub reason_text : DropReason → List ℕ
reason_text StaleLife = codes "stalelife"
reason_text NoSession = codes "nosession"
reason_text WrongPeer = codes "wrongpeer"
reason_text Old = codes "old"
reason_text NotFirst = codes "notfirst"
reason_text Working = codes "working"
reason_text Unserved = codes "unserved"
reason_text JobsFull = codes "jobsfull"
reason_text NoMemory = codes "nomemory"
reason_text Mismatch = codes "mismatch"
reason_text Ahead = codes "ahead"
reason_text Beyond = codes "beyond"
reason_text NoCall = codes "nocall"
reason_text Past = codes "past"
reason_text Queued = codes "queued"

-- a hexadecimal digit: 0 to 9, and then the lower-case letters from a on
abbrev pub hex_digit : ℕ → ℕ
hex_digit n = if nat_lt n 10 then 48 + n else 87 + n

-- a byte is two digits, the high four bits first
abbrev pub byte_text : ℕ → List ℕ
byte_text b = hex_digit (b / 16) ∷ hex_digit (b % 16) ∷ []

-- no bytes are a dash
abbrev pub bytes_text : List ℕ → List ℕ
bytes_text [] = codes "-"
bytes_text (b ∷ bs) = flat_map byte_text (b ∷ bs)
