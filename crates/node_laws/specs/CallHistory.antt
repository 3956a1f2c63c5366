-- What the facts tell of a call, against what the table of calls says of it. The facts so far stand
-- with the newest first: each reading goes by the latest fact that concerns it.
use Rattle.std.specs.Prelude.{ℕ, ◌≡◌, ◌+◌, ◌==◌, ◌&&◌, not, Bool, true, false, Option, Some, None}
use Rattle.std.specs.Prelude.{List, [], ◌∷◌, ◌++◌, count_by, slice_get, if◌then◌else◌}
use Rattle.std.specs.List.{list_any}
use Rattle.packet_header.specs.declared.packet.MessageHeader.{MessageHeader}
use Rattle.rpc_base.specs.declared.event.Event.{Event}
use Rattle.rpc_base.specs.declared.event.Event.TheVariants.{Asked, Begun, Posted, Took, Rolled}
use Rattle.rpc_base.specs.declared.fact.Fact.{Fact}
use Rattle.rpc_base.specs.declared.owner.Owner.TheVariants.{Ask}
use Rattle.rpc_laws.specs.declared.tables.Call.{Call}
use Rattle.rpc_laws.specs.declared.tables.Client.{Client}
use Rattle.rpc_laws.specs.declared.tables.Lists.{Lists}
use Rattle.rpc_laws.specs.declared.tables.Progress.{Progress}
use Rattle.rpc_laws.specs.AtMostOnce.{begins_call, ends_call}
use Rattle.rpc_laws.specs.Calls.{is_response}
use Rattle.rpc_laws.specs.Front.{front_body, front_header}
use Rattle.rpc_laws.specs.Sessions.{has_call}
use Rattle.node_laws.specs.EndedCalls.{asks_on, begins_as}
use Rattle.node_laws.specs.RequestHistory.{ring_by}

-- these facts, and then the others before them, the newest first
abbrev pub latest_first : List Fact → List Fact → List Fact
latest_first past [] = past
latest_first past (f ∷ g) = latest_first (f ∷ past) g

-- call c is asked, on any session
abbrev pub asks_call : ℕ → Event → Bool
asks_call c (Asked call session req_type room) = call == c
asks_call c _ = false

-- a reply to request r of session s is taken
abbrev pub takes_of : (session request : ℕ) → Event → Bool
takes_of s r (Took (Ask session request) k) = session == s && request == r
takes_of s r _ = false

-- one more than the number of the packet posted last, or GOT of a later rollback; 0 where it begins
abbrev pub posted_next : (call session request : ℕ) → Event → ℕ → ℕ
posted_next c s r (Begun call request) n = if call == c then 0 else n
posted_next c s r (Posted (Ask session request) k) n =
    if session == s && request == r then k + 1 else n
posted_next c s r (Rolled call posted got) n = if call == c then got else n
posted_next c s r _ n = n

-- that number by all facts so far
abbrev pub posted_by : (call session request : ℕ) → List Fact → ℕ
posted_by c s r [] = 0
posted_by c s r (f ∷ past) = posted_next c s r f.event (posted_by c s r past)

-- how many rollbacks came since a reply was taken last, or since it began
abbrev pub rolls_next : (call session request : ℕ) → Event → ℕ → ℕ
rolls_next c s r (Begun call request) n = if call == c then 0 else n
rolls_next c s r (Took (Ask session request) k) n = if session == s && request == r then 0 else n
rolls_next c s r (Rolled call posted got) n = if call == c then n + 1 else n
rolls_next c s r _ n = n

-- that number by all facts so far
abbrev pub rolls_by : (call session request : ℕ) → List Fact → ℕ
rolls_by c s r [] = 0
rolls_by c s r (f ∷ past) = rolls_next c s r f.event (rolls_by c s r past)

-- the size of the answer that a reply tells, where it is a part of it
abbrev pub told_size : Option MessageHeader → Option ℕ → Option ℕ
told_size None size = size
told_size (Some h) size = if is_response h.kind then Some h.size else size

-- and the bytes that it adds to the answer
abbrev pub told_parts : Option MessageHeader → List ℕ → List ℕ → List ℕ
told_parts None body parts = parts
told_parts (Some h) body parts = if is_response h.kind then parts ++ body else parts

-- the answer's size by the replies that were taken; each stood at the front of the ring
abbrev pub size_by : (session request : ℕ) → List Fact → Option ℕ
size_by s r [] = None
size_by s r (f ∷ past) =
    if takes_of s r f.event then told_size (front_header (ring_by past)) (size_by s r past)
    else size_by s r past

-- the bodies of those that are parts of the answer, joined
abbrev pub parts_by : (session request : ℕ) → List Fact → List ℕ
parts_by s r [] = []
parts_by s r (f ∷ past) =
    if takes_of s r f.event
    then told_parts (front_header (ring_by past)) (front_body (ring_by past)) (parts_by s r past)
    else parts_by s r past

-- an active call of session s began as its request; it has got as many replies as were taken, and
-- its other counts, the size of its answer and the bytes of that so far are those of the facts
pub record TellsActive (past : List Fact) (call s : ℕ) (p : Progress) : Type 0 where
  pub begun : list_any (λ f. begins_as call p.request f.event) past ≡ true
  pub got : p.got ≡ count_by (λ f. takes_of s p.request f.event) past
  pub posted : p.posted ≡ posted_by call s p.request past
  pub rolls : p.rolls ≡ rolls_by call s p.request past
  pub answer : p.answer ≡ size_by s p.request past
  pub parts : p.parts ≡ parts_by s p.request past

-- a call that waits didn't begin
abbrev pub TellsProgress : List Fact → ℕ → ℕ → Option Progress → Type 0
TellsProgress past call s None = list_any (λ f. begins_call call f.event) past ≡ false
TellsProgress past call s (Some p) = TellsActive past call s p

-- a call of session s was asked on it, and its progress is what the facts tell
pub record TellsCall (past : List Fact) (s : ℕ) (c : Call) : Type 0 where
  pub asked : list_any (λ f. asks_on c.what.number s f.event) past ≡ true
  pub progress : TellsProgress past c.what.number s c.progress

-- a call is in the table exactly where it was asked and isn't over, and the table says of each call
-- of session s what the facts tell
pub record TellsTable (past : List Fact) (t : Lists) : Type 0 where
  pub listed : (call : ℕ) → list_any (has_call call) t.clients
      ≡ (list_any (λ f. asks_call call f.event) past
      && not (list_any (λ f. ends_call call f.event) past))
  pub calls : (s i : ℕ) (x : Client) (c : Call) → slice_get t.clients s ≡ Some x
      → slice_get x.calls i ≡ Some c → TellsCall past s c
