-- The newest requests of one server session as its callers see them, and what always holds of them.
use Rattle.std.specs.Prelude.{◌≡◌, ℕ, ◌+◌, ◌%◌, ◌<◌, ◌≤◌, ◌==◌, Bool, true, false, List, []}
use Rattle.std.specs.Prelude.{count_by, Option, Some, None, option_map}
use Rattle.std.specs.List.{AllByRecursion, find}
use Rattle.rpc_base.specs.declared.owner.Owner.{Owner}
use Rattle.rpc_base.specs.declared.owner.Owner.TheVariants.{Reply}
use Rattle.rpc_base.specs.declared.limits.TheConstants.{MOST_CREDITS, SESSION_NUMBERS}
use Rattle.rpc_base.specs.declared.limits.TheConstants.{MOST_REFERENCES}
use Rattle.packet_header.specs.Parts.{packet_count, IsMessage}
use Rattle.packet_header.specs.Ranges.{Within, lives}
use Rattle.server_core.specs.declared.slot.Stored.{Stored}
use Rattle.server_core.specs.declared.slot.SlotRequest.{SlotRequest}
use Rattle.server_core.specs.declared.slot.SlotState.{SlotState}
use Rattle.server_core.specs.declared.slot.SlotState.TheVariants.{Taking, Working, Answered}

pub record Session : Type 0 where
  -- the session's number here and at the client, the client's life and its peer
  pub number : ℕ
  pub client : ℕ
  pub life : ℕ
  pub peer : ℕ
  pub credits : ℕ
  -- the newest request of each slot in which one began, in the order in which they began
  pub slots : List SlotRequest

-- whether a request has this slot
abbrev pub is_in_slot : ℕ → SlotRequest → Bool
is_in_slot i q = q.number % 8 == i

-- the newest request of the slot of r
abbrev pub newest : ℕ → Session → Option SlotRequest
newest r s = find (is_in_slot (r % 8)) s.slots

-- where the pool has the bytes of a request, as long as packets of it are to come
abbrev pub ask_of : SlotState → Option ℕ
ask_of (Taking ask) = Some ask
ask_of Working = None
ask_of (Answered answer) = None

-- whether a worker has it, or its handler runs
abbrev pub is_at_work : SlotState → Bool
is_at_work (Taking ask) = false
is_at_work Working = true
is_at_work (Answered answer) = false

-- the answer, once it is there
abbrev pub answer_of : SlotState → Option Stored
answer_of (Taking ask) = None
answer_of Working = None
answer_of (Answered answer) = Some answer

-- all packets of the request were taken, and no more than there are
pub record IsAnswered (size taken answer_size : ℕ) : Type 0 where
  pub answer : IsMessage answer_size
  pub whole : packet_count size ≤ taken
  pub known : taken + 1 ≤ packet_count size + packet_count answer_size

-- how far a request has come
abbrev pub HasCome : (size taken : ℕ) → SlotState → Type 0
HasCome size taken (Taking ask) = taken < packet_count size
HasCome size taken Working = taken ≡ packet_count size
HasCome size taken (Answered answer) = IsAnswered size taken answer.size

-- the packets of a request are taken in turn
pub record IsInTurn (q : SlotRequest) : Type 0 where
  pub size : IsMessage q.size
  pub some : 1 ≤ q.taken
  pub come : HasCome q.size q.taken q.state
  -- before its answer is there, one reply more can be counted
  pub few : answer_of q.state ≡ None → q.queued < MOST_REFERENCES

-- a slot has one newest request
pub record IsSession (s : Session) : Type 0 where
  pub number : s.number < SESSION_NUMBERS
  pub client : s.client < SESSION_NUMBERS
  pub life : Within lives s.life
  pub few : s.credits ≤ MOST_CREDITS
  pub apart : (i : ℕ) → count_by (is_in_slot i) s.slots ≤ 1
  pub in_turn : AllByRecursion IsInTurn s.slots

-- no request began
abbrev pub new_session : (number client life peer credits : ℕ) → Session
new_session number client life peer credits = record {
  number = number;
  client = client;
  life = life;
  peer = peer;
  credits = credits;
  slots = [];
}

-- whose packets the replies to a request are
abbrev pub owner_of : ℕ → SlotRequest → Owner
owner_of session q = Reply session q.number

-- those of the newest request of a slot
abbrev pub owner_in : ℕ → Session → Option Owner
owner_in slot s = option_map (owner_of s.number) (find (is_in_slot slot) s.slots)
