-- What holds of a node's lists at every moment of a run.
use Rattle.std.specs.Prelude.{◌%◌, ◌==◌, ℕ, suc, ◌≡◌, ◌+◌, ◌-◌, ◌≤◌, ◌<◌, nat_le, nat_lt, Bool}
use Rattle.std.specs.Prelude.{true, false, not, ◌&&◌, Option, Some, None, is_none, List, [], ◌∷◌}
use Rattle.std.specs.Prelude.{sum_by, count_by, length, if◌then◌else◌}
use Rattle.std.specs.List.{AllByRecursion, find}
use Rattle.packet_header.specs.Parts.{packet_count}
use Rattle.rpc_laws.specs.declared.tables.Call.{Call}
use Rattle.rpc_laws.specs.declared.tables.Client.{Client}
use Rattle.rpc_laws.specs.declared.tables.Job.{Job}
use Rattle.rpc_laws.specs.declared.tables.Lists.{Lists}
use Rattle.rpc_laws.specs.declared.tables.Progress.{Progress}
use Rattle.rpc_laws.specs.declared.tables.Served.{Served}
use Rattle.rpc_laws.specs.declared.tables.Server.{Server}
use Rattle.rpc_laws.specs.Calls.{is_call, asked_packets, known_packets}
use Rattle.rpc_laws.specs.Groups.{shares}
use Rattle.rpc_laws.specs.Jobs.{is_job}
use Rattle.rpc_laws.specs.Posting.{holds_slot}
use Rattle.rpc_laws.specs.Requests.{is_server, in_slot_of}
use Rattle.rpc_laws.specs.Sessions.{is_connected, is_live}

-- sessions are numbered in order
abbrev pub NumberedFrom : {A : Type 0} → (A → ℕ) → ℕ → List A → Type 0
NumberedFrom number n [] = Unit {0}
NumberedFrom number n (x ∷ xs) = (number x ≡ n) × NumberedFrom number (suc n) xs

-- those of the client ends
abbrev pub client_no : Client → ℕ
client_no x = x.way.number

-- how many packets of a call are unanswered
abbrev pub unanswered_of : Option Progress → ℕ
unanswered_of None = 0
unanswered_of (Some p) = p.posted - p.got

-- of all calls of a session
abbrev pub unanswered_on : Client → ℕ
unanswered_on x = sum_by (λ c. unanswered_of c.progress) x.calls

-- the answer is known from the reply to the last packet of the request on
abbrev pub ToldAfter : ℕ → ℕ → Option ℕ → Type 0
ToldAfter asked got None = got < asked
ToldAfter asked got (Some size) = asked ≤ got

-- no more is got than posted, and no more posted than is known
pub record InOrder (asked : ℕ) (p : Progress) : Type 0 where
  pub posted : p.got ≤ p.posted
  pub known : p.posted ≤ known_packets asked p.answer
  pub told : ToldAfter asked p.got p.answer

-- a waiting call is in order
abbrev pub OrderOf : ℕ → Option Progress → Type 0
OrderOf asked None = Unit {0}
OrderOf asked (Some p) = InOrder asked p

-- a call with its own packets
abbrev pub CallInOrder : Call → Type 0
CallInOrder c = OrderOf (asked_packets c.what) c.progress

-- how many active calls have a slot
abbrev pub in_slot : ℕ → List Call → ℕ
in_slot slot calls = count_by (λ c. holds_slot slot c.progress) calls

-- the credits of a live session balance, its calls are in order, and each has a slot of its own
pub record Sound (x : Client) : Type 0 where
  pub balance : is_live x.state ≡ true → unanswered_on x + x.free ≡ x.limit
  pub order : AllByRecursion CallInOrder x.calls
  pub apart : (slot : ℕ) → in_slot slot x.calls ≤ 1

-- a session counts the turns of eight slots
abbrev pub EightTurns : Client → Type 0
EightTurns x = length x.turns ≡ 8

-- a live session that isn't connected, so one that is connecting or closing, has no calls
abbrev pub Idle : Client → Type 0
Idle x = is_live x.state ≡ true → is_connected x.state ≡ false → x.calls ≡ []

-- how many calls have a number
abbrev pub holders : ℕ → List Client → ℕ
holders number xs = sum_by (λ x. count_by (is_call number) x.calls) xs

-- one where a number wasn't given out yet
abbrev pub to_come : ℕ → ℕ → ℕ
to_come asked number = if nat_le asked number then 1 else 0

-- a request whose handler didn't run and that wasn't given to a worker
abbrev pub is_due : Served → Bool
is_due q = is_none q.answer && not q.working

-- a request is run or given only once all its packets were taken
abbrev pub RunWhole : Served → Type 0
RunWhole q = is_due q ≡ false → packet_count q.size ≤ q.taken

-- the newest requests of a server session stand in slots of their own, and none is run too early
pub record SoundServer (v : Server) : Type 0 where
  pub apart : (slot : ℕ) → count_by (λ q. q.number % 8 == slot) v.slots ≤ 1
  pub whole : AllByRecursion RunWhole v.slots

-- whether something of request r may still come, by the newest request of its slot: not where that
-- one is newer, and where it is r itself as a test tells
abbrev pub left_of : (Served → Bool) → ℕ → Option Served → ℕ
left_of test r None = 1
left_of test r (Some l) =
    if nat_lt r l.number then 0 else (if nat_lt l.number r then 1 else (if test l then 1 else 0))

-- the same of a list of slots
abbrev pub left_in : (Served → Bool) → ℕ → List Served → ℕ
left_in test r qs = left_of test r (find (in_slot_of r) qs)

-- of a session that is there, and otherwise so many
abbrev pub left_on : (Served → Bool) → ℕ → ℕ → Option Server → ℕ
left_on test r other None = other
left_on test r other (Some v) = left_in test r v.slots

-- of session t, which may come where its number wasn't used, and otherwise is over where it isn't
-- there
abbrev pub left : (Served → Bool) → (t r used : ℕ) → List Server → ℕ
left test t r used servers = left_on test r (to_come used t) (find (is_server t) servers)

-- how often request r of session t may still be run or given
abbrev pub to_give : (t r used : ℕ) → List Server → ℕ
to_give t r used servers = left is_due t r used servers

-- how many jobs of request r of session t stand in a list
abbrev pub jobs_of : ℕ → ℕ → List Job → ℕ
jobs_of t r jobs = count_by (is_job t r) jobs

-- how often its handler may still run: in the event loop, or where its job is finished
abbrev pub to_run : ℕ → ℕ → Lists → ℕ
to_run t r s = to_give t r s.server_numbers s.servers + jobs_of t r s.jobs.out

-- whether no worker has a request
abbrev pub lacks_worker : Served → Bool
lacks_worker q = not q.working

-- how often a request may still come to a worker that doesn't have it, and how many jobs of it are
-- out
abbrev pub to_work : ℕ → ℕ → Lists → ℕ
to_work t r s = left lacks_worker t r s.server_numbers s.servers + jobs_of t r s.jobs.out

-- sessions are numbered in order, no call number stands twice or comes again, each session is
-- sound, only connected sessions have calls, no request may run twice, a worker has the request of
-- each job that is out where that is the newest of its slot, and the credits of the live sessions
-- are no more than the ring is long. A session that broke has its calls until each is told to be
-- over
pub record Valid (s : Lists) : Type 0 where
  pub numbered : NumberedFrom client_no 0 s.clients
  pub alone : (t : ℕ) → count_by (is_server t) s.servers + to_come s.server_numbers t ≤ 1
  pub once : (number : ℕ) → holders number s.clients + to_come s.asked number ≤ 1
  pub sound : AllByRecursion Sound s.clients
  pub idle : AllByRecursion Idle s.clients
  pub served : AllByRecursion SoundServer s.servers
  pub runs : (t r : ℕ) → to_run t r s ≤ 1
  pub works : (t r : ℕ) → to_work t r s ≤ 1
  pub shared : shares s ≤ s.room
