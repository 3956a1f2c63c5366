-- Session control in a poll: the packets of the inbox are handled, and client sessions send their
-- own requests.
use Rattle.std.specs.Prelude.{ℕ, ◌≡◌, ◌-◌, ◌==◌, ◌||◌, not, nat_lt, nat_le, Bool, Option, Some}
use Rattle.std.specs.Prelude.{None, List, [], ◌∷◌, ◌++◌, length, map, slice_get, if◌then◌else◌}
use Rattle.packet_header.specs.Header.{AreBytes, Spells}
use Rattle.packet_header.specs.declared.packet.ControlHeader.{ControlHeader}
use Rattle.packet_header.specs.declared.packet.ControlKind.TheVariants.{ConnectRequest}
use Rattle.packet_header.specs.declared.packet.ControlKind.TheVariants.{DisconnectRequest}
use Rattle.packet_header.specs.declared.packet.Packet.TheVariants.{Control as ControlPacket}
use Rattle.rpc_base.specs.declared.event.Event.{Event}
use Rattle.rpc_base.specs.declared.event.Event.TheVariants.{Heard, Sent, Unsent, FailedNoAnswer}
use Rattle.rpc_base.specs.declared.event.Event.TheVariants.{ClosedUnheard}
use Rattle.rpc_base.specs.declared.fact.Fact.{Fact}
use Rattle.rpc_base.specs.declared.owner.Owner.TheVariants.{Control}
use Rattle.rpc_base.specs.declared.state.SessionState.{SessionState}
use Rattle.rpc_base.specs.declared.state.SessionState.TheVariants.{Connecting, Closing}
use Rattle.rpc_laws.specs.declared.rows.RetryRow.{RetryRow}
use Rattle.rpc_laws.specs.declared.rows.RetryRow.TheVariants.{Rests, Asks, GivesUp}
use Rattle.rpc_laws.specs.declared.tables.Arrival.{Arrival}
use Rattle.rpc_laws.specs.declared.tables.Client.{Client}
use Rattle.rpc_laws.specs.declared.tables.Server.{Server}
use Rattle.rpc_laws.specs.declared.tables.Timed.{Timed}
use Rattle.rpc_laws.specs.declared.tables.Way.{Way}
use Rattle.rpc_laws.specs.ControlTable.{control_row, control_facts, control_reply, outdated}
use Rattle.rpc_laws.specs.ControlTable.{session_end}
use Rattle.rpc_laws.specs.Facts.{plain, with_bytes, with_two}
use Rattle.rpc_laws.specs.Front.{control_of}
use Rattle.rpc_laws.specs.GoBackN.{WatchesSession}
use Rattle.rpc_laws.specs.Steps.{Rel, Goes, Then, Until, Visits}

-- a control packet is handed to the link at once: it is Sent where the link took it, and otherwise
-- Unsent
abbrev pub control_fact : Bool → (me peer : ℕ) → List ℕ → Fact
control_fact taken me peer head =
    if taken then with_two me (Sent peer Control 0) head [] else with_bytes me (Unsent peer) head

pub record Speaks (me peer : ℕ) (h : ControlHeader) (x : List Fact) : Type 0 where
  pub taken : Bool
  pub head : List ℕ
  pub bytes : AreBytes head
  pub spells : Spells (ControlPacket h) head
  pub facts : x ≡ control_fact taken me peer head ∷ []

-- the packet that is to be sent, where there is one
abbrev pub SpeaksIf : (me peer : ℕ) → Option ControlHeader → List Fact → Type 0
SpeaksIf me peer None x = x ≡ []
SpeaksIf me peer (Some h) x = Speaks me peer h x

-- a packet is taken out of the inbox
pub record TakesControl (s : Timed) (x : List Fact) (t : Timed) : Type 0 where
  pub facts : x ≡ plain s.lists.me Heard ∷ []
  pub goes : Goes s x t

-- the first session that it outdates ends
pub record EndsOutdated (peer : ℕ) (h : ControlHeader) (s : Timed) (x : List Fact) (t : Timed)
    : Type 0 where
  pub server : Server
  pub is_outdated : outdated peer h s.lists ≡ Some server
  pub facts : x ≡ session_end s.lists.me s.lists.queued (Some server)
  pub goes : Goes s x t

-- until none is left
abbrev pub EndsAllOutdated : ℕ → ControlHeader → Rel
EndsAllOutdated peer h = Until (EndsOutdated peer h) (λ t. outdated peer h t.lists ≡ None)

-- its row is applied, and its answer is sent
pub record AnswersControl (peer : ℕ) (h : ControlHeader) (s : Timed) (x : List Fact) (t : Timed)
    : Type 0 where
  -- whether memory for a server session is wanting
  pub lacks : Bool
  pub said : List Fact
  pub speaks : SpeaksIf s.lists.me peer
      (control_reply s.lists.life h (control_row lacks peer h s.lists)) said
  pub facts : x ≡ control_facts s.lists peer h (control_row lacks peer h s.lists) ++ said
  pub goes : Goes s x t

-- the front packet of the inbox is handled: the sessions that it outdates end, and then it is
-- answered
pub record Hears (s : Timed) (x : List Fact) (t : Timed) : Type 0 where
  pub front : Arrival
  pub is_front : slice_get s.lists.inbox 0 ≡ Some front
  pub header : ControlHeader
  pub reads : control_of front.bytes ≡ Some header
  pub steps : Then TakesControl (Then (EndsAllOutdated front.peer header)
      (AnswersControl front.peer header)) s x t

-- until the inbox is empty
abbrev pub HearsAll : Rel
HearsAll = Until Hears (λ t. t.lists.inbox ≡ [])

-- a request of a session's own is sent in the first poll, and again each time that a timeout has
-- passed since the last one, nine times in all; at the next timeout the session gives up
abbrev pub retry_row : (clock timeout sends sent_at : ℕ) → RetryRow
retry_row clock timeout sends sent_at =
    if not (sends == 0 || nat_le timeout (clock - sent_at)) then Rests
    else (if nat_lt sends 9 then Asks
    else GivesUp)

-- that request, where the session has one: to connect while it is Connecting, to disconnect while
-- it is Closing
abbrev pub request_by : (own : ℕ) → SessionState → Way → (credits : ℕ) → Option ControlHeader
request_by own Connecting way credits =
    Some (record {
      kind = ConnectRequest;
      client = way.number;
      server = None;
      credits = credits;
      status = 0;
      from_life = own;
      to_life = None;
    })
request_by own Closing way credits =
    Some (record {
      kind = DisconnectRequest;
      client = way.number;
      server = Some way.other;
      credits = 0;
      status = 0;
      from_life = own;
      to_life = Some way.life;
    })
request_by own state way credits = None

abbrev pub own_request : (own : ℕ) → Client → Option ControlHeader
own_request own x = request_by own x.state x.way x.limit

-- how a session gives up
abbrev pub given_up : SessionState → ℕ → List Event
given_up Connecting number = FailedNoAnswer number ∷ []
given_up Closing number = ClosedUnheard number ∷ []
given_up state number = []

-- what a session does about its own request
abbrev pub RetriesBy : RetryRow → ℕ → Client → ControlHeader → List Fact → Type 0
RetriesBy Rests me x h facts = facts ≡ []
RetriesBy Asks me x h facts = Speaks me x.way.peer h facts
RetriesBy GivesUp me x h facts = facts ≡ map (plain me) (given_up x.state x.way.number)

abbrev pub RetriesAs : Option ControlHeader → (clock timeout me : ℕ) → Client → List Fact → Type 0
RetriesAs None clock timeout me x facts = facts ≡ []
RetriesAs (Some h) clock timeout me x facts =
    RetriesBy (retry_row clock timeout x.sends x.sent_at) me x h facts

abbrev pub RetriesOf : (clock timeout me own : ℕ) → Option Client → List Fact → Type 0
RetriesOf clock timeout me own None facts = facts ≡ []
RetriesOf clock timeout me own (Some x) facts =
    RetriesAs (own_request own x) clock timeout me x facts

pub record Retries (timeout i : ℕ) (s : Timed) (x : List Fact) (t : Timed) : Type 0 where
  pub facts : RetriesOf s.clock timeout s.lists.me s.lists.life (slice_get s.lists.clients i) x
  pub goes : Goes s x t

-- a session's own request, and then its calls
abbrev pub TimesSession : (timeout i : ℕ) → Rel
TimesSession timeout i = Then (Retries timeout i) (WatchesSession timeout i)

-- the sessions are visited in the order of their numbers
abbrev pub TimesAll : Rel
TimesAll s x t = Visits (TimesSession s.lists.timeout) (length s.lists.clients) s x t
