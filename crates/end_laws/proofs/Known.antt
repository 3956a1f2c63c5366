-- What is known of both ends of each session: who is at the ends, which calls were asked, and which began.
use Rattle.std.proofs.Common.{◌++◌, ◌≡◌, ◌<◌, ◌≤◌, ◌+◌, ◌-◌, ◌*◌, ◌==◌, ◌&&◌, ℕ, Bool}
use Rattle.std.proofs.Common.{true, false}
use Rattle.std.proofs.Common.{cond, List, [], ◌∷◌, length, take, Option, Some, None, refl, arith}
use Rattle.std.proofs.Common.{eq-eqb, Contains, ap, ◌∙◌, ◌⊎◌}
use Rattle.std.specs.Prelude.{slice_get, ◌%◌, IfSome}
use Rattle.std.specs.List.{find, AllByRecursion}
use Rattle.std.proofs.lemmas.Bool.{eqb-true, and_parts}
use Rattle.std.proofs.lemmas.List.Elements.{Contains-append_right}
use Rattle.packet_header.specs.Parts.{part}
use Rattle.packet_header.specs.Reading.{message_of, body_of}
use Rattle.packet_header.specs.declared.packet.ControlHeader.{ControlHeader}
use Rattle.packet_header.specs.declared.packet.ControlKind.{ControlKind}
use Rattle.packet_header.specs.declared.packet.ControlKind.TheVariants.{ConnectReply}
use Rattle.packet_header.specs.declared.packet.Kind.{Kind}
use Rattle.packet_header.specs.declared.packet.Kind.TheVariants.{Request, Rfr, Cr, Response}
use Rattle.packet_header.specs.declared.packet.MessageHeader.{MessageHeader}
use Rattle.rpc_base.specs.declared.event.Event.TheVariants.{Asked, Begun, Opened, Ran}
use Rattle.rpc_base.specs.declared.state.SessionState.{SessionState}
use Rattle.rpc_base.specs.declared.state.SessionState.TheVariants.{Connecting, Failed}
use Rattle.rpc_laws.specs.declared.tables.Asking.{Asking}
use Rattle.rpc_laws.specs.declared.tables.Call.{Call}
use Rattle.rpc_laws.specs.declared.tables.Client.{Client}
use Rattle.rpc_laws.specs.declared.tables.Job.{Job}
use Rattle.rpc_laws.specs.declared.tables.Lists.{Lists}
use Rattle.rpc_laws.specs.declared.tables.Progress.{Progress}
use Rattle.rpc_laws.specs.declared.tables.Served.{Served}
use Rattle.rpc_laws.specs.declared.tables.Server.{Server}
use Rattle.rpc_laws.specs.declared.tables.Way.{Way}
use Rattle.rpc_laws.specs.Calls.{asked_packets}
use Rattle.rpc_laws.specs.Endpoints.{Endpoint, Lived, noted, noted_two, noted_with}
use Rattle.rpc_laws.specs.Front.{control_of}
use Rattle.rpc_laws.specs.OwnAnswer.{AreEnds, IsClientEnd, IsServerEnd}
use Rattle.rpc_laws.specs.Posting.{next_turn}
use Rattle.rpc_laws.specs.Requests.{is_server}
use Rattle.node_laws.specs.Valid.{to_run}
use Rattle.end_laws.specs.Genuine.{Travels}
use Rattle.end_laws.specs.Handshakes.{IsMade}
use Rattle.end_laws.specs.Moments.{Moment}
use Rattle.end_laws.specs.TwoEnds.{here, is_away, peer_of}
use Rattle.end_laws.proofs.ListLemmas.{Placed}

-- the client end of a session, and its credits
pub record End : Type 0 where
  pub home : Endpoint
  pub client : ℕ
  pub credits : ℕ

-- a call and its session
pub record Asker : Type 0 where
  pub session : ℕ
  pub what : Asking

-- a call that began, and the way of its session
pub record Begin : Type 0 where
  pub way : Way
  pub what : Asking

-- a request that ran: its type and bytes, and the answer
pub record Run : Type 0 where
  pub req_type : ℕ
  pub ask : List ℕ
  pub answer : List ℕ

-- at most one entry for an endpoint and two numbers
abbrev pub Log : Type 0 → Type 0
Log A = Endpoint → ℕ → ℕ → Option A

-- whether two endpoints are one
abbrev pub is_same : Endpoint → Endpoint → Bool
is_same a b = a.node == b.node && a.life == b.life

pub same-endpoint : (a b : Endpoint) → is_same a b ≡ true → a ≡ b
same-endpoint a b t =
    let parts = and_parts (a.node == b.node) (a.life == b.life) t in
    let node = eqb-true a.node b.node parts.0 in
    let life = eqb-true a.life b.life parts.1 in
    ap (λ (n : ℕ). record { node = n; life = a.life }) node
    ∙ ap (λ (n : ℕ). record { node = b.node; life = n }) life

pub same-here : (a : Endpoint) → is_same a a ≡ true
same-here a = rw (eq-eqb a.node a.node refl, eq-eqb a.life a.life refl) refl

-- ends by server node and session; asks by node and call; starts by client node, session and request; runs by
-- server node, session and request
pub record Known : Type 0 where
  pub past : List Lived
  pub ends : Log End
  pub asks : Log Asker
  pub starts : Log Begin
  pub runs : Log Run

-- one entry more
abbrev pub added : {A : Type 0} → Log A → Endpoint → ℕ → ℕ → A → Log A
added g a b c x i j k = cond (is_same i a && (j == b && k == c)) (Some x) (g i j k)

module _ {A : Type 0} (g : Log A) (a : Endpoint) (b c : ℕ) (x : A) where
  pub added-here : added g a b c x a b c ≡ Some x
  added-here = rw (same-here a, eq-eqb b b refl, eq-eqb c c refl) refl

  keys-same : (i : Endpoint) (j k : ℕ) → (is_same i a && (j == b && k == c)) ≡ true → (i ≡ a) × (j ≡ b) × (k ≡ c)
  keys-same i j k t =
      let one = and_parts (is_same i a) (j == b && k == c) t in
      let two = and_parts (j == b) (k == c) one.1 in
      (same-endpoint i a one.0, eqb-true j b two.0, eqb-true k c two.1)

  keeps-by : (i : Endpoint) (j k : ℕ) (y : A) (t : Bool) → (is_same i a && (j == b && k == c)) ≡ t → g a b c ≡ None
      → g i j k ≡ Some y → cond t (Some x) (g i j k) ≡ Some y
  keeps-by i j k y true e none h =
      let s = keys-same i j k e in
      let i_is : i ≡ a = s.0 in
      let j_is : j ≡ b = s.1 in
      let k_is : k ≡ c = s.2 in
      let again : g i j k ≡ g a b c = cc in
      cc
  keeps-by i j k y false e none h = h

  pub added-keeps : (i : Endpoint) (j k : ℕ) (y : A) → g a b c ≡ None → g i j k ≡ Some y → added g a b c x i j k ≡ Some y
  added-keeps i j k y none h = keeps-by i j k y _ refl none h

  none-by : (i : Endpoint) (j k : ℕ) (t : Bool) → (is_same i a && (j == b && k == c)) ≡ t
      → ((i ≡ a) → (j ≡ b) → (k ≡ c) → ⊥) → g i j k ≡ None → cond t (Some x) (g i j k) ≡ None
  none-by i j k true e other h = let s = keys-same i j k e in absurd (other s.0 s.1 s.2)
  none-by i j k false e other h = h

  pub added-none : (i : Endpoint) (j k : ℕ) → ((i ≡ a) → (j ≡ b) → (k ≡ c) → ⊥) → g i j k ≡ None → added g a b c x i j k ≡ None
  added-none i j k other h = none-by i j k _ refl other h

  case-by : (Q : Endpoint → ℕ → ℕ → A → Type 0) (i : Endpoint) (j k : ℕ) (y : A) (t : Bool)
      → (is_same i a && (j == b && k == c)) ≡ t → Q a b c x → (g i j k ≡ Some y → Q i j k y)
      → cond t (Some x) (g i j k) ≡ Some y → Q i j k y
  case-by Q i j k y true e here others h =
      let s = keys-same i j k e in
      let same : x ≡ y = cc in
      rw (s.0, s.1, s.2, ← same) here
  case-by Q i j k y false e here others h = others h

  -- a claim of each entry
  pub added-case : (Q : Endpoint → ℕ → ℕ → A → Type 0) → Q a b c x
      → ((i : Endpoint) (j k : ℕ) (y : A) → g i j k ≡ Some y → Q i j k y) → (i : Endpoint) (j k : ℕ) (y : A)
      → added g a b c x i j k ≡ Some y → Q i j k y
  added-case Q here others i j k y h = case-by Q i j k y _ refl here (others i j k y) h

-- what is known stays known
pub record Later (j k : Known) : Type 0 where
  pub past : (f : Lived) → Contains j.past f → Contains k.past f
  pub ends : (a : Endpoint) (b c : ℕ) (x : End) → j.ends a b c ≡ Some x → k.ends a b c ≡ Some x
  pub asks : (a : Endpoint) (b c : ℕ) (x : Asker) → j.asks a b c ≡ Some x → k.asks a b c ≡ Some x
  pub starts : (a : Endpoint) (b c : ℕ) (x : Begin) → j.starts a b c ≡ Some x → k.starts a b c ≡ Some x
  pub runs : (a : Endpoint) (b c : ℕ) (x : Run) → j.runs a b c ≡ Some x → k.runs a b c ≡ Some x

pub contains-here : (f : Lived) (past : List Lived) → Contains (f ∷ past) f
contains-here f past = (0, omega arith, refl)

pub contains-more : (f g : Lived) (past : List Lived) → Contains past g → Contains (f ∷ past) g
contains-more f g past h = Contains-append_right (f ∷ []) past g h

-- one fact more
abbrev pub noting : Known → Lived → Known
noting k f = record { past = f ∷ k.past; ends = k.ends; asks = k.asks; starts = k.starts; runs = k.runs }

pub later-noting : (k : Known) (f : Lived) → Later k (noting k f)
later-noting k f = record {
  past = λ g h. contains-more f g k.past h;
  ends = λ a b c x h. h;
  asks = λ a b c x h. h;
  starts = λ a b c x h. h;
  runs = λ a b c x h. h;
}

-- the handler ran for a request, and gave this answer
abbrev pub HasRun : Known → Endpoint → (session request : ℕ) → Asking → List ℕ → Type 0
HasRun k node session request a answer =
    k.runs node session request ≡ Some (record { req_type = a.req_type; ask = a.ask; answer = answer })

-- a Request is a part of a call that began
pub record SaysRequest (k : Known) (from to : ℕ) (h : MessageHeader) (body : List ℕ) : Type 0 where
  pub life : ℕ
  pub session : ℕ
  pub start : Begin
  pub begun : k.starts (record { node = from; life = life }) session h.request ≡ Some start
  pub way : start.way
      ≡ record { number = session; peer = to; other = h.session; life = h.to_life }
  pub credits : ℕ
  pub end : k.ends (record { node = to; life = h.to_life }) h.session 0 ≡ Some (record {
    home = record { node = from; life = life };
    client = session;
    credits = credits;
  })
  pub req_type : h.req_type ≡ start.what.req_type
  pub size : h.size ≡ length start.what.ask
  pub piece : body ≡ part start.what.ask h.number

-- a request for a response is for a session of its sender
pub record SaysAsk (k : Known) (from to : ℕ) (h : MessageHeader) : Type 0 where
  pub life : ℕ
  pub session : ℕ
  pub credits : ℕ
  pub end : k.ends (record { node = to; life = h.to_life }) h.session 0 ≡ Some (record {
    home = record { node = from; life = life };
    client = session;
    credits = credits;
  })

-- a credit return is from the peer of a call that began
pub record SaysCredit (k : Known) (from to : ℕ) (h : MessageHeader) : Type 0 where
  pub start : Begin
  pub begun : k.starts (record { node = to; life = h.to_life }) h.session h.request ≡ Some start
  pub peer : from ≡ start.way.peer

-- a Response is a part of the answer to a call that began
pub record SaysResponse (k : Known) (from to : ℕ) (h : MessageHeader) (body : List ℕ) : Type 0 where
  pub start : Begin
  pub begun : k.starts (record { node = to; life = h.to_life }) h.session h.request ≡ Some start
  pub peer : from ≡ start.way.peer
  pub answer : List ℕ
  pub ran : HasRun k (peer_of start.way) start.way.other h.request start.what answer
  pub size : h.size ≡ length answer
  pub piece : body ≡ part answer (h.number + 1 - asked_packets start.what)

abbrev pub Says : Kind → Known → (from to : ℕ) → MessageHeader → List ℕ → Type 0
Says Request k from to h body = SaysRequest k from to h body
Says Rfr k from to h body = SaysAsk k from to h
Says Cr k from to h body = SaysCredit k from to h
Says Response k from to h body = SaysResponse k from to h body

-- a server session was made for this end, with so many credits
pub record IsSession (k : Known) (m : Endpoint) (t : ℕ) (n : Endpoint) (s credits : ℕ) : Type 0 where
  pub end : k.ends m t 0 ≡ Some (record { home = n; client = s; credits = credits })
  pub made : IsMade k.past m t n s credits

-- a connect reply names such a session, or has another status than 0; it goes to a life
abbrev pub RepliesBy : (server to_life : Option ℕ) → Known → Endpoint → (to client credits status : ℕ) → Type 0
RepliesBy None life k from to client credits status = status ≡ 0 → ⊥
RepliesBy (Some t) None k from to client credits status = ⊥
RepliesBy (Some t) (Some life) k from to client credits status =
    IsSession k from t (record { node = to; life = life }) client credits

abbrev pub Tells : ControlKind → Known → (from to : ℕ) → ControlHeader → Type 0
Tells ConnectReply k from to h =
    RepliesBy h.server h.to_life k (record { node = from; life = h.from_life }) to h.client
    h.credits h.status
Tells _ k from to h = Unit {0}

-- what a datagram says is so
abbrev pub Speaks : Known → (from to : ℕ) → List ℕ → Type 0
Speaks k from to bytes = IfSome (message_of bytes) (λ h. Says h.kind k from to h (body_of bytes))
    × IfSome (control_of bytes) (λ h. Tells h.kind k from to h)

-- the parts of an answer that a call has taken
pub record HasParts (k : Known) (way : Way) (a : Asking) (request got : ℕ) (parts : List ℕ) (size : ℕ) : Type 0 where
  pub answer : List ℕ
  pub ran : HasRun k (peer_of way) way.other request a answer
  pub sized : size ≡ length answer
  pub reached : asked_packets a ≤ got
  pub taken : parts ≡ take (1024 * (got + 1 - asked_packets a)) answer

abbrev pub GoodAnswer : Known → Way → Asking → (request got : ℕ) → List ℕ → Option ℕ → Type 0
GoodAnswer k way a request got parts None = (parts ≡ []) × (got < asked_packets a)
GoodAnswer k way a request got parts (Some size) = HasParts k way a request got parts size

pub record GoodProgress (k : Known) (n : Endpoint) (way : Way) (a : Asking) (p : Progress) : Type 0 where
  pub begun : k.starts n way.number p.request ≡ Some (record { way = way; what = a })
  pub answer : GoodAnswer k way a p.request p.got p.parts p.answer

pub record GoodCall (k : Known) (n : Endpoint) (way : Way) (c : Call) : Type 0 where
  pub logged : k.asks n c.what.number 0 ≡ Some (record { session = way.number; what = c.what })
  pub progress : IfSome c.progress (GoodProgress k n way c.what)

-- no request with such a number, or a later one of its slot, has begun
abbrev pub IsFresh : Known → Endpoint → ℕ → List ℕ → Type 0
IsFresh k n s turns = (r : ℕ) → next_turn turns (r % 8) ≤ r → k.starts n s r ≡ None

-- whether a session was connected, or paired
abbrev pub is_joined : SessionState → Bool
is_joined Connecting = false
is_joined Failed = false
is_joined _ = true

-- its other end is known
pub record IsJoined (k : Known) (n : Endpoint) (i : ℕ) (x : Client) : Type 0 where
  pub end : k.ends (peer_of x.way) x.way.other 0
      ≡ Some (record { home = n; client = i; credits = x.limit })
  pub client : IsClientEnd k.past n i (peer_of x.way) x.way.other

-- it was opened, and has no calls
pub record IsUnjoined (k : Known) (n : Endpoint) (i : ℕ) (x : Client) : Type 0 where
  pub opened : Contains k.past (noted n (Opened i x.way.peer x.limit))
  pub idle : x.calls ≡ []

abbrev pub Tied : Bool → Known → Endpoint → ℕ → Client → Type 0
Tied true k n i x = IsJoined k n i x
Tied false k n i x = IsUnjoined k n i x

pub record GoodClient (k : Known) (n : Endpoint) (i : ℕ) (x : Client) : Type 0 where
  pub number : x.way.number ≡ i
  pub tied : Tied (is_joined x.state) k n i x
  pub eight : length x.turns ≡ 8
  pub fresh : IsFresh k n i x.turns
  pub calls : AllByRecursion (GoodCall k n x.way) x.calls

-- a request in its slot is of a call that began
pub record GoodServed (k : Known) (m : Endpoint) (way : Way) (q : Served) : Type 0 where
  pub start : Begin
  pub begun : k.starts (peer_of way) way.other q.number ≡ Some start
  pub way_is : start.way
      ≡ record { number = way.other; peer = m.node; other = way.number; life = m.life }
  pub req_type : q.req_type ≡ start.what.req_type
  pub size : q.size ≡ length start.what.ask
  pub ask : q.ask ≡ cond (is_away q) [] (take (1024 * q.taken) start.what.ask)
  pub answer : IfSome q.answer (HasRun k m way.number q.number start.what)

pub record GoodServer (k : Known) (m : Endpoint) (v : Server) : Type 0 where
  pub session : IsSession k m v.way.number (peer_of v.way) v.way.other v.credits
  pub slots : AllByRecursion (GoodServed k m v.way) v.slots

-- a job is of a call that began, and has its bytes
pub record GoodJob (k : Known) (m : Endpoint) (job : Job) : Type 0 where
  pub end : End
  pub is_end : k.ends m job.session 0 ≡ Some end
  pub start : Begin
  pub begun : k.starts end.home end.client job.request ≡ Some start
  pub way_is : start.way
      ≡ record { number = end.client; peer = m.node; other = job.session; life = m.life }
  pub req_type : job.req_type ≡ start.what.req_type
  pub own : job.ask ≡ start.what.ask

-- a call began on a session that is joined, and still has its way
pub record StartOf (xs : List Client) (s : ℕ) (b : Begin) : Type 0 where
  pub client : Client
  pub is_there : slice_get xs s ≡ Some client
  pub joined : is_joined client.state ≡ true
  pub way : client.way ≡ b.way

-- of what a node has not made nothing is known, nor the run of a request that may still run
pub record GoodNode (k : Known) (n : Endpoint) (l : Lists) : Type 0 where
  pub clients : Placed (GoodClient k n) l.clients
  pub servers : AllByRecursion (GoodServer k n) l.servers
  pub jobs : AllByRecursion (GoodJob k n) l.jobs.out
  pub no_asks : (c : ℕ) → l.asked ≤ c → k.asks n c 0 ≡ None
  pub no_ends : (t : ℕ) → l.server_numbers ≤ t → k.ends n t 0 ≡ None
  pub no_starts : (s r : ℕ) → length l.clients ≤ s → k.starts n s r ≡ None
  pub begun : (s r : ℕ) (b : Begin) → k.starts n s r ≡ Some b → StartOf l.clients s b
  pub no_runs : (t r : ℕ) → 1 ≤ to_run t r l → k.runs n t r ≡ None

-- what is known was noted
pub record TrueStart (past : List Lived) (n : Endpoint) (s r : ℕ) (b : Begin) : Type 0 where
  pub number : b.way.number ≡ s
  pub ends : AreEnds past n s (peer_of b.way) b.way.other
  pub asked : Contains past (noted_with n (Asked b.what.number s b.what.req_type b.what.room) b.what.ask)
  pub begun : Contains past (noted n (Begun b.what.number r))

pub record TrueAsk (past : List Lived) (n : Endpoint) (c zero : ℕ) (a : Asker) : Type 0 where
  pub number : a.what.number ≡ c
  pub asked : Contains past (noted_with n (Asked c a.session a.what.req_type a.what.room) a.what.ask)

abbrev pub TrueEnd : List Lived → Endpoint → ℕ → ℕ → End → Type 0
TrueEnd past m t i e = IsServerEnd past e.home e.client m t

-- a run was noted, and when it was its call had been asked and begun
pub record TrueRun (k : Known) (m : Endpoint) (t r : ℕ) (x : Run) : Type 0 where
  pub later : List Lived
  pub earlier : List Lived
  pub stands : k.past ≡ later ++ noted_two m (Ran t r x.req_type) x.ask x.answer ∷ earlier
  pub end : End
  pub is_end : k.ends m t 0 ≡ Some end
  pub start : Begin
  pub begun : k.starts end.home end.client r ≡ Some start
  pub true_start : TrueStart earlier end.home end.client r start

pub record IsTrue (k : Known) : Type 0 where
  pub ends : (a : Endpoint) (b c : ℕ) (x : End) → k.ends a b c ≡ Some x → TrueEnd k.past a b c x
  pub asks : (a : Endpoint) (b c : ℕ) (x : Asker) → k.asks a b c ≡ Some x → TrueAsk k.past a b c x
  pub starts : (a : Endpoint) (b c : ℕ) (x : Begin) → k.starts a b c ≡ Some x → TrueStart k.past a b c x
  pub runs : (a : Endpoint) (b c : ℕ) (x : Run) → k.runs a b c ≡ Some x → TrueRun k a b c x

-- server session t of node m is there
pub record LiveAt (nodes : List Lists) (m t : ℕ) : Type 0 where
  pub lists : Lists
  pub is_node : slice_get nodes m ≡ Some lists
  pub server : Server
  pub found : find (is_server t) lists.servers ≡ Some server

-- an endpoint that isn't made yet: its node isn't, or is in an older life
abbrev pub IsAhead : List Lists → Endpoint → Type 0
IsAhead nodes n =
    (length nodes ≤ n.node) ⊎ ((l : Lists) × (slice_get nodes n.node ≡ Some l) × (l.life < n.life))

-- of endpoints that aren't made nothing is known
pub record Unmade (k : Known) (nodes : List Lists) : Type 0 where
  pub asks : (n : Endpoint) (c : ℕ) → IsAhead nodes n → k.asks n c 0 ≡ None
  pub ends : (n : Endpoint) (t : ℕ) → IsAhead nodes n → k.ends n t 0 ≡ None
  pub starts : (n : Endpoint) (s r : ℕ) → IsAhead nodes n → k.starts n s r ≡ None
  pub runs : (n : Endpoint) (t r : ℕ) → IsAhead nodes n → k.runs n t r ≡ None

pub record Good (w : Moment) : Type 0 where
  pub known : Known
  pub past : known.past ≡ w.past
  pub nodes : Placed (λ n l. GoodNode known (here n l) l) w.nodes
  pub travels : Travels (Speaks known) w
  pub is_true : IsTrue known
  pub unmade : Unmade known w.nodes
