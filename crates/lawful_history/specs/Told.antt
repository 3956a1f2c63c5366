-- What the facts so far tell of sessions and calls, each by the newest fact that tells of it; and
-- by that whether the next fact is of a call, on its own bytes. The facts stand with the newest
-- first. Sessions and calls are an endpoint's.
use Rattle.std.specs.Prelude.{ℕ, ◌==◌, ◌&&◌, ◌||◌, nat_lt, Bool, true, false, Option, Some, None}
use Rattle.std.specs.Prelude.{List, [], ◌∷◌}
use Rattle.std.specs.Prelude.{length, is_some, option_and_then, option_map, if◌then◌else◌}
use Rattle.std.specs.Str.{bytes_eq}
use Rattle.rpc_base.specs.declared.event.Event.{Event}
use Rattle.rpc_base.specs.declared.event.Event.TheVariants.{Accepted, Asked, Begun, Connected}
use Rattle.rpc_base.specs.declared.event.Event.TheVariants.{DoneOk}
use Rattle.rpc_base.specs.declared.event.Event.TheVariants.{DoneTooSmall, Opened, PairedClient}
use Rattle.rpc_base.specs.declared.event.Event.TheVariants.{PairedServer, Ran}
use Rattle.rpc_base.specs.declared.fact.Who.{Who}
use Rattle.rpc_base.specs.declared.fact.Who.TheVariants.{Node}
use Rattle.rpc_laws.specs.AtMostOnce.{is_at}
use Rattle.rpc_laws.specs.Endpoints.{Endpoint, Lived}

abbrev pub or_told : {A : Type 0} → Option A → Option A → Option A
or_told None other = other
or_told (Some a) other = Some a

-- what the newest fact tells that tells something; each is asked with the facts before it
abbrev pub newest : {A : Type 0} → (List Lived → Lived → Option A) → List Lived → Option A
newest tell [] = None
newest tell (f ∷ past) = or_told (tell past f) (newest tell past)

-- whether a fact is an endpoint's
abbrev pub is_of : Endpoint → Lived → Bool
is_of n f = is_at n.node f.fact.who && f.life == n.life

-- a fact of endpoint n, by its event
abbrev pub at_end : {A : Type 0} → Endpoint → (Event → Option A) → List Lived → Lived → Option A
at_end n tell past f = if is_of n f then tell f.fact.event else None

-- an end of a session, client or server
pub record SessionEnd : Type 0 where
  pub at : Endpoint
  pub session : ℕ

abbrev pub named : (peer life session : ℕ) → SessionEnd
named peer life session =
    record { at = record { node = peer; life = life }; session = session }

-- for which client session server session t of endpoint m was made
abbrev pub server_by : ℕ → Event → Option SessionEnd
server_by t (PairedServer session peer client credits life) =
    if session == t then Some (named peer life client) else None
server_by t (Accepted session peer client credits life) =
    if session == t then Some (named peer life client) else None
server_by t _ = None

abbrev pub server_of : Endpoint → (t : ℕ) → List Lived → Option SessionEnd
server_of m t past = newest (at_end m (server_by t)) past

-- with which server session of which peer client session s of endpoint n was paired
abbrev pub paired_by : ℕ → Event → Option SessionEnd
paired_by s (PairedClient session peer other credits life) =
    if session == s then Some (named peer life other) else None
paired_by s _ = None

abbrev pub paired_of : Endpoint → (s : ℕ) → List Lived → Option SessionEnd
paired_of n s past = newest (at_end n (paired_by s)) past

-- to which peer it was opened
abbrev pub opened_by : ℕ → Event → Option ℕ
opened_by s (Opened session peer credits) = if session == s then Some peer else None
opened_by s _ = None

abbrev pub opened_of : Endpoint → (s : ℕ) → List Lived → Option ℕ
opened_of n s past = newest (at_end n (opened_by s)) past

-- and with which server session, in which life of that peer, it was connected then
pub record Joining : Type 0 where
  pub session : ℕ
  pub life : ℕ

abbrev pub connected_by : ℕ → Event → Option Joining
connected_by s (Connected session other life) =
    if session == s then Some (record { session = other; life = life }) else None
connected_by s _ = None

abbrev pub connected_of : Endpoint → (s : ℕ) → List Lived → Option Joining
connected_of n s past = newest (at_end n (connected_by s)) past

-- what a call asks
pub record Ask : Type 0 where
  pub session : ℕ
  pub req_type : ℕ
  pub room : ℕ
  pub bytes : List ℕ

abbrev pub ask_event : ℕ → Event → List ℕ → Option Ask
ask_event c (Asked call session req_type room) bytes =
    if call == c then Some (record {
      session = session;
      req_type = req_type;
      room = room;
      bytes = bytes;
    }) else None
ask_event c _ bytes = None

abbrev pub ask_by : Endpoint → (c : ℕ) → List Lived → Lived → Option Ask
ask_by n c past f = if is_of n f then ask_event c f.fact.event f.fact.first else None

abbrev pub ask_of : Endpoint → (c : ℕ) → List Lived → Option Ask
ask_of n c past = newest (ask_by n c) past

abbrev pub is_on : ℕ → Option Ask → Bool
is_on s None = false
is_on s (Some ask) = ask.session == s

-- which call of client session s of endpoint n began as request r
abbrev pub call_event : Endpoint → (s r : ℕ) → List Lived → Event → Option ℕ
call_event n s r past (Begun call request) =
    if request == r && is_on s (ask_of n call past) then Some call else None
call_event n s r past _ = None

abbrev pub call_by : Endpoint → (s r : ℕ) → List Lived → Lived → Option ℕ
call_by n s r past f = if is_of n f then call_event n s r past f.fact.event else None

abbrev pub call_of : Endpoint → (s r : ℕ) → List Lived → Option ℕ
call_of n s r past = newest (call_by n s r) past

-- a call of an endpoint and a session
pub record NodeCall : Type 0 where
  pub at : Endpoint
  pub session : ℕ
  pub call : ℕ

abbrev pub is_number : ℕ → Option ℕ → Bool
is_number k None = false
is_number k (Some n) = n == k

abbrev pub is_joining : (t life : ℕ) → Option Joining → Bool
is_joining t life None = false
is_joining t life (Some joining) = joining.session == t && joining.life == life

abbrev pub is_endpoint : Endpoint → Endpoint → Bool
is_endpoint n m = n.node == m.node && n.life == m.life

abbrev pub is_end : Endpoint → (t : ℕ) → Option SessionEnd → Bool
is_end m t None = false
is_end m t (Some end) = is_endpoint end.at m && end.session == t

-- whether a client session was paired with session t of peer m, or opened to m's node and connected
-- with t of m
abbrev pub is_joined : Endpoint → (s : ℕ) → Endpoint → (t : ℕ) → List Lived → Bool
is_joined n s m t past =
    is_end m t (paired_of n s past)
    || (is_number m.node (opened_of n s past) && is_joining t m.life (connected_of n s past))

abbrev pub call_on : SessionEnd → Option ℕ → Option NodeCall
call_on c call = option_map (λ k. record { at = c.at; session = c.session; call = k }) call

abbrev pub run_on : Endpoint → (t r : ℕ) → List Lived → SessionEnd → Option NodeCall
run_on m t r past c =
    if is_joined c.at c.session m t past
    then call_on c (call_of c.at c.session r past)
    else None

-- which call request r of server session t of endpoint m is
abbrev pub run_of : Endpoint → (t r : ℕ) → List Lived → Option NodeCall
run_of m t r past = option_and_then (run_on m t r past) (server_of m t past)

-- whether a call asks this, on this session
abbrev pub asks_this : (session req_type : ℕ) → List ℕ → Option Ask → Bool
asks_this session req_type bytes None = false
asks_this session req_type bytes (Some ask) =
    ask.session == session && ask.req_type == req_type && bytes_eq ask.bytes bytes

abbrev pub asks_so : (req_type : ℕ) → List ℕ → List Lived → Option NodeCall → Bool
asks_so req_type bytes past None = false
asks_so req_type bytes past (Some k) =
    asks_this k.session req_type bytes (ask_of k.at k.call past)

-- an answer, and the room that its call has for it
pub record Answer : Type 0 where
  pub room : ℕ
  pub bytes : List ℕ

abbrev pub answer_to : List ℕ → Ask → Answer
answer_to bytes ask = record { room = ask.room; bytes = bytes }

abbrev pub is_call_of : Endpoint → (c : ℕ) → NodeCall → Bool
is_call_of n c k = is_endpoint k.at n && k.call == c

abbrev pub answer_on : Endpoint → (c req_type : ℕ) → (first second : List ℕ) → List Lived
    → Option NodeCall → Option Answer
answer_on n c req_type first second past None = None
answer_on n c req_type first second past (Some k) =
    if is_call_of n c k && asks_so req_type first past (Some k)
    then option_map (answer_to second) (ask_of k.at k.call past) else None

-- what the handler of call c of endpoint n answered: of a Ran on the call's own type and bytes, of
-- a node in this life
abbrev pub answer_event : Endpoint → (c : ℕ) → List Lived → (life : ℕ) → Who → Event
    → (first second : List ℕ) → Option Answer
answer_event n c past life (Node m) (Ran t r req_type) first second =
    answer_on n c req_type first second past (run_of (record { node = m; life = life }) t r past)
answer_event n c past life _ _ first second = None

abbrev pub answer_by : Endpoint → (c : ℕ) → List Lived → Lived → Option Answer
answer_by n c past f =
    answer_event n c past f.life f.fact.who f.fact.event f.fact.first f.fact.second

abbrev pub answer_of : Endpoint → (c : ℕ) → List Lived → Option Answer
answer_of n c past = newest (answer_by n c) past

abbrev pub has_bytes : List ℕ → Option Answer → Bool
has_bytes bytes None = false
has_bytes bytes (Some answer) = bytes_eq answer.bytes bytes

-- an answer of so many bytes is larger than its room
abbrev pub is_too_large : ℕ → Option Answer → Bool
is_too_large size None = false
is_too_large size (Some answer) = length answer.bytes == size && nat_lt answer.room size

-- whether a fact of endpoint n is of a call, as the facts so far tell: a call that begins was
-- asked, a handler runs on its call's type and bytes, a call that ends Ok has its handler's answer,
-- and one that ends TooSmall has one of that size, above its room
abbrev pub is_own : List Lived → Endpoint → Event → (first : List ℕ) → Bool
is_own past n (Begun c r) first = is_some (ask_of n c past)
is_own past n (Ran t r req_type) first = asks_so req_type first past (run_of n t r past)
is_own past n (DoneOk c) first = has_bytes first (answer_of n c past)
is_own past n (DoneTooSmall c size) first = is_too_large size (answer_of n c past)
is_own past n _ first = true
