-- What a row of the control table leaves as it was, and what the packet is that answers it.
use Rattle.std.proofs.Common.{◌≡◌, ℕ, ◌+◌, ◌<◌, ◌≤◌, Bool, true, false, not, ◌||◌, cond, Option}
use Rattle.std.proofs.Common.{Some, None, List, [], ◌∷◌, ◌++◌, inl, inr, refl, ap, ◌∙◌, arith}
use Rattle.std.specs.Prelude.{◌==◌, IfSome, flat_map, nat_le}
use Rattle.std.specs.List.{AllByRecursion, find}
use Rattle.std.proofs.lemmas.Bool.{leb-false}
use Rattle.packet_header.specs.Header.{ControlInRange, IsServer}
use Rattle.packet_header.specs.Ranges.{Within, lives, sessions}
use Rattle.packet_header.specs.declared.packet.ControlHeader.{ControlHeader}
use Rattle.packet_header.specs.declared.packet.ControlKind.{ControlKind}
use Rattle.packet_header.specs.declared.packet.ControlKind.TheVariants.{ConnectRequest}
use Rattle.packet_header.specs.declared.packet.ControlKind.TheVariants.{ConnectReply}
use Rattle.packet_header.specs.declared.packet.ControlKind.TheVariants.{DisconnectRequest}
use Rattle.packet_header.specs.declared.packet.ControlKind.TheVariants.{DisconnectReply}
use Rattle.rpc_base.specs.Tables.{at_first}
use Rattle.rpc_base.specs.declared.event.Event.{Event}
use Rattle.rpc_base.specs.declared.event.Event.TheVariants.{Accepted, ClosedHeard, Declined, Ended}
use Rattle.rpc_base.specs.declared.event.Event.TheVariants.{Connected as IsConnected, FailedNoRoom}
use Rattle.rpc_base.specs.declared.event.Event.TheVariants.{Flushed, Starved}
use Rattle.rpc_base.specs.declared.fact.Fact.{Fact}
use Rattle.rpc_base.specs.declared.limits.TheConstants.{SESSION_NUMBERS}
use Rattle.rpc_base.specs.declared.owner.Owner.{Owner}
use Rattle.rpc_base.specs.declared.state.SessionState.{SessionState}
use Rattle.rpc_base.specs.declared.state.SessionState.TheVariants.{Broken, Closed, Closing}
use Rattle.rpc_base.specs.declared.state.SessionState.TheVariants.{Connected, Connecting, Failed}
use Rattle.rpc_base.specs.declared.state.SessionState.TheVariants.{Spent, Unknown}
use Rattle.rpc_base.proofs.FirstLemmas.{all-left, all-push, found-holds}
use Rattle.rpc_laws.specs.declared.rows.ControlRow.{ControlRow}
use Rattle.rpc_laws.specs.declared.rows.ControlRow.TheVariants.{Accepts, Closes, Confirms, Connects}
use Rattle.rpc_laws.specs.declared.rows.ControlRow.TheVariants.{Declines, Disowns, Ends, Fails}
use Rattle.rpc_laws.specs.declared.rows.ControlRow.TheVariants.{Ignores, Misses, Starves}
use Rattle.rpc_laws.specs.declared.tables.Client.{Client}
use Rattle.rpc_laws.specs.declared.tables.Lists.{Lists}
use Rattle.rpc_laws.specs.declared.tables.Queued.{Queued}
use Rattle.rpc_laws.specs.declared.tables.Server.{Server}
use Rattle.rpc_laws.specs.declared.tables.Way.{Way}
use Rattle.rpc_laws.specs.ControlTable.{closed_row, confirm_row, control_facts, control_reply}
use Rattle.rpc_laws.specs.ControlTable.{control_row, control_row_of, end_row, is_end_of, is_for}
use Rattle.rpc_laws.specs.ControlTable.{is_named, is_stale, joined_row}
use Rattle.rpc_laws.specs.ControlTable.{named_end, opened_row, over_row, refused_row, reply_row}
use Rattle.rpc_laws.specs.ControlTable.{session_end, session_flushes}
use Rattle.rpc_laws.specs.Facts.{plain}
use Rattle.rpc_laws.specs.Groups.{has_no_room, servers_spent}
use Rattle.rpc_laws.specs.NodeLists.{after, after_all}
use Rattle.rpc_laws.specs.Requests.{in_slot_of, is_server, server_end}
use Rattle.rpc_laws.specs.ServerTable.{flushes}
use Rattle.rpc_laws.specs.Sessions.{clients_told, is_client, is_request_of, is_with, requests}
use Rattle.rpc_laws.proofs.RunLemmas.{after_all-append}
use Rattle.node_laws.proofs.FlushLemmas.{no-more-same, slots-flushed}
use Rattle.node_laws.proofs.ControlLemmas.{unless-disowns}
use Rattle.rpc_outside.specs.declared.service.Mode.{Mode}
use Rattle.node_steps.specs.Fits.{HasCredit, IsCredit}
use Rattle.node_steps.specs.Lacks.{is_lack, lacks_in}
use Rattle.node_steps.specs.Requests.{AllServed, SlotsServed}
use Rattle.node_steps.proofs.NoteStill.{AllStill, still-append}
use Rattle.node_steps.proofs.NoteCounts.{flushes-none, many-none}

-- each slot of a session
abbrev slots : List ℕ
slots = 0 ∷ 1 ∷ 2 ∷ 3 ∷ 4 ∷ 5 ∷ 6 ∷ 7 ∷ []

-- an event that no row notes
pub record IsSilent (q : Event → Bool) : Type 0 where
  pub flushed : (o : Owner) (k : ℕ) → q (Flushed o k) ≡ false
  pub ended : (t : ℕ) → q (Ended t) ≡ false
  pub declined : (peer client credits : ℕ) → q (Declined peer client credits) ≡ false
  pub starved : (peer client credits : ℕ) → q (Starved peer client credits) ≡ false
  pub accepted : (t peer client credits life : ℕ) → q (Accepted t peer client credits life) ≡ false
  pub connected : (client t life : ℕ) → q (IsConnected client t life) ≡ false
  pub failed : (client : ℕ) → q (FailedNoRoom client) ≡ false
  pub closed : (client : ℕ) → q (ClosedHeard client) ≡ false

module _ (q : Event → Bool) (flushed : (o : Owner) (k : ℕ) → q (Flushed o k) ≡ false)
    (ended : (t : ℕ) → q (Ended t) ≡ false) where
  slots-still : (me : ℕ) (queued : List Queued) (v : Server) (ns : List ℕ)
      → AllStill q (flat_map (λ n. flushes me queued v.way.number (find (in_slot_of n) v.slots)) ns)
  slots-still me queued v [] = tt
  slots-still me queued v (n ∷ ns) =
      still-append q (flushes me queued v.way.number (find (in_slot_of n) v.slots))
      (flat_map (λ m. flushes me queued v.way.number (find (in_slot_of m) v.slots)) ns)
      (flushes-none q flushed me queued v.way.number (find (in_slot_of n) v.slots))
      (slots-still me queued v ns)

  pub end-still : (me : ℕ) (queued : List Queued) (o : Option Server)
      → AllStill q (session_end me queued o)
  end-still me queued None = tt
  end-still me queued (Some v) =
      still-append q (session_flushes me queued v) (plain me (Ended v.way.number) ∷ [])
      (slots-still me queued v slots) (ended v.way.number, tt)

module _ (q : Event → Bool) (silent : IsSilent q) where
  pub row-still : (s : Lists) (peer : ℕ) (h : ControlHeader) (row : ControlRow)
      → AllStill q (control_facts s peer h row)
  row-still s peer h Ignores = tt
  row-still s peer h (Confirms t credits) = tt
  row-still s peer h Declines = (silent.declined peer h.client h.credits, tt)
  row-still s peer h Starves = (silent.starved peer h.client h.credits, tt)
  row-still s peer h (Accepts t) = (silent.accepted t peer h.client h.credits h.from_life, tt)
  row-still s peer h Ends =
      end-still q silent.flushed silent.ended s.me s.queued
      (named_end peer h.client h.from_life h.server s.servers)
  row-still s peer h Misses = tt
  row-still s peer h (Connects t) = (silent.connected h.client t h.from_life, tt)
  row-still s peer h Disowns = tt
  row-still s peer h Fails = (silent.failed h.client, tt)
  row-still s peer h Closes = (silent.closed h.client, tt)

-- how many refusals of memory a row tells
abbrev pub row_lacks : ControlRow → ℕ
row_lacks Starves = 1
row_lacks row = 0

pub lacks-row : (s : Lists) (peer : ℕ) (h : ControlHeader) (row : ControlRow)
    → lacks_in (control_facts s peer h row) ≡ row_lacks row
lacks-row s peer h Ignores = refl
lacks-row s peer h (Confirms t credits) = refl
lacks-row s peer h Declines = refl
lacks-row s peer h Starves = refl
lacks-row s peer h (Accepts t) = refl
lacks-row s peer h Ends =
    let end = named_end peer h.client h.from_life h.server s.servers in
    many-none is_lack (session_end s.me s.queued end)
    (end-still is_lack (λ o k. refl) (λ t. refl) s.me s.queued end)
lacks-row s peer h Misses = refl
lacks-row s peer h (Connects t) = refl
lacks-row s peer h Disowns = refl
lacks-row s peer h Fails = refl
lacks-row s peer h Closes = refl

-- the receive ring stays, and so do the requests of the server sessions that are left
pub record StaysBut (s t : Lists) : Type 0 where
  pub ring : t.ring ≡ s.ring
  pub served : (mode : ℕ → Mode) → AllServed mode s.servers → AllServed mode t.servers

pub end-stays : (clock : ℕ) (s : Lists) (me : ℕ) (o : Option Server)
    → StaysBut s (after_all clock s (session_end me s.queued o))
end-stays clock s me None = record { ring = refl; served = λ mode all. all }
end-stays clock s me (Some v) =
    let all = slots-flushed clock s me s.queued v slots (no-more-same s.queued) in
    let end : Fact = plain me (Ended v.way.number) in
    let same : after_all clock s (session_flushes me s.queued v ++ end ∷ [])
    ≡ after clock (record s { queued = all.flushes.queue }) end =
    after_all-append clock s (session_flushes me s.queued v) (end ∷ [])
    ∙ ap (λ (l : Lists). after clock l end) all.flushes.same in
    record {
      ring = ap (λ (l : Lists). l.ring) same;
      served = λ mode each. rw (ap (λ (l : Lists). l.servers) same)
          (all-left (is_server v.way.number) (SlotsServed mode) s.servers each);
    }

pub row-stays : (clock : ℕ) (s : Lists) (peer : ℕ) (h : ControlHeader) (row : ControlRow)
    → StaysBut s (after_all clock s (control_facts s peer h row))
row-stays clock s peer h Ignores = record { ring = refl; served = λ mode all. all }
row-stays clock s peer h (Confirms t credits) = record { ring = refl; served = λ mode all. all }
row-stays clock s peer h Declines = record { ring = refl; served = λ mode all. all }
row-stays clock s peer h Starves = record { ring = refl; served = λ mode all. all }
row-stays clock s peer h (Accepts t) = record {
  ring = refl;
  served = λ mode all. all-push (SlotsServed mode) s.servers
      (server_end t peer h.client h.credits h.from_life) all tt;
}
row-stays clock s peer h Ends =
    end-stays clock s s.me (named_end peer h.client h.from_life h.server s.servers)
row-stays clock s peer h Misses = record { ring = refl; served = λ mode all. all }
row-stays clock s peer h (Connects t) = record { ring = refl; served = λ mode all. all }
row-stays clock s peer h Disowns = record { ring = refl; served = λ mode all. all }
row-stays clock s peer h Fails = record { ring = refl; served = λ mode all. all }
row-stays clock s peer h Closes = record { ring = refl; served = λ mode all. all }

-- what the fields of an answer are taken from is in range
abbrev RowInRange : ControlHeader → ControlRow → Type 0
RowInRange h (Confirms t credits) = (t < SESSION_NUMBERS) × IsCredit credits
RowInRange h (Accepts t) = (t < SESSION_NUMBERS) × IsCredit h.credits
RowInRange h Declines = IsCredit h.credits
RowInRange h Ends = IsServer true h.server
RowInRange h Misses = IsServer true h.server
RowInRange h Disowns = IsServer true h.server
RowInRange h _ = Unit {0}

some-same : {A : Type 0} (a b : A) → Some a ≡ Some b → a ≡ b
some-same a b e = cc

is-session : (t : ℕ) → t < SESSION_NUMBERS → Within sessions t
is-session t below = (omega arith, omega (arith, below))

reply-in-range : (own : ℕ) (h r : ControlHeader) (row : ControlRow) → Within lives own
    → Within lives h.from_life → Within sessions h.client → RowInRange h row
    → Some r ≡ control_reply own h row → ControlInRange r
reply-in-range own h r Ignores mine theirs client range e = cc
reply-in-range own h r (Confirms t credits) mine theirs client range e = rw (some-same r _ e) (record {
  client = client;
  server = is-session t range.0;
  credits = range.1;
  status = inl refl;
  from_life = mine;
  to_life = theirs;
})
reply-in-range own h r Declines mine theirs client range e = rw (some-same r _ e) (record {
  client = client;
  server = tt;
  credits = range;
  status = inr refl;
  from_life = mine;
  to_life = theirs;
})
reply-in-range own h r Starves mine theirs client range e = cc
reply-in-range own h r (Accepts t) mine theirs client range e = rw (some-same r _ e) (record {
  client = client;
  server = is-session t range.0;
  credits = range.1;
  status = inl refl;
  from_life = mine;
  to_life = theirs;
})
reply-in-range own h r Ends mine theirs client range e = rw (some-same r _ e) (record {
  client = client;
  server = range;
  credits = (omega arith, omega arith);
  status = inl refl;
  from_life = mine;
  to_life = theirs;
})
reply-in-range own h r Misses mine theirs client range e = rw (some-same r _ e) (record {
  client = client;
  server = range;
  credits = (omega arith, omega arith);
  status = inr refl;
  from_life = mine;
  to_life = theirs;
})
reply-in-range own h r (Connects t) mine theirs client range e = cc
reply-in-range own h r Disowns mine theirs client range e = rw (some-same r _ e) (record {
  client = client;
  server = range;
  credits = (omega arith, omega arith);
  status = inl refl;
  from_life = mine;
  to_life = theirs;
})
reply-in-range own h r Fails mine theirs client range e = cc
reply-in-range own h r Closes mine theirs client range e = cc

-- the number and the credits of a server session are in range
abbrev IsNamed : Server → Type 0
IsNamed v = (v.way.number < SESSION_NUMBERS) × IsCredit v.credits

new-in-range : (h : ControlHeader) (n : ℕ) (full spent lacks : Bool)
    → nat_le SESSION_NUMBERS n ≡ spent → IsCredit h.credits
    → RowInRange h (cond (full || spent) Declines (cond lacks Starves (Accepts n)))
new-in-range h n true spent lacks e range = range
new-in-range h n false true lacks e range = range
new-in-range h n false false true e range = tt
new-in-range h n false false false e range = (leb-false SESSION_NUMBERS n e, range)

confirm-in-range : (lacks : Bool) (h : ControlHeader) (s : Lists) (o : Option Server)
    → IfSome o IsNamed → IsCredit h.credits → RowInRange h (confirm_row lacks h s o)
confirm-in-range lacks h s None named range =
    new-in-range h s.server_numbers (has_no_room h.credits s) (servers_spent s) lacks refl range
confirm-in-range lacks h s (Some v) named range = named

end-in-range : (h : ControlHeader) (o : Option Server) → IsServer true h.server
    → RowInRange h (end_row o)
end-in-range h None range = range
end-in-range h (Some v) range = range

-- a server session that a reply names
is-server : (b : Bool) (t : ℕ) → IsServer b (Some t) → IsServer true (Some t)
is-server true t range = range
is-server false t range = absurd range

unless-in-range : (h : ControlHeader) (b : Bool) → IsServer true h.server
    → RowInRange h (cond b Ignores Disowns)
unless-in-range h true range = tt
unless-in-range h false range = range

connects-in-range : (h : ControlHeader) (b : Bool) (t : ℕ)
    → RowInRange h (cond b (Connects t) Ignores)
connects-in-range h true t = tt
connects-in-range h false t = tt

joined-in-range : (h : ControlHeader) (state : SessionState) (its : Bool) (limit t credits : ℕ)
    → IsServer true h.server → RowInRange h (joined_row state its limit t credits)
joined-in-range h Connecting its limit t credits range = connects-in-range h (credits == limit) t
joined-in-range h Connected its limit t credits range = unless-in-range h its range
joined-in-range h Spent its limit t credits range = unless-in-range h its range
joined-in-range h Closing its limit t credits range = unless-in-range h its range
joined-in-range h Unknown its limit t credits range = range
joined-in-range h Closed its limit t credits range = range
joined-in-range h Failed its limit t credits range = range
joined-in-range h Broken its limit t credits range = range

refused-in-range : (h : ControlHeader) (state : SessionState) → RowInRange h (refused_row state)
refused-in-range h Connecting = tt
refused-in-range h Unknown = tt
refused-in-range h Connected = tt
refused-in-range h Closing = tt
refused-in-range h Closed = tt
refused-in-range h Failed = tt
refused-in-range h Broken = tt
refused-in-range h Spent = tt

reply-row-in-range : (h : ControlHeader) (b : Bool) (server : Option ℕ) (x : Client)
    → h.server ≡ server → IsServer b server
    → RowInRange h (reply_row server h.from_life h.credits x)
reply-row-in-range h b None x e range = refused-in-range h x.state
reply-row-in-range h b (Some t) x e range =
    joined-in-range h x.state (is_with t h.from_life x.way) x.limit t h.credits
    (rw e (is-server b t range))

closes-in-range : (h : ControlHeader) (b : Bool) → RowInRange h (cond b Closes Ignores)
closes-in-range h true = tt
closes-in-range h false = tt

over-in-range : (h : ControlHeader) (state : SessionState) (its : Bool)
    → RowInRange h (over_row state its)
over-in-range h Closing its = closes-in-range h its
over-in-range h Unknown its = tt
over-in-range h Connecting its = tt
over-in-range h Connected its = tt
over-in-range h Closed its = tt
over-in-range h Failed its = tt
over-in-range h Broken its = tt
over-in-range h Spent its = tt

-- a packet that has no effect
own-in-range : (h : ControlHeader) (row : ControlRow) (b : Bool) → RowInRange h row
    → RowInRange h (cond b row Ignores)
own-in-range h row true range = range
own-in-range h row false range = tt

stale-in-range : (h : ControlHeader) (row : ControlRow) (b : Bool) → RowInRange h row
    → RowInRange h (cond b Ignores row)
stale-in-range h row true range = tt
stale-in-range h row false range = range

opened-in-range : (h : ControlHeader) (row : Client → ControlRow) (peer : ℕ) (o : Option Client)
    → ((x : Client) → RowInRange h (row x)) → RowInRange h (opened_row row peer o)
opened-in-range h row peer None each = tt
opened-in-range h row peer (Some x) each = by (not (x.way.peer == peer))
  where
    by : (b : Bool) → RowInRange h (cond b Ignores (row x))
    by true = tt
    by false = each x

-- each kind of packet
abbrev HasRange : ControlKind → ControlHeader → Type 0
HasRange ConnectRequest h = IsCredit h.credits
HasRange ConnectReply h = IsServer (not (h.status == 1)) h.server
HasRange DisconnectRequest h = IsServer true h.server
HasRange DisconnectReply h = Unit {0}

has-range : (kind : ControlKind) (h : ControlHeader) → h.kind ≡ kind → ControlInRange h
    → HasRange kind h
has-range ConnectRequest h e range = let own = rw e at range.credits in own
has-range ConnectReply h e range = let own = rw e at range.server in own
has-range DisconnectRequest h e range = let own = rw e at range.server in own
has-range DisconnectReply h e range = tt

found-if : (p : Server → Bool) (vs : List Server) → AllByRecursion IsNamed vs
    → IfSome (find p vs) IsNamed
found-if p vs all = by (find p vs) refl
  where
    by : (o : Option Server) → find p vs ≡ o → IfSome o IsNamed
    by None e = tt
    by (Some v) e = found-holds p IsNamed vs v all e

module _ (lacks : Bool) (peer : ℕ) (h : ControlHeader) (s : Lists)
    (all : AllByRecursion IsNamed s.servers) where
  kind-in-range : (kind : ControlKind) → HasRange kind h
      → RowInRange h (control_row_of kind lacks peer h s)
  kind-in-range ConnectRequest range =
      let ends = is_end_of peer h.client h.from_life in
      stale-in-range h (confirm_row lacks h s (find ends s.servers)) (is_stale peer h s)
      (confirm-in-range lacks h s (find ends s.servers) (found-if ends s.servers all) range)
  kind-in-range ConnectReply range =
      own-in-range h _ (is_for s.life h.to_life)
      (opened-in-range h (reply_row h.server h.from_life h.credits) peer
      (find (is_client h.client) s.clients)
      (λ x. reply-row-in-range h (not (h.status == 1)) h.server x refl range))
  kind-in-range DisconnectRequest range =
      own-in-range h _ (is_for s.life h.to_life)
      (end-in-range h (named_end peer h.client h.from_life h.server s.servers) range)
  kind-in-range DisconnectReply range =
      own-in-range h _ (is_for s.life h.to_life)
      (opened-in-range h (closed_row h.server h.from_life) peer
      (find (is_client h.client) s.clients)
      (λ x. over-in-range h x.state (is_named h.server h.from_life x.way)))

  -- the packet that answers one in range is in range
  pub answer-in-range : (own : ℕ) (r : ControlHeader) → Within lives own → ControlInRange h
      → Some r ≡ control_reply own h (control_row lacks peer h s) → ControlInRange r
  answer-in-range own r mine range e =
      reply-in-range own h r (control_row lacks peer h s) mine range.from_life range.client
      (kind-in-range h.kind (has-range h.kind h refl range)) e

-- no answer is a client session's own request
at_first-same : {A : Type 0} (p : A → Bool) (f : A → A) (xs : List A)
    → IfSome (find p xs) (λ x. f x ≡ x) → at_first p f xs ≡ xs
at_first-same p f [] h = refl
at_first-same p f (x ∷ xs) h = by (p x) h (λ g. at_first-same p f xs g)
  where
    by : (b : Bool) → IfSome (cond b (Some x) (find p xs)) (λ y. f y ≡ y)
        → (IfSome (find p xs) (λ y. f y ≡ y) → at_first p f xs ≡ xs)
        → cond b (f x ∷ xs) (x ∷ at_first p f xs) ≡ x ∷ xs
    by true g rest = ap (λ y. y ∷ xs) g
    by false g rest = ap (λ ys. x ∷ ys) (rest g)

each-if : {A : Type 0} (P : A → Type 0) (o : Option A) → ((x : A) → P x) → IfSome o P
each-if P None each = tt
each-if P (Some x) each = each x

connects-never : (b : Bool) (t : ℕ) → cond b (Connects t) Ignores ≡ Disowns → ⊥
connects-never true t e = cc
connects-never false t e = cc

-- a session that disowns a server session isn't Closing with it
joined-disowns : (state : SessionState) (way : Way) (limit t life credits : ℕ)
    → joined_row state (is_with t life way) limit t credits ≡ Disowns
    → is_request_of DisconnectRequest (Some t) (Some life) state way ≡ false
joined-disowns Connecting way limit t life credits e =
    absurd (connects-never (credits == limit) t e)
joined-disowns Connected way limit t life credits e = refl
joined-disowns Spent way limit t life credits e = refl
joined-disowns Closing way limit t life credits e = unless-disowns (is_with t life way) e
joined-disowns Unknown way limit t life credits e = refl
joined-disowns Closed way limit t life credits e = refl
joined-disowns Failed way limit t life credits e = refl
joined-disowns Broken way limit t life credits e = refl

none-asked : (state : SessionState) (way : Way) (life : ℕ)
    → is_request_of DisconnectRequest None (Some life) state way ≡ false
none-asked Connecting way life = refl
none-asked Connected way life = refl
none-asked Spent way life = refl
none-asked Closing way life = refl
none-asked Unknown way life = refl
none-asked Closed way life = refl
none-asked Failed way life = refl
none-asked Broken way life = refl

reply-disowns : (server : Option ℕ) (life credits : ℕ) (x : Client)
    → reply_row server life credits x ≡ Disowns
    → is_request_of DisconnectRequest server (Some life) x.state x.way ≡ false
reply-disowns None life credits x e = none-asked x.state x.way life
reply-disowns (Some t) life credits x e = joined-disowns x.state x.way x.limit t life credits e

over-never : (state : SessionState) (its : Bool) → over_row state its ≡ Disowns → ⊥
over-never Closing true e = cc
over-never Closing false e = cc
over-never Unknown its e = cc
over-never Connecting its e = cc
over-never Connected its e = cc
over-never Closed its e = cc
over-never Failed its e = cc
over-never Broken its e = cc
over-never Spent its e = cc

confirm-never : (lacks : Bool) (h : ControlHeader) (s : Lists) (o : Option Server)
    → confirm_row lacks h s o ≡ Disowns → ⊥
confirm-never lacks h s (Some v) e = cc
confirm-never lacks h s None e = by (has_no_room h.credits s || servers_spent s) lacks e
  where
    by : (b c : Bool) → cond b Declines (cond c Starves (Accepts s.server_numbers)) ≡ Disowns → ⊥
    by true c f = cc
    by false true f = cc
    by false false f = cc

end-never : (o : Option Server) → end_row o ≡ Disowns → ⊥
end-never None e = cc
end-never (Some v) e = cc

-- where a packet is disowned, its session has no such request of its own
abbrev NotOwn : ControlHeader → Client → Type 0
NotOwn h x = is_request_of DisconnectRequest h.server (Some h.from_life) x.state x.way ≡ false

opened-disowns : (h : ControlHeader) (row : Client → ControlRow) (peer : ℕ) (o : Option Client)
    → ((x : Client) → row x ≡ Disowns → NotOwn h x) → opened_row row peer o ≡ Disowns
    → IfSome o (NotOwn h)
opened-disowns h row peer None each e = tt
opened-disowns h row peer (Some x) each e = by (not (x.way.peer == peer)) e
  where
    by : (b : Bool) → cond b Ignores (row x) ≡ Disowns → NotOwn h x
    by true f = cc
    by false f = each x f

-- a packet that has no effect isn't disowned
own-disowns : (row : ControlRow) (b : Bool) → cond b row Ignores ≡ Disowns → row ≡ Disowns
own-disowns row true e = e
own-disowns row false e = cc

stale-disowns : (row : ControlRow) (b : Bool) → cond b Ignores row ≡ Disowns → row ≡ Disowns
stale-disowns row true e = cc
stale-disowns row false e = e

kind-disowns : (lacks : Bool) (peer : ℕ) (h : ControlHeader) (s : Lists) (kind : ControlKind)
    → control_row_of kind lacks peer h s ≡ Disowns
    → IfSome (find (is_client h.client) s.clients) (NotOwn h)
kind-disowns lacks peer h s ConnectRequest e =
    let ends = find (is_end_of peer h.client h.from_life) s.servers in
    absurd (confirm-never lacks h s ends
    (stale-disowns (confirm_row lacks h s ends) (is_stale peer h s) e))
kind-disowns lacks peer h s DisconnectRequest e =
    let named = named_end peer h.client h.from_life h.server s.servers in
    absurd (end-never named (own-disowns (end_row named) (is_for s.life h.to_life) e))
kind-disowns lacks peer h s ConnectReply e =
    opened-disowns h (reply_row h.server h.from_life h.credits) peer
    (find (is_client h.client) s.clients)
    (λ x. reply-disowns h.server h.from_life h.credits x)
    (own-disowns _ (is_for s.life h.to_life) e)
kind-disowns lacks peer h s DisconnectReply e =
    opened-disowns h (closed_row h.server h.from_life) peer (find (is_client h.client) s.clients)
    (λ x f. absurd (over-never x.state (is_named h.server h.from_life x.way) f))
    (own-disowns _ (is_for s.life h.to_life) e)

-- so the client sessions stay where the answer is sent
requests-none : (clock : ℕ) (r : ControlHeader) (x : Client)
    → is_request_of r.kind r.server r.to_life x.state x.way ≡ false → requests clock r x ≡ x
requests-none clock r x e = rw e refl

reply-told : (clock : ℕ) (r : ControlHeader) (xs : List Client) → r.kind ≡ ConnectReply
    → clients_told clock (Some r) xs ≡ xs
reply-told clock r xs e =
    at_first-same (is_client r.client) (requests clock r) xs
    (each-if (λ x. requests clock r x ≡ x) (find (is_client r.client) xs)
    (λ x. requests-none clock r x (rw e refl)))

over-told : (clock : ℕ) (r : ControlHeader) (xs : List Client) → r.kind ≡ DisconnectReply
    → clients_told clock (Some r) xs ≡ xs
over-told clock r xs e =
    at_first-same (is_client r.client) (requests clock r) xs
    (each-if (λ x. requests clock r x ≡ x) (find (is_client r.client) xs)
    (λ x. requests-none clock r x (rw e refl)))

module _ (clock : ℕ) (peer own : ℕ) (h r : ControlHeader) (s : Lists) where
  disown-told : Some r ≡ control_reply own h Disowns
      → IfSome (find (is_client h.client) s.clients) (NotOwn h)
      → clients_told clock (Some r) s.clients ≡ s.clients
  disown-told e none =
      rw (some-same r _ e) (at_first-same (is_client h.client) _ s.clients
      (by (find (is_client h.client) s.clients) none))
    where
      by : (o : Option Client) → IfSome o (NotOwn h)
          → IfSome o (λ x. cond (is_request_of DisconnectRequest h.server (Some h.from_life)
          x.state x.way) (record x { sends = x.sends + 1; sent_at = clock }) x ≡ x)
      by None n = tt
      by (Some x) n = rw n refl

  pub answer-told : (row : ControlRow)
      → (row ≡ Disowns → IfSome (find (is_client h.client) s.clients) (NotOwn h))
      → Some r ≡ control_reply own h row
      → clients_told clock (Some r) (after_all clock s (control_facts s peer h row)).clients
      ≡ (after_all clock s (control_facts s peer h row)).clients
  answer-told Ignores none e = cc
  answer-told (Confirms t credits) none e =
      reply-told clock r _ (ap (λ (q : ControlHeader). q.kind) (some-same r _ e))
  answer-told Declines none e =
      reply-told clock r _ (ap (λ (q : ControlHeader). q.kind) (some-same r _ e))
  answer-told Starves none e = cc
  answer-told (Accepts t) none e =
      reply-told clock r _ (ap (λ (q : ControlHeader). q.kind) (some-same r _ e))
  answer-told Ends none e =
      over-told clock r _ (ap (λ (q : ControlHeader). q.kind) (some-same r _ e))
  answer-told Misses none e =
      over-told clock r _ (ap (λ (q : ControlHeader). q.kind) (some-same r _ e))
  answer-told (Connects t) none e = cc
  answer-told Disowns none e = disown-told e (none refl)
  answer-told Fails none e = cc
  answer-told Closes none e = cc

pub row-told : (clock : ℕ) (lacks : Bool) (peer own : ℕ) (h r : ControlHeader) (s : Lists)
    → Some r ≡ control_reply own h (control_row lacks peer h s)
    → clients_told clock (Some r) (after_all clock s
    (control_facts s peer h (control_row lacks peer h s))).clients
    ≡ (after_all clock s (control_facts s peer h (control_row lacks peer h s))).clients
row-told clock lacks peer own h r s e =
    answer-told clock peer own h r s (control_row lacks peer h s)
    (kind-disowns lacks peer h s h.kind) e

-- what always holds of the server sessions says that what they are named by is in range
pub named-all : (used : ℕ) (vs : List Server) → used ≤ SESSION_NUMBERS
    → AllByRecursion (λ v. v.way.number < used) vs → AllByRecursion HasCredit vs
    → AllByRecursion IsNamed vs
named-all used [] few below credits = tt
named-all used (v ∷ vs) few below credits =
    ((omega (arith, few, below.0), credits.0), named-all used vs few below.1 credits.1)
