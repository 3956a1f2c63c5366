-- No packet tells of a clock: nodes that note the same facts at other clocks send the same.
use Rattle.std.proofs.Common.{◌≡◌, ℕ, ◌+◌, Bool, true, false, ◌==◌, ◌||◌, cond, Option, Some, None, List, []}
use Rattle.std.proofs.Common.{◌∷◌, ◌++◌, refl, sym, ap, ap₂, ◌∙◌, subst}
use Rattle.std.specs.Prelude.{map, nat_le, nat_lt, option_map, sum_by}
use Rattle.std.specs.List.{find}
use Rattle.std.proofs.lemmas.List.Sums.{sum_by-cons}
use Rattle.packet_header.specs.declared.packet.ControlHeader.{ControlHeader}
use Rattle.packet_header.specs.declared.packet.ControlKind.TheVariants.{DisconnectReply}
use Rattle.packet_header.specs.declared.packet.ControlKind.TheVariants.{DisconnectRequest}
use Rattle.packet_header.specs.declared.packet.MessageHeader.{MessageHeader}
use Rattle.rpc_base.specs.Tables.{at_first}
use Rattle.rpc_base.specs.declared.event.Event.{Event}
use Rattle.rpc_base.specs.declared.event.Event.TheVariants.{Opened, PairedClient}
use Rattle.rpc_base.specs.declared.event.Event.TheVariants.{Connected as IsConnected, FailedNoRoom}
use Rattle.rpc_base.specs.declared.event.Event.TheVariants.{FailedNoAnswer}
use Rattle.rpc_base.specs.declared.event.Event.TheVariants.{Closing as BeginsClosing, ClosedHeard}
use Rattle.rpc_base.specs.declared.event.Event.TheVariants.{ClosedUnheard, Asked, Begun, Posted}
use Rattle.rpc_base.specs.declared.event.Event.TheVariants.{Sent, Took, Rolled, Broken, DoneOk}
use Rattle.rpc_base.specs.declared.event.Event.TheVariants.{DoneTooSmall, DonePeerLost}
use Rattle.rpc_base.specs.declared.fact.Fact.{Fact}
use Rattle.rpc_base.specs.declared.limits.TheConstants.{SESSION_NUMBERS}
use Rattle.rpc_base.specs.declared.owner.Owner.{Owner}
use Rattle.rpc_base.specs.declared.owner.Owner.TheVariants.{Ask, Reply, Control}
use Rattle.rpc_base.specs.declared.state.SessionState.TheVariants.{Closed, Closing, Failed}
use Rattle.rpc_laws.specs.declared.tables.Asking.{Asking}
use Rattle.rpc_laws.specs.declared.tables.Call.{Call}
use Rattle.rpc_laws.specs.declared.tables.Client.{Client}
use Rattle.rpc_laws.specs.declared.tables.Lists.{Lists}
use Rattle.rpc_laws.specs.declared.tables.Progress.{Progress}
use Rattle.rpc_laws.specs.declared.tables.Server.{Server}
use Rattle.rpc_laws.specs.BufferSafety.{IsOpened, OwnControl, SentRight, SpellsOwn, TakesNoSession}
use Rattle.rpc_laws.specs.ControlSteps.{own_request}
use Rattle.rpc_laws.specs.ControlTable.{connect_reply}
use Rattle.rpc_laws.specs.ControlTable.{disconnect_as}
use Rattle.rpc_laws.specs.ControlTable.{reply_row}
use Rattle.rpc_laws.specs.Calls.{begun, is_active, is_call, is_response, has_request, moved}
use Rattle.rpc_laws.specs.Calls.{posted_up_to, rolled_back, sent_packet, took_reply}
use Rattle.rpc_laws.specs.Front.{control_of, front_header, front_body}
use Rattle.rpc_laws.specs.Groups.{has_no_room, live_credits, servers_spent, shares}
use Rattle.rpc_laws.specs.NodeLists.{after}
use Rattle.rpc_laws.specs.Packets.{ask_packet, call_packet, owner_packet}
use Rattle.rpc_laws.specs.Requests.{server_numbers_after}
use Rattle.rpc_laws.specs.Sessions.{asks, begins, breaks, client_end, clients_after, clients_told}
use Rattle.rpc_laws.specs.Sessions.{comes_to, connects, ends, has_call, is_client, is_request_of}
use Rattle.rpc_laws.specs.Sessions.{opened_end, posts, requests, rolls, sends, takes}
use Rattle.node_laws.proofs.ImageLemmas.{any-map, map-each, map-left}

-- progress, calls and client sessions without their clocks
abbrev pub unmarked : Progress → Progress
unmarked p = record p { mark = 0 }

abbrev pub bare_call : Call → Call
bare_call c = record c { progress = option_map unmarked c.progress }

abbrev pub bare : Client → Client
bare x = record x { sent_at = 0; calls = map bare_call x.calls }

-- what is found of an image
module _ {A B : Type 0} (v : A → B) (p : A → Bool) (q : B → Bool) (same : (x : A) → q (v x) ≡ p x) where
  find-by : (x : A) (xs : List A) (b : Bool) → find q (map v xs) ≡ option_map v (find p xs)
      → cond b (Some (v x)) (find q (map v xs)) ≡ option_map v (cond b (Some x) (find p xs))
  find-by x xs true ih = refl
  find-by x xs false ih = ih

  pub find-map : (xs : List A) → find q (map v xs) ≡ option_map v (find p xs)
  find-map [] = refl
  find-map (x ∷ xs) = rw (same x) (find-by x xs (p x) (find-map xs))

map-push : {A B : Type 0} (v : A → B) (xs : List A) (y : A) → map v (xs ++ y ∷ []) ≡ map v xs ++ v y ∷ []
map-push v [] y = refl
map-push v (x ∷ xs) y = ap (λ zs. v x ∷ zs) (map-push v xs y)

-- calls
active-same : (r : ℕ) (c : Call) → is_active r (bare_call c) ≡ is_active r c
active-same r c = by c.progress
  where
    by : (o : Option Progress) → has_request r (option_map unmarked o) ≡ has_request r o
    by None = refl
    by (Some p) = refl

moved-same : (f g : Progress → Progress) → ((p : Progress) → unmarked (f p) ≡ g (unmarked p))
    → (c : Call) → bare_call (moved f c) ≡ moved g (bare_call c)
moved-same f g same c = ap (λ o. record c { progress = o }) (by c.progress)
  where
    by : (o : Option Progress)
        → option_map unmarked (option_map f o) ≡ option_map g (option_map unmarked o)
    by None = refl
    by (Some p) = ap Some (same p)

sent-same : (clock k : ℕ) (p : Progress)
    → unmarked (sent_packet clock k p) ≡ sent_packet 0 k (unmarked p)
sent-same clock k p = by (p.got == k)
  where
    by : (b : Bool) → unmarked (cond b (record p { mark = clock }) p)
        ≡ cond b (record (unmarked p) { mark = 0 }) (unmarked p)
    by true = refl
    by false = refl

took-same : (clock : ℕ) (head : Option MessageHeader) (body : List ℕ) (p : Progress)
    → unmarked (took_reply clock head body p) ≡ took_reply 0 head body (unmarked p)
took-same clock None body p = refl
took-same clock (Some h) body p = by (is_response h.kind)
  where
    by : (b : Bool)
        → unmarked (record (cond b (record p {
          got = p.got + 1;
          answer = Some h.size;
          parts = p.parts ++ body;
        }) (record p { got = p.got + 1 })) { rolls = 0; mark = clock })
        ≡ record (cond b (record (unmarked p) {
          got = p.got + 1;
          answer = Some h.size;
          parts = p.parts ++ body;
        }) (record (unmarked p) { got = p.got + 1 })) { rolls = 0; mark = 0 }
    by true = refl
    by false = refl

active-moved : (f g : Progress → Progress) → ((p : Progress) → unmarked (f p) ≡ g (unmarked p))
    → (r : ℕ) (cs : List Call)
    → map bare_call (at_first (is_active r) (moved f) cs)
    ≡ at_first (is_active r) (moved g) (map bare_call cs)
active-moved f g same r cs =
    sym (map-each bare_call (is_active r) (is_active r) (active-same r) (moved f) (moved g) cs
    (moved-same f g same))

numbered-moved : (f g : Progress → Progress) → ((p : Progress) → unmarked (f p) ≡ g (unmarked p))
    → (n : ℕ) (cs : List Call)
    → map bare_call (at_first (is_call n) (moved f) cs)
    ≡ at_first (is_call n) (moved g) (map bare_call cs)
numbered-moved f g same n cs =
    sym (map-each bare_call (is_call n) (is_call n) (λ c. refl) (moved f) (moved g) cs
    (moved-same f g same))

-- client sessions
has-same : (n : ℕ) (x : Client) → has_call n (bare x) ≡ has_call n x
has-same n x = any-map bare_call (is_call n) (is_call n) (λ c. refl) x.calls

requests-same : (clock : ℕ) (h : ControlHeader) (x : Client)
    → bare (requests clock h x) ≡ requests 0 h (bare x)
requests-same clock h x = by (is_request_of h.kind h.server h.to_life x.state x.way)
  where
    by : (b : Bool) → bare (cond b (record x { sends = x.sends + 1; sent_at = clock }) x)
        ≡ cond b (record (bare x) { sends = x.sends + 1; sent_at = 0 }) (bare x)
    by true = refl
    by false = refl

told-same : (clock : ℕ) (o : Option ControlHeader) (xs : List Client)
    → map bare (clients_told clock o xs) ≡ clients_told 0 o (map bare xs)
told-same clock None xs = refl
told-same clock (Some h) xs =
    sym (map-each bare (is_client h.client) (is_client h.client) (λ x. refl) (requests clock h)
    (requests 0 h) xs (requests-same clock h))

session-same : (n : ℕ) (f g : Client → Client) → ((x : Client) → bare (f x) ≡ g (bare x))
    → (xs : List Client)
    → map bare (at_first (is_client n) f xs) ≡ at_first (is_client n) g (map bare xs)
session-same n f g same xs =
    sym (map-each bare (is_client n) (is_client n) (λ x. refl) f g xs same)

call-same : (n : ℕ) (f g : Client → Client) → ((x : Client) → bare (f x) ≡ g (bare x))
    → (xs : List Client)
    → map bare (at_first (has_call n) f xs) ≡ at_first (has_call n) g (map bare xs)
call-same n f g same xs =
    sym (map-each bare (has_call n) (has_call n) (has-same n) f g xs same)

ended-same : (n : ℕ) (x : Client) → bare (ends n x) ≡ ends n (bare x)
ended-same n x =
    ap (λ cs. record (bare x) { calls = cs })
    (sym (map-left bare_call (is_call n) (is_call n) (λ c. refl) x.calls))

-- an event leaves the same sessions, whatever the clock
bare-after : (clock : ℕ) (e : Event) (bytes : List ℕ) (head : Option MessageHeader) (body : List ℕ)
    (xs : List Client)
    → map bare (clients_after clock e bytes head body xs)
    ≡ clients_after 0 e bytes head body (map bare xs)
bare-after clock (PairedClient s peer t credits life) bytes head body xs =
    map-push bare xs (client_end s peer t credits life)
bare-after clock (Opened s peer credits) bytes head body xs =
    map-push bare xs (opened_end s peer credits)
bare-after clock (IsConnected s t life) bytes head body xs =
    session-same s (connects t life) (connects t life) (λ x. refl) xs
bare-after clock (FailedNoRoom s) bytes head body xs =
    session-same s (comes_to Failed) (comes_to Failed) (λ x. refl) xs
bare-after clock (FailedNoAnswer s) bytes head body xs =
    session-same s (comes_to Failed) (comes_to Failed) (λ x. refl) xs
bare-after clock (BeginsClosing s) bytes head body xs =
    session-same s (comes_to Closing) (comes_to Closing) (λ x. refl) xs
bare-after clock (ClosedHeard s) bytes head body xs =
    session-same s (comes_to Closed) (comes_to Closed) (λ x. refl) xs
bare-after clock (ClosedUnheard s) bytes head body xs =
    session-same s (comes_to Closed) (comes_to Closed) (λ x. refl) xs
bare-after clock (Sent peer Control k) bytes head body xs = told-same clock (control_of bytes) xs
bare-after clock (Sent peer (Ask s r) k) bytes head body xs =
    session-same s (sends clock r k) (sends 0 r k)
    (λ x. ap (λ cs. record (bare x) { calls = cs })
    (active-moved (sent_packet clock k) (sent_packet 0 k) (sent-same clock k) r x.calls)) xs
bare-after clock (Asked c s y room) bytes head body xs =
    let a : Asking = record { number = c; req_type = y; room = room; ask = bytes } in
    session-same s (asks a) (asks a)
    (λ x. ap (λ cs. record (bare x) { asked = x.asked + 1; calls = cs })
    (map-push bare_call x.calls (record { what = a; progress = None }))) xs
bare-after clock (Begun c r) bytes head body xs =
    call-same c (begins c r) (begins c r)
    (λ x. ap (λ cs. record (bare (begins c r x)) { calls = cs })
    (sym (map-each bare_call (is_call c) (is_call c) (λ d. refl) (begun r) (begun r) x.calls
    (λ d. refl)))) xs
bare-after clock (Posted (Ask s r) k) bytes head body xs =
    session-same s (posts r k) (posts r k)
    (λ x. ap (λ cs. record (bare (posts r k x)) { calls = cs })
    (active-moved (posted_up_to k) (posted_up_to k) (λ p. refl) r x.calls)) xs
bare-after clock (Took (Ask s r) k) bytes head body xs =
    session-same s (takes clock r head body) (takes 0 r head body)
    (λ x. ap (λ cs. record (bare x) { free = x.free + 1; calls = cs })
    (active-moved (took_reply clock head body) (took_reply 0 head body)
    (took-same clock head body) r x.calls)) xs
bare-after clock (Rolled c posted got) bytes head body xs =
    call-same c (rolls c posted got) (rolls c posted got)
    (λ x. ap (λ cs. record (bare (rolls c posted got x)) { calls = cs })
    (numbered-moved (rolled_back got) (rolled_back got) (λ p. refl) c x.calls)) xs
bare-after clock (Broken s) bytes head body xs = session-same s breaks breaks (λ x. refl) xs
bare-after clock (DoneOk c) bytes head body xs =
    call-same c (ends c) (ends c) (ended-same c) xs
bare-after clock (DoneTooSmall c size) bytes head body xs =
    call-same c (ends c) (ends c) (ended-same c) xs
bare-after clock (DonePeerLost c) bytes head body xs =
    call-same c (ends c) (ends c) (ended-same c) xs
bare-after clock _ bytes head body xs = refl

-- lists that differ in what their clocks told alone, as far as their packets go
pub record AtOtherClocks (s t : Lists) : Type 0 where
  pub clients : map bare s.clients ≡ map bare t.clients
  pub servers : s.servers ≡ t.servers
  pub ring : s.ring ≡ t.ring
  pub life : s.life ≡ t.life
  pub room : s.room ≡ t.room
  pub server_numbers : s.server_numbers ≡ t.server_numbers

pub clocks-after : (c d : ℕ) (s t : Lists) (f : Fact) → AtOtherClocks s t
    → AtOtherClocks (after c s f) (after d t f)
clocks-after c d s t f k = record {
  clients =
      let head = front_header s.ring in
      let body = front_body s.ring in
      let there : clients_after 0 f.event f.first head body (map bare t.clients)
      ≡ map bare (clients_after d f.event f.first head body t.clients) =
      sym (bare-after d f.event f.first head body t.clients) in
      rw (← k.ring) (bare-after c f.event f.first head body s.clients
      ∙ (ap (clients_after 0 f.event f.first head body) k.clients ∙ there));
  servers = rw (k.servers, k.ring) refl;
  ring = rw k.ring refl;
  life = k.life;
  room = k.room;
  server_numbers = ap (server_numbers_after f.event) k.server_numbers;
}

-- packets of calls are those without clocks
call-bare : (r k : ℕ) (x : Client) (o : Option Call)
    → call_packet x.way r k (option_map bare_call o) ≡ call_packet x.way r k o
call-bare r k x None = refl
call-bare r k x (Some c) = refl

ask-bare : (r k : ℕ) (o : Option Client) → ask_packet r k (option_map bare o) ≡ ask_packet r k o
ask-bare r k None = refl
ask-bare r k (Some x) =
    ap (call_packet x.way r k)
    (find-map bare_call (is_active r) (is_active r) (active-same r) x.calls)
    ∙ call-bare r k x (find (is_active r) x.calls)

found-bare : (n : ℕ) (xs : List Client)
    → find (is_client n) (map bare xs) ≡ option_map bare (find (is_client n) xs)
found-bare n xs = find-map bare (is_client n) (is_client n) (λ x. refl) xs

asks-bare : (n r k : ℕ) (xs : List Client)
    → ask_packet r k (find (is_client n) (map bare xs)) ≡ ask_packet r k (find (is_client n) xs)
asks-bare n r k xs =
    ap (ask_packet r k) (found-bare n xs) ∙ ask-bare r k (find (is_client n) xs)

owner-same : (s t : Lists) (o : Owner) (k : ℕ) → AtOtherClocks s t
    → owner_packet s o k ≡ owner_packet t o k
owner-same s t (Ask n r) k e =
    sym (asks-bare n r k s.clients)
    ∙ (ap (λ xs. ask_packet r k (find (is_client n) xs)) e.clients ∙ asks-bare n r k t.clients)
owner-same s t (Reply n r) k e = rw e.servers refl
owner-same s t Control k e = refl

-- a session as it is at another clock
record Other (n : ℕ) (ys : List Client) (x : Client) : Type 0 where
  client : Client
  found : find (is_client n) ys ≡ Some client
  same : bare client ≡ bare x

other-client : (n : ℕ) (xs ys : List Client) (x : Client) → map bare xs ≡ map bare ys
    → find (is_client n) xs ≡ Some x → Other n ys x
other-client n xs ys x e found =
    by (find (is_client n) ys) refl
    (sym (found-bare n ys) ∙ (ap (find (is_client n)) (sym e)
    ∙ (found-bare n xs ∙ ap (option_map bare) found)))
  where
    by : (o : Option Client) → find (is_client n) ys ≡ o → option_map bare o ≡ Some (bare x)
        → Other n ys x
    by None f h = cc
    by (Some y) f h = let same : bare y ≡ bare x = cc in record { client = y; found = f; same = same }

opened-same : (s t : Lists) (peer n : ℕ) (x : Client) (o : Other n t.clients x)
    → IsOpened s peer n x → IsOpened t peer n o.client
opened-same s t peer n x o k = record {
  found = o.found;
  to_peer = ap (λ (z : Client). z.way.peer) o.same ∙ k.to_peer;
}

reply-bare : (o : Option ℕ) (life : ℕ) (x : Client)
    → reply_row o life 0 (bare x) ≡ reply_row o life 0 x
reply-bare None life x = refl
reply-bare (Some n) life x = refl

-- there is as much room at other clocks
credits-bare : (xs : List Client) → sum_by live_credits (map bare xs) ≡ sum_by live_credits xs
credits-bare [] = refl
credits-bare (x ∷ xs) =
    sum_by-cons live_credits (bare x) (map bare xs)
    ∙ (ap (λ n. live_credits x + n) (credits-bare xs) ∙ sym (sum_by-cons live_credits x xs))

shares-same : (s t : Lists) → AtOtherClocks s t → shares s ≡ shares t
shares-same s t e =
    ap₂ (λ (n : ℕ) (vs : List Server). n + sum_by (λ v. v.credits) vs)
    (sym (credits-bare s.clients) ∙ (ap (sum_by live_credits) e.clients ∙ credits-bare t.clients))
    e.servers

pub no-room-same : (s t : Lists) (credits : ℕ) → AtOtherClocks s t
    → has_no_room credits s ≡ has_no_room credits t
no-room-same s t credits e =
    ap₂ (λ room n. nat_lt room (n + credits)) e.room (shares-same s t e)

takes-none-same : (s t : Lists) (peer client life credits : ℕ) → AtOtherClocks s t
    → TakesNoSession s peer client life credits → TakesNoSession t peer client life credits
takes-none-same s t peer client life credits e k = record {
  unknown = rw (← e.servers) k.unknown;
  full =
      sym (ap₂ (λ a b. a || b) (no-room-same s t credits e)
      (ap (λ n. nat_le SESSION_NUMBERS n) e.server_numbers)) ∙ k.full;
}

control-same : (s t : Lists) (peer : ℕ) (h : ControlHeader) → AtOtherClocks s t
    → OwnControl s peer h → OwnControl t peer h
control-same s t peer h e (OwnControl.asks x opened own) =
    let o = other-client h.client s.clients t.clients x e.clients opened.found in
    OwnControl.asks o.client (opened-same s t peer h.client x o opened)
    (ap (own_request t.life) o.same ∙ (ap (λ n. own_request n x) (sym e.life) ∙ own))
control-same s t peer h e (OwnControl.confirms to n v named found is_end) =
    OwnControl.confirms to n v
    (named ∙ ap (λ l. connect_reply l to h.client (Some n) v.credits 0) e.life)
    (rw (← e.servers) found) is_end
control-same s t peer h e (OwnControl.declines to named none) =
    OwnControl.declines to
    (named ∙ ap (λ l. connect_reply l to h.client None h.credits 1) e.life)
    (takes-none-same s t peer h.client to h.credits e none)
control-same s t peer h e (OwnControl.disowns to x opened named row) =
    let o = other-client h.client s.clients t.clients x e.clients opened.found in
    OwnControl.disowns to o.client (opened-same s t peer h.client x o opened)
    (named ∙ ap (λ l. disconnect_as DisconnectRequest l to h.client h.server 0) e.life)
    (sym (reply-bare h.server to o.client)
    ∙ (ap (reply_row h.server to 0) o.same ∙ (reply-bare h.server to x ∙ row)))
control-same s t peer h e (OwnControl.ends to named gone) =
    OwnControl.ends to
    (named ∙ ap (λ l. disconnect_as DisconnectReply l to h.client h.server 0) e.life)
    (rw (← e.servers) gone)
control-same s t peer h e (OwnControl.misses to named gone) =
    OwnControl.misses to
    (named ∙ ap (λ l. disconnect_as DisconnectReply l to h.client h.server 2) e.life)
    (rw (← e.servers) gone)

first-is : (s l : Lists) → Some s ≡ Some l → s ≡ l
first-is s l e = cc

spells-same : (s t : Lists) (peer : ℕ) (o : Owner) (k : ℕ) (head body : List ℕ)
    → AtOtherClocks s t → SpellsOwn (s ∷ []) 0 peer o k head body
    → SpellsOwn (t ∷ []) 0 peer o k head body
spells-same s t peer o k head body e h =
    let own : owner_packet s o k ≡ Some h.out =
    subst (λ (l : Lists). owner_packet l o k ≡ Some h.out) (sym (first-is s h.lists h.is_node)) h.own in
    record {
      lists = t;
      is_node = refl;
      out = h.out;
      own = sym (owner-same s t o k e) ∙ own;
      to_peer = h.to_peer;
      long = h.long;
      bytes = h.bytes;
      spells = h.spells;
      whole = h.whole;
    }

pub sent-same-right : (s t : Lists) (e : Event) (first second : List ℕ) → AtOtherClocks s t
    → SentRight (s ∷ []) 0 e first second → SentRight (t ∷ []) 0 e first second
sent-same-right s t (Sent peer (Ask n r) k) first second same h =
    spells-same s t peer (Ask n r) k first second same h
sent-same-right s t (Sent peer (Reply n r) k) first second same h =
    spells-same s t peer (Reply n r) k first second same h
sent-same-right s t (Sent peer Control k) first second same h =
    let own : OwnControl s peer h.header =
    subst (λ (l : Lists). OwnControl l peer h.header) (sym (first-is s h.lists h.is_node)) h.own in
    record {
      lists = t;
      is_node = refl;
      header = h.header;
      own = control-same s t peer h.header same own;
      no_number = h.no_number;
      bytes = h.bytes;
      spells = h.spells;
      whole = h.whole;
    }
sent-same-right s t _ first second same h = tt
