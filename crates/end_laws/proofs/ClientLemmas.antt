-- The calls of a node's client sessions stay as what is known says, by each fact but Asked and Begun.
use Rattle.std.proofs.Common.{◌≡◌, ◌<◌, ◌≤◌, ◌+◌, ◌-◌, ◌*◌, ◌==◌, ◌&&◌, ℕ, nat_lt, Bool, true}
use Rattle.std.proofs.Common.{false, cond, List, [], ◌∷◌, ◌++◌, length, take, Option, Some, None}
use Rattle.std.proofs.Common.{slice_get, refl, sym, ap, ◌∙◌, subst, arith, ltb-true, ltb-false}
use Rattle.std.specs.Prelude.{IfSome, option_map}
use Rattle.std.specs.List.{find, AllByRecursion}
use Rattle.std.proofs.lemmas.Bool.{eqb-true, eq-eqb}
use Rattle.packet_header.specs.Parts.{part, part_size}
use Rattle.packet_header.specs.Reading.{message_of, body_of}
use Rattle.packet_header.specs.declared.packet.Kind.{Kind}
use Rattle.packet_header.specs.declared.packet.Kind.TheVariants.{Request, Rfr, Cr, Response}
use Rattle.packet_header.specs.declared.packet.MessageHeader.{MessageHeader}
use Rattle.packet_header.proofs.PartsLemmas.{part-front}
use Rattle.rpc_base.specs.Tables.{at_first}
use Rattle.rpc_base.proofs.TakingLemmas.{find-passes}
use Rattle.rpc_base.specs.declared.event.Event.{Event}
use Rattle.rpc_base.specs.declared.event.Event.TheVariants.{Opened, Connected, FailedNoRoom}
use Rattle.rpc_base.specs.declared.event.Event.TheVariants.{FailedNoAnswer}
use Rattle.rpc_base.specs.declared.event.Event.TheVariants.{Closing as BeginsClosing, ClosedHeard}
use Rattle.rpc_base.specs.declared.event.Event.TheVariants.{ClosedUnheard, PairedClient, Asked}
use Rattle.rpc_base.specs.declared.event.Event.TheVariants.{Begun, Posted, Sent, Took, Ran, Rolled}
use Rattle.rpc_base.specs.declared.event.Event.TheVariants.{Broken, DoneOk, DoneTooSmall}
use Rattle.rpc_base.specs.declared.event.Event.TheVariants.{DonePeerLost, PairedServer, Accepted}
use Rattle.rpc_base.specs.declared.state.SessionState.{SessionState}
use Rattle.rpc_base.specs.declared.state.SessionState.TheVariants.{Connecting, Closing, Closed}
use Rattle.rpc_base.specs.declared.state.SessionState.TheVariants.{Failed}
use Rattle.packet_header.specs.declared.packet.ControlHeader.{ControlHeader}
use Rattle.rpc_base.specs.declared.owner.Owner.TheVariants.{Ask, Reply, Control}
use Rattle.rpc_base.proofs.PlaceLemmas.{all-at}
use Rattle.rpc_laws.specs.declared.tables.Arrival.{Arrival}
use Rattle.rpc_laws.specs.declared.tables.Asking.{Asking}
use Rattle.rpc_laws.specs.declared.tables.Call.{Call}
use Rattle.rpc_laws.specs.declared.tables.Client.{Client}
use Rattle.rpc_laws.specs.declared.tables.InFlight.{InFlight}
use Rattle.rpc_laws.specs.declared.tables.Lists.{Lists}
use Rattle.rpc_laws.specs.declared.tables.Progress.{Progress}
use Rattle.rpc_laws.specs.declared.tables.Way.{Way}
use Rattle.rpc_laws.specs.Calls.{is_call, is_active, has_request, is_response, asked_packets, moved}
use Rattle.rpc_laws.specs.Calls.{posted_up_to, sent_packet, rolled_back, took_reply}
use Rattle.rpc_laws.specs.ClientTable.{is_cr, is_same_size, is_of_turn}
use Rattle.rpc_laws.specs.Front.{control_of, front_bytes, front_header, front_body}
use Rattle.rpc_laws.specs.Sessions.{comes_to, requests, is_request_of, clients_told, is_client}
use Rattle.rpc_laws.specs.Sessions.{is_connected, has_call, posts, sends, takes, rolls, breaks}
use Rattle.rpc_laws.specs.Sessions.{ends}
use Rattle.rpc_laws.specs.Sessions.{clients_after}
use Rattle.node_laws.proofs.Allowed.{Allowed as Lawful}
use Rattle.end_laws.proofs.Allowed.{Fronts, MayTakeReply, MayBreak, May}
use Rattle.end_laws.proofs.Known.{Known, HasRun, Says, Speaks, GoodAnswer, GoodProgress, GoodCall}
use Rattle.end_laws.proofs.Known.{is_joined, IsJoined, Tied, GoodClient, Begin, Run}
use Rattle.end_laws.proofs.ListLemmas.{Placed, first-each, find-at, all-first, all-without}
use Rattle.rpc_laws.specs.Endpoints.{Endpoint, told}
use Rattle.end_laws.specs.TwoEnds.{peer_of}

-- facts that add nothing to the logs
abbrev pub is_quiet : Event → Bool
is_quiet (PairedClient s peer t credits life) = false
is_quiet (PairedServer t peer s credits life) = false
is_quiet (Opened s peer credits) = false
is_quiet (Accepted t peer s credits life) = false
is_quiet (Connected s t life) = false
is_quiet (Asked c s y room) = false
is_quiet (Begun c r) = false
is_quiet (Ran t r y) = false
is_quiet _ = true

-- a change that leaves request, got, answer and parts
pub record Leaves (change : Progress → Progress) : Type 0 where
  pub request : (p : Progress) → (change p).request ≡ p.request
  pub got : (p : Progress) → (change p).got ≡ p.got
  pub answer : (p : Progress) → (change p).answer ≡ p.answer
  pub parts : (p : Progress) → (change p).parts ≡ p.parts

posted-leaves : (k : ℕ) → Leaves (posted_up_to k)
posted-leaves k = record { request = λ p. refl; got = λ p. refl; answer = λ p. refl; parts = λ p. refl }

rolled-leaves : (got : ℕ) → Leaves (rolled_back got)
rolled-leaves got = record { request = λ p. refl; got = λ p. refl; answer = λ p. refl; parts = λ p. refl }

sent-by : {A : Type 0} (field : Progress → A) (b : Bool) (clock : ℕ) (p : Progress)
    → field (record p { mark = clock }) ≡ field p
    → field (cond b (record p { mark = clock }) p) ≡ field p
sent-by field true clock p e = e
sent-by field false clock p e = refl

sent-leaves : (clock k : ℕ) → Leaves (sent_packet clock k)
sent-leaves clock k = record {
  request = λ p. sent-by (λ p. p.request) (p.got == k) clock p refl;
  got = λ p. sent-by (λ p. p.got) (p.got == k) clock p refl;
  answer = λ p. sent-by (λ p. p.answer) (p.got == k) clock p refl;
  parts = λ p. sent-by (λ p. p.parts) (p.got == k) clock p refl;
}

-- a session that is Connected knows its other end
pub connected-joined : (state : SessionState) → is_connected state ≡ true → is_joined state ≡ true
connected-joined Connecting e = cc
connected-joined Failed e = cc
connected-joined _ e = refl

module _ (k : Known) (n : Endpoint) where
  leaves-progress : (change : Progress → Progress) (way : Way) (a : Asking) (p : Progress)
      → Leaves change → GoodProgress k n way a p → GoodProgress k n way a (change p)
  leaves-progress change way a p l h = record {
    begun = rw (l.request p) (h.begun);
    answer = rw (l.request p, l.got p, l.parts p, l.answer p) (h.answer);
  }

  leaves-some : (change : Progress → Progress) (way : Way) (a : Asking) (p : Option Progress)
      → Leaves change → IfSome p (GoodProgress k n way a)
      → IfSome (option_map change p) (GoodProgress k n way a)
  leaves-some change way a None l h = tt
  leaves-some change way a (Some p) l h = leaves-progress change way a p l h

  leaves-call : (change : Progress → Progress) (way : Way) (c : Call) → Leaves change
      → GoodCall k n way c → GoodCall k n way (moved change c)
  leaves-call change way c l h =
      record { logged = h.logged; progress = leaves-some change way c.what c.progress l h.progress }

  -- a session stays tied where no call comes to it
  tied-same : (b : Bool) (i : ℕ) (x y : Client) → y.way ≡ x.way → y.limit ≡ x.limit
      → (x.calls ≡ [] → y.calls ≡ []) → Tied b k n i x → Tied b k n i y
  tied-same true i x y way limit idle h =
      record { end = rw (way, limit) (h.end); client = rw way (h.client) }
  tied-same false i x y way limit idle h =
      record { opened = rw (way, limit) (h.opened); idle = idle h.idle }

  -- other calls, and the rest as it was
  with-calls : (i : ℕ) (x y : Client) → y.way ≡ x.way → y.turns ≡ x.turns → y.limit ≡ x.limit
      → is_joined y.state ≡ is_joined x.state → (x.calls ≡ [] → y.calls ≡ [])
      → AllByRecursion (GoodCall k n x.way) y.calls → GoodClient k n i x → GoodClient k n i y
  with-calls i x y way turns limit joined idle calls h = record {
    number = rw way (h.number);
    tied = subst (λ (b : Bool). Tied b k n i y) (sym joined)
        (tied-same (is_joined x.state) i x y way limit idle h.tied);
    eight = rw turns (h.eight);
    fresh = rw turns (h.fresh);
    calls = subst (λ (w : Way). AllByRecursion (GoodCall k n w) y.calls) (sym way) calls;
  }

  moved-calls : (change : Progress → Progress) (test : Call → Bool) (way : Way) (calls : List Call)
      → Leaves change → AllByRecursion (GoodCall k n way) calls
      → AllByRecursion (GoodCall k n way) (at_first test (moved change) calls)
  moved-calls change test way calls l h =
      all-first (GoodCall k n way) (GoodCall k n way) test (moved change) calls (λ c g. g)
      (λ c is g. leaves-call change way c l g) h

  posts-good : (r j i : ℕ) (x : Client) → GoodClient k n i x → GoodClient k n i (posts r j x)
  posts-good r j i x h =
      with-calls i x (posts r j x) refl refl refl refl (λ e. rw e refl)
      (moved-calls (posted_up_to j)
      (is_active r) x.way x.calls (posted-leaves j) h.calls) h

  sends-good : (clock r j i : ℕ) (x : Client) → GoodClient k n i x → GoodClient k n i (sends clock r j x)
  sends-good clock r j i x h =
      with-calls i x (sends clock r j x) refl refl refl refl (λ e. rw e refl)
      (moved-calls (sent_packet clock j) (is_active r) x.way x.calls (sent-leaves clock j) h.calls)
      h

  rolls-good : (c posted got i : ℕ) (x : Client) → GoodClient k n i x → GoodClient k n i (rolls c posted got x)
  rolls-good c posted got i x h =
      with-calls i x (rolls c posted got x) refl refl refl refl (λ e. rw e refl)
      (moved-calls (rolled_back got) (is_call c) x.way x.calls (rolled-leaves got) h.calls) h

  breaks-good : (i : ℕ) (x : Client) → is_joined x.state ≡ true → GoodClient k n i x
      → GoodClient k n i (breaks x)
  breaks-good i x joined h = with-calls i x (breaks x) refl refl refl (sym joined)
      (λ e. e) h.calls h

  ends-good : (c i : ℕ) (x : Client) → GoodClient k n i x → GoodClient k n i (ends c x)
  ends-good c i x h = with-calls i x (ends c x) refl refl refl refl (λ e. rw e refl)
      (all-without (GoodCall k n x.way) (is_call c) x.calls h.calls) h

  -- the client of a number is the one that is found
  pub client-at : (xs : List Client) (s : ℕ) (x : Client) → Placed (GoodClient k n) xs
      → find (is_client s) xs ≡ Some x → (slice_get xs s ≡ Some x) × (x.way.number ≡ s)
  client-at xs s x g f =
      let a = find-at (is_client s) xs x f in
      let good = g a.0 x a.1 in
      let number = good.number in
      let found : x.way.number ≡ s = eqb-true x.way.number s a.2 in
      let same : a.0 ≡ s = sym number ∙ found in
      (ap (slice_get xs) (sym same) ∙ a.1, found)

  pub found-same : (xs : List Client) (s : ℕ) (x : Client) → Placed (GoodClient k n) xs
      → find (is_client s) xs ≡ Some x → (i : ℕ) (z : Client) → slice_get xs i ≡ Some z
      → is_client s z ≡ true → z ≡ x
  found-same xs s x g f i z is t =
      let a = client-at xs s x g f in
      let number = (g i z is).number in
      let same : i ≡ s = sym number ∙ eqb-true z.way.number s t in
      let here : slice_get xs s ≡ Some z = ap (slice_get xs) (sym same) ∙ is in
      let there = a.0 in
      cc

  -- the first session that passes changes
  any-first : (p : Client → Bool) (f : Client → Client) (xs : List Client)
      → ((i : ℕ) (x : Client) → GoodClient k n i x → GoodClient k n i (f x))
      → Placed (GoodClient k n) xs → Placed (GoodClient k n) (at_first p f xs)
  any-first p f xs change g =
      first-each p f (GoodClient k n) (GoodClient k n) xs (λ i z h t. change i z h) (λ i z h. h) g

  found-first : (s : ℕ) (f : Client → Client) (xs : List Client) (x : Client)
      → find (is_client s) xs ≡ Some x → ((i : ℕ) → GoodClient k n i x → GoodClient k n i (f x))
      → Placed (GoodClient k n) xs → Placed (GoodClient k n) (at_first (is_client s) f xs)
  found-first s f xs x found change g =
      first-each (is_client s) f (λ i z. GoodClient k n i z × (slice_get xs i ≡ Some z)) (GoodClient k n) xs
      (λ i z h t. let same = found-same xs s x g found i z h.1 t in subst (λ (y : Client). GoodClient k n i y → GoodClient k n i (f y)) (sym same) (change i) h.0)
      (λ i z h. h.0) (λ i z is. (g i z is, is))

  -- a reply is the next part of the answer, or a credit
  cr-answer : (way : Way) (a : Asking) (request got : ℕ) (parts : List ℕ) (answer : Option ℕ)
      → got + 1 < asked_packets a → GoodAnswer k way a request got parts answer
      → GoodAnswer k way a request (got + 1) parts answer
  cr-answer way a request got parts None lt h = (h.0, lt)
  cr-answer way a request got parts (Some size) lt h = let le = h.reached in absurd (omega arith)

  joined-parts : (m : ℕ) (q parts body : List ℕ) → parts ≡ take (1024 * m) q → body ≡ part q m
      → parts ++ body ≡ take (1024 * (m + 1)) q
  joined-parts m q parts body e f = rw (e, f) (part-front q m)

  -- the answer of a run is one
  same-answer : (node : Endpoint) (session request : ℕ) (a : Asking) (one other : List ℕ)
      → HasRun k node session request a one → HasRun k node session request a other → one ≡ other
  same-answer node session request a one other h g =
      run-answer (record { req_type = a.req_type; ask = a.ask; answer = one })
      (record { req_type = a.req_type; ask = a.ask; answer = other }) (sym h ∙ g)
    where
      run-answer : (x y : Run) → Some x ≡ Some y → x.answer ≡ y.answer
      run-answer x y e = let same : x ≡ y = cc in ap (λ (z : Run). z.answer) same

  response-answer : (way : Way) (a : Asking) (request got size : ℕ) (parts body whole : List ℕ)
      (answer : Option ℕ) → asked_packets a ≤ got + 1 → HasRun k (peer_of way) way.other request a whole
      → size ≡ length whole → body ≡ part whole (got + 1 - asked_packets a)
      → GoodAnswer k way a request got parts answer
      → GoodAnswer k way a request (got + 1) (parts ++ body) (Some size)
  response-answer way a request got size parts body whole None le ran sized piece h =
      let lt = h.1 in
      let first : got + 1 - asked_packets a ≡ 0 = omega arith in
      let next : got + 1 + 1 - asked_packets a ≡ 0 + 1 = omega arith in
      let none : parts ≡ take (1024 * 0) whole = h.0 in
      let start : body ≡ part whole 0 = piece ∙ ap (part whole) first in
      record {
        answer = whole;
        ran = ran;
        sized = sized;
        reached = le;
        taken = joined-parts 0 whole parts body none start
            ∙ ap (λ m. take (1024 * m) whole) (sym next);
      }
  response-answer way a request got size parts body whole (Some told) le ran sized piece h =
      let next : got + 1 + 1 - asked_packets a ≡ (got + 1 - asked_packets a) + 1 = omega arith in
      let same : h.answer ≡ whole = same-answer (peer_of way) way.other request a h.answer whole h.ran ran in
      let taken : parts ≡ take (1024 * (got + 1 - asked_packets a)) whole =
      subst (λ (x : List ℕ). parts ≡ take (1024 * (got + 1 - asked_packets a)) x) same
      h.taken in
      record {
        answer = whole;
        ran = ran;
        sized = sized;
        reached = le;
        taken = joined-parts (got + 1 - asked_packets a) whole parts body taken piece
            ∙ ap (λ m. take (1024 * m) whole) (sym next);
      }

  -- the call's progress by a reply, by its kind
  pub record Answering (way : Way) (a : Asking) (p : Progress) (h : MessageHeader) (from : ℕ)
      (body : List ℕ) : Type 0 where
    pub good : GoodProgress k n way a p
    pub peer : from ≡ way.peer
    pub session : way.number ≡ h.session
    pub request : p.request ≡ h.request
    pub life : h.to_life ≡ n.life
    pub in_turn : h.number ≡ p.got

  reply-cr : (b : Bool) (a : Asking) (h : MessageHeader)
      → nat_lt (h.number + 1) (asked_packets a) ≡ b → cond b true false ≡ true
      → h.number + 1 < asked_packets a
  reply-cr true a h t e = ltb-true _ _ t
  reply-cr false a h t e = cc

  reply-response : (b c : Bool) (a : Asking) (h : MessageHeader)
      → nat_lt (h.number + 1) (asked_packets a) ≡ b → cond b false c ≡ true
      → asked_packets a ≤ h.number + 1
  reply-response true c a h t e = cc
  reply-response false c a h t e = ltb-false _ _ t

  reply-none : (b : Bool) → cond b false false ≡ true → ⊥
  reply-none true e = cc
  reply-none false e = cc

  by-kind : (kind : Kind) (way : Way) (a : Asking) (p : Progress) (h : MessageHeader) (from : ℕ)
      (body : List ℕ) (len clock : ℕ) → Answering way a p h from body → Says kind k from n.node h body
      → cond (nat_lt (h.number + 1) (asked_packets a)) (is_cr kind)
      (is_response kind && (h.req_type == a.req_type) && is_same_size p.answer h.size
      && (len == part_size h.size (h.number + 1 - asked_packets a))) ≡ true
      → GoodProgress k n way a (record (cond (is_response kind)
      (record p { got = p.got + 1; answer = Some h.size; parts = p.parts ++ body })
      (record p { got = p.got + 1 })) { rolls = 0; mark = clock })
  by-kind Request way a p h from body len clock t s e =
      absurd (reply-none (nat_lt (h.number + 1) (asked_packets a)) e)
  by-kind Rfr way a p h from body len clock t s e = absurd (reply-none (nat_lt (h.number + 1) (asked_packets a)) e)
  by-kind Cr way a p h from body len clock t s e =
      let lt = reply-cr _ a h refl e in
      let in_turn = t.in_turn in
      let next : p.got + 1 < asked_packets a = omega arith in
      record { begun = t.good.begun; answer = cr-answer way a p.request p.got p.parts p.answer next t.good.answer }
  by-kind Response way a p h from body len clock t s e =
      let le = reply-response _ _ a h refl e in
      let in_turn = t.in_turn in
      let next : asked_packets a ≤ p.got + 1 = omega arith in
      let mine : k.starts n h.session h.request ≡ Some (record { way = way; what = a }) =
      rw (← t.session, ← t.request) (t.good.begun) in
      let us : record { node = n.node; life = h.to_life } ≡ n =
      ap (λ (w : ℕ). record { node = n.node; life = w }) t.life in
      let told : k.starts n h.session h.request ≡ Some s.start =
      subst (λ (m : Endpoint). k.starts m h.session h.request ≡ Some s.start) us s.begun in
      let same : s.start ≡ record { way = way; what = a } = cc in
      let run : HasRun k (peer_of way) way.other h.request a s.answer =
      subst (λ (b : Begin). HasRun k (peer_of b.way) b.way.other h.request b.what s.answer) same
      s.ran in
      let ran : HasRun k (peer_of way) way.other p.request a s.answer =
      subst (λ (r : ℕ). HasRun k (peer_of way) way.other r a s.answer) (sym t.request) run in
      let piece : body ≡ part s.answer (p.got + 1 - asked_packets a) =
      s.piece ∙ (ap (λ (b : Begin). part s.answer (h.number + 1 - asked_packets b.what))
      same ∙ ap (λ (m : ℕ). part s.answer (m + 1 - asked_packets a)) in_turn) in
      record {
        begun = t.good.begun;
        answer = response-answer way a p.request p.got h.size p.parts
            body s.answer p.answer next ran s.size piece t.good.answer;
      }

  -- a reply is taken
  takes-some : (clock : ℕ) (head : Option MessageHeader) (body : List ℕ) (way : Way) (c : Call)
      (p : Progress) (progress : Option Progress) (h : MessageHeader) (from : ℕ)
      → c.progress ≡ progress → progress ≡ Some p → head ≡ Some h
      → Answering way c.what p h from body → Says h.kind k from n.node h body
      → is_of_turn (asked_packets c.what) c.what.req_type p.answer h (length body) ≡ true
      → IfSome (option_map (took_reply clock head body) progress) (GoodProgress k n way c.what)
  takes-some clock head body way c p None h from is at e t s turn = cc
  takes-some clock None body way c p (Some q) h from is at e t s turn = cc
  takes-some clock (Some g) body way c p (Some q) h from is at e t s turn =
      let same : p ≡ q = cc in
      let same_head : h ≡ g = cc in
      subst (λ (z : MessageHeader). GoodProgress k n way c.what (took_reply clock (Some z) body q)) same_head
      (subst (λ (z : Progress). GoodProgress k n way c.what (took_reply clock (Some h) body z)) same
      (by-kind h.kind way c.what p h from body (length body) clock t s turn))

  front-bytes : (ring : List Arrival) (front : Arrival) → slice_get ring 0 ≡ Some front
      → front_bytes ring ≡ front.bytes
  front-bytes [] front h = cc
  front-bytes (d ∷ ds) front h = let same : d ≡ front = cc in ap (λ (a : Arrival). a.bytes) same

  some-says : (from : ℕ) (bytes : List ℕ) (o : Option MessageHeader) (h : MessageHeader)
      → o ≡ Some h → IfSome o (λ h. Says h.kind k from n.node h (body_of bytes))
      → Says h.kind k from n.node h (body_of bytes)
  some-says from bytes None h e s = cc
  some-says from bytes (Some g) h e s = let same : g ≡ h = cc in subst (λ (z : MessageHeader). Says z.kind k from n.node z (body_of bytes)) same s

  -- what the front of the ring says
  pub front-says : (l : Lists) (front : Arrival) (h : MessageHeader) → Fronts l front h
      → AllByRecursion (λ a. Speaks k a.peer n.node a.bytes) l.ring
      → Says h.kind k front.peer n.node h (front_body l.ring)
  front-says l front h f ring =
      let bytes = front-bytes l.ring front f.is_front in
      let speaks = all-at (λ a. Speaks k a.peer n.node a.bytes) l.ring 0 front ring f.is_front in
      let reads : message_of front.bytes ≡ Some h = ap message_of (sym bytes) ∙ f.reads in
      subst (λ (b : List ℕ). Says h.kind k front.peer n.node h (body_of b)) (sym bytes)
      (some-says front.peer front.bytes _ h reads speaks.0)

  pub if-progress : (way : Way) (a : Asking) (progress : Option Progress) (p : Progress)
      → progress ≡ Some p → IfSome progress (GoodProgress k n way a) → GoodProgress k n way a p
  if-progress way a None p e h = cc
  if-progress way a (Some q) p e h = let same : q ≡ p = cc in subst (GoodProgress k n way a) same h

  takes-good : (clock : ℕ) (l : Lists) → l.life ≡ n.life → (s r : ℕ) (m : MayTakeReply l s r) (i : ℕ)
      → AllByRecursion (λ a. Speaks k a.peer n.node a.bytes) l.ring → m.client.way.number ≡ s
      → GoodClient k n i m.client
      → GoodClient k n i (takes clock r (front_header l.ring) (front_body l.ring) m.client)
  takes-good clock l now s r m i ring number h =
      let x = m.client in
      let calls : AllByRecursion (GoodCall k n x.way)
      (at_first (is_active r) (moved (took_reply clock (front_header l.ring)
      (front_body l.ring))) x.calls) =
      all-first (GoodCall k n x.way) (GoodCall k n x.way) (is_active r)
      (moved (took_reply clock (front_header l.ring) (front_body l.ring))) x.calls (λ c g. g)
      (λ c is g.
      let found = m.active in
      let same : m.call ≡ c = cc in
      let at : c.progress ≡ Some m.progress = subst (λ (z : Call). z.progress ≡ Some m.progress) same m.is_progress in
      let turn : is_of_turn (asked_packets c.what) c.what.req_type m.progress.answer m.header
      (length (front_body l.ring)) ≡ true =
      subst (λ (z : Call). is_of_turn (asked_packets z.what) z.what.req_type
      m.progress.answer m.header (length (front_body l.ring)) ≡ true) same m.of_turn in
      let good = if-progress x.way c.what c.progress m.progress at g.progress in
      let active : has_request r c.progress ≡ true = find-passes (is_active r) x.calls c is in
      let request : (m.progress.request == r) ≡ true = sym (ap (has_request r) at) ∙ active in
      let t : Answering x.way c.what m.progress m.header m.front.peer (front_body l.ring) =
      record {
        good = good;
        peer = m.of_peer;
        session = number ∙ m.of_session;
        request = eqb-true m.progress.request r request ∙ m.of_request;
        life = m.is_front.for_us ∙ now;
        in_turn =
            m.in_turn;
      } in
      record {
        logged = g.logged;
        progress = takes-some clock (front_header l.ring)
            (front_body l.ring) x.way c m.progress c.progress m.header m.front.peer refl
            at m.is_front.reads t (front-says l m.front m.header m.is_front ring) turn;
      })
      h.calls in
      with-calls i x (takes clock r (front_header l.ring) (front_body l.ring) x) refl refl refl refl
      (λ e. rw e refl) calls h

  comes-good : (state : SessionState) (i : ℕ) (x : Client) → is_joined state ≡ is_joined x.state
      → GoodClient k n i x → GoodClient k n i (comes_to state x)
  comes-good state i x same g = with-calls i x (comes_to state x) refl refl refl same
      (λ e. e) g.calls g

  -- a session comes to another state
  comes-first : (state was : SessionState) (s : ℕ) (xs : List Client) → is_joined state
      ≡ is_joined was
      → (x : Client) → find (is_client s) xs ≡ Some x → x.state ≡ was → Placed (GoodClient k n) xs
      → Placed (GoodClient k n) (at_first (is_client s) (comes_to state) xs)
  comes-first state was s xs same x found is g =
      found-first s (comes_to state) xs x found
      (λ i. comes-good state i x (same ∙ sym (ap is_joined is))) g

  -- a session that has a call is joined
  joined-by : (b : Bool) (i : ℕ) (x : Client) (p : Call → Bool) (c : Call) → is_joined x.state ≡ b
      → Tied b k n i x → find p x.calls ≡ Some c → b ≡ true
  joined-by true i x p c e t h = refl
  joined-by false i x p c e t h = none-some (find p []) c (sym (ap (find p) t.idle) ∙ h) refl
    where
      none-some : {A : Type 0} (o : Option Call) (c : Call) → o ≡ Some c → o ≡ None → A
      none-some o c e f = cc

  pub has-joined : (i : ℕ) (x : Client) (p : Call → Bool) (c : Call) → GoodClient k n i x
      → find p x.calls ≡ Some c → is_joined x.state ≡ true
  has-joined i x p c g h = joined-by (is_joined x.state) i x p c refl g.tied h

  pub is-joined : (i : ℕ) (x : Client) → is_joined x.state ≡ true → GoodClient k n i x
      → IsJoined k n i x
  is-joined i x joined g = subst (λ (b : Bool). Tied b k n i x) joined g.tied

  requests-by : (clock : ℕ) (b : Bool) (i : ℕ) (x : Client) → GoodClient k n i x
      → GoodClient k n i (cond b (record x { sends = x.sends + 1; sent_at = clock }) x)
  requests-by clock true i x g =
      with-calls i x (record x { sends = x.sends + 1; sent_at = clock }) refl refl refl refl
      (λ e. e) g.calls g
  requests-by clock false i x g = g

  -- a session's own request
  told-good : (clock : ℕ) (h : Option ControlHeader) (xs : List Client) → Placed (GoodClient k n) xs
      → Placed (GoodClient k n) (clients_told clock h xs)
  told-good clock None xs g = g
  told-good clock (Some h) xs g =
      any-first (is_client h.client) (requests clock h) xs
      (λ i x. requests-by clock (is_request_of h.kind h.server h.to_life x.state x.way) i x) g

  -- a session that breaks has a call
  breaks-joined : (l : Lists) (s : ℕ) → MayBreak l s → Placed (GoodClient k n) l.clients → (i : ℕ)
      (x : Client) → find (is_client s) l.clients ≡ Some x → GoodClient k n i x
      → is_joined x.state ≡ true
  breaks-joined l s m all i x found g =
      let same : m.client ≡ x =
      found-same l.clients s x all found m.place m.client m.is_there
      (eq-eqb m.client.way.number s m.of_session) in
      has-joined i x (is_call m.number) m.call g
      (subst (λ (z : Client). find (is_call m.number) z.calls ≡ Some m.call) same m.found)

  pub clients-quiet : (hand : Option InFlight) (clock : ℕ) (l : Lists) (e : Event)
      (first second : List ℕ) → is_quiet e ≡ true → l.life ≡ n.life → May hand l e first second → Lawful l e
      → AllByRecursion (λ a. Speaks k a.peer n.node a.bytes) l.ring → Placed (GoodClient k n) l.clients
      → Placed (GoodClient k n) (clients_after clock e first (front_header l.ring)
      (front_body l.ring) l.clients)
  clients-quiet hand clock l (PairedClient s peer t credits life) first second q now m v ring g = absurd (cc)
  clients-quiet hand clock l (Opened s peer credits) first second q now m v ring g = absurd (cc)
  clients-quiet hand clock l (Connected s t life) first second q now m v ring g = absurd (cc)
  clients-quiet hand clock l (FailedNoRoom s) first second q now m v ring g =
      comes-first Failed Connecting s l.clients refl v.client v.found v.stands g
  clients-quiet hand clock l (FailedNoAnswer s) first second q now m v ring g =
      comes-first Failed Connecting s l.clients refl v.client v.found v.stands g
  clients-quiet hand clock l (BeginsClosing s) first second q now m v ring g =
      found-first s (comes_to Closing) l.clients v.client v.found
      (λ i. comes-good Closing i v.client (sym (connected-joined v.client.state v.connected))) g
  clients-quiet hand clock l (ClosedHeard s) first second q now m v ring g =
      comes-first Closed Closing s l.clients refl v.client v.found v.stands g
  clients-quiet hand clock l (ClosedUnheard s) first second q now m v ring g =
      comes-first Closed Closing s l.clients refl v.client v.found v.stands g
  clients-quiet hand clock l (Asked c s y room) first second q now m v ring g = absurd (cc)
  clients-quiet hand clock l (Begun c r) first second q now m v ring g = absurd (cc)
  clients-quiet hand clock l (Posted (Ask s r) j) first second q now m v ring g =
      any-first (is_client s) (posts r j) l.clients (posts-good r j) g
  clients-quiet hand clock l (Posted (Reply t r) j) first second q now m v ring g = g
  clients-quiet hand clock l (Posted Control j) first second q now m v ring g = g
  clients-quiet hand clock l (Sent peer (Ask s r) j) first second q now m v ring g =
      any-first (is_client s) (sends clock r j) l.clients (sends-good clock r j) g
  clients-quiet hand clock l (Sent peer (Reply t r) j) first second q now m v ring g = g
  clients-quiet hand clock l (Sent peer Control j) first second q now m v ring g =
      told-good clock (control_of first) l.clients g
  clients-quiet hand clock l (Took (Ask s r) j) first second q now m v ring g =
      found-first s (takes clock r (front_header l.ring) (front_body l.ring)) l.clients m.client
      m.found (λ i. takes-good clock l now s r m i ring
      ((client-at l.clients s m.client g m.found).1)) g
  clients-quiet hand clock l (Took (Reply t r) j) first second q now m v ring g = g
  clients-quiet hand clock l (Took Control j) first second q now m v ring g = g
  clients-quiet hand clock l (Rolled c posted got) first second q now m v ring g =
      any-first (has_call c) (rolls c posted got) l.clients (rolls-good c posted got) g
  clients-quiet hand clock l (Broken s) first second q now m v ring g =
      found-first s breaks l.clients v.client v.found
      (λ i h. breaks-good i v.client (breaks-joined l s m g i v.client v.found h) h) g
  clients-quiet hand clock l (DoneOk c) first second q now m v ring g =
      any-first (has_call c) (ends c) l.clients (ends-good c) g
  clients-quiet hand clock l (DoneTooSmall c size) first second q now m v ring g =
      any-first (has_call c) (ends c) l.clients (ends-good c) g
  clients-quiet hand clock l (DonePeerLost c) first second q now m v ring g =
      any-first (has_call c) (ends c) l.clients (ends-good c) g
  clients-quiet hand clock l _ first second q now m v ring g = g
