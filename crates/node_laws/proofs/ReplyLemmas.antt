-- The client rule notes only what is allowed.
use Rattle.std.proofs.Common.{◌≡◌, ℕ, ◌≤◌, ◌<◌, Bool, true, false, not, ◌&&◌, ◌||◌, cond, ltb, leb}
use Rattle.std.proofs.Common.{Option, Some, None, List, length, refl, sym, ◌∙◌, arith}
use Rattle.std.specs.Prelude.{◌==◌, is_none, option_map}
use Rattle.std.specs.List.{find, list_any}
use Rattle.std.proofs.lemmas.Bool.{eqb-true, ltb-false, leb-false, not-false, or_parts, and_parts}
use Rattle.packet_header.specs.declared.packet.MessageHeader.{MessageHeader}
use Rattle.rpc_base.specs.Tables.{at_first}
use Rattle.rpc_base.specs.declared.event.Event.TheVariants.{Took}
use Rattle.rpc_base.specs.declared.fact.Fact.{Fact}
use Rattle.rpc_base.specs.declared.owner.Owner.TheVariants.{Ask}
use Rattle.rpc_base.specs.declared.state.DropReason.{DropReason}
use Rattle.rpc_laws.specs.declared.rows.ClientRow.{ClientRow}
use Rattle.rpc_laws.specs.declared.rows.ClientRow.TheVariants.{Drops, Takes}
use Rattle.rpc_laws.specs.declared.rows.EndRow.{EndRow}
use Rattle.rpc_laws.specs.declared.rows.EndRow.TheVariants.{GoesOn, EndsOk, EndsTooSmall}
use Rattle.rpc_laws.specs.declared.tables.Asking.{Asking}
use Rattle.rpc_laws.specs.declared.tables.Call.{Call}
use Rattle.rpc_laws.specs.declared.tables.Client.{Client}
use Rattle.rpc_laws.specs.declared.tables.Lists.{Lists}
use Rattle.rpc_laws.specs.declared.tables.Progress.{Progress}
use Rattle.rpc_laws.specs.declared.tables.Queued.{Queued}
use Rattle.rpc_laws.specs.Calls.{has_request, is_active, asked_packets, known_packets, moved}
use Rattle.rpc_laws.specs.Calls.{is_response, with_reply, took_reply}
use Rattle.rpc_laws.specs.ClientTable.{is_of_turn, progress_row, active_row, call_row, client_row}
use Rattle.rpc_laws.specs.ClientTable.{end_row, end_facts, ending_of, client_ending, reply_facts}
use Rattle.rpc_laws.specs.Facts.{plain}
use Rattle.rpc_laws.specs.Front.{front_header, front_body}
use Rattle.rpc_laws.specs.NodeLists.{after}
use Rattle.rpc_laws.specs.PollOrder.{replies_facts}
use Rattle.rpc_laws.specs.Queues.{is_queued}
use Rattle.rpc_laws.specs.Sessions.{is_client, is_connected, takes}
use Rattle.node_laws.proofs.Allowed.{MayTake, MayEnd, AllAllowed}
use Rattle.node_laws.proofs.SoundLemmas.{order-found, order-taken, turn-of, reply-got, reply-posted}
use Rattle.node_laws.proofs.SoundLemmas.{reply-answer, took-request}
use Rattle.rpc_base.proofs.FirstLemmas.{found-holds, found-changed}
use Rattle.node_laws.proofs.Places.{Active}
use Rattle.node_laws.specs.Valid.{InOrder, Sound, Valid}
use Rattle.rpc_base.proofs.TakingLemmas.{find-passes}

-- a row that isn't the first one that holds
passed : (why : DropReason) (b : Bool) (r : ClientRow) → cond b (Drops why) r ≡ Takes → (b ≡ false) × (r ≡ Takes)
passed why true r h = cc
passed why false r h = (refl, h)

taken-last : (why : DropReason) (b : Bool) → cond b (Drops why) Takes ≡ Takes → b ≡ false
taken-last why true h = cc
taken-last why false h = refl

-- what a reply that is taken answers
pub record Answers (queued : List Queued) (found : Option Client) (h : MessageHeader) (len : ℕ) : Type 0 where
  pub client : Client
  pub call : Call
  pub progress : Progress
  pub is_client : found ≡ Some client
  pub connected : is_connected client.state ≡ true
  pub is_call : find (is_active h.request) client.calls ≡ Some call
  pub active : call.progress ≡ Some progress
  pub turn : h.number ≡ progress.got
  pub posted : progress.got < progress.posted
  pub fits : is_of_turn (asked_packets call.what) call.what.req_type progress.answer h len ≡ true
  pub unqueued : list_any (is_queued (Ask h.session h.request) h.number) queued ≡ false

module _ (queued : List Queued) (peer : ℕ) (h : MessageHeader) (len : ℕ) where
  at-progress : (x : Client) → is_connected x.state ≡ true → (c : Call)
      → find (is_active h.request) x.calls ≡ Some c → (p : Progress) → c.progress ≡ Some p
      → progress_row queued c.what p h len ≡ Takes → Answers queued (Some x) h len
  at-progress x connected c call p active e =
      let past = passed _ (ltb h.number p.got) _ e in
      let ahead = passed _ (ltb p.got h.number || leb p.posted h.number) _ past.1 in
      let other = passed _ (not (is_of_turn (asked_packets c.what) c.what.req_type p.answer h len)) _ ahead.1 in
      let still = taken-last _ (list_any (is_queued (Ask h.session h.request) h.number) queued) other.1 in
      let both = or_parts (ltb p.got h.number) (leb p.posted h.number) ahead.0 in
      let low = ltb-false h.number p.got past.0 in
      let high = ltb-false p.got h.number both.0 in
      let more = leb-false p.posted h.number both.1 in
      record {
        client = x;
        call = c;
        progress = p;
        is_client = refl;
        connected = connected;
        is_call = call;
        active = active;
        turn = omega arith;
        posted = omega arith;
        fits = not-false (is_of_turn (asked_packets c.what) c.what.req_type p.answer h len) other.0;
        unqueued = still;
      }

  at-active : (x : Client) → is_connected x.state ≡ true → (c : Call)
      → find (is_active h.request) x.calls ≡ Some c → (o : Option Progress) → c.progress ≡ o
      → active_row queued c.what o h len ≡ Takes → Answers queued (Some x) h len
  at-active x connected c call None active e = cc
  at-active x connected c call (Some p) active e = at-progress x connected c call p active e

  at-call : (x : Client) → is_connected x.state ≡ true → (o : Option Call)
      → find (is_active h.request) x.calls ≡ o → call_row queued o h len ≡ Takes
      → Answers queued (Some x) h len
  at-call x connected None call e = cc
  at-call x connected (Some c) call e = at-active x connected c call c.progress refl e

  at-client : (o : Option Client) → client_row queued o peer h len ≡ Takes → Answers queued o h len
  at-client None e = cc
  at-client (Some x) e =
      let live = passed _ (not (is_connected x.state)) _ e in
      let right = passed _ (not (x.way.peer == peer)) _ live.1 in
      at-call x (not-false (is_connected x.state) live.0) (find (is_active h.request) x.calls) refl right.1

-- the end of a call leaves none of its packets unanswered
module _ (a : Asking) (h : MessageHeader) (body : List ℕ) (len : ℕ) (p : Progress)
    (order : InOrder (asked_packets a) p) (turn : h.number ≡ p.got) (posted : p.got < p.posted)
    (fits : is_of_turn (asked_packets a) a.req_type p.answer h len ≡ true) where
  known-none : (told : Option ℕ) (n : ℕ) → told ≡ None → n ≤ known_packets (asked_packets a) told
      → n ≤ asked_packets a
  known-none told n e k = rw e at k

  first-response : (response : Bool) (told : Option ℕ) (size : ℕ) → told ≡ None
      → cond response (Some size) told ≡ Some size → response ≡ true
  first-response true told size e k = refl
  first-response false told size e k = cc

  none-of : (o : Option ℕ) → is_none o ≡ true → o ≡ None
  none-of None e = refl
  none-of (Some n) e = cc

  -- too small: the first response answers the last packet of the request
  pub small-whole : (size : ℕ) → is_none p.answer ≡ true → is_response h.kind ≡ true
      → (with_reply h body p).got ≡ (with_reply h body p).posted
  small-whole size first response =
      let none = none-of p.answer first in
      let few = known-none p.answer p.posted none order.known in
      let late = (turn-of a p.answer h len fits).late response in
      rw (reply-got h body p, reply-posted h body p) (omega arith)

  -- ok: the last packet that is known is answered
  pub all-whole : (size : ℕ) → (with_reply h body p).answer ≡ Some size
      → (with_reply h body p).got ≡ known_packets (asked_packets a) (Some size)
      → (with_reply h body p).got ≡ (with_reply h body p).posted
  all-whole size told whole =
      let taken = order-taken a 0 h body len p order turn posted fits in
      let known : (with_reply h body p).posted ≤ known_packets (asked_packets a) (Some size) =
      rw told at taken.known in
      let some : (with_reply h body p).got ≤ (with_reply h body p).posted = taken.posted in
      omega arith

-- the answer's size comes with a response
told-by : (response : Bool) (told : Option ℕ) (size n : ℕ) → is_none told ≡ true
    → cond response (Some size) told ≡ Some n → response ≡ true
told-by true told size n first e = refl
told-by false None size n first e = cc
told-by false (Some m) size n first e = cc

-- facts of a reply that is taken
module _ (clock : ℕ) (s : Lists) (v : Valid s) (h : MessageHeader)
    (front : front_header s.ring ≡ Some h) (a : Answers s.queued
    (find (is_client h.session) s.clients) h (length (front_body s.ring))) where
  active : Active s.clients h.session a.client a.call a.progress
  active = record {
    place = record { test = is_active h.request; client = a.is_client; call = a.is_call };
    active = a.active;
  }

  own-request : (o : Option Progress) (p : Progress) → o ≡ Some p → has_request h.request o ≡ true
      → p.request ≡ h.request
  own-request o p e t = let own : has_request h.request (Some p) ≡ true = rw e at t in eqb-true p.request h.request own

  may-take : MayTake s h.session h.request h.number
  may-take = record {
    client = a.client;
    call = a.call;
    progress = a.progress;
    active = active;
    connected = a.connected;
    same = own-request a.call.progress a.progress a.active
        (find-passes (is_active h.request) a.client.calls a.call a.is_call);
    header = h;
    front = front;
    numbered = refl;
    turn = a.turn;
    posted = a.posted;
    fits = a.fits;
    unqueued = a.unqueued;
  }

  -- the lists after the reply is taken
  abbrev next : Lists
  next = after clock s (plain s.me (Took (Ask h.session h.request) h.number))

  -- the call moves
  abbrev moves : Call → Call
  moves = moved (took_reply clock (Some h) (front_body s.ring))

  still-active : (o : Option Progress) → has_request h.request o ≡ true
      → has_request h.request (option_map (took_reply clock (Some h) (front_body s.ring)) o) ≡ true
  still-active None t = cc
  still-active (Some p) t = rw (took-request clock (Some h) (front_body s.ring) p) t

  some-moved : (f : Progress → Progress) (o : Option Progress) (p : Progress) → o ≡ Some p
      → option_map f o ≡ Some (f p)
  some-moved f o p e = rw e refl

  next-active : Active next.clients h.session
      (takes clock h.request (Some h) (front_body s.ring) a.client) (moves a.call)
      (took_reply clock (Some h) (front_body s.ring) a.progress)
  next-active =
      let passes = find-passes (is_client h.session) s.clients a.client a.is_client in
      let client : find (is_client h.session)
      (at_first (is_client h.session)
      (takes clock h.request (Some h) (front_body s.ring)) s.clients)
      ≡ Some (takes clock h.request (Some h) (front_body s.ring) a.client) =
      found-changed (is_client h.session)
      (takes clock h.request (Some h) (front_body s.ring))
      (is_client h.session) a.client s.clients passes a.is_client a.is_client in
      let own = find-passes (is_active h.request) a.client.calls a.call a.is_call in
      let call = found-changed (is_active h.request) moves (is_active h.request) a.call
      a.client.calls (still-active a.call.progress own) a.is_call a.is_call in
      record {
        place = record { test = is_active h.request; client = rw front client; call = call };
        active = some-moved (took_reply clock (Some h) (front_body s.ring)) a.call.progress a.progress a.active;
      }

  may-end : (with_reply h (front_body s.ring) a.progress).got
      ≡ (with_reply h (front_body s.ring) a.progress).posted → MayEnd next a.call.what.number
  may-end whole = record {
    session = h.session;
    client = takes clock h.request (Some h) (front_body s.ring) a.client;
    call = moves a.call;
    progress = took_reply clock (Some h) (front_body s.ring) a.progress;
    active = next-active;
    same = refl;
    whole = whole;
  }

  -- its progress after the reply
  abbrev now : Progress
  now = with_reply h (front_body s.ring) a.progress

  order : InOrder (asked_packets a.call.what) a.progress
  order =
      let sound = found-holds (is_client h.session) Sound s.clients a.client v.sound a.is_client in
      order-found a.client (is_active h.request) a.call a.progress sound a.is_call a.active

  -- the facts of an end
  abbrev of_end : EndRow → List Fact
  of_end row = end_facts s.me a.call.what.number now.parts row

  ok-allowed : (size : ℕ) (b : Bool) → now.answer ≡ Some size
      → (now.got == known_packets (asked_packets a.call.what) (Some size)) ≡ b
      → AllAllowed clock next (of_end (cond b EndsOk GoesOn))
  ok-allowed size true told t = (
    may-end (all-whole a.call.what h (front_body s.ring)
        (length (front_body s.ring)) a.progress order a.turn a.posted a.fits size told
        (eqb-true now.got (known_packets (asked_packets a.call.what) (Some size)) t)),
    tt,
  )
  ok-allowed size false told t = tt

  size-allowed : (size : ℕ) (b : Bool) → now.answer ≡ Some size
      → (is_none a.progress.answer && ltb a.call.what.room size) ≡ b
      → AllAllowed clock next (of_end (cond b (EndsTooSmall size)
      (cond (now.got == known_packets (asked_packets a.call.what) (Some size)) EndsOk GoesOn)))
  size-allowed size true told t =
      let first = (and_parts (is_none a.progress.answer) (ltb a.call.what.room size) t).0 in
      let answer : cond (is_response h.kind) (Some h.size) a.progress.answer ≡ Some size =
      sym (reply-answer h (front_body s.ring) a.progress) ∙ told in
      let response = told-by (is_response h.kind) a.progress.answer h.size size first answer in (
        may-end (small-whole a.call.what h (front_body s.ring)
            (length (front_body s.ring)) a.progress order a.turn a.posted a.fits size first response),
        tt,
      )
  size-allowed size false told t =
      ok-allowed size (now.got == known_packets (asked_packets a.call.what) (Some size)) told refl

  ending-allowed : (o : Option ℕ) → now.answer ≡ o
      → AllAllowed clock next (of_end (end_row (is_none a.progress.answer)
      (asked_packets a.call.what) a.call.what.room now.got o))
  ending-allowed None told = tt
  ending-allowed (Some size) told =
      size-allowed size (is_none a.progress.answer && ltb a.call.what.room size) told refl

  ended : client_ending s.me h (front_body s.ring) (find (is_client h.session) s.clients)
      ≡ ending_of s.me a.call.what a.progress now
  ended = rw (a.is_client, a.is_call, a.active) refl

  pub took-allowed : AllAllowed clock s (reply_facts s.me (find (is_client h.session) s.clients) h
      (front_body s.ring) Takes)
  took-allowed = (may-take, rw ended (ending-allowed now.answer refl))

module _ (clock : ℕ) (s : Lists) (v : Valid s) (h : MessageHeader)
    (front : front_header s.ring ≡ Some h) (peer : ℕ) where
  reply-by : (row : ClientRow)
      → client_row s.queued (find (is_client h.session) s.clients) peer h
      (length (front_body s.ring)) ≡ row
      → AllAllowed clock s (reply_facts s.me (find (is_client h.session) s.clients) h
      (front_body s.ring) row)
  reply-by (Drops why) e = (tt, tt)
  reply-by Takes e =
      took-allowed clock s v h front (at-client s.queued peer h (length (front_body s.ring))
      (find (is_client h.session) s.clients) e)

  pub replies-allowed : AllAllowed clock s (replies_facts s peer h (front_body s.ring))
  replies-allowed =
      reply-by (client_row s.queued (find (is_client h.session) s.clients) peer h (length (front_body s.ring))) refl
