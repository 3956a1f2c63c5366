-- The server rule notes only what is allowed.
use Rattle.std.proofs.Common.{◌≡◌, ℕ, ◌%◌, ◌<◌, Bool, true, false, not, ◌&&◌, cond, Option, Some}
use Rattle.std.proofs.Common.{None, List, [], ◌∷◌, ◌++◌, refl, ap, ◌∙◌, inl, arith, subst}
use Rattle.std.specs.Prelude.{◌==◌, length, option_map}
use Rattle.std.specs.List.{find, list_any}
use Rattle.std.proofs.lemmas.Bool.{eqb-true, eq-eqb}
use Rattle.packet_header.specs.Kinds.{is_asking, is_rfr}
use Rattle.packet_header.specs.Parts.{packet_count}
use Rattle.packet_header.specs.declared.packet.Kind.{Kind}
use Rattle.packet_header.specs.declared.packet.Kind.TheVariants.{Request, Rfr, Cr, Response}
use Rattle.packet_header.specs.declared.packet.MessageHeader.{MessageHeader}
use Rattle.rpc_base.specs.Tables.{at_first, without_first}
use Rattle.rpc_base.specs.declared.event.Event.TheVariants.{Posted, Took, Given, Ran}
use Rattle.rpc_base.specs.declared.owner.Owner.TheVariants.{Reply}
use Rattle.rpc_base.specs.declared.state.DropReason.TheVariants.{NoSession, WrongPeer}
use Rattle.rpc_laws.specs.declared.rows.ServerRow.{ServerRow}
use Rattle.rpc_laws.specs.declared.rows.ServerRow.TheVariants.{Drops, Begins, Takes, Repeats}
use Rattle.rpc_laws.specs.declared.tables.Lists.{Lists}
use Rattle.rpc_laws.specs.declared.tables.Served.{Served}
use Rattle.rpc_laws.specs.declared.tables.Server.{Server}
use Rattle.rpc_laws.specs.Facts.{plain, with_two}
use Rattle.rpc_laws.specs.Front.{front_header, front_body}
use Rattle.rpc_laws.specs.Jobs.{are_full}
use Rattle.rpc_laws.specs.NodeLists.{after, after_all}
use Rattle.rpc_laws.specs.PollOrder.{asks_facts}
use Rattle.rpc_laws.specs.Requests.{is_server, is_request, in_slot_of, first_packet, next_packet}
use Rattle.rpc_laws.specs.Requests.{took_packet, answered}
use Rattle.rpc_laws.specs.ServerTable.{slot_row, server_row, is_last, took_facts, flushes}
use Rattle.rpc_laws.specs.ServerTable.{flushes_older, is_past_end, whole_ask, served_facts}
use Rattle.rpc_outside.specs.declared.service.Mode.{Mode}
use Rattle.rpc_laws.specs.Service.{is_mode_background}
use Rattle.node_laws.proofs.Allowed.{Newer, NoneOlder, Stands, MayGive, GoesBy, Grows}
use Rattle.node_laws.proofs.Allowed.{MayTakeAsk, MayReply, AllAllowed}
use Rattle.rpc_base.proofs.FindLemmas.{push-found, none-found, missing-none}
use Rattle.node_laws.proofs.FlushLemmas.{Flushes, no-more-same, flushes-none, flushes-owner}
use Rattle.node_laws.proofs.LeadsLemmas.{allowed-join}
use Rattle.node_laws.proofs.LookLemmas.{look-own}
use Rattle.node_laws.proofs.QueueLemmas.{flushed-none}
use Rattle.node_laws.proofs.RowLemmas.{Starts, starts-slot, Continues, continues-slot, Next, repeats-slot}
use Rattle.node_laws.proofs.RowLemmas.{last-parts, not-begins, not-takes, not-repeats, drops-begins}
use Rattle.node_laws.proofs.RowLemmas.{drops-takes, drops-repeats}
use Rattle.node_laws.proofs.ServerLemmas.{few-requests, request-slot}
use Rattle.rpc_base.proofs.FirstLemmas.{found-holds, found-own, found-changed, found-any, none-counted, sum-fewer}
use Rattle.node_laws.specs.Valid.{is_due, RunWhole, SoundServer, Valid}
use Rattle.rpc_base.proofs.TakingLemmas.{find-passes}

-- a row that holds of a session that is there, with its peer
pub record Known (mode : Mode) (full lacks : Bool) (o : Option Server) (h : MessageHeader)
    (row : ServerRow) : Type 0 where
  pub server : Server
  pub is_server : o ≡ Some server
  pub slot : slot_row mode full lacks (find (in_slot_of h.request) server.slots) h ≡ row

known-begins : (mode : Mode) (full lacks : Bool) (o : Option Server) (peer : ℕ) (h : MessageHeader)
    → server_row mode full lacks o peer h ≡ Begins → Known mode full lacks o h Begins
known-begins mode full lacks None peer h e = absurd (drops-begins NoSession e)
known-begins mode full lacks (Some v) peer h e =
    let right = not-begins (not (v.way.peer == peer)) (Drops WrongPeer) _ (drops-begins WrongPeer) e in
    record { server = v; is_server = refl; slot = right.1 }

known-takes : (mode : Mode) (full lacks : Bool) (o : Option Server) (peer : ℕ) (h : MessageHeader)
    → server_row mode full lacks o peer h ≡ Takes → Known mode full lacks o h Takes
known-takes mode full lacks None peer h e = absurd (drops-takes NoSession e)
known-takes mode full lacks (Some v) peer h e =
    let right = not-takes (not (v.way.peer == peer)) (Drops WrongPeer) _ (drops-takes WrongPeer) e in
    record { server = v; is_server = refl; slot = right.1 }

known-repeats : (mode : Mode) (full lacks : Bool) (o : Option Server) (peer : ℕ) (h : MessageHeader)
    → server_row mode full lacks o peer h ≡ Repeats → Known mode full lacks o h Repeats
known-repeats mode full lacks None peer h e = absurd (drops-repeats NoSession e)
known-repeats mode full lacks (Some v) peer h e =
    let right = not-repeats (not (v.way.peer == peer)) (Drops WrongPeer) _ (drops-repeats WrongPeer) e in
    record { server = v; is_server = refl; slot = right.1 }

-- a reply to a packet that was taken of a request that stands in its slot
reply-at : (t r k : ℕ) (servers : List Server) (v : Server) (q : Served)
    → find (is_server t) servers ≡ Some v → find (is_request r) v.slots ≡ Some q → k < q.taken
    → MayReply servers t r k
reply-at t r k servers v q server served taken =
    record { stands = record { served = q; found = rw (server, served) refl }; taken = taken }

-- it does so still after its run
pub stands-ran : (t r : ℕ) (answer : List ℕ) (servers : List Server) → Stands servers t r
    → Stands (at_first (is_server t) (λ v. record v
    { slots = at_first (is_request r) (answered answer) v.slots }) servers) t r
stands-ran t r answer servers a = record {
  served = answered answer a.served;
  found = look-own t r (answered answer) (λ q. refl) servers ∙ rw a.found refl;
}

-- and so may a reply be posted
pub reply-ran : (t r k : ℕ) (answer : List ℕ) (servers : List Server) → MayReply servers t r k
    → MayReply (at_first (is_server t) (λ v. record v
    { slots = at_first (is_request r) (answered answer) v.slots }) servers) t r k
reply-ran t r k answer servers a = record {
  stands = record {
    served = answered answer a.stands.served;
    found = look-own t r (answered answer) (λ q. refl) servers ∙ rw a.stands.found refl;
  };
  taken = a.taken;
}

-- the facts of a packet that is taken: the last one of a request runs it or gives it
took-by : (clock : ℕ) (s : Lists) (me : ℕ) (answer : List ℕ) (h : MessageHeader) (ask : List ℕ)
    (b c : Bool) → MayTakeAsk s h.session h.request
    → (b ≡ true → MayGive (after clock s (plain me (Took (Reply h.session h.request) h.number)))
    h.session h.request)
    → MayReply (after clock s (plain me (Took (Reply h.session h.request) h.number))).servers
    h.session h.request h.number → AllAllowed clock s (plain me (Took (Reply h.session h.request) h.number)
    ∷ cond (b && c) (plain me (Given h.session h.request) ∷ [])
    ((cond b (with_two me (Ran h.session h.request h.req_type) ask answer ∷ []) [])
    ++ plain me (Posted (Reply h.session h.request) h.number) ∷ []))
took-by clock s me answer h ask true true take give reply = (take, (give refl, tt))
took-by clock s me answer h ask true false take give reply =
    let ran = reply-ran h.session h.request h.number answer
    (after clock s (plain me (Took (Reply h.session h.request) h.number))).servers reply in
    (take, (inl (give refl), (ran, tt)))
took-by clock s me answer h ask false c take give reply = (take, (reply, tt))

module _ (clock : ℕ) (s : Lists) (v : Server) (sound : SoundServer v) (h : MessageHeader)
    (front : front_header s.ring ≡ Some h) (found : find (is_server h.session) s.servers ≡ Some v)
  where
    -- the server session after the packet is taken
    next-server : find (is_server h.session) (at_first (is_server h.session)
        (λ w. record w {
          slots = took_packet h.request (front_header s.ring)
              (front_body s.ring) w.slots;
        }) s.servers)
        ≡ Some (record v { slots = took_packet h.request (Some h) (front_body s.ring) v.slots })
    next-server =
        rw front (found-changed (is_server h.session)
        (λ w. record w { slots = took_packet h.request (Some h) (front_body s.ring) w.slots })
        (is_server h.session) v s.servers (find-passes (is_server h.session) s.servers v found)
        found found)

    -- a newer number isn't in its slot
    missing-by : (o : Option Served) → find (is_request h.request) v.slots ≡ o
        → Newer h.request (find (in_slot_of h.request) v.slots) → o ≡ None
    missing-by None e newer = refl
    missing-by (Some q) e newer =
        let own = find-passes (is_request h.request) v.slots q e in
        let number : q.number ≡ h.request = eqb-true q.number h.request own in
        let slot : find (in_slot_of h.request) v.slots ≡ Some q =
        found-own (is_request h.request)
        (in_slot_of h.request) v.slots q (sound.apart (h.request % 8)) e
        (request-slot h.request q own) in
        let less : q.number < h.request = rw slot at newer in
        absurd (omega arith)

    missing : Newer h.request (find (in_slot_of h.request) v.slots) → list_any (is_request h.request) v.slots ≡ false
    missing newer =
        let none = missing-by (find (is_request h.request) v.slots) refl newer in
        missing-none (is_request h.request) v.slots none

    may-begin : Newer h.request (find (in_slot_of h.request) v.slots)
        → NoneOlder h.session (find (in_slot_of h.request) v.slots) s.queued
        → MayTakeAsk s h.session h.request
    may-begin newer clean = record {
      serve = record {
        server = v;
        found = found;
        header = h;
        front = front;
        newer = λ _. newer;
        clean = λ _. clean;
      };
      grows = λ q e.
          let none = missing newer in
          let some = found-any (is_request h.request) v.slots q e in
          absurd (cc);
    }

    first-found : (b : Bool) → b ≡ false → list_any (is_request h.request) v.slots ≡ false
        → find (is_request h.request) (cond b (at_first (is_request h.request)
        (next_packet (front_body s.ring)) v.slots)
        (without_first (in_slot_of h.request) v.slots ++ first_packet h.request h (front_body s.ring)
        ∷ [])) ≡ Some (first_packet h.request h (front_body s.ring))
    first-found true t none = cc
    first-found false t none =
        let zero = none-counted (is_request h.request) v.slots none in
        let fewer = sum-fewer (in_slot_of h.request) (λ (q : Served). cond (is_request h.request q) 1 0) v.slots in
        push-found (is_request h.request) (without_first (in_slot_of h.request) v.slots)
        (first_packet h.request h (front_body s.ring))
        (none-found (is_request h.request) (without_first (in_slot_of h.request) v.slots)
        (omega arith)) (eq-eqb h.request h.request refl)

    reply-as : (q : Served)
        → find (is_request h.request) (took_packet h.request (Some h) (front_body s.ring) v.slots)
        ≡ Some q → h.number < q.taken → MayReply (at_first (is_server h.session)
        (λ w. record w {
          slots = took_packet h.request (front_header s.ring)
              (front_body s.ring) w.slots;
        }) s.servers) h.session h.request h.number
    reply-as q e taken =
        reply-at h.session h.request h.number (at_first (is_server h.session)
        (λ w. record w {
          slots = took_packet h.request (front_header s.ring)
              (front_body s.ring) w.slots;
        }) s.servers)
        (record v { slots = took_packet h.request (Some h) (front_body s.ring) v.slots }) q
        next-server e taken

    reply-first : Starts (find (in_slot_of h.request) v.slots) h
        → MayReply (at_first (is_server h.session)
        (λ w. record w {
          slots = took_packet h.request (front_header s.ring)
              (front_body s.ring) w.slots;
        }) s.servers) h.session h.request h.number
    reply-first starts =
        let none = missing starts.newer in
        let first = starts.first in
        reply-as (first_packet h.request h (front_body s.ring))
        (first-found (list_any (is_request h.request) v.slots) none none) (omega arith)

    may-give-first : (me : ℕ) → Starts (find (in_slot_of h.request) v.slots) h → is_last h ≡ true
        → MayGive (after clock s (plain me (Took (Reply h.session h.request) h.number))) h.session
        h.request
    may-give-first me starts last =
        let parts = last-parts h last in
        let first = starts.first in
        let count = parts.1 in
        let none = missing starts.newer in
        record {
          server = record v { slots = took_packet h.request (Some h) (front_body s.ring) v.slots };
          found = next-server;
          served = first_packet h.request h (front_body s.ring);
          is_served = first-found (list_any (is_request h.request) v.slots) none none;
          due = refl;
          whole = omega arith;
        }

    -- a packet that goes on
    own-found : (l : Served) → find (in_slot_of h.request) v.slots ≡ Some l → l.number ≡ h.request
        → find (is_request h.request) v.slots ≡ Some l
    own-found l e same =
        found-own (in_slot_of h.request) (is_request h.request) v.slots l
        (few-requests h.request v.slots (sound.apart (h.request % 8))) e
        (eq-eqb l.number h.request same)

    goes-by : (k : Kind) → is_asking k ≡ true → (l : Served) → (is_rfr k ≡ false → h.size ≡ l.size)
        → (is_rfr k ≡ true → is_past_end l.size (option_map length l.answer) h.number ≡ false)
        → GoesBy k l h
    goes-by Request asks l sized wants = sized refl
    goes-by Rfr asks l sized wants = wants refl
    goes-by Cr asks l sized wants = cc
    goes-by Response asks l sized wants = cc

    may-go-on : is_asking h.kind ≡ true → (l : Served)
        → find (is_request h.request) v.slots ≡ Some l → Next l h
        → MayTakeAsk s h.session h.request
    may-go-on asks l e next = record {
      serve = record {
        server = v;
        found = found;
        header = h;
        front = front;
        newer = λ none. let some = found-any (is_request h.request) v.slots l e in cc;
        clean = λ none. let some = found-any (is_request h.request) v.slots l e in cc;
      };
      grows = λ q f.
          let same : l ≡ q = cc in
          subst (λ (z : Served). Grows z h) same
          (record { turn = next.turn; goes = goes-by h.kind asks l next.sized next.wants });
    }

    none-yet : (l : Served) (b : Bool) → is_due l ≡ b → RunWhole l → l.taken < packet_count l.size → b ≡ true
    none-yet l true e whole more = refl
    none-yet l false e whole more = let all = whole e in absurd (omega arith)

    next-found : (l : Served) (b : Bool) → b ≡ true → find (is_request h.request) v.slots ≡ Some l
        → find (is_request h.request) (cond b (at_first (is_request h.request)
        (next_packet (front_body s.ring)) v.slots)
        (without_first (in_slot_of h.request) v.slots ++ first_packet h.request h (front_body s.ring)
        ∷ [])) ≡ Some (next_packet (front_body s.ring) l)
    next-found l true t e =
        found-changed (is_request h.request) (next_packet (front_body s.ring))
        (is_request h.request) l v.slots (find-passes (is_request h.request) v.slots l e) e e
    next-found l false t e = cc

    reply-next : (l : Served) → find (is_request h.request) v.slots ≡ Some l → h.number ≡ l.taken
        → MayReply (at_first (is_server h.session)
        (λ w. record w {
          slots = took_packet h.request (front_header s.ring)
              (front_body s.ring) w.slots;
        }) s.servers) h.session h.request h.number
    reply-next l e turn =
        reply-as (next_packet (front_body s.ring) l)
        (next-found l (list_any (is_request h.request) v.slots)
        (found-any (is_request h.request) v.slots l e) e) (omega arith)

    may-give-next : (me : ℕ) (c : Continues (find (in_slot_of h.request) v.slots) h)
        → is_last h ≡ true → MayGive (after clock s
        (plain me (Took (Reply h.session h.request) h.number))) h.session h.request
    may-give-next me c last =
        let l = c.served in
        let e : find (is_request h.request) v.slots ≡ Some l = own-found l c.is_served c.own in
        let parts = last-parts h last in
        let count = parts.1 in
        let size : h.size ≡ l.size = c.next.sized parts.0 in
        let counted : packet_count h.size ≡ packet_count l.size = ap packet_count size in
        let turn = c.next.turn in
        let whole = found-holds (is_request h.request) RunWhole v.slots l sound.whole e in
        record {
          server = record v { slots = took_packet h.request (Some h) (front_body s.ring) v.slots };
          found = next-server;
          served = next_packet (front_body s.ring) l;
          is_served = next-found l (list_any (is_request h.request) v.slots)
              (found-any (is_request h.request) v.slots l e) e;
          due = none-yet l (is_due l) refl whole (omega arith);
          whole = omega arith;
        }

-- flushing the older request
slot-flushed : (clock : ℕ) (s : Lists) (me session : ℕ) (o : Option Served)
    → (a : Flushes clock s (flushes me s.queued session o)) × NoneOlder session o a.queue
unfolding flushes-owner flushes-none
slot-flushed clock s me session None = (flushes-none clock s, tt)
slot-flushed clock s me session (Some l) = (
  flushes-owner clock s me s.queued (Reply session l.number),
  flushed-none (Reply session l.number) s.queued s.queued (no-more-same s.queued),
)

older-flushed : (clock : ℕ) (s : Lists) (me session r : ℕ) (o : Option Server) (v : Server)
    → o ≡ Some v → v.way.number ≡ session → (a : Flushes clock s (flushes_older me s.queued o r))
    × NoneOlder session (find (in_slot_of r) v.slots) a.queue
older-flushed clock s me session r None v e same = cc
older-flushed clock s me session r (Some w) v e same =
    let own : w ≡ v = cc in
    rw (own, same) (slot-flushed clock s me session (find (in_slot_of r) v.slots))

module _ (clock : ℕ) (s : Lists) (valid : Valid s) (h : MessageHeader)
    (front : front_header s.ring ≡ Some h) (asks : is_asking h.kind ≡ true) (peer : ℕ) where
  begins-allowed : (mode : Mode) (full lacks : Bool) (answer : List ℕ)
      → server_row mode full lacks (find (is_server h.session) s.servers) peer h ≡ Begins
      → AllAllowed clock s (served_facts mode s.me answer s.queued
      (find (is_server h.session) s.servers) h (front_body s.ring) Begins)
  begins-allowed mode full lacks answer e =
      let known = known-begins mode full lacks (find (is_server h.session) s.servers) peer h e in
      let v = known.server in
      let sound = found-holds (is_server h.session) SoundServer s.servers v valid.served known.is_server in
      let starts = starts-slot mode full lacks (find (in_slot_of h.request) v.slots) h known.slot in
      let older = flushes_older s.me s.queued (find (is_server h.session) s.servers) h.request in
      let number : v.way.number ≡ h.session =
      eqb-true v.way.number h.session
      (find-passes (is_server h.session) s.servers v known.is_server) in
      let flushes = older-flushed clock s s.me h.session h.request
      (find (is_server h.session) s.servers) v known.is_server number in
      let flushed = record s { queued = flushes.0.queue } in
      let took : AllAllowed clock flushed (took_facts mode s.me answer h (front_body s.ring)) =
      took-by clock flushed s.me answer h (front_body s.ring) (is_last h)
      (is_mode_background mode) (may-begin clock flushed v sound h front known.is_server
      starts.newer flushes.1) (may-give-first clock flushed v sound h front known.is_server
      s.me starts) (reply-first clock flushed v sound h front known.is_server starts) in
      let rest : AllAllowed clock (after_all clock s older)
      (took_facts mode s.me answer h (front_body s.ring)) = rw flushes.0.same took in
      allowed-join clock s older (took_facts mode s.me answer h (front_body s.ring)) flushes.0.allowed rest

  takes-allowed : (mode : Mode) (full lacks : Bool) (answer : List ℕ)
      → server_row mode full lacks (find (is_server h.session) s.servers) peer h ≡ Takes
      → AllAllowed clock s (served_facts mode s.me answer s.queued
      (find (is_server h.session) s.servers) h (front_body s.ring) Takes)
  takes-allowed mode full lacks answer e =
      let known = known-takes mode full lacks (find (is_server h.session) s.servers) peer h e in
      let v = known.server in
      let sound = found-holds (is_server h.session) SoundServer s.servers v valid.served known.is_server in
      let goes = continues-slot mode full lacks (find (in_slot_of h.request) v.slots) h known.slot in
      let own = own-found clock s v sound h front known.is_server goes.served goes.is_served goes.own in
      took-by clock s s.me answer h (whole_ask (find (is_server h.session) s.servers) h.request
      (front_body s.ring)) (is_last h) (is_mode_background mode)
      (may-go-on clock s v sound h front known.is_server asks goes.served own goes.next)
      (may-give-next clock s v sound h front known.is_server s.me goes)
      (reply-next clock s v sound h front known.is_server goes.served own goes.next.turn)

  repeats-allowed : (mode : Mode) (full lacks : Bool) (answer : List ℕ)
      → server_row mode full lacks (find (is_server h.session) s.servers) peer h ≡ Repeats
      → AllAllowed clock s (served_facts mode s.me answer s.queued
      (find (is_server h.session) s.servers) h (front_body s.ring) Repeats)
  repeats-allowed mode full lacks answer e =
      let known = known-repeats mode full lacks (find (is_server h.session) s.servers) peer h e in
      let v = known.server in
      let sound = found-holds (is_server h.session) SoundServer s.servers v valid.served known.is_server in
      let again = repeats-slot mode full lacks (find (in_slot_of h.request) v.slots) h known.slot in
      let own = own-found clock s v sound h front known.is_server again.served again.is_served again.own in (
        tt,
        (
          reply-at h.session h.request h.number s.servers v again.served known.is_server own
              again.before,
          tt,
        ),
      )

  served-by : (mode : Mode) (full lacks : Bool) (answer : List ℕ) (row : ServerRow)
      → server_row mode full lacks (find (is_server h.session) s.servers) peer h ≡ row
      → AllAllowed clock s (served_facts mode s.me answer s.queued
      (find (is_server h.session) s.servers) h (front_body s.ring) row)
  served-by mode full lacks answer (Drops why) e = (tt, tt)
  served-by mode full lacks answer Begins e = begins-allowed mode full lacks answer e
  served-by mode full lacks answer Takes e = takes-allowed mode full lacks answer e
  served-by mode full lacks answer Repeats e = repeats-allowed mode full lacks answer e

  pub asks-allowed : (mode : ℕ → Mode) (lacks : Bool) (answer : List ℕ)
      → AllAllowed clock s (asks_facts mode lacks answer s peer h (front_body s.ring))
  asks-allowed mode lacks answer =
      served-by (mode h.req_type) (are_full s.jobs) lacks answer
      (server_row (mode h.req_type) (are_full s.jobs) lacks (find (is_server h.session) s.servers)
      peer h) refl
