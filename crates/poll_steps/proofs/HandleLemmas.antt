-- The packet at the front of the ring is handled by a front of the facts exactly where they begin with its facts.
use Rattle.std.proofs.Common.{◌≡◌, ◌<◌, ℕ, Bool, true, false, cond, Some, None, List, [], ◌∷◌}
use Rattle.std.proofs.Common.{◌++◌, Option, length, take, refl, sym, ap, ◌∙◌, subst, slice_get, ◌==◌}
use Rattle.std.specs.List.{find}
use Rattle.std.proofs.lemmas.Bool.{eqb-true}
use Rattle.std.proofs.lemmas.List.{length-take-le, nil_from_length}
use Rattle.packet_header.specs.declared.packet.Kind.{Kind}
use Rattle.packet_header.specs.declared.packet.Kind.TheVariants.{Request, Rfr, Cr, Response}
use Rattle.packet_header.specs.declared.packet.MessageHeader.{MessageHeader}
use Rattle.packet_header.specs.Reading.{body_of, message_of}
use Rattle.rpc_base.specs.declared.fact.Fact.{Fact}
use Rattle.rpc_laws.specs.declared.rows.ClientRow.{ClientRow}
use Rattle.rpc_laws.specs.declared.rows.ClientRow.TheVariants.{Drops as ClientDrops, Takes as ClientTakes}
use Rattle.rpc_laws.specs.declared.rows.ServerRow.{ServerRow}
use Rattle.rpc_laws.specs.declared.rows.ServerRow.TheVariants.{Begins, Drops, Repeats, Takes}
use Rattle.rpc_laws.specs.declared.tables.Arrival.{Arrival}
use Rattle.rpc_laws.specs.declared.tables.Client.{Client}
use Rattle.rpc_laws.specs.declared.tables.Lists.{Lists}
use Rattle.rpc_laws.specs.declared.tables.Queued.{Queued}
use Rattle.rpc_laws.specs.declared.tables.Server.{Server}
use Rattle.rpc_laws.specs.declared.tables.Timed.{Timed}
use Rattle.rpc_laws.specs.ClientTable.{client_row, reply_facts}
use Rattle.rpc_laws.specs.Jobs.{are_full}
use Rattle.rpc_laws.specs.NodeLists.{after_all}
use Rattle.rpc_laws.specs.PollOrder.{handled, Handles, handling_by, NoMoreToHandle}
use Rattle.rpc_laws.specs.Queues.{replies}
use Rattle.rpc_laws.specs.Requests.{is_server}
use Rattle.rpc_laws.specs.ServerTable.{flushes_older, served_facts, server_row, took_facts}
use Rattle.rpc_laws.specs.Sessions.{is_client}
use Rattle.rpc_outside.specs.declared.service.Mode.{Mode}
use Rattle.rpc_outside.specs.PlainAnswer.{plain_mode}
use Rattle.front_laws.proofs.RingOneLemmas.{handles-end}
use Rattle.front_laws.proofs.RowOneLemmas.{some-same}
use Rattle.rule_facts.proofs.HandlingLemmas.{some-front, some-within}
use Rattle.rule_facts.specs.Handling.{handled_facts, SomeFronts}
use Rattle.node_rules.specs.SingleFacts.{at_clock}
use Rattle.poll_steps.proofs.StepLemmas.{NotesSome}
use Rattle.poll_steps.specs.Handling.{HandlesNext}
use Rattle.poll_steps.specs.Steps.{IsStep}

-- each packet notes something
back-some : (x y : List Fact) → (y ≡ [] → ⊥) → x ++ y ≡ [] → ⊥
back-some [] y n e = n e
back-some (f ∷ x) y n e = cc

took-some : (mode : Mode) (me : ℕ) (answer : List ℕ) (h : MessageHeader) (ask : List ℕ)
    → took_facts mode me answer h ask ≡ [] → ⊥
took-some mode me answer h ask e = cc

served-some : (mode : Mode) (me : ℕ) (answer : List ℕ) (queued : List Queued) (v : Option Server)
    (h : MessageHeader) (body : List ℕ) (row : ServerRow)
    → served_facts mode me answer queued v h body row ≡ [] → ⊥
served-some mode me answer queued v h body (Drops why) e = cc
served-some mode me answer queued v h body Begins e =
    back-some (flushes_older me queued v h.request) (took_facts mode me answer h body)
    (took-some mode me answer h body) e
served-some mode me answer queued v h body Takes e = cc
served-some mode me answer queued v h body Repeats e = cc

reply-some : (me : ℕ) (x : Option Client) (h : MessageHeader) (body : List ℕ) (row : ClientRow)
    → reply_facts me x h body row ≡ [] → ⊥
reply-some me x h body (ClientDrops why) e = cc
reply-some me x h body ClientTakes e = cc

kind-some : (mode : ℕ → Mode) (lacks : Bool) (answer : List ℕ) (kind : Kind) (s : Lists) (peer : ℕ)
    (h : MessageHeader) (body : List ℕ) → handling_by mode lacks answer kind s peer h body ≡ [] → ⊥
kind-some mode lacks answer Request s peer h body e =
    let v = find (is_server h.session) s.servers in
    served-some (mode h.req_type) s.me answer s.queued v h body
    (server_row (mode h.req_type) (are_full s.jobs) lacks v peer h) e
kind-some mode lacks answer Rfr s peer h body e =
    let v = find (is_server h.session) s.servers in
    served-some (mode h.req_type) s.me answer s.queued v h body
    (server_row (mode h.req_type) (are_full s.jobs) lacks v peer h) e
kind-some mode lacks answer Cr s peer h body e =
    let x = find (is_client h.session) s.clients in
    reply-some s.me x h body (client_row s.queued x peer h (length body)) e
kind-some mode lacks answer Response s peer h body e =
    let x = find (is_client h.session) s.clients in
    reply-some s.me x h body (client_row s.queued x peer h (length body)) e

either-some : (b : Bool) (x : List Fact) (f : Fact) → (x ≡ [] → ⊥) → cond b x (f ∷ []) ≡ [] → ⊥
either-some true x f n e = n e
either-some false x f n e = cc

pub handles-some : (mode : ℕ → Mode) → NotesSome (Handles mode)
handles-some mode s x t h e =
    either-some (h.header.to_life == s.lists.life) _ _
    (kind-some mode h.lacks h.answer h.header.kind s.lists h.front.peer h.header (body_of h.front.bytes))
    (sym h.facts ∙ e)

-- the facts begin with those of the front packet
next-found : (s : Lists) (front : Arrival) (h : MessageHeader) (facts : List Fact) (n : ℕ)
    → replies s.queued < s.room → slice_get s.ring 0 ≡ Some front → message_of front.bytes ≡ Some h
    → SomeFronts (handled_facts s front.peer h (body_of front.bytes)) facts (Some n) → HandlesNext s facts (Some n)
next-found s front h facts n room at reads k clock = record {
  some = (
    some-within (handled_facts s front.peer h (body_of front.bytes)) facts n k.some,
    record {
      room = room;
      front = front;
      is_front = at;
      header = h;
      reads = reads;
      lacks = k.some.case.lacks;
      answer = k.some.case.answer;
      facts = some-front (handled_facts s front.peer h (body_of front.bytes)) facts n k.some;
      goes = refl;
    },
  );
  only = λ no. cc;
}

-- they don't
next-lost : (s : Lists) (front : Arrival) (h : MessageHeader) (facts : List Fact)
    → slice_get s.ring 0 ≡ Some front → message_of front.bytes ≡ Some h
    → SomeFronts (handled_facts s front.peer h (body_of front.bytes)) facts None → HandlesNext s facts None
next-lost s front h facts at reads lost clock = record {
  some = tt;
  only = λ no x t begins k.
      let same : k.front ≡ front = some-same (slice_get s.ring 0) k.front front k.is_front at in
      let header : k.header ≡ h =
      some-same (message_of front.bytes) k.header h
      (subst (λ (a : Arrival). message_of a.bytes ≡ Some k.header) same k.reads) reads in
      let moved : x ≡ handled plain_mode k.lacks k.answer s front.peer k.header (body_of front.bytes) =
      subst (λ (a : Arrival). x ≡ handled plain_mode k.lacks k.answer s a.peer k.header (body_of a.bytes)) same
      k.facts in
      let own : x ≡ handled plain_mode k.lacks k.answer s front.peer h (body_of front.bytes) =
      subst (λ (c : MessageHeader). x ≡ handled plain_mode k.lacks k.answer s front.peer c (body_of front.bytes))
      header moved in
      lost.only refl (record { lacks = k.lacks; answer = k.answer })
      (record {
        rest = begins.rest;
        parted = begins.parted ∙ ap (λ (z : List Fact). z ++ begins.rest) own;
      });
}

-- it is no packet
pub next-unread : (s : Lists) (front : Arrival) (facts : List Fact) (bytes : List ℕ) → slice_get s.ring 0 ≡ Some front
    → bytes ≡ front.bytes → message_of bytes ≡ None → HandlesNext s facts None
next-unread s front facts bytes at is none clock = record {
  some = tt;
  only = λ no x t begins k.
      let same : k.front ≡ front = some-same (slice_get s.ring 0) k.front front k.is_front at in
      let reads : message_of front.bytes ≡ Some k.header =
      subst (λ (a : Arrival). message_of a.bytes ≡ Some k.header) same k.reads in
      let clash : None ≡ Some k.header = sym none ∙ (ap (λ (z : List ℕ). message_of z) is ∙ reads) in
      cc;
}

next-by : (s : Lists) (front : Arrival) (h : MessageHeader) (facts : List Fact) (o : Option ℕ)
    → replies s.queued < s.room → slice_get s.ring 0 ≡ Some front → message_of front.bytes ≡ Some h
    → SomeFronts (handled_facts s front.peer h (body_of front.bytes)) facts o → HandlesNext s facts o
next-by s front h facts (Some n) room at reads k = next-found s front h facts n room at reads k
next-by s front h facts None room at reads k = next-lost s front h facts at reads k

-- it is this one
pub next-read : (s : Lists) (front : Arrival) (h : MessageHeader) (facts : List Fact) (o : Option ℕ)
    (bytes body : List ℕ) → replies s.queued < s.room → slice_get s.ring 0 ≡ Some front → bytes ≡ front.bytes
    → message_of bytes ≡ Some h → body ≡ body_of bytes → SomeFronts (handled_facts s front.peer h body) facts o
    → HandlesNext s facts o
next-read s front h facts o bytes body room at is reads rest k =
    next-by s front h facts o room at (ap (λ (z : List ℕ). message_of z) (sym is) ∙ reads)
    (subst (λ (z : List ℕ). SomeFronts (handled_facts s front.peer h z) facts o)
    (rest ∙ ap (λ (z : List ℕ). body_of z) is) k)

-- no more are handled
pub next-over : (s : Lists) (facts : List Fact) → ((clock : ℕ) → NoMoreToHandle (at_clock clock s))
    → HandlesNext s facts None
next-over s facts over clock = record {
  some = tt;
  only = λ no x t begins k. handles-end plain_mode (at_clock clock s) x t (over clock) k;
}

pub none-left : (ring : List Arrival) (b : Bool) → b ≡ (length ring == 0) → b ≡ true → ring ≡ []
none-left ring b e is = nil_from_length ring (eqb-true (length ring) 0 (sym e ∙ is))

-- the facts that were told are all there
pub taken-whole : (s : Lists) (facts : List Fact) (o : Option ℕ) (n : ℕ) → HandlesNext s facts o
    → o ≡ Some n → n ≡ length (take n facts)
taken-whole s facts o n h e =
    let told : HandlesNext s facts (Some n) = subst (HandlesNext s facts) e h in
    sym (length-take-le n facts (told 0).some.0)

-- the lists were changed as the facts do that were told
pub applied-some : (clock : ℕ) (s new : Lists) (facts : List Fact) (o : Option ℕ) (n : ℕ) → HandlesNext s facts o
    → o ≡ Some n → new ≡ after_all clock s (take n facts)
    → IsStep (Handles plain_mode) (at_clock clock s) facts (at_clock clock new) (Some n)
applied-some clock s new facts o n h e is =
    let told : HandlesNext s facts (Some n) = subst (HandlesNext s facts) e h in
    subst (λ (z : Lists). IsStep (Handles plain_mode) (at_clock clock s) facts (at_clock clock z) (Some n)) (sym is)
    (told clock)

pub applied-none : (clock : ℕ) (s : Lists) (facts : List Fact) (o : Option ℕ) (v : Timed) → HandlesNext s facts o
    → o ≡ None → IsStep (Handles plain_mode) (at_clock clock s) facts v None
applied-none clock s facts o v h e =
    let told : HandlesNext s facts None = subst (HandlesNext s facts) e h in
    record { some = tt; only = (told clock).only }
