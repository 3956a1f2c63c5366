-- What a turn counts: packets that are handled leave the ring, one each, and packets that are sent
-- leave the queue.
use Rattle.std.proofs.Common.{◌≡◌, ℕ, ◌+◌, ◌-◌, ◌≤◌, Bool, true, false, cond, Option, Some}
use Rattle.std.proofs.Common.{None, List, [], ◌∷◌, ◌++◌, length, drop, refl, sym, ap, ◌∙◌, subst}
use Rattle.std.proofs.Common.{append-nil, arith}
use Rattle.std.proofs.lemmas.Bool.{false≢true}
use Rattle.std.specs.Prelude.{◌==◌, count_by, is_none, map, slice_get}
use Rattle.std.specs.List.{find}
use Rattle.std.proofs.lemmas.List.{length-drop}
use Rattle.std.proofs.lemmas.List.Sums.{sum_by-append, sum_by-cons}
use Rattle.packet_header.specs.Reading.{body_of}
use Rattle.packet_header.specs.declared.packet.Kind.{Kind}
use Rattle.packet_header.specs.declared.packet.Kind.TheVariants.{Request, Rfr, Cr, Response}
use Rattle.packet_header.specs.declared.packet.MessageHeader.{MessageHeader}
use Rattle.rpc_base.specs.declared.event.Event.{Event}
use Rattle.rpc_base.specs.declared.event.Event.TheVariants.{Again, Arrived, Asked}
use Rattle.rpc_base.specs.declared.event.Event.TheVariants.{Dropped, Flushed, Heard, Sent}
use Rattle.rpc_base.specs.declared.event.Event.TheVariants.{Took, Unsent, Worked}
use Rattle.rpc_base.specs.declared.fact.Fact.{Fact}
use Rattle.rpc_base.specs.declared.owner.Owner.{Owner}
use Rattle.rpc_base.specs.declared.owner.Owner.TheVariants.{Ask, Reply}
use Rattle.rpc_outside.specs.declared.service.Mode.{Mode}
use Rattle.rpc_laws.specs.declared.rows.ClientRow.{ClientRow}
use Rattle.rpc_laws.specs.declared.rows.ClientRow.TheVariants.{Drops as DropsReply, Takes as TakesReply}
use Rattle.rpc_laws.specs.declared.rows.EndRow.{EndRow}
use Rattle.rpc_laws.specs.declared.rows.EndRow.TheVariants.{EndsOk, EndsTooSmall, GoesOn}
use Rattle.rpc_laws.specs.declared.rows.ServerRow.{ServerRow}
use Rattle.rpc_laws.specs.declared.rows.ServerRow.TheVariants.{Begins, Drops, Repeats, Takes}
use Rattle.rpc_laws.specs.declared.tables.Arrival.{Arrival}
use Rattle.rpc_laws.specs.declared.tables.Asking.{Asking}
use Rattle.rpc_laws.specs.declared.tables.Call.{Call}
use Rattle.rpc_laws.specs.declared.tables.Client.{Client}
use Rattle.rpc_laws.specs.declared.tables.Lists.{Lists}
use Rattle.rpc_laws.specs.declared.tables.Progress.{Progress}
use Rattle.rpc_laws.specs.declared.tables.Queued.{Queued}
use Rattle.rpc_laws.specs.declared.tables.Served.{Served}
use Rattle.rpc_laws.specs.declared.tables.Server.{Server}
use Rattle.rpc_laws.specs.declared.tables.Timed.{Timed}
use Rattle.rpc_laws.specs.Calls.{asked_packets, is_active, with_reply}
use Rattle.rpc_laws.specs.ClientTable.{call_ending, client_ending, end_facts, end_row}
use Rattle.rpc_laws.specs.ClientTable.{progress_ending, reply_facts}
use Rattle.rpc_laws.specs.Facts.{plain}
use Rattle.rpc_laws.specs.NodeLists.{after, after_all}
use Rattle.rpc_laws.specs.PollOrder.{Handles, handled, handling_by, Sends}
use Rattle.rpc_laws.specs.Queues.{numbers_of, ring_after}
use Rattle.rpc_laws.specs.Requests.{in_slot_of, is_server}
use Rattle.rpc_laws.specs.ServerTable.{flushes, flushes_older, is_last, makes_job}
use Rattle.rpc_laws.specs.ServerTable.{served_facts, took_facts, whole_ask}
use Rattle.rpc_laws.specs.Sessions.{is_client}
use Rattle.rpc_laws.specs.Steps.{Chain, more, none}
use Rattle.node_steps.specs.Counts.{is_handled, is_sent}
use Rattle.node_steps.specs.Notes.{is_asked, sent_by, sent_of}
use Rattle.node_steps.specs.Links.{is_unsent}
use Rattle.node_steps.proofs.NoteSteps.{sent-append}
use Rattle.node_steps.proofs.SendSteps.{front-out}
use Rattle.node_steps.proofs.NoteStill.{AllStill, still-append, still-by}

-- how many facts are of such an event
abbrev pub many : (Event → Bool) → List Fact → ℕ
many q x = count_by (λ f. q f.event) x

pub many-append : (q : Event → Bool) (x y : List Fact) → many q (x ++ y) ≡ many q x + many q y
many-append q x y = sum_by-append (λ (f : Fact). cond {A = ℕ} (q f.event) 1 0) x y

pub many-cons : (q : Event → Bool) (f : Fact) (x : List Fact) (b : Bool) → q f.event ≡ b
    → many q (f ∷ x) ≡ cond {A = ℕ} b 1 0 + many q x
many-cons q f x b e = sum_by-cons (λ (g : Fact). cond {A = ℕ} (q g.event) 1 0) f x
    ∙ ap (λ (c : Bool). cond {A = ℕ} c 1 0 + many q x) e

pub many-none : (q : Event → Bool) (x : List Fact) → AllStill q x → many q x ≡ 0
many-none q [] all = refl
many-none q (f ∷ x) all = omega (arith, many-cons q f x false all.0, many-none q x all.1)

-- what the handling of a packet of a call never notes: that a packet comes to the ring, is taken out
-- of the inbox, is sent or isn't taken by the link, that a job was worked, and that a call was asked
abbrev pub is_elsewhere : Event → Bool
is_elsewhere (Arrived peer) = true
is_elsewhere Heard = true
is_elsewhere (Sent peer owner k) = true
is_elsewhere (Unsent peer) = true
is_elsewhere (Worked session request) = true
is_elsewhere (Asked call session req_type room) = true
is_elsewhere _ = false

-- each packet that is handled leaves the ring
ring-one : (e : Event) (bytes : List ℕ) (ring : List Arrival) → is_elsewhere e ≡ false
    → ring_after e bytes ring ≡ drop (cond {A = ℕ} (is_handled e) 1 0) ring
ring-one (Arrived peer) bytes ring h = cc
ring-one Heard bytes ring h = cc
ring-one (Sent peer owner k) bytes ring h = cc
ring-one (Unsent peer) bytes ring h = cc
ring-one (Worked session request) bytes ring h = cc
ring-one (Asked call session req_type room) bytes ring h = cc
ring-one (Took owner k) bytes ring h = refl
ring-one (Again owner k) bytes ring h = refl
ring-one (Dropped why) bytes ring h = refl
ring-one _ bytes ring h = refl

pub ring-all : (clock : ℕ) (x : List Fact) (s : Lists) → AllStill is_elsewhere x
    → length (after_all clock s x).ring ≡ length s.ring - many is_handled x
ring-all clock [] s all = omega arith
ring-all clock (f ∷ x) s all =
    let one : length (after clock s f).ring
    ≡ length s.ring - cond {A = ℕ} (is_handled f.event) 1 0 =
    ap (λ (ring : List Arrival). length ring) (ring-one f.event f.first s.ring all.0)
    ∙ length-drop (cond {A = ℕ} (is_handled f.event) 1 0) s.ring in
    omega (
      arith,
      one,
      ring-all clock x (after clock s f) all.1,
      many-cons is_handled f x (is_handled f.event) refl,
    )

-- what is noted beside the one packet that is handled
module _ (q : Event → Bool) (flushed : (o : Owner) (k : ℕ) → q (Flushed o k) ≡ false) where
  flush-none : (me : ℕ) (owner : Owner) (ns : List ℕ)
      → AllStill q (map (λ k. plain me (Flushed owner k)) ns)
  flush-none me owner [] = tt
  flush-none me owner (n ∷ ns) = (flushed owner n, flush-none me owner ns)

  pub flushes-none : (me : ℕ) (queued : List Queued) (session : ℕ) (o : Option Served)
      → AllStill q (flushes me queued session o)
  flushes-none me queued session None = tt
  flushes-none me queued session (Some l) =
      flush-none me (Reply session l.number) (numbers_of (Reply session l.number) queued)

  older-none : (me : ℕ) (queued : List Queued) (v : Option Server) (r : ℕ)
      → AllStill q (flushes_older me queued v r)
  older-none me queued None r = tt
  older-none me queued (Some v) r =
      flushes-none me queued v.way.number (find (in_slot_of r) v.slots)

-- one packet was handled, and nothing else happened
abbrev IsOne : List Fact → Type 0
IsOne x = (many is_handled x ≡ 1) × AllStill is_elsewhere x

abbrev IsNone : List Fact → Type 0
IsNone x = (many is_handled x ≡ 0) × AllStill is_elsewhere x

one-more : (f : Fact) (x : List Fact) → is_handled f.event ≡ true → is_elsewhere f.event ≡ false
    → IsNone x → IsOne (f ∷ x)
one-more f x own still rest =
    (omega (arith, many-cons is_handled f x true own, rest.0), (still, rest.1))

brings-by : (b c : Bool) (f g p : Fact) → IsNone (f ∷ []) → IsNone (g ∷ []) → IsNone (p ∷ [])
    → IsNone (cond b (f ∷ []) (cond c (g ∷ []) [] ++ p ∷ []))
brings-by true c f g p one two three = one
brings-by false true f g p one two three = (
  omega (arith, many-append is_handled (g ∷ []) (p ∷ []), two.0, three.0),
  still-append is_elsewhere (g ∷ []) (p ∷ []) two.1 three.1,
)
brings-by false false f g p one two three = three

took-one : (mode : Mode) (me : ℕ) (answer : List ℕ) (h : MessageHeader) (ask : List ℕ)
    → IsOne (took_facts mode me answer h ask)
took-one mode me answer h ask =
    one-more (plain me (Took (Reply h.session h.request) h.number)) _ refl refl
    (brings-by (makes_job mode h) (is_last h) _ _ _ (refl, (refl, tt)) (refl, (refl, tt))
    (refl, (refl, tt)))

served-one : (mode : Mode) (me : ℕ) (answer : List ℕ) (queued : List Queued) (v : Option Server)
    (h : MessageHeader) (body : List ℕ) (row : ServerRow)
    → IsOne (served_facts mode me answer queued v h body row)
served-one mode me answer queued v h body (Drops why) = (refl, (refl, tt))
served-one mode me answer queued v h body Begins =
    let took = took-one mode me answer h body in (
      omega (
        arith,
        many-append is_handled (flushes_older me queued v h.request) (took_facts mode me answer h body),
        many-none is_handled (flushes_older me queued v h.request)
            (older-none is_handled (λ o k. refl) me queued v h.request),
        took.0,
      ),
      still-append is_elsewhere (flushes_older me queued v h.request)
          (took_facts mode me answer h body)
          (older-none is_elsewhere (λ o k. refl) me queued v h.request) took.1,
    )
served-one mode me answer queued v h body Takes =
    took-one mode me answer h (whole_ask v h.request body)
served-one mode me answer queued v h body Repeats = (refl, (refl, (refl, tt)))

-- what follows the Took of a reply
end-none : (me number : ℕ) (parts : List ℕ) (row : EndRow) → IsNone (end_facts me number parts row)
end-none me number parts GoesOn = (refl, tt)
end-none me number parts EndsOk = (refl, (refl, tt))
end-none me number parts (EndsTooSmall size) = (refl, (refl, tt))

progress-none : (me : ℕ) (a : Asking) (h : MessageHeader) (body : List ℕ) (o : Option Progress)
    → IsNone (progress_ending me a h body o)
progress-none me a h body None = (refl, tt)
progress-none me a h body (Some p) =
    end-none me a.number (with_reply h body p).parts (end_row (is_none p.answer) (asked_packets a)
    a.room (with_reply h body p).got (with_reply h body p).answer)

call-none : (me : ℕ) (h : MessageHeader) (body : List ℕ) (o : Option Call)
    → IsNone (call_ending me h body o)
call-none me h body None = (refl, tt)
call-none me h body (Some c) = progress-none me c.what h body c.progress

client-none : (me : ℕ) (h : MessageHeader) (body : List ℕ) (o : Option Client)
    → IsNone (client_ending me h body o)
client-none me h body None = (refl, tt)
client-none me h body (Some x) = call-none me h body (find (is_active h.request) x.calls)

reply-one : (me : ℕ) (x : Option Client) (h : MessageHeader) (body : List ℕ) (row : ClientRow)
    → IsOne (reply_facts me x h body row)
reply-one me x h body (DropsReply why) = (refl, (refl, tt))
reply-one me x h body TakesReply =
    one-more (plain me (Took (Ask h.session h.request) h.number)) _ refl refl
    (client-none me h body x)

handling-one : (mode : ℕ → Mode) (lacks : Bool) (answer : List ℕ) (kind : Kind) (s : Lists)
    (peer : ℕ) (h : MessageHeader) (body : List ℕ)
    → IsOne (handling_by mode lacks answer kind s peer h body)
handling-one mode lacks answer Request s peer h body =
    served-one (mode h.req_type) s.me answer s.queued (find (is_server h.session) s.servers) h body _
handling-one mode lacks answer Rfr s peer h body =
    served-one (mode h.req_type) s.me answer s.queued (find (is_server h.session) s.servers) h body _
handling-one mode lacks answer Cr s peer h body =
    reply-one s.me (find (is_client h.session) s.clients) h body _
handling-one mode lacks answer Response s peer h body =
    reply-one s.me (find (is_client h.session) s.clients) h body _

handled-by : (mode : ℕ → Mode) (lacks : Bool) (answer : List ℕ) (s : Lists) (peer : ℕ)
    (h : MessageHeader) (body : List ℕ) (own : Bool) → (h.to_life == s.life) ≡ own
    → IsOne (handled mode lacks answer s peer h body)
handled-by mode lacks answer s peer h body true e =
    rw e (handling-one mode lacks answer h.kind s peer h body)
handled-by mode lacks answer s peer h body false e = rw e (refl, (refl, tt))

has-front : (ring : List Arrival) (a : Arrival) → slice_get ring 0 ≡ Some a → 1 ≤ length ring
has-front [] a e = cc
has-front (b ∷ ring) a e = omega arith

-- a packet is handled: one is counted, and one leaves the ring
handles-is : (mode : ℕ → Mode) (s : Timed) (x : List Fact) (t : Timed) → Handles mode s x t → IsOne x
handles-is mode s x t h =
    subst IsOne (sym h.facts) (handled-by mode h.lacks h.answer s.lists h.front.peer h.header
    (body_of h.front.bytes) (h.header.to_life == s.lists.life) refl)

handles-one : (mode : ℕ → Mode) (s : Timed) (x : List Fact) (t : Timed) → Handles mode s x t
    → (many is_handled x ≡ 1) × (length t.lists.ring + 1 ≡ length s.lists.ring)
handles-one mode s x t h =
    let one = handles-is mode s x t h in
    let left : length t.lists.ring ≡ length s.lists.ring - many is_handled x =
    ap (λ (u : Timed). length u.lists.ring) h.goes ∙ ring-all s.clock x s.lists one.1 in
    (one.0, omega (arith, left, one.0, has-front s.lists.ring h.front h.is_front))

pub handled-count : (mode : ℕ → Mode) (s : Timed) (x : List Fact) (t : Timed)
    → Chain (Handles mode) s x t
    → many is_handled x + length t.lists.ring ≡ length s.lists.ring
handled-count mode s x t none = omega arith
handled-count mode s x t (more {x = front} {t = between} c y u h) =
    let one = handles-one mode between y u h in
    omega (
      arith,
      handled-count mode s front between c,
      many-append is_handled front y,
      one.0,
      one.1,
    )

-- a packet is sent: one is counted, and one leaves the queue
queue-front : (qs : List Queued) (q : Queued) → slice_get qs 0 ≡ Some q → 1 ≤ length qs
queue-front [] q e = cc
queue-front (p ∷ qs) q e = omega arith

sends-one : (s : Timed) (x : List Fact) (t : Timed) → Sends s x t
    → (many is_sent x ≡ 1) × (length t.lists.queued + 1 ≡ length s.lists.queued)
sends-one s x t h =
    let one : many is_sent x ≡ 1 = ap (many is_sent) h.facts in
    let left : t.lists.queued ≡ drop 1 s.lists.queued =
    ap (λ (u : Timed). u.lists.queued) h.goes
    ∙ ap (λ (fs : List Fact). (after_all s.clock s.lists fs).queued) h.facts
    ∙ front-out h.entry s.lists.queued h.is_front in (
      one,
      omega (
        arith,
        ap (λ (qs : List Queued). length qs) left,
        length-drop 1 s.lists.queued,
        queue-front s.lists.queued h.entry h.is_front,
      ),
    )

pub sent-count : (s : Timed) (x : List Fact) (t : Timed) → Chain Sends s x t
    → many is_sent x + length t.lists.queued ≡ length s.lists.queued
sent-count s x t none = omega arith
sent-count s x t (more {x = front} {t = between} c y u h) =
    let one = sends-one between y u h in
    omega (arith, sent-count s front between c, many-append is_sent front y, one.0, one.1)

pub handled-elsewhere : (mode : ℕ → Mode) (s : Timed) (x : List Fact) (t : Timed)
    → Chain (Handles mode) s x t → AllStill is_elsewhere x
handled-elsewhere mode s x t none = tt
handled-elsewhere mode s x t (more {x = front} {t = between} c y u h) =
    still-append is_elsewhere front y (handled-elsewhere mode s front between c)
    (handles-is mode between y u h).1

-- whether a job was worked, as the world alone notes
abbrev pub is_work : Event → Bool
is_work (Worked session request) = true
is_work _ = false

elsewhere-unsent : (e : Event) → is_elsewhere e ≡ false → is_sent e ≡ false
elsewhere-unsent (Sent peer owner k) h = absurd (false≢true (sym h))
elsewhere-unsent _ h = refl

elsewhere-unsaid : (e : Event) → is_elsewhere e ≡ false → is_unsent e ≡ false
elsewhere-unsaid (Unsent peer) h = absurd (false≢true (sym h))
elsewhere-unsaid _ h = refl

pub elsewhere-unworked : (e : Event) → is_elsewhere e ≡ false → is_work e ≡ false
elsewhere-unworked (Worked session request) h = absurd (false≢true (sym h))
elsewhere-unworked _ h = refl

pub elsewhere-unasked : (e : Event) → is_elsewhere e ≡ false → is_asked e ≡ false
elsewhere-unasked (Asked call session req_type room) h = absurd (false≢true (sym h))
elsewhere-unasked _ h = refl

pub handled-unsent : (x : List Fact) → AllStill is_elsewhere x → AllStill is_sent x
handled-unsent = still-by is_elsewhere is_sent elsewhere-unsent

pub handled-unsaid : (x : List Fact) → AllStill is_elsewhere x → AllStill is_unsent x
handled-unsaid = still-by is_elsewhere is_unsent elsewhere-unsaid

-- where nothing was sent, no datagram was
sent-event : (e : Event) (first second : List ℕ) → is_sent e ≡ false → sent_by e first second ≡ []
sent-event (Sent peer owner k) first second h = absurd (false≢true (sym h))
sent-event _ first second h = refl

pub sent-none : (x : List Fact) → AllStill is_sent x → sent_of x ≡ []
sent-none [] all = refl
sent-none (f ∷ x) all = rw (sent-event f.event f.first f.second all.0) (sent-none x all.1)

pub sent-after : (x y : List Fact) → AllStill is_sent x → sent_of (x ++ y) ≡ sent_of y
sent-after x y all = sent-append x y ∙ ap (λ ds. ds ++ sent_of y) (sent-none x all)

pub sent-before : (x y : List Fact) → AllStill is_sent y → sent_of (x ++ y) ≡ sent_of x
sent-before x y all =
    sent-append x y ∙ ap (λ ds. sent_of x ++ ds) (sent-none y all) ∙ append-nil (sent_of x)
