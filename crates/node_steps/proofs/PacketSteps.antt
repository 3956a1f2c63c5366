-- The packet in front of the receive ring is handled: by the server rule where it asks, and by the
-- client rule where it replies.
use Rattle.std.proofs.Common.{◌≡◌, ◌≢◌, ◌<◌, ℕ, Bool, true, false, cond, Option, Some, None}
use Rattle.std.proofs.Common.{List, [], ◌∷◌, ◌++◌, map, drop, length, refl, sym, ap, subst, ◌∙◌}
use Rattle.std.proofs.Common.{inl, inr}
use Rattle.std.specs.Prelude.{◌==◌, ◌⊎◌, ◌||◌, is_none, is_some, nat_le, nat_lt, not}
use Rattle.std.specs.Prelude.{option_to_list, slice_get}
use Rattle.std.specs.List.{AllByRecursion, filter, find, list_any}
use Rattle.rpc_outside.specs.Recording.{Log}
use Rattle.client_core.specs.Shown.{done_fact, end_event}
use Rattle.client_core.specs.declared.outcome.Done.{Done}
use Rattle.client_core.specs.declared.outcome.Outcome.{Outcome}
use Rattle.client_core.specs.declared.outcome.Outcome.TheVariants.{Ok, PeerLost, TooSmall}
use Rattle.message_buffer.specs.Buffer.{bytes_of}
use Rattle.packet_header.specs.Kinds.{is_asking, is_last}
use Rattle.packet_header.specs.Reading.{body_of, message_of}
use Rattle.packet_header.specs.declared.packet.Kind.{Kind}
use Rattle.packet_header.specs.declared.packet.Kind.TheVariants.{Request, Rfr, Cr, Response}
use Rattle.packet_header.specs.declared.packet.MessageHeader.{MessageHeader}
use Rattle.rpc_base.specs.declared.event.Event.TheVariants.{Dropped, Flushed}
use Rattle.rpc_base.specs.declared.fact.Fact.{Fact}
use Rattle.rpc_base.specs.declared.owner.Owner.{Owner}
use Rattle.rpc_base.specs.declared.owner.Owner.TheVariants.{Ask, Reply}
use Rattle.rpc_base.specs.declared.state.DropReason.TheVariants.{Ahead, Mismatch, NoSession, Past}
use Rattle.rpc_base.specs.declared.state.DropReason.TheVariants.{Queued as StillQueued, StaleLife}
use Rattle.rpc_base.specs.declared.state.DropReason.TheVariants.{WrongPeer}
use Rattle.rpc_laws.specs.declared.rows.ClientRow.{ClientRow}
use Rattle.rpc_laws.specs.declared.rows.ClientRow.TheVariants.{Drops as DropsReply}
use Rattle.rpc_laws.specs.declared.rows.ClientRow.TheVariants.{Takes as TakesReply}
use Rattle.rpc_laws.specs.declared.rows.EndRow.{EndRow}
use Rattle.rpc_laws.specs.declared.rows.EndRow.TheVariants.{GoesOn, EndsOk, EndsTooSmall}
use Rattle.rpc_laws.specs.declared.rows.ServerRow.{ServerRow}
use Rattle.rpc_laws.specs.declared.rows.ServerRow.TheVariants.{Drops, Begins, Takes, Repeats}
use Rattle.rpc_laws.specs.declared.tables.Arrival.{Arrival}
use Rattle.rpc_laws.specs.declared.tables.Asking.{Asking}
use Rattle.rpc_laws.specs.declared.tables.Call.{Call}
use Rattle.rpc_laws.specs.declared.tables.Client.{Client}
use Rattle.rpc_laws.specs.declared.tables.Lists.{Lists}
use Rattle.rpc_laws.specs.declared.tables.Progress.{Progress}
use Rattle.rpc_laws.specs.declared.tables.Queued.{Queued}
use Rattle.rpc_laws.specs.declared.tables.Served.{Served as ServedRequest}
use Rattle.rpc_laws.specs.declared.tables.Server.{Server}
use Rattle.rpc_laws.specs.declared.tables.Timed.{Timed}
use Rattle.rpc_laws.specs.Calls.{asked_packets, is_active, with_reply}
use Rattle.rpc_laws.specs.ClientTable.{active_row, call_ending, call_row, client_ending, client_row}
use Rattle.rpc_laws.specs.ClientTable.{end_facts, end_row, is_of_turn}
use Rattle.rpc_laws.specs.ClientTable.{progress_ending, reply_facts}
use Rattle.rpc_laws.specs.Facts.{plain}
use Rattle.rpc_laws.specs.Front.{front_header}
use Rattle.rpc_laws.specs.PollOrder.{Handles, asks_facts, handled, handling_by, replies_facts}
use Rattle.rpc_laws.specs.Queues.{is_queued, numbers_of, replies}
use Rattle.rpc_laws.specs.Requests.{in_slot_of, is_server}
use Rattle.rpc_laws.specs.Sessions.{is_client, is_connected}
use Rattle.rpc_laws.specs.ServerTable.{flushes, flushes_older, makes_job, served_facts}
use Rattle.rpc_laws.specs.ServerTable.{took_facts, whole_ask}
use Rattle.rpc_laws.specs.Service.{Answers, Serving, served_after_all}
use Rattle.rpc_laws.specs.Steps.{Rel}
use Rattle.rpc_outside.specs.Served.{Served}
use Rattle.rpc_outside.specs.declared.service.Mode.{Mode}
use Rattle.worker_board.specs.declared.Parcel.{Parcel}
use Rattle.memory_count.specs.Faults.{HasRisenBy}
use Rattle.memory_count.proofs.Risen.{none-risen}
use Rattle.node_laws.specs.Kept.{IsPacket}
use Rattle.node_steps.specs.Given.{Gave}
use Rattle.node_steps.proofs.HandedGiven.{gave-same}
use Rattle.node_steps.specs.Replies.{Drops as DropsFor, HearsReply, over_facts}
use Rattle.node_steps.specs.Notes.{Makes, is_end}
use Rattle.node_steps.specs.Seen.{Asks, asking}
use Rattle.node_steps.specs.Changes.{◌⟶◌, Change}
use Rattle.node_steps.specs.Lacks.{is_lack}
use Rattle.node_steps.specs.Requests.{AsksAs, MakesServed, ServesRequest, ServiceChange}
use Rattle.node_steps.proofs.NoteCounts.{many-none}
use Rattle.node_steps.proofs.NoteStill.{AllStill}
use Rattle.node_steps.specs.Requests.{serves_by}
use Rattle.node_steps.proofs.ShortLemmas.{calm-still, spares-calm}

-- a step that may run a handler, make a job, or end calls: the calls that the continuation was
-- given are those whose ends were noted, in order
pub record MakesHandled {R K : Type 0} (log : R → Log) (given : K → List Done → Type 0)
    (service : ServiceChange) (P : Rel) (job : Option Parcel) (node : Change Timed) (rec : Change R)
    (k : Change K) (memory : Change ℕ) : Type 0 where
  pub serves : MakesServed log service P job node rec memory
  pub dones : List Done
  pub ends : filter is_end serves.makes.noted ≡ map (done_fact node.old.lists.me) dones
  pub gave : Gave given k.old k.new dones

-- what stands in front of the ring is a packet
pub packet-there : (ring : List Arrival) (o : Option MessageHeader) → o ≡ front_header ring
    → o ≡ None → ring ≢ [] → AllByRecursion IsPacket ring → ⊥
packet-there [] o e none some all = some refl
packet-there (a ∷ ring) o e none some all =
    let clash : false ≡ true = ap is_some (sym none ∙ e) ∙ all.0 in cc

reads-front : (xs : List Arrival) (front : Arrival) (h : MessageHeader)
    → slice_get xs 0 ≡ Some front
    → front_header xs ≡ Some h → message_of front.bytes ≡ Some h
reads-front [] front h e reads = cc
reads-front (x ∷ xs) front h e reads =
    let same : x ≡ front = cc in
    subst (λ (a : Arrival). message_of a.bytes ≡ Some h) same reads

-- a packet stands in front of a ring that isn't empty
some-arrival : (xs : List Arrival) → xs ≢ [] → (a : Arrival) × (slice_get xs 0 ≡ Some a)
some-arrival [] some = absurd (some refl)
some-arrival (a ∷ xs) some = (a, refl)

-- a packet for this life of the node is handled by its kind, and one for another is dropped
module _ (mode : ℕ → Mode) (lacks : Bool) (answer : List ℕ) (s : Lists) (peer : ℕ)
    (h : MessageHeader) (body : List ℕ) where
  for-this : (h.to_life == s.life) ≡ true
      → handling_by mode lacks answer h.kind s peer h body
      ≡ handled mode lacks answer s peer h body
  for-this own = rw own refl

  for-another : (h.to_life == s.life) ≡ false
      → plain s.me (Dropped StaleLife) ∷ [] ≡ handled mode lacks answer s peer h body
  for-another other = rw other refl

by-client : (mode : ℕ → Mode) (k : Kind) (s : Lists) (peer : ℕ) (h : MessageHeader) (body : List ℕ)
    → is_asking k ≡ false → replies_facts s peer h body ≡ handling_by mode false [] k s peer h body
by-client mode Request s peer h body e = cc
by-client mode Rfr s peer h body e = cc
by-client mode Cr s peer h body e = refl
by-client mode Response s peer h body e = refl

by-server : (mode : ℕ → Mode) (lacks : Bool) (answer : List ℕ) (k : Kind) (s : Lists) (peer : ℕ)
    (h : MessageHeader) (body : List ℕ) → is_asking k ≡ true
    → asks_facts mode lacks answer s peer h body ≡ handling_by mode lacks answer k s peer h body
by-server mode lacks answer Request s peer h body e = refl
by-server mode lacks answer Rfr s peer h body e = refl
by-server mode lacks answer Cr s peer h body e = cc
by-server mode lacks answer Response s peer h body e = cc

-- none of the facts of a request ends a call
abbrev NoEnds : List Fact → Type 0
NoEnds x = filter is_end x ≡ []

ends-cons : (f : Fact) (x y : List Fact) (b : Bool) → (NoEnds x → NoEnds (x ++ y))
    → cond b (f ∷ filter is_end x) (filter is_end x) ≡ []
    → cond b (f ∷ filter is_end (x ++ y)) (filter is_end (x ++ y)) ≡ []
ends-cons f x y true ih none = cc
ends-cons f x y false ih none = ih none

ends-append : (x y : List Fact) → NoEnds x → NoEnds y → NoEnds (x ++ y)
ends-append [] y none more = more
ends-append (f ∷ fs) y none more =
    ends-cons f fs y (is_end f) (λ rest. ends-append fs y rest more) none

flushed-ends : (me : ℕ) (owner : Owner) (ns : List ℕ)
    → NoEnds (map (λ k. plain me (Flushed owner k)) ns)
flushed-ends me owner [] = refl
flushed-ends me owner (n ∷ ns) = flushed-ends me owner ns

flushes-ends : (me : ℕ) (queued : List Queued) (session : ℕ) (o : Option ServedRequest)
    → NoEnds (flushes me queued session o)
flushes-ends me queued session None = refl
flushes-ends me queued session (Some l) =
    flushed-ends me (Reply session l.number) (numbers_of (Reply session l.number) queued)

older-ends : (me : ℕ) (queued : List Queued) (v : Option Server) (r : ℕ)
    → NoEnds (flushes_older me queued v r)
older-ends me queued None r = refl
older-ends me queued (Some v) r = flushes-ends me queued v.way.number (find (in_slot_of r) v.slots)

brings-by : (b c : Bool) (me : ℕ) (f g p : Fact) → NoEnds (f ∷ []) → NoEnds (g ∷ [])
    → NoEnds (p ∷ [])
    → NoEnds (cond b (f ∷ []) (cond c (g ∷ []) [] ++ p ∷ []))
brings-by true c me f g p one two three = one
brings-by false true me f g p one two three = ends-append (g ∷ []) (p ∷ []) two three
brings-by false false me f g p one two three = three

took-ends : (mode : Mode) (me : ℕ) (answer : List ℕ) (h : MessageHeader) (ask : List ℕ)
    → NoEnds (took_facts mode me answer h ask)
took-ends mode me answer h ask = brings-by (makes_job mode h) (is_last h) me _ _ _ refl refl refl

served-ends : (mode : Mode) (me : ℕ) (answer : List ℕ) (queued : List Queued) (v : Option Server)
    (h : MessageHeader) (body : List ℕ) (row : ServerRow)
    → NoEnds (served_facts mode me answer queued v h body row)
served-ends mode me answer queued v h body (Drops why) = refl
served-ends mode me answer queued v h body Begins =
    ends-append (flushes_older me queued v h.request) (took_facts mode me answer h body)
    (older-ends me queued v h.request) (took-ends mode me answer h body)
served-ends mode me answer queued v h body Takes =
    took-ends mode me answer h (whole_ask v h.request body)
served-ends mode me answer queued v h body Repeats = refl

-- the facts of a reply: the first ends no call, and the others are ends and run no handler
abbrev AreEnds : List Fact → Type 0
AreEnds x = (filter is_end x ≡ x)
    × ((v : Serving) (served : Served) → Answers v served x
    × (served_after_all v.mode served x ≡ served))

abbrev IsOver : List Fact → Type 0
IsOver [] = ⊥
IsOver (f ∷ fs) = (is_end f ≡ false) × AreEnds fs
    × ((v : Serving) (served : Served) → Answers v served (f ∷ fs)
    × (served_after_all v.mode served (f ∷ fs) ≡ served))

end-are : (me number : ℕ) (parts : List ℕ) (row : EndRow) → AreEnds (end_facts me number parts row)
end-are me number parts GoesOn = (refl, λ v served. (tt, refl))
end-are me number parts EndsOk = (refl, λ v served. ((tt, tt), refl))
end-are me number parts (EndsTooSmall size) = (refl, λ v served. ((tt, tt), refl))

progress-are : (me : ℕ) (a : Asking) (h : MessageHeader) (body : List ℕ) (o : Option Progress)
    → AreEnds (progress_ending me a h body o)
progress-are me a h body None = (refl, λ v served. (tt, refl))
progress-are me a h body (Some p) =
    end-are me a.number (with_reply h body p).parts (end_row (is_none p.answer) (asked_packets a)
    a.room (with_reply h body p).got (with_reply h body p).answer)

call-are : (me : ℕ) (h : MessageHeader) (body : List ℕ) (o : Option Call)
    → AreEnds (call_ending me h body o)
call-are me h body None = (refl, λ v served. (tt, refl))
call-are me h body (Some c) = progress-are me c.what h body c.progress

client-are : (me : ℕ) (h : MessageHeader) (body : List ℕ) (o : Option Client)
    → AreEnds (client_ending me h body o)
client-are me h body None = (refl, λ v served. (tt, refl))
client-are me h body (Some x) = call-are me h body (find (is_active h.request) x.calls)

reply-over : (me : ℕ) (x : Option Client) (h : MessageHeader) (body : List ℕ) (row : ClientRow)
    → IsOver (reply_facts me x h body row)
reply-over me x h body (DropsReply why) =
    (refl, (refl, λ v served. (tt, refl)), λ v served. ((tt, tt), refl))
reply-over me x h body TakesReply =
    let rest = client-are me h body x in
    (refl, rest, λ v served. ((tt, (rest.1 v served).0), (rest.1 v served).1))

over-answers : (x : List Fact) → IsOver x → (v : Serving) (served : Served)
    → Answers v served x × (served_after_all v.mode served x ≡ served)
over-answers [] over v served = absurd over
over-answers (f ∷ fs) over v served = over.2 v served

listed : (me : ℕ) (o : Option Done) → over_facts me o ≡ map (done_fact me) (option_to_list o)
listed me None = refl
listed me (Some d) = refl

ends-over : (me : ℕ) (x : List Fact) (o : Option Done) → IsOver x → drop 1 x ≡ over_facts me o
    → filter is_end x ≡ map (done_fact me) (option_to_list o)
ends-over me [] o over e = absurd over
ends-over me (f ∷ fs) o over e = rw over.0 (over.1.0 ∙ e ∙ listed me o)

-- the end of a call tells of no want of memory
over-calm : (me : ℕ) (o : Option Done) → AllStill is_lack (over_facts me o)
over-calm me None = tt
over-calm me (Some d) = (end-calm d.outcome, tt)
  where
    end-calm : (outcome : Outcome) → is_lack (end_event d.call outcome) ≡ false
    end-calm Ok = refl
    end-calm (TooSmall size) = refl
    end-calm PeerLost = refl

-- nor does the client rule
abbrev row_lacks : ClientRow → Bool
row_lacks (DropsReply why) = is_lack (Dropped why)
row_lacks TakesReply = false

turn-calm : (b c d e : Bool) → row_lacks (cond b (DropsReply Past) (cond c (DropsReply Ahead)
    (cond d (DropsReply Mismatch) (cond e (DropsReply StillQueued) TakesReply)))) ≡ false
turn-calm true c d e = refl
turn-calm false true d e = refl
turn-calm false false true e = refl
turn-calm false false false true = refl
turn-calm false false false false = refl

known-calm : (b c : Bool) (row : ClientRow) → row_lacks row ≡ false
    → row_lacks (cond b (DropsReply NoSession) (cond c (DropsReply WrongPeer) row)) ≡ false
known-calm true c row calm = refl
known-calm false true row calm = refl
known-calm false false row calm = calm

module _ (queued : List Queued) (peer : ℕ) (h : MessageHeader) (len : ℕ) where
  active-calm : (a : Asking) (o : Option Progress)
      → row_lacks (active_row queued a o h len) ≡ false
  active-calm a None = refl
  active-calm a (Some p) =
      turn-calm (nat_lt h.number p.got) (nat_lt p.got h.number || nat_le p.posted h.number)
      (not (is_of_turn (asked_packets a) a.req_type p.answer h len))
      (list_any (is_queued (Ask h.session h.request) h.number) queued)

  call-calm : (o : Option Call) → row_lacks (call_row queued o h len) ≡ false
  call-calm None = refl
  call-calm (Some c) = active-calm c.what c.progress

  client-calm : (o : Option Client) → row_lacks (client_row queued o peer h len) ≡ false
  client-calm None = refl
  client-calm (Some x) =
      known-calm (not (is_connected x.state)) (not (x.way.peer == peer))
      (call_row queued (find (is_active h.request) x.calls) h len)
      (call-calm (find (is_active h.request) x.calls))

reply-calm : (me : ℕ) (x : Option Client) (h : MessageHeader) (body : List ℕ) (row : ClientRow)
    (o : Option Done) (fs : List Fact) → row_lacks row ≡ false
    → fs ≡ reply_facts me x h body row → drop 1 fs ≡ over_facts me o → AllStill is_lack fs
reply-calm me x h body (DropsReply why) o fs calm is over =
    subst (λ (y : List Fact). AllStill is_lack y) (sym is) (calm, tt)
reply-calm me x h body TakesReply o fs calm is over =
    let rest : over_facts me o ≡ client_ending me h body x =
    sym over ∙ ap (λ (y : List Fact). drop 1 y) is in
    subst (λ (y : List Fact). AllStill is_lack y) (sym is)
    (refl, subst (λ (y : List Fact). AllStill is_lack y) rest (over-calm me o))

abbrev pub no-asks : Asks
no-asks s r = []

-- what a job that is given asks
abbrev pub asks-of : Option Parcel → Asks
asks-of None = no-asks
asks-of (Some p) = λ s r. bytes_of p.ask

pub asks-as : (job : Option Parcel) → AsksAs job (asks-of job)
asks-as None = tt
asks-as (Some p) = refl

module _ {R K : Type 0} (log : R → Log)
    (given : K → List Done → Type 0) (v : Serving) (stands : Served → Type 0) (h : MessageHeader)
    (a b : Timed) (before now : R) (front : front_header a.lists.ring ≡ Some h)
    (room : replies a.lists.queued < a.lists.room) where
  -- it is for another life of the node
  pub node-stale : (from to : K) (n : ℕ) → (h.to_life == a.lists.life) ≡ false → a.lists.ring ≢ []
      → to ≡ from → Makes log (DropsFor StaleLife) a b before now → b.lists.jobs ≡ a.lists.jobs
      → MakesHandled log given (serves_by v stands stands) (Handles v.mode) None (a ⟶ b)
      (before ⟶ now) (from ⟶ to) (n ⟶ n)
  node-stale from to n other some same makes jobs =
      let first = some-arrival a.lists.ring some in
      let noted : makes.noted ≡ plain a.lists.me (Dropped StaleLife) ∷ [] =
      (makes.step no-asks).facts in
      record {
        serves = record {
          makes = record {
            noted = makes.noted;
            grew = makes.grew;
            step = λ asks known. record {
              room = room;
              front = first.0;
              is_front = first.1;
              header = h;
              reads = reads-front a.lists.ring first.0 h first.1 front;
              lacks = false;
              answer = [];
              facts = (makes.step asks).facts
                  ∙ for-another v.mode false [] (asking asks a).lists first.0.peer h
                  (body_of first.0.bytes) other;
              goes = (makes.step asks).goes;
            };
          };
          answers = λ served before-it. rw noted ((tt, tt), before-it);
          parcel = tt;
          jobs = jobs;
          vacant = tt;
          spared = rw noted ((λ short e. cc), tt);
          wants = rw noted (none-risen n);
        };
        dones = [];
        ends = ap (λ (x : List Fact). filter is_end x) noted;
        gave = gave-same given from to same;
      }

  pub node-replies : (o : Option Done) (from to : K) (n : ℕ) → (h.to_life == a.lists.life) ≡ true
      → is_asking h.kind ≡ false
      → Makes log (HearsReply h o) a b before now → b.lists.jobs ≡ a.lists.jobs
      → Gave given from to (option_to_list o)
      → MakesHandled log given (serves_by v stands stands) (Handles v.mode) None (a ⟶ b)
      (before ⟶ now) (from ⟶ to) (n ⟶ n)
  node-replies o from to n own-life replying makes jobs gave =
      let first = makes.step no-asks in
      let over : IsOver makes.noted = subst IsOver (sym first.facts)
      (reply-over a.lists.me (find (is_client h.session) a.lists.clients) h
      (body_of first.front.bytes) (client_row a.lists.queued
      (find (is_client h.session) a.lists.clients) first.front.peer h
      (length (body_of first.front.bytes)))) in
      let calm = reply-calm a.lists.me (find (is_client h.session) a.lists.clients) h
      (body_of first.front.bytes) (client_row a.lists.queued
      (find (is_client h.session) a.lists.clients) first.front.peer h
      (length (body_of first.front.bytes))) o makes.noted
      (client-calm a.lists.queued first.front.peer h (length (body_of first.front.bytes))
      (find (is_client h.session) a.lists.clients)) first.facts first.over in
      record {
        serves = record {
          makes = record {
            noted = makes.noted;
            grew = makes.grew;
            step = λ asks known.
                let step = makes.step asks in
                record {
                  room = room;
                  front = step.front;
                  is_front = step.is_front;
                  header = h;
                  reads = reads-front a.lists.ring step.front h step.is_front front;
                  lacks = false;
                  answer = [];
                  facts = step.facts
                      ∙ by-client v.mode h.kind (asking asks a).lists step.front.peer h
                      (body_of step.front.bytes) replying
                      ∙ for-this v.mode false [] (asking asks a).lists step.front.peer h
                      (body_of step.front.bytes) own-life;
                  goes = step.goes;
                };
          };
          answers = λ served before-it.
              let done = over-answers makes.noted over v served in
              (done.0, subst stands (sym done.1) before-it);
          parcel = tt;
          jobs = jobs;
          vacant = tt;
          spared = spares-calm v a.lists.ring makes.noted (calm-still makes.noted calm);
          wants = subst (λ (k : ℕ). HasRisenBy k n n) (sym (many-none is_lack makes.noted calm))
              (none-risen n);
        };
        dones = option_to_list o;
        ends = ends-over a.lists.me makes.noted o over first.over;
        gave = gave;
      }

  pub node-requests : (then_stands : Served → Type 0) (job : Option Parcel) (from to : K)
      (memory : Change ℕ)
      → (h.to_life == a.lists.life) ≡ true → is_asking h.kind ≡ true → to ≡ from
      → MakesServed log (serves_by v stands then_stands) (ServesRequest v.mode h) job (a ⟶ b)
      (before ⟶ now) memory
      → MakesHandled log given (serves_by v stands then_stands) (Handles v.mode) job (a ⟶ b)
      (before ⟶ now) (from ⟶ to) memory
  node-requests then_stands job from to memory own-life asks-it same served =
      let one = served.makes.step (asks-of job) (asks-as job) in
      record {
        serves = record {
          makes = record {
            noted = served.makes.noted;
            grew = served.makes.grew;
            step = λ asks known.
                let step = served.makes.step asks known in
                record {
                  room = room;
                  front = step.front;
                  is_front = step.is_front;
                  header = h;
                  reads = reads-front a.lists.ring step.front h step.is_front front;
                  lacks = step.lacks;
                  answer = step.answer;
                  facts = step.facts
                      ∙ by-server v.mode step.lacks step.answer h.kind (asking asks a).lists
                      step.front.peer h (body_of step.front.bytes) asks-it
                      ∙ for-this v.mode step.lacks step.answer (asking asks a).lists
                      step.front.peer h (body_of step.front.bytes) own-life;
                  goes = step.goes;
                };
          };
          answers = served.answers;
          parcel = served.parcel;
          jobs = served.jobs;
          vacant = served.vacant;
          spared = served.spared;
          wants = served.wants;
        };
        dones = [];
        ends = ap (λ (x : List Fact). filter is_end x) one.facts
            ∙ served-ends (v.mode h.req_type) a.lists.me one.answer a.lists.queued
            (find (is_server h.session) a.lists.servers) h (body_of one.front.bytes) _;
        gave = gave-same given from to same;
      }

-- the kinds of packets that ask, and of those that reply
pub asks-kind : (k : Kind) → (k ≡ Request) ⊎ (k ≡ Rfr) → is_asking k ≡ true
asks-kind k (inl e) = ap is_asking e
asks-kind k (inr e) = ap is_asking e

pub replies-kind : (k : Kind) → (k ≡ Cr) ⊎ (k ≡ Response) → is_asking k ≡ false
replies-kind k (inl e) = ap is_asking e
replies-kind k (inr e) = ap is_asking e
