-- A packet that asks, from its session to what the node notes.
use Rattle.std.proofs.Common.{◌≡◌, ◌≢◌, ℕ, ◌+◌, ◌<◌, ◌≤◌, Bool, true, false, cond, Option, Some, None}
use Rattle.std.proofs.Common.{List, [], ◌∷◌, ◌++◌, length, drop, refl, sym, ap, subst, ◌∙◌, arith}
use Rattle.node_steps.specs.Replies.{Drops as DropsFront}
use Rattle.std.specs.Prelude.{◌==◌, IfSome, map, slice_get, slice_set}
use Rattle.std.specs.List.{AllByRecursion, find, position}
use Rattle.std.proofs.lemmas.Bool.{eq-eqb, eqb-true, ne_eqb}
use Rattle.std.proofs.lemmas.List.{drop-map}
use Rattle.packet_header.specs.Kinds.{is_asking}
use Rattle.packet_header.specs.Ranges.{Within, lives}
use Rattle.packet_header.specs.Parts.{packet_count}
use Rattle.packet_header.specs.Reading.{body_of}
use Rattle.packet_header.specs.declared.packet.MessageHeader.{MessageHeader}
use Rattle.packet_rings.specs.Rings.{Ring, ring}
use Rattle.packet_rings.specs.Values.{DatagramValue, EntryValue}
use Rattle.rpc_base.specs.Tables.{at_first, without_first}
use Rattle.rpc_base.specs.declared.event.Event.TheVariants.{Again as AgainEvent, Posted}
use Rattle.rpc_base.specs.declared.event.Event.TheVariants.{Dropped as DroppedEvent, Given}
use Rattle.rpc_base.specs.declared.event.Event.TheVariants.{Ran as RanEvent, Took as TookEvent}
use Rattle.rpc_base.specs.declared.fact.Fact.{Fact}
use Rattle.rpc_base.specs.declared.limits.Limits.{Limits}
use Rattle.rpc_base.specs.declared.owner.Owner.{Owner}
use Rattle.rpc_base.specs.declared.owner.Owner.TheVariants.{Reply}
use Rattle.rpc_base.specs.declared.state.DropReason.{DropReason}
use Rattle.rpc_base.specs.declared.state.DropReason.TheVariants.{NoMemory, NoSession, WrongPeer}
use Rattle.rpc_base.proofs.FirstLemmas.{found-changed, found-holds}
use Rattle.rpc_base.proofs.TablesLemmas.{at_first-found, find-found, find-missing}
use Rattle.rpc_base.proofs.TakingLemmas.{find-passes}
use Rattle.rpc_base.proofs.PlaceLemmas.{all-at}
use Rattle.rpc_laws.specs.declared.rows.ServerRow.{ServerRow}
use Rattle.rpc_laws.specs.declared.rows.ServerRow.TheVariants.{Drops, Repeats}
use Rattle.rpc_laws.specs.declared.tables.Jobs.{Jobs}
use Rattle.rpc_laws.specs.declared.tables.Lists.{Lists}
use Rattle.rpc_laws.specs.declared.tables.Pace.{Pace}
use Rattle.rpc_laws.specs.declared.tables.Queued.{Queued}
use Rattle.rpc_laws.specs.declared.tables.Server.{Server}
use Rattle.rpc_laws.specs.declared.tables.Timed.{Timed}
use Rattle.rpc_laws.specs.Facts.{plain, with_two}
use Rattle.rpc_laws.specs.Front.{front_body, front_header}
use Rattle.rpc_laws.specs.Jobs.{are_full, is_job, new_job}
use Rattle.rpc_laws.specs.declared.tables.Job.{Job}
use Rattle.message_buffer.specs.Buffer.{bytes_of}
use Rattle.rpc_laws.specs.NodeLists.{after_all, one_more}
use Rattle.rpc_laws.specs.PollOrder.{asks_facts}
use Rattle.rpc_laws.specs.Queues.{put_queued, replies}
use Rattle.rpc_laws.specs.Requests.{in_slot_of, is_server}
use Rattle.rpc_laws.specs.Requests.{took_packet}
use Rattle.rpc_laws.specs.ServerTable.{is_last, makes_job, served_facts}
use Rattle.rpc_laws.specs.Service.{Answers, Serving, runs_inline, served_after_all}
use Rattle.rpc_laws.proofs.RunLemmas.{after_all-append}
use Rattle.rpc_outside.specs.Recording.{Grew, Log}
use Rattle.rpc_outside.specs.Served.{Served}
use Rattle.rpc_outside.specs.declared.service.Service as Service
use Rattle.rpc_outside.specs.declared.service.Mode.{Mode}
use Rattle.node_laws.specs.Kept.{Kept}
use Rattle.node_laws.specs.Valid.{SoundServer, jobs_of}
use Rattle.node_laws.proofs.RowLemmas.{last-parts}
use Rattle.node_laws.proofs.Allowed.{AllAllowed}
use Rattle.node_laws.proofs.KeptLemmas.{kept-all}
use Rattle.node_laws.proofs.ServeLemmas.{asks-allowed}
use Rattle.memory_count.specs.Faults.{HasRisenBy}
use Rattle.memory_count.proofs.Risen.{none-risen}
use Rattle.server_core.specs.Flushing.{replies_of}
use Rattle.server_core.specs.Lacks.{lacks_for}
use Rattle.server_core.specs.Steps.{IfReply, asked_with}
use Rattle.server_core.specs.declared.step.Step.{Step}
use Rattle.server_core.specs.declared.step.Step.TheVariants.{Took, Again, Ran, Give, Dropped}
use Rattle.worker_board.specs.declared.Parcel.{Parcel}
use Rattle.server_core.specs.Scene.{incoming}
use Rattle.session_store.specs.Serving.{HandlesAt, handled_facts, in_store, queue_handled, row_at}
use Rattle.session_store.specs.Serving.{without_owned}
use Rattle.session_store.specs.Joined.{put_ready}
use Rattle.session_store.specs.Sides.{Shown}
use Rattle.session_ends.specs.Joined.{queued_of}
use Rattle.session_ends.proofs.ListLemmas.{all-set, set-own}
use Rattle.node_steps.specs.Changes.{◌⟶◌, Change}
use Rattle.node_steps.specs.Fits.{Fits, HasCredit, IsSendable}
use Rattle.node_steps.specs.Lacks.{is_lack, lacks_in}
use Rattle.node_steps.specs.Notes.{Makes}
use Rattle.node_steps.specs.Seen.{Asks, Tallies, arrival_of, asking_jobs, seen_node}
use Rattle.node_steps.specs.Requests.{AllServed, AsksAs, IsGiven, IsShort, MakesServed}
use Rattle.node_steps.specs.Requests.{ServesRequest, SparesShort}
use Rattle.node_steps.proofs.NoteCounts.{many-none}
use Rattle.node_steps.proofs.NoteStill.{AllStill, still-append}
use Rattle.node_steps.proofs.ShortLemmas.{calm-still, one-header, spares-calm}
use Rattle.node_steps.specs.Requests.{SlotsServed, job_named, with_given}
use Rattle.node_steps.proofs.PacketRows.{background-of, inline-of, unfilled}
use Rattle.node_steps.proofs.QueueEntries.{one-reply, put-all}
use Rattle.node_steps.proofs.PacketReplies.{body-there, front-there}
use Rattle.node_steps.proofs.PacketJobs.{kept-jobs, no-jobs, none-bare, none-out, same-named}
use Rattle.node_steps.proofs.PacketJobs.{the-job}
use Rattle.node_steps.proofs.PacketQueue.{TakenBy, drops-with, facts-dropped, facts-give}
use Rattle.node_steps.proofs.PacketQueue.{facts-ran, facts-took, job-parts, no-job, step-again}
use Rattle.node_steps.proofs.PacketQueue.{step-give, step-ran}
use Rattle.node_steps.proofs.PacketQueue.{step-took, taken-by, takes_it}
use Rattle.session_store.proofs.ServeLemmas.{begun-none}
use Rattle.node_steps.proofs.PacketServers.{full-asking, gives, later-gave}
use Rattle.node_steps.proofs.PacketServers.{later-ran, later-took, peers-agree, runs}
use Rattle.node_steps.proofs.PacketServers.{slice_get-some}
use Rattle.node_steps.specs.Requests.{serves_by}
use Rattle.node_steps.proofs.PacketServers.{takes, twice-first}

-- a packet that is dropped for want of memory has a refusal
drop-lacks : (me : ℕ) (why : DropReason)
    → lacks_in (plain me (DroppedEvent why) ∷ []) ≡ lacks_for why
drop-lacks me NoMemory = refl
drop-lacks me _ = refl

module _ (me : ℕ) (limits : Limits) (tallies : Tallies) (paces : List Pace) (jobs : Jobs)
    (clock : ℕ) (rx : Ring DatagramValue) (s : Shown) where
  abbrev seen : Tallies → Jobs → Ring DatagramValue → Shown → Timed
  seen ta js q u = seen_node me limits ta paces js clock q u

  abbrev old : Jobs → Lists
  old js = (seen tallies js rx s).lists

  module _ (fits : Fits (seen tallies jobs rx s) s.size s.places) (h : MessageHeader)
      (d : DatagramValue) (header : front_header (map arrival_of rx.items) ≡ Some h)
      (asking : is_asking h.kind ≡ true) (here : slice_get rx.items 0 ≡ Some d)
      {V : Type 0} (ghosts : Service.Ghosts V) where
    abbrev mode_of : ℕ → Mode
    mode_of = ghosts.mode_of

    is-front : slice_get (map arrival_of rx.items) 0 ≡ Some (arrival_of d)
    is-front = front-there rx.items d here

    body-here : front_body (map arrival_of rx.items) ≡ body_of d.bytes
    body-here = body-there rx.items d here

    abbrev body : List ℕ
    body = body_of d.bytes

    all-allowed : (lacks : Bool) (answer : List ℕ) (js : Jobs) (x : List Fact) → Kept (old js)
        → x ≡ asks_facts mode_of lacks answer (old js) d.peer h body → AllAllowed clock (old js) x
    all-allowed lacks answer js x kept is =
        rw (is, ← body-here) (asks-allowed clock (old js) kept.valid h header asking d.peer mode_of
        lacks answer)

    module _ {R : Type 0} (log : R → Log) (before now : R)
        (answer_of : Served → ℕ → List ℕ → List ℕ) (stands then_stands : Served → Type 0) where
      abbrev v_of : Serving
      v_of = record { mode = mode_of; answer = answer_of }

      abbrev Result : Option Parcel → Tallies → Jobs → Ring DatagramValue → Shown → Change ℕ
          → Type 0
      Result o ta js q u memory =
          MakesServed log (serves_by v_of stands then_stands) (ServesRequest mode_of h) o
          (seen tallies jobs rx s ⟶ seen ta js q u) (before ⟶ now) memory

      -- facts that are the rule's, and lead to the node as it is
      node-served : (o : Option Parcel) (ta : Tallies) (js : Jobs) (q : Ring DatagramValue)
          (u : Shown) (memory : Change ℕ) (lacks : Bool) (answer : List ℕ) (x : List Fact)
          → Grew (log before) (log now) x
          → ((asks : Asks)
          → x ≡ asks_facts mode_of lacks answer (old (asking_jobs asks jobs)) d.peer h body)
          → ((asks : Asks) → AsksAs o asks → seen ta (asking_jobs asks js) q u
          ≡ record { lists = after_all clock (old (asking_jobs asks jobs)) x; clock = clock })
          → ((served : Served) → stands served → Answers v_of served x
          × then_stands (served_after_all mode_of served x))
          → IfSome o (IsGiven v_of stands) → js ≡ with_given o jobs
          → IfSome o (λ p. are_full jobs ≡ false)
          → SparesShort v_of (map arrival_of rx.items) x
          → HasRisenBy (lacks_in x) memory.old memory.new → Result o ta js q u memory
      node-served o ta js q u memory lacks answer x grew is goes answers parcel given vacant spared
          wants = record {
            makes = record {
              noted = x;
              grew = grew;
              step = λ asks asked. record {
                front = arrival_of d;
                is_front = is-front;
                lacks = lacks;
                answer = answer;
                facts = is asks;
                goes = goes asks asked;
              };
            };
            answers = answers;
            parcel = parcel;
            jobs = given;
            vacant = vacant;
            spared = spared;
            wants = wants;
          }

      -- and where none of them tells of a want of memory
      node-calm : (o : Option Parcel) (ta : Tallies) (js : Jobs) (q : Ring DatagramValue)
          (u : Shown) (memory : Change ℕ) (answer : List ℕ) (x : List Fact)
          → Grew (log before) (log now) x
          → ((asks : Asks)
          → x ≡ asks_facts mode_of false answer (old (asking_jobs asks jobs)) d.peer h body)
          → ((asks : Asks) → AsksAs o asks → seen ta (asking_jobs asks js) q u
          ≡ record { lists = after_all clock (old (asking_jobs asks jobs)) x; clock = clock })
          → ((served : Served) → stands served → Answers v_of served x
          × then_stands (served_after_all mode_of served x))
          → IfSome o (IsGiven v_of stands) → js ≡ with_given o jobs
          → IfSome o (λ p. are_full jobs ≡ false) → AllStill is_lack x
          → HasRisenBy 0 memory.old memory.new → Result o ta js q u memory
      node-calm o ta js q u memory answer x grew is goes answers parcel given vacant calm risen =
          node-served o ta js q u memory false answer x grew is goes answers parcel given vacant
          (spares-calm v_of (map arrival_of rx.items) x (calm-still x calm))
          (subst (λ (n : ℕ). HasRisenBy n memory.old memory.new) (sym (many-none is_lack x calm))
          risen)

      -- a packet to no session, or from another peer than its session's
      dropped-calm : (why : DropReason) → is_lack (DroppedEvent why) ≡ false → (u : Timed)
          → (makes : Makes log (DropsFront why) (seen tallies jobs rx s) u before now)
          → AllStill is_lack makes.noted
      dropped-calm why other u makes =
          subst (λ (x : List Fact). AllStill is_lack x) (sym (makes.step (λ a b. [])).facts)
          (other, tt)

      dropped-by : (why : DropReason) → is_lack (DroppedEvent why) ≡ false → (u : Timed) (n : ℕ)
          → ((js : Jobs) → asks_facts mode_of false [] (old js) d.peer h body
          ≡ plain me (DroppedEvent why) ∷ []) → u.lists.jobs ≡ jobs
          → ((served : Served) → stands served → then_stands served)
          → Makes log (DropsFront why) (seen tallies jobs rx s) u before now
          → MakesServed log (serves_by v_of stands then_stands) (ServesRequest mode_of h) None
          (seen tallies jobs rx s ⟶ u) (before ⟶ now) (n ⟶ n)
      dropped-by why other u n is left still makes = record {
        makes = record {
          noted = makes.noted;
          grew = makes.grew;
          step = λ asks asked. record {
            front = arrival_of d;
            is_front = is-front;
            lacks = false;
            answer = [];
            facts = (makes.step asks).facts ∙ sym (is (asking_jobs asks jobs));
            goes = (makes.step asks).goes;
          };
        };
        answers = λ served st.
            subst (λ (x : List Fact). Answers v_of served x
            × then_stands (served_after_all mode_of served x))
            (sym (makes.step (λ a b. [])).facts) ((tt, tt), still served st);
        parcel = tt;
        jobs = left;
        vacant = tt;
        spared = spares-calm v_of (map arrival_of rx.items) makes.noted
            (calm-still makes.noted (dropped-calm why other u makes));
        wants = subst (λ (k : ℕ). HasRisenBy k n n)
            (sym (many-none is_lack makes.noted (dropped-calm why other u makes))) (none-risen n);
      }

      pub node-unknown : (u : Timed) (n : ℕ) → position (is_server h.session) s.servers ≡ None
          → u.lists.jobs ≡ jobs
          → ((served : Served) → stands served → then_stands served)
          → Makes log (DropsFront NoSession) (seen tallies jobs rx s) u before now
          → MakesServed log (serves_by v_of stands then_stands) (ServesRequest mode_of h) None
          (seen tallies jobs rx s ⟶ u) (before ⟶ now) (n ⟶ n)
      node-unknown u n missing left still makes =
          let none = find-missing (is_server h.session) s.servers missing in
          dropped-by NoSession refl u n (λ js. rw none refl) left still makes

      pub node-stranger : (u : Timed) (n i p : ℕ)
          → position (is_server h.session) s.servers ≡ Some i
          → IfSome (slice_get s.servers i) (λ v. p ≡ v.way.peer) → i < length s.servers
          → (p ≡ d.peer → ⊥) → u.lists.jobs ≡ jobs
          → ((served : Served) → stands served → then_stands served)
          → Makes log (DropsFront WrongPeer) (seen tallies jobs rx s) u before now
          → MakesServed log (serves_by v_of stands then_stands) (ServesRequest mode_of h) None
          (seen tallies jobs rx s ⟶ u) (before ⟶ now) (n ⟶ n)
      node-stranger u n i p place own within other left still makes =
          by (slice_get s.servers i) refl own
        where
          by : (o : Option Server) → slice_get s.servers i ≡ o → IfSome o (λ v. p ≡ v.way.peer)
              → MakesServed log (serves_by v_of stands then_stands) (ServesRequest mode_of h) None
              (seen tallies jobs rx s ⟶ u) (before ⟶ now) (n ⟶ n)
          by None e is = absurd (slice_get-some s.servers i within e)
          by (Some v) e is =
              let found : find (is_server h.session) s.servers ≡ Some v =
              find-found (is_server h.session) s.servers i place ∙ e in
              let unlike : (v.way.peer == d.peer) ≡ false =
              ne_eqb v.way.peer d.peer (λ same. other (is ∙ same)) in
              dropped-by WrongPeer refl u n (λ js. rw (found, unlike) refl) left still makes

    -- what always holds, once the queue and one server session changed
    module _ (i : ℕ) (t : Shown) (clients : t.clients ≡ s.clients) (size : t.size ≡ s.size)
        (places : t.places ≡ s.places) (q : Ring DatagramValue)
        (rest : q ≡ ring (drop 1 rx.items) rx.size) where
      left : map arrival_of q.items ≡ drop 1 (map arrival_of rx.items)
      left = ap (λ (z : Ring DatagramValue). map arrival_of z.items) rest
          ∙ sym (drop-map arrival_of 1 rx.items)

      same-size : q.size ≡ rx.size
      same-size = ap (λ (z : Ring DatagramValue). z.size) rest

      fits-served : (ta : Tallies) (js : Jobs) (v w : Server) → Kept (seen ta js q t).lists
          → ta.server_numbers ≡ tallies.server_numbers → ta.life ≡ tallies.life
          → slice_get s.servers i ≡ Some v
          → t.servers ≡ slice_set s.servers i w → w.credits ≡ v.credits → AllByRecursion IsSendable t.queued → replies t.queued ≤ rx.size
          → js.limit ≡ jobs.limit → Fits (seen ta js q t) t.size t.places
      fits-served ta js v w kept numbered lived at changed credits ready few limit = record {
        kept = kept;
        ascends = rw clients fits.ascends;
        paces = fits.paces;
        settled = rw clients fits.settled;
        numbers = rw clients fits.numbers;
        each = rw clients fits.each;
        credits = rw changed (all-set HasCredit s.servers i w
            (let own = all-at HasCredit s.servers i v fits.credits at in
            (omega (arith, credits, own.0), omega (arith, credits, own.1)))
            (λ j y e other. all-at HasCredit s.servers j y fits.credits e));
        sendable = ready;
        replies = omega (arith, few, same-size);
        most = rw same-size fits.most;
        packets = rw same-size (size ∙ fits.packets);
        jobs = omega (arith, limit, fits.jobs);
        alive = subst (Within lives) (sym lived) fits.alive;
        server_numbers = omega (arith, numbered, fits.server_numbers);
        buffers = omega (arith, limit, same-size, places, fits.buffers);
      }

      module _ (full : Bool) (is_full : full ≡ are_full jobs) (served : AllServed mode_of s.servers)
          (place : position (is_server h.session) s.servers ≡ Some i)
          (peer : IfSome (slice_get s.servers i)
          (λ v. IfSome (slice_get (map arrival_of rx.items) 0) (λ a. v.way.peer ≡ a.peer)))
          (few : replies s.queued < rx.size) {R : Type 0} (log : R → Log) (before now : R)
          (service then_service : V) where
        abbrev answer_of : Served → ℕ → List ℕ → List ℕ
        answer_of = ghosts.answer

        abbrev stands : Served → Type 0
        stands = ghosts.stands service

        abbrev then_stands : Served → Type 0
        then_stands = ghosts.stands then_service

        abbrev mode : Mode
        mode = mode_of h.req_type

        abbrev At : Step → Type 0
        At step =
            HandlesAt ghosts log me i (incoming h body full) step (in_store s service before)
            (in_store t then_service now)

        abbrev serving : Serving
        serving = record { mode = mode_of; answer = answer_of }

        abbrev Ends : Option Parcel → Tallies → Jobs → Change ℕ → Type 0
        Ends o ta js memory =
            MakesServed log (serves_by serving stands then_stands) (ServesRequest mode_of h) o
            (seen tallies jobs rx s ⟶ seen ta js q t) (before ⟶ now) memory

        module _ (step : Step) (p : At step) where
          found : find (is_server h.session) s.servers ≡ Some p.server
          found = find-found (is_server h.session) s.servers i place ∙ p.place

          number : p.server.way.number ≡ h.session
          number =
              eqb-true p.server.way.number h.session
              (find-passes (is_server h.session) s.servers p.server found)

          own-peer : p.server.way.peer ≡ d.peer
          own-peer =
              peers-agree (slice_get s.servers i) (slice_get (map arrival_of rx.items) 0) p.server
              (arrival_of d) p.place is-front peer

          sound : SoundServer p.server
          sound = found-holds (is_server h.session) SoundServer s.servers p.server
              fits.kept.valid.served found

          abbrev row : ServerRow
          row = row_at mode full false h p.server

          abbrev answer : List ℕ
          answer = p.handled.answer

          abbrev ask : List ℕ
          ask = asked_with h body p.server

          by-rule : (lacks : Bool) (js : Jobs) → are_full js ≡ are_full jobs
              → asks_facts mode_of lacks answer (old js) d.peer h body
              ≡ served_facts mode me answer s.queued (Some p.server) h body
              (row_at mode full lacks h p.server)
          by-rule lacks js same =
              let filled : are_full js ≡ full = same ∙ sym is_full in
              rw (found, ← own-peer, filled) refl

          set-by : (f : Server → Server) → at_first (is_server h.session) f s.servers
              ≡ slice_set s.servers i (f p.server)
          set-by f = at_first-found (is_server h.session) f s.servers i p.server place p.place

          -- the sessions once the packet was taken
          abbrev mid : List Server
          mid = at_first (is_server h.session) (λ v. record v {
            slots = took_packet h.request (front_header (map arrival_of rx.items))
                (front_body (map arrival_of rx.items)) v.slots;
          }) s.servers

          mid-is : mid ≡ at_first (is_server h.session) (takes h body) s.servers
          mid-is = rw (header, body-here) refl

          mid-set : mid ≡ slice_set s.servers i (takes h body p.server)
          mid-set = mid-is ∙ set-by (takes h body)

          -- the same session is changed once more
          mid-then : (g : Server → Server) → ((v : Server) → is_server h.session
              (takes h body v) ≡ is_server h.session v)
              → at_first (is_server h.session) g mid
              ≡ slice_set s.servers i (g (takes h body p.server))
          mid-then g still =
              ap (λ (zs : List Server). at_first (is_server h.session) g zs) mid-is
              ∙ twice-first (is_server h.session) g (takes h body) still s.servers
              ∙ set-by (λ x. g (takes h body x))

          own-entry : (e : EntryValue) → e.owner ≡ Reply p.server.way.number h.request
              → e.number ≡ h.number
              → queued_of e
              ≡ record { owner = Reply h.session h.request; number = h.number; due = None }
          own-entry e owner numbered =
              ap (λ (o : Owner). record { owner = o; number = e.number; due = None })
              (owner ∙ ap (λ n. Reply n h.request) number)
              ∙ ap (λ k. record { owner = Reply h.session h.request; number = k; due = None })
              numbered

        abbrev entry : Queued
        entry = record { owner = Reply h.session h.request; number = h.number; due = None }

        abbrev posted : Fact
        posted = plain me (Posted (Reply h.session h.request) h.number)

        abbrev took : Fact
        took = plain me (TookEvent (Reply h.session h.request) h.number)

        pushed-ready : (qs us : List Queued) → us ≡ put_queued entry qs → AllByRecursion IsSendable qs
            → AllByRecursion IsSendable us
        pushed-ready qs us is all = rw is (put-all entry IsSendable (refl, λ reply. refl) qs all)

        pushed-few : (qs us : List Queued) → us ≡ put_queued entry qs → replies qs ≤ replies s.queued
            → replies us ≤ rx.size
        pushed-few qs us is fewer = rw is (omega (arith, one-reply entry qs, fewer, few))

        -- a packet that was taken before
        module _ (e : EntryValue) (p : At (Again e))
            (owner : e.owner ≡ Reply p.server.way.number h.request) (numbered : e.number ≡ h.number)
          where
            abbrev again : Fact
            again = plain me (AgainEvent (Reply h.session h.request) h.number)

            repeats : row (Again e) p ≡ Repeats
            repeats = step-again mode h (row (Again e) p) e p.row

            ruled-again : served_facts mode me p.handled.answer s.queued (Some p.server) h body
                (row (Again e) p) ≡ again ∷ posted ∷ []
            ruled-again = ap (λ (r : ServerRow). served_facts mode me p.handled.answer s.queued
                (Some p.server) h body r) repeats

            facts-again : (js : Jobs) → are_full js ≡ are_full jobs → again ∷ posted ∷ []
                ≡ asks_facts mode_of false p.handled.answer (old js) d.peer h body
            facts-again js same = sym (by-rule (Again e) p false js same ∙ ruled-again)

            servers-again : t.servers ≡ s.servers
            servers-again = p.changed ∙ ap (λ (z : Server). slice_set s.servers i z) p.handled.steps
                ∙ set-own s.servers i p.server p.place

            queue-again : t.queued ≡ put_queued entry s.queued
            queue-again = p.queue
                ∙ ap (λ (r : ServerRow). queue_handled r (Again e) p.server h s.queued) repeats
                ∙ ap (λ (z : Queued). put_queued z s.queued) (own-entry (Again e) p e owner numbered)

            goes-again : (js : Jobs) → seen tallies js q t
                ≡ record {
                  lists = after_all clock (old js) (again ∷ posted ∷ []);
                  clock = clock;
                }
            goes-again js =
                rw (
                  clients,
                  servers-again,
                  queue-again,
                  left,
                  same-size,
                ) refl

            pub fits-again : Fits (seen tallies jobs q t) t.size t.places
            fits-again = fits-served tallies jobs p.server p.server
                (rw (ap (λ (u : Timed). u.lists) (goes-again jobs))
                (kept-all clock (old jobs) (again ∷ posted ∷ []) fits.kept
                (all-allowed false p.handled.answer jobs (again ∷ posted ∷ []) fits.kept
                (facts-again jobs refl)))) refl refl p.place
                (servers-again ∙ sym (set-own s.servers i p.server p.place)) refl
                (pushed-ready s.queued t.queued queue-again fits.sendable)
                (pushed-few s.queued t.queued queue-again (omega arith)) refl

            pub node-again : ((old_served : Served) → stands old_served → then_stands old_served)
                → (memory : Change ℕ) → HasRisenBy 0 memory.old memory.new
                → Ends None tallies jobs memory
            node-again still memory risen =
                node-calm log before now answer_of stands then_stands None tallies jobs
                q t memory p.handled.answer (again ∷ posted ∷ [])
                (subst (λ (x : List Fact). Grew (log before) (log now) x) ruled-again
                p.handled.grew)
                (λ asks. facts-again (asking_jobs asks jobs) (full-asking asks jobs))
                (λ asks asked. goes-again (asking_jobs asks jobs))
                (λ old_served st. ((tt, (tt, tt)), still old_served st))
                tt refl tt (refl, (refl, tt)) risen

        -- a packet that is dropped
        module _ (why : DropReason) (p : At (Dropped why)) (n : ℕ)
            (counted : n ≡ one_more tallies.counts.dropped) where
          abbrev dropped_tallies : Tallies
          dropped_tallies = record tallies { counts = record tallies.counts { dropped = n } }

          abbrev dropped : Fact
          dropped = plain me (DroppedEvent why)

          lacks-and : (lacks : Bool) × (row_at mode full lacks h p.server ≡ Drops why)
          lacks-and = drops-with mode full h p.server why p.row p.lacks

          ruled-dropped : handled_facts me (served_facts mode me p.handled.answer s.queued
              (Some p.server) h body (row (Dropped why) p)) (Dropped why) ≡ dropped ∷ []
          ruled-dropped = facts-dropped mode me p.handled.answer s.queued p.server h body
              (row (Dropped why) p) why p.row

          facts-drop : (js : Jobs) → are_full js ≡ are_full jobs → dropped ∷ []
              ≡ asks_facts mode_of lacks-and.0 p.handled.answer (old js) d.peer h body
          facts-drop js same =
              sym (by-rule (Dropped why) p lacks-and.0 js same
              ∙ ap (λ (r : ServerRow). served_facts mode me p.handled.answer s.queued
              (Some p.server) h body r) lacks-and.1)

          servers-dropped : t.servers ≡ s.servers
          servers-dropped = p.changed ∙ ap (λ (z : Server). slice_set s.servers i z) p.handled.steps
              ∙ set-own s.servers i p.server p.place

          queue-dropped : t.queued ≡ s.queued
          queue-dropped = p.queue
              ∙ ap (λ (b : Bool). cond b (without_owned p.server.way.number
              (find (in_slot_of h.request) p.server.slots) s.queued) s.queued)
              (begun-none (row (Dropped why) p) why)

          goes-dropped : (js : Jobs) → seen dropped_tallies js q t
              ≡ record { lists = after_all clock (old js) (dropped ∷ []); clock = clock }
          goes-dropped js =
              rw (clients, servers-dropped, queue-dropped, left, same-size, counted) refl

          pub fits-drop : Fits (seen dropped_tallies jobs q t) t.size t.places
          fits-drop = fits-served dropped_tallies jobs p.server p.server
              (rw (ap (λ (u : Timed). u.lists) (goes-dropped jobs))
              (kept-all clock (old jobs) (dropped ∷ []) fits.kept
              (all-allowed lacks-and.0 p.handled.answer jobs (dropped ∷ []) fits.kept
              (facts-drop jobs refl)))) refl refl p.place
              (servers-dropped ∙ sym (set-own s.servers i p.server p.place)) refl
              (rw queue-dropped fits.sendable) (rw queue-dropped (omega (arith, few))) refl

          -- a short request isn't dropped for want of memory
          not-wanted : IsShort serving (map arrival_of rx.items) → why ≢ NoMemory
          not-wanted short same =
              let own : short.head ≡ h = one-header (map arrival_of rx.items) short.head h short.front header in
              let one : (packet_count h.size == 1) ≡ true =
              eq-eqb (packet_count h.size) 1 (ap (λ (x : MessageHeader). packet_count x.size) (sym own) ∙ short.one) in
              p.short (ap (λ (x : MessageHeader). mode_of x.req_type) (sym own) ∙ short.inline)
              (ap is_last (sym own) ∙ short.last)
              (λ old_served st. rw (one, ← body-here, ← own) (short.fits old_served))
              (ap (λ x. Dropped x) same)

          pub node-drop : ((old_served : Served) → stands old_served → then_stands old_served)
              → (memory : Change ℕ) → HasRisenBy (lacks_for why) memory.old memory.new
              → Ends None dropped_tallies jobs memory
          node-drop still memory risen =
              node-served log before now answer_of stands then_stands None dropped_tallies
              jobs q t memory lacks-and.0 p.handled.answer (dropped ∷ [])
              (subst (λ (x : List Fact). Grew (log before) (log now) x) ruled-dropped
              p.handled.grew)
              (λ asks. facts-drop (asking_jobs asks jobs) (full-asking asks jobs))
              (λ asks asked. goes-dropped (asking_jobs asks jobs))
              (λ old_served st. ((tt, tt), still old_served st))
              tt refl tt ((λ short e. not-wanted short (let same : why ≡ NoMemory = cc in same)), tt)
              (subst (λ (n : ℕ). HasRisenBy n memory.old memory.new) (sym (drop-lacks me why)) risen)

        -- a packet that is taken
        module _ (step : Step) (p : At step) (takes : takes_it step ≡ true) where
          taken : TakenBy mode_of full me p.handled.answer s.queued p.server h body
              (row step p) step
          taken = taken-by mode_of full me p.handled.answer s.queued p.server (sound step p) h body
              step takes p.row

          taken-after : (js : Jobs) (fs : List Fact) → after_all clock (old js) (taken.older ++ fs)
              ≡ after_all clock (record (old js) { queued = taken.queue }) fs
          taken-after js fs =
              after_all-append clock (old js) taken.older fs
              ∙ ap (λ (x : Lists). after_all clock x fs) (taken.flushed clock (old js) refl)

          taken-queue : t.queued ≡ put_ready (replies_of step) taken.queue
          taken-queue = p.queue ∙ ap (λ (qs : List Queued). put_ready (replies_of step) qs)
              taken.begun

        -- and has its reply
        module _ (e : EntryValue) (p : At (Took (Some e)))
            (owner : e.owner ≡ Reply p.server.way.number h.request) (numbered : e.number ≡ h.number)
          where
            abbrev tk : TakenBy mode_of full me p.handled.answer s.queued p.server h body
                (row (Took (Some e)) p) (Took (Some e))
            tk = taken (Took (Some e)) p refl

            abbrev noted-took : List Fact
            noted-took = tk.older ++ took ∷ posted ∷ []

            ruled-took : served_facts mode me p.handled.answer s.queued (Some p.server) h body
                (row (Took (Some e)) p) ≡ noted-took
            ruled-took = tk.ruled
                ∙ ap (λ (fs : List Fact). tk.older ++ fs)
                (facts-took mode h me p.handled.answer (ask (Took (Some e)) p)
                (step-took mode h (row (Took (Some e)) p) (Some e) p.row))

            facts-taken : (js : Jobs) → are_full js ≡ are_full jobs → noted-took
                ≡ asks_facts mode_of false p.handled.answer (old js) d.peer h body
            facts-taken js same = sym (by-rule (Took (Some e)) p false js same ∙ ruled-took)

            later-is : p.later ≡ takes h body p.server
            later-is = later-took h body p.server p.later p.handled.steps

            servers-set : t.servers ≡ slice_set s.servers i (takes h body p.server)
            servers-set = p.changed ∙ ap (λ (z : Server). slice_set s.servers i z) later-is

            servers-took : t.servers ≡ mid (Took (Some e)) p
            servers-took = servers-set ∙ sym (mid-set (Took (Some e)) p)

            queue-took : t.queued ≡ put_queued entry tk.queue
            queue-took = taken-queue (Took (Some e)) p refl
                ∙ ap (λ (z : Queued). put_queued z tk.queue)
                (own-entry (Took (Some e)) p e owner numbered)

            rest-took : (qs : List Queued) (js : Jobs) → t.queued ≡ put_queued entry qs
                → AllByRecursion IsSendable qs → seen tallies js q t
                ≡ record {
                  lists = after_all clock (record (old js) { queued = qs }) (took ∷ posted ∷ []);
                  clock = clock;
                }
            rest-took qs js queue ready =
                rw (
                  clients,
                  servers-took,
                  queue,
                  left,
                  same-size,
                ) refl

            goes-took : (js : Jobs) → seen tallies js q t
                ≡ record { lists = after_all clock (old js) noted-took; clock = clock }
            goes-took js = rest-took tk.queue js queue-took (tk.ready fits.sendable)
                ∙ ap (λ (x : Lists). record { lists = x; clock = clock })
                (sym (taken-after (Took (Some e)) p refl js (took ∷ posted ∷ [])))

            pub fits-took : Fits (seen tallies jobs q t) t.size t.places
            fits-took = fits-served tallies jobs p.server (takes h body p.server)
                (rw (ap (λ (u : Timed). u.lists) (goes-took jobs))
                (kept-all clock (old jobs) noted-took fits.kept
                (all-allowed false p.handled.answer jobs noted-took fits.kept
                (facts-taken jobs refl)))) refl refl p.place servers-set refl
                (pushed-ready tk.queue t.queued queue-took (tk.ready fits.sendable))
                (pushed-few tk.queue t.queued queue-took tk.fewer) refl

            pub node-took : ((old_served : Served) → stands old_served → then_stands old_served)
                → (memory : Change ℕ) → HasRisenBy 0 memory.old memory.new
                → Ends None tallies jobs memory
            node-took still memory risen =
                node-calm log before now answer_of stands then_stands None tallies jobs
                q t memory p.handled.answer noted-took
                (subst (λ (x : List Fact). Grew (log before) (log now) x) ruled-took p.handled.grew)
                (λ asks. facts-taken (asking_jobs asks jobs) (full-asking asks jobs))
                (λ asks asked. goes-took (asking_jobs asks jobs))
                (λ old_served st. (
                  tk.quiet serving old_served (took ∷ posted ∷ []) (tt, (tt, tt)),
                  subst then_stands
                      (sym (tk.serves serving old_served (took ∷ posted ∷ [])))
                      (still old_served st),
                ))
                tt refl tt (still-append is_lack tk.older (took ∷ posted ∷ []) tk.calm
                (refl, (refl, tt))) risen

        abbrev Replied : Step → Server → Type 0
        Replied step v =
            IfReply step (λ e. (e.owner ≡ Reply v.way.number h.request) × (e.number ≡ h.number))

        pub fits-took-it : (o : Option EntryValue) (p : At (Took o)) → Replied (Took o) p.server
            → Fits (seen tallies jobs q t) t.size t.places
        fits-took-it None p reply = absurd reply
        fits-took-it (Some e) p reply = fits-took e p reply.0 reply.1

        pub node-took-it : (o : Option EntryValue) (p : At (Took o)) → Replied (Took o) p.server
            → ((old_served : Served) → stands old_served → then_stands old_served)
            → (memory : Change ℕ) → HasRisenBy 0 memory.old memory.new
            → Ends None tallies jobs memory
        node-took-it None p reply still memory risen = absurd reply
        node-took-it (Some e) p reply still memory risen =
            node-took e p reply.0 reply.1 still memory risen

        -- and its request's handler ran
        module _ (e : EntryValue) (p : At (Ran e))
            (owner : e.owner ≡ Reply p.server.way.number h.request) (numbered : e.number ≡ h.number)
            (n : ℕ) (counted : n ≡ one_more tallies.counts.ran) where
          abbrev ran_tallies : Tallies
          ran_tallies = record tallies { counts = record tallies.counts { ran = n } }

          abbrev tr : TakenBy mode_of full me p.handled.answer s.queued p.server h body
              (row (Ran e) p) (Ran e)
          tr = taken (Ran e) p refl

          abbrev ran_fact : Fact
          ran_fact = with_two me (RanEvent h.session h.request h.req_type) (ask (Ran e) p)
              p.handled.answer

          abbrev noted-ran : List Fact
          noted-ran = tr.older ++ took ∷ ran_fact ∷ posted ∷ []

          last-ran : (is_last h ≡ true) × (makes_job mode h ≡ false)
          last-ran = step-ran mode h (row (Ran e) p) e p.row

          ruled-ran : served_facts mode me p.handled.answer s.queued (Some p.server) h body
              (row (Ran e) p) ≡ noted-ran
          ruled-ran = tr.ruled
              ∙ ap (λ (fs : List Fact). tr.older ++ fs)
              (facts-ran mode h me p.handled.answer (ask (Ran e) p) last-ran.0 last-ran.1)

          facts-run : (js : Jobs) → are_full js ≡ are_full jobs → noted-ran
              ≡ asks_facts mode_of false p.handled.answer (old js) d.peer h body
          facts-run js same = sym (by-rule (Ran e) p false js same ∙ ruled-ran)

          set-ran : t.servers
              ≡ slice_set s.servers i (runs h body p.handled.answer (takes h body p.server))
          set-ran = p.changed ∙ ap (λ (z : Server). slice_set s.servers i z)
              (later-ran h body p.handled.answer p.server p.later p.handled.steps)

          servers-ran : t.servers
              ≡ at_first (is_server h.session) (runs h body p.handled.answer) (mid (Ran e) p)
          servers-ran = set-ran
              ∙ sym (mid-then (Ran e) p (runs h body p.handled.answer) (λ v. refl))

          queue-ran : t.queued ≡ put_queued entry tr.queue
          queue-ran = taken-queue (Ran e) p refl
              ∙ ap (λ (z : Queued). put_queued z tr.queue) (own-entry (Ran e) p e owner numbered)

          rest-ran : (qs : List Queued) (js ks : Jobs) → t.queued ≡ put_queued entry qs
              → AllByRecursion IsSendable qs
              → ks ≡ record js { out = without_first (is_job h.session h.request) js.out }
              → seen ran_tallies ks q t
              ≡ record {
                lists = after_all clock (record (old js) { queued = qs })
                    (took ∷ ran_fact ∷ posted ∷ []);
                clock = clock;
              }
          rest-ran qs js ks queue ready same =
              rw (
                clients,
                servers-ran,
                queue,
                left,
                same-size,
                same,
                counted,
              ) refl

          goes-ran : (js ks : Jobs)
              → ks ≡ record js { out = without_first (is_job h.session h.request) js.out }
              → seen ran_tallies ks q t
              ≡ record { lists = after_all clock (old js) noted-ran; clock = clock }
          goes-ran js ks same = rest-ran tr.queue js ks queue-ran (tr.ready fits.sendable) same
              ∙ ap (λ (x : Lists). record { lists = x; clock = clock })
              (sym (taken-after (Ran e) p refl js (took ∷ ran_fact ∷ posted ∷ [])))

          none : jobs_of h.session h.request jobs.out ≡ 0
          none =
              no-jobs (old jobs) h.session h.request p.server fits.kept (found (Ran e) p)
              (tr.left last-ran.0)

          pub fits-ran : Fits (seen ran_tallies jobs q t) t.size t.places
          fits-ran = fits-served ran_tallies jobs p.server
              (runs h body p.handled.answer (takes h body p.server))
              (rw (ap (λ (u : Timed). u.lists) (goes-ran jobs jobs
              (none-bare h.session h.request jobs none)))
              (kept-all clock (old jobs) noted-ran fits.kept
              (all-allowed false p.handled.answer jobs noted-ran fits.kept
              (facts-run jobs refl)))) refl refl p.place set-ran refl
              (pushed-ready tr.queue t.queued queue-ran (tr.ready fits.sendable))
              (pushed-few tr.queue t.queued queue-ran tr.fewer) refl

          inline : runs_inline mode_of h.req_type ≡ true
          inline =
              inline-of mode (tr.served
              (all-at (SlotsServed mode_of) s.servers i p.server served p.place)
              (last-parts h last-ran.0).0) (no-job mode h last-ran.0 last-ran.1)

          then-served : (old_served : Served) → served_after_all mode_of old_served noted-ran
              ≡ old_served ++ (h.req_type, ask (Ran e) p) ∷ []
          then-served old_served = tr.serves serving old_served (took ∷ ran_fact ∷ posted ∷ [])
              ∙ rw inline refl

          pub node-ran : (memory : Change ℕ) → HasRisenBy 0 memory.old memory.new
              → Ends None ran_tallies jobs memory
          node-ran memory risen =
              node-calm log before now answer_of stands then_stands None ran_tallies jobs
              q t memory p.handled.answer noted-ran
              (subst (λ (x : List Fact). Grew (log before) (log now) x) ruled-ran p.handled.grew)
              (λ asks. facts-run (asking_jobs asks jobs) (full-asking asks jobs))
              (λ asks asked. goes-ran (asking_jobs asks jobs) (asking_jobs asks jobs)
              (none-out h.session h.request asks jobs none))
              (λ old_served st.
              let own = p.handled.by_service old_served st in (
                tr.quiet serving old_served (took ∷ ran_fact ∷ posted ∷ [])
                    (tt, (own.0, (tt, tt))),
                subst then_stands (sym (then-served old_served)) own.1,
              ))
              tt refl tt (still-append is_lack tr.older (took ∷ ran_fact ∷ posted ∷ [])
              tr.calm (refl, (refl, (refl, tt)))) risen

        pub unfull-of : (parcel : Parcel) → At (Give parcel) → full ≡ false
        unfull-of parcel p =
            unfilled (makes_job mode h) full (taken (Give parcel) p refl).free
            (step-give mode h (row (Give parcel) p) parcel p.row)

        -- and is given to a worker
        module _ (parcel : Parcel) (p : At (Give parcel)) (n : ℕ)
            (counted : n ≡ one_more tallies.counts.given) (js_now : Jobs)
            (limit : js_now.limit ≡ jobs.limit)
            (named : js_now.out ≡ jobs.out ++ job_named parcel ∷ [])
            (asked : (asks : Asks) → asks parcel.session parcel.request ≡ bytes_of parcel.ask
            → asking_jobs asks js_now
            ≡ record (asking_jobs asks jobs) {
              given = jobs.given + 1;
              out = (asking_jobs asks jobs).out
                  ++ record {
                    session = parcel.session;
                    request = parcel.request;
                    req_type = parcel.req_type;
                    ask = bytes_of parcel.ask;
                  } ∷ [];
            }) where
          abbrev given_tallies : Tallies
          given_tallies = record tallies { counts = record tallies.counts { given = n } }

          abbrev tg : TakenBy mode_of full me p.handled.answer s.queued p.server h body
              (row (Give parcel) p) (Give parcel)
          tg = taken (Give parcel) p refl

          abbrev given_fact : Fact
          given_fact = plain me (Given h.session h.request)

          abbrev noted-give : List Fact
          noted-give = tg.older ++ took ∷ given_fact ∷ []

          abbrev job : Job
          job = record {
            session = parcel.session;
            request = parcel.request;
            req_type = parcel.req_type;
            ask = bytes_of parcel.ask;
          }

          makes : makes_job mode h ≡ true
          makes = step-give mode h (row (Give parcel) p) parcel p.row

          ruled-give : served_facts mode me p.handled.answer s.queued (Some p.server) h body
              (row (Give parcel) p) ≡ noted-give
          ruled-give = tg.ruled
              ∙ ap (λ (fs : List Fact). tg.older ++ fs)
              (facts-give mode h me p.handled.answer (ask (Give parcel) p) makes)

          facts-given : (js : Jobs) → are_full js ≡ are_full jobs → noted-give
              ≡ asks_facts mode_of false p.handled.answer (old js) d.peer h body
          facts-given js same = sym (by-rule (Give parcel) p false js same ∙ ruled-give)

          set-give : t.servers ≡ slice_set s.servers i (gives h body (takes h body p.server))
          set-give = p.changed ∙ ap (λ (z : Server). slice_set s.servers i z)
              (later-gave h body p.server p.later p.handled.steps)

          servers-give : t.servers
              ≡ at_first (is_server h.session) (gives h body) (mid (Give parcel) p)
          servers-give = set-give ∙ sym (mid-then (Give parcel) p (gives h body) (λ v. refl))

          queue-give : t.queued ≡ tg.queue
          queue-give = taken-queue (Give parcel) p refl

          -- its job is the parcel's
          mid-found : find (is_server h.session) (mid (Give parcel) p)
              ≡ Some (takes h body p.server)
          mid-found =
              let own = found (Give parcel) p in
              ap (λ (vs : List Server). find (is_server h.session) vs) (mid-is (Give parcel) p)
              ∙ found-changed (is_server h.session) (takes h body) (is_server h.session) p.server
              s.servers (find-passes (is_server h.session) s.servers p.server own) own own

          job-is : new_job h.session h.request (mid (Give parcel) p) ≡ job ∷ []
          job-is =
              let q = tg.request in
              let last = (job-parts mode h makes).0 in
              the-job h.session h.request (mid (Give parcel) p) (takes h body p.server) q.request
              mid-found q.stands
              ∙ ap (λ k. record {
                session = k;
                request = q.request.number;
                req_type = q.request.req_type;
                ask = q.request.ask;
              } ∷ []) (sym (number (Give parcel) p) ∙ sym p.give.session)
              ∙ ap (λ k. record {
                session = parcel.session;
                request = k;
                req_type = q.request.req_type;
                ask = q.request.ask;
              } ∷ []) (q.number ∙ sym p.give.request)
              ∙ ap (λ k. record {
                session = parcel.session;
                request = parcel.request;
                req_type = k;
                ask = q.request.ask;
              } ∷ []) (q.req_type (last-parts h last).0 ∙ sym p.give.req_type)
              ∙ ap (λ (b : List ℕ). record {
                session = parcel.session;
                request = parcel.request;
                req_type = parcel.req_type;
                ask = b;
              } ∷ []) (q.ask ∙ sym p.give.ask)

          rest-give : (qs : List Queued) (js ks : Jobs) → t.queued ≡ qs
              → ks
              ≡ record js {
                given = js.given + 1;
                out = js.out ++ new_job h.session h.request (mid (Give parcel) p);
              }
              → seen given_tallies ks q t
              ≡ record {
                lists = after_all clock (record (old js) { queued = qs }) (took ∷ given_fact ∷ []);
                clock = clock;
              }
          rest-give qs js ks queue same =
              rw (clients, servers-give, queue, left, same-size, same, counted) refl

          goes-give : (js ks : Jobs)
              → ks ≡ record js { given = js.given + 1; out = js.out ++ job ∷ [] }
              → seen given_tallies ks q t
              ≡ record { lists = after_all clock (old js) noted-give; clock = clock }
          goes-give js ks same = rest-give tg.queue js ks queue-give
              (same ∙ ap (λ (xs : List Job). record js { given = js.given + 1; out = js.out ++ xs })
              (sym job-is))
              ∙ ap (λ (x : Lists). record { lists = x; clock = clock })
              (sym (taken-after (Give parcel) p refl js (took ∷ given_fact ∷ [])))

          abbrev told : Jobs
          told = record jobs { given = jobs.given + 1; out = jobs.out ++ job ∷ [] }

          kept-told : Kept (seen given_tallies told q t).lists
          kept-told = rw (ap (λ (u : Timed). u.lists) (goes-give jobs told refl))
              (kept-all clock (old jobs) noted-give fits.kept
              (all-allowed false p.handled.answer jobs noted-give fits.kept
              (facts-given jobs refl)))

          as-many : (u r : ℕ) → jobs_of u r js_now.out ≤ jobs_of u r told.out
          as-many u r = rw named (same-named u r jobs.out (job_named parcel) job refl refl)

          pub fits-give : Fits (seen given_tallies js_now q t) t.size t.places
          fits-give = fits-served given_tallies js_now p.server
              (gives h body (takes h body p.server))
              (kept-jobs (seen given_tallies told q t).lists js_now as-many kept-told) refl refl p.place
              set-give refl (rw queue-give (tg.ready fits.sendable))
              (rw queue-give (omega (arith, tg.fewer, few))) limit

          is-given : IsGiven serving stands parcel
          is-given = record {
            background = ap mode_of p.give.req_type ∙ background-of mode (job-parts mode h makes).1;
            room = p.give.room;
            most = p.give.most;
          }

          pub node-give : js_now.given ≡ jobs.given + 1
              → ((old_served : Served) → stands old_served → then_stands old_served)
              → (memory : Change ℕ) → HasRisenBy 0 memory.old memory.new
              → Ends (Some parcel) given_tallies js_now memory
          node-give more still memory risen =
              node-calm log before now answer_of stands then_stands (Some parcel)
              given_tallies js_now q t memory p.handled.answer noted-give
              (subst (λ (x : List Fact). Grew (log before) (log now) x) ruled-give p.handled.grew)
              (λ asks. facts-given (asking_jobs asks jobs) (full-asking asks jobs))
              (λ asks own. goes-give (asking_jobs asks jobs) (asking_jobs asks js_now)
              (asked asks own))
              (λ old_served st. (
                tg.quiet serving old_served (took ∷ given_fact ∷ []) (tt, (tt, tt)),
                subst then_stands
                    (sym (tg.serves serving old_served (took ∷ given_fact ∷ [])))
                    (still old_served st),
              ))
              is-given (rw (← limit, ← more, ← named) refl)
              (sym is_full ∙ unfull-of parcel p)
              (still-append is_lack tg.older (took ∷ given_fact ∷ []) tg.calm (refl, (refl, tt)))
              risen
