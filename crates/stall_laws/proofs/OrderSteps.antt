-- The steps of a node leave nothing to be done.
use Rattle.std.proofs.Common.{◌≡◌, ◌+◌, ◌-◌, ◌==◌, ◌%◌, ℕ, zero, suc, Bool, true, false, not, cond}
use Rattle.std.proofs.Common.{List, [], ◌∷◌, ◌++◌, length, map, Option, Some, None, slice_get, refl}
use Rattle.std.proofs.Common.{sym, ap, ◌∙◌, subst, eq-eqb, inl, inr, ◌⊎◌}
use Rattle.std.proofs.Common.{append_assoc}
use Rattle.std.specs.Prelude.{option_and_then, option_map, flat_map}
use Rattle.std.specs.List.{find, AllByRecursion}
use Rattle.std.proofs.lemmas.Bool.{eqb-true}
use Rattle.packet_header.specs.Parts.{packet_count}
use Rattle.packet_header.specs.Reading.{message_of, body_of}
use Rattle.packet_header.specs.declared.packet.Kind.{Kind}
use Rattle.packet_header.specs.declared.packet.Kind.TheVariants.{Request, Rfr, Cr, Response}
use Rattle.packet_header.specs.declared.packet.MessageHeader.{MessageHeader}
use Rattle.rpc_base.specs.declared.event.Event.{Event}
use Rattle.rpc_base.specs.declared.event.Event.TheVariants.{Posted, Took, Ran, Begun, Flushed}
use Rattle.rpc_base.specs.declared.event.Event.TheVariants.{DonePeerLost, Rolled, Broken, Sent}
use Rattle.rpc_base.specs.declared.event.Event.TheVariants.{Polled, Dropped}
use Rattle.rpc_base.specs.declared.fact.Fact.{Fact}
use Rattle.rpc_base.specs.declared.fact.Who.TheVariants.{Node}
use Rattle.rpc_base.specs.declared.state.DropReason.TheVariants.{StaleLife, WrongPeer, NoSession}
use Rattle.rpc_base.specs.declared.owner.Owner.TheVariants.{Ask, Reply}
use Rattle.rpc_base.proofs.BasicLemmas.{false-true}
use Rattle.rpc_base.proofs.TakingLemmas.{find-passes}
use Rattle.rpc_laws.specs.declared.rows.ClientRow.{ClientRow}
use Rattle.rpc_laws.specs.declared.rows.ClientRow.TheVariants.{Drops as DropsReply}
use Rattle.rpc_laws.specs.declared.rows.ClientRow.TheVariants.{Takes as TakesReply}
use Rattle.rpc_laws.specs.declared.rows.EndRow.{EndRow}
use Rattle.rpc_laws.specs.declared.rows.EndRow.TheVariants.{GoesOn, EndsOk, EndsTooSmall}
use Rattle.rpc_laws.specs.declared.rows.ServerRow.{ServerRow}
use Rattle.rpc_laws.specs.declared.rows.ServerRow.TheVariants.{Drops, Begins, Takes, Repeats}
use Rattle.rpc_laws.specs.declared.rows.TimerRow.{TimerRow}
use Rattle.rpc_laws.specs.declared.rows.TimerRow.TheVariants.{Waits, RollsBack, Breaks}
use Rattle.rpc_laws.specs.declared.tables.Arrival.{Arrival}
use Rattle.rpc_laws.specs.declared.tables.Asking.{Asking}
use Rattle.rpc_laws.specs.declared.tables.Call.{Call}
use Rattle.rpc_laws.specs.declared.tables.Client.{Client}
use Rattle.rpc_laws.specs.declared.tables.InFlight.{InFlight}
use Rattle.rpc_laws.specs.declared.tables.Job.{Job}
use Rattle.rpc_laws.specs.declared.tables.Lists.{Lists}
use Rattle.rpc_laws.specs.declared.tables.Progress.{Progress}
use Rattle.rpc_laws.specs.declared.tables.Queued.{Queued}
use Rattle.rpc_laws.specs.declared.tables.Served.{Served}
use Rattle.rpc_laws.specs.declared.tables.Server.{Server}
use Rattle.rpc_laws.specs.declared.tables.Timed.{Timed}
use Rattle.rpc_laws.specs.declared.tables.WorkedJob.{WorkedJob}
use Rattle.rpc_laws.specs.Calls.{is_active, is_call, is_waiting, with_reply}
use Rattle.rpc_laws.specs.ClientTable.{client_ending, call_ending, progress_ending, end_facts}
use Rattle.rpc_laws.specs.ClientTable.{reply_facts}
use Rattle.rpc_laws.specs.ControlSteps.{AnswersControl, EndsOutdated, Hears, HearsAll, Retries}
use Rattle.rpc_laws.specs.ControlSteps.{TimesSession, TimesAll}
use Rattle.rpc_laws.specs.Facts.{plain, with_two}
use Rattle.rpc_laws.specs.Front.{front_header, front_body}
use Rattle.rpc_laws.specs.GoBackN.{Watches, WatchesSession, Each, flushes_of, row_facts, row_of}
use Rattle.rpc_laws.specs.GoBackN.{progress_facts, call_facts, client_facts, numbers_in}
use Rattle.rpc_laws.specs.Jobs.{are_full, is_job}
use Rattle.rpc_laws.specs.NodeLists.{after, after_all}
use Rattle.rpc_laws.specs.PollOrder.{answer_posted, awaited, awaited_of, Finishes, Handles}
use Rattle.rpc_laws.specs.PollOrder.{HandlesAll}
use Rattle.rpc_laws.specs.PollOrder.{handled, handling_by, Serves, PostsAll, Sends, SendsAll, Closes}
use Rattle.rpc_laws.specs.Posting.{if_connected, beginning, posting, next_begun, next_posted}
use Rattle.rpc_laws.specs.Posting.{next_packet, next_turn, lowest_free, can_post}
use Rattle.rpc_laws.specs.Queues.{numbers_of}
use Rattle.rpc_laws.specs.Requests.{is_server, is_request, in_slot_of, took_packet}
use Rattle.rpc_laws.specs.ServerTable.{is_last, joined, took_facts, flushes, served_facts}
use Rattle.rpc_laws.specs.ServerTable.{server_row, slot_row}
use Rattle.rpc_laws.specs.Service.{is_background}
use Rattle.rpc_laws.specs.Sessions.{is_client, is_connected}
use Rattle.rpc_laws.specs.Steps.{Rel, Then, Chain, none, more, Until, Visits, NotesNext, NotesAll}
use Rattle.rpc_laws.specs.Working.{FinishesEach, FinishesWorked}
use Rattle.rpc_outside.specs.PlainAnswer.{plain_mode}
use Rattle.end_laws.proofs.Allowed.{Fronts, IsWhole, MayLeave, MayOutdate}
use Rattle.end_laws.proofs.AskSteps.{bring_facts, took-walk, OpenSlot, Taking, took-slot}
use Rattle.end_laws.proofs.AskSteps.{slots-found, last-number, taken-last, taken-size}
use Rattle.end_laws.proofs.ListLemmas.{all-found, all-append}
use Rattle.end_laws.proofs.QueueLemmas.{RightNode}
use Rattle.end_laws.proofs.Rights.{JobFits, JobsRight, SlotRight, front-right, took-right, out-job}
use Rattle.end_laws.proofs.Rights.{job-number}
use Rattle.end_laws.proofs.RowSteps.{IsAsk, row-begins, row-takes}
use Rattle.end_laws.proofs.SendsLaw.{right-stays}
use Rattle.end_laws.proofs.SlotLemmas.{with_slots, Apart}
use Rattle.end_laws.proofs.Walks.{Fine, fine-chain, fine-until, fine-visits}
use Rattle.end_laws.proofs.CallSteps.{watches-fine}
use Rattle.end_laws.proofs.HearsSteps.{front-hand, hand-kept, hears-all, hears-fine, in-hand}
use Rattle.end_laws.proofs.HearsSteps.{InHand, is_heard, is-outdated, IsOutdated, may-leave}
use Rattle.end_laws.proofs.HearsSteps.{me-after, outdated-chain, row-may, RowMay, taken-right}
use Rattle.end_laws.specs.Moments.{front_of, hand_noted}
use Rattle.packet_header.specs.declared.packet.ControlHeader.{ControlHeader}
use Rattle.rpc_base.specs.declared.event.Event.TheVariants.{Accepted, ClosedHeard, Declined, Ended}
use Rattle.rpc_base.specs.declared.event.Event.TheVariants.{FailedNoRoom, Heard}
use Rattle.rpc_base.specs.declared.event.Event.TheVariants.{Connected as IsConnected, Starved}
use Rattle.rpc_base.specs.declared.state.SessionState.{SessionState}
use Rattle.rpc_base.specs.declared.state.SessionState.TheVariants.{Closing as IsClosing, Connecting}
use Rattle.rpc_laws.specs.declared.rows.ControlRow.{ControlRow}
use Rattle.rpc_laws.specs.declared.rows.ControlRow.TheVariants.{Accepts, Closes as ClosesRow}
use Rattle.rpc_laws.specs.declared.rows.ControlRow.TheVariants.{Connects, Declines}
use Rattle.rpc_laws.specs.declared.rows.ControlRow.TheVariants.{Ends as EndsRow, Fails, Starves}
use Rattle.rpc_laws.specs.declared.rows.RetryRow.{RetryRow}
use Rattle.rpc_laws.specs.declared.rows.RetryRow.TheVariants.{Asks, GivesUp, Rests}
use Rattle.rpc_laws.specs.ControlSteps.{control_fact, given_up, own_request, RetriesAs, RetriesBy}
use Rattle.rpc_laws.specs.ControlSteps.{RetriesOf}
use Rattle.rpc_laws.specs.ControlSteps.{retry_row, Speaks, SpeaksIf}
use Rattle.rpc_laws.specs.ControlTable.{control_facts, control_reply, control_row, session_end}
use Rattle.rpc_laws.specs.ControlTable.{session_flushes}
use Rattle.end_laws.proofs.ControlSteps.{retries-fine}
use Rattle.end_laws.proofs.ControlSteps.{times-session, times-all}
use Rattle.end_laws.proofs.PollSteps.{begun-fine, posted-fine, serves-fine, sends-fine, posts-all}
use Rattle.end_laws.proofs.PollSteps.{sends-all}
use Rattle.end_laws.proofs.ReplySteps.{front-is, handles-fine}
use Rattle.end_laws.proofs.WorkSteps.{number-is, finishes-fine, finishes-worked as finishes-worked-fine}
use Rattle.ring_laws.proofs.ServerReach.{NoneOut}
use Rattle.stall_laws.proofs.Dues.{Due, nothing, reply, flushed, Step, older, takes, repeats}
use Rattle.stall_laws.proofs.Dues.{posts, gives, serves, finishes, flushes as flushes_step, rolls}
use Rattle.stall_laws.proofs.Dues.{alone, breaks, is_done, leaves}
use Rattle.stall_laws.proofs.Dues.{StepsFrom, steps-alone, one-alone, IsAlone, is_alone, Orders}
use Rattle.stall_laws.proofs.Dues.{Orderly}
use Rattle.stall_laws.proofs.Dues.{orders-append, IsOlder, IsCallFor, Goes as MayGoOn}

-- a step, and then others
pub orderly-then : (P Q : Rel) → Fine RightNode P → Orderly P → Orderly Q → Orderly (Then P Q)
orderly-then P Q fine p q hand s x t i h =
    let w = fine hand s h.front h.between i h.first in
    subst (λ (y : List Fact). Orders hand s y) (sym h.joined)
    (orders-append hand s h.between h.front h.back w (p hand s h.front h.between i h.first)
    (λ other. q other h.between h.back t w.inv h.second))

pub orderly-chain : (P : Rel) → Fine RightNode P → Orderly P → Orderly (Chain P)
orderly-chain P fine p hand s x t i none = refl
orderly-chain P fine p hand s x t i (more {x = front} {t = between} c y u h) =
    let w = fine-chain RightNode P fine hand s front between i c in
    orders-append hand s between front y w (orderly-chain P fine p hand s front between i c)
    (λ other. p other between y u w.inv h)

pub orderly-until : (P : Rel) (Over : Timed → Type 0) → Fine RightNode P → Orderly P
    → Orderly (Until P Over)
orderly-until P Over fine p hand s x t i h = orderly-chain P fine p hand s x t i h.steps

pub orderly-visits : (P : ℕ → Rel) → ((n : ℕ) → Fine RightNode (P n))
    → ((n : ℕ) → Orderly (P n)) → (n : ℕ) → Orderly (Visits P n)
orderly-visits P fine p zero hand s x t i h = rw h.0 refl
orderly-visits P fine p (suc n) hand s x t i h =
    orderly-then (Visits P n) (P n) (fine-visits RightNode P fine n)
    (orderly-visits P fine p n) (p n) hand s x t i h

pub orderly-each : (P : ℕ → Rel) → ((n : ℕ) → Fine RightNode (P n))
    → ((n : ℕ) → Orderly (P n)) → (ns : List ℕ) → Orderly (Each P ns)
orderly-each P fine p [] hand s x t i h = rw h.0 refl
orderly-each P fine p (n ∷ ns) hand s x t i h =
    orderly-then (P n) (Each P ns) (fine n) (p n) (orderly-each P fine p ns) hand s x t i h

-- a job is finished: its answer is awaited, and posted
awaits-some : (q : Served) → q.working ≡ true → awaited_of (Some q) ≡ None → ⊥
awaits-some q working e = let there : Some (packet_count q.size - 1) ≡ None = rw working at e in cc

posts-held : (o : Option ℕ) (hand : Option InFlight) (clock : ℕ) (l u : Lists) (job : Job)
    → awaited job l.servers ≡ o → JobFits l.servers job → u.me ≡ l.me
    → StepsFrom hand (reply l.me job.session job.request (packet_count (length job.ask) - 1)) clock u
    (answer_posted l.me job o) nothing
posts-held None hand clock l u job e h me =
    let own : awaited_of (Some h.request) ≡ None = rw (h.stands.found, h.stands.is_there) at e in
    absurd (awaits-some h.request h.working own)
posts-held (Some k) hand clock l u job e h me =
    let own : awaited_of (Some h.request) ≡ Some k = rw (h.stands.found, h.stands.is_there) at e in
    let last : packet_count (length job.ask) - 1 ≡ k = number-is h.request (length job.ask) k h.working h.sized own in
    (nothing, ap Node (sym me), rw (last, ← me) (posts job.session job.request k), refl)

-- the answer of a session that is over goes nowhere
unposted : (o : Option ℕ) (hand : Option InFlight) (clock : ℕ) (l u : Lists) (job : Job) → o ≡ None
    → StepsFrom hand nothing clock u (answer_posted l.me job o) nothing
unposted None hand clock l u job e = refl
unposted (Some k) hand clock l u job e = cc

pub finishes-orders : (session request : ℕ) → Orderly (Finishes session request)
finishes-orders session request hand s x t i h =
    let l = s.lists in
    let job = h.job in
    let of = job-number session request l.jobs.out job h.is_out in
    let is_out : find (is_job job.session job.request) l.jobs.out ≡ Some job =
    subst (λ (b : ℕ). find (is_job job.session b) l.jobs.out ≡ Some job) (sym of.1)
    (subst (λ (a : ℕ). find (is_job a request) l.jobs.out ≡ Some job) (sym of.0) h.is_out) in
    let f : Fact = with_two l.me (Ran job.session job.request job.req_type) job.ask h.answer in
    rw h.facts (elim (out-job l session request job i.jobs h.is_out) [
      | inl is_over ↦ (
        nothing,
        refl,
        is_done job.session job.request job.req_type
            (record { job = job; is_out = is_out; own = refl })
            is_over.gone,
        unposted (awaited job l.servers) hand s.clock l (after s.clock l f) job
            (rw (is_over.gone) refl),
      )
      | inr fits ↦ (
        reply l.me job.session job.request (packet_count (length job.ask) - 1),
        refl,
        finishes job.session job.request job.req_type (record { job = job; is_out = is_out; own = refl }),
        posts-held (awaited job l.servers) hand s.clock l (after s.clock l f) job refl fits refl,
      )
    ])

finishes-each : (worked : List WorkedJob) → Orderly (FinishesEach worked)
finishes-each [] hand s x t i h = rw h.0 refl
finishes-each (w ∷ ws) hand s x t i h =
    orderly-then (Finishes w.session w.request) (FinishesEach ws)
    (finishes-fine w.session w.request) (finishes-orders w.session w.request)
    (finishes-each ws) hand s x t i h

pub finishes-worked : (worked : List WorkedJob) → Orderly (FinishesWorked worked)
finishes-worked worked hand s x t i h = finishes-each h.done hand s x t i h.finishes

-- a request whose last packet was just taken has no job
none-out : (l : Lists) (h : MessageHeader) (v : Server) (ask : List ℕ) (o : Option Job)
    → find (is_job h.session h.request) l.jobs.out ≡ o → JobsRight l.servers l.server_numbers l.jobs
    → find (is_server h.session) l.servers ≡ Some v → (n : OpenSlot v.slots h ask)
    → h.kind ≡ Request → NoneOut l h.session h.request
none-out l h v ask None is jobs found n kind = is
none-out l h v ask (Some job) is jobs found n kind =
    elim (out-job l h.session h.request job jobs is) [
      | inl is_over ↦
          let none : find (is_server h.session) l.servers ≡ None =
          subst (λ (t : ℕ). find (is_server t) l.servers ≡ None) of.0 is_over.gone in
          cc
      | inr fits ↦ fitting fits
    ]
  where
    of : (job.session ≡ h.session) × (job.request ≡ h.request)
    of = job-number h.session h.request l.jobs.out job is

    fitting : JobFits l.servers job → NoneOut l h.session h.request
    fitting fits =
        let server : find (is_server h.session) l.servers ≡ Some fits.stands.server =
        subst (λ (t : ℕ). find (is_server t) l.servers ≡ Some fits.stands.server)
        of.0 fits.stands.found in
        let request : find (is_request h.request) fits.stands.server.slots ≡ Some fits.request =
        subst (λ (r : ℕ). find (is_request r) fits.stands.server.slots ≡ Some fits.request) of.1
        fits.stands.is_there in
        let same : fits.stands.server ≡ v = cc in
        let there : find (is_request h.request) v.slots ≡ Some fits.request =
        subst (λ (z : Server). find (is_request h.request) z.slots ≡ Some fits.request)
        same request in
        let slot = n.slot.is_there in
        let one : n.slot.request ≡ fits.request = cc in
        let working = fits.working in
        let idle : fits.request.working ≡ false = ap (λ (q : Served). q.working) (sym one)
        ∙ (n.is_open kind).1 in
        false-true (sym idle ∙ working)

bring-steps : (hand : Option InFlight) (clock : ℕ) (l : Lists) (h : MessageHeader) (v : Server)
    (ask answer : List ℕ) (last background : Bool) → JobsRight l.servers l.server_numbers l.jobs
    → find (is_server h.session) l.servers ≡ Some v → OpenSlot v.slots h ask
    → (last ≡ true → (h.kind ≡ Request) × (h.number + 1 ≡ packet_count h.size)
    × (length ask ≡ h.size))
    → StepsFrom hand (reply l.me h.session h.request h.number) clock l
    (bring_facts last background l.me answer h ask) nothing
bring-steps hand clock l h v ask answer false background jobs found n ends =
    (nothing, refl, posts h.session h.request h.number, refl)
bring-steps hand clock l h v ask answer true true jobs found n ends =
    let e = ends refl in
    let opens = n.is_open e.0 in
    let number = last-number h ask e.1 e.2 in
    let whole : IsWhole l h.session h.request = record {
      server = v;
      found = found;
      request = n.slot.request;
      is_there = n.slot.is_there;
      whole = n.slot.taken ∙ (e.1 ∙ ap packet_count (sym (n.of_kind e.0).1));
      unanswered = opens.0;
      idle = opens.1;
    } in (
      nothing,
      refl,
      gives h.session h.request h.number whole
          (ap (λ (x : List ℕ). packet_count (length x) - 1) n.slot.own ∙ number),
      refl,
    )
bring-steps hand clock l h v ask answer true false jobs found n ends =
    let e = ends refl in (
      reply l.me h.session h.request h.number,
      refl,
      serves h.session h.request h.req_type h.number
          (none-out l h v ask _ refl jobs found n e.0) (last-number h ask e.1 e.2),
      (nothing, refl, posts h.session h.request h.number, refl),
    )

took-steps : (hand : Option InFlight) (clock : ℕ) (l : Lists) (front : Arrival) (h : MessageHeader)
    (v : Server) (going : Option Served) (answer : List ℕ) → RightNode l → Taking l front h v going
    → StepsFrom hand nothing clock l (took_facts (plain_mode h.req_type) l.me answer h
    (joined going (front_body l.ring))) nothing
took-steps hand clock l front h v going answer i t =
    let f : Fact = plain l.me (Took (Reply h.session h.request) h.number) in
    let change = took_packet h.request (front_header l.ring) (front_body l.ring) in
    let after_it : find (is_server h.session) (after clock l f).servers
    ≡ Some (with_slots change v) = slots-found change h.session l.servers v t.found in
    let slot : OpenSlot (took_packet h.request (Some h) (front_body l.ring) v.slots) h
    (joined going (front_body l.ring)) =
    took-slot going v.slots h (front_body l.ring) t.apart t.right
    (front-right l h t.is_front.reads) t.takes in
    let right : AllByRecursion SlotRight (took_packet h.request (front_header l.ring)
    (front_body l.ring) v.slots) = rw (t.is_front.reads)
    (took-right going v.slots h (front_body l.ring)
    (front-right l h t.is_front.reads) t.takes t.right) in
    let new : OpenSlot (took_packet h.request (front_header l.ring) (front_body l.ring) v.slots) h
    (joined going (front_body l.ring)) = rw (t.is_front.reads) slot in
    let allowed = (took-walk (plain_mode h.req_type) hand None clock l front h v going answer t).0 in
    let now = right-stays hand clock l f allowed i in (
      reply l.me h.session h.request h.number,
      refl,
      takes h.session h.request h.number,
      bring-steps hand clock (after clock l f) h (with_slots change v) (joined going (front_body l.ring)) answer
          (is_last h) (is_background h.req_type) now.jobs after_it new (λ last. let e = taken-last going v.slots h
          t.takes last in (
            e.0,
            e.1,
            taken-size h (took_packet h.request (front_header l.ring)
                (front_body l.ring) v.slots) (joined going (front_body l.ring)) new right e.0 e.1,
          )),
    )

-- the older replies are flushed first
older-then : (hand : Option InFlight) (clock : ℕ) (l : Lists) (front : Arrival) (h : MessageHeader)
    (v : Server) (answer : List ℕ) (session r : ℕ) (ks : List ℕ) → RightNode l
    → Taking l front h v None → IsOlder l session r
    → StepsFrom hand nothing clock l (map (λ k. plain l.me (Flushed (Reply session r) k)) ks
    ++ took_facts (plain_mode h.req_type) l.me answer h (joined None (front_body l.ring))) nothing
older-then hand clock l front h v answer session r [] i t o = took-steps hand clock l front h v None answer i t
older-then hand clock l front h v answer session r (k ∷ ks) i t o =
    let f : Fact = plain l.me (Flushed (Reply session r) k) in
    let now = right-stays hand clock l f (record { who = refl; may = tt }) i in (
      nothing,
      refl,
      older session r k o,
      older-then hand clock (after clock l f) front h v answer session r ks now
          (record {
            is_front = record {
              is_front = t.is_front.is_front;
              reads = t.is_front.reads;
              for_us = t.is_front.for_us;
            };
            found = t.found;
            of_peer = t.of_peer;
            takes = t.takes;
            apart = t.apart;
            right = t.right;
          })
          (record {
            header = o.header;
            reads = o.reads;
            for_us = o.for_us;
            kind = o.kind;
            session = o.session;
            slot = o.slot;
            newer = o.newer;
          }),
    )

begins-steps : (hand : Option InFlight) (clock : ℕ) (l : Lists) (front : Arrival)
    (h : MessageHeader) (v : Server) (answer : List ℕ) (old : Option Served) → RightNode l
    → Taking l front h v None → find (in_slot_of h.request) v.slots ≡ old
    → StepsFrom hand nothing clock l (flushes l.me l.queued v.way.number old
    ++ took_facts (plain_mode h.req_type) l.me answer h (joined None (front_body l.ring))) nothing
begins-steps hand clock l front h v answer None i t is = took-steps hand clock l front h v None answer i t
begins-steps hand clock l front h v answer (Some q) i t is =
    let slot = eqb-true (q.number % 8) (h.request % 8) (find-passes (in_slot_of h.request) v.slots q is) in
    let session = eqb-true v.way.number h.session (find-passes (is_server h.session) l.servers v t.found) in
    let takes = t.takes in
    older-then hand clock l front h v answer v.way.number q.number
    (numbers_of (Reply v.way.number q.number) l.queued) i t (record {
      header = h;
      reads = t.is_front.reads;
      for_us = t.is_front.for_us;
      kind = takes.0;
      session = sym session;
      slot = slot;
      newer = (takes.3 q is).0;
    })

row-steps : (hand : Option InFlight) (clock : ℕ) (l : Lists) (front : Arrival) (h : MessageHeader)
    (v : Server) (full lacks : Bool) (answer : List ℕ) (row : ServerRow) → RightNode l
    → Fronts l front h → IsAsk h.kind → find (is_server h.session) l.servers ≡ Some v
    → front.peer ≡ v.way.peer → Apart v.slots → AllByRecursion SlotRight v.slots
    → slot_row (plain_mode h.req_type) full lacks (find (in_slot_of h.request) v.slots) h ≡ row
    → StepsFrom hand nothing clock l (served_facts (plain_mode h.req_type) l.me answer l.queued
    (Some v) h (front_body l.ring) row) nothing
row-steps hand clock l front h v full lacks answer (Drops why) i f k found peer a right e =
    one-alone hand clock l (plain l.me (Dropped why)) refl refl
row-steps hand clock l front h v full lacks answer Begins i f k found peer a right e =
    let t = row-begins (plain_mode h.req_type) full lacks h v.slots _ refl k a e in
    begins-steps hand clock l front h v answer (find (in_slot_of h.request) v.slots) i
    (record {
      is_front = f;
      found = found;
      of_peer = peer;
      takes = t;
      apart = a;
      right = right;
    }) refl
row-steps hand clock l front h v full lacks answer Takes i f k found peer a right e =
    let t = row-takes (plain_mode h.req_type) full lacks h v.slots _ refl k e in
    let there : find (is_request h.request) v.slots ≡ Some t.0 = t.1.0 in
    rw there (took-steps hand clock l front h v (Some t.0) answer i
    (record {
      is_front = f;
      found = found;
      of_peer = peer;
      takes = t.1;
      apart = a;
      right = right;
    }))
row-steps hand clock l front h v full lacks answer Repeats i f k found peer a right e = (
  reply l.me h.session h.request h.number,
  refl,
  repeats h.session h.request h.number,
  (nothing, refl, posts h.session h.request h.number, refl),
)

peer-steps : (hand : Option InFlight) (clock : ℕ) (l : Lists) (front : Arrival) (h : MessageHeader)
    (v : Server) (full lacks b : Bool) (answer : List ℕ) → (v.way.peer == front.peer) ≡ b
    → RightNode l → Fronts l front h → IsAsk h.kind → find (is_server h.session) l.servers ≡ Some v
    → Apart v.slots → AllByRecursion SlotRight v.slots
    → StepsFrom hand nothing clock l (served_facts (plain_mode h.req_type) l.me answer l.queued
    (Some v) h (front_body l.ring) (cond (not b) (Drops WrongPeer)
    (slot_row (plain_mode h.req_type) full lacks (find (in_slot_of h.request) v.slots) h))) nothing
peer-steps hand clock l front h v full lacks true answer t i f k found a right =
    row-steps hand clock l front h v full lacks answer
    (slot_row (plain_mode h.req_type) full lacks (find (in_slot_of h.request) v.slots) h) i f k
    found (sym (eqb-true v.way.peer front.peer t)) a right refl
peer-steps hand clock l front h v full lacks false answer t i f k found a right =
    one-alone hand clock l (plain l.me (Dropped WrongPeer)) refl refl

session-steps : (hand : Option InFlight) (clock : ℕ) (l : Lists) (front : Arrival)
    (h : MessageHeader) (full lacks : Bool) (answer : List ℕ) (v : Option Server)
    → find (is_server h.session) l.servers ≡ v → RightNode l → Fronts l front h → IsAsk h.kind
    → StepsFrom hand nothing clock l (served_facts (plain_mode h.req_type) l.me answer l.queued v h
    (front_body l.ring) (server_row (plain_mode h.req_type) full lacks v front.peer h)) nothing
session-steps hand clock l front h full lacks answer None is i f k =
    one-alone hand clock l (plain l.me (Dropped NoSession)) refl refl
session-steps hand clock l front h full lacks answer (Some v) is i f k =
    peer-steps hand clock l front h v full lacks _ answer refl i f k is
    (all-found (λ v. Apart v.slots) (is_server h.session) l.servers v i.sound is)
    (all-found (λ v. AllByRecursion SlotRight v.slots) (is_server h.session) l.servers v i.slots is)

-- what a reply does is alone
row-alone : (me number : ℕ) (parts : List ℕ) (row : EndRow)
    → AllByRecursion (IsAlone me) (end_facts me number parts row)
row-alone me number parts GoesOn = tt
row-alone me number parts EndsOk = ((refl, refl), tt)
row-alone me number parts (EndsTooSmall size) = ((refl, refl), tt)

progress-alone : (me : ℕ) (a : Asking) (h : MessageHeader) (body : List ℕ) (p : Option Progress)
    → AllByRecursion (IsAlone me) (progress_ending me a h body p)
progress-alone me a h body None = tt
progress-alone me a h body (Some p) = row-alone me a.number (with_reply h body p).parts _

call-alone : (me : ℕ) (h : MessageHeader) (body : List ℕ) (c : Option Call)
    → AllByRecursion (IsAlone me) (call_ending me h body c)
call-alone me h body None = tt
call-alone me h body (Some c) = progress-alone me c.what h body c.progress

ending-alone : (me : ℕ) (h : MessageHeader) (body : List ℕ) (x : Option Client)
    → AllByRecursion (IsAlone me) (client_ending me h body x)
ending-alone me h body None = tt
ending-alone me h body (Some x) = call-alone me h body (find (is_active h.request) x.calls)

reply-alone : (me : ℕ) (x : Option Client) (h : MessageHeader) (body : List ℕ) (row : ClientRow)
    → AllByRecursion (IsAlone me) (reply_facts me x h body row)
reply-alone me x h body (DropsReply why) = ((refl, refl), tt)
reply-alone me x h body TakesReply = ((refl, refl), ending-alone me h body x)

-- the front of the ring is handled
kind-steps : (hand : Option InFlight) (clock : ℕ) (l : Lists) (front : Arrival) (h : MessageHeader)
    (lacks : Bool) (answer : List ℕ) (k : Kind) → h.kind ≡ k → Fronts l front h → RightNode l
    → StepsFrom hand nothing clock l
    (handling_by plain_mode lacks answer k l front.peer h (front_body l.ring)) nothing
kind-steps hand clock l front h lacks answer Request e f i =
    session-steps hand clock l front h (are_full l.jobs) lacks answer _ refl i f (rw e tt)
kind-steps hand clock l front h lacks answer Rfr e f i =
    session-steps hand clock l front h (are_full l.jobs) lacks answer _ refl i f (rw e tt)
kind-steps hand clock l front h lacks answer Cr e f i =
    steps-alone hand clock l _ (reply-alone l.me (find (is_client h.session) l.clients) h (front_body l.ring) _)
kind-steps hand clock l front h lacks answer Response e f i =
    steps-alone hand clock l _ (reply-alone l.me (find (is_client h.session) l.clients) h (front_body l.ring) _)

-- one for another life is dropped
handled-steps : (hand : Option InFlight) (clock : ℕ) (l : Lists) (front : Arrival)
    (h : MessageHeader) (lacks : Bool) (answer : List ℕ) (b : Bool) → (h.to_life == l.life) ≡ b
    → slice_get l.ring 0 ≡ Some front → front_header l.ring ≡ Some h → RightNode l
    → StepsFrom hand nothing clock l
    (cond b (handling_by plain_mode lacks answer h.kind l front.peer h (front_body l.ring))
    (plain l.me (Dropped StaleLife) ∷ [])) nothing
handled-steps hand clock l front h lacks answer true goes is_front reads i =
    kind-steps hand clock l front h lacks answer h.kind refl
    (record { is_front = is_front; reads = reads; for_us = eqb-true h.to_life l.life goes }) i
handled-steps hand clock l front h lacks answer false goes is_front reads i =
    one-alone hand clock l (plain l.me (Dropped StaleLife)) refl refl

handles-orders : Orderly (Handles plain_mode)
handles-orders hand s x t i h =
    let bytes = front-is s.lists.ring h.front h.is_front in
    let reads : front_header s.lists.ring ≡ Some h.header = ap message_of bytes ∙ h.reads in
    let steps = handled-steps hand s.clock s.lists h.front h.header h.lacks h.answer
    (h.header.to_life == s.lists.life) refl h.is_front reads i in
    let same : handled plain_mode h.lacks h.answer s.lists h.front.peer h.header
    (front_body s.lists.ring) ≡ x =
    ap (λ (b : List ℕ). handled plain_mode h.lacks h.answer s.lists h.front.peer h.header
    (body_of b)) bytes ∙ sym h.facts in
    subst (λ (y : List Fact). Orders hand s y) same steps

-- session control: what is sent is alone
speaks-alone : (me peer : ℕ) (c : ControlHeader) (said : List Fact) → Speaks me peer c said
    → AllByRecursion (IsAlone me) said
speaks-alone me peer c said s = rw (s.facts) (by s.taken)
  where
    by : (taken : Bool) → AllByRecursion (IsAlone me) (control_fact taken me peer s.head ∷ [])
    by true = ((refl, refl), tt)
    by false = ((refl, refl), tt)

says-alone : (me peer : ℕ) (o : Option ControlHeader) (said : List Fact) → SpeaksIf me peer o said
    → AllByRecursion (IsAlone me) said
says-alone me peer None said s = rw s tt
says-alone me peer (Some c) said s = speaks-alone me peer c said s

-- the replies of a server session that ends are flushed
record IsLeft (me t : ℕ) (f : Fact) : Type 0 where
  request : ℕ
  number : ℕ
  is : f ≡ plain me (Flushed (Reply t request) number)

numbers-left : (me t r : ℕ) (ks : List ℕ)
    → AllByRecursion (IsLeft me t) (map (λ k. plain me (Flushed (Reply t r) k)) ks)
numbers-left me t r [] = tt
numbers-left me t r (k ∷ ks) = (
  record { request = r; number = k; is = refl },
  numbers-left me t r ks,
)

slot-left : (me : ℕ) (queued : List Queued) (t : ℕ) (o : Option Served)
    → AllByRecursion (IsLeft me t) (flushes me queued t o)
slot-left me queued t None = tt
slot-left me queued t (Some q) = numbers-left me t q.number (numbers_of (Reply t q.number) queued)

slots-left : (me : ℕ) (queued : List Queued) (v : Server) (slots : List ℕ)
    → AllByRecursion (IsLeft me v.way.number)
    (flat_map (λ slot. flushes me queued v.way.number (find (in_slot_of slot) v.slots)) slots)
slots-left me queued v [] = tt
slots-left me queued v (slot ∷ slots) =
    all-append (IsLeft me v.way.number)
    (flushes me queued v.way.number (find (in_slot_of slot) v.slots)) _
    (slot-left me queued v.way.number (find (in_slot_of slot) v.slots))
    (slots-left me queued v slots)

-- what lets a server session of these lists end
abbrev Leaving : Option InFlight → Lists → ℕ → Type 0
Leaving hand l t =
    (m : Lists) → m.me ≡ l.me → m.life ≡ l.life → m.servers ≡ l.servers
    → MayLeave hand m t ⊎ MayOutdate hand m t

left-steps : (hand : Option InFlight) (clock : ℕ) (l m : Lists) (t : ℕ) (x y : List Fact)
    → Leaving hand l t → m.me ≡ l.me → m.life ≡ l.life → m.servers ≡ l.servers
    → AllByRecursion (IsLeft l.me t) x → AllByRecursion (IsAlone l.me) y
    → StepsFrom hand nothing clock m (x ++ y) nothing
left-steps hand clock l m t [] y may me life servers left al =
    steps-alone hand clock m y (subst (λ (n : ℕ). AllByRecursion (IsAlone n) y) (sym me) al)
left-steps hand clock l m t (f ∷ x) y may me life servers left al =
    let one = left.0 in
    let g : Fact = plain l.me (Flushed (Reply t one.request) one.number) in
    let rest = left-steps hand clock l (after clock m g) t x y may me life servers left.1 al in
    let steps : StepsFrom hand nothing clock m (g ∷ (x ++ y)) nothing = (
      nothing,
      ap Node (sym me),
      leaves t one.request one.number (may m me life servers),
      rest,
    ) in
    subst (λ (z : Fact). StepsFrom hand nothing clock m (z ∷ (x ++ y)) nothing) (sym one.is) steps

then-said : (hand : Option InFlight) (clock : ℕ) (l : Lists) (f : Fact) (said : List Fact)
    → f.who ≡ Node l.me → is_alone f.event ≡ true → AllByRecursion (IsAlone l.me) said
    → StepsFrom hand nothing clock l (f ∷ said) nothing
then-said hand clock l f said who is s = steps-alone hand clock l (f ∷ said) ((who, is), s)

hear-alone : (row : ControlRow) (hand : Option InFlight) (clock : ℕ) (l : Lists) (peer : ℕ)
    (h : ControlHeader) (said : List Fact) → RightNode l → InHand hand l.me peer h
    → RowMay row hand l peer h → AllByRecursion (IsAlone l.me) said
    → StepsFrom hand nothing clock l (control_facts l peer h row ++ said) nothing
hear-alone Declines hand clock l peer h said i k m s =
    then-said hand clock l (plain l.me (Declined peer h.client h.credits)) said refl refl s
hear-alone Starves hand clock l peer h said i k m s =
    then-said hand clock l (plain l.me (Starved peer h.client h.credits)) said refl refl s
hear-alone (Accepts t) hand clock l peer h said i k m s =
    then-said hand clock l (plain l.me (Accepted t peer h.client h.credits h.from_life)) said refl refl s
hear-alone EndsRow hand clock l peer h said i k m s =
    let v = m.server in
    let facts : session_end l.me l.queued (Some v) ++ said
    ≡ session_flushes l.me l.queued v ++ (plain l.me (Ended v.way.number) ∷ said) =
    append_assoc (session_flushes l.me l.queued v) (plain l.me (Ended v.way.number) ∷ []) said in
    let whole : control_facts l peer h EndsRow ++ said
    ≡ session_flushes l.me l.queued v ++ (plain l.me (Ended v.way.number) ∷ said) =
    ap (λ (o : Option Server). session_end l.me l.queued o ++ said) m.named ∙ facts in
    rw whole (left-steps hand clock l l v.way.number (session_flushes l.me l.queued v)
    (plain l.me (Ended v.way.number) ∷ said)
    (λ u me life servers. inl (may-leave hand l u peer h i k m me life servers)) refl refl refl
    (slots-left l.me l.queued v (0 ∷ 1 ∷ 2 ∷ 3 ∷ 4 ∷ 5 ∷ 6 ∷ 7 ∷ [])) ((refl, refl), s))
hear-alone (Connects t) hand clock l peer h said i k m s =
    then-said hand clock l (plain l.me (IsConnected h.client t h.from_life)) said refl refl s
hear-alone Fails hand clock l peer h said i k m s =
    then-said hand clock l (plain l.me (FailedNoRoom h.client)) said refl refl s
hear-alone ClosesRow hand clock l peer h said i k m s =
    then-said hand clock l (plain l.me (ClosedHeard h.client)) said refl refl s
hear-alone _ hand clock l peer h said i k m s = steps-alone hand clock l said s

-- facts that leave what is in hand, and then others
steps-held : (hand : Option InFlight) (d u e : Due) (clock : ℕ) (l : Lists) (x y : List Fact)
    → StepsFrom hand d clock l x u → AllByRecursion (λ f. is_heard f.event ≡ false) x
    → StepsFrom hand u clock (after_all clock l x) y e → StepsFrom hand d clock l (x ++ y) e
steps-held hand d u e clock l [] y h quiet k = rw h k
steps-held hand d u e clock l (f ∷ x) y h quiet k =
    let same = hand-kept l.me f.event l.inbox hand quiet.0 in (
      h.0,
      h.1,
      h.2,
      subst (λ (o : Option InFlight). StepsFrom o h.0 clock (after clock l f) (x ++ y) e) (sym same)
          (steps-held hand h.0 u e clock (after clock l f) x y
          (subst (λ (o : Option InFlight). StepsFrom o h.0 clock (after clock l f) x u) same h.3)
          quiet.1 k),
    )

-- a session that a connect request outdates ends
outdated-leaves : (hand : Option InFlight) (l : Lists) (peer : ℕ) (h : ControlHeader) (v : Server)
    → InHand hand l.me peer h → IsOutdated peer h l v → Leaving hand l v.way.number
outdated-leaves hand l peer h v k o m me life servers =
    inr (record {
      hears = record {
        peer = peer;
        bytes = k.bytes;
        header = h;
        in_hand = k.in_hand ∙ ap (λ (to : ℕ). Some
            (record { from = peer; to = to; bytes = k.bytes })) (sym me);
        reads = k.reads;
        of_kind = o.of_kind;
      };
      server = v;
      found = ap (find (is_server v.way.number)) servers ∙ o.found;
      of_peer = o.of_peer;
      older = o.older;
    })

outdated-steps : (hand : Option InFlight) (me peer : ℕ) (h : ControlHeader) (s : Timed)
    (x : List Fact) (t : Timed) → InHand hand me peer h → RightNode s.lists → s.lists.me ≡ me
    → EndsOutdated peer h s x t → StepsFrom hand nothing s.clock s.lists x nothing
outdated-steps hand me peer h s x t k i same e =
    let l = s.lists in
    let v = e.server in
    let o = is-outdated h.kind peer h l v refl i.alone e.is_outdated in
    rw e.facts (left-steps hand s.clock l l v.way.number (session_flushes l.me l.queued v)
    (plain l.me (Ended v.way.number) ∷ [])
    (outdated-leaves hand l peer h v (in-hand hand l.me me peer h same k) o) refl refl refl
    (slots-left l.me l.queued v (0 ∷ 1 ∷ 2 ∷ 3 ∷ 4 ∷ 5 ∷ 6 ∷ 7 ∷ [])) ((refl, refl), tt))

outdated-all : (hand : Option InFlight) (me peer : ℕ) (h : ControlHeader) (s : Timed)
    (x : List Fact) (t : Timed) → InHand hand me peer h → RightNode s.lists → s.lists.me ≡ me
    → Chain (EndsOutdated peer h) s x t → StepsFrom hand nothing s.clock s.lists x nothing
outdated-all hand me peer h s x t k i same none = refl
outdated-all hand me peer h s x t k i same (more {x = front} {t = between} c y u e) =
    let w = outdated-chain hand me peer h s front between k i same c in
    let one = outdated-all hand me peer h s front between k i same c in
    let two = outdated-steps hand me peer h between y u k w.walked.inv w.same e in
    steps-held hand nothing nothing nothing s.clock s.lists front y one w.quiet
    (subst (λ z. StepsFrom hand nothing z (after_all s.clock s.lists front) y nothing)
    w.walked.clock
    (subst (λ z. StepsFrom hand nothing between.clock z y nothing) w.walked.lists two))

answers-steps : (hand : Option InFlight) (peer : ℕ) (h : ControlHeader) (s : Timed)
    (x : List Fact) (t : Timed) → InHand hand s.lists.me peer h → RightNode s.lists
    → AnswersControl peer h s x t → StepsFrom hand nothing s.clock s.lists x nothing
answers-steps hand peer h s x t k i a =
    let l = s.lists in
    let row = control_row a.lacks peer h l in
    rw a.facts (hear-alone row hand s.clock l peer h a.said i k
    (row-may h.kind a.lacks hand l peer h refl i k)
    (says-alone l.me peer (control_reply l.life h row) a.said a.speaks))

hears-orders : Orderly Hears
hears-orders hand s x t i h =
    let l = s.lists in
    let f : Fact = plain l.me Heard in
    let held = front_of l.me l.inbox in
    let peer = h.front.peer in
    let takes = h.steps.first in
    let rest = h.steps.second in
    let b = h.steps.between in
    let right : RightNode b.lists = (taken-right hand s h.steps.front b i takes).inv in
    let same : b.lists.me ≡ l.me =
    ap (λ (u : Timed). u.lists.me) takes.goes ∙ me-after s.clock l h.steps.front in
    let k : InHand held l.me peer h.header = record {
      bytes = h.front.bytes;
      in_hand = front-hand l.me l.inbox h.front h.is_front;
      reads = h.reads;
    } in
    let ends = outdated-chain held l.me peer h.header b rest.front rest.between k right same
    rest.first.steps in
    let one = outdated-all held l.me peer h.header b rest.front rest.between k right same
    rest.first.steps in
    let two = answers-steps held peer h.header rest.between rest.back t
    (in-hand held rest.between.lists.me l.me peer h.header ends.same k) ends.walked.inv
    rest.second in
    let both : StepsFrom held nothing b.clock b.lists (rest.front ++ rest.back) nothing =
    steps-held held nothing nothing nothing b.clock b.lists rest.front rest.back one ends.quiet
    (subst (λ z. StepsFrom held nothing z (after_all b.clock b.lists rest.front) rest.back nothing)
    ends.walked.clock
    (subst (λ z. StepsFrom held nothing rest.between.clock z rest.back nothing) ends.walked.lists
    two)) in
    let whole : StepsFrom held nothing b.clock b.lists h.steps.back nothing =
    subst (λ (y : List Fact). StepsFrom held nothing b.clock b.lists y nothing) (sym rest.joined)
    both in
    let lists : b.lists ≡ after s.clock l f =
    ap (λ (z : Timed). z.lists) takes.goes ∙ ap (after_all s.clock l) takes.facts in
    let clock : b.clock ≡ s.clock = ap (λ (z : Timed). z.clock) takes.goes in
    let now : StepsFrom held nothing s.clock (after s.clock l f) h.steps.back nothing =
    subst (λ z. StepsFrom held nothing z (after s.clock l f) h.steps.back nothing) clock
    (subst (λ z. StepsFrom held nothing b.clock z h.steps.back nothing) lists whole) in
    rw (h.steps.joined, takes.facts) (nothing, refl, alone Heard refl, now)

-- a call is rolled back
rolls-steps : (hand : Option InFlight) (clock : ℕ) (l : Lists) (d : Due) (s r c posted got : ℕ)
    (ks : List ℕ) → MayGoOn d l.me s (Some r) → IsCallFor l s c r
    → StepsFrom hand d clock l (map (λ k. plain l.me (Flushed (Ask s r) k)) ks
    ++ plain l.me (Rolled c posted got) ∷ []) nothing
rolls-steps hand clock l d s r c posted got [] go call = (nothing, refl, rolls d s r c posted got go call, refl)
rolls-steps hand clock l d s r c posted got (k ∷ ks) go call = (
  flushed l.me s (Some r),
  refl,
  flushes_step d s r k (Some r) go (eq-eqb r r refl),
  rolls-steps hand clock (after clock l (plain l.me (Flushed (Ask s r) k))) (flushed l.me s
      (Some r)) s r c posted got ks
      (refl, refl, refl)
      (record {
        place = call.place;
        client = call.client;
        found = call.found;
        number = call.number;
        call = call.call;
        is_there = call.is_there;
        progress = call.progress;
        is_progress = call.is_progress;
        request = call.request;
      }),
)

-- a session breaks
pub record IsFlush (me s : ℕ) (f : Fact) : Type 0 where
  pub who : f.who ≡ Node me
  pub request : ℕ
  pub number : ℕ
  pub event : f.event ≡ Flushed (Ask s request) number

flush-all : (me s r : ℕ) (ks : List ℕ)
    → AllByRecursion (IsFlush me s) (map (λ k. plain me (Flushed (Ask s r) k)) ks)
flush-all me s r [] = tt
flush-all me s r (k ∷ ks) = (record { who = refl; request = r; number = k; event = refl }, flush-all me s r ks)

flushes-all : (me s : ℕ) (queued : List Queued) (p : Option Progress)
    → AllByRecursion (IsFlush me s) (flushes_of me s queued p)
flushes-all me s queued None = tt
flushes-all me s queued (Some p) = flush-all me s p.request (numbers_of (Ask s p.request) queued)

pub calls-all : (me s : ℕ) (queued : List Queued) (calls : List Call)
    → AllByRecursion (IsFlush me s) (flat_map (λ c. flushes_of me s queued c.progress) calls)
calls-all me s queued [] = tt
calls-all me s queued (c ∷ calls) =
    all-append (IsFlush me s) (flushes_of me s queued c.progress) _
    (flushes-all me s queued c.progress) (calls-all me s queued calls)

lost-alone : (me : ℕ) (calls : List Call)
    → AllByRecursion (IsAlone me) (map (λ c. plain me (DonePeerLost c.what.number)) calls)
lost-alone me [] = tt
lost-alone me (c ∷ calls) = ((refl, refl), lost-alone me calls)

breaks-steps : (hand : Option InFlight) (clock : ℕ) (l : Lists) (d : Due) (s : ℕ)
    (x dones : List Fact) → MayGoOn d l.me s None → AllByRecursion (IsFlush l.me s) x
    → AllByRecursion (IsAlone l.me) dones
    → StepsFrom hand d clock l (x ++ plain l.me (Broken s) ∷ dones) nothing
breaks-steps hand clock l d s [] dones go all lost =
    (nothing, refl, breaks d s go, steps-alone hand clock (after clock l (plain l.me (Broken s))) dones lost)
breaks-steps hand clock l d s (f ∷ x) dones go all lost = (
  flushed l.me s None,
  all.0.who,
  subst (λ (e : Event). Step hand l f.first d e (flushed l.me s None)) (sym all.0.event)
      (flushes_step d s all.0.request all.0.number None go refl),
  breaks-steps (hand_noted l.me f.event l.inbox hand) clock (after clock l f)
      (flushed l.me s None) s x dones (refl, refl, refl) all.1 lost,
)

timer-steps : (hand : Option InFlight) (clock : ℕ) (l : Lists) (x : Client) (c : Call)
    (p : Progress) (row : TimerRow) (i : ℕ) → slice_get l.clients i ≡ Some x
    → find (is_call c.what.number) x.calls ≡ Some c → c.progress ≡ Some p
    → StepsFrom hand nothing clock l (row_facts l.me l.queued x c.what.number p row) nothing
timer-steps hand clock l x c p Waits i found call at = refl
timer-steps hand clock l x c p RollsBack i found call at =
    rolls-steps hand clock l nothing x.way.number p.request c.what.number p.posted p.got
    (numbers_of (Ask x.way.number p.request) l.queued) tt
    (record {
      place = i;
      client = x;
      found = found;
      number = refl;
      call = c;
      is_there = call;
      progress = p;
      is_progress = at;
      request = refl;
    })
timer-steps hand clock l x c p Breaks i found call at =
    breaks-steps hand clock l nothing x.way.number
    (flat_map (λ c. flushes_of l.me x.way.number l.queued c.progress) x.calls)
    (map (λ c. plain l.me (DonePeerLost c.what.number)) x.calls) tt
    (calls-all l.me x.way.number l.queued x.calls) (lost-alone l.me x.calls)

watch-progress : (hand : Option InFlight) (clock timeout i : ℕ) (l : Lists) (x : Client) (c : Call)
    (p : Option Progress) → slice_get l.clients i ≡ Some x
    → find (is_call c.what.number) x.calls ≡ Some c → c.progress ≡ p
    → StepsFrom hand nothing clock l
    (progress_facts clock timeout l.me l.queued x c.what.number p) nothing
watch-progress hand clock timeout i l x c None found call at = refl
watch-progress hand clock timeout i l x c (Some p) found call at =
    timer-steps hand clock l x c p (row_of clock timeout x.way.number l.queued p) i found call at

watch-call : (hand : Option InFlight) (clock timeout number i : ℕ) (l : Lists) (x : Client)
    (c : Option Call) → slice_get l.clients i ≡ Some x → find (is_call number) x.calls ≡ c
    → StepsFrom hand nothing clock l (call_facts clock timeout l.me l.queued x c) nothing
watch-call hand clock timeout number i l x None found call = refl
watch-call hand clock timeout number i l x (Some c) found call =
    let same = eqb-true c.what.number number (find-passes (is_call number) x.calls c call) in
    watch-progress hand clock timeout i l x c c.progress found
    (subst (λ (n : ℕ). find (is_call n) x.calls ≡ Some c) (sym same) call) refl

watch-client : (hand : Option InFlight) (clock timeout number i : ℕ) (l : Lists)
    (x : Option Client) → slice_get l.clients i ≡ x
    → StepsFrom hand nothing clock l (client_facts clock timeout l.me l.queued number x) nothing
watch-client hand clock timeout number i l None is = refl
watch-client hand clock timeout number i l (Some x) is =
    watch-call hand clock timeout number i l x (find (is_call number) x.calls) is refl

-- what begins and what is posted is alone
mapped-alone : {A : Type 0} (f : A → Event) (o : Option A) (e : Event)
    → ((a : A) → is_alone (f a) ≡ true) → option_map f o ≡ Some e → is_alone e ≡ true
mapped-alone f None e all h = cc
mapped-alone f (Some a) e all h = let same : f a ≡ e = cc in ap is_alone (sym same) ∙ all a

then-alone : {A : Type 0} (f : A → Option Event) (o : Option A) (e : Event)
    → ((a : A) → f a ≡ Some e → is_alone e ≡ true) → option_and_then f o ≡ Some e
    → is_alone e ≡ true
then-alone f None e all h = cc
then-alone f (Some a) e all h = all a h

cond-alone : (b : Bool) (o : Option Event) (e : Event) → (o ≡ Some e → is_alone e ≡ true)
    → cond b o None ≡ Some e → is_alone e ≡ true
cond-alone true o e all h = all h
cond-alone false o e all h = cc

none-alone : (b : Bool) (o : Option Event) (e : Event) → (o ≡ Some e → is_alone e ≡ true)
    → cond b None o ≡ Some e → is_alone e ≡ true
none-alone true o e all h = cc
none-alone false o e all h = all h

begun-alone : (i : ℕ) (l : Lists) (e : Event) → next_begun i l ≡ Some e → is_alone e ≡ true
begun-alone i l e h =
    then-alone (if_connected beginning) (slice_get l.clients i) e
    (λ x k. cond-alone (is_connected x.state) (beginning x) e
    (λ b. then-alone (λ c. option_map (λ slot. Begun c.what.number (next_turn x.turns slot))
    (lowest_free x.calls)) (find is_waiting x.calls) e
    (λ c m. mapped-alone (λ slot. Begun c.what.number (next_turn x.turns slot))
    (lowest_free x.calls) e (λ slot. refl) m) b) k) h

posted-alone : (i : ℕ) (l : Lists) (e : Event) → next_posted i l ≡ Some e → is_alone e ≡ true
posted-alone i l e h =
    then-alone (if_connected posting) (slice_get l.clients i) e
    (λ x k. cond-alone (is_connected x.state) (posting x) e
    (λ b. none-alone (x.free == 0) (option_and_then
    (λ c. next_packet x.way.number c.progress) (find can_post x.calls)) e
    (λ n. then-alone (λ c. next_packet x.way.number c.progress) (find can_post x.calls) e
    (λ c m. mapped-alone (λ p. Posted (Ask x.way.number p.request) p.posted) c.progress e
    (λ p. refl) m) n) b) k) h

watches-orders : (timeout i number : ℕ) → Orderly (Watches timeout i number)
watches-orders timeout i number hand s x t inv h =
    rw h.facts (watch-client hand s.clock timeout number i s.lists
    (slice_get s.lists.clients i) refl)

gives-alone : (me : ℕ) (state : SessionState) (number : ℕ)
    → AllByRecursion (IsAlone me) (map (plain me) (given_up state number))
gives-alone me Connecting number = ((refl, refl), tt)
gives-alone me IsClosing number = ((refl, refl), tt)
gives-alone me _ number = tt

retry-alone : (row : RetryRow) (me : ℕ) (x : Client) (c : ControlHeader) (facts : List Fact)
    → RetriesBy row me x c facts → AllByRecursion (IsAlone me) facts
retry-alone Rests me x c facts r = rw r tt
retry-alone Asks me x c facts r = speaks-alone me x.way.peer c facts r
retry-alone GivesUp me x c facts r = rw r (gives-alone me x.state x.way.number)

retries-as : (clock timeout me : ℕ) (x : Client) (o : Option ControlHeader) (facts : List Fact)
    → RetriesAs o clock timeout me x facts → AllByRecursion (IsAlone me) facts
retries-as clock timeout me x None facts r = rw r tt
retries-as clock timeout me x (Some c) facts r =
    retry-alone (retry_row clock timeout x.sends x.sent_at) me x c facts r

retries-alone : (clock timeout me own : ℕ) (x : Option Client) (facts : List Fact)
    → RetriesOf clock timeout me own x facts → AllByRecursion (IsAlone me) facts
retries-alone clock timeout me own None facts r = rw r tt
retries-alone clock timeout me own (Some x) facts r =
    retries-as clock timeout me x (own_request own x) facts r

retries-orders : (timeout i : ℕ) → Orderly (Retries timeout i)
retries-orders timeout i hand s x t inv h =
    steps-alone hand s.clock s.lists x
    (retries-alone s.clock timeout s.lists.me s.lists.life (slice_get s.lists.clients i) x h.facts)

session-orders : (timeout i : ℕ) → Orderly (TimesSession timeout i)
session-orders timeout i =
    orderly-then (Retries timeout i) (WatchesSession timeout i)
    (retries-fine RightNode right-stays timeout i) (retries-orders timeout i)
    (λ hand s x t inv h. orderly-each (Watches timeout i)
    (watches-fine RightNode right-stays timeout i) (watches-orders timeout i)
    (numbers_in (slice_get s.lists.clients i)) hand s x t inv h)

times-orders : Orderly TimesAll
times-orders hand s x t inv h =
    orderly-visits (TimesSession s.lists.timeout)
    (times-session RightNode right-stays s.lists.timeout) (session-orders s.lists.timeout)
    (length s.lists.clients) hand s x t inv h

next-orders : (next : Lists → Option Event)
    → ((l : Lists) (e : Event) → next l ≡ Some e → is_alone e ≡ true)
    → Orderly (NotesNext next)
next-orders next all hand s x t inv h =
    rw h.facts (one-alone hand s.clock s.lists (plain s.lists.me h.event) refl
    (all s.lists h.event h.is_next))

serves-orders : (i : ℕ) → Orderly (Serves i)
serves-orders i =
    orderly-then (NotesAll (next_begun i)) (NotesAll (next_posted i))
    (fine-until RightNode (NotesNext (next_begun i)) _
    (begun-fine RightNode right-stays i))
    (orderly-until (NotesNext (next_begun i)) _ (begun-fine RightNode right-stays i)
    (next-orders (next_begun i) (begun-alone i)))
    (orderly-until (NotesNext (next_posted i)) _ (posted-fine RightNode right-stays i)
    (next-orders (next_posted i) (posted-alone i)))

posts-orders : Orderly PostsAll
posts-orders hand s x t inv h =
    orderly-visits Serves (serves-fine RightNode right-stays) serves-orders
    (length s.lists.clients) hand s x t inv h

sends-orders : Orderly Sends
sends-orders hand s x t inv h =
    rw h.facts (one-alone hand s.clock s.lists (with_two s.lists.me
    (Sent h.out.peer h.entry.owner h.entry.number) h.head h.out.body) refl refl)

closes-orders : Orderly Closes
closes-orders hand s x t inv h =
    rw h.facts (one-alone hand s.clock s.lists (plain s.lists.me (Polled s.clock)) refl refl)

-- a poll at the node's clock
pub poll-orders : (worked : List WorkedJob)
    → Orderly (Then (FinishesWorked worked)
    (Then HearsAll (Then (HandlesAll plain_mode)
    (Then TimesAll (Then PostsAll (Then SendsAll Closes))))))
poll-orders worked =
    orderly-then (FinishesWorked worked) _ (finishes-worked-fine worked)
    (finishes-worked worked)
    (orderly-then HearsAll _ hears-all
    (orderly-until Hears _ hears-fine hears-orders)
    (orderly-then (HandlesAll plain_mode) _
    (fine-until RightNode (Handles plain_mode) _ (handles-fine plain_mode))
    (orderly-until (Handles plain_mode) _ (handles-fine plain_mode) handles-orders)
    (orderly-then TimesAll _ (times-all RightNode right-stays) times-orders
    (orderly-then PostsAll _ (posts-all RightNode right-stays) posts-orders
    (orderly-then SendsAll Closes (sends-all RightNode right-stays)
    (orderly-until Sends _ (sends-fine RightNode right-stays) sends-orders)
    closes-orders)))))
