-- Working jobs and finishing them notes only what is allowed.
use Rattle.std.proofs.Common.{option_and_then}
use Rattle.rpc_laws.specs.declared.tables.Server.{Server}
use Rattle.rpc_laws.specs.Groups.{disconnect_fact}
use Rattle.rpc_base.specs.declared.event.Event.TheVariants.{Opened}
use Rattle.end_laws.proofs.Allowed.{Walks}
use Rattle.std.proofs.Common.{inl}
use Rattle.std.proofs.Common.{◌≡◌, ◌==◌, not, sym, ◌-◌, inr, ℕ, Bool}
use Rattle.std.proofs.Common.{true, false, cond, List, [], ◌∷◌, length, Option, Some, None}
use Rattle.std.proofs.Common.{slice_get, refl, ap, ◌∙◌, subst, arith}
use Rattle.std.specs.Prelude.{map}
use Rattle.std.specs.List.{find, AllByRecursion}
use Rattle.std.proofs.lemmas.Bool.{eqb-true}
use Rattle.packet_header.specs.Parts.{packet_count}
use Rattle.packet_header.proofs.PartsLemmas.{packet_count_above}
use Rattle.rpc_base.specs.Tables.{at_first}
use Rattle.rpc_base.proofs.TakingLemmas.{find-passes}
use Rattle.rpc_base.specs.declared.event.Event.TheVariants.{Closing, NcloseState, NcloseBusy, Rated}
use Rattle.rpc_base.specs.declared.event.Event.TheVariants.{Nrate, NconnectRing, NconnectNumbers}
use Rattle.rpc_base.specs.declared.event.Event.TheVariants.{Worked, Ran}
use Rattle.rpc_base.specs.declared.state.SessionState.{SessionState}
use Rattle.rpc_laws.specs.Groups.{Connects, Disconnects, SetsRate, state_of, pending, shares}
use Rattle.rpc_laws.specs.Groups.{clients_spent, has_no_room, client_refusal, connect_by}
use Rattle.rpc_laws.specs.Sessions.{is_client, is_connected, is_live}
use Rattle.rpc_base.specs.declared.event.Event.{Event}
use Rattle.rpc_base.specs.declared.fact.Fact.{Fact}
use Rattle.rpc_laws.specs.declared.tables.InFlight.{InFlight}
use Rattle.rpc_laws.specs.declared.tables.Job.{Job}
use Rattle.rpc_laws.specs.declared.tables.Lists.{Lists}
use Rattle.rpc_laws.specs.declared.tables.Served.{Served}
use Rattle.rpc_laws.specs.declared.tables.Timed.{Timed}
use Rattle.rpc_laws.specs.declared.tables.WorkedJob.{WorkedJob}
use Rattle.rpc_laws.specs.Facts.{plain, with_two}
use Rattle.rpc_laws.specs.Jobs.{is_job}
use Rattle.rpc_laws.specs.NodeLists.{after, after_all}
use Rattle.rpc_laws.specs.PollOrder.{answer_posted, awaited, awaited_of, Finishes}
use Rattle.rpc_laws.specs.Requests.{is_server, is_request, answered}
use Rattle.rpc_laws.specs.Steps.{Goes}
use Rattle.rpc_laws.specs.Working.{Works, WorksAll, FinishesEach, FinishesWorked, waiting_of, work_of}
use Rattle.end_laws.proofs.Allowed.{WalksFrom, IsAllowed}
use Rattle.end_laws.proofs.AskSteps.{slots-found, owed-self}
use Rattle.end_laws.proofs.CallSteps.{IsFree, AllFree, free-walks}
use Rattle.end_laws.proofs.ListLemmas.{all-map, all-found, find-first}
use Rattle.end_laws.proofs.QueueLemmas.{RightNode}
use Rattle.end_laws.proofs.Rights.{JobRight, stands-right, out-job, job-number}
use Rattle.end_laws.proofs.SendsLaw.{right-stays}
use Rattle.end_laws.proofs.SlotLemmas.{with_slots, Apart, slot-of-request, apart-answered}
use Rattle.end_laws.proofs.Walks.{Walked, Fine, walked-goes, walked-none, fine-then}

-- the number of the reply is that of the last packet of the job's bytes
pub number-is : (q : Served) (size k : ℕ) → q.working ≡ true → size ≡ q.size → awaited_of (Some q) ≡ Some k
    → packet_count size - 1 ≡ k
number-is q size k working sized e =
    let there : Some (packet_count q.size - 1) ≡ Some k = rw working at e in
    let same : packet_count q.size - 1 ≡ k = cc in
    ap (λ (n : ℕ). packet_count n - 1) sized ∙ same

-- the packet that answers the last one of the request is posted
none-some : {A : Type 0} (k : ℕ) → awaited_of None ≡ Some k → A
none-some k e = cc

posts-walk : (o : Option ℕ) (hand : Option InFlight) (clock : ℕ) (l : Lists) (job : Job)
    (answer : List ℕ) → awaited job l.servers ≡ o → RightNode l
    → JobRight l.servers l.server_numbers job
    → let f : Fact = with_two l.me (Ran job.session job.request job.req_type) job.ask answer in
    let u : Lists = after clock l f in WalksFrom hand (Some f) clock u (answer_posted l.me job o)
posts-walk None hand clock l job answer e i h = tt
posts-walk (Some k) hand clock l job answer e i (inl o) =
    let gone = o.gone in
    none-some k (ap (λ (v : Option Server). awaited_of
    (option_and_then (λ v. find (is_request job.request) v.slots) v)) (sym gone) ∙ e)
posts-walk (Some k) hand clock l job answer e i (inr h) =
    let t = job.session in
    let r = job.request in
    let v = h.stands.server in
    let q = h.request in
    let right = stands-right l.servers t r q i.slots h.stands in
    let number : q.number ≡ r = eqb-true q.number r (find-passes (is_request r) v.slots q h.stands.is_there) in
    let change = at_first (is_request r) (answered answer) in
    let there : find (is_request r) (change v.slots) ≡ Some (answered answer q) =
    find-first (is_request r) (answered answer) v.slots q h.stands.is_there
    (find-passes (is_request r) v.slots q h.stands.is_there) in
    let apart : Apart v.slots = all-found (λ v. Apart v.slots) (is_server t) l.servers v i.sound h.stands.found in
    let own : awaited_of (Some q) ≡ Some k = rw (h.stands.found, h.stands.is_there) at e in
    let last : packet_count (length job.ask) - 1 ≡ k = number-is q (length job.ask) k h.working h.sized own in
    let count : packet_count (length job.ask) ≡ packet_count q.size = ap packet_count h.sized in
    let above = packet_count_above q.size in
    let whole = (right.working h.working).0 in (
      record {
        who = refl;
        may = record {
          server = with_slots change v;
          found = slots-found change t l.servers v h.stands.found;
          request = answered answer q;
          in_slot = slot-of-request r (change v.slots) (answered answer q)
              (apart-answered r answer v.slots apart) there;
          number = number;
          was_taken = omega (arith, last, count, above, whole);
        };
      },
      rw last (owed-self l.me t r k),
      tt,
    )

pub finishes-fine : (session request : ℕ) → Fine RightNode (Finishes session request)
finishes-fine session request hand s x t i h =
    let l = s.lists in
    let job = h.job in
    let fits = out-job l session request job i.jobs h.is_out in
    let of = job-number session request l.jobs.out job h.is_out in
    let here : find (is_job job.session request) l.jobs.out ≡ Some job =
    subst (λ (a : ℕ). find (is_job a request) l.jobs.out ≡ Some job)
    (sym of.0) h.is_out in
    let is_out : find (is_job job.session job.request) l.jobs.out ≡ Some job =
    subst (λ (b : ℕ). find (is_job job.session b) l.jobs.out ≡ Some job)
    (sym of.1) here in
    let run : IsAllowed hand l (with_two l.me (Ran job.session job.request job.req_type) job.ask
    h.answer) = record {
      who = refl;
      may = inr (record { job = job; is_out = is_out; of_type = refl; own = refl });
    } in
    walked-goes RightNode right-stays hand s x t i
    (rw h.facts (
      run,
      inr (record { job = job; is_out = is_out; own = refl }),
      posts-walk (awaited job l.servers) hand s.clock l job h.answer refl i fits,
    )) h.goes

finishes-each : (worked : List WorkedJob) → Fine RightNode (FinishesEach worked)
finishes-each [] hand s x t i h = walked-none RightNode hand s x t i h.0 h.1
finishes-each (w ∷ ws) hand s x t i h =
    fine-then RightNode (Finishes w.session w.request) (FinishesEach ws)
    (finishes-fine w.session w.request) (finishes-each ws) hand s x t i h

pub finishes-worked : (worked : List WorkedJob) → Fine RightNode (FinishesWorked worked)
finishes-worked worked hand s x t i h = finishes-each h.done hand s x t i h.finishes

-- a fact of work is allowed anywhere, and its lists don't read the clock
pub record IsWork (me : ℕ) (f : Fact) : Type 0 where
  pub free : IsFree me f
  pub still : (c d : ℕ) (l : Lists) → after c l f ≡ after d l f

abbrev pub AllWork : ℕ → List Fact → Type 0
AllWork me x = AllByRecursion (IsWork me) x

worked-work : (me t r : ℕ) → IsWork me (plain me (Worked t r))
worked-work me t r =
    record {
      free = record { who = refl; may = λ hand l. tt; linked = λ latest l. tt };
      still = λ c d l. refl;
    }

pub work-one : (me i : ℕ) (job : Option Job) → IsWork me (plain me (work_of i job))
work-one me i None =
    record {
      free = record { who = refl; may = λ hand l. tt; linked = λ latest l. tt };
      still = λ c d l. refl;
    }
work-one me i (Some job) = worked-work me job.session job.request

pub all-free : (me : ℕ) (x : List Fact) → AllWork me x → AllFree me x
all-free me x h = all-map (IsWork me) (IsFree me) x (λ f w. w.free) h

pub work-clock : (me c d : ℕ) (l : Lists) (x : List Fact) → AllWork me x → after_all c l x ≡ after_all d l x
work-clock me c d l [] h = refl
work-clock me c d l (f ∷ x) h =
    work-clock me c d (after c l f) x h.1 ∙ ap (λ (u : Lists). after_all d u x) (h.0.still c d l)

-- steps whose facts are all of work
pub record WorksSo (hand : Option InFlight) (s : Timed) (x : List Fact) (t : Timed) : Type 0 where
  pub all : AllWork s.lists.me x
  pub walked : Walked RightNode hand s x t

work-goes : (hand : Option InFlight) (s : Timed) (x : List Fact) (t : Timed) → RightNode s.lists
    → AllWork s.lists.me x → Goes s x t → WorksSo hand s x t
work-goes hand s x t i h g =
    record {
      all = h;
      walked = walked-goes RightNode right-stays hand s x t i
          (free-walks hand None s.clock s.lists x (all-free s.lists.me x h)) g;
    }

pub work-any : (hand : Option InFlight) (worked : List WorkedJob) (i : ℕ) (s : Timed)
    (x : List Fact) (t : Timed) → RightNode s.lists → Works worked i s x t → WorksSo hand s x t
work-any hand worked i s x t inv h =
    work-goes hand s x t inv (rw h.facts (
      work-one s.lists.me i
          (slice_get (waiting_of worked s.lists) i),
      tt,
    )) h.goes

all-worked : (me : ℕ) (jobs : List Job) → AllWork me (map (λ job. plain me (Worked job.session job.request)) jobs)
all-worked me [] = tt
all-worked me (job ∷ jobs) = (worked-work me job.session job.request, all-worked me jobs)

pub work-all : (hand : Option InFlight) (worked : List WorkedJob) (s : Timed) (x : List Fact)
    (t : Timed) → RightNode s.lists → WorksAll worked s x t → WorksSo hand s x t
work-all hand worked s x t i h =
    work-goes hand s x t i (rw h.facts (all-worked s.lists.me (waiting_of worked s.lists))) h.goes

-- a refused connect, a refused disconnect and a rate are such facts too
refused-work : (a b : Bool) (me credits shares room : ℕ) (e : Event)
    → cond a (Some NconnectNumbers) (cond b (Some (NconnectRing shares credits room)) None) ≡ Some e
    → IsWork me (plain me e)
refused-work true b me credits shares room e h =
    let same : e ≡ NconnectNumbers =
    cc in rw same (record {
      free = record {
        who = refl;
        may = λ hand l. tt;
        linked = λ latest l. tt;
      };
      still = λ c d l. refl;
    })
refused-work false true me credits shares room e h =
    let same : e ≡ NconnectRing shares credits room =
    cc in rw same (record {
      free = record {
        who = refl;
        may = λ hand l. tt;
        linked = λ latest l. tt;
      };
      still = λ c d l. refl;
    })
refused-work false false me credits shares room e h = cc

connect-walk : (refusal : Option Event) (hand : Option InFlight) (clock peer credits : ℕ)
    (l : Lists) → client_refusal credits l ≡ refusal
    → Walks hand clock l (connect_by refusal peer credits 0 l)
connect-walk None hand clock peer credits l is =
    (record { who = refl; may = (refl, refl, refl) }, tt, tt)
connect-walk (Some e) hand clock peer credits l is =
    let one = refused-work (clients_spent l) (has_no_room credits l) l.me credits
    (shares l) l.room e is in
    free-walks hand None clock l (plain l.me e ∷ []) (one.free, tt)

pub connects-fine : (peer credits : ℕ) → Fine RightNode (Connects peer credits 0)
connects-fine peer credits hand s x t i h =
    walked-goes RightNode right-stays hand s x t i (rw h.facts (connect-walk
    (client_refusal credits s.lists) hand s.clock peer credits s.lists refl)) h.goes

-- a step of one fact, which doesn't read the clock
pub record OneFact (u : Timed) (x : List Fact) : Type 0 where
  pub fact : Fact
  pub is : x ≡ fact ∷ []
  pub still : (c d : ℕ) → after c u.lists fact ≡ after d u.lists fact

connect-one : (refusal : Option Event) (peer credits : ℕ) (u : Timed)
    → client_refusal credits u.lists ≡ refusal
    → OneFact u (connect_by refusal peer credits 0 u.lists)
connect-one None peer credits u is =
    record {
      fact = plain u.lists.me (Opened (length u.lists.clients) peer credits);
      is = refl;
      still = λ c d. refl;
    }
connect-one (Some e) peer credits u is =
    let l = u.lists in
    let one = refused-work (clients_spent l) (has_no_room credits l) l.me credits
    (shares l) l.room e is in
    record { fact = plain l.me e; is = refl; still = λ c d. one.still c d l }

pub connects-one : (peer credits : ℕ) (u : Timed) (x : List Fact) (v : Timed)
    → Connects peer credits 0 u x v → OneFact u x
connects-one peer credits u x v h =
    rw h.facts (connect-one (client_refusal credits u.lists) peer credits u refl)

disconnect-one : (a b : Bool) (session calls : ℕ) (state : SessionState) (u : Timed)
    → OneFact u (plain u.lists.me (cond (not a) (NcloseState session state)
    (cond (not b) (NcloseBusy session calls) (Closing session))) ∷ [])
disconnect-one false b session calls state u =
    record { fact = plain u.lists.me (NcloseState session state); is = refl; still = λ c d. refl }
disconnect-one true false session calls state u =
    record { fact = plain u.lists.me (NcloseBusy session calls); is = refl; still = λ c d. refl }
disconnect-one true true session calls state u =
    record { fact = plain u.lists.me (Closing session); is = refl; still = λ c d. refl }

pub disconnects-one : (session : ℕ) (u : Timed) (x : List Fact) (v : Timed)
    → Disconnects session u x v
    → OneFact u x
disconnects-one session u x v h =
    let client = find (is_client session) u.lists.clients in
    rw h.facts (disconnect-one (is_connected (state_of client)) (pending client == 0) session
    (pending client) (state_of client) u)

disconnect-work : (a b : Bool) (me session calls : ℕ) (state : SessionState)
    → IsFree me (plain me (cond (not a) (NcloseState session state)
    (cond (not b) (NcloseBusy session calls) (Closing session))))
disconnect-work false b me session calls state =
    record { who = refl; may = λ hand l. tt; linked = λ latest l. tt }
disconnect-work true false me session calls state =
    record { who = refl; may = λ hand l. tt; linked = λ latest l. tt }
disconnect-work true true me session calls state =
    record { who = refl; may = λ hand l. tt; linked = λ latest l. tt }

pub disconnects-fine : (session : ℕ) → Fine RightNode (Disconnects session)
disconnects-fine session hand s x t i h =
    let client = find (is_client session) s.lists.clients in
    walked-goes RightNode right-stays hand s x t i (rw h.facts (free-walks hand None s.clock s.lists
    (disconnect_fact session s.lists ∷ []) (
      disconnect-work (is_connected (state_of client)) (pending client == 0) s.lists.me session
          (pending client) (state_of client),
      tt,
    ))) h.goes

rate-work : (b : Bool) (me session rate : ℕ) (state : SessionState)
    → IsWork me (plain me (cond b (Rated session rate) (Nrate session state)))
rate-work true me session rate state =
    record {
      free = record { who = refl; may = λ hand l. tt; linked = λ latest l. tt };
      still = λ c d l. refl;
    }
rate-work false me session rate state =
    record {
      free = record { who = refl; may = λ hand l. tt; linked = λ latest l. tt };
      still = λ c d l. refl;
    }

pub rates-so : (hand : Option InFlight) (session rate : ℕ) (s : Timed) (x : List Fact) (t : Timed)
    → RightNode s.lists → SetsRate session rate s x t → WorksSo hand s x t
rates-so hand session rate s x t i h =
    let state = state_of (find (is_client session) s.lists.clients) in
    work-goes hand s x t i (rw h.facts (rate-work (is_live state) s.lists.me session rate state, tt)) h.goes
