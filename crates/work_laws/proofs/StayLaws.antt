-- What a node's workers hold stays as the world says by facts of others, and by facts that change no job.
use Rattle.std.proofs.Common.{◌≡◌, ℕ, ◌+◌, Bool, true, false, ◌==◌, cond, List, [], ◌∷◌, ◌++◌, map, length, Option}
use Rattle.std.proofs.Common.{Some, None, refl, eq-eqb, sym, ap, ap₂, ◌∙◌, nat_lt, inl, inr}
use Rattle.std.specs.Prelude.{count_by}
use Rattle.std.specs.List.{find, AllByRecursion}
use Rattle.node_laws.specs.NodeRun.{Notes, Refuses}
use Rattle.node_laws.specs.Valid.{jobs_of}
use Rattle.rpc_base.proofs.FirstLemmas.{all-each}
use Rattle.rpc_base.specs.declared.event.Event.{Event}
use Rattle.rpc_base.specs.declared.event.Event.TheVariants.{Arrived, Bad, Closing, Given, NcallTooLarge}
use Rattle.rpc_base.specs.declared.event.Event.TheVariants.{NcloseBusy, NcloseState, NconnectNumbers}
use Rattle.rpc_base.specs.declared.event.Event.TheVariants.{NconnectRing, Nrate, Overflowed}
use Rattle.rpc_base.specs.declared.event.Event.TheVariants.{PairedClient, PairedServer, Ran, Rated}
use Rattle.rpc_base.specs.declared.event.Event.TheVariants.{Restarted, Worked}
use Rattle.rpc_base.specs.declared.fact.Fact.{Fact}
use Rattle.rpc_base.specs.declared.fact.Who.TheVariants.{Net, Node}
use Rattle.rpc_base.specs.declared.limits.Limits.{Limits}
use Rattle.rpc_base.specs.declared.state.SessionState.{SessionState}
use Rattle.rpc_base.specs.declared.state.SessionState.TheVariants.{Connected}
use Rattle.rpc_laws.proofs.RunLemmas.{me-after_all}
use Rattle.rpc_laws.specs.AtMostOnce.{is_at}
use Rattle.rpc_laws.specs.Deliveries.{Delivers, inbox_room}
use Rattle.rpc_laws.specs.Facts.{plain}
use Rattle.rpc_laws.specs.Front.{is_control, is_message}
use Rattle.rpc_laws.specs.Groups.{ask_by_state, Asks, client_refusal, clients_spent, connect_by, Connects}
use Rattle.rpc_laws.specs.Groups.{Disconnects, has_no_room, pending, servers_spent, SetsRate, shares}
use Rattle.rpc_laws.specs.Groups.{state_of}
use Rattle.rpc_laws.specs.Jobs.{jobs_after}
use Rattle.rpc_laws.specs.NodeLists.{after, after_all, limits_of, new_node, restarted}
use Rattle.rpc_laws.specs.Sessions.{is_client, is_live}
use Rattle.rpc_laws.specs.Steps.{Goes}
use Rattle.rpc_laws.specs.Working.{worked_after_all, worked_of}
use Rattle.rpc_laws.specs.declared.tables.Job.{Job}
use Rattle.rpc_laws.specs.declared.tables.Jobs.{Jobs}
use Rattle.rpc_laws.specs.declared.tables.Lists.{Lists}
use Rattle.rpc_laws.specs.declared.tables.Server.{Server}
use Rattle.rpc_laws.specs.declared.tables.Timed.{Timed}
use Rattle.rpc_laws.specs.declared.tables.WorkedJob.{WorkedJob}
use Rattle.world_laws.proofs.WorkLemmas.{AllNode}
use Rattle.work_laws.proofs.HistoryLemmas.{idle-all, not-at, others-all, restart-worked, waiting-names}
use Rattle.work_laws.proofs.NameLemmas.{unworked}
use Rattle.work_laws.specs.Known.{changes_jobs, changes_work, HasJobs, is_of_request, job_name}
use Rattle.work_laws.specs.Known.{KnowsWork, parcel_name, worked_name}
use Rattle.work_laws.specs.Laws.{StartsAnew}
use Rattle.worker_board.specs.declared.Parcel.{Parcel}
use Rattle.worker_crew.specs.Local.{Local}

-- where the node's worked jobs, its jobs and its number stay
pub knows-by : (worked now : List WorkedJob) (s t : Timed) (w : Local)
    → worked_of s.lists.me now ≡ worked_of s.lists.me worked → t.lists.jobs ≡ s.lists.jobs
    → t.lists.me ≡ s.lists.me → KnowsWork worked s w → KnowsWork now t w
knows-by worked now s t w same jobs me k =
    let of : worked_of s.lists.me worked ≡ worked_of t.lists.me now =
    sym (ap (λ (n : ℕ). worked_of n now) me ∙ same) in
    let out : s.lists.jobs.out ≡ t.lists.jobs.out = ap (λ (j : Jobs). j.out) (sym jobs) in
    record {
      waits = k.waits ∙ (waiting-names worked s.lists
          ∙ (ap₂ (λ (d : List WorkedJob) (o : List Job). unworked (map worked_name d) (map job_name o)) of out
          ∙ sym (waiting-names now t.lists)));
      done = k.done ∙ ap (map worked_name) of;
    }

pub has-by : (s t : Timed) (w : Local) → t.lists.jobs ≡ s.lists.jobs → HasJobs s w → HasJobs t w
has-by s t w jobs h n r = h n r ∙ ap (λ (j : Jobs). jobs_of n r j.out) (sym jobs)

-- a new node has no jobs, nor have its workers
pub new-knows : (me life : ℕ) (limits : Limits) (worked : List WorkedJob) (w : Local)
    → worked_of me worked ≡ [] → w.waiting ≡ [] → w.worked ≡ []
    → KnowsWork worked (new_node me life limits) w
new-knows me life limits worked w none waits done = record {
  waits = ap (map parcel_name) waits;
  done = ap (map parcel_name) done ∙ ap (map worked_name) (sym none);
}

pub new-has : (me life : ℕ) (limits : Limits) (w : Local) → w.waiting ≡ [] → w.worked ≡ []
    → HasJobs (new_node me life limits) w
new-has me life limits w waits done n r =
    ap₂ (λ (a b : List Parcel). count_by (is_of_request n r) (a ++ b)) waits done

-- nor has one that is restarted
pub restart-knows : StartsAnew
restart-knows worked s w waits done =
    let life = s.lists.life + 1 in
    new-knows s.lists.me life (limits_of s.lists)
    (worked_after_all worked (plain s.lists.me (Restarted life) ∷ [])) w
    (restart-worked s.lists.me life worked) waits done

pub restart-has : (s : Timed) (w : Local) → w.waiting ≡ [] → w.worked ≡ [] → HasJobs (restarted s) w
restart-has s w waits done = new-has s.lists.me (s.lists.life + 1) (limits_of s.lists) w waits done

-- facts that aren't the node's
pub elsewhere-knows : (x : List Fact) (worked : List WorkedJob) (s : Timed) (w : Local)
    → AllByRecursion (λ (f : Fact). is_at s.lists.me f.who ≡ false) x → KnowsWork worked s w
    → KnowsWork (worked_after_all worked x) s w
elsewhere-knows x worked s w h k =
    knows-by worked (worked_after_all worked x) s s w (others-all s.lists.me x worked h) refl refl k

pub others-knows : (n : ℕ) (x : List Fact) (worked : List WorkedJob) (s : Timed) (w : Local)
    → AllByRecursion (λ (f : Fact). is_at n f.who ≡ true) x → (n ≡ s.lists.me → ⊥)
    → KnowsWork worked s w → KnowsWork (worked_after_all worked x) s w
others-knows n x worked s w h ne k =
    elsewhere-knows x worked s w
    (all-each (λ (f : Fact). is_at n f.who ≡ true) (λ (f : Fact). is_at s.lists.me f.who ≡ false) x
    (λ f e. not-at n s.lists.me f.who e ne) h) k

-- so it is by facts that a step of another node notes
pub node-at : (n : ℕ) (x : List Fact) → AllNode n x → AllByRecursion (λ (f : Fact). is_at n f.who ≡ true) x
node-at n x h =
    all-each (λ (f : Fact). f.who ≡ Node n) (λ (f : Fact). is_at n f.who ≡ true) x
    (λ f e. ap (is_at n) e ∙ eq-eqb n n refl) h

pub net-knows : (x : List Fact) (worked : List WorkedJob) (s : Timed) (w : Local)
    → AllByRecursion (λ (f : Fact). f.who ≡ Net) x → KnowsWork worked s w
    → KnowsWork (worked_after_all worked x) s w
net-knows x worked s w h k =
    elsewhere-knows x worked s w
    (all-each (λ (f : Fact). f.who ≡ Net) (λ (f : Fact). is_at s.lists.me f.who ≡ false) x
    (λ f e. ap (is_at s.lists.me) e) h) k

-- facts that work nothing
pub idle-knows : (x : List Fact) (worked : List WorkedJob) (s t : Timed) (w : Local)
    → AllByRecursion (λ (f : Fact). changes_work f.event ≡ false) x → t.lists.jobs ≡ s.lists.jobs
    → t.lists.me ≡ s.lists.me → KnowsWork worked s w → KnowsWork (worked_after_all worked x) t w
idle-knows x worked s t w h jobs me k =
    knows-by worked (worked_after_all worked x) s t w
    (ap (worked_of s.lists.me) (idle-all x worked h)) jobs me k

-- facts that change no job, and a step that notes only such
abbrev pub AllStill : List Fact → Type 0
AllStill x = AllByRecursion (λ (f : Fact). changes_jobs f.event ≡ false) x

pub record Stays (s : Timed) (x : List Fact) (t : Timed) : Type 0 where
  pub idle : AllByRecursion (λ (f : Fact). changes_work f.event ≡ false) x
  pub jobs : t.lists.jobs ≡ s.lists.jobs
  pub me : t.lists.me ≡ s.lists.me

still-idle : (e : Event) → changes_jobs e ≡ false → changes_work e ≡ false
still-idle (Worked t r) h = h
still-idle (Ran t r y) h = h
still-idle (Restarted life) h = h
still-idle _ h = refl

still-event : (e : Event) (servers : List Server) (jobs : Jobs) → changes_jobs e ≡ false
    → jobs_after e servers jobs ≡ jobs
still-event (Given t r) servers jobs h = cc
still-event (Ran t r y) servers jobs h = cc
still-event _ servers jobs h = refl

still-jobs : (clock : ℕ) (l : Lists) (x : List Fact) → AllStill x → (after_all clock l x).jobs ≡ l.jobs
still-jobs clock l [] h = refl
still-jobs clock l (f ∷ x) h =
    still-jobs clock (after clock l f) x h.1 ∙ still-event f.event l.servers l.jobs h.0

pub goes-stays : (s : Timed) (x : List Fact) (t : Timed) → Goes s x t → AllStill x → Stays s x t
goes-stays s x t g h = record {
  idle = all-each (λ (f : Fact). changes_jobs f.event ≡ false) (λ (f : Fact). changes_work f.event ≡ false) x
      (λ f e. still-idle f.event e) h;
  jobs = ap (λ (u : Timed). u.lists.jobs) g ∙ still-jobs s.clock s.lists x h;
  me = ap (λ (u : Timed). u.lists.me) g ∙ me-after_all s.clock s.lists x;
}

pub stays-knows : (x : List Fact) (worked : List WorkedJob) (s t : Timed) (w : Local) → Stays s x t
    → KnowsWork worked s w → KnowsWork (worked_after_all worked x) t w
stays-knows x worked s t w h k = idle-knows x worked s t w h.idle h.jobs h.me k

pub stays-has : (x : List Fact) (s t : Timed) (w : Local) → Stays s x t → HasJobs s w → HasJobs t w
stays-has x s t w h k = has-by s t w h.jobs k

-- one event is noted
pub notes-stays : (e : Event) (s : Timed) (x : List Fact) (t : Timed) → changes_jobs e ≡ false
    → Notes e s x t → Stays s x t
notes-stays e s x t still h = goes-stays s x t h.goes (rw h.facts (still, tt))

pub pairs-client-stays : (session peer server credits life : ℕ) (s : Timed) (x : List Fact) (t : Timed)
    → Notes (PairedClient session peer server credits life) s x t → Stays s x t
pairs-client-stays session peer server credits life s x t h =
    notes-stays (PairedClient session peer server credits life) s x t refl h

pub pairs-server-stays : (session peer client credits life : ℕ) (s : Timed) (x : List Fact) (t : Timed)
    → Notes (PairedServer session peer client credits life) s x t → Stays s x t
pairs-server-stays session peer client credits life s x t h =
    notes-stays (PairedServer session peer client credits life) s x t refl h

-- a refusal of a session
refusal-still : (a b : Bool) (x y z : ℕ) (e : Event)
    → cond a (Some NconnectNumbers) (cond b (Some (NconnectRing x y z)) None) ≡ Some e
    → changes_jobs e ≡ false
refusal-still true b x y z e h = let same : NconnectNumbers ≡ e = cc in ap changes_jobs (sym same)
refusal-still false true x y z e h = let same : NconnectRing x y z ≡ e = cc in ap changes_jobs (sym same)
refusal-still false false x y z e h = cc

pub refuses-stays : (credits : ℕ) (e : Event) (s : Timed) (x : List Fact) (t : Timed)
    → Refuses credits e s → Notes e s x t → Stays s x t
refuses-stays credits e s x t (inl r) h =
    notes-stays e s x t (refusal-still (clients_spent s.lists) (has_no_room credits s.lists)
    (shares s.lists) credits s.lists.room e r) h
refuses-stays credits e s x t (inr r) h =
    notes-stays e s x t (refusal-still (servers_spent s.lists) (has_no_room credits s.lists)
    (shares s.lists) credits s.lists.room e r) h

-- a datagram is delivered
delivery-still : (a b c d : Bool) (peer : ℕ)
    → changes_jobs (cond a (cond b (Arrived peer) (Overflowed peer))
    (cond c (cond d (Arrived peer) (Overflowed peer)) (Bad peer))) ≡ false
delivery-still true true c d peer = refl
delivery-still true false c d peer = refl
delivery-still false b true true peer = refl
delivery-still false b true false peer = refl
delivery-still false b false d peer = refl

pub delivers-stays : (peer : ℕ) (bytes : List ℕ) (s : Timed) (x : List Fact) (t : Timed)
    → Delivers peer bytes s x t → Stays s x t
delivers-stays peer bytes s x t h =
    goes-stays s x t h.goes (rw h.facts (
      delivery-still (is_message bytes) (nat_lt (length s.lists.ring) s.lists.room)
          (is_control bytes) (nat_lt (length s.lists.inbox) inbox_room) peer,
      tt,
    ))

-- the calls of an application
state-still : (state : SessionState) (session req_type room : ℕ) (ask : List ℕ) (l : Lists)
    → changes_jobs (ask_by_state state session req_type room ask l).event ≡ false
state-still Connected session req_type room ask l = refl
state-still _ session req_type room ask l = refl

ask-still : (b : Bool) (session req_type room : ℕ) (ask : List ℕ) (l : Lists) (state : SessionState)
    → changes_jobs (cond b (plain l.me (NcallTooLarge session (length ask)))
    (ask_by_state state session req_type room ask l)).event ≡ false
ask-still true session req_type room ask l state = refl
ask-still false session req_type room ask l state = state-still state session req_type room ask l

pub asks-stays : (session req_type : ℕ) (ask : List ℕ) (room : ℕ) (s : Timed) (x : List Fact) (t : Timed)
    → Asks session req_type ask room s x t → Stays s x t
asks-stays session req_type ask room s x t h =
    goes-stays s x t h.goes (rw h.facts (
      ask-still _ session req_type room ask s.lists
          (state_of (find (is_client session) s.lists.clients)),
      tt,
    ))

rated-still : (b : Bool) (me session rate : ℕ) → AllStill (cond b [] (plain me (Rated session rate) ∷ []))
rated-still true me session rate = tt
rated-still false me session rate = (refl, tt)

connect-still : (refusal : Option Event) (peer credits rate : ℕ) (l : Lists)
    → client_refusal credits l ≡ refusal → AllStill (connect_by refusal peer credits rate l)
connect-still (Some e) peer credits rate l is = (
  refusal-still (clients_spent l) (has_no_room credits l) (shares l) credits l.room e is,
  tt,
)
connect-still None peer credits rate l is = (refl, rated-still (rate == 0) l.me (length l.clients) rate)

pub connects-stays : (peer credits rate : ℕ) (s : Timed) (x : List Fact) (t : Timed)
    → Connects peer credits rate s x t → Stays s x t
connects-stays peer credits rate s x t h =
    goes-stays s x t h.goes (rw h.facts (connect-still (client_refusal credits s.lists) peer
    credits rate s.lists refl))

close-still : (a b : Bool) (session calls : ℕ) (state : SessionState)
    → changes_jobs (cond a (NcloseState session state)
    (cond b (NcloseBusy session calls) (Closing session))) ≡ false
close-still true b session calls state = refl
close-still false true session calls state = refl
close-still false false session calls state = refl

pub disconnects-stays : (session : ℕ) (s : Timed) (x : List Fact) (t : Timed)
    → Disconnects session s x t → Stays s x t
disconnects-stays session s x t h =
    let client = find (is_client session) s.lists.clients in
    goes-stays s x t h.goes (rw h.facts (
      close-still _ _ session (pending client) (state_of client),
      tt,
    ))

rate-still : (b : Bool) (session rate : ℕ) (state : SessionState)
    → changes_jobs (cond b (Rated session rate) (Nrate session state)) ≡ false
rate-still true session rate state = refl
rate-still false session rate state = refl

pub rates-stays : (session rate : ℕ) (s : Timed) (x : List Fact) (t : Timed)
    → SetsRate session rate s x t → Stays s x t
rates-stays session rate s x t h =
    let state = state_of (find (is_client session) s.lists.clients) in
    goes-stays s x t h.goes (rw h.facts (rate-still (is_live state) session rate state, tt))
