-- An endpoint goes on by each of its calls.
use Rattle.std.proofs.Common.{◌≡◌, ℕ, ◌<◌, inl, inr, Bool, true, false, cond, ltb}
use Rattle.std.proofs.Common.{Option, Some, None, List, [], ◌∷◌, ◌++◌, length, refl, sym, ap, ◌∙◌}
use Rattle.std.proofs.Common.{subst, arith, append-nil}
use Rattle.std.specs.Prelude.{Result, Ok, Err, OnErr}
use Rattle.std.specs.List.{find}
use Rattle.rpc_outside.specs.Recording.{Log}
use Rattle.client_core.specs.declared.outcome.Done.{Done}
use Rattle.node_laws.specs.NodeRun.{Group, IsCredits, LifeRun}
use Rattle.node_laws.specs.NodeRun.{pairs_client, pairs_server, polls, refuses}
use Rattle.node_laws.proofs.RunLaws.{group-lawful, run_valid}
use Rattle.rpc_base.specs.declared.event.Event.{Event}
use Rattle.rpc_base.specs.declared.event.Event.TheVariants.{Arrived, Bad, Begun, Overflowed}
use Rattle.rpc_base.specs.declared.event.Event.TheVariants.{NconnectNumbers, NconnectRing}
use Rattle.rpc_base.specs.declared.event.Event.TheVariants.{Nrate, Polled, Posted, Ran, Rated, Restarted}
use Rattle.rpc_base.specs.declared.event.Event.TheVariants.{Worked}
use Rattle.rpc_base.specs.declared.fact.Fact.{Fact}
use Rattle.rpc_base.specs.declared.limits.Limits.{Limits}
use Rattle.rpc_base.specs.declared.owner.Owner.{Owner}
use Rattle.rpc_base.specs.declared.limits.TheConstants.{SESSION_NUMBERS}
use Rattle.rpc_base.specs.declared.state.SessionState.{SessionState}
use Rattle.rpc_base.specs.declared.state.SessionState.TheVariants.{Connected}
use Rattle.rpc_laws.specs.declared.tables.Lists.{Lists}
use Rattle.rpc_laws.specs.declared.tables.Timed.{Timed}
use Rattle.rpc_laws.specs.AtMostOnce.{works_request}
use Rattle.rpc_laws.specs.ControlSteps.{HearsAll, TimesAll}
use Rattle.rpc_laws.specs.Deliveries.{Delivers, arrival, inbox_room}
use Rattle.rpc_laws.specs.Front.{is_control, is_message}
use Rattle.rpc_laws.specs.Groups.{Asks, SetsRate, ask_by_state, client_refusal, clients_spent}
use Rattle.rpc_laws.specs.Groups.{has_no_room, server_refusal, servers_spent}
use Rattle.rpc_laws.specs.Groups.{shares, state_of}
use Rattle.rpc_laws.specs.NodeLists.{after, after_all}
use Rattle.rpc_laws.specs.PollOrder.{Closes as EndsPoll, FinishesOne, FinishesSome, HandlesAll}
use Rattle.rpc_laws.specs.PollOrder.{Poll, PollBy, PostsAll, raised, SendsSome}
use Rattle.rpc_laws.specs.Sessions.{is_client, is_live}
use Rattle.rpc_laws.specs.Service.{Answers, served_after_all, rules_of}
use Rattle.rpc_laws.specs.Steps.{Chain, Rel, more, none}
use Rattle.rpc_laws.proofs.AnswerLemmas.{answers-append, served-append}
use Rattle.rpc_laws.proofs.PollLemmas.{Within, chain-cons, within-first, within-second}
use Rattle.rpc_laws.proofs.RunLemmas.{me-after_all}
use Rattle.rpc_outside.specs.declared.service.Mode.{Mode}
use Rattle.rpc_outside.specs.declared.service.Service as Service
use Rattle.worker_crew.specs.declared.workers.Workers as Workers
use Rattle.server_core.proofs.FlushLemmas.{grew-none}
use Rattle.session_mgmt.specs.declared.answers.ConnectError.{ConnectError}
use Rattle.session_mgmt.specs.declared.answers.ConnectError.TheVariants.{NoMemory, NumbersSpent}
use Rattle.session_mgmt.specs.declared.answers.ConnectError.TheVariants.{RingFull}
use Rattle.worker_board.specs.declared.Parcel.{Parcel}
use Rattle.node_steps.specs.Pairs.{IfNoMemory, PairsClient, PairsServer}
use Rattle.endpoint_loop.specs.Endpoints.{Leaves}
use Rattle.node_steps.specs.Pairs.{UnlessNoMemory, or_refused}
use Rattle.node_steps.specs.Asks.{IfWanting, UnlessWanting}
use Rattle.node_steps.specs.Changes.{◌⟶◌, Change}
use Rattle.node_steps.specs.declared.refusals.AskError.{AskError}
use Rattle.node_steps.specs.declared.refusals.AskError.TheVariants.{NoMemory as AskWanting}
use Rattle.node_steps.specs.declared.refusals.AskError.TheVariants.{NotConnected}
use Rattle.node_steps.specs.declared.refusals.AskError.TheVariants.{TooLarge}
use Rattle.node_steps.specs.declared.refusals.Refused.{Refused}
use Rattle.node_steps.specs.Jobs.{FinishesThese, staff_of}
use Rattle.node_steps.specs.Notes.{Makes, is_asked}
use Rattle.endpoint_loop.specs.Polls.{FinishesBack, LinkTells, MakesPoll, PollsWith}
use Rattle.endpoint_loop.specs.Polls.{SendsUntil, is_stopped}
use Rattle.endpoint_loop.specs.Endpoints.{asks_of, IsStaffed, Running, told, crew_of}
use Rattle.endpoint_loop.specs.Stands.{GoesOn, StandsFor}
use Rattle.endpoint_loop.specs.declared.endpoint.poll.Turn.{Turn}
use Rattle.node_steps.proofs.PacketCrew.{staffed-still}
use Rattle.endpoint_loop.proofs.PollControl.{hears-still}
use Rattle.endpoint_loop.proofs.PollLaw.{is_ran, still-answers, these-still}
use Rattle.node_steps.proofs.NoteStill.{AllStill, Stills, closes-still, posts-still, sends-still}
use Rattle.node_steps.proofs.NoteStill.{still-by, still-then, times-still}
use Rattle.node_steps.proofs.NoteCounts.{elsewhere-unasked, elsewhere-unworked}
use Rattle.node_steps.proofs.NoteCounts.{handled-elsewhere, is_elsewhere, is_work}
use Rattle.endpoint_loop.specs.Bounds.{bounds}
use Rattle.node_steps.proofs.NoteCounts.{many-append, many-none}

-- a handler ran, or a job was worked, or a life began
abbrev pub is_labour : Event → Bool
is_labour (Ran session request req_type) = true
is_labour (Restarted life) = true
is_labour (Worked session request) = true
is_labour _ = false

labour-ran : (e : Event) → is_labour e ≡ false → is_ran e ≡ false
labour-ran (Ran session request req_type) h = cc
labour-ran (Restarted life) h = cc
labour-ran _ h = refl

labour-work : (e : Event) → is_labour e ≡ false → is_work e ≡ false
labour-work (Worked session request) h = cc
labour-work _ h = refl

pub none-ran : (x : List Fact) → AllStill is_labour x → AllStill is_ran x
none-ran = still-by is_labour is_ran labour-ran

pub none-worked : (x : List Fact) → AllStill is_labour x → AllStill is_work x
none-worked = still-by is_labour is_work labour-work

-- where no job was worked, none of a request was
unworked-event : (t r : ℕ) (e : Event) → is_work e ≡ false → works_request t r e ≡ false
unworked-event t r (Worked session request) h = cc
unworked-event t r _ h = refl

pub unworked : (t r : ℕ) (x : List Fact) → AllStill is_work x → AllStill (works_request t r) x
unworked t r [] all = tt
unworked t r (f ∷ x) all = (unworked-event t r f.event all.0, unworked t r x all.1)

-- nothing that a node notes changes its life
pub life-after_all : (clock : ℕ) (s : Lists) (x : List Fact) → (after_all clock s x).life ≡ s.life
life-after_all clock s [] = refl
life-after_all clock s (f ∷ x) = life-after_all clock (after clock s f) x

module _ {V W : Type 0} (service : Service.Ghosts V) (workers : Workers.Ghosts W) (limits : Limits) (g : List Fact)
    (a b : Running V W) (noted : List Fact) (s : StandsFor service workers limits g a) where
  abbrev before : Timed
  before = told (staff_of workers a.workers).out a.timed

  abbrev later : Timed
  later = told (staff_of workers b.workers).out b.timed

  -- the node keeps its number
  pub me-more : Group service.mode_of before noted later → b.timed.lists.me ≡ a.timed.lists.me
  me-more group =
      let l = group-lawful service.mode_of before noted later (run_valid s.run) group in
      ap (λ (z : Lists). z.me) l.leads.lists ∙ me-after_all l.clock before.lists noted

  -- and its life
  pub life-more : Group service.mode_of before noted later
      → b.timed.lists.life ≡ a.timed.lists.life
  life-more group =
      let l = group-lawful service.mode_of before noted later (run_valid s.run) group in
      ap (λ (z : Lists). z.life) l.leads.lists ∙ life-after_all l.clock before.lists noted

  -- a group that works no job, and answers as the service does
  pub stands-more : Group service.mode_of before noted later → AllStill is_work noted
      → Answers (rules_of service) (served_after_all service.mode_of [] g) noted
      → service.stands b.service (served_after_all service.mode_of (served_after_all service.mode_of [] g) noted)
      → IsStaffed workers.answer (staff_of workers b.workers) b.timed
      → StandsFor service workers limits (g ++ noted) b
  stands-more group still answers serves staffed = record {
    run = subst (λ m. LifeRun (rules_of service) m b.timed.lists.life limits (g ++ noted) later)
        (sym (me-more group))
        (subst (λ l. LifeRun (rules_of service) a.timed.lists.me l limits (g ++ noted) later)
        (sym (life-more group)) (record {
          steps = more s.run.steps noted later group;
          worked_once = λ t r. omega (
            arith,
            many-append (works_request t r) g noted,
            many-none (works_request t r) noted (unworked t r noted still),
            s.run.worked_once t r,
          );
          answers = answers-append (rules_of service) [] g noted s.run.answers answers;
        }));
    serves = subst (service.stands b.service) (sym (served-append service.mode_of [] g noted)) serves;
    staffed = staffed;
  }

module _ {R V W : Type 0} (log : R → Log) (service : Service.Ghosts V) (workers : Workers.Ghosts W) where
  -- nothing happens
  pub goes-nowhere : (a b : Running V W) (f g : R) → b ≡ a → g ≡ f
      → GoesOn log service workers a b f g
  goes-nowhere a b f g same still = rw (same, still) (record {
    noted = [];
    grew = grew-none log f;
    goes_on = λ limits h s. subst (λ z. StandsFor service workers limits z a)
        (sym (append-nil h)) s;
  })

  -- a call of the application or a delivery: no handler runs, and the service and the workers stay
  pub goes-on : (P : Rel) (a b : Running V W) (f g : R) → Makes log P a.timed b.timed f g
      → ((s : Timed) (x : List Fact) (t : Timed) → P s x t → Group service.mode_of s x t)
      → Stills is_labour P → Leaves a b → GoesOn log service workers a b f g
  goes-on P a b f g makes group still leaves = record {
    noted = makes.noted;
    grew = makes.grew;
    goes_on = λ limits h s.
        let out = (staff_of workers a.workers).out in
        let same : (staff_of workers b.workers).out ≡ out = ap (λ w. (staff_of workers w).out) leaves.workers in
        let step : P (told out a.timed) makes.noted (told out b.timed) =
        makes.step (asks_of out) in
        let all = still (told out a.timed) makes.noted (told out b.timed) step in
        let none = still-answers (rules_of service) (served_after_all service.mode_of [] h) makes.noted
        (none-ran makes.noted all) in
        stands-more service workers limits h a b makes.noted s
        (subst (λ o. Group service.mode_of (told out a.timed) makes.noted (told o b.timed)) (sym same)
        (group (told out a.timed) makes.noted (told out b.timed) step))
        (none-worked makes.noted all) none.0 (rw (leaves.service, none.1) s.serves)
        (rw leaves.workers (staffed-still workers.answer (asks_of out) (staff_of workers a.workers) a.timed b.timed
        leaves.jobs s.staffed));
  }

-- what no step of a poll notes, nor the handling of a packet
module _ (q : Event → Bool) (elsewhere : (e : Event) → is_elsewhere e ≡ false → q e ≡ false)
    (begun : (c r : ℕ) → q (Begun c r) ≡ false)
    (posted : (o : Owner) (k : ℕ) → q (Posted o k) ≡ false)
    (polled : (now : ℕ) → q (Polled now) ≡ false)
    (hears : Stills q HearsAll) (times : Stills q TimesAll) where
  pub poll-still : (F S : Rel) (mode : ℕ → Mode) (now : ℕ) → Stills q F → Stills q S
      → Stills q (PollBy F S mode now)
  poll-still F S mode now f sending s x t h =
      still-then q F _ f
      (still-then q HearsAll _ hears
      (still-then q (HandlesAll mode) _
      (λ s x t k. still-by is_elsewhere q elsewhere x (handled-elsewhere mode s x t k.steps))
      (still-then q TimesAll _ times
      (still-then q PostsAll _ (posts-still q begun posted)
      (still-then q S EndsPoll sending (closes-still q polled)))))) (raised now s) x t h

-- a poll works no job, and asks no call
pub poll-unworked : (F S : Rel) (mode : ℕ → Mode) (now : ℕ) → Stills is_work F → Stills is_work S
    → Stills is_work (PollBy F S mode now)
poll-unworked =
    poll-still is_work elsewhere-unworked (λ c r. refl) (λ o k. refl) (λ n. refl)
    (hears-still is_work (λ o k. refl) (λ i. refl) (λ p i c. refl) (λ p i c. refl)
    (λ i p j c l. refl) (λ i j l. refl) (λ i. refl) (λ i. refl) (λ p o k. refl) (λ p. refl) refl)
    (times-still is_work (λ o k. refl) (λ c a b. refl) (λ i. refl) (λ c. refl) (λ p o k. refl)
    (λ p. refl) (λ i. refl) (λ i. refl))

pub poll-unasked : (F S : Rel) (mode : ℕ → Mode) (now : ℕ) → Stills is_asked F → Stills is_asked S
    → Stills is_asked (PollBy F S mode now)
poll-unasked =
    poll-still is_asked elsewhere-unasked (λ c r. refl) (λ o k. refl) (λ n. refl)
    (hears-still is_asked (λ o k. refl) (λ i. refl) (λ p i c. refl) (λ p i c. refl)
    (λ i p j c l. refl) (λ i j l. refl) (λ i. refl) (λ i. refl) (λ p o k. refl) (λ p. refl) refl)
    (times-still is_asked (λ o k. refl) (λ c a b. refl) (λ i. refl) (λ c. refl) (λ p o k. refl)
    (λ p. refl) (λ i. refl) (λ i. refl))

-- a poll of which more is known is a poll
pub poll-as : (F S : Rel) (mode : ℕ → Mode) (now : ℕ) → Within F FinishesSome → Within S SendsSome
    → Within (PollBy F S mode now) (Poll mode now)
poll-as F S mode now f sending s x t h =
    within-first F FinishesSome _ f (raised now s) x t
    (within-second F _ _
    (within-second HearsAll _ _
    (within-second (HandlesAll mode) _ _
    (within-second TimesAll _ _
    (within-second PostsAll _ _ (within-first S SendsSome EndsPoll sending))))) (raised now s) x t h)

pub these-some : (answer : ℕ → List ℕ → List ℕ) (ps : List Parcel)
    → Within (FinishesThese answer ps) FinishesSome
these-some answer [] s x t h =
    subst (λ (u : Timed). Chain FinishesOne s x u) (sym h.1)
    (subst (λ (y : List Fact). Chain FinishesOne s y s) (sym h.0) none)
these-some answer (p ∷ ps) s x t h =
    let one = h.first in
    subst (λ (y : List Fact). Chain FinishesOne s y t) (sym h.joined)
    (chain-cons FinishesOne s h.front h.between (record {
      session = p.session;
      request = p.request;
      finishes = record {
        room = one.room;
        job = one.job;
        is_out = one.is_out;
        answer = answer one.job.req_type one.job.ask;
        facts = one.facts;
        goes = one.goes;
      };
    }) (these-some answer ps h.between h.back t h.second))

pub sends-some : (stopped : Bool) → Within (SendsUntil stopped) SendsSome
sends-some true s x t h = h
sends-some false s x t h = h.steps

module _ {R K V W : Type 0} (log : R → Log)
    (given : K → List Done → Type 0) (service : Service.Ghosts V) (workers : Workers.Ghosts W)
    (turn : Option Turn) (now : ℕ)
    (link then_link : LinkTells) where
  pub group-polled : (a b : Running V W) (x : List Fact)
      → PollsWith (rules_of service) workers.answer (is_stopped turn) now (crew_of workers a.workers) (crew_of workers b.workers) a.timed x b.timed
      → Group service.mode_of (told (crew_of workers a.workers).staff.out a.timed) x
      (told (crew_of workers b.workers).staff.out b.timed)
  group-polled a b x does =
      polls now (poll-as (FinishesBack workers.answer does.parcels (crew_of workers a.workers) (crew_of workers b.workers))
      (SendsUntil (is_stopped turn)) service.mode_of now
      (λ s x t k. these-some workers.answer does.parcels s x t k.finishes)
      (sends-some (is_stopped turn)) _ x _ does.polls)

  -- the node keeps its number
  pub me-polled : (a b : Running V W) (f g : R) (j k : K) {memory : Change ℕ}
      → MakesPoll (bounds log given service workers) turn now (link ⟶ then_link) (a ⟶ b) (f ⟶ g)
      (j ⟶ k) memory
      → (limits : Limits) (past : List Fact)
      → StandsFor service workers limits past a
      → b.timed.lists.me ≡ a.timed.lists.me
  me-polled a b f g j k h limits past s =
      me-more service workers limits past a b h.noted s
      (group-polled a b h.noted (h.does s.staffed).0)

  -- nor does what is known of it
  pub unasked-polled : (a b : Running V W) (x : List Fact)
      → PollsWith (rules_of service) workers.answer (is_stopped turn) now (crew_of workers a.workers) (crew_of workers b.workers) a.timed x b.timed
      → AllStill is_asked x
  unasked-polled a b x does =
      let F = FinishesBack workers.answer does.parcels (crew_of workers a.workers) (crew_of workers b.workers) in
      let S = SendsUntil (is_stopped turn) in
      poll-unasked F S service.mode_of now
      (λ s x t k. these-still is_asked (λ t r y. refl) (λ o k. refl) workers.answer does.parcels s x t
      k.finishes)
      (λ s x t k. sends-still is_asked (λ p o k. refl) s x t
      (sends-some (is_stopped turn) s x t k)) _ x _ does.polls

  unfoldable pub goes-polled : (a b : Running V W) (f g : R) (j k : K) {memory : Change ℕ}
      → MakesPoll (bounds log given service workers) turn now (link ⟶ then_link) (a ⟶ b) (f ⟶ g)
      (j ⟶ k) memory
      → GoesOn log service workers a b f g
  goes-polled a b f g j k h = record {
    noted = h.noted;
    grew = h.grew;
    goes_on = λ limits past s.
        let does = h.does s.staffed in
        let told_of = does.1.answers (served_after_all service.mode_of [] past) s.serves in
        let F = FinishesBack workers.answer does.0.parcels (crew_of workers a.workers) (crew_of workers b.workers) in
        let S = SendsUntil (is_stopped turn) in
        stands-more service workers limits past a b h.noted s
        (group-polled a b h.noted does.0)
        (poll-unworked F S service.mode_of now
        (λ s x t k. these-still is_work (λ t r y. refl) (λ o k. refl) workers.answer does.0.parcels s x t
        k.finishes)
        (λ s x t k. sends-still is_work (λ p o k. refl) s x t
        (sends-some (is_stopped turn) s x t k)) _ h.noted _ does.0.polls)
        told_of.0 told_of.1 does.0.staffed;
  }

-- the groups of the other calls
refused-still : (spent room : Bool) (n credits size : ℕ) (e : Event)
    → cond spent (Some NconnectNumbers) (cond room (Some (NconnectRing n credits size)) None)
    ≡ Some e → is_labour e ≡ false
refused-still true room n credits size e h =
    let same : NconnectNumbers ≡ e = cc in subst (λ d. is_labour d ≡ false) same refl
refused-still false true n credits size e h =
    let same : NconnectRing n credits size ≡ e = cc in subst (λ d. is_labour d ≡ false) same refl
refused-still false false n credits size e h = cc

or-still : (o : Option Event) (made : Event) → ((e : Event) → o ≡ Some e → is_labour e ≡ false)
    → is_labour made ≡ false → is_labour (or_refused o made) ≡ false
or-still None made refused own = own
or-still (Some e) made refused own = refused e refl

pub client-still : (peer server credits life : ℕ)
    → Stills is_labour (PairsClient peer server credits life)
client-still peer server credits life s x t h = rw h.facts (
  or-still (client_refusal credits s.lists) _ (refused-still (clients_spent s.lists)
      (has_no_room credits s.lists) (shares s.lists) credits s.lists.room) refl,
  tt,
)

pub server-still : (peer client credits life : ℕ)
    → Stills is_labour (PairsServer peer client credits life)
server-still peer client credits life s x t h = rw h.facts (
  or-still (server_refusal credits s.lists) _ (refused-still (servers_spent s.lists)
      (has_no_room credits s.lists) (shares s.lists) credits s.lists.room) refl,
  tt,
)

module _ (mode : ℕ → Mode) (peer other credits life : ℕ) (own : IsCredits credits)
    (known : other < SESSION_NUMBERS) (s : Timed) (x : List Fact) (t : Timed) where
  pub client-group : PairsClient peer other credits life s x t → Group mode s x t
  client-group h = by (client_refusal credits s.lists) refl
    where
      by : (o : Option Event) → client_refusal credits s.lists ≡ o → Group mode s x t
      by None e = pairs_client peer other credits life
          (record { credits_fit = own; other_is = known; fits = e })
          (record {
            facts = rw e at h.facts;
            goes = h.goes;
          })
      by (Some refusal) e = refuses credits own refusal (inl e) (record {
        facts = rw e at h.facts;
        goes = h.goes;
      })

  pub server-group : PairsServer peer other credits life s x t → Group mode s x t
  server-group h = by (server_refusal credits s.lists) refl
    where
      by : (o : Option Event) → server_refusal credits s.lists ≡ o → Group mode s x t
      by None e = pairs_server peer other credits life
          (record { credits_fit = own; other_is = known; fits = e })
          (record {
            facts = rw e at h.facts;
            goes = h.goes;
          })
      by (Some refusal) e = refuses credits own refusal (inr e) (record {
        facts = rw e at h.facts;
        goes = h.goes;
      })

asked-by : (state : SessionState) (session req_type room : ℕ) (ask : List ℕ) (s : Lists)
    → is_labour (ask_by_state state session req_type room ask s).event ≡ false
asked-by Connected session req_type room ask s = refl
asked-by _ session req_type room ask s = refl

asked-if : (b : Bool) (f g : Fact) → is_labour f.event ≡ false → is_labour g.event ≡ false
    → is_labour (cond b f g).event ≡ false
asked-if true f g one two = one
asked-if false f g one two = two

pub ask-still : (session req_type : ℕ) (ask : List ℕ) (room : ℕ)
    → Stills is_labour (Asks session req_type ask room)
ask-still session req_type ask room s x t h = rw h.facts (
  asked-if (ltb 1048576 (length ask)) _ _ refl (asked-by (state_of (find (is_client session)
      s.lists.clients)) session req_type room ask s.lists),
  tt,
)

pub rate-still : (session rate : ℕ) → Stills is_labour (SetsRate session rate)
rate-still session rate s x t h = rw h.facts (
  by (is_live (state_of (find (is_client session) s.lists.clients))),
  tt,
)
  where
    by : (b : Bool) → is_labour (cond b (Rated session rate)
        (Nrate session (state_of (find (is_client session) s.lists.clients)))) ≡ false
    by true = refl
    by false = refl

pub delivery-still : (peer : ℕ) (bytes : List ℕ) → Stills is_labour (Delivers peer bytes)
delivery-still peer bytes s x t h = rw h.facts (by (is_message bytes) (is_control bytes), tt)
  where
    arrived : (n room : ℕ) → is_labour (arrival n room peer) ≡ false
    arrived n room = one (ltb n room)
      where
        one : (b : Bool) → is_labour (cond b (Arrived peer) (Overflowed peer)) ≡ false
        one true = refl
        one false = refl

    by : (b c : Bool) → is_labour (cond b (arrival (length s.lists.ring) s.lists.room peer)
        (cond c (arrival (length s.lists.inbox) inbox_room peer) (Bad peer))) ≡ false
    by true c = arrived (length s.lists.ring) s.lists.room
    by false true = arrived (length s.lists.inbox) inbox_room
    by false false = refl

-- an answer tells of what was done, or that memory was wanting, and then nothing changed
module _ (Claim Still Same Goal : Type 0) (done : Claim → Goal) (still : Still → Same → Goal) where
  pub asked-or : (r : Result ℕ Refused) → UnlessWanting r Claim → IfWanting r Still → OnErr r Same
      → Goal
  asked-or (Ok call) claim nothing same = done claim
  asked-or (Err r) claim nothing same = by r.why refl
    where
      by : (why : AskError) → r.why ≡ why → Goal
      by AskWanting e = still (nothing e) same
      by (TooLarge len) e = done (claim (λ w. let no : TooLarge len ≡ AskWanting = sym e ∙ w in cc))
      by (NotConnected state) e =
          done (claim (λ w. let no : NotConnected state ≡ AskWanting = sym e ∙ w in cc))

  pub paired-or : (r : Result ℕ ConnectError) → UnlessNoMemory r Claim → IfNoMemory r Still
      → OnErr r Same → Goal
  paired-or (Ok session) claim nothing same = done claim
  paired-or (Err NoMemory) claim nothing same = still (nothing refl) same
  paired-or (Err NumbersSpent) claim nothing same =
      done (claim (λ w. let no : NumbersSpent ≡ NoMemory = w in cc))
  paired-or (Err (RingFull n credits room)) claim nothing same =
      done (claim (λ w. let no : RingFull n credits room ≡ NoMemory = w in cc))
