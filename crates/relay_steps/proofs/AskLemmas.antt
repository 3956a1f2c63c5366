-- The fact of a call that is asked, or refused, and that an endpoint goes on by it.
use Rattle.std.proofs.Common.{◌≡◌, ◌≢◌, inl, inr, ℕ, Bool, true, false, cond, ltb, Option, Some}
use Rattle.std.proofs.Common.{None, List, []}
use Rattle.std.proofs.Common.{◌∷◌, ◌++◌, length, refl, sym, ap, ap₂, subst, ◌⊎◌, ◌∙◌, ◌-◌}
use Rattle.std.specs.List.{find}
use Rattle.deferred_calls.specs.Desks.{Jobs}
use Rattle.deferred_calls.specs.declared.job.Numbered.{Numbered}
use Rattle.desk_laws.specs.Staying.{desk_members}
use Rattle.endpoint_loop.proofs.PollLaw.{still-answers}
use Rattle.endpoint_loop.proofs.StandingLaw.{ask-still, is_labour, life-after_all, none-ran}
use Rattle.endpoint_loop.proofs.StandingLaw.{none-worked, stands-more}
use Rattle.endpoint_loop.specs.Endpoints.{asks_of, Leaves, Running, told}
use Rattle.endpoint_loop.specs.Stands.{StandsFor}
use Rattle.node_steps.proofs.NoteEnds.{me-goes}
use Rattle.node_steps.proofs.NoteStill.{Stills}
use Rattle.node_steps.proofs.PacketCrew.{staffed-still}
use Rattle.node_steps.specs.Asks.{refusal_in, refusal_of}
use Rattle.node_steps.specs.Jobs.{staff_of}
use Rattle.node_steps.specs.Notes.{Makes, sent_of}
use Rattle.node_steps.specs.declared.refusals.AskError.{AskError}
use Rattle.node_steps.specs.declared.refusals.AskError.TheVariants.{NoMemory as Wanting}
use Rattle.node_steps.specs.declared.refusals.AskError.TheVariants.{TooLarge}
use Rattle.message_buffer.specs.Buffer.{Buffer, bytes_of, capacity_of}
use Rattle.node_laws.specs.NodeRun.{asks, Group}
use Rattle.relay_steps.specs.Asking.{AsksOne, RefusesOne}
use Rattle.relay_steps.specs.Passing.{nested_fact, StandsAfter}
use Rattle.relay_steps.specs.declared.passing.TheConstants.{BACKGROUND, OTHER_SERVER}
use Rattle.rpc_base.specs.declared.event.Event.TheVariants.{Asked, NcallState, NcallTooLarge}
use Rattle.rpc_base.specs.declared.fact.Fact.{Fact}
use Rattle.rpc_base.specs.declared.limits.Limits.{Limits}
use Rattle.rpc_base.specs.declared.state.SessionState.{SessionState}
use Rattle.rpc_base.specs.declared.state.SessionState.TheVariants.{Connected}
use Rattle.rpc_laws.specs.Facts.{plain, with_bytes}
use Rattle.rpc_laws.specs.Groups.{ask_by_state, ask_fact, Asks, state_of}
use Rattle.rpc_laws.specs.Service.{rules_of, served_after_all}
use Rattle.rpc_laws.specs.Sessions.{is_client}
use Rattle.rpc_laws.specs.Steps.{Goes, Rel}
use Rattle.rpc_laws.specs.declared.tables.Lists.{Lists}
use Rattle.rpc_laws.specs.declared.tables.Timed.{Timed}
use Rattle.rpc_outside.specs.Recording.{Grew, Log}
use Rattle.rpc_outside.specs.declared.service.Service as Service
use Rattle.session_store.specs.Handing.{HandsInAt}
use Rattle.worker_crew.specs.Jobs.{Job as CrewJob}

-- the fact of a call that nothing refuses
module _ (session req_type room : ℕ) (ask : List ℕ) (s : Lists) where
  abbrev own_state : SessionState
  own_state = state_of (find (is_client session) s.clients)

  asked-in : (state : SessionState) → refusal_in state ≡ None
      → ask_by_state state session req_type room ask s
      ≡ with_bytes s.me (Asked s.asked session req_type room) ask
  asked-in Connected e = refl
  asked-in _ e = cc

  asked-by : (b : Bool)
      → cond b (Some (TooLarge (length ask))) (refusal_in own_state) ≡ None
      → cond b (plain s.me (NcallTooLarge session (length ask)))
      (ask_by_state own_state session req_type room ask s)
      ≡ with_bytes s.me (Asked s.asked session req_type room) ask
  asked-by true e = cc
  asked-by false e = asked-in own_state e

  pub fact-asked : refusal_of (length ask) own_state ≡ None
      → ask_fact session req_type room ask s
      ≡ with_bytes s.me (Asked s.asked session req_type room) ask
  fact-asked e = asked-by (ltb 1048576 (length ask)) e

  -- and of one that is refused
  abbrev IsRefused : Fact → Type 0
  IsRefused f =
      ((state : SessionState) × (f ≡ plain s.me (NcallState session state)))
      ⊎ ((len : ℕ) × (f ≡ plain s.me (NcallTooLarge session len)))

  refused-in : (state : SessionState) (why : AskError) → refusal_in state ≡ Some why
      → IsRefused (ask_by_state state session req_type room ask s)
  refused-in Connected why e = cc
  refused-in state why e = inl (state, refl)

  refused-by : (b : Bool) (why : AskError)
      → cond b (Some (TooLarge (length ask))) (refusal_in own_state) ≡ Some why
      → IsRefused (cond b (plain s.me (NcallTooLarge session (length ask)))
      (ask_by_state own_state session req_type room ask s))
  refused-by true why e = inr (length ask, refl)
  refused-by false why e = refused-in own_state why e

  pub fact-refused : (why : AskError) → refusal_of (length ask) own_state ≡ Some why
      → IsRefused (ask_fact session req_type room ask s)
  fact-refused why e = refused-by (ltb 1048576 (length ask)) why e

-- an endpoint goes on by what a call of its application notes, where no handler runs
module _ {R V : Type 0} (log : R → Log) (service : Service.Ghosts V)
    (answer : ℕ → List ℕ → List ℕ) (P : Rel) (a b : Running V Jobs) (f g : R)
    (makes : Makes log P a.timed b.timed f g)
    (group : (s : Timed) (x : List Fact) (t : Timed) → P s x t → Group service.mode_of s x t)
    (goes : (s : Timed) (x : List Fact) (t : Timed) → P s x t → Goes s x t)
    (still : Stills is_labour P) (leaves : Leaves a b) where
  abbrev out : List CrewJob
  out = (desk_members answer).out a.workers

  step : P (told out a.timed) makes.noted (told out b.timed)
  step = makes.step (asks_of out)

  run-more : (limits : Limits) → (past : List Fact)
      → StandsFor service (desk_members answer) limits past a
      → StandsFor service (desk_members answer) limits (past ++ makes.noted) b
  run-more limits past s =
      let workers = desk_members answer in
      let same : (staff_of workers b.workers).out ≡ out =
      ap (λ (w : Jobs). (staff_of workers w).out) leaves.workers in
      let all = still (told out a.timed) makes.noted (told out b.timed) step in
      let none = still-answers (rules_of service) (served_after_all service.mode_of [] past)
      makes.noted (none-ran makes.noted all) in
      stands-more service workers limits past a b makes.noted s
      (subst (λ o. Group service.mode_of (told out a.timed) makes.noted (told o b.timed)) (sym same)
      (group (told out a.timed) makes.noted (told out b.timed) step))
      (none-worked makes.noted all) none.0 (rw (leaves.service, none.1) s.serves)
      (rw leaves.workers (staffed-still workers.answer (asks_of out) (staff_of workers a.workers)
      a.timed b.timed leaves.jobs s.staffed))

  pub makes-stands : sent_of makes.noted ≡ [] → StandsAfter service answer makes.noted a b
  makes-stands silent =
      let went = goes (told out a.timed) makes.noted (told out b.timed) step in
      record {
        stands = run-more;
        me = me-goes (told out a.timed) (told out b.timed) makes.noted went;
        life = ap (λ (t : Timed). t.lists.life) went
            ∙ life-after_all a.timed.clock (told out a.timed).lists makes.noted;
        silent = silent;
      }

-- a call is asked or refused
module _ {R V : Type 0} (log : R → Log) (service : Service.Ghosts V)
    (answer : ℕ → List ℕ → List ℕ) (session req_type room : ℕ) (ask : List ℕ)
    (a b : Running V Jobs) (f g : R)
    (makes : Makes log (Asks session req_type ask room) a.timed b.timed f g) (leaves : Leaves a b)
  where
    abbrev fact : Fact
    fact = ask_fact session req_type room ask a.timed.lists

    same-state : (state : SessionState) (s t : Lists) → s.me ≡ t.me → s.asked ≡ t.asked
        → ask_by_state state session req_type room ask s
        ≡ ask_by_state state session req_type room ask t
    same-state Connected s t mine next =
        ap₂ (λ (m n : ℕ). with_bytes m (Asked n session req_type room) ask) mine next
    same-state state s t mine next = ap (λ (m : ℕ). plain m (NcallState session state)) mine

    noted-one : makes.noted ≡ fact ∷ []
    noted-one =
        (makes.step (asks_of ((desk_members answer).out a.workers))).facts
        ∙ ap (λ (x : Fact). cond (ltb 1048576 (length ask))
        (plain a.timed.lists.me (NcallTooLarge session (length ask))) x ∷ [])
        (same-state (state_of (find (is_client session) a.timed.lists.clients))
        (told ((desk_members answer).out a.workers) a.timed).lists a.timed.lists refl refl)

    pub asks-grew : Grew (log f) (log g) (fact ∷ [])
    asks-grew = subst (λ (x : List Fact). Grew (log f) (log g) x) noted-one makes.grew

    silent-in : (state : SessionState)
        → sent_of (ask_by_state state session req_type room ask a.timed.lists ∷ []) ≡ []
    silent-in Connected = refl
    silent-in _ = refl

    silent-by : (c : Bool)
        → sent_of (cond c (plain a.timed.lists.me (NcallTooLarge session (length ask)))
        (ask_by_state (state_of (find (is_client session) a.timed.lists.clients)) session req_type
        room ask a.timed.lists) ∷ []) ≡ []
    silent-by true = refl
    silent-by false = silent-in (state_of (find (is_client session) a.timed.lists.clients))

    pub asks-stands : StandsAfter service answer (fact ∷ []) a b
    asks-stands =
        subst (λ (x : List Fact). StandsAfter service answer x a b) noted-one
        (makes-stands log service answer (Asks session req_type ask room) a b f g makes
        (λ s x t h. asks session req_type ask room h) (λ s x t h. h.goes)
        (ask-still session req_type ask room) leaves
        (ap sent_of noted-one ∙ silent-by (ltb 1048576 (length ask))))

-- the call of a job is asked
module _ {R V : Type 0} (log : R → Log) (service : Service.Ghosts V)
    (answer : ℕ → List ℕ → List ℕ) (n : Numbered) (kind tag : ℕ) (req resp : Buffer)
    (a b : Running V Jobs) (f g : R) (is_kind : kind ≡ n.parcel.req_type - BACKGROUND)
    (is_tag : tag ≡ n.number) (asks_it : bytes_of req ≡ bytes_of n.parcel.ask)
    (has_room : capacity_of resp ≡ n.parcel.out.len) (long : length (bytes_of req) ≡ req.len)
    (makes : Makes log (Asks OTHER_SERVER kind (bytes_of req) (capacity_of resp)) a.timed b.timed f
    g) (leaves : Leaves a b) where
  abbrev room : ℕ
  room = capacity_of resp

  abbrev own : SessionState
  own = state_of (find (is_client OTHER_SERVER) a.timed.lists.clients)

  abbrev asks_fact : Fact
  asks_fact = ask_fact OTHER_SERVER kind room (bytes_of req) a.timed.lists

  stands : StandsAfter service answer (asks_fact ∷ []) a b
  stands = asks-stands log service answer OTHER_SERVER kind room (bytes_of req) a b f g makes leaves

  grew : Grew (log f) (log g) (asks_fact ∷ [])
  grew = asks-grew log service answer OTHER_SERVER kind room (bytes_of req) a b f g makes leaves

  same-event : with_bytes a.timed.lists.me (Asked a.timed.lists.asked OTHER_SERVER kind room)
      (bytes_of req) ≡ nested_fact a.timed.lists.me a.timed.lists.asked n
  same-event =
      ap₂ (λ (k l : ℕ). with_bytes a.timed.lists.me (Asked a.timed.lists.asked OTHER_SERVER k l)
      (bytes_of req)) is_kind has_room
      ∙ ap (λ (bytes : List ℕ). with_bytes a.timed.lists.me
      (Asked a.timed.lists.asked OTHER_SERVER (n.parcel.req_type - BACKGROUND) n.parcel.out.len)
      bytes) asks_it

  pub asked-one : refusal_of req.len own ≡ None
      → HandsInAt OTHER_SERVER (record {
        call = a.timed.lists.asked;
        tag = tag;
        req = Some req;
        room = room;
      }) a.handed b.handed
      → AsksOne log service answer n a b f g
  asked-one none hands = record {
    fact = asks_fact;
    asks = record {
      asked = fact-asked OTHER_SERVER kind room (bytes_of req) a.timed.lists
          (ap (λ k. refusal_of k own) long ∙ none) ∙ same-event;
      me = stands.me;
      req = req;
      hands_in = subst (λ (k : ℕ). HandsInAt OTHER_SERVER (record {
        call = a.timed.lists.asked;
        tag = k;
        req = Some req;
        room = n.parcel.out.len;
      }) a.handed b.handed) is_tag (subst (λ (k : ℕ). HandsInAt OTHER_SERVER (record {
        call = a.timed.lists.asked;
        tag = tag;
        req = Some req;
        room = k;
      }) a.handed b.handed) has_room hands);
    };
    leaves = leaves;
    grew = grew;
    stands = stands;
  }

  refused-one : (why : AskError) → refusal_of req.len own ≡ Some why → b ≡ a
      → RefusesOne log service answer a f g
  refused-one why is same = record {
    fact = asks_fact;
    refusal = fact-refused OTHER_SERVER kind room (bytes_of req) a.timed.lists why
        (ap (λ k. refusal_of k own) long ∙ is);
    grew = grew;
    stands = subst (λ (e : Running V Jobs). StandsAfter service answer (asks_fact ∷ []) a e) same
        stands;
  }

  pub refused-or : (why : AskError) → why ≢ Wanting
      → (refusal_of req.len own ≡ Some why) ⊎ ((why ≡ Wanting) × (refusal_of req.len own ≡ None))
      → b ≡ a → RefusesOne log service answer a f g
  refused-or why not (inl is) same = refused-one why is same
  refused-or why not (inr none) same = absurd (not none.0)
