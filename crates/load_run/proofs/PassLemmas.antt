-- Calls of an application: they send nothing, end no call and ask one at most, and an endpoint goes
-- on by them.
use Rattle.std.proofs.Common.{◌≡◌, ℕ, Bool, true, false, cond, ltb, Some, None, List, []}
use Rattle.std.proofs.Common.{◌∷◌, ◌++◌}
use Rattle.std.specs.Prelude.{◌==◌}
use Rattle.std.proofs.Common.{◌+◌, ◌≤◌, add-zero, ap, ap₂, le-ltb, arith, length, refl, sym, subst, ◌∙◌}
use Rattle.std.specs.List.{find}
use Rattle.endpoint_loop.specs.PlainMembers.{plain_members}
use Rattle.node_steps.specs.Jobs.{staff_of}
use Rattle.rpc_outside.specs.Recording.{Log}
use Rattle.endpoint_loop.specs.Endpoints.{Leaves}
use Rattle.node_steps.specs.Notes.{Makes, asked_in, is_asked, is_end_event, sent_by, sent_of}
use Rattle.endpoint_loop.specs.Endpoints.{asks_of, told}
use Rattle.node_steps.specs.Seen.{asking}
use Rattle.node_steps.proofs.PacketCrew.{staffed-still}
use Rattle.node_steps.proofs.NoteEnds.{ends-append, me-goes, no_asks}
use Rattle.endpoint_loop.proofs.PollLaw.{still-answers}
use Rattle.endpoint_loop.proofs.StandingLaw.{is_labour, life-more, me-more, none-ran}
use Rattle.endpoint_loop.proofs.StandingLaw.{none-worked, stands-more}
use Rattle.node_steps.proofs.NoteStill.{AllStill, Stills, still-by, still-none}
use Rattle.node_steps.proofs.NoteCounts.{many-append, many-none}
use Rattle.node_steps.proofs.NoteSteps.{sent-append}
use Rattle.load_plan.specs.Calls.{Calls, asked_bytes, room_of}
use Rattle.load_run.specs.Loading.{AsksInOrder, Passes, ask_noted}
use Rattle.load_run.proofs.OrderLemmas.{asked-stands, order-none, order-then}
use Rattle.node_laws.specs.NodeRun.{Group, IsCredits, asks, connects, disconnects}
use Rattle.rpc_base.specs.declared.event.Event.{Event}
use Rattle.rpc_base.specs.declared.event.Event.TheVariants.{Asked, DoneOk, DonePeerLost}
use Rattle.rpc_base.specs.declared.event.Event.TheVariants.{DoneTooSmall}
use Rattle.rpc_base.specs.declared.event.Event.TheVariants.{NconnectNumbers, NconnectRing, Opened}
use Rattle.rpc_base.specs.declared.event.Event.TheVariants.{Closing, NcloseBusy, NcloseState}
use Rattle.rpc_base.specs.declared.event.Event.TheVariants.{Rated, Ran, Restarted, Sent, Worked}
use Rattle.rpc_base.specs.declared.fact.Fact.{Fact}
use Rattle.rpc_base.specs.declared.limits.Limits.{Limits}
use Rattle.rpc_base.specs.declared.state.SessionState.{SessionState}
use Rattle.rpc_base.specs.declared.state.SessionState.TheVariants.{Connected}
use Rattle.rpc_laws.specs.declared.tables.Lists.{Lists}
use Rattle.rpc_laws.specs.declared.tables.Timed.{Timed}
use Rattle.rpc_laws.specs.Facts.{plain, with_bytes}
use Rattle.rpc_laws.specs.Groups.{Asks, Connects, Disconnects, ask_by_state, client_refusal}
use Rattle.rpc_laws.specs.Groups.{connect_by}
use Rattle.rpc_laws.specs.Groups.{clients_spent, has_no_room, shares, state_of}
use Rattle.rpc_laws.specs.Service.{plain_serving, served_after_all}
use Rattle.rpc_laws.specs.Sessions.{is_client}
use Rattle.rpc_laws.specs.Steps.{Rel}
use Rattle.rpc_outside.specs.PlainAnswer.{background_answer}
use Rattle.worker_crew.specs.Crews.{CrewState}
use Rattle.worker_crew.specs.Dispatching.{jobs_in}
use Rattle.rpc_turns.specs.Plain.{End, Stands, crew_members}
use Rattle.rpc_turns.proofs.RunLemmas.{goes-none, goes-then}

-- a handler ran, a job was worked, a datagram was sent, a call ended, or a node began anew
abbrev pub is_loud : Event → Bool
is_loud (Ran session request req_type) = true
is_loud (Worked session request) = true
is_loud (Sent peer owner k) = true
is_loud (DoneOk call) = true
is_loud (DoneTooSmall call size) = true
is_loud (DonePeerLost call) = true
is_loud (Restarted life) = true
is_loud _ = false

loud-labour : (e : Event) → is_loud e ≡ false → is_labour e ≡ false
loud-labour (Ran session request req_type) h = cc
loud-labour (Worked session request) h = cc
loud-labour (Restarted life) h = cc
loud-labour _ h = refl

loud-end : (e : Event) → is_loud e ≡ false → is_end_event e ≡ false
loud-end (DoneOk call) h = cc
loud-end (DoneTooSmall call size) h = cc
loud-end (DonePeerLost call) h = cc
loud-end _ h = refl

loud-sent : (e : Event) (first second : List ℕ) → is_loud e ≡ false → sent_by e first second ≡ []
loud-sent (Sent peer owner k) first second h = cc
loud-sent _ first second h = refl

pub none-labour : (x : List Fact) → AllStill is_loud x → AllStill is_labour x
none-labour = still-by is_loud is_labour loud-labour

pub none-end : (x : List Fact) → AllStill is_loud x → AllStill is_end_event x
none-end = still-by is_loud is_end_event loud-end

pub none-sent : (x : List Fact) → AllStill is_loud x → sent_of x ≡ []
none-sent [] all = refl
none-sent (f ∷ x) all =
    ap₂ (λ xs ys. xs ++ ys) (loud-sent f.event f.first f.second all.0) (none-sent x all.1)

-- an endpoint whose jobs ask what the workers of another one have of them
abbrev seen : (a e : End) → Timed
seen a e = told (jobs_in a.workers.dispatching) e.timed

module _ {R : Type 0} (log : R → Log) where
  -- what a call notes
  unfoldable pub passes-of : (P : Rel) (a b : End) (f g : R) (c : Calls) (session from to : ℕ)
      → (makes : Makes log P a.timed b.timed f g)
      → ((s : Timed) (x : List Fact) (t : Timed) → P s x t → Group plain_serving.mode s x t)
      → Stills is_loud P → to ≡ from + asked_in makes.noted
      → ((limits : Limits) → (past : List Fact) → Stands limits past a → from ≡ asked_in past
      → AsksInOrder c session from makes.noted) → Leaves a b
      → Passes log a b f g c session from to
  passes-of P a b f g c session from to makes group still asked order leaves = record {
    goes = record {
      noted = makes.noted;
      grew = makes.grew;
      goes_on = goes;
      lives = λ limits h s.
          life-more plain_members crew_members limits h a b makes.noted s.runs changes;
    };
    asks = asked;
    order = order;
    sends = none-sent makes.noted all;
    ends = still-none is_end_event makes.noted (none-end makes.noted all);
  }
    where
      step : P (seen a a) makes.noted (seen a b)
      step = makes.step (asks_of (jobs_in a.workers.dispatching))

      all : AllStill is_loud makes.noted
      all = still (seen a a) makes.noted (seen a b) step

      changes : Group plain_serving.mode (seen a a) makes.noted
          (told (jobs_in b.workers.dispatching) b.timed)
      changes =
          subst (λ (w : CrewState). Group plain_serving.mode (seen a a) makes.noted
          (told (jobs_in w.dispatching) b.timed)) (sym leaves.workers)
          (group (seen a a) makes.noted (seen a b) step)

      goes : (limits : Limits) → (h : List Fact) → Stands limits h a
          → Stands limits (h ++ makes.noted) b
      goes limits h s =
          let quiet = none-labour makes.noted all in
          let none = still-answers plain_serving (served_after_all plain_serving.mode [] h)
          makes.noted (none-ran makes.noted quiet) in
          let me = me-more plain_members crew_members limits h a b
          makes.noted s.runs changes in
          let runs = stands-more plain_members crew_members limits h
          a b makes.noted s.runs changes (none-worked makes.noted quiet) none.0
          (rw (leaves.service, none.1) s.runs.serves)
          (rw leaves.workers (staffed-still background_answer
          (asks_of (jobs_in a.workers.dispatching)) (staff_of crew_members a.workers) a.timed b.timed leaves.jobs
          s.runs.staffed)) in
          record { node = me ∙ s.node; runs = runs }

  pub passes-none : (a b : End) (f g : R) (c : Calls) (session n : ℕ) → b ≡ a → g ≡ f
      → Passes log a b f g c session n n
  unfolding goes-none
  passes-none a b f g c session n same still = rw (same, still) (record {
    goes = goes-none log a f;
    asks = sym (add-zero n);
    order = λ limits past s e. order-none c session n [] refl;
    sends = refl;
    ends = refl;
  })

  pub passes-then : (a b c : End) (f g h : R) (plan : Calls) (session l m n : ℕ)
      → Passes log a b f g plan session l m → Passes log b c g h plan session m n
      → Passes log a c f h plan session l n
  unfolding goes-then
  passes-then a b c f g h plan session l m n p q = record {
    goes = goes-then log a b c f g h p.goes q.goes;
    asks = let one = p.asks in let two = q.asks in
        omega (arith, one, two, many-append is_asked p.goes.noted q.goes.noted);
    order = λ limits past s e.
        let one = p.asks in
        order-then plan session l m p.goes.noted q.goes.noted one (p.order limits past s e)
        (q.order limits (past ++ p.goes.noted) (p.goes.goes_on limits past s)
        (omega (arith, one, e, many-append is_asked past p.goes.noted)));
    sends = sent-append p.goes.noted q.goes.noted ∙ ap₂ (λ xs ys. xs ++ ys) p.sends q.sends;
    ends = ends-append p.goes.noted q.goes.noted ∙ ap₂ (λ xs ys. xs ++ ys) p.ends q.ends;
  }

-- what asking, opening and closing note
asked-by : (state : SessionState) (session req_type room : ℕ) (ask : List ℕ) (s : Lists)
    → is_loud (ask_by_state state session req_type room ask s).event ≡ false
asked-by Connected session req_type room ask s = refl
asked-by _ session req_type room ask s = refl

asked-if : (b : Bool) (f g : Fact) → is_loud f.event ≡ false → is_loud g.event ≡ false
    → is_loud (cond b f g).event ≡ false
asked-if true f g one two = one
asked-if false f g one two = two

pub ask-quiet : (session req_type : ℕ) (ask : List ℕ) (room : ℕ)
    → Stills is_loud (Asks session req_type ask room)
ask-quiet session req_type ask room s x t h = rw h.facts (
  asked-if (ltb 1048576 (length ask)) _ _ refl (asked-by (state_of (find (is_client session)
      s.lists.clients)) session req_type room ask s.lists),
  tt,
)

-- a call that isn't too large is asked on a session that is Connected
asks-one : (session req_type : ℕ) (ask : List ℕ) (room : ℕ) (s : Timed) (x : List Fact) (t : Timed)
    → Asks session req_type ask room s x t → length ask ≤ 1048576
    → state_of (find (is_client session) s.lists.clients) ≡ Connected
    → x ≡ with_bytes s.lists.me (Asked s.lists.asked session req_type room) ask ∷ []
asks-one session req_type ask room s x t h few on =
    let fits : ltb 1048576 (length ask) ≡ false = le-ltb 1048576 (length ask) few in
    h.facts ∙ rw (fits, on) refl

-- a test that is false of all that closing may note, and one for opening
module _ (q : Event → Bool) (state : (n : ℕ) (s : SessionState) → q (NcloseState n s) ≡ false)
    (busy : (n calls : ℕ) → q (NcloseBusy n calls) ≡ false)
    (closing : (n : ℕ) → q (Closing n) ≡ false) where
  closed-if : (b c : Bool) (s : SessionState) (session calls : ℕ)
      → q (cond b (NcloseState session s) (cond c (NcloseBusy session calls) (Closing session)))
      ≡ false
  closed-if true c s session calls = state session s
  closed-if false true s session calls = busy session calls
  closed-if false false s session calls = closing session

  close-still : (session : ℕ) → Stills q (Disconnects session)
  close-still session s x t h = rw h.facts (closed-if _ _ _ _ _, tt)

module _ (q : Event → Bool) (numbers : q NconnectNumbers ≡ false)
    (full : (n credits room : ℕ) → q (NconnectRing n credits room) ≡ false)
    (opened : (n peer credits : ℕ) → q (Opened n peer credits) ≡ false)
    (rated : (n rate : ℕ) → q (Rated n rate) ≡ false) where
  connected-if : (b c : Bool) (n credits room peer rate : ℕ) (s : Lists)
      → AllStill q (connect_by (cond b (Some NconnectNumbers)
      (cond c (Some (NconnectRing n credits room)) None)) peer credits rate s)
  connected-if true c n credits room peer rate s = (numbers, tt)
  connected-if false true n credits room peer rate s = (full n credits room, tt)
  connected-if false false n credits room peer rate s =
      (opened (length s.clients) peer credits, paced (rate == 0))
    where
      paced : (b : Bool)
          → AllStill q (cond b [] (plain s.me (Rated (length s.clients) rate) ∷ []))
      paced true = tt
      paced false = (rated (length s.clients) rate, tt)

  connect-still : (peer credits rate : ℕ) → Stills q (Connects peer credits rate)
  connect-still peer credits rate s x t h =
      rw h.facts (connected-if (clients_spent s.lists) (has_no_room credits s.lists)
      (shares s.lists) credits s.lists.room peer rate s.lists)

-- the recorder grew by the opening of a session alone
pub record Opens {R : Type 0} (log : R → Log)
    (peer credits : ℕ) (old new : End) (before now : R) (c : Calls) (session : ℕ) : Type 0 where
  pub passes : Passes log old new before now c session 0 0
  pub opens : passes.goes.noted
      ≡ plain new.timed.lists.me (Opened (length old.timed.lists.clients) peer credits) ∷ []

module _ {R : Type 0} (log : R → Log) (a b : End) (f g : R)
    (leaves : Leaves a b) (c : Calls) where
  -- call n is asked
  pub asks-pass : (session n req_type : ℕ) (ask : List ℕ) (room : ℕ)
      → Makes log (Asks session req_type ask room) a.timed b.timed f g
      → length ask ≤ 1048576
      → state_of (find (is_client session) a.timed.lists.clients) ≡ Connected
      → req_type ≡ c.req_type → ask ≡ asked_bytes c n → room ≡ room_of c
      → Passes log a b f g c session n (n + 1)
  asks-pass session n req_type ask room makes few on own_type own_bytes own_room =
      passes-of log (Asks session req_type ask room) a b f g c session n (n + 1) makes
      (λ s x t h. asks session req_type ask room h) (ask-quiet session req_type ask room)
      (ap (λ k. n + k) (sym (ap asked_in noted))) order leaves
    where
      noted : makes.noted
          ≡ with_bytes a.timed.lists.me (Asked a.timed.lists.asked session req_type room) ask ∷ []
      noted = asks-one session req_type ask room (asking no_asks a.timed) makes.noted
          (asking no_asks b.timed) (makes.step no_asks) few on

      order : (limits : Limits) → (past : List Fact) → Stands limits past a → n ≡ asked_in past
          → AsksInOrder c session n makes.noted
      order limits past s e =
          let number : a.timed.lists.asked ≡ n = asked-stands limits past a s ∙ sym e in
          let same : makes.noted ≡ ask_noted c session n ∷ [] =
          noted ∙ rw (s.node, number, own_type, own_bytes, own_room) refl in
          rw same refl

  pub close-passes : (session n : ℕ) → Makes log (Disconnects session) a.timed b.timed f g
      → Passes log a b f g c session n n
  close-passes session n makes =
      let none = many-none is_asked makes.noted (close-still is_asked (λ n s. refl) (λ n c. refl)
      (λ n. refl) session (asking no_asks a.timed) makes.noted (asking no_asks b.timed)
      (makes.step no_asks)) in
      passes-of log (Disconnects session) a b f g c session n n makes
      (λ s x t h. disconnects session h)
      (close-still is_loud (λ n s. refl) (λ n c. refl) (λ n. refl) session)
      (omega (arith, none)) (λ limits past s e. order-none c session n makes.noted none) leaves

  -- a session is opened, at no rate
  pub connect-passes : (session peer credits : ℕ) → IsCredits credits
      → (makes : Makes log (Connects peer credits 0) a.timed b.timed f g)
      → client_refusal credits a.timed.lists ≡ None
      → Opens log peer credits a b f g c session
  unfolding passes-of
  connect-passes session peer credits own makes free =
      let none = many-none is_asked makes.noted (connect-still is_asked refl (λ n c r. refl)
      (λ n p c. refl) (λ n r. refl) peer credits 0 (asking no_asks a.timed) makes.noted
      (asking no_asks b.timed) (makes.step no_asks)) in
      record {
        passes = passes-of log (Connects peer credits 0) a b f g c session 0 0 makes
            (λ s x t h. connects peer credits 0 own h)
            (connect-still is_loud refl (λ n c r. refl) (λ n p c. refl) (λ n r. refl) peer credits
            0) (omega (arith, none)) (λ limits past s e. order-none c session 0 makes.noted none) leaves;
        opens =
            let one = makes.step no_asks in
            let me : b.timed.lists.me ≡ a.timed.lists.me =
            me-goes (asking no_asks a.timed) (asking no_asks b.timed) makes.noted one.goes in
            one.facts ∙ rw (free, me) refl;
      }
