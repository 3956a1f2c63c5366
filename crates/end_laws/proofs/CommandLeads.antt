-- Each command leads from a moment that fits the stage to one that fits the next.
use Rattle.std.proofs.Common.{◌≡◌, ◌<◌, ◌≤◌, ◌+◌, ◌==◌, ◌&&◌, ℕ, zero, suc, max, nat_lt, Bool, true, false, cond}
use Rattle.std.proofs.Common.{List, [], ◌∷◌, ◌++◌, length, Option, Some, None, slice_get, refl, sym}
use Rattle.std.proofs.Common.{ap, ◌∙◌, subst, arith}
use Rattle.std.specs.Bool.{MatchBool}
use Rattle.std.specs.Prelude.{map}
use Rattle.std.specs.List.{find, list_all, remove, slice_set}
use Rattle.std.proofs.lemmas.Bool.{eqb-true, eq-eqb}
use Rattle.std.proofs.lemmas.List.{length-append}
use Rattle.rpc_base.specs.declared.event.Event.{Event}
use Rattle.rpc_base.specs.declared.event.Event.TheVariants.{Made, NcallTooLarge, Missed, Restarted, Worked}
use Rattle.rpc_base.specs.declared.event.Event.TheVariants.{Carried, Lost, Repeated, Ticked}
use Rattle.rpc_base.specs.declared.fact.Fact.{Fact}
use Rattle.rpc_base.specs.declared.state.SessionState.{SessionState}
use Rattle.rpc_base.specs.declared.state.SessionState.TheVariants.{Connected}
use Rattle.rpc_base.proofs.PlaceLemmas.{set-here, set-other}
use Rattle.network_model.specs.declared.stage.Stage.{Stage}
use Rattle.rpc_laws.specs.declared.tables.InFlight.{InFlight}
use Rattle.rpc_laws.specs.declared.tables.Lists.{Lists}
use Rattle.rpc_laws.specs.declared.tables.Timed.{Timed}
use Rattle.rpc_laws.specs.Facts.{plain, with_bytes, of_net}
use Rattle.rpc_laws.specs.BufferSafety.{anew}
use Rattle.rpc_laws.specs.Deliveries.{inbox_room}
use Rattle.rpc_laws.specs.Endpoints.{Lived, life_by, told}
use Rattle.rpc_laws.specs.Front.{is_message, is_control}
use Rattle.rpc_laws.specs.Groups.{Asks, Connects, Disconnects, SetsRate, ask_fact, ask_by_state, state_of}
use Rattle.rpc_laws.specs.InFlight.{flight_after_net}
use Rattle.rpc_laws.specs.Lives.{first_life}
use Rattle.rpc_laws.specs.NodeLists.{after, after_all, limits_of, new_lists, new_node, restarted, restarted_lists}
use Rattle.rpc_laws.specs.PollOrder.{PollBy, SendsAll}
use Rattle.rpc_outside.specs.PlainAnswer.{plain_mode}
use Rattle.rpc_laws.specs.UsualLimits.{with_ring}
use Rattle.rpc_laws.specs.Sessions.{is_client}
use Rattle.rpc_laws.specs.Steps.{Rel}
use Rattle.rpc_laws.specs.Working.{work_of, waiting_of, Works, WorksAll, FinishesWorked}
use Rattle.rpc_laws.specs.declared.tables.Job.{Job}
use Rattle.rpc_laws.specs.declared.tables.WorkedJob.{WorkedJob}
use Rattle.rpc_laws.proofs.PollLemmas.{poll-within}
use Rattle.sim_script.specs.FollowsScript.{AtNode as StageNode, Makes, OfNet, or_missed, Carries}
use Rattle.sim_script.specs.FollowsScript.{Arrives, Ticks, PollsNode, Joins, Times, PollsFirst}
use Rattle.sim_script.specs.FollowsScript.{WorksNode, WorksFirst, WorksAndPolls, Round, Unless}
use Rattle.sim_script.specs.FollowsScript.{Restarts, Settles, is_polled}
use Rattle.node_laws.specs.Valid.{Valid}
use Rattle.node_laws.proofs.Allowed.{AllAllowed as AllLawful, AllowedBy}
use Rattle.node_laws.proofs.LeadsLemmas.{Lawful, lawful-goes}
use Rattle.node_laws.proofs.RunLaws.{asks-lawful, poll-lawful, connects-lawful, disconnects-lawful}
use Rattle.node_laws.proofs.RunLaws.{sets-rate-lawful, delivers-lawful}
use Rattle.node_laws.proofs.ValidLemmas.{valid_new}
use Rattle.end_laws.specs.Moments.{Moment, moved}
use Rattle.end_laws.proofs.Allowed.{WalksFrom, Walks, walks-from}
use Rattle.end_laws.proofs.CallSteps.{free-walks, delivery_by, asks-fine, delivers-fine}
use Rattle.end_laws.proofs.Courses.{latest, over, in_net, made, restarts}
use Rattle.end_laws.proofs.Leads.{NodeFits, Fits, Leads, Leading, NodeStep, leads-none, leads-append, life-kept, step-leads}
use Rattle.end_laws.proofs.ListLemmas.{Placed, add-placed, add-keeps, add-last, length-slice_set, set-placed}
use Rattle.end_laws.proofs.QueueLemmas.{RightNode}
use Rattle.end_laws.proofs.ReplySteps.{poll-fine}
use Rattle.end_laws.proofs.SendsLaw.{right-stays, right-new}
use Rattle.end_laws.proofs.WorkSteps.{WorksSo, all-free, work-clock, work-any, work-all, AllWork}
use Rattle.end_laws.proofs.WorkSteps.{OneFact, connects-one, connects-fine, disconnects-one}
use Rattle.end_laws.proofs.WorkSteps.{disconnects-fine, rates-so}
use Rattle.end_laws.proofs.Walks.{Fine}

-- a fact of the network
pub net-leads : (s : Stage) (w : Moment) (e : Event) (clock : ℕ) (flight : List InFlight) → Fits s w
    → (moved w (of_net e)).clock ≡ clock → (moved w (of_net e)).flight ≡ flight → s.clock ≤ clock
    → Leads w (of_net e ∷ []) (record {
      nodes = s.nodes;
      flight = flight;
      worked = s.worked;
      clock = clock;
    })
net-leads s w e clock flight f c g le =
    let u = moved w (of_net e) in
    record {
      end = u;
      course = in_net w (of_net e) [] u refl (over u);
      fits = record {
        clock = c;
        flight = g;
        size = f.size;
        unborn = f.unborn;
        nodes = λ j z is. let k = f.nodes j z is in record { is_node = k.is_node; me = k.me; life = k.life; late = (let late = k.late in omega arith); right = k.right; valid = k.valid };
      };
    }

self-le : (n : ℕ) → n ≤ n
self-le n = omega arith

or-missed-leads : (b : Bool) (s : Stage) (w : Moment) (i : ℕ) (e : Event) (x : List Fact)
    (t : Stage) → Fits s w → ((x : List Fact) (t : Stage) → OfNet e s x t → Leads w x t)
    → OfNet (cond b e (Missed i)) s x t → Leads w x t
or-missed-leads true s w i e x t f k h = k x t h
or-missed-leads false s w i e x t f k h =
    rw (h.facts, h.left) (net-leads s w (Missed i) s.clock s.flight f f.clock f.flight
    (self-le s.clock))

pub missed-leads : (i : ℕ) → Leading (OfNet (Missed i))
missed-leads i s w x t f h =
    rw (h.facts, h.left) (net-leads s w (Missed i) s.clock s.flight f f.clock f.flight
    (self-le s.clock))

pub lose-leads : (i : ℕ) → Leading (λ s. OfNet (or_missed s.flight i (Lost i)) s)
lose-leads i s w x t f h =
    or-missed-leads (nat_lt i (length s.flight)) s w i (Lost i) x t f
    (λ x t k. rw (k.facts, k.left) (net-leads s w (Lost i) s.clock (remove s.flight i) f f.clock
    (ap (λ (c : List InFlight). remove c i) f.flight) (self-le s.clock))) h

pub repeat-leads : (i : ℕ) → Leading (λ s. OfNet (or_missed s.flight i (Repeated i)) s)
repeat-leads i s w x t f h =
    or-missed-leads (nat_lt i (length s.flight)) s w i (Repeated i) x t f
    (λ x t k. rw (k.facts, k.left) (net-leads s w (Repeated i) s.clock
    (flight_after_net (Repeated i) s.flight) f f.clock
    (ap (flight_after_net (Repeated i)) f.flight) (self-le s.clock))) h

pub tick-leads : (by : ℕ) → Leading (Ticks by)
tick-leads by s w x t f h =
    let le : s.clock ≤ s.clock + by = omega arith in
    rw (h.facts, h.left) (net-leads s w (Ticked by) (s.clock + by) s.flight f (ap (λ c. c + by) f.clock) f.flight le)

-- a node is made
pub made-leads : (ring : ℕ) → Leading (Makes ring)
made-leads ring s w x t f h =
    let u = moved w (plain (length w.nodes) (Made ring)) in
    let me = f.size in
    let facts : x ≡ plain (length w.nodes) (Made ring) ∷ [] = h.facts ∙ ap (λ n. plain n (Made ring) ∷ []) (sym me) in
    let left : t ≡ record s {
      nodes = s.nodes ++ new_node (length w.nodes) first_life (with_ring ring) ∷ [];
    } =
    h.left ∙ ap (λ n. record s { nodes = s.nodes ++ new_node n first_life (with_ring ring) ∷ [] })
    (sym me) in
    let now : List Lists = w.nodes ++ new_lists (length w.nodes) first_life (with_ring ring) ∷ [] in
    let made_here : Lived = told w.past (plain (length w.nodes) (Made ring)) in
    let kept : (j : ℕ) → life_by j u.past ≡ life_by j w.past = λ j. life-kept j made_here w.past refl in
    let new : NodeFits s.clock now u.past (length s.nodes)
    (new_node (length w.nodes) first_life (with_ring ring)) =
    record {
      is_node = ap (slice_get now) (sym me)
          ∙ add-last w.nodes (new_lists (length w.nodes) first_life (with_ring ring));
      me = me;
      life = sym (kept (length s.nodes) ∙ f.unborn (length s.nodes) (self-le (length s.nodes)));
      late =
          omega arith;
      right = right-new (length w.nodes) first_life (with_ring ring);
      valid =
          valid_new (length w.nodes) first_life (with_ring ring);
    } in
    let nodes : Placed (NodeFits s.clock now u.past) (s.nodes ++ new_node (length w.nodes) first_life (with_ring ring) ∷ []) = add-placed (NodeFits s.clock now u.past) s.nodes (new_node (length w.nodes) first_life (with_ring ring)) new (λ j z is. let k = f.nodes j z is in record { is_node = add-keeps w.nodes _ j z.lists k.is_node; me = k.me; life = k.life ∙ sym (kept j); late = k.late; right = k.right; valid = k.valid }) in
    rw (facts, left) (record {
      end = u;
      course = made w ring [] u (over u);
      fits = record {
        clock = f.clock;
        flight = f.flight;
        size = length-append w.nodes (new_lists (length w.nodes) first_life (with_ring ring) ∷ [])
            ∙ (ap (λ n. n + 1) me ∙ sym (length-append s.nodes
            (new_node (length w.nodes) first_life (with_ring ring) ∷ [])));
        nodes = nodes;
        unborn = λ j le. kept j ∙ f.unborn j
            (let more = length-append s.nodes (new_node (length w.nodes) first_life (with_ring ring) ∷ []) in
            omega arith);
      };
    })

-- a place that is there is below the length
there-below : {A : Type 0} (xs : List A) (i : ℕ) (x : A) → slice_get xs i ≡ Some x → i < length xs
there-below [] i x h = cc
there-below (z ∷ zs) zero x h = omega arith
there-below (z ∷ zs) (suc i) x h = let k = there-below zs i x h in omega arith

-- a node is restarted
life-here : (n life : ℕ) (past : List Lived)
    → life_by n (told past (plain n (Restarted life)) ∷ past) ≡ life_by n past + 1
life-here n life past = rw (eq-eqb n n refl) refl

life-other : (j n life : ℕ) (past : List Lived) → (j ≡ n → ⊥)
    → life_by j (told past (plain n (Restarted life)) ∷ past) ≡ life_by j past
life-other j n life past ne = by (n == j) refl
  where
    by : (b : Bool) → (n == j) ≡ b → cond (b && true) (life_by j past + 1) (life_by j past) ≡ life_by j past
    by true e = absurd (ne (sym (eqb-true n j e)))
    by false e = refl

pub restart-leads : (n : ℕ) → Leading (Restarts n)
restart-leads n s w x t f h =
    let fit = f.nodes n h.before h.is_node in
    let l = h.before.lists in
    let fact : Fact = plain n (Restarted (l.life + 1)) in
    let u = moved w fact in
    let new = restarted h.before in
    let facts : x ≡ fact ∷ [] =
    h.facts ∙ ap (λ (m : ℕ). plain m (Restarted (l.life + 1)) ∷ []) fit.me in
    let now : List Lists = slice_set w.nodes n (restarted_lists l) in
    let all : u.nodes ≡ now = ap (λ (o : Option Lists). anew o n w.nodes) fit.is_node in
    let here : NodeFits s.clock now u.past n new = record {
      is_node = set-here w.nodes n l (restarted_lists l) fit.is_node;
      me = fit.me;
      life = ap (λ (k : ℕ). k + 1) fit.life ∙ sym (life-here n (l.life + 1) w.past);
      late = omega arith;
      right = right-new l.me (l.life + 1) (limits_of l);
      valid = valid_new l.me (l.life + 1) (limits_of l);
    } in
    let others : (j : ℕ) (z : Timed) → (j ≡ n → ⊥) → slice_get s.nodes j ≡ Some z → NodeFits s.clock now u.past j z = λ j z ne is. let k = f.nodes j z is in record { is_node = set-other w.nodes n j (restarted_lists l) ne ∙ k.is_node; me = k.me; life = k.life ∙ sym (life-other j n (l.life + 1) w.past ne); late = k.late; right = k.right; valid = k.valid } in
    let placed : Placed (NodeFits s.clock now u.past) (slice_set s.nodes n new) =
    set-placed (NodeFits s.clock now u.past) s.nodes n h.before new h.is_node here others in
    let below : n < length s.nodes = there-below s.nodes n h.before h.is_node in
    rw (h.left, facts) (record {
      end = u;
      course = restarts w n l [] u fit.is_node fit.me fit.life (over u);
      fits = record {
        clock = f.clock;
        flight = f.flight;
        size = ap length all ∙ (length-slice_set w.nodes n (restarted_lists l)
            ∙ (f.size ∙ sym (length-slice_set s.nodes n new)));
        nodes = subst (λ (ns : List Lists). Placed (NodeFits s.clock ns u.past) (slice_set s.nodes n new))
            (sym all) placed;
        unborn = λ j le.
            (let least : length s.nodes ≤ j =
            subst (λ (k : ℕ). k ≤ j) (length-slice_set s.nodes n new) le in
            life-other j n (l.life + 1) w.past (λ e. omega arith) ∙ f.unborn j least);
      };
    })

-- the clock is read by none of these
ask-clock : (state : SessionState) (c d session req_type room : ℕ) (ask : List ℕ) (l : Lists)
    → after c l (ask_by_state state session req_type room ask l)
    ≡ after d l (ask_by_state state session req_type room ask l)
ask-clock Connected c d session req_type room ask l = refl
ask-clock _ c d session req_type room ask l = refl

fact-clock : (b : Bool) (c d session req_type room : ℕ) (ask : List ℕ) (l : Lists)
    (state : SessionState)
    → after c l (cond b (plain l.me (NcallTooLarge session (length ask)))
    (ask_by_state state session req_type room ask l))
    ≡ after d l (cond b (plain l.me (NcallTooLarge session (length ask)))
    (ask_by_state state session req_type room ask l))
fact-clock true c d session req_type room ask l state = refl
fact-clock false c d session req_type room ask l state = ask-clock state c d session req_type room ask l

delivery-clock : (a b e g : Bool) (c d peer : ℕ) (bytes : List ℕ) (l : Lists)
    → after c l (with_bytes l.me (delivery_by a b e g peer) bytes)
    ≡ after d l (with_bytes l.me (delivery_by a b e g peer) bytes)
delivery-clock true true e g c d peer bytes l = refl
delivery-clock true false e g c d peer bytes l = refl
delivery-clock false b true true c d peer bytes l = refl
delivery-clock false b true false c d peer bytes l = refl
delivery-clock false b false g c d peer bytes l = refl

-- one fact that doesn't read the clock
one-walk : (hand : Option InFlight) (before : Option Fact) (c d : ℕ) (l : Lists) (x : List Fact)
    (f : Fact) → x ≡ f ∷ [] → WalksFrom hand before c l x → WalksFrom hand before d l x
one-walk hand before c d l x f e h =
    let k : WalksFrom hand before c l (f ∷ []) = subst (λ (y : List Fact). WalksFrom hand before c l y) e h in
    rw e (k.0, k.1, tt)

one-lawful : (c d : ℕ) (l : Lists) (x : List Fact) (f : Fact) → x ≡ f ∷ [] → AllLawful c l x → AllLawful d l x
one-lawful c d l x f e h =
    let k : AllLawful c l (f ∷ []) = subst (λ (y : List Fact). AllLawful c l y) e h in
    rw e (k.0, tt)

one-after : (c d : ℕ) (l : Lists) (x : List Fact) (f : Fact) → x ≡ f ∷ []
    → after c l f ≡ after d l f → after_all c l x ≡ after_all d l x
one-after c d l x f e h = rw e h

pub call-leads : (n session req_type : ℕ) (ask : List ℕ) (room : ℕ)
    → Leading (StageNode (Asks session req_type ask room) n)
call-leads n session req_type ask room s w x t f h =
    let fit = f.nodes n h.before h.is_node in
    let k = asks-fine RightNode right-stays session req_type ask room w.hand h.before x h.now
    fit.right h.step in
    let same = one-after h.before.clock s.clock h.before.lists x
    (ask_fact session req_type room ask h.before.lists) h.step.facts
    (fact-clock (nat_lt 1048576 (length ask)) h.before.clock s.clock session req_type room
    ask h.before.lists (state_of (find (is_client session) h.before.lists.clients))) in
    let late = fit.late in
    let clock = k.clock in
    step-leads s w n h.before h.now x t f (record {
      is_node = h.is_node;
      walks = walks-from w.hand (latest w.past) s.clock h.before.lists x
          (one-walk w.hand None h.before.clock s.clock h.before.lists x _ h.step.facts k.walks);
      lawful = one-lawful h.before.clock s.clock h.before.lists x _ h.step.facts
          (asks-lawful session req_type ask room h.before x h.now fit.valid h.step).all;
      lists = k.lists ∙ same;
      late = omega arith;
      right = k.inv;
    }) h.left

work-lawful : (me c d : ℕ) (l : Lists) (x : List Fact) → AllWork me x → AllLawful c l x → AllLawful d l x
work-lawful me c d l [] h v = tt
work-lawful me c d l (f ∷ x) h v =
    let rest = work-lawful me c d (after c l f) x h.1 v.1 in
    (v.0, subst (λ (u : Lists). AllLawful d u x) (h.0.still c d l) rest)

-- a step whose facts are free and don't read the clock
free-step : (P : Rel) (s : Stage) (w : Moment) (n : ℕ)
    → ((u : Timed) (x : List Fact) (t : Timed) → RightNode u.lists → P u x t → WorksSo w.hand u x t)
    → Lawful P → (x : List Fact) (t : Stage) → Fits s w → StageNode P n s x t → Leads w x t
free-step P s w n works law x t f h =
    let fit = f.nodes n h.before h.is_node in
    let k = works h.before x h.now fit.right h.step in
    let late = fit.late in
    let clock = k.walked.clock in
    step-leads s w n h.before h.now x t f (record {
      is_node = h.is_node;
      walks = free-walks w.hand (latest w.past) s.clock h.before.lists x (all-free h.before.lists.me x k.all);
      lawful = work-lawful h.before.lists.me h.before.clock s.clock h.before.lists x k.all
          (law h.before x h.now fit.valid h.step).all;
      lists = k.walked.lists ∙ work-clock h.before.lists.me h.before.clock s.clock h.before.lists x k.all;
      late = omega arith;
      right = k.walked.inv;
    }) h.left

-- a step of one fact that doesn't read the clock
one-step : (P : Rel) (n : ℕ) → ((u : Timed) (x : List Fact) (v : Timed) → P u x v → OneFact u x)
    → Fine RightNode P → Lawful P → Leading (StageNode P n)
one-step P n one fine law s w x t f h =
    let fit = f.nodes n h.before h.is_node in
    let k = fine w.hand h.before x h.now fit.right h.step in
    let o = one h.before x h.now h.step in
    let same = one-after h.before.clock s.clock h.before.lists x o.fact o.is
    (o.still h.before.clock s.clock) in
    let late = fit.late in
    let clock = k.clock in
    step-leads s w n h.before h.now x t f (record {
      is_node = h.is_node;
      walks = walks-from w.hand (latest w.past) s.clock h.before.lists x
          (one-walk w.hand None h.before.clock s.clock h.before.lists x o.fact o.is k.walks);
      lawful = one-lawful h.before.clock s.clock h.before.lists x o.fact o.is
          (law h.before x h.now fit.valid h.step).all;
      lists = k.lists ∙ same;
      late = omega arith;
      right = k.inv;
    }) h.left

-- a session is opened, and begins to close
pub connect-leads : (n peer credits : ℕ) → Leading (StageNode (Connects peer credits 0) n)
connect-leads n peer credits =
    one-step (Connects peer credits 0) n (connects-one peer credits) (connects-fine peer credits)
    (connects-lawful peer credits 0)

pub disconnect-leads : (n session : ℕ) → Leading (StageNode (Disconnects session) n)
disconnect-leads n session =
    one-step (Disconnects session) n (disconnects-one session) (disconnects-fine session)
    (disconnects-lawful session)

pub rate-leads : (n session rate : ℕ) → Leading (StageNode (SetsRate session rate) n)
rate-leads n session rate s w x t f h =
    free-step (SetsRate session rate) s w n (rates-so w.hand session rate)
    (sets-rate-lawful session rate) x t f h

-- jobs are worked
work-of-lawful : (l : Lists) (i : ℕ) (o : Option Job) → AllowedBy l (work_of i o) [] []
work-of-lawful l i None = tt
work-of-lawful l i (Some job) = tt

works-lawful : (worked : List WorkedJob) (i : ℕ) → Lawful (Works worked i)
works-lawful worked i s x t v h =
    lawful-goes s x t h.goes (rw h.facts (
      work-of-lawful s.lists i
          (slice_get (waiting_of worked s.lists) i),
      tt,
    ))

worked-lawful : (clock me : ℕ) (l : Lists) (jobs : List Job)
    → AllLawful clock l (map (λ (job : Job). plain me (Worked job.session job.request)) jobs)
worked-lawful clock me l [] = tt
worked-lawful clock me l (job ∷ jobs) =
    (tt, worked-lawful clock me (after clock l (plain me (Worked job.session job.request))) jobs)

works-all-lawful : (worked : List WorkedJob) → Lawful (WorksAll worked)
works-all-lawful worked s x t v h =
    lawful-goes s x t h.goes (rw h.facts (worked-lawful s.clock s.lists.me s.lists
    (waiting_of worked s.lists)))

pub work-leads : (n i : ℕ) → Leading (λ s. StageNode (Works s.worked i) n s)
work-leads n i s w x t f h =
    free-step (Works s.worked i) s w n (work-any w.hand s.worked i)
    (works-lawful s.worked i) x t f h

pub works-lead : (n : ℕ) → Leading (WorksNode n)
works-lead n s w x t f h =
    free-step (WorksAll s.worked) s w n (work-all w.hand s.worked)
    (works-all-lawful s.worked) x t f h

pub poll-step : (s : Stage) (w : Moment) (n : ℕ) (before now : Timed) (x : List Fact)
    → slice_get s.nodes n ≡ Some before → RightNode before.lists → Valid before.lists
    → PollBy (FinishesWorked s.worked) SendsAll plain_mode s.clock before x now
    → max before.clock s.clock ≡ s.clock → NodeStep s w n before now x
poll-step s w n before now x is sound valid p m =
    let k = poll-fine plain_mode s.worked w.hand (record
    { lists = before.lists; clock = max before.clock s.clock }) x now sound p in
    let at = k.clock in
    record {
      is_node = is;
      walks = walks-from w.hand (latest w.past) s.clock before.lists x
          (subst (λ (c : ℕ). Walks w.hand c before.lists x) m k.walks);
      lawful = subst (λ (c : ℕ). AllLawful c before.lists x) m
          (poll-lawful plain_mode s.clock before x now valid
          (poll-within s.worked plain_mode s.clock before x now p)).all;
      lists = k.lists ∙ ap (λ (c : ℕ). after_all c before.lists x) m;
      late = omega arith;
      right = k.inv;
    }

pub poll-leads : (n : ℕ) → Leading (PollsNode n)
poll-leads n s w x t f h =
    let fit = f.nodes n h.before h.is_node in
    let late = fit.late in
    let m : max h.before.clock s.clock ≡ s.clock = omega arith in
    step-leads s w n h.before h.now x t f (poll-step s w n h.before h.now x h.is_node fit.right
    fit.valid h.step m) h.left

-- a copy is carried to its node
pub carry-net : (s : Stage) (w : Moment) (i : ℕ) → Fits s w
    → Fits (record s { flight = remove s.flight i }) (moved w (of_net (Carried i)))
carry-net s w i f = record {
  clock = f.clock;
  flight = ap (λ (c : List InFlight). remove c i) f.flight;
  size = f.size;
  unborn = f.unborn;
  nodes = λ j z is. let k = f.nodes j z is in record { is_node = k.is_node; me = k.me; life = k.life; late = k.late; right = k.right; valid = k.valid };
}

pub carry-leads : (i : ℕ) → Leading (Carries i)
carry-leads i s w x t f h =
    let u = moved w (of_net (Carried i)) in
    let g = carry-net s w i f in
    let a = h.arrives in
    let copy = h.copy in
    let fit = g.nodes copy.to a.before a.is_node in
    let hand : Option InFlight = Some (record { from = copy.from; to = a.before.lists.me; bytes = copy.bytes }) in
    let is_hand : u.hand ≡ hand =
    ap (λ (c : List InFlight). slice_get c i) f.flight
    ∙ (h.is_copy ∙ ap (λ (n : ℕ). Some
    (record { from = copy.from; to = n; bytes = copy.bytes })) (sym fit.me)) in
    let carried : Option Fact = Some (of_net (Carried i)) in
    let k = delivers-fine RightNode right-stays carried copy.from copy.bytes a.before h.delivered
    a.now refl fit.right a.step in
    let same = one-after a.before.clock s.clock a.before.lists h.delivered _ a.step.facts
    (delivery-clock (is_message copy.bytes)
    (nat_lt (length a.before.lists.ring) a.before.lists.room) (is_control copy.bytes)
    (nat_lt (length a.before.lists.inbox) inbox_room) a.before.clock s.clock copy.from
    copy.bytes a.before.lists) in
    let late = fit.late in
    let clock = k.clock in
    let walks : WalksFrom u.hand carried s.clock a.before.lists h.delivered =
    subst (λ (o : Option InFlight). WalksFrom o carried s.clock a.before.lists h.delivered)
    (sym is_hand) (one-walk hand carried a.before.clock s.clock a.before.lists h.delivered _
    a.step.facts k.walks) in
    let l = step-leads (record s { flight = remove s.flight i }) u copy.to a.before a.now h.delivered t g (record {
      is_node = a.is_node;
      walks = walks;
      lawful = one-lawful a.before.clock s.clock a.before.lists h.delivered _ a.step.facts
          (delivers-lawful copy.from copy.bytes a.before h.delivered a.now fit.valid a.step).all;
      lists = k.lists ∙ same;
      late = omega arith;
      right = k.inv;
    }) a.left in
    rw h.facts (record {
      end = l.end;
      course = in_net w (of_net (Carried i)) h.delivered l.end refl
          l.course;
      fits = l.fits;
    })

arrive-by : (i : ℕ) (b : Bool) (s : Stage) (w : Moment) (x : List Fact) (t : Stage) → Fits s w
    → MatchBool b (Carries i s x t) (OfNet (Missed i) s x t) → Leads w x t
arrive-by i true s w x t f h = carry-leads i s w x t f h
arrive-by i false s w x t f h = missed-leads i s w x t f h

pub arrive-leads : (i : ℕ) → Leading (Arrives i)
arrive-leads i s w x t f h = arrive-by i (nat_lt i (length s.flight)) s w x t f h

-- one group, and then others
pub joins-lead : (P Q : Stage → List Fact → Stage → Type 0) → Leading P → Leading Q → Leading (Joins P Q)
joins-lead P Q p q s w x t f h =
    let l = p s w h.group h.between f h.does in
    rw h.joined (leads-append h.between w h.group h.rest t l
    (q h.between l.end h.rest t l.fits h.follows))

pub times-lead : (P : Stage → List Fact → Stage → Type 0) → Leading P → (n : ℕ) → Leading (Times P n)
times-lead P p zero s w x t f h = leads-none s t w x f h.0 h.1
times-lead P p (suc n) s w x t f h = joins-lead (Times P n) P (times-lead P p n) p s w x t f h

pub polls-lead : (n : ℕ) → Leading (PollsFirst n)
polls-lead zero s w x t f h = leads-none s t w x f h.0 h.1
polls-lead (suc n) s w x t f h = joins-lead (PollsFirst n) (PollsNode n) (polls-lead n)
    (poll-leads n) s w x t f h

pub first-works-lead : (n : ℕ) → Leading (WorksFirst n)
first-works-lead zero s w x t f h = leads-none s t w x f h.0 h.1
first-works-lead (suc n) s w x t f h =
    joins-lead (WorksFirst n) (WorksNode n) (first-works-lead n) (works-lead n) s w x t f h

pub works-polls-lead : (n : ℕ) → Leading (WorksAndPolls n)
works-polls-lead n s w x t f h =
    joins-lead (WorksFirst n) (PollsFirst n) (first-works-lead n) (polls-lead n) s w x t f h

pub round-leads : Leading Round
round-leads s w x t f h =
    joins-lead (Times (Carries 0) (length s.flight)) (λ u. WorksAndPolls (length u.nodes) u)
    (times-lead (Carries 0) (carry-leads 0) (length s.flight))
    (λ u. works-polls-lead (length u.nodes) u) s w x t f h

unless-leads : (b : Bool) (P : Stage → List Fact → Stage → Type 0) → Leading P → Leading (Unless b P)
unless-leads true P p s w x t f h = leads-none s t w x f h.0 h.1
unless-leads false P p s w x t f h = p s w x t f h

pub settles-lead : (k : ℕ) → Leading (Settles k)
settles-lead zero s w x t f h = leads-none s t w x f h.0 h.1
settles-lead (suc k) s w x t f h =
    let l = round-leads s w h.round h.between f h.makes in
    rw h.joined (leads-append h.between w h.round h.rest t l
    (unless-leads (list_all (λ f. is_polled f.event) h.round) (Settles k)
    (settles-lead k) h.between l.end h.rest t l.fits h.goes_on))
