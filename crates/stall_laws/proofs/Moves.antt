-- In a history that follows a script, what is due is done next, and nothing is due at its end.
use Rattle.std.proofs.Common.{◌≡◌, ◌==◌, ◌||◌, ℕ, zero, suc, max, nat_lt, Bool, true, false, not}
use Rattle.std.proofs.Common.{cond}
use Rattle.std.proofs.Common.{List, [], ◌∷◌, ◌++◌, length, map, Option, Some, None, slice_get, refl}
use Rattle.std.proofs.Common.{sym, ap, ◌∙◌, subst, arith}
use Rattle.std.specs.Bool.{MatchBool}
use Rattle.std.specs.List.{find, list_all, AllByRecursion}
use Rattle.rpc_base.proofs.BasicLemmas.{false-true}
use Rattle.rpc_base.specs.declared.event.Event.{Event}
use Rattle.rpc_base.specs.declared.event.Event.TheVariants.{Carried, Missed, Lost, Repeated}
use Rattle.rpc_base.specs.declared.event.Event.TheVariants.{Arrived, Overflowed, Bad}
use Rattle.rpc_base.specs.declared.event.Event.TheVariants.{NcallTooLarge, Rated, Nrate}
use Rattle.rpc_base.specs.declared.event.Event.TheVariants.{NcloseState, NcloseBusy, Closing}
use Rattle.rpc_base.specs.declared.event.Event.TheVariants.{NconnectRing, NconnectNumbers, Worked}
use Rattle.rpc_base.specs.declared.fact.Fact.{Fact}
use Rattle.rpc_base.specs.declared.fact.Who.{Who}
use Rattle.rpc_base.specs.declared.fact.Who.TheVariants.{Node, Net}
use Rattle.rpc_base.specs.declared.state.SessionState.{SessionState}
use Rattle.rpc_base.specs.declared.state.SessionState.TheVariants.{Connected}
use Rattle.rpc_base.proofs.PlaceLemmas.{set-here}
use Rattle.network_model.specs.declared.stage.Stage.{Stage}
use Rattle.rpc_laws.specs.declared.tables.InFlight.{InFlight}
use Rattle.rpc_laws.specs.declared.tables.Job.{Job}
use Rattle.rpc_laws.specs.declared.tables.Lists.{Lists}
use Rattle.rpc_laws.specs.declared.tables.Timed.{Timed}
use Rattle.rpc_laws.specs.Deliveries.{inbox_room}
use Rattle.rpc_laws.specs.Endpoints.{life_by, told}
use Rattle.rpc_laws.specs.Facts.{plain, of_net}
use Rattle.rpc_laws.specs.Front.{is_message, is_control}
use Rattle.rpc_laws.specs.Groups.{ask_by_state, state_of, pending}
use Rattle.rpc_laws.specs.Groups.{clients_spent, servers_spent, has_no_room, pair_refusal}
use Rattle.rpc_laws.specs.Groups.{client_refusal, connect_by, shares}
use Rattle.rpc_laws.specs.NodeLists.{after}
use Rattle.rpc_laws.specs.Sessions.{is_client, is_connected, is_live}
use Rattle.rpc_laws.specs.Working.{work_of, waiting_of}
use Rattle.script_grammar.specs.declared.line.Command.{Command}
use Rattle.script_grammar.specs.declared.line.Command.TheVariants.{Node as MakesNode, Pair, Connect}
use Rattle.script_grammar.specs.declared.line.Command.TheVariants.{Disconnect}
use Rattle.script_grammar.specs.declared.line.Command.TheVariants.{Rate, Call, Poll, Arrive, Lose}
use Rattle.script_grammar.specs.declared.line.Command.TheVariants.{Repeat, Restart, Tick, Work}
use Rattle.script_grammar.specs.declared.line.Command.TheVariants.{Settle}
use Rattle.script_grammar.specs.declared.line.Line.{Line}
use Rattle.sim_script.specs.FollowsScript.{OfNet, Carries, ask_bytes}
use Rattle.sim_script.specs.FollowsScript.{PollsNode, Joins, Times, PollsFirst, PairsBy}
use Rattle.sim_script.specs.FollowsScript.{WorksNode, WorksFirst, WorksAndPolls, Round, Unless}
use Rattle.sim_script.specs.FollowsScript.{Does}
use Rattle.sim_script.specs.FollowsScript.{Settles, is_polled, FollowsFrom, Follows, empty_stage}
use Rattle.node_laws.proofs.Allowed.{AllAllowed as AllLawful, allowed-of}
use Rattle.end_laws.specs.Moments.{Moment, first_moment, hand_noted, moved}
use Rattle.end_laws.specs.TwoNodes.{PairsTwoNodes}
use Rattle.end_laws.proofs.Allowed.{WalksFrom}
use Rattle.end_laws.proofs.CommandLeads.{poll-step, carry-net, times-lead, polls-lead, carry-leads}
use Rattle.end_laws.proofs.CommandLeads.{first-works-lead, round-leads}
use Rattle.end_laws.proofs.Courses.{made_as, resets, latest, AtNode, Course, over, in_net, made}
use Rattle.end_laws.proofs.Courses.{at_node, may-unmade, pairs, restarts}
use Rattle.end_laws.proofs.Courses.{noted_at, moved-node}
use Rattle.end_laws.proofs.Leads.{Fits, Leading, life-kept, unbegun}
use Rattle.end_laws.proofs.PairLeads.{does-lead, empty-fits}
use Rattle.stall_laws.specs.Settled.{moment_from}
use Rattle.stall_laws.proofs.Dues.{Due, nothing, delivery, Step, alone, arrives, overflows, is_bad}
use Rattle.stall_laws.proofs.Dues.{is_alone, StepsFrom}
use Rattle.stall_laws.proofs.OrderSteps.{poll-orders}

-- what a fact of the network leaves to be done
abbrev pub net_due : Event → Due
net_due (Carried i) = delivery
net_due _ = nothing

-- one fact: from what was due to what is
abbrev pub MovesAt : Option InFlight → Option Lists → Event → List ℕ → Due → Due → Type 0
MovesAt hand None e first d u = (is_alone e ≡ true) × (d ≡ nothing) × (u ≡ nothing)
MovesAt hand (Some l) e first d u = Step hand l first d e u

abbrev pub MovesBy : Moment → Who → Event → List ℕ → Due → Due → Type 0
MovesBy w (Node n) e first d u = MovesAt w.hand (slice_get w.nodes n) e first d u
MovesBy w Net e first d u = (d ≡ nothing) × (u ≡ net_due e)

-- some facts, one after another
abbrev pub MovesFrom : Due → Moment → List Fact → Due → Type 0
MovesFrom d w [] e = d ≡ e
MovesFrom d w (f ∷ h) e = (u : Due) × MovesBy w f.who f.event f.first d u × MovesFrom u (moved w f) h e

pub moves-append : (d : Due) (w : Moment) (x y : List Fact) (u e : Due) → MovesFrom d w x u
    → MovesFrom u (moment_from w x) y e → MovesFrom d w (x ++ y) e
moves-append d w [] y u e h k = rw h k
moves-append d w (f ∷ x) y u e h k = (h.0, h.1, moves-append h.0 (moved w f) x y u e h.2 k)

-- a course leads to the moment that its facts leave
pub course-end : (w : Moment) (x : List Fact) (u : Moment) → Course false w x u → u ≡ moment_from w x
course-end _ _ _ (over w) = refl
course-end _ _ _ (made_as w limits h u is c) = absurd (cc)
course-end _ _ _ (resets w clock h u is c) = absurd (cc)
course-end _ _ _ (in_net w f h u who c) = course-end (moved w f) h u c
course-end _ _ _ (made w ring h u c) = course-end _ h u c
course-end _ _ _ (at_node w n l f h u a c) = course-end (moved w f) h u c
course-end _ _ _ (restarts w n l h u is me life c) = course-end _ h u c
course-end _ _ _ (pairs w n m credits client server h u a c) = course-end _ h u c

-- facts that are alone
abbrev AllAlone : List Fact → Type 0
AllAlone x = AllByRecursion (λ f. is_alone f.event ≡ true) x

net-alone : (e : Event) → is_alone e ≡ true → nothing ≡ net_due e
net-alone (Carried i) h = false-true h
net-alone _ h = refl

at-alone : (hand : Option InFlight) (o : Option Lists) (e : Event) (first : List ℕ)
    → is_alone e ≡ true → MovesAt hand o e first nothing nothing
at-alone hand None e first h = (h, refl, refl)
at-alone hand (Some l) e first h = alone e h

by-alone : (w : Moment) (who : Who) (e : Event) (first : List ℕ) → is_alone e ≡ true
    → MovesBy w who e first nothing nothing
by-alone w (Node n) e first h = at-alone w.hand (slice_get w.nodes n) e first h
by-alone w Net e first h = (refl, net-alone e h)

moves-alone : (w : Moment) (x : List Fact) → AllAlone x → MovesFrom nothing w x nothing
moves-alone w [] a = refl
moves-alone w (f ∷ x) a = (nothing, by-alone w f.who f.event f.first a.0, moves-alone (moved w f) x a.1)

-- the facts of a node
node-moves : (w : Moment) (n : ℕ) (l : Lists) (x : List Fact) (d e : Due)
    → slice_get w.nodes n ≡ Some l → l.me ≡ n → l.life ≡ life_by n w.past
    → WalksFrom w.hand (latest w.past) w.clock l x
    → AllLawful w.clock l x → StepsFrom w.hand d w.clock l x e → MovesFrom d w x e
node-moves w n l [] d e is me life h v s = s
node-moves w n l (f ∷ x) d e is me life h v s =
    let a : AtNode w n l f = record {
      is_node = is;
      me = me;
      life = life;
      allowed = h.0;
      lawful = allowed-of l f.event f.first f.second v.0;
      linked = h.1;
    } in
    let at = moved-node w n l f a in
    let u = s.0 in
    let who : f.who ≡ Node n = s.1 ∙ ap Node me in
    let here : MovesAt w.hand (slice_get w.nodes n) f.event f.first d u =
    subst (λ (o : Option Lists). MovesAt w.hand o f.event f.first d u) (sym is) s.2 in
    let walks : WalksFrom (hand_noted n f.event l.inbox w.hand) (Some f) w.clock
    (after w.clock l f) x =
    subst (λ (m : ℕ). WalksFrom (hand_noted m f.event l.inbox w.hand) (Some f) w.clock
    (after w.clock l f) x)
    me h.2 in
    let next : StepsFrom (hand_noted n f.event l.inbox w.hand) u w.clock (after w.clock l f) x e =
    subst (λ (m : ℕ). StepsFrom (hand_noted m f.event l.inbox w.hand) u w.clock
    (after w.clock l f) x e)
    me s.3 in
    let kept = life-kept n (told w.past f) w.past
    (unbegun f.event (may-unmade w.hand l f.event f.first f.second h.0.may)) in
    let rest = node-moves (noted_at w n l f) n (after w.clock l f) x u e
    (set-here w.nodes n l (after w.clock l f) is) me (life ∙ sym kept) walks v.1 next in (
      u,
      subst (λ (p : Who). MovesBy w p f.event f.first d u) (sym who) here,
      subst (λ (v : Moment). MovesFrom u v x e) (sym at) rest,
    )

-- each step does what is due
abbrev Moving : (Stage → List Fact → Stage → Type 0) → Type 0
Moving P = (s : Stage) (w : Moment) (x : List Fact) (t : Stage) → Fits s w → P s x t
    → MovesFrom nothing w x nothing

polls-move : (n : ℕ) → Moving (PollsNode n)
polls-move n s w x t f h =
    let fit = f.nodes n h.before h.is_node in
    let late = fit.late in
    let m : max h.before.clock s.clock ≡ s.clock = omega arith in
    let k = poll-step s w n h.before h.now x h.is_node fit.right fit.valid h.step m in
    let start : Timed = record { lists = h.before.lists; clock = max h.before.clock s.clock } in
    let steps : StepsFrom w.hand nothing (max h.before.clock s.clock) h.before.lists x nothing =
    poll-orders s.worked w.hand start x h.now fit.right h.step in
    let at : StepsFrom w.hand nothing w.clock h.before.lists x nothing =
    subst (λ (c : ℕ). StepsFrom w.hand nothing c h.before.lists x nothing) (m ∙ sym f.clock) steps in
    let walks : WalksFrom w.hand (latest w.past) w.clock h.before.lists x = rw (f.clock) k.walks in
    let lawful : AllLawful w.clock h.before.lists x = rw (f.clock) k.lawful in
    node-moves w n h.before.lists x nothing nothing fit.is_node fit.me fit.life walks lawful at

-- a copy is carried and delivered
delivered-by : (hand : Option InFlight) (l : Lists) (copy : InFlight) (a b c d : Bool)
    → is_message copy.bytes ≡ a → hand ≡ Some copy
    → Step hand l copy.bytes delivery (cond a (cond b (Arrived copy.from) (Overflowed copy.from))
    (cond c (cond d (Arrived copy.from) (Overflowed copy.from)) (Bad copy.from))) nothing
delivered-by hand l copy true true c d e h = arrives copy.from
delivered-by hand l copy true false c d e h = overflows copy.from
delivered-by hand l copy false b true true e h = arrives copy.from
delivered-by hand l copy false b true false e h = overflows copy.from
delivered-by hand l copy false b false d e h = is_bad copy.from copy h e

carries-move : (i : ℕ) → Moving (Carries i)
carries-move i s w x t f h =
    let u = moved w (of_net (Carried i)) in
    let g = carry-net s w i f in
    let a = h.arrives in
    let copy = h.copy in
    let fit = g.nodes copy.to a.before a.is_node in
    let l = a.before.lists in
    let is_hand : u.hand ≡ Some copy = ap (λ (c : List InFlight). slice_get c i) f.flight ∙ h.is_copy in
    let step = delivered-by u.hand l copy (is_message copy.bytes) (nat_lt (length l.ring) l.room)
    (is_control copy.bytes) (nat_lt (length l.inbox) inbox_room) refl is_hand in
    let e : Event = cond (is_message copy.bytes) (cond (nat_lt (length l.ring) l.room) (Arrived copy.from)
    (Overflowed copy.from)) (cond (is_control copy.bytes) (cond (nat_lt (length l.inbox) inbox_room)
    (Arrived copy.from) (Overflowed copy.from)) (Bad copy.from)) in
    let at : MovesAt u.hand (slice_get u.nodes copy.to) e copy.bytes delivery nothing =
    subst (λ (o : Option Lists). MovesAt u.hand o e copy.bytes delivery nothing) (sym fit.is_node) step in
    let here : MovesBy u (Node l.me) e copy.bytes delivery nothing =
    subst (λ (n : ℕ). MovesBy u (Node n) e copy.bytes delivery nothing) (sym fit.me) at in
    rw (h.facts, a.step.facts) (delivery, (refl, refl), (nothing, here, refl))

-- commands whose facts are alone
refusal-alone : (a b : Bool) (n credits room : ℕ) (e : Event)
    → cond a (Some NconnectNumbers) (cond b (Some (NconnectRing n credits room)) None) ≡ Some e
    → is_alone e ≡ true
refusal-alone true b n credits room e h = let same : NconnectNumbers ≡ e = cc in ap is_alone (sym same)
refusal-alone false true n credits room e h =
    let same : NconnectRing n credits room ≡ e = cc in ap is_alone (sym same)
refusal-alone false false n credits room e h = cc

connect-alone : (o : Option Event) (peer credits : ℕ) (l : Lists) → client_refusal credits l ≡ o
    → AllAlone (connect_by o peer credits 0 l)
connect-alone None peer credits l is = (refl, tt)
connect-alone (Some e) peer credits l is =
    (refusal-alone (clients_spent l) (has_no_room credits l) (shares l) credits l.room e is, tt)

disconnect-alone : (a b : Bool) (session calls : ℕ) (state : SessionState)
    → is_alone (cond (not a) (NcloseState session state)
    (cond (not b) (NcloseBusy session calls) (Closing session))) ≡ true
disconnect-alone false b session calls state = refl
disconnect-alone true false session calls state = refl
disconnect-alone true true session calls state = refl

rate-alone : (b : Bool) (session rate : ℕ) (state : SessionState)
    → is_alone (cond b (Rated session rate) (Nrate session state)) ≡ true
rate-alone true session rate state = refl
rate-alone false session rate state = refl

state-alone : (state : SessionState) (session y room : ℕ) (ask : List ℕ) (l : Lists)
    → is_alone (ask_by_state state session y room ask l).event ≡ true
state-alone Connected session y room ask l = refl
state-alone _ session y room ask l = refl

ask-alone : (b : Bool) (session y room : ℕ) (ask : List ℕ) (l : Lists) (state : SessionState)
    → is_alone (cond b (plain l.me (NcallTooLarge session (length ask)))
    (ask_by_state state session y room ask l)).event ≡ true
ask-alone true session y room ask l state = refl
ask-alone false session y room ask l state = state-alone state session y room ask l

missed-alone : (b : Bool) (e : Event) (i : ℕ) → is_alone e ≡ true → is_alone (cond b e (Missed i)) ≡ true
missed-alone true e i h = h
missed-alone false e i h = refl

work-alone : (i : ℕ) (o : Option Job) → is_alone (work_of i o) ≡ true
work-alone i None = refl
work-alone i (Some job) = refl

works-alone : (me : ℕ) (jobs : List Job) → AllAlone (map (λ job. plain me (Worked job.session job.request)) jobs)
works-alone me [] = tt
works-alone me (job ∷ jobs) = (refl, works-alone me jobs)

pairs-alone : (e g : Option Event) (a b credits : ℕ) (client server : Timed) (s : Stage)
    (x : List Fact) (t : Stage) → pair_refusal credits client.lists ≡ e
    → pair_refusal credits server.lists ≡ g → PairsBy e g a b credits client server s x t
    → AllAlone x
pairs-alone (Some e) g a b credits client server s x t r q p =
    let l = client.lists in
    rw p.0 (
      refusal-alone (clients_spent l || servers_spent l) (has_no_room credits l)
          (shares l) credits l.room e r,
      tt,
    )
pairs-alone None (Some e) a b credits client server s x t r q p =
    let l = server.lists in
    rw p.0 (
      refusal-alone (clients_spent l || servers_spent l) (has_no_room credits l)
          (shares l) credits l.room e q,
      tt,
    )
pairs-alone None None a b credits client server s x t r q p = rw (p.facts, p.for_client, p.for_server) (
  refl,
  (refl, tt),
)

works-move : (n : ℕ) → Moving (WorksNode n)
works-move n s w x t f h =
    moves-alone w x (rw (h.step.facts) (works-alone h.before.lists.me (waiting_of s.worked h.before.lists)))

-- one group, and then others
joins-move : (P Q : Stage → List Fact → Stage → Type 0) → Leading P → Moving P → Moving Q → Moving (Joins P Q)
joins-move P Q lead p q s w x t f h =
    let l = lead s w h.group h.between f h.does in
    let rest = q h.between l.end h.rest t l.fits h.follows in
    rw h.joined (moves-append nothing w h.group h.rest nothing nothing
    (p s w h.group h.between f h.does)
    (subst (λ (v : Moment). MovesFrom nothing v h.rest nothing)
    (course-end w h.group l.end l.course) rest))

none-move : (w : Moment) (x : List Fact) → x ≡ [] → MovesFrom nothing w x nothing
none-move w x e = rw e refl

times-move : (P : Stage → List Fact → Stage → Type 0) → Leading P → Moving P → (n : ℕ) → Moving (Times P n)
times-move P lead p zero s w x t f h = none-move w x h.0
times-move P lead p (suc n) s w x t f h =
    joins-move (Times P n) P (times-lead P lead n) (times-move P lead p n) p s w x t f h

first-polls-move : (n : ℕ) → Moving (PollsFirst n)
first-polls-move zero s w x t f h = none-move w x h.0
first-polls-move (suc n) s w x t f h =
    joins-move (PollsFirst n) (PollsNode n) (polls-lead n) (first-polls-move n)
    (polls-move n) s w x t f h

first-works-move : (n : ℕ) → Moving (WorksFirst n)
first-works-move zero s w x t f h = none-move w x h.0
first-works-move (suc n) s w x t f h =
    joins-move (WorksFirst n) (WorksNode n) (first-works-lead n) (first-works-move n)
    (works-move n) s w x t f h

round-move : Moving Round
round-move s w x t f h =
    joins-move (Times (Carries 0) (length s.flight)) (λ u. WorksAndPolls (length u.nodes) u)
    (times-lead (Carries 0) (carry-leads 0) (length s.flight))
    (times-move (Carries 0) (carry-leads 0) (carries-move 0) (length s.flight))
    (λ u. joins-move (WorksFirst (length u.nodes)) (PollsFirst (length u.nodes))
    (first-works-lead (length u.nodes)) (first-works-move (length u.nodes))
    (first-polls-move (length u.nodes)) u) s w x t f h

unless-move : (b : Bool) (P : Stage → List Fact → Stage → Type 0) → Moving P → Moving (Unless b P)
unless-move true P p s w x t f h = none-move w x h.0
unless-move false P p s w x t f h = p s w x t f h

settles-move : (k : ℕ) → Moving (Settles k)
settles-move zero s w x t f h = none-move w x h.0
settles-move (suc k) s w x t f h =
    let l = round-leads s w h.round h.between f h.makes in
    let rest = unless-move (list_all (λ f. is_polled f.event) h.round) (Settles k)
    (settles-move k) h.between l.end h.rest t l.fits h.goes_on in
    rw h.joined (moves-append nothing w h.round h.rest nothing nothing
    (round-move s w h.round h.between f h.makes)
    (subst (λ (v : Moment). MovesFrom nothing v h.rest nothing)
    (course-end w h.round l.end l.course) rest))

arrives-by : (i : ℕ) (b : Bool) (s : Stage) (w : Moment) (x : List Fact) (t : Stage) → Fits s w
    → MatchBool b (Carries i s x t) (OfNet (Missed i) s x t)
    → MovesFrom nothing w x nothing
arrives-by i true s w x t f h = carries-move i s w x t f h
arrives-by i false s w x t f h = rw (h.facts) (moves-alone w (of_net (Missed i) ∷ []) (refl, tt))

does-move : (c : Command) → Moving (Does c)
does-move (MakesNode ring) s w x t f h = moves-alone w x (rw (h.facts) (refl, tt))
does-move (Pair a b credits) s w x t f h =
    moves-alone w x (pairs-alone _ _ a b credits h.client h.server s x t
    refl refl h.pairs)
does-move (Connect a b credits) s w x t f h = moves-alone w x (rw (h.step.facts)
    (connect-alone _ b credits h.before.lists refl))
does-move (Disconnect n session) s w x t f h =
    let client = find (is_client session) h.before.lists.clients in
    moves-alone w x (rw (h.step.facts) (
      disconnect-alone (is_connected (state_of client))
          (pending client == 0) session (pending client) (state_of client),
      tt,
    ))
does-move (Rate n session rate) s w x t f h =
    let state = state_of (find (is_client session) h.before.lists.clients) in
    moves-alone w x (rw (h.step.facts) (rate-alone (is_live state) session rate state, tt))
does-move (Call n session y ask room) s w x t f h =
    let l = h.before.lists in
    moves-alone w x (rw (h.step.facts) (
      ask-alone (nat_lt 1048576 (length (ask_bytes ask))) session y room
          (ask_bytes ask) l (state_of (find (is_client session) l.clients)),
      tt,
    ))
does-move (Poll n) s w x t f h = polls-move n s w x t f h
does-move (Arrive i) s w x t f h = arrives-by i (nat_lt i (length s.flight)) s w x t f h
does-move (Lose i) s w x t f h = moves-alone w x (rw (h.facts) (
  missed-alone (nat_lt i (length s.flight))
      (Lost i) i refl,
  tt,
))
does-move (Repeat i) s w x t f h = moves-alone w x (rw (h.facts) (
  missed-alone (nat_lt i (length s.flight))
      (Repeated i) i refl,
  tt,
))
does-move (Tick by) s w x t f h = moves-alone w x (rw (h.facts) (refl, tt))
does-move (Work n i) s w x t f h = moves-alone w x (rw (h.step.facts) (
  work-alone i (slice_get
      (waiting_of s.worked h.before.lists) i),
  tt,
))
does-move (Settle rounds) s w x t f h = settles-move rounds s w x t f h
does-move (Restart n) s w x t f h = moves-alone w x (rw (h.facts) (refl, tt))

lines-move : (lines : List Line) → PairsTwoNodes lines → Moving (FollowsFrom lines)
lines-move [] p s w x t f h = none-move w x h.0
lines-move (line ∷ lines) p s w x t f h =
    joins-move (Does line.command) (FollowsFrom lines) (does-lead line.command p.0)
    (does-move line.command) (lines-move lines p.1) s w x t f h

-- so it is of every history that follows a script
pub follows-moves : (lines : List Line) (h : List Fact) → PairsTwoNodes lines
    → Follows lines h → MovesFrom nothing first_moment h nothing
follows-moves lines h p d =
    lines-move lines p empty_stage first_moment h d.0 empty-fits d.1.commands
