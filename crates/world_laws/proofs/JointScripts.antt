-- Each command of a script makes steps of a joint run.
use Rattle.std.proofs.Common.{◌≡◌, ◌+◌, ◌≤◌, ◌⊎◌, inl, inr, ◌||◌, ℕ, zero, suc, Bool, true, false, cond, nat_lt, List, [], ◌∷◌, ◌++◌, length, Option, Some, None}
use Rattle.std.proofs.Common.{slice_get, refl, sym, ap, ◌∙◌, subst, append_assoc, append-nil, arith, ltb-true, leb-false}
use Rattle.std.specs.Bool.{MatchBool}
use Rattle.std.specs.List.{list_all, remove, slice_set}
use Rattle.network_model.specs.declared.stage.Stage.{Stage}
use Rattle.rpc_base.specs.declared.event.Event.{Event}
use Rattle.rpc_base.specs.declared.event.Event.TheVariants.{Made, Missed, Lost, Repeated, Ticked}
use Rattle.rpc_base.specs.declared.event.Event.TheVariants.{NconnectNumbers, NconnectRing}
use Rattle.rpc_base.specs.declared.fact.Fact.{Fact}
use Rattle.rpc_base.specs.declared.limits.Limits.{Limits}
use Rattle.rpc_laws.specs.declared.tables.InFlight.{InFlight}
use Rattle.rpc_laws.specs.declared.tables.Lists.{Lists}
use Rattle.rpc_laws.specs.declared.tables.Timed.{Timed}
use Rattle.rpc_laws.specs.Deliveries.{inbox_room}
use Rattle.rpc_laws.specs.Front.{is_message, is_control}
use Rattle.rpc_base.specs.declared.event.Event.TheVariants.{Arrived, Overflowed, Bad}
use Rattle.world_laws.proofs.NodeLaws.{runs}
use Rattle.rpc_laws.specs.Facts.{plain, of_net, with_bytes}
use Rattle.rpc_laws.specs.Groups.{Asks, Connects, Disconnects, SetsRate, pair_refusal}
use Rattle.rpc_laws.specs.Groups.{clients_spent, servers_spent, has_no_room, shares}
use Rattle.rpc_base.proofs.PlaceLemmas.{set-here}
use Rattle.rpc_laws.specs.InFlight.{flight_after, flight_after_all, flight_after_net}
use Rattle.rpc_laws.specs.Lives.{first_life}
use Rattle.rpc_laws.specs.NodeLists.{after}
use Rattle.rpc_laws.specs.Service.{plain_serving}
use Rattle.rpc_laws.specs.UsualLimits.{with_ring}
use Rattle.rpc_laws.specs.Steps.{Rel, Chain, none as no_group, more as more_groups}
use Rattle.rpc_laws.specs.Working.{Works}
use Rattle.rpc_outside.specs.PlainAnswer.{plain_mode}
use Rattle.rpc_laws.proofs.PollLemmas.{poll-within}
use Rattle.node_laws.specs.NodeRun.{Notes, IsCredits, refuses, connects}
use Rattle.node_laws.specs.NodeRun.{disconnects, sets_rate, asks, polls}
use Rattle.node_laws.specs.NodeRun.{LifeRun, NodeRun, lives_on, restarts}
use Rattle.end_laws.specs.JointRun.{Party, Joint, JointSteps, usual_party}
use Rattle.end_laws.specs.JointRun.{NetMay, AloneGroup}
use Rattle.end_laws.specs.JointRun.{makes, acts, pairs, carries, of_network, none, more}
use Rattle.end_laws.specs.TwoNodes.{PairsTwo, PairsTwoNodes}
use Rattle.end_laws.proofs.Leads.{set-twice}
use Rattle.script_grammar.specs.declared.line.Command.{Command}
use Rattle.script_grammar.specs.declared.line.Command.TheVariants.{Node, Pair, Connect, Disconnect}
use Rattle.script_grammar.specs.declared.line.Command.TheVariants.{Rate, Call, Poll as PollNode}
use Rattle.script_grammar.specs.declared.line.Command.TheVariants.{Arrive, Lose, Repeat, Tick, Work}
use Rattle.script_grammar.specs.declared.line.Command.TheVariants.{Restart, Settle}
use Rattle.script_grammar.specs.declared.line.Line.{Line}
use Rattle.sim_script.specs.FollowsScript.{ask_bytes, AtNode, Makes}
use Rattle.sim_script.specs.FollowsScript.{PairsBy, Pairs, OfNet, or_missed, Carries, Ticks}
use Rattle.sim_script.specs.FollowsScript.{PollsNode, Joins, Times, PollsFirst, WorksNode}
use Rattle.sim_script.specs.FollowsScript.{WorksFirst, WorksAndPolls, Round, is_polled, Unless}
use Rattle.sim_script.specs.FollowsScript.{Settles, Does, FollowsFrom, empty_stage}
use Rattle.world_laws.specs.FewCredits.{PairsFew, PairsFewCredits}
use Rattle.world_laws.specs.JointNodes.{FollowsJointly, joint_of}
use Rattle.world_laws.specs.NeverRestarts.{NeverRestarts, RestartsNone}
use Rattle.world_laws.specs.NodeFacts.{facts_of, RunAt}
use Rattle.world_laws.proofs.FactLemmas.{set-same}
use Rattle.world_laws.proofs.JointNodes.{joint-life}
use Rattle.world_laws.proofs.LifeFacts.{life-least}
use Rattle.world_laws.proofs.WorkLemmas.{times_worked, worked-cons}
use Rattle.world_laws.proofs.WorkSteps.{Alone, all-alone, works-alone}

abbrev usual : ℕ → Party
usual n = usual_party

abbrev Steps : List Fact → Joint → Type 0
Steps h t = JointSteps usual h t

-- from a joint run to one
abbrev Jointly : (Stage → List Fact → Stage → Type 0) → Type 0
Jointly P = (s : Stage) (h x : List Fact) (t : Stage) → Steps h (joint_of s) → P s x t → Steps (h ++ x) (joint_of t)

joint-none : (s : Stage) (h x : List Fact) (t : Stage) → Steps h (joint_of s) → x ≡ [] → t ≡ s → Steps (h ++ x) (joint_of t)
joint-none s h x t r e f = rw (e, f, append-nil h) r

-- each group of a node alone is a step
one-act : (n : ℕ) (s : Joint) (h : List Fact) (before now : Timed) (x : List Fact)
    → Steps h s → slice_get s.nodes n ≡ Some before → AloneGroup plain_mode before x now
    → Steps (h ++ x) (record { nodes = slice_set s.nodes n now; flight = flight_after_all s.flight x })
one-act n s h before now x r is g =
    more r x _ (acts (record {
      node = n;
      before = before;
      now = now;
      is_node = is;
      group = g;
      left = refl;
    }))

act-joint : (P : Rel) (n : ℕ) → ((s : Timed) (x : List Fact) (t : Timed) → P s x t → Alone s x t)
    → Jointly (AtNode P n)
act-joint P n alone s h x t r a =
    rw a.left (one-act n (joint_of s) h a.before a.now x r a.is_node (alone a.before x a.now a.step))

-- many groups, one after another
flight-append : (copies : List InFlight) (x y : List Fact)
    → flight_after_all copies (x ++ y) ≡ flight_after_all (flight_after_all copies x) y
flight-append copies [] y = refl
flight-append copies (f ∷ x) y = flight-append (flight_after copies f) x y

chain-acts : (n : ℕ) (s : Joint) (h : List Fact) (before : Timed) {x : List Fact} {now : Timed}
    → Steps h s → slice_get s.nodes n ≡ Some before → Chain Alone before x now
    → Steps (h ++ x) (record { nodes = slice_set s.nodes n now; flight = flight_after_all s.flight x })
chain-acts n s h before r is no_group =
    let same : s.nodes ≡ slice_set s.nodes n before = set-same s.nodes n before is in
    subst (λ (ns : List Timed). Steps (h ++ []) (record { nodes = ns; flight = s.flight })) same
    (subst (λ (y : List Fact). Steps y s) (sym (append-nil h)) r)
chain-acts n s h before r is (more_groups {x = front} {t = between} c y u g) =
    let first = chain-acts n s h before r is c in
    let next = one-act n (record { nodes = slice_set s.nodes n between; flight = flight_after_all s.flight front })
    (h ++ front) between u y first (set-here s.nodes n before between is) g in
    rw (← append_assoc h front y, flight-append s.flight front y, ← set-twice s.nodes n between u) next

net-joint : (e : Event) (s : Stage) (h x : List Fact) (t : Stage) → Steps h (joint_of s) → NetMay e s.flight
    → x ≡ of_net e ∷ [] → joint_of t ≡ record { nodes = s.nodes; flight = flight_after_net e s.flight }
    → Steps (h ++ x) (joint_of t)
net-joint e s h x t r may facts left =
    more r x (joint_of t) (of_network (record { event = e; may = may; facts = facts; left = left }))

of-net-joint : (e : Event) → Jointly (λ s x t. NetMay e s.flight × OfNet e s x t)
of-net-joint e s h x t r d =
    net-joint e s h x t r d.0 d.1.facts (ap joint_of d.1.left)

missed-joint : (i : ℕ) → Jointly (OfNet (Missed i))
missed-joint i s h x t r d = of-net-joint (Missed i) s h x t r (tt, d)

or-missed-joint : (e : Event) (i : ℕ) (s : Stage) (h x : List Fact) (t : Stage) (b : Bool) → Steps h (joint_of s)
    → (b ≡ true → NetMay e s.flight) → OfNet (cond b e (Missed i)) s x t → Steps (h ++ x) (joint_of t)
or-missed-joint e i s h x t true r may d = of-net-joint e s h x t r (may refl, d)
or-missed-joint e i s h x t false r may d = missed-joint i s h x t r d

lose-joint : (i : ℕ) → Jointly (λ s. OfNet (or_missed s.flight i (Lost i)) s)
lose-joint i s h x t r d =
    or-missed-joint (Lost i) i s h x t (nat_lt i (length s.flight)) r (λ e. ltb-true i (length s.flight) e) d

repeat-joint : (i : ℕ) → Jointly (λ s. OfNet (or_missed s.flight i (Repeated i)) s)
repeat-joint i s h x t r d =
    or-missed-joint (Repeated i) i s h x t (nat_lt i (length s.flight)) r (λ e. ltb-true i (length s.flight) e) d

tick-joint : (by : ℕ) → Jointly (Ticks by)
tick-joint by s h x t r d = net-joint (Ticked by) s h x t r tt d.facts (ap joint_of d.left)

made-joint : (ring : ℕ) → Jointly (Makes ring)
made-joint ring s h x t r m =
    more r x (joint_of t) (makes (record { ring = ring; facts = m.facts; left = ap joint_of m.left }))

call-joint : (n session req_type : ℕ) (ask : List ℕ) (room : ℕ) → Jointly (AtNode (Asks session req_type ask room) n)
call-joint n session req_type ask room =
    act-joint _ n (λ s x t h. record { group = asks session req_type ask room h; alone = tt })

connect-joint : (n peer credits : ℕ) → IsCredits credits → Jointly (AtNode (Connects peer credits 0) n)
connect-joint n peer credits few = act-joint _ n (λ s x t h. record { group = connects peer credits 0 few h; alone = tt })

disconnect-joint : (n session : ℕ) → Jointly (AtNode (Disconnects session) n)
disconnect-joint n session = act-joint _ n (λ s x t h. record { group = disconnects session h; alone = tt })

rate-joint : (n session rate : ℕ) → Jointly (AtNode (SetsRate session rate) n)
rate-joint n session rate = act-joint _ n (λ s x t h. record { group = sets_rate session rate h; alone = tt })

poll-joint : (n : ℕ) → Jointly (PollsNode n)
poll-joint n s h x t r a =
    act-joint _ n (λ u y v k. record {
      group = polls s.clock (poll-within s.worked plain_mode s.clock u y v k);
      alone = tt;
    }) s h x t r a

work-joint : (n i : ℕ) → Jointly (λ s. AtNode (Works s.worked i) n s)
work-joint n i s h x t r a = act-joint _ n (works-alone s.worked i) s h x t r a

work-all-joint : (n : ℕ) → Jointly (WorksNode n)
work-all-joint n s h x t r a =
    rw a.left (chain-acts n (joint_of s) h a.before r a.is_node (all-alone s.worked a.before x a.now a.step))

carry-joint : (i : ℕ) → Jointly (Carries i)
carry-joint i s h x t r c =
    let a = c.arrives in
    more r x (joint_of t) (carries (record {
      number = i;
      copy = c.copy;
      is_copy = c.is_copy;
      before = a.before;
      now = a.now;
      is_node = a.is_node;
      delivered = c.delivered;
      delivers = a.step;
      facts = c.facts;
      left = ap joint_of a.left ∙ ap (λ (f : List InFlight). record { nodes = slice_set s.nodes c.copy.to a.now; flight = f })
          (rw a.step.facts (delivery-unsent (is_message c.copy.bytes)
          (nat_lt (length a.before.lists.ring) a.before.lists.room) (is_control c.copy.bytes)
          (nat_lt (length a.before.lists.inbox) inbox_room) c.copy.from a.before.lists.me c.copy.bytes (remove s.flight i)));
    }))
  where
    delivery-unsent : (a b c d : Bool) (peer me : ℕ) (bytes : List ℕ) (copies : List InFlight)
        → flight_after_all copies (with_bytes me (cond a (cond b (Arrived peer) (Overflowed peer))
        (cond c (cond d (Arrived peer) (Overflowed peer)) (Bad peer))) bytes ∷ []) ≡ copies
    delivery-unsent true true c d peer me bytes copies = refl
    delivery-unsent true false c d peer me bytes copies = refl
    delivery-unsent false b true true peer me bytes copies = refl
    delivery-unsent false b true false peer me bytes copies = refl
    delivery-unsent false b false d peer me bytes copies = refl

arrive-by : (i : ℕ) (b : Bool) (s : Stage) (h x : List Fact) (t : Stage) → Steps h (joint_of s)
    → MatchBool b (Carries i s x t) (OfNet (Missed i) s x t) → Steps (h ++ x) (joint_of t)
arrive-by i true s h x t r d = carry-joint i s h x t r d
arrive-by i false s h x t r d = missed-joint i s h x t r d

-- one group, and then others
both-joint : (P Q : Stage → List Fact → Stage → Type 0) → Jointly P → Jointly Q → Jointly (Joins P Q)
both-joint P Q p q s h x t r j =
    let first = p s h j.group j.between r j.does in
    let second = q j.between (h ++ j.group) j.rest t first j.follows in
    rw j.joined (subst (λ (y : List Fact). Steps y (joint_of t)) (append_assoc h j.group j.rest) second)

times-joint : (P : Stage → List Fact → Stage → Type 0) → Jointly P → (n : ℕ) → Jointly (Times P n)
times-joint P p zero s h x t r d = joint-none s h x t r d.0 d.1
times-joint P p (suc n) s h x t r d = both-joint (Times P n) P (times-joint P p n) p s h x t r d

polls-joint : (n : ℕ) → Jointly (PollsFirst n)
polls-joint zero s h x t r d = joint-none s h x t r d.0 d.1
polls-joint (suc n) s h x t r d = both-joint (PollsFirst n) (PollsNode n) (polls-joint n) (poll-joint n) s h x t r d

works-joint : (n : ℕ) → Jointly (WorksFirst n)
works-joint zero s h x t r d = joint-none s h x t r d.0 d.1
works-joint (suc n) s h x t r d = both-joint (WorksFirst n) (WorksNode n) (works-joint n) (work-all-joint n) s h x t r d

round-joint : Jointly Round
round-joint s h x t r d =
    both-joint (Times (Carries 0) (length s.flight)) (λ u. WorksAndPolls (length u.nodes) u)
    (times-joint (Carries 0) (carry-joint 0) (length s.flight))
    (λ u h x t r d. both-joint (WorksFirst (length u.nodes)) (PollsFirst (length u.nodes))
    (works-joint (length u.nodes)) (polls-joint (length u.nodes)) u h x t r d) s h x t r d

unless-joint : (b : Bool) (P : Stage → List Fact → Stage → Type 0) → Jointly P → Jointly (Unless b P)
unless-joint true P p s h x t r d = joint-none s h x t r d.0 d.1
unless-joint false P p s h x t r d = p s h x t r d

settles-joint : (k : ℕ) → Jointly (Settles k)
settles-joint zero s h x t r d = joint-none s h x t r d.0 d.1
settles-joint (suc k) s h x t r d =
    let first = round-joint s h d.round d.between r d.makes in
    let second = unless-joint (list_all (λ f. is_polled f.event) d.round) (Settles k)
    (settles-joint k) d.between (h ++ d.round) d.rest t first d.goes_on in
    rw d.joined (subst (λ (y : List Fact). Steps y (joint_of t)) (append_assoc h d.round d.rest) second)

-- a refusal leaves a node's lists as they are
refusal-by : (a b : Bool) (x y z : ℕ) (e : Event) (clock : ℕ) (l : Lists)
    → cond a (Some NconnectNumbers) (cond b (Some (NconnectRing x y z)) None) ≡ Some e
    → (l ≡ after clock l (plain l.me e)) × ((copies : List InFlight) → flight_after_all copies (plain l.me e ∷ []) ≡ copies)
refusal-by true b x y z e clock l h = let same : e ≡ NconnectNumbers = cc in rw same (refl, λ c. refl)
refusal-by false true x y z e clock l h = let same : e ≡ NconnectRing x y z = cc in rw same (refl, λ c. refl)
refusal-by false false x y z e clock l h = cc

refuses-by : (a b c : Bool) (x y z : ℕ) (e : Event)
    → cond (a || b) (Some NconnectNumbers) (cond c (Some (NconnectRing x y z)) None) ≡ Some e
    → (cond a (Some NconnectNumbers) (cond c (Some (NconnectRing x y z)) None) ≡ Some e)
    ⊎ (cond b (Some NconnectNumbers) (cond c (Some (NconnectRing x y z)) None) ≡ Some e)
refuses-by true b c x y z e h = inl h
refuses-by false b c x y z e h = inr h

refused-joint : (credits n : ℕ) (before : Timed) (e : Event) (s : Stage) (h x : List Fact)
    (t : Stage) → IsCredits credits → Steps h (joint_of s) → slice_get s.nodes n ≡ Some before
    → pair_refusal credits before.lists ≡ Some e → x ≡ plain before.lists.me e ∷ [] → t ≡ s
    → Steps (h ++ x) (joint_of t)
refused-joint credits n before e s h x t few r is refusal facts left =
    let l = before.lists in
    let one : List Fact = plain l.me e ∷ [] in
    let k = refusal-by (clients_spent l || servers_spent l) (has_no_room credits l) (shares l) credits l.room e before.clock l refusal in
    let note : Notes e before one before =
    record {
      facts = refl;
      goes = ap (λ (l : Lists). record { lists = l; clock = before.clock }) k.0;
    } in
    let group : Alone before one before = record {
      group = refuses credits few e (refuses-by (clients_spent l) (servers_spent l)
          (has_no_room credits l) (shares l) credits l.room e refusal) note;
      alone = tt;
    } in
    let all = one-act n (joint_of s) h before before one r is group in
    let same : joint_of s ≡ record { nodes = slice_set s.nodes n before; flight = flight_after_all s.flight one } =
    ap (λ (ns : List Timed). record { nodes = ns; flight = s.flight }) (set-same s.nodes n before is)
    ∙ ap (λ (c : List InFlight). record { nodes = slice_set s.nodes n before; flight = c }) (sym (k.1 s.flight)) in
    rw (facts, left) (subst (λ (j : Joint). Steps (h ++ one) j) (sym same) all)

fits-by : (a b c : Bool) (x y z : ℕ)
    → cond (a || b) (Some NconnectNumbers) (cond c (Some (NconnectRing x y z)) None) ≡ None
    → (a ≡ false) × (b ≡ false) × (c ≡ false)
fits-by true b c x y z h = cc
fits-by false true c x y z h = cc
fits-by false false true x y z h = cc
fits-by false false false x y z h = (refl, refl, refl)

pairs-by : (a b credits : ℕ) (client server : Timed) (e g : Option Event) (s : Stage)
    (h x : List Fact) (t : Stage) → Steps h (joint_of s) → (a ≡ b → ⊥)
    → PairsFew (Pair a b credits) → slice_get s.nodes a ≡ Some client
    → slice_get s.nodes b ≡ Some server → pair_refusal credits client.lists ≡ e
    → pair_refusal credits server.lists ≡ g → PairsBy e g a b credits client server s x t
    → Steps (h ++ x) (joint_of t)
pairs-by a b credits client server (Some e) g s h x t r two few c v refusal q p =
    refused-joint credits a client e s h x t (record { some = few.0; few = few.1 }) r c refusal p.0 p.1
pairs-by a b credits client server None (Some e) s h x t r two few c v q refusal p =
    refused-joint credits b server e s h x t (record { some = few.0; few = few.1 }) r v refusal p.0 p.1
pairs-by a b credits client server None None s h x t r two few c v fits fits_too p =
    let l = client.lists in
    let m = server.lists in
    let f = fits-by (clients_spent l) (servers_spent l) (has_no_room credits l) (shares l) credits l.room fits in
    let g = fits-by (clients_spent m) (servers_spent m) (has_no_room credits m) (shares m) credits m.room fits_too in
    more r x (joint_of t) (pairs (record {
      a = a;
      b = b;
      credits = credits;
      client = client;
      server = server;
      two = two;
      is_client = c;
      is_server = v;
      few = record { some = few.0; few = few.1 };
      low_client = leb-false 65535 (length l.clients) f.0;
      low_server = leb-false 65535 m.server_numbers g.1;
      client_fits = rw (f.0, f.2) refl;
      server_fits = rw (g.1, g.2) refl;
      at_client = p.at_client;
      at_server = p.at_server;
      for_client = p.for_client;
      for_server = p.for_server;
      facts = p.facts;
      left = ap joint_of p.left;
    }))

pairs-joint : (a b credits : ℕ) → (a ≡ b → ⊥) → PairsFew (Pair a b credits) → Jointly (Pairs a b credits)
pairs-joint a b credits two few s h x t r p =
    pairs-by a b credits p.client p.server _ _ s h x t r two few p.is_client p.is_server refl refl p.pairs

does-joint : (c : Command) → PairsTwo c → PairsFew c → RestartsNone c → Jointly (Does c)
does-joint (Node ring) two few never = made-joint ring
does-joint (Pair a b credits) two few never = pairs-joint a b credits two few
does-joint (Connect n peer credits) two few never = connect-joint n peer credits (record { some = few.0; few = few.1 })
does-joint (Disconnect n session) two few never = disconnect-joint n session
does-joint (Rate n session rate) two few never = rate-joint n session rate
does-joint (Call n session y ask room) two few never = call-joint n session y (ask_bytes ask) room
does-joint (PollNode n) two few never = poll-joint n
does-joint (Arrive i) two few never = λ s h x t r d. arrive-by i (nat_lt i (length s.flight)) s h x t r d
does-joint (Lose i) two few never = lose-joint i
does-joint (Repeat i) two few never = repeat-joint i
does-joint (Tick by) two few never = tick-joint by
does-joint (Work n i) two few never = work-joint n i
does-joint (Settle rounds) two few never = settles-joint rounds
does-joint (Restart n) two few never = absurd never

lines-joint : (lines : List Line) → PairsTwoNodes lines → PairsFewCredits lines → NeverRestarts lines
    → Jointly (FollowsFrom lines)
lines-joint [] two few never s h x t r d = joint-none s h x t r d.0 d.1
lines-joint (line ∷ lines) two few never s h x t r d =
    both-joint (Does line.command) (FollowsFrom lines) (does-joint line.command two.0 few.0 never.0)
    (lines-joint lines two.1 few.1 never.1) s h x t r d

-- a node in its first life has one
one-life : (n : ℕ) (limits : Limits) (life : ℕ) (g : List Fact) (t : Timed)
    → NodeRun plain_serving n limits life g t → t.lists.life ≡ life → LifeRun plain_serving n life limits g t
one-life n limits _ _ _ (lives_on life g t r) e = r
one-life n limits _ _ _ (restarts life part rest s t r later) e =
    let least = life-least plain_serving n limits (life + 1) rest t later in absurd (omega arith)

-- no node works a job twice
run-worked : (n : ℕ) (facts : List Fact) (o : Option Timed) → RunAt n facts o
    → ((t : Timed) → o ≡ Some t → t.lists.life ≡ first_life) → (s r : ℕ) → times_worked s r facts ≤ 1
run-worked n facts (Some t) run life s r =
    let one = one-life n (with_ring run.ring) first_life run.later t run.run (life t refl) in
    let few = one.worked_once s r in
    let count = ap (times_worked s r) run.made ∙ worked-cons s r (plain n (Made run.ring)) run.later in
    omega arith
run-worked n facts None run life s r =
    let count = ap (times_worked s r) run in omega arith

pub follows-jointly : FollowsJointly
follows-jointly script h two few never f =
    let steps = lines-joint script two few never empty_stage [] h f.0 none f.1.commands in
    record {
      steps = steps;
      worked_once = λ n s r. run-worked n (facts_of n h) (slice_get f.0.nodes n) (runs script h two few f n)
          (λ t is. joint-life usual h (joint_of f.0) steps n t is) s r;
      answers = f.1.answers;
    }
