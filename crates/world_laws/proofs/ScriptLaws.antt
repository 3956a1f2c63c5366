-- Each command of a script leads from nodes at the ends of runs to such nodes, and so does the whole script.
use Rattle.std.proofs.Common.{◌≡◌, ◌+◌, ◌<◌, ◌||◌, ◌⊎◌, inl, inr, ℕ, zero, suc, nat_lt, Bool, true}
use Rattle.std.proofs.Common.{false, cond, List, [], ◌∷◌, ◌++◌, length, Option, Some, None}
use Rattle.std.proofs.Common.{slice_get, refl, sym, ap, ◌∙◌, subst, append_assoc, arith, leb-false}
use Rattle.std.specs.Bool.{MatchBool}
use Rattle.std.specs.List.{list_all, remove, slice_set}
use Rattle.end_laws.specs.TwoNodes.{PairsTwo, PairsTwoNodes}
use Rattle.network_model.specs.declared.stage.Stage.{Stage}
use Rattle.node_laws.specs.NodeRun.{IsCredits, MayPair, Notes, asks, connects, delivers}
use Rattle.node_laws.specs.NodeRun.{disconnects, pairs_client, pairs_server, polls, refuses}
use Rattle.node_laws.specs.NodeRun.{sets_rate, NodeRun, lives_on, restarts}
use Rattle.rpc_base.specs.declared.event.Event.{Event}
use Rattle.rpc_base.specs.declared.event.Event.TheVariants.{Made, PairedClient, PairedServer, Restarted}
use Rattle.rpc_base.specs.declared.event.Event.TheVariants.{NconnectNumbers, NconnectRing, Missed}
use Rattle.rpc_base.specs.declared.event.Event.TheVariants.{Carried, Lost, Repeated, Ticked}
use Rattle.rpc_base.specs.declared.fact.Fact.{Fact}
use Rattle.rpc_laws.proofs.PollLemmas.{poll-within}
use Rattle.rpc_laws.specs.declared.tables.Lists.{Lists}
use Rattle.rpc_laws.specs.declared.tables.Timed.{Timed}
use Rattle.rpc_laws.specs.declared.tables.WorkedJob.{WorkedJob}
use Rattle.rpc_laws.specs.Deliveries.{Delivers}
use Rattle.rpc_laws.specs.Facts.{plain, of_net}
use Rattle.rpc_laws.specs.Groups.{Asks, client_refusal, clients_spent, Connects, Disconnects}
use Rattle.rpc_laws.specs.Groups.{has_no_room, pair_refusal, server_refusal, servers_spent}
use Rattle.rpc_laws.specs.Groups.{SetsRate, shares}
use Rattle.rpc_laws.specs.NodeLists.{after}
use Rattle.rpc_laws.specs.PollOrder.{PollBy, SendsAll}
use Rattle.rpc_base.specs.declared.limits.Limits.{Limits}
use Rattle.rpc_laws.specs.Service.{Answers, plain_serving, served_after}
use Rattle.rpc_outside.specs.Served.{Served}
use Rattle.rpc_laws.specs.Lives.{first_life}
use Rattle.rpc_laws.specs.UsualLimits.{with_ring}
use Rattle.rpc_laws.specs.Working.{FinishesWorked, worked_after_all, Works, WorksAll}
use Rattle.rpc_outside.specs.PlainAnswer.{plain_mode}
use Rattle.script_grammar.specs.declared.line.Command.{Command}
use Rattle.script_grammar.specs.declared.line.Command.TheVariants.{Node, Pair, Connect, Disconnect}
use Rattle.script_grammar.specs.declared.line.Command.TheVariants.{Rate, Call, Poll as PollNode}
use Rattle.script_grammar.specs.declared.line.Command.TheVariants.{Arrive, Lose, Repeat, Tick, Work}
use Rattle.script_grammar.specs.declared.line.Command.TheVariants.{Restart, Settle}
use Rattle.script_grammar.specs.declared.line.Line.{Line}
use Rattle.sim_script.specs.FollowsScript.{AnswersPlainly, ask_bytes, AtNode, noted, PairsEnds}
use Rattle.sim_script.specs.FollowsScript.{PairsBy, Pairs, OfNet, or_missed, Carries, Ticks}
use Rattle.sim_script.specs.FollowsScript.{PollsNode, Joins, Times, PollsFirst, WorksNode}
use Rattle.sim_script.specs.FollowsScript.{WorksFirst, WorksAndPolls, Round, is_polled, Unless}
use Rattle.sim_script.specs.FollowsScript.{Settles, Does, FollowsFrom, FollowsTo, empty_stage}
use Rattle.world_laws.specs.FewCredits.{PairsFew, PairsFewCredits}
use Rattle.world_laws.specs.NodeFacts.{facts_of, IsRun, RunAt, RunsOf}
use Rattle.world_laws.proofs.FactLemmas.{set-same}
use Rattle.end_laws.proofs.OwnFacts.{Still, asks-own, connects-own, delivers-own, disconnects-own}
use Rattle.end_laws.proofs.OwnFacts.{Owned, poll-own, rates-own, refusal-idle}
use Rattle.world_laws.proofs.RunLemmas.{Runs, Running, NodeRuns, runs-none, mine-group, one-group}
use Rattle.world_laws.proofs.RunLemmas.{step-runs, at-runs-all, at-runs, net-runs, made-runs, restart-runs}
use Rattle.world_laws.proofs.RunLemmas.{Lives, past, present}
use Rattle.world_laws.proofs.WorkSteps.{all-groups, all-mine, works-group, works-mine}
use Rattle.rpc_base.proofs.BasicLemmas.{false-true}
use Rattle.rpc_base.proofs.PlaceLemmas.{set-other}

-- session control is not kept out here
not-still : {l : Lists} → Still false l
not-still e = false-true e

of-net-runs : (e : Event) → Running (OfNet e)
of-net-runs e s h x t r d = rw (d.facts, d.left) (net-runs s.nodes s.worked h e r)

tick-runs : (by : ℕ) → Running (Ticks by)
tick-runs by s h x t r d = rw (d.facts, d.left) (net-runs s.nodes s.worked h (Ticked by) r)

call-runs : (n session req_type : ℕ) (ask : List ℕ) (room : ℕ) → Running (AtNode (Asks session req_type ask room) n)
call-runs n session req_type ask room s h x t r a =
    at-runs (Asks session req_type ask room) n s h x t r a (asks session req_type ask room a.step)
    (asks-own false session req_type ask room a.before x a.now not-still a.step)

connect-runs : (n peer credits : ℕ) → IsCredits credits → Running (AtNode (Connects peer credits 0) n)
connect-runs n peer credits few s h x t r a =
    at-runs (Connects peer credits 0) n s h x t r a (connects peer credits 0 few a.step)
    (connects-own false (λ e. false-true e) peer credits 0 a.before x a.now not-still a.step)

disconnect-runs : (n session : ℕ) → Running (AtNode (Disconnects session) n)
disconnect-runs n session s h x t r a =
    at-runs (Disconnects session) n s h x t r a (disconnects session a.step)
    (disconnects-own false (λ e. false-true e) session a.before x a.now not-still a.step)

rate-runs : (n session rate : ℕ) → Running (AtNode (SetsRate session rate) n)
rate-runs n session rate s h x t r a =
    at-runs (SetsRate session rate) n s h x t r a (sets_rate session rate a.step)
    (rates-own false session rate a.before x a.now not-still a.step)

poll-runs : (n : ℕ) → Running (PollsNode n)
poll-runs n s h x t r a =
    let poll = poll-within s.worked plain_mode s.clock a.before x a.now a.step in
    at-runs (PollBy (FinishesWorked s.worked) SendsAll plain_mode s.clock) n s h x t r a
    (polls s.clock poll) (poll-own false plain_mode s.clock a.before x a.now not-still poll)

work-runs : (n i : ℕ) → Running (λ s. AtNode (Works s.worked i) n s)
work-runs n i s h x t r a =
    let was = r.nodes n a.before a.is_node in
    at-runs-all (Works s.worked i) n s h x t r a
    (one-group a.before a.now x (works-group s.worked i a.before x a.now a.step))
    (works-mine n s.worked i a.before x a.now was.me was.valid a.step)

work-all-runs : (n : ℕ) → Running (WorksNode n)
work-all-runs n s h x t r a =
    let was = r.nodes n a.before a.is_node in
    at-runs-all (WorksAll s.worked) n s h x t r a (all-groups s.worked a.before x a.now a.step)
    (all-mine n s.worked a.before x a.now was.me was.valid a.step)

carry-runs : (i : ℕ) → Running (Carries i)
carry-runs i s h x t r c =
    let a = c.arrives in
    let copy = c.copy in
    let net = net-runs s.nodes s.worked h (Carried i) r in
    let all = at-runs (Delivers copy.from copy.bytes) copy.to
    (record s { flight = remove s.flight i })
    (h ++ of_net (Carried i) ∷ []) c.delivered t net a
    (delivers copy.from copy.bytes a.step)
    (delivers-own false copy.from copy.bytes (λ e. false-true e) a.before c.delivered a.now
    not-still a.step) in
    rw c.facts (subst (λ (y : List Fact). Runs y t.worked t.nodes)
    (append_assoc h (of_net (Carried i) ∷ []) c.delivered) all)

arrive-by : (i : ℕ) (b : Bool) (s : Stage) (h x : List Fact) (t : Stage) → Runs h s.worked s.nodes
    → MatchBool b (Carries i s x t) (OfNet (Missed i) s x t) → Runs (h ++ x) t.worked t.nodes
arrive-by i true s h x t r d = carry-runs i s h x t r d
arrive-by i false s h x t r d = of-net-runs (Missed i) s h x t r d

-- one group, and then others
both-run : (P Q : Stage → List Fact → Stage → Type 0) → Running P → Running Q → Running (Joins P Q)
both-run P Q p q s h x t r j =
    let first = p s h j.group j.between r j.does in
    let second = q j.between (h ++ j.group) j.rest t first j.follows in
    rw j.joined (subst (λ (y : List Fact). Runs y t.worked t.nodes) (append_assoc h j.group j.rest) second)

times-run : (P : Stage → List Fact → Stage → Type 0) → Running P → (n : ℕ) → Running (Times P n)
times-run P p zero s h x t r d = runs-none s h x t r d.0 d.1
times-run P p (suc n) s h x t r d = both-run (Times P n) P (times-run P p n) p s h x t r d

polls-run : (n : ℕ) → Running (PollsFirst n)
polls-run zero s h x t r d = runs-none s h x t r d.0 d.1
polls-run (suc n) s h x t r d = both-run (PollsFirst n) (PollsNode n) (polls-run n) (poll-runs n) s h x t r d

works-run : (n : ℕ) → Running (WorksFirst n)
works-run zero s h x t r d = runs-none s h x t r d.0 d.1
works-run (suc n) s h x t r d = both-run (WorksFirst n) (WorksNode n) (works-run n) (work-all-runs n) s h x t r d

works-polls-run : (n : ℕ) → Running (WorksAndPolls n)
works-polls-run n s h x t r d = both-run (WorksFirst n) (PollsFirst n) (works-run n) (polls-run n) s h x t r d

round-runs : Running Round
round-runs s h x t r d =
    both-run (Times (Carries 0) (length s.flight)) (λ u. WorksAndPolls (length u.nodes) u)
    (times-run (Carries 0) (carry-runs 0) (length s.flight))
    (λ u. works-polls-run (length u.nodes) u) s h x t r d

unless-runs : (b : Bool) (P : Stage → List Fact → Stage → Type 0) → Running P → Running (Unless b P)
unless-runs true P p s h x t r d = runs-none s h x t r d.0 d.1
unless-runs false P p s h x t r d = p s h x t r d

settles-run : (k : ℕ) → Running (Settles k)
settles-run zero s h x t r d = runs-none s h x t r d.0 d.1
settles-run (suc k) s h x t r d =
    let first = round-runs s h d.round d.between r d.makes in
    let second = unless-runs (list_all (λ f. is_polled f.event) d.round) (Settles k)
    (settles-run k) d.between (h ++ d.round) d.rest t first d.goes_on in
    rw d.joined (subst (λ (y : List Fact). Runs y t.worked t.nodes) (append_assoc h d.round d.rest) second)

-- a refusal leaves a node's lists as they are
refusal-by : (a b : Bool) (x y z : ℕ) (e : Event) (clock : ℕ) (l : Lists)
    → cond a (Some NconnectNumbers) (cond b (Some (NconnectRing x y z)) None) ≡ Some e
    → l ≡ after clock l (plain l.me e)
refusal-by true b x y z e clock l h = let same : e ≡ NconnectNumbers = cc in rw same refl
refusal-by false true x y z e clock l h = let same : e ≡ NconnectRing x y z = cc in rw same refl
refusal-by false false x y z e clock l h = cc

refused-same : (credits : ℕ) (t : Timed) (e : Event) → pair_refusal credits t.lists ≡ Some e
    → t.lists ≡ after t.clock t.lists (plain t.lists.me e)
refused-same credits t e h =
    let l = t.lists in refusal-by (clients_spent l || servers_spent l) (has_no_room credits l)
    (shares l) credits l.room e t.clock l h

-- it is one of a client end or of a server end
refuses-by : (a b c : Bool) (x y z : ℕ) (e : Event)
    → cond (a || b) (Some NconnectNumbers) (cond c (Some (NconnectRing x y z)) None) ≡ Some e
    → (cond a (Some NconnectNumbers) (cond c (Some (NconnectRing x y z)) None) ≡ Some e)
    ⊎ (cond b (Some NconnectNumbers) (cond c (Some (NconnectRing x y z)) None) ≡ Some e)
refuses-by true b c x y z e h = inl h
refuses-by false b c x y z e h = inr h

refused-runs : (credits n : ℕ) (before : Timed) (e : Event) (s : Stage) (h x : List Fact)
    (t : Stage) → Runs h s.worked s.nodes → slice_get s.nodes n ≡ Some before
    → IsCredits credits → pair_refusal credits before.lists ≡ Some e → x ≡ plain before.lists.me e ∷ []
    → t ≡ s → Runs (h ++ x) t.worked t.nodes
refused-runs credits n before e s h x t r is few refusal facts left =
    let was = r.nodes n before is in
    let l = before.lists in
    let one : List Fact = plain l.me e ∷ [] in
    let note : Notes e before one before =
    record {
      facts = refl;
      goes = ap (λ (l : Lists).
          record { lists = l; clock = before.clock }) (refused-same credits before e refusal);
    } in
    let group = refuses credits few e (refuses-by (clients_spent l) (servers_spent l)
    (has_no_room credits l) (shares l) credits l.room e refusal) note in
    let own : Owned false before one before =
    record {
      facts = (
        record {
          who = refl;
          idle = refusal-idle (clients_spent l || servers_spent l) (has_no_room credits l)
              (shares l) credits l.room e refusal;
          plain = λ z. false-true z;
          brings =
              λ z. false-true z;
        },
        tt,
      );
      me = refl;
      quiet = not-still;
    } in
    let all = step-runs s.nodes s.worked h n before before one r is group
    (mine-group n s.worked before one before was.me was.valid group own) in
    let same : worked_after_all s.worked one ≡ s.worked =
    refused-worked (clients_spent l || servers_spent l) (has_no_room credits l)
    (shares l) credits l.room e l.me s.worked refusal in
    rw (facts, left) (subst (λ (ws : List WorkedJob). Runs (h ++ one) ws s.nodes) same
    (subst (λ (ns : List Timed). Runs (h ++ one) (worked_after_all s.worked one) ns)
    (sym (set-same s.nodes n before is)) all))
  where
    refused-worked : (a b : Bool) (x y z : ℕ) (e : Event) (me : ℕ) (worked : List WorkedJob)
        → cond a (Some NconnectNumbers) (cond b (Some (NconnectRing x y z)) None) ≡ Some e
        → worked_after_all worked (plain me e ∷ []) ≡ worked
    refused-worked true b x y z e me worked h = let same : e ≡ NconnectNumbers = cc in rw same refl
    refused-worked false true x y z e me worked h = let same : e ≡ NconnectRing x y z = cc in rw same refl
    refused-worked false false x y z e me worked h = cc

-- what isn't refused
fits-by : (a b c : Bool) (x y z : ℕ)
    → cond (a || b) (Some NconnectNumbers) (cond c (Some (NconnectRing x y z)) None) ≡ None
    → (a ≡ false) × (b ≡ false) × (c ≡ false)
fits-by true b c x y z h = cc
fits-by false true c x y z h = cc
fits-by false false true x y z h = cc
fits-by false false false x y z h = (refl, refl, refl)

pair-fits : (credits : ℕ) (l : Lists) → pair_refusal credits l ≡ None → (clients_spent l ≡ false)
    × (servers_spent l ≡ false) × (has_no_room credits l ≡ false)
pair-fits credits l h =
    fits-by (clients_spent l) (servers_spent l) (has_no_room credits l) (shares l) credits l.room h

ends-run : (a b credits : ℕ) (client server : Timed) (s : Stage) (h x : List Fact) (t : Stage)
    → Runs h s.worked s.nodes → (a ≡ b → ⊥) → slice_get s.nodes a ≡ Some client
    → slice_get s.nodes b ≡ Some server → IsCredits credits
    → pair_refusal credits client.lists ≡ None → pair_refusal credits server.lists ≡ None
    → PairsEnds a b credits client server s x t → Runs (h ++ x) t.worked t.nodes
ends-run a b credits client server s h x t r two is_client is_server few fits_client fits_server p =
    let at_a = r.nodes a client is_client in
    let c = client.lists in
    let v = server.lists in
    let client_fits = pair-fits credits c fits_client in
    let server_fits = pair-fits credits v fits_server in
    let low_client : length c.clients < 65535 = leb-false 65535 (length c.clients) client_fits.0 in
    let low_server : v.server_numbers < 65535 = leb-false 65535 v.server_numbers server_fits.1 in
    let may_client : MayPair (client_refusal credits c) v.server_numbers credits =
    record {
      credits_fit = few;
      other_is = low_server;
      fits = rw (client_fits.0, client_fits.2) refl;
    } in
    let may_server : MayPair (server_refusal credits v) (length c.clients) credits =
    record {
      credits_fit = few;
      other_is = low_client;
      fits = rw (server_fits.1, server_fits.2) refl;
    } in
    let made : Event = PairedClient (length c.clients) b v.server_numbers credits v.life in
    let one : Fact = plain c.me made in
    let group = pairs_client b v.server_numbers credits v.life may_client (record { facts = refl; goes = refl }) in
    let own_one : Owned false client (one ∷ []) (noted client one) =
    record {
      facts = (
        record {
          who = refl;
          idle = refl;
          plain = λ z. false-true z;
          brings = λ z. false-true z;
        },
        tt,
      );
      me = refl;
      quiet = not-still;
    } in
    let first = step-runs s.nodes s.worked h a client (noted client one)
    (one ∷ []) r is_client group (mine-group a s.worked client (one ∷ [])
    (noted client one) at_a.me at_a.valid group own_one) in
    let between : List Timed = slice_set s.nodes a (noted client one) in
    let is_there : slice_get between b ≡ Some server =
    set-other s.nodes a b (noted client one) (λ e. two (sym e)) ∙ is_server in
    let at_b = first.nodes b server is_there in
    let taken : Event = PairedServer v.server_numbers a (length c.clients) credits c.life in
    let other : Fact = plain v.me taken in
    let next = pairs_server a (length c.clients) credits c.life may_server (record { facts = refl; goes = refl }) in
    let own_other : Owned false server (other ∷ []) (noted server other) =
    record {
      facts = (
        record {
          who = refl;
          idle = refl;
          plain = λ z. false-true z;
          brings = λ z. false-true z;
        },
        tt,
      );
      me = refl;
      quiet = not-still;
    } in
    let second = step-runs between s.worked (h ++ one ∷ []) b server (noted server other)
    (other ∷ []) first is_there next (mine-group b s.worked server (other ∷ [])
    (noted server other) at_b.me at_b.valid next own_other) in
    rw (p.facts, p.left, p.for_client, p.for_server)
    (subst (λ (y : List Fact). Runs y s.worked (slice_set between b (noted server other)))
    (append_assoc h (one ∷ []) (other ∷ [])) second)

pairs-by : (a b credits : ℕ) (client server : Timed) (e g : Option Event) (s : Stage)
    (h x : List Fact) (t : Stage) → Runs h s.worked s.nodes → (a ≡ b → ⊥)
    → PairsFew (Pair a b credits) → slice_get s.nodes a ≡ Some client
    → slice_get s.nodes b ≡ Some server → pair_refusal credits client.lists ≡ e
    → pair_refusal credits server.lists ≡ g → PairsBy e g a b credits client server s x t
    → Runs (h ++ x) t.worked t.nodes
pairs-by a b credits client server (Some e) g s h x t r two few c v refusal q p =
    refused-runs credits a client e s h x t r c (record { some = few.0; few = few.1 }) refusal p.0 p.1
pairs-by a b credits client server None (Some e) s h x t r two few c v q refusal p =
    refused-runs credits b server e s h x t r v (record { some = few.0; few = few.1 }) refusal p.0 p.1
pairs-by a b credits client server None None s h x t r two few c v fits fits_too p =
    ends-run a b credits client server s h x t r two c v (record { some = few.0; few = few.1 }) fits fits_too p

pairs-run : (a b credits : ℕ) → (a ≡ b → ⊥) → PairsFew (Pair a b credits) → Running (Pairs a b credits)
pairs-run a b credits two few s h x t r p =
    pairs-by a b credits p.client p.server _ _ s h x t r two few p.is_client p.is_server refl refl p.pairs

does-run : (c : Command) → PairsTwo c → PairsFew c → Running (Does c)
does-run (Node ring) two few = made-runs ring
does-run (Pair a b credits) two few = pairs-run a b credits two few
does-run (Connect n peer credits) two few = connect-runs n peer credits (record { some = few.0; few = few.1 })
does-run (Disconnect n session) two few = disconnect-runs n session
does-run (Rate n session rate) two few = rate-runs n session rate
does-run (Call n session y ask room) two few = call-runs n session y (ask_bytes ask) room
does-run (PollNode n) two few = poll-runs n
does-run (Arrive i) two few = λ s h x t r d. arrive-by i (nat_lt i (length s.flight)) s h x t r d
does-run (Lose i) two few = λ s h x t r d. of-net-runs (or_missed s.flight i (Lost i)) s h x t r d
does-run (Repeat i) two few = λ s h x t r d. of-net-runs (or_missed s.flight i (Repeated i)) s h x t r d
does-run (Tick by) two few = tick-runs by
does-run (Work n i) two few = work-runs n i
does-run (Settle rounds) two few = settles-run rounds
does-run (Restart n) two few = restart-runs n

lines-run : (lines : List Line) → PairsTwoNodes lines → PairsFewCredits lines → Running (FollowsFrom lines)
lines-run [] two few s h x t r d = runs-none s h x t r d.0 d.1
lines-run (line ∷ lines) two few s h x t r d =
    both-run (Does line.command) (FollowsFrom lines) (does-run line.command two.0 few.0)
    (lines-run lines two.1 few.1) s h x t r d

-- before the first command
empty-runs : Runs [] [] []
empty-runs = record { nodes = λ j z is. cc; others = λ n e. refl }

-- the answers of a life, and of those after it
answers-part : (served : Served) (part : List Fact) (f : Fact) (rest : List Fact)
    → Answers plain_serving served (part ++ f ∷ rest) → Answers plain_serving served part
answers-part served [] f rest a = tt
answers-part served (g ∷ part) f rest a =
    (a.0, answers-part (served_after plain_mode g.event g.first served) part f rest a.1)

answers-rest : (served : Served) (part : List Fact) (n life : ℕ) (rest : List Fact)
    → Answers plain_serving served (part ++ plain n (Restarted life) ∷ rest)
    → Answers plain_serving [] rest
answers-rest served [] n life rest a = a.1
answers-rest served (g ∷ part) n life rest a =
    answers-rest (served_after plain_mode g.event g.first served) part n life rest a.1

node-run : (n : ℕ) (limits : Limits) (worked : List WorkedJob) (life : ℕ) (g : List Fact) (t : Timed)
    → Lives n limits worked life g t → Answers plain_serving [] g
    → NodeRun plain_serving n limits life g t
node-run n limits worked _ _ _ (present life g t was at with few) a =
    lives_on life g t (record {
      steps = was;
      worked_once = λ s k. let most = few s k in omega arith;
      answers = a;
    })
node-run n limits worked _ _ _ (past life part rest s t was once later) a =
    restarts life part rest s t (record {
      steps = was;
      worked_once = once;
      answers = answers-part [] part (plain n (Restarted (life + 1))) rest a;
    }) (node-run n limits worked (life + 1) rest t later (answers-rest [] part n (life + 1) rest a))

-- so a node's facts are its Made and a run
is-run : (h : List Fact) (worked : List WorkedJob) (n : ℕ) (t : Timed) → NodeRuns h worked n t
    → Answers plain_serving [] (facts_of n h) → IsRun n (facts_of n h) t
is-run h worked n t r a =
    let g = r.run in
    let answers : Answers plain_serving [] (plain n (Made g.ring) ∷ g.later) =
    subst (Answers plain_serving []) g.made a in
    record {
      ring = g.ring;
      later = g.later;
      made = g.made;
      run = node-run n (with_ring g.ring) worked first_life g.later t g.lives answers.1;
    }

run-at : (h : List Fact) (worked : List WorkedJob) (nodes : List Timed) → Runs h worked nodes
    → AnswersPlainly h → (n : ℕ) (o : Option Timed) → slice_get nodes n ≡ o
    → RunAt n (facts_of n h) o
run-at h worked nodes r a n (Some t) is = is-run h worked n t (r.nodes n t is) (a n)
run-at h worked nodes r a n None is = r.others n is

pub script-runs : (lines : List Line) (h : List Fact) (end : Stage) → PairsTwoNodes lines
    → PairsFewCredits lines → FollowsTo lines h end → RunsOf h end
script-runs lines h end two few f n =
    let r = lines-run lines two few empty_stage [] h end empty-runs f.commands in
    run-at h end.worked end.nodes r f.answers n (slice_get end.nodes n) refl
