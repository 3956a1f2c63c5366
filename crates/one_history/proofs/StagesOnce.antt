-- Each command of a script leads from a stage to one stage, by the same facts, and so does a whole script.
use Rattle.std.proofs.Common.{◌≡◌, ℕ, zero, suc, ◌+◌, nat_lt, Bool, true, false, List, [], ◌∷◌, ◌++◌}
use Rattle.std.proofs.Common.{length, Option, Some, None, slice_get, refl, sym, ap₂, ◌∙◌, subst}
use Rattle.std.specs.Bool.{MatchBool}
use Rattle.std.specs.List.{list_all, remove, slice_set}
use Rattle.network_model.specs.declared.stage.Stage.{Stage}
use Rattle.rpc_base.specs.declared.event.Event.{Event}
use Rattle.rpc_base.specs.declared.event.Event.TheVariants.{Carried, Lost, Missed, Repeated, Restarted}
use Rattle.rpc_base.specs.declared.fact.Fact.{Fact}
use Rattle.rpc_laws.specs.declared.tables.InFlight.{InFlight}
use Rattle.rpc_laws.specs.declared.tables.Timed.{Timed}
use Rattle.rpc_laws.specs.declared.tables.WorkedJob.{WorkedJob}
use Rattle.rpc_laws.specs.Deliveries.{Delivers}
use Rattle.rpc_laws.specs.Facts.{of_net, plain}
use Rattle.rpc_laws.specs.Groups.{Asks, Connects, Disconnects, pair_refusal, SetsRate}
use Rattle.rpc_laws.specs.InFlight.{flight_after_all}
use Rattle.rpc_laws.specs.Lives.{first_life}
use Rattle.rpc_laws.specs.NodeLists.{new_node, restarted}
use Rattle.rpc_laws.specs.PollOrder.{PollBy, SendsAll}
use Rattle.rpc_laws.specs.Service.{Answers, plain_serving}
use Rattle.rpc_laws.specs.Steps.{Rel}
use Rattle.rpc_laws.specs.UsualLimits.{with_ring}
use Rattle.rpc_laws.specs.Working.{FinishesWorked, worked_after_all, Works, WorksAll}
use Rattle.rpc_outside.specs.PlainAnswer.{plain_mode}
use Rattle.rpc_outside.specs.Served.{Served}
use Rattle.script_grammar.specs.declared.line.Command.{Command}
use Rattle.script_grammar.specs.declared.line.Command.TheVariants.{Node, Pair, Connect, Disconnect}
use Rattle.script_grammar.specs.declared.line.Command.TheVariants.{Rate, Call, Poll as PollNode}
use Rattle.script_grammar.specs.declared.line.Command.TheVariants.{Arrive, Lose, Repeat, Tick, Work}
use Rattle.script_grammar.specs.declared.line.Command.TheVariants.{Restart, Settle}
use Rattle.script_grammar.specs.declared.line.Line.{Line}
use Rattle.sim_script.specs.FollowsScript.{ask_bytes, AtNode, Carries, Does, empty_stage}
use Rattle.sim_script.specs.FollowsScript.{FollowsFrom, FollowsTo, is_polled, Joins, Makes, noted}
use Rattle.sim_script.specs.FollowsScript.{OfNet, or_missed, Pairs, PairsBy, PairsEnds, PollsFirst}
use Rattle.sim_script.specs.FollowsScript.{PollsNode, Restarts, Round, Settles, Ticks, Times, Unless}
use Rattle.sim_script.specs.FollowsScript.{WorksAndPolls, WorksFirst, WorksNode}
use Rattle.one_history.specs.OneHistory.{HasOneHistory, LeavesOneStage}
use Rattle.one_history.proofs.ControlOnce.{some-same}
use Rattle.one_history.proofs.Fine.{at_node, node-back, node-front, served_by, wants, wants-back, wants-front}
use Rattle.one_history.proofs.PollOnce.{poll-once}
use Rattle.one_history.proofs.StepsOnce.{goes-once, Once}

-- each node has its place for its number
abbrev Numbered : List Timed → Type 0
Numbered nodes = (j : ℕ) (z : Timed) → slice_get nodes j ≡ Some z → z.lists.me ≡ j

module _ {A : Type 0} where
  pub set-all : (P : ℕ → A → Type 0) (xs : List A) (i : ℕ) (y : A) → P i y
      → ((j : ℕ) (z : A) → slice_get xs j ≡ Some z → P j z) → (j : ℕ) (z : A)
      → slice_get (slice_set xs i y) j ≡ Some z → P j z
  set-all P [] i y here others j z h = cc
  set-all P (x ∷ xs) zero y here others zero z h = let same : y ≡ z = cc in subst (P 0) same here
  set-all P (x ∷ xs) zero y here others (suc j) z h = others (suc j) z h
  set-all P (x ∷ xs) (suc i) y here others zero z h = others zero z h
  set-all P (x ∷ xs) (suc i) y here others (suc j) z h =
      set-all (λ k. P (suc k)) xs i y here (λ k. others (suc k)) j z h

  add-all : (P : ℕ → A → Type 0) (xs : List A) (y : A) → P (length xs) y
      → ((j : ℕ) (z : A) → slice_get xs j ≡ Some z → P j z) → (j : ℕ) (z : A)
      → slice_get (xs ++ y ∷ []) j ≡ Some z → P j z
  add-all P [] y here others zero z h = let same : y ≡ z = cc in subst (P 0) same here
  add-all P [] y here others (suc j) z h = cc
  add-all P (x ∷ xs) y here others zero z h = others zero z h
  add-all P (x ∷ xs) y here others (suc j) z h =
      add-all (λ k. P (suc k)) xs y here (λ k. others (suc k)) j z h

-- nothing is wanting, and each node answers plainly after what it served
record AllFine (served : ℕ → Served) (x : List Fact) : Type 0 where
  answers : (n : ℕ) → Answers plain_serving (served n) (at_node n x)
  whole : wants x ≡ false

abbrev all_served : (ℕ → Served) → List Fact → ℕ → Served
all_served served x n = served_by n (served n) x

all-front : (served : ℕ → Served) (x y : List Fact) → AllFine served (x ++ y) → AllFine served x
all-front served x y f =
    record { answers = λ n. node-front n (served n) x y (f.answers n); whole = wants-front x y f.whole }

all-back : (served : ℕ → Served) (x y : List Fact) → AllFine served (x ++ y) → AllFine (all_served served x) y
all-back served x y f =
    record { answers = λ n. node-back n (served n) x y (f.answers n); whole = wants-back x y f.whole }

-- the facts and the stages that they leave are the same
record Alike (x y : List Fact) (t u : Stage) : Type 0 where
  facts : x ≡ y
  left : t ≡ u
  numbered : Numbered t.nodes

abbrev Group : Type 1
Group = Stage → List Fact → Stage → Type 0

-- from each stage there is one group with fine facts
abbrev OneFrom : Group → Type 0
OneFrom P = (served : ℕ → Served) (s : Stage) (x y : List Fact) (t u : Stage) → Numbered s.nodes
    → P s x t → P s y u → AllFine served x → AllFine served y → Alike x y t u

alike-none : (s : Stage) (x y : List Fact) (t u : Stage) → Numbered s.nodes → (x ≡ []) × (t ≡ s)
    → (y ≡ []) × (u ≡ s) → Alike x y t u
alike-none s x y t u m h k =
    record {
      facts = h.0 ∙ sym k.0;
      left = h.1 ∙ sym k.1;
      numbered = subst (λ (v : Stage). Numbered v.nodes) (sym h.1) m;
    }

-- both are these facts, and leave this stage
alike-by : (x y z : List Fact) (t u v : Stage) → x ≡ z → y ≡ z → t ≡ v → u ≡ v → Numbered v.nodes → Alike x y t u
alike-by x y z t u v h k d e m =
    record { facts = h ∙ sym k; left = d ∙ sym e; numbered = subst (λ (w : Stage). Numbered w.nodes) (sym d) m }

-- a front that is the same, and a back that is
alike-parts : (served : ℕ → Served) (x front back y other rest : List Fact) (b c t u : Stage)
    → x ≡ front ++ back → y ≡ other ++ rest
    → (AllFine served front → AllFine served other → Alike front other b c)
    → (Alike front other b c → (after : ℕ → Served) → AllFine after back → AllFine after rest
    → Alike back rest t u) → AllFine served x → AllFine served y → Alike x y t u
alike-parts served x front back y other rest b c t u d e first second f g =
    let one : AllFine served (front ++ back) = subst (λ (z : List Fact). AllFine served z) d f in
    let two : AllFine served (other ++ rest) = subst (λ (z : List Fact). AllFine served z) e g in
    let before = first (all-front served front back one) (all-front served other rest two) in
    let later : AllFine (all_served served front) rest =
    subst (λ (z : List Fact). AllFine (all_served served z) rest) (sym before.facts)
    (all-back served other rest two) in
    let last = second before (all_served served front) (all-back served front back one) later in
    record {
      facts = d ∙ (ap₂ (λ (v w : List Fact). v ++ w) before.facts last.facts ∙ sym e);
      left = last.left;
      numbered = last.numbered;
    }

one-joins : (P Q : Group) → OneFrom P → OneFrom Q → OneFrom (Joins P Q)
one-joins P Q p q served s x y t u m h k f g =
    alike-parts served x h.group h.rest y k.group k.rest h.between k.between t u h.joined k.joined
    (λ a b. p served s h.group k.group h.between k.between m h.does k.does a b)
    (λ first after a b. q after h.between h.rest k.rest t u first.numbered h.follows
    (subst (λ (v : Stage). Q v k.rest u) (sym first.left) k.follows) a b) f g

one-times : (P : Group) → OneFrom P → (i : ℕ) → OneFrom (Times P i)
one-times P p zero served s x y t u m h k f g = alike-none s x y t u m h k
one-times P p (suc i) served s x y t u m h k f g =
    one-joins (Times P i) P (one-times P p i) p served s x y t u m h k f g

-- a step of a node
one-at : (P : Rel) (n : ℕ) → Once n P → OneFrom (AtNode P n)
one-at P n p served s x y t u m h k f g =
    let before : k.before ≡ h.before = some-same (slice_get s.nodes n) k.before h.before k.is_node h.is_node in
    let other : P h.before y k.now = subst (λ (v : Timed). P v y k.now) before k.step in
    let a = p (served n) h.before x y h.now k.now (m n h.before h.is_node) h.step other
    (record { answers = f.answers n; whole = f.whole })
    (record { answers = g.answers n; whole = g.whole }) in
    record {
      facts = a.facts;
      left = h.left ∙ (ap₂ (λ (v : Timed) (z : List Fact).
          record {
            nodes = slice_set s.nodes n v;
            flight = flight_after_all s.flight z;
            worked = worked_after_all s.worked z;
            clock = s.clock;
          }) a.left a.facts ∙ sym k.left);
      numbered = subst (λ (v : Stage). Numbered v.nodes) (sym h.left)
          (set-all (λ j z. z.lists.me ≡ j) s.nodes n h.now a.me m);
    }

call-once : (n session req_type : ℕ) (ask : List ℕ) (room : ℕ) → Once n (Asks session req_type ask room)
call-once n session req_type ask room served s x y t u m h k f g =
    goes-once n s x y t u m h.goes k.goes (h.facts ∙ sym k.facts)

connect-once : (n peer credits : ℕ) → Once n (Connects peer credits 0)
connect-once n peer credits served s x y t u m h k f g =
    goes-once n s x y t u m h.goes k.goes (h.facts ∙ sym k.facts)

disconnect-once : (n session : ℕ) → Once n (Disconnects session)
disconnect-once n session served s x y t u m h k f g =
    goes-once n s x y t u m h.goes k.goes (h.facts ∙ sym k.facts)

rate-once : (n session rate : ℕ) → Once n (SetsRate session rate)
rate-once n session rate served s x y t u m h k f g =
    goes-once n s x y t u m h.goes k.goes (h.facts ∙ sym k.facts)

deliver-once : (n peer : ℕ) (bytes : List ℕ) → Once n (Delivers peer bytes)
deliver-once n peer bytes served s x y t u m h k f g =
    goes-once n s x y t u m h.goes k.goes (h.facts ∙ sym k.facts)

work-once : (n : ℕ) (worked : List WorkedJob) (i : ℕ) → Once n (Works worked i)
work-once n worked i served s x y t u m h k f g =
    goes-once n s x y t u m h.goes k.goes (h.facts ∙ sym k.facts)

work-all-once : (n : ℕ) (worked : List WorkedJob) → Once n (WorksAll worked)
work-all-once n worked served s x y t u m h k f g =
    goes-once n s x y t u m h.goes k.goes (h.facts ∙ sym k.facts)

one-poll : (n : ℕ) → OneFrom (PollsNode n)
one-poll n served s x y t u m h k f g =
    one-at (PollBy (FinishesWorked s.worked) SendsAll plain_mode s.clock) n
    (poll-once n s.worked plain_mode s.clock) served s x y t u m h k f g

one-work : (n i : ℕ) → OneFrom (λ s. AtNode (Works s.worked i) n s)
one-work n i served s x y t u m h k f g =
    one-at (Works s.worked i) n (work-once n s.worked i) served s x y t u m h k f g

one-work-all : (n : ℕ) → OneFrom (WorksNode n)
one-work-all n served s x y t u m h k f g =
    one-at (WorksAll s.worked) n (work-all-once n s.worked) served s x y t u m h k f g

one-makes : (ring : ℕ) → OneFrom (Makes ring)
one-makes ring served s x y t u m h k f g =
    alike-by x y _ t u (record s {
      nodes = s.nodes ++ new_node (length s.nodes) first_life (with_ring ring)
          ∷ [];
    }) h.facts k.facts h.left k.left
    (add-all (λ j z. z.lists.me ≡ j) s.nodes (new_node (length s.nodes) first_life (with_ring ring))
    refl m)

one-net : (e : Event) → OneFrom (OfNet e)
one-net e served s x y t u m h k f g = alike-by x y _ t u _ h.facts k.facts h.left k.left m

one-tick : (by : ℕ) → OneFrom (Ticks by)
one-tick by served s x y t u m h k f g = alike-by x y _ t u _ h.facts k.facts h.left k.left m

one-restarts : (n : ℕ) → OneFrom (Restarts n)
one-restarts n served s x y t u m h k f g =
    let before : k.before ≡ h.before = some-same (slice_get s.nodes n) k.before h.before k.is_node h.is_node in
    let other : y ≡ plain h.before.lists.me (Restarted (h.before.lists.life + 1)) ∷ [] =
    subst (λ (v : Timed). y ≡ plain v.lists.me (Restarted (v.lists.life + 1)) ∷ []) before k.facts in
    let same : x ≡ y = h.facts ∙ sym other in
    record {
      facts = same;
      left = h.left ∙ (ap₂ (λ (v : Timed) (z : List Fact).
          record {
            nodes = slice_set s.nodes n (restarted v);
            flight = s.flight;
            worked = worked_after_all s.worked z;
            clock = s.clock;
          }) (sym before) same ∙ sym k.left);
      numbered = subst (λ (v : Stage). Numbered v.nodes) (sym h.left)
          (set-all (λ j z. z.lists.me ≡ j) s.nodes n (restarted h.before) (m n h.before h.is_node) m);
    }

-- a pairing: both ends are the same
one-ends : (a b credits : ℕ) (client server : Timed) (s : Stage) (x y : List Fact) (t u : Stage)
    → Numbered s.nodes → client.lists.me ≡ a → server.lists.me ≡ b
    → PairsEnds a b credits client server s x t → PairsEnds a b credits client server s y u
    → Alike x y t u
one-ends a b credits client server s x y t u m ca sb h k =
    let c : h.at_client ≡ k.at_client = h.for_client ∙ sym k.for_client in
    let d : h.at_server ≡ k.at_server = h.for_server ∙ sym k.for_server in
    let first = set-all (λ j z. z.lists.me ≡ j) s.nodes a (noted client h.at_client) ca m in
    record {
      facts = h.facts ∙ (ap₂ (λ (p q : Fact). p ∷ q ∷ []) c d ∙ sym k.facts);
      left = h.left ∙ (ap₂ (λ (p q : Fact). record s
          { nodes = slice_set (slice_set s.nodes a (noted client p)) b (noted server q) }) c d
          ∙ sym k.left);
      numbered = subst (λ (v : Stage). Numbered v.nodes) (sym h.left)
          (set-all (λ j z. z.lists.me ≡ j) (slice_set s.nodes a (noted client h.at_client)) b
          (noted server h.at_server) sb first);
    }

one-pairs-by : (o r : Option Event) (a b credits : ℕ) (client server : Timed) (s : Stage)
    (x y : List Fact) (t u : Stage) → Numbered s.nodes → client.lists.me ≡ a → server.lists.me ≡ b
    → PairsBy o r a b credits client server s x t → PairsBy o r a b credits client server s y u
    → Alike x y t u
one-pairs-by (Some e) r a b credits client server s x y t u m ca sb h k =
    alike-by x y _ t u s h.0 k.0 h.1 k.1 m
one-pairs-by None (Some e) a b credits client server s x y t u m ca sb h k =
    alike-by x y _ t u s h.0 k.0 h.1 k.1 m
one-pairs-by None None a b credits client server s x y t u m ca sb h k =
    one-ends a b credits client server s x y t u m ca sb h k

one-pairs : (a b credits : ℕ) → OneFrom (Pairs a b credits)
one-pairs a b credits served s x y t u m h k f g =
    let client : k.client ≡ h.client = some-same (slice_get s.nodes a) k.client h.client k.is_client h.is_client in
    let server : k.server ≡ h.server = some-same (slice_get s.nodes b) k.server h.server k.is_server h.is_server in
    let moved = subst (λ (v : Timed). PairsBy (pair_refusal credits v.lists)
    (pair_refusal credits k.server.lists) a b credits v k.server s y u) client k.pairs in
    let other = subst (λ (v : Timed). PairsBy (pair_refusal credits h.client.lists)
    (pair_refusal credits v.lists) a b credits h.client v s y u) server moved in
    one-pairs-by (pair_refusal credits h.client.lists)
    (pair_refusal credits h.server.lists) a b credits h.client h.server s x y t u m
    (m a h.client h.is_client) (m b h.server h.is_server) h.pairs other

-- a copy is taken out of flight and delivered
record CarriesAs (i : ℕ) (copy : InFlight) (s : Stage) (x : List Fact) (t : Stage) : Type 0 where
  delivered : List Fact
  facts : x ≡ of_net (Carried i) ∷ delivered
  arrives : AtNode (Delivers copy.from copy.bytes) copy.to (record s { flight = remove s.flight i }) delivered t

one-carries-as : (i : ℕ) (copy : InFlight) → OneFrom (CarriesAs i copy)
one-carries-as i copy served s x y t u m h k f g =
    let moved : Stage = record s { flight = remove s.flight i } in
    alike-parts served x (of_net (Carried i) ∷ []) h.delivered y (of_net (Carried i) ∷ [])
    k.delivered moved moved t u h.facts k.facts
    (λ a b. record { facts = refl; left = refl; numbered = m })
    (λ first after a b. one-at (Delivers copy.from copy.bytes) copy.to
    (deliver-once copy.to copy.from copy.bytes) after moved h.delivered k.delivered t u m
    h.arrives k.arrives a b) f g

carries-of : (i : ℕ) (s : Stage) (x : List Fact) (t : Stage) → (h : Carries i s x t) → CarriesAs i h.copy s x t
carries-of i s x t h = record { delivered = h.delivered; facts = h.facts; arrives = h.arrives }

one-carries : (i : ℕ) → OneFrom (Carries i)
one-carries i served s x y t u m h k f g =
    let copy : k.copy ≡ h.copy = some-same (slice_get s.flight i) k.copy h.copy k.is_copy h.is_copy in
    let other : CarriesAs i h.copy s y u =
    subst (λ (c : InFlight). CarriesAs i c s y u) copy (carries-of i s y u k) in
    one-carries-as i h.copy served s x y t u m (carries-of i s x t h) other f g

one-arrives-by : (i : ℕ) (b : Bool) (served : ℕ → Served) (s : Stage) (x y : List Fact)
    (t u : Stage) → Numbered s.nodes → MatchBool b (Carries i s x t) (OfNet (Missed i) s x t)
    → MatchBool b (Carries i s y u) (OfNet (Missed i) s y u) → AllFine served x → AllFine served y
    → Alike x y t u
one-arrives-by i true served s x y t u m h k f g = one-carries i served s x y t u m h k f g
one-arrives-by i false served s x y t u m h k f g = one-net (Missed i) served s x y t u m h k f g

one-polls : (n : ℕ) → OneFrom (PollsFirst n)
one-polls zero served s x y t u m h k f g = alike-none s x y t u m h k
one-polls (suc n) served s x y t u m h k f g =
    one-joins (PollsFirst n) (PollsNode n) (one-polls n) (one-poll n) served s x y t u m h k f g

one-works : (n : ℕ) → OneFrom (WorksFirst n)
one-works zero served s x y t u m h k f g = alike-none s x y t u m h k
one-works (suc n) served s x y t u m h k f g =
    one-joins (WorksFirst n) (WorksNode n) (one-works n) (one-work-all n) served s x y t u m h k f g

one-works-polls : (n : ℕ) → OneFrom (WorksAndPolls n)
one-works-polls n = one-joins (WorksFirst n) (PollsFirst n) (one-works n) (one-polls n)

one-round : OneFrom Round
one-round served s x y t u m h k f g =
    one-joins (Times (Carries 0) (length s.flight)) (λ v. WorksAndPolls (length v.nodes) v)
    (one-times (Carries 0) (one-carries 0) (length s.flight))
    (λ after v. one-works-polls (length v.nodes) after v) served s x y t u m h k f g

one-unless : (b : Bool) (P : Group) → OneFrom P → OneFrom (Unless b P)
one-unless true P p served s x y t u m h k f g = alike-none s x y t u m h k
one-unless false P p served s x y t u m h k f g = p served s x y t u m h k f g

one-settles : (i : ℕ) → OneFrom (Settles i)
one-settles zero served s x y t u m h k f g = alike-none s x y t u m h k
one-settles (suc i) served s x y t u m h k f g =
    alike-parts served x h.round h.rest y k.round k.rest h.between k.between t u h.joined k.joined
    (λ a b. one-round served s h.round k.round h.between k.between m h.makes k.makes a b)
    (λ first after a b.
    let here : Unless (list_all (λ f. is_polled f.event) k.round) (Settles i) h.between k.rest u =
    subst (λ (v : Stage). Unless (list_all (λ f. is_polled f.event) k.round)
    (Settles i) v k.rest u) (sym first.left) k.goes_on in
    let same : Unless (list_all (λ f. is_polled f.event) h.round) (Settles i) h.between k.rest u =
    subst (λ (z : List Fact). Unless (list_all (λ f. is_polled f.event) z)
    (Settles i) h.between k.rest u) (sym first.facts) here in
    one-unless (list_all (λ f. is_polled f.event) h.round) (Settles i)
    (one-settles i) after h.between h.rest k.rest t u first.numbered h.goes_on same a b) f g

one-does : (c : Command) → OneFrom (Does c)
one-does (Node ring) = one-makes ring
one-does (Pair a b credits) = one-pairs a b credits
one-does (Connect a b credits) = one-at (Connects b credits 0) a (connect-once a b credits)
one-does (Disconnect n session) = one-at (Disconnects session) n (disconnect-once n session)
one-does (Rate n session rate) = one-at (SetsRate session rate) n (rate-once n session rate)
one-does (Call n session y ask room) =
    one-at (Asks session y (ask_bytes ask) room) n (call-once n session y (ask_bytes ask) room)
one-does (PollNode n) = one-poll n
one-does (Arrive i) = λ served s. one-arrives-by i (nat_lt i (length s.flight)) served s
one-does (Lose i) = λ served s. one-net (or_missed s.flight i (Lost i)) served s
one-does (Repeat i) = λ served s. one-net (or_missed s.flight i (Repeated i)) served s
one-does (Tick by) = one-tick by
one-does (Work n i) = one-work n i
one-does (Settle rounds) = one-settles rounds
one-does (Restart n) = one-restarts n

one-follows : (lines : List Line) → OneFrom (FollowsFrom lines)
one-follows [] served s x y t u m h k f g = alike-none s x y t u m h k
one-follows (line ∷ lines) served s x y t u m h k f g =
    one-joins (Does line.command) (FollowsFrom lines) (one-does line.command)
    (one-follows lines) served s x y t u m h k f g

-- two histories that follow a script are the same, and leave the same stage
follow-alike : (script : List Line) (h g : List Fact) (s t : Stage) → FollowsTo script h s
    → FollowsTo script g t → Alike h g s t
follow-alike script h g s t f k =
    one-follows script (λ n. []) empty_stage h g s t (λ j z e. cc) f.commands k.commands
    (record { answers = f.answers; whole = f.whole })
    (record { answers = k.answers; whole = k.whole })

pub one-history : (script : List Line) → HasOneHistory script
one-history script h g (s, f) (t, k) = (follow-alike script h g s t f k).facts

pub one-stage : (script : List Line) → LeavesOneStage script
one-stage script s t (h, f) (g, k) = (follow-alike script h g s t f k).left
