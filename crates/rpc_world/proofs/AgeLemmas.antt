-- The lives and the limits of a script's nodes: a restart begins the next life of its node, and no
-- other command changes a life. None changes limits.
use Rattle.std.proofs.Common.{◌≡◌, ◌≤◌, ◌+◌, ◌||◌, ℕ, zero, suc, nat_lt, Bool, true, false, Option}
use Rattle.std.proofs.Common.{Some, None, List, [], ◌∷◌, length, refl, sym, ap, ◌∙◌, subst, arith}
use Rattle.std.specs.Bool.{MatchBool}
use Rattle.std.specs.List.{list_all, remove, slice_get, slice_set}
use Rattle.end_laws.proofs.ListLemmas.{Placed, add-placed, set-placed}
use Rattle.network_model.specs.declared.stage.Stage.{Stage}
use Rattle.node_laws.proofs.LeadsLemmas.{Lawful, LeadsAt, valid-at}
use Rattle.node_laws.proofs.RunLaws.{asks-lawful, connects-lawful, delivers-lawful}
use Rattle.node_laws.proofs.RunLaws.{disconnects-lawful, group-lawful, notes-lawful, pair-fits}
use Rattle.node_laws.proofs.RunLaws.{sets-rate-lawful}
use Rattle.node_laws.proofs.ValidLemmas.{valid_new}
use Rattle.node_laws.specs.NodeRun.{Group as NodeGroup, polls}
use Rattle.node_laws.specs.Valid.{Valid}
use Rattle.rpc_base.specs.declared.event.Event.{Event}
use Rattle.rpc_base.specs.declared.event.Event.TheVariants.{Given, Lost, Missed, PairedClient}
use Rattle.rpc_base.specs.declared.event.Event.TheVariants.{PairedServer, Ran, Repeated}
use Rattle.rpc_base.specs.declared.fact.Fact.{Fact}
use Rattle.rpc_base.specs.Limits.{Fits}
use Rattle.rpc_base.proofs.PlaceLemmas.{set-other}
use Rattle.rpc_laws.proofs.PollLemmas.{poll-within}
use Rattle.rpc_laws.specs.declared.tables.Jobs.{Jobs}
use Rattle.rpc_laws.specs.declared.tables.Lists.{Lists}
use Rattle.rpc_laws.specs.declared.tables.Server.{Server}
use Rattle.rpc_laws.specs.declared.tables.Timed.{Timed}
use Rattle.rpc_laws.specs.Deliveries.{Delivers}
use Rattle.rpc_laws.specs.Facts.{plain}
use Rattle.rpc_laws.specs.Groups.{Asks, clients_spent, Connects, Disconnects, pair_refusal}
use Rattle.rpc_laws.specs.Groups.{servers_spent, SetsRate}
use Rattle.rpc_laws.specs.Jobs.{jobs_after}
use Rattle.rpc_laws.specs.Lives.{first_life}
use Rattle.rpc_laws.specs.NodeLists.{after, after_all, limits_of, new_node, restarted}
use Rattle.rpc_laws.specs.PollOrder.{PollBy, SendsAll}
use Rattle.rpc_laws.specs.Steps.{Rel, more, none}
use Rattle.rpc_laws.specs.UsualLimits.{with_ring}
use Rattle.rpc_laws.specs.Working.{FinishesWorked, Works, WorksAll}
use Rattle.rpc_outside.specs.PlainAnswer.{plain_mode}
use Rattle.rpc_world.specs.Before.{Names}
use Rattle.rpc_world.proofs.StaysLemmas.{Group}
use Rattle.script_grammar.specs.Conditions.{IsInRange}
use Rattle.script_grammar.specs.declared.line.Command.{Command}
use Rattle.script_grammar.specs.declared.line.Command.TheVariants.{Node, Pair, Connect, Disconnect}
use Rattle.script_grammar.specs.declared.line.Command.TheVariants.{Rate, Call, Poll, Arrive, Lose}
use Rattle.script_grammar.specs.declared.line.Command.TheVariants.{Repeat, Restart, Tick, Work}
use Rattle.script_grammar.specs.declared.line.Command.TheVariants.{Settle}
use Rattle.sim_script.specs.FollowsScript.{AtNode, Carries, Does, Joins, Makes, OfNet, Pairs}
use Rattle.sim_script.specs.FollowsScript.{PairsBy, PairsEnds, PollsFirst, PollsNode, Restarts}
use Rattle.sim_script.specs.FollowsScript.{Round}
use Rattle.sim_script.specs.FollowsScript.{Settles, Times, Unless, WorksFirst, WorksNode}
use Rattle.sim_script.specs.FollowsScript.{ask_bytes, is_polled, noted, or_missed}
use Rattle.world_laws.proofs.RunLemmas.{Groups, life-stays}
use Rattle.world_laws.proofs.WorkSteps.{all-groups, works-group}

-- a node's lists are valid, its life is this one or an earlier one, and its limits are in their
-- ranges
pub record IsAged (life : ℕ) (l : Lists) : Type 0 where
  pub valid : Valid l
  pub early : l.life ≤ life
  pub limits : Fits (limits_of l)

-- so it is of each node
abbrev pub AllAged : ℕ → Stage → Type 0
AllAged life s = Placed (λ (n : ℕ) (t : Timed). IsAged life t.lists) s.nodes

later : (life : ℕ) (l : Lists) → IsAged life l → IsAged (life + 1) l
later life l a =
    let early = a.early in
    record { valid = a.valid; early = omega (arith, early); limits = a.limits }

later-all : (life : ℕ) (s : Stage) → AllAged life s → AllAged (life + 1) s
later-all life s a n t is = later life t.lists (a n t is)

-- facts of a node leave its limits in their ranges
fits-after : (room timeout : ℕ) (e : Event) (servers : List Server) (jobs : Jobs)
    → Fits (record { ring = room; jobs = jobs.limit; timeout = timeout })
    → Fits (record { ring = room; jobs = (jobs_after e servers jobs).limit; timeout = timeout })
fits-after room timeout (Given t r) servers jobs h = h
fits-after room timeout (Ran t r y) servers jobs h = h
fits-after room timeout _ servers jobs h = h

fits-stay : (clock : ℕ) (l : Lists) (x : List Fact) → Fits (limits_of l)
    → Fits (limits_of (after_all clock l x))
fits-stay clock l [] h = h
fits-stay clock l (f ∷ x) h =
    fits-stay clock (after clock l f) x (fits-after l.room l.timeout f.event l.servers l.jobs h)

-- what a node may note leaves its life and its limits
aged-by : (life : ℕ) (a : Timed) (x : List Fact) (b : Timed) → LeadsAt a x b → IsAged life a.lists
    → IsAged life b.lists
aged-by life a x b l m =
    let same : b.lists.life ≡ a.lists.life =
    ap (λ (u : Lists). u.life) l.lists ∙ life-stays a.clock a.lists x in
    let early = m.early in
    record {
      valid = valid-at a x b m.valid l;
      early = omega (arith, same, early);
      limits = subst (λ (u : Lists). Fits (limits_of u)) (sym l.lists)
          (fits-stay a.clock a.lists x m.limits);
    }

group-ages : (life : ℕ) (a : Timed) (x : List Fact) (b : Timed) → NodeGroup plain_mode a x b
    → IsAged life a.lists → IsAged life b.lists
group-ages life a x b g m =
    let l = group-lawful plain_mode a x b m.valid g in
    aged-by life (record a { clock = l.clock }) x b l.leads m

groups-age : (life : ℕ) (a : Timed) {x : List Fact} {b : Timed} → Groups a x b
    → IsAged life a.lists → IsAged life b.lists
groups-age life a none m = m
groups-age life a (more {x} {t} c y u g) m = group-ages life t y u g (groups-age life a c m)

-- from nodes whose lives are no later than one to such nodes
abbrev Ages : Group → Type 0
Ages P =
    (life : ℕ) (s : Stage) (x : List Fact) (t : Stage) → P s x t → AllAged life s → AllAged life t

same-ages : (life : ℕ) (s t : Stage) → t ≡ s → AllAged life s → AllAged life t
same-ages life s t e a = subst (AllAged life) (sym e) a

at-ages : (P : Rel) (n : ℕ)
    → ((life : ℕ) (a : Timed) (x : List Fact) (b : Timed) → IsAged life a.lists → P a x b
    → IsAged life b.lists)
    → Ages (AtNode P n)
at-ages P n each life s x t h a =
    same-ages life _ t h.left
    (set-placed (λ (j : ℕ) (z : Timed). IsAged life z.lists) s.nodes n h.before h.now h.is_node
    (each life h.before x h.now (a n h.before h.is_node) h.step) (λ j z ne is. a j z is))

lawful-ages : (P : Rel) → Lawful P → (n : ℕ) → Ages (AtNode P n)
lawful-ages P law n = at-ages P n (λ life a x b m h. aged-by life a x b (law a x b m.valid h) m)

poll-ages : (n : ℕ) → Ages (PollsNode n)
poll-ages n life s x t h a =
    at-ages (PollBy (FinishesWorked s.worked) SendsAll plain_mode s.clock) n
    (λ life a x b m p. group-ages life a x b (polls s.clock
    (poll-within s.worked plain_mode s.clock a x b p)) m) life s x t h a

work-ages : (n i : ℕ) → Ages (λ s. AtNode (Works s.worked i) n s)
work-ages n i life s x t h a =
    at-ages (Works s.worked i) n
    (λ life a x b m w. group-ages life a x b (works-group s.worked i a x b w) m) life s x t h a

works-age : (n : ℕ) → Ages (WorksNode n)
works-age n life s x t h a =
    at-ages (WorksAll s.worked) n
    (λ life a x b m w. groups-age life a (all-groups s.worked a x b w) m) life s x t h a

net-ages : (e : Event) → Ages (OfNet e)
net-ages e life s x t h a = same-ages life _ t h.left a

carried-ages : (i : ℕ) → Ages (Carries i)
carried-ages i life s x t h a =
    lawful-ages (Delivers h.copy.from h.copy.bytes) (delivers-lawful h.copy.from h.copy.bytes)
    h.copy.to life (record s { flight = remove s.flight i }) h.delivered t h.arrives a

arrives-age : (i life : ℕ) (b : Bool) (s : Stage) (x : List Fact) (t : Stage)
    → MatchBool b (Carries i s x t) (OfNet (Missed i) s x t) → AllAged life s → AllAged life t
arrives-age i life true s x t h a = carried-ages i life s x t h a
arrives-age i life false s x t h a = net-ages (Missed i) life s x t h a

joins-age : (P Q : Group) → Ages P → Ages Q → Ages (Joins P Q)
joins-age P Q p q life s x t h a =
    q life h.between h.rest t h.follows (p life s h.group h.between h.does a)

carries-age : (n : ℕ) → Ages (Times (Carries 0) n)
carries-age zero life s x t h a = same-ages life s t h.1 a
carries-age (suc n) life s x t h a =
    joins-age (Times (Carries 0) n) (Carries 0) (carries-age n) (carried-ages 0) life s x t h a

polls-age : (n : ℕ) → Ages (PollsFirst n)
polls-age zero life s x t h a = same-ages life s t h.1 a
polls-age (suc n) life s x t h a =
    joins-age (PollsFirst n) (PollsNode n) (polls-age n) (poll-ages n) life s x t h a

first-works-age : (n : ℕ) → Ages (WorksFirst n)
first-works-age zero life s x t h a = same-ages life s t h.1 a
first-works-age (suc n) life s x t h a =
    joins-age (WorksFirst n) (WorksNode n) (first-works-age n) (works-age n) life s x t h a

round-ages : Ages Round
round-ages life s x t h a =
    let many = length h.between.nodes in
    joins-age (WorksFirst many) (PollsFirst many) (first-works-age many) (polls-age many)
    life h.between h.rest t h.follows
    (carries-age (length s.flight) life s h.group h.between h.does a)

unless-ages : (b : Bool) (P : Group) → Ages P → Ages (Unless b P)
unless-ages true P p life s x t h a = same-ages life s t h.1 a
unless-ages false P p life s x t h a = p life s x t h a

settles-age : (n : ℕ) → Ages (Settles n)
settles-age zero life s x t h a = same-ages life s t h.1 a
settles-age (suc n) life s x t h a =
    unless-ages (list_all (λ f. is_polled f.event) h.round) (Settles n) (settles-age n)
    life h.between h.rest t h.goes_on (round-ages life s h.round h.between h.makes a)

-- a node that is made is in the first life
made-ages : (ring life : ℕ) (s : Stage) (x : List Fact) (t : Stage) → 1 ≤ life
    → IsInRange (Node ring) → Makes ring s x t → AllAged life s → AllAged life t
made-ages ring life s x t some range h a =
    let n = length s.nodes in
    let new = new_node n first_life (with_ring ring) in
    let fits : Fits (with_ring ring) =
    (range.0, range.1, omega arith, omega arith, omega arith, omega arith) in
    same-ages life _ t h.left
    (add-placed (λ (j : ℕ) (z : Timed). IsAged life z.lists) s.nodes new
    (record { valid = valid_new n first_life (with_ring ring); early = some; limits = fits }) a)

-- one that is restarted is in its next life
restart-ages : (n life : ℕ) (s : Stage) (x : List Fact) (t : Stage) → Restarts n s x t
    → AllAged life s → AllAged (life + 1) t
restart-ages n life s x t h a =
    let l = h.before.lists in
    let was = a n h.before h.is_node in
    let early = was.early in
    same-ages (life + 1) _ t h.left
    (set-placed (λ (j : ℕ) (z : Timed). IsAged (life + 1) z.lists) s.nodes n h.before
    (restarted h.before) h.is_node (record {
      valid = valid_new l.me (l.life + 1) (limits_of l);
      early = omega (arith, early);
      limits = was.limits;
    }) (λ j z ne is. later life z.lists (a j z is)))

-- an end of a pair
client-ages : (life peer server credits other : ℕ) (s : Timed)
    → pair_refusal credits s.lists ≡ None → IsAged life s.lists
    → IsAged life (noted s (plain s.lists.me
    (PairedClient (length s.lists.clients) peer server credits other))).lists
client-ages life peer server credits other s fits m =
    let made : Event = PairedClient (length s.lists.clients) peer server credits other in
    let one : Fact = plain s.lists.me made in
    aged-by life s (one ∷ []) (noted s one) (notes-lawful made s (one ∷ []) (noted s one) (record {
      numbered = refl;
      room = pair-fits (clients_spent s.lists || servers_spent s.lists) credits s.lists fits;
    }) (record { facts = refl; goes = refl })) m

server-ages : (life peer client credits other : ℕ) (s : Timed)
    → pair_refusal credits s.lists ≡ None → IsAged life s.lists
    → IsAged life (noted s (plain s.lists.me
    (PairedServer s.lists.server_numbers peer client credits other))).lists
server-ages life peer client credits other s fits m =
    let made : Event = PairedServer s.lists.server_numbers peer client credits other in
    let one : Fact = plain s.lists.me made in
    aged-by life s (one ∷ []) (noted s one) (notes-lawful made s (one ∷ []) (noted s one) (record {
      numbered = refl;
      room = pair-fits (clients_spent s.lists || servers_spent s.lists) credits s.lists fits;
    }) (record { facts = refl; goes = refl })) m

ends-age : (a b credits life : ℕ) (client server : Timed) (s : Stage) (x : List Fact) (t : Stage)
    → (a ≡ b → ⊥) → slice_get s.nodes a ≡ Some client → slice_get s.nodes b ≡ Some server
    → pair_refusal credits client.lists ≡ None → pair_refusal credits server.lists ≡ None
    → PairsEnds a b credits client server s x t → AllAged life s → AllAged life t
ends-age a b credits life client server s x t two is_client is_server fit fit_too h aged =
    let P : ℕ → Timed → Type 0 = λ (j : ℕ) (z : Timed). IsAged life z.lists in
    let at_a : IsAged life (noted client h.at_client).lists =
    subst (λ (f : Fact). IsAged life (noted client f).lists) (sym h.for_client)
    (client-ages life b server.lists.server_numbers credits server.lists.life client fit
    (aged a client is_client)) in
    let at_b : IsAged life (noted server h.at_server).lists =
    subst (λ (f : Fact). IsAged life (noted server f).lists) (sym h.for_server)
    (server-ages life a (length client.lists.clients) credits client.lists.life server fit_too
    (aged b server is_server)) in
    let one : List Timed = slice_set s.nodes a (noted client h.at_client) in
    let first : Placed P one =
    set-placed P s.nodes a client (noted client h.at_client) is_client at_a
    (λ j z ne is. aged j z is) in
    let there : slice_get one b ≡ Some server =
    set-other s.nodes a b (noted client h.at_client) (λ e. two (sym e)) ∙ is_server in
    same-ages life _ t h.left
    (set-placed P one b server (noted server h.at_server) there at_b (λ j z ne is. first j z is))

pairs-by-age : (o r : Option Event) (a b credits life : ℕ) (client server : Timed) (s : Stage)
    (x : List Fact) (t : Stage) → (a ≡ b → ⊥) → slice_get s.nodes a ≡ Some client
    → slice_get s.nodes b ≡ Some server → pair_refusal credits client.lists ≡ o
    → pair_refusal credits server.lists ≡ r → PairsBy o r a b credits client server s x t
    → AllAged life s → AllAged life t
pairs-by-age (Some e) r a b credits life client server s x t two c v p q h aged =
    same-ages life s t h.1 aged
pairs-by-age None (Some e) a b credits life client server s x t two c v p q h aged =
    same-ages life s t h.1 aged
pairs-by-age None None a b credits life client server s x t two c v p q h aged =
    ends-age a b credits life client server s x t two c v p q h aged

pairs-age : (a b credits : ℕ) → (a ≡ b → ⊥) → Ages (Pairs a b credits)
pairs-age a b credits two life s x t h aged =
    pairs-by-age _ _ a b credits life h.client h.server s x t two h.is_client h.is_server refl refl
    h.pairs aged

-- a command: at most one life is begun at each node
pub does-age : (c : Command) (nodes life : ℕ) (s : Stage) (x : List Fact) (t : Stage) → IsInRange c
    → Names nodes c → 1 ≤ life → Does c s x t → AllAged life s → AllAged (life + 1) t
does-age (Node ring) nodes life s x t range names some h a =
    later-all life t (made-ages ring life s x t some range h a)
does-age (Pair m n credits) nodes life s x t range names some h a =
    later-all life t (pairs-age m n credits names.2 life s x t h a)
does-age (Connect m n credits) nodes life s x t range names some h a =
    later-all life t (lawful-ages (Connects n credits 0) (connects-lawful n credits 0) m
    life s x t h a)
does-age (Disconnect n session) nodes life s x t range names some h a =
    later-all life t (lawful-ages (Disconnects session) (disconnects-lawful session) n
    life s x t h a)
does-age (Rate n session rate) nodes life s x t range names some h a =
    later-all life t (lawful-ages (SetsRate session rate) (sets-rate-lawful session rate) n
    life s x t h a)
does-age (Call n session y ask room) nodes life s x t range names some h a =
    later-all life t (lawful-ages (Asks session y (ask_bytes ask) room)
    (asks-lawful session y (ask_bytes ask) room) n life s x t h a)
does-age (Poll n) nodes life s x t range names some h a =
    later-all life t (poll-ages n life s x t h a)
does-age (Arrive i) nodes life s x t range names some h a =
    later-all life t (arrives-age i life (nat_lt i (length s.flight)) s x t h a)
does-age (Lose i) nodes life s x t range names some h a =
    later-all life t (net-ages (or_missed s.flight i (Lost i)) life s x t h a)
does-age (Repeat i) nodes life s x t range names some h a =
    later-all life t (net-ages (or_missed s.flight i (Repeated i)) life s x t h a)
does-age (Tick by) nodes life s x t range names some h a =
    later-all life t (same-ages life _ t h.left a)
does-age (Work n i) nodes life s x t range names some h a =
    later-all life t (work-ages n i life s x t h a)
does-age (Settle rounds) nodes life s x t range names some h a =
    later-all life t (settles-age rounds life s x t h a)
does-age (Restart n) nodes life s x t range names some h a = restart-ages n life s x t h a
