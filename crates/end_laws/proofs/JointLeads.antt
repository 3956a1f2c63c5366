-- A joint run, from moment to moment: each node's facts happen at its own clock.
use Rattle.std.proofs.Common.{◌≡◌, ◌+◌, inl, inr, ℕ, nat_lt, Bool, true, false, cond}
use Rattle.std.proofs.Common.{List, [], ◌∷◌, ◌++◌, length, Option, Some, None, slice_get, refl, sym}
use Rattle.std.proofs.Common.{ap, ◌∙◌, subst, ◌==◌}
use Rattle.std.specs.List.{remove, slice_set}
use Rattle.std.proofs.lemmas.List.{length-append}
use Rattle.rpc_base.specs.declared.event.Event.{Event}
use Rattle.rpc_base.specs.declared.event.Event.TheVariants.{Made, PairedClient, PairedServer, Opened, Rated}
use Rattle.rpc_base.specs.declared.event.Event.TheVariants.{Arrived, Overflowed, Bad, Worked, Missed}
use Rattle.rpc_base.specs.declared.event.Event.TheVariants.{NconnectRing, NconnectNumbers, Carried}
use Rattle.rpc_base.specs.declared.fact.Fact.{Fact}
use Rattle.rpc_base.proofs.PlaceLemmas.{set-here, set-other}
use Rattle.rpc_outside.specs.declared.service.Mode.{Mode}
use Rattle.rpc_laws.specs.declared.tables.InFlight.{InFlight}
use Rattle.rpc_laws.specs.declared.tables.Lists.{Lists}
use Rattle.rpc_laws.specs.declared.tables.Timed.{Timed}
use Rattle.rpc_laws.specs.BufferSafety.{changed}
use Rattle.rpc_laws.specs.Deliveries.{inbox_room}
use Rattle.rpc_laws.specs.Endpoints.{life_by, told}
use Rattle.rpc_laws.specs.Facts.{plain, with_bytes, of_net}
use Rattle.rpc_laws.specs.Front.{is_message, is_control}
use Rattle.rpc_laws.specs.Groups.{Connects, connect_by, client_refusal, clients_spent}
use Rattle.rpc_laws.specs.Groups.{servers_spent, has_no_room, shares}
use Rattle.rpc_laws.specs.InFlight.{flight_after_all, flight_after_net}
use Rattle.rpc_laws.specs.Lives.{first_life}
use Rattle.rpc_laws.specs.NodeLists.{after, after_all, new_lists, new_node}
use Rattle.rpc_laws.specs.PollOrder.{Poll, FinishesOne, FinishesSome, Handles, HandlesAll, PostsAll, Sends, SendsSome}
use Rattle.rpc_laws.specs.PollOrder.{Closes, raised}
use Rattle.rpc_laws.specs.ControlSteps.{HearsAll, TimesAll}
use Rattle.rpc_laws.specs.Steps.{Rel, Then}
use Rattle.node_laws.specs.NodeRun.{Group, Notes, Refuses, pairs_client, pairs_server, refuses, connects}
use Rattle.node_laws.specs.NodeRun.{disconnects, sets_rate, asks, delivers, polls, works, misses}
use Rattle.node_laws.specs.Valid.{Valid}
use Rattle.node_laws.proofs.Allowed.{AllAllowed as AllLawful, AllowedBy}
use Rattle.node_laws.proofs.LeadsLemmas.{Lawful, valid_after_all}
use Rattle.node_laws.proofs.RunLaws.{asks-lawful, poll-lawful, connects-lawful, disconnects-lawful}
use Rattle.node_laws.proofs.RunLaws.{sets-rate-lawful, delivers-lawful, notes-lawful, pair-fits}
use Rattle.node_laws.proofs.ValidLemmas.{valid_new, valid_after}
use Rattle.end_laws.specs.Moments.{Moment, moved, first_moment}
use Rattle.end_laws.specs.JointRun.{Party, Joint, IsAlone, MakesNode, Acts, PairsNodes, CarriesCopy}
use Rattle.end_laws.specs.JointRun.{NetActs, JointStep, JointSteps, makes, acts, pairs, carries}
use Rattle.end_laws.specs.JointRun.{limits_of, of_network, none, more, noted_by}
use Rattle.end_laws.proofs.Allowed.{WalksFrom, Walks, walks-from}
use Rattle.end_laws.proofs.CallSteps.{IsFree, free-walks, asks-fine, delivers-fine}
use Rattle.end_laws.proofs.ControlSteps.{times-all}
use Rattle.end_laws.proofs.Courses.{made_as, made_at, latest, Course, over, in_net, pairs as pairing, resets, clocked, course-append}
use Rattle.end_laws.proofs.Courses.{client_fact, server_fact, paired}
use Rattle.end_laws.proofs.HearsSteps.{hears-all}
use Rattle.end_laws.proofs.Leads.{life-kept, life-stays, me-after, node-course}
use Rattle.end_laws.proofs.ListLemmas.{Placed, set-placed, add-placed, add-keeps, add-last, length-slice_set}
use Rattle.end_laws.proofs.PollSteps.{posts-all, sends-fine, closes-fine}
use Rattle.end_laws.proofs.QueueLemmas.{RightNode}
use Rattle.end_laws.proofs.ReplySteps.{handles-fine}
use Rattle.end_laws.proofs.SendsLaw.{right-stays, right-new, right-client, right-served}
use Rattle.end_laws.proofs.Walks.{Fine, walked-goes, fine-then, fine-chain, fine-until}
use Rattle.end_laws.proofs.WorkSteps.{finishes-fine, disconnects-fine, rates-so}

-- a node as the moment has it
pub record Stands (nodes : List Lists) (n : ℕ) (t : Timed) : Type 0 where
  pub is_node : slice_get nodes n ≡ Some t.lists
  pub me : t.lists.me ≡ n
  pub life : t.lists.life ≡ first_life
  pub right : RightNode t.lists
  pub valid : Valid t.lists

pub record Matches (s : Joint) (w : Moment) : Type 0 where
  pub flight : w.flight ≡ s.flight
  pub size : length w.nodes ≡ length s.nodes
  pub nodes : Placed (Stands w.nodes) s.nodes
  pub lives : (n : ℕ) → life_by n w.past ≡ first_life

-- these facts lead from a moment to one that matches
pub record JointLeads (w : Moment) (x : List Fact) (t : Joint) : Type 0 where
  pub end : Moment
  pub course : Course true w x end
  pub fits : Matches t end

-- a group of a node at its clock
pub record GroupAt (hand : Option InFlight) (before : Option Fact) (s : Timed) (x : List Fact) (t : Timed)
    : Type 0 where
  pub clock : ℕ
  pub walks : WalksFrom hand before clock s.lists x
  pub lawful : AllLawful clock s.lists x
  pub lists : t.lists ≡ after_all clock s.lists x
  pub right : RightNode t.lists

one-group : (P : Rel) → Fine RightNode P → Lawful P → (hand : Option InFlight) (before : Option Fact) (s : Timed)
    (x : List Fact) (t : Timed) → RightNode s.lists → Valid s.lists → P s x t
    → GroupAt hand before s x t
one-group P fine law hand before s x t i v h =
    let k = fine hand s x t i h in
    record {
      clock = s.clock;
      walks = walks-from hand before s.clock s.lists x k.walks;
      lawful = (law s x t v h).all;
      lists = k.lists;
      right = k.inv;
    }

-- a poll of a node of which nothing more is known
finishes-one : Fine RightNode FinishesOne
finishes-one hand s x t i h = finishes-fine h.session h.request hand s x t i h.finishes

poll-any : (mode : ℕ → Mode) → Fine RightNode (Then FinishesSome (Then HearsAll (Then (HandlesAll mode)
    (Then TimesAll (Then PostsAll (Then SendsSome Closes))))))
poll-any mode =
    fine-then RightNode FinishesSome _ (fine-chain RightNode FinishesOne finishes-one)
    (fine-then RightNode HearsAll _ hears-all
    (fine-then RightNode (HandlesAll mode) _
    (fine-until RightNode (Handles mode) _ (handles-fine mode))
    (fine-then RightNode TimesAll _ (times-all RightNode right-stays)
    (fine-then RightNode PostsAll _ (posts-all RightNode right-stays)
    (fine-then RightNode SendsSome Closes (fine-chain RightNode Sends (sends-fine RightNode right-stays))
    (closes-fine RightNode right-stays))))))

poll-group : (mode : ℕ → Mode) (now : ℕ) (hand : Option InFlight) (before : Option Fact) (s : Timed) (x : List Fact) (t : Timed)
    → RightNode s.lists → Valid s.lists → Poll mode now s x t → GroupAt hand before s x t
poll-group mode now hand before s x t i v h =
    let k = poll-any mode hand (raised now s) x t i h in
    record {
      clock = (raised now s).clock;
      walks = walks-from hand before (raised now s).clock s.lists x k.walks;
      lawful = (poll-lawful mode now s x t v h).all;
      lists = k.lists;
      right = k.inv;
    }

-- one event that may be noted anywhere
note-group : (e : Event) → ((me : ℕ) → IsFree me (plain me e)) → ((l : Lists) → AllowedBy l e [] [])
    → (hand : Option InFlight) (before : Option Fact) (s : Timed) (x : List Fact) (t : Timed)
    → RightNode s.lists → Valid s.lists → Notes e s x t → GroupAt hand before s x t
note-group e free law =
    one-group (Notes e)
    (λ hand s x t i h. walked-goes RightNode right-stays hand s x t i
    (rw h.facts (free-walks hand None s.clock s.lists (plain s.lists.me e ∷ []) (free s.lists.me, tt))) h.goes)
    (λ s x t v h. notes-lawful e s x t (law s.lists) h)

-- a refusal
pub record IsRefused (e : Event) : Type 0 where
  pub free : (me : ℕ) → IsFree me (plain me e)
  pub lawful : (l : Lists) → AllowedBy l e [] []

refused-as : (a b : Bool) (x y z : ℕ) (e : Event)
    → cond a (Some NconnectNumbers) (cond b (Some (NconnectRing x y z)) None) ≡ Some e → IsRefused e
refused-as true b x y z e h =
    let same : e ≡ NconnectNumbers = cc in
    rw same (record {
      free = λ me. record { who = refl; may = λ hand l. tt; linked = λ latest l. tt };
      lawful = λ l. tt;
    })
refused-as false true x y z e h =
    let same : e ≡ NconnectRing x y z = cc in
    rw same (record {
      free = λ me. record { who = refl; may = λ hand l. tt; linked = λ latest l. tt };
      lawful = λ l. tt;
    })
refused-as false false x y z e h = cc

refuses-group : (credits : ℕ) (e : Event) (hand : Option InFlight) (before : Option Fact) (s : Timed)
    (x : List Fact) (t : Timed) → RightNode s.lists → Valid s.lists → Refuses credits e s
    → Notes e s x t → GroupAt hand before s x t
refuses-group credits e hand before s x t i v (inl r) h =
    let k = refused-as (clients_spent s.lists) (has_no_room credits s.lists) (shares s.lists) credits s.lists.room e r in
    note-group e k.free k.lawful hand before s x t i v h
refuses-group credits e hand before s x t i v (inr r) h =
    let k = refused-as (servers_spent s.lists) (has_no_room credits s.lists) (shares s.lists) credits s.lists.room e r in
    note-group e k.free k.lawful hand before s x t i v h

-- a session is opened, with its rate where it has one
rated-walk : (b : Bool) (hand : Option InFlight) (before : Option Fact) (clock session rate : ℕ) (l : Lists)
    → WalksFrom hand before clock l (cond b [] (plain l.me (Rated session rate) ∷ []))
rated-walk true hand before clock session rate l = tt
rated-walk false hand before clock session rate l = (record { who = refl; may = tt }, tt, tt)

connect-any : (refusal : Option Event) (hand : Option InFlight) (clock peer credits rate : ℕ)
    (l : Lists) → client_refusal credits l ≡ refusal
    → Walks hand clock l (connect_by refusal peer credits rate l)
connect-any None hand clock peer credits rate l is = (
  record { who = refl; may = (refl, refl, refl) },
  tt,
  rated-walk (rate == 0) hand _ clock (length l.clients) rate (after clock l (plain l.me (Opened (length l.clients) peer credits))),
)
connect-any (Some e) hand clock peer credits rate l is =
    let k = refused-as (clients_spent l) (has_no_room credits l) (shares l) credits l.room e is in
    free-walks hand None clock l (plain l.me e ∷ []) (k.free l.me, tt)

connects-any : (peer credits rate : ℕ) → Fine RightNode (Connects peer credits rate)
connects-any peer credits rate hand s x t i h =
    walked-goes RightNode right-stays hand s x t i (rw h.facts (connect-any
    (client_refusal credits s.lists) hand s.clock peer credits rate s.lists refl)) h.goes

-- each group of a node alone
group-at : (mode : ℕ → Mode) (hand : Option InFlight) (before : Option Fact) (s : Timed) (x : List Fact) (t : Timed)
    → RightNode s.lists → Valid s.lists → (g : Group mode s x t) → IsAlone mode s x t g
    → GroupAt hand before s x t
group-at mode hand before s x t i v (pairs_client peer server credits life may h) alone = absurd alone
group-at mode hand before s x t i v (pairs_server peer client credits life may h) alone = absurd alone
group-at mode hand before s x t i v (refuses credits few e r h) alone =
    refuses-group credits e hand before s x t i v r h
group-at mode hand before s x t i v (connects peer credits rate few h) alone =
    one-group (Connects peer credits rate) (connects-any peer credits rate)
    (connects-lawful peer credits rate) hand before s x t i v h
group-at mode hand before s x t i v (disconnects session h) alone =
    one-group _ (disconnects-fine session) (disconnects-lawful session) hand before s x t i v h
group-at mode hand before s x t i v (sets_rate session rate h) alone =
    one-group _ (λ hand s x t i h. (rates-so hand session rate s x t i h).walked)
    (sets-rate-lawful session rate) hand before s x t i v h
group-at mode hand before s x t i v (asks session req_type ask room h) alone =
    one-group _ (asks-fine RightNode right-stays session req_type ask room)
    (asks-lawful session req_type ask room) hand before s x t i v h
group-at mode hand before s x t i v (delivers peer bytes h) alone = absurd alone
group-at mode hand before s x t i v (polls now h) alone = poll-group mode now hand before s x t i v h
group-at mode hand before s x t i v (works session request out h) alone =
    note-group (Worked session request)
    (λ me. record { who = refl; may = λ hand l. tt; linked = λ latest l. tt }) (λ l. tt) hand before
    s x t i v h
group-at mode hand before s x t i v (misses n h) alone =
    note-group (Missed n)
    (λ me. record { who = refl; may = λ hand l. tt; linked = λ latest l. tt }) (λ l. tt) hand before
    s x t i v h

-- one node goes on by a group
node-leads : (s : Joint) (w : Moment) (n : ℕ) (before now : Timed) (x : List Fact) (t : Joint)
    → Matches s w → slice_get s.nodes n ≡ Some before → GroupAt w.hand (latest w.past) before x now
    → t ≡ record { nodes = slice_set s.nodes n now; flight = flight_after_all s.flight x }
    → JointLeads w x t
node-leads s w n before now x t f is h left =
    let fit = f.nodes n before is in
    let v = clocked w h.clock in
    let c = node-course {free = true} v n before.lists x fit.is_node fit.me (fit.life ∙ sym (f.lives n)) h.walks h.lawful in
    let ends : c.end.nodes ≡ slice_set w.nodes n now.lists =
    c.nodes ∙ ap (λ (l : Lists). slice_set w.nodes n l) (sym h.lists) in
    let here : Stands (slice_set w.nodes n now.lists) n now = record {
      is_node = set-here w.nodes n before.lists now.lists fit.is_node;
      me = ap (λ (l : Lists). l.me) h.lists ∙ (me-after h.clock before.lists x ∙ fit.me);
      life = ap (λ (l : Lists). l.life) h.lists ∙ (life-stays h.clock before.lists x ∙ fit.life);
      right = h.right;
      valid = rw (h.lists) (valid_after_all h.clock before.lists x fit.valid h.lawful);
    } in
    let others : (j : ℕ) (z : Timed) → (j ≡ n → ⊥) → slice_get s.nodes j ≡ Some z
    → Stands (slice_set w.nodes n now.lists) j z =
    λ j z ne is. let k = f.nodes j z is in record { is_node = set-other w.nodes n j now.lists ne ∙ k.is_node; me = k.me; life = k.life; right = k.right; valid = k.valid } in
    let placed = set-placed (Stands (slice_set w.nodes n now.lists)) s.nodes n before now is here others in
    rw left (record {
      end = c.end;
      course = resets w h.clock x c.end refl c.course;
      fits = record {
        flight = c.flight ∙ ap (λ k. flight_after_all k x) f.flight;
        size = ap length ends ∙ (length-slice_set w.nodes n now.lists
            ∙ (f.size ∙ sym (length-slice_set s.nodes n now)));
        nodes = subst (λ (ns : List Lists). Placed (Stands ns) (slice_set s.nodes n now)) (sym ends) placed;
        lives = λ j. c.lives j ∙ f.lives j;
      };
    })

abbrev Leading : (Joint → List Fact → Joint → Type 0) → Type 0
Leading P = (s : Joint) (w : Moment) (x : List Fact) (t : Joint) → Matches s w → P s x t → JointLeads w x t

acts-lead : (parties : ℕ → Party) → Leading (Acts parties)
acts-lead parties s w x t f h =
    let fit = f.nodes h.node h.before h.is_node in
    let mode = (parties h.node).serving.mode in
    node-leads s w h.node h.before h.now x t f h.is_node
    (group-at mode w.hand (latest w.past) h.before x h.now fit.right fit.valid h.group.group h.group.alone) h.left

-- a fact of the network
net-leads : (e : Event) (s : Joint) (w : Moment) → Matches s w
    → Matches (record s { flight = flight_after_net e s.flight }) (moved w (of_net e))
net-leads e s w f = record {
  flight = ap (flight_after_net e) f.flight;
  size = f.size;
  lives = f.lives;
  nodes = λ j z is. let k = f.nodes j z is in record { is_node = k.is_node; me = k.me; life = k.life; right = k.right; valid = k.valid };
}

nets-lead : Leading NetActs
nets-lead s w x t f h =
    let u = moved w (of_net h.event) in
    rw (h.facts, h.left) (record {
      end = u;
      course = in_net w (of_net h.event) [] u refl (over u);
      fits = net-leads h.event s w f;
    })

-- a copy is carried to its node
carries-lead : Leading CarriesCopy
carries-lead s w x t f h =
    let i = h.number in
    let copy = h.copy in
    let u = moved w (of_net (Carried i)) in
    let g = net-leads (Carried i) s w f in
    let fit = g.nodes copy.to h.before h.is_node in
    let hand : Option InFlight = Some (record { from = copy.from; to = h.before.lists.me; bytes = copy.bytes }) in
    let is_hand : u.hand ≡ hand =
    ap (λ (c : List InFlight). slice_get c i) f.flight
    ∙ (h.is_copy ∙ ap (λ (n : ℕ). Some
    (record { from = copy.from; to = n; bytes = copy.bytes })) (sym fit.me)) in
    let carried : Option Fact = Some (of_net (Carried i)) in
    let k = delivers-fine RightNode right-stays carried copy.from copy.bytes h.before h.delivered
    h.now refl fit.right h.delivers in
    let group : GroupAt u.hand carried h.before h.delivered h.now = record {
      clock = h.before.clock;
      walks = subst (λ (o : Option InFlight). WalksFrom o carried h.before.clock h.before.lists h.delivered)
          (sym is_hand) k.walks;
      lawful = (delivers-lawful copy.from copy.bytes h.before h.delivered h.now fit.valid h.delivers).all;
      lists = k.lists;
      right = k.inv;
    } in
    let unsent : flight_after_all (remove s.flight i) h.delivered ≡ remove s.flight i =
    rw h.delivers.facts (delivery-unsent (is_message copy.bytes)
    (nat_lt (length h.before.lists.ring) h.before.lists.room) (is_control copy.bytes)
    (nat_lt (length h.before.lists.inbox) inbox_room) copy.from h.before.lists.me copy.bytes (remove s.flight i)) in
    let left : t ≡ record { nodes = slice_set s.nodes copy.to h.now; flight = flight_after_all (remove s.flight i) h.delivered } =
    h.left ∙ ap (λ (c : List InFlight). record { nodes = slice_set s.nodes copy.to h.now; flight = c }) (sym unsent) in
    let l = node-leads (record s { flight = remove s.flight i }) u copy.to h.before h.now h.delivered t g h.is_node group left in
    rw h.facts (record {
      end = l.end;
      course = in_net w (of_net (Carried i)) h.delivered l.end refl l.course;
      fits = l.fits;
    })
  where
    delivery-unsent : (a b c d : Bool) (peer me : ℕ) (bytes : List ℕ) (copies : List InFlight)
        → flight_after_all copies (with_bytes me (cond a (cond b (Arrived peer) (Overflowed peer))
        (cond c (cond d (Arrived peer) (Overflowed peer)) (Bad peer))) bytes ∷ []) ≡ copies
    delivery-unsent true true c d peer me bytes copies = refl
    delivery-unsent true false c d peer me bytes copies = refl
    delivery-unsent false b true true peer me bytes copies = refl
    delivery-unsent false b true false peer me bytes copies = refl
    delivery-unsent false b false d peer me bytes copies = refl

-- a node is made
makes-lead : (parties : ℕ → Party) → Leading (MakesNode parties)
makes-lead parties s w x t f h =
    let limits = limits_of (parties (length s.nodes)) h.ring in
    let u = made_at w limits in
    let me = f.size in
    let facts : x ≡ plain (length w.nodes) (Made limits.ring) ∷ [] = h.facts ∙ ap (λ n. plain n (Made h.ring) ∷ []) (sym me) in
    let left : t ≡ record s {
      nodes = s.nodes ++ new_node (length w.nodes) first_life limits ∷ [];
    } =
    h.left ∙ ap (λ n. record s { nodes = s.nodes ++ new_node n first_life limits ∷ [] }) (sym me) in
    let now : List Lists = w.nodes ++ new_lists (length w.nodes) first_life limits ∷ [] in
    let new : Stands now (length s.nodes) (new_node (length w.nodes) first_life limits) =
    record {
      is_node = ap (slice_get now) (sym me)
          ∙ add-last w.nodes (new_lists (length w.nodes) first_life limits);
      me = me;
      life = refl;
      right = right-new (length w.nodes) first_life limits;
      valid = valid_new (length w.nodes) first_life limits;
    } in
    let nodes : Placed (Stands now) (s.nodes ++ new_node (length w.nodes) first_life limits ∷ []) = add-placed (Stands now) s.nodes (new_node (length w.nodes) first_life limits) new (λ j z is. let k = f.nodes j z is in record { is_node = add-keeps w.nodes _ j z.lists k.is_node; me = k.me; life = k.life; right = k.right; valid = k.valid }) in
    rw (facts, left) (record {
      end = u;
      course = made_as w limits [] u refl (over u);
      fits = record {
        flight = f.flight;
        size = length-append w.nodes (new_lists (length w.nodes) first_life limits ∷ [])
            ∙ (ap (λ n. n + 1) me ∙ sym (length-append s.nodes
            (new_node (length w.nodes) first_life limits ∷ [])));
        nodes = nodes;
        lives = λ j. life-kept j (told w.past (plain (length w.nodes) (Made limits.ring))) w.past refl
            ∙ f.lives j;
      };
    })

-- both ends of a pair are made
pairs-lead : Leading PairsNodes
pairs-lead s w x t f h =
    let a = h.a in
    let b = h.b in
    let credits = h.credits in
    let client = h.client in
    let server = h.server in
    let cf = f.nodes a client h.is_client in
    let sf = f.nodes b server h.is_server in
    let c = client.lists in
    let v = server.lists in
    let one : Fact = client_fact a b credits c v in
    let other : Fact = server_fact a b credits c v in
    let room_client = pair-fits (clients_spent c) credits c h.client_fits in
    let room_server = pair-fits (servers_spent v) credits v h.server_fits in
    let is_one : h.at_client ≡ one =
    h.for_client ∙ ap (λ (n : ℕ). plain n
    (PairedClient (length c.clients) b v.server_numbers credits v.life)) cf.me in
    let is_other : h.at_server ≡ other =
    h.for_server ∙ ap (λ (n : ℕ). plain n
    (PairedServer v.server_numbers a (length c.clients) credits c.life)) sf.me in
    let u = paired w a b credits c v in
    let nodes1 : List Lists = slice_set w.nodes a (after w.clock c one) in
    let nodes2 : List Lists = slice_set nodes1 b (after w.clock v other) in
    let first : changed w.clock (slice_get w.nodes a) a w.nodes one ≡ nodes1 =
    ap (λ (o : Option Lists). changed w.clock o a w.nodes one) cf.is_node in
    let at_b : slice_get nodes1 b ≡ Some v =
    set-other w.nodes a b (after w.clock c one) (λ e. h.two (sym e)) ∙ sf.is_node in
    let all : u.nodes ≡ nodes2 =
    ap (λ (ns : List Lists). changed w.clock (slice_get ns b) b ns other) first
    ∙ ap (λ (o : Option Lists). changed w.clock o b nodes1 other) at_b in
    let stage1 : List Timed = slice_set s.nodes a (noted_by client one) in
    let at_stage : slice_get stage1 b ≡ Some server =
    set-other s.nodes a b (noted_by client one) (λ e. h.two (sym e)) ∙ h.is_server in
    let keep : (n : ℕ) (z : Timed) → (n ≡ a → ⊥) → slice_get s.nodes n ≡ Some z → Stands nodes1 n z = λ n z ne is. let k = f.nodes n z is in record { is_node = set-other w.nodes a n (after w.clock c one) ne ∙ k.is_node; me = k.me; life = k.life; right = k.right; valid = k.valid } in
    let here : Stands nodes1 a (noted_by client one) =
    record {
      is_node = set-here w.nodes a c (after w.clock c one) cf.is_node;
      me = cf.me;
      life = cf.life;
      right = right-client client.clock a b credits c v cf.right;
      valid = valid_after client.clock c one cf.valid (record { numbered = refl; room = room_client });
    } in
    let placed1 : Placed (Stands nodes1) stage1 =
    set-placed (Stands nodes1) s.nodes a client (noted_by client one) h.is_client here keep in
    let keep2 : (n : ℕ) (z : Timed) → (n ≡ b → ⊥) → slice_get stage1 n ≡ Some z → Stands nodes2 n z = λ n z ne is. let k = placed1 n z is in record { is_node = set-other nodes1 b n (after w.clock v other) ne ∙ k.is_node; me = k.me; life = k.life; right = k.right; valid = k.valid } in
    let here2 : Stands nodes2 b (noted_by server other) =
    record {
      is_node = set-here nodes1 b v (after w.clock v other) at_b;
      me = sf.me;
      life = sf.life;
      right = right-served server.clock b a credits c v sf.right;
      valid = valid_after server.clock v other sf.valid (record { numbered = refl; room = room_server });
    } in
    let placed2 : Placed (Stands nodes2) (slice_set stage1 b (noted_by server other)) =
    set-placed (Stands nodes2) stage1 b server (noted_by server other) at_stage here2 keep2 in
    let facts : x ≡ one ∷ other ∷ [] =
    h.facts ∙ (ap (λ (z : Fact). z ∷ h.at_server ∷ []) is_one
    ∙ ap (λ (z : Fact). one ∷ z ∷ []) is_other) in
    let left : t ≡ record s { nodes = slice_set stage1 b (noted_by server other) } =
    h.left ∙ (ap (λ (z : Fact). record s {
      nodes = slice_set (slice_set s.nodes a (noted_by client z)) b (noted_by server h.at_server);
    }) is_one ∙ ap (λ (z : Fact). record s { nodes = slice_set stage1 b (noted_by server z) })
    is_other) in
    let sizes : length u.nodes ≡ length (slice_set stage1 b (noted_by server other)) =
    ap length all ∙ (length-slice_set nodes1 b (after w.clock v other)
    ∙ (length-slice_set w.nodes a (after w.clock c one)
    ∙ (f.size ∙ sym (length-slice_set stage1 b (noted_by server other)
    ∙ length-slice_set s.nodes a (noted_by client one))))) in
    rw (facts, left) (record {
      end = u;
      course = pairing w a b credits c v [] u (record {
        is_client = cf.is_node;
        is_server = sf.is_node;
        two = h.two;
        client_life = cf.life ∙ sym (f.lives a);
        server_life = sf.life ∙ sym (f.lives b);
        fits_client = room_client;
        fits_server = room_server;
      }) (over u);
      fits = record {
        flight = f.flight;
        size = sizes;
        nodes = subst (λ (ns : List Lists). Placed (Stands ns)
            (slice_set stage1 b (noted_by server other))) (sym all) placed2;
        lives = λ j. life-kept j (told (told w.past one ∷ w.past) other) (told w.past one ∷ w.past) refl
            ∙ (life-kept j (told w.past one) w.past refl ∙ f.lives j);
      };
    })

step-leads : (parties : ℕ → Party) → Leading (JointStep parties)
step-leads parties s w x t f (makes h) = makes-lead parties s w x t f h
step-leads parties s w x t f (acts h) = acts-lead parties s w x t f h
step-leads parties s w x t f (pairs h) = pairs-lead s w x t f h
step-leads parties s w x t f (carries h) = carries-lead s w x t f h
step-leads parties s w x t f (of_network h) = nets-lead s w x t f h

pub joint-leads : (parties : ℕ → Party) → {x : List Fact} {t : Joint}
    → JointSteps parties x t → JointLeads first_moment x t
joint-leads parties none =
    record {
      end = first_moment;
      course = over first_moment;
      fits = record { flight = refl; size = refl; nodes = λ j z is. absurd (cc); lives = λ j. refl };
    }
joint-leads parties (more {x = x} {t = t} c y u h) =
    let l = joint-leads parties c in
    let k = step-leads parties t l.end y u l.fits h in
    record {
      end = k.end;
      course = course-append first_moment x l.end y k.end l.course k.course;
      fits = k.fits;
    }
