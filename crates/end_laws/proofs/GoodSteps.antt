-- What is known of both ends stays so by each fact.
use Rattle.rpc_base.specs.declared.limits.Limits.{Limits}
use Rattle.std.proofs.Common.{◌≡◌, ◌≤◌, ◌<◌, ◌+◌, ◌==◌, ℕ, Bool, true, false, List, [], ◌∷◌, ◌++◌, length, Option, None}
use Rattle.std.proofs.Common.{refl, sym, ap, ◌∙◌, subst, arith}
use Rattle.std.specs.List.{find, slice_set}
use Rattle.std.proofs.Common.{◌⊎◌, inl, inr, Some, slice_get}
use Rattle.rpc_laws.specs.declared.tables.Server.{Server}
use Rattle.rpc_laws.specs.Lives.{first_life}
use Rattle.rpc_laws.specs.Requests.{is_server}
use Rattle.end_laws.proofs.Known.{End, LiveAt}
use Rattle.std.proofs.lemmas.List.{length-append}
use Rattle.std.proofs.lemmas.Option.{slice_get_within}
use Rattle.rpc_base.specs.declared.event.Event.{Event}
use Rattle.rpc_base.specs.declared.event.Event.TheVariants.{Opened, Made, PairedClient, Asked, Begun, Ran, Sent}
use Rattle.rpc_base.specs.declared.event.Event.TheVariants.{Accepted, Connected, PairedServer}
use Rattle.rpc_base.specs.declared.owner.Owner.{Owner}
use Rattle.rpc_base.specs.declared.owner.Owner.TheVariants.{Ask, Reply, Control}
use Rattle.rpc_base.specs.declared.fact.Fact.{Fact}
use Rattle.rpc_base.specs.declared.fact.Who.{Who}
use Rattle.rpc_base.specs.declared.fact.Who.TheVariants.{Node, Net}
use Rattle.rpc_base.proofs.PlaceLemmas.{all-at, set-here, set-other}
use Rattle.rpc_laws.specs.declared.tables.InFlight.{InFlight}
use Rattle.rpc_laws.specs.declared.tables.Lists.{Lists}
use Rattle.rpc_laws.specs.BufferSafety.{nodes_at}
use Rattle.rpc_laws.specs.Facts.{plain, with_bytes, with_two}
use Rattle.rpc_laws.specs.NodeLists.{after, new_lists}
use Rattle.end_laws.specs.Moments.{Moment, moved}
use Rattle.node_laws.proofs.Allowed.{Allowed as Lawful}
use Rattle.node_laws.specs.Valid.{Valid}
use Rattle.end_laws.proofs.Allowed.{May, MaySend}
use Rattle.end_laws.proofs.BegunLemmas.{with_ask, later-ask, ask-same, true-ask, ask-node}
use Rattle.end_laws.proofs.BegunLemmas.{begins_known, later-begin, begin-same, true-begin}
use Rattle.end_laws.proofs.BegunLemmas.{begin-node}
use Rattle.end_laws.proofs.ClientLemmas.{is_quiet}
use Rattle.end_laws.proofs.ControlKnown.{open-node, with_end, later-accept, accept-same}
use Rattle.end_laws.proofs.ControlKnown.{true-accept}
use Rattle.end_laws.proofs.ControlKnown.{accept-node, accept-ends, connect-node}
use Rattle.end_laws.proofs.Courses.{made_at, AtNode, moved-node}
use Rattle.end_laws.proofs.GoodLemmas.{SameAt, node-more, noting-same, unmade-noting, own-fact, node-quiet}
use Rattle.end_laws.proofs.Known.{Known, Later, Speaks, GoodNode, Good, IsTrue, Unmade, noting, later-noting}
use Rattle.end_laws.proofs.KnownLemmas.{speaks-later, true-noting}
use Rattle.end_laws.proofs.ListLemmas.{Placed, set-placed, add-placed, length-slice_set}
use Rattle.end_laws.proofs.QueueLemmas.{QueueRight, RightNode}
use Rattle.end_laws.proofs.RanLemmas.{run-of, with_run, later-run, run-same, true-run, is-new, run-node}
use Rattle.end_laws.proofs.SaysLemmas.{sent-speaks, said-speaks}
use Rattle.end_laws.proofs.SendsLaw.{AllRight, owner-length}
use Rattle.end_laws.proofs.Valids.{AllValid}
use Rattle.end_laws.proofs.TravelLemmas.{SentGives, travels-map, travels-net, travels-node, rings-made, inboxes-made}
use Rattle.rpc_laws.specs.Endpoints.{Endpoint, Lived, life_at, life_by, told}
use Rattle.end_laws.specs.TwoEnds.{here}
use Rattle.std.proofs.lemmas.Bool.{eqb-false, eqb-true}
use Rattle.rpc_base.specs.declared.limits.Limits.{Limits}
use Rattle.end_laws.proofs.Known.{IsAhead}
use Rattle.rpc_base.specs.declared.event.Event.TheVariants.{Restarted}
use Rattle.rpc_laws.specs.BufferSafety.{anew}
use Rattle.rpc_laws.specs.NodeLists.{limits_of, restarted_lists}
use Rattle.end_laws.proofs.TravelLemmas.{travels-restart}

-- an end that is known was known before, or its server session has just been made
abbrev pub NewEnds : List Lists → Known → Known → Type 0
NewEnds nodes j k =
    (m : Endpoint) (t : ℕ) (e : End) → k.ends m t 0 ≡ Some e → (j.ends m t 0 ≡ Some e)
    ⊎ LiveAt nodes m.node t

-- what is known at another moment, and what was known before still is
pub record GoodNext (u : Moment) (j : Known) : Type 0 where
  pub good : Good u
  pub later : Later j good.known
  pub ends : NewEnds u.nodes j good.known

abbrev pub Nodes : Known → List Lists → Type 0
Nodes k nodes = Placed (λ n l. GoodNode k (here n l) l) nodes

more-nodes : (k : Known) (f : Lived) (nodes : List Lists) → Nodes k nodes → Nodes (noting k f) nodes
more-nodes k f nodes g =
    λ n l is. node-more k (noting k f) (later-noting k f) (here n l) l (noting-same k f (here n l)) (g n l is)

-- a fact of the network
pub next-net : (w : Moment) (f : Fact) → f.who ≡ Net → (g : Good w) → GoodNext (moved w f) g.known
next-net w f who g =
    let k = g.known in
    let fact = told w.past f in
    let k2 = noting k fact in
    let same : nodes_at w.clock f.who w.nodes f ≡ w.nodes = ap (λ (p : Who). nodes_at w.clock p w.nodes f) who in
    record {
      good = record {
        known = k2;
        past = ap (λ (p : List Lived). fact ∷ p) g.past;
        nodes = subst (Nodes k2) (sym same) (more-nodes k fact w.nodes g.nodes);
        travels = travels-map (Speaks k) (Speaks k2) (moved w f)
            (speaks-later k k2 (later-noting k fact)) (travels-net (Speaks k) w f who g.travels);
        is_true = true-noting k fact g.is_true;
        unmade = subst (Unmade k2) (sym same) (unmade-noting k fact w.nodes g.unmade);
      };
      later = later-noting k fact;
      ends = λ m t e is. inl is;
    }

pub good-net : (w : Moment) (f : Fact) → f.who ≡ Net → Good w → Good (moved w f)
good-net w f who g = (next-net w f who g).good

-- what is ahead of more nodes was ahead of those before
pub ahead-added : (nodes : List Lists) (new : Lists) (a : Endpoint) → IsAhead (nodes ++ new ∷ []) a
    → IsAhead nodes a
ahead-added nodes new a (inl le) =
    let more = length-append nodes (new ∷ []) in inl (omega arith)
ahead-added nodes new a (inr (l, is, lt)) =
    add-placed (λ j z. z.life < a.life → a.node ≡ j → IsAhead nodes a) nodes new
    (λ lt same. inl (omega arith))
    (λ j z at lt same. inr (z, subst (λ (i : ℕ). slice_get nodes i ≡ Some z) (sym same) at, lt))
    a.node l is lt refl

some-lists : (x y : Lists) → Some x ≡ Some y → x ≡ y
some-lists x y e = cc

-- nor is what is ahead where a node has another life, or the same one
pub ahead-set : (nodes : List Lists) (n : ℕ) (l m : Lists) (a : Endpoint) → slice_get nodes n ≡ Some l
    → l.life ≤ m.life → IsAhead (slice_set nodes n m) a → IsAhead nodes a
ahead-set nodes n l m a is le (inl low) = let size = length-slice_set nodes n m in inl (omega arith)
ahead-set nodes n l m a is le (inr (z, at, lt)) = by (a.node == n) refl
  where
    by : (b : Bool) → (a.node == n) ≡ b → IsAhead nodes a
    by true e =
        let same : a.node ≡ n = eqb-true a.node n e in
        let now : slice_get (slice_set nodes n m) n ≡ Some m = set-here nodes n l m is in
        let there : slice_get (slice_set nodes n m) n ≡ Some z = subst (λ (i : ℕ). slice_get (slice_set nodes n m) i ≡ Some z) same at in
        let one : z ≡ m = some-lists z m (sym there ∙ now) in
        let life : z.life ≡ m.life = ap (λ (x : Lists). x.life) one in
        inr (l, subst (λ (i : ℕ). slice_get nodes i ≡ Some l) (sym same) is, omega arith)
    by false e = inr (z, sym (set-other nodes n a.node m (eqb-false a.node n e)) ∙ at, lt)

-- of a new endpoint nothing is known
new-node : (k : Known) (nodes : List Lists) (me life : ℕ) (limits : Limits) → Unmade k nodes
    → IsAhead nodes (record { node = me; life = life })
    → GoodNode k (record { node = me; life = life }) (new_lists me life limits)
new-node k nodes me life limits u ahead =
    let n : Endpoint = record { node = me; life = life } in
    record {
      clients = λ i x is. absurd (cc);
      servers = tt;
      no_asks = λ c le. u.asks n c ahead;
      no_ends = λ t le. u.ends n t ahead;
      no_starts = λ s r le. u.starts n s r ahead;
      begun = λ s r b is. let none = u.starts n s r ahead in cc;
      no_runs = λ t r unrun. u.runs n t r ahead;
      jobs = tt;
    }

-- a node is made
pub next-made : (w : Moment) (limits : Limits) → (g : Good w)
    → GoodNext (made_at w limits) g.known
next-made w limits g =
    let k = g.known in
    let f : Lived = told w.past (plain (length w.nodes) (Made limits.ring)) in
    let k2 = noting k f in
    let count = length w.nodes in
    let u = unmade-noting k f w.nodes g.unmade in
    let new = new_lists count first_life limits in
    let last : count ≤ count = omega arith in
    let ahead : IsAhead w.nodes (record { node = count; life = first_life }) = inl last in
    let t = travels-map (Speaks k) (Speaks k2) w (speaks-later k k2 (later-noting k f)) g.travels in
    record {
      good = record {
        known = k2;
        past = ap (λ (p : List Lived). f ∷ p) g.past;
        nodes = add-placed (λ n l. GoodNode k2 (here n l) l) w.nodes new
            (new-node k2 w.nodes count first_life limits u ahead)
            (more-nodes k f w.nodes g.nodes);
        travels = record {
          flight = t.flight;
          hand = t.hand;
          rings = rings-made (Speaks k2) w limits t;
          inboxes = inboxes-made (Speaks k2) w limits t;
        };
        is_true = true-noting k f g.is_true;
        unmade = record {
          asks = λ n c le. u.asks n c (ahead-added w.nodes new n le);
          ends = λ n t le. u.ends n t (ahead-added w.nodes new n le);
          starts = λ n s r le. u.starts n s r (ahead-added w.nodes new n le);
          runs = λ n t r le. u.runs n t r (ahead-added w.nodes new n le);
        };
      };
      later = later-noting k f;
      ends = λ m t e is. inl is;
    }

pub good-made : (w : Moment) (limits : Limits) → Good w
    → Good (made_at w limits)
good-made w limits g = (next-made w limits g).good

-- a node is restarted: of its new life nothing is known
pub next-restart : (w : Moment) (n : ℕ) (l : Lists) → slice_get w.nodes n ≡ Some l → l.me ≡ n → (g : Good w)
    → GoodNext (moved w (plain n (Restarted (l.life + 1)))) g.known
next-restart w n l is me g =
    let k = g.known in
    let fact : Fact = plain n (Restarted (l.life + 1)) in
    let f : Lived = told w.past fact in
    let k2 = noting k f in
    let u = unmade-noting k f w.nodes g.unmade in
    let new = restarted_lists l in
    let less : l.life < l.life + 1 = omega arith in
    let ahead : IsAhead w.nodes (record { node = n; life = l.life + 1 }) = inr (l, is, less) in
    let made : GoodNode k2 (record { node = n; life = l.life + 1 }) new =
    subst (λ (m : ℕ). GoodNode k2 (record { node = n; life = l.life + 1 })
    (new_lists m (l.life + 1) (limits_of l))) (sym me)
    (new-node k2 w.nodes n (l.life + 1) (limits_of l) u ahead) in
    let nodes : Nodes k2 (slice_set w.nodes n new) =
    set-placed (λ n l. GoodNode k2 (here n l) l) w.nodes n l new is made
    (λ m z ne at. more-nodes k f w.nodes g.nodes m z at) in
    let before : (m : Endpoint) → IsAhead (slice_set w.nodes n new) m → IsAhead w.nodes m =
    λ m a. ahead-set w.nodes n l new m is (omega arith) a in
    let unmade : Unmade k2 (slice_set w.nodes n new) = record {
      asks = λ m c le. u.asks m c (before m le);
      ends = λ m t le. u.ends m t (before m le);
      starts = λ m s r le. u.starts m s r (before m le);
      runs = λ m t r le. u.runs m t r (before m le);
    } in
    let same : (moved w fact).nodes ≡ slice_set w.nodes n new =
    ap (λ (o : Option Lists). anew o n w.nodes) is in
    record {
      good = record {
        known = k2;
        past = ap (λ (p : List Lived). f ∷ p) g.past;
        nodes = subst (Nodes k2) (sym same) nodes;
        travels = travels-map (Speaks k) (Speaks k2) (moved w fact)
            (speaks-later k k2 (later-noting k f)) (travels-restart (Speaks k) w n l is g.travels);
        is_true = true-noting k f g.is_true;
        unmade = subst (Unmade k2) (sym same) unmade;
      };
      later = later-noting k f;
      ends = λ m t e is. inl is;
    }

pub good-restart : (w : Moment) (n : ℕ) (l : Lists) → slice_get w.nodes n ≡ Some l → l.me ≡ n → Good w
    → Good (moved w (plain n (Restarted (l.life + 1))))
good-restart w n l is me g = (next-restart w n l is me g).good

-- what is sent says what is so
owner-gives : (k : Known) (n : Endpoint) (l : Lists) (peer : ℕ) (o : Owner) (j : ℕ) (first second : List ℕ)
    → GoodNode k n l → RightNode l → MaySend l peer o j first second
    → Speaks k n.node peer (first ++ second)
owner-gives k n l peer o j first second g i m =
    let right = all-at (λ q. QueueRight l.servers l.server_numbers q.owner q.number)
    l.queued 0 _ i.queue m.is_front in
    sent-speaks k n l peer o j first second g m (owner-length l o j m.out i right m.own)

sent-gives : (k : Known) (n : Endpoint) (hand : Option InFlight) (l : Lists) (e : Event)
    (first second : List ℕ) → l.life ≡ n.life → GoodNode k n l → RightNode l
    → May hand l e first second → SentGives (Speaks k) n.node e first second
sent-gives k n hand l (Sent peer (Ask s r) j) first second now g i m =
    owner-gives k n l peer (Ask s r) j first second g i m
sent-gives k n hand l (Sent peer (Reply t r) j) first second now g i m =
    owner-gives k n l peer (Reply t r) j first second g i m
sent-gives k n hand l (Sent peer Control j) first second now g i m =
    said-speaks k n l peer j first second now g m
sent-gives k n hand l _ first second now g i m = tt

-- what is known after a fact of a node
pub record NodeKnows (w : Moment) (n : ℕ) (l : Lists) (f : Fact) (j : Known) : Type 0 where
  pub known : Known
  pub past : known.past ≡ told w.past f ∷ j.past
  pub later : Later j known
  pub others : (i : Endpoint) → (i ≡ here n l → ⊥) → SameAt j known i
  pub is_true : IsTrue known
  pub now : GoodNode known (here n l) (after w.clock l f)
  pub ends : (m : Endpoint) (t : ℕ) (e : End) → known.ends m t 0 ≡ Some e → (j.ends m t 0 ≡ Some e)
      ⊎ ((m ≡ here n l) × ((v : Server) × (find (is_server t) (after w.clock l f).servers ≡ Some v)))

-- no endpoint of the present is ahead
pub not-ahead : (nodes : List Lists) (n : ℕ) (l : Lists) → slice_get nodes n ≡ Some l
    → IsAhead nodes (here n l) → ⊥
not-ahead nodes n l is (inl le) = let low = slice_get_within nodes n l is in omega arith
not-ahead nodes n l is (inr (z, at, lt)) =
    let same : l.life ≡ z.life = ap (λ (x : Lists). x.life) (some-lists l z (sym is ∙ at)) in
    let above : z.life < l.life = lt in
    omega arith

pub good-known : (w : Moment) (n : ℕ) (l : Lists) (f : Fact) → AtNode w n l f → AllRight w
    → (g : Good w) → NodeKnows w n l f g.known → GoodNext (moved w f) g.known
good-known w n l f a i g h =
    let j = g.known in
    let k = h.known in
    let e = moved-node w n l f a in
    let l2 = after w.clock l f in
    let sent = sent-gives j (here n l) w.hand l f.event f.first f.second refl (g.nodes n l a.is_node)
    (i n l a.is_node) a.allowed.may in
    let travels = travels-map (Speaks j) (Speaks k) (moved w f) (speaks-later j k h.later)
    (travels-node (Speaks j) w n l f a sent g.travels) in
    let placed : Nodes k (slice_set w.nodes n l2) =
    set-placed (λ n l. GoodNode k (here n l) l) w.nodes n l l2 a.is_node h.now
    (λ m z ne is. node-more j k h.later (here m z) z
    (h.others (here m z) (λ same. ne (ap (λ (x : Endpoint). x.node) same))) (g.nodes m z is)) in
    let size = length-slice_set w.nodes n l2 in
    let u = g.unmade in
    let within = slice_get_within w.nodes n l a.is_node in
    let differs : (m : Endpoint) → IsAhead w.nodes m → (m ≡ here n l → ⊥) =
    λ m ahead same. not-ahead w.nodes n l a.is_node (subst (IsAhead w.nodes) same ahead) in
    let before : (m : Endpoint) → IsAhead (slice_set w.nodes n l2) m → IsAhead w.nodes m =
    λ m ahead. ahead-set w.nodes n l l2 m a.is_node (omega arith) ahead in
    let unmade : Unmade k (slice_set w.nodes n l2) = record {
      asks = λ m c le. (h.others m (differs m (before m le))).asks c (u.asks m c (before m le));
      ends = λ m t le. (h.others m (differs m (before m le))).ends t (u.ends m t (before m le));
      starts = λ m s r le. (h.others m (differs m (before m le))).starts s r (u.starts m s r (before m le));
      runs = λ m t r le. (h.others m (differs m (before m le))).runs t r (u.runs m t r (before m le));
    } in
    let nodes_are : (moved w f).nodes ≡ slice_set w.nodes n l2 = ap (λ (v : Moment). v.nodes) e in
    let there : slice_get (moved w f).nodes n ≡ Some l2 =
    ap (λ (ns : List Lists). slice_get ns n) nodes_are ∙ set-here w.nodes n l l2 a.is_node in
    let ends-now : NewEnds (moved w f).nodes j k =
    λ m t x is. elim (h.ends m t x is) [
      | inl old ↦ inl old
      | inr new ↦ inr (record {
        lists = l2;
        is_node = ap (slice_get (moved w f).nodes) (ap (λ (x : Endpoint). x.node) new.0) ∙ there;
        server = new.1.0;
        found = new.1.1;
      })
    ] in
    record {
      good = record {
        known = k;
        past = h.past ∙ ap (λ (p : List Lived). told w.past f ∷ p) g.past;
        nodes = subst (Nodes k) (sym nodes_are) placed;
        travels = travels;
        is_true = h.is_true;
        unmade = subst (Unmade k) (sym nodes_are) unmade;
      };
      later = h.later;
      ends = ends-now;
    }

-- a fact with the life of its node
pub told-here : (w : Moment) (n : ℕ) (l : Lists) (f : Fact) → f.who ≡ Node n → l.life ≡ life_by n w.past
    → told w.past f ≡ record { life = l.life; fact = f }
told-here w n l f who life =
    ap (λ (x : ℕ). record { life = x; fact = f })
    (ap (λ (p : Who). life_at p w.past) who ∙ sym life)

-- one more fact is known
told-more : (w : Moment) (n : ℕ) (l : Lists) (f : Fact) (past : List Lived) → f.who ≡ Node n
    → l.life ≡ life_by n w.past → (record { life = l.life; fact = f } ∷ past) ≡ told w.past f ∷ past
told-more w n l f past who life = ap (λ (x : Lived). x ∷ past) (sym (told-here w n l f who life))

-- a fact that adds nothing to the logs
knows-quiet : (w : Moment) (n : ℕ) (l : Lists) (f : Fact) → AtNode w n l f → RightNode l → Valid l
    → (g : Good w) → is_quiet f.event ≡ true → NodeKnows w n l f g.known
knows-quiet w n l f a i v g quiet =
    let k = g.known in
    let fact = told w.past f in
    record {
      known = noting k fact;
      past = refl;
      later = later-noting k fact;
      others = λ i ne. noting-same k fact i;
      is_true = true-noting k fact g.is_true;
      ends = λ m t e is. inl is;
      now = node-quiet k w.hand w.clock (here n l) l fact f refl quiet a.allowed.may v a.lawful i
          (g.travels.rings n l a.is_node) (g.nodes n l a.is_node);
    }

-- a fact with no bytes
plain-fact : (n : ℕ) (e g : Event) (first second : List ℕ) → e ≡ g → first ≡ [] → second ≡ []
    → plain n e ≡ record { who = Node n; event = g; first = first; second = second }
plain-fact n e g first second same a b =
    ap (λ (x : Event). plain n x) same
    ∙ (ap (λ (x : List ℕ). record { who = Node n; event = g; first = x; second = [] }) (sym a)
    ∙ ap (λ (x : List ℕ). record { who = Node n; event = g; first = first; second = x }) (sym b))

knows-event : (w : Moment) (n : ℕ) (l : Lists) (e : Event) (first second : List ℕ)
    → AtNode w n l (record { who = Node n; event = e; first = first; second = second })
    → RightNode l → Valid l → (g : Good w)
    → NodeKnows w n l (record { who = Node n; event = e; first = first; second = second }) g.known
knows-event w n l (Asked c s y room) first second a i v g =
    let k = g.known in
    let m = a.allowed.may in
    let good = g.nodes n l a.is_node in
    let new = m.0 in
    let none : k.asks (here n l) c 0 ≡ None = good.no_asks c (omega arith) in
    let plain_fact : with_bytes n (Asked c s y room) first
    ≡ record { who = Node n; event = Asked c s y room; first = first; second = second } =
    ap (λ (x : List ℕ). record {
      who = Node n;
      event = Asked c s y room;
      first = first;
      second = x;
    }) (sym m.1) in
    let knows : NodeKnows w n l (with_bytes n (Asked c s y room) first) k = record {
      known = with_ask k (here n l) c s y room first;
      past = told-more w n l (with_bytes n (Asked c s y room) first) k.past refl a.life;
      later = later-ask k (here n l) c s y room first none;
      others = ask-same k (here n l) c s y room first;
      is_true = true-ask k (here n l) c s y room first g.is_true;
      ends = λ m t e is. inl is;
      now = ask-node k (here n l) c s y room first w.clock l m.0 v a.lawful good;
    } in
    subst (λ (f : Fact). NodeKnows w n l f k) plain_fact knows
knows-event w n l (Begun c r) first second a i v g =
    let k = g.known in
    let m = a.allowed.may in
    let good = g.nodes n l a.is_node in
    let plain_fact : plain n (Begun c r) ≡ record {
      who = Node n;
      event = Begun c r;
      first = first;
      second = second;
    } = ap (λ (x : List ℕ).
    record { who = Node n; event = Begun c r; first = x; second = [] }) (sym m.1)
    ∙ ap (λ (x : List ℕ). record {
      who = Node n;
      event = Begun c r;
      first = first;
      second = x;
    }) (sym m.2) in
    let knows : NodeKnows w n l (plain n (Begun c r)) k = record {
      known = begins_known k (here n l) c r l m.0 good;
      past = told-more w n l (plain n (Begun c r)) k.past refl a.life;
      later = later-begin k (here n l) c r l m.0 good;
      others = begin-same k (here n l) c r l m.0 good;
      is_true = true-begin k (here n l) c r l m.0 good g.is_true;
      ends = λ m t e is. inl is;
      now = begin-node k (here n l) c r l m.0 good w.clock v a.lawful;
    } in
    subst (λ (f : Fact). NodeKnows w n l f k) plain_fact knows
knows-event w n l (Ran t r y) first second a i v g =
    let k = g.known in
    let m = a.allowed.may in
    let good = g.nodes n l a.is_node in
    let o = run-of k (here n l) l t r y first good m in
    let none : k.runs (here n l) t r ≡ None = is-new k (here n l) t r y first second l o good v a.lawful in
    record {
      known = with_run k (here n l) t r y first second;
      past = told-more w n l (with_two n (Ran t r y) first second) k.past refl a.life;
      later = later-run k (here n l) t r y first second none;
      others = run-same k (here n l) t r y first second;
      is_true = true-run k (here n l) t r y first second o g.is_true;
      ends = λ m t e is. inl is;
      now = run-node k (here n l) t r y first second l o good v a.lawful w.clock w.hand m;
    }
knows-event w n l (Opened s peer credits) first second a i v g =
    let k = g.known in
    let m = a.allowed.may in
    let lawful : Lawful l (Opened (length l.clients) peer credits) =
    subst (λ (x : ℕ). Lawful l (Opened x peer credits)) m.0 a.lawful in
    let f : Fact = plain n (Opened (length l.clients) peer credits) in
    let fact : Lived = record { life = l.life; fact = f } in
    let knows : NodeKnows w n l f k = record {
      known = noting k fact;
      past = told-more w n l f k.past refl a.life;
      later = later-noting k fact;
      others = λ j ne. noting-same k fact j;
      is_true = true-noting k fact g.is_true;
      ends = λ m t e is. inl is;
      now = open-node k (here n l) peer credits w.clock l v (g.nodes n l a.is_node) lawful;
    } in
    subst (λ (f : Fact). NodeKnows w n l f k) (plain-fact n (Opened (length l.clients) peer credits)
    (Opened s peer credits) first second (ap (λ (x : ℕ). Opened x peer credits) (sym m.0)) m.1 m.2)
    knows
knows-event w n l (Accepted t peer s credits life) first second a i v g =
    let k = g.known in
    let m = a.allowed.may in
    let good = g.nodes n l a.is_node in
    let lawful : Lawful l (Accepted l.server_numbers peer s credits life) =
    subst (λ (x : ℕ). Lawful l (Accepted x peer s credits life)) m.0 a.lawful in
    let from : Endpoint = record { node = peer; life = life } in
    let knows : NodeKnows w n l (plain n (Accepted l.server_numbers peer s credits life)) k = record {
      known = with_end k (here n l) l.server_numbers from s credits;
      past = told-more w n l (plain n (Accepted l.server_numbers peer s credits life)) k.past refl a.life;
      later = later-accept k (here n l) from s credits l good;
      others = accept-same k (here n l) from s credits l good;
      is_true = true-accept k (here n l) from s credits l good g.is_true;
      ends = accept-ends k (here n l) from s credits l good i.alone;
      now = accept-node k (here n l) from s credits l good w.clock v lawful;
    } in
    subst (λ (f : Fact). NodeKnows w n l f k)
    (plain-fact n (Accepted l.server_numbers peer s credits life)
    (Accepted t peer s credits life) first second
    (ap (λ (x : ℕ). Accepted x peer s credits life) (sym m.0)) m.1
    m.2) knows
knows-event w n l (Connected s t life) first second a i v g =
    let k = g.known in
    let m = a.allowed.may in
    let f : Fact = plain n (Connected s t life) in
    let fact : Lived = record { life = l.life; fact = f } in
    let knows : NodeKnows w n l f k = record {
      known = noting k fact;
      past = told-more w n l f k.past refl a.life;
      later = later-noting k fact;
      others = λ j ne. noting-same k fact j;
      is_true = true-noting k fact g.is_true;
      ends = λ m t e is. inl is;
      now = connect-node k (here n l) s t life w.hand l m.0 a.me refl g.travels.hand
          (g.nodes n l a.is_node) w.clock v a.lawful;
    } in
    subst (λ (f : Fact). NodeKnows w n l f k)
    (plain-fact n (Connected s t life) (Connected s t life) first second
    refl m.1 m.2) knows
knows-event w n l (PairedClient s peer t credits life) first second a i v g = absurd a.allowed.may
knows-event w n l (PairedServer t peer s credits life) first second a i v g = absurd a.allowed.may
knows-event w n l e first second a i v g =
    knows-quiet w n l (record { who = Node n; event = e; first = first; second = second }) a i v g
    refl

pub next-node : (w : Moment) (n : ℕ) (l : Lists) (f : Fact) → AtNode w n l f → AllRight w
    → AllValid w
    → (g : Good w) → GoodNext (moved w f) g.known
next-node w n l f a i v g =
    let who : f.who ≡ Node n = a.allowed.who ∙ ap Node a.me in
    let e = own-fact f n who in
    let at : AtNode w n l (record {
      who = Node n;
      event = f.event;
      first = f.first;
      second = f.second;
    }) = subst (AtNode w n l) e a in
    good-known w n l f a i g (subst (λ (x : Fact). NodeKnows w n l x g.known) (sym e)
    (knows-event w n l f.event f.first f.second at (i n l a.is_node) (v n l a.is_node) g))

pub good-node : (w : Moment) (n : ℕ) (l : Lists) (f : Fact) → AtNode w n l f → AllRight w
    → AllValid w
    → Good w → Good (moved w f)
good-node w n l f a i v g = (next-node w n l f a i v g).good
