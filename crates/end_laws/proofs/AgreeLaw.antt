-- Both ends of each session agree at each moment.
use Rattle.rpc_base.specs.declared.limits.Limits.{Limits}
use Rattle.std.proofs.Common.{◌≡◌, ◌<◌, ◌≤◌, ◌+◌, ℕ, List, [], ◌∷◌, ◌++◌, length, Option, Some}
use Rattle.std.proofs.Common.{None}
use Rattle.std.proofs.Common.{slice_get, refl, sym, ap, ◌∙◌, subst, arith, append-nil}
use Rattle.std.specs.Prelude.{IfSome}
use Rattle.std.specs.List.{slice_set, AllByRecursion}
use Rattle.std.proofs.lemmas.List.Elements.{All-contains, All-from_recursion}
use Rattle.std.proofs.Common.{Bool, true, false, cond, ◌&&◌, ◌==◌, inl, inr}
use Rattle.std.proofs.lemmas.Bool.{eqb-true}
use Rattle.rpc_base.proofs.BasicLemmas.{false-true}
use Rattle.packet_header.specs.declared.packet.ControlHeader.{ControlHeader}
use Rattle.packet_header.specs.declared.packet.ControlKind.{ControlKind}
use Rattle.packet_header.specs.declared.packet.ControlKind.TheVariants.{DisconnectRequest}
use Rattle.packet_header.specs.declared.packet.Packet.TheVariants.{Control as ControlPacket}
use Rattle.packet_header.proofs.Readings.{spells-decoded}
use Rattle.rpc_base.specs.declared.event.Event.{Event}
use Rattle.rpc_base.specs.declared.event.Event.TheVariants.{Made, Restarted, Sent}
use Rattle.rpc_base.specs.declared.fact.Fact.{Fact}
use Rattle.rpc_base.specs.declared.fact.Who.{Who}
use Rattle.rpc_base.specs.declared.fact.Who.TheVariants.{Node, Net}
use Rattle.rpc_base.specs.declared.owner.Owner.TheVariants.{Control}
use Rattle.rpc_base.proofs.PlaceLemmas.{set-other}
use Rattle.rpc_laws.specs.declared.tables.Client.{Client}
use Rattle.rpc_laws.specs.declared.tables.InFlight.{InFlight}
use Rattle.rpc_laws.specs.declared.tables.Lists.{Lists}
use Rattle.rpc_laws.specs.BufferSafety.{anew, changed, nodes_at}
use Rattle.rpc_laws.specs.Facts.{plain}
use Rattle.rpc_laws.specs.Front.{control_in, control_of, front_body, front_header}
use Rattle.rpc_laws.specs.Lives.{first_life}
use Rattle.rpc_laws.specs.NodeLists.{after, new_lists, restarted_lists}
use Rattle.rpc_laws.specs.UsualLimits.{with_ring}
use Rattle.node_laws.proofs.NumberLemmas.{numbered-at}
use Rattle.node_laws.specs.Valid.{Valid, client_no}
use Rattle.end_laws.specs.Genuine.{Travels}
use Rattle.end_laws.specs.Handshakes.{Agree, ConnectsMade, IsLetGo, IsMade, LetsGo, NamesMade}
use Rattle.end_laws.specs.Moments.{Always, first_moment, Moment, moved}
use Rattle.end_laws.proofs.Allowed.{May}
use Rattle.end_laws.proofs.Courses.{made_as, resets, AtNode, Ends, Course, over, in_net, made, at_node, pairs}
use Rattle.end_laws.proofs.Courses.{client_fact, server_fact, paired, moved-node}
use Rattle.end_laws.proofs.GoodSteps.{good-net, good-made, good-node, good-restart}
use Rattle.end_laws.proofs.GoodSteps.{ahead-added, ahead-set, not-ahead, told-here}
use Rattle.end_laws.proofs.Known.{Known, Speaks, Tells, RepliesBy, Good, contains-more}
use Rattle.end_laws.proofs.LetGoSteps.{GoneFrom, KinAll, clients-kin, gone-kin, kin-added, kin-same}
use Rattle.end_laws.proofs.LetGoSteps.{sent-gone}
use Rattle.end_laws.proofs.ListLemmas.{Placed, add-placed, all-map}
use Rattle.end_laws.proofs.ListLemmas.{set-placed}
use Rattle.end_laws.proofs.OwnLaw.{good-paired}
use Rattle.end_laws.proofs.SendsLaw.{AllRight, right-made, right-net, right-noted, right-paired}
use Rattle.end_laws.proofs.TravelLemmas.{travels-client, travels-map}
use Rattle.end_laws.proofs.TwoEndsLaw.{placed-all}
use Rattle.end_laws.proofs.Valids.{AllValid, valid-made, valid-net, valid-node, valid-one}
use Rattle.end_laws.proofs.Valids.{valid-pair}
use Rattle.rpc_laws.specs.AtMostOnce.{is_at}
use Rattle.rpc_laws.specs.Endpoints.{Endpoint, Lived, begins_life, life_by, noted_two, told}
use Rattle.end_laws.specs.TwoEnds.{here}
use Rattle.end_laws.proofs.Known.{IsAhead}
use Rattle.end_laws.proofs.Courses.{restarts}
use Rattle.end_laws.proofs.ListLemmas.{add-last}
use Rattle.end_laws.proofs.SendsLaw.{right-restart}
use Rattle.end_laws.proofs.Valids.{valid-restart}

-- what a fact says that endpoint n let go of, its clients let go of
abbrev pub LetAt : Endpoint → List Client → Lived → Type 0
LetAt n xs f =
    (peer number : ℕ) (head body : List ℕ) → f ≡ noted_two n (Sent peer Control number) head body
    → (h : ControlHeader) → control_of (head ++ body) ≡ Some h → h.kind ≡ DisconnectRequest
    → (t life : ℕ) → h.server ≡ Some t → h.to_life ≡ Some life → GoneFrom xs h.client t life

-- so it is of all nodes and facts, and each fact is of an endpoint that was made, or of the network
pub record Lets (nodes : List Lists) (past : List Lived) : Type 0 where
  pub let_go : Placed (λ n l. AllByRecursion (LetAt (here n l) l.clients) past) nodes
  pub of_node : AllByRecursion (λ f. (n : ℕ) → f.fact.who ≡ Node n
      → IsAhead nodes (record { node = n; life = f.life }) → ⊥) past

let-kin : (n : Endpoint) (xs ys : List Client) (past : List Lived) → KinAll xs ys
    → AllByRecursion (LetAt n xs) past → AllByRecursion (LetAt n ys) past
let-kin n xs ys past kin h =
    all-map (LetAt n xs) (LetAt n ys) past
    (λ f g peer number head body e c reads kind t life names goes.
    gone-kin xs ys c.client t life kin (g peer number head body e c reads kind t life names goes)) h

other-who : (n m : ℕ) (f g : Lived) → f.fact.who ≡ Node n → g.fact.who ≡ Node m → f ≡ g → n ≡ m
other-who n m f g a b e = who-same (sym a ∙ (ap (λ (x : Lived). x.fact.who) e ∙ b))
  where
    who-same : Node n ≡ Node m → n ≡ m
    who-same e = cc

-- a fact of a node
lets-node : (nodes : List Lists) (past : List Lived) (n : ℕ) (l m : Lists) (f : Lived)
    → slice_get nodes n ≡ Some l → f.fact.who ≡ Node n → f.life ≡ l.life → m.life ≡ l.life
    → KinAll l.clients m.clients → LetAt (here n l) l.clients f
    → Lets nodes past → Lets (slice_set nodes n m) (f ∷ past)
lets-node nodes past n l m f is who life still kin first h =
    let before : (a : Endpoint) → IsAhead (slice_set nodes n m) a → IsAhead nodes a =
    λ a ahead. ahead-set nodes n l m a is (omega arith) ahead in
    let same : here n m ≡ here n l = ap (λ (x : ℕ). record { node = n; life = x }) still in
    record {
      let_go = set-placed (λ n l. AllByRecursion (LetAt (here n l) l.clients) (f ∷ past)) nodes n l m is
          (subst (λ (a : Endpoint). AllByRecursion (LetAt a m.clients) (f ∷ past)) (sym same)
          (let-kin (here n l) l.clients m.clients (f ∷ past) kin (first, h.let_go n l is)))
          (λ j z ne at. (
            λ peer number head body e. absurd (ne (other-who j n
                (noted_two (here j z) (Sent peer Control number) head body) f refl who (sym e))),
            h.let_go j z at,
          ));
      of_node = (
        λ j at ahead. let one : n ≡ j = other-who n j f f who at refl in
            not-ahead nodes n l is (subst (IsAhead nodes) (same-end j one) (before (record { node = j; life = f.life }) ahead)),
        all-map _ _ past (λ g k j at ahead. k j at (before (record { node = j; life = g.life }) ahead)) h.of_node,
      );
    }
  where
    same-end : (j : ℕ) → n ≡ j → record { node = j; life = f.life } ≡ here n l
    same-end j one =
        ap (λ (x : ℕ). record { node = x; life = f.life }) (sym one)
        ∙ ap (λ (x : ℕ). record { node = n; life = x }) life

-- a fact that sends a control packet
abbrev is_said : Event → Bool
is_said (Sent peer Control number) = true
is_said _ = false

not-said : {A : Type 0} (f : Lived) (n : Endpoint) (peer number : ℕ) (head body : List ℕ)
    → is_said f.fact.event ≡ false
    → f ≡ noted_two n (Sent peer Control number) head body → A
not-said f n peer number head body none e =
    false-true (sym none ∙ ap (λ (x : Lived). is_said x.fact.event) e)

not-net : {A : Type 0} (f : Lived) (n : ℕ) → f.fact.who ≡ Net → f.fact.who ≡ Node n → A
not-net f n who at = no (sym who ∙ at)
  where
    no : {A : Type 0} → Net ≡ Node n → A
    no e = cc

lets-net : (nodes : List Lists) (past : List Lived) (f : Lived) → f.fact.who ≡ Net → Lets nodes past
    → Lets nodes (f ∷ past)
lets-net nodes past f who h = record {
  let_go = λ n l is. (
    λ peer number head body e. not-net f n who (ap (λ (x : Lived). x.fact.who) e),
    h.let_go n l is,
  );
  of_node = (λ j at. not-net f j who at, h.of_node);
}

-- what was said by others than a new endpoint lets none of its sessions go
none-let : (nodes : List Lists) (past : List Lived) (n : Endpoint) (xs : List Client) → IsAhead nodes n
    → AllByRecursion (λ f. (j : ℕ) → f.fact.who ≡ Node j
    → IsAhead nodes (record { node = j; life = f.life }) → ⊥) past
    → AllByRecursion (LetAt n xs) past
none-let nodes past n xs ahead h =
    all-map _ (LetAt n xs) past
    (λ g k peer number head body e. absurd (k n.node (ap (λ (x : Lived). x.fact.who) e)
    (subst (λ (w : ℕ). IsAhead nodes (record { node = n.node; life = w }))
    (sym (ap (λ (x : Lived). x.life) e)) ahead))) h

module _ (count : ℕ) (nodes : List Lists) (is_count : count ≡ length nodes) where
  not-one : (b c : Bool) (life : ℕ) → b ≡ false → life ≡ first_life
      → cond (b && c) (life + 1) life ≡ first_life
  not-one b c life e h = rw (e, h) refl

  not-node : (m life : ℕ) → (IsAhead nodes (record { node = m; life = life }) → ⊥) → (b : Bool)
      → (m == count) ≡ b → b ≡ false
  not-node m life apart true e =
      let same : m ≡ count = eqb-true m count e in
      absurd (apart (inl (omega arith)))
  not-node m life apart false e = refl

  not-by : (f : Lived) → ((j : ℕ) → f.fact.who ≡ Node j
      → IsAhead nodes (record { node = j; life = f.life }) → ⊥) → (who : Who) → f.fact.who ≡ who
      → is_at count who ≡ false
  not-by f apart Net at = refl
  not-by f apart (Node m) at = not-node m f.life (apart m at) (m == count) refl

  -- a node that isn't made has its first life to come
  none-yet : (past : List Lived)
      → AllByRecursion (λ f. (j : ℕ) → f.fact.who ≡ Node j
      → IsAhead nodes (record { node = j; life = f.life }) → ⊥) past
      → life_by count past ≡ first_life
  none-yet [] h = refl
  none-yet (f ∷ past) h =
      not-one (is_at count f.fact.who) (begins_life f.fact.event) (life_by count past)
      (not-by f h.0 f.fact.who refl) (none-yet past h.1)

made-first : (nodes : List Lists) (past : List Lived) (new : Lists) (j : ℕ) → length nodes ≡ j
    → new.life ≡ life_by (length nodes) past
    → IsAhead (nodes ++ new ∷ []) (record { node = j; life = life_by (length nodes) past }) → ⊥
made-first nodes past new j same life gone =
    let last : slice_get (nodes ++ new ∷ []) (length nodes) ≡ Some new = add-last nodes new in
    not-ahead (nodes ++ new ∷ []) (length nodes) new last
    (subst (λ (a : Endpoint). IsAhead (nodes ++ new ∷ []) a)
    (ap (λ (x : ℕ). record { node = x; life = life_by (length nodes) past }) (sym same)
    ∙ ap (λ (x : ℕ). record { node = length nodes; life = x }) (sym life)) gone)

-- a node is made
pub lets-made : (nodes : List Lists) (past : List Lived) (limits : Limits) → Lets nodes past
    → Lets (nodes ++ new_lists (length nodes) first_life limits ∷ [])
    (told past (plain (length nodes) (Made limits.ring)) ∷ past)
lets-made nodes past limits h =
    let n = length nodes in
    let f : Lived = told past (plain n (Made limits.ring)) in
    let new = new_lists n first_life limits in
    let last : n ≤ n = omega arith in
    let ahead : IsAhead nodes (here n new) = inl last in
    let none : (a : Endpoint) (xs : List Client) → LetAt a xs f =
    λ a xs peer number head body e. not-said f a peer number head body refl e in
    record {
      let_go = add-placed (λ n l. AllByRecursion (LetAt (here n l) l.clients) (f ∷ past)) nodes new
          (none (here n new) [], none-let nodes past (here n new) [] ahead h.of_node)
          (λ j l is. (none (here j l) l.clients, h.let_go j l is));
      of_node = (
        λ j at gone. made-first nodes past new j (other-who n j f f refl at refl) (sym (none-yet (length nodes) nodes refl past h.of_node)) gone,
        all-map _ _ past (λ g k j at gone. k j at (ahead-added nodes new _ gone)) h.of_node,
      );
    }

-- a node is restarted
lets-restart : (nodes : List Lists) (past : List Lived) (n : ℕ) (l : Lists) (f : Lived)
    → slice_get nodes n ≡ Some l → f.fact.who ≡ Node n → f.life ≡ l.life → is_said f.fact.event ≡ false
    → Lets nodes past → Lets (slice_set nodes n (restarted_lists l)) (f ∷ past)
lets-restart nodes past n l f is who life quiet h =
    let new = restarted_lists l in
    let less : l.life < l.life + 1 = omega arith in
    let ahead : IsAhead nodes (here n new) = inr (l, is, less) in
    let before : (a : Endpoint) → IsAhead (slice_set nodes n new) a → IsAhead nodes a =
    λ a gone. ahead-set nodes n l new a is (omega arith) gone in
    let none : (a : Endpoint) (xs : List Client) → LetAt a xs f =
    λ a xs peer number head body e. not-said f a peer number head body quiet e in
    record {
      let_go = set-placed (λ n l. AllByRecursion (LetAt (here n l) l.clients) (f ∷ past)) nodes n l new is
          (none (here n new) [], none-let nodes past (here n new) [] ahead h.of_node)
          (λ j z ne at. (none (here j z) z.clients, h.let_go j z at));
      of_node = (
        λ j at gone. let one : n ≡ j = other-who n j f f who at refl in
            not-ahead nodes n l is (subst (IsAhead nodes)
            (ap (λ (x : ℕ). record { node = x; life = f.life }) (sym one)
            ∙ ap (λ (x : ℕ). record { node = n; life = x }) life)
            (before (record { node = j; life = f.life }) gone)),
        all-map _ _ past (λ g k j at gone. k j at (before (record { node = j; life = g.life }) gone)) h.of_node,
      );
    }

-- what is sent now
say-let : (n : Endpoint) (l : Lists) (e : Event) (first second : List ℕ) (hand : Option InFlight)
    → Valid l → May hand l e first second
    → LetAt n l.clients (record {
      life = n.life;
      fact = record { who = Node n.node; event = e; first = first; second = second };
    })
say-let n l (Sent p Control k) first second hand v m =
    λ peer number head body e h reads kind t life names goes.
    let first_is : first ≡ head = ap (λ (f : Lived). f.fact.first) e in
    let second_is : second ≡ body = ap (λ (f : Lived). f.fact.second) e in
    let whole : head ++ body ≡ first =
    ap (λ (b : List ℕ). head ++ b) (sym second_is ∙ m.whole) ∙ (append-nil head ∙ sym first_is) in
    let mine : control_of first ≡ Some m.header =
    ap control_in (spells-decoded (ControlPacket m.header) first m.spells) in
    let told_is : control_of first ≡ Some h = ap control_of (sym whole) ∙ reads in
    let same : m.header ≡ h = cc in
    subst (λ (c : ControlHeader). GoneFrom l.clients c.client t life) same
    (sent-gone l v p t life m.header m.own (ap (λ (c : ControlHeader). c.kind) same ∙ kind)
    (ap (λ (c : ControlHeader). c.server) same ∙ names)
    (ap (λ (c : ControlHeader). c.to_life) same ∙ goes))
say-let n l e first second hand v m = λ peer number head body same.
    not-said (record {
      life = n.life;
      fact = record { who = Node n.node; event = e; first = first; second = second };
    }) n peer number head body refl same

lets-said : (w : Moment) (n : ℕ) (l : Lists) (f : Fact) → AtNode w n l f → AllValid w
    → LetAt (here n l) l.clients (record { life = l.life; fact = f })
lets-said w n l f a v =
    let who : f.who ≡ Node n = a.allowed.who ∙ ap Node a.me in
    subst (λ (p : Who). LetAt (here n l) l.clients (record {
      life = l.life;
      fact = record { who = p; event = f.event; first = f.first; second = f.second };
    })) (sym who)
    (say-let (here n l) l f.event f.first f.second w.hand (v n l a.is_node) a.allowed.may)

-- by each step of a course
abbrev pub LetsIn : Moment → Type 0
LetsIn w = Lets w.nodes w.past

pub step-net : (w : Moment) (f : Fact) → f.who ≡ Net → LetsIn w → LetsIn (moved w f)
step-net w f who h =
    subst (λ (p : Who). Lets (nodes_at w.clock p w.nodes f) (told w.past f ∷ w.past)) (sym who)
    (lets-net w.nodes w.past (told w.past f) who h)

pub step-node : (w : Moment) (n : ℕ) (l : Lists) (f : Fact) → AtNode w n l f → AllValid w → LetsIn w
    → LetsIn (moved w f)
step-node w n l f a v h =
    let kin = clients-kin w.clock l f.event f.first (front_header l.ring) (front_body l.ring)
    (v n l a.is_node) a.lawful in
    let who : f.who ≡ Node n = a.allowed.who ∙ ap Node a.me in
    let same = told-here w n l f who a.life in
    subst LetsIn (sym (moved-node w n l f a))
    (lets-node w.nodes w.past n l (after w.clock l f) (told w.past f) a.is_node who
    (ap (λ (x : Lived). x.life) same) refl kin
    (subst (LetAt (here n l) l.clients) (sym same) (lets-said w n l f a v)) h)

pub step-restart : (w : Moment) (n : ℕ) (l : Lists) → slice_get w.nodes n ≡ Some l → l.life ≡ life_by n w.past
    → LetsIn w → LetsIn (moved w (plain n (Restarted (l.life + 1))))
step-restart w n l is life h =
    let f : Fact = plain n (Restarted (l.life + 1)) in
    subst (λ (o : Option Lists). Lets (anew o n w.nodes) (told w.past f ∷ w.past)) (sym is)
    (lets-restart w.nodes w.past n l (told w.past f) is refl (sym life) refl h)

module _ (w : Moment) (n m credits : ℕ) (client server : Lists)
    (ends : Ends w n m credits client server) (h : LetsIn w) where
  abbrev one : Fact
  one = client_fact n m credits client server

  abbrev other : Fact
  other = server_fact n m credits client server

  abbrev first_told : Lived
  first_told = told w.past one

  step-one : LetsIn (moved w one)
  step-one =
      subst (λ (o : Option Lists). Lets (changed w.clock o n w.nodes one) (first_told ∷ w.past))
      (sym ends.is_client)
      (lets-node w.nodes w.past n client (after w.clock client one) first_told ends.is_client refl
      (sym ends.client_life) refl (kin-added client.clients _)
      (λ peer number head body e. not-said first_told (here n client) peer number head body refl e) h)

  is-server : slice_get (moved w one).nodes m ≡ Some server
  is-server =
      ap (λ (o : Option Lists). slice_get (changed w.clock o n w.nodes one) m) ends.is_client
      ∙ (set-other w.nodes n m (after w.clock client one) (λ k. ends.two (sym k)) ∙ ends.is_server)

  still-life : life_by m (first_told ∷ w.past) ≡ server.life
  still-life = both-no (n == m) ∙ sym ends.server_life
    where
      both-no : (c : Bool) → cond (c && false) (life_by m w.past + 1) (life_by m w.past) ≡ life_by m w.past
      both-no true = refl
      both-no false = refl

  pub step-pair : LetsIn (paired w n m credits client server)
  step-pair =
      let then_told : Lived = told (first_told ∷ w.past) other in
      subst (λ (o : Option Lists). Lets (changed w.clock o m (moved w one).nodes other)
      (then_told ∷ first_told ∷ w.past)) (sym is-server)
      (lets-node (moved w one).nodes (first_told ∷ w.past) m server (after w.clock server other) then_told
      is-server refl still-life refl (kin-same server.clients)
      (λ peer number head body e. not-said then_told (here m server) peer number head body refl e) step-one)

-- what a connect reply says
some-tells : (k : Known) (from to : ℕ) (o : Option ControlHeader) (h : ControlHeader) → o ≡ Some h
    → IfSome o (λ h. Tells h.kind k from to h) → Tells h.kind k from to h
some-tells k from to None h e s = cc
some-tells k from to (Some c) h e s =
    let same : c ≡ h = cc in subst (λ (z : ControlHeader). Tells z.kind k from to z) same s

names-made : (k : Known) (from to : ℕ) (h : ControlHeader) (o us : Option ℕ) → h.server ≡ o
    → h.to_life ≡ us → h.status ≡ 0
    → RepliesBy o us k (record { node = from; life = h.from_life }) to h.client h.credits h.status
    → NamesMade k.past from to h
names-made k from to h None us e f zero r = absurd (r zero)
names-made k from to h (Some t) None e f zero r = absurd r
names-made k from to h (Some t) (Some life) e f zero r =
    record { server = t; names = e; life = life; goes_to = f; made = r.made }

connects-made : (k : Known) (from to : ℕ) (bytes : List ℕ) → Speaks k from to bytes
    → ConnectsMade k.past from to bytes
connects-made k from to bytes s = λ h reads kind zero.
    let tells = some-tells k from to (control_of bytes) h reads s.1 in
    names-made k from to h h.server h.to_life refl refl zero
    (subst (λ (z : ControlKind). Tells z k from to h) kind tells)

lets-go : (past : List Lived) (n : ℕ) (l : Lists) → Valid l
    → AllByRecursion (LetAt (here n l) l.clients) past → LetsGo past n l
lets-go past n l v h = λ peer number head body c g reads kind t life names goes.
    let all = All-from_recursion (LetAt (here n l) l.clients) past h in
    let mine_at = All-contains (LetAt (here n l) l.clients) past
    (noted_two (here n l) (Sent peer Control number) head body) all c in
    let gone = mine_at peer number head body refl g reads kind t life names goes in
    placed-all (λ i x. slice_get l.clients i ≡ Some x)
    (λ x. x.way.number ≡ g.client → IsLetGo x t life) l.clients
    (λ i x is same. let place : x.way.number
    ≡ 0 + i = numbered-at client_no 0 i l.clients x v.numbered is in
    let at : i ≡ g.client = omega arith in
    let there : slice_get l.clients g.client ≡ Some x = ap (slice_get l.clients) (sym at) ∙ is in
    let mine = gone.is_there in
    let equal : gone.client ≡ x = cc in
    subst (λ (z : Client). IsLetGo z t life) equal gone.let_go) (λ i x is. is)

pub agree-of : (w : Moment) → AllValid w → Good w → LetsIn w → Agree w
agree-of w v g z =
    let k = g.known in
    record {
      replies = subst (λ (p : List Lived). Travels (ConnectsMade p) w) g.past
          (travels-map (Speaks k) (ConnectsMade k.past) w (connects-made k) g.travels);
      let_go = λ n l is. lets-go w.past n l (v n l is) (z.let_go n l is);
    }

-- between the two facts of a pairing
made-more : (f : Lived) (past : List Lived) (m : Endpoint) (t : ℕ) (n : Endpoint) (s credits : ℕ)
    → IsMade past m t n s credits → IsMade (f ∷ past) m t n s credits
made-more f past m t n s credits (IsMade.paired c) = IsMade.paired (contains-more f _ past c)
made-more f past m t n s credits (IsMade.accepted c) = IsMade.accepted (contains-more f _ past c)

connects-more : (f : Lived) (past : List Lived) (from to : ℕ) (bytes : List ℕ)
    → ConnectsMade past from to bytes → ConnectsMade (f ∷ past) from to bytes
connects-more f past from to bytes c = λ h reads kind zero.
    let k = c h reads kind zero in
    record {
      server = k.server;
      names = k.names;
      life = k.life;
      goes_to = k.goes_to;
      made = made-more f past _ k.server _ h.client h.credits k.made;
    }

between : (w : Moment) (n m credits : ℕ) (client server : Lists)
    → Ends w n m credits client server → AllValid w → LetsIn w → Agree w
    → Agree (moved w (client_fact n m credits client server))
between w n m credits client server e v z a =
    let one : Fact = client_fact n m credits client server in
    let first_told : Lived = told w.past one in
    let after_one = step-one w n m credits client server e z in
    let valid = valid-one w n m credits client server e v in
    record {
      replies = travels-client (ConnectsMade (first_told ∷ w.past)) w n m credits client server e
          (travels-map (ConnectsMade w.past) (ConnectsMade (first_told ∷ w.past)) w
          (connects-more first_told w.past) a.replies);
      let_go = λ i l is. lets-go (first_told ∷ w.past) i l (valid i l is) (after_one.let_go i l is);
    }

pub course-agree : (w : Moment) (h : List Fact) (u : Moment) → Course false w h u → AllRight w
    → AllValid w
    → Good w → LetsIn w → Always Agree w h
course-agree _ _ _ (over w) i v g z = agree-of w v g z
course-agree _ _ _ (made_as w limits h u is c) i v g z = absurd (cc)
course-agree _ _ _ (resets w clock h u is c) i v g z = absurd (cc)
course-agree _ _ _ (in_net w f h u who c) i v g z = (
  agree-of w v g z,
  course-agree (moved w f) h u c (right-net w f who i) (valid-net w f who v) (good-net w f who g)
      (step-net w f who z),
)
course-agree _ _ _ (made w ring h u c) i v g z = (
  agree-of w v g z,
  course-agree _ h u c (right-made w (with_ring ring) i) (valid-made w (with_ring ring) v) (good-made w (with_ring ring) g)
      (lets-made w.nodes w.past (with_ring ring) z),
)
course-agree _ _ _ (at_node w n l f h u a c) i v g z = (
  agree-of w v g z,
  course-agree (moved w f) h u c (right-noted w n l f a i) (valid-node w n l f a v)
      (good-node w n l f a i v g) (step-node w n l f a v z),
)
course-agree _ _ _ (restarts w n l h u is me life c) i v g z = (
  agree-of w v g z,
  course-agree _ h u c (right-restart w n l is i) (valid-restart w n l is v)
      (good-restart w n l is me g) (step-restart w n l is life z),
)
course-agree _ _ _ (pairs w n m credits client server h u e c) i v g z =
    let now = agree-of w v g z in (
      now,
      (
        between w n m credits client server e v z now,
        course-agree (paired w n m credits client server) h u c
            (right-paired w n m credits client server e i)
            (valid-pair w n m credits client server e v)
            (good-paired w n m credits client server e i v g)
            (step-pair w n m credits client server e z),
      ),
    )

pub first-lets : LetsIn first_moment
first-lets = record { let_go = λ j z is. absurd (cc); of_node = tt }
