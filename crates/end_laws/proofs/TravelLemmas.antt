-- A claim of what is sent goes with the datagram wherever it is.
use Rattle.rpc_base.specs.declared.limits.Limits.{Limits}
use Rattle.std.proofs.Common.{◌≡◌, Bool, true, false, cond, ℕ, zero, suc, List, [], ◌∷◌, ◌++◌}
use Rattle.std.proofs.Common.{length, take, drop, Option, Some, None, slice_get, refl, sym, ap, ◌∙◌}
use Rattle.std.proofs.Common.{subst}
use Rattle.std.specs.Prelude.{IfSome, option_to_list}
use Rattle.std.specs.List.{AllByRecursion}
use Rattle.rpc_base.specs.declared.event.Event.{Event}
use Rattle.rpc_base.specs.declared.event.Event.TheVariants.{Heard, Sent, Arrived, Took, Again}
use Rattle.rpc_base.specs.declared.event.Event.TheVariants.{Dropped, Repeated, Carried, Lost}
use Rattle.rpc_base.specs.declared.fact.Fact.{Fact}
use Rattle.rpc_base.specs.declared.fact.Who.{Who}
use Rattle.rpc_base.specs.declared.fact.Who.TheVariants.{Node, Net}
use Rattle.rpc_laws.specs.declared.tables.Arrival.{Arrival}
use Rattle.rpc_laws.specs.declared.tables.InFlight.{InFlight}
use Rattle.rpc_laws.specs.declared.tables.Lists.{Lists}
use Rattle.rpc_laws.specs.BufferSafety.{changed, nodes_at}
use Rattle.rpc_laws.specs.InFlight.{flight_at, flight_after_node, flight_after_net}
use Rattle.rpc_laws.specs.Lives.{first_life}
use Rattle.rpc_laws.specs.NodeLists.{after, new_lists}
use Rattle.rpc_laws.specs.Front.{is_message, is_control}
use Rattle.rpc_laws.specs.Queues.{ring_after, inbox_after}
use Rattle.end_laws.specs.Genuine.{Travels}
use Rattle.end_laws.specs.Moments.{Moment, moved, front_of, hand_of, hand_noted, hand_after}
use Rattle.end_laws.proofs.Allowed.{May}
use Rattle.end_laws.proofs.Courses.{AtNode, Ends, client_fact, server_fact, paired, noted_at, moved-node}
use Rattle.end_laws.proofs.ListLemmas.{Placed, all-append, all-map, all-add}
use Rattle.end_laws.proofs.ListLemmas.{set-placed, add-placed}
use Rattle.rpc_base.proofs.BasicLemmas.{if-map}
use Rattle.rpc_base.proofs.PlaceLemmas.{all-at, set-other}
use Rattle.rpc_base.specs.declared.event.Event.TheVariants.{Restarted}
use Rattle.rpc_laws.specs.BufferSafety.{anew}
use Rattle.rpc_laws.specs.NodeLists.{restarted_lists}
use Rattle.rpc_laws.specs.Facts.{plain}
use Rattle.std.proofs.Common.{◌+◌}

module _ {A : Type 0} (P : A → Type 0) where
  all-take : (i : ℕ) (xs : List A) → AllByRecursion P xs → AllByRecursion P (take i xs)
  all-take zero xs h = tt
  all-take (suc i) [] h = tt
  all-take (suc i) (x ∷ xs) h = (h.0, all-take i xs h.1)

  all-drop : (i : ℕ) (xs : List A) → AllByRecursion P xs → AllByRecursion P (drop i xs)
  all-drop zero xs h = h
  all-drop (suc i) [] h = tt
  all-drop (suc i) (x ∷ xs) h = all-drop i xs h.1

  all-option : (o : Option A) → IfSome o P → AllByRecursion P (option_to_list o)
  all-option None h = tt
  all-option (Some x) h = (h, tt)

  if-at : (xs : List A) (i : ℕ) (o : Option A) → slice_get xs i ≡ o → AllByRecursion P xs → IfSome o P
  if-at xs i None e h = tt
  if-at xs i (Some x) e h = all-at P xs i x h e

abbrev Claim : Type 1
Claim = ℕ → ℕ → List ℕ → Type 0

-- the claim is true of what is sent
abbrev pub SentGives : Claim → ℕ → Event → List ℕ → List ℕ → Type 0
SentGives P n (Sent peer o k) head body = P n peer (head ++ body)
SentGives P n _ head body = Unit {0}

pub travels-map : (P Q : ℕ → ℕ → List ℕ → Type 0) (w : Moment)
    → ((from to : ℕ) (bytes : List ℕ) → P from to bytes → Q from to bytes) → Travels P w
    → Travels Q w
travels-map P Q w f t = record {
  flight = all-map _ _ w.flight (λ c. f c.from c.to c.bytes) t.flight;
  hand = if-map _ _ w.hand (λ c. f c.from c.to c.bytes) t.hand;
  rings = λ n l is. all-map _ _ l.ring (λ a. f a.peer n a.bytes) (t.rings n l is);
  inboxes = λ n l is. all-map _ _ l.inbox (λ a. f a.peer n a.bytes) (t.inboxes n l is);
}

module _ (P : ℕ → ℕ → List ℕ → Type 0) where
  abbrev pub OfCopy : InFlight → Type 0
  OfCopy c = P c.from c.to c.bytes

  flight-net : (e : Event) (copies : List InFlight) → AllByRecursion OfCopy copies
      → AllByRecursion OfCopy (flight_after_net e copies)
  flight-net (Repeated i) copies h =
      all-append OfCopy copies _ h (all-option OfCopy (slice_get copies i)
      (if-at OfCopy copies i _ refl h))
  flight-net (Carried i) copies h =
      all-append OfCopy (take i copies) _ (all-take OfCopy i copies h)
      (all-drop OfCopy (suc i) copies h)
  flight-net (Lost i) copies h =
      all-append OfCopy (take i copies) _ (all-take OfCopy i copies h)
      (all-drop OfCopy (suc i) copies h)
  flight-net _ copies h = h

  hand-net : (e : Event) (copies : List InFlight) (hand : Option InFlight)
      → AllByRecursion OfCopy copies → IfSome hand OfCopy → IfSome (hand_of e copies hand) OfCopy
  hand-net (Carried i) copies hand h k = if-at OfCopy copies i _ refl h
  hand-net _ copies hand h k = k

  pub travels-net : (w : Moment) (f : Fact) → f.who ≡ Net → Travels P w → Travels P (moved w f)
  travels-net w f who t = record {
    flight = subst (λ (p : Who). AllByRecursion OfCopy
        (flight_at p f.event f.first f.second w.flight)) (sym who)
        (flight-net f.event w.flight t.flight);
    hand = subst (λ (p : Who). IfSome (hand_after p f.event w.nodes w.flight w.hand) OfCopy)
        (sym who)
        (hand-net f.event w.flight w.hand t.flight t.hand);
    rings = subst (λ (p : Who). Placed (λ n l. AllByRecursion (λ a. P a.peer n a.bytes) l.ring)
        (nodes_at w.clock p w.nodes f)) (sym who) t.rings;
    inboxes = subst (λ (p : Who). Placed (λ n l. AllByRecursion (λ a. P a.peer n a.bytes) l.inbox)
        (nodes_at w.clock p w.nodes f)) (sym who) t.inboxes;
  }

  flight-node : (n : ℕ) (e : Event) (head body : List ℕ) (copies : List InFlight)
      → SentGives P n e head body → AllByRecursion OfCopy copies
      → AllByRecursion OfCopy (flight_after_node n e head body copies)
  flight-node n (Sent peer o k) head body copies g h = all-add OfCopy copies _ h g
  flight-node n _ head body copies g h = h

  hand-some : (hand : Option InFlight) (c : InFlight) → hand ≡ Some c → IfSome hand OfCopy → OfCopy c
  hand-some None c e h = cc
  hand-some (Some d) c e h = let same : d ≡ c = cc in rw (← same) h

  added-all : (n : ℕ) (b : Bool) (a : Arrival) (xs : List Arrival) → P a.peer n a.bytes
      → AllByRecursion (λ a. P a.peer n a.bytes) xs
      → AllByRecursion (λ a. P a.peer n a.bytes) (cond b (xs ++ a ∷ []) xs)
  added-all n true a xs here h = all-add (λ a. P a.peer n a.bytes) xs a h here
  added-all n false a xs here h = h

  ring-node : (hand : Option InFlight) (l : Lists) (e : Event) (first second : List ℕ)
      → IfSome hand OfCopy → May hand l e first second
      → AllByRecursion (λ a. P a.peer l.me a.bytes) l.ring
      → AllByRecursion (λ a. P a.peer l.me a.bytes) (ring_after e first l.ring)
  ring-node hand l (Arrived peer) first second k m h =
      added-all l.me (is_message first) (record { peer = peer; bytes = first }) l.ring
      (hand-some hand _ m.in_hand k) h
  ring-node hand l (Took o j) first second k m h = all-drop (λ a. P a.peer l.me a.bytes) 1 l.ring h
  ring-node hand l (Again o j) first second k m h = all-drop (λ a. P a.peer l.me a.bytes) 1 l.ring h
  ring-node hand l (Dropped why) first second k m h = all-drop (λ a. P a.peer l.me a.bytes) 1 l.ring h
  ring-node hand l _ first second k m h = h

  inbox-node : (hand : Option InFlight) (l : Lists) (e : Event) (first second : List ℕ)
      → IfSome hand OfCopy → May hand l e first second
      → AllByRecursion (λ a. P a.peer l.me a.bytes) l.inbox
      → AllByRecursion (λ a. P a.peer l.me a.bytes) (inbox_after e first l.inbox)
  inbox-node hand l (Arrived peer) first second k m h =
      added-all l.me (is_control first) (record { peer = peer; bytes = first }) l.inbox
      (hand-some hand _ m.in_hand k) h
  inbox-node hand l Heard first second k m h = all-drop (λ a. P a.peer l.me a.bytes) 1 l.inbox h
  inbox-node hand l _ first second k m h = h

  front-all : (n : ℕ) (inbox : List Arrival) → AllByRecursion (λ a. P a.peer n a.bytes) inbox
      → IfSome (front_of n inbox) OfCopy
  front-all n [] h = tt
  front-all n (a ∷ inbox) h = h.0

  hand-node : (n : ℕ) (e : Event) (inbox : List Arrival) (hand : Option InFlight)
      → IfSome hand OfCopy
      → AllByRecursion (λ a. P a.peer n a.bytes) inbox → IfSome (hand_noted n e inbox hand) OfCopy
  hand-node n Heard inbox hand k h = front-all n inbox h
  hand-node n _ inbox hand k h = k

  abbrev InboxIs : ℕ → Lists → Type 0
  InboxIs n l = AllByRecursion (λ a. P a.peer n a.bytes) l.inbox

  abbrev RingIs : ℕ → Lists → Type 0
  RingIs n l = AllByRecursion (λ a. P a.peer n a.bytes) l.ring

  pub travels-node : (w : Moment) (n : ℕ) (l : Lists) (f : Fact) → AtNode w n l f
      → SentGives P n f.event f.first f.second → Travels P w → Travels P (moved w f)
  travels-node w n l f a g t =
      let who : f.who ≡ Node n = a.allowed.who ∙ ap Node a.me in
      let was : RingIs l.me l = subst (λ (m : ℕ). RingIs m l) (sym a.me) (t.rings n l a.is_node) in
      let now : RingIs n (after w.clock l f) =
      subst (λ (m : ℕ). RingIs m (after w.clock l f)) a.me
      (ring-node w.hand l f.event f.first f.second t.hand a.allowed.may was) in
      let was_in : InboxIs l.me l = subst (λ (m : ℕ). InboxIs m l) (sym a.me) (t.inboxes n l a.is_node) in
      let now_in : InboxIs n (after w.clock l f) =
      subst (λ (m : ℕ). InboxIs m (after w.clock l f)) a.me
      (inbox-node w.hand l f.event f.first f.second t.hand a.allowed.may was_in) in
      let k : Travels P (noted_at w n l f) = record {
        flight = subst (λ (p : Who). AllByRecursion OfCopy
            (flight_at p f.event f.first f.second w.flight)) (sym who)
            (flight-node n f.event f.first f.second w.flight g t.flight);
        hand = hand-node n f.event l.inbox w.hand t.hand (t.inboxes n l a.is_node);
        rings = set-placed RingIs w.nodes n l (after w.clock l f) a.is_node now (λ j z ne is. t.rings j z is);
        inboxes = set-placed InboxIs w.nodes n l (after w.clock l f) a.is_node now_in (λ j z ne is. t.inboxes j z is);
      } in
      subst (Travels P) (sym (moved-node w n l f a)) k

  pub rings-made : (w : Moment) (limits : Limits) → Travels P w
      → Placed RingIs (w.nodes ++ new_lists (length w.nodes) first_life limits ∷ [])
  rings-made w limits t = add-placed RingIs w.nodes (new_lists (length w.nodes) first_life limits)
      tt t.rings

  pub inboxes-made : (w : Moment) (limits : Limits) → Travels P w
      → Placed InboxIs (w.nodes ++ new_lists (length w.nodes) first_life limits ∷ [])
  inboxes-made w limits t = add-placed InboxIs w.nodes
      (new_lists (length w.nodes) first_life limits) tt t.inboxes

  -- a node is restarted
  pub travels-restart : (w : Moment) (n : ℕ) (l : Lists) → slice_get w.nodes n ≡ Some l → Travels P w
      → Travels P (moved w (plain n (Restarted (l.life + 1))))
  travels-restart w n l is t = record {
    flight = t.flight;
    hand = t.hand;
    rings = subst (λ (o : Option Lists). Placed RingIs (anew o n w.nodes)) (sym is)
        (set-placed RingIs w.nodes n l (restarted_lists l) is tt (λ j z ne at. t.rings j z at));
    inboxes = subst (λ (o : Option Lists). Placed InboxIs (anew o n w.nodes)) (sym is)
        (set-placed InboxIs w.nodes n l (restarted_lists l) is tt (λ j z ne at. t.inboxes j z at));
  }

  -- a node's fact that leaves its ring, or its inbox
  kept : (list : Lists → List Arrival) (nodes : List Lists) (n clock : ℕ) (l : Lists) (f : Fact)
      → slice_get nodes n ≡ Some l → list (after clock l f) ≡ list l
      → Placed (λ n l. AllByRecursion (λ a. P a.peer n a.bytes) (list l)) nodes
      → Placed (λ n l. AllByRecursion (λ a. P a.peer n a.bytes) (list l))
      (changed clock (slice_get nodes n) n nodes f)
  kept list nodes n clock l f is same t =
      let here : AllByRecursion (λ a. P a.peer n a.bytes) (list (after clock l f)) =
      subst (λ (r : List Arrival). AllByRecursion (λ a. P a.peer n a.bytes) r) (sym same)
      (t n l is) in
      let placed = set-placed (λ n l. AllByRecursion (λ a. P a.peer n a.bytes) (list l)) nodes n l
      (after clock l f) is here (λ j z ne is. t j z is) in
      subst (λ (o : Option Lists). Placed (λ n l. AllByRecursion (λ a. P a.peer n a.bytes) (list l))
      (changed clock o n nodes f)) (sym is) placed

  pub travels-client : (w : Moment) (n m credits : ℕ) (client server : Lists)
      → Ends w n m credits client server → Travels P w
      → Travels P (moved w (client_fact n m credits client server))
  travels-client w n m credits client server e t = record {
    flight = t.flight;
    hand = t.hand;
    rings = kept (λ l. l.ring) w.nodes n w.clock client (client_fact n m credits client server)
        e.is_client refl t.rings;
    inboxes = kept (λ l. l.inbox) w.nodes n w.clock client (client_fact n m credits client server)
        e.is_client refl t.inboxes;
  }

  pub travels-paired : (w : Moment) (n m credits : ℕ) (client server : Lists)
      → Ends w n m credits client server → Travels P w
      → Travels P (paired w n m credits client server)
  travels-paired w n m credits client server e t =
      let one : Fact = client_fact n m credits client server in
      let other : Fact = server_fact n m credits client server in
      let u = travels-client w n m credits client server e t in
      let at : slice_get (moved w one).nodes m ≡ Some server =
      ap (λ (o : Option Lists). slice_get (changed w.clock o n w.nodes one) m) e.is_client
      ∙ (set-other w.nodes n m (after w.clock client one) (λ k. e.two (sym k))
      ∙ e.is_server) in
      record {
        flight = t.flight;
        hand = t.hand;
        rings = kept (λ l. l.ring) (moved w one).nodes m w.clock server other at refl u.rings;
        inboxes = kept (λ l. l.inbox) (moved w one).nodes m w.clock server other at refl u.inboxes;
      }
