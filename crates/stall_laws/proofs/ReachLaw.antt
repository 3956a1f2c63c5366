-- At each moment of a course each unanswered packet of each call is held.
use Rattle.std.proofs.Common.{cond, Bool, false, ◌+◌, ◌&&◌}
use Rattle.std.specs.List.{slice_set}
use Rattle.std.proofs.lemmas.Bool.{eqb-false}
use Rattle.rpc_base.proofs.PlaceLemmas.{set-other}
use Rattle.rpc_base.specs.declared.limits.Limits.{Limits}
use Rattle.rpc_laws.specs.BufferSafety.{anew}
use Rattle.rpc_laws.specs.Endpoints.{Endpoint}
use Rattle.packet_header.specs.declared.packet.ControlHeader.{ControlHeader}
use Rattle.rpc_base.specs.Tables.{at_first}
use Rattle.rpc_base.specs.declared.state.SessionState.TheVariants.{Closed, Connecting, Failed}
use Rattle.rpc_base.specs.declared.state.SessionState.TheVariants.{Closing as IsClosing}
use Rattle.rpc_laws.specs.declared.tables.Client.{Client}
use Rattle.rpc_laws.specs.Front.{control_of}
use Rattle.rpc_laws.specs.Lives.{first_life}
use Rattle.rpc_laws.specs.Sessions.{clients_told, comes_to, connects, is_connected, is_request_of}
use Rattle.rpc_laws.specs.Sessions.{opened_end}
use Rattle.rpc_laws.specs.Sessions.{requests}
use Rattle.end_laws.proofs.Known.{GoodClient, is_joined, Known, Tied}
use Rattle.end_laws.proofs.LetGoSteps.{at-number}
use Rattle.end_laws.proofs.ListLemmas.{first-each}
use Rattle.stall_laws.specs.Caused.{lost_by, restarts_by}
use Rattle.stall_laws.proofs.Held.{Spares}
use Rattle.stall_laws.proofs.Living.{Living, living-made, living-net, living-node, living-pair}
use Rattle.stall_laws.proofs.Living.{living-restart}
use Rattle.stall_laws.proofs.Standing.{server_here, server_now}
use Rattle.std.proofs.Common.{◌≡◌, ◌==◌, inl, inr, ℕ, true, List, [], ◌∷◌}
use Rattle.std.proofs.Common.{◌++◌, length, Option, Some, None, slice_get, refl, sym, ap, ◌∙◌}
use Rattle.std.proofs.Common.{subst, arith}
use Rattle.std.proofs.lemmas.List.{append_assoc}
use Rattle.rpc_base.proofs.BasicLemmas.{false-true}
use Rattle.rpc_base.specs.declared.event.Event.{Event}
use Rattle.rpc_base.specs.declared.event.Event.TheVariants.{PairedClient, Opened, Connected}
use Rattle.rpc_base.specs.declared.event.Event.TheVariants.{FailedNoRoom, Made}
use Rattle.rpc_base.specs.declared.event.Event.TheVariants.{FailedNoAnswer, Closing, ClosedHeard}
use Rattle.rpc_base.specs.declared.event.Event.TheVariants.{ClosedUnheard}
use Rattle.rpc_base.specs.declared.event.Event.TheVariants.{Asked, Begun, Posted, Sent, Took}
use Rattle.rpc_base.specs.declared.event.Event.TheVariants.{Restarted, Rolled, Broken}
use Rattle.rpc_base.specs.declared.event.Event.TheVariants.{DoneOk, DoneTooSmall, DonePeerLost}
use Rattle.rpc_base.specs.declared.fact.Fact.{Fact}
use Rattle.rpc_base.specs.declared.fact.Who.{Who}
use Rattle.rpc_base.specs.declared.fact.Who.TheVariants.{Node, Net}
use Rattle.rpc_base.specs.declared.owner.Owner.TheVariants.{Ask, Reply, Control}
use Rattle.rpc_laws.specs.declared.tables.InFlight.{InFlight}
use Rattle.rpc_laws.specs.declared.tables.Lists.{Lists}
use Rattle.rpc_laws.specs.declared.tables.Progress.{Progress}
use Rattle.rpc_laws.specs.declared.tables.Way.{Way}
use Rattle.rpc_laws.specs.Calls.{is_active, is_call, sent_packet}
use Rattle.rpc_laws.specs.Facts.{plain, with_two}
use Rattle.rpc_laws.specs.NodeLists.{after, new_lists, restarted_lists}
use Rattle.rpc_laws.specs.UsualLimits.{with_ring}
use Rattle.rpc_laws.specs.Sessions.{is_client, has_call, asks, sends, ends, client_end}
use Rattle.node_laws.specs.Valid.{Valid}
use Rattle.node_laws.proofs.SoundLemmas.{sent-got, sent-posted, sent-request}
use Rattle.end_laws.specs.Moments.{Moment, moved, first_moment}
use Rattle.end_laws.specs.TwoEnds.{here}
use Rattle.end_laws.proofs.ClientLemmas.{client-at}
use Rattle.end_laws.proofs.Courses.{made_as, resets, AtNode, Ends, noted_at, moved-node, Course, over, in_net, made}
use Rattle.end_laws.proofs.Courses.{at_node, pairs, restarts, client_fact, server_fact, paired}
use Rattle.end_laws.proofs.Allowed.{is_packet}
use Rattle.end_laws.proofs.Known.{Good}
use Rattle.end_laws.proofs.ListLemmas.{Placed, set-placed, add-placed, all-first, all-map, all-add}
use Rattle.end_laws.proofs.ListLemmas.{all-without}
use Rattle.end_laws.proofs.QueueLemmas.{RightNode}
use Rattle.end_laws.proofs.SendsLaw.{AllRight, right-noted, right-net, right-made, right-paired}
use Rattle.end_laws.proofs.SendsLaw.{right-restart}
use Rattle.ring_laws.proofs.Counting.{value}
use Rattle.ring_laws.proofs.Loads.{client_packets, client_part, Filter}
use Rattle.end_laws.proofs.Valids.{AllValid, valid-net, valid-made, valid-node, valid-pair}
use Rattle.end_laws.proofs.Valids.{valid-restart}
use Rattle.ring_laws.proofs.WithinSteps.{own-fact, nodes-net, added-by, part-same, lists1, lists2}
use Rattle.ring_laws.proofs.WithinSteps.{nodes1, is_server1, paired-nodes}
use Rattle.stall_laws.specs.Settled.{moment_of, moment_from}
use Rattle.stall_laws.proofs.Dues.{Due, nothing, Step, is_alone, alone, older, takes, repeats}
use Rattle.stall_laws.proofs.Dues.{posts, gives, serves, finishes, is_done, leaves}
use Rattle.stall_laws.proofs.Dues.{arrives, overflows, is_bad, flushes, rolls, breaks}
use Rattle.stall_laws.proofs.Fates.{net-fate}
use Rattle.stall_laws.proofs.Held.{pair_of, Held, lost-since, lost-now, peer-restarts}
use Rattle.stall_laws.proofs.Moves.{MovesAt, MovesBy, MovesFrom, net_due}
use Rattle.stall_laws.proofs.Newest.{NewestClient, NewestNode, newest-after}
use Rattle.stall_laws.proofs.Senders.{ConnectedAt, is-from, net-speaks}
use Rattle.stall_laws.proofs.Reach.{HeldBy, HeldCall, HeldClient, HeldNode, at-false, all-kept}
use Rattle.stall_laws.proofs.Reach.{first-kept, other-node}
use Rattle.stall_laws.proofs.Reach.{took-held, begun-held, rolled-held, broken-held, posted-held}

-- a session that is Connecting has no calls
idle-unjoined : (k : Known) (n : Endpoint) (i : ℕ) (x : Client) → GoodClient k n i x → x.state ≡ Connecting
    → x.calls ≡ []
idle-unjoined k n i x g state = by (is_joined x.state) (ap is_joined state) g.tied
  where
    by : (b : Bool) → b ≡ false → Tied b k n i x → x.calls ≡ []
    by true e t = false-true (sym e)
    by false e t = t.idle

-- a control packet is sent
requests-kept : (h : List Fact) (w : Moment) (d : Due) (n : Endpoint) (clock : ℕ) (b : Bool)
    (x : Client)
    → HeldClient h w d n x → HeldClient h w d n
    (cond b (record x { sends = x.sends + 1; sent_at = clock }) x)
requests-kept h w d n clock true x k = k
requests-kept h w d n clock false x k = k

told-kept : (h : List Fact) (w : Moment) (d : Due) (n : Endpoint) (clock : ℕ)
    (o : Option ControlHeader)
    (xs : List Client)
    → Placed (λ s x. HeldClient h w d n x) xs
    → Placed (λ s x. HeldClient h w d n x) (clients_told clock o xs)
told-kept h w d n clock None xs k = k
told-kept h w d n clock (Some c) xs k =
    first-each (is_client c.client) (requests clock c) (λ s x. HeldClient h w d n x)
    (λ s x. HeldClient h w d n x) xs
    (λ s x held t. requests-kept h w d n clock
    (is_request_of c.kind c.server c.to_life x.state x.way) x held)
    (λ s x held. held) k

-- at the node of the fact
module _ (h : List Fact) (w : Moment) (n : ℕ) (l : Lists) (first second : List ℕ) (d u : Due)
    (is : w ≡ moment_of h) (g : Living w) (i : RightNode l) (v : Valid l)
    (newest : NewestNode l) where
  -- one session isn't connected any more
  over-kept : (e : Event) → Step w.hand l first d e u → AtNode w n l (with_two n e first second)
      → ((s r k : ℕ) → Spares n n l e s r k) → ((c : ℕ) → restarts_by c e ≡ false)
      → (p : Client → Bool) (change : Client → Client)
      → ((x : Client) → is_connected (change x).state ≡ false) → HeldNode h w d n l
      → Placed (λ s x. HeldClient (h ++ with_two n e first second ∷ [])
      (noted_at w n l (with_two n e first second)) u (here n l) x) (at_first p change l.clients)
  over-kept e step a sp none p change closed held =
      first-each p change (λ s x. HeldClient (h ++ with_two n e first second ∷ [])
      (noted_at w n l (with_two n e first second)) u (here n l) x)
      (λ s x. HeldClient (h ++ with_two n e first second ∷ [])
      (noted_at w n l (with_two n e first second)) u (here n l) x) l.clients
      (λ s x k t. λ live. false-true (sym (closed x) ∙ live)) (λ s x k. k)
      (all-kept h w n l e first second d u step a is g i v newest sp none held)

  node-held : (e : Event) → Step w.hand l first d e u → AtNode w n l (with_two n e first second)
      → HeldNode h w d n l → HeldNode (h ++ with_two n e first second ∷ [])
      (noted_at w n l (with_two n e first second)) u n (after w.clock l (with_two n e first second))
  node-held (PairedClient s p t c life) step a held = absurd a.allowed.may
  node-held (Opened s p c) step a held =
      add-placed (λ j x. HeldClient (h ++ with_two n (Opened s p c) first second ∷ [])
      (noted_at w n l (with_two n (Opened s p c) first second)) u (here n l) x) l.clients (opened_end s p c)
      (λ live. tt)
      (all-kept h w n l (Opened s p c) first second d u step a is g i v newest
      (λ s r k. record {
        took = λ home t. cc;
        rolled = λ home c po gt t z. cc;
        broken = λ home t. cc;
      })
      (λ c. refl) held)
  node-held (Connected s t life) step a held =
      let m = a.allowed.may.0 in
      let kept = all-kept h w n l (Connected s t life) first second d u step a is g i v newest
      (λ s r k. record {
        took = λ home t. cc;
        rolled = λ home c po gt t z. cc;
        broken = λ home t. cc;
      })
      (λ c. refl) held in
      first-each (is_client s) (connects t life)
      (λ j x. HeldClient (h ++ with_two n (Connected s t life) first second ∷ [])
      (noted_at w n l (with_two n (Connected s t life) first second)) u (here n l) x
      × (slice_get l.clients j ≡ Some x))
      (λ j x. HeldClient (h ++ with_two n (Connected s t life) first second ∷ [])
      (noted_at w n l (with_two n (Connected s t life) first second)) u (here n l) x) l.clients
      (λ j x k test.
      let same : m.client ≡ x = at-number l v s j m.client x m.found k.1 test in
      let state : x.state ≡ Connecting = ap (λ (y : Client). y.state) (sym same) ∙ m.connecting in
      let idle : x.calls ≡ [] = idle-unjoined g.good.known (here n l) j x
      ((g.good.nodes n l a.is_node).clients j x k.1) state in
      λ live. rw idle tt)
      (λ j x k. k.0) (λ j x at. (kept j x at, at))
  node-held (FailedNoRoom s) step a held =
      over-kept (FailedNoRoom s) step a (λ s r k. record {
        took = λ home t. cc;
        rolled = λ home c po gt t z. cc;
        broken = λ home t. cc;
      }) (λ c. refl) (is_client s) (comes_to Failed) (λ x. refl) held
  node-held (FailedNoAnswer s) step a held =
      over-kept (FailedNoAnswer s) step a (λ s r k. record {
        took = λ home t. cc;
        rolled = λ home c po gt t z. cc;
        broken = λ home t. cc;
      }) (λ c. refl) (is_client s) (comes_to Failed) (λ x. refl) held
  node-held (Closing s) step a held =
      over-kept (Closing s) step a (λ s r k. record {
        took = λ home t. cc;
        rolled = λ home c po gt t z. cc;
        broken = λ home t. cc;
      }) (λ c. refl) (is_client s) (comes_to IsClosing) (λ x. refl) held
  node-held (ClosedHeard s) step a held =
      over-kept (ClosedHeard s) step a (λ s r k. record {
        took = λ home t. cc;
        rolled = λ home c po gt t z. cc;
        broken = λ home t. cc;
      }) (λ c. refl) (is_client s) (comes_to Closed) (λ x. refl) held
  node-held (ClosedUnheard s) step a held =
      over-kept (ClosedUnheard s) step a (λ s r k. record {
        took = λ home t. cc;
        rolled = λ home c po gt t z. cc;
        broken = λ home t. cc;
      }) (λ c. refl) (is_client s) (comes_to Closed) (λ x. refl) held
  node-held (Asked c s y room) step a held =
      first-kept h w n l (Asked c s y room) first second d u step a is g i v newest (is_client s)
      (asks (record { number = c; req_type = y; room = room; ask = first }))
      (λ x. (λ P keep none all. all-add P x.calls _ all (none _ refl), refl, refl))
      (λ s r k. record { took = λ home t. cc; rolled = λ home c po gt t z. cc; broken = λ home t. cc })
      (λ c. refl) held
  node-held (Begun c r) step a held =
      begun-held h w n l (Begun c r) first second d u step a is g i v newest c r refl a.lawful held
  node-held (Posted (Ask s r) k) step a held =
      posted-held h w n l (Posted (Ask s r) k) first second d u step a is g i v newest s r k refl a.lawful held
  node-held (Posted (Reply t r) k) step a held =
      all-kept h w n l (Posted (Reply t r) k) first second d u step a is g i v newest
      (λ s r k. record { took = λ home t. cc; rolled = λ home c po gt t z. cc; broken = λ home t. cc })
      (λ c. refl) held
  node-held (Posted Control k) step a held = absurd a.allowed.may
  node-held (Sent peer (Ask s r) k) step a held =
      first-kept h w n l (Sent peer (Ask s r) k) first second d u step a is g i v newest (is_client s)
      (sends w.clock r k)
      (λ x. (
        λ P keep none all. all-first P P (is_active r) _ x.calls (λ c p. p)
            (λ c found p. keep c (sent_packet w.clock k) p
            (λ q. (sent-request w.clock k q, sent-got w.clock k q, sent-posted w.clock k q))) all,
        refl,
        refl,
      ))
      (λ s r k. record { took = λ home t. cc; rolled = λ home c po gt t z. cc; broken = λ home t. cc })
      (λ c. refl) held
  node-held (Sent peer (Reply t r) k) step a held =
      all-kept h w n l (Sent peer (Reply t r) k) first second d u step a is g i v newest
      (λ s r k. record { took = λ home t. cc; rolled = λ home c po gt t z. cc; broken = λ home t. cc })
      (λ c. refl) held
  node-held (Sent peer Control k) step a held =
      told-kept (h ++ with_two n (Sent peer Control k) first second ∷ [])
      (noted_at w n l (with_two n (Sent peer Control k) first second)) u (here n l) w.clock
      (control_of first) l.clients
      (all-kept h w n l (Sent peer Control k) first second d u step a is g i v newest
      (λ s r k. record {
        took = λ home t. cc;
        rolled = λ home c po gt t z. cc;
        broken = λ home t. cc;
      })
      (λ c. refl) held)
  node-held (Took (Ask s r) k) step a held =
      took-held h w n l (Took (Ask s r) k) first second d u step a is g i v newest s r k refl a.lawful held
  node-held (Took (Reply t r) k) step a held =
      all-kept h w n l (Took (Reply t r) k) first second d u step a is g i v newest
      (λ s r k. record { took = λ home t. cc; rolled = λ home c po gt t z. cc; broken = λ home t. cc })
      (λ c. refl) held
  node-held (Took Control k) step a held = absurd a.allowed.may
  node-held (Rolled c po got) step a held =
      rolled-held h w n l (Rolled c po got) first second d u step a is g i v newest c po got refl a.lawful held
  node-held (Broken s) step a held =
      broken-held h w n l (Broken s) first second d u step a is g i v newest s refl a.lawful held
  node-held (DoneOk c) step a held =
      first-kept h w n l (DoneOk c) first second d u step a is g i v newest (has_call c) (ends c)
      (λ x. (λ P keep none all. all-without P (is_call c) x.calls all, refl, refl))
      (λ s r k. record { took = λ home t. cc; rolled = λ home c po gt t z. cc; broken = λ home t. cc })
      (λ c. refl) held
  node-held (DoneTooSmall c size) step a held =
      first-kept h w n l (DoneTooSmall c size) first second d u step a is g i v newest (has_call c) (ends c)
      (λ x. (λ P keep none all. all-without P (is_call c) x.calls all, refl, refl))
      (λ s r k. record { took = λ home t. cc; rolled = λ home c po gt t z. cc; broken = λ home t. cc })
      (λ c. refl) held
  node-held (DonePeerLost c) step a held =
      first-kept h w n l (DonePeerLost c) first second d u step a is g i v newest (has_call c) (ends c)
      (λ x. (λ P keep none all. all-without P (is_call c) x.calls all, refl, refl))
      (λ s r k. record { took = λ home t. cc; rolled = λ home c po gt t z. cc; broken = λ home t. cc })
      (λ c. refl) held
  node-held e step a held =
      all-kept h w n l e first second d u step a is g i v newest
      (λ s r k. record { took = λ home t. cc; rolled = λ home c po gt t z. cc; broken = λ home t. cc })
      (λ c. refl) held

-- so it is at each moment
abbrev pub Reach : List Fact → Moment → Due → Type 0
Reach h w d = Placed (HeldNode h w d) w.nodes

abbrev pub AllNewest : Moment → Type 0
AllNewest w = Placed (λ j z. NewestNode z) w.nodes

reach-noted : (h : List Fact) (w : Moment) (n : ℕ) (l : Lists) (e : Event) (first second : List ℕ)
    (d u : Due) → Step w.hand l first d e u → AtNode w n l (with_two n e first second)
    → w ≡ moment_of h → Living w → AllRight w → AllValid w → AllNewest w → Reach h w d
    → Reach (h ++ with_two n e first second ∷ []) (noted_at w n l (with_two n e first second)) u
reach-noted h w n l e first second d u step a is g right valid newest reach =
    let i = right n l a.is_node in
    let v = valid n l a.is_node in
    let k = newest n l a.is_node in
    set-placed (HeldNode (h ++ with_two n e first second ∷ []) (noted_at w n l (with_two n e first second)) u)
    w.nodes n l (after w.clock l (with_two n e first second)) a.is_node
    (node-held h w n l first second d u is g i v k e step a (reach n l a.is_node))
    (λ j z ne at. other-node h w n l e first second d u step a is g i v k j z ne at (newest j z at) (reach j z at))

reach-node : (h : List Fact) (w : Moment) (n : ℕ) (l : Lists) (f : Fact) (d u : Due)
    → Step w.hand l f.first d f.event u → AtNode w n l f → w ≡ moment_of h → Living w → AllRight w
    → AllValid w → AllNewest w → Reach h w d → Reach (h ++ f ∷ []) (moved w f) u
reach-node h w n l f d u step a is g right valid newest reach =
    let e = own-fact f (Node n) (a.allowed.who ∙ ap Node a.me) in
    let at : AtNode w n l (with_two n f.event f.first f.second) = subst (AtNode w n l) e a in
    let k = reach-noted h w n l f.event f.first f.second d u step at is g right valid newest reach in
    subst (λ (v : Moment). Reach (h ++ f ∷ []) v u) (sym (moved-node w n l f a))
    (subst (λ (x : Fact). Reach (h ++ x ∷ []) (noted_at w n l x) u) (sym e) k)

-- where each packet that stood does, or was lost, each one that was held is
keeps-all : (h h2 : List Fact) (w w2 : Moment) (d u : Due) (j : ℕ) (z : Lists)
    → slice_get w.nodes j ≡ Some z
    → ((s : ℕ) (x : Client) → ConnectedAt w j s z x → (c r k : ℕ)
    → Held h w d (here j z) x.way c r k → Held h2 w2 u (here j z) x.way c r k)
    → HeldNode h w d j z → HeldNode h2 w2 u j z
keeps-all h h2 w w2 d u j z is keep held s x there =
    λ live. all-map (HeldCall h w d (here j z) x.way) (HeldCall h2 w2 u (here j z) x.way) x.calls
    (λ c. by (record { is_node = is; is_there = there; live = live }) c.what.number c.progress)
    (held s x there live)
  where
    by : ConnectedAt w j s z x → (c : ℕ) (o : Option Progress) → HeldBy h w d (here j z) x.way c o
        → HeldBy h2 w2 u (here j z) x.way c o
    by at c None k = tt
    by at c (Some p) k = λ m low high. keep s x at c p.request m (k m low high)

reach-net : (h : List Fact) (w : Moment) (f : Fact) → f.who ≡ Net → w ≡ moment_of h → Good w
    → Reach h w nothing → Reach (h ++ f ∷ []) (moved w f) (net_due f.event)
reach-net h w f who is g reach =
    let same = nodes-net w f who in
    subst (λ (ns : List Lists). Placed (HeldNode (h ++ f ∷ []) (moved w f) (net_due f.event)) ns) (sym same)
    (λ j z at. keeps-all h (h ++ f ∷ []) w (moved w f) nothing (net_due f.event) j z at
    (keep j z) (reach j z at))
  where
    keep : (j : ℕ) (z : Lists) (s : ℕ) (x : Client) → ConnectedAt w j s z x → (c r k : ℕ)
        → Held h w nothing (here j z) x.way c r k
        → Held (h ++ f ∷ []) (moved w f) (net_due f.event) (here j z) x.way c r k
    keep j z s x at c r k (inr v) = inr (lost-since h f (here j z) x.way c r v (rw who refl))
    keep j z s x at c r k (inl some) =
        elim (net-fate w f (pair_of (here j z) x.way) r k who some) [
          | inl more ↦ inl more
          | inr p ↦ inr (lost-now h w f (here j z) x.way c r k is
              (λ d gone. is-from w g j s z x at r k d (net-speaks w g f.event d
              (subst (λ (v : Who). lost_by w v f.event f.first ≡ Some d) who gone))) p)
        ]

-- a new node has no packets
none-here : (p : Filter) (life t me own : ℕ) (limits : Limits)
    → server_here p life t 0 (new_lists me own limits) ≡ 0
none-here p life t me own limits = by (own == life)
  where
    by : (b : Bool) → cond {A = ℕ} b 0 0 ≡ 0
    by true = refl
    by false = refl

reach-made : (h : List Fact) (w : Moment) (ring : ℕ) → Reach h w nothing
    → Reach (h ++ plain (length w.nodes) (Made ring) ∷ [])
    (moved w (plain (length w.nodes) (Made ring))) nothing
reach-made h w ring reach =
    let f = plain (length w.nodes) (Made ring) in
    let new = new_lists (length w.nodes) first_life (with_ring ring) in
    add-placed (HeldNode (h ++ f ∷ []) (moved w f) nothing) w.nodes new (λ s x is. absurd (cc))
    (λ j z at. keeps-all h (h ++ f ∷ []) w (moved w f) nothing nothing j z at
    (λ s y x. keep (here j z) y.way) (reach j z at))
  where
    keep : (j : Endpoint) (way : Way) (c r k : ℕ) → Held h w nothing j way c r k
        → Held (h ++ plain (length w.nodes) (Made ring) ∷ []) (moved w (plain (length w.nodes)
        (Made ring))) nothing j way c r k
    keep j way c r k (inr v) =
        inr (lost-since h (plain (length w.nodes) (Made ring)) j way c r v
        (at-false (length w.nodes == j.node) c (Made ring) refl))
    keep j way c r k (inl some) =
        let x = pair_of j way in
        let p = is_packet r k in
        let new = new_lists (length w.nodes) first_life (with_ring ring) in
        let a = added-by (client_packets p x.client) w.nodes new x.home (omega arith) in
        let b = added-by (server_here p x.node_life x.session 0) w.nodes new x.node
        (none-here p x.node_life x.session (length w.nodes) first_life (with_ring ring)) in
        inl (omega arith)

-- a node is restarted: of its own calls none is left, and those of other nodes that go to it have
-- their cause
module _ (h : List Fact) (w : Moment) (n : ℕ) (l : Lists) (is : slice_get w.nodes n ≡ Some l) where
  abbrev again : Fact
  again = plain n (Restarted (l.life + 1))

  restart-nodes : (moved w again).nodes ≡ slice_set w.nodes n (restarted_lists l)
  restart-nodes = ap (λ (o : Option Lists). anew o n w.nodes) is

  restart-keep : (j : Endpoint) → (j.node ≡ n → ⊥) → (way : Way) (c r k : ℕ)
      → Held h w nothing j way c r k → Held (h ++ again ∷ []) (moved w again) nothing j way c r k
  restart-keep j ne way c r k (inr v) =
      inr (lost-since h again j way c r v (at-false (n == j.node) c again.event refl))
  restart-keep j ne way c r k (inl some) = by (n == way.peer) refl
    where
      by : (b : Bool) → (n == way.peer) ≡ b
          → Held (h ++ again ∷ []) (moved w again) nothing j way c r k
      by true t = inr (peer-restarts h again j way c r (ap (λ (b : Bool). b && true) t))
      by false t =
          let x = pair_of j way in
          let p = is_packet r k in
          let new = restarted_lists l in
          let a = ap (value (client_packets p x.client)) (set-other w.nodes n j.node new ne) in
          let b = ap (value (server_here p way.life way.other 0))
          (set-other w.nodes n way.peer new (λ same. eqb-false n way.peer t (sym same))) in
          let u = ap (client_part p x) restart-nodes in
          let v = ap (server_now p x 0) restart-nodes in
          inl (omega arith)

  reach-restart : Reach h w nothing → Reach (h ++ again ∷ []) (moved w again) nothing
  reach-restart reach =
      let after_it = HeldNode (h ++ again ∷ []) (moved w again) nothing in
      subst (λ (ns : List Lists). Placed after_it ns) (sym restart-nodes)
      (set-placed after_it w.nodes n l (restarted_lists l) is (λ s x there. absurd (cc))
      (λ j z ne at. keeps-all h (h ++ again ∷ []) w (moved w again) nothing nothing j z at
      (λ s y x. restart-keep (here j z) ne y.way) (reach j z at)))

  newest-restart : AllNewest w → AllNewest (moved w again)
  newest-restart k =
      subst (λ (ns : List Lists). Placed (λ j z. NewestNode z) ns) (sym restart-nodes)
      (set-placed (λ j z. NewestNode z) w.nodes n l (restarted_lists l) is tt
      (λ j z ne at. k j z at))

-- a pairing
module _ (h : List Fact) (w : Moment) (n m credits : ℕ) (client server : Lists)
    (e : Ends w n m credits client server) where
  abbrev one : Fact
  one = client_fact n m credits client server

  abbrev other : Fact
  other = server_fact n m credits client server

  abbrev w2 : Moment
  w2 = paired w n m credits client server

  pair-keep : (j : Endpoint) (way : Way) (c r k : ℕ) → Held h w nothing j way c r k
      → Held ((h ++ one ∷ []) ++ other ∷ []) w2 nothing j way c r k
  pair-keep j way c r k (inr v) =
      inr (lost-since (h ++ one ∷ []) other j way c r
      (lost-since h one j way c r v (at-false (n == j.node) c one.event refl))
      (at-false (m == j.node) c other.event refl))
  pair-keep j way c r k (inl some) =
      let x = pair_of j way in
      let p = is_packet r k in
      let a = part-same (client_packets p x.client) w.nodes n x.home client
      (lists1 w n m credits client server e) e.is_client refl in
      let a2 = part-same (client_packets p x.client) (nodes1 w n m credits client server e) m x.home server
      (lists2 w n m credits client server e) (is_server1 w n m credits client server e) refl in
      let b = part-same (server_here p x.node_life x.session 0) w.nodes n x.node client
      (lists1 w n m credits client server e) e.is_client refl in
      let b2 = part-same (server_here p x.node_life x.session 0) (nodes1 w n m credits client server e) m x.node server
      (lists2 w n m credits client server e) (is_server1 w n m credits client server e) refl in
      let u = ap (client_part p x) (paired-nodes w n m credits client server e) in
      let v = ap (server_now p x 0) (paired-nodes w n m credits client server e) in
      inl (omega arith)

  reach-paired : Reach h w nothing → Reach ((h ++ one ∷ []) ++ other ∷ []) w2 nothing
  reach-paired reach =
      let h2 = (h ++ one ∷ []) ++ other ∷ [] in
      let kept : Placed (HeldNode h2 w2 nothing) w.nodes =
      λ j z at. keeps-all h h2 w w2 nothing nothing j z at
      (λ s y x. pair-keep (here j z) y.way) (reach j z at) in
      let first : Placed (HeldNode h2 w2 nothing) (nodes1 w n m credits client server e) =
      set-placed (HeldNode h2 w2 nothing) w.nodes n client (lists1 w n m credits client server e) e.is_client
      (add-placed (λ s x. HeldClient h2 w2 nothing (here n client) x) client.clients
      (client_end (length client.clients) m server.server_numbers credits server.life) (λ live. tt)
      (kept n client e.is_client)) (λ j z ne at. kept j z at) in
      subst (λ (ns : List Lists). Placed (HeldNode h2 w2 nothing) ns) (sym (paired-nodes w n m credits client server e))
      (set-placed (HeldNode h2 w2 nothing) (nodes1 w n m credits client server e) m server
      (lists2 w n m credits client server e) (is_server1 w n m credits client server e)
      (kept m server e.is_server) (λ j z ne at. first j z at))

  newest-paired : AllNewest w → AllNewest w2
  newest-paired k =
      let first : Placed (λ j z. NewestNode z) (nodes1 w n m credits client server e) =
      set-placed (λ j z. NewestNode z) w.nodes n client (lists1 w n m credits client server e) e.is_client
      (all-add NewestClient client.clients _ (k n client e.is_client) tt) (λ j z ne at. k j z at) in
      subst (λ (ns : List Lists). Placed (λ j z. NewestNode z) ns) (sym (paired-nodes w n m credits client server e))
      (set-placed (λ j z. NewestNode z) (nodes1 w n m credits client server e) m server
      (lists2 w n m credits client server e) (is_server1 w n m credits client server e)
      (k m server e.is_server) (λ j z ne at. first j z at))

-- the requests stay the newest of their slots
newest-node : (w : Moment) (n : ℕ) (l : Lists) (f : Fact) → AtNode w n l f → Good w → AllValid w
    → AllNewest w → AllNewest (moved w f)
newest-node w n l f a g v k =
    let good = g.nodes n l a.is_node in
    let here = newest-after w.clock w.hand l f.event f.first f.second (v n l a.is_node) a.lawful a.allowed.may
    (λ x s found. (good.clients s x (client-at g.known (here n l) l.clients s x good.clients found).0).eight)
    (k n l a.is_node) in
    subst (λ (u : Moment). AllNewest u) (sym (moved-node w n l f a))
    (set-placed (λ j z. NewestNode z) w.nodes n l (after w.clock l f) a.is_node here (λ j z ne at. k j z at))

newest-net : (w : Moment) (f : Fact) → f.who ≡ Net → AllNewest w → AllNewest (moved w f)
newest-net w f who k = subst (λ (ns : List Lists). Placed (λ j z. NewestNode z) ns) (sym (nodes-net w f who)) k

newest-made : (w : Moment) (ring : ℕ) → AllNewest w → AllNewest (moved w (plain (length w.nodes) (Made ring)))
newest-made w ring k = add-placed (λ j z. NewestNode z) w.nodes
    (new_lists (length w.nodes) first_life (with_ring ring)) tt k

-- a fact that is alone leaves nothing to be done
step-alone : (hand : Option InFlight) (l : Lists) (first : List ℕ) (d : Due) (e : Event) (u : Due)
    → Step hand l first d e u → is_alone e ≡ true → (d ≡ nothing) × (u ≡ nothing)
step-alone hand l first d e u (alone _ h) al = (refl, refl)
step-alone hand l first d e u (older t r k o) al = (refl, refl)
step-alone hand l first d e u (leaves t r k m) al = (refl, refl)
step-alone hand l first d e u (takes t r k) al = false-true al
step-alone hand l first d e u (repeats t r k) al = false-true al
step-alone hand l first d e u (posts t r k) al = false-true al
step-alone hand l first d e u (gives t r k w q) al = false-true al
step-alone hand l first d e u (serves t r y k none q) al = false-true al
step-alone hand l first d e u (finishes t r y w) al = false-true al
step-alone hand l first d e u (is_done t r y w none) al = false-true al
step-alone hand l first d e u (arrives peer) al = false-true al
step-alone hand l first d e u (overflows peer) al = false-true al
step-alone hand l first d e u (is_bad peer copy h g) al = false-true al
step-alone hand l first d e u (flushes _ s r k o go c) al = false-true al
step-alone hand l first d e u (rolls _ s r c posted got go call) al = false-true al
step-alone hand l first d e u (breaks _ s go) al = false-true al

at-one : (hand : Option InFlight) (o : Option Lists) (e : Event) (first : List ℕ) (d u : Due)
    → is_alone e ≡ true → MovesAt hand o e first d u → (d ≡ nothing) × (u ≡ nothing)
at-one hand None e first d u al m = (m.1, m.2)
at-one hand (Some l) e first d u al m = step-alone hand l first d e u m al

-- what is known at a moment
pub record At (h : List Fact) (w : Moment) (d : Due) : Type 0 where
  pub moment : w ≡ moment_of h
  pub right : AllRight w
  pub valid : AllValid w
  pub living : Living w
  pub newest : AllNewest w
  pub reach : Reach h w d

moment-append : (w : Moment) (x y : List Fact) → moment_from w (x ++ y) ≡ moment_from (moment_from w x) y
moment-append w [] y = refl
moment-append w (f ∷ x) y = moment-append (moved w f) x y

next-moment : (h : List Fact) (w : Moment) (f : Fact) → w ≡ moment_of h → moved w f ≡ moment_of (h ++ f ∷ [])
next-moment h w f is = ap (λ (v : Moment). moved v f) is ∙ sym (moment-append first_moment h (f ∷ []))

pub course-reach : (w : Moment) (x : List Fact) (v : Moment) → Course false w x v → (h : List Fact)
    (d u : Due) → MovesFrom d w x u → At h w d → At (h ++ x) v u
course-reach _ _ _ (over w) h d u m at =
    subst (λ (y : List Fact). At y w u) (sym (append-none h)) (subst (At h w) m at)
  where
    append-none : (y : List Fact) → y ++ [] ≡ y
    append-none [] = refl
    append-none (f ∷ y) = ap (λ (z : List Fact). f ∷ z) (append-none y)
course-reach _ _ _ (made_as w limits x v is c) h d u m at = absurd (cc)
course-reach _ _ _ (resets w clock x v is c) h d u m at = absurd (cc)
course-reach _ _ _ (in_net w f x v who c) h d u m at =
    let by : (d ≡ nothing) × (m.0 ≡ net_due f.event) = subst (λ (p : Who). MovesBy w p f.event f.first d m.0) who m.1 in
    let reach : Reach h w nothing = subst (Reach h w) by.0 at.reach in
    subst (λ (y : List Fact). At y v u) (append_assoc h (f ∷ []) x)
    (course-reach (moved w f) x v c (h ++ f ∷ []) m.0 u m.2 (record {
      moment = next-moment h w f at.moment;
      right = right-net w f who at.right;
      valid = valid-net w f who at.valid;
      living = living-net w f who at.living;
      newest = newest-net w f who at.newest;
      reach = subst (Reach (h ++ f ∷ []) (moved w f)) (sym by.1) (reach-net h w f who at.moment
          at.living.good reach);
    }))
course-reach _ _ _ (made w ring x v c) h d u m at =
    let f = plain (length w.nodes) (Made ring) in
    let by = at-one w.hand (slice_get w.nodes (length w.nodes)) (Made ring) [] d m.0 refl m.1 in
    let reach : Reach h w nothing = subst (Reach h w) by.0 at.reach in
    subst (λ (y : List Fact). At y v u) (append_assoc h (f ∷ []) x)
    (course-reach (moved w f) x v c (h ++ f ∷ []) m.0 u m.2 (record {
      moment = next-moment h w f at.moment;
      right = right-made w (with_ring ring) at.right;
      valid = valid-made w (with_ring ring) at.valid;
      living = living-made w ring at.living;
      newest = newest-made w ring at.newest;
      reach = subst (Reach (h ++ f ∷ []) (moved w f)) (sym by.1) (reach-made h w ring reach);
    }))
course-reach _ _ _ (restarts w n l x v is me life c) h d u m at =
    let f = plain n (Restarted (l.life + 1)) in
    let by = at-one w.hand (slice_get w.nodes n) f.event [] d m.0 refl m.1 in
    let reach : Reach h w nothing = subst (Reach h w) by.0 at.reach in
    subst (λ (y : List Fact). At y v u) (append_assoc h (f ∷ []) x)
    (course-reach (moved w f) x v c (h ++ f ∷ []) m.0 u m.2 (record {
      moment = next-moment h w f at.moment;
      right = right-restart w n l is at.right;
      valid = valid-restart w n l is at.valid;
      living = living-restart w n l is me at.living;
      newest = newest-restart h w n l is at.newest;
      reach = subst (Reach (h ++ f ∷ []) (moved w f)) (sym by.1) (reach-restart h w n l is reach);
    }))
course-reach _ _ _ (at_node w n l f x v a c) h d u m at =
    let who : f.who ≡ Node n = a.allowed.who ∙ ap Node a.me in
    let by : MovesAt w.hand (slice_get w.nodes n) f.event f.first d m.0 =
    subst (λ (p : Who). MovesBy w p f.event f.first d m.0) who m.1 in
    let step : Step w.hand l f.first d f.event m.0 =
    subst (λ (o : Option Lists). MovesAt w.hand o f.event f.first d m.0) a.is_node by in
    subst (λ (y : List Fact). At y v u) (append_assoc h (f ∷ []) x)
    (course-reach (moved w f) x v c (h ++ f ∷ []) m.0 u m.2 (record {
      moment = next-moment h w f at.moment;
      right = right-noted w n l f a at.right;
      valid = valid-node w n l f a at.valid;
      living = living-node w n l f a at.right at.valid at.living;
      newest = newest-node w n l f a at.living.good at.valid at.newest;
      reach = reach-node h w n l f d m.0 step a at.moment at.living at.right at.valid at.newest
          at.reach;
    }))
course-reach _ _ _ (pairs w n k credits client server x v e c) h d u m at =
    let f = client_fact n k credits client server in
    let g = server_fact n k credits client server in
    let by = at-one w.hand (slice_get w.nodes n) f.event [] d m.0 refl m.1 in
    let by2 = at-one w.hand (slice_get (moved w f).nodes k) g.event [] m.0 m.2.0 refl m.2.1 in
    let reach : Reach h w nothing = subst (Reach h w) by.0 at.reach in
    let w2 = paired w n k credits client server in
    let more = course-reach w2 x v c ((h ++ f ∷ []) ++ g ∷ []) m.2.0 u m.2.2 (record {
      moment = next-moment (h ++ f ∷ []) (moved w f) g (next-moment h w f at.moment);
      right = right-paired w n k credits client server e at.right;
      valid = valid-pair w n k credits client server e at.valid;
      living = living-pair w n k credits client server e at.right at.valid at.living;
      newest = newest-paired h w n k credits client server e at.newest;
      reach = subst (Reach ((h ++ f ∷ []) ++ g ∷ []) w2) (sym by2.1) (reach-paired h w n k credits client server e
          reach);
    }) in
    subst (λ (y : List Fact). At y v u) (append_assoc (h ++ f ∷ []) (g ∷ []) x ∙ append_assoc h (f ∷ []) (g ∷ x)) more
