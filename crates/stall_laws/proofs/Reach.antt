-- Each unanswered packet of each call is held, by each fact of a node.
use Rattle.std.proofs.Common.{◌≡◌, ◌<◌, ◌≤◌, ◌+◌, ◌==◌, ◌&&◌, inl, ℕ, Bool, true, false, cond}
use Rattle.std.proofs.Common.{List, [], ◌∷◌, ◌++◌, Option, Some, None, slice_get, refl, sym, ap}
use Rattle.std.proofs.Common.{◌∙◌, subst, eq-eqb, ltb, ltb-true, ltb-false, arith}
use Rattle.std.specs.Prelude.{option_map}
use Rattle.std.specs.List.{find, slice_set, AllByRecursion}
use Rattle.std.proofs.lemmas.Bool.{eqb-true, and_from}
use Rattle.packet_header.specs.declared.packet.MessageHeader.{MessageHeader}
use Rattle.rpc_base.proofs.BasicLemmas.{and-false}
use Rattle.rpc_base.specs.Tables.{at_first}
use Rattle.rpc_base.specs.declared.event.Event.{Event}
use Rattle.rpc_base.specs.declared.event.Event.TheVariants.{Begun, Posted, Took, Rolled, Broken}
use Rattle.rpc_base.specs.declared.fact.Fact.{Fact}
use Rattle.rpc_base.specs.declared.owner.Owner.TheVariants.{Ask}
use Rattle.rpc_base.proofs.PlaceLemmas.{all-at}
use Rattle.rpc_laws.specs.declared.tables.Call.{Call}
use Rattle.rpc_laws.specs.declared.tables.Client.{Client}
use Rattle.rpc_laws.specs.declared.tables.Lists.{Lists}
use Rattle.rpc_laws.specs.declared.tables.Progress.{Progress}
use Rattle.rpc_laws.specs.declared.tables.Way.{Way}
use Rattle.rpc_laws.specs.Calls.{is_active, is_call, has_request, begun, moved, posted_up_to}
use Rattle.rpc_laws.specs.Calls.{took_reply, rolled_back}
use Rattle.rpc_laws.specs.Endpoints.{Endpoint}
use Rattle.rpc_laws.specs.Facts.{with_two}
use Rattle.rpc_laws.specs.Front.{front_header, front_body}
use Rattle.rpc_laws.specs.Sessions.{is_client, has_call, is_connected, begins, posts, takes, rolls}
use Rattle.rpc_laws.specs.Sessions.{breaks}
use Rattle.node_laws.specs.Valid.{Valid, Sound}
use Rattle.node_laws.proofs.Allowed.{MayBegin, MayPost, MayTake, MayRoll, MayBreak}
use Rattle.node_laws.proofs.NumberLemmas.{by_number}
use Rattle.node_laws.proofs.SoundLemmas.{by_request, reply-got, reply-posted, reply-request}
use Rattle.end_laws.specs.Moments.{Moment}
use Rattle.end_laws.specs.TwoEnds.{here}
use Rattle.end_laws.proofs.Allowed.{is_packet}
use Rattle.end_laws.proofs.Courses.{AtNode, noted_at}
use Rattle.stall_laws.proofs.Living.{Living, other-stands, other-stays}
use Rattle.end_laws.proofs.ListLemmas.{Placed, find-at, set-first, set-placed, first-each}
use Rattle.end_laws.proofs.ListLemmas.{all-first, all-both, all-map}
use Rattle.end_laws.proofs.QueueLemmas.{RightNode}
use Rattle.ring_laws.proofs.ClientReach.{spilt_reply}
use Rattle.ring_laws.proofs.Loads.{posted_ask, took_reply as took_packets}
use Rattle.stall_laws.specs.Caused.{restarts, restarts_by}
use Rattle.stall_laws.specs.Settled.{moment_of}
use Rattle.stall_laws.proofs.CallPlaces.{counted, number-at, one-owner, one-call, one-active}
use Rattle.stall_laws.proofs.CallPlaces.{client-set, owner-set}
use Rattle.stall_laws.proofs.Dues.{Due, Step, IsCallFor}
use Rattle.stall_laws.proofs.Fates.{posted-stands}
use Rattle.stall_laws.proofs.Held.{pair_of, Held, SessionAt, Spares, held-noted, joins-of}
use Rattle.stall_laws.proofs.Newest.{NewestBy, NewestCall, NewestClient, NewestNode}
use Rattle.stall_laws.proofs.OnePlace.{count-here, placed-all, every}
use Rattle.stall_laws.proofs.Standing.{spilt_at}

-- each unanswered packet of a call, of the active calls of a session, and of the connected sessions of a node
abbrev pub HeldBy : List Fact → Moment → Due → Endpoint → Way → ℕ → Option Progress → Type 0
HeldBy h w d j way c None = Unit {0}
HeldBy h w d j way c (Some p) = (k : ℕ) → p.got ≤ k → k < p.posted → Held h w d j way c p.request k

abbrev pub HeldCall : List Fact → Moment → Due → Endpoint → Way → Call → Type 0
HeldCall h w d j way c = HeldBy h w d j way c.what.number c.progress

abbrev pub HeldClient : List Fact → Moment → Due → Endpoint → Client → Type 0
HeldClient h w d j x = is_connected x.state ≡ true → AllByRecursion (HeldCall h w d j x.way) x.calls

abbrev pub HeldNode : List Fact → Moment → Due → ℕ → Lists → Type 0
HeldNode h w d j l = Placed (λ s x. HeldClient h w d (here j l) x) l.clients

-- a call whose number is another, or that isn't of this node, goes on
pub at-false : (b : Bool) (c : ℕ) (e : Event) → restarts_by c e ≡ false → (b && restarts_by c e) ≡ false
at-false b c e h = rw h (and-false b)

-- a call's packets, where what it has got and posted stays
module _ (h : List Fact) (w : Moment) (n : ℕ) (l : Lists) (e : Event) (first second : List ℕ)
    (d u : Due) (step : Step w.hand l first d e u) (a : AtNode w n l (with_two n e first second))
    (is : w ≡ moment_of h) (g : Living w) (i : RightNode l) (v : Valid l)
    (newest : NewestNode l) where
  abbrev f : Fact
  f = with_two n e first second

  abbrev h2 : List Fact
  h2 = h ++ f ∷ []

  abbrev w2 : Moment
  w2 = noted_at w n l f

  -- what is spared of a call
  abbrev SparesBy : (j s c : ℕ) → Option Progress → Type 0
  SparesBy j s c None = Unit {0}
  SparesBy j s c (Some p) = (restarts j c f ≡ false) × ((k : ℕ) → p.got ≤ k → k < p.posted
      → Spares n j l e s p.request k)

  by-kept : (j s : ℕ) (z : Lists) (x : Client) → SessionAt w j s z x → (c : ℕ) (o : Option Progress)
      → NewestBy x.turns o → SparesBy j x.way.number c o → HeldBy h w d (here j z) x.way c o
      → HeldBy h2 w2 u (here j z) x.way c o
  by-kept j s z x at c None new sp held = tt
  by-kept j s z x at c (Some p) new sp held =
      λ k low high.
      held-noted h w n l e first second d u step a is g.good i j s z x at c p.request k new sp.0
      (sp.1 k low high) (held k low high)

  -- a session none of whose calls changes
  client-kept : (j s : ℕ) (z : Lists) (x : Client)
      → (is_connected x.state ≡ true → SessionAt w j s z x)
      → NewestClient x
      → AllByRecursion (λ c. SparesBy j x.way.number c.what.number c.progress) x.calls
      → HeldClient h w d (here j z) x → HeldClient h2 w2 u (here j z) x
  client-kept j s z x at new sp held =
      λ live. all-map (λ c. (NewestCall x.turns c × SparesBy j x.way.number c.what.number c.progress) × HeldCall h w
      d (here j z) x.way c) (HeldCall h2 w2 u (here j z) x.way) x.calls
      (λ c both. by-kept j s z x (at live) c.what.number c.progress both.0.0 both.0.1 both.1)
      (all-both (λ c. NewestCall x.turns c × SparesBy j x.way.number c.what.number c.progress)
      (HeldCall h w d (here j z) x.way) x.calls
      (all-both (NewestCall x.turns) (λ c. SparesBy j x.way.number c.what.number c.progress) x.calls new sp)
      (held live))

  spares-of : (j s c : ℕ) (o : Option Progress) → restarts j c f ≡ false
      → ((r k : ℕ) → Spares n j l e s r k) → SparesBy j s c o
  spares-of j s c None same sp = tt
  spares-of j s c (Some p) same sp = (same, λ k low high. sp p.request k)

  -- the sessions of another node
  pub other-node : (j : ℕ) (z : Lists) → (j ≡ n → ⊥) → slice_get w.nodes j ≡ Some z → NewestNode z
      → HeldNode h w d j z → HeldNode h2 w2 u j z
  other-node j z ne is_node new held s x there =
      let apart : (n == j) ≡ false = by (n == j) refl in
      client-kept j s z x (λ live. record {
        is_node = is_node;
        is_there = there;
        live = live;
        stands = other-stands w g j z s x is_node there live;
        stays = λ m y is node life may. other-stays w g j z s x is_node there live m y is node
            life may;
      })
      (all-at NewestClient z.clients s x new there)
      (every (λ c. SparesBy j x.way.number c.what.number c.progress) x.calls
      (λ c. spares-of j x.way.number c.what.number c.progress
      (rw apart refl) (λ r k. record {
        took = λ same t. ne (sym same);
        rolled = λ same b po got t call. ne (sym same);
        broken = λ same t. ne (sym same);
      }))) (held s x there)
    where
      by : (b : Bool) → (n == j) ≡ b → b ≡ false
      by true t = absurd (ne (sym (eqb-true n j t)))
      by false t = refl

  here-at : (s : ℕ) (x : Client) → slice_get l.clients s ≡ Some x → is_connected x.state ≡ true
      → SessionAt w n s l x
  here-at s x there live = record {
    is_node = a.is_node;
    is_there = there;
    live = live;
    stands = other-stands w g n l s x a.is_node there live;
    stays = λ m z is node life may. other-stays w g n l s x a.is_node there live m z is node
        life may;
  }

  abbrev After : Client → Type 0
  After x = HeldClient h2 w2 u (here n l) x

  -- what another session keeps
  session-kept : (s : ℕ) (x : Client) → slice_get l.clients s ≡ Some x
      → AllByRecursion (λ c. SparesBy n x.way.number c.what.number c.progress) x.calls
      → HeldNode h w d n l → After x
  session-kept s x there sp held =
      client-kept n s l x (here-at s x there) (all-at NewestClient l.clients s x newest there) sp
      (held s x there)

  -- facts that end nothing
  abbrev SparesAll : Type 0
  SparesAll = (s r k : ℕ) → Spares n n l e s r k

  abbrev Restarts : ℕ → Bool
  Restarts c = restarts n c f

  none-restarts : ((c : ℕ) → restarts_by c e ≡ false) → (c : ℕ) → Restarts c ≡ false
  none-restarts none c = at-false (n == n) c e (none c)

  pub all-kept : SparesAll → ((c : ℕ) → restarts_by c e ≡ false) → HeldNode h w d n l
      → Placed (λ s x. After x) l.clients
  all-kept sp none held s x there =
      session-kept s x there (every (λ c. SparesBy n x.way.number c.what.number c.progress) x.calls
      (λ c. spares-of n x.way.number c.what.number c.progress
      (none-restarts none c.what.number) (λ r k. sp x.way.number r k))) held

  -- a session changes, and each of its calls is one of its calls before, as far as it has come
  abbrev Moves : Client → Client → Type 1
  Moves x y =
      ((P : Call → Type 0) → ((c : Call) (change : Progress → Progress) → P c
      → ((p : Progress) → ((change p).request ≡ p.request) × ((change p).got ≡ p.got) × ((change p).posted ≡ p.posted))
      → P (record c { progress = option_map change c.progress }))
      → ((c : Call) → c.progress ≡ None → P c) → AllByRecursion P x.calls → AllByRecursion P y.calls)
      × (y.way ≡ x.way) × (y.state ≡ x.state)

  same-held : (way : Way) (c : ℕ) (o : Option Progress) (change : Progress → Progress)
      → ((p : Progress) → ((change p).request ≡ p.request) × ((change p).got ≡ p.got) × ((change p).posted ≡ p.posted))
      → HeldBy h2 w2 u (here n l) way c o → HeldBy h2 w2 u (here n l) way c (option_map change o)
  same-held way c None change same held = tt
  same-held way c (Some p) change same held =
      λ k low high. let e3 = same p in
      rw (e3.0) (held k (rw (← e3.1) low) (rw (← e3.2) high))

  none-held : (way : Way) (c : ℕ) (o : Option Progress) → o ≡ None → HeldBy h2 w2 u (here n l) way c o
  none-held way c o e = rw e tt

  moves-held : (x y : Client) → Moves x y → After x → After y
  moves-held x y m held =
      λ live. let was : is_connected x.state ≡ true = ap is_connected (sym m.2) ∙ live in
      subst (λ (way : Way). AllByRecursion (HeldCall h2 w2 u (here n l) way) y.calls) (sym m.1)
      (m.0 (HeldCall h2 w2 u (here n l) x.way)
      (λ c change p same. same-held x.way c.what.number c.progress change same p)
      (λ c none. none-held x.way c.what.number c.progress none) (held was))

  pub first-kept : (p : Client → Bool) (change : Client → Client) → ((x : Client) → Moves x (change x))
      → SparesAll → ((c : ℕ) → restarts_by c e ≡ false) → HeldNode h w d n l
      → Placed (λ s x. After x) (at_first p change l.clients)
  first-kept p change m sp none held =
      first-each p change (λ s x. After x) (λ s x. After x) l.clients
      (λ s x k t. moves-held x (change x) (m x) k) (λ s x k. k) (all-kept sp none held)

  spares-call : (s c : ℕ) (o : Option Progress) → Restarts c ≡ false
      → ((p : Progress) → o ≡ Some p → (k : ℕ) → p.got ≤ k → k < p.posted → Spares n n l e s p.request k)
      → SparesBy n s c o
  spares-call s c None same sp = tt
  spares-call s c (Some p) same sp = (same, sp p refl)

  -- one session changes, and the calls of the others are spared
  one-kept : (s : ℕ) (x y : Client) → slice_get l.clients s ≡ Some x
      → ((t : ℕ) (z : Client) → (t ≡ s → ⊥) → slice_get l.clients t ≡ Some z → (m : ℕ) (b : Call)
      → slice_get z.calls m ≡ Some b → SparesBy n z.way.number b.what.number b.progress) → After y
      → HeldNode h w d n l → Placed (λ s x. After x) (slice_set l.clients s y)
  one-kept s x y there sp now held =
      set-placed (λ s x. After x) l.clients s x y there now
      (λ t z ne at. session-kept t z at (placed-all (λ c. SparesBy n z.way.number c.what.number c.progress)
      z.calls (λ m b is_b. sp t z ne at m b is_b)) held)

  -- one call of a session changes, and its other calls are spared
  call-changed : (s : ℕ) (x : Client) → slice_get l.clients s ≡ Some x → is_connected x.state ≡ true
      → (j : ℕ) (b c : Call)
      → slice_get x.calls j ≡ Some b → ((m : ℕ) (o : Call) → (m ≡ j → ⊥) → slice_get x.calls m ≡ Some o
      → SparesBy n x.way.number o.what.number o.progress) → HeldCall h2 w2 u (here n l) x.way c
      → AllByRecursion (HeldCall h w d (here n l) x.way) x.calls
      → AllByRecursion (HeldCall h2 w2 u (here n l) x.way) (slice_set x.calls j c)
  call-changed s x there live j b c is_b sp now held =
      placed-all (HeldCall h2 w2 u (here n l) x.way) (slice_set x.calls j c)
      (set-placed (λ m o. HeldCall h2 w2 u (here n l) x.way o) x.calls j b c is_b now
      (λ m o ne at. by-kept n s l x (here-at s x there live) o.what.number o.progress
      (all-at (NewestCall x.turns) x.calls m o (all-at NewestClient l.clients s x newest there) at)
      (sp m o ne at) (all-at (HeldCall h w d (here n l) x.way) x.calls m o held at)))

  progress-at : (way : Way) (c : ℕ) (o : Option Progress) (p : Progress) → o ≡ Some p
      → HeldBy h w d (here n l) way c o → (k : ℕ) → p.got ≤ k → k < p.posted → Held h w d (here n l) way c p.request k
  progress-at way c o p at held k low high =
      let own : HeldBy h w d (here n l) way c (Some p) = subst (HeldBy h w d (here n l) way c) at held in own k low high

  newest-at : (s : ℕ) (x : Client) → slice_get l.clients s ≡ Some x → (j : ℕ) (b : Call)
      → slice_get x.calls j ≡ Some b → (p : Progress) → b.progress ≡ Some p → NewestBy x.turns (Some p)
  newest-at s x there j b is_b p at =
      subst (NewestBy x.turns) at (all-at (NewestCall x.turns) x.calls j b
      (all-at NewestClient l.clients s x newest there) is_b)

  -- a reply is taken
  pub took-held : (m q b : ℕ) → e ≡ Took (Ask m q) b → MayTake l m q b → HeldNode h w d n l
      → Placed (λ s x. After x) (at_first (is_client m)
      (takes w.clock q (front_header l.ring) (front_body l.ring)) l.clients)
  took-held m q b e_is may held =
      let x = may.client in
      let call = may.call in
      let p = may.progress in
      let body = front_body l.ring in
      let tk = took_reply w.clock (front_header l.ring) body in
      let set = client-set l v m x (takes w.clock q (front_header l.ring) body) may.active.place.client in
      let there = set.1 in
      let place : set.0 ≡ m = set.2 in
      let sound = all-at Sound l.clients set.0 x v.sound there in
      let own : find (is_active q) x.calls ≡ Some call =
      rw may.same at (by_request x may.active.place.test call p sound may.active.place.call may.active.active) in
      let at = find-at (is_active q) x.calls call own in
      let calls : at_first (is_active q) (moved tk) x.calls ≡ slice_set x.calls at.0 (moved tk call) =
      set-first (is_active q) (moved tk) x.calls at.0 call at.1 at.2
      (λ j o is_o t. one-active l v q set.0 x there j at.0 o call is_o t at.1 at.2) in
      let none : (c : ℕ) → Restarts c ≡ false =
      λ c. at-false (n == n) c e (ap (restarts_by c) e_is) in
      let now0 : (live : is_connected x.state ≡ true) → HeldBy h2 w2 u (here n l) x.way call.what.number
      (Some (took_reply w.clock (Some may.header) body p)) = λ live. λ k low high.
      let got = reply-got may.header body p in
      let posted = reply-posted may.header body p in
      let turn = may.turn in
      subst (λ (r : ℕ). Held h2 w2 u (here n l) x.way call.what.number r k) (sym (reply-request may.header body p))
      (held-noted h w n l e first second d u step a is g.good i n set.0 l x
      (here-at set.0 x there live)
      call.what.number p.request k (newest-at set.0 x there at.0 call at.1 p may.active.active) (none call.what.number)
      (record {
        took = λ home t. let same : k ≡ b = cc in absurd (omega arith);
        rolled = λ home c po gt t z. cc;
        broken = λ home t. cc;
      }) (progress-at x.way call.what.number call.progress p may.active.active
      (all-at (HeldCall h w d (here n l) x.way) x.calls at.0 call (held set.0 x there live) at.1) k (omega arith)
      (omega arith))) in
      let now : (live : is_connected x.state ≡ true) → HeldBy h2 w2 u (here n l) x.way call.what.number
      (Some (tk p)) = λ live. subst (λ (hd : Option MessageHeader). HeldBy h2 w2 u (here n l) x.way call.what.number
      (Some (took_reply w.clock hd body p))) (sym may.front) (now0 live) in
      rw (set.3) (one-kept set.0 x (takes w.clock q (front_header l.ring) body x) there
      (λ t z ne is_z j o is_o. spares-call z.way.number o.what.number o.progress (none o.what.number)
      (λ p2 at2 k low high. record {
        took = λ home k2. let same : z.way.number ≡ m = cc in ne (sym (number-at l v t z is_z) ∙ (same ∙ sym place));
        rolled = λ home c po gt k2 y. cc;
        broken = λ home k2. cc;
      }))
      (λ live. rw calls (call-changed set.0 x there live at.0 call (moved tk call) at.1
      (λ j o ne is_o. spares-call x.way.number o.what.number o.progress (none o.what.number)
      (λ p2 at2 k low high. record {
        took = λ home k2. let same : p2.request ≡ q = cc in
            ne (one-active l v q set.0 x there j at.0 o call is_o (ap (has_request q) at2 ∙ eq-eqb p2.request q
            same) at.1 at.2);
        rolled = λ home c po gt k2 y. cc;
        broken = λ home k2. cc;
      }))
      (subst (λ (o : Option Progress). HeldBy h2 w2 u (here n l) x.way call.what.number (option_map tk o))
      (sym may.active.active) (now live))
      (held set.0 x there live))) held)

  restarts-other : (b c : ℕ) → restarts_by c e ≡ (b == c) → (b ≡ c → ⊥) → Restarts c ≡ false
  restarts-other b c e_is other = by (b == c) refl
    where
      by : (t : Bool) → (b == c) ≡ t → Restarts c ≡ false
      by true t = absurd (other (eqb-true b c t))
      by false t = at-false (n == n) c e (e_is ∙ t)

  -- a call with this number is no call of another session
  foreign : (c s : ℕ) (x : Client) → slice_get l.clients s ≡ Some x → 1 ≤ counted l v c x → (t : ℕ)
      (z : Client) → (t ≡ s → ⊥) → slice_get l.clients t ≡ Some z → (m : ℕ) (b : Call)
      → slice_get z.calls m ≡ Some b → c ≡ b.what.number → ⊥
  foreign c s x there own t z ne is_z m b is_b same =
      ne (one-owner l v c s x there own t z is_z (count-here (is_call c) z.calls m b is_b
      (eq-eqb b.what.number c (sym same))))

  -- a call begins
  pub begun-held : (c r : ℕ) → e ≡ Begun c r → MayBegin l c r → HeldNode h w d n l
      → Placed (λ s x. After x) (at_first (has_call c) (begins c r) l.clients)
  begun-held c r e_is may held =
      let x = may.client in
      let call = may.call in
      let own = by_number l may.session x call v may.place in
      let session : find (has_call c) l.clients ≡ Some x = rw (may.same) own.client in
      let set = owner-set l v c x (begins c r) session in
      let there = set.1 in
      let found : find (is_call c) x.calls ≡ Some call = rw (may.same) own.call in
      let at = find-at (is_call c) x.calls call found in
      let calls : at_first (is_call c) (begun r) x.calls ≡ slice_set x.calls at.0 (begun r call) =
      set-first (is_call c) (begun r) x.calls at.0 call at.1 at.2
      (λ j o is_o t. one-call l v c set.0 x there j at.0 o call is_o t at.1 at.2) in
      let other : (b : ℕ) → (c ≡ b → ⊥) → Restarts b ≡ false =
      λ b. restarts-other c b (ap (restarts_by b) e_is) in
      let free : (s b k : ℕ) → Spares n n l e s b k = λ s b k. record {
        took = λ home t. cc;
        rolled = λ home c po gt t z. cc;
        broken = λ home t. cc;
      } in
      rw (set.3) (one-kept set.0 x (begins c r x) there
      (λ t z ne is_z j o is_o. spares-call z.way.number o.what.number o.progress
      (other o.what.number (λ same. foreign c set.0 x there set.2 t z ne is_z j o is_o same))
      (λ p at2 k low high. free z.way.number p.request k))
      (λ live. rw calls (call-changed set.0 x there live at.0 call (begun r call) at.1
      (λ j o ne is_o. spares-call x.way.number o.what.number o.progress
      (other o.what.number (λ same. ne (one-call l v c set.0 x there j at.0 o call is_o
      (eq-eqb o.what.number c (sym same)) at.1 at.2)))
      (λ p at2 k low high. free x.way.number p.request k))
      (λ k low high. absurd (omega arith)) (held set.0 x there live))) held)

  -- whom a rollback is for
  call-owner : (c s r : ℕ) → (y : IsCallFor l s c r) → (slice_get l.clients s ≡ Some y.client) ×
      (1 ≤ counted l v c y.client)
  call-owner c s r y =
      let place : y.place ≡ s = sym (number-at l v y.place y.client y.found) ∙ y.number in
      let at = find-at (is_call c) y.client.calls y.call y.is_there in (
        subst (λ (j : ℕ). slice_get l.clients j ≡ Some y.client) place y.found,
        count-here (is_call c) y.client.calls at.0 y.call at.1 at.2,
      )

  -- a call is rolled back
  pub rolled-held : (c po got : ℕ) → e ≡ Rolled c po got → MayRoll l c po got → HeldNode h w d n l
      → Placed (λ s x. After x) (at_first (has_call c) (rolls c po got) l.clients)
  rolled-held c po got e_is may held =
      let x = may.client in
      let call = may.call in
      let p = may.progress in
      let own = by_number l may.session x call v may.active.place in
      let session : find (has_call c) l.clients ≡ Some x = rw (may.same) own.client in
      let set = owner-set l v c x (rolls c po got) session in
      let there = set.1 in
      let found : find (is_call c) x.calls ≡ Some call = rw (may.same) own.call in
      let at = find-at (is_call c) x.calls call found in
      let back = moved (rolled_back got) in
      let calls : at_first (is_call c) back x.calls ≡ slice_set x.calls at.0 (back call) =
      set-first (is_call c) back x.calls at.0 call at.1 at.2
      (λ j o is_o t. one-call l v c set.0 x there j at.0 o call is_o t at.1 at.2) in
      let other : (b : ℕ) → (c ≡ b → ⊥) → Restarts b ≡ false =
      λ b. restarts-other c b (ap (restarts_by b) e_is) in
      let empty : HeldBy h2 w2 u (here n l) x.way call.what.number (Some (rolled_back got p)) =
      λ k low high. (let same = may.back in absurd (omega arith)) in
      rw (set.3) (one-kept set.0 x (rolls c po got x) there
      (λ t z ne is_z j o is_o. spares-call z.way.number o.what.number o.progress
      (other o.what.number (λ same. foreign c set.0 x there set.2 t z ne is_z j o is_o same))
      (λ p2 at2 k low high. record {
        took = λ home q. cc;
        rolled = λ home c2 po2 gt q y. let same : c2 ≡ c = cc in
            let mine : IsCallFor l z.way.number c p2.request = subst (λ
            (i : ℕ). IsCallFor l z.way.number i p2.request) same y in
            let owner = call-owner c z.way.number p2.request mine in
            ne (sym (number-at l v t z is_z) ∙ one-owner l v c set.0 x there set.2 z.way.number mine.client owner.0
            owner.1);
        broken = λ home q. cc;
      }))
      (λ live. rw calls (call-changed set.0 x there live at.0 call (back call) at.1
      (λ j o ne is_o. spares-call x.way.number o.what.number o.progress
      (other o.what.number (λ same. ne (one-call l v c set.0 x there j at.0 o call is_o
      (eq-eqb o.what.number c (sym same)) at.1 at.2)))
      (λ p2 at2 k low high. record {
        took = λ home q. cc;
        rolled = λ home c2 po2 gt q y. let same : c2 ≡ c = cc in
            ne (same-roll c set.0 x there at.0 call at.1 at.2 j o p2 is_o at2 (subst
            (λ (i : ℕ). IsCallFor l x.way.number i p2.request) same y));
        broken = λ home q. cc;
      }))
      (subst (λ (o : Option Progress). HeldBy h2 w2 u (here n l) x.way call.what.number
      (option_map (rolled_back got) o))
      (sym may.active.active) empty) (held set.0 x there live))) held)
    where
      same-roll : (c s : ℕ) (x : Client) → slice_get l.clients s ≡ Some x → (i0 : ℕ) (call : Call)
          → slice_get x.calls i0 ≡ Some call → is_call c call ≡ true → (j : ℕ) (o : Call) (p2 : Progress)
          → slice_get x.calls j ≡ Some o → o.progress ≡ Some p2
          → IsCallFor l x.way.number c p2.request → j ≡ i0
      same-roll c s x there i0 call is_b own j o p2 is_o at2 y =
          let owner = call-owner c x.way.number p2.request y in
          let number = number-at l v s x there in
          let again : slice_get l.clients s ≡ Some y.client = subst (λ (i : ℕ). slice_get l.clients i ≡ Some
          y.client) number owner.0 in
          let same : y.client ≡ x = cc in
          let found : find (is_call c) x.calls ≡ Some y.call = subst (λ (z : Client). find
          (is_call c) z.calls ≡ Some y.call) same y.is_there in
          let at = find-at (is_call c) x.calls y.call found in
          let place = one-call l v c s x there at.0 i0 y.call call at.1 at.2 is_b own in
          let here : is_active p2.request y.call ≡ true = ap (has_request p2.request) y.is_progress ∙ eq-eqb
          y.progress.request p2.request y.request in
          let mine : is_active p2.request o ≡ true = ap (has_request p2.request) at2 ∙ eq-eqb p2.request p2.request
          refl in
          let found_at : j ≡ at.0 = one-active l v p2.request s x there j at.0 o y.call is_o mine at.1 here in
          subst (λ (m : ℕ). j ≡ m) place found_at

  -- a session breaks
  pub broken-held : (m : ℕ) → e ≡ Broken m → MayBreak l m → HeldNode h w d n l
      → Placed (λ s x. After x) (at_first (is_client m) breaks l.clients)
  broken-held m e_is may held =
      let set = client-set l v m may.client breaks may.found in
      let none : (c : ℕ) → Restarts c ≡ false = λ c. at-false (n == n) c e (ap (restarts_by c) e_is) in
      rw (set.3) (one-kept set.0 may.client (breaks may.client) set.1
      (λ t z ne is_z j o is_o. spares-call z.way.number o.what.number o.progress (none o.what.number)
      (λ p at2 k low high. record {
        took = λ home q. cc;
        rolled = λ home c po gt q y. cc;
        broken = λ home q. let same : z.way.number ≡ m = cc in
            ne (sym (number-at l v t z is_z) ∙ (same ∙ sym set.2));
      })) (λ live. absurd (cc)) held)

  -- a packet is posted
  pub posted-held : (m q b : ℕ) → e ≡ Posted (Ask m q) b → MayPost l m q b → HeldNode h w d n l
      → Placed (λ s x. After x) (at_first (is_client m) (posts q b) l.clients)
  posted-held m q b e_is may held =
      let x = may.client in
      let set = client-set l v m x (posts q b) may.active.place.client in
      let there = set.1 in
      let none : (c : ℕ) → Restarts c ≡ false = λ c. at-false (n == n) c e (ap (restarts_by c) e_is) in
      let free : (s r k : ℕ) → Spares n n l e s r k = λ s r k. record {
        took = λ home t. cc;
        rolled = λ home c po gt t z. cc;
        broken = λ home t. cc;
      } in
      let sound = all-at Sound l.clients set.0 x v.sound there in
      let own : find (is_active q) x.calls ≡ Some may.call =
      rw (may.same) (by_request x may.active.place.test may.call may.progress sound may.active.place.call
      may.active.active) in
      let all : (y : Client) → AllByRecursion (λ c. SparesBy n y.way.number c.what.number c.progress) y.calls =
      λ y. every (λ c. SparesBy n y.way.number c.what.number c.progress) y.calls
      (λ c. spares-of n y.way.number c.what.number c.progress (none c.what.number) (free y.way.number)) in
      let kept : After x = session-kept set.0 x there (all x) held in
      let number : x.way.number ≡ m = number-at l v set.0 x there ∙ set.2 in
      rw (set.3) (one-kept set.0 x (posts q b x) there
      (λ t z ne is_z j o is_o. spares-of n z.way.number o.what.number o.progress (none o.what.number)
      (free z.way.number))
      (λ live. all-first (HeldCall h2 w2 u (here n l) x.way) (HeldCall h2 w2 u (here n l) x.way) (is_active q) (moved
      (posted_up_to b)) x.calls
      (λ c k. k) (λ c is_c k. let same : may.call ≡ c = cc in
      let at : c.progress ≡ Some may.progress = ap (λ (o : Call). o.progress) (sym same) ∙ may.active.active in
      subst (λ (o : Option Progress). HeldBy h2 w2 u (here n l) x.way c.what.number
      (option_map (posted_up_to b) o)) (sym at)
      (λ j low high. by set.0 x there live number j c.what.number low high (subst
      (HeldBy h2 w2 u (here n l) x.way c.what.number) at k)))
      (kept live)) held)
    where
      by : (s : ℕ) (x : Client) → slice_get l.clients s ≡ Some x → is_connected x.state ≡ true
          → x.way.number ≡ m → (j c : ℕ)
          → may.progress.got ≤ j → j < b + 1 → HeldBy h2 w2 u (here n l) x.way c (Some may.progress)
          → Held h2 w2 u (here n l) x.way c may.progress.request j
      by s x there live number j c low high k = pick (ltb j may.progress.posted) refl
        where
          pick : (t : Bool) → ltb j may.progress.posted ≡ t → Held h2 w2 u (here n l) x.way c may.progress.request j
          pick true t = k j low (ltb-true j may.progress.posted t)
          pick false t =
              let high2 = ltb-false j may.progress.posted t in
              let turn = may.turn in
              let new : b ≡ j = omega arith in
              let p = is_packet may.progress.request j in
              let counted : (m == x.way.number && (q == may.progress.request && b == j)) ≡ true =
              and_from (m == x.way.number) (q == may.progress.request && b == j) (eq-eqb m x.way.number (sym number))
              (and_from (q == may.progress.request) (b == j) (eq-eqb q may.progress.request may.same)
              (eq-eqb b j new)) in
              let one : posted_ask p x.way.number e ≡ 1 =
              ap (posted_ask p x.way.number) e_is ∙ ap {B = ℕ} (λ (t : Bool). cond t 1 0) counted in
              inl (posted-stands w n l e first second (pair_of (here n l) x.way) may.progress.request j a
              (joins-of w n l n s l x a.is_node g.good (here-at s x there live)) i d u step refl one
              (ap (took_packets p x.way.number) e_is) (ap (λ (v : Event). spilt_reply p x.way.number v l) e_is)
              (ap (λ (v : Event). spilt_at p x.way.life x.way.other (l.life == x.way.life) v l) e_is))
