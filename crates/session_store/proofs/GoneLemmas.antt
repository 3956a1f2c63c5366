-- What an entry that leaves the ring does to its client session, to the pool and to all that always holds.
use Rattle.std.proofs.Common.{◌≡◌, ◌≢◌, ℕ, zero, suc, ◌+◌, Bool, true, false, Option, Some, None}
use Rattle.std.proofs.Common.{List, [], ◌∷◌, length, refl, sym, ap, subst, ◌∙◌, arith}
use Rattle.std.specs.Prelude.{map, slice_get, slice_set}
use Rattle.std.specs.List.{find}
use Rattle.std.proofs.lemmas.Bool.{eq-eqb, eqb-true, ne_eqb}
use Rattle.rpc_base.specs.Tables.{at_first}
use Rattle.rpc_base.specs.Taking.{TakenOut}
use Rattle.rpc_base.specs.declared.owner.Owner.TheVariants.{Ask}
use Rattle.rpc_base.proofs.TakingLemmas.{find-passes, taken-fewer}
use Rattle.rpc_base.proofs.PlaceLemmas.{all-at, get-map}
use Rattle.buffer_pool.specs.Places.{IsHeld}
use Rattle.buffer_pool.specs.Pool.{Pool, spare_of}
use Rattle.packet_rings.specs.Rings.{Ring, ring}
use Rattle.packet_rings.specs.Values.{EntryValue}
use Rattle.packet_rings.proofs.MentionsLemmas.{mentions-own, mentions-taken}
use Rattle.node_laws.specs.QueuedPackets.{is_ask_of}
use Rattle.rpc_laws.specs.Packets.{IsSpelled, ask_packet}
use Rattle.rpc_laws.specs.Sessions.{is_client, sends}
use Rattle.rpc_laws.specs.declared.tables.Client.{Client}
use Rattle.client_core.specs.declared.call.ActiveCall.{ActiveCall}
use Rattle.client_core.specs.Posting.{IsPacketOf, call_of, flushed_at, is_owner, marked, one_left}
use Rattle.client_core.specs.Posting.{sent_at}
use Rattle.client_core.specs.Replies.{call_as, is_request}
use Rattle.client_core.specs.Session.{Session}
use Rattle.client_core.specs.Shown.{packet_of}
use Rattle.client_core.proofs.CallsLemmas.{length-at_first}
use Rattle.client_core.proofs.OutcomeLemmas.{active-found}
use Rattle.server_core.specs.Session.{Session as Serving}
use Rattle.session_ends.specs.declared.side.Side.{Side}
use Rattle.client_core.specs.Keeping.{LeavesEntry}
use Rattle.session_ends.specs.Effects.{SideFlushes, SideSends, SpellsIn}
use Rattle.session_ends.specs.declared.stage.Stage.{Stage}
use Rattle.session_ends.specs.declared.stage.Stage.TheVariants.{Connecting, Connected, Closing}
use Rattle.session_ends.specs.declared.stage.Stage.TheVariants.{Closed, Failed, Broken}
use Rattle.session_store.specs.Ends.{shown_end}
use Rattle.session_store.specs.Queue.{clients_sent, packet_in, peer_in}
use Rattle.session_store.specs.Sides.{HasSlots, IsOf, Kept, SideAscends, SideQueued, places_in}
use Rattle.session_store.specs.Sides.{served_places, shown_of, shown_side, side_handed}
use Rattle.session_ends.specs.Sides.{IsOfSide}
use Rattle.session_store.proofs.BesideLemmas.{rest-taken}
use Rattle.session_store.proofs.EndLemmas.{Steps, ask-end, same-owners, sends-one}
use Rattle.session_store.proofs.KeptLemmas.{ClientActs, client-kept, client-places, clients-set}
use Rattle.session_store.proofs.KeptLemmas.{handed-kept}
use Rattle.session_ends.proofs.ListLemmas.{set-own}
use Rattle.session_store.proofs.PostedLemmas.{spare-released}
use Rattle.session_store.proofs.StandLemmas.{OfSide, all-taken, of-side, stands-all}
use Rattle.session_store.proofs.StoreLemmas.{own-ask}

sent-long : (e : EntryValue) (now : ℕ) (s new : Session) → new ≡ sent_at e now s
    → length new.active ≡ length s.active
sent-long e now s new is =
    ap (λ (x : Session). length x.active) is ∙ length-at_first (is_owner s.number e.owner)
    (marked e.number now) s.active

flushed-long : (e : EntryValue) (s new : Session) → new ≡ flushed_at e s
    → length new.active ≡ length s.active
flushed-long e s new is =
    ap (λ (x : Session). length x.active) is ∙ length-at_first (is_owner s.number e.owner) one_left
    s.active

-- the first element that passes stands at this place
module _ {A B : Type 0} (f : A → B) (p : B → Bool) where
  pub find-map : (xs : List A) (i : ℕ) (x : A) → slice_get xs i ≡ Some x → p (f x) ≡ true
      → ((j : ℕ) (y : A) → slice_get xs j ≡ Some y → j ≢ i → p (f y) ≡ false)
      → find p (map f xs) ≡ Some (f x)
  find-map [] i x e t others = cc
  find-map (y ∷ ys) zero x e t others = let same : y ≡ x = cc in let here : p (f y) ≡ true = ap (λ z. p (f z)) same ∙ t in rw here (ap (λ z. Some (f z)) same)
  find-map (y ∷ ys) (suc i) x e t others =
      let no = others 0 y refl (λ z. absurd (omega (arith, z))) in
      rw no (find-map ys i x e t (λ j z at other. others (suc j) z at (λ s. other (omega (arith, s)))))

  pub first-map : (g : B → B) (xs : List A) (i : ℕ) (x : A) → slice_get xs i ≡ Some x
      → p (f x) ≡ true → ((j : ℕ) (y : A) → slice_get xs j ≡ Some y → j ≢ i → p (f y) ≡ false)
      → at_first p g (map f xs) ≡ slice_set (map f xs) i (g (f x))
  first-map g [] i x e t others = cc
  first-map g (y ∷ ys) zero x e t others = let same : y ≡ x = cc in let here : p (f y) ≡ true = ap (λ z. p (f z)) same ∙ t in rw here (ap (λ z. g (f z) ∷ map f ys) same)
  first-map g (y ∷ ys) (suc i) x e t others =
      let no = others 0 y refl (λ z. absurd (omega (arith, z))) in
      rw no (ap (λ zs. f y ∷ zs) (first-map g ys i x e t
      (λ j z at other. others (suc j) z at (λ s. other (omega (arith, s))))))

-- a client session by its number
pub side-way : (pool : Pool) (s : Side)
    → ((shown_side pool s).way.peer ≡ s.peer) × ((shown_side pool s).way.number ≡ s.session.number)
side-way pool s = cases s.stage
  where
    cases : (stage : Stage)
        → ((shown_end stage pool s.peer s.session).way.peer ≡ s.peer)
        × ((shown_end stage pool s.peer s.session).way.number ≡ s.session.number)
    cases (Connecting n t) = (refl, refl)
    cases Connected = (refl, refl)
    cases (Closing n t) = (refl, refl)
    cases Closed = (refl, refl)
    cases Failed = (refl, refl)
    cases Broken = (refl, refl)

module _ (pool : Pool) (sides : List Side)
    (numbered : (j : ℕ) → (s : Side) → slice_get sides j ≡ Some s → s.session.number ≡ j) (i : ℕ)
    (side : Side) (there : slice_get sides i ≡ Some side) where
  its-own : is_client i (shown_side pool side) ≡ true
  its-own = eq-eqb (shown_side pool side).way.number i ((side-way pool side).1 ∙ numbered i side there)

  not-its : (j : ℕ) (s : Side) → slice_get sides j ≡ Some s → j ≢ i
      → is_client i (shown_side pool s) ≡ false
  not-its j s at other =
      ne_eqb (shown_side pool s).way.number i
      (λ t. other (sym ((side-way pool s).1 ∙ numbered j s at) ∙ t))

  pub find-side : find (is_client i) (map (shown_side pool) sides) ≡ Some (shown_side pool side)
  find-side = find-map (shown_side pool) (is_client i) sides i side there its-own not-its

  pub first-side : (g : Client → Client)
      → at_first (is_client i) g (map (shown_side pool) sides)
      ≡ slice_set (map (shown_side pool) sides) i (g (shown_side pool side))
  first-side g = first-map (shown_side pool) (is_client i) g sides i side there its-own not-its

-- an entry of session i leaves the ring
module _ (pool after : Pool) (sides : List Side) (servers : List Serving) (tx : Ring EntryValue)
    (i r : ℕ) (e : EntryValue) (passes : EntryValue → Bool) (left : List EntryValue)
    (kept : Kept pool sides servers tx) (out : TakenOut passes e tx.items left)
    (own : e.owner ≡ Ask i r) where
  pub gone-held : IsHeld pool e.place
  gone-held = cases e.place refl
    where
      cases : (o : Option ℕ) → e.place ≡ o → IsHeld pool o
      cases None is = tt
      cases (Some p) is = omega (
        arith,
        kept.counted p,
        mentions-taken p passes e tx.items left out,
        mentions-own p e is,
      )

  gone-side : OfSide sides i e
  gone-side = of-side sides servers i r e own
      (all-taken (IsOf sides servers) passes e tx.items left out kept.stands).0

  pub gone-stands : IsOfSide e (slice_get sides i)
  gone-stands = subst (IsOfSide e) (sym gone-side.at) gone-side.is

  module _ (side : Side) (at : slice_get sides i ≡ Some side) (later : Session)
      (g : LeavesEntry e side.session later pool after) (number : later.number ≡ side.session.number)
      (long : length later.active ≡ length side.session.active)
      (up : SideAscends after (record side { session = later })) where
    abbrev changed : Side
    changed = record side { session = later }

    pub gone-of : IsOfSide e (Some side)
    gone-of = subst (IsOfSide e) at gone-stands

    pub gone-acts : ClientActs pool after sides servers i side changed tx (ring left tx.size)
    gone-acts =
        let fewer = taken-fewer passes e tx.items left out in
        record {
          acts = record {
            leaves = g.others gone-of.2;
            few = g.keeps_pool.apart;
            counts = g.counts passes tx.items left out kept.counted;
            beside = rest-taken (λ d. is_ask_of i d.owner) passes e tx.items left out (own-ask i r e.owner own);
            within = omega (arith, kept.within, fewer);
            size = refl;
          };
          keeps = g.keeps_pool;
          number = number;
          ascends = up;
          stands = stands-all sides servers i side changed at refl refl g.entries left
              (all-taken (IsOf sides servers) passes e tx.items left out kept.stands).1;
          queued = g.queued gone-of.2 passes tx.items left out
              (all-at (SideQueued tx.items) sides i side kept.queued at);
          slots = omega (arith, long, all-at HasSlots sides i side kept.slots at);
          spare = omega (arith, long, ap (λ (x : Pool). spare_of x) g.pool, spare-released pool e.place gone-held);
        }

-- it was sent
module _ (pool after : Pool) (sides now : List Side) (servers : List Serving) (tx : Ring EntryValue)
    (i r : ℕ) (e : EntryValue) (passes : EntryValue → Bool) (left : List EntryValue)
    (kept : Kept pool sides servers tx) (out : TakenOut passes e tx.items left)
    (own : e.owner ≡ Ask i r) (clock : ℕ) (h : SideSends e clock i sides now pool after) where
  sent-of : IsOfSide e (Some h.side)
  sent-of = subst (IsOfSide e) h.at (gone-stands pool after sides servers tx i r e passes left kept out own)

  sent-steps : Steps (sends clock r e.number) h.side.stage pool after h.side.peer h.side.session h.later
  sent-steps = sends-one h.side.stage pool after h.side.peer h.side.session h.later sent-of.1
      (all-at (SideAscends pool) sides i h.side kept.ascends h.at) clock e r
      (own ∙ ap (λ n. Ask n r) (sym (kept.numbered i h.side h.at))) (h.step.step h.side.peer)

  sent-acts : ClientActs pool after sides servers i h.side (record h.side { session = h.later }) tx
      (ring left tx.size)
  sent-acts = gone-acts pool after sides servers tx i r e passes left kept out own h.side h.at
      h.later h.step.leaves (ap (λ (x : Session). x.number) h.step.session)
      (sent-long e clock h.side.session h.later h.step.session) sent-steps.calls

  pub sent-kept : Kept after now servers (ring left tx.size)
  sent-kept = subst (λ xs. Kept after xs servers (ring left tx.size)) (sym h.changed)
      (client-kept pool after sides servers i h.side (record h.side { session = h.later }) tx
      (ring left tx.size) h.at kept sent-acts)

  pub sent-clients : map (shown_side after) now ≡ clients_sent clock (Ask i r) e.number (map (shown_side pool) sides)
  sent-clients =
      ap (map (shown_side after)) h.changed ∙ clients-set pool after sides servers i h.side
      (record h.side { session = h.later }) tx (ring left tx.size) h.at kept sent-acts
      ∙ ap (slice_set (map (shown_side pool) sides) i) sent-steps.view
      ∙ sym (first-side pool sides kept.numbered i h.side h.at (sends clock r e.number))

  pub sent-places : spare_of after + places_in now + served_places servers
      ≡ spare_of pool + places_in sides + served_places servers
  sent-places = ap (λ xs. spare_of after + places_in xs + served_places servers) h.changed
      ∙ client-places pool after sides servers i h.side (record h.side { session = h.later }) tx
      (ring left tx.size) h.at kept sent-acts

  pub sent-handed : map (side_handed after) now ≡ map (side_handed pool) sides
  sent-handed = ap (map (side_handed after)) h.changed
      ∙ handed-kept pool after sides servers i h.side (record h.side { session = h.later }) tx
      (ring left tx.size) h.at kept sent-acts h.step.leaves.handed

-- it was taken out unsent
module _ (pool after : Pool) (sides now : List Side) (servers : List Serving) (tx : Ring EntryValue)
    (i r : ℕ) (e : EntryValue) (passes : EntryValue → Bool) (left : List EntryValue)
    (kept : Kept pool sides servers tx) (out : TakenOut passes e tx.items left)
    (own : e.owner ≡ Ask i r) (h : SideFlushes e i sides now pool after) where
  flushed-of : IsOfSide e (Some h.side)
  flushed-of = subst (IsOfSide e) h.at (gone-stands pool after sides servers tx i r e passes left kept out own)

  flushed-view : shown_side after (record h.side { session = h.later }) ≡ shown_side pool h.side
  flushed-view = rw flushed-of.1 (h.step.same h.side.peer)

  flushed-acts : ClientActs pool after sides servers i h.side (record h.side { session = h.later })
      tx (ring left tx.size)
  flushed-acts = gone-acts pool after sides servers tx i r e passes left kept out own h.side h.at
      h.later h.step.leaves (ap (λ (x : Session). x.number) h.step.session)
      (flushed-long e h.side.session h.later h.step.session) (rw flushed-view (all-at (SideAscends pool) sides i h.side kept.ascends
      h.at))

  pub flushed-kept : Kept after now servers (ring left tx.size)
  flushed-kept = subst (λ xs. Kept after xs servers (ring left tx.size)) (sym h.changed)
      (client-kept pool after sides servers i h.side (record h.side { session = h.later }) tx
      (ring left tx.size) h.at kept flushed-acts)

  pub flushed-clients : map (shown_side after) now ≡ map (shown_side pool) sides
  flushed-clients =
      ap (map (shown_side after)) h.changed ∙ clients-set pool after sides servers i h.side
      (record h.side { session = h.later }) tx (ring left tx.size) h.at kept flushed-acts
      ∙ ap (slice_set (map (shown_side pool) sides) i) flushed-view
      ∙ set-own (map (shown_side pool) sides) i (shown_side pool h.side)
      (get-map (shown_side pool) sides i h.side h.at)

  pub flushed-places : spare_of after + places_in now + served_places servers
      ≡ spare_of pool + places_in sides + served_places servers
  flushed-places = ap (λ xs. spare_of after + places_in xs + served_places servers) h.changed
      ∙ client-places pool after sides servers i h.side (record h.side { session = h.later }) tx
      (ring left tx.size) h.at kept flushed-acts

  pub flushed-handed : map (side_handed after) now ≡ map (side_handed pool) sides
  flushed-handed = ap (map (side_handed after)) h.changed
      ∙ handed-kept pool after sides servers i h.side (record h.side { session = h.later }) tx
      (ring left tx.size) h.at kept flushed-acts h.step.leaves.handed

-- its packet is that of what is shown
packet-cases : (stage : Stage) (pool : Pool) (peer r : ℕ) (s : Session) (e : EntryValue)
    (o : Option ActiveCall) → stage ≡ Connected → e.owner ≡ Ask s.number r → e.peer ≡ peer
    → call_as r s ≡ o
    → IsPacketOf (call_of s e) e
    → packet_of pool s e ≡ ask_packet r e.number (Some (shown_end stage pool peer s))
packet-cases stage pool peer r s e None connected own to found h =
    let none : call_of s e ≡ None =
    ap (λ o. find (is_owner s.number o) s.active) own ∙ same-owners s.number r s.active
    ∙ found in
    absurd (subst (λ o. IsPacketOf o e) none h)
packet-cases stage pool peer r s e (Some c) connected own to found h =
    let request = eqb-true c.request r (find-passes (is_request r) s.active c found) in
    rw (
      ask-end stage pool peer r e.number s connected,
      active-found pool r s,
      found,
      own,
      to,
      same-owners s.number r s.active,
      found,
      request,
    ) refl

pub packet-shown : (pool : Pool) (side : Side) (r : ℕ) (e : EntryValue)
    → e.owner ≡ Ask side.session.number r → IsOfSide e (Some side)
    → packet_of pool side.session e ≡ ask_packet r e.number (Some (shown_side pool side))
packet-shown pool side r e own is =
    packet-cases side.stage pool side.peer r side.session e (call_as r side.session) is.1 own is.0
    refl is.2

-- the front of the ring
module _ (pool : Pool) (sides : List Side) (servers : List Serving) (tx : Ring EntryValue)
    (kept : Kept pool sides servers tx) (i r : ℕ) (e : EntryValue)
    (front : slice_get tx.items 0 ≡ Some e) (own : e.owner ≡ Ask i r) where
  front-side : OfSide sides i e
  front-side = of-side sides servers i r e own (all-at (IsOf sides servers) tx.items 0 e kept.stands front)

  pub front-stands : IsOfSide e (slice_get sides i)
  front-stands = subst (IsOfSide e) (sym front-side.at) front-side.is

  front-found : find (is_client i) (map (shown_side pool) sides) ≡ Some (shown_side pool front-side.side)
  front-found = find-side pool sides kept.numbered i front-side.side front-side.at

  pub front-peer : peer_in (shown_of pool sides servers tx) e.owner ≡ Some e.peer
  front-peer = rw (own, front-found) (ap Some ((side-way pool front-side.side).0 ∙ sym front-side.is.0))

  pub front-spells : (head body : List ℕ) → SpellsIn pool e head body (slice_get sides i)
      → IsSpelled (packet_in (shown_of pool sides servers tx) e.owner e.number) head body
  front-spells head body h =
      let here : IsSpelled (packet_of pool front-side.side.session e) head body =
      subst (SpellsIn pool e head body) front-side.at h in
      let number = kept.numbered i front-side.side front-side.at in
      let packet = packet-shown pool front-side.side r e (own ∙ ap (λ n. Ask n r) (sym number)) front-side.is in
      rw (own, front-found, ← packet) here
