-- What the postings and the beginnings of the sessions do to all that always holds of a store.
use Rattle.std.proofs.Common.{◌≡◌, ℕ, ◌+◌, ◌*◌, ◌%◌, ◌≤◌, ◌<◌, Bool, true, false, cond, eqb, Option}
use Rattle.std.proofs.Common.{Some, None, List, [], ◌∷◌, ◌++◌, length, get_or, refl, sym, ap, subst}
use Rattle.std.proofs.Common.{◌∙◌, arith}
use Rattle.std.specs.Prelude.{IfSome, map, count_by, option_and_then, option_map, slice_get}
use Rattle.std.specs.Prelude.{slice_set}
use Rattle.std.specs.List.{AllByRecursion, find}
use Rattle.std.proofs.lemmas.List.{length-append, length-map}
use Rattle.std.proofs.lemmas.List.Sums.{sum_by-cons}
use Rattle.std.proofs.lemmas.Bool.{and_parts, eq-eqb, eqb-true}
use Rattle.rpc_base.specs.declared.owner.Owner.{Owner}
use Rattle.rpc_base.specs.declared.owner.Owner.TheVariants.{Ask}
use Rattle.rpc_base.proofs.FirstLemmas.{all-push, counted-cons}
use Rattle.rpc_base.proofs.PlaceLemmas.{all-at, get-map}
use Rattle.buffer_pool.specs.Counting.{Counts}
use Rattle.buffer_pool.specs.Pool.{Pool, spare_of}
use Rattle.packet_rings.specs.Entries.{is_of, is_reply}
use Rattle.packet_rings.specs.Rings.{Ring, ring}
use Rattle.packet_rings.specs.Values.{EntryValue}
use Rattle.packet_rings.proofs.MentionsLemmas.{mentions-le-length}
use Rattle.node_laws.specs.QueuedPackets.{is_ask_of}
use Rattle.rpc_laws.specs.Posting.{beginning, if_connected, posting}
use Rattle.pacing_wheel.specs.Wheel.{Wheel}
use Rattle.rpc_laws.specs.Sessions.{begins, is_connected as takes_calls, posts}
use Rattle.rpc_laws.specs.declared.tables.Call.{Call}
use Rattle.rpc_laws.specs.declared.tables.Client.{Client}
use Rattle.client_core.specs.declared.call.ActiveCall.{ActiveCall}
use Rattle.client_core.specs.KeepsPool.{CanHold, KeepsPool}
use Rattle.client_core.specs.Posting.{IsPacketOf, call_of, entry_of, is_owner, next_call}
use Rattle.client_core.specs.Posting.{next_entry}
use Rattle.client_core.specs.Session.{Session, call_in, is_in_slot}
use Rattle.client_core.specs.Shown.{shown_active, shown_waiting}
use Rattle.server_core.specs.KeepsPool.{places as slot_places}
use Rattle.server_core.specs.Session.{Session as Serving}
use Rattle.server_core.specs.Shown.{shown as shown_server}
use Rattle.session_store.specs.Changes.{BeginsAt, MayPace, MayQueue, PostsAt}
use Rattle.session_ends.specs.declared.stage.Stage.TheVariants.{Connected}
use Rattle.session_ends.specs.declared.side.Side.{Side}
use Rattle.session_ends.specs.Effects.{SideBegins, SidePosts}
use Rattle.session_store.specs.Effects.{packet_of_entry, request_in}
use Rattle.session_store.specs.Joined.{is_paced as is_queued_paced, shown_with}
use Rattle.session_ends.specs.Stages.{is_connected}
use Rattle.session_store.specs.Sides.{HasPlaces, HasRoom, HasSlots, are_calls, has_calls, IsOf}
use Rattle.session_store.specs.Sides.{Kept, Shown, SideAscends, SideQueued, places_in}
use Rattle.session_store.specs.Sides.{served_places, shown_of, shown_side, side_handed}
use Rattle.session_ends.specs.Sides.{MayPost, SideKept}
use Rattle.session_ends.specs.Joined.{queued_of}
use Rattle.session_store.proofs.BesideLemmas.{rest-push}
use Rattle.session_store.proofs.EndLemmas.{Steps, ask-owner, begun-next, calls-end, next-owner}
use Rattle.session_store.proofs.EndLemmas.{none-posted, none-same, post-next, post-steps}
use Rattle.session_store.proofs.EndLemmas.{some-steps}
use Rattle.session_store.proofs.KeptLemmas.{ClientActs, client-kept, client-places, clients-set}
use Rattle.session_store.proofs.KeptLemmas.{handed-kept, servers-same}
use Rattle.session_ends.proofs.ListLemmas.{all-from, got-same, set-own}
use Rattle.session_store.proofs.PostedLemmas.{begun-length, begun-spare, free-slot, posted-free}
use Rattle.session_store.proofs.PostedLemmas.{posted-length, posted-number, posted-spare}
use Rattle.session_store.proofs.PostedLemmas.{slot-empty}
use Rattle.session_store.proofs.StageLemmas.{connected-stage}
use Rattle.session_store.proofs.StandLemmas.{of-side, owner-is, stands-all, stands-own}

-- an entry goes to its session's peer
peer-cases : (peer : ℕ) (s : Session) (e : EntryValue) (o : Option ActiveCall)
    → Some e ≡ option_map (entry_of s.number peer) o → e.peer ≡ peer
peer-cases peer s e None is = cc
peer-cases peer s e (Some c) is = let same : e ≡ entry_of s.number peer c = cc in ap (λ (x : EntryValue). x.peer) same

entry-peer : (peer : ℕ) (s : Session) (e : EntryValue) → Some e ≡ next_entry peer s → e.peer ≡ peer
entry-peer peer s e is = peer-cases peer s e (next_call s) is

-- room for one reference more to each place
pub can-hold : (pool : Pool) (entries : List EntryValue) (size : ℕ) (calls : List ActiveCall)
    → Counts pool entries → length entries ≤ size → size < 4294967295 → CanHold pool calls
can-hold pool entries size [] counted within few = tt
can-hold pool entries size (c ∷ cs) counted within few = (
  omega (arith, counted c.ask, mentions-le-length c.ask entries, within, few),
  can-hold pool entries size cs counted within few,
)

pub may-post : (pool : Pool) (sides : List Side) (servers : List Serving) (tx : Ring EntryValue)
    → Kept pool sides servers tx → AllByRecursion (MayPost pool) sides
may-post pool sides servers tx kept =
    all-from (MayPost pool) sides (λ j s e. (
      all-at (SideKept pool) sides j s kept.keeps e,
      can-hold pool tx.items tx.size s.session.active kept.counted kept.within kept.few,
    ))

pub own-ask : (i r : ℕ) (o : Owner) → o ≡ Ask i r → is_ask_of i o ≡ true
own-ask i r o own = rw own (eq-eqb i i refl)

-- session i posted an entry
module _ (pool after : Pool) (sides now : List Side) (servers : List Serving) (tx : Ring EntryValue)
    (i : ℕ) (e : EntryValue) (kept : Kept pool sides servers tx)
    (h : SidePosts i (Some e) sides now pool after) (connected : h.side.stage ≡ Connected) where
  abbrev own : KeepsPool pool h.side.session.active
  own = all-at (SideKept pool) sides i h.side kept.keeps h.at

  abbrev later : Side
  later = record h.side { session = h.later }

  asks : (t : ℕ) × (r : ℕ) × (e.owner ≡ Ask t r)
  asks = ask-owner h.side.peer h.side.session e h.step.entry

  steps : Steps (posts asks.1 e.number) h.side.stage pool after h.side.peer h.side.session h.later
  steps = post-steps h.side.stage pool after h.side.peer h.side.session h.later e asks.0 asks.1
      connected (all-at (SideAscends pool) sides i h.side kept.ascends h.at) h.step.entry asks.2
      h.step.step

  mine : e.owner ≡ Ask i asks.1
  mine = next-owner h.side.peer h.side.session e asks.0 asks.1 (next_call h.side.session)
      h.step.entry asks.2 ∙ ap (λ n. Ask n asks.1) (kept.numbered i h.side h.at)

  post-acts : length tx.items < tx.size
      → ClientActs pool after sides servers i h.side later tx (ring (tx.items ++ e ∷ []) tx.size)
  post-acts has-room =
      let same = posted-length pool after h.side.peer h.side.session h.later e own h.step.entry
      h.step.session h.step.pool in
      let spare = posted-spare pool after h.side.peer h.side.session h.later e own h.step.entry
      h.step.session h.step.pool in
      record {
        acts = record {
          leaves = h.step.others;
          few = h.step.keeps_pool.apart;
          counts = h.step.counts tx.items kept.counted;
          beside = rest-push (λ d. is_ask_of i d.owner) tx.items e (own-ask i asks.1 e.owner mine);
          within = omega (arith, has-room, length-append tx.items (e ∷ []));
          size = refl;
        };
        keeps = h.step.keeps_pool;
        number = posted-number pool after h.side.peer h.side.session h.later e own h.step.entry
            h.step.session h.step.pool;
        ascends = steps.calls;
        stands = all-push (IsOf (slice_set sides i later) servers) tx.items e
            (stands-all sides servers i h.side later h.at refl refl h.step.entries tx.items
            kept.stands)
            (stands-own sides servers i asks.1 h.side later e h.at mine
            (entry-peer h.side.peer h.side.session e h.step.entry, connected, h.step.stands));
        queued = h.step.queued tx.items (all-at (SideQueued tx.items) sides i h.side kept.queued h.at);
        slots = omega (arith, same, all-at HasSlots sides i h.side kept.slots h.at);
        spare = omega (arith, same, spare);
      }

  side-free : (shown_side pool h.side).free ≡ h.later.credits.free + 1
  side-free = rw connected (sym (posted-free pool after h.side.peer h.side.session h.later e own
      h.step.entry h.step.session h.step.pool))

  -- there is room for it, as it is seen
  pub room-there : (seen : Shown) → shown_of pool sides servers tx ≡ seen
      → IfSome (slice_get seen.clients i) (λ x. length seen.queued + x.free ≤ seen.size)
      → length tx.items < tx.size
  room-there seen view room =
      let here : IfSome (slice_get (map (shown_side pool) sides) i)
      (λ x. length (map queued_of tx.items) + x.free ≤ tx.size) = rw (← view) at room in
      let own : length (map queued_of tx.items) + (shown_side pool h.side).free ≤ tx.size =
      rw (get-map (shown_side pool) sides i h.side h.at) at here in
      omega (arith, own, side-free, length-map tx.items queued_of)

  -- so there is among those that are paced, of which there are n
  pub paced-there : (seen : Shown) → shown_of pool sides servers tx ≡ seen → (n : ℕ)
      → IfSome (slice_get seen.clients i) (λ x. 2 * (n + x.free) ≤ seen.size)
      → 2 * n + 2 ≤ tx.size
  paced-there seen view n room =
      let here : IfSome (slice_get (map (shown_side pool) sides) i)
      (λ x. 2 * (n + x.free) ≤ tx.size) = rw (← view) at room in
      let own : 2 * (n + (shown_side pool h.side).free) ≤ tx.size =
      rw (get-map (shown_side pool) sides i h.side h.at) at here in
      omega (arith, own, side-free)

  pub posted-call : is_reply e ≡ false
  posted-call = rw mine refl

  pub kept-posted : length tx.items < tx.size
      → Kept after now servers (ring (tx.items ++ e ∷ []) tx.size)
  kept-posted has-room =
      subst (λ xs. Kept after xs servers (ring (tx.items ++ e ∷ []) tx.size)) (sym h.changed)
      (client-kept pool after sides servers i h.side later tx (ring (tx.items ++ e ∷ []) tx.size)
      h.at kept (post-acts has-room))

  -- what is shown
  posted-pair : packet_of_entry e ≡ (asks.1, e.number)
  posted-pair = ap (λ o. (request_in o, e.number)) mine

  pub posted-clients : length tx.items < tx.size → PostsAt i (Some (packet_of_entry e))
      (map (shown_side pool) sides) (map (shown_side after) now)
  posted-clients has-room = rw posted-pair (record {
    client = shown_side pool h.side;
    place = get-map (shown_side pool) sides i h.side h.at;
    next = sym (post-next h.side.stage pool h.side.peer h.side.session e asks.0 asks.1 connected
        h.step.entry asks.2 h.step.turn);
    changed = ap (map (shown_side after)) h.changed
        ∙ clients-set pool after sides servers i h.side later tx (ring (tx.items ++ e ∷ []) tx.size)
        h.at kept (post-acts has-room) ∙ ap (slice_set (map (shown_side pool) sides) i) steps.view;
  })

  pub posted-sum : length tx.items < tx.size
      → spare_of after + places_in now + served_places servers
      ≡ spare_of pool + places_in sides + served_places servers
  posted-sum has-room =
      ap (λ xs. spare_of after + places_in xs + served_places servers) h.changed
      ∙ client-places pool after sides servers i h.side later tx (ring (tx.items ++ e ∷ []) tx.size)
      h.at kept (post-acts has-room)

  pub posted-handed : length tx.items < tx.size
      → map (side_handed after) now ≡ map (side_handed pool) sides
  posted-handed has-room = ap (map (side_handed after)) h.changed
      ∙ handed-kept pool after sides servers i h.side later tx (ring (tx.items ++ e ∷ []) tx.size)
      h.at kept (post-acts has-room) h.step.handed

-- session i had nothing to post
module _ (pool after : Pool) (sides now : List Side) (servers : List Serving) (tx : Ring EntryValue)
    (i : ℕ) (h : SidePosts i None sides now pool after) where
  unposted-sides : now ≡ sides
  unposted-sides =
      let same : h.later ≡ h.side.session = h.step.session ∙ none-same h.side.peer h.side.session h.step.entry in
      h.changed ∙ ap (λ (x : Session). slice_set sides i (record h.side { session = x })) same
      ∙ set-own sides i h.side h.at

  pub unposted-kept : Kept pool sides servers tx → Kept after now servers tx
  unposted-kept kept = rw (unposted-sides, h.step.pool) kept

  pub unposted-sum : spare_of after + places_in now + served_places servers
      ≡ spare_of pool + places_in sides + served_places servers
  unposted-sum = rw (unposted-sides, h.step.pool) refl

  pub unposted-handed : map (side_handed after) now ≡ map (side_handed pool) sides
  unposted-handed = rw (unposted-sides, h.step.pool) refl

  pub unposted-clients : h.side.stage ≡ Connected → PostsAt i None (map (shown_side pool) sides)
      (map (shown_side after) now)
  unposted-clients connected = (
    ap (λ (o : Option Client). option_and_then (if_connected posting) o)
        (get-map (shown_side pool) sides i h.side h.at)
        ∙ sym (none-posted h.side.stage pool h.side.peer h.side.session connected
        h.step.turn),
    rw (unposted-sides, h.step.pool) refl,
  )

-- a session that was looked at is the one there
pub connected-at : (sides : List Side) (i : ℕ) (x side : Side) → x ≡ get_or sides i x
    → slice_get sides i ≡ Some side → is_connected x.stage ≡ true → side.stage ≡ Connected
connected-at sides i x side looked there t =
    ap (λ (s : Side). s.stage) (sym (looked ∙ got-same sides i side x there))
    ∙ connected-stage x.stage t

-- what is known of a session where it is connected
module _ (pool : Pool) (sides : List Side) (servers : List Serving) (tx : Ring EntryValue)
    (paced : Wheel) (seen : Shown) (view : shown_with pool sides servers tx paced ≡ seen) (i : ℕ)
    (side : Side) (at : slice_get sides i ≡ Some side) (connected : side.stage ≡ Connected) where
  if-connected : (P : Client → Type 0)
      → IfSome (slice_get seen.clients i) (λ x. takes_calls x.state ≡ true → P x)
      → IfSome (slice_get seen.clients i) P
  if-connected P h =
      let e : slice_get seen.clients i ≡ Some (shown_side pool side) =
      ap (λ (v : Shown). slice_get v.clients i) (sym view)
      ∙ get-map (shown_side pool) sides i side at in
      rw e ((rw e at h) (rw connected refl))

  pub queue-room : MayQueue i seen
      → IfSome (slice_get seen.clients i) (λ x. length seen.queued + x.free ≤ seen.size)
  queue-room = if-connected (λ x. length seen.queued + x.free ≤ seen.size)

  pub pace-room : MayPace i seen → IfSome (slice_get seen.clients i)
      (λ x. 2 * (count_by is_queued_paced seen.queued + x.free) ≤ seen.size)
  pace-room = if-connected (λ x. 2 * (count_by is_queued_paced seen.queued + x.free) ≤ seen.size)

-- no entry is of a request that is to begin
module _ (s : Session) (i : ℕ) (empty : call_in i s.active ≡ None) where
  no-owner : (n r : ℕ) (d : Owner) → d ≡ Ask n r → r % 8 ≡ i → (cs : List ActiveCall)
      → find (is_in_slot i) cs ≡ None → find (is_owner n d) cs ≡ None
  no-owner n r d its slot [] none = refl
  no-owner n r d its slot (c ∷ cs) none =
      cases (is_owner n d c) (is_in_slot i c) refl refl none (no-owner n r d its slot cs)
    where
      slot-of : is_owner n d c ≡ true → is_in_slot i c ≡ true
      slot-of t =
          let same = rw its at t in
          let request : c.request ≡ r = eqb-true c.request r (and_parts (eqb n n) (eqb c.request r) same).1 in
          eq-eqb (c.request % 8) i (ap (λ x. x % 8) request ∙ slot)

      cases : (a b : Bool) → is_owner n d c ≡ a → is_in_slot i c ≡ b → cond b (Some c)
          (find (is_in_slot i) cs) ≡ None
          → (find (is_in_slot i) cs ≡ None → find (is_owner n d) cs ≡ None) → cond a (Some c)
          (find (is_owner n d) cs) ≡ None
      cases true true t u e ih = cc
      cases true false t u e ih = let yes = slot-of t in cc
      cases false true t u e ih = cc
      cases false false t u e ih = ih e

module _ (sides : List Side) (servers : List Serving) (i r : ℕ) (side : Side)
    (there : slice_get sides i ≡ Some side) (number : side.session.number ≡ i)
    (empty : call_in (r % 8) side.session.active ≡ None) where
  unbegun-one : (e : EntryValue) → IsOf sides servers e → is_of (Ask i r) e ≡ true → ⊥
  unbegun-one e h t =
      let own = owner-is e.owner i r t in
      let its = of-side sides servers i r e own h in
      let is-one : Some its.side ≡ Some side = sym its.at ∙ there in
      let one : its.side ≡ side = cc in
      let packet : IsPacketOf (call_of side.session e) e =
      subst (λ (s : Side). IsPacketOf (call_of s.session e) e) one its.is.2 in
      let none : call_of side.session e ≡ None =
      no-owner side.session (r % 8) empty side.session.number r e.owner
      (own ∙ ap (λ n. Ask n r) (sym number)) refl side.session.active empty in
      subst (λ o. IsPacketOf o e) none packet

  unbegun-cons : (e : EntryValue) (es : List EntryValue) (b : Bool) → is_of (Ask i r) e ≡ b
      → IsOf sides servers e → count_by (is_of (Ask i r)) es ≡ 0 → count_by (is_of (Ask i r))
      (e ∷ es) ≡ 0
  unbegun-cons e es true t h ih = absurd (unbegun-one e h t)
  unbegun-cons e es false t h ih = omega (arith, counted-cons (is_of (Ask i r)) e es false t, ih)

  pub unbegun-all : (es : List EntryValue) → AllByRecursion (IsOf sides servers) es
      → count_by (is_of (Ask i r)) es ≡ 0
  unbegun-all [] all = refl
  unbegun-all (e ∷ es) all = unbegun-cons e es (is_of (Ask i r) e) refl all.0 (unbegun-all es all.1)

-- a call of session i began
module _ (pool after : Pool) (sides now : List Side) (servers : List Serving) (tx : Ring EntryValue)
    (i : ℕ) (b : ℕ × ℕ) (kept : Kept pool sides servers tx)
    (h : SideBegins i (Some b) sides now pool after) (connected : h.side.stage ≡ Connected) where
  abbrev started_side : Side
  started_side = record h.side { session = h.later }

  begin-steps : Steps (begins b.0 b.1) h.side.stage pool after h.side.peer h.side.session h.later
  begin-steps = some-steps h.side.stage pool after h.side.peer h.side.session h.later connected
      (all-at (SideAscends pool) sides i h.side kept.ascends h.at)
      (Some b) h.step.step h.step.starts

  begin-acts : ClientActs pool after sides servers i h.side started_side tx tx
  begin-acts =
      let starts = h.step.starts in
      let same = begun-length pool after h.side.session h.later b starts in
      let spare = begun-spare pool after h.side.session h.later b starts in
      let number = kept.numbered i h.side h.at in
      let empty = slot-empty h.side.session (b.1 % 8) h.step.sound starts.begins.slot in
      let none = unbegun-all sides servers i b.1 h.side h.at number empty tx.items kept.stands in
      record {
        acts = record {
          leaves = h.step.others;
          few = h.step.keeps_pool.apart;
          counts = h.step.counts tx.items kept.counted;
          beside = refl;
          within =
              kept.within;
          size = refl;
        };
        keeps = h.step.keeps_pool;
        number = ap (λ (x : Session). x.number) starts.session;
        ascends = begin-steps.calls;
        stands = stands-all sides servers i h.side started_side h.at refl refl h.step.entries tx.items kept.stands;
        queued = h.step.queued tx.items (all-at (SideQueued tx.items) sides i h.side kept.queued
            h.at) (ap (λ n. count_by (is_of (Ask n b.1)) tx.items) number ∙ none);
        slots = omega (arith, same, free-slot h.side.session (b.1 % 8) h.step.sound starts.begins.slot);
        spare = omega (arith, same, spare);
      }

  kept-begun : Kept after now servers tx
  kept-begun = subst (λ xs. Kept after xs servers tx) (sym h.changed)
      (client-kept pool after sides servers i h.side started_side tx tx h.at kept begin-acts)

  begun-clients : BeginsAt i (Some b) (map (shown_side pool) sides) (map (shown_side after) now)
  begun-clients = (
    ap (λ (o : Option Client). option_and_then (if_connected beginning) o)
        (get-map (shown_side pool) sides i h.side h.at)
        ∙ sym (begun-next h.side.stage pool h.side.peer h.side.session (Some b) connected
        (h.step.turn h.side.peer)),
    record {
      client = shown_side pool h.side;
      place = get-map (shown_side pool) sides i h.side h.at;
      changed = ap (map (shown_side after)) h.changed
          ∙ clients-set pool after sides servers i h.side started_side tx tx h.at kept begin-acts
          ∙ ap (slice_set (map (shown_side pool) sides) i) begin-steps.view;
    },
  )

  begun-servers : map (shown_server after) servers ≡ map (shown_server pool) servers
  begun-servers = servers-same pool after sides servers i h.side started_side tx tx h.at kept begin-acts

  begun-size : spare_of after + places_in now + served_places servers
      ≡ spare_of pool + places_in sides + served_places servers
  begun-size = ap (λ xs. spare_of after + places_in xs + served_places servers) h.changed
      ∙ client-places pool after sides servers i h.side started_side tx tx h.at kept begin-acts

  begun-handed : map (side_handed after) now ≡ map (side_handed pool) sides
  begun-handed = ap (map (side_handed after)) h.changed
      ∙ handed-kept pool after sides servers i h.side started_side tx tx h.at kept begin-acts
      h.step.handed

module _ (pool after : Pool) (sides now : List Side) (servers : List Serving) (tx : Ring EntryValue)
    (i : ℕ) (h : SideBegins i None sides now pool after) where
  unbegun-sides : now ≡ sides
  unbegun-sides = h.changed ∙ ap (λ (x : Session). slice_set sides i
      (record h.side { session = x })) h.step.unchanged.0 ∙ set-own sides i h.side h.at

  unbegun-kept : Kept pool sides servers tx → Kept after now servers tx
  unbegun-kept kept = rw (unbegun-sides, h.step.unchanged.1) kept

  unbegun-clients : h.side.stage ≡ Connected → BeginsAt i None (map (shown_side pool) sides)
      (map (shown_side after) now)
  unbegun-clients connected = (
    ap (λ (o : Option Client). option_and_then (if_connected beginning) o)
        (get-map (shown_side pool) sides i h.side h.at)
        ∙ sym (begun-next h.side.stage pool h.side.peer h.side.session None connected
        (h.step.turn h.side.peer)),
    rw (unbegun-sides, h.step.unchanged.1) refl,
  )

-- session i began a call, if it could
module _ (pool after : Pool) (sides now : List Side) (servers : List Serving) (tx : Ring EntryValue)
    (i : ℕ) (kept : Kept pool sides servers tx) where
  pub kept-begin : (o : Option (ℕ × ℕ)) (h : SideBegins i o sides now pool after)
      → h.side.stage ≡ Connected → Kept after now servers tx
  kept-begin None h connected = unbegun-kept pool after sides now servers tx i h kept
  kept-begin (Some b) h connected = kept-begun pool after sides now servers tx i b kept h connected

  pub clients-begin : (o : Option (ℕ × ℕ)) (h : SideBegins i o sides now pool after)
      → h.side.stage ≡ Connected → BeginsAt i o (map (shown_side pool) sides)
      (map (shown_side after) now)
  clients-begin None h connected = unbegun-clients pool after sides now servers tx i h connected
  clients-begin (Some b) h connected = begun-clients pool after sides now servers tx i b kept h connected

  pub servers-begin : (o : Option (ℕ × ℕ)) (h : SideBegins i o sides now pool after)
      → h.side.stage ≡ Connected
      → map (shown_server after) servers ≡ map (shown_server pool) servers
  servers-begin None h connected = rw h.step.unchanged.1 refl
  servers-begin (Some b) h connected = begun-servers pool after sides now servers tx i b kept h connected

  pub size-begin : (o : Option (ℕ × ℕ)) (h : SideBegins i o sides now pool after)
      → h.side.stage ≡ Connected
      → spare_of after + places_in now + served_places servers
      ≡ spare_of pool + places_in sides + served_places servers
  size-begin None h connected = rw (unbegun-sides pool after sides now servers tx i h, h.step.unchanged.1) refl
  size-begin (Some b) h connected = begun-size pool after sides now servers tx i b kept h connected

  pub handed-begin : (o : Option (ℕ × ℕ)) (h : SideBegins i o sides now pool after)
      → h.side.stage ≡ Connected → map (side_handed after) now ≡ map (side_handed pool) sides
  handed-begin None h connected =
      rw (unbegun-sides pool after sides now servers tx i h, h.step.unchanged.1) refl
  handed-begin (Some b) h connected =
      begun-handed pool after sides now servers tx i b kept h connected

-- two places are spare for a call
active-most : (pool : Pool) (cs : List ActiveCall) (ws : List Call) → length cs ≤ 8
    → 2 * length cs ≤ 16 * cond (are_calls (map (shown_active pool) cs ++ ws)) 1 0
active-most pool [] ws few = omega arith
active-most pool (c ∷ cs) ws few = omega (arith, few)

side-most : (pool : Pool) (s : Side) → HasSlots s
    → 2 * length s.session.active ≤ 16 * cond (has_calls (shown_side pool s)) 1 0
side-most pool s few =
    rw (calls-end s.stage pool s.peer s.session)
    (active-most pool s.session.active (map shown_waiting s.session.slots.waiting) few)

places-most : (pool : Pool) (sides : List Side) → AllByRecursion HasSlots sides
    → places_in sides ≤ 16 * count_by has_calls (map (shown_side pool) sides)
places-most pool [] all = omega arith
places-most pool (s ∷ ss) all =
    let calls = counted-cons has_calls (shown_side pool s) (map (shown_side pool) ss)
    (has_calls (shown_side pool s)) refl in
    omega (
      arith,
      sum_by-cons (λ x. 2 * length x.session.active) s ss,
      side-most pool s all.0,
      calls,
      places-most pool ss all.1,
    )

served-most : (servers : List Serving) → AllByRecursion HasPlaces servers
    → served_places servers ≤ 16 * length servers
served-most [] all = omega arith
served-most (v ∷ vs) all = omega (arith, sum_by-cons (λ x. slot_places x.slots) v vs, all.0, served-most vs all.1)

pub two-spare : (pool : Pool) (sides : List Side) (servers : List Serving) (tx : Ring EntryValue)
    (seen : Shown) → Kept pool sides servers tx → shown_of pool sides servers tx ≡ seen
    → HasRoom seen → 2 ≤ spare_of pool
two-spare pool sides servers tx seen kept view room =
    let enough : 16 * (count_by has_calls (map (shown_side pool) sides)
    + length (map (shown_server pool) servers)) + 2 ≤ spare_of pool + places_in sides
    + served_places servers = rw (← view) at room in
    omega (
      arith,
      enough,
      length-map servers (shown_server pool),
      places-most pool sides kept.slots,
      served-most servers kept.served,
    )

pub ring-room : (pool : Pool) (sides : List Side) (servers : List Serving) (tx : Ring EntryValue)
    (seen : Shown) → shown_of pool sides servers tx ≡ seen → length seen.queued < seen.size
    → length tx.items < tx.size
ring-room pool sides servers tx seen view room =
    let here : length (map queued_of tx.items) < tx.size = rw (← view) at room in
    omega (arith, here, length-map tx.items queued_of)
