-- What a packet to a server session does to all that always holds of a store.
use Rattle.std.proofs.Common.{◌≡◌, ◌≢◌, ℕ, zero, suc, ◌+◌, ◌%◌, ◌≤◌, ◌<◌, Bool, true, false, not}
use Rattle.std.proofs.Common.{cond, eqb, Option, Some, None, List, [], ◌∷◌, ◌++◌, get_or, length}
use Rattle.std.proofs.Common.{length-append, refl, sym, ap, subst, ◌∙◌, arith}
use Rattle.std.specs.Prelude.{IfSome, count_by, map, option_map, slice_get, slice_set}
use Rattle.std.specs.List.{AllByRecursion, filter, find}
use Rattle.std.proofs.lemmas.Bool.{and_parts, eq-eqb, eqb-true}
use Rattle.std.proofs.lemmas.List.{append-nil, length-map}
use Rattle.std.proofs.lemmas.List.Sums.{count_by-le-length}
use Rattle.rpc_base.specs.Owners.{same_owner}
use Rattle.rpc_base.specs.declared.fact.Fact.{Fact}
use Rattle.rpc_base.specs.declared.fact.Who.TheVariants.{Node}
use Rattle.rpc_base.specs.declared.owner.Owner.{Owner}
use Rattle.rpc_base.specs.declared.owner.Owner.TheVariants.{Ask, Reply, Control}
use Rattle.rpc_base.specs.declared.state.DropReason.{DropReason}
use Rattle.rpc_base.specs.declared.state.DropReason.TheVariants.{NoMemory}
use Rattle.rpc_base.proofs.FirstLemmas.{all-push, found-holds}
use Rattle.buffer_pool.specs.Counting.{Counts}
use Rattle.buffer_pool.specs.Pool.{Pool, refs_of, spare_of}
use Rattle.packet_header.specs.declared.packet.MessageHeader.{MessageHeader}
use Rattle.packet_rings.specs.Entries.{is_not_of, is_of}
use Rattle.packet_rings.specs.Rings.{Ring, ring}
use Rattle.packet_rings.specs.Values.{EntryValue}
use Rattle.packet_rings.proofs.MentionsLemmas.{mentions-le-length}
use Rattle.rpc_laws.specs.Requests.{in_slot_of}
use Rattle.rpc_base.specs.declared.event.Event.TheVariants.{Flushed}
use Rattle.rpc_base.proofs.PlaceLemmas.{all-at, get-map, set-here}
use Rattle.rpc_laws.specs.Facts.{plain}
use Rattle.rpc_laws.specs.Queues.{numbers_of}
use Rattle.rpc_laws.specs.ServerTable.{flushes, served_facts, took_facts}
use Rattle.rpc_laws.specs.declared.tables.Served.{Served as ServedRequest}
use Rattle.rpc_laws.specs.declared.rows.ServerRow.{ServerRow}
use Rattle.rpc_laws.specs.declared.rows.ServerRow.TheVariants.{Drops, Begins, Takes, Repeats}
use Rattle.rpc_laws.specs.declared.tables.Queued.{Queued}
use Rattle.rpc_laws.specs.declared.tables.Server.{Server}
use Rattle.rpc_outside.specs.Recording.{Grew, Log}
use Rattle.rpc_outside.specs.declared.service.Mode.{Mode}
use Rattle.rpc_outside.specs.declared.service.Service as Service
use Rattle.rpc_outside.specs.declared.service.Mode.TheVariants.{Unserved}
use Rattle.client_core.proofs.ShownLemmas.{found-shown}
use Rattle.server_core.specs.declared.slot.SlotRequest.{SlotRequest}
use Rattle.server_core.specs.declared.slot.Stored.{Stored}
use Rattle.server_core.specs.declared.step.Step.{Step}
use Rattle.server_core.specs.declared.step.Step.TheVariants.{Took, Again, Ran, Give, Dropped}
use Rattle.server_core.specs.Flushing.{has_begun, is_reply_of, replies_of, without_replies}
use Rattle.server_core.specs.Handling.{Handles}
use Rattle.server_core.specs.Noting.{packet_facts}
use Rattle.server_core.specs.Replies.{CanHold}
use Rattle.server_core.specs.Rows.{row_of}
use Rattle.server_core.specs.Scene.{at_desk, incoming}
use Rattle.server_core.specs.Session.{IsSession, Session as Serving, answer_of, is_in_slot}
use Rattle.server_core.specs.Session.{newest, owner_of}
use Rattle.server_core.specs.Shown.{shown as shown_server, shown_request}
use Rattle.server_core.specs.Steps.{AreServed, IfReply, IsReply, IsStepOf, asked_with}
use Rattle.server_core.proofs.FlushLemmas.{ring-room}
use Rattle.server_core.proofs.SpareLemmas.{places-most}
use Rattle.session_ends.specs.declared.side.Side.{Side}
use Rattle.session_store.specs.Effects.{ServerStep}
use Rattle.session_store.specs.Joined.{put_ready}
use Rattle.session_ends.specs.Joined.{is_owned, queued_of}
use Rattle.session_store.specs.Serving.{AreServedAt, HandlesAt, IsReplyOf, handled_facts, in_store}
use Rattle.session_store.specs.Serving.{queue_handled, row_at, without_owned}
use Rattle.session_store.specs.Sides.{IsOf, Kept, ServerHolds, ServerQueued, Shown, places_in}
use Rattle.session_store.specs.Sides.{served_places, shown_of, shown_side, side_handed}
use Rattle.session_store.proofs.BesideLemmas.{rest, rest-push}
use Rattle.session_store.proofs.FinishLemmas.{new-stands, own-reply}
use Rattle.session_store.proofs.KeptLemmas.{ServerActs, clients-same, handed-same, server-acted}
use Rattle.session_store.proofs.KeptLemmas.{server-places, servers-set}
use Rattle.session_ends.proofs.ListLemmas.{all-from, get-there}
use Rattle.session_store.proofs.StandLemmas.{ends-all}
use Rattle.server_core.proofs.NoteLemmas.{way-of}

-- one reply more to each request can be counted
abbrev pub ServerCanHold : Pool → Serving → Type 0
ServerCanHold pool v = AllByRecursion (CanHold pool) v.slots

-- all requests of a session are of types that are served
abbrev pub ServerServed : (ℕ → Mode) → Serving → Type 0
ServerServed mode_of v = AreServed mode_of v.slots

can-slots : (pool : Pool) (entries : List EntryValue) (size n : ℕ) → Counts pool entries
    → length entries < size → size < 4294967295 → (qs : List SlotRequest)
    → AllByRecursion (λ q. q.queued ≡ count_by (is_of (owner_of n q)) entries) qs
    → AllByRecursion (CanHold pool) qs
can-slots pool entries size n counted room few [] all = tt
can-slots pool entries size n counted room few (q ∷ qs) all = (
  (
    refs (answer_of q.state),
    omega (
      arith,
      all.0,
      count_by-le-length (is_of (owner_of n q)) entries,
      room,
      few,
    ),
  ),
  can-slots pool entries size
      n counted room few qs all.1,
)
  where
    refs : (o : Option Stored) → IfSome o (λ a. refs_of pool a.place < 4294967295)
    refs None = tt
    refs (Some a) = omega (arith, counted a.place, mentions-le-length a.place entries, room, few)

pub may-hold : (pool : Pool) (sides : List Side) (servers : List Serving) (tx : Ring EntryValue)
    → Kept pool sides servers tx → length tx.items < tx.size
    → AllByRecursion (ServerCanHold pool) servers
may-hold pool sides servers tx kept room =
    all-from (ServerCanHold pool) servers (λ j v at. can-slots pool tx.items tx.size v.number
    kept.counted room kept.few v.slots (all-at (ServerQueued tx.items) servers j v kept.replies at))

newest-cases : (pool : Pool) (v : Serving) (r : ℕ) (o : Option SlotRequest) → newest r v ≡ o
    → ServerCanHold pool v → IfSome o (CanHold pool)
newest-cases pool v r None e all = tt
newest-cases pool v r (Some q) e all =
    found-holds (is_in_slot (r % 8)) (CanHold pool) v.slots q all e

pub newest-can : (pool : Pool) (v : Serving) (r : ℕ) → ServerCanHold pool v → IfSome (newest r v)
    (CanHold pool)
newest-can pool v r all = newest-cases pool v r (newest r v) refl all

-- a claim of the entries that a step puts behind the queue
pub for-replies : (claim : EntryValue → Type 0) (Q : List EntryValue → Type 0) → Q []
    → ((e : EntryValue) → claim e → Q (e ∷ [])) → (step : Step) → IfReply step claim
    → Q (replies_of step)
for-replies claim Q none one (Took None) h = absurd h
for-replies claim Q none one (Took (Some e)) h = one e h
for-replies claim Q none one (Again e) h = one e h
for-replies claim Q none one (Ran e) h = one e h
for-replies claim Q none one (Give parcel) h = none
for-replies claim Q none one (Dropped why) h = none

-- the entries beside a session's own, and what holds of all, once the replies to an older request
-- are out
of-owner-own : (n r : ℕ) (e : EntryValue) (b : Bool) → is_of (Reply n r) e ≡ b → b ≡ true
    → is_reply_of n e.owner ≡ true
of-owner-own n r e b t is = by e.owner (t ∙ is)
  where
    by : (o : Owner) → same_owner o (Reply n r) ≡ true → is_reply_of n o ≡ true
    by (Ask s q) h = cc
    by (Reply s q) h =
        let parts = and_parts (eqb s n) (eqb q r) h in eq-eqb n s (sym (eqb-true s n parts.0))
    by Control h = cc

module _ (n : ℕ) where
  abbrev own_entry : EntryValue → Bool
  own_entry e = is_reply_of n e.owner

  out-cons : (e : EntryValue) (xs ys : List EntryValue) (b : Bool) → (b ≡ true → own_entry e ≡ true)
      → rest own_entry xs ≡ rest own_entry ys
      → rest own_entry (cond (not b) (e ∷ xs) xs) ≡ rest own_entry (e ∷ ys)
  out-cons e xs ys true own ih = rw (own refl) ih
  out-cons e xs ys false own ih = ap (λ zs. cond (not (own_entry e)) (e ∷ zs) zs) ih

  rest-out : (r : ℕ) (es : List EntryValue)
      → rest own_entry (filter (is_not_of (Reply n r)) es) ≡ rest own_entry es
  rest-out r [] = refl
  rest-out r (e ∷ es) =
      out-cons e (filter (is_not_of (Reply n r)) es) es (is_of (Reply n r) e)
      (of-owner-own n r e (is_of (Reply n r) e) refl) (rest-out r es)

  pub rest-after : (o : Option SlotRequest) (es : List EntryValue) (b : Bool)
      → rest own_entry (cond b (without_replies n o es) es) ≡ rest own_entry es
  rest-after None es true = refl
  rest-after (Some q) es true = rest-out q.number es
  rest-after o es false = refl

module _ (P : EntryValue → Type 0) where
  filtered-cons : (e : EntryValue) (es : List EntryValue) (b : Bool) → P e → AllByRecursion P es
      → AllByRecursion P (cond b (e ∷ es) es)
  filtered-cons e es true one all = (one, all)
  filtered-cons e es false one all = all

  filtered : (p : EntryValue → Bool) (es : List EntryValue) → AllByRecursion P es
      → AllByRecursion P (filter p es)
  filtered p [] all = tt
  filtered p (e ∷ es) all = filtered-cons e (filter p es) (p e) all.0 (filtered p es all.1)

  pub all-after : (n : ℕ) (o : Option SlotRequest) (es : List EntryValue) (b : Bool)
      → AllByRecursion P es → AllByRecursion P (cond b (without_replies n o es) es)
  all-after n None es true all = all
  all-after n (Some q) es true all = filtered (is_not_of (owner_of n q)) es all
  all-after n o es false all = all

-- as the queue is seen
seen-cons : (o : Owner) (e : EntryValue) (xs : List EntryValue) (qs : List Queued) (b : Bool)
    → map queued_of xs ≡ qs → map queued_of (cond b (e ∷ xs) xs) ≡ cond b (queued_of e ∷ qs) qs
seen-cons o e xs qs true ih = ap (λ zs. queued_of e ∷ zs) ih
seen-cons o e xs qs false ih = ih

seen-out : (o : Owner) (es : List EntryValue)
    → map queued_of (filter (is_not_of o) es) ≡ filter (λ x. not (is_owned o x)) (map queued_of es)
seen-out o [] = refl
seen-out o (e ∷ es) =
    seen-cons o e (filter (is_not_of o) es) (filter (λ x. not (is_owned o x)) (map queued_of es))
    (not (is_of o e)) (seen-out o es)

pub seen-after : (pool : Pool) (n : ℕ) (o : Option SlotRequest) (es : List EntryValue) (b : Bool)
    → map queued_of (cond b (without_replies n o es) es)
    ≡ cond b (without_owned n (option_map (shown_request pool) o) (map queued_of es))
    (map queued_of es)
seen-after pool n None es true = refl
seen-after pool n (Some q) es true = seen-out (Reply n q.number) es
seen-after pool n o es false = refl

slots-same : (pool : Pool) (r : ℕ) (qs : List SlotRequest)
    → AllByRecursion (λ x. in_slot_of r (shown_request pool x) ≡ is_in_slot (r % 8) x) qs
slots-same pool r [] = tt
slots-same pool r (q ∷ qs) = (refl, slots-same pool r qs)

older-shown : (pool : Pool) (v : Serving) (r : ℕ) → find (in_slot_of r)
    (shown_server pool v).slots ≡ option_map (shown_request pool) (newest r v)
older-shown pool v r =
    found-shown (shown_request pool) (in_slot_of r)
    (is_in_slot (r % 8)) v.slots (slots-same pool r v.slots)

-- a packet that is dropped begins no request
pub begun-none : (row : ServerRow) (why : DropReason) → has_begun row (Dropped why) ≡ false
begun-none (Drops x) why = refl
begun-none Begins why = refl
begun-none Takes why = refl
begun-none Repeats why = refl

-- the facts of the packet at a node
module _ (me : ℕ) (mode : Mode) (v : Serving) (entries : List EntryValue) (row : ServerRow)
    (h : MessageHeader) (body ask answer : List ℕ) (server : Server) where
  abbrev ruled : List Fact
  ruled = served_facts mode me answer (map queued_of entries) (Some server) h body row

  pub facts-same : (step : Step)
      → (step ≢ Dropped NoMemory → packet_facts (Node me) v entries row h ask answer step ≡ ruled)
      → packet_facts (Node me) v entries row h ask answer step ≡ handled_facts me ruled step
  facts-same (Took reply) rule = rule (λ e. cc)
  facts-same (Again reply) rule = rule (λ e. cc)
  facts-same (Ran reply) rule = rule (λ e. cc)
  facts-same (Give parcel) rule = rule (λ e. cc)
  facts-same (Dropped NoMemory) rule = rw (begun-none row NoMemory) refl
  facts-same (Dropped why) rule = rule (λ e. cc)

-- the facts of the server rule look only at the numbers of the replies that are queued
flushes-same : (me t : ℕ) (qs rs : List Queued)
    → ((r : ℕ) → numbers_of (Reply t r) qs ≡ numbers_of (Reply t r) rs)
    → (o : Option ServedRequest) → flushes me qs t o ≡ flushes me rs t o
flushes-same me t qs rs same None = refl
flushes-same me t qs rs same (Some q) =
    ap (map (λ k. plain me (Flushed (Reply t q.number) k))) (same q.number)

pub served-same : (mode : Mode) (me : ℕ) (answer : List ℕ) (qs rs : List Queued) (v : Server)
    (h : MessageHeader) (body : List ℕ)
    → ((r : ℕ) → numbers_of (Reply v.way.number r) qs ≡ numbers_of (Reply v.way.number r) rs)
    → (row : ServerRow) → served_facts mode me answer qs (Some v) h body row
    ≡ served_facts mode me answer rs (Some v) h body row
served-same mode me answer qs rs v h body same (Drops why) = refl
served-same mode me answer qs rs v h body same Begins =
    ap (λ fs. fs ++ took_facts mode me answer h body)
    (flushes-same me v.way.number qs rs same (find (in_slot_of h.request) v.slots))
served-same mode me answer qs rs v h body same Takes = refl
served-same mode me answer qs rs v h body same Repeats = refl

-- requests of types that are served, as they are shown
pub served-seen : (pool : Pool) (mode_of : ℕ → Mode) (qs : List SlotRequest)
    → AllByRecursion (λ q. mode_of q.req_type ≢ Unserved) (map (shown_request pool) qs)
    → AreServed mode_of qs
served-seen pool mode_of [] all = tt
served-seen pool mode_of (q ∷ qs) all = (all.0, served-seen pool mode_of qs all.1)

pub seen-served : (pool : Pool) (mode_of : ℕ → Mode) (qs : List SlotRequest) → AreServed mode_of qs
    → AllByRecursion (λ q. mode_of q.req_type ≢ Unserved) (map (shown_request pool) qs)
seen-served pool mode_of [] all = tt
seen-served pool mode_of (q ∷ qs) all = (all.0, seen-served pool mode_of qs all.1)

-- what stands at its place then
pub later-is : {Made : Serving → Serving → Type 0} {i : ℕ} {servers now : List Serving}
    (g : ServerStep i Made servers now) → slice_get now i ≡ Some g.later
later-is {i = i} {servers = servers} g =
    ap (λ vs. slice_get vs i) g.changed ∙ set-here servers i g.server g.later g.at

-- server session i, as it is looked at
module _ (pool : Pool) (servers : List Serving) (i : ℕ) where
  pub there-server : {seen : List Server} (x : Serving) → map (shown_server pool) servers ≡ seen
      → i < length seen → x ≡ get_or servers i x → slice_get servers i ≡ Some x
  there-server {seen} x is known looked =
      get-there servers i x
      (omega (arith, known, ap length is, length-map servers (shown_server pool))) looked

  pub served-at : (mode_of : ℕ → Mode) → AreServedAt mode_of i (map (shown_server pool) servers)
      → IfSome (slice_get servers i) (ServerServed mode_of)
  served-at mode_of all = cases (slice_get servers i) refl
    where
      cases : (o : Option Serving) → slice_get servers i ≡ o → IfSome o (ServerServed mode_of)
      cases None e = tt
      cases (Some v) e =
          let here : AllByRecursion (λ q. mode_of q.req_type ≢ Unserved)
          (map (shown_request pool) v.slots) =
          rw (get-map (shown_server pool) servers i v e) at all in
          served-seen pool mode_of v.slots here

  none-map : slice_get servers i ≡ None → slice_get (map (shown_server pool) servers) i ≡ None
  none-map e = by servers i e
    where
      by : (vs : List Serving) (j : ℕ) → slice_get vs j ≡ None
          → slice_get (map (shown_server pool) vs) j ≡ None
      by [] j e = refl
      by (v ∷ vs) zero e = cc
      by (v ∷ vs) (suc j) e = by vs j e

  pub at-served : (mode_of : ℕ → Mode) → IfSome (slice_get servers i) (ServerServed mode_of)
      → AreServedAt mode_of i (map (shown_server pool) servers)
  at-served mode_of all = cases (slice_get servers i) refl
    where
      cases : (o : Option Serving) → slice_get servers i ≡ o
          → AreServedAt mode_of i (map (shown_server pool) servers)
      cases None e = rw (none-map e) tt
      cases (Some v) e =
          let here : ServerServed mode_of v = rw e at all in
          rw (get-map (shown_server pool) servers i v e) (seen-served pool mode_of v.slots here)

-- server session i handled a packet
module _ {V R : Type 0} {v : Service.Ghosts V} {log : R → Log} {jobs_full : Bool} {me i : ℕ}
    {h : MessageHeader} {body : List ℕ} {step : Step} {old new : Ring EntryValue}
    {pool after : Pool} {serving then_serving : V} {rec then_rec : R} {sides : List Side}
    {servers now : List Serving} (kept : Kept pool sides servers old)
    (has-room : length old.items < old.size)
    (g : ServerStep i (λ x w. Handles v log packet_facts (Node me) (incoming h body jobs_full)
    step (at_desk x pool old serving rec) (at_desk w after new then_serving then_rec)) servers now)
    (sound : IsSession g.later) where
  abbrev mode : Mode
  mode = v.mode_of h.req_type

  abbrev row : ServerRow
  row = row_of mode jobs_full h g.server

  abbrev begins : Bool
  begins = has_begun row step

  abbrev older : Option SlotRequest
  older = newest h.request g.server

  abbrev final : Ring EntryValue
  final = ring (new.items ++ replies_of step) new.size

  same-way : (shown_server after g.later).way ≡ (shown_server pool g.server).way
  same-way = way-of h body (shown_server pool g.server)
      (shown_server after g.later) step g.step.leaves.handled.answer g.step.leaves.handled.steps

  same-number : g.later.number ≡ g.server.number
  same-number = ap (λ w. w.number) same-way

  same-peer : g.later.peer ≡ g.server.peer
  same-peer = ap (λ w. w.peer) same-way

  pub items-are : new.items
      ≡ cond begins (without_replies g.server.number older old.items) old.items
  items-are = ap (λ (r : Ring EntryValue). r.items) g.step.ring_is

  size-is : new.size ≡ old.size
  size-is = ap (λ (r : Ring EntryValue). r.size) g.step.ring_is

  pub new-room : length new.items < new.size
  new-room = ring-room row step g.server.number older old new g.step.ring_is has-room

  one-most : length (replies_of step) ≤ 1
  one-most = for-replies (IsReply h.request h.number g.later after) (λ rs. length rs ≤ 1)
      (omega arith) (λ e is. omega arith) step g.step.leaves.reply

  beside-then : rest (own_entry g.server.number) (new.items ++ replies_of step)
      ≡ rest (own_entry g.server.number) old.items
  beside-then =
      for-replies (IsReply h.request h.number g.later after)
      (λ rs. rest (own_entry g.server.number) (new.items ++ rs)
      ≡ rest (own_entry g.server.number) new.items)
      (ap (λ xs. rest (own_entry g.server.number) xs) (append-nil new.items))
      (λ e is. rest-push (own_entry g.server.number) new.items e
      (own-reply g.server.number h.request e.owner
      (is.owner ∙ ap (λ n. Reply n h.request) same-number)))
      step g.step.leaves.reply
      ∙ ap (λ xs. rest (own_entry g.server.number) xs) items-are
      ∙ rest-after g.server.number older old.items begins

  stands-then : AllByRecursion (IsOf sides (slice_set servers i g.later))
      (new.items ++ replies_of step)
  stands-then =
      let was = ends-all sides servers i g.server g.later g.at same-number same-peer old.items
      kept.stands in
      let left : AllByRecursion (IsOf sides (slice_set servers i g.later)) new.items =
      subst (λ xs. AllByRecursion (IsOf sides (slice_set servers i g.later)) xs)
      (sym items-are) (all-after (IsOf sides (slice_set servers i g.later)) g.server.number
      older old.items begins was) in
      for-replies (IsReply h.request h.number g.later after)
      (λ rs. AllByRecursion (IsOf sides (slice_set servers i g.later)) (new.items ++ rs))
      (subst (λ xs. AllByRecursion (IsOf sides (slice_set servers i g.later)) xs)
      (sym (append-nil new.items)) left)
      (λ e is. all-push (IsOf sides (slice_set servers i g.later)) new.items e left
      (new-stands sides servers i h.request g.server g.later e g.at is.owner is.peer))
      step g.step.leaves.reply

  serve-acts : ServerActs pool after sides servers i g.server g.later old final
  serve-acts =
      let holds = all-at (ServerHolds pool old.items) servers i g.server kept.holds g.at in
      record {
        acts = record {
          leaves = g.step.leaves.places.others;
          few = g.step.leaves.places.keeps_pool.apart;
          counts = λ p. omega (arith, g.step.replies.counts p, kept.counted p);
          beside = beside-then;
          within = omega (arith, new-room, one-most, length-append new.items (replies_of step));
          size = size-is;
        };
        keeps = g.step.leaves.places.keeps_pool;
        number = same-number;
        stands = stands-then;
        holds = g.step.replies.holds holds;
        queued = g.step.replies.queued holds
            (all-at (ServerQueued old.items) servers i g.server kept.replies g.at);
        served = places-most g.later sound;
        spare = g.step.leaves.places.spare;
      }

  pub serve-kept : Kept after sides now final
  serve-kept = subst (λ vs. Kept after sides vs final) (sym g.changed)
      (server-acted pool after sides servers i g.server g.later old final g.at kept serve-acts)

  pub serve-clients : map (shown_side after) sides ≡ map (shown_side pool) sides
  serve-clients =
      clients-same pool after sides servers i g.server g.later old final g.at kept serve-acts

  pub serve-handed : map (side_handed after) sides ≡ map (side_handed pool) sides
  serve-handed =
      handed-same pool after sides servers i g.server g.later old final g.at kept serve-acts

  pub serve-places : spare_of after + places_in sides + served_places now
      ≡ spare_of pool + places_in sides + served_places servers
  serve-places = ap (λ vs. spare_of after + places_in sides + served_places vs) g.changed
      ∙ server-places pool after sides servers i g.server g.later old final g.at kept serve-acts

  abbrev server_seen : Server
  server_seen = shown_server pool g.server

  row-seen : row ≡ row_at mode jobs_full false h server_seen
  row-seen = sym g.step.rule

  -- any queue is as the definitions have it, where the older request's replies left it and the
  -- reply was put in
  pub queue-by : (queued now_queued : List Queued)
      → now_queued ≡ put_ready (replies_of step) (cond begins (without_owned g.server.number
      (option_map (shown_request pool) older) queued) queued)
      → now_queued
      ≡ queue_handled (row_at mode jobs_full false h server_seen) step server_seen h queued
  queue-by queued now_queued is =
      is ∙ ap (λ o. put_ready (replies_of step) (cond begins
      (without_owned g.server.number o queued) queued)) (sym (older-shown pool g.server h.request))
      ∙ ap (λ r. queue_handled r step server_seen h queued) row-seen

  own-of : (e : EntryValue) → IsReply h.request h.number g.later after e
      → IsReplyOf g.server.number h e
  own-of e is = (is.owner ∙ ap (λ n. Reply n h.request) same-number, is.number)

  reply-own : (t : Step) → IfReply t (IsReply h.request h.number g.later after)
      → IfReply t (IsReplyOf g.server.number h)
  reply-own (Took None) is = absurd is
  reply-own (Took (Some e)) is = own-of e is
  reply-own (Again e) is = own-of e is
  reply-own (Ran e) is = own-of e is
  reply-own (Give parcel) is = tt
  reply-own (Dropped why) is = tt

  pub serve-at : (session : h.session ≡ g.server.number) (before then : Shown)
      (queued now_queued : List Queued)
      → record (shown_of pool sides servers old) { queued = queued } ≡ before
      → record (shown_of after sides now new) { queued = now_queued } ≡ then
      → ((r : ℕ) → numbers_of (Reply g.server.number r) (map queued_of old.items)
      ≡ numbers_of (Reply g.server.number r) before.queued)
      → then.queued ≡ queue_handled (row_at mode jobs_full false h server_seen) step server_seen h
      before.queued → HandlesAt v log me i (incoming h body jobs_full) step
      (in_store before serving rec) (in_store then then_serving then_rec)
  serve-at session before then queued now_queued was is numbers queue =
      let view : map (shown_server pool) servers ≡ before.servers =
      ap (λ (x : Shown). x.servers) was in
      let later-view : map (shown_server after) now ≡ then.servers =
      ap (λ (x : Shown). x.servers) is in
      let done = g.step.leaves.handled in
      let ruled = facts-same me mode g.server old.items row h body (asked_with h body server_seen)
      done.answer server_seen step (g.step.facts session me done.answer) in
      let noted = ruled ∙ ap (λ r. handled_facts me
      (served_facts mode me done.answer (map queued_of old.items)
      (Some server_seen) h body r) step) row-seen
      ∙ ap (λ fs. handled_facts me fs step) (served-same mode me done.answer
      (map queued_of old.items) before.queued server_seen h body numbers
      (row_at mode jobs_full false h server_seen)) in
      record {
        server = server_seen;
        place = subst (λ vs. slice_get vs i ≡ Some server_seen) view
            (get-map (shown_server pool) servers i g.server g.at);
        row = subst (λ r. IsStepOf mode h r step) row-seen g.step.row;
        lacks = g.step.lacks;
        later = shown_server after g.later;
        handled = record {
          answer = done.answer;
          steps = done.steps;
          by_service = done.by_service;
          grew = subst (λ fs. Grew (log rec) (log then_rec) fs) noted done.grew;
        };
        reply = reply-own step g.step.leaves.reply;
        give = g.step.leaves.give;
        short = g.step.short;
        changed = sym later-view ∙ ap (map (shown_server after)) g.changed
            ∙ servers-set pool after sides servers i g.server g.later old final g.at kept
            serve-acts ∙ ap (λ vs. slice_set vs i (shown_server after g.later)) view;
        queue = queue;
        all_served = subst (λ vs. AreServedAt v.mode_of i vs) later-view
            (at-served after now i v.mode_of (rw (later-is g) g.step.leaves.all_served));
        service = g.step.leaves.service;
        clients = sym (ap (λ (x : Shown). x.clients) is) ∙ serve-clients
            ∙ ap (λ (x : Shown). x.clients) was;
        size = sym (ap (λ (x : Shown). x.size) is) ∙ size-is ∙ ap (λ (x : Shown). x.size) was;
        handed = sym (ap (λ (x : Shown). x.handed) is) ∙ serve-handed
            ∙ ap (λ (x : Shown). x.handed) was;
        places = sym (ap (λ (x : Shown). x.places) is) ∙ serve-places
            ∙ ap (λ (x : Shown). x.places) was;
      }

  pub final-none : replies_of step ≡ [] → final ≡ new
  final-none e =
      ap (λ rs. ring (new.items ++ rs) new.size) e
      ∙ ap (λ xs. ring xs new.size) (append-nil new.items)

  pub final-one : (e : EntryValue) → replies_of step ≡ e ∷ []
      → final ≡ ring (new.items ++ e ∷ []) new.size
  final-one e is = ap (λ rs. ring (new.items ++ rs) new.size) is

pub seen-own : (pool : Pool) (sides : List Side) (servers : List Serving) (tx : Ring EntryValue)
    (seen : Shown) (i n : ℕ) (v : Serving) → shown_of pool sides servers tx ≡ seen
    → IfSome (slice_get seen.servers i) (λ x. n ≡ x.way.number) → slice_get servers i ≡ Some v
    → n ≡ v.number
seen-own pool sides servers tx seen i n v view session at =
    let here : IfSome (slice_get (map (shown_server pool) servers) i) (λ x. n ≡ x.way.number) =
    rw (← view) at session in
    rw (get-map (shown_server pool) servers i v at) at here
