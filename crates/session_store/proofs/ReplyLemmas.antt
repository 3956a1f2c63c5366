-- What a reply to a call does to all that always holds of a store.
use Rattle.std.proofs.Common.{◌≡◌, ℕ, ◌+◌, ◌*◌, ◌≤◌, Bool, true, false, not, cond, eqb, Option}
use Rattle.std.proofs.Common.{Some, None, List, length, refl, sym, ap, subst, ◌∙◌, arith}
use Rattle.std.specs.Prelude.{IfSome, map, slice_get, slice_set, sum_by}
use Rattle.std.specs.List.{AllByRecursion, find, list_any}
use Rattle.std.proofs.lemmas.Bool.{eq-eqb, eqb-true, ne_eqb}
use Rattle.rpc_base.specs.declared.owner.Owner.TheVariants.{Ask}
use Rattle.rpc_base.specs.declared.state.DropReason.{DropReason}
use Rattle.rpc_base.specs.declared.state.DropReason.TheVariants.{NoSession, WrongPeer, Past, Ahead}
use Rattle.rpc_base.specs.declared.state.DropReason.TheVariants.{Mismatch, Queued as StillQueued}
use Rattle.rpc_base.proofs.ChangedLemmas.{length-without}
use Rattle.rpc_base.proofs.FirstLemmas.{found-holds}
use Rattle.rpc_base.proofs.TakingLemmas.{find-passes}
use Rattle.rpc_base.proofs.PlaceLemmas.{all-at, get-map}
use Rattle.buffer_pool.specs.Pool.{Pool, IsFull, buf_at, emptied, spare_of}
use Rattle.buffer_pool.specs.Uses.{is_empty, is_full}
use Rattle.buffer_pool.specs.declared.usage.Use.{Use}
use Rattle.buffer_pool.specs.declared.usage.Use.TheVariants.{Empty}
use Rattle.buffer_pool.proofs.CountLemmas.{spare_emptied}
use Rattle.buffer_pool.proofs.PoolLemmas.{changed_other}
use Rattle.message_buffer.specs.Buffer.{Buffer}
use Rattle.node_laws.specs.Windows.{Windows}
use Rattle.packet_header.specs.declared.packet.MessageHeader.{MessageHeader}
use Rattle.packet_rings.specs.Entries.{is_entry, is_of}
use Rattle.packet_rings.specs.Rings.{Ring}
use Rattle.packet_rings.specs.Values.{EntryValue}
use Rattle.rpc_laws.specs.Calls.{is_response}
use Rattle.rpc_laws.specs.ClientTable.{client_row}
use Rattle.rpc_laws.specs.Queues.{is_queued}
use Rattle.rpc_laws.specs.declared.rows.ClientRow.TheVariants.{Drops, Takes}
use Rattle.rpc_laws.specs.declared.tables.Queued.{Queued}
use Rattle.client_core.specs.declared.call.ActiveCall.{ActiveCall}
use Rattle.client_core.specs.declared.outcome.Reply.{Reply}
use Rattle.client_core.specs.declared.outcome.Reply.TheVariants.{Took, Ended, Dropped}
use Rattle.client_core.specs.KeepsEntries.{RepliesKeep}
use Rattle.client_core.specs.KeepsPool.{IsKept, KeepsPool}
use Rattle.client_core.specs.Replies.{NextIsUnheld, Replies, answered, call_as, is_request, replied}
use Rattle.client_core.specs.Replies.{reply_row, rewritten_at, row_told, with_part, without_buffers}
use Rattle.client_core.specs.Replies.{without_call}
use Rattle.client_core.specs.Session.{Session}
use Rattle.client_core.proofs.CallsLemmas.{length-at_first}
use Rattle.client_core.proofs.PlacesLemmas.{two-places}
use Rattle.server_core.specs.Session.{Session as Serving}
use Rattle.server_core.specs.Shown.{shown as shown_server}
use Rattle.session_ends.specs.declared.side.Side.{Side}
use Rattle.client_core.specs.Effects.{RepliesTo}
use Rattle.session_ends.specs.Effects.{SideChanges}
use Rattle.session_store.specs.Hearing.{RepliesAt}
use Rattle.session_ends.specs.Stages.{is_connected}
use Rattle.session_ends.specs.declared.stage.Stage.TheVariants.{Connected}
use Rattle.session_store.specs.Sides.{HasSlots, IsOf, Kept, Shown, SideAscends, SideQueued}
use Rattle.session_store.specs.Sides.{places_in, served_places, shown_of, shown_side, side_handed}
use Rattle.session_ends.specs.Sides.{SideKept}
use Rattle.session_ends.specs.Joined.{queued_of}
use Rattle.client_core.specs.Handing.{HandsBack, HandsBackBy}
use Rattle.session_store.specs.Handing.{HandsBackIf, ended_by}
use Rattle.session_store.proofs.EndLemmas.{Replied, facts-end, reply-steps}
use Rattle.session_store.proofs.KeptLemmas.{ClientActs, client-kept, client-places, clients-set}
use Rattle.session_store.proofs.KeptLemmas.{handed-kept, handed-set, servers-same}
use Rattle.session_ends.proofs.ListLemmas.{set-own}
use Rattle.session_store.proofs.StageLemmas.{stage-state}
use Rattle.session_store.proofs.StandLemmas.{stands-all, stands-but}
use Rattle.session_store.proofs.UnheldLemmas.{entry-queued, next-unheld, none-queued}

-- a session that has as many places as its calls want
pub record Spends (pool after : Pool) (old new : Session) : Type 0 where
  pub number : new.number ≡ old.number
  pub fewer : length new.active ≤ length old.active
  pub spare : spare_of after + 2 * length new.active ≡ spare_of pool + 2 * length old.active

uses-cases : (c : ActiveCall) (h : MessageHeader) (body : List ℕ) (pool : Pool) (k : Bool)
    (o : Option Buffer)
    → (cond k (rewritten_at c.answer (with_part c h body) o pool) pool).uses ≡ pool.uses
uses-cases c h body pool true None = refl
uses-cases c h body pool true (Some b) = refl
uses-cases c h body pool false o = refl

answered-uses : (c : ActiveCall) (h : MessageHeader) (body : List ℕ) (pool : Pool)
    → (answered c h body pool).uses ≡ pool.uses
answered-uses c h body pool = uses-cases c h body pool (is_response h.kind) (buf_at pool c.answer)

-- a call that is over gives its two places back
pub ended-spends : (pool after : Pool) (old new : Session) (by : ActiveCall → Bool) (c : ActiveCall)
    → KeepsPool pool old.active → find by old.active ≡ Some c
    → find (is_request c.request) old.active ≡ Some c → new ≡ without_call c old
    → after ≡ without_buffers c pool → Spends pool after old new
ended-spends pool after old new by c keeps found same session effect =
    let own = found-holds by (IsKept pool) old.active c keeps.kept found in
    let apart = two-places by c old.active found (keeps.apart c.ask) in
    let full : IsFull (emptied c.ask pool) c.answer =
    ap is_full (changed_other pool.uses c.ask c.answer Empty Empty (λ t. apart (sym t)))
    ∙ own.answer in
    let less = length-without (is_request c.request) c old.active same in
    let long = ap (λ (x : Session). length x.active) session in
    record {
      number = ap (λ (x : Session). x.number) session;
      fewer = omega (arith, long, less);
      spare = omega (
        arith,
        long,
        less,
        ap (λ (x : Pool). spare_of x) effect,
        spare_emptied (emptied c.ask pool) c.answer full,
        spare_emptied pool c.ask own.ask,
      );
    }

module _ (pool after : Pool) (old new : Session) (clock : ℕ) (h : MessageHeader) (body : List ℕ)
    (keeps : KeepsPool pool old.active) where
  replies-spend : (r : Reply) → Replies r clock h body old new pool after
      → Spends pool after old new
  replies-spend Took g =
      let c = g.0 in
      let long = ap (λ (x : Session). length x.active) g.1.session
      ∙ length-at_first (is_request c.request) (replied clock h) old.active in
      let uses = ap (λ (x : Pool). x.uses) g.1.pool ∙ answered-uses c h body pool in
      record {
        number = ap (λ (x : Session). x.number) g.1.session;
        fewer = omega (arith, long);
        spare = omega (arith, long, ap (λ (us : List Use). sum_by (λ u. cond {A = ℕ} (is_empty u) 1 0) us) uses);
      }
  replies-spend (Ended d) g =
      let c = g.0 in
      let request = eqb-true c.request h.request (find-passes (is_request h.request) old.active c g.1.found) in
      ended-spends pool after old new (is_request h.request) c keeps g.1.found
      (ap (λ r. call_as r old) request ∙ g.1.found) g.1.session g.1.pool
  replies-spend (Dropped why) g = record {
    number = ap (λ (x : Session). x.number) g.0;
    fewer = rw g.0 (omega arith);
    spare = rw (g.0, g.1) refl;
  }

-- what is taken isn't queued
idle-row : (a b c w : Bool) → Takes ≡ cond a (Drops Past)
    (cond b (Drops Ahead) (cond c (Drops Mismatch) (cond w (Drops StillQueued) Takes))) → w ≡ false
idle-row a b c false e = refl
idle-row true b c true e = cc
idle-row false true c true e = cc
idle-row false false true true e = cc
idle-row false false false true e = cc

row-idle : (w : Bool) (h : MessageHeader) (n : ℕ) (o : Option ActiveCall) (c : ActiveCall)
    → o ≡ Some c → Takes ≡ reply_row w h n o → w ≡ false
row-idle w h n None c f e = cc
row-idle w h n (Some d) c f e = idle-row _ _ _ w e

-- session i handled a reply
module _ (pool after : Pool) (sides now : List Side) (servers : List Serving) (tx : Ring EntryValue)
    (i clock : ℕ) (h : MessageHeader) (body : List ℕ) (is_waiting : Bool) (r : Reply)
    (kept : Kept pool sides servers tx)
    (g : SideChanges i (λ s later. RepliesTo clock h body is_waiting r s.session later pool after)
    sides now)
    (connected : g.side.stage ≡ Connected) (session : h.session ≡ i)
    (windows : Windows (map (shown_side pool) sides) (map queued_of tx.items))
    (waits : is_waiting ≡ list_any (is_entry (Ask i h.request) h.number) tx.items) where
  abbrev heard : Side
  heard = record g.side { session = g.later }

  steps : Replied clock r h body g.side.stage pool after g.side.peer g.side.session g.later
  steps = reply-steps clock r h body g.side.stage pool after g.side.peer g.side.session g.later
      connected (all-at (SideAscends pool) sides i g.side kept.ascends g.at) g.step.step

  stands-cases : (q : Reply) → row_told q ≡ reply_row is_waiting h (length body)
      (call_as h.request g.side.session) → Replies q clock h body g.side.session g.later pool after
      → RepliesKeep q h.request g.side.session g.later
      → AllByRecursion (IsOf (slice_set sides i heard) servers) tx.items
  stands-cases Took row replies entries =
      stands-all sides servers i g.side heard g.at refl refl entries tx.items kept.stands
  stands-cases (Dropped why) row replies entries =
      stands-all sides servers i g.side heard g.at refl refl entries tx.items kept.stands
  stands-cases (Ended d) row replies entries =
      let ends = replies.1 in
      let c = replies.0 in
      let own = eqb-true c.request h.request (find-passes (is_request h.request)
      g.side.session.active c ends.found) in
      let idle = row-idle is_waiting h (length body) (call_as h.request g.side.session) c ends.found row in
      let none = none-queued pool sides servers tx kept i h.request g.side g.at c ends.found own
      tx.items h.number ends.next ends.last windows (sym waits ∙ idle) in
      stands-but sides servers i g.side heard g.at refl refl (Ask i h.request)
      (λ e other was. entries e (ap (λ n. is_of (Ask n h.request) e)
      (kept.numbered i g.side g.at) ∙ other) was) tx.items kept.stands none

  heard-acts : ClientActs pool after sides servers i g.side heard tx tx
  heard-acts =
      let spends = replies-spend pool after g.side.session g.later clock h body
      (all-at (SideKept pool) sides i g.side kept.keeps g.at) r g.step.replies in
      record {
        acts = record {
          leaves = g.step.still.others;
          few = g.step.still.keeps_pool.apart;
          counts = g.step.still.counts tx.items kept.counted;
          beside = refl;
          within =
              kept.within;
          size = refl;
        };
        keeps = g.step.still.keeps_pool;
        number = spends.number;
        ascends = steps.calls;
        stands = stands-cases r g.step.row g.step.replies g.step.entries;
        queued = g.step.still.queued tx.items (all-at (SideQueued tx.items) sides i g.side kept.queued g.at);
        slots = omega (arith, spends.fewer, all-at HasSlots sides i g.side kept.slots g.at);
        spare = spends.spare;
      }

  pub heard-kept : Kept after now servers tx
  heard-kept = subst (λ xs. Kept after xs servers tx) (sym g.changed)
      (client-kept pool after sides servers i g.side heard tx tx g.at kept heard-acts)

  pub heard-clients : (peer : ℕ) → peer ≡ g.side.peer
      → RepliesAt i clock peer h body is_waiting r (map (shown_side pool) sides)
      (map (shown_side after) now)
  heard-clients peer same = record {
    client = shown_side pool g.side;
    at = get-map (shown_side pool) sides i g.side g.at;
    row = λ queue queued. rw (connected, same) (g.step.rule queue queued g.side.peer);
    facts = λ takes me. facts-end h body r g.side.stage pool g.side.peer g.side.session
        connected (g.step.facts takes) me;
    later = shown_side after heard;
    step = steps.step;
    changed = ap (map (shown_side after)) g.changed
        ∙ clients-set pool after sides servers i g.side heard tx tx g.at kept heard-acts;
  }

  pub heard-servers : map (shown_server after) servers ≡ map (shown_server pool) servers
  heard-servers = servers-same pool after sides servers i g.side heard tx tx g.at kept heard-acts

  pub heard-places : spare_of after + places_in now + served_places servers
      ≡ spare_of pool + places_in sides + served_places servers
  heard-places = ap (λ xs. spare_of after + places_in xs + served_places servers) g.changed
      ∙ client-places pool after sides servers i g.side heard tx tx g.at kept heard-acts

  back-cases : (q : Reply)
      → HandsBackBy q g.side.session.number (side_handed pool g.side) (side_handed after heard)
      → HandsBackIf i (ended_by q) (map (side_handed pool) sides) (map (side_handed after) now)
  back-cases Took same =
      ap (map (side_handed after)) g.changed
      ∙ handed-kept pool after sides servers i g.side heard tx tx g.at kept heard-acts same
  back-cases (Dropped why) same =
      ap (map (side_handed after)) g.changed
      ∙ handed-kept pool after sides servers i g.side heard tx tx g.at kept heard-acts same
  back-cases (Ended d) back = record {
    before = side_handed pool g.side;
    place = get-map (side_handed pool) sides i g.side g.at;
    later = side_handed after heard;
    back = subst (λ n. HandsBack n d (side_handed pool g.side) (side_handed after heard))
        (kept.numbered i g.side g.at) back;
    changed = ap (map (side_handed after)) g.changed
        ∙ handed-set pool after sides servers i g.side heard tx tx g.at kept heard-acts;
  }

  pub heard-handed : HandsBackIf i (ended_by r) (map (side_handed pool) sides)
      (map (side_handed after) now)
  heard-handed = back-cases r g.step.handed

-- a reply to a session that takes none
module _ (pool : Pool) (sides : List Side) (i clock peer : ℕ) (h : MessageHeader) (body : List ℕ)
    (is_waiting : Bool) (side : Side) (at : slice_get sides i ≡ Some side) where
  dropped-clients : (why : DropReason)
      → ((queue : List Queued) → client_row queue (Some (shown_side pool side)) peer h (length body) ≡ Drops why)
      → RepliesAt i clock peer h body is_waiting (Dropped why) (map (shown_side pool) sides)
      (map (shown_side pool) sides)
  dropped-clients why row =
      let place = get-map (shown_side pool) sides i side at in
      record {
        client = shown_side pool side;
        at = place;
        row = λ queue queued. row queue;
        facts = λ takes. cc;
        later = shown_side pool side;
        step = refl;
        changed = sym (set-own (map (shown_side pool) sides) i (shown_side pool side) place);
      }

  pub unconnected-clients : is_connected side.stage ≡ false
      → RepliesAt i clock peer h body is_waiting (Dropped NoSession) (map (shown_side pool) sides)
      (map (shown_side pool) sides)
  unconnected-clients other =
      dropped-clients NoSession
      (λ queue. rw (stage-state pool side.peer side.session side.stage, other) refl)

  pub other-clients : side.stage ≡ Connected → (peer ≡ side.peer → ⊥)
      → RepliesAt i clock peer h body is_waiting (Dropped WrongPeer) (map (shown_side pool) sides)
      (map (shown_side pool) sides)
  other-clients connected other =
      let differ : (eqb side.peer peer) ≡ false = ne_eqb side.peer peer (λ t. other (sym t)) in
      dropped-clients WrongPeer (λ queue. rw (connected, differ) refl)

-- as it is looked at
module _ (pool : Pool) (sides : List Side) (servers : List Serving) (tx : Ring EntryValue)
    (seen : Shown) (view : shown_of pool sides servers tx ≡ seen) (i : ℕ) where
  pub seen-windows : Windows seen.clients seen.queued → Windows (map (shown_side pool) sides)
      (map queued_of tx.items)
  seen-windows w = rw (← view) at w

  pub seen-waits : (r k : ℕ)
      → list_any (is_queued (Ask i r) k) seen.queued ≡ list_any (is_entry (Ask i r) k) tx.items
  seen-waits r k = rw (← view) (entry-queued i r k tx.items)

  pub seen-unheld : (h : MessageHeader) (is_waiting : Bool) → Kept pool sides servers tx
      → Windows seen.clients seen.queued
      → is_waiting ≡ list_any (is_entry (Ask i h.request) h.number) tx.items
      → IfSome (slice_get sides i)
      (λ s. NextIsUnheld pool is_waiting h.number (call_as h.request s.session))
  seen-unheld h is_waiting kept w waits = cases (slice_get sides i) refl
    where
      cases : (o : Option Side) → slice_get sides i ≡ o
          → IfSome o (λ s. NextIsUnheld pool is_waiting h.number (call_as h.request s.session))
      cases None e = tt
      cases (Some s) e = next-unheld pool sides servers tx i h.request h.number s is_waiting kept e
          (seen-windows w) waits

-- two peers, as they are compared
pub peer-differs : (a b : ℕ) → true ≡ not (eqb a b) → a ≡ b → ⊥
peer-differs a b t same = let yes : eqb a b ≡ true = eq-eqb a b same in cc

pub peer-same : (a b : ℕ) → false ≡ not (eqb a b) → a ≡ b
peer-same a b t = eqb-true a b (is-true (eqb a b) t)
  where
    is-true : (c : Bool) → false ≡ not c → c ≡ true
    is-true true t = refl
    is-true false t = cc
