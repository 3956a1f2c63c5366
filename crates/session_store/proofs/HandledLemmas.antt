-- A server session that handled a packet over the ring alone handled it over the ring with the
-- paced packets of calls behind it.
use Rattle.std.proofs.Common.{◌≡◌, ℕ, Bool, true, false, not, ◌&&◌, cond, Option, Some}
use Rattle.std.proofs.Common.{None, List, [], ◌∷◌, ◌++◌, refl, sym, ap, subst, ◌∙◌, arith}
use Rattle.std.proofs.Common.{append_assoc}
use Rattle.std.specs.Prelude.{IfSome, count_by, map, option_map, slice_get, slice_set}
use Rattle.std.specs.List.{AllByRecursion, filter}
use Rattle.std.proofs.lemmas.List.Elements.{filter-append}
use Rattle.std.proofs.lemmas.List.Sums.{sum_by-append}
use Rattle.rpc_base.specs.Owners.{same_owner}
use Rattle.rpc_base.specs.declared.fact.Who.{Who}
use Rattle.rpc_base.specs.declared.fact.Who.TheVariants.{Node}
use Rattle.rpc_base.specs.declared.event.Event.TheVariants.{Flushed}
use Rattle.rpc_base.specs.declared.owner.Owner.{Owner}
use Rattle.rpc_base.specs.declared.owner.Owner.TheVariants.{Ask, Reply, Control}
use Rattle.rpc_base.proofs.FirstLemmas.{all-each, counted-cons}
use Rattle.buffer_pool.specs.Pool.{Pool, refs_of}
use Rattle.packet_header.specs.declared.packet.MessageHeader.{MessageHeader}
use Rattle.packet_rings.specs.Entries.{is_not_of, is_of, is_reply, is_reply_owner}
use Rattle.packet_rings.specs.Mentions.{is_place}
use Rattle.packet_rings.specs.Rings.{Ring, ring}
use Rattle.packet_rings.specs.Values.{EntryValue}
use Rattle.packet_rings.proofs.MentionsLemmas.{mentions-append}
use Rattle.pacing_wheel.specs.declared.pacer.Paced.{Paced}
use Rattle.pacing_wheel.specs.Wheel.{entry_of}
use Rattle.rpc_laws.specs.Queues.{numbers_of, put_queued}
use Rattle.rpc_laws.specs.declared.rows.ServerRow.{ServerRow}
use Rattle.rpc_laws.specs.declared.tables.Queued.{Queued}
use Rattle.rpc_laws.specs.declared.tables.Served.{Served as ServedRequest}
use Rattle.rpc_outside.specs.Recording.{Grew, Log}
use Rattle.rpc_outside.specs.declared.service.Service as Service
use Rattle.server_core.specs.declared.slot.SlotRequest.{SlotRequest}
use Rattle.server_core.specs.declared.slot.Stored.{Stored}
use Rattle.server_core.specs.declared.step.Step.{Step}
use Rattle.server_core.specs.Counting.{CountsQueued}
use Rattle.server_core.specs.Flushing.{HoldsAll, HoldsReplies, bare, flushed_facts, flushes}
use Rattle.server_core.specs.Flushing.{has_begun}
use Rattle.server_core.specs.Flushing.{is_reply_of, named_by, replies_of}
use Rattle.server_core.specs.Flushing.{without_replies}
use Rattle.server_core.specs.Handling.{Handles}
use Rattle.server_core.specs.Keeping.{KeepsReplies}
use Rattle.server_core.specs.Noting.{packet_facts, step_facts}
use Rattle.server_core.specs.Rows.{row_of}
use Rattle.server_core.specs.Scene.{at_desk, incoming}
use Rattle.server_core.specs.Session.{Session as Serving, answer_of, newest, owner_of}
use Rattle.server_core.specs.Steps.{asked_with}
use Rattle.server_core.specs.Shown.{shown as shown_server, shown_request}
use Rattle.session_store.specs.Effects.{ServerStep}
use Rattle.session_ends.specs.Joined.{paced_of, is_owned, queued_of}
use Rattle.session_store.specs.Joined.{put_ready}
use Rattle.session_store.specs.Serving.{without_owned}
use Rattle.session_store.specs.Sides.{ServerHolds, ServerQueued}
use Rattle.session_ends.proofs.JoinLemmas.{queue-behind}
use Rattle.session_store.proofs.ServeLemmas.{seen-after, served-same}

-- a packet of a call is no reply to any request
not-owned : (n r : ℕ) (o : Owner) → is_reply_owner o ≡ false → same_owner o (Reply n r) ≡ false
not-owned n r (Ask s q) t = refl
not-owned n r (Reply s q) t = cc
not-owned n r Control t = refl

not-own : (n : ℕ) (o : Owner) → is_reply_owner o ≡ false → is_reply_of n o ≡ false
not-own n (Ask s q) t = refl
not-own n (Reply s q) t = cc
not-own n Control t = refl

abbrev pub Calls : List EntryValue → Type 0
Calls ps = AllByRecursion (λ e. is_reply e ≡ false) ps

-- what is said of replies is so of those
all-vacuous : (q : EntryValue → Bool) (P : EntryValue → Type 0)
    → ((e : EntryValue) → is_reply e ≡ false → q e ≡ false) → (ps : List EntryValue) → Calls ps
    → AllByRecursion (λ e. q e ≡ true → P e) ps
all-vacuous q P none [] calls = tt
all-vacuous q P none (p ∷ ps) calls =
    (λ is. (let no = none p calls.0 in cc), all-vacuous q P none ps calls.1)

count-none : (q : EntryValue → Bool) → ((e : EntryValue) → is_reply e ≡ false → q e ≡ false)
    → (ps : List EntryValue) → Calls ps → count_by q ps ≡ 0
count-none q none [] calls = refl
count-none q none (p ∷ ps) calls =
    omega (arith, counted-cons q p ps false (none p calls.0), count-none q none ps calls.1)

module _ (P : EntryValue → Type 0) where
  all-front : (xs ys : List EntryValue) → AllByRecursion P (xs ++ ys) → AllByRecursion P xs
  all-front [] ys all = tt
  all-front (x ∷ xs) ys all = (all.0, all-front xs ys all.1)

  all-behind : (ps ys : List EntryValue) → AllByRecursion P ps → AllByRecursion P ys
      → AllByRecursion P (ps ++ ys)
  all-behind [] ys own all = all
  all-behind (p ∷ ps) ys own all = (own.0, all-behind ps ys own.1 all)

  all-back : (xs ys : List EntryValue) → AllByRecursion P (xs ++ ys) → AllByRecursion P ys
  all-back [] ys all = all
  all-back (x ∷ xs) ys all = all-back xs ys all.1

  all-amid : (xs ps ys : List EntryValue) → AllByRecursion P ps → AllByRecursion P (xs ++ ys)
      → AllByRecursion P ((xs ++ ps) ++ ys)
  all-amid xs ps ys own all =
      subst (λ es. AllByRecursion P es) (sym (append_assoc xs ps ys))
      (all-behind xs (ps ++ ys) (all-front xs ys all)
      (all-behind ps ys own (all-back xs ys all)))

count-front : (q : EntryValue → Bool) → ((e : EntryValue) → is_reply e ≡ false → q e ≡ false)
    → (xs ps : List EntryValue) → Calls ps → count_by q (xs ++ ps) ≡ count_by q xs
count-front q none xs ps calls =
    omega (arith, sum_by-append (λ e. cond (q e) 1 0) xs ps, count-none q none ps calls)

count-amid : (q : EntryValue → Bool) → ((e : EntryValue) → is_reply e ≡ false → q e ≡ false)
    → (xs ps ys : List EntryValue) → Calls ps
    → count_by q ((xs ++ ps) ++ ys) ≡ count_by q (xs ++ ys)
count-amid q none xs ps ys calls =
    omega (
      arith,
      sum_by-append (λ e. cond (q e) 1 0) (xs ++ ps) ys,
      sum_by-append (λ e. cond (q e) 1 0) xs ps,
      sum_by-append (λ e. cond (q e) 1 0) xs ys,
      count-none q none ps calls,
    )

named-none : (n r p : ℕ) (e : EntryValue) → is_reply e ≡ false
    → (is_of (Reply n r) e && is_place p e.place) ≡ false
named-none n r p e t = ap (λ b. b && is_place p e.place) (not-owned n r e.owner t)

module _ (n : ℕ) (pool : Pool) (from to : List EntryValue)
    (counts : (q : EntryValue → Bool)
    → ((e : EntryValue) → is_reply e ≡ false → q e ≡ false) → count_by q from ≡ count_by q to)
    (alls : (q : EntryValue → Bool) (P : EntryValue → Type 0)
    → ((e : EntryValue) → is_reply e ≡ false → q e ≡ false)
    → AllByRecursion (λ e. q e ≡ true → P e) from → AllByRecursion (λ e. q e ≡ true → P e) to) where
  held-cases : (r : ℕ) (o : Option Stored)
      → IfSome o (λ a. refs_of pool a.place ≡ named_by (Reply n r) a.place from)
      → IfSome o (λ a. refs_of pool a.place ≡ named_by (Reply n r) a.place to)
  held-cases r None h = tt
  held-cases r (Some a) h =
      h ∙ counts (λ e. is_of (Reply n r) e && is_place a.place e.place) (named-none n r a.place)

  held-one : (q : SlotRequest) → HoldsReplies n pool from q → HoldsReplies n pool to q
  held-one q h = record {
    each = alls (is_of (owner_of n q)) _ (λ e t. not-owned n q.number e.owner t) h.each;
    all = held-cases q.number (answer_of q.state) h.all;
  }

holds-by : (v : Serving) (pool : Pool) (from to : List EntryValue)
    → ((q : EntryValue → Bool) → ((e : EntryValue) → is_reply e ≡ false → q e ≡ false)
    → count_by q from ≡ count_by q to)
    → ((q : EntryValue → Bool) (P : EntryValue → Type 0)
    → ((e : EntryValue) → is_reply e ≡ false → q e ≡ false)
    → AllByRecursion (λ e. q e ≡ true → P e) from → AllByRecursion (λ e. q e ≡ true → P e) to)
    → HoldsAll v pool from → HoldsAll v pool to
holds-by v pool from to counts alls h = record {
  own = alls (λ e. is_reply_of v.number e.owner) _ (λ e t. not-own v.number e.owner t) h.own;
  each = all-each _ _ v.slots (held-one v.number pool from to counts alls) h.each;
}

queued-by : (v : Serving) (from to : List EntryValue)
    → ((q : EntryValue → Bool) → ((e : EntryValue) → is_reply e ≡ false → q e ≡ false)
    → count_by q from ≡ count_by q to) → CountsQueued v from → CountsQueued v to
queued-by v from to counts h = all-each _ _ v.slots
    (λ q t. t ∙ counts (is_of (owner_of v.number q))
    (λ e u. not-owned v.number q.number e.owner u)) h

-- without the paced packets, and with them
pub holds-ready : (v : Serving) (pool : Pool) (xs ps : List EntryValue) → Calls ps
    → ServerHolds pool (xs ++ ps) v → ServerHolds pool xs v
holds-ready v pool xs ps calls = holds-by v pool (xs ++ ps) xs
    (λ q none. count-front q none xs ps calls) (λ q P none all. all-front _ xs ps all)

holds-amid : (v : Serving) (pool : Pool) (xs ps ys : List EntryValue) → Calls ps
    → HoldsAll v pool (xs ++ ys) → HoldsAll v pool ((xs ++ ps) ++ ys)
holds-amid v pool xs ps ys calls = holds-by v pool (xs ++ ys) ((xs ++ ps) ++ ys)
    (λ q none. sym (count-amid q none xs ps ys calls))
    (λ q P none all. all-amid _ xs ps ys (all-vacuous q P none ps calls) all)

pub queued-ready : (v : Serving) (xs ps : List EntryValue) → Calls ps
    → ServerQueued (xs ++ ps) v → ServerQueued xs v
queued-ready v xs ps calls = queued-by v (xs ++ ps) xs (λ q none. count-front q none xs ps calls)

queued-amid : (v : Serving) (xs ps ys : List EntryValue) → Calls ps → CountsQueued v (xs ++ ys)
    → CountsQueued v ((xs ++ ps) ++ ys)
queued-amid v xs ps ys calls = queued-by v (xs ++ ys) ((xs ++ ps) ++ ys)
    (λ q none. sym (count-amid q none xs ps ys calls))

-- the replies to a request leave the ring, and these stay
filter-calls : (n r : ℕ) (ps : List EntryValue) → Calls ps → filter (is_not_of (Reply n r)) ps ≡ ps
filter-calls n r [] calls = refl
filter-calls n r (p ∷ ps) calls =
    rw (not-owned n r p.owner calls.0) (ap (λ es. p ∷ es) (filter-calls n r ps calls.1))

after-calls : (n : ℕ) (o : Option SlotRequest) (xs ps : List EntryValue) (b : Bool) → Calls ps
    → cond b (without_replies n o xs) xs ++ ps ≡ cond b (without_replies n o (xs ++ ps)) (xs ++ ps)
after-calls n None xs ps true calls = refl
after-calls n (Some q) xs ps true calls =
    ap (λ es. filter (is_not_of (owner_of n q)) xs ++ es) (sym (filter-calls n q.number ps calls))
    ∙ sym (filter-append (is_not_of (owner_of n q)) xs ps)
after-calls n o xs ps false calls = refl

numbers-calls : (n r : ℕ) (xs ps : List EntryValue) → Calls ps
    → numbers_of (Reply n r) (map queued_of xs) ≡ numbers_of (Reply n r) (map queued_of (xs ++ ps))
numbers-calls n r [] [] calls = refl
numbers-calls n r [] (p ∷ ps) calls =
    rw (not-owned n r p.owner calls.0) (numbers-calls n r [] ps calls.1)
numbers-calls n r (x ∷ xs) ps calls = rw (numbers-calls n r xs ps calls) refl

flushes-calls : (row : ServerRow) (step : Step) (who : Who) (n : ℕ) (o : Option SlotRequest)
    (xs ps : List EntryValue) → Calls ps → flushes row step who n o xs
    ≡ flushes row step who n o (xs ++ ps)
flushes-calls row step who n o xs ps calls = by (has_begun row step) o
  where
    by : (b : Bool) (q : Option SlotRequest) → cond b (flushed_facts who n q xs) []
        ≡ cond b (flushed_facts who n q (xs ++ ps)) []
    by true None = refl
    by true (Some q) = ap (map (λ k. bare who (Flushed (owner_of n q) k)))
        (numbers-calls n q.number xs ps calls)
    by false q = refl

abbrev pub beside : List EntryValue → Ring EntryValue → Ring EntryValue
beside ps r = ring (r.items ++ ps) r.size

-- so the replies are kept among all of them
beside-replies : {v w : Serving} {pool after : Pool} (old new ps rs : List EntryValue) → Calls ps
    → KeepsReplies old (new ++ rs) v w pool after
    → KeepsReplies (old ++ ps) ((new ++ ps) ++ rs) v w pool after
beside-replies {v} {w} {pool} {after} old new ps rs calls keeps = record {
  holds = λ all. holds-amid w after new ps rs calls
      (keeps.holds (holds-ready v pool old ps calls all));
  queued = λ all counted. queued-amid w new ps rs calls
      (keeps.queued (holds-ready v pool old ps calls all) (queued-ready v old ps calls counted));
  counts = λ p. omega (
    arith,
    keeps.counts p,
    mentions-append p old ps,
    mentions-append p (new ++ ps) rs,
    mentions-append p new ps,
    mentions-append p new rs,
  );
}

-- and the packet is handled over all of them
module _ {V R : Type 0} {v : Service.Ghosts V} {log : R → Log} {jobs_full : Bool} {me : ℕ}
    {h : MessageHeader} {body : List ℕ} {step : Step} {pool after : Pool}
    {old new : Ring EntryValue} {serving then_serving : V} {rec then_rec : R}
    (ps : List EntryValue) (calls : Calls ps) where
  pub beside-one : (s w : Serving) → Handles v log packet_facts (Node me)
      (incoming h body jobs_full) step (at_desk s pool old serving rec)
      (at_desk w after new then_serving then_rec)
      → Handles v log packet_facts (Node me)
      (incoming h body jobs_full) step (at_desk s pool (beside ps old) serving rec)
      (at_desk w after (beside ps new) then_serving then_rec)
  beside-one s w g =
      let row = row_of (v.mode_of h.req_type) jobs_full h s in
      let older = newest h.request s in
      let server = shown_server pool s in
      record {
        row = g.row;
        rule = g.rule;
        lacks = g.lacks;
        ring_is = ap (λ (r : Ring EntryValue). beside ps r) g.ring_is
            ∙ ap (λ es. ring es old.size)
            (after-calls s.number older old.items ps (has_begun row step) calls);
        leaves = record {
          handled = record {
            answer = g.leaves.handled.answer;
            steps = g.leaves.handled.steps;
            by_service = g.leaves.handled.by_service;
            grew = subst (λ fs. Grew (log rec) (log then_rec) (fs ++ step_facts (Node me) s.number h
                (asked_with h body server) g.leaves.handled.answer step))
                (flushes-calls row step (Node me) s.number older old.items ps calls)
                g.leaves.handled.grew;
          };
          reply = g.leaves.reply;
          give = g.leaves.give;
          no_bytes = g.leaves.no_bytes;
          service = g.leaves.service;
          session = g.leaves.session;
          pool = g.leaves.pool;
          all_served = g.leaves.all_served;
          places = g.leaves.places;
        };
        facts = λ own who answer unless.
            sym (ap (λ fs. fs ++ step_facts (Node who) s.number h (asked_with h body server) answer
            step) (flushes-calls row step (Node who) s.number older old.items ps calls))
            ∙ g.facts own who answer unless
            ∙ served-same (v.mode_of h.req_type) who answer (map queued_of old.items)
            (map queued_of (old.items ++ ps)) server h body
            (λ r. numbers-calls s.number r old.items ps calls) row;
        replies = beside-replies old.items new.items ps (replies_of step) calls g.replies;
        short = g.short;
      }

  -- by the session at a place
  abbrev pub beside-step : (i : ℕ) (servers : List Serving) (s w : Serving)
      → slice_get servers i ≡ Some s → Handles v log packet_facts (Node me)
      (incoming h body jobs_full) step (at_desk s pool old serving rec)
      (at_desk w after new then_serving then_rec)
      → ServerStep i (λ x y. Handles v log packet_facts (Node me)
      (incoming h body jobs_full) step (at_desk x pool (beside ps old) serving rec)
      (at_desk y after (beside ps new) then_serving then_rec)) servers (slice_set servers i w)
  beside-step i servers s w at g = record {
    server = s;
    at = at;
    later = w;
    step = beside-one s w g;
    changed = refl;
  }

-- what is paced, as entries and as it is seen
pub paced-calls : (ps : List Paced) → AllByRecursion (λ p. is_reply p.entry ≡ false) ps
    → Calls (map entry_of ps)
paced-calls [] all = tt
paced-calls (p ∷ ps) all = (all.0, paced-calls ps all.1)

pub paced-numbers : (n r : ℕ) (xs : List EntryValue) (ps : List Paced)
    → AllByRecursion (λ p. is_reply p.entry ≡ false) ps
    → numbers_of (Reply n r) (map queued_of (xs ++ map entry_of ps))
    ≡ numbers_of (Reply n r) (map queued_of xs ++ map paced_of ps)
paced-numbers n r [] [] all = refl
paced-numbers n r [] (p ∷ ps) all =
    rw (not-owned n r p.entry.owner all.0) (paced-numbers n r [] ps all.1)
paced-numbers n r (x ∷ xs) ps all = rw (paced-numbers n r xs ps all) refl

filter-paced : (n r : ℕ) (ps : List Paced) → AllByRecursion (λ p. is_reply p.entry ≡ false) ps
    → filter (λ x. not (is_owned (Reply n r) x)) (map paced_of ps) ≡ map paced_of ps
filter-paced n r [] all = refl
filter-paced n r (p ∷ ps) all =
    rw (not-owned n r p.entry.owner all.0) (ap (λ qs. paced_of p ∷ qs) (filter-paced n r ps all.1))

pub owned-paced : (n : ℕ) (o : Option ServedRequest) (qs : List Queued) (ps : List Paced) (b : Bool)
    → AllByRecursion (λ p. is_reply p.entry ≡ false) ps
    → cond b (without_owned n o qs) qs ++ map paced_of ps
    ≡ cond b (without_owned n o (qs ++ map paced_of ps)) (qs ++ map paced_of ps)
owned-paced n None qs ps true all = refl
owned-paced n (Some q) qs ps true all =
    ap (λ rs. filter (λ x. not (is_owned (Reply n q.number) x)) qs ++ rs)
    (sym (filter-paced n q.number ps all))
    ∙ sym (filter-append (λ x. not (is_owned (Reply n q.number) x)) qs (map paced_of ps))
owned-paced n o qs ps false all = refl

-- the queue once the replies to an older request left it, and with the reply of the packet
module _ (pool : Pool) (n : ℕ) (o : Option SlotRequest) (xs new : List EntryValue) (ps : List Paced)
    (b : Bool) (calls : AllByRecursion (λ p. is_reply p.entry ≡ false) ps)
    (is : new ≡ cond b (without_replies n o xs) xs) (queued : List Queued)
    (seen : map queued_of xs ++ map paced_of ps ≡ queued) (replies : List EntryValue) where
  abbrev left_queue : List Queued
  left_queue = cond b (without_owned n (option_map (shown_request pool) o) queued) queued

  queue-left : map queued_of new ++ map paced_of ps ≡ left_queue
  queue-left =
      ap (λ es. map queued_of es ++ map paced_of ps) is
      ∙ ap (λ qs. qs ++ map paced_of ps) (seen-after pool n o xs b)
      ∙ owned-paced n (option_map (shown_request pool) o) (map queued_of xs) ps b calls
      ∙ ap (λ qs. cond b (without_owned n (option_map (shown_request pool) o) qs) qs) seen

  pub queue-none : replies ≡ []
      → map queued_of new ++ map paced_of ps ≡ put_ready replies left_queue
  queue-none none = queue-left ∙ ap (λ es. put_ready es left_queue) (sym none)

  pub queue-one : (e : EntryValue) → replies ≡ e ∷ []
      → map queued_of (new ++ e ∷ []) ++ map paced_of ps ≡ put_ready replies left_queue
  queue-one e one =
      queue-behind new ps e ∙ ap (λ qs. put_queued (queued_of e) qs) queue-left
      ∙ ap (λ es. put_ready es left_queue) (sym one)
