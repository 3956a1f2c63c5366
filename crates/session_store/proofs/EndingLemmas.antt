-- A server session ends, of which no reply is queued: what always holds of a store holds then.
use Rattle.std.proofs.Common.{◌≡◌, ℕ, zero, suc, ◌+◌, ◌%◌, ◌<◌, Bool, true, false, eqb, Option}
use Rattle.std.proofs.Common.{Some, None, List, [], ◌∷◌, length, refl, sym, ap, subst, ◌∙◌, inl}
use Rattle.std.proofs.Common.{inr, arith, get_or}
use Rattle.std.specs.Prelude.{IfSome, IsTrue, map, option_map, position, slice_get, slice_set}
use Rattle.std.specs.List.{AllByRecursion, find, list_any, position_or_len, remove}
use Rattle.std.proofs.lemmas.List.{length-map}
use Rattle.std.proofs.lemmas.Bool.{cases_eq, eq-eqb, ne_eqb}
use Rattle.rpc_base.specs.Owners.{same_owner}
use Rattle.rpc_base.specs.Tables.{without_first}
use Rattle.rpc_base.proofs.BasicLemmas.{or-false}
use Rattle.rpc_base.proofs.TablesLemmas.{without_first-found}
use Rattle.rpc_base.specs.declared.owner.Owner.{Owner}
use Rattle.rpc_base.specs.declared.owner.Owner.TheVariants.{Ask, Reply, Control}
use Rattle.rpc_base.proofs.PlaceLemmas.{all-at, get-map, set-here}
use Rattle.buffer_pool.specs.Pool.{Pool, refs_of, spare_of}
use Rattle.packet_rings.specs.Entries.{is_of}
use Rattle.packet_rings.specs.Rings.{Ring}
use Rattle.packet_rings.specs.Values.{EntryValue}
use Rattle.pacing_wheel.specs.Wheel.{Wheel}
use Rattle.rpc_laws.specs.ControlTable.{is_end_of, is_older}
use Rattle.rpc_laws.specs.Requests.{in_slot_of, is_server}
use Rattle.rpc_laws.specs.declared.tables.Served.{Served}
use Rattle.client_core.proofs.ShownLemmas.{found-shown}
use Rattle.server_core.specs.Flushing.{HoldsReplies, is_reply_of, named_by}
use Rattle.server_core.specs.KeepsPool.{names as slot_names, places as slot_places}
use Rattle.server_core.specs.Serving.{IsUnheld}
use Rattle.server_core.specs.Session.{Session as Serving, answer_of, is_in_slot, owner_in, owner_of}
use Rattle.server_core.specs.Shown.{shown as shown_server, shown_request}
use Rattle.server_core.specs.declared.slot.SlotRequest.{SlotRequest}
use Rattle.server_core.specs.declared.slot.Stored.{Stored}
use Rattle.session_ends.specs.declared.side.Side.{Side}
use Rattle.session_store.specs.Changes.{IsDrained}
use Rattle.session_ends.specs.Joined.{is_owned, joined, queue_of, queued_of}
use Rattle.server_core.specs.Replies.{is_owner}
use Rattle.session_ends.specs.Effects.{ServerEnds}
use Rattle.session_store.specs.Joined.{shown_with}
use Rattle.session_store.specs.Sides.{HasPlaces, IsOf, IsOfOwner, Kept, ServerHolds, ServerQueued}
use Rattle.session_store.specs.Sides.{Shown, is_end, places_in, served_places, shown_side}
use Rattle.session_store.specs.Sides.{side_handed}
use Rattle.session_ends.specs.Sides.{Rises, ServerKept, numbers_in, ends_at, is_of_older}
use Rattle.session_store.proofs.KeptLemmas.{ServerActs, clients-same, handed-same, server-acted}
use Rattle.session_store.proofs.KeptLemmas.{server-places, servers-set}
use Rattle.session_ends.proofs.ListLemmas.{get-there, all-removed, any-removed, map-removed}
use Rattle.session_ends.proofs.ListLemmas.{remove-set, sum-less, sum-removed}
use Rattle.session_store.proofs.ReplyGoneLemmas.{position-seen}
use Rattle.session_ends.proofs.SearchLemmas.{found-at}
use Rattle.session_store.proofs.StandLemmas.{ends-all}
use Rattle.session_store.proofs.UndueLemmas.{any-undue, queue-undue}

eqb-turned : (a b : ℕ) → eqb a b ≡ eqb b a
eqb-turned a b = elim (cases_eq a b) [
  | inl same ↦ rw same refl
  | inr away ↦ ne_eqb a b away ∙ sym (ne_eqb b a (λ e. away (sym e)))
]

rises-removed : (ns : List ℕ) (i : ℕ) → Rises ns → Rises (remove ns i)
rises-removed [] zero up = tt
rises-removed [] (suc i) up = tt
rises-removed (n ∷ ns) zero up = up.1
rises-removed (n ∷ ns) (suc i) up =
    (all-removed (λ m. n < m) ns i up.0, rises-removed ns i up.1)

-- a session that has no requests, and of which no reply is queued, is taken out
module _ (pool : Pool) (sides : List Side) (servers : List Serving) (tx : Ring EntryValue) (i : ℕ)
    (v : Serving) (at : slice_get servers i ≡ Some v) (slots : v.slots ≡ [])
    (kept : Kept pool sides servers tx)
    (none : list_any (λ e. is_reply_of v.number e.owner) tx.items ≡ false) where
  stands-one : (e : EntryValue) (o : Owner) → is_reply_of v.number o ≡ false
      → IsOfOwner sides servers e o → IsOfOwner sides (remove servers i) e o
  stands-one e (Ask s r) other h = h
  stands-one e (Reply t r) other h =
      let away : is_end t e.peer v ≡ false = rw other refl in
      any-removed (is_end t e.peer) servers i v at away ∙ h
  stands-one e Control other h = h

  stands-left : (es : List EntryValue) → list_any (λ e. is_reply_of v.number e.owner) es ≡ false
      → AllByRecursion (IsOf sides servers) es → AllByRecursion (IsOf sides (remove servers i)) es
  stands-left [] idle all = tt
  stands-left (e ∷ es) idle all =
      let parts = or-false (is_reply_of v.number e.owner)
      (list_any (λ d. is_reply_of v.number d.owner) es) idle in
      (stands-one e e.owner parts.0 all.0, stands-left es parts.1 all.1)

  remove-kept : Kept pool sides (remove servers i) tx
  remove-kept = record {
    numbered = kept.numbered;
    rises = subst (λ ns. Rises ns) (sym (map-removed (λ (x : Serving). x.number) servers i))
        (rises-removed (numbers_in servers) i kept.rises);
    keeps = kept.keeps;
    serves = all-removed (ServerKept pool) servers i kept.serves;
    apart = λ p. omega (
      arith,
      sum-removed (λ (x : Serving). slot_names p x.slots) servers i,
      kept.apart p,
    );
    counted = kept.counted;
    stands = stands-left tx.items none kept.stands;
    holds = all-removed (ServerHolds pool tx.items) servers i kept.holds;
    queued = kept.queued;
    replies = all-removed (ServerQueued tx.items) servers i kept.replies;
    ascends = kept.ascends;
    within = kept.within;
    few = kept.few;
    slots = kept.slots;
    served = all-removed HasPlaces servers i kept.served;
  }

  remove-places : served_places (remove servers i) ≡ served_places servers
  remove-places = omega (
    arith,
    sum-less (λ (x : Serving). slot_places x.slots) servers i v at,
    ap slot_places slots,
  )

-- a session ended
module _ (pool after : Pool) (sides : List Side) (servers now : List Serving) (tx : Ring EntryValue)
    (i : ℕ) (kept : Kept pool sides servers tx) (h : ServerEnds i servers now pool after)
    (none : list_any (λ e. is_reply_of h.server.number e.owner) tx.items ≡ false) where
  abbrev bare : Serving
  bare = record h.server { slots = [] }

  none-own : (es : List EntryValue)
      → list_any (λ e. is_reply_of h.server.number e.owner) es ≡ false
      → AllByRecursion (λ e. IsTrue (is_reply_of h.server.number e.owner) → ⊥) es
  none-own [] idle = tt
  none-own (e ∷ es) idle =
      let parts = or-false (is_reply_of h.server.number e.owner)
      (list_any (λ d. is_reply_of h.server.number d.owner) es) idle in
      (λ t. (let no = parts.0 in cc), none-own es parts.1)

  own-none : (es : List EntryValue)
      → AllByRecursion (λ e. IsTrue (is_reply_of h.server.number e.owner) → ⊥) es
      → AllByRecursion (λ e. IsTrue (is_reply_of h.server.number e.owner) → IsTrue false) es
  own-none [] all = tt
  own-none (e ∷ es) all = (λ t. absurd (all.0 t), own-none es all.1)

  end-acts : ServerActs pool after sides servers i h.server bare tx tx
  end-acts = record {
    acts = record {
      leaves = h.ends.others;
      few = λ p. omega arith;
      counts = h.ends.counts tx.items kept.counted;
      beside = refl;
      within = kept.within;
      size = refl;
    };
    keeps = record { kept = tt; apart = λ p. omega arith };
    number = refl;
    stands = ends-all sides servers i h.server bare h.at refl refl tx.items kept.stands;
    holds = record { own = own-none tx.items (none-own tx.items none); each = tt };
    queued = tt;
    served = omega arith;
    spare = h.ends.spare;
  }

  its : Kept after sides (slice_set servers i bare) tx
  its = server-acted pool after sides servers i h.server bare tx tx h.at kept end-acts

  there : slice_get (slice_set servers i bare) i ≡ Some bare
  there = set-here servers i h.server bare h.at

  left : now ≡ remove (slice_set servers i bare) i
  left = h.changed ∙ sym (remove-set servers i bare)

  pub end-kept : Kept after sides now tx
  end-kept = subst (λ vs. Kept after sides vs tx) (sym left)
      (remove-kept after sides (slice_set servers i bare) tx i bare there refl its none)

  pub end-clients : map (shown_side after) sides ≡ map (shown_side pool) sides
  end-clients = clients-same pool after sides servers i h.server bare tx tx h.at kept end-acts

  pub end-handed : map (side_handed after) sides ≡ map (side_handed pool) sides
  end-handed = handed-same pool after sides servers i h.server bare tx tx h.at kept end-acts

  pub end-places : spare_of after + places_in sides + served_places now
      ≡ spare_of pool + places_in sides + served_places servers
  end-places =
      let fewer : served_places now ≡ served_places (slice_set servers i bare) =
      ap served_places left
      ∙ remove-places after sides (slice_set servers i bare) tx i bare there refl its none in
      omega (
        arith,
        fewer,
        server-places pool after sides servers i h.server bare tx tx h.at kept end-acts,
      )

  is-first : position (is_server h.server.number) (map (shown_server pool) servers) ≡ Some i
  is-first = position-seen pool h.server.number servers
      ∙ sym (found-at servers h.server.number i kept.rises
      (rw h.at (eq-eqb h.server.number h.server.number refl)))

  pub end-servers : map (shown_server after) now
      ≡ without_first (is_server h.server.number) (map (shown_server pool) servers)
  end-servers = ap (map (shown_server after)) left
      ∙ map-removed (shown_server after) (slice_set servers i bare) i
      ∙ ap (λ vs. remove vs i)
      (servers-set pool after sides servers i h.server bare tx tx h.at kept end-acts)
      ∙ remove-set (map (shown_server pool) servers) i (shown_server after bare)
      ∙ sym (without_first-found (is_server h.server.number) (map (shown_server pool) servers) i
      is-first)

-- the answers of a session of which no reply is queued are named by no entry
module _ (pool : Pool) (number : ℕ) (es : List EntryValue)
    (none : list_any (λ e. is_reply_of number e.owner) es ≡ false) where
  named-none : (r p : ℕ) (ds : List EntryValue)
      → list_any (λ e. is_reply_of number e.owner) ds ≡ false
      → named_by (Reply number r) p ds ≡ 0
  named-none r p [] idle = refl
  named-none r p (d ∷ ds) idle =
      let parts = or-false (is_reply_of number d.owner)
      (list_any (λ e. is_reply_of number e.owner) ds) idle in
      let away = not-its r d.owner parts.0 in
      rw away (named-none r p ds parts.1)
    where
      not-its : (r : ℕ) (o : Owner) → is_reply_of number o ≡ false
          → same_owner o (Reply number r) ≡ false
      not-its r (Ask t q) other = refl
      not-its r (Reply t q) other =
          let apart : eqb t number ≡ false = eqb-turned t number ∙ other in rw apart refl
      not-its r Control other = refl

  unheld-one : (q : SlotRequest) (a : Option Stored)
      → IfSome a (λ x. refs_of pool x.place ≡ named_by (Reply number q.number) x.place es)
      → IfSome a (λ x. refs_of pool x.place ≡ 0)
  unheld-one q None all = tt
  unheld-one q (Some a) all = all ∙ named-none q.number a.place es none

  pub unheld-all : (qs : List SlotRequest) → AllByRecursion (HoldsReplies number pool es) qs
      → AllByRecursion (IsUnheld pool) qs
  unheld-all [] held = tt
  unheld-all (q ∷ qs) held =
      (unheld-one q (answer_of q.state) held.0.all, unheld-all qs held.1)

-- a reply of a session is one to a request of it
same-turned : (a b : Owner) → same_owner a b ≡ same_owner b a
same-turned (Ask s r) (Ask t q) = rw (eqb-turned s t, eqb-turned r q) refl
same-turned (Ask s r) (Reply t q) = refl
same-turned (Ask s r) Control = refl
same-turned (Reply s r) (Ask t q) = refl
same-turned (Reply s r) (Reply t q) = rw (eqb-turned s t, eqb-turned r q) refl
same-turned (Reply s r) Control = refl
same-turned Control (Ask t q) = refl
same-turned Control (Reply t q) = refl
same-turned Control Control = refl

module _ (n : ℕ) (slots : List SlotRequest) where
  -- an entry that is no reply to one of its requests
  none-owns : (e : EntryValue) (qs : List SlotRequest)
      → AllByRecursion (λ q. is_of (Reply n q.number) e ≡ false) qs
      → list_any (is_owner n e.owner) qs ≡ false
  none-owns e [] all = refl
  none-owns e (q ∷ qs) all =
      rw (same-turned (owner_of n q) e.owner, all.0, none-owns e qs all.1) refl

  firsts : (e : EntryValue) (es : List EntryValue) (qs : List SlotRequest)
      → AllByRecursion (λ q. list_any (is_of (Reply n q.number)) (e ∷ es) ≡ false) qs
      → AllByRecursion (λ q. is_of (Reply n q.number) e ≡ false) qs
      × AllByRecursion (λ q. list_any (is_of (Reply n q.number)) es ≡ false) qs
  firsts e es [] all = (tt, tt)
  firsts e es (q ∷ qs) all =
      let parts = or-false (is_of (Reply n q.number) e) (list_any (is_of (Reply n q.number)) es) all.0 in
      let rest = firsts e es qs all.1 in
      ((parts.0, rest.0), (parts.1, rest.1))

  not-reply : (e : EntryValue) (b : Bool) → is_reply_of n e.owner ≡ b
      → (IsTrue (is_reply_of n e.owner) → IsTrue (list_any (is_owner n e.owner) slots))
      → list_any (is_owner n e.owner) slots ≡ false → b ≡ false
  not-reply e true is own none = let clash : true ≡ false = sym (own is) ∙ none in cc
  not-reply e false is own none = refl

  drained-entries : (es : List EntryValue)
      → AllByRecursion (λ e. IsTrue (is_reply_of n e.owner)
      → IsTrue (list_any (is_owner n e.owner) slots)) es
      → AllByRecursion (λ q. list_any (is_of (Reply n q.number)) es ≡ false) slots
      → list_any (λ e. is_reply_of n e.owner) es ≡ false
  drained-entries [] own all = refl
  drained-entries (e ∷ es) own all =
      let parts = firsts e es slots all in
      let one = not-reply e (is_reply_of n e.owner) refl own.0 (none-owns e slots parts.0) in
      rw (one, drained-entries es own.1 parts.1) refl

-- as it is looked at
module _ (pool : Pool) (n : ℕ) (tx : Ring EntryValue) (paced : Wheel) where
  owned-seen : (o : Owner) (es : List EntryValue)
      → list_any (is_owned o) (map queued_of es) ≡ list_any (is_of o) es
  owned-seen o [] = refl
  owned-seen o (e ∷ es) = rw (owned-seen o es) refl

  one-drained : (o : Owner) → list_any (is_owned o) (queue_of tx paced) ≡ false
      → list_any (is_of o) (joined tx paced).items ≡ false
  one-drained o none = sym (owned-seen o (joined tx paced).items)
      ∙ ap (λ qs. list_any (is_owned o) qs) (sym (queue-undue tx paced))
      ∙ any-undue (is_owned o) (λ q. refl) (queue_of tx paced) ∙ none

  all-drained : (slots : List SlotRequest)
      → AllByRecursion (λ (q : Served). list_any (is_owned (Reply n q.number)) (queue_of tx paced)
      ≡ false) (map (shown_request pool) slots)
      → AllByRecursion (λ q. list_any (is_of (Reply n q.number)) (joined tx paced).items ≡ false)
      slots
  all-drained [] all = tt
  all-drained (q ∷ qs) all = (one-drained (Reply n q.number) all.0, all-drained qs all.1)

pub record Ended (pool after : Pool) (sides : List Side) (servers now : List Serving)
    (tx : Ring EntryValue) (paced : Wheel) (i : ℕ) (seen : Shown) : Type 0 where
  pub kept : Kept after sides now (joined tx paced)
  pub left : IfSome (slice_get seen.servers i)
      (λ v. map (shown_server after) now ≡ without_first (is_server v.way.number) seen.servers)
  pub clients : map (shown_side after) sides ≡ map (shown_side pool) sides
  pub handed : map (side_handed after) sides ≡ map (side_handed pool) sides
  pub places : spare_of after + places_in sides + served_places now
      ≡ spare_of pool + places_in sides + served_places servers

module _ (pool : Pool) (sides : List Side) (servers : List Serving) (tx : Ring EntryValue)
    (paced : Wheel) (kept : Kept pool sides servers (joined tx paced)) (seen : Shown)
    (view : shown_with pool sides servers tx paced ≡ seen) (i : ℕ)
    (drained : IfSome (slice_get seen.servers i) (IsDrained seen.queued)) where
  none-at : (v : Serving) → slice_get servers i ≡ Some v
      → list_any (λ e. is_reply_of v.number e.owner) (joined tx paced).items ≡ false
  none-at v at =
      let here : IfSome (slice_get (map (shown_server pool) servers) i)
      (IsDrained (queue_of tx paced)) = rw (← view) at drained in
      let own : IsDrained (queue_of tx paced) (shown_server pool v) =
      rw (get-map (shown_server pool) servers i v at) at here in
      drained-entries v.number v.slots (joined tx paced).items
      (all-at (ServerHolds pool (joined tx paced).items) servers i v kept.holds at).own
      (all-drained pool v.number tx paced v.slots own)

  pub unheld-at : IfSome (slice_get servers i) (λ v. AllByRecursion (IsUnheld pool) v.slots)
  unheld-at = cases (slice_get servers i) refl
    where
      cases : (o : Option Serving) → slice_get servers i ≡ o
          → IfSome o (λ v. AllByRecursion (IsUnheld pool) v.slots)
      cases None e = tt
      cases (Some v) e = unheld-all pool v.number (joined tx paced).items (none-at v e) v.slots
          (all-at (ServerHolds pool (joined tx paced).items) servers i v kept.holds e).each

  pub ended : (after : Pool) (now : List Serving) → ServerEnds i servers now pool after
      → Ended pool after sides servers now tx paced i seen
  ended after now h =
      let none = none-at h.server h.at in
      record {
        kept = end-kept pool after sides servers now (joined tx paced) i kept h none;
        left = rw (← view, get-map (shown_server pool) servers i h.server h.at)
            (end-servers pool after sides servers now (joined tx paced) i kept h none);
        clients = end-clients pool after sides servers now (joined tx paced) i kept h none;
        handed = end-handed pool after sides servers now (joined tx paced) i kept h none;
        places = end-places pool after sides servers now (joined tx paced) i kept h none;
      }

-- whose packets the replies to the newest request of a slot are
module _ (pool : Pool) (slot : ℕ) (small : slot < 8) where
  same-slot : (qs : List SlotRequest)
      → AllByRecursion (λ q. in_slot_of slot (shown_request pool q) ≡ is_in_slot slot q) qs
  same-slot [] = tt
  same-slot (q ∷ qs) =
      let own : slot % 8 ≡ slot = omega (arith, small) in
      (rw own refl, same-slot qs)

  same-owner : (n : ℕ) (o : Option SlotRequest)
      → option_map (λ (q : Served). Reply n q.number) (option_map (shown_request pool) o)
      ≡ option_map (owner_of n) o
  same-owner n None = refl
  same-owner n (Some q) = refl

  owner-shown : (v : Serving)
      → option_map (λ (q : Served). Reply v.number q.number)
      (find (in_slot_of slot) (shown_server pool v).slots)
      ≡ owner_in slot v
  owner-shown v = ap (option_map (λ (q : Served). Reply v.number q.number))
      (found-shown (shown_request pool) (in_slot_of slot) (is_in_slot slot) v.slots
      (same-slot v.slots))
      ∙ same-owner v.number (find (is_in_slot slot) v.slots)

  pub owner-at : (sides : List Side) (servers : List Serving) (tx : Ring EntryValue)
      (paced : Wheel) (seen : Shown) → shown_with pool sides servers tx paced ≡ seen → (i : ℕ)
      → i < length seen.servers → (v : Serving) (o : Option Owner) → v ≡ get_or servers i v
      → o ≡ owner_in slot v
      → IfSome (slice_get seen.servers i) (λ w. o ≡ option_map (λ (q : Served).
      Reply w.way.number q.number) (find (in_slot_of slot) w.slots))
  owner-at sides servers tx paced seen view i known v o looked is =
      let long : length seen.servers ≡ length servers =
      ap (λ (s : Shown). length s.servers) (sym view) ∙ length-map servers (shown_server pool) in
      let at = get-there servers i v (omega (arith, known, long)) looked in
      rw (← view, get-map (shown_server pool) servers i v at) (is ∙ sym (owner-shown v))

-- where a server session stands that is the other end of a client session
end-place : (pool : Pool) (peer client life : ℕ) (servers : List Serving)
    → position_or_len (is_end_of peer client life) (map (shown_server pool) servers)
    ≡ position_or_len (ends_at peer client life) servers
end-place pool peer client life [] = refl
end-place pool peer client life (v ∷ vs) = rw (end-place pool peer client life vs) refl

pub end-seen : (pool : Pool) (peer client life : ℕ) (servers : List Serving)
    → position (is_end_of peer client life) (map (shown_server pool) servers)
    ≡ position (ends_at peer client life) servers
end-seen pool peer client life servers =
    rw (end-place pool peer client life servers, length-map servers (shown_server pool)) refl

-- and where one stands that is of an older life
older-place : (pool : Pool) (peer life : ℕ) (servers : List Serving)
    → position_or_len (is_older peer life) (map (shown_server pool) servers)
    ≡ position_or_len (is_of_older peer life) servers
older-place pool peer life [] = refl
older-place pool peer life (v ∷ vs) = rw (older-place pool peer life vs) refl

pub older-seen : (pool : Pool) (peer life : ℕ) (servers : List Serving)
    → position (is_older peer life) (map (shown_server pool) servers)
    ≡ position (is_of_older peer life) servers
older-seen pool peer life servers =
    rw (older-place pool peer life servers, length-map servers (shown_server pool)) refl
