-- What always holds of a store holds yet, once one of its sessions acted.
use Rattle.std.proofs.Common.{◌≡◌, ◌≢◌, ℕ, ◌+◌, ◌*◌, ◌≤◌, Bool, true, Some, List, [], ◌∷◌, length}
use Rattle.std.proofs.Common.{refl, sym, ap, subst, ◌∙◌, inl, inr, arith}
use Rattle.std.specs.Prelude.{map, slice_get, slice_set}
use Rattle.std.specs.List.{AllByRecursion}
use Rattle.std.proofs.lemmas.Bool.{cases_eq, cases_lt}
use Rattle.std.proofs.lemmas.List.Sums.{sum_by-cons}
use Rattle.rpc_base.proofs.PlaceLemmas.{all-at, get-map, set-here, set-other}
use Rattle.buffer_pool.specs.Uses.{is_empty}
use Rattle.buffer_pool.specs.Pool.{Pool, spare_of, use_at}
use Rattle.packet_rings.specs.Rings.{Ring}
use Rattle.packet_rings.specs.Values.{EntryValue}
use Rattle.node_laws.specs.QueuedPackets.{is_ask_of}
use Rattle.rpc_laws.specs.declared.tables.Client.{Client}
use Rattle.client_core.specs.KeepsPool.{names}
use Rattle.server_core.specs.Flushing.{is_reply_of}
use Rattle.server_core.specs.KeepsPool.{names as slot_names, places as slot_places}
use Rattle.server_core.specs.Session.{Session as Serving}
use Rattle.server_core.specs.Shown.{shown as shown_server}
use Rattle.session_ends.specs.declared.side.Side.{Side}
use Rattle.session_store.specs.Ends.{Ascends}
use Rattle.session_store.specs.Sides.{HasPlaces, HasSlots, IsOf, Kept, ServerHolds, ServerQueued}
use Rattle.session_store.specs.Sides.{SideAscends, SideQueued, names_in, places_in, served_names}
use Rattle.session_store.specs.Sides.{served_places, shown_side, side_handed}
use Rattle.session_ends.specs.Sides.{Rises, ServerKept, SideKept, numbers_in}
use Rattle.session_store.proofs.ActLemmas.{Acts, apart-then, server-holds, server-kept}
use Rattle.session_store.proofs.ActLemmas.{server-queued, server-shown, side-kept, side-queued}
use Rattle.session_store.proofs.ActLemmas.{side-handed, side-shown}
use Rattle.session_store.proofs.BesideLemmas.{ask-no-reply, ask-other, ask-replies, reply-asks}
use Rattle.session_store.proofs.BesideLemmas.{reply-no-reply, reply-other}
use Rattle.session_ends.proofs.ListLemmas.{all-from, all-set, map-kept, map-same, map-set, set-own}
use Rattle.session_ends.proofs.ListLemmas.{sum-one, sum-set, sum-two}
use Rattle.session_store.proofs.PlaceLemmas.{named-full, served-full}
use Rattle.server_core.proofs.HoldLemmas.{full-not-empty}
use Rattle.session_ends.proofs.SearchLemmas.{rises-apart}

-- no session names an empty place
sides-empty : (pool : Pool) (p : ℕ) (sides : List Side) → AllByRecursion (SideKept pool) sides
    → is_empty (use_at pool p) ≡ true → names_in p sides ≡ 0
sides-empty pool p [] keeps empty = refl
sides-empty pool p (s ∷ ss) keeps empty = elim (cases_lt 0 (names p s.session.active)) [
  | inl some ↦ (let used = full-not-empty (use_at pool p) (named-full pool p s.session.active keeps.0.kept (omega (arith, some))) in cc)
  | inr none ↦ omega (
    arith,
    sum_by-cons (λ x. names p x.session.active) s ss,
    sides-empty pool p ss keeps.1 empty,
    none,
  )
]

servers-empty : (pool : Pool) (p : ℕ) (servers : List Serving)
    → AllByRecursion (ServerKept pool) servers → is_empty (use_at pool p) ≡ true
    → served_names p servers ≡ 0
servers-empty pool p [] keeps empty = refl
servers-empty pool p (v ∷ vs) keeps empty = elim (cases_lt 0 (slot_names p v.slots)) [
  | inl some ↦ (let used = full-not-empty (use_at pool p) (served-full pool p v.slots keeps.0.kept (omega (arith, some))) in cc)
  | inr none ↦ omega (
    arith,
    sum_by-cons (λ x. slot_names p x.slots) v vs,
    servers-empty pool p vs keeps.1 empty,
    none,
  )
]

-- the number of a session that changed is its place
pub numbered-set : (sides : List Side) (i : ℕ) (side later : Side) → slice_get sides i ≡ Some side
    → later.session.number ≡ side.session.number
    → ((j : ℕ) → (s : Side) → slice_get sides j ≡ Some s → s.session.number ≡ j) → (j : ℕ)
    → (s : Side) → slice_get (slice_set sides i later) j ≡ Some s → s.session.number ≡ j
numbered-set sides i side later there same numbered j s e = elim (cases_eq j i) [
  | inl here ↦ (
      let own = set-here sides i side later there in
      let is : Some later ≡ Some s = sym own ∙ ap (λ n. slice_get (slice_set sides i later) n) (sym here) ∙ e in
      let one : later ≡ s = cc in
      ap (λ (x : Side). x.session.number) (sym one) ∙ same ∙ numbered i side there ∙ sym here)
  | inr other ↦ numbered j s (sym (set-other sides i j later other) ∙ e)
]

-- a client session acted
pub record ClientActs (pool after : Pool) (sides : List Side) (servers : List Serving) (i : ℕ)
    (side later : Side) (old new : Ring EntryValue) : Type 0 where
  pub acts : Acts (λ e. is_ask_of i e.owner) (λ p. names p side.session.active)
      (λ p. names p later.session.active) pool after old new
  pub keeps : SideKept after later
  pub number : later.session.number ≡ side.session.number
  pub ascends : SideAscends after later
  pub stands : AllByRecursion (IsOf (slice_set sides i later) servers) new.items
  pub queued : SideQueued new.items later
  pub slots : HasSlots later
  pub spare : spare_of after + 2 * length later.session.active ≡ spare_of pool + 2 * length side.session.active

module _ (pool after : Pool) (sides : List Side) (servers : List Serving) (i : ℕ)
    (side later : Side) (old new : Ring EntryValue) (there : slice_get sides i ≡ Some side)
    (kept : Kept pool sides servers old)
    (h : ClientActs pool after sides servers i side later old new) where
  abbrev mine : EntryValue → Bool
  mine e = is_ask_of i e.owner

  abbrev before : ℕ → ℕ
  before p = names p side.session.active

  abbrev now : ℕ → ℕ
  now p = names p later.session.active

  other-apart : (j : ℕ) (s : Side) → slice_get sides j ≡ Some s → j ≢ i → (p : ℕ)
      → names p s.session.active + before p ≤ 1
  other-apart j s at other p =
      omega (
        arith,
        sum-two (λ x. names p x.session.active) sides i j side s there at other,
        kept.apart p,
      )

  server-apart : (j : ℕ) (v : Serving) → slice_get servers j ≡ Some v → (p : ℕ)
      → slot_names p v.slots + before p ≤ 1
  server-apart j v at p =
      omega (
        arith,
        sum-one (λ x. slot_names p x.slots) servers j v at,
        sum-one (λ x. names p x.session.active) sides i side there,
        kept.apart p,
      )

  other-side : (j : ℕ) (s : Side) → slice_get sides j ≡ Some s → j ≢ i
      → shown_side after s ≡ shown_side pool s
  other-side j s at other =
      side-shown mine before now pool after old new h.acts s
      (all-at (SideKept pool) sides j s kept.keeps at) (other-apart j s at other)

  other-handed : (j : ℕ) (s : Side) → slice_get sides j ≡ Some s → j ≢ i
      → side_handed after s ≡ side_handed pool s
  other-handed j s at other =
      side-handed mine before now pool after old new h.acts s
      (all-at (SideKept pool) sides j s kept.keeps at) (other-apart j s at other)

  any-server : (j : ℕ) (v : Serving) → slice_get servers j ≡ Some v
      → shown_server after v ≡ shown_server pool v
  any-server j v at = server-shown mine before now pool after old new h.acts v
      (all-at (ServerKept pool) servers j v kept.serves at) (server-apart j v at)

  pub clients-set : map (shown_side after) (slice_set sides i later)
      ≡ slice_set (map (shown_side pool) sides) i (shown_side after later)
  clients-set = map-set (shown_side pool) (shown_side after) sides i later other-side

  pub handed-set : map (side_handed after) (slice_set sides i later)
      ≡ slice_set (map (side_handed pool) sides) i (side_handed after later)
  handed-set = map-set (side_handed pool) (side_handed after) sides i later other-handed

  pub handed-kept : side_handed after later ≡ side_handed pool side
      → map (side_handed after) (slice_set sides i later) ≡ map (side_handed pool) sides
  handed-kept same =
      handed-set ∙ ap (slice_set (map (side_handed pool) sides) i) same
      ∙ set-own (map (side_handed pool) sides) i (side_handed pool side)
      (get-map (side_handed pool) sides i side there)

  pub servers-same : map (shown_server after) servers ≡ map (shown_server pool) servers
  servers-same = map-same (shown_server pool) (shown_server after) servers any-server

  set-apart : (p : ℕ) → names_in p (slice_set sides i later) + served_names p servers ≤ 1
  set-apart p =
      apart-then mine before now pool after old new h.acts
      (λ q. names_in q sides + served_names q servers)
      (λ q. names_in q (slice_set sides i later) + served_names q servers) kept.apart
      (λ q. omega (arith, sum-set (λ x. names q x.session.active) sides i side later there))
      (λ q. omega (arith, sum-one (λ x. names q x.session.active) sides i side there))
      (λ q empty. omega (
        arith,
        sides-empty pool q sides kept.keeps empty,
        servers-empty pool q servers kept.serves empty,
      )) p

  pub client-places : spare_of after + places_in (slice_set sides i later) + served_places servers
      ≡ spare_of pool + places_in sides + served_places servers
  client-places = omega (arith, sum-set (λ s. 2 * length s.session.active) sides i side later there, h.spare)

  pub client-kept : Kept after (slice_set sides i later) servers new
  client-kept =
      record {
        numbered = numbered-set sides i side later there h.number kept.numbered;
        rises = kept.rises;
        keeps = all-set (SideKept after) sides i later h.keeps
            (λ j s at other. side-kept mine before now pool after old new h.acts s
            (all-at (SideKept pool) sides j s kept.keeps at) (other-apart j s at other));
        serves = all-from (ServerKept after) servers
            (λ j v at. server-kept mine before now pool after old new h.acts v
            (all-at (ServerKept pool) servers j v kept.serves at) (server-apart j v at));
        apart = set-apart;
        counted = h.acts.counts;
        stands = h.stands;
        holds = all-from (ServerHolds after new.items) servers
            (λ j v at. server-holds mine before now pool after old new h.acts v
            (all-at (ServerKept pool) servers j v kept.serves at) (server-apart j v at)
            (λ e t. ask-no-reply i v.number e.owner t) (λ e r t. ask-replies i v.number r e.owner t)
            (all-at (ServerHolds pool old.items) servers j v kept.holds at));
        queued = all-set (SideQueued new.items) sides i later h.queued
            (λ j s at other. side-queued mine before now pool after old new h.acts s
            (λ e r t. ask-other i s.session.number r e.owner
            (λ same. other (sym (kept.numbered j s at) ∙ same)) t)
            (all-at (SideQueued old.items) sides j s kept.queued at));
        replies = all-from (ServerQueued new.items) servers
            (λ j v at. server-queued mine before now pool after old new h.acts v
            (λ e r t. ask-replies i v.number r e.owner t)
            (all-at (ServerQueued old.items) servers j v kept.replies at));
        ascends = all-set (SideAscends after) sides i later h.ascends
            (λ j s at other. subst (λ (x : Client). Ascends x.calls) (sym (other-side j s at other))
            (all-at (SideAscends pool) sides j s kept.ascends at));
        within = h.acts.within;
        few = rw h.acts.size kept.few;
        slots = all-set HasSlots sides i later h.slots (λ j s at other. all-at HasSlots sides j s kept.slots at);
        served = kept.served;
      }

-- a server session acted
pub record ServerActs (pool after : Pool) (sides : List Side) (servers : List Serving) (i : ℕ)
    (v w : Serving) (old new : Ring EntryValue) : Type 0 where
  pub acts : Acts (λ e. is_reply_of v.number e.owner) (λ p. slot_names p v.slots)
      (λ p. slot_names p w.slots) pool after old new
  pub keeps : ServerKept after w
  pub number : w.number ≡ v.number
  pub stands : AllByRecursion (IsOf sides (slice_set servers i w)) new.items
  pub holds : ServerHolds after new.items w
  pub queued : ServerQueued new.items w
  pub served : HasPlaces w
  pub spare : spare_of after + slot_places w.slots ≡ spare_of pool + slot_places v.slots

module _ (pool after : Pool) (sides : List Side) (servers : List Serving) (i : ℕ) (v w : Serving)
    (old new : Ring EntryValue) (there : slice_get servers i ≡ Some v)
    (kept : Kept pool sides servers old)
    (h : ServerActs pool after sides servers i v w old new) where
  abbrev its : EntryValue → Bool
  its e = is_reply_of v.number e.owner

  abbrev named : ℕ → ℕ
  named p = slot_names p v.slots

  abbrev names-then : ℕ → ℕ
  names-then p = slot_names p w.slots

  client-apart : (j : ℕ) (s : Side) → slice_get sides j ≡ Some s → (p : ℕ)
      → names p s.session.active + named p ≤ 1
  client-apart j s at p =
      omega (
        arith,
        sum-one (λ x. names p x.session.active) sides j s at,
        sum-one (λ x. slot_names p x.slots) servers i v there,
        kept.apart p,
      )

  beside-apart : (j : ℕ) (x : Serving) → slice_get servers j ≡ Some x → j ≢ i → (p : ℕ)
      → slot_names p x.slots + named p ≤ 1
  beside-apart j x at other p =
      omega (
        arith,
        sum-two (λ y. slot_names p y.slots) servers i j v x there at other,
        kept.apart p,
      )

  any-side : (j : ℕ) (s : Side) → slice_get sides j ≡ Some s
      → shown_side after s ≡ shown_side pool s
  any-side j s at = side-shown its named names-then pool after old new h.acts s
      (all-at (SideKept pool) sides j s kept.keeps at) (client-apart j s at)

  other-server : (j : ℕ) (x : Serving) → slice_get servers j ≡ Some x → j ≢ i
      → shown_server after x ≡ shown_server pool x
  other-server j x at other =
      server-shown its named names-then pool after old new h.acts x
      (all-at (ServerKept pool) servers j x kept.serves at) (beside-apart j x at other)

  number-apart : (j : ℕ) (x : Serving) → slice_get servers j ≡ Some x → j ≢ i → x.number ≢ v.number
  number-apart j x at other =
      rises-apart (numbers_in servers) i j v.number x.number kept.rises
      (get-map (λ (y : Serving). y.number) servers i v there)
      (get-map (λ (y : Serving). y.number) servers j x at) other

  pub servers-set : map (shown_server after) (slice_set servers i w)
      ≡ slice_set (map (shown_server pool) servers) i (shown_server after w)
  servers-set = map-set (shown_server pool) (shown_server after) servers i w other-server

  pub clients-same : map (shown_side after) sides ≡ map (shown_side pool) sides
  clients-same = map-same (shown_side pool) (shown_side after) sides any-side

  pub handed-same : map (side_handed after) sides ≡ map (side_handed pool) sides
  handed-same = map-same (side_handed pool) (side_handed after) sides
      (λ j s at. side-handed its named names-then pool after old new h.acts s
      (all-at (SideKept pool) sides j s kept.keeps at) (client-apart j s at))

  then-apart : (p : ℕ) → names_in p sides + served_names p (slice_set servers i w) ≤ 1
  then-apart p =
      apart-then its named names-then pool after old new h.acts
      (λ q. names_in q sides + served_names q servers)
      (λ q. names_in q sides + served_names q (slice_set servers i w)) kept.apart
      (λ q. omega (arith, sum-set (λ x. slot_names q x.slots) servers i v w there))
      (λ q. omega (arith, sum-one (λ x. slot_names q x.slots) servers i v there))
      (λ q empty. omega (
        arith,
        sides-empty pool q sides kept.keeps empty,
        servers-empty pool q servers kept.serves empty,
      )) p

  pub server-places : spare_of after + places_in sides + served_places (slice_set servers i w)
      ≡ spare_of pool + places_in sides + served_places servers
  server-places = omega (arith, sum-set (λ x. slot_places x.slots) servers i v w there, h.spare)

  pub server-acted : Kept after sides (slice_set servers i w) new
  server-acted =
      record {
        numbered = kept.numbered;
        rises = subst (λ ns. Rises ns) (sym (map-kept (λ (x : Serving). x.number) servers i v w
            there h.number)) kept.rises;
        keeps = all-from (SideKept after) sides
            (λ j s at. side-kept its named names-then pool after old new h.acts s
            (all-at (SideKept pool) sides j s kept.keeps at) (client-apart j s at));
        serves = all-set (ServerKept after) servers i w h.keeps
            (λ j x at other. server-kept its named names-then pool after old new h.acts x
            (all-at (ServerKept pool) servers j x kept.serves at) (beside-apart j x at other));
        apart = then-apart;
        counted = h.acts.counts;
        stands = h.stands;
        holds = all-set (ServerHolds after new.items) servers i w h.holds
            (λ j x at other. server-holds its named names-then pool after old new h.acts x
            (all-at (ServerKept pool) servers j x kept.serves at) (beside-apart j x at other)
            (λ e t. reply-no-reply v.number x.number e.owner (number-apart j x at other) t)
            (λ e r t. reply-other v.number x.number r e.owner (number-apart j x at other) t)
            (all-at (ServerHolds pool old.items) servers j x kept.holds at));
        queued = all-from (SideQueued new.items) sides
            (λ j s at. side-queued its named names-then pool after old new h.acts s
            (λ e r t. reply-asks v.number s.session.number r e.owner t)
            (all-at (SideQueued old.items) sides j s kept.queued at));
        replies = all-set (ServerQueued new.items) servers i w h.queued
            (λ j x at other. server-queued its named names-then pool after old new h.acts x
            (λ e r t. reply-other v.number x.number r e.owner (number-apart j x at other) t)
            (all-at (ServerQueued old.items) servers j x kept.replies at));
        ascends = all-from (SideAscends after) sides
            (λ j s at. subst (λ (x : Client). Ascends x.calls) (sym (any-side j s at))
            (all-at (SideAscends pool) sides j s kept.ascends at));
        within = h.acts.within;
        few = rw h.acts.size kept.few;
        slots = kept.slots;
        served = all-set HasPlaces servers i w h.served (λ j x at other. all-at HasPlaces servers j x kept.served at);
      }
