-- A worker's answer, and a server session that is made: what always holds of a store holds then.
use Rattle.std.proofs.Common.{◌≡◌, ℕ, zero, suc, ◌+◌, ◌<◌, Bool, true, false, ◌||◌, Option, Some}
use Rattle.std.proofs.Common.{None, List, [], ◌∷◌, ◌++◌, length, length-append, refl, sym, ap}
use Rattle.std.proofs.Common.{subst, ◌∙◌, inl, inr, arith}
use Rattle.std.specs.Prelude.{IfSome, IsTrue, map, slice_get, slice_set}
use Rattle.std.specs.List.{AllByRecursion, find, list_any}
use Rattle.std.proofs.lemmas.Bool.{cases_eq, eq-eqb, ne_eqb}
use Rattle.std.proofs.lemmas.List.Sums.{sum_by-append, sum_by-cons}
use Rattle.rpc_base.specs.declared.owner.Owner.{Owner}
use Rattle.rpc_base.specs.declared.owner.Owner.TheVariants.{Ask, Reply, Control}
use Rattle.rpc_base.proofs.FirstLemmas.{all-push}
use Rattle.buffer_pool.specs.Pool.{Pool, spare_of}
use Rattle.packet_header.specs.Parts.{packet_count}
use Rattle.packet_rings.specs.Rings.{Ring, ring}
use Rattle.packet_rings.specs.Values.{EntryValue}
use Rattle.rpc_laws.specs.Requests.{is_request}
use Rattle.rpc_laws.specs.declared.tables.Server.{Server}
use Rattle.server_core.specs.Flushing.{is_reply_of}
use Rattle.server_core.proofs.AskedLemmas.{none-numbered, own-numbered}
use Rattle.server_core.proofs.SpareLemmas.{places-most}
use Rattle.server_core.specs.declared.slot.SlotRequest.{SlotRequest}
use Rattle.server_core.specs.KeepsPool.{names as slot_names}
use Rattle.server_core.specs.Session.{IsSession as IsServing, Session as Serving, newest}
use Rattle.server_core.specs.Session.{new_session}
use Rattle.server_core.specs.Shown.{shown as shown_server}
use Rattle.session_ends.specs.declared.side.Side.{Side}
use Rattle.session_store.specs.Changes.{AnswersAt, FinishesAt, is_waited}
use Rattle.session_store.specs.Effects.{ServerFinishes}
use Rattle.server_core.specs.Finishing.{Finishes}
use Rattle.session_store.specs.Sides.{HasPlaces, IsOf, IsOfOwner, Kept, ServerHolds, ServerQueued}
use Rattle.session_store.specs.Sides.{is_end, places_in, served_places, shown_side, side_handed}
use Rattle.session_ends.specs.Sides.{Rises, ServerKept, numbers_in}
use Rattle.session_store.proofs.BesideLemmas.{rest-push}
use Rattle.session_store.proofs.KeptLemmas.{ServerActs, clients-same, handed-same, server-acted}
use Rattle.session_store.proofs.KeptLemmas.{server-places, servers-set}
use Rattle.session_ends.proofs.ListLemmas.{set-own}
use Rattle.session_store.proofs.ReplyGoneLemmas.{end-at}
use Rattle.session_store.proofs.StandLemmas.{ends-all}
use Rattle.rpc_base.proofs.BasicLemmas.{or-right}
use Rattle.rpc_base.proofs.PlaceLemmas.{all-at, get-map}

-- an element that passes is in the list
pub any-set : {A : Type 0} (p : A → Bool) (xs : List A) (i : ℕ) (x y : A) → slice_get xs i ≡ Some x
    → p y ≡ true → list_any p (slice_set xs i y) ≡ true
any-set p [] i x y e t = cc
any-set p (z ∷ zs) zero x y e t = rw t refl
any-set p (z ∷ zs) (suc i) x y e t =
    or-right (p z) (list_any p (slice_set zs i y)) (any-set p zs i x y e t)

any-front : {A : Type 0} (p : A → Bool) (xs : List A) (y : A) → list_any p xs ≡ true
    → list_any p (xs ++ y ∷ []) ≡ true
any-front p [] y t = cc
any-front p (x ∷ xs) y t = cases (p x) t (any-front p xs y)
  where
    cases : (b : Bool) → (b || list_any p xs) ≡ true
        → (list_any p xs ≡ true → list_any p (xs ++ y ∷ []) ≡ true)
        → (b || list_any p (xs ++ y ∷ [])) ≡ true
    cases true t ih = refl
    cases false t ih = ih t

-- the session with a reply that it put behind the queue
pub new-stands : (sides : List Side) (servers : List Serving) (i r : ℕ) (v w : Serving)
    (e : EntryValue) → slice_get servers i ≡ Some v → e.owner ≡ Reply w.number r → e.peer ≡ w.peer
    → IsOf sides (slice_set servers i w) e
new-stands sides servers i r v w e at own peer =
    subst (IsOfOwner sides (slice_set servers i w) e) (sym own)
    (any-set (is_end w.number e.peer) servers i v w
    at (rw (eq-eqb w.number w.number refl, eq-eqb w.peer e.peer (sym peer)) refl))

pub own-reply : (n r : ℕ) (o : Owner) → o ≡ Reply n r → is_reply_of n o ≡ true
own-reply n r o own = rw own (eq-eqb n n refl)

-- a job of the session at a place is finished
abbrev pub finishes-at : (i r : ℕ) (bytes : List ℕ) (o : Option EntryValue) (servers : List Serving)
    (pool after : Pool) (x w : Serving) → slice_get servers i ≡ Some x
    → Finishes r bytes o x w pool after
    → ServerFinishes i r bytes o servers (slice_set servers i w) pool after
finishes-at i r bytes o servers pool after x w at step =
    record { server = x; at = at; later = w; step = step; changed = refl }

-- an answer came
module _ (pool after : Pool) (sides : List Side) (servers now : List Serving) (tx : Ring EntryValue)
    (i r : ℕ) (bytes : List ℕ) (e : EntryValue) (kept : Kept pool sides servers tx)
    (h : ServerFinishes i r bytes (Some e) servers now pool after)
    (has-room : length tx.items < tx.size) where
  same-number : h.later.number ≡ h.server.number
  same-number = ap (λ (x : Server). x.way.number) h.step.finished.shown_is

  same-peer : h.later.peer ≡ h.server.peer
  same-peer = ap (λ (x : Server). x.way.peer) h.step.finished.shown_is

  finish-acts : ServerActs pool after sides servers i h.server h.later tx
      (ring (tx.items ++ e ∷ []) tx.size)
  finish-acts =
      let reply = h.step.finished.reply in
      record {
        acts = record {
          leaves = h.step.places.others;
          few = h.step.places.keeps_pool.apart;
          counts = h.step.counts tx.items kept.counted;
          beside = rest-push (λ d. is_reply_of h.server.number d.owner) tx.items e
              (own-reply h.server.number r e.owner (reply.owner ∙ ap (λ n. Reply n r) same-number));
          within = omega (arith, has-room, length-append tx.items (e ∷ []));
          size = refl;
        };
        keeps = h.step.places.keeps_pool;
        number = same-number;
        stands = all-push (IsOf sides (slice_set servers i h.later)) tx.items e
            (ends-all sides servers i h.server h.later h.at same-number same-peer tx.items
            kept.stands) (new-stands sides servers i r h.server h.later e h.at reply.owner
            reply.peer);
        holds = h.step.holds tx.items
            (all-at (ServerHolds pool tx.items) servers i h.server kept.holds h.at);
        queued = h.step.queued tx.items
            (all-at (ServerQueued tx.items) servers i h.server kept.replies h.at);
        served = places-most h.later h.step.then_sound;
        spare = h.step.places.spare;
      }

  pub finish-kept : Kept after sides now (ring (tx.items ++ e ∷ []) tx.size)
  finish-kept = subst (λ vs. Kept after sides vs (ring (tx.items ++ e ∷ []) tx.size))
      (sym h.changed) (server-acted pool after sides servers i h.server h.later tx
      (ring (tx.items ++ e ∷ []) tx.size) h.at kept finish-acts)

  pub finish-clients : map (shown_side after) sides ≡ map (shown_side pool) sides
  finish-clients = clients-same pool after sides servers i h.server h.later tx
      (ring (tx.items ++ e ∷ []) tx.size) h.at kept finish-acts

  pub finish-handed : map (side_handed after) sides ≡ map (side_handed pool) sides
  finish-handed = handed-same pool after sides servers i h.server h.later tx
      (ring (tx.items ++ e ∷ []) tx.size) h.at kept finish-acts

  pub finish-places : spare_of after + places_in sides + served_places now
      ≡ spare_of pool + places_in sides + served_places servers
  finish-places = ap (λ vs. spare_of after + places_in sides + served_places vs) h.changed
      ∙ server-places pool after sides servers i h.server h.later tx
      (ring (tx.items ++ e ∷ []) tx.size) h.at kept finish-acts

-- none came
module _ (pool after : Pool) (sides : List Side) (servers now : List Serving) (tx : Ring EntryValue)
    (i r : ℕ) (bytes : List ℕ) (h : ServerFinishes i r bytes None servers now pool after) where
  left-servers : now ≡ servers
  left-servers =
      h.changed ∙ ap (slice_set servers i) h.step.left.session
      ∙ set-own servers i h.server h.at

  pub left-kept : Kept pool sides servers tx → Kept after sides now tx
  left-kept kept = rw (left-servers, h.step.left.pool) kept

  pub left-places : spare_of after + places_in sides + served_places now
      ≡ spare_of pool + places_in sides + served_places servers
  left-places = rw (left-servers, h.step.left.pool) refl

  pub left-handed : map (side_handed after) sides ≡ map (side_handed pool) sides
  left-handed = rw h.step.left.pool refl

  pub left-shown : map (shown_server after) now ≡ map (shown_server pool) servers
  left-shown = rw (left-servers, h.step.left.pool) refl

  pub left-at : FinishesAt i r bytes None (map (shown_server pool) servers)
      (map (shown_server after) now)
  left-at = (
    rw (get-map (shown_server pool) servers i h.server h.at) h.step.left.waited,
    left-shown,
  )

-- the newest request of a slot, as it is shown
last-cases : (pool : Pool) (v : Serving) (r n : ℕ) → IsServing v → (o : Option SlotRequest)
    → newest r v ≡ o → is_waited r (shown_server pool v) ≡ true
    → IfSome o (λ q. n + 1 ≡ packet_count q.size)
    → IfSome (find (is_request r) (shown_server pool v).slots) (λ q. n + 1 ≡ packet_count q.size)
last-cases pool v r n sound None e waited last = rw (none-numbered pool v r sound (rw e tt)) tt
last-cases pool v r n sound (Some q) e waited last = elim (cases_eq q.number r) [
  | inl same ↦ rw (own-numbered pool v r q sound e same) last
  | inr other ↦ rw (none-numbered pool v r sound (rw e other)) tt
]

module _ (pool after : Pool) (sides : List Side) (servers now : List Serving) (tx : Ring EntryValue)
    (i r : ℕ) (bytes : List ℕ) (e : EntryValue) (kept : Kept pool sides servers tx)
    (h : ServerFinishes i r bytes (Some e) servers now pool after)
    (has-room : length tx.items < tx.size) (sound : IsServing h.server) where
  pub finish-at : AnswersAt i r bytes e (map (shown_server pool) servers)
      (map (shown_server after) now)
  finish-at =
      let f = h.step.finished in
      let number = same-number pool after sides servers now tx i r bytes e kept h has-room in
      let peer = same-peer pool after sides servers now tx i r bytes e kept h has-room in
      let acts = finish-acts pool after sides servers now tx i r bytes e kept h has-room in
      record {
        server = shown_server pool h.server;
        place = get-map (shown_server pool) servers i h.server h.at;
        waited = f.waited;
        owner = f.reply.owner ∙ ap (λ n. Reply n r) number;
        peer = f.reply.peer ∙ peer;
        last = last-cases pool h.server r e.number sound (newest r h.server) refl f.waited f.last;
        changed = ap (map (shown_server after)) h.changed
            ∙ servers-set pool after sides servers i h.server h.later tx
            (ring (tx.items ++ e ∷ []) tx.size) h.at kept acts
            ∙ ap (slice_set (map (shown_server pool) servers) i) f.shown_is;
      }

-- a server session more
module _ (sides : List Side) (servers : List Serving) (v : Serving) where
  of-more : (d : EntryValue) (o : Owner) → IsOfOwner sides servers d o
      → IsOfOwner sides (servers ++ v ∷ []) d o
  of-more d (Ask n r) h = h
  of-more d (Reply t r) h = any-front (is_end t d.peer) servers v h
  of-more d Control h = h

  all-more : (ds : List EntryValue) → AllByRecursion (IsOf sides servers) ds
      → AllByRecursion (IsOf sides (servers ++ v ∷ [])) ds
  all-more [] all = tt
  all-more (d ∷ ds) all = (of-more d d.owner all.0, all-more ds all.1)

rises-end : (ns : List ℕ) (n : ℕ) → Rises ns → AllByRecursion (λ m. m < n) ns → Rises (ns ++ n ∷ [])
rises-end [] n up below = (tt, tt)
rises-end (m ∷ ms) n up below = (all-push (λ k. m < k) ms n up.0 below.0, rises-end ms n up.1 below.1)

numbers-end : (servers : List Serving) (v : Serving)
    → numbers_in (servers ++ v ∷ []) ≡ numbers_in servers ++ v.number ∷ []
numbers-end [] v = refl
numbers-end (w ∷ ws) v = ap (λ ns. w.number ∷ ns) (numbers-end ws v)

below-numbers : (pool : Pool) (servers : List Serving) (n : ℕ)
    → AllByRecursion (λ v. v.way.number < n) (map (shown_server pool) servers)
    → AllByRecursion (λ m. m < n) (numbers_in servers)
below-numbers pool [] n all = tt
below-numbers pool (v ∷ vs) n all = (all.0, below-numbers pool vs n all.1)

number-below : (pool : Pool) (servers : List Serving) (n i : ℕ) (v : Serving)
    → AllByRecursion (λ x. x.way.number < n) (map (shown_server pool) servers)
    → slice_get servers i ≡ Some v → v.number < n
number-below pool servers n i v all at =
    all-at (λ (x : Server). x.way.number < n)
    (map (shown_server pool) servers) i (shown_server pool v) all
    (get-map (shown_server pool) servers i v at)

-- no reply of it is queued yet
unowned : (pool : Pool) (sides : List Side) (servers : List Serving) (n : ℕ)
    → AllByRecursion (λ v. v.way.number < n) (map (shown_server pool) servers) → (e : EntryValue)
    (o : Owner) → IsOfOwner sides servers e o → is_reply_of n o ≡ false
unowned pool sides servers n below e (Ask s r) h = refl
unowned pool sides servers n below e (Reply t r) h =
    let server = end-at servers t e.peer h in
    let less = number-below pool servers n server.place server.server below server.at in
    ne_eqb n t (λ same. absurd (omega (arith, less, server.numbered, same)))
unowned pool sides servers n below e Control h = refl

new-own : (pool : Pool) (sides : List Side) (servers : List Serving) (n : ℕ)
    (P : EntryValue → Type 0) → AllByRecursion (λ v. v.way.number < n)
    (map (shown_server pool) servers) → (es : List EntryValue)
    → AllByRecursion (IsOf sides servers) es
    → AllByRecursion (λ e. IsTrue (is_reply_of n e.owner) → P e) es
new-own pool sides servers n P below [] all = tt
new-own pool sides servers n P below (e ∷ es) all =
    (λ is. (let no = unowned pool sides servers n below e e.owner all.0 in cc), new-own pool sides servers n P below es all.1)

pub kept-server : (pool : Pool) (sides : List Side) (servers : List Serving) (tx : Ring EntryValue)
    (v : Serving) (n client life peer credits : ℕ) → Kept pool sides servers tx
    → AllByRecursion (λ x. x.way.number < n) (map (shown_server pool) servers)
    → v ≡ new_session n client life peer credits → Kept pool sides (servers ++ v ∷ []) tx
kept-server pool sides servers tx v n client life peer credits kept below new =
    let slots : v.slots ≡ [] = ap (λ (x : Serving). x.slots) new in
    let number : v.number ≡ n = ap (λ (x : Serving). x.number) new in
    record {
      numbered = kept.numbered;
      rises = subst (λ ns. Rises ns) (sym (numbers-end servers v))
          (rises-end (numbers_in servers) v.number kept.rises
          (subst (λ m. AllByRecursion (λ k. k < m) (numbers_in servers)) (sym number)
          (below-numbers pool servers n below)));
      keeps = kept.keeps;
      serves = all-push (ServerKept pool) servers v kept.serves
          (rw slots (record { kept = tt; apart = λ p. omega arith }));
      apart = λ p. omega (
        arith,
        sum_by-append (λ x. slot_names p x.slots) servers (v ∷ []),
        sum_by-cons (λ x. slot_names p x.slots) v [],
        ap (slot_names p) slots,
        kept.apart p,
      );
      counted = kept.counted;
      stands = all-more sides servers v tx.items kept.stands;
      holds = all-push (ServerHolds pool tx.items) servers v kept.holds
          (record {
            own = rw number (new-own pool sides servers n _ below tx.items kept.stands);
            each = rw slots tt;
          });
      queued = kept.queued;
      replies = all-push (ServerQueued tx.items) servers v kept.replies (rw slots tt);
      ascends = kept.ascends;
      within = kept.within;
      few = kept.few;
      slots = kept.slots;
      served = all-push HasPlaces servers v kept.served (rw slots (omega arith));
    }
