-- What a reply that leaves the ring does to its server session, to the pool and to all that always holds.
use Rattle.std.proofs.Common.{◌≡◌, ◌≢◌, ℕ, zero, suc, ◌+◌, ◌-◌, ◌≤◌, ◌<◌, Bool, true, false, ◌||◌}
use Rattle.std.proofs.Common.{cond, eqb, ltb, Option, Some, None, List, [], ◌∷◌, length, drop, refl}
use Rattle.std.proofs.Common.{sym, ap, subst, ◌∙◌, inl, inr, arith}
use Rattle.std.specs.Prelude.{IsTrue, map, option_map, position, slice_get, slice_set}
use Rattle.std.specs.List.{AllByRecursion, find, list_any, position_or_len}
use Rattle.std.proofs.lemmas.List.{length-map}
use Rattle.std.proofs.lemmas.Bool.{and_parts, cases_eq, eq-eqb, eqb-true, ne_eqb}
use Rattle.rpc_base.specs.Owners.{same_owner}
use Rattle.rpc_base.specs.Tables.{at_first}
use Rattle.rpc_base.specs.Taking.{TakenOut}
use Rattle.rpc_base.specs.declared.owner.Owner.{Owner}
use Rattle.rpc_base.specs.declared.owner.Owner.TheVariants.{Reply}
use Rattle.rpc_base.proofs.FindLemmas.{missing-none}
use Rattle.rpc_base.proofs.FirstLemmas.{found-holds, found-le}
use Rattle.rpc_base.proofs.TablesLemmas.{any-missing, position-at}
use Rattle.rpc_base.proofs.TakingLemmas.{find-passes, taken-fewer}
use Rattle.rpc_base.proofs.PlaceLemmas.{all-at, get-map}
use Rattle.buffer_pool.specs.Places.{IsHeld, released_at}
use Rattle.buffer_pool.specs.Pool.{Pool, buf_at, refs_of, spare_of, use_at}
use Rattle.buffer_pool.specs.Uses.{is_empty}
use Rattle.buffer_pool.specs.declared.usage.Use.TheVariants.{Empty, Full}
use Rattle.buffer_pool.proofs.PlacesLemmas.{named-one}
use Rattle.buffer_pool.proofs.PoolLemmas.{changed_other}
use Rattle.packet_header.specs.Parts.{packet_count}
use Rattle.packet_rings.specs.Entries.{is_of}
use Rattle.packet_rings.specs.Rings.{Ring, ring}
use Rattle.packet_rings.specs.Values.{EntryValue}
use Rattle.packet_rings.proofs.MentionsLemmas.{mentions-own, mentions-taken}
use Rattle.rpc_laws.specs.Packets.{IsSpelled, reply_packet}
use Rattle.rpc_laws.specs.Requests.{is_server}
use Rattle.client_core.proofs.CallsLemmas.{sum-at_first}
use Rattle.server_core.specs.declared.slot.SlotRequest.{SlotRequest}
use Rattle.server_core.specs.declared.slot.Stored.{Stored}
use Rattle.server_core.specs.Flushing.{HoldsReplies, is_reply_of}
use Rattle.server_core.specs.KeepsPool.{answer_names, names as slot_names, own_names, own_places}
use Rattle.server_core.specs.KeepsPool.{places as slot_places}
use Rattle.server_core.specs.Replies.{IsReplyIn, IsReplyTo, is_owner, packet_of as reply_of}
use Rattle.server_core.specs.Replies.{request_of}
use Rattle.server_core.specs.Serving.{one_left}
use Rattle.server_core.specs.Session.{Session as Serving, answer_of, owner_of}
use Rattle.server_core.specs.Shown.{shown as shown_server}
use Rattle.session_ends.specs.declared.side.Side.{Side}
use Rattle.session_ends.specs.Effects.{ServerGone, ServerSpells, SpellsReply}
use Rattle.session_store.specs.Queue.{packet_in, peer_in}
use Rattle.session_store.specs.Sides.{HasPlaces, IsOf, IsOfOwner, Kept, ServerHolds, ServerQueued}
use Rattle.session_store.specs.Sides.{is_end, places_in, served_places, shown_of, shown_side}
use Rattle.session_store.specs.Sides.{side_handed}
use Rattle.session_ends.specs.Sides.{HasReply, IsOfServer, has_number, numbers_in}
use Rattle.session_store.proofs.BesideLemmas.{rest-taken}
use Rattle.session_store.proofs.GoneLemmas.{find-map}
use Rattle.session_store.proofs.KeptLemmas.{ServerActs, clients-same, handed-same, server-acted}
use Rattle.session_store.proofs.KeptLemmas.{server-places, servers-set}
use Rattle.session_ends.proofs.SearchLemmas.{rises-apart, first-found, first-number}
use Rattle.session_ends.proofs.ListLemmas.{find-there, set-own}
use Rattle.session_store.proofs.PostedLemmas.{spare-released}
use Rattle.session_store.proofs.StandLemmas.{all-taken, ends-all, front-taken}
use Rattle.client_core.proofs.OthersLemmas.{released-buf}

-- the session with a number and a peer
pub record EndAt (servers : List Serving) (number peer : ℕ) : Type 0 where
  pub place : ℕ
  pub server : Serving
  pub at : slice_get servers place ≡ Some server
  pub numbered : server.number ≡ number
  pub peered : server.peer ≡ peer

end-cons : (v : Serving) (vs : List Serving) (number peer : ℕ) (b : Bool) → is_end number peer v ≡ b
    → (list_any (is_end number peer) vs ≡ true → EndAt vs number peer)
    → (b || list_any (is_end number peer) vs) ≡ true → EndAt (v ∷ vs) number peer
end-cons v vs number peer true t ih some =
    let parts = and_parts (eqb v.number number) (eqb v.peer peer) t in
    record {
      place = 0;
      server = v;
      at = refl;
      numbered = eqb-true v.number number parts.0;
      peered = eqb-true v.peer peer parts.1;
    }
end-cons v vs number peer false t ih some =
    let more = ih some in
    record {
      place = suc more.place;
      server = more.server;
      at = more.at;
      numbered = more.numbered;
      peered = more.peered;
    }

pub end-at : (servers : List Serving) (number peer : ℕ)
    → list_any (is_end number peer) servers ≡ true → EndAt servers number peer
end-at [] number peer some = cc
end-at (v ∷ vs) number peer some = end-cons v vs number peer (is_end number peer v) refl (end-at vs number peer) some

-- it is the only one with its number
module _ (pool : Pool) (sides : List Side) (servers : List Serving) (tx : Ring EntryValue)
    (kept : Kept pool sides servers tx) (number i : ℕ) (v : Serving)
    (at : slice_get servers i ≡ Some v) (own : v.number ≡ number) where
  others : (j : ℕ) (w : Serving) → slice_get servers j ≡ Some w → j ≢ i → w.number ≢ number
  others j w there other = λ t.
      rises-apart (numbers_in servers) i j v.number w.number kept.rises
      (get-map (λ (y : Serving). y.number) servers i v at)
      (get-map (λ (y : Serving). y.number) servers j w there) other (t ∙ sym own)

  pub find-server : find (is_server number) (map (shown_server pool) servers) ≡ Some (shown_server pool v)
  find-server = find-map (shown_server pool) (is_server number) servers i v
      at (eq-eqb v.number number own) (λ j w there other. ne_eqb w.number number
      (others j w there other))

  pub same-place : (j : ℕ) (w : Serving) → slice_get servers j ≡ Some w → w.number ≡ number → w ≡ v
  same-place j w there its = elim (cases_eq j i) [
    | inl same ↦ (let is : Some w ≡ Some v = sym there ∙ ap (λ n. slice_get servers n) same ∙ at in cc)
    | inr other ↦ absurd (others j w there other its)
  ]

-- a reply that the ring has is one of its session's
own-request : (n r : ℕ) (q : SlotRequest) (o : Owner) → o ≡ Reply n r → is_owner n o q ≡ true
    → same_owner o (owner_of n q) ≡ true
own-request n r q o own t =
    let parts = and_parts (eqb n n) (eqb q.number r) (rw own at t) in
    let same = eqb-true q.number r parts.1 in
    rw own (rw (eq-eqb n n refl, eq-eqb r q.number (sym same)) refl)

reply-cases : (pool : Pool) (entries : List EntryValue) (v : Serving) (r : ℕ) (e : EntryValue)
    → e.owner ≡ Reply v.number r → AllByRecursion (HoldsReplies v.number pool entries) v.slots
    → ((q : SlotRequest) → HoldsReplies v.number pool entries q
    → is_of (owner_of v.number q) e ≡ true → IsReplyIn q e)
    → list_any (is_owner v.number e.owner) v.slots ≡ true → (o : Option SlotRequest)
    → request_of v e ≡ o → IsReplyTo o e
reply-cases pool entries v r e own each is some None found = let no = missing-none (is_owner v.number e.owner) v.slots found in cc
reply-cases pool entries v r e own each is some (Some q) found =
    is q (found-holds (is_owner v.number e.owner)
    (HoldsReplies v.number pool entries) v.slots q each found)
    (own-request v.number r q e.owner own
    (find-passes (is_owner v.number e.owner) v.slots q found))

-- whatever picks it out of the ring
module _ (pool : Pool) (entries : List EntryValue) (v : Serving) (r : ℕ) (e : EntryValue)
    (own : e.owner ≡ Reply v.number r)
    (pick : (P : EntryValue → Type 0) → AllByRecursion P entries → P e)
    (held : ServerHolds pool entries v) where
  pub reply-stands : IsReplyTo (request_of v e) e
  reply-stands =
      let mine : is_reply_of v.number e.owner ≡ true = rw own (eq-eqb v.number v.number refl) in
      reply-cases pool entries v r e own held.each
      (λ q h t. pick (λ d. IsTrue (is_of (owner_of v.number q) d) → IsReplyIn q d) h.each t)
      (pick (λ d. IsTrue (is_reply_of v.number d.owner)
      → IsTrue (list_any (is_owner v.number d.owner) v.slots)) held.own mine)
      (request_of v e) refl

-- the place of a reply is named by its session
answer-named : (p : ℕ) (b : Bool) (o : Option Stored)
    → Some p ≡ cond b None (option_map (λ a. a.place) o) → 1 ≤ answer_names p o
answer-named p true o e = cc
answer-named p false None e = cc
answer-named p false (Some a) e = let same : p ≡ a.place = cc in omega (arith, named-one a.place p (sym same))

pub named-cases : (v : Serving) (e : EntryValue) (p : ℕ) → e.place ≡ Some p
    → (o : Option SlotRequest) → request_of v e ≡ o → IsReplyTo o e → 1 ≤ slot_names p v.slots
named-cases v e p is None found h = absurd h
named-cases v e p is (Some q) found h =
    let one = answer-named p (ltb (e.number + 1) (packet_count q.size)) (answer_of q.state) (sym is ∙ h.place_is) in
    omega (arith, one, found-le (is_owner v.number e.owner) (own_names p) v.slots q found)

released-use : (pool : Pool) (p : ℕ) (o : Option ℕ) → o ≢ Some p
    → use_at (released_at o pool) p ≡ use_at pool p
released-use pool p None other = refl
released-use pool p (Some q) other =
    changed_other pool.uses q p (Full (refs_of pool q - 1)) Empty (λ t. other (ap Some (sym t)))

-- a reply of session number leaves the ring
module _ (pool after : Pool) (sides : List Side) (servers now : List Serving) (tx : Ring EntryValue)
    (number r : ℕ) (e : EntryValue) (passes : EntryValue → Bool) (left : List EntryValue)
    (kept : Kept pool sides servers tx) (out : TakenOut passes e tx.items left)
    (own : e.owner ≡ Reply number r) where
  pub reply-held : IsHeld pool e.place
  reply-held = cases e.place refl
    where
      cases : (o : Option ℕ) → e.place ≡ o → IsHeld pool o
      cases None is = tt
      cases (Some p) is = omega (
        arith,
        kept.counted p,
        mentions-taken p passes e tx.items left out,
        mentions-own p e is,
      )

  reply-end : EndAt servers number e.peer
  reply-end = end-at servers number e.peer (subst (IsOfOwner sides servers e) own
      (all-taken (IsOf sides servers) passes e tx.items left out kept.stands).0)

  reply-of-end : (i : ℕ) (v : Serving) → slice_get servers i ≡ Some v → v.number ≡ number
      → IsReplyTo (request_of v e) e
  reply-of-end i v at its =
      reply-stands pool tx.items v r e (own ∙ ap (λ n. Reply n r) (sym its))
      (λ P all. (all-taken P passes e tx.items left out all).0)
      (all-at (ServerHolds pool tx.items) servers i v kept.holds at)

  pub reply-there : HasReply number e servers
  reply-there = cases (position (has_number number) servers) refl
    where
      cases : (o : Option ℕ) → position (has_number number) servers ≡ o → HasReply number e servers
      cases None none =
          let no = any-missing (has_number number) servers none in
          let yes = any-number servers reply-end.place reply-end.server reply-end.at reply-end.numbered in
          cc
        where
          any-number : (vs : List Serving) (i : ℕ) (v : Serving) → slice_get vs i ≡ Some v
              → v.number ≡ number → list_any (has_number number) vs ≡ true
          any-number [] i v at its = cc
          any-number (w ∷ ws) zero v at its = let same : w ≡ v = cc in let here : has_number number w ≡ true = ap (has_number number) same ∙ eq-eqb v.number number its in rw here refl
          any-number (w ∷ ws) (suc i) v at its = let more = any-number ws i v at its in or-true (has_number number w) (list_any (has_number number) ws) more
            where
              or-true : (a b : Bool) → b ≡ true → (a || b) ≡ true
              or-true true b t = refl
              or-true false b t = t
      cases (Some i) first = there (slice_get servers i) refl
        where
          there : (o : Option Serving) → slice_get servers i ≡ o → HasReply number e servers
          there None at =
              let within = (position-at (has_number number) servers i reply-end.server first).0 in
              absurd (past servers i within at)
            where
              past : (vs : List Serving) (i : ℕ) → i < length vs → slice_get vs i ≡ None → ⊥
              past [] i within at = absurd (omega (arith, within))
              past (w ∷ ws) zero within at = cc
              past (w ∷ ws) (suc i) within at = past ws i (omega (arith, within)) at
          there (Some v) at =
              let found = first-found servers number i v first at in
              subst (IsOfServer e) (sym found) (reply-of-end i v at (first-number servers number i v first at))

-- it left the ring
module _ (pool after : Pool) (sides : List Side) (servers now : List Serving) (tx : Ring EntryValue)
    (number r : ℕ) (e : EntryValue) (passes : EntryValue → Bool) (left : List EntryValue)
    (kept : Kept pool sides servers tx) (out : TakenOut passes e tx.items left)
    (own : e.owner ≡ Reply number r) (h : ServerGone number e servers now pool after) where
  its-number : h.server.number ≡ number
  its-number = first-number servers number h.place h.server h.first h.at

  its-owner : e.owner ≡ Reply h.server.number r
  its-owner = own ∙ ap (λ n. Reply n r) (sym its-number)

  its-reply : IsReplyTo (request_of h.server e) e
  its-reply = reply-of-end pool after sides servers now tx number r e passes left kept out own
      h.place h.server h.at its-number

  left-slots : h.later.slots ≡ at_first (is_owner h.server.number e.owner) one_left h.server.slots
  left-slots = ap (λ (x : Serving). x.slots) h.step.session

  left-names : (p : ℕ) → slot_names p h.later.slots ≡ slot_names p h.server.slots
  left-names p = ap (slot_names p) left-slots
      ∙ sum-at_first (is_owner h.server.number e.owner) one_left (own_names p) h.server.slots
      (λ q. refl)

  left-places : slot_places h.later.slots ≡ slot_places h.server.slots
  left-places = ap slot_places left-slots ∙ sum-at_first (is_owner h.server.number e.owner) one_left
      own_places h.server.slots (λ q. refl)

  reply-leaves : (p : ℕ) → slot_names p h.server.slots ≡ 0 → is_empty (use_at pool p) ≡ false
      → (slot_names p h.later.slots ≡ 0) × (use_at after p ≡ use_at pool p) × (buf_at after p ≡ buf_at pool p)
  reply-leaves p none used =
      let other : e.place ≢ Some p =
      λ is. absurd (omega (
        arith,
        none,
        named-cases h.server e p is (request_of h.server e) refl its-reply,
      )) in (
        left-names p ∙ none,
        ap (λ (x : Pool). use_at x p) h.step.pool
            ∙ released-use pool p e.place other,
        ap (λ (x : Pool). buf_at x p) h.step.pool
            ∙ released-buf pool p e.place,
      )

  reply-acts : ServerActs pool after sides servers h.place h.server h.later tx (ring left tx.size)
  reply-acts =
      let fewer = taken-fewer passes e tx.items left out in
      let some = reply-held pool after sides servers now tx number r e passes left kept out own in
      record {
        acts = record {
          leaves = reply-leaves;
          few = h.step.keeps_pool.apart;
          counts = h.step.counts passes tx.items left out kept.counted;
          beside = rest-taken (λ d. is_reply_of h.server.number d.owner) passes e tx.items left out
              (rw its-owner (eq-eqb h.server.number h.server.number refl));
          within = omega (arith, kept.within, fewer);
          size = refl;
        };
        keeps = h.step.keeps_pool;
        number = ap (λ (x : Serving). x.number) h.step.session;
        stands = ends-all sides servers h.place h.server h.later h.at
            (ap (λ (x : Serving). x.number) h.step.session)
            (ap (λ (x : Serving). x.peer) h.step.session) left
            (all-taken (IsOf sides servers) passes e tx.items left out kept.stands).1;
        holds = h.step.holds its-reply passes tx.items left out
            (all-at (ServerHolds pool tx.items) servers h.place h.server kept.holds h.at);
        queued = h.step.queued its-reply passes tx.items left out
            (all-at (ServerQueued tx.items) servers h.place h.server kept.replies h.at);
        served = omega (arith, left-places, all-at HasPlaces servers h.place h.server kept.served h.at);
        spare = omega (
          arith,
          left-places,
          ap (λ (x : Pool). spare_of x) h.step.pool,
          spare-released pool e.place some,
        );
      }

  pub reply-kept : Kept after sides now (ring left tx.size)
  reply-kept = subst (λ vs. Kept after sides vs (ring left tx.size)) (sym h.changed)
      (server-acted pool after sides servers h.place h.server h.later tx (ring left tx.size) h.at
      kept reply-acts)

  pub reply-clients : map (shown_side after) sides ≡ map (shown_side pool) sides
  reply-clients = clients-same pool after sides servers h.place h.server h.later tx
      (ring left tx.size) h.at kept reply-acts

  pub reply-handed : map (side_handed after) sides ≡ map (side_handed pool) sides
  reply-handed = handed-same pool after sides servers h.place h.server h.later tx
      (ring left tx.size) h.at kept reply-acts

  pub reply-servers : map (shown_server after) now ≡ map (shown_server pool) servers
  reply-servers =
      ap (map (shown_server after)) h.changed
      ∙ servers-set pool after sides servers h.place h.server h.later tx (ring left tx.size)
      h.at kept reply-acts
      ∙ ap (slice_set (map (shown_server pool) servers) h.place) h.step.same
      ∙ set-own (map (shown_server pool) servers) h.place (shown_server pool h.server)
      (get-map (shown_server pool) servers h.place h.server h.at)

  pub reply-places : spare_of after + places_in sides + served_places now
      ≡ spare_of pool + places_in sides + served_places servers
  reply-places = ap (λ vs. spare_of after + places_in sides + served_places vs) h.changed
      ∙ server-places pool after sides servers h.place h.server h.later tx (ring left tx.size) h.at
      kept reply-acts

-- the front of the ring is a reply
module _ (pool : Pool) (sides : List Side) (servers : List Serving) (tx : Ring EntryValue)
    (kept : Kept pool sides servers tx) (number r : ℕ) (e : EntryValue)
    (front : slice_get tx.items 0 ≡ Some e) (own : e.owner ≡ Reply number r) where
  front-end : EndAt servers number e.peer
  front-end = end-at servers number e.peer (subst (IsOfOwner sides servers e) own
      (all-at (IsOf sides servers) tx.items 0 e kept.stands front))

  end-found : find (is_server number) (map (shown_server pool) servers) ≡ Some (shown_server pool front-end.server)
  end-found = find-server pool sides servers tx kept number front-end.place front-end.server
      front-end.at front-end.numbered

  pub end-peer : peer_in (shown_of pool sides servers tx) e.owner ≡ Some e.peer
  end-peer = rw (own, end-found) (ap Some front-end.peered)

  pub end-reply : HasReply number e servers
  end-reply = reply-there pool pool sides servers servers tx number r e (λ d. false)
      (drop 1 tx.items) kept (front-taken tx.items e front) own

  spells-cases : (head body : List ℕ) (o : Option Serving) → find (has_number number) servers ≡ o
      → SpellsReply pool e head body o
      → IsSpelled (packet_in (shown_of pool sides servers tx) e.owner e.number) head body
  spells-cases head body None found h = absurd h
  spells-cases head body (Some v) found h =
      let its = eqb-true v.number number (find-passes (has_number number) servers v found) in
      let there = find-there (has_number number) servers v found in
      let same : v ≡ front-end.server =
      same-place pool sides servers tx kept number front-end.place front-end.server
      front-end.at front-end.numbered there.0 v there.1 its in
      let whole : reply_of pool v e ≡ reply_packet r e.number (Some (shown_server pool v)) =
      rw (own, eq-eqb v.number number its) refl in
      rw (own, end-found, ← same, ← whole) h

  pub end-spells : (head body : List ℕ) → ServerSpells number pool e head body servers
      → IsSpelled (packet_in (shown_of pool sides servers tx) e.owner e.number) head body
  end-spells head body h = spells-cases head body (find (has_number number) servers) refl h

-- a server session stands where its number is first seen
place-seen : (pool : Pool) (number : ℕ) (servers : List Serving)
    → position_or_len (is_server number)
    (map (shown_server pool) servers) ≡ position_or_len (has_number number) servers
place-seen pool number [] = refl
place-seen pool number (v ∷ vs) = rw (place-seen pool number vs) refl

pub position-seen : (pool : Pool) (number : ℕ) (servers : List Serving)
    → position (is_server number)
    (map (shown_server pool) servers) ≡ position (has_number number) servers
position-seen pool number servers = rw (place-seen pool number servers, length-map servers (shown_server pool)) refl
