-- Where no packet of a call is queued, no entry names its request.
use Rattle.std.proofs.Common.{◌≡◌, ◌≢◌, ℕ, zero, suc, ◌+◌, ◌≤◌, ◌<◌, Bool, true, false, ◌&&◌, ◌||◌}
use Rattle.std.proofs.Common.{cond, ltb, Option, Some, None, List, [], ◌∷◌, refl, sym, ap}
use Rattle.std.proofs.Common.{subst, ◌∙◌, inl, inr, arith}
use Rattle.std.specs.Prelude.{◌==◌, map, option_map, slice_get}
use Rattle.std.specs.List.{AllByRecursion, find, list_any}
use Rattle.std.proofs.lemmas.Bool.{cases_eq, eq-eqb, eqb-true}
use Rattle.rpc_base.specs.Owners.{same_owner}
use Rattle.rpc_base.specs.Tables.{without_first}
use Rattle.rpc_base.specs.declared.owner.Owner.{Owner}
use Rattle.rpc_base.specs.declared.owner.Owner.TheVariants.{Ask, Reply, Control}
use Rattle.rpc_base.proofs.FindLemmas.{skip-found}
use Rattle.rpc_base.proofs.FirstLemmas.{found-le}
use Rattle.rpc_base.proofs.TakingLemmas.{find-passes}
use Rattle.rpc_base.proofs.PlaceLemmas.{all-at}
use Rattle.buffer_pool.specs.Pool.{Pool}
use Rattle.buffer_pool.proofs.PlacesLemmas.{named-one}
use Rattle.packet_header.specs.Parts.{packet_count}
use Rattle.packet_rings.specs.Entries.{is_entry, is_of}
use Rattle.packet_rings.specs.Mentions.{mentions}
use Rattle.packet_rings.specs.Rings.{Ring}
use Rattle.packet_rings.specs.Values.{EntryValue}
use Rattle.packet_rings.proofs.MentionsLemmas.{mentions-cons, mentions-none, mentions-other}
use Rattle.node_laws.specs.Windows.{InWindow, Inside, Stands, Windows}
use Rattle.pacing_wheel.specs.Wheel.{Wheel}
use Rattle.rpc_laws.specs.Calls.{is_active}
use Rattle.session_ends.specs.Joined.{joined, queue_of, queued_of}
use Rattle.session_store.proofs.UndueLemmas.{queue-undue, queued-undue}
use Rattle.rpc_laws.specs.Queues.{is_queued}
use Rattle.rpc_laws.specs.Sessions.{is_client}
use Rattle.client_core.specs.declared.call.ActiveCall.{ActiveCall}
use Rattle.client_core.specs.KeepsPool.{names}
use Rattle.client_core.specs.Posting.{IsPacketOf, call_of, is_owner, place_of}
use Rattle.client_core.specs.Replies.{IsUnheld, NextIsUnheld, call_as, is_request}
use Rattle.client_core.specs.Session.{Session, queued_in}
use Rattle.client_core.specs.Shown.{shown_active}
use Rattle.client_core.proofs.OutcomeLemmas.{active-found}
use Rattle.client_core.proofs.PlacesLemmas.{names-without, own_names}
use Rattle.client_core.proofs.QueuedLemmas.{idle-call}
use Rattle.server_core.specs.KeepsPool.{names as slot_names}
use Rattle.server_core.specs.Replies.{request_of}
use Rattle.server_core.specs.Session.{Session as Serving}
use Rattle.session_ends.specs.declared.side.Side.{Side}
use Rattle.session_store.specs.Sides.{IsOf, IsOfOwner, Kept, ServerHolds, SideQueued, shown_side}
use Rattle.session_store.proofs.EndLemmas.{calls-end, same-owners}
use Rattle.session_store.proofs.GoneLemmas.{find-side}
use Rattle.session_ends.proofs.ListLemmas.{sum-one, sum-two}
use Rattle.session_store.proofs.ReplyGoneLemmas.{end-at, named-cases, reply-stands}
use Rattle.session_store.proofs.StandLemmas.{of-side, owner-is}
use Rattle.client_core.proofs.QueuedLemmas.{owner-is as ask-owner}

-- the call that an entry of a session is a packet of
pub record OfCall (s : Session) (e : EntryValue) : Type 0 where
  pub call : ActiveCall
  pub found : call_of s e ≡ Some call
  pub number : e.number < call.posted
  pub place : e.place ≡ place_of call e.number
  pub owner : e.owner ≡ Ask s.number call.request

of-cases : (s : Session) (e : EntryValue) (o : Option ActiveCall) → call_of s e ≡ o → IsPacketOf o e
    → OfCall s e
of-cases s e None f h = absurd h
of-cases s e (Some c) f h =
    record {
      call = c;
      found = f;
      number = h.0;
      place = h.1;
      owner = ask-owner s.number c.request e.owner
          (find-passes (is_owner s.number e.owner) s.active c f);
    }

pub of-call : (s : Session) (e : EntryValue) → IsPacketOf (call_of s e) e → OfCall s e
of-call s e h = of-cases s e (call_of s e) refl h

-- places that no entry names
pub none-named : (p : ℕ) (es : List EntryValue)
    → ((k : ℕ) (d : EntryValue) → slice_get es k ≡ Some d → mentions p (d ∷ []) ≡ 0)
    → mentions p es ≡ 0
none-named p [] each = refl
none-named p (e ∷ es) each =
    omega (
      arith,
      mentions-cons p e es,
      each 0 e refl,
      none-named p es (λ k d at. each (suc k) d at),
    )

pub none-at : (p : EntryValue → Bool) (es : List EntryValue) (k : ℕ) (d : EntryValue)
    → list_any p es ≡ false → slice_get es k ≡ Some d → p d ≡ false
none-at p [] k d none at = cc
none-at p (e ∷ es) zero d none at = let same : e ≡ d = cc in ap p (sym same) ∙ left (p e) (list_any p es) none
  where
    left : (a b : Bool) → (a || b) ≡ false → a ≡ false
    left true b t = cc
    left false b t = refl
none-at p (e ∷ es) (suc k) d none at = none-at p es k d (right (p e) (list_any p es) none) at
  where
    right : (a b : Bool) → (a || b) ≡ false → b ≡ false
    right true b t = cc
    right false b t = t

pub named-found : (test : ActiveCall → Bool) (c : ActiveCall) (cs : List ActiveCall)
    → find test cs ≡ Some c → (p : ℕ) → c.ask ≡ p → 1 ≤ names p cs
named-found test c cs f p same = omega (arith, found-le test (own_names p) cs c f, named-one c.ask p same)

module _ (pool : Pool) (sides : List Side) (servers : List Serving) (tx : Ring EntryValue)
    (kept : Kept pool sides servers tx) (i r : ℕ) (side : Side) (at : slice_get sides i ≡ Some side)
    (c : ActiveCall) (found : call_as r side.session ≡ Some c) (own : c.request ≡ r) where
  -- an entry that names the call's request is the call's
  module _ (k : ℕ) (d : EntryValue) (there : slice_get tx.items k ≡ Some d) where
    stands : IsOf sides servers d
    stands = all-at (IsOf sides servers) tx.items k d kept.stands there

    same-session : (call : OfCall side.session d) → is_of (Ask i r) d ≡ false
        → call.call.ask ≡ c.ask → ⊥
    same-session call other same =
        let apart : (x : ActiveCall) → is_request r x ≡ true
        → is_owner side.session.number d.owner x ≡ false =
        λ x t. by x (is_owner side.session.number d.owner x) refl t in
        let away = skip-found (is_request r) (is_owner side.session.number d.owner) side.session.active apart in
        let rest = names-without c.ask (is_request r) c side.session.active found
        (omega (arith, named-one c.ask c.ask refl)) (own-most) in
        absurd (omega (
          arith,
          rest,
          named-found (is_owner side.session.number d.owner) call.call
              (without_first (is_request r) side.session.active) (away ∙ call.found) c.ask same,
        ))
      where
        own-most : names c.ask side.session.active ≤ 1
        own-most = omega (arith, sum-one (λ s. names c.ask s.session.active) sides i side at, kept.apart c.ask)

        by : (x : ActiveCall) (b : Bool) → is_owner side.session.number d.owner x ≡ b
            → is_request r x ≡ true → b ≡ false
        by x false t u = refl
        by x true t u =
            let owner = ask-owner side.session.number x.request d.owner t in
            let whole : d.owner ≡ Ask i r =
            owner ∙ ap (λ n. Ask n x.request) (kept.numbered i side at)
            ∙ ap (Ask i) (eqb-true x.request r u) in
            let yes : is_of (Ask i r) d ≡ true =
            ap (λ o. same_owner o (Ask i r)) whole
            ∙ rw (eq-eqb i i refl, eq-eqb r r refl) refl in
            let no : true ≡ false = sym yes ∙ other in
            cc

    of-ask : (t q : ℕ) → d.owner ≡ Ask t q → is_of (Ask i r) d ≡ false → (p : ℕ) → d.place ≡ Some p
        → p ≢ c.ask
    of-ask t q its other p placed same =
        let its-side = of-side sides servers t q d its stands in
        let call = of-call its-side.side.session d its-side.is.2 in
        let ask = by-place call.call (ltb d.number (packet_count call.call.len)) p (sym placed ∙ call.place) in
        elim (cases_eq t i) [
          | inl here ↦ (
              let is-one : Some its-side.side ≡ Some side = sym its-side.at ∙ ap (λ n. slice_get sides n) here ∙ at in
              let one : its-side.side ≡ side = cc in
              same-session-as its-side.side one call other (sym ask ∙ same))
          | inr away ↦ (
              let mine = named-found (is_request r) c side.session.active found c.ask refl in
              let other-names = named-found (is_owner its-side.side.session.number d.owner)
              call.call its-side.side.session.active call.found c.ask (sym ask ∙ same) in
              let two = sum-two (λ s. names c.ask s.session.active) sides i t side its-side.side
              at its-side.at away in
              omega (arith, mine, other-names, two, kept.apart c.ask))
        ]
      where
        by-place : (x : ActiveCall) (b : Bool) (p : ℕ) → Some p ≡ cond b (Some x.ask) None
            → p ≡ x.ask
        by-place x true p e = cc
        by-place x false p e = cc

        same-session-as : (s : Side) → s ≡ side → (call : OfCall s.session d)
            → is_of (Ask i r) d ≡ false → call.call.ask ≡ c.ask → ⊥
        same-session-as s one call other same =
            same-session (record {
              call = call.call;
              found = subst (λ (x : Side). call_of x.session d ≡ Some call.call) one call.found;
              number = call.number;
              place = call.place;
              owner =
                  call.owner ∙ ap (λ (x : Side). Ask x.session.number call.call.request) one;
            }) other
            same

    of-reply : (t q : ℕ) → d.owner ≡ Reply t q → (p : ℕ) → d.place ≡ Some p → p ≢ c.ask
    of-reply t q its p placed same =
        let server = end-at servers t d.peer (subst (IsOfOwner sides servers d) its stands) in
        let reply = reply-stands pool tx.items server.server q d
        (its ∙ ap (λ n. Reply n q) (sym server.numbered))
        (λ P all. all-at P tx.items k d all there)
        (all-at (ServerHolds pool tx.items) servers server.place server.server kept.holds
        server.at) in
        let theirs = named-cases server.server d p placed (request_of server.server d) refl reply in
        let mine = named-found (is_request r) c side.session.active found p (sym same) in
        omega (
          arith,
          mine,
          theirs,
          sum-one (λ s. names p s.session.active) sides i side at,
          sum-one (λ v. slot_names p v.slots) servers server.place server.server server.at,
          kept.apart p,
        )

    of-owner : (o : Owner) → d.owner ≡ o → is_of (Ask i r) d ≡ false → (p : ℕ) → d.place ≡ Some p
        → p ≢ c.ask
    of-owner (Ask t q) its other p placed = of-ask t q its other p placed
    of-owner (Reply t q) its other p placed = of-reply t q its p placed
    of-owner Control its other p placed = absurd (subst (IsOfOwner sides servers d) its stands)

    placed-cases : (o : Option ℕ) → d.place ≡ o → is_of (Ask i r) d ≡ false
        → mentions c.ask (d ∷ []) ≡ 0
    placed-cases None e other = mentions-none c.ask d e
    placed-cases (Some p) e other = mentions-other c.ask p d e (of-owner d.owner refl other p e)

  pub unheld-call : list_any (is_of (Ask i r)) tx.items ≡ false → IsUnheld pool c
  unheld-call none = kept.counted c.ask ∙ none-named c.ask tx.items
      (λ k d there. placed-cases k d there d.place refl
      (none-at (is_of (Ask i r)) tx.items k d none there))

  -- what is queued of the call is within its window
  window-call : (k : ℕ) → Stands k r (Some (shown_side pool side)) → (c.got ≤ k) × (k < c.posted)
  window-call k h =
      let calls = calls-end side.stage pool side.peer side.session in
      let there : find (is_active r) (shown_side pool side).calls ≡ Some (shown_active pool c) =
      ap (find (is_active r)) calls ∙ active-found pool r side.session
      ∙ ap (option_map (shown_active pool)) found in
      subst (Inside k) there h

  window-one : (d : EntryValue) → InWindow (map (shown_side pool) sides) d.owner d.number
      → is_of (Ask i r) d ≡ true → (c.got ≤ d.number) × (d.number < c.posted)
  window-one d h t =
      let owner : d.owner ≡ Ask i r = owner-is d.owner i r t in
      let w : Stands d.number r (find (is_client i) (map (shown_side pool) sides)) =
      subst (λ o. InWindow (map (shown_side pool) sides) o d.number) owner h in
      window-call d.number (subst (Stands d.number r) (find-side pool sides kept.numbered i side at) w)

  none-cons : (d : EntryValue) (ds : List EntryValue) (number : ℕ) (b : Bool)
      → is_of (Ask i r) d ≡ b → number ≡ c.got → c.posted ≡ c.got + 1
      → InWindow (map (shown_side pool) sides) d.owner d.number
      → (list_any (is_entry (Ask i r) number) ds ≡ false → list_any (is_of (Ask i r)) ds ≡ false)
      → ((b && d.number == number) || list_any (is_entry (Ask i r) number) ds) ≡ false
      → (b || list_any (is_of (Ask i r)) ds) ≡ false
  none-cons d ds number true t next last w ih none =
      let inside = window-one d w t in
      let same : (d.number == number) ≡ true =
      eq-eqb d.number number (omega (arith, inside.0, inside.1, next, last)) in
      let no : true ≡ false = sym (rw same refl) ∙ none in
      cc
  none-cons d ds number false t next last w ih none = ih none

  -- where its one unanswered packet isn't queued, none is
  pub none-queued : (ds : List EntryValue) (number : ℕ) → number ≡ c.got → c.posted ≡ c.got + 1
      → Windows (map (shown_side pool) sides) (map queued_of ds)
      → list_any (is_entry (Ask i r) number) ds ≡ false → list_any (is_of (Ask i r)) ds ≡ false
  none-queued [] number next last w none = refl
  none-queued (d ∷ ds) number next last w none =
      none-cons d ds number (is_of (Ask i r) d) refl next last w.0
      (none-queued ds number next last w.1) none

-- so the condition of a reply holds
pub next-unheld : (pool : Pool) (sides : List Side) (servers : List Serving) (tx : Ring EntryValue)
    (i r number : ℕ) (side : Side) (is_waiting : Bool) → Kept pool sides servers tx
    → slice_get sides i ≡ Some side → Windows (map (shown_side pool) sides) (map queued_of tx.items)
    → is_waiting ≡ list_any (is_entry (Ask i r) number) tx.items
    → NextIsUnheld pool is_waiting number (call_as r side.session)
next-unheld pool sides servers tx i r number side is_waiting kept at windows waits =
    cases (call_as r side.session) refl
  where
    cases : (o : Option ActiveCall) → call_as r side.session ≡ o
        → NextIsUnheld pool is_waiting number o
    cases None f = tt
    cases (Some c) f = λ idle next last.
        let own : c.request ≡ r = eqb-true c.request r (find-passes (is_request r) side.session.active c f) in
        unheld-call pool sides servers tx kept i r side at c f own
        (none-queued pool sides servers tx kept i r side at c f own tx.items number next last
        windows (sym waits ∙ idle))

-- a request of which its session has no packet queued
module _ (pool : Pool) (sides : List Side) (servers : List Serving) (tx : Ring EntryValue)
    (kept : Kept pool sides servers tx) (i r : ℕ) (side : Side)
    (at : slice_get sides i ≡ Some side) where
  uncalled-one : call_as r side.session ≡ None → (d : EntryValue) → IsOf sides servers d
      → is_of (Ask i r) d ≡ true → ⊥
  uncalled-one none d h t =
      let its = owner-is d.owner i r t in
      let of = of-side sides servers i r d its h in
      let is-one : Some of.side ≡ Some side = sym of.at ∙ at in
      let one : of.side ≡ side = cc in
      let packet : IsPacketOf (call_of side.session d) d =
      subst (λ (s : Side). IsPacketOf (call_of s.session d) d) one of.is.2 in
      let owned : d.owner ≡ Ask side.session.number r = its ∙ ap (λ n. Ask n r) (sym (kept.numbered i side at)) in
      let gone : call_of side.session d ≡ None =
      ap (λ o. find (is_owner side.session.number o) side.session.active) owned
      ∙ same-owners side.session.number r side.session.active ∙ none in
      subst (λ o. IsPacketOf o d) gone packet

  uncalled-cons : (d : EntryValue) (b c : Bool) → is_of (Ask i r) d ≡ b
      → (is_of (Ask i r) d ≡ true → ⊥) → c ≡ false → (b || c) ≡ false
  uncalled-cons d true c t never rest = absurd (never t)
  uncalled-cons d false c t never rest = rest

  uncalled : call_as r side.session ≡ None → (ds : List EntryValue)
      → AllByRecursion (IsOf sides servers) ds → list_any (is_of (Ask i r)) ds ≡ false
  uncalled none [] all = refl
  uncalled none (d ∷ ds) all =
      uncalled-cons d (is_of (Ask i r) d) (list_any (is_of (Ask i r)) ds) refl
      (uncalled-one none d all.0) (uncalled none ds all.1)

  idle-cases : (o : Option ActiveCall) → call_as r side.session ≡ o → queued_in o ≡ 0
      → list_any (is_of (Ask i r)) tx.items ≡ false
  idle-cases None f none = uncalled f tx.items kept.stands
  idle-cases (Some c) f none =
      let request : c.request ≡ r = eqb-true c.request r (find-passes (is_request r) side.session.active c f) in
      let number = kept.numbered i side at in
      sym (ap (λ n. list_any (is_of (Ask n c.request)) tx.items) number
      ∙ ap (λ q. list_any (is_of (Ask i q)) tx.items) request)
      ∙ idle-call side.session.number (is_request r) c tx.items side.session.active f
      (all-at (SideQueued tx.items) sides i side kept.queued at) none

  pub idle-request : queued_in (call_as r side.session) ≡ 0
      → list_any (is_of (Ask i r)) tx.items ≡ false
  idle-request none = idle-cases (call_as r side.session) refl none

  unentered : (k : ℕ) (ds : List EntryValue) → list_any (is_of (Ask i r)) ds ≡ false
      → list_any (is_entry (Ask i r) k) ds ≡ false
  unentered k [] none = refl
  unentered k (d ∷ ds) none = cons (is_of (Ask i r) d) (list_any (is_of (Ask i r)) ds) none (unentered k ds)
    where
      cons : (b c : Bool) → (b || c) ≡ false
          → (c ≡ false → list_any (is_entry (Ask i r) k) ds ≡ false)
          → ((b && d.number == k) || list_any (is_entry (Ask i r) k) ds) ≡ false
      cons true c t ih = cc
      cons false c t ih = ih t

  pub idle-packet : (k : ℕ) → queued_in (call_as r side.session) ≡ 0
      → list_any (is_entry (Ask i r) k) tx.items ≡ false
  idle-packet k none = unentered k tx.items (idle-request none)

-- the entries of the ring are what is seen of it
pub entry-queued : (s r k : ℕ) (entries : List EntryValue) → list_any (is_queued (Ask s r) k)
    (map queued_of entries) ≡ list_any (is_entry (Ask s r) k) entries
entry-queued s r k [] = refl
entry-queued s r k (e ∷ es) = rw (entry-queued s r k es) refl

pub entry-seen : (s r k : ℕ) (tx : Ring EntryValue) (paced : Wheel)
    → list_any (is_queued (Ask s r) k) (queue_of tx paced)
    ≡ list_any (is_entry (Ask s r) k) (joined tx paced).items
entry-seen s r k tx paced =
    sym (queued-undue (Ask s r) k (queue_of tx paced))
    ∙ ap (λ qs. list_any (is_queued (Ask s r) k) qs) (queue-undue tx paced)
    ∙ entry-queued s r k (joined tx paced).items
