-- A call waits on a session, and sessions are made: what always holds of a store holds then.
use Rattle.std.proofs.Common.{◌≡◌, ℕ, zero, suc, ◌+◌, ◌*◌, ◌^◌, ◌<◌, Bool, true, false, cond, ltb}
use Rattle.std.proofs.Common.{ltb-true, Option, Some, None, List, [], ◌∷◌, ◌++◌, length, refl, sym}
use Rattle.std.proofs.Common.{ap, subst, ◌∙◌, arith}
use Rattle.std.specs.Prelude.{IfSome, OnErr, OnOk, Result, Ok, Err, map, slice_get, slice_set}
use Rattle.std.specs.List.{AllByRecursion}
use Rattle.std.proofs.lemmas.List.Sums.{sum_by-append, sum_by-cons}
use Rattle.rpc_base.specs.declared.owner.Owner.{Owner}
use Rattle.rpc_base.specs.declared.owner.Owner.TheVariants.{Ask, Reply, Control}
use Rattle.rpc_base.specs.declared.state.SessionState.{SessionState}
use Rattle.rpc_base.proofs.FirstLemmas.{all-push}
use Rattle.rpc_base.proofs.PlaceLemmas.{all-at, get-map}
use Rattle.buffer_pool.specs.Pool.{Pool, spare_of}
use Rattle.packet_rings.specs.Rings.{Ring}
use Rattle.packet_rings.specs.Values.{EntryValue}
use Rattle.rpc_laws.specs.Groups.{state_of, told_state}
use Rattle.rpc_laws.specs.Sessions.{asks}
use Rattle.session_slots.specs.declared.waiting.Waiting.{Waiting}
use Rattle.client_core.specs.KeepsPool.{names}
use Rattle.client_core.specs.Session.{Session, new_session}
use Rattle.server_core.specs.Session.{Session as Serving}
use Rattle.session_ends.specs.declared.side.Side.{Side}
use Rattle.session_ends.specs.declared.stage.Stage.{Stage}
use Rattle.session_ends.specs.declared.stage.Stage.TheVariants.{Connecting, Connected, Closing}
use Rattle.session_ends.specs.declared.stage.Stage.TheVariants.{Closed, Failed, Broken}
use Rattle.session_store.specs.Changes.{ChangesAt}
use Rattle.session_store.specs.Leaving.{ChangesCalls}
use Rattle.session_ends.specs.Joined.{joined}
use Rattle.session_store.specs.Joined.{shown_with, undue}
use Rattle.pacing_wheel.specs.Wheel.{Wheel}
use Rattle.session_store.proofs.ChangesLemmas.{changes-calls}
use Rattle.session_store.proofs.UndueLemmas.{flat}
use Rattle.session_ends.specs.Effects.{SideWaits}
use Rattle.session_store.specs.Effects.{asking_in}
use Rattle.session_store.specs.Ends.{shown_end}
use Rattle.session_store.specs.Sides.{HasSlots, IsOf, IsOfOwner, Kept, Shown, SideAscends}
use Rattle.session_store.specs.Sides.{places_in, served_places, SideQueued, shown_of, shown_side}
use Rattle.session_store.specs.Sides.{side_handed}
use Rattle.session_ends.specs.Sides.{IsOfSide, SideKept}
use Rattle.client_core.specs.Handing.{handed_waiting}
use Rattle.session_store.specs.Handing.{HandsInAt}
use Rattle.session_store.proofs.EndLemmas.{Steps, ask-steps, calls-end}
use Rattle.session_store.proofs.KeptLemmas.{ClientActs, client-kept, clients-set, handed-set}
use Rattle.session_ends.proofs.ListLemmas.{sum-set}
use Rattle.session_store.proofs.StandLemmas.{stands-all}

-- a session that is connected is there, not broken, and has turns left
module _ (pool : Pool) (s : Side) where
  few-turns : (t : Bool) → ltb s.session.slots.taken (2 ^ 45) ≡ t
      → cond t SessionState.Connected SessionState.Spent ≡ SessionState.Connected
      → s.session.slots.taken < 2 ^ 45
  few-turns true t e = ltb-true s.session.slots.taken (2 ^ 45) t
  few-turns false t e = cc

  told-turns : (stage : Stage)
      → told_state (shown_end stage pool s.peer s.session).state
      (shown_end stage pool s.peer s.session).asked ≡ SessionState.Connected
      → (stage ≡ Connected) × (s.session.slots.taken < 2 ^ 45)
  told-turns (Connecting n t) e = cc
  told-turns Connected e = (refl, few-turns (ltb s.session.slots.taken (2 ^ 45)) refl e)
  told-turns (Closing n t) e = cc
  told-turns Closed e = cc
  told-turns Failed e = cc
  told-turns Broken e = cc

  connected-turns : state_of (Some (shown_side pool s)) ≡ SessionState.Connected
      → (s.stage ≡ Connected) × (s.session.slots.taken < 2 ^ 45)
  connected-turns e = told-turns s.stage e

module _ (pool : Pool) (sides : List Side) (servers : List Serving) (tx : Ring EntryValue) (i : ℕ)
    (seen : Shown) (view : shown_of pool sides servers tx ≡ seen)
    (connected : state_of (slice_get seen.clients i) ≡ SessionState.Connected) where
  side-connected : (s : Side) → slice_get sides i ≡ Some s
      → (s.stage ≡ Connected) × (s.session.slots.taken < 2 ^ 45)
  side-connected s e =
      let here : state_of (slice_get (map (shown_side pool) sides) i) ≡ SessionState.Connected = rw (← view) at connected in
      let own : state_of (Some (shown_side pool s)) ≡ SessionState.Connected =
      rw (get-map (shown_side pool) sides i s e) at here in
      connected-turns pool s own

  pub has-turns : IfSome (slice_get sides i) (λ s. s.session.slots.taken < 2 ^ 45)
  has-turns = cases (slice_get sides i) refl
    where
      cases : (o : Option Side) → slice_get sides i ≡ o
          → IfSome o (λ s. s.session.slots.taken < 2 ^ 45)
      cases None e = tt
      cases (Some s) e = (side-connected s e).1

  module _ (w : Waiting) (now : List Side) (kept : Kept pool sides servers tx)
      (above : IfSome (slice_get seen.clients i) (λ x. AllByRecursion (λ c. c.what.number < w.call) x.calls))
      (h : SideWaits i w sides now) where
    abbrev asked_side : Side
    asked_side = record h.side { session = h.later }

    ask-above : AllByRecursion (λ c. c.what.number < w.call) (shown_side pool h.side).calls
    ask-above =
        let here : IfSome (slice_get (map (shown_side pool) sides) i)
        (λ x. AllByRecursion (λ c. c.what.number < w.call) x.calls) =
        rw (← view) at above in
        rw (get-map (shown_side pool) sides i h.side h.at) at here

    asked-steps : Steps (asks (asking_in w)) h.side.stage pool pool h.side.peer h.side.session h.later
    asked-steps = ask-steps h.side.stage pool h.side.peer w h.side.session h.later
        (side-connected h.side h.at).0 ask-above
        (all-at (SideAscends pool) sides i h.side kept.ascends h.at) h.step.step

    ask-acts : ClientActs pool pool sides servers i h.side asked_side tx tx
    ask-acts =
        let own = all-at (SideKept pool) sides i h.side kept.keeps h.at in
        record {
          acts = record {
            leaves = λ p none used. (rw h.step.waits none, refl, refl);
            few = rw h.step.waits own.apart;
            counts = kept.counted;
            beside = refl;
            within =
                kept.within;
            size = refl;
          };
          keeps = rw h.step.waits own;
          number = ap (λ (x : Session). x.number) h.step.waits;
          ascends = asked-steps.calls;
          stands = stands-all sides servers i h.side asked_side h.at refl refl
              (λ d was. rw h.step.waits was) tx.items kept.stands;
          queued = rw h.step.waits (all-at (SideQueued tx.items) sides i h.side kept.queued h.at);
          slots = rw h.step.waits (all-at HasSlots sides i h.side kept.slots h.at);
          spare = rw h.step.waits refl;
        }

    kept-asked : Kept pool now servers tx
    kept-asked = subst (λ xs. Kept pool xs servers tx) (sym h.changed)
        (client-kept pool pool sides servers i h.side asked_side tx tx h.at kept ask-acts)

    asked-clients : ChangesAt i (asks (asking_in w)) seen.clients (map (shown_side pool) now)
    asked-clients = rw (← view) (record {
      client = shown_side pool h.side;
      place = get-map (shown_side pool) sides i h.side h.at;
      changed = ap (map (shown_side pool)) h.changed
          ∙ clients-set pool pool sides servers i h.side asked_side tx tx h.at kept ask-acts
          ∙ ap (slice_set (map (shown_side pool) sides) i) asked-steps.view;
    })

    asked-handed : HandsInAt i (handed_waiting w) (map (side_handed pool) sides)
        (map (side_handed pool) now)
    asked-handed = record {
      before = side_handed pool h.side;
      place = get-map (side_handed pool) sides i h.side h.at;
      changed = ap (map (side_handed pool)) h.changed
          ∙ handed-set pool pool sides servers i h.side asked_side tx tx h.at kept ask-acts
          ∙ ap (slice_set (map (side_handed pool) sides) i) (h.step.handed pool);
    }

  pub kept-ask : {E : Type 0} (w : Waiting) (now : List Side) (r : Result (Unit {0}) E)
      → Kept pool sides servers tx → IfSome (slice_get seen.clients i)
      (λ x. AllByRecursion (λ c. c.what.number < w.call) x.calls) → OnOk r (SideWaits i w sides now)
      → OnErr r (now ≡ sides) → Kept pool now servers tx
  kept-ask w now (Ok u) kept above h same = kept-asked w now kept above h
  kept-ask w now (Err e) kept above h same = rw same kept

  pub clients-ask : {E : Type 0} (w : Waiting) (now : List Side) (r : Result (Unit {0}) E)
      → Kept pool sides servers tx → IfSome (slice_get seen.clients i)
      (λ x. AllByRecursion (λ c. c.what.number < w.call) x.calls) → OnOk r (SideWaits i w sides now)
      → OnOk r (ChangesAt i (asks (asking_in w)) seen.clients (map (shown_side pool) now))
  clients-ask w now (Ok u) kept above h = asked-clients w now kept above h
  clients-ask w now (Err e) kept above h = tt

-- one session more
get-front : {A : Type 0} (xs : List A) (y x : A) (j : ℕ) → slice_get xs j ≡ Some x
    → slice_get (xs ++ y ∷ []) j ≡ Some x
get-front [] y x j e = cc
get-front (z ∷ zs) y x zero e = e
get-front (z ∷ zs) y x (suc j) e = get-front zs y x j e

module _ (sides : List Side) (servers : List Serving) (s : Side) where
  of-front : (d : EntryValue) (o : Owner) → IsOfOwner sides servers d o
      → IsOfOwner (sides ++ s ∷ []) servers d o
  of-front d (Ask n r) h = cases (slice_get sides n) refl h
    where
      cases : (o : Option Side) → slice_get sides n ≡ o → IsOfSide d o
          → IsOfSide d (slice_get (sides ++ s ∷ []) n)
      cases None e h = absurd h
      cases (Some t) e h = subst (IsOfSide d) (sym (get-front sides s t n e)) h
  of-front d (Reply t r) h = h
  of-front d Control h = h

  all-front : (ds : List EntryValue) → AllByRecursion (IsOf sides servers) ds
      → AllByRecursion (IsOf (sides ++ s ∷ []) servers) ds
  all-front [] all = tt
  all-front (d ∷ ds) all = (of-front d d.owner all.0, all-front ds all.1)

  numbered-front : (n : ℕ) (ss : List Side) → s.session.number ≡ n + length ss
      → ((j : ℕ) → (t : Side) → slice_get ss j ≡ Some t → t.session.number ≡ n + j) → (j : ℕ)
      → (t : Side) → slice_get (ss ++ s ∷ []) j ≡ Some t → t.session.number ≡ n + j
  numbered-front n [] own numbered zero t e = let same : s ≡ t = cc in omega (arith, own, ap (λ (x : Side). x.session.number) same)
  numbered-front n [] own numbered (suc j) t e = cc
  numbered-front n (u ∷ us) own numbered zero t e = numbered 0 t e
  numbered-front n (u ∷ us) own numbered (suc j) t e =
      omega (
        arith,
        numbered-front (suc n) us (omega (arith, own))
            (λ k x f. omega (arith, numbered (suc k) x f)) j t e,
      )

pub kept-paired : (pool : Pool) (sides : List Side) (servers : List Serving) (tx : Ring EntryValue)
    (s : Side) (server life credits : ℕ) → Kept pool sides servers tx
    → s.session ≡ new_session (length sides) server life credits
    → Kept pool (sides ++ s ∷ []) servers tx
kept-paired pool sides servers tx s server life credits kept session =
    let number : s.session.number ≡ length sides = ap (λ (x : Session). x.number) session in
    let none : s.session.active ≡ [] = ap (λ (x : Session). x.active) session in
    record {
      numbered = λ j t e. omega (
        arith,
        numbered-front sides servers s 0 sides
            (omega (arith, number)) (λ k x f. omega (arith, kept.numbered k x f)) j t e,
      );
      rises = kept.rises;
      keeps = all-push (SideKept pool) sides s kept.keeps (rw none (record { kept = tt; apart = λ p. omega arith }));
      serves = kept.serves;
      apart = λ p. omega (
        arith,
        sum_by-append (λ x. names p x.session.active) sides (s ∷ []),
        sum_by-cons (λ x. names p x.session.active) s [],
        ap (names p) none,
        kept.apart p,
      );
      counted = kept.counted;
      stands = all-front sides servers s tx.items kept.stands;
      holds = kept.holds;
      queued = all-push (SideQueued tx.items) sides s kept.queued (rw none tt);
      replies = kept.replies;
      ascends = all-push (SideAscends pool) sides s kept.ascends (rw (calls-end s.stage pool s.peer s.session, session) tt);
      within = kept.within;
      few = kept.few;
      slots = all-push HasSlots sides s kept.slots (rw none (omega arith));
      served = kept.served;
    }

module _ (pool : Pool) (sides now : List Side) (servers : List Serving) (i : ℕ) (w : Waiting) where
  asked-places : SideWaits i w sides now
      → spare_of pool + places_in now + served_places servers
      ≡ spare_of pool + places_in sides + served_places servers
  asked-places h =
      let same : places_in now ≡ places_in sides =
      ap places_in h.changed ∙ omega (
        arith,
        sum-set (λ s. 2 * length s.session.active) sides i h.side
            (record h.side { session = h.later }) h.at,
        ap (λ (x : Session). length x.active)
            h.step.waits,
      ) in
      omega (arith, same)

-- the call waits, and nothing else changed
pub calls-ask : {E : Type 0} (pool : Pool) (sides now : List Side) (servers : List Serving)
    (tx : Ring EntryValue) (paced : Wheel) (seen : Shown)
    (view : shown_with pool sides servers tx paced ≡ seen) (i : ℕ)
    (connected : state_of (slice_get seen.clients i) ≡ SessionState.Connected) (w : Waiting)
    (r : Result (Unit {0}) E) → Kept pool sides servers (joined tx paced)
    → IfSome (slice_get seen.clients i)
    (λ x. AllByRecursion (λ c. c.what.number < w.call) x.calls) → OnOk r (SideWaits i w sides now)
    → OnOk r (ChangesCalls (ChangesAt i (asks (asking_in w))) (HandsInAt i (handed_waiting w)) seen
    (shown_with pool now servers tx paced))
calls-ask pool sides now servers tx paced seen view i connected w (Ok u) kept above h =
    let look = flat pool sides servers tx paced seen view in
    changes-calls pool pool sides now servers servers tx tx paced paced seen view
    (ChangesAt i (asks (asking_in w)))
    (asked-clients pool sides servers (joined tx paced) i (undue seen) look connected w now kept
    above h) refl (asked-places pool sides now servers i w h) (HandsInAt i (handed_waiting w))
    (asked-handed pool sides servers (joined tx paced) i (undue seen) look connected w now kept
    above h) refl refl
calls-ask pool sides now servers tx paced seen view i connected w (Err e) kept above h = tt
