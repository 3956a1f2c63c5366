-- A client session comes to another stage, while none of its packets is queued: what always holds of a
-- store holds then, and what is shown of the session is as the definitions over histories have it.
use Rattle.std.proofs.Common.{◌≡◌, ℕ, ◌+◌, ◌^◌, ◌<◌, true, false, Some, List, []}
use Rattle.std.proofs.Common.{◌∷◌, ◌++◌, refl, sym, ap, subst, ◌∙◌, inl, inr, arith}
use Rattle.std.specs.Prelude.{map, slice_get, slice_set, IfSome}
use Rattle.std.specs.List.{AllByRecursion, list_any}
use Rattle.std.proofs.lemmas.Bool.{cases_eq, ne_eqb}
use Rattle.rpc_base.specs.declared.owner.Owner.{Owner}
use Rattle.rpc_base.specs.declared.owner.Owner.TheVariants.{Ask, Reply, Control}
use Rattle.rpc_base.specs.declared.state.SessionState.{SessionState}
use Rattle.rpc_base.proofs.PlaceLemmas.{all-at, get-map}
use Rattle.buffer_pool.specs.Pool.{Pool, spare_of}
use Rattle.packet_rings.specs.Rings.{Ring}
use Rattle.packet_rings.specs.Values.{EntryValue}
use Rattle.node_laws.specs.QueuedPackets.{is_ask_of}
use Rattle.rpc_laws.specs.Sessions.{comes_to, connects, is_connected as takes_calls}
use Rattle.rpc_laws.specs.declared.tables.Client.{Client}
use Rattle.client_core.specs.Session.{Session}
use Rattle.client_core.specs.Shown.{shown_active, shown_waiting}
use Rattle.server_core.specs.Session.{Session as Serving}
use Rattle.session_ends.specs.declared.side.Side.{Side}
use Rattle.session_ends.specs.declared.stage.Stage.{Stage}
use Rattle.session_ends.specs.declared.stage.Stage.TheVariants.{Connecting, Connected, Closing}
use Rattle.session_ends.specs.declared.stage.Stage.TheVariants.{Closed, Failed, Broken}
use Rattle.session_store.specs.Changes.{ChangesAt, HasNoCalls, HasRequest, IsConnected, IsInState}
use Rattle.session_store.specs.Changes.{has_request, sent_again}
use Rattle.session_store.specs.Ends.{shown_end}
use Rattle.session_store.specs.Sides.{HasSlots, IsOf, IsOfOwner, Kept, Shown, SideAscends}
use Rattle.session_store.specs.Sides.{SideQueued, places_in, served_places, shown_of, shown_side}
use Rattle.session_store.specs.Sides.{side_handed}
use Rattle.session_ends.specs.Sides.{IsOfSide, SideKept}
use Rattle.session_ends.specs.Stages.{asked, sends_at}
use Rattle.session_store.proofs.EndLemmas.{calls-end}
use Rattle.session_store.proofs.KeptLemmas.{ClientActs, client-kept, client-places, clients-set}
use Rattle.session_store.proofs.KeptLemmas.{handed-kept}
use Rattle.session_store.proofs.LoseLemmas.{stands-idle}
use Rattle.session_store.proofs.RollLemmas.{at-connected}

-- no entry of the ring is of a session that can have none
module _ (sides : List Side) (servers : List Serving) (i : ℕ) (side : Side)
    (at : slice_get sides i ≡ Some side) (never : (e : EntryValue) → IsOfSide e (Some side) → ⊥) where
  not-of : (e : EntryValue) (o : Owner) → IsOfOwner sides servers e o → is_ask_of i o ≡ false
  not-of e (Ask s r) h = elim (cases_eq s i) [
    | inl here ↦ absurd (never e (subst (IsOfSide e) (ap (slice_get sides) here ∙ at) h))
    | inr away ↦ ne_eqb s i away
  ]
  not-of e (Reply t r) h = refl
  not-of e Control h = absurd h

  pub none-of : (es : List EntryValue) → AllByRecursion (IsOf sides servers) es
      → list_any (λ e. is_ask_of i e.owner) es ≡ false
  none-of [] all = refl
  none-of (e ∷ es) all = rw (not-of e e.owner all.0, none-of es all.1) refl

-- one that isn't connected, and one without calls
pub never-unconnected : (side : Side) → (side.stage ≡ Connected → ⊥) → (e : EntryValue)
    → IsOfSide e (Some side) → ⊥
never-unconnected side other e h = other h.1

pub never-idle : (side : Side) → side.session.active ≡ [] → (e : EntryValue)
    → IsOfSide e (Some side) → ⊥
never-idle side none e h = (rw none at h).2

-- the session comes to another stage; its calls stay
module _ (pool : Pool) (sides : List Side) (servers : List Serving) (tx : Ring EntryValue)
    (kept : Kept pool sides servers tx) (i : ℕ) (side later : Side)
    (at : slice_get sides i ≡ Some side)
    (idle : list_any (λ e. is_ask_of i e.owner) tx.items ≡ false)
    (number : later.session.number ≡ side.session.number)
    (active : later.session.active ≡ side.session.active)
    (slots : later.session.slots ≡ side.session.slots) where
  calls-stay : (shown_side pool later).calls ≡ (shown_side pool side).calls
  calls-stay = calls-end later.stage pool later.peer later.session
      ∙ rw (active, slots) refl
      ∙ sym (calls-end side.stage pool side.peer side.session)

  move-acts : ClientActs pool pool sides servers i side later tx tx
  move-acts =
      let own = all-at (SideKept pool) sides i side kept.keeps at in
      record {
        acts = record {
          leaves = λ p none used. (rw active none, refl, refl);
          few = rw active own.apart;
          counts = kept.counted;
          beside = refl;
          within = kept.within;
          size = refl;
        };
        keeps = rw active own;
        number = number;
        ascends = rw calls-stay (all-at (SideAscends pool) sides i side kept.ascends at);
        stands = stands-idle sides servers i later tx.items idle kept.stands;
        queued = rw (active, number) (all-at (SideQueued tx.items) sides i side kept.queued at);
        slots = rw active (all-at HasSlots sides i side kept.slots at);
        spare = rw active refl;
      }

  pub move-kept : Kept pool (slice_set sides i later) servers tx
  move-kept = client-kept pool pool sides servers i side later tx tx at kept move-acts

  pub move-places : spare_of pool + places_in (slice_set sides i later) + served_places servers
      ≡ spare_of pool + places_in sides + served_places servers
  move-places = client-places pool pool sides servers i side later tx tx at kept move-acts

  pub move-clients : (f : Client → Client) → shown_side pool later ≡ f (shown_side pool side)
      → ChangesAt i f (map (shown_side pool) sides) (map (shown_side pool) (slice_set sides i later))
  move-clients f is = record {
    client = shown_side pool side;
    place = get-map (shown_side pool) sides i side at;
    changed = clients-set pool pool sides servers i side later tx tx at kept move-acts
        ∙ ap (slice_set (map (shown_side pool) sides) i) is;
  }

  pub move-handed : map (side_handed pool) (slice_set sides i later) ≡ map (side_handed pool) sides
  move-handed =
      handed-kept pool pool sides servers i side later tx tx at kept move-acts (rw (active, slots) refl)

-- what is shown of it
module _ (pool : Pool) (peer : ℕ) (s : Session) where
  pub connects-end : (stage : Stage) (t life : ℕ)
      → (shown_end stage pool peer s).state ≡ SessionState.Connecting
      → shown_end Connected pool peer (record s { server = t; life = life })
      ≡ connects t life (shown_end stage pool peer s)
  connects-end (Connecting n m) t life e = refl
  connects-end Connected t life e = cc
  connects-end (Closing n m) t life e = cc
  connects-end Closed t life e = cc
  connects-end Failed t life e = cc
  connects-end Broken t life e = cc

  pub fails-end : (stage : Stage) → (shown_end stage pool peer s).state ≡ SessionState.Connecting
      → shown_end Failed pool peer s ≡ comes_to SessionState.Failed (shown_end stage pool peer s)
  fails-end (Connecting n m) e = refl
  fails-end Connected e = cc
  fails-end (Closing n m) e = cc
  fails-end Closed e = cc
  fails-end Failed e = cc
  fails-end Broken e = cc

  pub closing-end : (stage : Stage) → stage ≡ Connected
      → shown_end (Closing 0 0) pool peer s
      ≡ comes_to SessionState.Closing (shown_end stage pool peer s)
  closing-end stage e = rw e refl

  pub closes-end : (stage : Stage) → (shown_end stage pool peer s).state ≡ SessionState.Closing
      → shown_end Closed pool peer s ≡ comes_to SessionState.Closed (shown_end stage pool peer s)
  closes-end (Connecting n m) e = cc
  closes-end Connected e = cc
  closes-end (Closing n m) e = refl
  closes-end Closed e = cc
  closes-end Failed e = cc
  closes-end Broken e = cc

  pub asks-end : (stage : Stage) (clock : ℕ) → has_request (shown_end stage pool peer s).state ≡ true
      → shown_end (asked clock stage) pool peer s ≡ sent_again clock (shown_end stage pool peer s)
  asks-end (Connecting n m) clock e = refl
  asks-end Connected clock e = cc
  asks-end (Closing n m) clock e = refl
  asks-end Closed clock e = cc
  asks-end Failed clock e = cc
  asks-end Broken clock e = cc

  pub sends-end : (stage : Stage) → sends_at stage ≡ (shown_end stage pool peer s).sends
  sends-end (Connecting n m) = refl
  sends-end Connected = refl
  sends-end (Closing n m) = refl
  sends-end Closed = refl
  sends-end Failed = refl
  sends-end Broken = refl

  -- a session in another state isn't connected
  pub not-connected : (stage : Stage) → takes_calls (shown_end stage pool peer s).state ≡ false
      → stage ≡ Connected → ⊥
  not-connected (Connecting n m) e t = cc
  not-connected Connected e t = cc
  not-connected (Closing n m) e t = cc
  not-connected Closed e t = cc
  not-connected Failed e t = cc
  not-connected Broken e t = cc

  pub asks-apart : (stage : Stage) → has_request (shown_end stage pool peer s).state ≡ true
      → stage ≡ Connected → ⊥
  asks-apart (Connecting n m) some t = cc
  asks-apart Connected some t = cc
  asks-apart (Closing n m) some t = cc
  asks-apart Closed some t = cc
  asks-apart Failed some t = cc
  asks-apart Broken some t = cc

  -- a session without calls has no active one
  pub none-active : (stage : Stage) → (shown_end stage pool peer s).calls ≡ [] → s.active ≡ []
  none-active stage e = front s.active (sym (calls-end stage pool peer s) ∙ e)
    where
      front : (cs : List _) → map (shown_active pool) cs ++ map shown_waiting s.slots.waiting ≡ []
          → cs ≡ []
      front [] t = refl
      front (c ∷ cs) t = cc

-- the session as it is looked at, once it came to another stage
pub record Moved (pool : Pool) (sides : List Side) (servers : List Serving) (tx : Ring EntryValue)
    (i : ℕ) (f : Client → Client) (seen : Shown) (now : List Side) : Type 0 where
  pub kept : Kept pool now servers tx
  pub clients : ChangesAt i f seen.clients (map (shown_side pool) now)
  pub places : spare_of pool + places_in now + served_places servers
      ≡ spare_of pool + places_in sides + served_places servers
  pub handed : map (side_handed pool) now ≡ map (side_handed pool) sides

module _ (pool : Pool) (sides : List Side) (servers : List Serving) (tx : Ring EntryValue)
    (kept : Kept pool sides servers tx) (seen : Shown) (view : shown_of pool sides servers tx ≡ seen)
    (i : ℕ) (side : Side) (at : slice_get sides i ≡ Some side) where
  looked : (P : Client → Type 0) → IfSome (slice_get seen.clients i) P → P (shown_side pool side)
  looked P h =
      let here : IfSome (slice_get (map (shown_side pool) sides) i) P = rw (← view) at h in
      rw (get-map (shown_side pool) sides i side at) at here

  moved : (later : Side) (f : Client → Client)
      → list_any (λ e. is_ask_of i e.owner) tx.items ≡ false
      → later.session.number ≡ side.session.number → later.session.active ≡ side.session.active
      → later.session.slots ≡ side.session.slots
      → shown_side pool later ≡ f (shown_side pool side)
      → Moved pool sides servers tx i f seen (slice_set sides i later)
  moved later f idle number active slots is = record {
    kept = move-kept pool sides servers tx kept i side later at idle number active slots;
    clients = rw (← view) (move-clients pool sides servers tx kept i side later at idle number
        active slots f is);
    places = move-places pool sides servers tx kept i side later at idle number active slots;
    handed = move-handed pool sides servers tx kept i side later at idle number active slots;
  }

  -- none of its packets is queued where it isn't connected, and where it has no calls
  idle-in : (state : SessionState) → takes_calls state ≡ false
      → IsInState state (slice_get seen.clients i)
      → list_any (λ e. is_ask_of i e.owner) tx.items ≡ false
  idle-in state other h =
      let is : (shown_side pool side).state ≡ state = looked (λ x. x.state ≡ state) h in
      none-of sides servers i side at
      (never-unconnected side (not-connected pool side.peer side.session side.stage
      (ap takes_calls is ∙ other))) tx.items kept.stands

  pub moved-connected : (t life : ℕ) (session : Session)
      → session ≡ record side.session { server = t; life = life }
      → IsInState SessionState.Connecting (slice_get seen.clients i)
      → Moved pool sides servers tx i (connects t life) seen
      (slice_set sides i (record side { stage = Connected; session = session }))
  moved-connected t life session is h =
      rw is (moved (record side {
        stage = Connected;
        session = record side.session { server = t; life = life };
      }) (connects t life) (idle-in SessionState.Connecting refl h) refl refl refl
      (connects-end pool side.peer side.session side.stage t life
      (looked (λ x. x.state ≡ SessionState.Connecting) h)))

  pub moved-failed : IsInState SessionState.Connecting (slice_get seen.clients i)
      → Moved pool sides servers tx i (comes_to SessionState.Failed) seen
      (slice_set sides i (record side { stage = Failed }))
  moved-failed h = moved (record side { stage = Failed }) (comes_to SessionState.Failed)
      (idle-in SessionState.Connecting refl h) refl refl refl
      (fails-end pool side.peer side.session side.stage
      (looked (λ x. x.state ≡ SessionState.Connecting) h))

  pub moved-closing : IsConnected (slice_get seen.clients i) → HasNoCalls (slice_get seen.clients i)
      → Moved pool sides servers tx i (comes_to SessionState.Closing) seen
      (slice_set sides i (record side { stage = Closing 0 0 }))
  moved-closing h none =
      let stage = at-connected pool side (looked (λ x. takes_calls x.state ≡ true) h) in
      let idle = none-of sides servers i side at
      (never-idle side (none-active pool side.peer side.session side.stage
      (looked (λ x. x.calls ≡ []) none))) tx.items kept.stands in
      moved (record side { stage = Closing 0 0 }) (comes_to SessionState.Closing) idle refl refl refl
      (closing-end pool side.peer side.session side.stage stage)

  pub moved-closed : IsInState SessionState.Closing (slice_get seen.clients i)
      → Moved pool sides servers tx i (comes_to SessionState.Closed) seen
      (slice_set sides i (record side { stage = Closed }))
  moved-closed h = moved (record side { stage = Closed }) (comes_to SessionState.Closed)
      (idle-in SessionState.Closing refl h) refl refl refl
      (closes-end pool side.peer side.session side.stage
      (looked (λ x. x.state ≡ SessionState.Closing) h))

  pub moved-asked : (clock : ℕ) (stage : Stage) → stage ≡ asked clock side.stage
      → HasRequest (slice_get seen.clients i)
      → Moved pool sides servers tx i (sent_again clock) seen
      (slice_set sides i (record side { stage = stage }))
  moved-asked clock stage is h =
      let some = looked (λ x. has_request x.state ≡ true) h in
      let idle = none-of sides servers i side at
      (never-unconnected side (asks-apart pool side.peer side.session side.stage some)) tx.items
      kept.stands in
      rw is (moved (record side { stage = asked clock side.stage }) (sent_again clock) idle refl refl
      refl
      (asks-end pool side.peer side.session side.stage clock some))

  pub few-sends : IfSome (slice_get seen.clients i) (λ x. x.sends + 1 < 2 ^ 64)
      → sends_at side.stage + 1 < 2 ^ 64
  few-sends h = omega (
    arith,
    sends-end pool side.peer side.session side.stage,
    looked (λ x. x.sends + 1 < 2 ^ 64) h,
  )
