-- Timeouts, a session that loses its peer, and its calls that end then: what always holds of a store holds yet.
use Rattle.std.proofs.Common.{◌≡◌, ℕ, ◌+◌, ◌≤◌, Bool, true, false, cond, eqb, Option, Some, None}
use Rattle.std.proofs.Common.{List, [], ◌∷◌, refl, sym, ap, subst, ◌∙◌, inl, inr, arith}
use Rattle.std.specs.Prelude.{IfSome, IsSome, map, option_map, slice_get, slice_set}
use Rattle.std.specs.List.{AllByRecursion, list_any}
use Rattle.std.proofs.lemmas.Bool.{cases_eq, eq-eqb}
use Rattle.rpc_base.specs.declared.owner.Owner.{Owner}
use Rattle.rpc_base.specs.declared.owner.Owner.TheVariants.{Ask, Reply, Control}
use Rattle.rpc_base.specs.declared.state.SessionState.{SessionState}
use Rattle.rpc_base.proofs.BasicLemmas.{or-false}
use Rattle.rpc_base.proofs.PlaceLemmas.{all-at, get-map, set-other}
use Rattle.buffer_pool.specs.Pool.{Pool, refs_of, spare_of}
use Rattle.packet_rings.specs.Rings.{Ring}
use Rattle.packet_rings.specs.Values.{EntryValue}
use Rattle.packet_rings.specs.Mentions.{mentions}
use Rattle.packet_rings.proofs.MentionsLemmas.{mentions-none, mentions-other}
use Rattle.node_laws.specs.QueuedPackets.{is_ask_of}
use Rattle.rpc_laws.specs.GoBackN.{row_of}
use Rattle.rpc_laws.specs.Queues.{is_queued}
use Rattle.rpc_laws.specs.Sessions.{breaks}
use Rattle.rpc_laws.specs.declared.rows.TimerRow.{TimerRow}
use Rattle.rpc_laws.specs.declared.rows.TimerRow.TheVariants.{Waits}
use Rattle.rpc_laws.specs.declared.tables.Client.{Client}
use Rattle.rpc_laws.specs.declared.tables.Progress.{Progress}
use Rattle.rpc_laws.specs.declared.tables.Queued.{Queued}
use Rattle.client_core.specs.declared.active.Active.{Active}
use Rattle.client_core.specs.declared.call.ActiveCall.{ActiveCall}
use Rattle.client_core.specs.declared.outcome.Done.{Done}
use Rattle.client_core.specs.declared.outcome.Outcome.TheVariants.{PeerLost}
use Rattle.client_core.specs.declared.outcome.Timer.{Timer}
use Rattle.client_core.specs.Losing.{Loses, next_lost}
use Rattle.client_core.specs.KeepsPool.{KeepsPool, names}
use Rattle.client_core.specs.Replies.{IsUnheld}
use Rattle.client_core.specs.Session.{IsSession, Session}
use Rattle.client_core.specs.Shown.{shown_active}
use Rattle.client_core.specs.Timeouts.{call_numbered, call_timer, timer_told}
use Rattle.client_core.specs.Watching.{call_number, is_after}
use Rattle.client_core.proofs.OneCallLemmas.{by-request, least-found}
use Rattle.server_core.specs.KeepsPool.{names as slot_names}
use Rattle.server_core.specs.Replies.{request_of}
use Rattle.server_core.specs.Session.{Session as Serving}
use Rattle.server_core.specs.Shown.{shown as shown_server}
use Rattle.session_ends.specs.declared.side.Side.{Side}
use Rattle.session_ends.specs.declared.stage.Stage.{Stage}
use Rattle.session_ends.specs.declared.stage.Stage.TheVariants.{Connecting, Connected, Closing}
use Rattle.session_ends.specs.declared.stage.Stage.TheVariants.{Closed, Failed, Broken}
use Rattle.session_store.specs.Changes.{ActiveAt, ChangesAt, IsConnected, IsIdle, IsLost, LosesAt}
use Rattle.session_store.specs.Changes.{RowAt, calls_in, first_number}
use Rattle.client_core.specs.Effects.{LosesNext}
use Rattle.session_ends.specs.Effects.{SideLoses}
use Rattle.session_store.specs.Ends.{progress_of, shown_end}
use Rattle.session_store.specs.Sides.{HasSlots, IsOf, IsOfOwner, Kept, ServerHolds, Shown}
use Rattle.session_store.specs.Sides.{SideAscends, SideQueued, places_in, served_places, shown_of}
use Rattle.session_store.specs.Sides.{shown_side, side_handed}
use Rattle.session_ends.specs.Sides.{IsOfSide, SideKept}
use Rattle.session_ends.specs.Joined.{queued_of}
use Rattle.client_core.specs.Handing.{HandsBack}
use Rattle.session_store.specs.Handing.{HandsBackIf}
use Rattle.session_store.proofs.EndLemmas.{calls-end}
use Rattle.session_store.proofs.KeptLemmas.{ClientActs, client-kept, client-places, clients-set}
use Rattle.session_store.proofs.KeptLemmas.{handed-kept, handed-set, servers-same}
use Rattle.session_ends.proofs.ListLemmas.{set-own, sum-one, sum-two}
use Rattle.session_store.proofs.PlaceLemmas.{names-ask, names-later}
use Rattle.session_store.proofs.ReplyGoneLemmas.{end-at, named-cases, reply-stands}
use Rattle.session_store.proofs.ReplyLemmas.{Spends, ended-spends}
use Rattle.session_store.proofs.RollLemmas.{at-connected, seen}
use Rattle.session_store.proofs.StandLemmas.{of-side}
use Rattle.session_store.proofs.TimerLemmas.{breaks-end, lose-end, none-left, progress-found}
use Rattle.session_store.proofs.UnheldLemmas.{named-found, none-at, none-named, of-call}

-- the entries of the ring, none of which is session i's
idle-seen : (i : ℕ) (es : List EntryValue) → list_any (λ (q : Queued). is_ask_of i q.owner)
    (map queued_of es) ≡ list_any (λ e. is_ask_of i e.owner) es
idle-seen i [] = refl
idle-seen i (e ∷ es) = rw (idle-seen i es) refl

module _ (sides : List Side) (servers : List Serving) (i : ℕ) (later : Side) where
  other-one : (e : EntryValue) (o : Owner) → is_ask_of i o ≡ false → IsOfOwner sides servers e o
      → IsOfOwner (slice_set sides i later) servers e o
  other-one e (Ask s r) other h = elim (cases_eq s i) [
    | inl here ↦ (let yes : eqb s i ≡ true = eq-eqb s i here in cc)
    | inr away ↦ subst (IsOfSide e) (sym (set-other sides i s later away)) h
  ]
  other-one e (Reply t r) other h = h
  other-one e Control other h = h

  pub stands-idle : (es : List EntryValue) → list_any (λ e. is_ask_of i e.owner) es ≡ false
      → AllByRecursion (IsOf sides servers) es
      → AllByRecursion (IsOf (slice_set sides i later) servers) es
  stands-idle [] idle all = tt
  stands-idle (e ∷ es) idle all =
      let parts = or-false (is_ask_of i e.owner) (list_any (λ d. is_ask_of i d.owner) es) idle in
      (other-one e e.owner parts.0 all.0, stands-idle es parts.1 all.1)

-- no entry names a place of session i
module _ (pool : Pool) (sides : List Side) (servers : List Serving) (tx : Ring EntryValue)
    (kept : Kept pool sides servers tx) (i : ℕ) (side : Side) (at : slice_get sides i ≡ Some side)
    (idle : list_any (λ e. is_ask_of i e.owner) tx.items ≡ false) (p : ℕ)
    (mine : 1 ≤ names p side.session.active) where
  module _ (k : ℕ) (d : EntryValue) (there : slice_get tx.items k ≡ Some d) where
    not-own : is_ask_of i d.owner ≡ false
    not-own = none-at (λ e. is_ask_of i e.owner) tx.items k d idle there

    named-by-call : (x : ActiveCall) (b : Bool) → Some p ≡ cond b (Some x.ask) None → p ≡ x.ask
    named-by-call x true e = cc
    named-by-call x false e = cc

    not-ask : (t q : ℕ) → d.owner ≡ Ask t q → d.place ≡ Some p → ⊥
    not-ask t q its placed =
        let its-side = of-side sides servers t q d its (all-at (IsOf sides servers) tx.items k d kept.stands there) in
        let call = of-call its-side.side.session d its-side.is.2 in
        elim (cases_eq t i) [
          | inl here ↦ (let yes : is_ask_of i d.owner ≡ true = ap (is_ask_of i) its ∙ eq-eqb t i here in let no : true ≡ false = sym yes ∙ not-own in cc)
          | inr away ↦ (
              let ask = named-by-call call.call _ (sym placed ∙ call.place) in
              let theirs = named-found _ call.call its-side.side.session.active call.found p (sym ask) in
              omega (
                arith,
                mine,
                theirs,
                sum-two (λ s. names p s.session.active) sides i t side
                    its-side.side at its-side.at away,
                kept.apart p,
              ))
        ]

    not-reply : (t q : ℕ) → d.owner ≡ Reply t q → d.place ≡ Some p → ⊥
    not-reply t q its placed =
        let server = end-at servers t d.peer (subst (IsOfOwner sides servers d) its
        (all-at (IsOf sides servers) tx.items k d kept.stands there)) in
        let reply = reply-stands pool tx.items server.server q d
        (its ∙ ap (λ n. Reply n q) (sym server.numbered))
        (λ P all. all-at P tx.items k d all there)
        (all-at (ServerHolds pool tx.items) servers server.place server.server kept.holds
        server.at) in
        let theirs = named-cases server.server d p placed (request_of server.server d) refl reply in
        omega (
          arith,
          mine,
          theirs,
          sum-one (λ s. names p s.session.active) sides i side at,
          sum-one (λ v. slot_names p v.slots) servers server.place server.server server.at,
          kept.apart p,
        )

    not-named : (o : Owner) → d.owner ≡ o → d.place ≡ Some p → ⊥
    not-named (Ask t q) its placed = not-ask t q its placed
    not-named (Reply t q) its placed = not-reply t q its placed
    not-named Control its placed =
        absurd (subst (IsOfOwner sides servers d) its
        (all-at (IsOf sides servers) tx.items k d kept.stands there))

    unmentioned : (o : Option ℕ) → d.place ≡ o → mentions p (d ∷ []) ≡ 0
    unmentioned None e = mentions-none p d e
    unmentioned (Some q) e = mentions-other p q d e (λ same. not-named d.owner refl (e ∙ ap Some same))

  pub unheld-place : refs_of pool p ≡ 0
  unheld-place = kept.counted p ∙ none-named p tx.items (λ k d there. unmentioned k d there d.place refl)

module _ (pool : Pool) (cs : List ActiveCall) where
  all-unheld : (ds : List ActiveCall) → ((p : ℕ) → 1 ≤ names p ds → refs_of pool p ≡ 0)
      → AllByRecursion (IsUnheld pool) ds
  all-unheld [] each = tt
  all-unheld (d ∷ ds) each = (each d.ask (names-ask d ds), all-unheld ds (λ p n. each p (names-later p d ds n)))

-- as it is looked at
module _ (pool : Pool) (sides : List Side) (servers : List Serving) (tx : Ring EntryValue)
    (kept : Kept pool sides servers tx) (seen-as : Shown)
    (view : shown_of pool sides servers tx ≡ seen-as) (i : ℕ) where
  idle-entries : IsIdle i seen-as.queued → list_any (λ e. is_ask_of i e.owner) tx.items ≡ false
  idle-entries idle =
      let here : list_any (λ (q : Queued). is_ask_of i q.owner) (map queued_of tx.items) ≡ false =
      rw (← view) at idle in
      sym (idle-seen i tx.items) ∙ here

  unheld-cases : IsIdle i seen-as.queued → (o : Option Side) → slice_get sides i ≡ o
      → IfSome o (λ s. AllByRecursion (IsUnheld pool) s.session.active)
  unheld-cases idle None e = tt
  unheld-cases idle (Some s) e =
      all-unheld pool s.session.active s.session.active
      (λ p n. unheld-place pool sides servers tx kept i s e (idle-entries idle) p n)

  pub unheld-at : IsIdle i seen-as.queued → IfSome (slice_get sides i)
      (λ s. AllByRecursion (IsUnheld pool) s.session.active)
  unheld-at idle = unheld-cases idle (slice_get sides i) refl

  -- the peer is lost
  module _ (side : Side) (at : slice_get sides i ≡ Some side) (idle : IsIdle i seen-as.queued)
      (connected : IsConnected (slice_get seen-as.clients i)) where
    abbrev broken : Side
    broken = record side { stage = Broken }

    breaks-acts : ClientActs pool pool sides servers i side broken tx tx
    breaks-acts =
        let own = all-at (SideKept pool) sides i side kept.keeps at in
        record {
          acts = record {
            leaves = λ p none used. (none, refl, refl);
            few = own.apart;
            counts = kept.counted;
            beside = refl;
            within = kept.within;
            size = refl;
          };
          keeps = own;
          number = refl;
          ascends = rw (calls-end side.stage pool side.peer side.session)
              at (all-at (SideAscends pool) sides i side kept.ascends at);
          stands = stands-idle sides servers i broken tx.items (idle-entries idle) kept.stands;
          queued = all-at (SideQueued tx.items) sides i side kept.queued at;
          slots = all-at HasSlots sides i side kept.slots at;
          spare = refl;
        }

    its-stage : side.stage ≡ Connected
    its-stage =
        let here : IsConnected (slice_get (map (shown_side pool) sides) i) =
        rw (← view) at connected in
        at-connected pool side (rw (get-map (shown_side pool) sides i side at) at here)

    pub breaks-kept : Kept pool (slice_set sides i broken) servers tx
    breaks-kept = client-kept pool pool sides servers i side broken tx tx at kept breaks-acts

    pub breaks-places : spare_of pool + places_in (slice_set sides i broken) + served_places servers
        ≡ spare_of pool + places_in sides + served_places servers
    breaks-places = client-places pool pool sides servers i side broken tx tx at kept breaks-acts

    pub breaks-handed : map (side_handed pool) (slice_set sides i broken) ≡ map (side_handed pool) sides
    breaks-handed = handed-kept pool pool sides servers i side broken tx tx at kept breaks-acts refl

    pub breaks-clients : ChangesAt i breaks seen-as.clients (map (shown_side pool) (slice_set sides i broken))
    breaks-clients = rw (← view) (record {
      client = shown_side pool side;
      place = get-map (shown_side pool) sides i side at;
      changed = clients-set pool pool sides servers i side broken tx tx at kept breaks-acts
          ∙ ap (slice_set (map (shown_side pool) sides) i)
          (breaks-end side.stage pool side.peer side.session its-stage);
    })

  -- its calls end
  pub lost-broken : IsLost (slice_get seen-as.clients i) → (side : Side)
      → slice_get sides i ≡ Some side → side.stage ≡ Broken
  lost-broken lost side at =
      let here : IsLost (slice_get (map (shown_side pool) sides) i) = rw (← view) at lost in
      let own : (shown_side pool side).state ≡ SessionState.Broken =
      rw (get-map (shown_side pool) sides i side at) at here in
      by side.stage own
    where
      by : (stage : Stage)
          → (shown_end stage pool side.peer side.session).state ≡ SessionState.Broken
          → stage ≡ Broken
      by (Connecting n t) h = cc
      by Connected h = cc
      by (Closing n t) h = cc
      by Closed h = cc
      by Failed h = cc
      by Broken h = refl

-- a waiting call that is given up takes no place
lost-cases : (pool after : Pool) (old new : Session) (d : Done) (o : Option ActiveCall)
    → IsSession old → KeepsPool pool old.active → next_lost old ≡ o → Loses o d old new pool after
    → Spends pool after old new
lost-cases pool after old new d None sound keeps e g = record {
  number = ap (λ (x : Session). x.number) g.0.session;
  fewer = rw g.0.session (omega arith);
  spare = rw (g.0.session, g.1) refl;
}
lost-cases pool after old new d (Some c) sound keeps e g =
    let (test, found) = least-found (is_after None) call_number old.active c e in
    let own = by-request old test c sound found in
    ended-spends pool after old new test c keeps found own g.session g.pool

lost-spends : (pool after : Pool) (old new : Session) (o : Option Done) → KeepsPool pool old.active
    → LosesNext o old new pool after → Spends pool after old new
lost-spends pool after old new None keeps h = record {
  number = ap (λ (x : Session). x.number) h.unchanged.0;
  fewer = rw h.unchanged.0 (omega arith);
  spare = rw (h.unchanged.0, h.unchanged.1) refl;
}
lost-spends pool after old new (Some d) keeps h =
    lost-cases pool after old new d (next_lost old) h.sound keeps refl h.loses

-- the first call of session i ended, if there was one
module _ (pool after : Pool) (sides now : List Side) (servers : List Serving) (tx : Ring EntryValue)
    (kept : Kept pool sides servers tx) (seen-as : Shown)
    (view : shown_of pool sides servers tx ≡ seen-as) (i : ℕ) (idle : IsIdle i seen-as.queued)
    (o : Option Done) (h : SideLoses i o sides now pool after)
    (broken : h.side.stage ≡ Broken) where
  abbrev less : Side
  less = record h.side { session = h.later }

  up-cases : (d : Option Done) → LosesNext d h.side.session h.later pool after
      → SideAscends after less
  up-cases None g = rw (g.unchanged.0, g.unchanged.1) (all-at (SideAscends pool) sides i h.side kept.ascends h.at)
  up-cases (Some d) g =
      (lose-end h.side.stage pool after h.side.peer d h.side.session h.later broken
      (all-at (SideAscends pool) sides i h.side kept.ascends h.at) g.loses g.step).calls

  lose-acts : ClientActs pool after sides servers i h.side less tx tx
  lose-acts =
      let spends = lost-spends pool after h.side.session h.later o
      (all-at (SideKept pool) sides i h.side kept.keeps h.at) h.step in
      record {
        acts = record {
          leaves = h.step.still.others;
          few = h.step.still.keeps_pool.apart;
          counts = h.step.still.counts tx.items kept.counted;
          beside = refl;
          within =
              kept.within;
          size = refl;
        };
        keeps = h.step.still.keeps_pool;
        number = spends.number;
        ascends = up-cases o h.step;
        stands = stands-idle sides servers i less tx.items
            (idle-entries pool sides servers tx kept seen-as view i idle) kept.stands;
        queued = h.step.still.queued tx.items (all-at (SideQueued tx.items) sides i h.side kept.queued h.at);
        slots = omega (arith, spends.fewer, all-at HasSlots sides i h.side kept.slots h.at);
        spare = spends.spare;
      }

  pub lose-kept : Kept after now servers tx
  lose-kept = subst (λ xs. Kept after xs servers tx) (sym h.changed)
      (client-kept pool after sides servers i h.side less tx tx h.at kept lose-acts)

  pub lose-servers : map (shown_server after) servers ≡ map (shown_server pool) servers
  lose-servers = servers-same pool after sides servers i h.side less tx tx h.at kept lose-acts

  pub lose-places : spare_of after + places_in now + served_places servers
      ≡ spare_of pool + places_in sides + served_places servers
  lose-places = ap (λ xs. spare_of after + places_in xs + served_places servers) h.changed
      ∙ client-places pool after sides servers i h.side less tx tx h.at kept lose-acts

  back-cases : (d : Option Done) → LosesNext d h.side.session h.later pool after
      → HandsBackIf i d (map (side_handed pool) sides) (map (side_handed after) now)
  back-cases None g =
      ap (map (side_handed after)) h.changed
      ∙ handed-kept pool after sides servers i h.side less tx tx h.at kept lose-acts
      (rw (g.unchanged.0, g.unchanged.1) refl)
  back-cases (Some d) g = record {
    before = side_handed pool h.side;
    place = get-map (side_handed pool) sides i h.side h.at;
    later = side_handed after less;
    back = subst (λ n. HandsBack n d (side_handed pool h.side) (side_handed after less))
        (kept.numbered i h.side h.at) g.handed;
    changed = ap (map (side_handed after)) h.changed
        ∙ handed-set pool after sides servers i h.side less tx tx h.at kept lose-acts;
  }

  pub lose-handed : HandsBackIf i o (map (side_handed pool) sides) (map (side_handed after) now)
  lose-handed = back-cases o h.step

  lose-set : map (shown_side after) now ≡ slice_set (map (shown_side pool) sides) i (shown_side after less)
  lose-set = ap (map (shown_side after)) h.changed
      ∙ clients-set pool after sides servers i h.side less tx tx h.at kept lose-acts

  place : slice_get (map (shown_side pool) sides) i ≡ Some (shown_side pool h.side)
  place = get-map (shown_side pool) sides i h.side h.at

  loses-cases : (d : Option Done) → LosesNext d h.side.session h.later pool after
      → LosesAt i (option_map (λ (x : Done). x.call) d) (map (shown_side pool) sides)
      (map (shown_side after) now)
  loses-cases None g =
      let none = sym (none-left h.side.stage pool h.side.peer h.side.session (g.none.0 refl)) in
      let same : shown_side after less ≡ shown_side pool h.side = rw (g.unchanged.0, g.unchanged.1) refl in (
        ap (λ x. first_number (calls_in x)) place ∙ none,
        lose-set
            ∙ ap (slice_set (map (shown_side pool) sides) i) same
            ∙ set-own (map (shown_side pool) sides) i (shown_side pool h.side) place,
      )
  loses-cases (Some d) g =
      let ended = lose-end h.side.stage pool after h.side.peer d h.side.session h.later broken
      (all-at (SideAscends pool) sides i h.side kept.ascends h.at) g.loses g.step in (
        ap (λ x. first_number (calls_in x)) place ∙ sym ended.next,
        record {
          client = shown_side pool h.side;
          place = place;
          changed = lose-set
              ∙ ap (slice_set (map (shown_side pool) sides) i) ended.view;
        },
      )

  pub lose-clients : LosesAt i (option_map (λ (x : Done). x.call) o) seen-as.clients (map (shown_side after) now)
  lose-clients = rw (← view) (loses-cases o h.step)

-- a look at a call's clock
module _ (pool : Pool) (sides : List Side) (servers : List Serving) (tx : Ring EntryValue)
    (seen-as : Shown) (view : shown_of pool sides servers tx ≡ seen-as) (i : ℕ) (a : Active)
    (is : ActiveAt i a seen-as.clients) (side : Side) (at : slice_get sides i ≡ Some side) where
  its-client : is.client ≡ shown_side pool side
  its-client =
      let there : slice_get (map (shown_side pool) sides) i ≡ Some is.client =
      ap (λ (v : Shown). slice_get v.clients i) view ∙ is.place in
      some-same is.client (shown_side pool side) (sym there ∙ get-map (shown_side pool) sides i side at)
    where
      some-same : (x y : Client) → Some x ≡ Some y → x ≡ y
      some-same x y t = cc

  told-call : progress_of a.call (shown_side pool side) ≡ Some is.progress
  told-call = ap (progress_of a.call) (sym its-client) ∙ is.active

  pub record Watched : Type 0 where
    pub call : ActiveCall
    pub found : call_numbered a.call side.session ≡ Some call
    pub progress : Some is.progress ≡ (shown_active pool call).progress

  pub watched : Watched
  watched =
      let s = seen side.stage pool side.peer a.call side.session is.progress told-call in
      record {
        call = s.call;
        found = s.found;
        progress = sym told-call
            ∙ progress-found side.stage pool side.peer a.call side.session s.call s.found;
      }

  pub watched-active : IsSome (call_numbered a.call side.session)
  watched-active = rw watched.found refl

  row-by : (now timeout : ℕ) (c : ActiveCall) (p : Progress) (row : TimerRow)
      → Some p ≡ (shown_active pool c).progress
      → call_timer now timeout (list_any (is_queued (Ask i c.request) c.got) seen-as.queued) c ≡ row
      → row_of now timeout i seen-as.queued p ≡ row
  row-by now timeout c p row e h =
      subst (λ (o : Option Progress). IfSome o (λ x. row_of now timeout i seen-as.queued x ≡ row))
      (sym e) h

  pub row-at : (now timeout : ℕ) (row : TimerRow)
      → call_timer now timeout (list_any (is_queued (Ask i watched.call.request) watched.call.got)
      seen-as.queued) watched.call ≡ row
      → RowAt now timeout i a.call row seen-as
  row-at now timeout row h =
      let found : slice_get seen-as.clients i ≡ Some is.client = is.place in
      rw (found, is.active) (row-by now timeout watched.call is.progress row watched.progress h)

  told-same : (c : ActiveCall) (p : Progress) → Some p ≡ (shown_active pool c).progress
      → (p.request ≡ c.request) × (p.got ≡ c.got)
  told-same c p e = (
    subst (λ (o : Option Progress). IfSome o (λ x. x.request ≡ c.request)) (sym e) refl,
    subst (λ (o : Option Progress). IfSome o (λ x. x.got ≡ c.got)) (sym e) refl,
  )

  pub watched-request : a.request ≡ watched.call.request
  watched-request = ap (λ (x : Active). x.request) is.told ∙ (told-same watched.call is.progress watched.progress).0

  pub watched-got : a.got ≡ watched.call.got
  watched-got = ap (λ (x : Active). x.got) is.told ∙ (told-same watched.call is.progress watched.progress).1

  -- where the clock alone lets it wait
  pub quiet-row : (now timeout : ℕ) → IfSome (call_numbered a.call side.session)
      (λ c. (b : Bool) → call_timer now timeout b c ≡ Waits)
      → RowAt now timeout i a.call Waits seen-as
  quiet-row now timeout h =
      let waits : (b : Bool) → call_timer now timeout b watched.call ≡ Waits = rw watched.found at h in
      row-at now timeout Waits (waits (list_any
      (is_queued (Ask i watched.call.request) watched.call.got) seen-as.queued))

  pub late-row : (now timeout : ℕ) (is_waiting : Bool) (t : Timer) (row : TimerRow)
      → is_waiting ≡ list_any (is_queued (Ask i a.request) a.got) seen-as.queued
      → IfSome (call_numbered a.call side.session)
      (λ c. t ≡ timer_told (call_timer now timeout is_waiting c) c)
      → ((c : ActiveCall) → (r : TimerRow) → t ≡ timer_told r c → r ≡ row)
      → RowAt now timeout i a.call row seen-as
  late-row now timeout is_waiting t row waits told back =
      let here : t ≡ timer_told (call_timer now timeout is_waiting watched.call) watched.call =
      rw watched.found at told in
      let same : is_waiting ≡ list_any (is_queued (Ask i watched.call.request) watched.call.got)
      seen-as.queued = waits ∙ ap (λ r. list_any (is_queued (Ask i r) a.got) seen-as.queued)
      watched-request ∙ ap (λ k. list_any (is_queued (Ask i watched.call.request) k)
      seen-as.queued) watched-got in
      row-at now timeout row (ap (λ b. call_timer now timeout b watched.call) (sym same)
      ∙ back watched.call (call_timer now timeout is_waiting watched.call) here)

-- a call that is lost ends so
lost-outcome : (old new : Session) (pool after : Pool) (d : Done) (o : Option ActiveCall)
    → Loses o d old new pool after → d.outcome ≡ PeerLost
lost-outcome old new pool after d None g = g.0.done.ended_as
lost-outcome old new pool after d (Some c) g = g.done.ended_as

pub lost-as : (old new : Session) (pool after : Pool) (o : Option Done)
    → LosesNext o old new pool after → IfSome o (λ d. d.outcome ≡ PeerLost)
lost-as old new pool after None h = tt
lost-as old new pool after (Some d) h = lost-outcome old new pool after d (next_lost old) h.loses
