-- What a rollback does to all that always holds of a store.
use Rattle.std.proofs.Common.{◌≡◌, ℕ, ◌+◌, ◌<◌, Bool, true, false, cond, Option, Some, None, List}
use Rattle.std.proofs.Common.{[], ◌∷◌, length, refl, sym, ap, subst, ◌∙◌, arith}
use Rattle.std.specs.Prelude.{IfSome, IsSome, count_by, map, option_and_then, option_map, slice_get}
use Rattle.std.specs.Prelude.{slice_set}
use Rattle.std.specs.List.{find, list_any}
use Rattle.std.specs.Option.{option_or}
use Rattle.std.proofs.lemmas.List.Folds.{find-append}
use Rattle.rpc_base.specs.declared.owner.Owner.{Owner}
use Rattle.rpc_base.specs.declared.owner.Owner.TheVariants.{Ask}
use Rattle.rpc_base.proofs.FirstLemmas.{found-holds, none-counted}
use Rattle.rpc_base.proofs.PlaceLemmas.{all-at, get-map}
use Rattle.buffer_pool.specs.Pool.{Pool, spare_of}
use Rattle.packet_rings.specs.Entries.{is_of}
use Rattle.packet_rings.specs.Rings.{Ring}
use Rattle.packet_rings.specs.Values.{EntryValue}
use Rattle.rpc_laws.specs.Calls.{is_call}
use Rattle.rpc_laws.specs.Sessions.{is_connected, rolls}
use Rattle.rpc_laws.specs.declared.tables.Call.{Call}
use Rattle.rpc_laws.specs.declared.tables.Client.{Client}
use Rattle.rpc_laws.specs.declared.tables.Progress.{Progress}
use Rattle.session_slots.specs.declared.waiting.Waiting.{Waiting}
use Rattle.client_core.specs.declared.call.ActiveCall.{ActiveCall}
use Rattle.client_core.specs.Replies.{is_request}
use Rattle.client_core.specs.Session.{Session}
use Rattle.client_core.specs.Shown.{parts_of, shown, shown_active, shown_waiting}
use Rattle.client_core.specs.Timeouts.{call_numbered, is_numbered, rolled_call}
use Rattle.client_core.proofs.CallsLemmas.{length-at_first}
use Rattle.client_core.proofs.ShownLemmas.{found-shown}
use Rattle.server_core.specs.Session.{Session as Serving}
use Rattle.session_ends.specs.declared.side.Side.{Side}
use Rattle.session_ends.specs.declared.stage.Stage.{Stage}
use Rattle.session_ends.specs.declared.stage.Stage.TheVariants.{Connecting, Connected, Closing}
use Rattle.session_ends.specs.declared.stage.Stage.TheVariants.{Closed, Failed, Broken}
use Rattle.session_store.specs.Changes.{MayRoll, RollsAt}
use Rattle.session_ends.specs.Effects.{SideRolls}
use Rattle.session_store.specs.Ends.{progress_of, shown_end}
use Rattle.session_ends.specs.Joined.{is_owned, queued_of}
use Rattle.session_store.specs.Sides.{HasSlots, Kept, Shown, SideAscends, SideQueued, places_in}
use Rattle.session_store.specs.Sides.{served_places, shown_of, shown_side, side_handed}
use Rattle.session_ends.specs.Sides.{SideKept}
use Rattle.session_store.proofs.EndLemmas.{calls-end}
use Rattle.session_store.proofs.KeptLemmas.{ClientActs, client-kept, client-places, clients-set}
use Rattle.session_store.proofs.KeptLemmas.{handed-kept}
use Rattle.session_store.proofs.StandLemmas.{stands-but}
use Rattle.session_store.proofs.TimerLemmas.{RollsEnd, numbered-same, progress-found, roll-end}

module _ (pool : Pool) (sides now : List Side) (servers : List Serving) (tx : Ring EntryValue)
    (i number : ℕ) (kept : Kept pool sides servers tx) (h : SideRolls i number sides now)
    (up : SideAscends pool (record h.side { session = h.later }))
    (idle : list_any (is_of (Ask i h.step.call.request)) tx.items ≡ false) where
  abbrev rolled_side : Side
  rolled_side = record h.side { session = h.later }

  roll-length : length h.later.active ≡ length h.side.session.active
  roll-length = ap (λ (x : Session). length x.active) h.step.session
      ∙ length-at_first (is_request h.step.call.request) rolled_call h.side.session.active

  roll-acts : ClientActs pool pool sides servers i h.side rolled_side tx tx
  roll-acts =
      let keeps = h.step.keeps_pool pool (all-at (SideKept pool) sides i h.side kept.keeps h.at) in
      record {
        acts = record {
          leaves = h.step.others pool;
          few = keeps.apart;
          counts = kept.counted;
          beside = refl;
          within = kept.within;
          size = refl;
        };
        keeps = keeps;
        number = ap (λ (x : Session). x.number) h.step.session;
        ascends = up;
        stands = stands-but sides servers i h.side rolled_side h.at refl refl
            (Ask i h.step.call.request) (λ e other was. h.step.entries e
            (ap (λ n. is_of (Ask n h.step.call.request) e) (kept.numbered i h.side h.at) ∙ other)
            was) tx.items kept.stands idle;
        queued = h.step.queued tx.items (all-at (SideQueued tx.items) sides i h.side kept.queued h.at);
        slots = omega (arith, roll-length, all-at HasSlots sides i h.side kept.slots h.at);
        spare = omega (arith, roll-length);
      }

  pub kept-rolled : Kept pool now servers tx
  kept-rolled = subst (λ xs. Kept pool xs servers tx) (sym h.changed)
      (client-kept pool pool sides servers i h.side rolled_side tx tx h.at kept roll-acts)

  pub rolled-places : spare_of pool + places_in now + served_places servers
      ≡ spare_of pool + places_in sides + served_places servers
  rolled-places = ap (λ xs. spare_of pool + places_in xs + served_places servers) h.changed
      ∙ client-places pool pool sides servers i h.side rolled_side tx tx h.at kept roll-acts

  pub rolled-handed : map (side_handed pool) now ≡ map (side_handed pool) sides
  rolled-handed = ap (map (side_handed pool)) h.changed
      ∙ handed-kept pool pool sides servers i h.side rolled_side tx tx h.at kept roll-acts
      (h.step.handed pool)

  pub rolled-set : map (shown_side pool) now ≡ slice_set (map (shown_side pool) sides) i (shown_side pool rolled_side)
  rolled-set = ap (map (shown_side pool)) h.changed
      ∙ clients-set pool pool sides servers i h.side rolled_side tx tx h.at kept roll-acts

-- an active call, as it is seen
waits-cons : (n : ℕ) (w : Waiting) (ws : List Waiting) (b : Bool)
    → option_and_then (λ (c : Call). c.progress) (find (is_call n) (map shown_waiting ws)) ≡ None
    → option_and_then (λ (c : Call). c.progress)
    (cond b (Some (shown_waiting w)) (find (is_call n) (map shown_waiting ws))) ≡ None
waits-cons n w ws true ih = refl
waits-cons n w ws false ih = ih

progress-waits : (n : ℕ) (ws : List Waiting) → option_and_then (λ (c : Call). c.progress)
    (find (is_call n) (map shown_waiting ws)) ≡ None
progress-waits n [] = refl
progress-waits n (w ∷ ws) = waits-cons n w ws (is_call n (shown_waiting w)) (progress-waits n ws)

abbrev progress_in : ActiveCall → Pool → Progress
progress_in c pool =
    record {
      request = c.request;
      got = c.got;
      posted = c.posted;
      rolls = c.rolls;
      mark = c.mark;
      answer = c.size;
      parts = parts_of pool c;
    }

pub record Seen (pool : Pool) (n : ℕ) (s : Session) (p : Progress) : Type 0 where
  pub call : ActiveCall
  pub found : call_numbered n s ≡ Some call
  pub rolls_are : p.rolls ≡ call.rolls
  pub request_is : p.request ≡ call.request

some-seen : (pool : Pool) (n : ℕ) (s : Session) (p : Progress) (c : ActiveCall)
    → call_numbered n s ≡ Some c → Some p ≡ (shown_active pool c).progress → Seen pool n s p
some-seen pool n s p c e t =
    let one : p ≡ progress_in c pool = cc in
    record {
      call = c;
      found = e;
      rolls_are = ap (λ (x : Progress). x.rolls) one;
      request_is = ap (λ (x : Progress). x.request) one;
    }

seen-cases : (stage : Stage) (pool : Pool) (peer n : ℕ) (s : Session) (p : Progress)
    (o : Option ActiveCall) → call_numbered n s ≡ o
    → progress_of n (shown_end stage pool peer s) ≡ Some p → Seen pool n s p
seen-cases stage pool peer n s p (Some c) e h = some-seen pool n s p c e (sym h ∙ progress-found stage pool peer n s c e)
seen-cases stage pool peer n s p None e h =
    let active : find (is_call n) (map (shown_active pool) s.active) ≡ None =
    found-shown (shown_active pool) (is_call n)
    (is_numbered n) s.active (numbered-same pool n s.active)
    ∙ ap (option_map (shown_active pool)) e in
    let all : find (is_call n) (shown pool peer s).calls
    ≡ find (is_call n) (map shown_waiting s.slots.waiting) =
    find-append (is_call n) (map (shown_active pool) s.active)
    (map shown_waiting s.slots.waiting)
    ∙ ap (λ o. option_or o (find (is_call n) (map shown_waiting s.slots.waiting))) active in
    let gone : progress_of n (shown_end stage pool peer s) ≡ None =
    ap (λ (cs : List Call). option_and_then (λ (c : Call). c.progress)
    (find (is_call n) cs)) (calls-end stage pool peer s)
    ∙ ap (option_and_then (λ (c : Call). c.progress)) all
    ∙ progress-waits n s.slots.waiting in
    let differ : None ≡ Some p = sym gone ∙ h in cc

pub seen : (stage : Stage) (pool : Pool) (peer n : ℕ) (s : Session) (p : Progress)
    → progress_of n (shown_end stage pool peer s) ≡ Some p → Seen pool n s p
seen stage pool peer n s p h = seen-cases stage pool peer n s p (call_numbered n s) refl h

entries-seen : (owner : Owner) (ds : List EntryValue) → list_any (is_owned owner)
    (map queued_of ds) ≡ list_any (is_of owner) ds
entries-seen owner [] = refl
entries-seen owner (d ∷ ds) = rw (entries-seen owner ds) refl

pub at-connected : (pool : Pool) (s : Side) → is_connected (shown_side pool s).state ≡ true
    → s.stage ≡ Connected
at-connected pool s h = by s.stage h
  where
    by : (stage : Stage) → is_connected (shown_end stage pool s.peer s.session).state ≡ true
        → stage ≡ Connected
    by (Connecting n t) h = cc
    by Connected h = refl
    by (Closing n t) h = cc
    by Closed h = cc
    by Failed h = cc
    by Broken h = cc

module _ (pool : Pool) (sides : List Side) (servers : List Serving) (tx : Ring EntryValue)
    (i number : ℕ) (view : Shown) (is : shown_of pool sides servers tx ≡ view)
    (may : MayRoll i number view) where
  side-client : (s : Side) → slice_get sides i ≡ Some s → may.client ≡ shown_side pool s
  side-client s e =
      let place : slice_get (map (shown_side pool) sides) i ≡ Some may.client =
      ap (λ (v : Shown). slice_get v.clients i) is ∙ may.place in
      some-same may.client (shown_side pool s) (sym place ∙ get-map (shown_side pool) sides i s e)
    where
      some-same : (x y : Client) → Some x ≡ Some y → x ≡ y
      some-same x y t = cc

  side-seen : (s : Side) → slice_get sides i ≡ Some s → Seen pool number s.session may.progress
  side-seen s e = seen s.stage pool s.peer number s.session may.progress
      (ap (progress_of number) (sym (side-client s e)) ∙ may.active)

  active-cases : (o : Option Side) → slice_get sides i ≡ o
      → IfSome o (λ s. IsSome (call_numbered number s.session))
  active-cases None e = tt
  active-cases (Some s) e = rw (side-seen s e).found refl

  pub roll-active-at : IfSome (slice_get sides i) (λ s. IsSome (call_numbered number s.session))
  roll-active-at = active-cases (slice_get sides i) refl

  few-cases : (o : Option Side) → slice_get sides i ≡ o
      → IfSome o (λ s. IfSome (call_numbered number s.session) (λ c. c.rolls < 8))
  few-cases None e = tt
  few-cases (Some s) e = let c = side-seen s e in rw c.found (omega (arith, may.few, c.rolls_are))

  pub roll-few-at : IfSome (slice_get sides i) (λ s. IfSome (call_numbered number s.session) (λ c. c.rolls < 8))
  roll-few-at = few-cases (slice_get sides i) refl

  module _ (now : List Side) (kept : Kept pool sides servers tx)
      (h : SideRolls i number sides now) where
    connected : h.side.stage ≡ Connected
    connected = at-connected pool h.side (ap (λ (x : Client). is_connected x.state)
        (sym (side-client h.side h.at)) ∙ may.connected)

    ends : RollsEnd number h.side.stage pool h.side.peer h.side.session h.later
    ends = roll-end number h.side.stage pool h.side.peer h.side.session h.later connected
        (all-at (SideAscends pool) sides i h.side kept.ascends h.at)
        (all-at (SideKept pool) sides i h.side kept.keeps h.at) (rw h.step.found refl)
        (rw h.step.found h.step.session) (rw h.step.found h.step.step)

    same-call : (side-seen h.side h.at).call ≡ h.step.call
    same-call = some-same _ _ (sym (side-seen h.side h.at).found ∙ h.step.found)
      where
        some-same : (x y : ActiveCall) → Some x ≡ Some y → x ≡ y
        some-same x y t = cc

    idle : list_any (is_of (Ask i h.step.call.request)) tx.items ≡ false
    idle =
        let request : may.progress.request ≡ h.step.call.request =
        (side-seen h.side h.at).request_is ∙ ap (λ (c : ActiveCall). c.request) same-call in
        let free : list_any (is_owned (Ask i may.progress.request)) (map queued_of tx.items)
        ≡ false = ap (λ (v : Shown). list_any (is_owned (Ask i may.progress.request))
        v.queued) is ∙ may.idle in
        sym (entries-seen (Ask i h.step.call.request) tx.items)
        ∙ ap (λ r. list_any (is_owned (Ask i r)) (map queued_of tx.items)) (sym request) ∙ free

    pub kept-roll : Kept pool now servers tx
    kept-roll = kept-rolled pool sides now servers tx i number kept h ends.calls idle

    pub places-roll : spare_of pool + places_in now + served_places servers
        ≡ spare_of pool + places_in sides + served_places servers
    places-roll = rolled-places pool sides now servers tx i number kept h ends.calls idle

    pub handed-roll : map (side_handed pool) now ≡ map (side_handed pool) sides
    handed-roll = rolled-handed pool sides now servers tx i number kept h ends.calls idle

    pub rolled-clients : RollsAt i number view.clients (map (shown_side pool) now)
    rolled-clients =
        let shown_is : shown_side pool (record h.side { session = h.later })
        ≡ rolls number may.progress.posted may.progress.got (shown_side pool h.side) =
        rw (ap (progress_of number) (sym (side-client h.side h.at)) ∙ may.active)
        at ends.view in
        record {
          client = may.client;
          place = may.place;
          progress = may.progress;
          active = may.active;
          changed = rolled-set pool sides now servers tx i number kept h ends.calls idle
              ∙ ap (slice_set (map (shown_side pool) sides) i)
              (shown_is ∙ ap (rolls number may.progress.posted may.progress.got)
              (sym (side-client h.side h.at)))
              ∙ ap (λ (v : Shown). slice_set v.clients i
              (rolls number may.progress.posted may.progress.got may.client)) is;
        }

  -- none of its packets is queued
  idle-by : (s : Side) (e : slice_get sides i ≡ Some s)
      → list_any (is_of (Ask i (side-seen s e).call.request)) tx.items ≡ false
  idle-by s e =
      let free : list_any (is_owned (Ask i may.progress.request)) (map queued_of tx.items) ≡ false =
      ap (λ (v : Shown). list_any (is_owned (Ask i may.progress.request)) v.queued) is
      ∙ may.idle in
      sym (entries-seen (Ask i (side-seen s e).call.request) tx.items)
      ∙ ap (λ r. list_any (is_owned (Ask i r)) (map queued_of tx.items))
      (sym (side-seen s e).request_is) ∙ free

  unqueued-cases : Kept pool sides servers tx → (o : Option Side) → slice_get sides i ≡ o
      → IfSome o (λ s. IfSome (call_numbered number s.session) (λ c. c.queued ≡ 0))
  unqueued-cases kept None e = tt
  unqueued-cases kept (Some s) e =
      let c = side-seen s e in
      let counted = found-holds (is_numbered number) _ s.session.active c.call
      (all-at (SideQueued tx.items) sides i s kept.queued e) c.found in
      let none = none-counted (is_of (Ask i c.call.request)) tx.items (idle-by s e) in
      let own = ap (λ n. count_by (is_of (Ask n c.call.request)) tx.items) (kept.numbered i s e) in
      rw c.found (counted ∙ own ∙ none)

  pub roll-idle-at : Kept pool sides servers tx → IfSome (slice_get sides i)
      (λ s. IfSome (call_numbered number s.session) (λ c. c.queued ≡ 0))
  roll-idle-at kept = unqueued-cases kept (slice_get sides i) refl
