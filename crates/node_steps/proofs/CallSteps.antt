-- A call that is asked: what its session is, and what holds of the node once it waits.
use Rattle.std.proofs.Common.{◌≡◌, ℕ, ◌+◌, ◌*◌, ◌≤◌, ◌<◌, Bool, true, false, cond, Option, Some, None}
use Rattle.std.proofs.Common.{List, [], ◌∷◌, length, refl, sym, ap, subst, ◌∙◌, arith, eq-eqb}
use Rattle.std.proofs.Common.{ltb-true}
use Rattle.rpc_base.specs.Tables.{at_first}
use Rattle.std.specs.Prelude.{count_by, nat_le, nat_lt, slice_get, slice_set, sum_by, IfSome}
use Rattle.std.specs.List.{AllByRecursion, find}
use Rattle.std.proofs.lemmas.List.{length-set}
use Rattle.std.proofs.lemmas.List.Sums.{sum_by-cons}
use Rattle.std.proofs.lemmas.Option.{slice_get_within}
use Rattle.rpc_base.specs.declared.event.Event.TheVariants.{Asked}
use Rattle.rpc_base.specs.declared.fact.Fact.{Fact}
use Rattle.rpc_base.specs.declared.limits.Limits.{Limits}
use Rattle.rpc_base.specs.declared.limits.TheConstants.{MOST_CALLS, MOST_CAPACITY}
use Rattle.rpc_base.specs.declared.limits.TheConstants.{MOST_MESSAGE_BYTES}
use Rattle.rpc_base.specs.declared.state.SessionState.TheVariants.{Connected}
use Rattle.rpc_base.proofs.FirstLemmas.{counted-cons}
use Rattle.rpc_base.proofs.PlaceLemmas.{all-at, set-here}
use Rattle.packet_rings.specs.Rings.{Ring}
use Rattle.packet_rings.specs.Values.{DatagramValue}
use Rattle.rpc_laws.specs.declared.tables.Asking.{Asking}
use Rattle.rpc_laws.specs.declared.tables.Call.{Call}
use Rattle.rpc_laws.specs.declared.tables.Client.{Client}
use Rattle.rpc_laws.specs.declared.tables.Jobs.{Jobs}
use Rattle.rpc_laws.specs.declared.tables.Pace.{Pace}
use Rattle.rpc_laws.specs.declared.tables.Timed.{Timed}
use Rattle.rpc_laws.specs.Calls.{asking, is_call}
use Rattle.rpc_laws.specs.Facts.{with_bytes}
use Rattle.rpc_laws.specs.Groups.{Asks, ask_by_state, ask_fact, state_of}
use Rattle.rpc_laws.specs.NodeLists.{after}
use Rattle.rpc_laws.specs.Sessions.{asks, is_client, is_connected}
use Rattle.rpc_outside.specs.Recording.{Grew, Log}
use Rattle.node_laws.specs.Kept.{AsksFew, Kept, asked_on}
use Rattle.node_laws.specs.Valid.{NumberedFrom, client_no, holders, to_come}
use Rattle.node_laws.proofs.KeptLemmas.{kept-after}
use Rattle.node_laws.proofs.NumberLemmas.{numbered-get}
use Rattle.node_laws.proofs.StateLemmas.{told-connected, told-few}
use Rattle.session_store.specs.Changes.{ChangesAt}
use Rattle.session_store.specs.Sides.{Shown}
use Rattle.session_store.proofs.AscendsLemmas.{ascends-end}
use Rattle.session_ends.proofs.ListLemmas.{all-set, sum-one}
use Rattle.node_steps.specs.Fits.{CallsAscend, Fits, IsSettled}
use Rattle.node_steps.specs.Notes.{Makes}
use Rattle.node_steps.specs.Seen.{Tallies, asking_jobs, seen_node}
use Rattle.node_steps.proofs.NodeFits.{settled-connected}
use Rattle.node_steps.proofs.SessionFits.{below-used}
use Rattle.node_steps.proofs.PostSteps.{first-at}

-- a session's number is its place
pub client-by : (xs : List Client) (i n : ℕ) → NumberedFrom client_no 0 xs → n ≡ i
    → slice_get xs i ≡ find (is_client n) xs
client-by xs i n numbered same = numbered-get client_no 0 i n xs numbered (omega (arith, same))

pub connected-at : (xs : List Client) (i n : ℕ) → NumberedFrom client_no 0 xs → i ≡ n
    → state_of (find (is_client n) xs) ≡ Connected → state_of (slice_get xs i) ≡ Connected
connected-at xs i n numbered same e = ap state_of (client-by xs i n numbered (sym same)) ∙ e

-- a Connected session is there
pub connected-there : (xs : List Client) (i : ℕ) → state_of (slice_get xs i) ≡ Connected
    → i < length xs
connected-there xs i e = by (slice_get xs i) refl e
  where
    by : (o : Option Client) → slice_get xs i ≡ o → state_of o ≡ Connected → i < length xs
    by None is h = cc
    by (Some x) is h = slice_get_within xs i x is

-- the numbers of a session's calls lie below those that weren't given out
numbers-before : (asked : ℕ) (all : List Call) (cs : List Call)
    → ((n : ℕ) → count_by (is_call n) cs ≤ count_by (is_call n) all)
    → ((n : ℕ) → count_by (is_call n) all + to_come asked n ≤ 1)
    → AllByRecursion (λ c. c.what.number < asked) cs
numbers-before asked all [] within once = tt
numbers-before asked all (c ∷ cs) within once =
    let n = c.what.number in
    let own = counted-cons (is_call n) c cs true (eq-eqb n n refl) in (
      below-used n asked (count_by (is_call n) all) (nat_le asked n) refl
          (omega (arith, own, within n)) (once n),
      numbers-before asked all cs (λ m. omega (
        arith,
        within m,
        counted-cons (is_call m) c cs (is_call m c) refl,
      )) once,
    )

pub calls-before : (xs : List Client) (asked i : ℕ)
    → ((n : ℕ) → holders n xs + to_come asked n ≤ 1)
    → IfSome (slice_get xs i) (λ x. AllByRecursion (λ c. c.what.number < asked) x.calls)
calls-before xs asked i once = by (slice_get xs i) refl
  where
    by : (o : Option Client) → slice_get xs i ≡ o
        → IfSome o (λ x. AllByRecursion (λ c. c.what.number < asked) x.calls)
    by None is = tt
    by (Some x) is = numbers-before asked x.calls x.calls (λ n. omega arith) (λ n. omega (
      arith,
      sum-one (λ (y : Client). count_by (is_call n) y.calls) xs i x is,
      once n,
    ))

-- how many calls are accepted at most
pub few-asked : (xs : List Client) → AllByRecursion AsksFew xs
    → sum_by asked_on xs ≤ MOST_CALLS * length xs
few-asked [] few = omega arith
few-asked (x ∷ xs) few = omega (arith, sum_by-cons asked_on x xs, few.0, few-asked xs few.1)

module _ (me : ℕ) (limits : Limits) (tallies : Tallies) (paces : List Pace) (jobs : Jobs)
    (clock : ℕ) (rx : Ring DatagramValue) (s t : Shown) (what : Asking) (i : ℕ)
    (fits : Fits (seen_node me limits tallies paces jobs clock rx s) s.size s.places)
    (connected : state_of (slice_get s.clients i) ≡ Connected)
    (at : ChangesAt i (asks what) s.clients t.clients) (servers : t.servers ≡ s.servers)
    (queued : t.queued ≡ s.queued) (size : t.size ≡ s.size) (places : t.places ≡ s.places)
    (numbered : what.number ≡ tallies.asked) (now : ℕ) (next : now ≡ tallies.asked + 1) where
  abbrev tallies_now : Tallies
  tallies_now = record tallies { asked = now }

  abbrev seen : Jobs → Timed
  seen js = seen_node me limits tallies paces js clock rx s

  abbrev seen_now : Jobs → Timed
  seen_now js = seen_node me limits tallies_now paces js clock rx t

  abbrev asked : Fact
  asked = with_bytes me (Asked tallies.asked i what.req_type what.room) what.ask

  told : state_of (Some at.client) ≡ Connected
  told = ap state_of (sym at.place) ∙ connected

  up : is_connected at.client.state ≡ true
  up = told-connected at.client.state at.client.asked (ap is_connected told)

  changed : t.clients ≡ at_first (is_client i) (asks what) s.clients
  changed =
      let same : 0 + i ≡ i = omega arith in
      at.changed ∙ sym (subst (λ (n : ℕ). at_first (is_client n) (asks what) s.clients
      ≡ slice_set s.clients i (asks what at.client)) same
      (first-at (asks what) 0 i s.clients at.client fits.kept.valid.numbered at.place))

  same-what : what ≡ record {
    number = tallies.asked;
    req_type = what.req_type;
    room = what.room;
    ask = what.ask;
  }
  same-what = ap (λ (n : ℕ). record {
    number = n;
    req_type = what.req_type;
    room = what.room;
    ask = what.ask;
  }) numbered

  goes : (js : Jobs) → seen_now js ≡ record { lists = after clock (seen js).lists asked; clock = clock }
  goes js = rw (
    next,
    changed ∙ ap (λ (w : Asking). at_first (is_client i) (asks w) s.clients)
        same-what,
    servers,
    queued,
  ) refl

  kept-asked : Kept (seen_now jobs).lists
  kept-asked =
      rw (ap (λ (u : Timed). u.lists) (goes jobs)) (kept-after clock (seen jobs).lists asked fits.kept
      (record {
        next = refl;
        client = at.client;
        found = sym (client-by s.clients i i fits.kept.valid.numbered refl) ∙ at.place;
        connected = up;
        few = told-few at.client.state at.client.asked told;
      }))

  pub fits-asked : Fits (seen_now jobs) t.size t.places
  fits-asked =
      let before : AllByRecursion (λ c. c.what.number < tallies.asked) at.client.calls =
      subst (λ (o : Option Client). IfSome o
      (λ x. AllByRecursion (λ c. c.what.number < tallies.asked) x.calls)) at.place
      (calls-before s.clients tallies.asked i fits.kept.valid.once) in
      record {
        kept = kept-asked;
        ascends = rw at.changed (all-set CallsAscend s.clients i (asks what at.client)
            (ascends-end at.client.calls (record { what = what; progress = None })
            (all-at CallsAscend s.clients i at.client fits.ascends at.place)
            (rw numbered before))
            (λ j x e other. all-at CallsAscend s.clients j x fits.ascends e));
        paces = fits.paces;
        settled = rw at.changed (all-set IsSettled s.clients i (asks what at.client)
            (settled-connected at.client (asks what at.client)
            (all-at IsSettled s.clients i at.client fits.settled at.place)
            up refl refl refl refl)
            (λ j x e other. all-at IsSettled s.clients j x fits.settled e));
        numbers = omega (
          arith,
          ap (λ (xs : List Client). length xs) at.changed,
          length-set s.clients i (asks what at.client),
          fits.numbers,
        );
        each = omega (
          arith,
          ap (λ (xs : List Client). length xs) at.changed,
          length-set s.clients i (asks what at.client),
          fits.each,
        );
        credits = rw servers fits.credits;
        sendable = rw queued fits.sendable;
        replies = rw queued fits.replies;
        most = fits.most;
        packets = size ∙ fits.packets;
        jobs = fits.jobs;
        alive = fits.alive;
        server_numbers = fits.server_numbers;
        buffers = places ∙ fits.buffers;
      }

  not-large : (n : ℕ) (b : Bool) (x y : Fact) → nat_lt MOST_MESSAGE_BYTES n ≡ b
      → n ≤ MOST_MESSAGE_BYTES → y ≡ cond b x y
  not-large n true x y e few = absurd (omega (arith, ltb-true MOST_MESSAGE_BYTES n e, few))
  not-large n false x y e few = refl

  -- the bytes of the newest call are those of this one
  pub newest-is : (bytes : List ℕ) → IfSome (slice_get t.clients i)
      (λ x. (calls : List Call) → (a : Asking) → x.calls ≡ asking a calls → bytes ≡ a.ask)
      → bytes ≡ what.ask
  newest-is bytes h =
      let here : slice_get t.clients i ≡ Some (asks what at.client) =
      ap (λ (xs : List Client). slice_get xs i) at.changed
      ∙ set-here s.clients i at.client (asks what at.client) at.place in
      subst (λ (o : Option Client). IfSome o (λ x. (calls : List Call) → (a : Asking)
      → x.calls ≡ asking a calls → bytes ≡ a.ask)) here h at.client.calls what refl

  pub node-asked : {R : Type 0} (log : R → Log)
      (before after : R) (session c room : ℕ) (bytes : List ℕ) → session ≡ i → c ≡ tallies.asked
      → room ≡ what.room → bytes ≡ what.ask → length what.ask ≤ MOST_MESSAGE_BYTES
      → room ≤ MOST_CAPACITY
      → Grew (log before) (log after) (with_bytes me (Asked c session what.req_type room) bytes ∷ [])
      → Makes log (Asks session what.req_type what.ask what.room) (seen jobs)
      (seen_now jobs) before after
  node-asked log before after session c room bytes at-i at-c at-room at-bytes few fits-room grew =
      subst (λ (n : ℕ). Makes log (Asks n what.req_type what.ask what.room) (seen jobs)
      (seen_now jobs) before after) (sym at-i) (record {
        noted = asked ∷ [];
        grew = rw (← at-i, ← at-c, ← at-room, ← at-bytes) grew;
        step = λ js. record {
          facts = ap (λ (f : Fact). f ∷ []) (facts-by js);
          goes = goes (asking_jobs js jobs);
          ask_fits = omega (arith, few);
          room_fits = subst (λ (n : ℕ). n ≤ MOST_CAPACITY) at-room fits-room;
        };
      })
    where
      facts-by : (js : ℕ → ℕ → List ℕ)
          → asked ≡ ask_fact i what.req_type what.room what.ask (seen (asking_jobs js jobs)).lists
      facts-by js =
          let one = sym (client-by s.clients i i fits.kept.valid.numbered refl) in
          let by-state : asked ≡ ask_by_state (state_of (find (is_client i) s.clients)) i
          what.req_type what.room what.ask (seen (asking_jobs js jobs)).lists =
          rw (one, connected) refl in
          by-state ∙ not-large (length what.ask) (nat_lt MOST_MESSAGE_BYTES (length what.ask)) _ _
          refl few
