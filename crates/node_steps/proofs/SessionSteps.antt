-- A session is opened, or begins to close, from the store to what the node notes.
use Rattle.std.proofs.Common.{◌≡◌, ◌≢◌, ℕ, ◌+◌, ◌≤◌, true, false}
use Rattle.std.proofs.Common.{cond, eqb, Option, Some}
use Rattle.std.proofs.Common.{None, List, [], ◌∷◌, ◌++◌, length, refl, sym, ap, ◌∙◌, arith}
use Rattle.std.proofs.Common.{eq-eqb}
use Rattle.std.specs.Prelude.{IfSome, IsSome, slice_get}
use Rattle.std.specs.List.{find}
use Rattle.std.proofs.lemmas.Bool.{ne_eqb}
use Rattle.std.proofs.lemmas.List.{length-append}
use Rattle.rpc_base.specs.declared.event.Event.{Event}
use Rattle.rpc_base.specs.declared.event.Event.TheVariants.{Closing as BeginsClosing, NcloseBusy}
use Rattle.rpc_base.specs.declared.event.Event.TheVariants.{NcloseState, Opened, Rated}
use Rattle.rpc_base.specs.declared.fact.Fact.{Fact}
use Rattle.rpc_base.specs.declared.limits.Limits.{Limits}
use Rattle.rpc_base.specs.declared.limits.TheConstants.{MOST_CREDITS}
use Rattle.rpc_base.specs.declared.state.SessionState.{SessionState}
use Rattle.rpc_base.specs.declared.state.SessionState.TheVariants.{Closing, Connected, Spent}
use Rattle.rpc_base.proofs.FirstLemmas.{all-push}
use Rattle.packet_rings.specs.Rings.{Ring}
use Rattle.packet_rings.specs.Values.{DatagramValue}
use Rattle.rpc_laws.specs.declared.tables.Call.{Call}
use Rattle.rpc_laws.specs.declared.tables.Client.{Client}
use Rattle.rpc_laws.specs.declared.tables.Jobs.{Jobs}
use Rattle.rpc_laws.specs.declared.tables.Pace.{Pace}
use Rattle.rpc_laws.specs.declared.tables.Timed.{Timed}
use Rattle.rpc_laws.specs.Facts.{plain}
use Rattle.rpc_laws.specs.Groups.{Connects, Disconnects, client_refusal, clients_spent, connect_by}
use Rattle.rpc_laws.specs.Groups.{SetsRate, disconnect_by, pending, rate_fact, state_of}
use Rattle.rpc_laws.specs.NodeLists.{after}
use Rattle.rpc_laws.specs.Sessions.{comes_to, is_client, is_connected, is_live, opened_end}
use Rattle.rpc_laws.specs.Steps.{Goes, NotesNext}
use Rattle.rpc_outside.specs.Recording.{Grew, Log}
use Rattle.node_laws.specs.Valid.{NumberedFrom, client_no}
use Rattle.node_laws.proofs.KeptLemmas.{kept-after}
use Rattle.node_laws.proofs.NumberLemmas.{numbered-push}
use Rattle.node_laws.proofs.RunLaws.{pair-fits}
use Rattle.node_laws.proofs.StateLemmas.{told-connected}
use Rattle.session_store.specs.Changes.{ChangesAt}
use Rattle.session_store.specs.Sides.{Shown}
use Rattle.node_steps.specs.Pairs.{Refuses, StartsRate}
use Rattle.node_steps.specs.Fits.{CallsAscend, Fits, IsSettled, has_server, pace_no}
use Rattle.node_steps.specs.Notes.{Makes}
use Rattle.node_steps.specs.Seen.{Asks, Tallies, asking, asking_jobs, seen_node}
use Rattle.node_steps.proofs.CallSteps.{client-by}
use Rattle.node_steps.proofs.ControlReplies.{changed, fits-client, its, settled}
use Rattle.node_steps.proofs.NoteEnds.{goes-then, makes-join}
use Rattle.node_steps.proofs.SessionFits.{few-paired}
use Rattle.server_core.proofs.FlushLemmas.{grew-none}

-- a session that is connected has a server session
connected-server : (state : SessionState) → is_connected state ≡ true → has_server state ≡ true
connected-server Connected e = refl
connected-server Spent e = refl
connected-server _ e = cc

module _ (me : ℕ) (limits : Limits) (tallies : Tallies) (paces : List Pace) (jobs : Jobs)
    (clock : ℕ) (rx : Ring DatagramValue) (s t : Shown) where
  abbrev seen : Shown → Timed
  seen u = seen_node me limits tallies paces jobs clock rx u

  -- with other jobs
  abbrev seen_with : Jobs → Shown → Timed
  seen_with js u = seen_node me limits tallies paces js clock rx u

  -- the next session is opened
  pub fits-opened : Fits (seen s) s.size s.places → (credits peer : ℕ) → 1 ≤ credits
      → credits ≤ MOST_CREDITS → t.queued ≡ s.queued → t.size ≡ s.size → t.places ≡ s.places
      → (now : List Pace)
      → now ≡ paces ++ record { session = length s.clients; rate = 0; next = 0 } ∷ []
      → client_refusal credits (seen s).lists ≡ None
      → t.clients ≡ s.clients ++ opened_end (length s.clients) peer credits ∷ []
      → t.servers ≡ s.servers
      → Fits (seen_node me limits tallies now jobs clock rx t) t.size t.places
  fits-opened fits credits peer some most queued size places now paced taken clients servers =
      let made : Event = Opened (length s.clients) peer credits in
      let end : Client = opened_end (length s.clients) peer credits in
      record {
        kept = rw (paced, clients, servers, queued) (kept-after clock (seen s).lists
            (plain me made) fits.kept (record {
              numbered = refl;
              room = pair-fits (clients_spent (seen s).lists) credits (seen s).lists taken;
            }));
        ascends = rw clients (all-push CallsAscend s.clients end fits.ascends tt);
        paces = rw paced (numbered-push pace_no 0 paces
            (record { session = length s.clients; rate = 0; next = 0 }) fits.paces
            (omega (arith, fits.each)));
        each = rw (paced, clients) (omega (
          arith,
          length-append paces (record { session = length s.clients; rate = 0; next = 0 } ∷ []),
          length-append s.clients (end ∷ []),
          fits.each,
        ));
        settled = rw clients (all-push IsSettled s.clients end fits.settled (record {
          some = some;
          most = most;
          life = λ has. cc;
          joined = λ has. cc;
          few = omega arith;
          none_left = λ closed. refl;
        }));
        numbers = rw clients (omega (
          arith,
          length-append s.clients (end ∷ []),
          few-paired (clients_spent (seen s).lists) (seen s).lists credits refl taken,
        ));
        credits = rw servers fits.credits;
        sendable = rw queued fits.sendable;
        replies = rw queued fits.replies;
        alive = fits.alive;
        server_numbers = fits.server_numbers;
        most = fits.most;
        packets = size ∙ fits.packets;
        jobs = fits.jobs;
        buffers = places ∙ fits.buffers;
      }

  -- a session begins to close
  module _ (fits : Fits (seen s) s.size s.places) (i : ℕ)
      (at : ChangesAt i (comes_to Closing) s.clients t.clients) (servers : t.servers ≡ s.servers)
      (queued : t.queued ≡ s.queued) where
    goes-closing : (js : Jobs) → seen_with js t ≡ record {
      lists = after clock (seen_with js s).lists (plain me (BeginsClosing i));
      clock = clock;
    }
    goes-closing js = rw (
      changed me limits tallies paces jobs clock rx s t fits i
          (comes_to Closing) at servers queued,
      servers,
      queued,
    ) refl

    pub fits-closing : is_connected at.client.state ≡ true → at.client.calls ≡ []
        → t.size ≡ s.size → t.places ≡ s.places → Fits (seen t) t.size t.places
    fits-closing connected idle size places =
        let old = settled me limits tallies paces jobs clock rx s t fits i (comes_to Closing) at
        servers queued in
        fits-client me limits tallies paces jobs clock rx s t fits i (comes_to Closing) at servers
        queued (plain me (BeginsClosing i)) (goes-closing jobs)
        (record {
          client = at.client;
          found = its me limits tallies paces jobs clock rx s t fits i (comes_to Closing) at servers
              queued;
          connected = connected;
          idle = idle;
        }) refl
        (record {
          some = old.some;
          most = old.most;
          life = λ has. old.life (connected-server at.client.state connected);
          joined = λ has. old.joined (connected-server at.client.state connected);
          few = omega arith;
          none_left = λ closed. idle;
        }) size places

    pub node-closing : {R : Type 0} (log : R → Log)
        (before now : R) → Grew (log before) (log now) (plain me (BeginsClosing i) ∷ [])
        → Makes log (NotesNext (λ l. Some (BeginsClosing i))) (seen s) (seen t) before now
    node-closing log before now grew = record {
      noted = plain me (BeginsClosing i) ∷ [];
      grew = grew;
      step = λ asks. record {
        event = BeginsClosing i;
        is_next = refl;
        facts = refl;
        goes = goes-closing (asking_jobs asks jobs);
      };
    }

-- a session that is told to be connected, with no call pending
no-calls : (cs : List Call) → length cs ≡ 0 → cs ≡ []
no-calls [] e = refl
no-calls (c ∷ cs) e = absurd (omega (arith, e))

pub record Closes (xs : List Client) (i : ℕ) : Type 0 where
  pub client : Client
  pub place : slice_get xs i ≡ Some client
  pub connected : is_connected client.state ≡ true
  pub idle : client.calls ≡ []

pub closes-at : (xs : List Client) (i n : ℕ) → NumberedFrom client_no 0 xs → n ≡ i
    → is_connected (state_of (find (is_client n) xs)) ≡ true → pending (find (is_client n) xs) ≡ 0
    → Closes xs i
closes-at xs i n numbered same connected idle =
    by (slice_get xs i) refl
    (ap (λ o. is_connected (state_of o)) (client-by xs i n numbered same) ∙ connected)
    (ap pending (client-by xs i n numbered same) ∙ idle)
  where
    by : (o : Option Client) → slice_get xs i ≡ o → is_connected (state_of o) ≡ true
        → pending o ≡ 0 → Closes xs i
    by None at up none = cc
    by (Some x) at up none = record {
      client = x;
      place = at;
      connected = told-connected x.state x.asked up;
      idle = no-calls x.calls none;
    }

-- a session that was opened is live
last-there : (xs : List Client) (y : Client) → slice_get (xs ++ y ∷ []) (length xs) ≡ Some y
last-there [] y = refl
last-there (x ∷ xs) y = last-there xs y

pub opened-live : (xs ys : List Client) (n peer credits : ℕ) → NumberedFrom client_no 0 xs
    → n ≡ length xs → ys ≡ xs ++ opened_end (length xs) peer credits ∷ []
    → is_live (state_of (find (is_client n) ys)) ≡ true
opened-live xs ys n peer credits numbered same is =
    let y = opened_end (length xs) peer credits in
    let long : client_no y ≡ 0 + length xs = omega arith in
    let found = client-by (xs ++ y ∷ []) (length xs) n
    (numbered-push client_no 0 xs y numbered long) same in
    rw is (ap (λ o. is_live (state_of o)) (sym found ∙ last-there xs y))

-- what is noted of a disconnect
pub closed-state : (state told : SessionState) (session calls : ℕ) → told ≡ state
    → is_connected told ≡ false → disconnect_by state session calls ≡ NcloseState session told
closed-state state told session calls same e = rw (← same, e) refl

pub closed-busy : (state told : SessionState) (session calls many : ℕ) → told ≡ state
    → many ≡ calls → is_connected told ≡ true → many ≢ 0
    → disconnect_by state session calls ≡ NcloseBusy session many
closed-busy state told session calls many same count e some =
    rw (← same, ← count, e, ne_eqb many 0 some) refl

pub closed-idle : (state told : SessionState) (session calls many : ℕ) → told ≡ state
    → many ≡ calls → is_connected told ≡ true → many ≡ 0
    → disconnect_by state session calls ≡ BeginsClosing session
closed-idle state told session calls many same count e none =
    rw (← same, ← count, e, eq-eqb many 0 none) refl

some-event : (a b : Event) → Some a ≡ Some b → a ≡ b
some-event a b h = cc

module _ {R : Type 0} (log : R → Log) where
  pub disconnects-as : (session : ℕ) (a b : Timed) (f g : R) (event : Event)
      → disconnect_by (state_of (find (is_client session) a.lists.clients)) session
      (pending (find (is_client session) a.lists.clients)) ≡ event
      → Makes log (NotesNext (λ l. Some event)) a b f g
      → Makes log (Disconnects session) a b f g
  disconnects-as session a b f g event is makes = record {
    noted = makes.noted;
    grew = makes.grew;
    step = λ asks.
        let h = makes.step asks in
        record {
          facts = h.facts ∙ ap (λ e. plain a.lists.me e ∷ [])
              (sym (some-event event h.event h.is_next) ∙ sym is);
          goes = h.goes;
        };
  }

  -- a refusal
  pub notes-still : (a : Timed) (f g : R) (event : Event)
      → ((asks : Asks) → Goes (asking asks a) (plain a.lists.me event ∷ []) (asking asks a))
      → Grew (log f) (log g) (plain a.lists.me event ∷ [])
      → Makes log (NotesNext (λ l. Some event)) a a f g
  notes-still a f g event goes grew = record {
    noted = plain a.lists.me event ∷ [];
    grew = grew;
    step = λ asks. record { event = event; is_next = refl; facts = refl; goes = goes asks };
  }

  module _ (peer credits rate : ℕ) (a : Timed) (f : R) where
    pub connect-refused : (g : R) (o : Option Event) → client_refusal credits a.lists ≡ o
        → IsSome o → IfSome o (λ event. Makes log (Refuses event) a a f g)
        → Makes log (Connects peer credits rate) a a f g
    connect-refused g None e some makes = cc
    connect-refused g (Some event) e some makes = record {
      noted = makes.noted;
      grew = makes.grew;
      step = λ asks. record {
        facts = (makes.step asks).facts
            ∙ ap (λ o. connect_by o peer credits rate (asking asks a).lists) (sym e);
        goes = (makes.step asks).goes;
      };
    }

    pub connect-made : (b c : Timed) (g h : R) (session : ℕ) → session ≡ length a.lists.clients
        → client_refusal credits a.lists ≡ None → b.lists.me ≡ a.lists.me
        → Makes log (NotesNext (λ l. Some (Opened (length l.clients) peer credits))) a b f g
        → Makes log (StartsRate session rate) b c g h
        → Makes log (Connects peer credits rate) a c f h
    connect-made b c g h session own e me made rated =
        makes-join log (NotesNext (λ l. Some (Opened (length l.clients) peer credits)))
        (StartsRate session rate) (Connects peer credits rate) a b c f g h
        (λ asks x y p q.
        let same : Opened (length a.lists.clients) peer credits ≡ p.event =
        some-event (Opened (length a.lists.clients) peer credits) p.event p.is_next in
        let all : x ++ y ≡ connect_by None peer credits rate (asking asks a).lists =
        rw (p.facts, q.facts, ← same, me, own) refl in
        record {
          facts = all
              ∙ ap (λ o. connect_by o peer credits rate (asking asks a).lists) (sym e);
          goes = goes-then (asking asks a) (asking asks b) (asking asks c) x y p.goes q.goes;
        }) made rated

  -- a rate
  pub starts-none : (session rate : ℕ) (a : Timed) (f : R) → rate ≡ 0
      → Makes log (StartsRate session rate) a a f f
  starts-none session rate a f none = record {
    noted = [];
    grew = grew-none log f;
    step = λ asks. record { facts = rw (eq-eqb rate 0 none) refl; goes = refl };
  }

  pub starts-rated : (session rate : ℕ) (a b : Timed) (f g : R) → rate ≢ 0
      → is_live (state_of (find (is_client session) a.lists.clients)) ≡ true
      → Makes log (SetsRate session rate) a b f g
      → Makes log (StartsRate session rate) a b f g
  starts-rated session rate a b f g some live makes = record {
    noted = makes.noted;
    grew = makes.grew;
    step = λ asks.
        let h = makes.step asks in
        let rated : rate_fact session rate (asking asks a).lists
        ≡ plain a.lists.me (Rated session rate) = rw live refl in
        let unless : cond (eqb rate 0) [] (plain a.lists.me (Rated session rate) ∷ [])
        ≡ plain a.lists.me (Rated session rate) ∷ [] = rw (ne_eqb rate 0 some) refl in
        record { facts = h.facts ∙ ap (λ (x : Fact). x ∷ []) rated ∙ sym unless; goes = h.goes };
  }

pub same-client : (x y : Client) → Some x ≡ Some y → x ≡ y
same-client x y h = cc
