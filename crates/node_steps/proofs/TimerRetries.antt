-- A client session's own request: it is sent, or the session gives up.
use Rattle.std.proofs.Common.{◌≡◌, ◌≢◌, ℕ, zero, suc, ◌+◌, ◌<◌, ◌≤◌, inl}
use Rattle.std.proofs.Common.{Bool, true, false, cond}
use Rattle.std.proofs.Common.{ltb, ltb-true, eq-eqb, Option, Some, None, List, [], ◌∷◌}
use Rattle.std.proofs.Common.{length}
use Rattle.std.proofs.Common.{refl, sym, ap, subst, ◌∙◌, arith}
use Rattle.std.specs.Prelude.{IfSome, map, slice_get, slice_index, slice_set}
use Rattle.std.specs.List.{AllByRecursion}
use Rattle.packet_header.specs.Header.{ControlInRange, Spells}
use Rattle.packet_header.specs.declared.packet.ControlHeader.{ControlHeader}
use Rattle.packet_header.specs.declared.packet.Packet.TheVariants.{Control as ControlPacket}
use Rattle.packet_header.proofs.Readings.{spells-decoded}
use Rattle.packet_rings.specs.Rings.{Ring}
use Rattle.packet_rings.specs.Values.{DatagramValue}
use Rattle.rpc_base.specs.Tables.{at_first, without_first}
use Rattle.rpc_base.specs.declared.event.Event.{Event}
use Rattle.rpc_base.specs.declared.event.Event.TheVariants.{ClosedUnheard, FailedNoAnswer, Sent}
use Rattle.rpc_base.specs.declared.limits.Limits.{Limits}
use Rattle.rpc_base.specs.declared.limits.TheConstants.{MOST_CREDITS, SESSION_NUMBERS}
use Rattle.rpc_base.specs.declared.owner.Owner.{Owner}
use Rattle.rpc_base.specs.declared.owner.Owner.TheVariants.{Ask, Control, Reply}
use Rattle.rpc_base.specs.declared.state.SessionState.{SessionState}
use Rattle.rpc_base.specs.declared.state.SessionState.TheVariants.{Closed, Closing, Connecting}
use Rattle.rpc_base.specs.declared.state.SessionState.TheVariants.{Failed}
use Rattle.rpc_base.proofs.PlaceLemmas.{all-at}
use Rattle.rpc_laws.specs.declared.rows.RetryRow.TheVariants.{Asks, GivesUp, Rests}
use Rattle.rpc_laws.specs.declared.tables.Client.{Client}
use Rattle.rpc_laws.specs.declared.tables.Jobs.{Jobs}
use Rattle.rpc_laws.specs.declared.tables.Pace.{Pace}
use Rattle.rpc_laws.specs.declared.tables.Queued.{Queued}
use Rattle.rpc_laws.specs.declared.tables.Timed.{Timed}
use Rattle.rpc_laws.specs.ControlSteps.{Retries, control_fact, given_up}
use Rattle.packet_header.specs.Ranges.{Within, lives}
use Rattle.rpc_laws.specs.Lives.{life_in, raised_by}
use Rattle.rpc_laws.specs.ControlSteps.{own_request}
use Rattle.rpc_laws.specs.declared.tables.Way.{Way}
use Rattle.session_ends.specs.declared.side.ClientEnd.{ClientEnd}
use Rattle.session_store.specs.Changes.{IsClientEnd, has_request, ChangesAt, IsInState, sent_again}
use Rattle.rpc_laws.specs.ControlSteps.{request_by, retry_row}
use Rattle.rpc_laws.specs.Facts.{plain, with_two}
use Rattle.rpc_laws.specs.Front.{control_in, control_of}
use Rattle.rpc_laws.specs.NodeLists.{after}
use Rattle.rpc_laws.specs.Queues.{is_queued}
use Rattle.rpc_laws.specs.Sessions.{clients_told, comes_to, is_client, is_connected, is_request_of}
use Rattle.rpc_laws.specs.Sessions.{requests}
use Rattle.rpc_laws.specs.Steps.{NotesNext}
use Rattle.rpc_outside.specs.Recording.{Grew, Log}
use Rattle.rpc_outside.specs.declared.link.Link as Link
use Rattle.node_laws.specs.Valid.{NumberedFrom, client_no}
use Rattle.node_laws.proofs.Allowed.{Allowed}
use Rattle.rpc_laws.specs.Groups.{told_state}
use Rattle.node_laws.proofs.NumberLemmas.{numbered-at}
use Rattle.node_steps.proofs.CallStates.{told-request}
use Rattle.session_store.specs.Sides.{Shown}
use Rattle.node_steps.specs.ControlRows.{Spoke}
use Rattle.node_steps.specs.Counts.{is_sent}
use Rattle.node_steps.specs.Fits.{Fits, IsSendable, IsSettled, has_server, is_of_call}
use Rattle.node_steps.specs.Notes.{Makes}
use Rattle.node_steps.specs.Seen.{Tallies, asking, asking_jobs, seen_node}
use Rattle.node_steps.specs.Links.{FailedAs, GivesUpAt, HeldBack, is_unsent, LinkTook}
use Rattle.node_steps.specs.Links.{MakesSpoken, SendsRequest, troubles_of}
use Rattle.node_steps.specs.declared.told.Asking.{Asking}
use Rattle.node_steps.proofs.ControlReplies.{changed, fits-client, in-state, its, settled}
use Rattle.node_steps.proofs.NoteEnds.{no_asks}
use Rattle.node_steps.proofs.PostSteps.{first-at}
use Rattle.node_steps.proofs.NoteStill.{AllStill}
use Rattle.node_steps.specs.Changes.{◌⟶◌}
use Rattle.node_steps.proofs.SendCounts.{link-still, nothing}
use Rattle.server_core.proofs.FlushLemmas.{grew-none}

-- the request of a session is in its ranges
pub range-of : (own : ℕ) (state : SessionState) (way : Way) (credits : ℕ) (h : ControlHeader)
    → request_by own state way credits ≡ Some h → Within lives own → way.number < SESSION_NUMBERS
    → 1 ≤ credits → credits ≤ MOST_CREDITS → (has_server state ≡ true → Within lives way.life)
    → (has_server state ≡ true → way.other < SESSION_NUMBERS) → ControlInRange h
range-of own Connecting way credits h e mine few one most theirs joined =
    let same = some-header _ h e in
    subst ControlInRange same (record {
      client = (omega arith, omega (arith, few));
      server = tt;
      credits = (one, most);
      status = inl refl;
      from_life = mine;
      to_life = tt;
    })
  where
    some-header : (a b : ControlHeader) → Some a ≡ Some b → a ≡ b
    some-header a b t = cc
range-of own Closing way credits h e mine few one most theirs joined =
    let same = some-header _ h e in
    subst ControlInRange same (record {
      client = (omega arith, omega (arith, few));
      server = (omega arith, omega (arith, joined refl));
      credits = (omega arith, omega arith);
      status = inl refl;
      from_life = mine;
      to_life = theirs refl;
    })
  where
    some-header : (a b : ControlHeader) → Some a ≡ Some b → a ≡ b
    some-header a b t = cc
range-of own _ way credits h e mine few one most theirs joined = cc

-- a session that is there, and what is known of it
pub known-at : (xs : List Client) (i : ℕ) → i < length xs → (x : Client) × (slice_get xs i ≡ Some x)
known-at [] i low = absurd (omega (arith, low))
known-at (x ∷ xs) zero low = (x, refl)
known-at (x ∷ xs) (suc i) low = known-at xs i (omega (arith, low))

pub of-known : (P : Client → Type 0) (xs : List Client) (i : ℕ) (x : Client)
    → slice_get xs i ≡ Some x → IfSome (slice_get xs i) P → P x
of-known P xs i x place h = rw place at h

pub ranged : (xs : List Client) (i : ℕ) (x : Client) → slice_get xs i ≡ Some x
    → NumberedFrom client_no 0 xs → i < length xs → length xs ≤ SESSION_NUMBERS
    → AllByRecursion IsSettled xs → (h : ControlHeader) → (life : ℕ) → Within lives life
    → own_request life x ≡ Some h → ControlInRange h
ranged xs i x place numbered low few settled h life mine own =
    let old = all-at IsSettled xs i x settled place in
    let named = numbered-at client_no 0 i xs x numbered place in
    range-of life x.state x.way x.limit h own mine
    (omega (arith, named, low, few)) old.some old.most old.life old.joined

-- it names the session, and is known as its request
own-client : (own : ℕ) (state : SessionState) (way : Way) (credits : ℕ) (h : ControlHeader)
    → request_by own state way credits ≡ Some h → h.client ≡ way.number
own-client own Connecting way credits h e =
    ap (λ (o : Option ControlHeader). client-in o) (sym e)
  where
    client-in : Option ControlHeader → ℕ
    client-in None = way.number
    client-in (Some k) = k.client
own-client own Closing way credits h e =
    ap (λ (o : Option ControlHeader). client-in o) (sym e)
  where
    client-in : Option ControlHeader → ℕ
    client-in None = way.number
    client-in (Some k) = k.client
own-client own _ way credits h e = cc

own-known : (own : ℕ) (state : SessionState) (way : Way) (credits : ℕ) (h : ControlHeader)
    → request_by own state way credits ≡ Some h
    → is_request_of h.kind h.server h.to_life state way ≡ true
own-known own Connecting way credits h e =
    subst (λ (o : Option ControlHeader).
    IfSome o (λ k. is_request_of k.kind k.server k.to_life Connecting way ≡ true)) e refl
own-known own Closing way credits h e =
    subst (λ (o : Option ControlHeader).
    IfSome o (λ k. is_request_of k.kind k.server k.to_life Closing way ≡ true)) e
    (rw (eq-eqb way.other way.other refl, eq-eqb way.life way.life refl) refl)
own-known own _ way credits h e = cc

-- it tells no life of its peer
pub own-untold : (own : ℕ) (state : SessionState) (way : Way) (credits : ℕ) (h : ControlHeader)
    → request_by own state way credits ≡ Some h → life_in (Some h) ≡ None
own-untold own Connecting way credits h e =
    subst (λ (o : Option ControlHeader). life_in o ≡ None) e refl
own-untold own Closing way credits h e =
    subst (λ (o : Option ControlHeader). life_in o ≡ None) e refl
own-untold own _ way credits h e = cc

-- a session that has it has a state in which sessions have one
pub own-asks : (own : ℕ) (state : SessionState) (way : Way) (credits : ℕ) (h : ControlHeader)
    → request_by own state way credits ≡ Some h → has_request state ≡ true
own-asks own Connecting way credits h e = refl
own-asks own Closing way credits h e = refl
own-asks own _ way credits h e = cc

asked-once : (clock own : ℕ) (x : Client) (h : ControlHeader) → own_request own x ≡ Some h
    → requests clock h x ≡ sent_again clock x
asked-once clock own x h is = rw (own-known own x.state x.way x.limit h is) refl

-- no control packet is queued
not-control : (o : Owner) (number : ℕ) (due : Option ℕ) → is_of_call o ≡ true
    → is_queued Control 0 (record { owner = o; number = number; due = due }) ≡ false
not-control (Ask s r) number due e = refl
not-control (Reply t r) number due e = refl
not-control Control number due e = cc

none-control : (qs : List Queued) → AllByRecursion IsSendable qs
    → without_first (is_queued Control 0) qs ≡ qs
none-control [] all = refl
none-control (q ∷ qs) all =
    rw (not-control q.owner q.number q.due all.0.0)
    (ap (λ rest. q ∷ rest) (none-control qs all.1))

-- a request that is sent was sent fewer than nine times
pub few-sends : (clock timeout sends sent_at : ℕ) → retry_row clock timeout sends sent_at ≡ Asks
    → sends < 9
few-sends clock timeout sends sent_at e = by _ (ltb sends 9) refl e
  where
    by : (rests b : Bool) → ltb sends 9 ≡ b → cond rests Rests (cond b Asks GivesUp) ≡ Asks
        → sends < 9
    by true b t h = cc
    by false true t h = ltb-true sends 9 t
    by false false t h = cc

-- the link didn't take it
module _ {R L : Type 0} (log : R → Log)
    (net : Link.Ghosts L) (a : Timed) (i peer : ℕ)
    (h : ControlHeader) (x : Client) (place : slice_get a.lists.clients i ≡ Some x)
    (is : peer ≡ x.way.peer) (untold : life_in (Some h) ≡ None) (before now : R)
    (from to : L) where
  untold-by : (head : List ℕ) → Spells (ControlPacket h) head
      → raised_by peer (life_in (control_of head)) a.lists.known ≡ a.lists.known
  untold-by head spells =
      ap (λ (o : Option ℕ). raised_by peer o a.lists.known)
      (ap (λ (o : Option ControlHeader). life_in o)
      (ap control_in (spells-decoded (ControlPacket h) head spells)) ∙ untold)

  pub spoken-unsent : (failed : Bool)
      → Spoke log net.sent a.lists.me peer h false (before ⟶ now) (from ⟶ to)
      → HeldBack 1 (troubles_of net from) (troubles_of net to)
      → FailedAs failed (troubles_of net from).faults (troubles_of net to).faults
      → MakesSpoken log net (SendsRequest i h) (record { sent = 0; failed = failed }) (a ⟶ a)
      (before ⟶ now) (from ⟶ to)
  spoken-unsent failed s held cause = record {
    makes = record {
      noted = control_fact false a.lists.me peer s.head ∷ [];
      grew = s.grew;
      step = λ asks. record {
        facts = rw place (record {
          taken = false;
          head = s.head;
          bytes = s.bytes;
          spells = s.spells;
          facts = ap (λ p. control_fact false a.lists.me p s.head ∷ []) is;
        });
        goes = ap (λ (known : List ℕ). record {
          lists = record (asking asks a).lists { known = known };
          clock = a.clock;
        }) (sym (untold-by s.head s.spells));
      };
    };
    link = record {
      took = s.took;
      went = refl;
      counts = record { held = held; cause = cause };
    };
  }

module _ (me : ℕ) (limits : Limits) (tallies : Tallies) (paces : List Pace) (jobs : Jobs)
    (clock : ℕ) (rx : Ring DatagramValue) (s t : Shown) where
  abbrev seen : Shown → Timed
  seen u = seen_node me limits tallies paces jobs clock rx u

  -- with other jobs
  abbrev seen_with : Jobs → Shown → Timed
  seen_with js u = seen_node me limits tallies paces js clock rx u

  -- the link took it, and it counts
  module _ (fits : Fits (seen s) s.size s.places) (i peer : ℕ) (h : ControlHeader)
      (at : ChangesAt i (sent_again clock) s.clients t.clients)
      (servers : t.servers ≡ s.servers) (queued : t.queued ≡ s.queued)
      (own : own_request tallies.life at.client ≡ Some h) (is : peer ≡ at.client.way.peer)
      (head : List ℕ) (spells : Spells (ControlPacket h) head) where
    reads : control_of head ≡ Some h
    reads = ap control_in (spells-decoded (ControlPacket h) head spells)

    named : at.client.way.number ≡ i
    named = numbered-at client_no 0 i s.clients at.client fits.kept.valid.numbered at.place
        ∙ zero-on i
      where
        zero-on : (n : ℕ) → 0 + n ≡ n
        zero-on n = omega arith

    told : t.clients ≡ clients_told clock (control_of head) s.clients
    told =
        let client : h.client ≡ 0 + i =
        own-client tallies.life at.client.state at.client.way at.client.limit h own
        ∙ numbered-at client_no 0 i s.clients at.client fits.kept.valid.numbered at.place in
        at.changed
        ∙ ap (λ (x : Client). slice_set s.clients i x) (sym (asked-once clock tallies.life at.client h own))
        ∙ sym (first-at (requests clock h) 0 i s.clients at.client fits.kept.valid.numbered
        at.place)
        ∙ ap (λ n. at_first (is_client n) (requests clock h) s.clients) (sym client)
        ∙ ap (λ o. clients_told clock o s.clients) (sym reads)

    still : t.queued ≡ without_first (is_queued Control 0) s.queued
    still = queued ∙ sym (none-control s.queued fits.sendable)

    untold : (to : ℕ) → raised_by to (life_in (control_of head)) tallies.known ≡ tallies.known
    untold to = ap (λ (o : Option ℕ). raised_by to o tallies.known)
        (ap (λ (o : Option ControlHeader). life_in o) reads
        ∙ own-untold tallies.life at.client.state at.client.way at.client.limit h own)

    goes : (to : ℕ) (js : Jobs) → seen_with js t ≡ record {
      lists = after clock (seen_with js s).lists (with_two me (Sent to Control 0) head []);
      clock = clock;
    }
    goes to js = rw (told, still, servers, untold to) refl

    pub fits-asked : at.client.sends < 9 → t.size ≡ s.size → t.places ≡ s.places
        → Fits (seen t) t.size t.places
    fits-asked few size places =
        let old = settled me limits tallies paces jobs clock rx s t fits i (sent_again clock) at
        servers queued in
        fits-client me limits tallies paces jobs clock rx s t fits i (sent_again clock) at servers
        queued (with_two me (Sent peer Control 0) head []) (goes peer jobs) tt refl
        (record {
          some = old.some;
          most = old.most;
          life = old.life;
          joined = old.joined;
          few = omega (arith, few);
          none_left = old.none_left;
        }) size places

    pub spoken-sent : {R L : Type 0} (log : R → Log)
        (net : Link.Ghosts L) (before now : R) (from to : L)
        → Grew (log before) (log now) (control_fact true me peer head ∷ [])
        → LinkTook net (record { sent = 1; failed = false })
        (control_fact true me peer head ∷ []) from to
        → ((k : ℕ) → slice_index head k < 256)
        → MakesSpoken log net (SendsRequest i h) (record { sent = 1; failed = false })
        (seen s ⟶ seen t) (before ⟶ now) (from ⟶ to)
    spoken-sent log net before now from to grew link bytes = record {
      makes = record {
        noted = control_fact true me peer head ∷ [];
        grew = grew;
        step = λ asks. record {
          facts = rw (at.place) (record {
            taken = true;
            head = head;
            bytes = bytes;
            spells = spells;
            facts = ap (λ p. control_fact true me p head ∷ []) is;
          });
          goes = goes peer (asking_jobs asks jobs);
        };
      };
      link = link;
    }

  -- no answer came
  module _ (fits : Fits (seen s) s.size s.places) (i : ℕ) (servers : t.servers ≡ s.servers)
      (queued : t.queued ≡ s.queued) where
    module _ (to state : SessionState) (event : Event)
        (at : ChangesAt i (comes_to to) s.clients t.clients)
        (was : IsInState state (slice_get s.clients i)) (closed : is_connected state ≡ false)
        (left : has_server to ≡ false)
        (goes : (js : Jobs) → seen_with js t ≡ record {
          lists = after clock (seen_with js s).lists (plain me event);
          clock = clock;
        }) where
      ends-client : Allowed (seen s).lists event → t.size ≡ s.size → t.places ≡ s.places
          → Fits (seen t) t.size t.places
      ends-client allowed size places =
          let old = settled me limits tallies paces jobs clock rx s t fits i (comes_to to) at
          servers queued in
          let stood = in-state me limits tallies paces jobs clock rx s t fits i (comes_to to) at
          servers queued state was in
          fits-client me limits tallies paces jobs clock rx s t fits i (comes_to to) at servers
          queued (plain me event) (goes jobs) allowed refl
          (record {
            some = old.some;
            most = old.most;
            life = λ has. (let no : false ≡ true = sym left ∙ has in cc);
            joined = λ has. (let no : false ≡ true = sym left ∙ has in cc);
            few = omega arith;
            none_left = λ other. old.none_left (ap is_connected stood ∙ closed);
          }) size places

      ends-noted : {R : Type 0} (log : R → Log)
          (before now : R) → Grew (log before) (log now) (plain me event ∷ [])
          → Makes log (NotesNext (λ l. Some event)) (seen s) (seen t) before now
      ends-noted log before now grew = record {
        noted = plain me event ∷ [];
        grew = grew;
        step = λ asks. record {
          event = event;
          is_next = refl;
          facts = refl;
          goes = goes (asking_jobs asks jobs);
        };
      }

    module _ (at : ChangesAt i (comes_to Failed) s.clients t.clients)
        (was : IsInState Connecting (slice_get s.clients i)) where
      goes-failed : (js : Jobs) → seen_with js t ≡ record {
        lists = after clock (seen_with js s).lists (plain me (FailedNoAnswer i));
        clock = clock;
      }
      goes-failed js = rw (
        changed me limits tallies paces jobs clock rx s t fits i
            (comes_to Failed) at servers queued,
        servers,
        queued,
      ) refl

      pub fits-unanswered : t.size ≡ s.size → t.places ≡ s.places → Fits (seen t) t.size t.places
      fits-unanswered size places =
          ends-client Failed Connecting (FailedNoAnswer i) at was refl refl goes-failed (record {
            client = at.client;
            found = its me limits tallies paces jobs clock rx s t fits i (comes_to Failed) at
                servers queued;
            stands = in-state me limits tallies paces jobs clock rx s t fits i (comes_to Failed) at
                servers queued Connecting was;
          }) size places

      pub node-unanswered : {R : Type 0} (log : R → Log)
          (before now : R) → Grew (log before) (log now) (plain me (FailedNoAnswer i) ∷ [])
          → Makes log (NotesNext (λ l. Some (FailedNoAnswer i))) (seen s) (seen t) before
          now
      node-unanswered log before now grew =
          ends-noted Failed Connecting (FailedNoAnswer i) at was refl refl goes-failed log
          before now grew

    module _ (at : ChangesAt i (comes_to Closed) s.clients t.clients)
        (was : IsInState Closing (slice_get s.clients i)) where
      goes-unheard : (js : Jobs) → seen_with js t ≡ record {
        lists = after clock (seen_with js s).lists (plain me (ClosedUnheard i));
        clock = clock;
      }
      goes-unheard js = rw (
        changed me limits tallies paces jobs clock rx s t fits i
            (comes_to Closed) at servers queued,
        servers,
        queued,
      ) refl

      pub fits-unheard : t.size ≡ s.size → t.places ≡ s.places → Fits (seen t) t.size t.places
      fits-unheard size places =
          ends-client Closed Closing (ClosedUnheard i) at was refl refl goes-unheard (record {
            client = at.client;
            found = its me limits tallies paces jobs clock rx s t fits i (comes_to Closed) at
                servers queued;
            stands = in-state me limits tallies paces jobs clock rx s t fits i (comes_to Closed) at
                servers queued Closing was;
          }) size places

      pub node-unheard : {R : Type 0} (log : R → Log)
          (before now : R) → Grew (log before) (log now) (plain me (ClosedUnheard i) ∷ [])
          → Makes log (NotesNext (λ l. Some (ClosedUnheard i))) (seen s) (seen t) before
          now
      node-unheard log before now grew =
          ends-noted Closed Closing (ClosedUnheard i) at was refl refl goes-unheard log
          before now grew

-- a session gives up
given-none : (state : SessionState) (number : ℕ) → state ≢ Connecting → state ≢ Closing
    → given_up state number ≡ []
given-none Connecting number one two = absurd (one refl)
given-none Closing number one two = absurd (two refl)
given-none _ number one two = refl

pub given-connecting : (xs : List Client) (i : ℕ) (x : Client) → slice_get xs i ≡ Some x
    → NumberedFrom client_no 0 xs → x.state ≡ Connecting
    → given_up x.state x.way.number ≡ FailedNoAnswer i ∷ []
given-connecting xs i x place numbered state =
    let same : 0 + i ≡ i = omega arith in
    rw (state, numbered-at client_no 0 i xs x numbered place ∙ same) refl

pub given-closing : (xs : List Client) (i : ℕ) (x : Client) → slice_get xs i ≡ Some x
    → NumberedFrom client_no 0 xs → x.state ≡ Closing
    → given_up x.state x.way.number ≡ ClosedUnheard i ∷ []
given-closing xs i x place numbered state =
    let same : 0 + i ≡ i = omega arith in
    rw (state, numbered-at client_no 0 i xs x numbered place ∙ same) refl

module _ {R : Type 0} (log : R → Log) (i : ℕ) where
  pub gives-up-by : (a b : Timed) (f g : R) (x : Client) (event : Event)
      → slice_get a.lists.clients i ≡ Some x → given_up x.state x.way.number ≡ event ∷ []
      → Makes log (NotesNext (λ l. Some event)) a b f g
      → Makes log (GivesUpAt i) a b f g
  gives-up-by a b f g x event place given makes = record {
    noted = makes.noted;
    grew = makes.grew;
    step = λ asks.
        let h = makes.step asks in
        let same : event ≡ h.event = some-event event h.event h.is_next in
        record {
          facts = rw place (h.facts ∙ ap (λ e. plain a.lists.me e ∷ []) (sym same)
              ∙ ap (map (plain a.lists.me)) (sym given));
          goes = h.goes;
        };
  }
    where
      some-event : (d e : Event) → Some d ≡ Some e → d ≡ e
      some-event d e t = cc

  pub gives-up-none : (a : Timed) (f : R) (x : Client) → slice_get a.lists.clients i ≡ Some x
      → x.state ≢ Connecting → x.state ≢ Closing → Makes log (GivesUpAt i) a a f f
  gives-up-none a f x place one two = record {
    noted = [];
    grew = grew-none log f;
    step = λ asks. record {
      facts = rw place (ap (map (plain a.lists.me))
          (sym (given-none x.state x.way.number one two)));
      goes = refl;
    };
  }

-- what a session does about its own request
module _ {R L : Type 0} (log : R → Log)
    (net : Link.Ghosts L) (timeout i : ℕ) (a : Timed)
    (x : Client) (place : slice_get a.lists.clients i ≡ Some x) where
  pub retries-none : own_request a.lists.life x ≡ None → (f : R) (l : L)
      → MakesSpoken log net (Retries timeout i) nothing (a ⟶ a) (f ⟶ f) (l ⟶ l)
  retries-none none f l = record {
    makes = record {
      noted = [];
      grew = grew-none log f;
      step = λ asks. record { facts = rw (place, none) refl; goes = refl };
    };
    link = link-still net [] l tt tt;
  }

  module _ (h : ControlHeader) (own : own_request a.lists.life x ≡ Some h) where
    pub retries-rest : retry_row a.clock timeout x.sends x.sent_at ≡ Rests → (f : R) (l : L)
        → MakesSpoken log net (Retries timeout i) nothing (a ⟶ a) (f ⟶ f) (l ⟶ l)
    retries-rest row f l = record {
      makes = record {
        noted = [];
        grew = grew-none log f;
        step = λ asks. record { facts = rw (place, own, row) refl; goes = refl };
      };
      link = link-still net [] l tt tt;
    }

    pub retries-asks : {d : Asking} → retry_row a.clock timeout x.sends x.sent_at ≡ Asks
        → (b : Timed) (f g : R) (l m : L)
        → MakesSpoken log net (SendsRequest i h) d (a ⟶ b) (f ⟶ g) (l ⟶ m)
        → MakesSpoken log net (Retries timeout i) d (a ⟶ b) (f ⟶ g) (l ⟶ m)
    retries-asks row b f g l m p = record {
      makes = record {
        noted = p.makes.noted;
        grew = p.makes.grew;
        step = λ asks.
            let q = p.makes.step asks in
            record { facts = rw (place, own, row) (rw place at q.facts); goes = q.goes };
      };
      link = p.link;
    }

    pub retries-over : retry_row a.clock timeout x.sends x.sent_at ≡ GivesUp → (b : Timed)
        (f g : R) (l : L) → Makes log (GivesUpAt i) a b f g
        → MakesSpoken log net (Retries timeout i) nothing (a ⟶ b) (f ⟶ g) (l ⟶ l)
    retries-over row b f g l p = record {
      makes = record {
        noted = p.noted;
        grew = p.grew;
        step = λ asks.
            let q = p.step asks in
            record { facts = rw (place, own, row) (rw place at q.facts); goes = q.goes };
      };
      link = link-still net p.noted l (silent is_sent (λ s n. sent-given s n))
          (silent is_unsent (λ s n. unsent-given s n));
    }
      where
        sent-given : (state : SessionState) (number : ℕ)
            → AllStill is_sent (map (plain a.lists.me) (given_up state number))
        sent-given Connecting number = (refl, tt)
        sent-given Closing number = (refl, tt)
        sent-given _ number = tt

        unsent-given : (state : SessionState) (number : ℕ)
            → AllStill is_unsent (map (plain a.lists.me) (given_up state number))
        unsent-given Connecting number = (refl, tt)
        unsent-given Closing number = (refl, tt)
        unsent-given _ number = tt

        silent : (q : Event → Bool) → ((state : SessionState) (number : ℕ)
            → AllStill q (map (plain a.lists.me) (given_up state number))) → AllStill q p.noted
        silent q all =
            let is = rw place at (p.step no_asks).facts in
            subst (AllStill q) (sym is) (all x.state x.way.number)

-- the own request of a session, by what is told of it
pub own-told : (xs : List Client) (i : ℕ) (x : Client) → slice_get xs i ≡ Some x
    → NumberedFrom client_no 0 xs → (own : ℕ) (state : SessionState) (end : ClientEnd)
    → IsClientEnd end x → state ≡ told_state x.state x.asked
    → request_by own state
    (record { number = i; peer = end.peer; other = end.server; life = end.life }) end.credits
    ≡ own_request own x
own-told xs i x place numbered own state end is told =
    let named : x.way.number ≡ i =
    (let at = numbered-at client_no 0 i xs x numbered place in omega (arith, at)) in
    rw (told, is.peer, is.server, is.life, is.credits, sym named)
    (told-request own x.state x.asked x.way x.limit)

-- a session in another state has none
unasked : (own : ℕ) (state : SessionState) (way : Way) (credits : ℕ) → has_request state ≡ false
    → request_by own state way credits ≡ None
unasked own Connecting way credits e = cc
unasked own Closing way credits e = cc
unasked own _ way credits e = refl

pub none-told : (own : ℕ) (x : Client) (state : SessionState)
    → state ≡ told_state x.state x.asked → has_request state ≡ false → None ≡ own_request own x
none-told own x state told none =
    sym (unasked own state x.way x.limit none)
    ∙ ap (λ (s : SessionState). request_by own s x.way x.limit) told
    ∙ told-request own x.state x.asked x.way x.limit
