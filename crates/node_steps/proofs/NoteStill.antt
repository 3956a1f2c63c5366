-- What the steps of a poll never note: events for which a test is false.
use Rattle.std.proofs.Common.{◌≡◌, ℕ, zero, suc, Bool, true, false, cond, Option, Some, None, List, []}
use Rattle.std.proofs.Common.{◌∷◌, ◌++◌, length, eqb, refl, sym, ap, ◌∙◌}
use Rattle.std.specs.Prelude.{flat_map, map, option_and_then, option_map, slice_get}
use Rattle.std.specs.List.{AllByRecursion, filter, find}
use Rattle.packet_header.specs.declared.packet.ControlHeader.{ControlHeader}
use Rattle.rpc_base.specs.declared.event.Event.{Event}
use Rattle.rpc_base.specs.declared.event.Event.TheVariants.{Begun, Broken, ClosedUnheard, DonePeerLost}
use Rattle.rpc_base.specs.declared.event.Event.TheVariants.{FailedNoAnswer, Flushed, Polled, Posted}
use Rattle.rpc_base.specs.declared.event.Event.TheVariants.{Rolled, Sent, Unsent}
use Rattle.rpc_base.specs.declared.fact.Fact.{Fact}
use Rattle.rpc_base.specs.declared.owner.Owner.{Owner}
use Rattle.rpc_base.specs.declared.owner.Owner.TheVariants.{Ask, Control}
use Rattle.rpc_base.specs.declared.state.SessionState.{SessionState}
use Rattle.rpc_base.specs.declared.state.SessionState.TheVariants.{Closing, Connecting}
use Rattle.rpc_laws.specs.declared.rows.RetryRow.{RetryRow}
use Rattle.rpc_laws.specs.declared.rows.RetryRow.TheVariants.{Asks as RetryAsks, GivesUp, Rests}
use Rattle.rpc_laws.specs.declared.rows.TimerRow.{TimerRow}
use Rattle.rpc_laws.specs.declared.rows.TimerRow.TheVariants.{Breaks, RollsBack, Waits}
use Rattle.rpc_laws.specs.declared.tables.Call.{Call}
use Rattle.rpc_laws.specs.declared.tables.Client.{Client}
use Rattle.rpc_laws.specs.declared.tables.Lists.{Lists}
use Rattle.rpc_laws.specs.declared.tables.Progress.{Progress}
use Rattle.rpc_laws.specs.declared.tables.Queued.{Queued}
use Rattle.rpc_laws.specs.declared.tables.Timed.{Timed}
use Rattle.rpc_laws.specs.Calls.{is_call, is_waiting}
use Rattle.rpc_laws.specs.ControlSteps.{control_fact, given_up, own_request, Retries, RetriesAs}
use Rattle.rpc_laws.specs.ControlSteps.{RetriesBy, RetriesOf, retry_row, TimesAll, TimesSession}
use Rattle.rpc_laws.specs.Facts.{plain}
use Rattle.rpc_laws.specs.GoBackN.{call_facts, client_facts, Each, flushes_of, numbers_in}
use Rattle.rpc_laws.specs.GoBackN.{progress_facts, row_facts, row_of, Watches, WatchesSession}
use Rattle.rpc_laws.specs.PollOrder.{Closes, PostsAll, Sends, SendsSome, Serves}
use Rattle.rpc_laws.specs.Posting.{beginning, can_post, if_connected, lowest_free, next_begun}
use Rattle.rpc_laws.specs.Posting.{next_packet, next_posted, next_turn, posting}
use Rattle.rpc_laws.specs.Queues.{flush_facts, numbers_of}
use Rattle.rpc_laws.specs.Sessions.{is_connected}
use Rattle.rpc_laws.specs.Steps.{Chain, NotesAll, NotesNext, Rel, Then, Visits, more, none}

-- none of these facts is of such an event
abbrev pub AllStill : (Event → Bool) → List Fact → Type 0
AllStill q x = AllByRecursion (λ f. q f.event ≡ false) x

-- steps that note none
abbrev pub Stills : (Event → Bool) → Rel → Type 0
Stills q P = (s : Timed) (x : List Fact) (t : Timed) → P s x t → AllStill q x

pub still-append : (q : Event → Bool) (x y : List Fact) → AllStill q x → AllStill q y
    → AllStill q (x ++ y)
still-append q [] y a b = b
still-append q (f ∷ x) y a b = (a.0, still-append q x y a.1 b)

-- a test that is false of all of which another is
pub still-by : (p q : Event → Bool) → ((e : Event) → p e ≡ false → q e ≡ false) → (x : List Fact)
    → AllStill p x → AllStill q x
still-by p q each [] all = tt
still-by p q each (f ∷ x) all = (each f.event all.0, still-by p q each x all.1)

-- so a filter by the test leaves nothing
pub still-none : (q : Event → Bool) (x : List Fact) → AllStill q x → filter (λ f. q f.event) x ≡ []
still-none q [] a = refl
still-none q (f ∷ x) a = rw (a.0) (still-none q x a.1)

module _ (q : Event → Bool) where
  pub still-then : (P Q : Rel) → Stills q P → Stills q Q → Stills q (Then P Q)
  still-then P Q p r s x t h =
      rw h.joined (still-append q h.front h.back (p s h.front h.between h.first)
      (r h.between h.back t h.second))

  pub still-chain : (P : Rel) → Stills q P → Stills q (Chain P)
  still-chain P p s x t none = tt
  still-chain P p s x t (more {x = front} {t = between} c y u h) =
      still-append q front y (still-chain P p s front between c) (p between y u h)

  still-visits : (P : ℕ → Rel) → ((n : ℕ) → Stills q (P n)) → (n : ℕ) → Stills q (Visits P n)
  still-visits P p zero s x t h = rw (h.0) tt
  still-visits P p (suc n) s x t h = still-then (Visits P n) (P n) (still-visits P p n) (p n) s x t h

  still-each : (P : ℕ → Rel) → ((n : ℕ) → Stills q (P n)) → (ns : List ℕ) → Stills q (Each P ns)
  still-each P p [] s x t h = rw (h.0) tt
  still-each P p (n ∷ ns) s x t h = still-then (P n) (Each P ns) (p n) (still-each P p ns) s x t h

  -- posting
  module _ (begun : (c r : ℕ) → q (Begun c r) ≡ false)
      (posted : (o : Owner) (k : ℕ) → q (Posted o k) ≡ false) where
    map-still : {A : Type 0} (f : A → Event) → ((a : A) → q (f a) ≡ false) → (o : Option A)
        (e : Event) → option_map f o ≡ Some e → q e ≡ false
    map-still f each None e h = cc
    map-still f each (Some a) e h = let same : f a ≡ e = cc in ap q (sym same) ∙ each a

    then-still : {A : Type 0} (f : A → Option Event)
        → ((a : A) (e : Event) → f a ≡ Some e → q e ≡ false) → (o : Option A) (e : Event)
        → option_and_then f o ≡ Some e → q e ≡ false
    then-still f each None e h = cc
    then-still f each (Some a) e h = each a e h

    if-still : (b : Bool) (o : Option Event) (e : Event) → ((e : Event) → o ≡ Some e → q e ≡ false)
        → cond b o None ≡ Some e → q e ≡ false
    if-still true o e each h = each e h
    if-still false o e each h = cc

    unless-still : (b : Bool) (o : Option Event) (e : Event)
        → ((e : Event) → o ≡ Some e → q e ≡ false) → cond b None o ≡ Some e → q e ≡ false
    unless-still false o e each h = each e h
    unless-still true o e each h = cc

    begun-still : (i : ℕ) (l : Lists) (e : Event) → next_begun i l ≡ Some e → q e ≡ false
    begun-still i l e h =
        then-still (if_connected beginning) (λ x e k. if-still (is_connected x.state)
        (beginning x) e (λ e k. then-still (λ (c : Call). option_map
        (λ slot. Begun c.what.number (next_turn x.turns slot)) (lowest_free x.calls))
        (λ c e k. map-still (λ slot. Begun c.what.number (next_turn x.turns slot))
        (λ slot. begun c.what.number (next_turn x.turns slot)) (lowest_free x.calls) e k)
        (find is_waiting x.calls) e k) k) (slice_get l.clients i) e h

    posted-still : (i : ℕ) (l : Lists) (e : Event) → next_posted i l ≡ Some e → q e ≡ false
    posted-still i l e h =
        then-still (if_connected posting) (λ x e k. if-still (is_connected x.state)
        (posting x) e (λ e k. unless-still (eqb x.free 0)
        (option_and_then (λ c. next_packet x.way.number c.progress) (find can_post x.calls)) e
        (λ e k. then-still (λ (c : Call). next_packet x.way.number c.progress)
        (λ c e k. map-still (λ (p : Progress). Posted (Ask x.way.number p.request) p.posted)
        (λ p. posted (Ask x.way.number p.request) p.posted) c.progress e k)
        (find can_post x.calls) e k) k) k) (slice_get l.clients i) e h

    notes-still : (next : Lists → Option Event)
        → ((l : Lists) (e : Event) → next l ≡ Some e → q e ≡ false) → Stills q (NotesAll next)
    notes-still next each s x t h =
        still-chain (NotesNext next) (λ s x t n. rw n.facts (each s.lists n.event n.is_next, tt)) s x
        t h.steps

    pub posts-still : Stills q PostsAll
    posts-still s x t h =
        still-visits Serves (λ i. still-then (NotesAll (next_begun i)) (NotesAll (next_posted i))
        (notes-still (next_begun i) (begun-still i)) (notes-still (next_posted i) (posted-still i)))
        _ s x t h

  pub sends-still : ((peer : ℕ) (o : Owner) (k : ℕ) → q (Sent peer o k) ≡ false)
      → Stills q SendsSome
  sends-still sent =
      still-chain Sends (λ s x t h. rw h.facts (sent h.out.peer h.entry.owner h.entry.number, tt))

  pub closes-still : ((now : ℕ) → q (Polled now) ≡ false) → Stills q Closes
  closes-still polled s x t h = rw h.facts (polled s.clock, tt)

  -- a control packet that is handed to the link
  module _ (sent : (peer : ℕ) (o : Owner) (k : ℕ) → q (Sent peer o k) ≡ false)
      (unsent : (peer : ℕ) → q (Unsent peer) ≡ false) where
    pub said-still : (me : ℕ) (taken : Bool) (peer : ℕ) (head : List ℕ)
        → AllStill q (control_fact taken me peer head ∷ [])
    said-still me true peer head = (sent peer Control 0, tt)
    said-still me false peer head = (unsent peer, tt)

  -- the requests of sessions
  module _ (sent : (peer : ℕ) (o : Owner) (k : ℕ) → q (Sent peer o k) ≡ false)
      (unsent : (peer : ℕ) → q (Unsent peer) ≡ false)
      (failed : (i : ℕ) → q (FailedNoAnswer i) ≡ false)
      (closed : (i : ℕ) → q (ClosedUnheard i) ≡ false) where
    given-still : (me : ℕ) (state : SessionState) (number : ℕ)
        → AllStill q (map (plain me) (given_up state number))
    given-still me Connecting number = (failed number, tt)
    given-still me Closing number = (closed number, tt)
    given-still me _ number = tt

    retries-by : (me : ℕ) (row : RetryRow) (x : Client) (h : ControlHeader) (facts : List Fact)
        → RetriesBy row me x h facts → AllStill q facts
    retries-by me Rests x h facts r = rw r tt
    retries-by me RetryAsks x h facts r = rw r.facts (said-still sent unsent me r.taken x.way.peer r.head)
    retries-by me GivesUp x h facts r = rw r (given-still me x.state x.way.number)

    retries-as : (own : Option ControlHeader) (clock timeout me : ℕ) (x : Client)
        (facts : List Fact) → RetriesAs own clock timeout me x facts → AllStill q facts
    retries-as None clock timeout me x facts r = rw r tt
    retries-as (Some h) clock timeout me x facts r =
        retries-by me (retry_row clock timeout x.sends x.sent_at) x h facts r

    retries-of : (clock timeout me own : ℕ) (x : Option Client) (facts : List Fact)
        → RetriesOf clock timeout me own x facts → AllStill q facts
    retries-of clock timeout me own None facts r = rw r tt
    retries-of clock timeout me own (Some x) facts r =
        retries-as (own_request own x) clock timeout me x facts r

    pub retries-still : (timeout i : ℕ) → Stills q (Retries timeout i)
    retries-still timeout i s x t h =
        retries-of s.clock timeout s.lists.me s.lists.life (slice_get s.lists.clients i) x h.facts

  -- the timers of calls
  module _ (flushed : (o : Owner) (k : ℕ) → q (Flushed o k) ≡ false)
      (rolled : (c a b : ℕ) → q (Rolled c a b) ≡ false)
      (broken : (i : ℕ) → q (Broken i) ≡ false)
      (lost : (c : ℕ) → q (DonePeerLost c) ≡ false) where
    still-map : {A : Type 0} (f : A → Fact) → ((a : A) → q (f a).event ≡ false) → (xs : List A)
        → AllStill q (map f xs)
    still-map f each [] = tt
    still-map f each (a ∷ xs) = (each a, still-map f each xs)

    still-flat : {A : Type 0} (f : A → List Fact) → ((a : A) → AllStill q (f a)) → (xs : List A)
        → AllStill q (flat_map f xs)
    still-flat f each [] = tt
    still-flat f each (a ∷ xs) = still-append q (f a) (flat_map f xs) (each a) (still-flat f each xs)

    flush-still : (me : ℕ) (queued : List Queued) (owner : Owner)
        → AllStill q (flush_facts me queued owner)
    flush-still me queued owner = still-map (λ k. plain me (Flushed owner k)) (λ k. flushed owner k)
        (numbers_of owner queued)

    flushes-still : (me session : ℕ) (queued : List Queued) (p : Option Progress)
        → AllStill q (flushes_of me session queued p)
    flushes-still me session queued None = tt
    flushes-still me session queued (Some p) = flush-still me queued (Ask session p.request)

    row-still : (me : ℕ) (queued : List Queued) (x : Client) (number : ℕ) (p : Progress)
        (row : TimerRow) → AllStill q (row_facts me queued x number p row)
    row-still me queued x number p Waits = tt
    row-still me queued x number p RollsBack =
        still-append q _ _ (flush-still me queued (Ask x.way.number p.request))
        (rolled number p.posted p.got, tt)
    row-still me queued x number p Breaks =
        still-append q _ _ (still-flat (λ (c : Call). flushes_of me x.way.number queued c.progress)
        (λ c. flushes-still me x.way.number queued c.progress) x.calls) (
          broken x.way.number,
          still-map (λ (c : Call). plain me (DonePeerLost c.what.number))
              (λ c. lost c.what.number) x.calls,
        )

    progress-still : (clock timeout me : ℕ) (queued : List Queued) (x : Client) (number : ℕ)
        (p : Option Progress) → AllStill q (progress_facts clock timeout me queued x number p)
    progress-still clock timeout me queued x number None = tt
    progress-still clock timeout me queued x number (Some p) =
        row-still me queued x number p (row_of clock timeout x.way.number queued p)

    call-still : (clock timeout me : ℕ) (queued : List Queued) (x : Client) (c : Option Call)
        → AllStill q (call_facts clock timeout me queued x c)
    call-still clock timeout me queued x None = tt
    call-still clock timeout me queued x (Some c) =
        progress-still clock timeout me queued x c.what.number c.progress

    client-still : (clock timeout me : ℕ) (queued : List Queued) (number : ℕ) (x : Option Client)
        → AllStill q (client_facts clock timeout me queued number x)
    client-still clock timeout me queued number None = tt
    client-still clock timeout me queued number (Some x) =
        call-still clock timeout me queued x (find (is_call number) x.calls)

    pub call-watched : (timeout i number : ℕ) → Stills q (Watches timeout i number)
    call-watched timeout i number s x t h =
        rw h.facts (client-still s.clock timeout s.lists.me s.lists.queued number
        (slice_get s.lists.clients i))

    pub calls-still : (timeout i : ℕ) → Stills q (WatchesSession timeout i)
    calls-still timeout i s x t h =
        still-each (Watches timeout i) (call-watched timeout i)
        (numbers_in (slice_get s.lists.clients i)) s x t h

    -- the requests of sessions, and then their calls
    module _ (sent : (peer : ℕ) (o : Owner) (k : ℕ) → q (Sent peer o k) ≡ false)
        (unsent : (peer : ℕ) → q (Unsent peer) ≡ false)
        (failed : (i : ℕ) → q (FailedNoAnswer i) ≡ false)
        (closed : (i : ℕ) → q (ClosedUnheard i) ≡ false) where
      session-still : (timeout i : ℕ) → Stills q (TimesSession timeout i)
      session-still timeout i =
          still-then (Retries timeout i) (WatchesSession timeout i)
          (retries-still sent unsent failed closed timeout i)
          (calls-still timeout i)

      pub times-still : Stills q TimesAll
      times-still s x t h =
          still-visits (TimesSession s.lists.timeout) (session-still s.lists.timeout)
          (length s.lists.clients) s x t h
