-- Only an asking gives a session a call, and only an opening and a closing a request of its own:
-- what else happens leaves the sessions that a poll visits among those that it visited.
use Rattle.std.proofs.Common.{◌≡◌, ℕ, zero, suc, ◌+◌, ◌<◌, ◌≤◌, ◌⊎◌, ◌||◌, inl, inr}
use Rattle.std.proofs.Common.{Bool, true, false}
use Rattle.std.proofs.Common.{cond, Option, Some, None, List, [], ◌∷◌, ◌++◌, length, refl, sym, ap}
use Rattle.std.proofs.Common.{subst, ◌∙◌, add-zero, append-nil, arith}
use Rattle.std.specs.Prelude.{◌==◌, ◌-◌, IfSome, map, option_and_then, option_map, slice_get, slice_set}
use Rattle.std.specs.List.{Contains, find}
use Rattle.std.proofs.lemmas.Bool.{cases_eq, false≢true}
use Rattle.rpc_outside.specs.Recording.{Log}
use Rattle.rpc_base.specs.Tables.{at_first, without_first}
use Rattle.rpc_base.specs.declared.owner.Owner.{Owner}
use Rattle.rpc_base.specs.declared.owner.Owner.TheVariants.{Ask, Reply, Control}
use Rattle.packet_header.specs.declared.packet.MessageHeader.{MessageHeader}
use Rattle.rpc_laws.specs.declared.tables.Call.{Call}
use Rattle.rpc_laws.specs.declared.tables.Client.{Client}
use Rattle.rpc_laws.specs.declared.tables.Queued.{Queued}
use Rattle.rpc_laws.specs.declared.tables.Timed.{Timed}
use Rattle.rpc_base.specs.declared.fact.Fact.{Fact}
use Rattle.rpc_laws.specs.declared.tables.Way.{Way}
use Rattle.rpc_laws.specs.ControlSteps.{RetriesOf, TimesSession, request_by}
use Rattle.rpc_base.specs.declared.state.SessionState.{SessionState}
use Rattle.rpc_base.specs.declared.state.SessionState.TheVariants.{Closing, Connecting}
use Rattle.rpc_base.proofs.PlaceLemmas.{set-here, set-other}
use Rattle.rpc_base.proofs.BasicLemmas.{or-false}
use Rattle.rpc_laws.specs.GoBackN.{Each, Watches, WatchesSession}
use Rattle.rpc_laws.specs.PollOrder.{PostsAll, Serves}
use Rattle.rpc_laws.specs.Posting.{beginning, can_post, if_connected, next_packet, posting}
use Rattle.rpc_laws.specs.Steps.{Rel, Visits, none}
use Rattle.rpc_laws.specs.Calls.{is_active, is_call}
use Rattle.rpc_laws.specs.Sessions.{begins, client_end, ends, is_client, posts, rolls, sends}
use Rattle.rpc_laws.specs.Sessions.{clients_after, has_call, is_connected, takes}
use Rattle.client_core.specs.Shown.{after_outcome, end_event, took}
use Rattle.client_core.specs.declared.outcome.Outcome.{Outcome}
use Rattle.client_core.specs.declared.outcome.Outcome.TheVariants.{Ok, TooSmall, PeerLost}
use Rattle.client_core.specs.declared.outcome.Reply.{Reply as Handled}
use Rattle.client_core.specs.declared.outcome.Reply.TheVariants.{Took as TookReply, Ended, Dropped}
use Rattle.session_store.specs.Changes.{BeginsAt, ChangesAt, PostsAt, RollsAt}
use Rattle.session_store.specs.Hearing.{RepliesAt}
use Rattle.session_store.specs.Joined.{without_due}
use Rattle.session_store.specs.Queue.{SendsFront, clients_sent}
use Rattle.session_store.specs.Sides.{are_calls, has_calls}
use Rattle.node_steps.specs.Callers.{Covers, NoneCalls, has_request, is_visited}
use Rattle.node_steps.specs.Notes.{Makes}
use Rattle.node_steps.specs.Seen.{asking}
use Rattle.node_steps.proofs.NoteEnds.{makes-as}
use Rattle.node_steps.specs.Timers.{broken_with}

-- what is visited now was visited before, at the same place
abbrev pub WereVisited : List Client → List Client → Type 0
WereVisited old new = (i : ℕ) → (y : Client) → slice_get new i ≡ Some y → is_visited y ≡ true
    → (x : Client) × (slice_get old i ≡ Some x) × (is_visited x ≡ true)

-- where a session has fewer calls, and the same state
or-less : (a b c : Bool) → (a ≡ true → b ≡ true) → (a || c) ≡ true → (b || c) ≡ true
or-less true b c less h = rw (less refl) refl
or-less false true c less h = refl
or-less false false c less h = h

visited-less : (x y : Client) → y.state ≡ x.state → (has_calls y ≡ true → has_calls x ≡ true)
    → is_visited y ≡ true → is_visited x ≡ true
visited-less x y state less h =
    or-less (has_calls y) (has_calls x) (has_request x.state) less
    (subst (λ (z : SessionState). (has_calls y || has_request z) ≡ true) state h)

-- where it has no request of its own any more
pub visited-calls : (a b : Bool) → (a || false) ≡ true → (a || b) ≡ true
visited-calls true b h = refl
visited-calls false b h = cc

pub covers-were : (callers : List ℕ) (old new : List Client) → WereVisited old new
    → Covers callers old → Covers callers new
covers-were callers old new were covers =
    λ i y at has. let h = were i y at has in covers i h.0 h.1 h.2

-- a change of the first session that passes
were-first : (p : Client → Bool) (f : Client → Client)
    → ((x : Client) → is_visited (f x) ≡ true → is_visited x ≡ true) → (xs : List Client)
    → WereVisited xs (at_first p f xs)
were-first p f kept xs = walk xs
  where
    here : (b : Bool) (x : Client) (xs ys : List Client) (i : ℕ) (y : Client)
        → ((j : ℕ) → (z : Client) → slice_get ys j ≡ Some z → is_visited z ≡ true
        → (w : Client) × (slice_get xs j ≡ Some w) × (is_visited w ≡ true))
        → slice_get (cond b (f x ∷ xs) (x ∷ ys)) i ≡ Some y → is_visited y ≡ true
        → (w : Client) × (slice_get (x ∷ xs) i ≡ Some w) × (is_visited w ≡ true)
    here true x xs ys zero y ih at has =
        let same : f x ≡ y = cc in (x, refl, kept x (ap is_visited same ∙ has))
    here true x xs ys (suc i) y ih at has = (y, at, has)
    here false x xs ys zero y ih at has =
        let same : x ≡ y = cc in (x, refl, ap is_visited same ∙ has)
    here false x xs ys (suc i) y ih at has = ih i y at has

    walk : (xs : List Client) (i : ℕ) (y : Client) → slice_get (at_first p f xs) i ≡ Some y
        → is_visited y ≡ true → (w : Client) × (slice_get xs i ≡ Some w) × (is_visited w ≡ true)
    walk [] i y at has = cc
    walk (x ∷ xs) i y at has = here (p x) x xs (at_first p f xs) i y (walk xs) at has

-- a change of the session at a place
were-set : (xs : List Client) (i : ℕ) (x y : Client) → slice_get xs i ≡ Some x
    → (is_visited y ≡ true → is_visited x ≡ true) → WereVisited xs (slice_set xs i y)
were-set xs i x y there kept = λ j z at has. elim (cases_eq j i) [
  | inl here ↦ (
      let own : slice_get (slice_set xs i y) j ≡ Some y =
      ap (λ k. slice_get (slice_set xs i y) k) here ∙ set-here xs i x y there in
      let same : y ≡ z = cc in
      (x, ap (λ k. slice_get xs k) here ∙ there, kept (ap is_visited same ∙ has)))
  | inr other ↦ (z, sym (set-other xs i j y other) ∙ at, has)
]

-- calls that change stay, and one that is over is no new one
calls-first : (p : Call → Bool) (f : Call → Call) (cs : List Call)
    → are_calls (at_first p f cs) ≡ true → are_calls cs ≡ true
calls-first p f [] has = has
calls-first p f (c ∷ cs) has = refl

calls-without : (p : Call → Bool) (cs : List Call) → are_calls (without_first p cs) ≡ true
    → are_calls cs ≡ true
calls-without p [] has = has
calls-without p (c ∷ cs) has = refl

pub covers-begun : (callers : List ℕ) (i : ℕ) (b : ℕ × ℕ) (xs ys : List Client)
    → BeginsAt i (Some b) xs ys → Covers callers xs → Covers callers ys
covers-begun callers i b xs ys h covers =
    let change = h.1 in
    rw change.changed (covers-were callers xs (slice_set xs i (begins b.0 b.1 change.client))
    (were-set xs i change.client (begins b.0 b.1 change.client) change.place
    (visited-less change.client (begins b.0 b.1 change.client) refl
    (calls-first (is_call b.0) _ change.client.calls))) covers)

pub covers-posted : (callers : List ℕ) (i : ℕ) (p : ℕ × ℕ) (xs ys : List Client)
    → PostsAt i (Some p) xs ys → Covers callers xs → Covers callers ys
covers-posted callers i p xs ys h covers =
    rw h.changed (covers-were callers xs (slice_set xs i (posts p.0 p.1 h.client))
    (were-set xs i h.client (posts p.0 p.1 h.client) h.place
    (visited-less h.client (posts p.0 p.1 h.client) refl
    (calls-first (is_active p.0) _ h.client.calls))) covers)

pub covers-rolled : (callers : List ℕ) (i number : ℕ) (xs ys : List Client)
    → RollsAt i number xs ys → Covers callers xs → Covers callers ys
covers-rolled callers i number xs ys h covers =
    let later = rolls number h.progress.posted h.progress.got h.client in
    rw h.changed (covers-were callers xs (slice_set xs i later)
    (were-set xs i h.client later h.place
    (visited-less h.client later refl (calls-first (is_call number) _ h.client.calls))) covers)

sent-were : (now : ℕ) (o : Owner) (k : ℕ) (xs : List Client)
    → WereVisited xs (clients_sent now o k xs)
sent-were now (Ask i r) k xs =
    were-first (is_client i) (sends now r k)
    (λ x. visited-less x (sends now r k x) refl (calls-first (is_active r) _ x.calls)) xs
sent-were now (Reply t r) k xs = λ i y at has. (y, at, has)
sent-were now Control k xs = λ i y at has. (y, at, has)

pub covers-sent : (callers : List ℕ) (now : ℕ) (e : Queued) (queued : List Queued)
    (xs ys : List Client) → option_map without_due (slice_get queued 0) ≡ Some e
    → SendsFront now queued xs ys → Covers callers xs → Covers callers ys
covers-sent callers now e queued xs ys front h covers = by-front (slice_get queued 0) front h
  where
    by-front : (o : Option Queued) → option_map without_due o ≡ Some e
        → IfSome o (λ q. ys ≡ clients_sent now q.owner q.number xs) → Covers callers ys
    by-front None absent sent = cc
    by-front (Some q) some sent =
        rw sent (covers-were callers xs (clients_sent now q.owner q.number xs)
        (sent-were now q.owner q.number xs) covers)

-- session i, which is among them, changed
pub covers-entered : (callers later : List ℕ) (i : ℕ) (f : Client → Client) (xs ys : List Client)
    → ChangesAt i f xs ys → Contains later i → ((n : ℕ) → Contains callers n → Contains later n)
    → Covers callers xs → Covers later ys
covers-entered callers later i f xs ys h entered others covers =
    rw h.changed (λ j y at has. elim (cases_eq j i) [
      | inl here ↦ subst (λ k. Contains later k) (sym here) entered
      | inr other ↦ others j (covers j y (sym (set-other xs i j (f h.client) other) ∙ at) has)
    ])

-- a session changed that isn't visited unless it was before
pub covers-stay : (callers : List ℕ) (i : ℕ) (f : Client → Client) (xs ys : List Client)
    → ((x : Client) → is_visited (f x) ≡ true → is_visited x ≡ true) → ChangesAt i f xs ys
    → Covers callers xs → Covers callers ys
covers-stay callers i f xs ys stay h covers =
    rw h.changed (covers-were callers xs (slice_set xs i (f h.client))
    (were-set xs i h.client (f h.client) h.place (stay h.client)) covers)

-- a session that is new isn't visited where it is paired
were-pushed : (y : Client) → is_visited y ≡ false → (xs : List Client)
    → WereVisited xs (xs ++ y ∷ [])
were-pushed y idle xs = walk xs
  where
    walk : (xs : List Client) (i : ℕ) (z : Client) → slice_get (xs ++ y ∷ []) i ≡ Some z
        → is_visited z ≡ true → (w : Client) × (slice_get xs i ≡ Some w) × (is_visited w ≡ true)
    walk [] zero z at has =
        let same : y ≡ z = cc in absurd (false≢true (sym idle ∙ ap is_visited same ∙ has))
    walk [] (suc i) z at has = cc
    walk (x ∷ xs) zero z at has = let same : x ≡ z = cc in (x, refl, ap is_visited same ∙ has)
    walk (x ∷ xs) (suc i) z at has = walk xs i z at has

pub covers-paired : (callers : List ℕ) (xs ys : List Client) (number peer server credits life : ℕ)
    → ys ≡ xs ++ client_end number peer server credits life ∷ [] → Covers callers xs → Covers callers ys
covers-paired callers xs ys number peer server credits life is covers =
    rw is (covers-were callers xs (xs ++ client_end number peer server credits life ∷ [])
    (were-pushed (client_end number peer server credits life) refl xs) covers)

-- and is where it is opened
last-or : (y : Client) (xs : List Client) (i : ℕ) (z : Client)
    → slice_get (xs ++ y ∷ []) i ≡ Some z → (slice_get xs i ≡ Some z) ⊎ (i ≡ length xs)
last-or y [] zero z at = inr refl
last-or y [] (suc i) z at = cc
last-or y (x ∷ xs) zero z at = inl at
last-or y (x ∷ xs) (suc i) z at = elim (last-or y xs i z at) [
  | inl before ↦ inl before
  | inr last ↦ inr (omega (arith, last))
]

pub covers-opened : (callers later : List ℕ) (xs ys : List Client) (y : Client)
    → ys ≡ xs ++ y ∷ [] → Contains later (length xs)
    → ((n : ℕ) → Contains callers n → Contains later n) → Covers callers xs → Covers later ys
covers-opened callers later xs ys y is entered others covers =
    rw is (λ i z at has. elim (last-or y xs i z at) [
      | inl before ↦ others i (covers i z before has)
      | inr last ↦ subst (λ k. Contains later k) (sym last) entered
    ])

-- a reply that is handled
were-both : (a b c : List Client) → WereVisited a b → WereVisited b c → WereVisited a c
were-both a b c p q = λ i y at has. let h = q i y at has in p i h.0 h.1 h.2

were-over : (call : ℕ) (xs : List Client)
    → WereVisited xs (at_first (has_call call) (ends call) xs)
were-over call xs =
    were-first (has_call call) (ends call)
    (λ x. visited-less x (ends call x) refl (calls-without (is_call call) x.calls)) xs

were-ended : (clock call : ℕ) (o : Outcome) (xs : List Client)
    → WereVisited xs (clients_after clock (end_event call o) [] None [] xs)
were-ended clock call Ok xs = were-over call xs
were-ended clock call (TooSmall size) xs = were-over call xs
were-ended clock call PeerLost xs = were-over call xs

were-took : (clock : ℕ) (h : MessageHeader) (body : List ℕ) (x : Client)
    → WereVisited (x ∷ []) (took clock h body x)
were-took clock h body x =
    were-first (is_client x.way.number) (takes clock h.request (Some h) body)
    (λ y. visited-less y (takes clock h.request (Some h) body y) refl
    (calls-first (is_active h.request) _ y.calls)) (x ∷ [])

were-handled : (clock : ℕ) (r : Handled) (h : MessageHeader) (body : List ℕ) (x : Client)
    → WereVisited (x ∷ []) (after_outcome clock r h body x)
were-handled clock TookReply h body x = were-took clock h body x
were-handled clock (Ended d) h body x =
    were-both (x ∷ []) (took clock h body x) _ (were-took clock h body x)
    (were-ended clock d.call d.outcome (took clock h body x))
were-handled clock (Dropped why) h body x = λ i y at has. (y, at, has)

pub covers-replied : (callers : List ℕ) (i clock peer : ℕ) (h : MessageHeader) (body : List ℕ)
    (waiting : Bool) (r : Handled) (xs ys : List Client)
    → RepliesAt i clock peer h body waiting r xs ys → Covers callers xs → Covers callers ys
covers-replied callers i clock peer h body waiting r xs ys p covers =
    rw p.changed (covers-were callers xs (slice_set xs i p.later)
    (were-set xs i p.client p.later p.at (λ has.
    let first = were-handled clock r h body p.client 0 p.later
    (ap (λ (zs : List Client). slice_get zs 0) p.step) has in
    let same : p.client ≡ first.0 = cc in
    ap is_visited same ∙ first.2)) covers)

-- a session that lost its peer, and its calls with it
pub covers-lost : (callers : List ℕ) (i : ℕ) (x : Client) (xs ys : List Client)
    → slice_get xs i ≡ Some x → ys ≡ slice_set xs i (broken_with x []) → Covers callers xs
    → Covers callers ys
covers-lost callers i x xs ys there is covers =
    rw is (covers-were callers xs (slice_set xs i (broken_with x []))
    (were-set xs i x (broken_with x []) there (λ has. absurd (false≢true has))) covers)

-- a session that isn't among them isn't visited
pub none-called : (callers : List ℕ) (clients : List Client) (i : ℕ) → Covers callers clients
    → (Contains callers i → ⊥) → IfSome (slice_get clients i) (λ x. is_visited x ≡ false)
none-called callers clients i covers other = by-place (slice_get clients i) refl
  where
    by-visit : (x : Client) (b : Bool) → slice_get clients i ≡ Some x → is_visited x ≡ b
        → is_visited x ≡ false
    by-visit x true at has = absurd (other (covers i x at has))
    by-visit x false at has = has

    by-place : (o : Option Client) → slice_get clients i ≡ o
        → IfSome o (λ x. is_visited x ≡ false)
    by-place None at = tt
    by-place (Some x) at = by-visit x (is_visited x) at refl

-- sessions without calls begin and post nothing
begins-none : (o : Option Client) → IfSome o (λ x. is_visited x ≡ false)
    → option_and_then (if_connected beginning) o ≡ None
begins-none None idle = refl
begins-none (Some x) idle =
    by x.calls (is_connected x.state) refl (or-false (has_calls x) (has_request x.state) idle).0
  where
    by : (cs : List Call) (b : Bool) → x.calls ≡ cs → are_calls cs ≡ false
        → cond b (beginning x) None ≡ None
    by [] true is h = rw is refl
    by [] false is h = refl
    by (c ∷ cs) b is h = absurd (false≢true (sym h))

posts-none : (o : Option Client) → IfSome o (λ x. is_visited x ≡ false)
    → option_and_then (if_connected posting) o ≡ None
posts-none None idle = refl
posts-none (Some x) idle =
    by x.calls (is_connected x.state) (x.free == 0) refl
    (or-false (has_calls x) (has_request x.state) idle).0
  where
    by : (cs : List Call) (b free : Bool) → x.calls ≡ cs → are_calls cs ≡ false
        → cond b (cond free None (option_and_then (λ (c : Call). next_packet x.way.number c.progress)
        (find can_post x.calls))) None ≡ None
    by [] true true is h = refl
    by [] true false is h = rw is refl
    by [] false free is h = refl
    by (c ∷ cs) b free is h = absurd (false≢true (sym h))

pub serves-none : (i : ℕ) (s : Timed)
    → IfSome (slice_get s.lists.clients i) (λ x. is_visited x ≡ false)
    → Serves i s [] s
serves-none i s quiet = record {
  between = s;
  front = [];
  back = [];
  joined = refl;
  first = record { steps = none; over = begins-none (slice_get s.lists.clients i) quiet };
  second = record { steps = none; over = posts-none (slice_get s.lists.clients i) quiet };
}

-- those whose turn leaves all as it was may be passed over
visits-on : (P : ℕ → Rel) (n d : ℕ) (s u : Timed) (x : List Fact) → Visits P n s x u
    → ((i : ℕ) → n ≤ i → i < n + d → P i u [] u) → Visits P (n + d) s x u
visits-on P n zero s u x visited each = rw (add-zero n) visited
visits-on P n (suc d) s u x visited each =
    let before = visits-on P n d s u x visited (λ i low high. each i low (omega (arith, high))) in
    let one : n + suc d ≡ suc (n + d) = omega arith in
    rw one (record {
      between = u;
      front = x;
      back = [];
      joined = sym (append-nil x);
      first = before;
      second = each (n + d) (omega arith) (omega arith);
    })

pub visits-up : (P : ℕ → Rel) (n m : ℕ) (s u : Timed) (x : List Fact) → n ≤ m → Visits P n s x u
    → ((i : ℕ) → n ≤ i → i < m → P i u [] u) → Visits P m s x u
visits-up P n m s u x up visited each =
    let long : n + (m - n) ≡ m = omega (arith, up) in
    subst (λ k. Visits P k s x u) long
    (visits-on P n (m - n) s u x visited (λ i low high. each i low (omega (arith, high, long))))

module _ {R : Type 0} (log : R → Log) where
  pub serves-up : (n m : ℕ) (a b : Timed) (f g : R) → n ≤ m → NoneCalls n m b.lists.clients
      → Makes log (Visits Serves n) a b f g → Makes log (Visits Serves m) a b f g
  serves-up n m a b f g up quiet made =
      makes-as log (Visits Serves n) (Visits Serves m) a b f g
      (λ asks x visited. visits-up Serves n m (asking asks a) (asking asks b) x up visited
      (λ i low high. serves-none i (asking asks b) (quiet i low high))) made

  pub all-served : (n : ℕ) (a b : Timed) (f g : R) → n ≡ length a.lists.clients
      → Makes log (Visits Serves n) a b f g → Makes log PostsAll a b f g
  all-served n a b f g is made =
      makes-as log (Visits Serves n) PostsAll a b f g
      (λ asks x visited. subst (λ k. Visits Serves k (asking asks a) x (asking asks b)) is visited)
      made

-- and no call of theirs is looked at
pub session-quiet : (timeout i : ℕ) (s : Timed)
    → IfSome (slice_get s.lists.clients i) (λ x. is_visited x ≡ false)
    → TimesSession timeout i s [] s
session-quiet timeout i s quiet = record {
  between = s;
  front = [];
  back = [];
  joined = refl;
  first = record {
    facts = none-retried s.clock timeout s.lists.me s.lists.life (slice_get s.lists.clients i) quiet;
    goes = refl;
  };
  second = watched (slice_get s.lists.clients i) refl quiet;
}
  where
    requested : (own : ℕ) (state : SessionState) (way : Way) (credits : ℕ)
        → has_request state ≡ false → request_by own state way credits ≡ None
    requested own Connecting way credits h = cc
    requested own Closing way credits h = cc
    requested own _ way credits h = refl

    none-retried : (clock timeout me own : ℕ) (o : Option Client)
        → IfSome o (λ x. is_visited x ≡ false) → RetriesOf clock timeout me own o []
    none-retried clock timeout me own None h = refl
    none-retried clock timeout me own (Some x) h =
        rw (requested own x.state x.way x.limit
        (or-false (has_calls x) (has_request x.state) h).1) refl

    looks-none : (cs : List Call) → are_calls cs ≡ false
        → Each (Watches timeout i) (map (λ (c : Call). c.what.number) cs) s [] s
    looks-none [] h = (refl, refl)
    looks-none (c ∷ cs) h = absurd (false≢true (sym h))

    watched : (o : Option Client) → slice_get s.lists.clients i ≡ o
        → IfSome o (λ x. is_visited x ≡ false) → WatchesSession timeout i s [] s
    watched None at h = rw at (refl, refl)
    watched (Some x) at h =
        rw at (looks-none x.calls (or-false (has_calls x) (has_request x.state) h).0)
