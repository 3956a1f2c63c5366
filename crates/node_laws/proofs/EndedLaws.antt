-- A call that is over has no packet queued, and none is posted later.
use Rattle.std.proofs.Common.{◌≡◌, ℕ, ◌+◌, ◌≤◌, Bool, true, false, ◌&&◌, ◌||◌, cond, Option, Some}
use Rattle.std.proofs.Common.{None, List, [], ◌∷◌, refl, sym, subst, ◌∙◌, arith}
use Rattle.std.specs.Prelude.{◌==◌}
use Rattle.std.specs.List.{AllByRecursion, find, list_any}
use Rattle.std.proofs.lemmas.Bool.{eqb-true, eq-eqb, and_parts}
use Rattle.rpc_base.specs.Tables.{at_first}
use Rattle.rpc_base.specs.declared.event.Event.{Event}
use Rattle.rpc_base.specs.declared.event.Event.TheVariants.{Asked, Begun, Posted, DoneOk, DoneTooSmall, DonePeerLost}
use Rattle.rpc_base.specs.declared.fact.Fact.{Fact}
use Rattle.rpc_base.specs.declared.limits.Limits.{Limits}
use Rattle.rpc_base.specs.declared.owner.Owner.TheVariants.{Ask, Reply, Control}
use Rattle.rpc_laws.specs.declared.tables.Call.{Call}
use Rattle.rpc_laws.specs.declared.tables.Client.{Client}
use Rattle.rpc_laws.specs.declared.tables.Lists.{Lists}
use Rattle.rpc_laws.specs.declared.tables.Progress.{Progress}
use Rattle.rpc_laws.specs.declared.tables.Queued.{Queued}
use Rattle.rpc_laws.specs.AtMostOnce.{ends_call}
use Rattle.rpc_laws.specs.Calls.{is_call, has_request, is_active}
use Rattle.rpc_laws.specs.Front.{front_header, front_body}
use Rattle.rpc_laws.specs.NodeLists.{after, new_lists, asked_after}
use Rattle.rpc_laws.specs.Pacing.{due_of}
use Rattle.rpc_laws.specs.Sessions.{is_client, has_call, ends, clients_after}
use Rattle.node_laws.specs.EndedCalls.{queued_by, asks_on, begins_as, posts_of, BeganAs, HandsBack, EndsClean}
use Rattle.node_laws.specs.Laws.{EndedCallsAreNotQueued}
use Rattle.node_laws.proofs.Allowed.{Allowed, NoneQueued, MayBegin, MayPost, Leads}
use Rattle.node_laws.proofs.ElsewhereLemmas.{elsewhere, elsewhere-after, asked-here, session-found}
use Rattle.node_laws.proofs.NumberLemmas.{by_number}
use Rattle.node_laws.proofs.OpenLemmas.{turns-after, open_of, open_for, open-after}
use Rattle.node_laws.proofs.OriginLemmas.{unlike, unlike-after, begun-like, like-found}
use Rattle.node_laws.proofs.PutLemmas.{Alike, alike-no-more, alike-after}
use Rattle.node_laws.proofs.QueueLemmas.{none-stays}
use Rattle.node_laws.proofs.QueueWindowLemmas.{windows-after, ended-unqueued}
use Rattle.node_laws.proofs.RunLaws.{run_leads}
use Rattle.rpc_base.proofs.FirstLemmas.{found-changed, some-counted, sum-left}
use Rattle.node_laws.proofs.Places.{Place}
use Rattle.node_laws.specs.Valid.{EightTurns, Valid}
use Rattle.node_laws.proofs.ValidLemmas.{valid_after, valid_new}
use Rattle.node_laws.proofs.WindowLemmas.{own-request}
use Rattle.node_laws.specs.Windows.{Windows}
use Rattle.rpc_base.proofs.TakingLemmas.{find-passes}

-- a request that may no longer be active isn't posted
post-by : (n r i j k : ℕ) (s : Lists) (b : Bool) → (i == n && j == r) ≡ b
    → open_for n r s.clients ≤ 0 → MayPost s i j k → b ≡ false
post-by n r i j k s true e none a =
    let parts = and_parts (i == n) (j == r) e in
    let session : i ≡ n = eqb-true i n parts.0 in
    let request : j ≡ r = eqb-true j r parts.1 in
    let found : find (is_client n) s.clients ≡ Some a.client = rw session at a.active.place.client in
    let own : has_request r a.call.progress ≡ true =
    rw a.active.active (eq-eqb a.progress.request r (sym a.same ∙ request)) in
    let some = some-counted a.active.place.test (is_active r) a.client.calls a.call a.active.place.call own in
    let opened : open_of r (Some a.client) ≤ 0 = rw found at none in
    absurd (omega arith)
post-by n r i j k s false e none a = refl

post-none : (n r : ℕ) (e : Event) (s : Lists) → open_for n r s.clients ≤ 0 → Allowed s e → posts_of n r e ≡ false
post-none n r (Posted (Ask i j) k) s none a = post-by n r i j k s (i == n && j == r) refl none a
post-none n r (Posted (Reply i j) k) s none a = refl
post-none n r (Posted Control k) s none a = refl
post-none n r _ s none a = refl

never-posted : (n r : ℕ) (s : Lists) (g : List Fact) (t : Lists) → Valid s
    → AllByRecursion EightTurns s.clients → open_for n r s.clients ≤ 0 → Leads s g t
    → list_any (λ f. posts_of n r f.event) g ≡ false
never-posted n r s [] t v eight none l = refl
never-posted n r s (f ∷ g) t v eight none l =
    let here = post-none n r f.event s none l.1 in
    let next = after l.0 s f in
    let less = open-after n r l.0 f.event f.first (front_header s.ring) (front_body s.ring) s v eight l.1 in
    let none_next : open_for n r next.clients ≤ 0 = omega arith in
    let turns : AllByRecursion EightTurns next.clients =
    turns-after l.0 f.event f.first (front_header s.ring)
    (front_body s.ring) s.clients eight in
    let rest = never-posted n r next g t (valid_after l.0 s f v l.1) turns none_next l.2 in
    rw here rest

-- what is known of a moment
pub record Knows (past : List Fact) (s : Lists) : Type 0 where
  pub valid : Valid s
  pub queue : Alike (queued_by past) s.queued
  pub windows : Windows s.clients s.queued
  pub eight : AllByRecursion EightTurns s.clients
  pub few : (n r : ℕ) → open_for n r s.clients ≤ 1
  pub asked : (c n : ℕ) → list_any (λ f. asks_on c n f.event) past ≡ true → elsewhere c n s ≤ 0
  pub begun : (c r : ℕ) → list_any (λ f. begins_as c r f.event) past ≡ true → unlike c r s ≤ 0

asked-now : (c n i m : ℕ) (s : Lists) (a : i ≡ s.asked) → Valid s
    → (y room : ℕ) (bytes : List ℕ) (clock : ℕ) → (i == c && m == n) ≡ true
    → elsewhere c n (record s {
      asked = s.asked + 1;
      clients = clients_after clock (Asked i m y room) bytes (front_header s.ring)
          (front_body s.ring) s.clients;
    }) ≤ 0
asked-now c n i m s a v y room bytes clock e =
    let parts = and_parts (i == c) (m == n) e in
    asked-here c n s i m (record { number = i; req_type = y; room = room; ask = bytes }) v a
    (eqb-true i c parts.0) (eqb-true m n parts.1)

asked-new : (c n clock : ℕ) (e : Event) (bytes : List ℕ) (s : Lists) → Valid s → Allowed s e
    → asks_on c n e ≡ true
    → elsewhere c n (record s {
      asked = asked_after e s.asked;
      clients = clients_after clock e bytes (front_header s.ring) (front_body s.ring) s.clients;
    }) ≤ 0
asked-new c n clock (Asked i m y room) bytes s v a e = asked-now c n i m s a.next v y room bytes clock e
asked-new c n clock _ bytes s v a e = cc

begun-now : (c r i j : ℕ) (s : Lists) → Valid s → MayBegin s i j → (clock : ℕ) (bytes : List ℕ)
    → (i == c && j == r) ≡ true
    → unlike c r (record s {
      clients = clients_after clock (Begun i j) bytes (front_header s.ring)
          (front_body s.ring) s.clients;
    }) ≤ 0
begun-now c r i j s v a clock bytes e =
    let parts = and_parts (i == c) (j == r) e in
    let call : i ≡ c = eqb-true i c parts.0 in
    let request : j ≡ r = eqb-true j r parts.1 in
    let own : MayBegin s c r = rw (← call, ← request) a in
    rw (call, request) (begun-like c r s v own)

begun-new : (c r clock : ℕ) (e : Event) (bytes : List ℕ) (s : Lists) → Valid s → Allowed s e
    → begins_as c r e ≡ true
    → unlike c r (record s {
      asked = asked_after e s.asked;
      clients = clients_after clock e bytes (front_header s.ring) (front_body s.ring) s.clients;
    }) ≤ 0
begun-new c r clock (Begun i j) bytes s v a e = begun-now c r i j s v a clock bytes e
begun-new c r clock _ bytes s v a e = cc

new-or-old : (b c : Bool) (n : ℕ) → (b ≡ true → n ≤ 0) → (c ≡ true → n ≤ 0) → (b || c) ≡ true → n ≤ 0
new-or-old true c n h k e = h refl
new-or-old false c n h k e = k e

pub knows-after : (clock : ℕ) (past : List Fact) (s : Lists) (f : Fact) → Knows past s
    → Allowed s f.event → Knows (f ∷ past) (after clock s f)
knows-after clock past s f k a = record {
  valid = valid_after clock s f k.valid a;
  queue = alike-after f.event None (due_of clock f.event s.paces) (queued_by past) s.queued k.queue;
  windows = windows-after clock f.event (due_of clock f.event s.paces) f.first s k.valid k.windows a;
  eight = turns-after clock f.event f.first (front_header s.ring) (front_body s.ring) s.clients k.eight;
  few = λ n r.
      let less = open-after n r clock f.event f.first (front_header s.ring) (front_body s.ring) s k.valid k.eight a in
      let was = k.few n r in
      omega arith;
  asked = λ c n e. new-or-old (asks_on c n f.event) (list_any (λ h. asks_on c n h.event) past)
      (elsewhere c n (after clock s f)) (λ t. asked-new c n clock f.event f.first s k.valid a t)
      (λ t.
      let less = elsewhere-after c n clock f.event f.first (front_header s.ring) (front_body s.ring) s k.valid a in
      let was = k.asked c n t in
      omega arith) e;
  begun = λ c r e. new-or-old (begins_as c r f.event) (list_any (λ h. begins_as c r h.event) past)
      (unlike c r (after clock s f)) (λ t. begun-new c r clock f.event f.first s k.valid a t) (λ t.
      let less = unlike-after c r clock f.event f.first (front_header s.ring) (front_body s.ring) s k.valid a in
      let was = k.begun c r t in
      omega arith) e;
}

-- a call that ends
pub record Ending (clock c : ℕ) (s : Lists) (e : Event) : Type 0 where
  pub session : ℕ
  pub client : Client
  pub call : Call
  pub place : Place s.clients session client call
  pub same : call.what.number ≡ c
  pub unqueued : (p : Progress) → call.progress ≡ Some p → NoneQueued (Ask session p.request) s.queued
  pub leaves : (bytes : List ℕ)
      → clients_after clock e bytes (front_header s.ring) (front_body s.ring) s.clients
      ≡ at_first (has_call c) (ends c) s.clients

same-request : (session : ℕ) (queued : List Queued) (r : Option Progress) (p t : Progress)
    → r ≡ Some p → r ≡ Some t → NoneQueued (Ask session t.request) queued
    → NoneQueued (Ask session p.request) queued
same-request session queued r p t e h none = let same : t ≡ p = cc in rw same at none

ending-of : (clock c : ℕ) (e : Event) (s : Lists) → Valid s → Windows s.clients s.queued
    → Allowed s e → ends_call c e ≡ true → Ending clock c s e
ending-of clock c (DoneOk i) s v w a e =
    let number : i ≡ c = eqb-true i c e in
    record {
      session = a.session;
      client = a.client;
      call = a.call;
      place = a.active.place;
      same = sym a.same ∙ number;
      unqueued = λ p h. same-request a.session s.queued a.call.progress p a.progress h
          a.active.active (ended-unqueued s v i a s.queued w);
      leaves = λ bytes. rw number refl;
    }
ending-of clock c (DoneTooSmall i size) s v w a e =
    let number : i ≡ c = eqb-true i c e in
    record {
      session = a.session;
      client = a.client;
      call = a.call;
      place = a.active.place;
      same = sym a.same ∙ number;
      unqueued = λ p h. same-request a.session s.queued a.call.progress p a.progress h
          a.active.active (ended-unqueued s v i a s.queued w);
      leaves = λ bytes. rw number refl;
    }
ending-of clock c (DonePeerLost i) s v w a e =
    let number : i ≡ c = eqb-true i c e in
    record {
      session = a.session;
      client = a.client;
      call = a.call;
      place = a.place;
      same = sym a.same ∙ number;
      unqueued = a.unqueued;
      leaves = λ bytes. rw number refl;
    }
ending-of clock c _ s v w a e = cc

-- an end leaves the request closed
active-one : (r : ℕ) (o : Option Progress) → has_request r o ≡ true → ◌≡◌ {A = ℕ} (cond (has_request r o) 1 0) 1
active-one r o e = rw e refl

closed : (clock c n r : ℕ) (s : Lists) (e : Event) (bytes : List ℕ) → Valid s
    → (a : Ending clock c s e) → a.session ≡ n → has_request r a.call.progress ≡ true
    → open_for n r s.clients ≤ 1
    → open_for n r (clients_after clock e bytes (front_header s.ring) (front_body s.ring) s.clients)
    ≤ 0
closed clock c n r s e bytes v a session active few =
    let own = by_number s a.session a.client a.call v a.place in
    let client : find (has_call c) s.clients ≡ Some a.client =
    subst (λ (i : ℕ). find (has_call i) s.clients ≡ Some a.client) a.same own.client in
    let call : find (is_call c) a.client.calls ≡ Some a.call =
    subst (λ (i : ℕ). find (is_call i) a.client.calls ≡ Some a.call) a.same own.call in
    let found : find (is_client n) s.clients ≡ Some a.client = rw session at a.place.client in
    let next : find (is_client n) (at_first (has_call c) (ends c) s.clients)
    ≡ Some (ends c a.client) =
    found-changed (has_call c) (ends c)
    (is_client n) a.client s.clients (find-passes (is_client n) s.clients a.client found)
    client found in
    let was : open_of r (Some a.client) ≤ 1 = rw found at few in
    let sums = sum-left (is_call c) (λ d. cond (is_active r d) 1 0) a.client.calls a.call call in
    let one = active-one r a.call.progress active in
    rw (a.leaves bytes, next) (omega arith)

some-progress : (r : ℕ) (o : Option Progress) → has_request r o ≡ true → (p : Progress) × (o ≡ Some p)
some-progress r None e = cc
some-progress r (Some p) e = (p, refl)

hands-back : (clock : ℕ) (past : List Fact) (s : Lists) (f : Fact) (g : List Fact) (t : Lists)
    → Knows past s → Allowed s f.event → Leads (after clock s f) g t → (c n r : ℕ)
    → ends_call c f.event ≡ true → BeganAs past c n r → HandsBack past g n r
hands-back clock past s f g t k a l c n r e h =
    let ending = ending-of clock c f.event s k.valid k.windows a e in
    let session : ending.session ≡ n =
    session-found c n s ending.session ending.client ending.call ending.place ending.same
    (k.asked c n h.asked) in
    let active : has_request r ending.call.progress ≡ true =
    like-found c r s ending.session ending.client ending.call ending.place ending.same
    (k.begun c r h.begun) in
    let some = some-progress r ending.call.progress active in
    let request : some.0.request ≡ r = own-request r ending.call.progress some.0 some.1 active in
    let none : NoneQueued (Ask n r) s.queued = rw (← session, ← request) (ending.unqueued some.0 some.1) in
    let over = closed clock c n r s f.event f.first k.valid ending session active (k.few n r) in
    let next = knows-after clock past s f k a in
    record {
      unqueued = none-stays (Ask n r) (queued_by past) s.queued
          (alike-no-more (queued_by past) s.queued k.queue) none;
      unposted = never-posted n r (after clock s f) g t next.valid next.eight over l;
    }

ends-clean : (past : List Fact) (s : Lists) (g : List Fact) (t : Lists) → Knows past s → Leads s g t
    → EndsClean past g
ends-clean past s [] t k l = tt
ends-clean past s (f ∷ g) t k l = (
  hands-back l.0 past s f g t k l.1 l.2,
  ends-clean (f ∷ past) (after l.0 s f) g t
      (knows-after l.0 past s f k l.1) l.2,
)

pub knows-new : (me life : ℕ) (limits : Limits) → Knows [] (new_lists me life limits)
knows-new me life limits = record {
  valid = valid_new me life limits;
  queue = λ test. refl;
  windows = tt;
  eight = tt;
  few = λ n r. omega arith;
  asked = λ c n e. cc;
  begun = λ c r e. cc;
}

pub ended : EndedCallsAreNotQueued
ended p me life limits g t r =
    ends-clean [] (new_lists me life limits) g t.lists (knows-new me life limits) (run_leads r)
