-- At the end of a run the table of requests says what the facts tell.
use Rattle.std.proofs.Common.{◌≡◌, ℕ, ◌+◌, ◌%◌, ◌≤◌, ◌<◌, Bool, true, false, not, ◌&&◌, ◌||◌, cond}
use Rattle.std.proofs.Common.{leb, Option, Some, None, List, [], ◌∷◌, refl, ap, ◌∙◌, ◌⊎◌, inl, inr}
use Rattle.std.proofs.Common.{arith}
use Rattle.std.specs.Prelude.{◌==◌, count_by, slice_get}
use Rattle.std.specs.List.{find, list_any}
use Rattle.std.proofs.lemmas.Bool.{and_parts, eqb-true, eq-eqb, lt-ltb, le-leb}
use Rattle.rpc_base.specs.declared.event.Event.{Event}
use Rattle.rpc_base.specs.declared.event.Event.TheVariants.{Took}
use Rattle.rpc_base.specs.declared.fact.Fact.{Fact}
use Rattle.rpc_base.specs.declared.limits.Limits.{Limits}
use Rattle.rpc_base.specs.declared.owner.Owner.TheVariants.{Reply}
use Rattle.rpc_laws.specs.declared.tables.Arrival.{Arrival}
use Rattle.rpc_laws.specs.declared.tables.Lists.{Lists}
use Rattle.rpc_laws.specs.declared.tables.Served.{Served}
use Rattle.rpc_laws.specs.declared.tables.Server.{Server}
use Rattle.rpc_laws.specs.Front.{front_header, front_body}
use Rattle.rpc_laws.specs.NodeLists.{after, new_lists}
use Rattle.rpc_laws.specs.Queues.{ring_after}
use Rattle.rpc_laws.specs.Requests.{is_server, is_request, request_of}
use Rattle.node_laws.specs.CallHistory.{latest_first}
use Rattle.node_laws.specs.EndedSessions.{ends_session}
use Rattle.node_laws.specs.Laws.{RequestsTellTheHistory}
use Rattle.node_laws.specs.OlderRequests.{takes_request}
use Rattle.node_laws.specs.RequestHistory.{takes_newer, ring_by, TellsRequest, is_listed, TellsRequests}
use Rattle.node_laws.proofs.Allowed.{Allowed, Leads}
use Rattle.node_laws.proofs.EndsLemmas.{standing, ends-after}
use Rattle.rpc_base.proofs.FindLemmas.{at-found, missing-none}
use Rattle.node_laws.proofs.LeftLemmas.{falls-always}
use Rattle.node_laws.proofs.LookLemmas.{request_on}
use Rattle.node_laws.proofs.NewestLemmas.{stands-slot, own-left, Newest, IsOver, newest-of}
use Rattle.node_laws.proofs.RequestLaws.{started-after, newer-after, told-after}
use Rattle.node_laws.proofs.RequestLemmas.{concerns, takes-concerns, ToldRequest, Told}
use Rattle.node_laws.proofs.RunLaws.{run_leads}
use Rattle.node_laws.proofs.ServantLemmas.{left-after}
use Rattle.node_laws.proofs.ServerLemmas.{few-requests}
use Rattle.rpc_base.proofs.FirstLemmas.{any-counted, none-counted, found-any, found-holds, some-counted}
use Rattle.node_laws.proofs.TellLemmas.{count-new}
use Rattle.node_laws.specs.Valid.{SoundServer, left_of, left, to_come, Valid}
use Rattle.node_laws.proofs.ValidLemmas.{valid_after, valid_new}
use Rattle.rpc_base.proofs.TakingLemmas.{find-passes}

-- what is told at a moment
record Tells (past : List Fact) (s : Lists) : Type 0 where
  valid : Valid s
  ring : ring_by past ≡ s.ring
  started : (t r : ℕ) → list_any (λ f. concerns t r f.event) past ≡ true
      → left (λ q. false) t r s.server_numbers s.servers ≤ 0
  newer : (t r : ℕ) → list_any (λ f. takes_newer t r f.event) past ≡ true
      → left (λ q. true) t r s.server_numbers s.servers ≤ 0
  told : (t r : ℕ) → Told t r past (request_of t r s.servers)
  ended : (t : ℕ) → standing t s + count_by (λ f. ends_session t f.event) past ≡ 1

new-or-old : (b c : Bool) (n : ℕ) → (b ≡ true → n ≤ 0) → (c ≡ true → n ≤ 0) → (b || c) ≡ true → n ≤ 0
new-or-old true c n h k e = h refl
new-or-old false c n h k e = k e

none-yet : (b : Bool) (n : ℕ) → (b ≡ true → n ≤ 0) → 1 ≤ n → b ≡ false
none-yet true n h some = let none = h refl in absurd (omega arith)
none-yet false n h some = refl

tells-after : (clock : ℕ) (past : List Fact) (s : Lists) (f : Fact) → Tells past s
    → Allowed s f.event → Tells (f ∷ past) (after clock s f)
tells-after clock past s f k a = record {
  valid = valid_after clock s f k.valid a;
  ring = ap (λ (d : List Arrival). ring_after f.event f.first d) k.ring;
  started = λ t r e. new-or-old (concerns t r f.event) (list_any (λ g. concerns t r g.event) past)
      (left (λ q. false) t r (after clock s f).server_numbers (after clock s f).servers)
      (λ h. started-after t r f.event f.second (front_body s.ring) s k.valid a h) (λ h.
      let less = left-after (λ q. false) (falls-always false) t r f.event f.second
      (front_header s.ring) (front_body s.ring) s k.valid a in
      let was = k.started t r h in
      omega arith) e;
  newer = λ t r e. new-or-old (takes_newer t r f.event)
      (list_any (λ g. takes_newer t r g.event) past)
      (left (λ q. true) t r (after clock s f).server_numbers (after clock s f).servers)
      (λ h. newer-after t r f.event f.second (front_body s.ring) s k.valid a h) (λ h.
      let less = left-after (λ q. true) (falls-always true) t r f.event f.second
      (front_header s.ring) (front_body s.ring) s k.valid a in
      let was = k.newer t r h in
      omega arith) e;
  told = λ t r. told-after f.who f.first f.second past s k.valid k.ring t r
      (none-yet (list_any (λ g. concerns t r g.event) past)
      (left (λ q. false) t r s.server_numbers s.servers) (k.started t r)) f.event a (k.told t r);
  ended = λ t.
      let was = k.ended t in
      let now = ends-after t f.event f.second (front_header s.ring) (front_body s.ring) s a in
      let ends = count-new (ends_session t) f past (ends_session t f.event) refl in
      omega arith;
}

come-one : (t : ℕ) → to_come 0 t ≡ 1
come-one t = by (leb 0 t) (le-leb 0 t (omega arith))
  where
    by : (b : Bool) → b ≡ true → ◌≡◌ {A = ℕ} (cond b 1 0) 1
    by true e = refl
    by false e = cc

tells-new : (me life : ℕ) (limits : Limits) → Tells [] (new_lists me life limits)
tells-new me life limits = record {
  valid = valid_new me life limits;
  ring = refl;
  started = λ t r e. cc;
  newer = λ t r e. cc;
  told = λ t r. tt;
  ended = λ t. let one = come-one t in omega arith;
}

-- a packet of a request is one of a greater number for each smaller one of its slot
newer-by : (t r n : ℕ) → r < n → n % 8 ≡ r % 8 → (e : Event) → takes_request t n e ≡ true → takes_newer t r e ≡ true
newer-by t r n less slot (Took (Reply session request) k) e =
    let parts = and_parts (session == t) (request == n) e in
    let number : request ≡ n = eqb-true request n parts.1 in
    rw (parts.0, number, eq-eqb (n % 8) (r % 8) slot, lt-ltb r n less) refl
newer-by t r n less slot _ e = cc

some-rest : (b c : Bool) → c ≡ true → (b || c) ≡ true
some-rest true c h = refl
some-rest false c h = h

some-by : (b c d e : Bool) → (b ≡ true → d ≡ true) → (c ≡ true → e ≡ true) → (b || c) ≡ true → (d || e) ≡ true
some-by true c d e h k t = rw (h refl) refl
some-by false c d e h k t = some-rest d e (k t)

some-of : (p q : Event → Bool) → ((e : Event) → p e ≡ true → q e ≡ true) → (past : List Fact)
    → list_any (λ f. p f.event) past ≡ true → list_any (λ f. q f.event) past ≡ true
some-of p q implies [] e = cc
some-of p q implies (f ∷ past) e =
    some-by (p f.event) (list_any (λ g. p g.event) past) (q f.event)
    (list_any (λ g. q g.event) past) (implies f.event) (some-of p q implies past) e

-- whether a request is listed goes by what is found of it
here-listed : (r : ℕ) (v : Option Server) (q : Served) → request_on r v ≡ Some q → is_listed r v ≡ true
here-listed r None q e = cc
here-listed r (Some v) q e = found-any (is_request r) v.slots q e

none-listed : (r : ℕ) (v : Option Server) → request_on r v ≡ None → is_listed r v ≡ false
none-listed r None e = refl
none-listed r (Some v) e = missing-none (is_request r) v.slots e

none-any : (b : Bool) (n : ℕ) → cond b 1 0 ≤ n → n ≤ 0 → b ≡ false
none-any true n h few = absurd (omega arith)
none-any false n h few = refl

some-any : (b : Bool) (n : ℕ) → (b ≡ false → n ≡ 0) → 1 ≤ n → b ≡ true
some-any true n h some = refl
some-any false n h some = let none = h refl in absurd (omega arith)

module _ (past : List Fact) (s : Lists) (k : Tells past s) where
  told-at : (t r : ℕ) (q : Served) → request_of t r s.servers ≡ Some q → ToldRequest t r past q
  told-at t r q e = rw e at (k.told t r)

  -- a request that stands has no newer one in its slot
  none-newer : (t r : ℕ) (q : Served) → request_of t r s.servers ≡ Some q → (b : Bool)
      → list_any (λ f. takes_newer t r f.event) past ≡ b → b ≡ false
  none-newer t r q e true h =
      let none = k.newer t r h in
      let own = stands-slot (λ p. true) t r r refl s.server_numbers s.servers k.valid.served q e in
      let zero : left_of (λ p. true) r (Some q) ≤ 0 = rw own.0 at none in
      absurd (own-left r q.number own.1 zero)
  none-newer t r q e false h = refl

  -- where one stands, its session didn't end
  not-ended : (t r : ℕ) (q : Served) → request_of t r s.servers ≡ Some q
      → list_any (λ f. ends_session t f.event) past ≡ false
  not-ended t r q e = by (find (is_server t) s.servers) refl e
    where
      by : (o : Option Server) → find (is_server t) s.servers ≡ o → request_on r o ≡ Some q
          → list_any (λ f. ends_session t f.event) past ≡ false
      by None found e = cc
      by (Some v) found e =
          let some = some-counted (is_server t)
          (is_server t) s.servers v found (find-passes (is_server t) s.servers v found) in
          let all = k.ended t in
          none-any (list_any (λ f. ends_session t f.event) past)
          (count_by (λ f. ends_session t f.event) past)
          (any-counted (λ f. ends_session t f.event) past) (omega arith)

  -- a session that was there and is there no more ended
  has-ended : (t : ℕ) → IsOver t s.server_numbers s.servers → list_any (λ f. ends_session t f.event) past ≡ true
  has-ended t over =
      let none = none-counted (is_server t) s.servers (missing-none (is_server t) s.servers over.none) in
      let used = over.past in
      let all = k.ended t in
      some-any (list_any (λ f. ends_session t f.event) past)
      (count_by (λ f. ends_session t f.event) past)
      (none-counted (λ f. ends_session t f.event) past) (omega arith)

  -- one that doesn't stand, and of which a packet was taken, has one, or its session ended
  some-newer : (t r : ℕ) → request_of t r s.servers ≡ None
      → list_any (λ f. takes_request t r f.event) past ≡ true
      → (list_any (λ f. takes_newer t r f.event) past ≡ true)
      ⊎ (list_any (λ f. ends_session t f.event) past ≡ true)
  some-newer t r none e =
      let started = k.started t r (some-of (takes_request t r) (concerns t r) (takes-concerns t r) past e) in
      by (newest-of t r s.server_numbers s.servers k.valid.served started)
    where
      differs : (n : ℕ) (q : Served) → request_of t n s.servers ≡ Some q → n ≡ r → ⊥
      differs n q found same = let own : request_of t r s.servers ≡ Some q = rw same at found in cc

      by : Newest t r s.servers ⊎ IsOver t s.server_numbers s.servers
          → (list_any (λ f. takes_newer t r f.event) past ≡ true)
          ⊎ (list_any (λ f. ends_session t f.event) past ≡ true)
      by (inl newest) =
          let told = told-at t newest.newest.number newest.newest newest.found in
          let apart = differs newest.newest.number newest.newest newest.found in
          let least = newest.least in
          inl (some-of (takes_request t newest.newest.number) (takes_newer t r)
          (newer-by t r newest.newest.number (omega arith) newest.slot) past told.took)
      by (inr over) = inr (has-ended t over)

  either-gone : (b c : Bool) → (b ≡ true) ⊎ (c ≡ true) → false ≡ (not b && not c)
  either-gone true c h = refl
  either-gone false true h = refl
  either-gone false false (inl e) = cc
  either-gone false false (inr e) = cc

  gone-by : (t r : ℕ) (b : Bool) → request_of t r s.servers ≡ None
      → list_any (λ f. takes_request t r f.event) past ≡ b
      → false ≡ (b && (not (list_any (λ f. takes_newer t r f.event) past)
      && not (list_any (λ f. ends_session t f.event) past)))
  gone-by t r true none e =
      either-gone (list_any (λ f. takes_newer t r f.event) past)
      (list_any (λ f. ends_session t f.event) past) (some-newer t r none e)
  gone-by t r false none e = refl

  listed-by : (t r : ℕ) (o : Option Served) → request_of t r s.servers ≡ o
      → is_listed r (find (is_server t) s.servers)
      ≡ (list_any (λ f. takes_request t r f.event) past
      && (not (list_any (λ f. takes_newer t r f.event) past)
      && not (list_any (λ f. ends_session t f.event) past)))
  listed-by t r None e =
      none-listed r (find (is_server t) s.servers) e
      ∙ gone-by t r (list_any (λ f. takes_request t r f.event) past) e refl
  listed-by t r (Some q) e =
      let took = (told-at t r q e).took in
      let none = none-newer t r q e (list_any (λ f. takes_newer t r f.event) past) refl in
      let stays = not-ended t r q e in
      here-listed r (find (is_server t) s.servers) q e ∙ rw (took, none, stays) refl

  is-listed : (t r : ℕ)
      → is_listed r (find (is_server t) s.servers)
      ≡ (list_any (λ f. takes_request t r f.event) past
      && (not (list_any (λ f. takes_newer t r f.event) past)
      && not (list_any (λ f. ends_session t f.event) past)))
  is-listed t r = listed-by t r (request_of t r s.servers) refl

  tells-request : (t i : ℕ) (v : Server) (q : Served) → find (is_server t) s.servers ≡ Some v
      → slice_get v.slots i ≡ Some q → TellsRequest past t q
  tells-request t i v q found served =
      let n = q.number in
      let apart = (found-holds (is_server t) SoundServer s.servers v k.valid.served found).apart in
      let own : find (is_request n) v.slots ≡ Some q =
      at-found (is_request n) v.slots i q (few-requests n v.slots (apart (n % 8))) served
      (eq-eqb n n refl) in
      let told = told-at t n q (ap (λ o. request_on n o) found ∙ own) in
      record {
        first = told.first;
        is_first = told.is_first;
        req_type = told.req_type;
        size = told.size;
        taken = told.taken;
        working = told.working;
        answer = told.answer;
        ask = told.ask;
      }

  tells-requests : TellsRequests past s
  tells-requests = record { listed = is-listed; requests = tells-request }

at-end : (past : List Fact) (s : Lists) (g : List Fact) (u : Lists) → Tells past s → Leads s g u
    → TellsRequests (latest_first past g) u
at-end past s [] u k l = rw l (tells-requests past s k)
at-end past s (f ∷ g) u k l = at-end (f ∷ past) (after l.0 s f) g u (tells-after l.0 past s f k l.1) l.2

pub requests_tell : RequestsTellTheHistory
requests_tell p me life limits g t r =
    at-end [] (new_lists me life limits) g t.lists (tells-new me life limits) (run_leads r)
