-- A worker has the request of each job that is out, where it is the newest of its slot.
use Rattle.std.proofs.Common.{◌≡◌, ℕ, ◌+◌, ◌%◌, ◌≤◌, Bool, true, false, not, ◌&&◌, cond, ltb, leb}
use Rattle.std.proofs.Common.{Option, Some, None, List, refl, sym, ap, subst, ◌∙◌, inl, inr, arith}
use Rattle.std.specs.Prelude.{◌⊎◌, ◌==◌, is_none, option_and_then}
use Rattle.std.specs.List.{find}
use Rattle.std.proofs.lemmas.Bool.{and_parts, eqb-true, eq-eqb, ltb-false}
use Rattle.std.proofs.lemmas.Bool.Decides.{nat_tests}
use Rattle.packet_header.specs.declared.packet.MessageHeader.{MessageHeader}
use Rattle.rpc_base.specs.Tables.{at_first, without_first}
use Rattle.rpc_base.specs.declared.event.Event.{Event}
use Rattle.rpc_base.specs.declared.event.Event.TheVariants.{Given, Ran}
use Rattle.rpc_base.specs.declared.fact.Fact.{Fact}
use Rattle.rpc_base.proofs.FindLemmas.{changed-le, unchanged-found}
use Rattle.rpc_base.proofs.FirstLemmas.{found-changed, found-holds, sum-fewer}
use Rattle.rpc_base.proofs.TakingLemmas.{find-passes}
use Rattle.rpc_laws.specs.declared.tables.Lists.{Lists}
use Rattle.rpc_laws.specs.declared.tables.Served.{Served}
use Rattle.rpc_laws.specs.declared.tables.Server.{Server}
use Rattle.rpc_laws.specs.Front.{front_header, front_body}
use Rattle.rpc_laws.specs.Jobs.{is_job, jobs_after}
use Rattle.rpc_laws.specs.NodeLists.{after}
use Rattle.rpc_laws.specs.Requests.{is_server, is_request, in_slot_of, given, answered, request_of}
use Rattle.rpc_laws.specs.Requests.{servers_after, server_numbers_after}
use Rattle.node_laws.specs.Valid.{is_due, jobs_of, lacks_worker, left, left_of, left_on, to_come}
use Rattle.node_laws.specs.Valid.{to_work, SoundServer, Valid}
use Rattle.node_laws.proofs.Allowed.{Allowed, MayGive, MayFinish}
use Rattle.node_laws.proofs.JobLemmas.{given-counted, out-of-jobs}
use Rattle.node_laws.proofs.LeftLemmas.{left-le, own-slot}
use Rattle.node_laws.proofs.LookLemmas.{changes, off-number}
use Rattle.node_laws.proofs.ServantLemmas.{left-else}
use Rattle.node_laws.proofs.ServerLemmas.{request-slot}

abbrev lacking : (t r used : ℕ) → List Server → ℕ
lacking t r used servers = left lacks_worker t r used servers

most-on : (r m : ℕ) (o : Option Server) → m ≤ 1 → left_on lacks_worker r m o ≤ 1
most-on r m None few = few
most-on r m (Some v) few = left-le lacks_worker (λ body q. refl) r (find (in_slot_of r) v.slots)

one-cond : (b : Bool) → cond b 1 0 ≤ 1
one-cond true = omega arith
one-cond false = omega arith

most-lacking : (t r used : ℕ) (servers : List Server) → lacking t r used servers ≤ 1
most-lacking t r used servers =
    most-on r (to_come used t) (find (is_server t) servers) (one-cond (leb used t))

-- what is left of another number doesn't depend on the test
by-numbers : (r n : ℕ) (b c : Bool) → (n == r) ≡ false
    → cond (ltb r n) 0 (cond (ltb n r) 1 (cond b 1 0))
    ≤ cond (ltb r n) 0 (cond (ltb n r) 1 (cond c 1 0))
by-numbers r n b c off = by (ltb r n) (ltb n r) refl refl
  where
    by : (x y : Bool) → ltb r n ≡ x → ltb n r ≡ y
        → cond x 0 (cond y 1 (cond b 1 0)) ≤ cond x 0 (cond y 1 (cond c 1 0))
    by true y g h = omega arith
    by false true g h = omega arith
    by false false g h =
        let same : n ≡ r = omega (arith, ltb-false r n g, ltb-false n r h) in
        let clash : (n == r) ≡ true = eq-eqb n r same in
        cc

-- and of its own number it is what the test tells
own-by : (r n : ℕ) (b : Bool) → n ≡ r
    → ◌≡◌ {A = ℕ} (cond (ltb r n) 0 (cond (ltb n r) 1 (cond b 1 0))) (cond b 1 0)
own-by r n true e = grind (arith, nat_tests)
own-by r n false e = grind (arith, nat_tests)

yes-one : (b : Bool) → b ≡ true → ◌≡◌ {A = ℕ} (cond b 1 0) 1
yes-one true e = refl
yes-one false e = cc

no-none : (b : Bool) → ◌≤◌ (cond b 1 0) 0 → b ≡ false
no-none true h = absurd (omega (arith, h))
no-none false h = refl

-- a request changes, and keeps its number
module _ (f : Served → Served) (numbers : (q : Served) → (f q).number ≡ q.number) where
  slot-kept : (r : ℕ) (q : Served) → in_slot_of r (f q) ≡ in_slot_of r q
  slot-kept r q = ap (λ n. n % 8 == r % 8) (numbers q)

  other-of : (r k : ℕ) (q : Served) → q.number ≡ k → (k == r) ≡ false
      → left_of lacks_worker r (Some (f q)) ≤ left_of lacks_worker r (Some q)
  other-of r k q e off = at (f q).number (numbers q)
    where
      at : (n : ℕ) → n ≡ q.number
          → cond (ltb r n) 0 (cond (ltb n r) 1 (cond (lacks_worker (f q)) 1 0))
          ≤ left_of lacks_worker r (Some q)
      at n same =
          rw same (by-numbers r q.number (lacks_worker (f q)) (lacks_worker q)
          (subst (λ (m : ℕ). (m == r) ≡ false) (sym e) off))

  -- no other has more left
  changed-other : (t r n k used : ℕ) (servers : List Server) → (n == t && k == r) ≡ false
      → lacking t r used (at_first (is_server n) (changes k f) servers)
      ≤ lacking t r used servers
  changed-other t r n k used servers off = by (n == t) refl
    where
      by : (b : Bool) → (n == t) ≡ b
          → lacking t r used (at_first (is_server n) (changes k f) servers)
          ≤ lacking t r used servers
      by false e =
          rw (unchanged-found (is_server n) (is_server t) (changes k f) (λ v. refl)
          (λ v h. off-number v.way.number n t e h) servers) (omega arith)
      by true e =
          let other : (k == r) ≡ false = subst (λ (b : Bool). (b && k == r) ≡ false) e off in
          changed-le (left_on lacks_worker r (to_come used t)) (is_server n) (changes k f)
          (is_server t) (λ v. refl) servers (λ v _.
          changed-le (left_of lacks_worker r) (is_request k) f (in_slot_of r) (slot-kept r) v.slots
          (λ q h. other-of r k q (eqb-true q.number k (find-passes (is_request k) v.slots q h))
          other))

  -- one more at most is left of its own number
  changed-own : (t r n k used : ℕ) (servers : List Server)
      → lacking t r used (at_first (is_server n) (changes k f) servers)
      ≤ lacking t r used servers + cond (n == t && k == r) 1 0
  changed-own t r n k used servers = by (n == t && k == r) refl
    where
      by : (b : Bool) → (n == t && k == r) ≡ b
          → lacking t r used (at_first (is_server n) (changes k f) servers)
          ≤ lacking t r used servers + cond b 1 0
      by true e =
          omega (arith, most-lacking t r used (at_first (is_server n) (changes k f) servers))
      by false e = omega (arith, changed-other t r n k used servers e)

lacks-due : (q : Served) → is_due q ≡ true → lacks_worker q ≡ true
lacks-due q due = (and_parts (is_none q.answer) (not q.working) due).1

module _ (t r : ℕ) (s : Lists) (valid : Valid s) where
  -- a request that is due
  module _ (a : MayGive s t r) where
    sound : SoundServer a.server
    sound = found-holds (is_server t) SoundServer s.servers a.server valid.served a.found

    own : is_request r a.served ≡ true
    own = find-passes (is_request r) a.server.slots a.served a.is_served

    number : a.served.number ≡ r
    number = eqb-true a.served.number r own

    before : find (in_slot_of r) a.server.slots ≡ Some a.served
    before = own-slot r a.server a.served sound a.is_served

    due-left : lacking t r s.server_numbers s.servers ≡ 1
    due-left =
        rw (a.found, before) (own-by r a.served.number (lacks_worker a.served) number
        ∙ yes-one (lacks_worker a.served) (lacks-due a.served a.due))

    given-none : lacking t r s.server_numbers (at_first (is_server t) (changes r given) s.servers) ≡ 0
    given-none =
        let after : find (is_server t) (at_first (is_server t) (changes r given) s.servers)
        ≡ Some (changes r given a.server) =
        found-changed (is_server t) (changes r given) (is_server t) a.server s.servers
        (find-passes (is_server t) s.servers a.server a.found) a.found a.found in
        let slot : find (in_slot_of r) (at_first (is_request r) given a.server.slots)
        ≡ Some (given a.served) =
        found-changed (is_request r) given (in_slot_of r) a.served a.server.slots
        (request-slot r a.served own) a.is_served before in
        rw (after, slot) (own-by r a.served.number false number)

  -- a worker takes it
  given-less : (n k : ℕ) → MayGive s n k
      → cond (n == t && k == r) 1 0
      + lacking t r s.server_numbers (at_first (is_server n) (changes k given) s.servers)
      ≤ lacking t r s.server_numbers s.servers
  given-less n k a = by (n == t && k == r) refl
    where
      by : (b : Bool) → (n == t && k == r) ≡ b
          → cond b 1 0
          + lacking t r s.server_numbers (at_first (is_server n) (changes k given) s.servers)
          ≤ lacking t r s.server_numbers s.servers
      by true e =
          let parts = and_parts (n == t) (k == r) e in
          let session : n ≡ t = eqb-true n t parts.0 in
          let request : k ≡ r = eqb-true k r parts.1 in
          let mine : MayGive s t r = rw (← session, ← request) a in
          rw (session, request) (omega (arith, due-left mine, given-none mine))
      by false e = omega (arith, changed-other given (λ q. refl) t r n k s.server_numbers s.servers e)

  -- its handler runs
  ran-less : (bytes : List ℕ) (n k : ℕ) → MayGive s n k
      → lacking t r s.server_numbers (at_first (is_server n) (changes k (answered bytes)) s.servers)
      ≤ lacking t r s.server_numbers s.servers
  ran-less bytes n k a = by (n == t && k == r) refl
    where
      by : (b : Bool) → (n == t && k == r) ≡ b
          → lacking t r s.server_numbers (at_first (is_server n) (changes k (answered bytes)) s.servers)
          ≤ lacking t r s.server_numbers s.servers
      by true e =
          let parts = and_parts (n == t) (k == r) e in
          let session : n ≡ t = eqb-true n t parts.0 in
          let request : k ≡ r = eqb-true k r parts.1 in
          let mine : MayGive s t r = rw (← session, ← request) a in
          omega (
            arith,
            due-left mine,
            most-lacking t r s.server_numbers (at_first (is_server n) (changes k (answered bytes))
                s.servers),
          )
      by false e = changed-other (answered bytes) (λ q. refl) t r n k s.server_numbers s.servers e

  module _ (answer : List ℕ) (head : Option MessageHeader) (body : List ℕ) where
    work-ran : (n k y : ℕ) → MayGive s n k ⊎ MayFinish s n k
        → lacking t r s.server_numbers (servers_after (Ran n k y) answer head body s.servers)
        + jobs_of t r (without_first (is_job n k) s.jobs.out) ≤ to_work t r s
    work-ran n k y (inl a) =
        omega (
          arith,
          ran-less answer n k a,
          sum-fewer (is_job n k) (λ job. cond {A = ℕ} (is_job t r job) 1 0) s.jobs.out,
        )
    work-ran n k y (inr a) =
        omega (
          arith,
          changed-own (answered answer) (λ q. refl) t r n k s.server_numbers s.servers,
          out-of-jobs t r s valid n k a,
        )

    work-by : (e : Event) → Allowed s e
        → lacking t r (server_numbers_after e s.server_numbers)
        (servers_after e answer head body s.servers)
        + jobs_of t r (jobs_after e s.servers s.jobs).out ≤ to_work t r s
    work-by (Given n k) a = omega (arith, given-less n k a, given-counted t r n k s a)
    work-by (Ran n k y) a = work-ran n k y a
    work-by e a =
        let less = left-else lacks_worker (λ body q. refl) t r e answer head body s valid tt a in
        omega arith

  pub work-stays : (clock : ℕ) (f : Fact) → Allowed s f.event → to_work t r (after clock s f) ≤ to_work t r s
  work-stays clock f a = work-by f.second (front_header s.ring) (front_body s.ring) f.event a

  -- a worker has the request of a job
  pub has-worker : (v : Server) (q : Served) → find (is_server t) s.servers ≡ Some v
      → find (is_request r) v.slots ≡ Some q → 1 ≤ jobs_of t r s.jobs.out → q.working ≡ true
  has-worker v q server request some =
      let good : SoundServer v = found-holds (is_server t) SoundServer s.servers v valid.served server in
      let slot : find (in_slot_of r) v.slots ≡ Some q = own-slot r v q good request in
      let same : q.number ≡ r = eqb-true q.number r (find-passes (is_request r) v.slots q request) in
      let own : lacking t r s.server_numbers s.servers ≡ cond {A = ℕ} (lacks_worker q) 1 0 =
      rw (server, slot) (own-by r q.number (lacks_worker q) same) in
      at-work q.working (no-none (lacks_worker q) (omega (arith, own, valid.works t r, some)))
    where
      at-work : (b : Bool) → not b ≡ false → b ≡ true
      at-work true e = refl
      at-work false e = cc

  pub job-has-worker : (q : Served) → request_of t r s.servers ≡ Some q
      → 1 ≤ jobs_of t r s.jobs.out → q.working ≡ true
  job-has-worker q found some = by (find (is_server t) s.servers) refl found
    where
      by : (o : Option Server) → find (is_server t) s.servers ≡ o
          → option_and_then (λ v. find (is_request r) v.slots) o ≡ Some q → q.working ≡ true
      by None e h = cc
      by (Some v) e h = has-worker v q e h some
