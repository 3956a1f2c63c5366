-- A number of a server session is still to come, or it is there, or it ended.
use Rattle.std.proofs.Common.{◌≡◌, ℕ, ◌+◌, ◌≤◌, Bool, true, false, cond, Option, Some, None, List}
use Rattle.std.proofs.Common.{[], ◌∷◌, ◌++◌, refl, arith}
use Rattle.std.specs.Prelude.{◌==◌, count_by, sum_by}
use Rattle.std.specs.List.{find, list_any}
use Rattle.std.proofs.lemmas.Bool.{eqb-true}
use Rattle.std.proofs.lemmas.Bool.Decides.{nat_tests}
use Rattle.std.proofs.lemmas.List.Sums.{sum_by_push, sum_by-cons}
use Rattle.packet_header.specs.declared.packet.MessageHeader.{MessageHeader}
use Rattle.rpc_base.specs.Tables.{at_first, without_first}
use Rattle.rpc_base.specs.declared.event.Event.{Event}
use Rattle.rpc_base.specs.declared.event.Event.TheVariants.{PairedServer, Accepted, Ended, Posted, Took, Given, Ran}
use Rattle.rpc_base.specs.declared.fact.Fact.{Fact}
use Rattle.rpc_base.specs.declared.owner.Owner.TheVariants.{Ask, Reply, Control}
use Rattle.rpc_laws.specs.declared.tables.Lists.{Lists}
use Rattle.rpc_laws.specs.declared.tables.Server.{Server}
use Rattle.rpc_laws.specs.Front.{front_header, front_body}
use Rattle.rpc_laws.specs.NodeLists.{after}
use Rattle.rpc_laws.specs.Requests.{is_server, is_request, server_end, took_packet, given, answered, request_of}
use Rattle.rpc_laws.specs.Requests.{servers_after, server_numbers_after}
use Rattle.node_laws.specs.EndedSessions.{ends_session, posts_for}
use Rattle.node_laws.proofs.Allowed.{Allowed, Stands, Leads}
use Rattle.rpc_base.proofs.FindLemmas.{none-found}
use Rattle.rpc_base.proofs.FirstLemmas.{sum-left}
use Rattle.node_laws.specs.Valid.{to_come}
use Rattle.rpc_base.proofs.TakingLemmas.{find-passes}

-- what a change leaves the same in each element it leaves so in all
same-by : {A : Type 0} (g : A → ℕ) (f : A → A) (x : A) (xs ys : List A) (b : Bool) → g (f x) ≡ g x
    → sum_by g ys ≡ sum_by g xs → sum_by g (cond b (f x ∷ xs) (x ∷ ys)) ≡ sum_by g (x ∷ xs)
same-by g f x xs ys true e ih = omega (arith, e, sum_by-cons g (f x) xs, sum_by-cons g x xs)
same-by g f x xs ys false e ih = omega (arith, ih, sum_by-cons g x ys, sum_by-cons g x xs)

sum-same : {A : Type 0} (g : A → ℕ) (p : A → Bool) (f : A → A) → ((x : A) → g (f x) ≡ g x)
    → (xs : List A) → sum_by g (at_first p f xs) ≡ sum_by g xs
sum-same g p f same [] = refl
sum-same g p f same (x ∷ xs) =
    same-by g f x xs (at_first p f xs) (p x) (same x) (sum-same g p f same xs)

module _ (t : ℕ) where
  abbrev one : Server → ℕ
  one v = cond (is_server t v) 1 0

  -- what is there of session t, or may come
  abbrev pub standing : Lists → ℕ
  standing s = count_by (is_server t) s.servers + to_come s.server_numbers t

  next-one : (used n c m : ℕ) → n ≡ used → m ≡ c + cond (n == t) 1 0
      → m + to_come (used + 1) t + 0 ≡ c + to_come used t
  next-one used n c m e k = grind (arith, nat_tests)

  made-ends : (n peer c credits life : ℕ) (s : Lists) → n ≡ s.server_numbers
      → count_by (is_server t) (s.servers ++ server_end n peer c credits life ∷ [])
      + to_come (s.server_numbers + 1) t + 0 ≡ standing s
  made-ends n peer c credits life s e =
      let push = sum_by_push one s.servers (server_end n peer c credits life) in
      next-one s.server_numbers n (count_by (is_server t) s.servers) _ e (omega arith)

  kept-ends : (p : Server → Bool) (f : Server → Server) → ((v : Server) → (f v).way ≡ v.way)
      → (s : Lists) → count_by (is_server t) (at_first p f s.servers) + to_come s.server_numbers t
      + 0 ≡ standing s
  kept-ends p f same s =
      let kept = sum-same one p f (λ v. rw (same v) refl) s.servers in omega arith

  left-ends : (n : ℕ) (s : Lists) (v : Server) → find (is_server n) s.servers ≡ Some v
      → count_by (is_server t) (without_first (is_server n) s.servers) + to_come s.server_numbers t
      + cond (n == t) 1 0 ≡ standing s
  left-ends n s v found =
      let left = sum-left (is_server n) one s.servers v found in
      let number : v.way.number ≡ n = eqb-true v.way.number n (find-passes (is_server n) s.servers v found) in
      let own : ◌≡◌ {A = ℕ} (one v) (cond (n == t) 1 0) = rw number refl in
      omega arith

  -- each fact, and whether it ends the session
  pub ends-after : (e : Event) (answer : List ℕ) (head : Option MessageHeader) (body : List ℕ)
      (s : Lists) → Allowed s e
      → count_by (is_server t) (servers_after e answer head body s.servers)
      + to_come (server_numbers_after e s.server_numbers) t + cond (ends_session t e) 1 0
      ≡ standing s
  ends-after (PairedServer n peer c credits life) answer head body s a = made-ends n peer c credits life s a.numbered
  ends-after (Accepted n peer c credits life) answer head body s a = made-ends n peer c credits life s a.numbered
  ends-after (Ended n) answer head body s a = left-ends n s a.server a.found
  ends-after (Took (Reply n r) k) answer head body s a =
      kept-ends (is_server n) (λ v. record v { slots = took_packet r head body v.slots }) (λ v. refl) s
  ends-after (Given n r) answer head body s a =
      kept-ends (is_server n) (λ v. record v { slots = at_first (is_request r) given v.slots }) (λ v. refl) s
  ends-after (Ran n r y) answer head body s a =
      kept-ends (is_server n) (λ v. record v {
        slots = at_first (is_request r)
            (answered answer) v.slots;
      }) (λ v. refl) s
  ends-after _ answer head body s a = omega arith

  -- a session that is neither there nor to come has no reply posted
  post-by : (n r : ℕ) (s : Lists) (b : Bool) → (n == t) ≡ b → standing s ≤ 0 → Stands s.servers n r → b ≡ false
  post-by n r s true e none a =
      let session : n ≡ t = eqb-true n t e in
      let gone : find (is_server t) s.servers ≡ None = none-found (is_server t) s.servers (omega arith) in
      let found : request_of t r s.servers ≡ Some a.served = rw session at a.found in
      let missing : request_of t r s.servers ≡ None = rw gone refl in
      cc
  post-by n r s false e none a = refl

  post-none : (e : Event) (s : Lists) → standing s ≤ 0 → Allowed s e → posts_for t e ≡ false
  post-none (Posted (Reply n r) k) s none a = post-by n r s (n == t) refl none a
  post-none (Posted (Ask n r) k) s none a = refl
  post-none (Posted Control k) s none a = refl
  post-none _ s none a = refl

  pub never-posted : (s : Lists) (g : List Fact) (u : Lists) → standing s ≤ 0 → Leads s g u
      → list_any (λ f. posts_for t f.event) g ≡ false
  never-posted s [] u none l = refl
  never-posted s (f ∷ g) u none l =
      let here = post-none f.event s none l.1 in
      let next = after l.0 s f in
      let same = ends-after f.event f.second (front_header s.ring) (front_body s.ring) s l.1 in
      let none_next : standing next ≤ 0 = omega arith in
      let rest = never-posted next g u none_next l.2 in
      rw here rest
