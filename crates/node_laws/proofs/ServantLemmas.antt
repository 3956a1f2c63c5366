-- No fact leaves more of what may still come of a request, and each run or giving of one takes one.
use Rattle.std.proofs.Common.{◌≡◌, ℕ, ◌+◌, ◌≤◌, ◌⊎◌, Bool, true, false, ◌&&◌, cond, Option, Some}
use Rattle.std.proofs.Common.{None, List, [], ◌∷◌, ◌++◌, refl, inl, inr, arith}
use Rattle.std.specs.Prelude.{◌==◌, count_by}
use Rattle.std.specs.List.{find}
use Rattle.std.proofs.lemmas.Bool.{and_parts, eqb-true}
use Rattle.std.proofs.lemmas.Bool.Decides.{nat_tests}
use Rattle.std.proofs.lemmas.List.Sums.{sum_by-cons}
use Rattle.packet_header.specs.declared.packet.MessageHeader.{MessageHeader}
use Rattle.rpc_base.specs.Tables.{at_first, without_first}
use Rattle.rpc_base.specs.declared.event.Event.{Event}
use Rattle.rpc_base.specs.declared.event.Event.TheVariants.{PairedServer, Accepted, Ended, Took, Given, Ran}
use Rattle.rpc_base.specs.declared.owner.Owner.TheVariants.{Reply}
use Rattle.rpc_laws.specs.declared.tables.Lists.{Lists}
use Rattle.rpc_laws.specs.declared.tables.Served.{Served}
use Rattle.rpc_laws.specs.declared.tables.Server.{Server}
use Rattle.rpc_laws.specs.Requests.{is_server, is_request, server_end, next_packet, took_packet, given}
use Rattle.rpc_laws.specs.Requests.{answered, servers_after, server_numbers_after}
use Rattle.node_laws.proofs.Allowed.{Allowed, MayServe, MayGive}
use Rattle.rpc_base.proofs.FindLemmas.{changed-le, none-found}
use Rattle.node_laws.proofs.LeftLemmas.{Falls, falls-due, took-left, changed-left, own-left}
use Rattle.rpc_base.proofs.FirstLemmas.{found-holds, found-changed}
use Rattle.node_laws.specs.Valid.{is_due, SoundServer, left_in, left_on, left, to_come, to_give, Valid}
use Rattle.rpc_base.proofs.TakingLemmas.{find-passes}

-- facts by which nothing is given to a worker, and no handler runs
abbrev pub IsElse : Event → Type 0
IsElse (Given t r) = ⊥
IsElse (Ran t r y) = ⊥
IsElse _ = Unit {0}

module _ (test : Served → Bool)
    (next : (body : List ℕ) (q : Served) → test (next_packet body q) ≡ test q) where
  made-by : (r m k : ℕ) (b : Bool) (v : Server) (o p : Option Server)
      → left_on test r k p ≤ left_on test r m o
      → left_on test r k (cond b (Some v) p) ≤ left_on test r m (cond b (Some v) o)
  made-by r m k true v o p h = omega arith
  made-by r m k false v o p h = h

  -- the next number has one request to come, and no other has more
  new-by : (r t used : ℕ) (b : Bool) (v : Server) → (used == t) ≡ b
      → left_on test r (to_come (used + 1) t) (Some v) ≤ 1
      → left_on test r (to_come (used + 1) t) (cond b (Some v) None) ≤ to_come used t
  new-by r t used true v e h = let same = eqb-true used t e in grind (arith, nat_tests)
  new-by r t used false v e h = grind (arith, nat_tests)

  made-le : (t r : ℕ) (n peer s credits life : ℕ) (xs : List Server)
      → left test t r (n + 1) (xs ++ server_end n peer s credits life ∷ []) ≤ left test t r n xs
  made-le t r n peer s credits life [] = new-by r t n (n == t) (server_end n peer s credits life) refl (omega arith)
  made-le t r n peer s credits life (v ∷ xs) =
      made-by r (to_come n t) (to_come (n + 1) t) (is_server t v) v (find (is_server t) xs)
      (find (is_server t) (xs ++ server_end n peer s credits life ∷ []))
      (made-le t r n peer s credits life xs)

  -- a session that ended has no request to come
  over-by : (r m : ℕ) (o p : Option Server) → (p ≡ o) ⊎ ((p ≡ None) × (m ≤ 0))
      → left_on test r m p ≤ left_on test r m o
  over-by r m o p (inl same) = rw same (omega arith)
  over-by r m o p (inr gone) = let none = gone.1 in rw gone.0 (omega arith)

  abbrev pub Left : (t n used : ℕ) → List Server → Type 0
  Left t n used xs =
      (find (is_server t) (without_first (is_server n) xs) ≡ find (is_server t) xs)
      ⊎ ((find (is_server t) (without_first (is_server n) xs) ≡ None) × (to_come used t ≤ 0))

  ended-at : (t n used : ℕ) (v : Server) (xs : List Server) (b c : Bool) → is_server n v ≡ b
      → is_server t v ≡ c → cond c 1 0 + count_by (is_server t) xs + to_come used t ≤ 1
      → Left t n used xs → (find (is_server t) (cond b xs (v ∷ without_first (is_server n) xs))
      ≡ cond c (Some v) (find (is_server t) xs))
      ⊎ ((find (is_server t) (cond b xs (v ∷ without_first (is_server n) xs)) ≡ None)
      × (to_come used t ≤ 0))
  ended-at t n used v xs true true e h few rest =
      inr (none-found (is_server t) xs (omega arith), omega arith)
  ended-at t n used v xs true false e h few rest = inl refl
  ended-at t n used v xs false true e h few rest = inl (rw h refl)
  ended-at t n used v xs false false e h few rest = rw h rest

  fewer-by : (c : Bool) (m k : ℕ) → cond c 1 0 + m + k ≤ 1 → m + k ≤ 1
  fewer-by c m k h = omega arith

  pub ended-by : (t n used : ℕ) (xs : List Server) → count_by (is_server t) xs + to_come used t ≤ 1 → Left t n used xs
  ended-by t n used [] few = inl refl
  ended-by t n used (v ∷ xs) few =
      let sum : cond {A = ℕ} (is_server t v) 1 0 + count_by (is_server t) xs + to_come used t ≤ 1 =
      omega (
        arith,
        few,
        sum_by-cons (λ (w : Server). cond {A = ℕ} (is_server t w) 1 0) v
            xs,
      ) in
      let fewer : count_by (is_server t) xs + to_come used t ≤ 1 =
      fewer-by (is_server t v) (count_by (is_server t) xs) (to_come used t) sum in
      ended-at t n used v xs (is_server n v) (is_server t v) refl refl sum (ended-by t n used xs fewer)

  took-le : (t r used : ℕ) (s : Lists) → Valid s
      → (n k : ℕ) (head : Option MessageHeader) (body : List ℕ) → MayServe s n k
      → left test t r used (at_first (is_server n)
      (λ v. record v { slots = took_packet k head body v.slots }) s.servers) ≤ left test t r used
      s.servers
  took-le t r used s valid n k head body a =
      changed-le (left_on test r (to_come used t)) (is_server n)
      (λ v. record v { slots = took_packet k head body v.slots }) (is_server t)
      (λ v. refl) s.servers (λ v e.
      let same : a.server ≡ v = same-server (find (is_server n) s.servers) a.server v a.found e in
      let sound = found-holds (is_server n) SoundServer s.servers a.server valid.served a.found in
      let less : left_in test r (took_packet k head body a.server.slots) ≤ left_in test r
      a.server.slots = took-left test next r k head body a.server sound a.newer in
      rw same at less)
    where
      same-server : (o : Option Server) (v w : Server) → o ≡ Some v → o ≡ Some w → v ≡ w
      same-server o v w e h = cc

  worked-le : (f : Served → Served) → ((q : Served) → (f q).number ≡ q.number)
      → ((q : Served) → test (f q) ≡ true → test q ≡ true)
      → (t r n k used : ℕ) (servers : List Server)
      → left test t r used (at_first (is_server n)
      (λ v. record v { slots = at_first (is_request k) f v.slots }) servers) ≤ left test t r used
      servers
  worked-le f numbers fall t r n k used servers =
      changed-le (left_on test r (to_come used t)) (is_server n)
      (λ v. record v { slots = at_first (is_request k) f v.slots }) (is_server t)
      (λ v. refl) servers (λ v e. changed-left test next f numbers fall r k v.slots)

  -- no such fact leaves more
  pub left-else : (t r : ℕ) (e : Event) (answer : List ℕ) (head : Option MessageHeader)
      (body : List ℕ) (s : Lists) → Valid s → IsElse e → Allowed s e
      → left test t r (server_numbers_after e s.server_numbers)
      (servers_after e answer head body s.servers) ≤ left test t r s.server_numbers s.servers
  left-else t r (PairedServer n peer c credits life) answer head body s v u a =
      rw a.numbered (made-le t r s.server_numbers peer c credits life s.servers)
  left-else t r (Accepted n peer c credits life) answer head body s v u a =
      rw a.numbered (made-le t r s.server_numbers peer c credits life s.servers)
  left-else t r (Ended n) answer head body s v u a =
      over-by r (to_come s.server_numbers t) (find (is_server t) s.servers)
      (find (is_server t) (without_first (is_server n) s.servers))
      (ended-by t n s.server_numbers s.servers (v.alone t))
  left-else t r (Took (Reply n k) i) answer head body s v u a = took-le t r s.server_numbers s v n k head body a
  left-else t r (Given n k) answer head body s v u a = absurd u
  left-else t r (Ran n k y) answer head body s v u a = absurd u
  left-else t r _ answer head body s v u a = omega arith

module _ (test : Served → Bool) (falls : Falls test) where
  -- no fact leaves more
  pub left-after : (t r : ℕ) (e : Event) (answer : List ℕ) (head : Option MessageHeader)
      (body : List ℕ) (s : Lists) → Valid s → Allowed s e
      → left test t r (server_numbers_after e s.server_numbers)
      (servers_after e answer head body s.servers) ≤ left test t r s.server_numbers s.servers
  left-after t r (Given n k) answer head body s v a =
      worked-le test falls.next given (λ q. refl) falls.given t r n k s.server_numbers s.servers
  left-after t r (Ran n k y) answer head body s v a =
      worked-le test falls.next (answered answer) (λ q. refl) (falls.answered answer) t r n k
      s.server_numbers s.servers
  left-after t r e answer head body s v a = left-else test falls.next t r e answer head body s v tt a

-- a request that is run or given takes one
module _ (t r : ℕ) (s : Lists) (valid : Valid s) (f : Served → Served)
    (numbers : (q : Served) → (f q).number ≡ q.number)
    (over : (q : Served) → is_due (f q) ≡ false) where
  worked-own : MayGive s t r
      → 1 + to_give t r s.server_numbers (at_first (is_server t)
      (λ v. record v { slots = at_first (is_request r) f v.slots }) s.servers) ≤ to_give t r
      s.server_numbers s.servers
  worked-own a =
      let sound = found-holds (is_server t) SoundServer s.servers a.server valid.served a.found in
      let after : find (is_server t) (at_first (is_server t)
      (λ v. record v { slots = at_first (is_request r) f v.slots }) s.servers)
      ≡ Some (record a.server { slots = at_first (is_request r) f a.server.slots }) =
      found-changed (is_server t) (λ v. record v
      { slots = at_first (is_request r) f v.slots })
      (is_server t) a.server s.servers
      (find-passes (is_server t) s.servers a.server a.found) a.found a.found in
      let less = own-left f numbers over r a.server a.served sound a.is_served a.due in
      rw (after, a.found) less

  worked-by : (n k : ℕ) (b : Bool) → (n == t && k == r) ≡ b → MayGive s n k
      → cond b 1 0 + to_give t r s.server_numbers
      (at_first (is_server n) (λ v. record v { slots = at_first (is_request k) f v.slots })
      s.servers) ≤ to_give t r s.server_numbers s.servers
  worked-by n k true e a =
      let parts = and_parts (n == t) (k == r) e in
      let session : n ≡ t = eqb-true n t parts.0 in
      let request : k ≡ r = eqb-true k r parts.1 in
      let own : MayGive s t r = rw (← session, ← request) a in
      rw (session, request) (worked-own own)
  worked-by n k false e a =
      let less = worked-le is_due falls-due.next f numbers (λ q h. let none = over q in cc) t r n k
      s.server_numbers s.servers in
      omega arith

  pub worked-spends : (n k : ℕ) → MayGive s n k
      → cond (n == t && k == r) 1 0 + to_give t r s.server_numbers
      (at_first (is_server n) (λ v. record v { slots = at_first (is_request k) f v.slots })
      s.servers) ≤ to_give t r s.server_numbers s.servers
  worked-spends n k a = worked-by n k (n == t && k == r) refl a
