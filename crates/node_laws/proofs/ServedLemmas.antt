-- Allowed facts keep server sessions sound.
use Rattle.std.proofs.Common.{◌≡◌, ℕ, ◌+◌, ◌≤◌, Bool, cond, Option, Some, List, [], ◌∷◌, ◌++◌, refl}
use Rattle.std.proofs.Common.{inl, inr, ◌⊎◌, arith}
use Rattle.std.specs.Prelude.{◌==◌, count_by}
use Rattle.std.proofs.lemmas.Bool.Decides.{nat_tests}
use Rattle.std.proofs.lemmas.List.Sums.{sum_by_push}
use Rattle.std.specs.List.{AllByRecursion, find}
use Rattle.packet_header.specs.Parts.{packet_count}
use Rattle.packet_header.specs.declared.packet.MessageHeader.{MessageHeader}
use Rattle.rpc_base.specs.Tables.{at_first}
use Rattle.rpc_base.specs.declared.event.Event.{Event}
use Rattle.rpc_base.specs.declared.event.Event.TheVariants.{PairedServer, Accepted, Ended, Took, Given, Ran}
use Rattle.rpc_base.specs.declared.owner.Owner.TheVariants.{Reply}
use Rattle.rpc_laws.specs.declared.tables.Lists.{Lists}
use Rattle.rpc_laws.specs.declared.tables.Served.{Served}
use Rattle.rpc_laws.specs.declared.tables.Server.{Server}
use Rattle.rpc_laws.specs.Jobs.{is_job}
use Rattle.rpc_laws.specs.Requests.{is_server, is_request, server_end, took_packet, given, answered}
use Rattle.rpc_laws.specs.Requests.{servers_after, server_numbers_after}
use Rattle.node_laws.proofs.Allowed.{Allowed, MayGive, MayFinish}
use Rattle.node_laws.proofs.LeftLemmas.{none-left}
use Rattle.node_laws.proofs.ServerLemmas.{sound-took, sound-changed}
use Rattle.rpc_base.proofs.FirstLemmas.{found-holds, some-counted, all-push, all-kept, all-first}
use Rattle.rpc_base.proofs.FirstLemmas.{all-left, sum-grown, sum-fewer}
use Rattle.node_laws.specs.Valid.{to_come, is_due, SoundServer, left_in, left_on, Valid}
use Rattle.rpc_base.proofs.TakingLemmas.{find-passes}

module _ (s : Lists) (valid : Valid s) (t r : ℕ) where
  -- a request that is run or given has all its packets
  give-whole : MayGive s t r → (v : Server) (q : Served) → find (is_server t) s.servers ≡ Some v
      → find (is_request r) v.slots ≡ Some q → packet_count q.size ≤ q.taken
  give-whole a v q server served =
      let same : a.server ≡ v = same-some (find (is_server t) s.servers) a.server v a.found server in
      let own : find (is_request r) v.slots ≡ Some a.served = rw same at a.is_served in
      let request : a.served ≡ q = same-some (find (is_request r) v.slots) a.served q own served in
      rw request at a.whole
    where
      same-some : {A : Type 0} (o : Option A) (x y : A) → o ≡ Some x → o ≡ Some y → x ≡ y
      same-some o x y e h = cc

  finish-whole : MayFinish s t r → (v : Server) (q : Served) → find (is_server t) s.servers ≡ Some v
      → find (is_request r) v.slots ≡ Some q → packet_count q.size ≤ q.taken
  finish-whole a v q server served =
      let few = valid.runs t r in
      let some = some-counted (is_job t r) (is_job t r) s.jobs.out a.job a.found
      (find-passes (is_job t r) s.jobs.out a.job a.found) in
      let none : left_in is_due r v.slots ≤ 0 = none-by (find (is_server t) s.servers) v server (omega arith) in
      none-left r v q (found-holds (is_server t) SoundServer s.servers v valid.served server) served none
    where
      none-by : (o : Option Server) (w : Server) → o ≡ Some w
          → left_on is_due r (to_come s.server_numbers t) o ≤ 0 → left_in is_due r w.slots ≤ 0
      none-by o w e h = rw e at h

  worked-sound : (f : Served → Served) → ((q : Served) → (f q).number ≡ q.number)
      → ((v : Server) (q : Served) → find (is_server t) s.servers ≡ Some v
      → find (is_request r) v.slots ≡ Some q → packet_count (f q).size ≤ (f q).taken)
      → AllByRecursion SoundServer (at_first (is_server t)
      (λ v. record v { slots = at_first (is_request r) f v.slots }) s.servers)
  worked-sound f numbers whole =
      all-first (is_server t) (λ v. record v { slots = at_first (is_request r) f v.slots })
      SoundServer s.servers (λ v e k. sound-changed f numbers r v k (λ q h. whole v q e h))
      valid.served

  ran-sound : (answer : List ℕ) → MayGive s t r ⊎ MayFinish s t r
      → AllByRecursion SoundServer (at_first (is_server t)
      (λ v. record v { slots = at_first (is_request r) (answered answer) v.slots }) s.servers)
  ran-sound answer (inl a) = worked-sound (answered answer) (λ q. refl) (give-whole a)
  ran-sound answer (inr a) = worked-sound (answered answer) (λ q. refl) (finish-whole a)

pub served-after : (e : Event) (answer : List ℕ) (head : Option MessageHeader) (body : List ℕ)
    (s : Lists) → Valid s → Allowed s e
    → AllByRecursion SoundServer (servers_after e answer head body s.servers)
served-after (PairedServer t peer n credits life) answer head body s v a =
    all-push SoundServer s.servers (server_end t peer n credits life) v.served
    (record { apart = λ slot. omega arith; whole = tt })
served-after (Accepted t peer n credits life) answer head body s v a =
    all-push SoundServer s.servers (server_end t peer n credits life) v.served
    (record { apart = λ slot. omega arith; whole = tt })
served-after (Ended t) answer head body s v a = all-left (is_server t) SoundServer s.servers v.served
served-after (Took (Reply t r) k) answer head body s v a =
    all-kept (is_server t) (λ v. record v { slots = took_packet r head body v.slots }) SoundServer
    s.servers (λ v k _. sound-took r head body v k) v.served
served-after (Given t r) answer head body s v a =
    worked-sound s v t r given (λ q. refl) (give-whole s v t r a)
served-after (Ran t r y) answer head body s v a = ran-sound s v t r answer a
served-after _ answer head body s v a = v.served

-- no number is there twice, nor comes again
module _ (t : ℕ) where
  abbrev one : Server → ℕ
  one v = cond (is_server t v) 1 0

  pub next-one : (used n c m : ℕ) → n ≡ used → c + to_come used t ≤ 1 → m ≤ c + cond (n == t) 1 0
      → m + to_come (used + 1) t ≤ 1
  next-one used n c m e h k = grind (arith, nat_tests)

  made-alone : (n peer c credits life : ℕ) (s : Lists) → n ≡ s.server_numbers
      → count_by (is_server t) s.servers + to_come s.server_numbers t ≤ 1
      → count_by (is_server t) (s.servers ++ server_end n peer c credits life ∷ [])
      + to_come (s.server_numbers + 1) t ≤ 1
  made-alone n peer c credits life s e h =
      let push = sum_by_push one s.servers (server_end n peer c credits life) in
      next-one s.server_numbers n (count_by (is_server t) s.servers) _ e h (omega arith)

  kept-alone : (p : Server → Bool) (f : Server → Server) → ((v : Server) → (f v).way ≡ v.way)
      → (s : Lists) → count_by (is_server t) s.servers + to_come s.server_numbers t ≤ 1
      → count_by (is_server t) (at_first p f s.servers) + to_come s.server_numbers t ≤ 1
  kept-alone p f same s h =
      let grown = sum-grown p f one 0 s.servers (λ v. rw (same v) (omega arith)) in omega arith

  pub alone-after : (e : Event) (answer : List ℕ) (head : Option MessageHeader) (body : List ℕ)
      (s : Lists) → count_by (is_server t) s.servers + to_come s.server_numbers t ≤ 1 → Allowed s e
      → count_by (is_server t) (servers_after e answer head body s.servers)
      + to_come (server_numbers_after e s.server_numbers) t ≤ 1
  alone-after (PairedServer n peer c credits life) answer head body s h a =
      made-alone n peer c credits life s a.numbered h
  alone-after (Accepted n peer c credits life) answer head body s h a = made-alone n peer c credits life s a.numbered h
  alone-after (Ended n) answer head body s h a = let fewer = sum-fewer (is_server n) one s.servers in omega arith
  alone-after (Took (Reply n r) k) answer head body s h a =
      kept-alone (is_server n) (λ v. record v { slots = took_packet r head body v.slots }) (λ v. refl) s h
  alone-after (Given n r) answer head body s h a =
      kept-alone (is_server n) (λ v. record v { slots = at_first (is_request r) given v.slots }) (λ v. refl) s h
  alone-after (Ran n r y) answer head body s h a =
      kept-alone (is_server n) (λ v. record v
      { slots = at_first (is_request r) (answered answer) v.slots }) (λ v. refl) s h
  alone-after _ answer head body s h a = h
