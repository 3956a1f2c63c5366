-- The table of requests says what the facts tell.
use Rattle.std.proofs.Common.{◌≡◌, ℕ, ◌%◌, ◌≤◌, Bool, true, false, ◌&&◌, ltb, Option, Some, None}
use Rattle.std.proofs.Common.{List, ◌∷◌, refl, sym, ap, subst, ◌∙◌, inl, inr, arith}
use Rattle.std.specs.Prelude.{◌⊎◌, ◌==◌, option_map}
use Rattle.std.specs.List.{list_any}
use Rattle.std.proofs.lemmas.Bool.{and_parts, eqb-true, eq-eqb, ltb-true}
use Rattle.rpc_base.specs.Tables.{without_first}
use Rattle.rpc_base.specs.declared.event.Event.{Event}
use Rattle.rpc_base.specs.declared.event.Event.TheVariants.{PairedServer, Accepted, Ended, Took, Given, Ran}
use Rattle.rpc_base.specs.declared.fact.Fact.{Fact}
use Rattle.rpc_base.specs.declared.fact.Who.{Who}
use Rattle.rpc_base.specs.declared.owner.Owner.TheVariants.{Reply}
use Rattle.rpc_laws.specs.declared.tables.Arrival.{Arrival}
use Rattle.rpc_laws.specs.declared.tables.Lists.{Lists}
use Rattle.rpc_laws.specs.declared.tables.Served.{Served}
use Rattle.rpc_laws.specs.Front.{front_header, front_body}
use Rattle.rpc_laws.specs.Jobs.{is_job}
use Rattle.rpc_laws.specs.Requests.{is_request, is_server, next_packet, given, answered, request_of}
use Rattle.rpc_laws.specs.Requests.{servers_after, server_numbers_after}
use Rattle.node_laws.specs.RequestHistory.{takes_newer, ring_by}
use Rattle.node_laws.proofs.Allowed.{Allowed, MayServe, MayGive, MayFinish}
use Rattle.node_laws.proofs.LeftLemmas.{falls-always}
use Rattle.node_laws.proofs.LookLemmas.{request_on, look-own, look-other, look-made, taken}
use Rattle.node_laws.proofs.LookLemmas.{Replaces, look-next, look-first, look-others}
use Rattle.node_laws.proofs.NewestLemmas.{stands-started, older-over, taken-started, fresh-left, left-less}
use Rattle.node_laws.proofs.RequestLemmas.{concerns, Told, told-stays, next-told, first-told, given-told, ran-told}
use Rattle.node_laws.proofs.ServantLemmas.{Left, ended-by, left-after}
use Rattle.rpc_base.proofs.FirstLemmas.{some-counted}
use Rattle.node_laws.proofs.TellEventLemmas.{noted}
use Rattle.node_laws.specs.Valid.{is_due, left, Valid}
use Rattle.rpc_base.proofs.TakingLemmas.{find-passes}

-- an event that concerns a request leaves nothing of its beginning
module _ (s : Lists) (valid : Valid s) (t r : ℕ) where
  give-found : (a : MayGive s t r) → request_of t r s.servers ≡ Some a.served
  give-found a = rw (a.found, a.is_served) refl

  give-started : MayGive s t r → left (λ q. false) t r s.server_numbers s.servers ≤ 0
  give-started a = stands-started t r s.server_numbers s.servers valid.served a.served (give-found a)

  finish-started : MayFinish s t r → left (λ q. false) t r s.server_numbers s.servers ≤ 0
  finish-started a =
      let few = valid.runs t r in
      let some = some-counted (is_job t r) (is_job t r) s.jobs.out a.job a.found
      (find-passes (is_job t r) s.jobs.out a.job a.found) in
      let less = left-less is_due t r s.server_numbers s.servers in
      omega arith

  run-started : MayGive s t r ⊎ MayFinish s t r → left (λ q. false) t r s.server_numbers s.servers ≤ 0
  run-started (inl a) = give-started a
  run-started (inr a) = finish-started a

-- the numbers of an event are those of the request
same-numbers : (n k t r : ℕ) → (n == t && k == r) ≡ true → (n ≡ t) × (k ≡ r)
same-numbers n k t r e =
    let parts = and_parts (n == t) (k == r) e in (eqb-true n t parts.0, eqb-true k r parts.1)

pub started-after : (t r : ℕ) (e : Event) (answer body : List ℕ) (s : Lists) → Valid s → Allowed s e
    → concerns t r e ≡ true
    → left (λ q. false) t r (server_numbers_after e s.server_numbers)
    (servers_after e answer (front_header s.ring) body s.servers) ≤ 0
started-after t r (Took (Reply n k) i) answer body s v a e =
    let same = same-numbers n k t r e in
    let own : MayServe s t r = rw (← same.0, ← same.1) a in
    let over = taken-started s v t r own body in
    rw (own.front, same.0, same.1) over
started-after t r (Given n k) answer body s v a e =
    let same = same-numbers n k t r e in
    let own : MayGive s t r = rw (← same.0, ← same.1) a in
    let less = left-after (λ q. false) (falls-always false) t r (Given n k) answer (front_header s.ring) body s v a in
    let none = give-started s v t r own in
    omega arith
started-after t r (Ran n k y) answer body s v a e =
    let same = same-numbers n k t r e in
    let own : MayGive s t r ⊎ MayFinish s t r = rw (← same.0, ← same.1) a in
    let less = left-after (λ q. false) (falls-always false) t r (Ran n k y) answer (front_header s.ring) body s v a in
    let none = run-started s v t r own in
    omega arith
started-after t r _ answer body s v a e = cc

-- one of a greater number of its slot leaves nothing of it
pub newer-after : (t r : ℕ) (e : Event) (answer body : List ℕ) (s : Lists) → Valid s → Allowed s e
    → takes_newer t r e ≡ true
    → left (λ q. true) t r (server_numbers_after e s.server_numbers)
    (servers_after e answer (front_header s.ring) body s.servers) ≤ 0
newer-after t r (Took (Reply n k) i) answer body s v a e =
    let parts = and_parts (n == t) (k % 8 == r % 8 && ltb r k) e in
    let more = and_parts (k % 8 == r % 8) (ltb r k) parts.1 in
    let session : n ≡ t = eqb-true n t parts.0 in
    let own : MayServe s t k = rw (← session) a in
    let over = older-over s v t k own body r (sym (eqb-true (k % 8) (r % 8) more.0)) (ltb-true r k more.1) in
    rw (own.front, session) over
newer-after t r _ answer body s v a e = cc

-- what is told of a request stays told
module _ (who : Who) (bytes second : List ℕ) (past : List Fact) (s : Lists) (valid : Valid s)
    (ring : ring_by past ≡ s.ring) (t r : ℕ) (fresh : 1 ≤ left (λ q. false) t r s.server_numbers
    s.servers → list_any (λ f. concerns t r f.event) past ≡ false) where
  front : front_body (ring_by past) ≡ front_body s.ring
  front = ap (λ (d : List Arrival). front_body d) ring

  own-event : (t == t && r == r) ≡ true
  own-event = rw (eq-eqb t t refl, eq-eqb r r refl) refl

  next-by : (k : ℕ) (o : Option Served) → Told t r past o
      → Told t r (noted who (Took (Reply t r) k) bytes second ∷ past)
      (option_map (next_packet (front_body s.ring)) o)
  next-by k None told = tt
  next-by k (Some q) told =
      next-told t r past (noted who (Took (Reply t r) k) bytes second) own-event refl refl
      (front_body s.ring) front q told

  took-own-by : (k : ℕ) (a : MayServe s t r) (b : Bool) → list_any (is_request r) a.server.slots ≡ b
      → Told t r past (request_of t r s.servers)
      → Told t r (noted who (Took (Reply t r) k) bytes second ∷ past)
      (request_of t r (taken s valid t r a (front_body s.ring)))
  took-own-by k a true e told =
      rw (look-next s valid t r a (front_body s.ring) e) (next-by k (request_of t r s.servers) told)
  took-own-by k a false e told =
      let header : front_header (ring_by past) ≡ Some a.header =
      ap (λ (d : List Arrival). front_header d) ring ∙ a.front in
      let first = first-told t r past (noted who (Took (Reply t r) k) bytes second) own-event refl
      refl (front_body s.ring) front r a.header header (fresh (fresh-left s t r a e)) in
      rw (look-first s valid t r a (front_body s.ring) e) first

  took-other-by : (n k i : ℕ) (a : MayServe s n k) → (n == t && k == r) ≡ false
      → (request_of t r (taken s valid n k a (front_body s.ring)) ≡ request_of t r s.servers)
      ⊎ Replaces s valid n k a (front_body s.ring) t r
      (request_of t r (taken s valid n k a (front_body s.ring)))
      → Told t r past (request_of t r s.servers)
      → Told t r (noted who (Took (Reply n k) i) bytes second ∷ past)
      (request_of t r (taken s valid n k a (front_body s.ring)))
  took-other-by n k i a off (inl same) told =
      rw same (told-stays t r past (noted who (Took (Reply n k) i) bytes second) (request_of t r s.servers) off told)
  took-other-by n k i a off (inr gone) told = rw gone.none tt

  took-told : (n k i : ℕ) (a : MayServe s n k) (b : Bool) → (n == t && k == r) ≡ b
      → Told t r past (request_of t r s.servers)
      → Told t r (noted who (Took (Reply n k) i) bytes second ∷ past)
      (request_of t r (servers_after (Took (Reply n k) i) second (front_header s.ring)
      (front_body s.ring) s.servers))
  took-told n k i a true e told =
      let same = same-numbers n k t r e in
      let own : MayServe s t r = rw (← same.0, ← same.1) a in
      let all = took-own-by i own (list_any (is_request r) own.server.slots) refl told in
      rw (own.front, same.0, same.1) all
  took-told n k i a false e told =
      rw a.front (took-other-by n k i a e (look-others s valid n k a (front_body s.ring) t r e) told)

  given-by : (o : Option Served) → (q : Served) → o ≡ Some q → is_due q ≡ true → Told t r past o
      → Told t r (noted who (Given t r) bytes second ∷ past) (option_map given o)
  given-by None q e due told = tt
  given-by (Some p) q e due told =
      let same : p ≡ q = cc in
      let own : is_due p ≡ true = rw same due in
      given-told t r past (noted who (Given t r) bytes second) refl own-event refl p own told

  give-told : (n k : ℕ) (a : MayGive s n k) (b : Bool) → (n == t && k == r) ≡ b
      → Told t r past (request_of t r s.servers)
      → Told t r (noted who (Given n k) bytes second ∷ past)
      (request_of t r (servers_after (Given n k) second (front_header s.ring)
      (front_body s.ring) s.servers))
  give-told n k a true e told =
      let same = same-numbers n k t r e in
      let own : MayGive s t r = rw (← same.0, ← same.1) a in
      let all = given-by (request_of t r s.servers) own.served (give-found s valid t r own) own.due told in
      rw (same.0, same.1, look-own t r given (λ q. refl) s.servers) all
  give-told n k a false e told =
      rw (look-other t r given (λ q. refl) n k e s.servers)
      (told-stays t r past (noted who (Given n k) bytes second)
      (request_of t r s.servers) e told)

  ran-by : (y : ℕ) (o : Option Served) → Told t r past o
      → Told t r (noted who (Ran t r y) bytes second ∷ past) (option_map (answered second) o)
  ran-by y None told = tt
  ran-by y (Some q) told = ran-told t r past (noted who (Ran t r y) bytes second) refl refl own-event q told

  run-told : (n k y : ℕ) (b : Bool) → (n == t && k == r) ≡ b
      → Told t r past (request_of t r s.servers)
      → Told t r (noted who (Ran n k y) bytes second ∷ past)
      (request_of t r (servers_after (Ran n k y) second (front_header s.ring)
      (front_body s.ring) s.servers))
  run-told n k y true e told =
      let same = same-numbers n k t r e in
      rw (same.0, same.1, look-own t r (answered second) (λ q. refl) s.servers)
      (ran-by y (request_of t r s.servers) told)
  run-told n k y false e told =
      rw (look-other t r (answered second) (λ q. refl) n k e s.servers)
      (told-stays t r past (noted who (Ran n k y) bytes second)
      (request_of t r s.servers) e told)

  -- a session ends
  ended-told : (n : ℕ) → Left (λ q. true) (falls-always true).next t n s.server_numbers s.servers
      → Told t r past (request_of t r s.servers)
      → Told t r (noted who (Ended n) bytes second ∷ past)
      (request_of t r (without_first (is_server n) s.servers))
  ended-told n (inl same) told =
      let kept = told-stays t r past (noted who (Ended n) bytes second) (request_of t r s.servers) refl told in
      subst (λ (o : Option Served). Told t r (noted who (Ended n) bytes second ∷ past) o)
      (sym (ap (λ o. request_on r o) same)) kept
  ended-told n (inr gone) told =
      let none : request_of t r (without_first (is_server n) s.servers) ≡ None = ap (λ o. request_on r o) gone.0 in
      subst (λ (o : Option Served). Told t r (noted who (Ended n) bytes second ∷ past) o) (sym none) tt

  pub told-after : (e : Event) → Allowed s e → Told t r past (request_of t r s.servers)
      → Told t r (noted who e bytes second ∷ past)
      (request_of t r (servers_after e second (front_header s.ring) (front_body s.ring) s.servers))
  told-after (PairedServer n peer c credits life) a told =
      rw (look-made t r n peer c credits life s.servers)
      (told-stays t r past (noted who (PairedServer n peer c credits life) bytes second)
      (request_of t r s.servers) refl told)
  told-after (Accepted n peer c credits life) a told =
      rw (look-made t r n peer c credits life s.servers)
      (told-stays t r past (noted who (Accepted n peer c credits life) bytes second)
      (request_of t r s.servers) refl told)
  told-after (Ended n) a told =
      ended-told n (ended-by (λ q. true) (falls-always true).next t n s.server_numbers s.servers (valid.alone t)) told
  told-after (Took (Reply n k) i) a told = took-told n k i a (n == t && k == r) refl told
  told-after (Given n k) a told = give-told n k a (n == t && k == r) refl told
  told-after (Ran n k y) a told = run-told n k y (n == t && k == r) refl told
  told-after e a told = told-stays t r past (noted who e bytes second) (request_of t r s.servers) refl told
