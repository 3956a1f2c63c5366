-- What stands in a slot is its newest request.
use Rattle.std.proofs.Common.{◌≡◌, ℕ, ◌%◌, ◌≤◌, ◌<◌, Bool, true, false, cond, ltb, Option, Some}
use Rattle.std.proofs.Common.{None, List, [], refl, sym, ap, ◌∙◌, ◌⊎◌, inl, inr, arith}
use Rattle.std.specs.Prelude.{option_map}
use Rattle.std.specs.List.{AllByRecursion, find, list_any}
use Rattle.std.proofs.lemmas.Bool.{eqb-true, eq-eqb}
use Rattle.std.proofs.lemmas.Bool.Decides.{nat_tests}
use Rattle.rpc_base.specs.declared.event.Event.TheVariants.{Took}
use Rattle.rpc_base.specs.declared.owner.Owner.TheVariants.{Reply}
use Rattle.rpc_laws.specs.declared.tables.Lists.{Lists}
use Rattle.rpc_laws.specs.declared.tables.Served.{Served}
use Rattle.rpc_laws.specs.declared.tables.Server.{Server}
use Rattle.rpc_laws.specs.Requests.{is_server, is_request, in_slot_of, first_packet, next_packet, request_of}
use Rattle.node_laws.proofs.Allowed.{Newer, MayServe, Stands}
use Rattle.rpc_base.proofs.FindLemmas.{missing-none}
use Rattle.node_laws.proofs.LeftLemmas.{own-slot, same-slot}
use Rattle.node_laws.proofs.LookLemmas.{request_on, taken, look-next, look-first}
use Rattle.node_laws.proofs.ServedLemmas.{served-after}
use Rattle.node_laws.proofs.ServerLemmas.{few-requests}
use Rattle.rpc_base.proofs.FirstLemmas.{found-holds, found-own}
use Rattle.node_laws.specs.Valid.{SoundServer, left_of, left_on, left, to_come, Valid}
use Rattle.rpc_base.proofs.TakingLemmas.{find-passes}

-- where request r stands, what is left of a request of its slot goes by r
module _ (test : Served → Bool) (t r old : ℕ) (slot : old % 8 ≡ r % 8) (used : ℕ)
    (servers : List Server) (sound : AllByRecursion SoundServer servers) where
  slot-by : (o : Option Server) → find (is_server t) servers ≡ o → (q : Served)
      → request_on r o ≡ Some q → (left test t old used servers ≡ left_of test old (Some q))
      × (q.number ≡ r)
  slot-by None e q found = cc
  slot-by (Some v) e q found =
      let own = own-slot r v q (found-holds (is_server t) SoundServer servers v sound e) found in (
        rw e (ap (λ o. left_of test old o) (same-slot old r slot v.slots ∙ own)),
        eqb-true q.number r (find-passes (is_request r) v.slots q found),
      )

  pub stands-slot : (q : Served) → request_of t r servers ≡ Some q
      → (left test t old used servers ≡ left_of test old (Some q)) × (q.number ≡ r)
  stands-slot q found = slot-by (find (is_server t) servers) refl q found

-- something of a request that stands may still come, and nothing of an older one
pub own-left : (r n : ℕ) → n ≡ r → cond (ltb r n) 0 (cond (ltb n r) 1 1) ≤ 0 → ⊥
own-left r n e h = grind (arith, nat_tests)

older-left : (old r n : ℕ) → n ≡ r → old < r → cond (ltb old n) 0 (cond (ltb n old) 1 1) ≤ 0
older-left old r n e h = grind (arith, nat_tests)

-- it began
began-over : (r n : ℕ) → n ≡ r → cond (ltb r n) 0 (cond (ltb n r) 1 0) ≤ 0
began-over r n e = grind (arith, nat_tests)

pub stands-started : (t r used : ℕ) (servers : List Server) → AllByRecursion SoundServer servers
    → (q : Served) → request_of t r servers ≡ Some q → left (λ q. false) t r used servers ≤ 0
stands-started t r used servers sound q found =
    let own = stands-slot (λ p. false) t r r refl used servers sound q found in
    rw own.0 (began-over r q.number own.1)

-- the packet of a request that is taken: the request stands then
module _ (s : Lists) (valid : Valid s) (t r : ℕ) (a : MayServe s t r) (body : List ℕ) where
  next-stands : (o : Option Served)
      → request_of t r (taken s valid t r a body) ≡ option_map (next_packet body) o
      → list_any (is_request r) a.server.slots ≡ true → o ≡ find (is_request r) a.server.slots
      → Stands (taken s valid t r a body) t r
  next-stands None found e same =
      let none = missing-none (is_request r) a.server.slots (sym same) in cc
  next-stands (Some q) found e same = record { served = next_packet body q; found = found }

  taken-by : (b : Bool) → list_any (is_request r) a.server.slots ≡ b → Stands (taken s valid t r a body) t r
  taken-by true e =
      next-stands (request_of t r s.servers) (look-next s valid t r a body e) e (ap (λ o. request_on r o) a.found)
  taken-by false e = record {
    served = first_packet r a.header body;
    found = look-first s valid t r a body e;
  }

  taken-sound : AllByRecursion SoundServer (taken s valid t r a body)
  taken-sound = served-after (Took (Reply t r) 0) [] (Some a.header) body s valid a

  -- and nothing of an older one of its slot may come, nor may it begin itself
  pub older-over : (old : ℕ) → old % 8 ≡ r % 8 → old < r
      → left (λ q. true) t old s.server_numbers (taken s valid t r a body) ≤ 0
  older-over old slot below =
      let stands = taken-by (list_any (is_request r) a.server.slots) refl in
      let own = stands-slot (λ q. true) t r old slot s.server_numbers (taken s valid t r a body)
      taken-sound stands.served stands.found in
      rw own.0 (older-left old r stands.served.number own.1 below)

  pub taken-started : left (λ q. false) t r s.server_numbers (taken s valid t r a body) ≤ 0
  taken-started =
      let stands = taken-by (list_any (is_request r) a.server.slots) refl in
      stands-started t r s.server_numbers (taken s valid t r a body) taken-sound stands.served stands.found

-- a request whose first packet is taken didn't begin before
fresh-by : (r : ℕ) (o : Option Served) → Newer r o → 1 ≤ left_of (λ q. false) r o
fresh-by r None newer = omega arith
fresh-by r (Some l) newer = grind (arith, nat_tests)

pub fresh-left : (s : Lists) (t r : ℕ) (a : MayServe s t r)
    → list_any (is_request r) a.server.slots ≡ false
    → 1 ≤ left (λ q. false) t r s.server_numbers s.servers
fresh-left s t r a none = rw a.found (fresh-by r (find (in_slot_of r) a.server.slots) (a.newer none))

-- the newest request of the slot of one that began
pub record Newest (t r : ℕ) (servers : List Server) : Type 0 where
  pub newest : Served
  pub found : request_of t newest.number servers ≡ Some newest
  pub slot : newest.number % 8 ≡ r % 8
  pub least : r ≤ newest.number

began-least : (r n : ℕ) → cond (ltb r n) 0 (cond (ltb n r) 1 0) ≤ 0 → r ≤ n
began-least r n h = grind (arith, nat_tests)

-- a session whose number was used, and that isn't there
pub record IsOver (t used : ℕ) (servers : List Server) : Type 0 where
  pub none : find (is_server t) servers ≡ None
  pub past : to_come used t ≤ 0

module _ (t r used : ℕ) (servers : List Server) (sound : AllByRecursion SoundServer servers) where
  slot-newest : (v : Server) → find (is_server t) servers ≡ Some v → (o : Option Served)
      → find (in_slot_of r) v.slots ≡ o → left_of (λ q. false) r o ≤ 0 → Newest t r servers
  slot-newest v e None found h = absurd (omega arith)
  slot-newest v e (Some l) found h =
      let n = l.number in
      let apart = (found-holds (is_server t) SoundServer servers v sound e).apart in
      let own : find (is_request n) v.slots ≡ Some l =
      found-own (in_slot_of r) (is_request n) v.slots l
      (few-requests n v.slots (apart (n % 8))) found (eq-eqb n n refl) in
      record {
        newest = l;
        found = rw e own;
        slot = eqb-true (n % 8) (r % 8) (find-passes (in_slot_of r) v.slots l found);
        least = began-least r n h;
      }

  newest-by : (o : Option Server) → find (is_server t) servers ≡ o
      → left_on (λ q. false) r (to_come used t) o ≤ 0 → Newest t r servers ⊎ IsOver t used servers
  newest-by None e h = inr (record { none = e; past = h })
  newest-by (Some v) e h = inl (slot-newest v e (find (in_slot_of r) v.slots) refl h)

  pub newest-of : left (λ q. false) t r used servers ≤ 0 → Newest t r servers ⊎ IsOver t used servers
  newest-of h = newest-by (find (is_server t) servers) refl h

-- what began may be less than what may still come
less-of : (test : Served → Bool) (r : ℕ) (o : Option Served) → left_of (λ q. false) r o ≤ left_of test r o
less-of test r None = omega arith
less-of test r (Some l) = less (ltb r l.number) (ltb l.number r) (test l)
  where
    less : (a b c : Bool) → cond a 0 (cond b 1 0) ≤ cond a 0 (cond b 1 (cond c 1 0))
    less true b c = omega arith
    less false true c = omega arith
    less false false c = omega arith

less-on : (test : Served → Bool) (r other : ℕ) (o : Option Server)
    → left_on (λ q. false) r other o ≤ left_on test r other o
less-on test r other None = omega arith
less-on test r other (Some v) = less-of test r (find (in_slot_of r) v.slots)

pub left-less : (test : Served → Bool) (t r used : ℕ) (servers : List Server)
    → left (λ q. false) t r used servers ≤ left test t r used servers
left-less test t r used servers = less-on test r (to_come used t) (find (is_server t) servers)
