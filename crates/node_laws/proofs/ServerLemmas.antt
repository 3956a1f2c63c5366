-- Server sessions: what keeps them sound.
use Rattle.std.proofs.Common.{◌≡◌, ℕ, ◌+◌, ◌%◌, ◌≤◌, Bool, true, false, cond, Option, Some, None}
use Rattle.std.proofs.Common.{List, [], ◌∷◌, ◌++◌, refl, ap, ◌∙◌, arith}
use Rattle.std.specs.Prelude.{◌==◌, count_by}
use Rattle.std.specs.List.{find, list_any}
use Rattle.std.proofs.lemmas.Bool.{eqb-true, eq-eqb}
use Rattle.std.proofs.lemmas.List.Sums.{sum_by_push}
use Rattle.packet_header.specs.Parts.{packet_count}
use Rattle.packet_header.specs.declared.packet.MessageHeader.{MessageHeader}
use Rattle.rpc_base.specs.Tables.{at_first, without_first}
use Rattle.rpc_laws.specs.declared.tables.Served.{Served}
use Rattle.rpc_laws.specs.declared.tables.Server.{Server}
use Rattle.rpc_laws.specs.Requests.{is_request, in_slot_of, first_packet, next_packet, took_packet}
use Rattle.rpc_base.proofs.FindLemmas.{count-out}
use Rattle.rpc_base.proofs.FirstLemmas.{count-fewer, all-push, all-kept, all-first, all-left, sum-grown, sum-fewer}
use Rattle.node_laws.specs.Valid.{RunWhole, SoundServer}

-- the requests that stand in a slot
abbrev pub in_place : ℕ → List Served → ℕ
in_place slot qs = count_by (λ q. q.number % 8 == slot) qs

-- a request has the slot of its number
pub request-slot : (r : ℕ) (q : Served) → is_request r q ≡ true → in_slot_of r q ≡ true
request-slot r q h = eq-eqb (q.number % 8) (r % 8) (ap (λ n. n % 8) (eqb-true q.number r h))

pub few-requests : (r : ℕ) (qs : List Served) → in_place (r % 8) qs ≤ 1 → count_by (is_request r) qs ≤ 1
few-requests r qs few = omega (arith, few, count-fewer (is_request r) (in_slot_of r) (request-slot r) qs)

-- what is taken
next-apart : (body : List ℕ) (r slot : ℕ) (qs : List Served) → in_place slot qs ≤ 1
    → in_place slot (at_first (is_request r) (next_packet body) qs) ≤ 1
next-apart body r slot qs few =
    omega (
      arith,
      few,
      sum-grown (is_request r) (next_packet body)
          (λ q. cond (q.number % 8 == slot) 1 0) 0 qs (λ q. omega arith),
    )

first-by : (r slot : ℕ) (h : MessageHeader) (body : List ℕ) (qs : List Served) (n : ℕ) (b : Bool)
    → (r % 8 == slot) ≡ b → in_place slot qs ≤ 1 → in_place (r % 8) qs ≤ 1
    → n ≡ in_place slot (without_first (in_slot_of r) qs) + cond b 1 0 → n ≤ 1
first-by r slot h body qs n true t few own e =
    let same : r % 8 ≡ slot = eqb-true (r % 8) slot t in
    let none : in_place (r % 8) (without_first (in_slot_of r) qs) ≤ 0 = count-out (in_slot_of r) qs own in
    let zero : in_place slot (without_first (in_slot_of r) qs) ≤ 0 = rw same at none in
    omega arith
first-by r slot h body qs n false t few own e =
    let fewer = sum-fewer (in_slot_of r) (λ (q : Served). cond (q.number % 8 == slot) 1 0) qs in omega arith

first-apart : (r slot : ℕ) (h : MessageHeader) (body : List ℕ) (qs : List Served)
    → ((place : ℕ) → in_place place qs ≤ 1)
    → in_place slot (without_first (in_slot_of r) qs ++ first_packet r h body ∷ []) ≤ 1
first-apart r slot h body qs few =
    first-by r slot h body qs _ (r % 8 == slot) refl (few slot) (few (r % 8))
    (sum_by_push (λ q. cond (q.number % 8 == slot) 1 0) (without_first (in_slot_of r) qs)
    (first_packet r h body))

more-whole : (n m : ℕ) → n ≤ m → n ≤ m + 1
more-whole n m h = omega arith

took-sound-by : (r : ℕ) (h : MessageHeader) (body : List ℕ) (v : Server) (b : Bool) → SoundServer v
    → SoundServer (record v {
      slots = cond b (at_first (is_request r) (next_packet body) v.slots)
          (without_first (in_slot_of r) v.slots ++ first_packet r h body ∷ []);
    })
took-sound-by r h body v true s = record {
  apart = λ slot. next-apart body r slot v.slots (s.apart slot);
  whole = all-kept (is_request r) (next_packet body) RunWhole v.slots
      (λ q k _ a. more-whole (packet_count q.size) q.taken (k a)) s.whole;
}
took-sound-by r h body v false s = record {
  apart = λ slot. first-apart r slot h body v.slots s.apart;
  whole = all-push RunWhole (without_first (in_slot_of r) v.slots) (first_packet r h body)
      (all-left (in_slot_of r) RunWhole v.slots s.whole) (λ a. cc);
}

pub sound-took : (r : ℕ) (head : Option MessageHeader) (body : List ℕ) (v : Server) → SoundServer v
    → SoundServer (record v { slots = took_packet r head body v.slots })
sound-took r None body v s = s
sound-took r (Some h) body v s = took-sound-by r h body v (list_any (is_request r) v.slots) s

-- a change that keeps numbers
module _ (f : Served → Served) (numbers : (q : Served) → (f q).number ≡ q.number) where
  numbered-same : (slot d : ℕ) (q : Served) → d ≡ (f q).number
      → ◌≤◌ (cond (d % 8 == slot) 1 0) (cond (q.number % 8 == slot) 1 0 + 0)
  numbered-same slot d q e = let same : d ≡ q.number = e ∙ numbers q in rw same (omega arith)

  pub sound-changed : (r : ℕ) (v : Server) → SoundServer v
      → ((q : Served) → find (is_request r) v.slots ≡ Some q
      → packet_count (f q).size ≤ (f q).taken)
      → SoundServer (record v { slots = at_first (is_request r) f v.slots })
  sound-changed r v s whole = record {
    apart = λ slot.
        let few = s.apart slot in
        let grown = sum-grown (is_request r) f (λ p. cond (p.number % 8 == slot) 1 0) 0 v.slots
        (λ p. numbered-same slot (f p).number p refl) in
        omega arith;
    whole = all-first (is_request r) f RunWhole v.slots (λ q e _ _. whole q e) s.whole;
  }
