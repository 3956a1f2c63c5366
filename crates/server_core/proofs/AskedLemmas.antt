-- The newest request of a slot is the one with its number, if there is one: its bytes, and those of its answer.
use Rattle.std.proofs.Common.{◌≡◌, ◌≢◌, ℕ, ◌*◌, ◌%◌, eqb, false, Option, Some, None, [], take, refl, ap, ◌∙◌}
use Rattle.std.specs.Prelude.{IfSome, option_map}
use Rattle.std.specs.List.{find}
use Rattle.std.proofs.lemmas.Bool.{eq-eqb, eqb-true}
use Rattle.message_buffer.specs.Buffer.{Buffer, bytes_of}
use Rattle.buffer_pool.specs.Pool.{Pool, buf_at}
use Rattle.rpc_laws.specs.Requests.{is_request}
use Rattle.server_core.specs.declared.slot.SlotRequest.{SlotRequest}
use Rattle.server_core.specs.declared.slot.Stored.{Stored}
use Rattle.server_core.specs.Asked.{bytes_answered, bytes_taken}
use Rattle.server_core.specs.Finishing.{is_waiting}
use Rattle.server_core.specs.Session.{IsSession, Session, answer_of, ask_of, is_at_work, is_in_slot, newest}
use Rattle.server_core.specs.Shown.{shown, shown_request}
use Rattle.server_core.proofs.ListLemmas.{found-shown}
use Rattle.server_core.proofs.SlotLemmas.{by-number}
use Rattle.rpc_base.proofs.TakingLemmas.{find-passes}
use Rattle.rpc_base.proofs.FirstLemmas.{found-own}

-- what is shown of the request with a number
numbered-shown : (pool : Pool) (s : Session) (r : ℕ) (o : Option SlotRequest)
    → find (λ x. eqb x.number r) s.slots ≡ o
    → find (is_request r) (shown pool s).slots ≡ option_map (shown_request pool) o
numbered-shown pool s r o e =
    found-shown (shown_request pool) (is_request r) (λ x. eqb x.number r) (λ x. refl) s.slots
    ∙ ap (option_map (shown_request pool)) e

-- none has the number, where the newest of its slot has another
other-cases : (s : Session) (r : ℕ) (o : Option SlotRequest) → IsSession s
    → IfSome (newest r s) (λ q. q.number ≢ r) → find (λ x. eqb x.number r) s.slots ≡ o → o ≡ None
other-cases s r None h other e = refl
other-cases s r (Some q) h other e =
    let same = eqb-true q.number r (find-passes (λ x. eqb x.number r) s.slots q e) in
    let slot = found-own (λ x. eqb x.number r)
    (is_in_slot (r % 8)) s.slots q (h.apart (r % 8)) e
    (eq-eqb (q.number % 8) (r % 8) (ap (λ n. n % 8) same)) in
    let away : q.number ≢ r = rw slot at other in
    absurd (away same)

pub none-numbered : (pool : Pool) (s : Session) (r : ℕ) → IsSession s
    → IfSome (newest r s) (λ q. q.number ≢ r) → find (is_request r) (shown pool s).slots ≡ None
none-numbered pool s r h other = numbered-shown pool s r None (other-cases s r _ h other refl)

pub own-numbered : (pool : Pool) (s : Session) (r : ℕ) (q : SlotRequest) → IsSession s
    → newest r s ≡ Some q → q.number ≡ r
    → find (is_request r) (shown pool s).slots ≡ Some (shown_request pool q)
own-numbered pool s r q h found same = numbered-shown pool s r (Some q) (by-number s r q h found same)

pub asked-none : (pool : Pool) (s : Session) (r : ℕ) → IsSession s
    → IfSome (newest r s) (λ q. q.number ≢ r)
    → [] ≡ bytes_taken (find (is_request r) (shown pool s).slots)
asked-none pool s r h other =
    rw (none-numbered pool s r h other) refl

pub asked-own : (pool : Pool) (s : Session) (r : ℕ) (q : SlotRequest) (p : ℕ) (b : Buffer)
    → IsSession s → newest r s ≡ Some q → q.number ≡ r → ask_of q.state ≡ Some p
    → buf_at pool p ≡ Some b
    → take (1024 * q.taken) (bytes_of b) ≡ bytes_taken (find (is_request r) (shown pool s).slots)
asked-own pool s r q p b h found same is there = rw (own-numbered pool s r q h found same, is, there) refl

-- its bytes went with a job
pub asked-gone : (pool : Pool) (s : Session) (r : ℕ) (q : SlotRequest) → IsSession s
    → newest r s ≡ Some q → q.number ≡ r → ask_of q.state ≡ None
    → [] ≡ bytes_taken (find (is_request r) (shown pool s).slots)
asked-gone pool s r q h found same is = rw (own-numbered pool s r q h found same, is) refl

-- its answer
pub answer-none : (pool : Pool) (s : Session) (r : ℕ) → IsSession s
    → IfSome (newest r s) (λ q. q.number ≢ r)
    → [] ≡ bytes_answered (find (is_request r) (shown pool s).slots)
answer-none pool s r h other = rw (none-numbered pool s r h other) refl

pub answer-placed : (o : Option Stored) (p : ℕ) → option_map (λ a. a.place) o ≡ Some p
    → (a : Stored) × (o ≡ Some a) × (a.place ≡ p)
answer-placed None p e = cc
answer-placed (Some a) p e = let same : a.place ≡ p = cc in (a, refl, same)

pub answer-unplaced : (o : Option Stored) → option_map (λ a. a.place) o ≡ None → o ≡ None
answer-unplaced None e = refl
answer-unplaced (Some a) e = cc

pub answer-own : (pool : Pool) (s : Session) (r : ℕ) (q : SlotRequest) (p : ℕ) (b : Buffer)
    → IsSession s → newest r s ≡ Some q → q.number ≡ r
    → option_map (λ a. a.place) (answer_of q.state) ≡ Some p → buf_at pool p ≡ Some b
    → bytes_of b ≡ bytes_answered (find (is_request r) (shown pool s).slots)
answer-own pool s r q p b h found same is there =
    let (a, one, place) = answer-placed (answer_of q.state) p is in
    rw (own-numbered pool s r q h found same, one, place, there) refl

pub answer-later : (pool : Pool) (s : Session) (r : ℕ) (q : SlotRequest) → IsSession s
    → newest r s ≡ Some q → q.number ≡ r → answer_of q.state ≡ None
    → [] ≡ bytes_answered (find (is_request r) (shown pool s).slots)
answer-later pool s r q h found same is = rw (own-numbered pool s r q h found same, is) refl

-- whether it waits for a worker's answer
pub waiting-none : (pool : Pool) (s : Session) (r : ℕ) → IsSession s
    → IfSome (newest r s) (λ q. q.number ≢ r) → is_waiting r (shown pool s) ≡ false
waiting-none pool s r h other = rw (none-numbered pool s r h other) refl

pub waiting-own : (pool : Pool) (s : Session) (r : ℕ) (q : SlotRequest) → IsSession s
    → newest r s ≡ Some q → q.number ≡ r → is_waiting r (shown pool s) ≡ (is_at_work q.state)
waiting-own pool s r q h found same = rw (own-numbered pool s r q h found same) refl
