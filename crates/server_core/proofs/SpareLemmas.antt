-- A session's places are taken from the spare ones, and given back.
use Rattle.std.proofs.Common.{◌≡◌, ℕ, ◌+◌, ◌*◌, ◌%◌, ◌≤◌, Bool, true, false, cond, Option, Some}
use Rattle.std.proofs.Common.{None, List, [], ◌∷◌, length, refl, ap, ◌∙◌, arith}
use Rattle.std.specs.Prelude.{IfSome, option_map}
use Rattle.std.specs.List.{AllByRecursion, find}
use Rattle.std.proofs.lemmas.List.Sums.{sum_by-append, sum_by-cons, sum_by-set}
use Rattle.message_buffer.specs.Buffer.{Buffer}
use Rattle.buffer_pool.specs.declared.usage.Use.TheVariants.{Empty, Full}
use Rattle.buffer_pool.specs.Uses.{is_empty, is_full}
use Rattle.buffer_pool.specs.Pool.{Pool, IsFull, emptied, filled, held, lowest_empty, refs_of, spare_of, use_at}
use Rattle.buffer_pool.proofs.PoolLemmas.{changed_own, full_within}
use Rattle.packet_header.specs.declared.packet.MessageHeader.{MessageHeader}
use Rattle.rpc_base.specs.Tables.{without_first}
use Rattle.server_core.specs.declared.slot.SlotRequest.{SlotRequest}
use Rattle.server_core.specs.declared.slot.Stored.{Stored}
use Rattle.server_core.specs.KeepsPool.{IsKept, IsStored, KeepsPool, KeepsSpare, answer_places}
use Rattle.server_core.specs.KeepsPool.{ask_places, own_places, places}
use Rattle.server_core.specs.Replies.{held_at, place_of}
use Rattle.server_core.specs.Serving.{begun, first_given, first_taken, given_up, gone_on}
use Rattle.server_core.specs.Serving.{IsUnheld, all_given_up, last_given, next_taken}
use Rattle.server_core.specs.Serving.{without_answer, without_ask, without_buffers}
use Rattle.server_core.specs.Session.{IsSession, Session, answer_of, ask_of, is_in_slot, newest}
use Rattle.server_core.proofs.ChangedLemmas.{without-none}
use Rattle.server_core.proofs.GivenLemmas.{answer-full, ask-full, front-beside, unheld-rest}
use Rattle.server_core.proofs.PlaceLemmas.{gone-keeps, lowest-within, taken-out}
use Rattle.server_core.proofs.SlotLemmas.{most-slots}
use Rattle.rpc_base.proofs.FirstLemmas.{found-holds}
use Rattle.buffer_pool.proofs.CountLemmas.{spare_filled, full_used}
use Rattle.rpc_base.proofs.ChangedLemmas.{sum-changed, sum-without}

pub spare-emptied : (pool : Pool) (p : ℕ) → IsFull pool p → spare_of (emptied p pool) ≡ spare_of pool + 1
spare-emptied pool p full =
    omega (
      arith,
      sum_by-set (λ u. cond {A = ℕ} (is_empty u) 1 0) pool.uses p Empty Empty
          (full_within pool.uses p full),
      full_used (use_at pool p) full,
    )

pub spare-held : (pool : Pool) (p : ℕ) → IsFull pool p → spare_of (held p pool) ≡ spare_of pool
spare-held pool p full =
    omega (
      arith,
      sum_by-set (λ u. cond {A = ℕ} (is_empty u) 1 0) pool.uses p
          (Full (refs_of pool p + 1)) Empty (full_within pool.uses p full),
      full_used (use_at pool p)
          full,
    )

-- the older request of a slot is given up
spare-answer : (pool : Pool) (o : Option Stored) → IfSome o (λ a. IsFull pool a.place)
    → spare_of (without_answer o pool) ≡ spare_of pool + answer_places o
spare-answer pool None full = omega arith
spare-answer pool (Some a) full = spare-emptied pool a.place full

spare-ask : (pool : Pool) (o : Option ℕ) → IfSome o (IsFull pool)
    → spare_of (without_ask o pool) ≡ spare_of pool + ask_places o
spare-ask pool None full = omega arith
spare-ask pool (Some p) full = spare-emptied pool p full

given-cases : (test : SlotRequest → Bool) (pool : Pool) (slots : List SlotRequest)
    (o : Option SlotRequest) → KeepsPool pool slots → find test slots ≡ o
    → spare_of (given_up o pool) + places (without_first test slots) ≡ spare_of pool + places slots
given-cases test pool slots None keeps e = rw (without-none test slots e) refl
given-cases test pool slots (Some q) keeps e =
    let beside = taken-out pool test slots q e keeps in
    let asked = spare-ask pool (ask_of q.state) (ask-full pool q.size (ask_of q.state) beside.own.ask).0 in
    let answer = spare-answer (without_ask (ask_of q.state) pool) (answer_of q.state)
    (answer-full pool q (without_first test slots) beside) in
    omega (arith, asked, answer, sum-without test q own_places slots e)

-- all requests of a session are
pub all-spare : (pool : Pool) (slots : List SlotRequest) → KeepsPool pool slots
    → AllByRecursion (IsUnheld pool) slots → KeepsSpare slots [] pool (all_given_up slots pool)
all-spare pool [] keeps unheld = refl
all-spare pool (q ∷ qs) keeps unheld =
    let beside = front-beside pool q qs keeps in
    let asked = spare-ask pool (ask_of q.state) (ask-full pool q.size (ask_of q.state) beside.own.ask).0 in
    let answer = spare-answer (without_ask (ask_of q.state) pool) (answer_of q.state)
    (answer-full pool q qs beside) in
    omega (
      arith,
      asked,
      answer,
      sum_by-cons own_places q qs,
      all-spare (without_buffers q pool) qs (gone-keeps pool q qs beside)
          (unheld-rest pool q qs beside unheld.1),
    )

-- a request begins
pub begun-places : (slots : List SlotRequest) (d : SlotRequest)
    → places (begun d slots) ≡ places (without_first (is_in_slot (d.number % 8)) slots) + own_places
    d
begun-places slots d =
    omega (
      arith,
      sum_by-append own_places (without_first (is_in_slot (d.number % 8)) slots)
          (d ∷ []),
      sum_by-cons own_places d [],
    )

pub first-given-spare : (pool : Pool) (s : Session) (head : MessageHeader) → KeepsPool pool s.slots
    → KeepsSpare s.slots (begun (first_given head) s.slots) pool
    (given_up (newest head.request s) pool)
first-given-spare pool s head keeps =
    omega (
      arith,
      given-cases (is_in_slot (head.request % 8)) pool s.slots (newest head.request s)
          keeps refl,
      begun-places s.slots (first_given head),
    )

module _ (pool : Pool) (s : Session) (head : MessageHeader) (k : ℕ) (b : Buffer)
    (keeps : KeepsPool pool s.slots) (lowest : lowest_empty (given_up (newest head.request s) pool)
    ≡ Some k) where
  abbrev given : Pool
  given = given_up (newest head.request s) pool

  pub first-spare : KeepsSpare s.slots (begun (first_taken head k) s.slots) pool (filled k b given)
  first-spare =
      omega (
        arith,
        given-cases (is_in_slot (head.request % 8)) pool s.slots (newest head.request s)
            keeps refl,
        spare_filled given k b lowest,
        begun-places s.slots (first_taken head k),
      )

-- a request goes on
held-cases : (pool : Pool) (o : Option Stored) (b : Bool) → IfSome o (IsStored pool)
    → spare_of (held_at (cond b None (option_map (λ a. a.place) o)) pool) ≡ spare_of pool
held-cases pool o true kept = refl
held-cases pool None false kept = refl
held-cases pool (Some a) false kept = spare-held pool a.place kept.full

module _ (pool : Pool) (s : Session) (q : SlotRequest) (r : ℕ) (keeps : KeepsPool pool s.slots)
    (found : newest r s ≡ Some q) where
  own-kept : IsKept pool q
  own-kept = found-holds (is_in_slot (r % 8)) (IsKept pool) s.slots q keeps.kept found

  pub held-spare : (k : ℕ) → KeepsSpare s.slots s.slots pool (held_at (place_of q k) pool)
  held-spare k = ap (λ n. n + places s.slots) (held-cases pool (answer_of q.state) _ own-kept.answer)

  pub next-spare : q.number ≡ r → (k : ℕ)
      → KeepsSpare s.slots (gone_on (next_taken q) s.slots) pool (held_at (place_of q k) pool)
  next-spare number k =
      let at : find (is_in_slot (q.number % 8)) s.slots ≡ Some q = ap (λ n. newest n s) number ∙ found in
      omega (arith, held-spare k, sum-changed (is_in_slot (q.number % 8)) q own_places (λ x. next_taken q) s.slots at)

  pub last-spare : (d : SlotRequest) → q.number ≡ r → d.number ≡ q.number
      → ask_of d.state ≡ (ask_of q.state) → answer_of q.state ≡ None
      → (j : ℕ) (b : Buffer) (a : Stored) → answer_of d.state ≡ Some a → lowest_empty pool ≡ Some j
      → a.place ≡ j → KeepsSpare s.slots (gone_on d s.slots) pool (held a.place (filled j b pool))
  last-spare d number same asked none j b a is lowest place =
      let at : find (is_in_slot (d.number % 8)) s.slots ≡ Some q = ap (λ n. newest n s) (same ∙ number) ∙ found in
      let full : IsFull (filled j b pool) a.place =
      rw place (ap is_full (changed_own pool.uses j (Full 0) Empty
      (lowest-within pool j lowest))) in
      omega (
        arith,
        spare_filled pool j b lowest,
        spare-held (filled j b pool) a.place full,
        sum-changed (is_in_slot (d.number % 8)) q own_places (λ x. d) s.slots at,
        ap answer_places
            none,
        ap answer_places is,
        ap ask_places asked,
      )

  -- it goes to a worker, with its bytes
  pub last-given-spare : q.number ≡ r → answer_of q.state ≡ None → (p : ℕ) → ask_of q.state ≡ Some p
      → IsFull pool p → KeepsSpare s.slots (gone_on (last_given q) s.slots) pool (emptied p pool)
  last-given-spare number none p is full =
      let at : find (is_in_slot (q.number % 8)) s.slots ≡ Some q = ap (λ n. newest n s) number ∙ found in
      omega (
        arith,
        spare-emptied pool p full,
        sum-changed (is_in_slot (q.number % 8)) q own_places (λ x. last_given q) s.slots at,
        ap
            answer_places none,
        ap ask_places is,
      )

-- a session has at most sixteen places
ask-most : (o : Option ℕ) → ask_places o ≤ 1
ask-most None = omega arith
ask-most (Some p) = omega arith

answer-most : (o : Option Stored) → answer_places o ≤ 1
answer-most None = omega arith
answer-most (Some a) = omega arith

twice-most : (slots : List SlotRequest) → places slots ≤ 2 * length slots
twice-most [] = omega arith
twice-most (q ∷ qs) =
    omega (
      arith,
      sum_by-cons own_places q qs,
      ask-most (ask_of q.state),
      answer-most (answer_of q.state),
      twice-most qs,
    )

pub places-most : (s : Session) → IsSession s → places s.slots ≤ 16
places-most s h = omega (arith, twice-most s.slots, most-slots s h)
