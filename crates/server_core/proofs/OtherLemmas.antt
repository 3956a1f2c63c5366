-- The places that a session doesn't name stay as they were.
use Rattle.std.proofs.Common.{◌≡◌, ◌≢◌, ℕ, ◌%◌, ◌≤◌, Bool, true, false, cond, Option, Some, None}
use Rattle.std.proofs.Common.{List, [], ◌∷◌, refl, sym, ap, ◌∙◌, arith}
use Rattle.std.specs.Prelude.{option_map}
use Rattle.std.specs.List.{find}
use Rattle.std.proofs.lemmas.List.Sums.{sum_by-append}
use Rattle.message_buffer.specs.Buffer.{Buffer}
use Rattle.buffer_pool.specs.Uses.{is_empty}
use Rattle.buffer_pool.specs.Pool.{Pool, buf_at, changed, emptied, filled, held, lowest_empty, use_at}
use Rattle.packet_header.specs.declared.packet.MessageHeader.{MessageHeader}
use Rattle.rpc_base.specs.Tables.{without_first}
use Rattle.server_core.specs.declared.slot.SlotRequest.{SlotRequest}
use Rattle.server_core.specs.declared.slot.Stored.{Stored}
use Rattle.server_core.specs.KeepsPool.{LeavesOthers, answer_names, ask_names, names, own_names}
use Rattle.server_core.specs.Replies.{held_at, place_of}
use Rattle.server_core.specs.Serving.{all_given_up, begun, first_given, first_taken, given_up}
use Rattle.server_core.specs.Serving.{gone_on, last_given, next_taken, without_answer, without_ask}
use Rattle.server_core.specs.Serving.{without_buffers}
use Rattle.server_core.specs.Session.{Session, answer_of, ask_of, is_in_slot, newest}
use Rattle.server_core.proofs.PoolLemmas.{ChangesOne, ask-away as away-ask, names-cons, one-changed}
use Rattle.server_core.proofs.PoolLemmas.{one-emptied, one-filled, one-held}
use Rattle.buffer_pool.proofs.PlacesLemmas.{lowest-empty, unnamed-cases, unnamed-one}
use Rattle.rpc_base.proofs.ChangedLemmas.{sum-changed, sum-without}

-- one place is as it was
pub record IsSame (p : ℕ) (pool new : Pool) : Type 0 where
  pub use_is : use_at new p ≡ use_at pool p
  pub buf_is : buf_at new p ≡ buf_at pool p

pub same-kept : (p : ℕ) (pool : Pool) → IsSame p pool pool
same-kept p pool = record { use_is = refl; buf_is = refl }

pub same-one : (p k : ℕ) (pool new : Pool) → ChangesOne k pool new → p ≢ k → IsSame p pool new
same-one p k pool new one other = record { use_is = one.other_uses p other; buf_is = one.other_bufs p other }

pub same-then : (p : ℕ) (a b c : Pool) → IsSame p a b → IsSame p b c → IsSame p a c
same-then p a b c first second =
    record { use_is = second.use_is ∙ first.use_is; buf_is = second.buf_is ∙ first.buf_is }

-- a place with a use isn't the lowest empty one
pub not-lowest : (pool : Pool) (p k : ℕ) → is_empty (use_at pool p) ≡ false → lowest_empty pool ≡ Some k → p ≢ k
not-lowest pool p k used lowest = λ same.
    let empty : is_empty (use_at pool p) ≡ true =
    ap (λ n. is_empty (use_at pool n)) same ∙ lowest-empty pool k lowest in cc

pub still-used : (p : ℕ) (pool new : Pool) → IsSame p pool new → is_empty (use_at pool p) ≡ false
    → is_empty (use_at new p) ≡ false
still-used p pool new same used = ap is_empty same.use_is ∙ used

-- the places of a request that doesn't name this one
pub ask-away : (p : ℕ) (q : SlotRequest) (a : ℕ) → own_names p q ≡ 0 → ask_of q.state ≡ Some a → p ≢ a
ask-away p q a e is = λ same.
    let none : ask_names p (Some a) ≡ 0 = ap (ask_names p) (sym is) ∙ omega (arith, e) in
    away-ask a p none (sym same)

pub answer-away : (p : ℕ) (q : SlotRequest) (a : Stored) → own_names p q ≡ 0
    → answer_of q.state ≡ Some a → p ≢ a.place
answer-away p q a e is = λ same.
    let none : answer_names p (Some a) ≡ 0 = ap (answer_names p) (sym is) ∙ omega (arith, e) in
    unnamed-cases a.place p _ refl none (sym same)

-- one place of a session's requests
pub found-names : (p : ℕ) (test : SlotRequest → Bool) (slots : List SlotRequest) (q : SlotRequest)
    → find test slots ≡ Some q → names p slots ≡ 0 → own_names p q ≡ 0
found-names p test slots q e none = omega (arith, sum-without test q (own_names p) slots e, none)

less-cons : (p : ℕ) (test : SlotRequest → Bool) (y : SlotRequest) (ys : List SlotRequest) (b : Bool)
    → names p (without_first test ys) ≤ names p ys
    → names p (cond b ys (y ∷ without_first test ys)) ≤ names p (y ∷ ys)
less-cons p test y ys true ih = omega (arith, names-cons p y ys)
less-cons p test y ys false ih = omega (arith, names-cons p y ys, names-cons p y (without_first test ys), ih)

names-less : (p : ℕ) (test : SlotRequest → Bool) (slots : List SlotRequest)
    → names p (without_first test slots) ≤ names p slots
names-less p test [] = omega arith
names-less p test (y ∷ ys) = less-cons p test y ys (test y) (names-less p test ys)

-- the older request of a slot is given up
module _ (p : ℕ) (pool : Pool) where
  ask-same : (q : SlotRequest) (o : Option ℕ) → own_names p q ≡ 0 → ask_of q.state ≡ o
      → IsSame p pool (without_ask o pool)
  ask-same q None e is = same-kept p pool
  ask-same q (Some a) e is = same-one p a pool (emptied a pool) (one-emptied a pool) (ask-away p q a e is)

  answer-same : (new : Pool) (q : SlotRequest) (o : Option Stored) → own_names p q ≡ 0
      → answer_of q.state ≡ o → IsSame p new (without_answer o new)
  answer-same new q None e is = same-kept p new
  answer-same new q (Some a) e is =
      same-one p a.place new (emptied a.place new) (one-emptied a.place new)
      (answer-away p q a e is)

  one-same : (q : SlotRequest) → own_names p q ≡ 0 → IsSame p pool (without_buffers q pool)
  one-same q own = same-then p pool (without_ask (ask_of q.state) pool) (without_buffers q pool)
      (ask-same q (ask_of q.state) own refl)
      (answer-same (without_ask (ask_of q.state) pool) q (answer_of q.state) own refl)

  pub given-cases : (test : SlotRequest → Bool) (slots : List SlotRequest) (o : Option SlotRequest)
      → find test slots ≡ o → names p slots ≡ 0 → IsSame p pool (given_up o pool)
  given-cases test slots None e none = same-kept p pool
  given-cases test slots (Some q) e none =
      one-same q (found-names p test slots q e none)

-- all requests of a session are
all-same : (p : ℕ) (pool : Pool) (slots : List SlotRequest) → names p slots ≡ 0
    → IsSame p pool (all_given_up slots pool)
all-same p pool [] none = same-kept p pool
all-same p pool (q ∷ qs) none =
    let parts = names-cons p q qs in
    same-then p pool (without_buffers q pool) (all_given_up qs (without_buffers q pool))
    (one-same p pool q (omega (arith, parts, none)))
    (all-same p (without_buffers q pool) qs (omega (arith, parts, none)))

pub all-others : (pool : Pool) (slots : List SlotRequest)
    → LeavesOthers slots [] pool (all_given_up slots pool)
all-others pool slots = λ p none used.
    let same = all-same p pool slots none in (refl, same.use_is, same.buf_is)

-- a request begins
pub begun-names : (p : ℕ) (slots : List SlotRequest) (d : SlotRequest) → names p slots ≡ 0
    → own_names p d ≡ 0 → names p (begun d slots) ≡ 0
begun-names p slots d none own =
    omega (
      arith,
      sum_by-append (own_names p) (without_first (is_in_slot (d.number % 8)) slots)
          (d ∷ []),
      names-cons p d [],
      names-less p (is_in_slot (d.number % 8)) slots,
      none,
      own,
    )

-- one of its only packet goes to a worker
pub given-others : (pool : Pool) (s : Session) (head : MessageHeader)
    → LeavesOthers s.slots (begun (first_given head) s.slots) pool
    (given_up (newest head.request s) pool)
given-others pool s head = λ p none used.
    let same = given-cases p pool (is_in_slot (head.request % 8)) s.slots (newest head.request s) refl none in
    (begun-names p s.slots (first_given head) none refl, same.use_is, same.buf_is)

module _ (pool : Pool) (s : Session) (head : MessageHeader) (k : ℕ) (b : Buffer)
    (lowest : lowest_empty (given_up (newest head.request s) pool) ≡ Some k) where
  abbrev given : Pool
  given = given_up (newest head.request s) pool

  given-same : (p : ℕ) → names p s.slots ≡ 0 → IsSame p pool given
  given-same p none = given-cases p pool (is_in_slot (head.request % 8)) s.slots (newest head.request s) refl none

  asked-away : (p : ℕ) → names p s.slots ≡ 0 → is_empty (use_at pool p) ≡ false → p ≢ k
  asked-away p none used = not-lowest given p k (still-used p pool given (given-same p none) used) lowest

  asked-same : (p : ℕ) → names p s.slots ≡ 0 → is_empty (use_at pool p) ≡ false → IsSame p pool (filled k b given)
  asked-same p none used =
      same-then p pool given (filled k b given) (given-same p none)
      (same-one p k given (filled k b given) (one-filled k b given) (asked-away p none used))

  pub first-others : LeavesOthers s.slots (begun (first_taken head k) s.slots) pool (filled k b given)
  first-others = λ p none used.
      let same = asked-same p none used in
      let off = unnamed-one k p (λ e. asked-away p none used (sym e)) in
      (begun-names p s.slots (first_taken head k) none (omega (arith, off)), same.use_is, same.buf_is)

-- a request goes on
gone-names : (p : ℕ) (slots : List SlotRequest) (q d : SlotRequest)
    → find (is_in_slot (d.number % 8)) slots ≡ Some q → names p slots ≡ 0 → own_names p d ≡ 0
    → names p (gone_on d slots) ≡ 0
gone-names p slots q d e none own =
    omega (
      arith,
      sum-changed (is_in_slot (d.number % 8)) q (own_names p) (λ x. d) slots e,
      none,
      own,
    )

held-same : (p : ℕ) (pool : Pool) (q : SlotRequest) (o : Option Stored) (b : Bool)
    → own_names p q ≡ 0 → answer_of q.state ≡ o
    → IsSame p pool (held_at (cond b None (option_map (λ a. a.place) o)) pool)
held-same p pool q o true own is = same-kept p pool
held-same p pool q None false own is = same-kept p pool
held-same p pool q (Some a) false own is =
    same-one p a.place pool (held a.place pool) (one-held a.place pool) (answer-away p q a own is)

module _ (pool : Pool) (s : Session) (q : SlotRequest) (r : ℕ) (found : newest r s ≡ Some q) where
  own-none : (p : ℕ) → names p s.slots ≡ 0 → own_names p q ≡ 0
  own-none p none = found-names p (is_in_slot (r % 8)) s.slots q found none

  -- a place of its answer is held
  pub held-others : (k : ℕ) → LeavesOthers s.slots s.slots pool (held_at (place_of q k) pool)
  held-others k = λ p none used.
      let same = held-same p pool q (answer_of q.state) _ (own-none p none) refl in
      (none, same.use_is, same.buf_is)

  -- its bytes are written
  pub part-others : (a : ℕ) → ask_of q.state ≡ Some a → (b : Buffer)
      → LeavesOthers s.slots s.slots pool (changed a b pool)
  part-others a is b = λ p none used.
      let same = same-one p a pool (changed a b pool) (one-changed a b pool) (ask-away p q a (own-none p none) is) in
      (none, same.use_is, same.buf_is)

  -- it goes to a worker, with its bytes
  pub last-given-others : q.number ≡ r → answer_of q.state ≡ None → (a : ℕ)
      → ask_of q.state ≡ Some a
      → LeavesOthers s.slots (gone_on (last_given q) s.slots) pool (emptied a pool)
  last-given-others number none_yet a is = λ p none used.
      let own = own-none p none in
      let same = same-one p a pool (emptied a pool) (one-emptied a pool) (ask-away p q a own is) in
      let at : find (is_in_slot (q.number % 8)) s.slots ≡ Some q = ap (λ n. newest n s) number ∙ found in
      (gone-names p s.slots q (last_given q) at none (omega (arith, own)), same.use_is, same.buf_is)

  pub next-others : q.number ≡ r → (k : ℕ)
      → LeavesOthers s.slots (gone_on (next_taken q) s.slots) pool (held_at (place_of q k) pool)
  next-others number k = λ p none used.
      let own = own-none p none in
      let same = held-same p pool q (answer_of q.state) _ own refl in
      let at : find (is_in_slot (q.number % 8)) s.slots ≡ Some q = ap (λ n. newest n s) number ∙ found in
      (gone-names p s.slots q (next_taken q) at none own, same.use_is, same.buf_is)

  -- its answer is there
  pub last-others : (d : SlotRequest) → q.number ≡ r → d.number ≡ q.number
      → ask_of d.state ≡ (ask_of q.state) → (j : ℕ) → (b : Buffer) → (a : Stored)
      → answer_of d.state ≡ Some a → lowest_empty pool ≡ Some j → a.place ≡ j
      → LeavesOthers s.slots (gone_on d s.slots) pool (held a.place (filled j b pool))
  last-others d number same_number asked j b a is lowest place = λ p none used.
      let own = own-none p none in
      let away = not-lowest pool p j used lowest in
      let apart : p ≢ a.place = λ e. away (e ∙ place) in
      let first = same-one p j pool (filled j b pool) (one-filled j b pool) away in
      let same = same-then p pool (filled j b pool)
      (held a.place (filled j b pool)) first
      (same-one p a.place (filled j b pool) (held a.place (filled j b pool))
      (one-held a.place (filled j b pool)) apart) in
      let out : answer_names p (answer_of d.state) ≡ 0 =
      ap (answer_names p) is ∙ unnamed-one a.place p (λ e. apart (sym e)) in
      let at : find (is_in_slot (d.number % 8)) s.slots ≡ Some q =
      ap (λ n. newest n s) (same_number ∙ number) ∙ found in
      (gone-names p s.slots q d at none (omega (arith, own, out, ap (ask_names p) asked)), same.use_is, same.buf_is)

-- two calls of a session, one after the other
pub others-then : (old middle new : List SlotRequest) (a b c : Pool) → LeavesOthers old middle a b
    → LeavesOthers middle new b c → LeavesOthers old new a c
others-then old middle new a b c first second = λ p none used.
    let one = first p none used in
    let two = second p one.0 (ap is_empty one.1 ∙ used) in
    (two.0, two.1 ∙ one.1, two.2 ∙ one.2)
