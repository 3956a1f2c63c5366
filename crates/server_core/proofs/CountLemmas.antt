-- The references to the places of a pool, once a request or a whole session is given up.
use Rattle.server_core.specs.Session.{ask_of, answer_of}
use Rattle.std.proofs.Common.{◌≡◌, ℕ, Bool, Option, Some, None, List, [], ◌∷◌, refl, ◌∙◌}
use Rattle.std.specs.Prelude.{IfSome}
use Rattle.std.specs.List.{AllByRecursion, find}
use Rattle.buffer_pool.specs.Pool.{Pool, IsFull, refs_of}
use Rattle.buffer_pool.proofs.CountLemmas.{refs_emptied}
use Rattle.server_core.specs.declared.slot.SlotRequest.{SlotRequest}
use Rattle.server_core.specs.declared.slot.Stored.{Stored}
use Rattle.server_core.specs.KeepsPool.{KeepsPool}
use Rattle.server_core.specs.Serving.{IsUnheld, all_given_up, given_up, without_answer, without_ask, without_buffers}
use Rattle.server_core.proofs.GivenLemmas.{answer-full, answer-unheld, ask-full, front-beside, unheld-rest}
use Rattle.server_core.proofs.PlaceLemmas.{IsBeside, gone-keeps, taken-out}

-- a request is given up
ask-refs : (pool : Pool) (p : ℕ) (o : Option ℕ) → IfSome o (IsFull pool)
    → IfSome o (λ k. refs_of pool k ≡ 0) → refs_of (without_ask o pool) p ≡ refs_of pool p
ask-refs pool p None full none = refl
ask-refs pool p (Some k) full none = refs_emptied pool k p full none

answer-refs : (pool : Pool) (p : ℕ) (o : Option Stored) → IfSome o (λ a. IsFull pool a.place)
    → IfSome o (λ a. refs_of pool a.place ≡ 0)
    → refs_of (without_answer o pool) p ≡ refs_of pool p
answer-refs pool p None full none = refl
answer-refs pool p (Some a) full none = refs_emptied pool a.place p full none

gone-refs : (pool : Pool) (p : ℕ) (q : SlotRequest) (rest : List SlotRequest)
    → IsBeside pool q rest → IsUnheld pool q → refs_of (without_buffers q pool) p ≡ refs_of pool p
gone-refs pool p q rest beside unheld =
    let ask = ask-full pool q.size (ask_of q.state) beside.own.ask in
    answer-refs (without_ask (ask_of q.state) pool) p (answer_of q.state)
    (answer-full pool q rest beside) (answer-unheld pool q rest beside unheld)
    ∙ ask-refs pool p (ask_of q.state) ask.0 ask.1

given-cases : (test : SlotRequest → Bool) (pool : Pool) (slots : List SlotRequest) (p : ℕ)
    (o : Option SlotRequest) → find test slots ≡ o → KeepsPool pool slots → IfSome o (IsUnheld pool)
    → refs_of (given_up o pool) p ≡ refs_of pool p
given-cases test pool slots p None e keeps unheld = refl
given-cases test pool slots p (Some q) e keeps unheld =
    gone-refs pool p q _ (taken-out pool test slots q e keeps) unheld

pub given-refs : (test : SlotRequest → Bool) (pool : Pool) (slots : List SlotRequest) (p : ℕ)
    → KeepsPool pool slots → IfSome (find test slots) (IsUnheld pool)
    → refs_of (given_up (find test slots) pool) p ≡ refs_of pool p
given-refs test pool slots p keeps unheld =
    given-cases test pool slots p (find test slots) refl keeps unheld

-- a whole session is
pub all-refs : (pool : Pool) (slots : List SlotRequest) (p : ℕ) → KeepsPool pool slots
    → AllByRecursion (IsUnheld pool) slots → refs_of (all_given_up slots pool) p ≡ refs_of pool p
all-refs pool [] p keeps unheld = refl
all-refs pool (q ∷ qs) p keeps unheld =
    let beside = front-beside pool q qs keeps in
    all-refs (without_buffers q pool) qs p (gone-keeps pool q qs beside)
    (unheld-rest pool q qs beside unheld.1) ∙ gone-refs pool p q qs beside unheld.0
