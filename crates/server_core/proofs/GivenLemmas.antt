-- The older request of a slot is given up.
use Rattle.server_core.specs.Session.{ask_of, answer_of}
use Rattle.std.proofs.Common.{◌≡◌, ℕ, suc, add-one, drop, drop-cons, ◌+◌, ◌<◌, ◌≤◌, Bool, true}
use Rattle.std.proofs.Common.{false, cond, Option, Some, None, List, [], ◌∷◌, length, get_or, set}
use Rattle.std.proofs.Common.{refl, sym, ap, ◌∙◌, inl, inr, arith}
use Rattle.std.specs.Prelude.{IfSome, map}
use Rattle.std.specs.List.{AllByRecursion, find}
use Rattle.std.proofs.lemmas.Bool.{cases_lt}
use Rattle.std.proofs.lemmas.List.{set_past}
use Rattle.std.proofs.lemmas.List.Sums.{sum_by-set}
use Rattle.buffer_pool.specs.declared.usage.Use.TheVariants.{Empty}
use Rattle.buffer_pool.specs.Uses.{is_empty, is_full, refs_in}
use Rattle.buffer_pool.specs.Pool.{Pool, IsFull, buf_at, emptied, refs_of, spare_of, use_at}
use Rattle.rpc_base.specs.Tables.{without_first}
use Rattle.server_core.specs.declared.slot.SlotRequest.{SlotRequest}
use Rattle.server_core.specs.declared.slot.Stored.{Stored}
use Rattle.server_core.specs.Homes.{HasOwn}
use Rattle.server_core.specs.KeepsPool.{IsAsked, IsKept, IsStored, KeepsPool, answer_names}
use Rattle.server_core.specs.KeepsPool.{ask_names, names, own_names}
use Rattle.server_core.specs.Serving.{IsUnheld, given_up, without_answer, without_ask, without_buffers}
use Rattle.server_core.specs.Shown.{shown_request}
use Rattle.server_core.proofs.ChangedLemmas.{without-none}
use Rattle.server_core.proofs.PlaceLemmas.{IsBeside, answer-apart, ask-apart, gone-keeps, gone-same, taken-out}
use Rattle.server_core.proofs.PoolLemmas.{ChangesOne, ask-away, names-cons, one-emptied}
use Rattle.buffer_pool.proofs.PlacesLemmas.{unnamed-cases}

-- no place fewer is spare
spare-emptied : (pool : Pool) (p : ℕ) → spare_of pool ≤ spare_of (emptied p pool)
spare-emptied pool p = elim (cases_lt p (length pool.uses)) [
  | inl within ↦ omega (
    arith,
    sum_by-set (λ u. cond {A = ℕ} (is_empty u) 1 0) pool.uses p Empty
        Empty within,
    one-most (is_empty (get_or pool.uses p Empty)),
  )
  | inr past ↦ (let same : set pool.uses p Empty ≡ pool.uses = set_past pool.uses p Empty past in rw same (omega arith))
]
  where
    one-most : (t : Bool) → cond {A = ℕ} t 1 0 ≤ 1
    one-most true = omega arith
    one-most false = omega arith

spare-answer : (pool : Pool) (o : Option Stored) → spare_of pool ≤ spare_of (without_answer o pool)
spare-answer pool None = omega arith
spare-answer pool (Some a) = spare-emptied pool a.place

spare-ask : (pool : Pool) (o : Option ℕ) → spare_of pool ≤ spare_of (without_ask o pool)
spare-ask pool None = omega arith
spare-ask pool (Some p) = spare-emptied pool p

pub spare-given : (pool : Pool) (o : Option SlotRequest) → spare_of pool ≤ spare_of (given_up o pool)
spare-given pool None = omega arith
spare-given pool (Some q) =
    omega (
      arith,
      spare-ask pool (ask_of q.state),
      spare-answer (without_ask (ask_of q.state) pool) (answer_of q.state),
    )

-- the others keep the pool, and show the same
module _ (test : SlotRequest → Bool) (pool : Pool) (slots : List SlotRequest) (keeps : KeepsPool pool slots) where
  keeps-cases : (o : Option SlotRequest) → find test slots ≡ o
      → KeepsPool (given_up o pool) (without_first test slots)
  keeps-cases None e = rw (without-none test slots e) keeps
  keeps-cases (Some q) e = gone-keeps pool q (without_first test slots) (taken-out pool test slots q e keeps)

  same-cases : (o : Option SlotRequest) → find test slots ≡ o
      → map (shown_request (given_up o pool)) (without_first test slots)
      ≡ map (shown_request pool) (without_first test slots)
  same-cases None e = refl
  same-cases (Some q) e = gone-same pool q (without_first test slots) (taken-out pool test slots q e keeps)

  pub given-keeps : KeepsPool (given_up (find test slots) pool) (without_first test slots)
  given-keeps = keeps-cases (find test slots) refl

  pub given-same : map (shown_request (given_up (find test slots) pool)) (without_first test slots)
      ≡ map (shown_request pool) (without_first test slots)
  given-same = same-cases (find test slots) refl

-- the answer of a request whose bytes are given up is there still
use-kept : (p : ℕ) (o : Option ℕ) (pool : Pool) → ask_names p o ≡ 0 → use_at (without_ask o pool) p ≡ use_at pool p
use-kept p None pool e = refl
use-kept p (Some a) pool e = (one-emptied a pool).other_uses p (λ same. ask-away a p e (sym same))

pub answer-full : (pool : Pool) (q : SlotRequest) (rest : List SlotRequest) → IsBeside pool q rest
    → IfSome (answer_of q.state) (λ a. IsFull (without_ask (ask_of q.state) pool) a.place)
answer-full pool q rest beside =
    by (answer_of q.state) (λ a is. (answer-apart pool q a rest beside is).1) beside.own.answer
  where
    by : (o : Option Stored) → ((a : Stored) → o ≡ Some a → ask_names a.place (ask_of q.state) ≡ 0)
        → IfSome o (IsStored pool)
        → IfSome o (λ a. IsFull (without_ask (ask_of q.state) pool) a.place)
    by None other kept = tt
    by (Some a) other kept = ap is_full (use-kept a.place (ask_of q.state) pool (other a refl)) ∙ kept.full

pub answer-unheld : (pool : Pool) (q : SlotRequest) (rest : List SlotRequest) → IsBeside pool q rest
    → IsUnheld pool q → IfSome (answer_of q.state)
    (λ a. refs_of (without_ask (ask_of q.state) pool) a.place ≡ 0)
answer-unheld pool q rest beside unheld =
    by (answer_of q.state) (λ a is. (answer-apart pool q a rest beside is).1) unheld
  where
    by : (o : Option Stored) → ((a : Stored) → o ≡ Some a → ask_names a.place (ask_of q.state) ≡ 0)
        → IfSome o (λ a. refs_of pool a.place ≡ 0)
        → IfSome o (λ a. refs_of (without_ask (ask_of q.state) pool) a.place ≡ 0)
    by None other none = tt
    by (Some a) other none = ap refs_in (use-kept a.place (ask_of q.state) pool (other a refl)) ∙ none

-- and its buffer
buf-kept : (p : ℕ) (o : Option ℕ) (pool : Pool) → ask_names p o ≡ 0 → buf_at (without_ask o pool) p ≡ buf_at pool p
buf-kept p None pool e = refl
buf-kept p (Some a) pool e = (one-emptied a pool).other_bufs p (λ same. ask-away a p e (sym same))

pub answer-own : (pool : Pool) (q : SlotRequest) (rest : List SlotRequest) → IsBeside pool q rest
    → IfSome (answer_of q.state)
    (λ a. a.own ≡ true → HasOwn true (buf_at (without_ask (ask_of q.state) pool) a.place))
answer-own pool q rest beside =
    by (answer_of q.state) (λ a is. (answer-apart pool q a rest beside is).1) beside.own.answer
  where
    by : (o : Option Stored) → ((a : Stored) → o ≡ Some a → ask_names a.place (ask_of q.state) ≡ 0)
        → IfSome o (IsStored pool)
        → IfSome o (λ a. a.own ≡ true → HasOwn true (buf_at (without_ask (ask_of q.state) pool) a.place))
    by None other kept = tt
    by (Some a) other kept = rw (buf-kept a.place (ask_of q.state) pool (other a refl)) kept.own

-- its own place is full, and no entry names it
pub ask-full : (pool : Pool) (size : ℕ) (o : Option ℕ) → IfSome o (IsAsked pool size)
    → IfSome o (IsFull pool) × IfSome o (λ p. refs_of pool p ≡ 0)
ask-full pool size None kept = (tt, tt)
ask-full pool size (Some p) kept = (kept.full, kept.unnamed)

-- a request by itself
pub alone : (pool : Pool) (q : SlotRequest) → IsKept pool q → ((p : ℕ) → own_names p q ≤ 1) → IsBeside pool q []
alone pool q kept apart = record {
  own = kept;
  others = record { kept = tt; apart = λ p. omega arith };
  apart = λ p. omega (arith, apart p);
}

-- the front one of a session's requests
pub front-beside : (pool : Pool) (q : SlotRequest) (rest : List SlotRequest)
    → KeepsPool pool (q ∷ rest) → IsBeside pool q rest
front-beside pool q rest keeps = record {
  own = keeps.kept.0;
  others = record { kept = keeps.kept.1; apart = λ p. omega (arith, keeps.apart p, names-cons p q rest) };
  apart = λ p. omega (arith, keeps.apart p, names-cons p q rest);
}

-- the others are unheld as before, once it is given up
unheld-off : (p : ℕ) (pool new : Pool) (q : SlotRequest) → ChangesOne p pool new → own_names p q ≡ 0
    → IsUnheld pool q → IsUnheld new q
unheld-off p pool new q one e unheld = by (answer_of q.state) (omega (arith, e)) unheld
  where
    by : (o : Option Stored) → answer_names p o ≡ 0 → IfSome o (λ a. refs_of pool a.place ≡ 0)
        → IfSome o (λ a. refs_of new a.place ≡ 0)
    by None none free = tt
    by (Some a) none free = ap refs_in (one.other_uses a.place (unnamed-cases a.place p _ refl none)) ∙ free

unheld-all : (p : ℕ) (pool new : Pool) (qs : List SlotRequest) → ChangesOne p pool new
    → names p qs ≡ 0 → AllByRecursion (IsUnheld pool) qs → AllByRecursion (IsUnheld new) qs
unheld-all p pool new [] one e all = tt
unheld-all p pool new (q ∷ qs) one e all =
    let sum = names-cons p q qs in (
      unheld-off p pool new q one (omega (arith, sum, e)) all.0,
      unheld-all p pool new qs one (omega (arith, sum, e)) all.1,
    )

module _ (pool : Pool) (q : SlotRequest) (rest : List SlotRequest) (beside : IsBeside pool q rest)
    (unheld : AllByRecursion (IsUnheld pool) rest) where
  unheld-ask : (o : Option ℕ) → ask_of q.state ≡ o → AllByRecursion (IsUnheld (without_ask o pool)) rest
  unheld-ask None e = unheld
  unheld-ask (Some p) e =
      unheld-all p pool (emptied p pool) rest (one-emptied p pool)
      (ask-apart pool q p rest beside e) unheld

  abbrev unasked : Pool
  unasked = without_ask (ask_of q.state) pool

  unheld-answer : (o : Option Stored) → ((a : Stored) → o ≡ Some a → names a.place rest ≡ 0)
      → AllByRecursion (IsUnheld (without_answer o unasked)) rest
  unheld-answer None free = unheld-ask (ask_of q.state) refl
  unheld-answer (Some a) free =
      unheld-all a.place unasked (emptied a.place unasked) rest (one-emptied a.place unasked)
      (free a refl) (unheld-ask (ask_of q.state) refl)

  pub unheld-rest : AllByRecursion (IsUnheld (without_buffers q pool)) rest
  unheld-rest = unheld-answer (answer_of q.state) (λ a is. (answer-apart pool q a rest beside is).0)

-- the front one of those that are left
pub next-front : (items : List SlotRequest) (i : ℕ) (q : SlotRequest) → i < length items
    → q ≡ get_or items i q → drop i items ≡ q ∷ drop (i + 1) items
next-front items i q within is = rw add-one (drop-cons items i q within ∙ ap (λ x. x ∷ drop (suc i) items) (sym is))
