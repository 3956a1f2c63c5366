-- Places of a pool that calls and requests name, and what becomes of these where those stay as they were.
use Rattle.std.proofs.Common.{◌≡◌, ℕ, zero, suc, ◌+◌, ◌≤◌, Bool, true, false, cond, eqb, Option}
use Rattle.std.proofs.Common.{Some, None, List, [], ◌∷◌, refl, ap, ◌∙◌, arith}
use Rattle.std.specs.Prelude.{IfSome, map, option_map}
use Rattle.std.specs.List.{AllByRecursion}
use Rattle.std.proofs.lemmas.Bool.{eqb-true}
use Rattle.std.proofs.lemmas.List.Sums.{sum_by-cons}
use Rattle.buffer_pool.specs.Uses.{is_full, refs_in}
use Rattle.buffer_pool.specs.Pool.{Pool, IsFull, buf_at, use_at}
use Rattle.buffer_pool.proofs.PlacesLemmas.{named-one}
use Rattle.client_core.specs.declared.call.ActiveCall.{ActiveCall}
use Rattle.client_core.specs.Handing.{handed_active}
use Rattle.client_core.specs.KeepsPool.{IsKept, names}
use Rattle.client_core.specs.Shown.{shown_active}
use Rattle.client_core.proofs.PoolLemmas.{names-cons}
use Rattle.server_core.specs.declared.slot.SlotRequest.{SlotRequest}
use Rattle.server_core.specs.declared.slot.Stored.{Stored}
use Rattle.server_core.specs.KeepsPool.{IsAsked, IsStored, IsKept as IsServed, answer_names}
use Rattle.server_core.specs.KeepsPool.{ask_names, names as slot_names, own_names}
use Rattle.server_core.specs.Session.{answer_of, ask_of}
use Rattle.server_core.specs.Shown.{answer_in, ask_in, shown_request}

own-place : (a p : ℕ) (b : Bool) → eqb a p ≡ b → 1 ≤ cond {A = ℕ} b 1 0 → a ≡ p
own-place a p true t n = eqb-true a p t
own-place a p false t n = absurd (omega (arith, n))

-- a call's own places are named
pub names-ask : (c : ActiveCall) (cs : List ActiveCall) → 1 ≤ names c.ask (c ∷ cs)
names-ask c cs = omega (arith, names-cons c.ask c cs, named-one c.ask c.ask refl)

pub names-answer : (c : ActiveCall) (cs : List ActiveCall) → 1 ≤ names c.answer (c ∷ cs)
names-answer c cs = omega (arith, names-cons c.answer c cs, named-one c.answer c.answer refl)

pub names-later : (p : ℕ) (c : ActiveCall) (cs : List ActiveCall) → 1 ≤ names p cs
    → 1 ≤ names p (c ∷ cs)
names-later p c cs n = omega (arith, names-cons p c cs, n)

-- a place that is named is full
module _ (pool : Pool) (p : ℕ) where
  named-cases : (c : ActiveCall) (cs : List ActiveCall) (a b : Bool) → eqb c.ask p ≡ a
      → eqb c.answer p ≡ b → IsKept pool c → (1 ≤ names p cs → IsFull pool p)
      → 1 ≤ cond {A = ℕ} a 1 0 + cond {A = ℕ} b 1 0 + names p cs → IsFull pool p
  named-cases c cs true b t s kept rest n = rw (own-place c.ask p true t (omega arith)) at kept.ask
  named-cases c cs false true t s kept rest n = rw (own-place c.answer p true s (omega arith)) at kept.answer
  named-cases c cs false false t s kept rest n = rest (omega (arith, n))

  pub named-full : (cs : List ActiveCall) → AllByRecursion (IsKept pool) cs → 1 ≤ names p cs
      → IsFull pool p
  named-full [] kept n = absurd (omega (arith, n))
  named-full (c ∷ cs) kept n =
      named-cases c cs (eqb c.ask p) (eqb c.answer p) refl refl kept.0 (named-full cs kept.1)
      (omega (arith, names-cons p c cs, n))

  -- of a request
  answer-full : (a : Option Stored) → IfSome a (IsStored pool) → 1 ≤ answer_names p a
      → IsFull pool p
  answer-full None kept n = absurd (omega (arith, n))
  answer-full (Some a) kept n = rw (own-place a.place p (eqb a.place p) refl n) at kept.full

  ask-cases : (size : ℕ) (x : ℕ) (a : Option Stored) (b : Bool) → eqb x p ≡ b → IsAsked pool size x
      → IfSome a (IsStored pool) → 1 ≤ cond {A = ℕ} b 1 0 + answer_names p a → IsFull pool p
  ask-cases size x a true t kept stored n = rw (own-place x p true t (omega arith)) at kept.full
  ask-cases size x a false t kept stored n = answer-full a stored (omega (arith, n))

  own-full : (size : ℕ) (o : Option ℕ) (a : Option Stored) → IfSome o (IsAsked pool size)
      → IfSome a (IsStored pool) → 1 ≤ ask_names p o + answer_names p a → IsFull pool p
  own-full size None a kept stored n = answer-full a stored (omega (arith, n))
  own-full size (Some x) a kept stored n = ask-cases size x a (eqb x p) refl kept stored n

  slots-cons : (q : SlotRequest) (qs : List SlotRequest) → IsServed pool q
      → (1 ≤ slot_names p qs → IsFull pool p) → (k : ℕ) → own_names p q ≡ k
      → 1 ≤ k + slot_names p qs → IsFull pool p
  slots-cons q qs kept rest zero t n = rest (omega (arith, n))
  slots-cons q qs kept rest (suc k) t n =
      own-full q.size (ask_of q.state) (answer_of q.state) kept.ask kept.answer (omega (arith, t))

  pub served-full : (qs : List SlotRequest) → AllByRecursion (IsServed pool) qs
      → 1 ≤ slot_names p qs → IsFull pool p
  served-full [] kept n = absurd (omega (arith, n))
  served-full (q ∷ qs) kept n =
      slots-cons q qs kept.0 (served-full qs kept.1)
      (own_names p q) refl (omega (arith, sum_by-cons (own_names p) q qs, n))

-- a request's own places are named
pub names-own : (p : ℕ) (q : SlotRequest) (qs : List SlotRequest) → 1 ≤ own_names p q
    → 1 ≤ slot_names p (q ∷ qs)
names-own p q qs n = omega (arith, sum_by-cons (own_names p) q qs, n)

pub names-rest : (p : ℕ) (q : SlotRequest) (qs : List SlotRequest) → 1 ≤ slot_names p qs
    → 1 ≤ slot_names p (q ∷ qs)
names-rest p q qs n = omega (arith, sum_by-cons (own_names p) q qs, n)

-- one place is as it was
pub record IsSame (pool after : Pool) (p : ℕ) : Type 0 where
  pub use_is : use_at after p ≡ use_at pool p
  pub buf_is : buf_at after p ≡ buf_at pool p

module _ (pool after : Pool) where
  call-kept : (c : ActiveCall) → IsSame pool after c.ask → IsSame pool after c.answer
      → IsKept pool c → IsKept after c
  call-kept c a b kept = record {
    ask = ap is_full a.use_is ∙ kept.ask;
    answer = ap is_full b.use_is ∙ kept.answer;
    size = rw a.buf_is kept.size;
    room = rw b.buf_is kept.room;
    unnamed = ap refs_in b.use_is ∙ kept.unnamed;
  }

  pub calls-kept : (cs : List ActiveCall) → ((p : ℕ) → 1 ≤ names p cs → IsSame pool after p)
      → AllByRecursion (IsKept pool) cs → AllByRecursion (IsKept after) cs
  calls-kept [] same kept = tt
  calls-kept (c ∷ cs) same kept = (
    call-kept c (same c.ask (names-ask c cs)) (same c.answer (names-answer c cs)) kept.0,
    calls-kept cs (λ p n. same p (names-later p c cs n)) kept.1,
  )

  pub calls-shown : (cs : List ActiveCall) → ((p : ℕ) → 1 ≤ names p cs → IsSame pool after p)
      → map (shown_active after) cs ≡ map (shown_active pool) cs
  calls-shown [] same = refl
  calls-shown (c ∷ cs) same =
      rw (
        (same c.ask (names-ask c cs)).buf_is,
        (same c.answer (names-answer c cs)).buf_is,
        calls-shown cs (λ p n. same p (names-later p c cs n)),
      ) refl

  pub calls-handed : (cs : List ActiveCall) → ((p : ℕ) → 1 ≤ names p cs → IsSame pool after p)
      → map (handed_active after) cs ≡ map (handed_active pool) cs
  calls-handed [] same = refl
  calls-handed (c ∷ cs) same =
      rw (
        (same c.ask (names-ask c cs)).buf_is,
        calls-handed cs (λ p n. same p (names-later p c cs n)),
      ) refl

  -- a request
  ask-kept : (size : ℕ) (o : Option ℕ) → ((p : ℕ) → 1 ≤ ask_names p o → IsSame pool after p)
      → IfSome o (IsAsked pool size) → IfSome o (IsAsked after size)
  ask-kept size None same kept = tt
  ask-kept size (Some p) same kept =
      let here = same p (omega (arith, named-one p p refl)) in
      record {
        full = ap is_full here.use_is ∙ kept.full;
        size_is = rw here.buf_is kept.size_is;
        unnamed = ap refs_in here.use_is ∙ kept.unnamed;
      }

  answer-kept : (a : Option Stored) → ((p : ℕ) → 1 ≤ answer_names p a → IsSame pool after p)
      → IfSome a (IsStored pool) → IfSome a (IsStored after)
  answer-kept None same kept = tt
  answer-kept (Some a) same kept =
      let here = same a.place (omega (arith, named-one a.place a.place refl)) in
      record {
        full = ap is_full here.use_is ∙ kept.full;
        size = rw here.buf_is kept.size;
        own = rw here.buf_is kept.own;
      }

  pub request-kept : (q : SlotRequest) → ((p : ℕ) → 1 ≤ own_names p q → IsSame pool after p)
      → IsServed pool q → IsServed after q
  request-kept q same kept = record {
    ask = ask-kept q.size (ask_of q.state) (λ p n. same p (omega (arith, n))) kept.ask;
    answer = answer-kept (answer_of q.state) (λ p n. same p (omega (arith, n))) kept.answer;
  }

  ask-shown : (taken : ℕ) (o : Option ℕ) → ((p : ℕ) → 1 ≤ ask_names p o → IsSame pool after p)
      → ask_in after taken o ≡ ask_in pool taken o
  ask-shown taken None same = refl
  ask-shown taken (Some p) same = rw (same p (omega (arith, named-one p p refl))).buf_is refl

  answer-shown : (a : Option Stored) → ((p : ℕ) → 1 ≤ answer_names p a → IsSame pool after p)
      → option_map (answer_in after) a ≡ option_map (answer_in pool) a
  answer-shown None same = refl
  answer-shown (Some a) same = rw (same a.place (omega (arith, named-one a.place a.place refl))).buf_is refl

  pub request-shown : (q : SlotRequest) → ((p : ℕ) → 1 ≤ own_names p q → IsSame pool after p)
      → shown_request after q ≡ shown_request pool q
  request-shown q same =
      rw (
        ask-shown q.taken (ask_of q.state) (λ p n. same p (omega (arith, n))),
        answer-shown (answer_of q.state) (λ p n. same p (omega (arith, n))),
      ) refl

  pub slots-kept : (qs : List SlotRequest) → ((p : ℕ) → 1 ≤ slot_names p qs → IsSame pool after p)
      → AllByRecursion (IsServed pool) qs → AllByRecursion (IsServed after) qs
  slots-kept [] same kept = tt
  slots-kept (q ∷ qs) same kept = (
    request-kept q (λ p n. same p (names-own p q qs n)) kept.0,
    slots-kept qs (λ p n. same p (names-rest p q qs n)) kept.1,
  )

  pub slots-shown : (qs : List SlotRequest) → ((p : ℕ) → 1 ≤ slot_names p qs → IsSame pool after p)
      → map (shown_request after) qs ≡ map (shown_request pool) qs
  slots-shown [] same = refl
  slots-shown (q ∷ qs) same =
      rw (
        request-shown q (λ p n. same p (names-own p q qs n)),
        slots-shown qs (λ p n. same p (names-rest p q qs n)),
      ) refl
