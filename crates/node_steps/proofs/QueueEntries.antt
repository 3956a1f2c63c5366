-- What is queued, once a packet is put into it, and at the end of a poll.
use Rattle.std.proofs.Common.{◌≡◌, ℕ, ◌+◌, ◌≤◌, Bool, true, false, cond, Option, Some, None, List, []}
use Rattle.std.proofs.Common.{◌∷◌, refl, ap, arith}
use Rattle.std.specs.Prelude.{count_by, is_some, map, sum_by}
use Rattle.std.specs.List.{AllByRecursion}
use Rattle.std.proofs.lemmas.List.Sums.{sum_by-cons}
use Rattle.rpc_base.specs.declared.owner.Owner.{Owner}
use Rattle.rpc_base.specs.declared.owner.Owner.TheVariants.{Ask, Reply, Control}
use Rattle.rpc_base.proofs.FirstLemmas.{counted-cons}
use Rattle.rpc_laws.specs.Queues.{is_due, is_reply, made_ready, put_queued, replies, stands_before}
use Rattle.rpc_laws.specs.declared.tables.Queued.{Queued}
use Rattle.node_laws.specs.QueuedPackets.{asks_in, is_ask}
use Rattle.session_store.specs.Joined.{is_paced}
use Rattle.node_steps.specs.Fits.{IsSendable, is_of_call}

module _ (q : Queued) where
  module _ (f : Queued → ℕ) where
    sum-cons : (p : Queued) (ps : List Queued) (b : Bool)
        → sum_by f (put_queued q ps) ≡ f q + sum_by f ps
        → sum_by f (cond b (p ∷ put_queued q ps) (q ∷ p ∷ ps)) ≡ f q + sum_by f (p ∷ ps)
    sum-cons p ps true ih =
        omega (arith, sum_by-cons f p (put_queued q ps), sum_by-cons f p ps, ih)
    sum-cons p ps false ih = omega (arith, sum_by-cons f q (p ∷ ps))

    pub put-sum : (qs : List Queued) → sum_by f (put_queued q qs) ≡ f q + sum_by f qs
    put-sum [] = omega (arith, sum_by-cons f q [])
    put-sum (p ∷ ps) = sum-cons p ps (stands_before p.due q.due) (put-sum ps)

  module _ (P : Queued → Type 0) (own : P q) where
    all-cons : (p : Queued) (ps : List Queued) (b : Bool) → AllByRecursion P (put_queued q ps)
        → AllByRecursion P (p ∷ ps)
        → AllByRecursion P (cond b (p ∷ put_queued q ps) (q ∷ p ∷ ps))
    all-cons p ps true ih all = (all.0, ih)
    all-cons p ps false ih all = (own, all)

    pub put-all : (qs : List Queued) → AllByRecursion P qs → AllByRecursion P (put_queued q qs)
    put-all [] all = (own, tt)
    put-all (p ∷ ps) all = all-cons p ps (stands_before p.due q.due) (put-all ps all.1) all

  abbrev counted : Queued → ℕ
  counted p = cond (is_reply p.owner) 1 0

  one-most : (b : Bool) → cond {A = ℕ} b 1 0 ≤ 1
  one-most true = omega arith
  one-most false = omega arith

  pub replies-ask : (qs : List Queued) → is_reply q.owner ≡ false
      → replies (put_queued q qs) ≡ replies qs
  replies-ask qs none =
      omega (arith, put-sum counted qs, ap {B = ℕ} (λ (b : Bool). cond b 1 0) none)

  pub replies-more : (qs : List Queued) → is_reply q.owner ≡ true
      → replies (put_queued q qs) ≡ replies qs + 1
  replies-more qs one =
      omega (arith, put-sum counted qs, ap {B = ℕ} (λ (b : Bool). cond b 1 0) one)

  pub one-reply : (qs : List Queued) → replies (put_queued q qs) ≤ replies qs + 1
  one-reply qs = omega (arith, put-sum counted qs, one-most (is_reply q.owner))

-- at the end of a poll
sendable-one : (q : Queued) (b : Bool) → IsSendable q
    → IsSendable (cond b (record q { due = None }) q)
sendable-one q true one = (one.0, λ reply. refl)
sendable-one q false one = one

pub sendable-made : (now : ℕ) (qs : List Queued) → AllByRecursion IsSendable qs
    → AllByRecursion IsSendable (map (made_ready now) qs)
sendable-made now [] all = tt
sendable-made now (q ∷ qs) all =
    (sendable-one q (is_due now q.due) all.0, sendable-made now qs all.1)

same-owner : (q : Queued) (b : Bool) → (cond b (record q { due = None }) q).owner ≡ q.owner
same-owner q true = refl
same-owner q false = refl

pub replies-made : (now : ℕ) (qs : List Queued) → replies (map (made_ready now) qs) ≡ replies qs
replies-made now [] = refl
replies-made now (q ∷ qs) =
    omega (
      arith,
      counted-cons (λ (p : Queued). is_reply p.owner) (made_ready now q) (map (made_ready now) qs)
          (is_reply q.owner) (ap is_reply (same-owner q (is_due now q.due))),
      counted-cons (λ (p : Queued). is_reply p.owner) q qs (is_reply q.owner) refl,
      replies-made now qs,
    )

-- what is paced is a call's
paced-one : (q : Queued) → IsSendable q → cond {A = ℕ} (is_some q.due) 1 0 ≤ cond (is_ask q.owner) 1 0
paced-one q sendable = by q.owner (sendable.0) (sendable.1)
  where
    none-due : (d : Option ℕ) → d ≡ None → cond {A = ℕ} (is_some d) 1 0 ≤ 0
    none-due None e = omega arith
    none-due (Some n) e = cc

    most : (b : Bool) → cond {A = ℕ} b 1 0 ≤ 1
    most true = omega arith
    most false = omega arith

    by : (o : Owner) → is_of_call o ≡ true → (is_reply o ≡ true → q.due ≡ None)
        → cond {A = ℕ} (is_some q.due) 1 0 ≤ cond (is_ask o) 1 0
    by (Ask s r) call paced = most (is_some q.due)
    by (Reply t r) call paced = none-due q.due (paced refl)
    by Control call paced = cc

pub paced-asks : (qs : List Queued) → AllByRecursion IsSendable qs → count_by is_paced qs ≤ asks_in qs
paced-asks [] all = omega arith
paced-asks (q ∷ qs) all =
    omega (
      arith,
      counted-cons is_paced q qs (is_paced q) refl,
      counted-cons (λ (p : Queued). is_ask p.owner) q qs (is_ask q.owner) refl,
      paced-one q all.0,
      paced-asks qs all.1,
    )
