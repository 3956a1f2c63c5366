-- A packet of a call is queued at most once: what is posted has the number after those that are queued.
use Rattle.std.proofs.Common.{◌≡◌, ℕ, ◌+◌, ◌≤◌, Bool, true, false, ◌&&◌, cond, Option, Some, List}
use Rattle.std.proofs.Common.{[], ◌∷◌, refl, subst, arith}
use Rattle.std.specs.Prelude.{◌==◌}
use Rattle.std.specs.List.{find}
use Rattle.std.proofs.lemmas.Bool.{and_parts, eqb-true}
use Rattle.rpc_base.specs.Owners.{same_owner}
use Rattle.rpc_base.specs.declared.event.Event.{Event}
use Rattle.rpc_base.specs.declared.event.Event.TheVariants.{Posted, Sent, Flushed, Polled}
use Rattle.rpc_base.specs.declared.owner.Owner.TheVariants.{Ask, Reply, Control}
use Rattle.rpc_laws.specs.declared.tables.Lists.{Lists}
use Rattle.rpc_laws.specs.declared.tables.Queued.{Queued}
use Rattle.rpc_laws.specs.Calls.{is_active}
use Rattle.rpc_laws.specs.Queues.{is_queued, queued_after}
use Rattle.rpc_laws.specs.Sessions.{is_client}
use Rattle.node_laws.specs.QueuedPackets.{QueuedOnce}
use Rattle.node_laws.specs.Valid.{Sound, Valid}
use Rattle.node_laws.specs.Windows.{Inside, InWindow, Stands, Windows}
use Rattle.node_laws.proofs.Allowed.{Allowed, MayPost}
use Rattle.node_laws.proofs.PutLemmas.{owner-is, put-sum, ready-sum}
use Rattle.node_laws.proofs.QueueLemmas.{queued_times}
use Rattle.node_laws.proofs.SoundLemmas.{by_request}
use Rattle.rpc_base.proofs.FirstLemmas.{counted-cons, found-holds, sum-fewer}
use Rattle.node_laws.proofs.WindowLemmas.{inside-some}

-- what is posted next isn't queued
module _ (s : Lists) (v : Valid s) (n r k : ℕ) (a : MayPost s n r k) where
  own : find (is_active r) a.client.calls ≡ Some a.call
  own =
      let sound = found-holds (is_client n) Sound s.clients a.client v.sound a.active.place.client in
      rw a.same (by_request a.client a.active.place.test a.call a.progress sound a.active.place.call a.active.active)

  not-within : (i : ℕ) → i ≡ k → InWindow s.clients (Ask n r) i → ⊥
  not-within i same within =
      let mine : Stands i r (Some a.client) = subst (Stands i r) a.active.place.client within in
      let inside : Inside i (Some a.call) = subst (Inside i) own mine in
      let bounds = inside-some i a.call.progress a.progress a.active.active inside in
      let turn = a.turn in
      absurd (omega (arith, bounds.1))

  new-by : (q : Queued) (qs : List Queued) (b : Bool) → is_queued (Ask n r) k q ≡ b
      → InWindow s.clients q.owner q.number → queued_times (Ask n r) k qs ≤ 0
      → queued_times (Ask n r) k (q ∷ qs) ≤ 0
  new-by q qs true e within none =
      let parts = and_parts (same_owner q.owner (Ask n r)) (q.number == k) e in
      let owner = owner-is q.owner (Ask n r) parts.0 in
      absurd (not-within q.number (eqb-true q.number k parts.1)
      (subst (λ o. InWindow s.clients o q.number) owner within))
  new-by q qs false e within none = let cons = counted-cons (is_queued (Ask n r) k) q qs false e in omega arith

  pub new-unqueued : (qs : List Queued) → Windows s.clients qs → queued_times (Ask n r) k qs ≤ 0
  new-unqueued [] w = omega arith
  new-unqueued (q ∷ qs) w = new-by q qs (is_queued (Ask n r) k q) refl w.0 (new-unqueued qs w.1)

-- one more of it
one-more : (m r k : ℕ) (s : Lists) (v : Valid s) (w : Windows s.clients s.queued)
    (a : MayPost s m r k) (n j i : ℕ) (b : Bool) → ((m == n && r == j) && k == i) ≡ b
    → queued_times (Ask n j) i s.queued ≤ 1 → cond b 1 0 + queued_times (Ask n j) i s.queued ≤ 1
one-more m r k s v w a n j i true e few =
    let parts = and_parts (m == n && r == j) (k == i) e in
    let both = and_parts (m == n) (r == j) parts.0 in
    let session : m ≡ n = eqb-true m n both.0 in
    let request : r ≡ j = eqb-true r j both.1 in
    let number : k ≡ i = eqb-true k i parts.1 in
    let none : queued_times (Ask n j) i s.queued ≤ 0 =
    rw (session, request, number) at (new-unqueued s v m r k a s.queued w) in
    omega arith
one-more m r k s v w a n j i false e few = omega arith

pub once-after : (e : Event) (due : Option ℕ) (s : Lists) → Valid s → Windows s.clients s.queued
    → QueuedOnce s.queued → Allowed s e → QueuedOnce (queued_after e due s.queued)
once-after (Posted (Ask m r) k) due s v w once a n j i =
    let sum = put-sum (λ q. cond (is_queued (Ask n j) i q) 1 0)
    (record { owner = Ask m r; number = k; due = due }) s.queued in
    let more = one-more m r k s v w a n j i ((m == n && r == j) && k == i) refl (once n j i) in
    omega arith
once-after (Posted (Reply t r) k) due s v w once a n j i =
    let sum = put-sum (λ q. cond (is_queued (Ask n j) i q) 1 0)
    (record { owner = Reply t r; number = k; due = due }) s.queued in
    omega (arith, once n j i)
once-after (Posted Control k) due s v w once a n j i =
    let sum = put-sum (λ q. cond (is_queued (Ask n j) i q) 1 0)
    (record { owner = Control; number = k; due = due }) s.queued in
    omega (arith, once n j i)
once-after (Sent peer owner k) due s v w once a n j i =
    omega (arith, once n j i, sum-fewer (is_queued owner k) (λ q. cond (is_queued (Ask n j) i q) 1 0) s.queued)
once-after (Flushed owner k) due s v w once a n j i =
    omega (arith, once n j i, sum-fewer (is_queued owner k) (λ q. cond (is_queued (Ask n j) i q) 1 0) s.queued)
once-after (Polled now) due s v w once a n j i =
    omega (arith, once n j i, ready-sum now (λ q. cond (is_queued (Ask n j) i q) 1 0) (λ q. refl) s.queued)
once-after _ due s v w once a n j i = once n j i
