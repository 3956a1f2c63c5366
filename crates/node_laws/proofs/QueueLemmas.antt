-- What flushing leaves in a queue: no packet of the owner.
use Rattle.std.proofs.Common.{◌≡◌, ℕ, ◌+◌, ◌≤◌, Bool, true, false, ◌&&◌, ◌||◌, cond, leb, List, []}
use Rattle.std.proofs.Common.{◌∷◌, refl, sym, ◌∙◌, arith}
use Rattle.std.specs.Prelude.{◌==◌, count_by}
use Rattle.std.specs.List.{list_any}
use Rattle.std.proofs.lemmas.Bool.{eq-eqb}
use Rattle.std.proofs.lemmas.Bool.Decides.{nat_tests}
use Rattle.std.proofs.lemmas.List.Sums.{sum_by-cons}
use Rattle.rpc_base.specs.Owners.{same_owner}
use Rattle.rpc_base.specs.Tables.{without_first}
use Rattle.rpc_base.specs.declared.owner.Owner.{Owner}
use Rattle.rpc_laws.specs.declared.tables.Queued.{Queued}
use Rattle.rpc_laws.specs.Queues.{is_queued, put, numbers_of}
use Rattle.node_laws.proofs.Allowed.{NoneQueued}
use Rattle.rpc_base.proofs.FirstLemmas.{sum-fewer, counted-cons}

-- the queue without these numbers of an owner
abbrev pub taken_out : Owner → List ℕ → List Queued → List Queued
taken_out owner [] qs = qs
taken_out owner (k ∷ ks) qs = taken_out owner ks (without_first (is_queued owner k) qs)

-- how often a packet is queued
abbrev pub queued_times : Owner → ℕ → List Queued → ℕ
queued_times owner k qs = count_by (is_queued owner k) qs

-- no packet is queued more often than before
abbrev pub NoMore : List Queued → List Queued → Type 0
NoMore qs rs = (owner : Owner) (k : ℕ) → queued_times owner k qs ≤ queued_times owner k rs

pub no-more-out : (p : Queued → Bool) (qs rs : List Queued) → NoMore qs rs → NoMore (without_first p qs) rs
no-more-out p qs rs h owner k =
    let was = h owner k in
    let fewer = sum-fewer p (λ q. cond (is_queued owner k q) 1 0) qs in
    omega arith

pub no-more-taken : (owner : Owner) (ks : List ℕ) (qs rs : List Queued) → NoMore qs rs
    → NoMore (taken_out owner ks qs) rs
no-more-taken owner [] qs rs h = h
no-more-taken owner (k ∷ ks) qs rs h =
    no-more-taken owner ks (without_first (is_queued owner k) qs) rs (no-more-out (is_queued owner k) qs rs h)

module _ (owner : Owner) where
  -- the numbers of an owner are those that are queued, as often
  abbrev counted : ℕ → List ℕ → ℕ
  counted k ks = count_by (λ n. n == k) ks

  count-cons : (k n : ℕ) (ks : List ℕ) → counted k (n ∷ ks) ≡ cond (n == k) 1 0 + counted k ks
  count-cons k n ks = sum_by-cons (λ i. cond (i == k) 1 0) n ks

  put-by : (k n m : ℕ) (ms : List ℕ) (b : Bool)
      → counted k (put n ms) ≡ cond (n == k) 1 0 + counted k ms
      → counted k (cond b (n ∷ m ∷ ms) (m ∷ put n ms)) ≡ cond (n == k) 1 0 + counted k (m ∷ ms)
  put-by k n m ms true ih = count-cons k n (m ∷ ms)
  put-by k n m ms false ih = omega (arith, ih, count-cons k m (put n ms), count-cons k m ms)

  put-counted : (k n : ℕ) (ms : List ℕ) → counted k (put n ms) ≡ cond (n == k) 1 0 + counted k ms
  put-counted k n [] = count-cons k n []
  put-counted k n (m ∷ ms) = put-by k n m ms (leb n m) (put-counted k n ms)

  numbers-by : (k n : ℕ) (ms : List ℕ) (m : ℕ) (b : Bool) → counted k ms ≡ m
      → counted k (cond b (put n ms) ms) ≡ cond (b && n == k) 1 0 + m
  numbers-by k n ms m true ih = omega (arith, ih, put-counted k n ms)
  numbers-by k n ms m false ih = omega (arith, ih)

  pub numbers-counted : (k : ℕ) (qs : List Queued) → counted k (numbers_of owner qs) ≡ queued_times owner k qs
  numbers-counted k [] = refl
  numbers-counted k (q ∷ qs) =
      numbers-by k q.number (numbers_of owner qs) (queued_times owner k qs)
      (same_owner q.owner owner) (numbers-counted k qs)
      ∙ sym (sum_by-cons (λ i. cond (is_queued owner k i) 1 0) q qs)

  -- taking one out
  out-cons : (j : ℕ) (q : Queued) (qs : List Queued) (b : Bool) → is_queued owner j q ≡ b
      → queued_times owner j (without_first (is_queued owner j) qs) + 1 ≤ queued_times owner j qs
      + cond (leb (queued_times owner j qs) 0) 1 0
      → queued_times owner j (cond b qs (q ∷ without_first (is_queued owner j) qs))
      + 1 ≤ queued_times owner j (q ∷ qs) + cond (leb (queued_times owner j (q ∷ qs)) 0) 1 0
  out-cons j q qs true t ih =
      let cons = counted-cons (is_queued owner j) q qs true t in omega arith
  out-cons j q qs false t ih =
      let cons = counted-cons (is_queued owner j) q qs false t in
      let left = counted-cons (is_queued owner j) q (without_first (is_queued owner j) qs) false t in
      grind (arith, nat_tests)

  -- one less, or none before
  one-out : (j : ℕ) (qs : List Queued)
      → queued_times owner j (without_first (is_queued owner j) qs) + 1 ≤ queued_times owner j qs
      + cond (leb (queued_times owner j qs) 0) 1 0
  one-out j [] = omega arith
  one-out j (q ∷ qs) = out-cons j q qs (is_queued owner j q) refl (one-out j qs)

  one-fewer : (k j n m c : ℕ) → (k ≡ j → n + 1 ≤ m + cond (leb m 0) 1 0) → n ≤ m → m ≤ cond (j == k) 1 0 + c → n ≤ c
  one-fewer k j n m c h le few = grind (arith, nat_tests)

  step : (j : ℕ) (js : List ℕ) (qs : List Queued)
      → ((k : ℕ) → queued_times owner k qs ≤ counted k (j ∷ js)) → (k : ℕ)
      → queued_times owner k (without_first (is_queued owner j) qs) ≤ counted k js
  step j js qs few k =
      let fewer = sum-fewer (is_queued owner j) (λ q. cond (is_queued owner k q) 1 0) qs in
      let here : queued_times owner k qs ≤ cond (j == k) 1 0 + counted k js =
      omega (arith, few k, count-cons k j js) in
      one-fewer k j _ (queued_times owner k qs) (counted k js) (λ e. rw e (one-out j qs)) fewer here

  -- all of them out
  pub all-out : (ks : List ℕ) (qs : List Queued)
      → ((k : ℕ) → queued_times owner k qs ≤ counted k ks) → (k : ℕ)
      → queued_times owner k (taken_out owner ks qs) ≤ 0
  all-out [] qs few k = few k
  all-out (j ∷ js) qs few k = all-out js (without_first (is_queued owner j) qs) (step j js qs few) k

  -- an owner of which no number is queued
  none-by : (q : Queued) (qs : List Queued) (b : Bool) → same_owner q.owner owner ≡ b
      → queued_times owner q.number (q ∷ qs) ≤ 0
      → list_any (λ r. same_owner r.owner owner) qs ≡ false
      → (b || list_any (λ r. same_owner r.owner owner) qs) ≡ false
  none-by q qs true t few rest =
      let own : is_queued owner q.number q ≡ true = rw (t, eq-eqb q.number q.number refl) refl in
      absurd (omega (arith, few, counted-cons (is_queued owner q.number) q qs true own))
  none-by q qs false t few rest = rest

  rest-none : (q : Queued) (qs : List Queued) → ((k : ℕ) → queued_times owner k (q ∷ qs) ≤ 0)
      → (k : ℕ) → queued_times owner k qs ≤ 0
  rest-none q qs few k = omega (arith, few k, counted-cons (is_queued owner k) q qs (is_queued owner k q) refl)

  pub none-queued : (qs : List Queued) → ((k : ℕ) → queued_times owner k qs ≤ 0) → NoneQueued owner qs
  none-queued [] few = refl
  none-queued (q ∷ qs) few =
      none-by q qs (same_owner q.owner owner) refl (few q.number) (none-queued qs (rest-none q qs few))

  times-by : (q : Queued) (b c : Bool) (n m : ℕ) → m ≡ cond (b && c) 1 0 + n → b ≡ false → n ≤ 0 → m ≤ 0
  times-by q true c n m e h few = cc
  times-by q false c n m e h few = omega arith

  no-times-cons : (k : ℕ) (q : Queued) (qs : List Queued) (b : Bool) → same_owner q.owner owner ≡ b
      → (NoneQueued owner qs → queued_times owner k qs ≤ 0)
      → (b || list_any (λ r. same_owner r.owner owner) qs) ≡ false
      → queued_times owner k (q ∷ qs) ≤ 0
  no-times-cons k q qs true t ih h = cc
  no-times-cons k q qs false t ih h =
      times-by q (same_owner q.owner owner) (q.number == k) (queued_times owner k qs)
      (queued_times owner k (q ∷ qs)) (sum_by-cons (λ i. cond (is_queued owner k i) 1 0) q qs) t
      (ih h)

  pub no-times : (k : ℕ) (qs : List Queued) → NoneQueued owner qs → queued_times owner k qs ≤ 0
  no-times k [] h = omega arith
  no-times k (q ∷ qs) h = no-times-cons k q qs (same_owner q.owner owner) refl (no-times k qs) h

-- an owner's packets are out, also of a queue that has no more than the one whose numbers are taken
pub flushed-none : (owner : Owner) (qs rs : List Queued) → NoMore qs rs
    → NoneQueued owner (taken_out owner (numbers_of owner rs) qs)
flushed-none owner qs rs h =
    none-queued owner (taken_out owner (numbers_of owner rs) qs) (all-out owner (numbers_of owner rs) qs (λ k. let was = h owner k in omega (arith, was, numbers-counted owner k rs)))

-- and it stays so
pub none-stays : (owner : Owner) (qs rs : List Queued) → NoMore qs rs → NoneQueued owner rs → NoneQueued owner qs
none-stays owner qs rs h none =
    none-queued owner qs (λ k. let was = h owner k in omega (arith, was, no-times owner k rs none))
