-- What posting, sending and the end of a poll leave of a queue, by tests that look at owner and number alone.
use Rattle.std.proofs.Common.{◌≡◌, ℕ, ◌+◌, ◌≤◌, Bool, true, false, ◌&&◌, ◌||◌, cond, Option, List}
use Rattle.std.proofs.Common.{[], ◌∷◌, refl, ap₂, arith}
use Rattle.std.specs.Prelude.{◌==◌, None, map, count_by, sum_by}
use Rattle.std.specs.List.{AllByRecursion, list_any}
use Rattle.std.proofs.lemmas.Bool.{and_parts, eqb-true}
use Rattle.std.proofs.lemmas.List.Sums.{sum_by-cons}
use Rattle.rpc_base.specs.Owners.{same_owner}
use Rattle.rpc_base.specs.Tables.{without_first}
use Rattle.rpc_base.specs.declared.event.Event.{Event}
use Rattle.rpc_base.specs.declared.event.Event.TheVariants.{Posted, Sent, Flushed, Polled}
use Rattle.rpc_base.specs.declared.owner.Owner.{Owner}
use Rattle.rpc_base.specs.declared.owner.Owner.TheVariants.{Ask, Reply, Control}
use Rattle.rpc_laws.specs.declared.tables.Queued.{Queued}
use Rattle.rpc_laws.specs.Queues.{is_queued, stands_before, put_queued, is_due, made_ready, queued_after}
use Rattle.node_laws.proofs.Allowed.{NoneQueued}
use Rattle.node_laws.proofs.QueueLemmas.{NoMore}
use Rattle.rpc_base.proofs.FirstLemmas.{any-counted, none-counted}

-- owners that the test takes for one are one
pub owner-is : (a b : Owner) → same_owner a b ≡ true → a ≡ b
owner-is (Ask s r) (Ask t k) e =
    let parts = and_parts (s == t) (r == k) e in ap₂ (λ i j. Ask i j) (eqb-true s t parts.0) (eqb-true r k parts.1)
owner-is (Reply s r) (Reply t k) e =
    let parts = and_parts (s == t) (r == k) e in ap₂ (λ i j. Reply i j) (eqb-true s t parts.0) (eqb-true r k parts.1)
owner-is Control Control e = refl
owner-is (Ask s r) (Reply t k) e = cc
owner-is (Ask s r) Control e = cc
owner-is (Reply s r) (Ask t k) e = cc
owner-is (Reply s r) Control e = cc
owner-is Control (Ask t k) e = cc
owner-is Control (Reply t k) e = cc

-- one that is posted
module _ (P : Queued → Type 0) (q : Queued) where
  put-by : (p : Queued) (ps : List Queued) (b : Bool) → P p → AllByRecursion P ps → P q
      → AllByRecursion P (put_queued q ps)
      → AllByRecursion P (cond b (p ∷ put_queued q ps) (q ∷ p ∷ ps))
  put-by p ps true here rest own more = (here, more)
  put-by p ps false here rest own more = (own, (here, rest))

  pub put-all : (qs : List Queued) → AllByRecursion P qs → P q → AllByRecursion P (put_queued q qs)
  put-all [] all own = (own, tt)
  put-all (p ∷ ps) all own =
      put-by p ps (stands_before p.due q.due) all.0 all.1 own (put-all ps all.1 own)

module _ (g : Queued → ℕ) (q : Queued) where
  sum-by : (p : Queued) (ps : List Queued) (b : Bool)
      → sum_by g (put_queued q ps) ≡ g q + sum_by g ps
      → sum_by g (cond b (p ∷ put_queued q ps) (q ∷ p ∷ ps)) ≡ g q + sum_by g (p ∷ ps)
  sum-by p ps true ih = omega (arith, ih, sum_by-cons g p (put_queued q ps), sum_by-cons g p ps)
  sum-by p ps false ih = sum_by-cons g q (p ∷ ps)

  pub put-sum : (qs : List Queued) → sum_by g (put_queued q qs) ≡ g q + sum_by g qs
  put-sum [] = sum_by-cons g q []
  put-sum (p ∷ ps) = sum-by p ps (stands_before p.due q.due) (put-sum ps)

module _ (test : Queued → Bool) (q : Queued) (off : test q ≡ false) where
  none-by : (p : Queued) (ps : List Queued) (b c : Bool) → test p ≡ c
      → (c || list_any test ps) ≡ false
      → (list_any test ps ≡ false → list_any test (put_queued q ps) ≡ false)
      → list_any test (cond b (p ∷ put_queued q ps) (q ∷ p ∷ ps)) ≡ false
  none-by p ps b true e none ih = cc
  none-by p ps true false e none ih = rw e (ih none)
  none-by p ps false false e none ih = rw (off, e) none

  pub put-none : (qs : List Queued) → list_any test qs ≡ false → list_any test (put_queued q qs) ≡ false
  put-none [] none = rw off refl
  put-none (p ∷ ps) none = none-by p ps (stands_before p.due q.due) (test p) refl none (put-none ps)

-- one that is ready at the end of a poll
pub ready-same : {A : Type 0} (f : Queued → A) (now : ℕ)
    → ((q : Queued) → f (record q { due = None }) ≡ f q) → (q : Queued) → f (made_ready now q) ≡ f q
ready-same f now same q = by (is_due now q.due)
  where
    by : (b : Bool) → f (cond b (record q { due = None }) q) ≡ f q
    by true = same q
    by false = refl

module _ (now : ℕ) where
  pub ready-all : (P : Queued → Type 0) → ((q : Queued) → P q → P (record q { due = None }))
      → (qs : List Queued) → AllByRecursion P qs → AllByRecursion P (map (made_ready now) qs)
  ready-all P keeps [] all = tt
  ready-all P keeps (q ∷ qs) all = (by (is_due now q.due), ready-all P keeps qs all.1)
    where
      by : (b : Bool) → P (cond b (record q { due = None }) q)
      by true = keeps q all.0
      by false = all.0

  pub ready-sum : (g : Queued → ℕ) → ((q : Queued) → g (record q { due = None }) ≡ g q)
      → (qs : List Queued) → sum_by g (map (made_ready now) qs) ≡ sum_by g qs
  ready-sum g same [] = refl
  ready-sum g same (q ∷ qs) =
      omega (
        arith,
        ready-same g now same q,
        ready-sum g same qs,
        sum_by-cons g (made_ready now q) (map (made_ready now) qs),
        sum_by-cons g q qs,
      )

  pub ready-any : (test : Queued → Bool) → ((q : Queued) → test (record q { due = None }) ≡ test q)
      → (qs : List Queued) → list_any test (map (made_ready now) qs) ≡ list_any test qs
  ready-any test same [] = refl
  ready-any test same (q ∷ qs) =
      ap₂ (λ b c. b || c) (ready-same test now same q) (ready-any test same qs)

-- one that is taken out
module _ (owner : Owner) (k : ℕ) (test : Owner → ℕ → Bool) where
  abbrev passes : Queued → ℕ
  passes q = cond (test q.owner q.number) 1 0

  own-by : (q : Queued) → is_queued owner k q ≡ true → passes q ≡ cond (test owner k) 1 0
  own-by q e =
      let parts = and_parts (same_owner q.owner owner) (q.number == k) e in
      ap₂ (λ o i. cond (test o i) 1 0) (owner-is q.owner owner parts.0) (eqb-true q.number k parts.1)

  out-by : (q : Queued) (qs : List Queued) (b c : Bool)
      → (b ≡ true → passes q ≡ cond (test owner k) 1 0)
      → sum_by passes (without_first (is_queued owner k) qs) + cond c (cond (test owner k) 1 0) 0
      ≡ sum_by passes qs → sum_by passes (cond b qs (q ∷ without_first (is_queued owner k) qs))
      + cond (b || c) (cond (test owner k) 1 0) 0 ≡ sum_by passes (q ∷ qs)
  out-by q qs true c own ih = let one = own refl in let cons = sum_by-cons passes q qs in omega arith
  out-by q qs false c own ih =
      let cons = sum_by-cons passes q qs in
      let left = sum_by-cons passes q (without_first (is_queued owner k) qs) in
      omega arith

  -- it counts no more, if it was there
  out-count : (qs : List Queued)
      → sum_by passes (without_first (is_queued owner k) qs)
      + cond (list_any (is_queued owner k) qs) (cond (test owner k) 1 0) 0 ≡ sum_by passes qs
  out-count [] = refl
  out-count (q ∷ qs) =
      out-by q qs (is_queued owner k q) (list_any (is_queued owner k) qs) (own-by q) (out-count qs)

-- two queues with the same packets, whatever is due
abbrev pub Alike : List Queued → List Queued → Type 0
Alike qs rs =
    (test : Owner → ℕ → Bool) → count_by (λ q. test q.owner q.number) qs ≡ count_by (λ q. test q.owner q.number) rs

pub alike-no-more : (qs rs : List Queued) → Alike qs rs → NoMore qs rs
alike-no-more qs rs h owner k = let same = h (λ o i. same_owner o owner && i == k) in omega arith

same-any : (b c : Bool) (n m : ℕ) → cond b 1 0 ≤ n → (b ≡ false → n ≡ 0) → cond c 1 0 ≤ m
    → (c ≡ false → m ≡ 0) → n ≡ m → b ≡ c
same-any true true n m h i k l e = refl
same-any true false n m h i k l e = let none = l refl in absurd (omega arith)
same-any false true n m h i k l e = let none = i refl in absurd (omega arith)
same-any false false n m h i k l e = refl

alike-any : (owner : Owner) (k : ℕ) (qs rs : List Queued) → Alike qs rs
    → list_any (is_queued owner k) qs ≡ list_any (is_queued owner k) rs
alike-any owner k qs rs h =
    let test = is_queued owner k in
    same-any (list_any test qs) (list_any test rs) (count_by test qs) (count_by test rs)
    (any-counted test qs) (none-counted test qs) (any-counted test rs) (none-counted test rs)
    (h (λ o i. same_owner o owner && i == k))

out-alike : (owner : Owner) (k : ℕ) (qs rs : List Queued) → Alike qs rs
    → Alike (without_first (is_queued owner k) qs) (without_first (is_queued owner k) rs)
out-alike owner k qs rs h test =
    let was = h test in
    let one = out-count owner k test qs in
    let two : sum_by (passes owner k test) (without_first (is_queued owner k) rs)
    + cond (list_any (is_queued owner k) qs) (cond (test owner k) 1 0) 0
    ≡ sum_by (passes owner k test) rs =
    rw (alike-any owner k qs rs h) (out-count owner k test rs) in
    omega arith

-- they stay so, whatever is due
pub alike-after : (e : Event) (due later : Option ℕ) (qs rs : List Queued) → Alike qs rs
    → Alike (queued_after e due qs) (queued_after e later rs)
alike-after (Posted owner k) due later qs rs h test =
    let was = h test in
    let one = put-sum (λ q. cond (test q.owner q.number) 1 0) (record { owner = owner; number = k; due = due }) qs in
    let two = put-sum (λ q. cond (test q.owner q.number) 1 0)
    (record { owner = owner; number = k; due = later }) rs in
    omega arith
alike-after (Sent peer owner k) due later qs rs h test = out-alike owner k qs rs h test
alike-after (Flushed owner k) due later qs rs h test = out-alike owner k qs rs h test
alike-after (Polled now) due later qs rs h test =
    omega (
      arith,
      h test,
      ready-sum now (λ q. cond (test q.owner q.number) 1 0) (λ q. refl) qs,
      ready-sum now (λ q. cond (test q.owner q.number) 1 0) (λ q. refl) rs,
    )
alike-after _ due later qs rs h test = h test

-- so it is for one owner
pub none-put : (owner : Owner) (qs : List Queued) (q : Queued) → same_owner q.owner owner ≡ false
    → NoneQueued owner qs → NoneQueued owner (put_queued q qs)
none-put owner qs q off none = put-none (λ p. same_owner p.owner owner) q off qs none

pub none-ready : (owner : Owner) (now : ℕ) (qs : List Queued) → NoneQueued owner qs
    → NoneQueued owner (map (made_ready now) qs)
none-ready owner now qs none = rw (ready-any now (λ p. same_owner p.owner owner) (λ q. refl) qs) none
