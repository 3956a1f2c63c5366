-- Two lists by due times as one.
use Rattle.std.proofs.Common.{◌≡◌, ◌<◌, ◌≤◌, ◌≢◌, ℕ, suc, ◌+◌, Bool, true, false, cond, leb, leb-true, ◌||◌}
use Rattle.std.proofs.Common.{leb-false, Option, Some, None, List, [], ◌∷◌, length, refl, sym, ap, drop}
use Rattle.std.specs.List.Sorted.{IsNonDecreasingBy}
use Rattle.std.proofs.lemmas.List.Sorted.{IsNonDecreasingBy-drop}
use Rattle.pacing_wheel.proofs.WheelLemmas.{front-first, sorted-cons}
use Rattle.std.proofs.Common.{subst, ◌∙◌, arith}
use Rattle.std.proofs.lemmas.Bool.Decides.{nat_tests}
use Rattle.std.specs.Prelude.{IfSome, slice_get}
use Rattle.std.specs.List.{AllByRecursion, find, list_any}
use Rattle.rpc_base.specs.Tables.{without_first}
use Rattle.rpc_base.specs.Least.{least, least_number, smaller}
use Rattle.pacing_wheel.proofs.DueLemmas.{due_only, least-due, leb-intro, leb-over}
use Rattle.std.specs.Prelude.{is_some, option_map}
use Rattle.rpc_base.proofs.LeastLemmas.{lesser}
use Rattle.packet_rings.specs.Values.{EntryValue}
use Rattle.pacing_wheel.specs.declared.pacer.Paced.{Paced}
use Rattle.pacing_wheel.specs.Wheel.{added, due_of, entry_of, is_due, earlier, is_first, merged, put_before, Covers, InOrder}

module _ (due : ℕ) (e : EntryValue) where
  abbrev one : Paced
  one = record { due = due; entry = e }

  -- one more behind those that are due no later, and another before those that are due no earlier
  pub put-added : (o : Paced) (xs : List Paced)
      → put_before o (added due e xs) ≡ added due e (put_before o xs)
  put-added o [] = refl
  put-added o (p ∷ ps) = by (put-added o ps) (leb p.due due) refl (leb o.due p.due) refl (leb o.due due) refl
    where
      by : put_before o (added due e ps) ≡ added due e (put_before o ps)
          → (a : Bool) → leb p.due due ≡ a → (b : Bool) → leb o.due p.due ≡ b
          → (c : Bool) → leb o.due due ≡ c
          → put_before o (added due e (p ∷ ps)) ≡ added due e (put_before o (p ∷ ps))
      by ih true ha true hb true hc = rw (ha, hb, hc, ha) refl
      by ih true ha true hb false hc = absurd (omega (arith, leb-true p.due due ha, leb-true o.due p.due hb, leb-false o.due due hc))
      by ih true ha false hb c hc = rw (ha, hb, ha) (ap (λ l. p ∷ l) ih)
      by ih false ha true hb true hc = rw (ha, hb, hc, ha) refl
      by ih false ha true hb false hc = rw (ha, hb, hc) refl
      by ih false ha false hb true hc = absurd (omega (arith, leb-false p.due due ha, leb-false o.due p.due hb, leb-true o.due due hc))
      by ih false ha false hb false hc = rw (ha, hb, hc, ha) refl

  -- into the second
  pub merged-added : (os xs : List Paced) → merged os (added due e xs) ≡ added due e (merged os xs)
  merged-added [] xs = refl
  merged-added (o ∷ os) xs = ap (put_before o) (merged-added os xs) ∙ put-added o (merged os xs)

  -- where nothing is due just then, both places are one
  pub put-one : (xs : List Paced) → AllByRecursion (λ p. p.due ≢ due) xs → put_before one xs ≡ added due e xs
  put-one [] all = refl
  put-one (p ∷ ps) all = by (put-one ps all.1) (leb p.due due) refl (leb due p.due) refl
    where
      by : put_before one ps ≡ added due e ps → (a : Bool) → leb p.due due ≡ a → (b : Bool) → leb due p.due ≡ b
          → put_before one (p ∷ ps) ≡ added due e (p ∷ ps)
      by ih true ha true hb = absurd (all.0 (omega (arith, leb-true p.due due ha, leb-true due p.due hb)))
      by ih true ha false hb = rw (hb, ha) (ap (λ l. p ∷ l) ih)
      by ih false ha true hb = rw (hb, ha) refl
      by ih false ha false hb = absurd (omega (arith, leb-false p.due due ha, leb-false due p.due hb))

  all-put : (o : Paced) (xs : List Paced) → o.due ≢ due → AllByRecursion (λ p. p.due ≢ due) xs
      → AllByRecursion (λ p. p.due ≢ due) (put_before o xs)
  all-put o [] not all = (not, tt)
  all-put o (p ∷ ps) not all = by (all-put o ps not all.1) (leb o.due p.due) refl
    where
      by : AllByRecursion (λ p. p.due ≢ due) (put_before o ps) → (b : Bool) → leb o.due p.due ≡ b → AllByRecursion (λ p. p.due ≢ due) (put_before o (p ∷ ps))
      by ih true hb = rw hb (not, all)
      by ih false hb = rw hb (all.0, ih)

  all-merged : (os xs : List Paced) → AllByRecursion (λ p. p.due ≢ due) os → AllByRecursion (λ p. p.due ≢ due) xs
      → AllByRecursion (λ p. p.due ≢ due) (merged os xs)
  all-merged [] xs all rest = rest
  all-merged (o ∷ os) xs all rest = all-put o (merged os xs) all.0 (all-merged os xs all.1 rest)

  later : (o : Paced) (os : List Paced) → due < o.due → AllByRecursion (λ p. o.due ≤ p.due) os
      → AllByRecursion (λ p. p.due ≢ due) os
  later o [] h all = tt
  later o (p ∷ ps) h all = ((λ x. omega (arith, h, all.0, x)), later o ps h all.1)

-- into the first, where it is in order and nothing of the second is due just then
pub added-merged : (due : ℕ) (e : EntryValue) (os xs : List Paced) → InOrder os
    → AllByRecursion (λ p. p.due ≢ due) xs → merged (added due e os) xs ≡ added due e (merged os xs)
added-merged due e [] xs sorted all = put-one due e xs all
added-merged due e (o ∷ os) xs sorted all = by (added-merged due e os xs sorted.1 all) (leb o.due due) refl
  where
    by : merged (added due e os) xs ≡ added due e (merged os xs) → (b : Bool) → leb o.due due ≡ b → merged (added due e (o ∷ os)) xs ≡ added due e (merged (o ∷ os) xs)
    by ih true hb = rw hb (ap (put_before o) ih ∙ put-added due e o (merged os xs))
    by ih false hb = let late = leb-false o.due due hb in
        rw hb (put-one due e (merged (o ∷ os) xs)
        (all-merged due e (o ∷ os) xs ((λ x. omega (arith, late, x)), later due e o os late sorted.0) all))

-- 2. what is first

-- the first of the second, where all of the first are due later
pub second-first : (os : List Paced) (x : Paced) (xs : List Paced)
    → AllByRecursion (λ p. x.due < p.due) os → merged os (x ∷ xs) ≡ x ∷ merged os xs
second-first [] x xs all = refl
second-first (o ∷ os) x xs all =
    ap (put_before o) (second-first os x xs all.1)
    ∙ ap (λ b. cond b (o ∷ x ∷ merged os xs) (x ∷ put_before o (merged os xs))) (leb-over o.due x.due all.0)

-- one goes in front of those that are due no earlier
put-front : (o : Paced) (xs : List Paced) → AllByRecursion (λ p. o.due ≤ p.due) xs → put_before o xs ≡ o ∷ xs
put-front o [] all = refl
put-front o (p ∷ ps) all = ap (λ b. cond b (o ∷ p ∷ ps) (p ∷ put_before o ps)) (leb-intro o.due p.due all.0)

least-put : (m : ℕ) (o : Paced) (xs : List Paced) → m ≤ o.due → AllByRecursion (λ p. m ≤ p.due) xs
    → AllByRecursion (λ p. m ≤ p.due) (put_before o xs)
least-put m o [] h all = (h, tt)
least-put m o (p ∷ ps) h all = by (least-put m o ps h all.1) (leb o.due p.due) refl
  where
    by : AllByRecursion (λ p. m ≤ p.due) (put_before o ps) → (b : Bool) → leb o.due p.due ≡ b → AllByRecursion (λ p. m ≤ p.due) (put_before o (p ∷ ps))
    by ih true hb = rw hb (h, all)
    by ih false hb = rw hb (all.0, ih)

pub least-merged : (m : ℕ) (os xs : List Paced) → AllByRecursion (λ p. m ≤ p.due) os
    → AllByRecursion (λ p. m ≤ p.due) xs → AllByRecursion (λ p. m ≤ p.due) (merged os xs)
least-merged m [] xs all rest = rest
least-merged m (o ∷ os) xs all rest = least-put m o (merged os xs) all.0 (least-merged m os xs all.1 rest)

-- the first of the first, where all of the second are due no earlier
pub first-first : (o : Paced) (os xs : List Paced) → AllByRecursion (λ p. o.due ≤ p.due) os
    → AllByRecursion (λ p. o.due ≤ p.due) xs → merged (o ∷ os) xs ≡ o ∷ merged os xs
first-first o os xs all rest = put-front o (merged os xs) (least-merged o.due os xs all rest)

-- 3. what any order has

module _ (test : Paced → Bool) where
  swap : (a b c : Bool) → (a || (b || c)) ≡ (b || (a || c))
  swap true true c = refl
  swap true false c = refl
  swap false b c = refl

  any-put : (o : Paced) (xs : List Paced) → list_any test (put_before o xs) ≡ list_any test (o ∷ xs)
  any-put o [] = refl
  any-put o (p ∷ ps) = by (any-put o ps) (leb o.due p.due) refl
    where
      by : list_any test (put_before o ps) ≡ list_any test (o ∷ ps) → (b : Bool) → leb o.due p.due ≡ b → list_any test (put_before o (p ∷ ps)) ≡ list_any test (o ∷ p ∷ ps)
      by ih true hb = rw hb refl
      by ih false hb = rw (hb, ih) (swap (test p) (test o) (list_any test ps))

  assoc : (a b c : Bool) → (a || (b || c)) ≡ ((a || b) || c)
  assoc true b c = refl
  assoc false b c = refl

  pub any-merged : (os xs : List Paced) → list_any test (merged os xs) ≡ (list_any test os || list_any test xs)
  any-merged [] xs = refl
  any-merged (o ∷ os) xs = any-put o (merged os xs) ∙ (ap (λ b. test o || b) (any-merged os xs) ∙ assoc (test o) (list_any test os) (list_any test xs))

  -- what passes first is that of the one or of the other that is due first
  behind : (o : Paced) (m : ℕ) (qs : List Paced) → AllByRecursion (λ q. m ≤ q.due) qs → o.due ≤ m
      → earlier (Some o) (find test qs) ≡ Some o
  behind o m [] all h = refl
  behind o m (q ∷ qs) all h = go (behind o m qs all.1 h) (test q) refl
    where
      go : earlier (Some o) (find test qs) ≡ Some o → (b : Bool) → test q ≡ b
          → earlier (Some o) (find test (q ∷ qs)) ≡ Some o
      go ih true t = rw (t, leb-intro o.due q.due (omega (arith, h, all.0))) refl
      go ih false t = rw t ih

  find-put : (o : Paced) (xs : List Paced) → InOrder xs
      → find test (put_before o xs) ≡ cond (test o) (earlier (Some o) (find test xs)) (find test xs)
  find-put o [] sorted = by (test o) refl
    where
      by : (b : Bool) → test o ≡ b → find test (o ∷ []) ≡ cond (test o) (earlier (Some o) None) None
      by true h = rw h refl
      by false h = rw h refl
  find-put o (p ∷ ps) sorted = by (find-put o ps sorted.1) (leb o.due p.due) refl (test o) refl (test p) refl
    where
      by : find test (put_before o ps) ≡ cond (test o) (earlier (Some o) (find test ps)) (find test ps)
          → (b : Bool) → leb o.due p.due ≡ b → (c : Bool) → test o ≡ c → (d : Bool) → test p ≡ d
          → find test (put_before o (p ∷ ps)) ≡ cond (test o) (earlier (Some o) (find test (p ∷ ps))) (find test (p ∷ ps))
      by ih true hb true hc true hd = rw (hb, hc, hd, hb) refl
      by ih true hb true hc false hd = rw (hb, hc, hd) (sym (behind o p.due ps sorted.0 (leb-true o.due p.due hb)))
      by ih true hb false hc d hd = rw (hb, hc) refl
      by ih false hb true hc true hd = rw (hb, hd, hc, hb) refl
      by ih false hb true hc false hd = rw (hb, hd) ih
      by ih false hb false hc true hd = rw (hb, hd, hc) refl
      by ih false hb false hc false hd = rw (hb, hd) ih

  -- what passes first in both
  early-cons : (o : Paced) (os xs : List Paced) → AllByRecursion (λ q. o.due ≤ q.due) os
      → earlier (Some o) (earlier (find test os) (find test xs)) ≡ earlier (Some o) (find test xs)
  early-cons o os xs all = by (find test os) (find test xs) (found-late os all)
    where
      found-late : (qs : List Paced) → AllByRecursion (λ q. o.due ≤ q.due) qs → IfSome (find test qs) (λ q. o.due ≤ q.due)
      found-late [] a = tt
      found-late (q ∷ qs) a = go (found-late qs a.1) (test q) refl
        where
          go : IfSome (find test qs) (λ q. o.due ≤ q.due) → (b : Bool) → test q ≡ b → IfSome (find test (q ∷ qs)) (λ q. o.due ≤ q.due)
          go ih true t = rw t a.0
          go ih false t = rw t ih

      by : (f g : Option Paced) → IfSome f (λ q. o.due ≤ q.due)
          → earlier (Some o) (earlier f g) ≡ earlier (Some o) g
      by None g h = refl
      by (Some q) None h = rw (leb-intro o.due q.due h) refl
      by (Some q) (Some r) h = go (leb q.due r.due) refl
        where
          go : (b : Bool) → leb q.due r.due ≡ b → earlier (Some o) (earlier (Some q) (Some r)) ≡ earlier (Some o) (Some r)
          go true t = rw (t, leb-intro o.due q.due h, leb-intro o.due r.due (let l = leb-true q.due r.due t in omega (arith, l, h))) refl
          go false t = rw t refl

  put-order : (o : Paced) (xs : List Paced) → InOrder xs → InOrder (put_before o xs)
  put-order o [] sorted = (tt, tt)
  put-order o (p ∷ ps) sorted = by (put-order o ps sorted.1) (leb o.due p.due) refl
    where
      raise : (m n : ℕ) (qs : List Paced) → m ≤ n → AllByRecursion (λ q. n ≤ q.due) qs → AllByRecursion (λ q. m ≤ q.due) qs
      raise m n [] h all = tt
      raise m n (q ∷ qs) h all = (omega (arith, h, all.0), raise m n qs h all.1)

      by : InOrder (put_before o ps) → (b : Bool) → leb o.due p.due ≡ b → InOrder (put_before o (p ∷ ps))
      by ih true hb = let l = leb-true o.due p.due hb in rw hb ((l, raise o.due p.due ps l sorted.0), sorted)
      by ih false hb = let l = leb-false o.due p.due hb in rw hb (least-put p.due o ps (omega (arith, l)) sorted.0, ih)

  merged-order : (os xs : List Paced) → InOrder os → InOrder xs → InOrder (merged os xs)
  merged-order [] xs a b = b
  merged-order (o ∷ os) xs a b = put-order o (merged os xs) (merged-order os xs a.1 b)

  pub find-merged : (os xs : List Paced) → InOrder os → InOrder xs
      → find test (merged os xs) ≡ earlier (find test os) (find test xs)
  find-merged [] xs a b = refl
  find-merged (o ∷ os) xs a b = by (find-merged os xs a.1 b) (test o) refl
    where
      by : find test (merged os xs) ≡ earlier (find test os) (find test xs) → (c : Bool) → test o ≡ c
          → find test (merged (o ∷ os) xs) ≡ earlier (find test (o ∷ os)) (find test xs)
      by ih true t = find-put o (merged os xs) (merged-order os xs a.1 b)
          ∙ rw (t, ih) (early-cons o os xs a.0)
      by ih false t = find-put o (merged os xs) (merged-order os xs a.1 b) ∙ rw t ih

  -- 4. what passes first is taken out

  found-late : (m : ℕ) (qs : List Paced) → AllByRecursion (λ q. m ≤ q.due) qs → IfSome (find test qs) (λ q. m ≤ q.due)
  found-late m [] a = tt
  found-late m (q ∷ qs) a = go (found-late m qs a.1) (test q) refl
    where
      go : IfSome (find test qs) (λ q. m ≤ q.due) → (b : Bool) → test q ≡ b → IfSome (find test (q ∷ qs)) (λ q. m ≤ q.due)
      go ih true t = rw t a.0
      go ih false t = rw t ih

  stays : (o : Paced) (ys : List Paced) → InOrder ys → test o ≡ false
      → without_first test (put_before o ys) ≡ put_before o (without_first test ys)
  stays o [] sorted miss = rw miss refl
  stays o (q ∷ qs) sorted miss = by (stays o qs sorted.1 miss) (leb o.due q.due) refl (test q) refl
    where
      raise : (m n : ℕ) (rs : List Paced) → m ≤ n → AllByRecursion (λ r. n ≤ r.due) rs → AllByRecursion (λ r. m ≤ r.due) rs
      raise m n [] h all = tt
      raise m n (r ∷ rs) h all = (omega (arith, h, all.0), raise m n rs h all.1)

      by : without_first test (put_before o qs) ≡ put_before o (without_first test qs)
          → (b : Bool) → leb o.due q.due ≡ b → (c : Bool) → test q ≡ c
          → without_first test (put_before o (q ∷ qs)) ≡ put_before o (without_first test (q ∷ qs))
      by ih true hb true hc = rw (hb, miss, hc)
          (sym (put-front o qs (raise o.due q.due qs (leb-true o.due q.due hb) sorted.0)))
      by ih true hb false hc = rw (hb, miss, hc, hb) refl
      by ih false hb true hc = rw (hb, hc) refl
      by ih false hb false hc = rw (hb, hc, hb) (ap (λ l. q ∷ l) ih)

  stays-late : (o r : Paced) (ys : List Paced) → InOrder ys → find test ys ≡ Some r → r.due < o.due
      → without_first test (put_before o ys) ≡ put_before o (without_first test ys)
  stays-late o r [] sorted is late = cc
  stays-late o r (q ∷ qs) sorted is late = by (stays-late o r qs sorted.1) (leb o.due q.due) refl (test q) refl
    where
      by : (find test qs ≡ Some r → r.due < o.due
          → without_first test (put_before o qs) ≡ put_before o (without_first test qs))
          → (b : Bool) → leb o.due q.due ≡ b → (c : Bool) → test q ≡ c
          → without_first test (put_before o (q ∷ qs)) ≡ put_before o (without_first test (q ∷ qs))
      by ih true hb c hc = let l = leb-true o.due q.due hb in
          let f : q.due ≤ r.due = rw is at (found-late q.due (q ∷ qs) (omega arith, sorted.0)) in
          absurd (omega (arith, l, f, late))
      by ih false hb true hc = rw (hb, hc) refl
      by ih false hb false hc = rw (hb, hc, hb) (ap (λ l. q ∷ l) (ih (rw hc at is) late))

  leaves : (o : Paced) (ys : List Paced) → InOrder ys → test o ≡ true
      → IfSome (find test ys) (λ r. o.due ≤ r.due) → without_first test (put_before o ys) ≡ ys
  leaves o [] sorted hit none = rw hit refl
  leaves o (q ∷ qs) sorted hit none = by (leaves o qs sorted.1 hit) (leb o.due q.due) refl (test q) refl
    where
      by : (IfSome (find test qs) (λ r. o.due ≤ r.due) → without_first test (put_before o qs) ≡ qs)
          → (b : Bool) → leb o.due q.due ≡ b → (c : Bool) → test q ≡ c
          → without_first test (put_before o (q ∷ qs)) ≡ q ∷ qs
      by ih true hb c hc = rw (hb, hit) refl
      by ih false hb true hc = let l = leb-false o.due q.due hb in
          let f : o.due ≤ q.due = rw hc at none in absurd (omega (arith, l, f))
      by ih false hb false hc = rw (hb, hc) (ap (λ l. q ∷ l) (ih (rw hc at none)))

  -- from the second, where it is due before what passes of the first
  pub out-of-second : (os xs : List Paced) (p : Paced) → InOrder os → InOrder xs → find test xs ≡ Some p
      → IfSome (find test os) (λ o. p.due < o.due)
      → without_first test (merged os xs) ≡ merged os (without_first test xs)
  out-of-second [] xs p a b is late = refl
  out-of-second (o ∷ os) xs p a b is late = by (out-of-second os xs p a.1 b is) (test o) refl
    where
      first-late : (f : Option Paced) → IfSome f (λ q. o.due ≤ q.due) → p.due < o.due → IfSome f (λ q. p.due < q.due)
      first-late None h l = tt
      first-late (Some q) h l = omega (arith, h, l)

      chosen : (f : Option Paced) → IfSome f (λ q. p.due < q.due) → earlier f (Some p) ≡ Some p
      chosen None h = refl
      chosen (Some q) h = rw (leb-over q.due p.due h) refl

      by : (IfSome (find test os) (λ q. p.due < q.due)
          → without_first test (merged os xs) ≡ merged os (without_first test xs))
          → (c : Bool) → test o ≡ c
          → without_first test (merged (o ∷ os) xs) ≡ merged (o ∷ os) (without_first test xs)
      by ih true t =
          let l : p.due < o.due = rw t at late in
          let f = first-late (find test os) (found-late o.due os a.0) l in
          let r : find test (merged os xs) ≡ Some p = find-merged os xs a.1 b ∙ (rw is (chosen (find test os) f)) in
          stays-late o p (merged os xs) (merged-order os xs a.1 b) r l ∙ ap (put_before o) (ih f)
      by ih false t = stays o (merged os xs) (merged-order os xs a.1 b) t ∙ ap (put_before o) (ih (rw t at late))

  -- and from the first otherwise
  pub out-of-first : (os xs : List Paced) (q : Paced) → InOrder os → InOrder xs → find test os ≡ Some q
      → IfSome (find test xs) (λ p. q.due ≤ p.due)
      → without_first test (merged os xs) ≡ merged (without_first test os) xs
  out-of-first [] xs q a b is late = cc
  out-of-first (o ∷ os) xs q a b is late = by (out-of-first os xs q a.1 b) (test o) refl
    where
      both : (f g : Option Paced) → IfSome f (λ r. o.due ≤ r.due) → IfSome g (λ r. o.due ≤ r.due)
          → IfSome (earlier f g) (λ r. o.due ≤ r.due)
      both None g hf hg = hg
      both (Some r) None hf hg = hf
      both (Some r) (Some s) hf hg = go (leb r.due s.due) refl
        where
          go : (c : Bool) → leb r.due s.due ≡ c → IfSome (earlier (Some r) (Some s)) (λ r. o.due ≤ r.due)
          go true t = rw t hf
          go false t = rw t hg

      by : (find test os ≡ Some q → IfSome (find test xs) (λ p. q.due ≤ p.due)
          → without_first test (merged os xs) ≡ merged (without_first test os) xs)
          → (c : Bool) → test o ≡ c
          → without_first test (merged (o ∷ os) xs) ≡ merged (without_first test (o ∷ os)) xs
      by ih true t =
          let same : o ≡ q = let e : Some o ≡ Some q = rw t at is in cc in
          let l : IfSome (find test xs) (λ p. o.due ≤ p.due) = rw same late in
          let f = both (find test os) (find test xs) (found-late o.due os a.0) l in
          rw t (leaves o (merged os xs) (merged-order os xs a.1 b) t (rw (find-merged os xs a.1 b) f))
      by ih false t = rw t (stays o (merged os xs) (merged-order os xs a.1 b) t
          ∙ ap (put_before o) (ih (rw t at is) late))

-- 5. the least number of both

least-pair : (n m : ℕ) → smaller n (Some m) ≡ smaller m (Some n)
least-pair n m = grind (arith, nat_tests)

least-triple : (n m k : ℕ) → smaller n (Some (smaller m (Some k))) ≡ smaller m (Some (smaller n (Some k)))
least-triple n m k = grind (arith, nat_tests)

module _ (passes : Paced → Bool) (number : Paced → ℕ) where
  abbrev with_one : Bool → ℕ → Option ℕ → Option ℕ
  with_one b n r = cond b (Some (smaller n r)) r

  swap-least : (a b : Bool) (n m : ℕ) (r : Option ℕ)
      → with_one a n (with_one b m r) ≡ with_one b m (with_one a n r)
  swap-least true true n m None = ap Some (least-pair n m)
  swap-least true true n m (Some k) = ap Some (least-triple n m k)
  swap-least true false n m r = refl
  swap-least false true n m r = refl
  swap-least false false n m r = refl

  least-in : (o : Paced) (xs : List Paced) → least_number passes number (put_before o xs)
      ≡ with_one (passes o) (number o) (least_number passes number xs)
  least-in o [] = refl
  least-in o (p ∷ ps) = by (least-in o ps) (leb o.due p.due) refl
    where
      by : least_number passes number (put_before o ps) ≡ with_one (passes o) (number o) (least_number passes number ps)
          → (b : Bool) → leb o.due p.due ≡ b
          → least_number passes number (put_before o (p ∷ ps))
          ≡ with_one (passes o) (number o) (least_number passes number (p ∷ ps))
      by ih true t = rw t refl
      by ih false t = rw t (ap (with_one (passes p) (number p)) ih
          ∙ swap-least (passes p) (passes o) (number p) (number o) (least_number passes number ps))

  lesser-with : (b : Bool) (n : ℕ) (r s : Option ℕ) → lesser (with_one b n r) s ≡ with_one b n (lesser r s)
  lesser-with false n r s = refl
  lesser-with true n None s = refl
  lesser-with true n (Some m) None = refl
  lesser-with true n (Some m) (Some k) = ap Some (triple n m k)
    where
      triple : (n m k : ℕ) → smaller (smaller n (Some m)) (Some k) ≡ smaller n (Some (smaller m (Some k)))
      triple n m k = grind (arith, nat_tests)

  pub least-both : (os xs : List Paced) → least_number passes number (merged os xs)
      ≡ lesser (least_number passes number os) (least_number passes number xs)
  least-both [] xs = refl
  least-both (o ∷ os) xs = least-in o (merged os xs)
      ∙ (ap (with_one (passes o) (number o)) (least-both os xs)
      ∙ sym (lesser-with (passes o) (number o) (least_number passes number os) (least_number passes number xs)))

-- 6. the first of both, and what is left without it

raise-all : (m n : ℕ) (qs : List Paced) → m ≤ n → AllByRecursion (λ q. n ≤ q.due) qs → AllByRecursion (λ q. m ≤ q.due) qs
raise-all m n [] h all = tt
raise-all m n (q ∷ qs) h all = (omega (arith, h, all.0), raise-all m n qs h all.1)

below-all : (m n : ℕ) (qs : List Paced) → m < n → AllByRecursion (λ q. n ≤ q.due) qs → AllByRecursion (λ q. m < q.due) qs
below-all m n [] h all = tt
below-all m n (q ∷ qs) h all = (omega (arith, h, all.0), below-all m n qs h all.1)

pub pop-first : (os xs : List Paced) → InOrder os → InOrder xs
    → is_first (slice_get os 0) (slice_get xs 0) ≡ true
    → (slice_get (merged os xs) 0 ≡ slice_get os 0) × (drop 1 (merged os xs) ≡ merged (drop 1 os) xs)
pop-first [] xs a b h = cc
pop-first (o ∷ os) [] a b h = let e = first-first o os [] a.0 tt in rw e (refl, refl)
pop-first (o ∷ os) (x ∷ xs) a b h =
    let l = leb-true o.due x.due h in
    let e = first-first o os (x ∷ xs) a.0 (l, raise-all o.due x.due xs l b.0) in
    rw e (refl, refl)

pub pop-second : (os xs : List Paced) → InOrder os → InOrder xs
    → is_first (slice_get os 0) (slice_get xs 0) ≡ false
    → (slice_get (merged os xs) 0 ≡ slice_get xs 0) × (drop 1 (merged os xs) ≡ merged os (drop 1 xs))
pop-second [] xs a b h = (refl, refl)
pop-second (o ∷ os) [] a b h = cc
pop-second (o ∷ os) (x ∷ xs) a b h =
    let l = leb-false o.due x.due h in
    let e = second-first (o ∷ os) x xs (l, below-all x.due o.due os l a.0) in
    rw e (refl, refl)

pub front-both : (os xs : List Paced) → InOrder os → InOrder xs
    → slice_get (merged os xs) 0 ≡ earlier (slice_get os 0) (slice_get xs 0)
front-both [] xs a b = refl
front-both (o ∷ os) [] a b = (pop-first (o ∷ os) [] a b refl).0
front-both (o ∷ os) (x ∷ xs) a b = by (leb o.due x.due) refl
  where
    by : (c : Bool) → leb o.due x.due ≡ c
        → slice_get (merged (o ∷ os) (x ∷ xs)) 0 ≡ earlier (Some o) (Some x)
    by true t = (pop-first (o ∷ os) (x ∷ xs) a b t).0 ∙ rw t refl
    by false t = (pop-second (o ∷ os) (x ∷ xs) a b t).0 ∙ rw t refl

length-put : (o : Paced) (xs : List Paced) → length (put_before o xs) ≡ suc (length xs)
length-put o [] = refl
length-put o (p ∷ ps) = by (length-put o ps) (leb o.due p.due) refl
  where
    by : length (put_before o ps) ≡ suc (length ps) → (b : Bool) → leb o.due p.due ≡ b
        → length (put_before o (p ∷ ps)) ≡ suc (suc (length ps))
    by ih true t = rw t refl
    by ih false t = rw t (ap suc ih)

pub length-merged : (os xs : List Paced) → length (merged os xs) ≡ length os + length xs
length-merged [] xs = omega arith
length-merged (o ∷ os) xs = omega (arith, length-put o (merged os xs), length-merged os xs)

pub length-added : (due : ℕ) (e : EntryValue) (xs : List Paced) → length (added due e xs) ≡ suc (length xs)
length-added due e [] = refl
length-added due e (p ∷ ps) = by (length-added due e ps) (leb p.due due) refl
  where
    by : length (added due e ps) ≡ suc (length ps) → (b : Bool) → leb p.due due ≡ b
        → length (added due e (p ∷ ps)) ≡ suc (suc (length ps))
    by ih true t = rw t (ap suc ih)
    by ih false t = rw t refl

-- 7. both forms of order

pub in-order : (xs : List Paced) → IsNonDecreasingBy due_of xs → InOrder xs
in-order [] sorted = tt
in-order (p ∷ ps) sorted = (front-first p ps sorted, in-order ps (IsNonDecreasingBy-drop due_of 1 (p ∷ ps) sorted))

pub ordered : (xs : List Paced) → InOrder xs → IsNonDecreasingBy due_of xs
ordered [] o = λ i j d h less. absurd (omega (arith, less))
ordered (p ∷ ps) o = sorted-cons p ps o.0 (ordered ps o.1)

pub merged-in-order : (os xs : List Paced) → InOrder os → InOrder xs → InOrder (merged os xs)
merged-in-order os xs a b = merged-order (λ p. true) os xs a b

-- what holds of all holds with one more of which it holds
pub all-added : (P : Paced → Type 0) (due : ℕ) (e : EntryValue) (xs : List Paced)
    → P (record { due = due; entry = e }) → AllByRecursion P xs → AllByRecursion P (added due e xs)
all-added P due e [] h all = (h, tt)
all-added P due e (p ∷ ps) h all = by (all-added P due e ps h all.1) (leb p.due due) refl
  where
    by : AllByRecursion P (added due e ps) → (b : Bool) → leb p.due due ≡ b
        → AllByRecursion P (added due e (p ∷ ps))
    by ih true t = rw t (all.0, ih)
    by ih false t = rw t (h, all)

-- a time outside of a turn is no time of an entry inside
pub none-outside : (cursor due : ℕ) (xs : List Paced) → (Covers cursor due → ⊥)
    → AllByRecursion (λ p. Covers cursor p.due) xs → AllByRecursion (λ p. p.due ≢ due) xs
none-outside cursor due [] out all = tt
none-outside cursor due (p ∷ ps) out all =
    ((λ same. out (subst (Covers cursor) same all.0)), none-outside cursor due ps out all.1)

pub both-in-order : (os xs : List Paced) → IsNonDecreasingBy due_of os → IsNonDecreasingBy due_of xs
    → InOrder (merged os xs)
both-in-order os xs a b = merged-in-order os xs (in-order os a) (in-order xs b)

-- 8. what passes first in both, and what is left without it

module _ (test : Paced → Bool) where
  pub keeps-all : (ys : List Paced) → find test ys ≡ None → without_first test ys ≡ ys
  keeps-all [] h = refl
  keeps-all (y ∷ ys) h = by (keeps-all ys) (test y) refl
    where
      by : (find test ys ≡ None → without_first test ys ≡ ys) → (b : Bool) → test y ≡ b
          → without_first test (y ∷ ys) ≡ y ∷ ys
      by ih true t = let e : Some y ≡ None = rw t at h in cc
      by ih false t = rw t (ap (λ l. y ∷ l) (ih (rw t at h)))

  pub take-first : (os xs : List Paced) → InOrder os → InOrder xs
      → is_first (find test os) (find test xs) ≡ true
      → (find test (merged os xs) ≡ find test os)
      × (without_first test (merged os xs) ≡ merged (without_first test os) xs)
  take-first os xs a b h = by (find test os) refl (find test xs) refl (find-merged test os xs a b) h
    where
      by : (f : Option Paced) → find test os ≡ f → (g : Option Paced) → find test xs ≡ g
          → find test (merged os xs) ≡ earlier (find test os) (find test xs)
          → is_first (find test os) (find test xs) ≡ true
          → (find test (merged os xs) ≡ find test os)
          × (without_first test (merged os xs) ≡ merged (without_first test os) xs)
      by None ef g eg m t = let w : false ≡ true = rw (ef) at t in cc
      by (Some o) ef None eg m t = (
        m ∙ rw (ef, eg) refl,
        out-of-first test os xs o a b ef (rw eg tt),
      )
      by (Some o) ef (Some p) eg m t =
          let l : leb o.due p.due ≡ true = rw (ef, eg) at t in (
            m ∙ rw (ef, eg, l) refl,
            out-of-first test os xs o a b ef (rw eg (leb-true o.due p.due l)),
          )

  pub take-second : (os xs : List Paced) → InOrder os → InOrder xs
      → is_first (find test os) (find test xs) ≡ false
      → (find test (merged os xs) ≡ find test xs)
      × (without_first test (merged os xs) ≡ merged os (without_first test xs))
  take-second os xs a b h = by (find test os) refl (find test xs) refl (find-merged test os xs a b) h
    where
      by : (f : Option Paced) → find test os ≡ f → (g : Option Paced) → find test xs ≡ g
          → find test (merged os xs) ≡ earlier (find test os) (find test xs)
          → is_first (find test os) (find test xs) ≡ false
          → (find test (merged os xs) ≡ find test xs)
          × (without_first test (merged os xs) ≡ merged os (without_first test xs))
      by None ef None eg m t = let e : find test (merged os xs) ≡ None = m ∙ rw (ef, eg) refl in (
        e ∙ sym eg,
        keeps-all (merged os xs) e ∙ ap (merged os) (sym (keeps-all xs eg)),
      )
      by None ef (Some p) eg m t = (
        m ∙ rw (ef, eg) refl,
        out-of-second test os xs p a b eg (rw ef tt),
      )
      by (Some o) ef None eg m t = let w : true ≡ false = rw (ef, eg) at t in cc
      by (Some o) ef (Some p) eg m t =
          let l : leb o.due p.due ≡ false = rw (ef, eg) at t in (
            m ∙ rw (ef, eg, l) refl,
            out-of-second test os xs p a b eg (rw ef (leb-false o.due p.due l)),
          )

-- 9. what is due first in both

due-earlier : (now : ℕ) (a b : Option Paced) → earlier (due_only now a) (due_only now b) ≡ due_only now (earlier a b)
due-earlier now None b = refl
due-earlier now (Some o) None = by (leb o.due now) refl
  where
    by : (c : Bool) → leb o.due now ≡ c → earlier (due_only now (Some o)) None ≡ due_only now (Some o)
    by true t = rw t refl
    by false t = rw t refl
due-earlier now (Some o) (Some p) = by (leb o.due p.due) refl (leb o.due now) refl (leb p.due now) refl
  where
    by : (a : Bool) → leb o.due p.due ≡ a → (b : Bool) → leb o.due now ≡ b → (c : Bool) → leb p.due now ≡ c
        → earlier (due_only now (Some o)) (due_only now (Some p)) ≡ due_only now (earlier (Some o) (Some p))
    by true ha true hb true hc = rw (ha, hb, hc, ha) refl
    by true ha true hb false hc = rw (ha, hb, hc) refl
    by true ha false hb true hc =
        absurd (omega (arith, leb-true o.due p.due ha, leb-false o.due now hb, leb-true p.due now hc))
    by true ha false hb false hc = rw (ha, hb, hc) refl
    by false ha true hb true hc = rw (ha, hb, hc, ha) refl
    by false ha true hb false hc =
        absurd (omega (arith, leb-false o.due p.due ha, leb-true o.due now hb, leb-false p.due now hc))
    by false ha false hb true hc = rw (ha, hb, hc) refl
    by false ha false hb false hc = rw (ha, hb, hc) refl

pub due-both : (now : ℕ) (os xs : List Paced) → IsNonDecreasingBy due_of os → IsNonDecreasingBy due_of xs
    → earlier (least (is_due now) due_of os) (least (is_due now) due_of xs)
    ≡ least (is_due now) due_of (merged os xs)
due-both now os xs a b =
    let both = ordered (merged os xs) (both-in-order os xs a b) in
    rw (least-due now os a, least-due now xs b, least-due now (merged os xs) both)
    (due-earlier now (slice_get os 0) (slice_get xs 0)
    ∙ ap (due_only now) (sym (front-both os xs (in-order os a) (in-order xs b))))

-- an entry comes before another, as far as this is due no later
pub first-within : (o : Paced) (b : Option Paced) → is_first (Some o) (due_only o.due b) ≡ is_first (Some o) b
first-within o None = refl
first-within o (Some p) = by (leb p.due o.due) refl
  where
    by : (c : Bool) → leb p.due o.due ≡ c → is_first (Some o) (due_only o.due (Some p)) ≡ is_first (Some o) (Some p)
    by true t = rw t refl
    by false t = let l = leb-false p.due o.due t in rw t (sym (leb-intro o.due p.due (omega (arith, l))))

pub still-some : (o : Option Paced) → is_some o ≡ true → is_some (option_map entry_of o) ≡ true
still-some None h = h
still-some (Some p) h = refl
