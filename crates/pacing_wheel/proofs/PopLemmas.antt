-- What a list is without its first entry, and what the array then has.
use Rattle.std.proofs.Common.{◌≡◌, ℕ, zero, suc, ◌+◌, ◌-◌, ◌<◌, ◌≤◌, List, [], ◌∷◌, ◌++◌, length, set, sym, refl, ap, ◌∙◌}
use Rattle.std.proofs.Common.{arith, get_or, subst, drop, replicate, Bool, true, false, cond, Option, None, Some}
use Rattle.std.specs.Prelude.{slice_get, slice_index_or}
use mathlib.Core.Logic.{dite}
use native.Mathlib.Decide.{ℕ_discrete}
use Rattle.std.specs.List.{AllByRecursion, find}
use Rattle.std.proofs.lemmas.Bool.Decides.{nat_tests}
use Rattle.rpc_base.proofs.TotalsLemmas.{only-same, only-other}
use Rattle.rpc_base.specs.Least.{least_number, smaller}
use Rattle.rpc_base.proofs.LeastLemmas.{lesser}
use Rattle.pacing_wheel.specs.Wheel.{number_of}
use Rattle.pacing_wheel.specs.declared.pacer.Paced.{Paced}
use Rattle.pacing_wheel.specs.declared.chains.Link.{Link}
use Rattle.pacing_wheel.specs.declared.chains.Ends.{Ends}
use Rattle.pacing_wheel.specs.Chains.{chain_at, chain_of, in_chains, items_at, last_or, lens, link_at, list_at, lists_in, no_ends}
use Rattle.pacing_wheel.specs.Chains.{Tied, times, EndsAt}
use Rattle.pacing_wheel.proofs.ChainLemmas.{times-append}
use Rattle.pacing_wheel.proofs.PushLemmas.{length-end, lens-at, lens-set, ends-at}

-- a list of the table is the chain at its ends
pub at-ends : (links : List Link) (es : List Ends) (p : ℕ)
    → list_at (lists_in links es) p ≡ items_at links (chain_of links (slice_index_or es p no_ends))
at-ends links [] p = refl
at-ends links (e ∷ es) zero = refl
at-ends links (e ∷ es) (suc p) = at-ends links es p

length-items : (links : List Link) (ks : List ℕ) → length (items_at links ks) ≡ length ks
length-items links [] = refl
length-items links (k ∷ ks) = ap suc (length-items links ks)

length-chain : (links : List Link) (n i : ℕ) → length (chain_at links n i) ≡ n
length-chain links zero i = refl
length-chain links (suc n) i = ap suc (length-chain links n (link_at links i).next)

pub length-at : (links : List Link) (es : List Ends) (p : ℕ)
    → length (list_at (lists_in links es) p) ≡ (slice_index_or es p no_ends).len
length-at links es p = let e = slice_index_or es p no_ends in
    ap length (at-ends links es p) ∙ (length-items links (chain_of links e) ∙ length-chain links e.len e.first)

pub place-in : (links : List Link) (es : List Ends) (p : ℕ) → 0 < (slice_index_or es p no_ends).len → p < length es
place-in links [] p some = absurd (omega (arith, some))
place-in links (e ∷ es) zero some = omega arith
place-in links (e ∷ es) (suc p) some = omega (arith, place-in links es p some)

-- a chain changes, and its array stays
lists-set : (links : List Link) (es : List Ends) (p : ℕ) (b : Ends)
    → lists_in links (set es p b) ≡ set (lists_in links es) p (items_at links (chain_of links b))
lists-set links [] p b = refl
lists-set links (e ∷ es) zero b = refl
lists-set links (e ∷ es) (suc p) b = ap (λ ls. items_at links (chain_of links e) ∷ ls) (lists-set links es p b)

counts-set : (links : List Link) (es : List Ends) (p : ℕ) (b d : Ends) (m : ℕ) → p < length es
    → in_chains m links (set es p b) + times m (chain_of links (get_or es p d))
    ≡ in_chains m links es + times m (chain_of links b)
counts-set links [] p b d m h = absurd (omega (arith, h))
counts-set links (e ∷ es) zero b d m h = omega arith
counts-set links (e ∷ es) (suc p) b d m h = omega (arith, counts-set links es p b d m (omega (arith, h)))

ends-set : (links : List Link) (es : List Ends) (p : ℕ) (b : Ends) → EndsAt links b → AllByRecursion (EndsAt links) es
    → AllByRecursion (EndsAt links) (set es p b)
ends-set links [] p b h all = tt
ends-set links (e ∷ es) zero b h all = (h, all.1)
ends-set links (e ∷ es) (suc p) b h all = (all.0, ends-set links es p b h all.1)

-- the chain without its first place
abbrev pub behind : List Link → Ends → Ends
behind links e = record { first = (link_at links e.first).next; last = e.last; len = e.len - 1 }

first-of : (links : List Link) (n i : ℕ) → 0 < n
    → chain_at links n i ≡ i ∷ chain_at links (n - 1) (link_at links i).next
first-of links zero i h = absurd (omega (arith, h))
first-of links (suc n) i h = ap (λ m. i ∷ chain_at links m (link_at links i).next) (omega arith)

pub first-place : (links : List Link) (e : Ends) → 0 < e.len
    → chain_of links e ≡ e.first ∷ chain_of links (behind links e)
first-place links e h = first-of links e.len e.first h

last-behind : (links : List Link) (n i d c : ℕ) → 0 < n
    → last_or d (chain_at links n i) ≡ last_or c (chain_at links n i)
last-behind links zero i d c h = absurd (omega (arith, h))
last-behind links (suc n) i d c h = refl

ends-behind : (links : List Link) (e : Ends) → 0 < e.len → EndsAt links e → EndsAt links (behind links e)
ends-behind links e h end some =
    last-behind links (e.len - 1) (link_at links e.first).next 0 e.first some
    ∙ (ap (last_or 0) (sym (first-place links e h)) ∙ end h)

module _ (links : List Link) (es : List Ends) (free : List ℕ) (p : ℕ) (e : Ends) (t : Tied links es free)
    (is : e ≡ slice_index_or es p no_ends) (some : 0 < e.len) where
  inside-table : p < length es
  inside-table = place-in links es p (subst (λ (z : Ends). 0 < z.len) is some)

  total : (m : ℕ) → in_chains m links (set es p (behind links e)) + times m (free ++ e.first ∷ [])
      ≡ in_chains m links es + times m free
  total m = omega (
    arith,
    counts-set links es p (behind links e) no_ends m inside-table,
    ap (λ (z : Ends). times m (chain_of links z)) is,
    ap (times m) (first-place links e some),
    times-append m free e.first,
  )

  pub tied-popped : Tied links (set es p (behind links e)) (free ++ e.first ∷ [])
  tied-popped = record {
    once = λ m. omega (arith, total m, t.once m);
    inside = λ m h. t.inside m (omega (arith, total m, h));
    ends = ends-set links es p (behind links e)
        (ends-behind links e some (subst (EndsAt links) (sym is) (ends-at links es p no_ends inside-table t.ends))) t.ends;
    count = omega (
      arith,
      lens-set es p (behind links e) no_ends inside-table,
      ap (λ (z : Ends). z.len) is,
      t.count,
      some,
      length-end free e.first,
    );
    few = t.few;
  }

  pub room-popped : length free < length links
  room-popped = omega (arith, lens-at es p no_ends inside-table, ap (λ (z : Ends). z.len) is, t.count, some)

  pub at-popped : list_at (lists_in links es) p ≡ (link_at links e.first).item ∷ items_at links (chain_of links (behind links e))
  at-popped = at-ends links es p ∙ (ap (λ (z : Ends). items_at links (chain_of links z)) (sym is)
      ∙ ap (items_at links) (first-place links e some))

  pub lists-popped : lists_in links (set es p (behind links e))
      ≡ set (lists_in links es) p (drop 1 (list_at (lists_in links es) p))
  lists-popped = lists-set links es p (behind links e) ∙ ap (λ l. set (lists_in links es) p (drop 1 l)) (sym at-popped)

-- the first of a list
pub first-item : (links : List Link) (es : List Ends) (p : ℕ) (e : Ends) → e ≡ slice_index_or es p no_ends → 0 < e.len
    → slice_get (list_at (lists_in links es) p) 0 ≡ Some (link_at links e.first).item
first-item links es p e is some =
    ap (λ l. slice_get l 0) (at-ends links es p ∙ (ap (λ (z : Ends). items_at links (chain_of links z)) (sym is)
    ∙ ap (items_at links) (first-place links e some)))

-- one place more, which is behind all others
pub one-more : (free : List ℕ) (k : ℕ) → ((m : ℕ) → times m free ≤ 1) → ((m : ℕ) → 0 < times m free → m < k)
    → ((m : ℕ) → times m (free ++ k ∷ []) ≤ 1) × ((m : ℕ) → 0 < times m (free ++ k ∷ []) → m < k + 1)
one-more free k once inside = (
  (λ m. dite (ℕ_discrete k m)
      (λ same. omega (arith, times-append m free k, only-same m k same, none m (omega (arith, same))))
      (λ other. omega (arith, times-append m free k, only-other m k other, once m))),
  (λ m some. dite (ℕ_discrete k m) (λ same. omega (arith, same))
      (λ other. let low = inside m (omega (arith, some, times-append m free k, only-other m k other)) in omega (arith, low))),
)
  where
    none : (m : ℕ) → k ≤ m → times m free ≡ 0
    none m high = by (times m free) refl
      where
        by : (n : ℕ) → times m free ≡ n → n ≡ 0
        by zero h = refl
        by (suc n) h = absurd (let low = inside m (omega (arith, h)) in omega (arith, low, high))

-- an entry that doesn't pass is passed by
pub found-behind : (test : Paced → Bool) (links : List Link) (n i : ℕ) → 0 < n → test (link_at links i).item ≡ false
    → find test (items_at links (chain_at links n i))
    ≡ find test (items_at links (chain_at links (n - 1) (link_at links i).next))
found-behind test links n i some miss =
    ap (λ ks. find test (items_at links ks)) (first-of links n i some) ∙ rw miss refl

lesser-pass : (n : ℕ) (r s : Option ℕ) → lesser r (Some (smaller n s)) ≡ lesser (Some (smaller n r)) s
lesser-pass n None s = refl
lesser-pass n (Some k) None = ap Some (pair n k)
  where
    pair : (n k : ℕ) → smaller k (Some n) ≡ smaller n (Some k)
    pair n k = grind (arith, nat_tests)
lesser-pass n (Some k) (Some m) = ap Some (triple n k m)
  where
    triple : (n k m : ℕ) → smaller k (Some (smaller n (Some m))) ≡ smaller (smaller n (Some k)) (Some m)
    triple n k m = grind (arith, nat_tests)

-- and the least number so far is that of the entries passed by
pub least-behind : (passes : Paced → Bool) (links : List Link) (n i : ℕ) (all so-far now : Option ℕ) → 0 < n
    → all ≡ lesser so-far (least_number passes number_of (items_at links (chain_at links n i)))
    → now ≡ cond (passes (link_at links i).item) (Some (smaller (number_of (link_at links i).item) so-far)) so-far
    → all ≡ lesser now (least_number passes number_of (items_at links (chain_at links (n - 1) (link_at links i).next)))
least-behind passes links n i all so-far now some is more =
    is ∙ (ap (λ ks. lesser so-far (least_number passes number_of (items_at links ks))) (first-of links n i some)
    ∙ by (passes (link_at links i).item) refl)
  where
    rest : Option ℕ
    rest = least_number passes number_of (items_at links (chain_at links (n - 1) (link_at links i).next))

    number : ℕ
    number = number_of (link_at links i).item

    by : (b : Bool) → passes (link_at links i).item ≡ b
        → lesser so-far (cond (passes (link_at links i).item) (Some (smaller number rest)) rest) ≡ lesser now rest
    by true t = rw (more, t) (lesser-pass number so-far rest)
    by false t = rw (more, t) refl

-- no list has anything
pub lists-empty : (links : List Link) (n : ℕ) → lists_in links (replicate n no_ends) ≡ replicate n []
lists-empty links zero = refl
lists-empty links (suc n) = ap (λ ls. [] ∷ ls) (lists-empty links n)

pub one-more-empty : (n : ℕ) → replicate n no_ends ++ no_ends ∷ [] ≡ replicate (n + 1) no_ends
one-more-empty n = let more : suc n ≡ n + 1 = omega arith in by n ∙ ap (λ m. replicate m no_ends) more
  where
    by : (m : ℕ) → replicate m no_ends ++ no_ends ∷ [] ≡ replicate (suc m) no_ends
    by zero = refl
    by (suc m) = ap (λ es. no_ends ∷ es) (by m)

none-empty : (links : List Link) (n k : ℕ) → in_chains k links (replicate n no_ends) ≡ 0
none-empty links zero k = refl
none-empty links (suc n) k = omega (arith, none-empty links n k)

lens-empty : (n : ℕ) → lens (replicate n no_ends) ≡ 0
lens-empty zero = refl
lens-empty (suc n) = omega (arith, lens-empty n)

ends-empty : (links : List Link) (n : ℕ) → AllByRecursion (EndsAt links) (replicate n no_ends)
ends-empty links zero = tt
ends-empty links (suc n) = ((λ some. absurd (omega (arith, some))), ends-empty links n)

pub tied-empty : (links : List Link) (n : ℕ) (free : List ℕ) → ((k : ℕ) → times k free ≤ 1)
    → ((k : ℕ) → 0 < times k free → k < length links) → length free ≤ length links → length links < 4294967296
    → Tied links (replicate n no_ends) free
tied-empty links n free once inside count few = record {
  once = λ k. omega (arith, none-empty links n k, once k);
  inside = λ k some. inside k (omega (arith, some, none-empty links n k));
  ends = ends-empty links n;
  count = omega (arith, lens-empty n, count);
  few = few;
}
