-- What the counts of a histogram tell of its times.
use Rattle.std.proofs.Common.{◌≡◌, ℕ, zero, suc, ◌+◌, ◌<◌, ◌≤◌, ◌⊎◌, ◌&&◌}
use Rattle.std.proofs.Common.{Bool, true, false, cond, List, [], ◌∷◌, length, take, get_or}
use Rattle.std.proofs.Common.{refl, sym, ◌∙◌, ap, subst, arith, nat_le, nat_lt, min, max}
use Rattle.std.proofs.Common.{inl, inr}
use Rattle.std.proofs.lemmas.List.{get_or-set_other, get_or-set_same, length-set}
use Rattle.std.proofs.lemmas.Bool.{cases_lt, and_from, and_left, and_right, lt-ltb, le-leb, le-ltb}
use Rattle.std.proofs.lemmas.Bool.Decides.{nat_tests}
use Rattle.std.proofs.lemmas.List.Sums.{sum_by-cons, sum_by_more}
use Rattle.std.specs.List.{count_by, sum}
use Rattle.time_histogram.proofs.BucketLemmas.{ends_before}
use Rattle.time_histogram.specs.Buckets.{IsBucketOf, least_of, width_of}
use Rattle.time_histogram.specs.Times.{CountsAs, Holds, IsShareOf, Tallies, is_in, share_of}
use Rattle.time_histogram.specs.declared.buckets.TheConstants.{BUCKETS}
use Rattle.time_histogram.specs.declared.buckets.Span.{Span}

-- a time is in its bucket, and in no other
is_in_own : (t k : ℕ) → IsBucketOf t k → is_in k t ≡ true
is_in_own t k is =
    and_from (nat_le (least_of k) t) (nat_lt t (least_of k + width_of k))
    (grind (arith, nat_tests, is.from)) (grind (arith, nat_tests, is.below))

is_in_other : (t k j : ℕ) → IsBucketOf t k → (j < k) ⊎ (k < j) → is_in j t ≡ false
is_in_other t k j is (inl less) =
    let before : least_of j + width_of j ≤ least_of k = ends_before j k less in
    let late : least_of j + width_of j ≤ t = omega (arith, before, is.from) in
    and_right (nat_le (least_of j) t) (nat_lt t (least_of j + width_of j))
    (grind (arith, nat_tests, late))
is_in_other t k j is (inr more) =
    let before : least_of k + width_of k ≤ least_of j = ends_before k j more in
    let early : t < least_of j = omega (arith, before, is.below) in
    and_left (nat_le (least_of j) t) (nat_lt t (least_of j + width_of j))
    (grind (arith, nat_tests, early))

count_more : (p : ℕ → Bool) (t : ℕ) (times : List ℕ) → p t ≡ true
    → count_by p (t ∷ times) ≡ count_by p times + 1
count_more p t times passes =
    sum_by-cons (λ x. cond (p x) 1 0) t times
    ∙ rw passes (omega arith)

count_same : (p : ℕ → Bool) (t : ℕ) (times : List ℕ) → p t ≡ false
    → count_by p (t ∷ times) ≡ count_by p times
count_same p t times fails =
    sum_by-cons (λ x. cond (p x) 1 0) t times
    ∙ rw fails (omega arith)

counts_add : (times : List ℕ) (t k : ℕ) (old new : Tallies) → Holds times old
    → CountsAs k t old new → IsBucketOf t k → k < BUCKETS → (j : ℕ) → j < BUCKETS
    → get_or new.counts j 0 ≡ count_by (is_in j) (t ∷ times)
counts_add times t k old new h a is below j within =
    let there : k < length old.counts = omega (arith, h.buckets) in
    let own : get_or new.counts k 0 ≡ count_by (is_in k) (t ∷ times) =
    ap (λ (xs : List ℕ). get_or xs k 0) a.counts
    ∙ (get_or-set_same old.counts k (get_or old.counts k 0 + 1) 0 there
    ∙ (ap (λ n. n + 1) (h.counts k below)
    ∙ sym (count_more (is_in k) t times (is_in_own t k is)))) in
    let other : (j < k) ⊎ (k < j) → get_or new.counts j 0 ≡ count_by (is_in j) (t ∷ times) =
    λ apart. ap (λ (xs : List ℕ). get_or xs j 0) a.counts
    ∙ (get_or-set_other old.counts k j (get_or old.counts k 0 + 1) 0
    (λ e. elim apart [ inl less ↦ omega arith | inr more ↦ omega arith ])
    ∙ (h.counts j within
    ∙ sym (count_same (is_in j) t times (is_in_other t k j is apart)))) in
    elim (cases_lt j k) [
      | inl less ↦ other (inl less)
      | inr no_less ↦ elim (cases_lt k j) [
        | inl more ↦ other (inr more)
        | inr no_more ↦
            subst (λ (i : ℕ). get_or new.counts i 0 ≡ count_by (is_in i) (t ∷ times))
            (omega arith) own
      ]
    ]

-- a histogram with one time more
pub holds_add : (times : List ℕ) (t k : ℕ) (old new : Tallies) → Holds times old
    → CountsAs k t old new → IsBucketOf t k → k < BUCKETS → Holds (t ∷ times) new
holds_add times t k old new h a is below = record {
  buckets = ap length a.counts
      ∙ (length-set old.counts k (get_or old.counts k 0 + 1) ∙ h.buckets);
  counts = counts_add times t k old new h a is below;
  count = omega (arith, a.count, h.count);
  total = a.total ∙ (ap (λ n. n + t) h.total
      ∙ (omega arith ∙ sym (sum_by-cons (λ x. x) t times)));
  least = a.least ∙ ap (λ n. min n t) h.least;
  most = a.most ∙ ap (λ n. max n t) h.most;
}

count_none : (times : List ℕ) → count_by (λ t. nat_lt t 0) times ≡ 0
count_none [] = refl
count_none (t ∷ times) =
    count_same (λ x. nat_lt x 0) t times (grind (arith, nat_tests)) ∙ count_none times

-- the times below a number, and those from it on and below a later one
split : (a w : ℕ) (times : List ℕ) → count_by (λ t. nat_lt t a) times
    + count_by (λ t. nat_le a t && nat_lt t (a + w)) times
    ≡ count_by (λ t. nat_lt t (a + w)) times
split a w [] = refl
split a w (t ∷ times) =
    let rest : count_by (λ t. nat_lt t a) times
    + count_by (λ t. nat_le a t && nat_lt t (a + w)) times
    ≡ count_by (λ t. nat_lt t (a + w)) times = split a w times in
    elim (cases_lt t a) [
      | inl low ↦
          omega (
            arith,
            rest,
            count_more (λ x. nat_lt x a) t times (lt-ltb t a low),
            count_same (λ x. nat_le a x && nat_lt x (a + w)) t times
                (and_left (nat_le a t) (nat_lt t (a + w)) (grind (arith, nat_tests, low))),
            count_more (λ x. nat_lt x (a + w)) t times (lt-ltb t (a + w) (omega arith)),
          )
      | inr from ↦ elim (cases_lt t (a + w)) [
        | inl within ↦
            omega (
              arith,
              rest,
              count_same (λ x. nat_lt x a) t times (le-ltb t a from),
              count_more (λ x. nat_le a x && nat_lt x (a + w)) t times
                  (and_from (nat_le a t) (nat_lt t (a + w)) (le-leb a t from)
                  (lt-ltb t (a + w) within)),
              count_more (λ x. nat_lt x (a + w)) t times (lt-ltb t (a + w) within),
            )
        | inr above ↦
            omega (
              arith,
              rest,
              count_same (λ x. nat_lt x a) t times (le-ltb t a from),
              count_same (λ x. nat_le a x && nat_lt x (a + w)) t times
                  (and_right (nat_le a t) (nat_lt t (a + w)) (le-ltb t (a + w) above)),
              count_same (λ x. nat_lt x (a + w)) t times (le-ltb t (a + w) above),
            )
      ]
    ]

-- the first buckets have the times below the next one
first_buckets : (times : List ℕ) (h : Tallies) → Holds times h → (k : ℕ) → k ≤ BUCKETS
    → sum (take k h.counts) ≡ count_by (λ t. nat_lt t (least_of k)) times
unfolding least_of
first_buckets times h is zero few = sym (count_none times)
first_buckets times h is (suc k) few =
    let before : sum (take k h.counts) ≡ count_by (λ t. nat_lt t (least_of k)) times =
    first_buckets times h is k (omega arith) in
    let more : sum (take (k + 1) h.counts) ≡ sum (take k h.counts) + get_or h.counts k 0 =
    sum_by_more (λ x. x) h.counts k 0 (omega (arith, is.buckets)) in
    let parts : count_by (λ t. nat_lt t (least_of k)) times + count_by (is_in k) times
    ≡ count_by (λ t. nat_lt t (least_of k + width_of k)) times =
    split (least_of k) (width_of k) times in
    let here : get_or h.counts k 0 ≡ count_by (is_in k) times = is.counts k (omega arith) in
    let next : suc k ≡ k + 1 = omega arith in
    ap (λ (n : ℕ). sum (take n h.counts)) next ∙ omega (arith, before, more, parts, here)

-- the bucket in which a share of the times ends
pub share_found : (share : ℕ) (times : List ℕ) (h : Tallies) (s : Span) (k : ℕ) → Holds times h
    → k < BUCKETS → s.least ≡ least_of k → s.most + 1 ≡ least_of k + width_of k
    → share_of share h.count ≤ sum (take (k + 1) h.counts)
    → sum (take k h.counts) < share_of share h.count → IsShareOf share times s
unfolding least_of
share_found share times h s k is below least most enough fewer =
    let next : k + 1 ≡ suc k = omega arith in
    let upto : sum (take (k + 1) h.counts) ≡ count_by (λ t. nat_lt t (s.most + 1)) times =
    ap (λ (n : ℕ). sum (take n h.counts)) next
    ∙ (first_buckets times h is (suc k) below
    ∙ ap (λ (b : ℕ). count_by (λ t. nat_lt t b) times) (sym most)) in
    let under : sum (take k h.counts) ≡ count_by (λ t. nat_lt t s.least) times =
    first_buckets times h is k (omega arith)
    ∙ ap (λ (b : ℕ). count_by (λ t. nat_lt t b) times) (sym least) in
    let shares : share_of share h.count ≡ share_of share (length times) =
    ap (λ (n : ℕ). share_of share n) is.count in
    record {
      enough = omega (arith, enough, upto, shares);
      fewer = omega (arith, fewer, under, shares);
    }
