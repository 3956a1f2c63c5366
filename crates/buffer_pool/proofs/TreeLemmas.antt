-- What a joined tree tells of its leaves, and where a walk down from its root stands.
use Rattle.std.proofs.Common.{◌≡◌, ◌≢◌, ◌≤◌, ◌<◌, ◌+◌, ◌-◌, ◌*◌, ◌/◌, ◌∙◌, ◌||◌, inl, inr, ℕ, zero}
use Rattle.std.proofs.Common.{suc, Bool, true, false, List, length, refl, sym, add-one, arith}
use Rattle.std.proofs.lemmas.Bool.{cases_eq}
use Rattle.buffer_pool.specs.Tree.{IsJoined, value_at, doubled, above}

-- all inner nodes but one are joined, and the leaves are those of another tree
pub record JoinedBut (tree before : List Bool) (node : ℕ) : Type 0 where
  pub inner : 2 * node + 1 < length tree
  pub others : (q : ℕ) → 0 < q → 2 * q + 1 < length tree → q ≢ node → IsJoined tree q
  pub leaves : (p : ℕ) → length tree ≤ 2 * p → value_at tree p ≡ value_at before p

-- doubling
pub doubled-above : (times n : ℕ) → n ≤ doubled times n
doubled-above zero n = omega arith
doubled-above (suc times) n = omega (arith, doubled-above times (2 * n))

pub doubled-double : (times n : ℕ) → doubled times (2 * n) ≡ 2 * doubled times n
doubled-double zero n = refl
doubled-double (suc times) n = doubled-double times (2 * n)

-- the nodes above a leaf
pub above-le : (levels p : ℕ) → above levels p ≤ p
above-le zero p = omega arith
above-le (suc levels) p = omega (arith, above-le levels p)

pub above-from : (levels n p : ℕ) → doubled levels n ≤ p → n ≤ above levels p
above-from zero n p h = h
above-from (suc levels) n p h = omega (arith, above-from levels (2 * n) p h)

pub above-below : (levels n p : ℕ) → p < 2 * doubled levels n → above levels p < 2 * n
above-below zero n p h = h
above-below (suc levels) n p h = omega (arith, above-below levels (2 * n) p h)

or-half : (tree : List Bool) (r q : ℕ) → q ≡ r / 2 → value_at tree r ≡ true
    → (value_at tree (2 * q) || value_at tree (2 * q + 1)) ≡ true
or-half tree r q e h = elim (cases_eq r (2 * q)) [ inl even ↦ (let left : value_at tree (2 * q) ≡ true = rw (← even) h in rw left refl) | inr odd ↦ (let same : r ≡ 2 * q + 1 = omega arith in let right : value_at tree (2 * q + 1) ≡ true = rw (← same) h in rw right (or-true (value_at tree (2 * q)))) ]
  where
    or-true : (b : Bool) → (b || true) ≡ true
    or-true true = refl
    or-true false = refl

-- above a true leaf all nodes are true
pub true_above : (tree : List Bool) (leaves levels p : ℕ) → length tree ≡ 2 * leaves
    → ((q : ℕ) → 0 < q → 2 * q + 1 < length tree → IsJoined tree q) → p < length tree
    → value_at tree p ≡ true → 0 < above levels p → value_at tree (above levels p) ≡ true
true_above tree leaves zero p s j l h n = h
true_above tree leaves (suc levels) p s j l h n =
    let low : above levels p ≤ p = above-le levels p in
    let below : value_at tree (above levels p) ≡ true = true_above tree leaves levels p s j l h (omega arith) in
    j (above levels p / 2) n (omega arith) ∙ or-half tree (above levels p) (above levels p / 2) refl below

pub doubled-more : (times : ℕ) → doubled (times + 1) 1 ≡ 2 * doubled times 1
doubled-more times = rw add-one (doubled-double times 1)

-- where a walk down from the root stands: the node is true, and all true leaves are below it or to its right
pub record IsDescent (tree : List Bool) (levels node : ℕ) : Type 0 where
  pub inside : (first : ℕ) × (0 < first) × (first ≤ node) × (node < 2 * first)
      × (length tree ≡ 2 * doubled levels first)
  pub value : value_at tree node ≡ true
  pub least : (p : ℕ) → length tree ≤ 2 * p → p < length tree → value_at tree p ≡ true → node ≤ above levels p

pub IsDescent-root : (tree : List Bool) (height : ℕ) → value_at tree 1 ≡ true
    → length tree ≡ 2 * doubled height 1 → IsDescent tree height 1
IsDescent-root tree height v s = record {
  inside = (1, omega arith, omega arith, omega arith, s);
  value = v;
  least = λ p l w t. above-from height 1 p (omega arith);
}

descent-inner : (tree : List Bool) (k node : ℕ) → IsDescent tree (suc k) node → (0 < node)
    × (2 * node + 1 < length tree)
descent-inner tree k node d = let (first, some, low, high, size) = d.inside in (omega arith, omega (arith, doubled-above k (2 * first)))

descent-left : (tree : List Bool) (k node : ℕ) → value_at tree (2 * node) ≡ true
    → IsDescent tree (suc k) node → IsDescent tree k (2 * node)
descent-left tree k node v d =
    let (first, some, low, high, size) = d.inside in
    record {
      inside = (2 * first, omega arith, omega arith, omega arith, size);
      value = v;
      least = λ p l w t. omega (arith, d.least p l w t);
    }

descent-right : (tree : List Bool) (k node : ℕ) → value_at tree (2 * node) ≡ false
    → ((q : ℕ) → 0 < q → 2 * q + 1 < length tree → IsJoined tree q) → IsDescent tree (suc k) node
    → IsDescent tree k (2 * node + 1)
descent-right tree k node v j d =
    let (first, some, low, high, size) = d.inside in
    let here = descent-inner tree k node d in
    let joined : value_at tree node ≡ (value_at tree (2 * node) || value_at tree (2 * node + 1)) =
    j node here.0 here.1 in
    record {
      inside = (2 * first, omega arith, omega arith, omega arith, size);
      value = rw v at (sym joined ∙ d.value);
      least = λ p l w t. right-of tree k node p v (omega (arith, d.least p l w t))
          (true_above tree (doubled k (2 * first)) k p size j w t
          (omega (arith, here.0, d.least p l w t)));
    }
  where
    right-of : (tree : List Bool) (k node p : ℕ) → value_at tree (2 * node) ≡ false
        → 2 * node ≤ above k p → value_at tree (above k p) ≡ true → 2 * node + 1 ≤ above k p
    right-of tree k node p v h t = elim (cases_eq (above k p) (2 * node)) [ inl same ↦ (let clash : value_at tree (2 * node) ≡ true = rw (← same) t in cc) | inr other ↦ omega arith ]

descent-cases : (tree : List Bool) (k node next : ℕ) (b : Bool) → value_at tree (2 * node) ≡ b
    → ((q : ℕ) → 0 < q → 2 * q + 1 < length tree → IsJoined tree q)
    → (value_at tree (2 * node) ≡ true → next ≡ 2 * node)
    → (value_at tree (2 * node) ≡ false → next ≡ 2 * node + 1) → IsDescent tree (suc k) node
    → IsDescent tree k next
descent-cases tree k node next true e j left right d = rw (left e) (descent-left tree k node e d)
descent-cases tree k node next false e j left right d = rw (right e) (descent-right tree k node e j d)

-- above the leaves there are two nodes below the one where the walk stands
pub IsDescent-inner : (tree : List Bool) (levels node : ℕ) → 0 < levels → IsDescent tree levels node
    → 2 * node + 1 < length tree
IsDescent-inner tree zero node h d = absurd (omega arith)
IsDescent-inner tree (suc k) node h d = (descent-inner tree k node d).1

-- one step down, to the first true node of the two
pub IsDescent-lower : (tree : List Bool) (levels node next : ℕ) → 0 < levels
    → ((q : ℕ) → 0 < q → 2 * q + 1 < length tree → IsJoined tree q)
    → (value_at tree (2 * node) ≡ true → next ≡ 2 * node)
    → (value_at tree (2 * node) ≡ false → next ≡ 2 * node + 1) → IsDescent tree levels node
    → IsDescent tree (levels - 1) next
IsDescent-lower tree zero node next h j left right d = absurd (omega arith)
IsDescent-lower tree (suc k) node next h j left right d =
    let less : suc k - 1 ≡ k = omega arith in
    rw less (descent-cases tree k node next (value_at tree (2 * node)) refl j left right d)
