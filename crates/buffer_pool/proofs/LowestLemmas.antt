-- The leaves of a tree as the list of the places' values: the first true one, a write, and as they are made.
use Rattle.std.proofs.Common.{◌≡◌, ◌≢◌, ◌≤◌, ◌<◌, ◌+◌, ◌-◌, ◌*◌, ◌∙◌, inl, inr, ℕ, suc, Bool, true}
use Rattle.std.proofs.Common.{false, Some, None, List, [], ◌∷◌, ◌++◌, length, get_or, set, drop}
use Rattle.std.proofs.Common.{replicate, position, sym, arith}
use Rattle.std.specs.List.{position_or_len}
use Rattle.std.proofs.lemmas.List.{get_or-set_same, get_or-set_other, length-set, get_or-take}
use Rattle.std.proofs.lemmas.List.{get_or-drop, length-take, length-drop, ext_get_or}
use Rattle.std.proofs.lemmas.List.{take-replicate, drop-replicate, length-replicate, set_at}
use Rattle.std.proofs.lemmas.List.{replicate_more, append_assoc}
use Rattle.std.proofs.lemmas.List.Sums.{position_or_len_is}
use Rattle.std.proofs.lemmas.Bool.{cases_eq, cases_lt}
use Rattle.std.proofs.lemmas.Bool.Decides.{nat_tests}
use Rattle.buffer_pool.specs.Tree.{value_at, above, leaves_in, FitsTree, IsJoined, NoneBelow}
use Rattle.buffer_pool.proofs.TreeLemmas.{above-from, above-below, true_above}
use Rattle.rpc_base.proofs.BasicLemmas.{unless-true}

pub length-leaves : (tree : List Bool) (leaves places : ℕ) → length tree ≡ 2 * leaves
    → places ≤ leaves → length (leaves_in tree leaves places) ≡ places
length-leaves tree leaves places s r = omega (arith, length-take places (drop leaves tree), length-drop leaves tree)

leaf-at : (tree : List Bool) (leaves places i : ℕ) → i < places
    → get_or (leaves_in tree leaves places) i false ≡ value_at tree (leaves + i)
leaf-at tree leaves places i h = get_or-take places (drop leaves tree) i false h ∙ get_or-drop leaves tree i false

-- the first place that passes, by what stands at each
position-found : (xs : List Bool) (i : ℕ) → i < length xs → get_or xs i false ≡ true
    → ((k : ℕ) → k < i → get_or xs k false ≡ false) → Some i ≡ position (λ x. x) xs
position-found xs i h t f =
    let first : position_or_len (λ (x : Bool). x) xs ≡ i =
    position_or_len_is (λ x. x) xs i false (omega arith) f (λ _. t) in
    rw first (grind (arith, nat_tests))

position-missing : (xs : List Bool) → ((k : ℕ) → k < length xs → get_or xs k false ≡ false)
    → None ≡ position (λ x. x) xs
position-missing xs f =
    let first : position_or_len (λ (x : Bool). x) xs ≡ length xs =
    position_or_len_is (λ x. x) xs (length xs) false (omega arith) f
    (λ h. absurd (omega arith)) in
    rw first (grind (arith, nat_tests))

-- with a false root no leaf is true
leaf-false : (tree : List Bool) (leaves height places p : ℕ) → FitsTree tree leaves height places
    → value_at tree 1 ≡ false → leaves ≤ p → p < length tree → value_at tree p ≡ true → ⊥
leaf-false tree leaves height places p fits root low high v =
    let from : 1 ≤ above height p = above-from height 1 p (omega (arith, fits.power)) in
    let below : above height p < 2 = above-below height 1 p (omega (arith, fits.power, fits.size)) in
    let top : above height p ≡ 1 = omega arith in
    let clash : value_at tree 1 ≡ true =
    rw top at (true_above tree leaves height p fits.size fits.joined high v
    (omega arith)) in
    cc

pub lowest-none : (tree : List Bool) (leaves height places : ℕ) → FitsTree tree leaves height places
    → value_at tree 1 ≡ false → None ≡ position (λ x. x) (leaves_in tree leaves places)
lowest-none tree leaves height places fits root =
    let size : length (leaves_in tree leaves places) ≡ places =
    length-leaves tree leaves places fits.size fits.room in
    position-missing (leaves_in tree leaves places)
    (λ k h. leaf-at tree leaves places k (omega arith)
    ∙ unless-true (value_at tree (leaves + k))
    (λ v. leaf-false tree leaves height places (leaves + k) fits root (omega arith)
    (omega (arith, fits.size, fits.room)) v))

-- a true leaf is a place's
leaf-place : (tree : List Bool) (leaves height places leaf : ℕ) → FitsTree tree leaves height places
    → value_at tree leaf ≡ true → leaf < leaves + places
leaf-place tree leaves height places leaf fits v = elim (cases_lt leaf (leaves + places)) [ inl below ↦ below | inr past ↦ (let clash : value_at tree leaf ≡ false = fits.past leaf past in cc) ]

pub lowest-some : (tree : List Bool) (leaves height places leaf : ℕ)
    → FitsTree tree leaves height places → length tree ≤ 2 * leaf → value_at tree leaf ≡ true
    → ((p : ℕ) → length tree ≤ 2 * p → p < leaf → value_at tree p ≡ false)
    → Some (leaf - leaves) ≡ position (λ x. x) (leaves_in tree leaves places)
lowest-some tree leaves height places leaf fits l v first =
    let size : length (leaves_in tree leaves places) ≡ places =
    length-leaves tree leaves places fits.size fits.room in
    let within : leaf < leaves + places = leaf-place tree leaves height places leaf fits v in
    let place : leaves + (leaf - leaves) ≡ leaf = omega (arith, fits.size) in
    let here : value_at tree (leaves + (leaf - leaves)) ≡ true = rw place v in
    position-found (leaves_in tree leaves places) (leaf - leaves) (omega (arith, fits.size))
    (leaf-at tree leaves places (leaf - leaves) (omega (arith, fits.size)) ∙ here)
    (λ k h. leaf-at tree leaves places k (omega arith)
    ∙ first (leaves + k) (omega (arith, fits.size)) (omega arith))

-- the first place that may be empty is
pub lowest-first : (tree : List Bool) (leaves height places from : ℕ)
    → FitsTree tree leaves height places → NoneBelow tree leaves from
    → value_at tree (leaves + from) ≡ true
    → Some from ≡ position (λ x. x) (leaves_in tree leaves places)
lowest-first tree leaves height places from fits none v =
    let own : leaves + from - leaves ≡ from = omega arith in
    let found = lowest-some tree leaves height places (leaves + from) fits
    (omega (arith, fits.size)) v
    (λ p l h. let back : leaves + (p - leaves) ≡ p = omega (arith, fits.size) in
    let other : value_at tree (leaves + (p - leaves)) ≡ false =
    none (p - leaves) (omega (arith, fits.size)) in
    rw back at other) in
    rw own at found

-- the tree in which a place was written, and the values above it joined
pub fits-set : (before after : List Bool) (leaves height places place : ℕ) (b : Bool)
    → FitsTree before leaves height places → place < places → length after ≡ length before
    → ((q : ℕ) → 0 < q → 2 * q + 1 < length after → IsJoined after q)
    → ((p : ℕ) → leaves ≤ p → value_at after p ≡ value_at (set before (leaves + place) b) p)
    → FitsTree after leaves height places
fits-set before after leaves height places place b fits within long joined same = record {
  size = long ∙ fits.size;
  power = fits.power;
  room = fits.room;
  few = fits.few;
  joined = joined;
  past = λ p h. same p (omega arith)
      ∙ get_or-set_other before (leaves + place) p b false (omega arith) ∙ fits.past p h;
}

-- once a place is written, none before the new first one is marked
pub below-set : (before after : List Bool) (leaves place from then : ℕ) (b : Bool)
    → leaves + place < length before
    → ((p : ℕ) → leaves ≤ p → value_at after p ≡ value_at (set before (leaves + place) b) p)
    → NoneBelow before leaves from → ((k : ℕ) → k < then → k ≢ place → k < from)
    → (place < then → b ≡ false) → NoneBelow after leaves then
below-set before after leaves place from then b wide same none others own k h =
    same (leaves + k) (omega arith) ∙ elim (cases_eq k place) [
      | inl e ↦ rw e (get_or-set_same before (leaves + place) b false wide ∙ own (rw e at h))
      | inr n ↦ get_or-set_other before (leaves + place) (leaves + k) b false (omega arith)
          ∙ none k (others k h n)
    ]

-- a place written
pub leaves-set : (before after : List Bool) (leaves places place : ℕ) (b : Bool)
    → length before ≡ 2 * leaves → length after ≡ length before → places ≤ leaves → place < places
    → ((p : ℕ) → leaves ≤ p → value_at after p ≡ value_at (set before (leaves + place) b) p)
    → leaves_in after leaves places ≡ set (leaves_in before leaves places) place b
leaves-set before after leaves places place b s e r h same =
    let old : length (leaves_in before leaves places) ≡ places = length-leaves before leaves places s r in
    let new : length (leaves_in after leaves places) ≡ places = length-leaves after leaves places (e ∙ s) r in
    ext_get_or false (leaves_in after leaves places) (set (leaves_in before leaves places) place b)
    (omega (arith, length-set (leaves_in before leaves places) place b))
    (λ i l. leaf-at after leaves places i (omega arith) ∙ same (leaves + i) (omega arith)
    ∙ leaf-set before leaves places place i b s old h (omega arith) r)
  where
    leaf-set : (before : List Bool) (leaves places place i : ℕ) (b : Bool)
        → length before ≡ 2 * leaves → length (leaves_in before leaves places) ≡ places
        → place < places → i < places → places ≤ leaves
        → value_at (set before (leaves + place) b) (leaves + i)
        ≡ get_or (set (leaves_in before leaves places) place b) i false
    leaf-set before leaves places place i b s old h l r = elim (cases_eq i place) [
      | inl own ↦ rw own (get_or-set_same before (leaves + place) b false (omega arith)
          ∙ sym (get_or-set_same (leaves_in before leaves places) place b false (omega arith)))
      | inr other ↦ get_or-set_other before (leaves + place) (leaves + i) b false (omega arith)
          ∙ sym (leaf-at before leaves places i l)
          ∙ sym (get_or-set_other (leaves_in before leaves places) place i b false other)
    ]

-- places as they are made
pub leaves-replicate : (leaves places : ℕ) (b : Bool) → places ≤ leaves
    → leaves_in (replicate (2 * leaves) b) leaves places ≡ replicate places b
leaves-replicate leaves places b h =
    let rest : 2 * leaves - leaves ≡ leaves = omega arith in
    rw (drop-replicate leaves (2 * leaves) b, rest) (take-replicate places leaves b h)

-- one place more that is turned from false to true
pub front-more : (i n : ℕ) → i < n
    → set (replicate i true ++ replicate (n - i) false) i true
    ≡ replicate (i + 1) true ++ replicate (n - (i + 1)) false
front-more i n h =
    let more : n - i ≡ suc (n - (i + 1)) = omega arith in
    rw more (set_at (replicate i true) false (replicate (n - (i + 1)) false) true i
    (length-replicate i true) ∙ rw (← replicate_more i true)
    (sym (append_assoc (replicate i true) (true ∷ []) (replicate (n - (i + 1)) false))))
