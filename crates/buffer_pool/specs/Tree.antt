-- A tree of truth values in one list: node 1 is the root, nodes 2 q and 2 q + 1 are below node q.
use Rattle.std.specs.Prelude.{◌≡◌, ◌<◌, ◌≤◌, ℕ, zero, suc, ◌+◌, ◌*◌, ◌/◌, ◌^◌, ◌||◌, Bool, false}
use Rattle.std.specs.Prelude.{List, length, take, drop, slice_index_or}

-- the value at a node, false past the end
abbrev pub value_at : List Bool → ℕ → Bool
value_at tree q = slice_index_or tree q false

-- a node is true where one of the two below it is
abbrev pub IsJoined : List Bool → ℕ → Type 0
IsJoined tree q = value_at tree q ≡ (value_at tree (2 * q) || value_at tree (2 * q + 1))

-- n doubled so many times
abbrev pub doubled : ℕ → ℕ → ℕ
doubled zero n = n
doubled (suc times) n = doubled times (2 * n)

-- the node that stands so many levels above a node
abbrev pub above : ℕ → ℕ → ℕ
above zero q = q
above (suc levels) q = above levels q / 2

-- the values of the places are the leaves, from the left
abbrev pub leaves_in : List Bool → ℕ → ℕ → List Bool
leaves_in tree leaves places = take places (drop leaves tree)

-- no place before this one is marked
abbrev pub NoneBelow : List Bool → ℕ → ℕ → Type 0
NoneBelow tree leaves from = (k : ℕ) → k < from → value_at tree (leaves + k) ≡ false

-- the tree has its leaves behind its inner nodes, and each inner node is joined. Leaves past the
-- places are false
pub record FitsTree (tree : List Bool) (leaves height places : ℕ) : Type 0 where
  pub size : length tree ≡ 2 * leaves
  pub power : leaves ≡ doubled height 1
  pub room : places ≤ leaves
  pub few : places < 2 ^ 32
  pub joined : (q : ℕ) → 0 < q → 2 * q + 1 < length tree → IsJoined tree q
  pub past : (p : ℕ) → leaves + places ≤ p → value_at tree p ≡ false
