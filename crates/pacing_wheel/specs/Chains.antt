-- Chains in an array: which places of it a chain has, and that no place is in two.
use Rattle.std.specs.Prelude.{◌≡◌, ℕ, zero, suc, ◌+◌, ◌<◌, ◌≤◌, List, [], ◌∷◌, ◌++◌, None, length}
use Rattle.std.specs.Prelude.{map, slice_index_or}
use Rattle.std.specs.List.{AllByRecursion}
use Rattle.rpc_base.specs.Totals.{only}
use Rattle.rpc_base.specs.declared.owner.Owner.TheVariants.{Control}
use Rattle.pacing_wheel.specs.declared.pacer.Paced.{Paced}
use Rattle.pacing_wheel.specs.declared.chains.Link.{Link}
use Rattle.pacing_wheel.specs.declared.chains.Ends.{Ends}

abbrev pub nothing : Link
nothing = record {
  item = record {
    due = 0;
    entry = record { owner = Control; number = 0; place = None; peer = 0 };
  };
  next = 0;
}

abbrev pub no_ends : Ends
no_ends = record { first = 0; last = 0; len = 0 }

abbrev pub link_at : List Link → ℕ → Link
link_at links k = slice_index_or links k nothing

-- the places of the n items of a chain that begins at place i
abbrev pub chain_at : List Link → ℕ → ℕ → List ℕ
chain_at links zero i = []
chain_at links (suc n) i = i ∷ chain_at links n (link_at links i).next

abbrev pub chain_of : List Link → Ends → List ℕ
chain_of links e = chain_at links e.len e.first

abbrev pub items_at : List Link → List ℕ → List Paced
items_at links [] = []
items_at links (k ∷ ks) = (link_at links k).item ∷ items_at links ks

abbrev pub lists_in : List Link → List Ends → List (List Paced)
lists_in links places = map (λ (e : Ends). items_at links (chain_of links e)) places

abbrev pub times : ℕ → List ℕ → ℕ
times k [] = 0
times k (x ∷ xs) = only k x + times k xs

-- how often a place is in all chains
abbrev pub in_chains : ℕ → List Link → List Ends → ℕ
in_chains k links [] = 0
in_chains k links (e ∷ es) = times k (chain_of links e) + in_chains k links es

abbrev pub last_or : ℕ → List ℕ → ℕ
last_or d [] = d
last_or d (x ∷ xs) = last_or x xs

-- how many items all chains have
abbrev pub lens : List Ends → ℕ
lens [] = 0
lens (e ∷ es) = e.len + lens es

-- the last of a chain is where its end says
abbrev pub EndsAt : List Link → Ends → Type 0
EndsAt links e = 0 < e.len → last_or 0 (chain_of links e) ≡ e.last

-- each place of the array is in one chain, or free, once
pub record Tied (links : List Link) (places : List Ends) (free : List ℕ) : Type 0 where
  pub once : (k : ℕ) → in_chains k links places + times k free ≤ 1
  pub inside : (k : ℕ) → 0 < in_chains k links places + times k free → k < length links
  pub ends : AllByRecursion (EndsAt links) places
  pub count : lens places + length free ≤ length links
  pub few : length links < 4294967296

-- lists, and how many items more have room
pub record Table : Type 0 where
  pub lists : List (List Paced)
  pub spare : ℕ

abbrev pub table : List (List Paced) → ℕ → Table
table lists spare = record { lists = lists; spare = spare }

abbrev pub list_at : List (List Paced) → ℕ → List Paced
list_at lists i = slice_index_or lists i []

-- one entry more behind those of list i
abbrev pub with_last : ℕ → Paced → List (List Paced) → List (List Paced)
with_last i x [] = []
with_last zero x (l ∷ ls) = (l ++ x ∷ []) ∷ ls
with_last (suc i) x (l ∷ ls) = l ∷ with_last i x ls
