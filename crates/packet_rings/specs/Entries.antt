-- Which entries are an owner's, and which of them has a number.
use Rattle.std.specs.Prelude.{ℕ, Bool, true, false, not, ◌&&◌, ◌==◌, ◌≤◌, IsTrue, List, [], ◌∷◌}
use Rattle.std.specs.Prelude.{Option}
use Rattle.std.specs.Prelude.{Some, None}
use Rattle.std.specs.List.{AllByRecursion}
use Rattle.rpc_base.specs.declared.owner.Owner.{Owner}
use Rattle.rpc_base.specs.declared.owner.Owner.TheVariants.{Ask, Reply, Control}
use Rattle.rpc_base.specs.Owners.{same_owner}
use Rattle.packet_rings.specs.Values.{EntryValue}

-- whether an entry is this owner's
abbrev pub is_of : Owner → EntryValue → Bool
is_of owner e = same_owner e.owner owner

abbrev pub is_not_of : Owner → EntryValue → Bool
is_not_of owner e = not (is_of owner e)

-- whether it is a reply
abbrev pub is_reply_owner : Owner → Bool
is_reply_owner (Reply t r) = true
is_reply_owner (Ask s r) = false
is_reply_owner Control = false

abbrev pub is_reply : EntryValue → Bool
is_reply e = is_reply_owner e.owner

abbrev pub number_of : EntryValue → ℕ
number_of e = e.number

-- whether an entry is this owner's packet of this number
abbrev pub is_entry : Owner → ℕ → EntryValue → Bool
is_entry owner number e = same_owner e.owner owner && e.number == number

-- no entry of this owner has a number below n
abbrev pub NoneLower : Owner → ℕ → List EntryValue → Type 0
NoneLower owner n entries = AllByRecursion (λ e. IsTrue (is_of owner e) → n ≤ e.number) entries

-- whether there is a value that passes
abbrev pub option_is : {A : Type 0} → (A → Bool) → Option A → Bool
option_is passes None = false
option_is passes (Some e) = passes e

-- the value, where there is one
abbrev pub listed_entry : Option EntryValue → List EntryValue
listed_entry None = []
listed_entry (Some e) = e ∷ []
