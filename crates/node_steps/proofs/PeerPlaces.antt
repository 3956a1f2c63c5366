-- Where a session with a peer stands.
use Rattle.std.proofs.Common.{◌≡◌, ℕ, Bool, false, length, ◌<◌, ◌≤◌, ◌+◌, inl, inr}
use Rattle.std.proofs.Common.{arith}
use Rattle.std.proofs.lemmas.Bool.{cases_lt}
use Rattle.std.proofs.lemmas.Option.{slice_get_past}
use Rattle.rpc_laws.specs.declared.tables.Lists.{Lists}
use Rattle.node_steps.specs.Peers.{is_with}

-- nothing stands behind both lists
past : (peer n : ℕ) (s : Lists) → length s.clients ≤ n → length s.servers ≤ n → (i : ℕ) → n ≤ i
    → is_with i peer s ≡ false
past peer n s a b i h =
    let p = slice_get_past s.clients i (omega (arith, a, h)) in
    let q = slice_get_past s.servers i (omega (arith, b, h)) in cc

pub none-with : (peer n : ℕ) (s : Lists) → length s.clients ≤ n → length s.servers ≤ n
    → ((i : ℕ) → i < n → is_with i peer s ≡ false) → (i : ℕ) → is_with i peer s ≡ false
none-with peer n s a b f i = elim (cases_lt i n) [
  | inl below ↦ f i below
  | inr behind ↦ past peer n s a b i behind
]

pub none-first : (f : ℕ → Bool) → (i : ℕ) → i < 0 → f i ≡ false
none-first f i h = absurd (omega (arith, h))

pub none-more : (f : ℕ → Bool) (n : ℕ) → ((i : ℕ) → i < n → f i ≡ false) → f n ≡ false
    → (i : ℕ) → i < n + 1 → f i ≡ false
none-more f n below here i h = elim (cases_lt i n) [
  | inl less ↦ below i less
  | inr more ↦ (let same : i ≡ n = omega (arith, h, more) in cc)
]
