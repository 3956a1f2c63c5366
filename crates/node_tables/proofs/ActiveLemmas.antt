-- Calls that are active, and calls that wait, where one of them is changed.
use Rattle.std.proofs.Common.{◌≡◌, ◌<◌, ◌≤◌, ℕ, zero, suc, Bool, true, false, not, Option, Some}
use Rattle.std.proofs.Common.{None}
use Rattle.std.proofs.Common.{List, [], ◌∷◌, length, refl, sym, ap, ◌∙◌, arith}
use Rattle.std.specs.List.{find, position, slice_get, slice_set}
use Rattle.std.specs.Option.{is_some}
use Rattle.rpc_base.specs.Tables.{at_first}
use Rattle.rpc_base.proofs.TablesLemmas.{at_first-found, find-found}
use Rattle.rpc_base.proofs.TakingLemmas.{find-passes}
use Rattle.rpc_laws.proofs.PartsLemmas.{position-within}
use Rattle.rpc_laws.specs.declared.tables.Call.{Call}
use Rattle.rpc_laws.specs.declared.tables.Progress.{Progress}
use Rattle.rpc_laws.specs.BegunPart.{IsBegunAt}
use Rattle.rpc_laws.specs.Calls.{is_active, moved}

pub waits-inactive : (r : ℕ) (c : Call) → c.progress ≡ None → is_active r c ≡ false
waits-inactive r c e = rw e refl

-- a call that has progress began
begun-by : (i : ℕ) (calls : List Call) (c : Call) (o : Option Progress) → slice_get calls i ≡ Some c
    → c.progress ≡ o → (o ≡ None → ⊥) → IsBegunAt i calls
begun-by i calls c None here e some = absurd (some refl)
begun-by i calls c (Some p) here e some =
    record { call = c; progress = p; there = here; began = e }

pub at-progress : (i : ℕ) (calls : List Call) (c : Call) → slice_get calls i ≡ Some c
    → (c.progress ≡ None → ⊥) → IsBegunAt i calls
at-progress i calls c here some = begun-by i calls c c.progress here refl some

missing : (xs : List Call) (i : ℕ) → slice_get xs i ≡ None → length xs ≤ i
missing [] i e = omega arith
missing (x ∷ xs) zero e = cc
missing (x ∷ xs) (suc i) e = let h = missing xs i e in omega arith

active-by : (r i : ℕ) (calls : List Call) (o : Option Call) → slice_get calls i ≡ o
    → find (is_active r) calls ≡ o → i < length calls → IsBegunAt i calls
active-by r i calls None here found below = let past = missing calls i here in absurd (omega arith)
active-by r i calls (Some c) here found below =
    let passes = find-passes (is_active r) calls c found in
    at-progress i calls c here (λ e. let fails = waits-inactive r c e in cc)

-- the active call of a request began
pub active-begun : (r i : ℕ) (calls : List Call) → position (is_active r) calls ≡ Some i
    → IsBegunAt i calls
active-begun r i calls e =
    active-by r i calls (slice_get calls i) refl (find-found (is_active r) calls i e)
    (position-within (is_active r) calls i e)

-- a test that tells there is none
pub none-told : (b : Bool) (o : Option Progress) → is_some o ≡ not b → b ≡ true → o ≡ None
none-told b None e t = refl
none-told b (Some p) e t = let h = rw t at e in cc

-- a call that waits has no progress that changes
set-same : (calls : List Call) (i : ℕ) (c : Call) → slice_get calls i ≡ Some c
    → slice_set calls i c ≡ calls
set-same [] i c e = cc
set-same (x ∷ xs) zero c e = let same : x ≡ c = cc in ap (λ (y : Call). y ∷ xs) (sym same)
set-same (x ∷ xs) (suc i) c e = ap (λ (ys : List Call). x ∷ ys) (set-same xs i c e)

unmoved : (f : Progress → Progress) (c : Call) → c.progress ≡ None → moved f c ≡ c
unmoved f c e = rw e refl

pub waits-unmoved : (p : Call → Bool) (f : Progress
    → Progress) (calls : List Call) (i : ℕ) (c : Call)
    → position p calls ≡ Some i → slice_get calls i ≡ Some c → c.progress ≡ None
    → at_first p (moved f) calls ≡ calls
waits-unmoved p f calls i c e here waits =
    at_first-found p (moved f) calls i c e here
    ∙ (ap (λ (d : Call). slice_set calls i d) (unmoved f c waits) ∙ set-same calls i c here)
