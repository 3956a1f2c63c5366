-- Where no slot is free, a session has eight active calls.
use Rattle.std.proofs.Common.{◌≡◌, ◌<◌, ◌≤◌, ◌+◌, ◌%◌, ◌==◌, ℕ, zero, suc, nat_lt, not, Bool, true}
use Rattle.std.proofs.Common.{false, cond}
use Rattle.std.proofs.Common.{List, [], ◌∷◌, length, Option, Some, None, refl, sym, ap, arith}
use Rattle.std.proofs.Common.{ltb-false}
use Rattle.std.specs.Prelude.{count_by, is_some}
use Rattle.std.specs.List.{prefix_len, position, AllByRecursion}
use Rattle.rpc_base.proofs.FirstLemmas.{any-counted, counted-cons}
use Rattle.rpc_laws.specs.declared.tables.Call.{Call}
use Rattle.rpc_laws.specs.declared.tables.Client.{Client}
use Rattle.rpc_laws.specs.declared.tables.Progress.{Progress}
use Rattle.rpc_laws.specs.Posting.{holds_slot, is_taken, lowest_free}
use Rattle.node_laws.specs.Valid.{Sound, in_slot}
use Rattle.stall_laws.specs.Caused.{active_calls}

-- a place that isn't found
all-pass : {A : Type 0} (p : A → Bool) (xs : List A) → length xs ≤ prefix_len p xs → AllByRecursion (λ x. p x ≡ true) xs
all-pass p [] le = tt
all-pass p (x ∷ xs) le = by (p x) le (all-pass p xs)
  where
    by : (b : Bool) → suc (length xs) ≤ cond b (1 + prefix_len p xs) 0
        → (length xs ≤ prefix_len p xs → AllByRecursion (λ y. p y ≡ true) xs)
        → (b ≡ true) × AllByRecursion (λ y. p y ≡ true) xs
    by true le ih = (refl, ih (omega arith))
    by false le ih = absurd (omega arith)

not-found : {A : Type 0} (p : A → Bool) (xs : List A) → position p xs ≡ None → AllByRecursion (λ x. not (p x) ≡ true) xs
not-found p xs h = by (nat_lt (prefix_len (λ x. not (p x)) xs) (length xs)) refl h
  where
    by : (b : Bool) → nat_lt (prefix_len (λ x. not (p x)) xs) (length xs) ≡ b
        → cond b (Some (prefix_len (λ x. not (p x)) xs)) None ≡ None → AllByRecursion (λ x. not (p x) ≡ true) xs
    by true e h = cc
    by false e h = all-pass (λ x. not (p x)) xs (ltb-false (prefix_len (λ x. not (p x)) xs) (length xs) e)

not-not : (b : Bool) → not (not b) ≡ true → b ≡ true
not-not true h = refl
not-not false h = cc

-- each active call has one of eight slots
one-of-eight : (k : ℕ) → k < 8 → cond {A = ℕ} (k == 0) 1 0 + cond (k == 1) 1 0 + cond (k == 2) 1 0 + cond (k == 3) 1 0
    + cond (k == 4) 1 0 + cond (k == 5) 1 0 + cond (k == 6) 1 0 + cond (k == 7) 1 0 ≡ 1
one-of-eight zero lt = refl
one-of-eight (suc zero) lt = refl
one-of-eight (suc (suc zero)) lt = refl
one-of-eight (suc (suc (suc zero))) lt = refl
one-of-eight (suc (suc (suc (suc zero)))) lt = refl
one-of-eight (suc (suc (suc (suc (suc zero))))) lt = refl
one-of-eight (suc (suc (suc (suc (suc (suc zero)))))) lt = refl
one-of-eight (suc (suc (suc (suc (suc (suc (suc zero))))))) lt = refl
one-of-eight (suc (suc (suc (suc (suc (suc (suc (suc k)))))))) lt = absurd (omega arith)

slots-of : (o : Option Progress) → cond {A = ℕ} (is_some o) 1 0
    ≡ cond (holds_slot 0 o) 1 0 + cond (holds_slot 1 o) 1 0 + cond (holds_slot 2 o) 1 0 + cond (holds_slot 3 o) 1 0
    + cond (holds_slot 4 o) 1 0 + cond (holds_slot 5 o) 1 0 + cond (holds_slot 6 o) 1 0 + cond (holds_slot 7 o) 1 0
slots-of None = refl
slots-of (Some p) = sym (one-of-eight (p.request % 8) (omega arith))

sum-slots : (calls : List Call) → count_by (λ c. is_some c.progress) calls
    ≡ in_slot 0 calls + in_slot 1 calls + in_slot 2 calls + in_slot 3 calls
    + in_slot 4 calls + in_slot 5 calls + in_slot 6 calls + in_slot 7 calls
sum-slots [] = refl
sum-slots (c ∷ cs) =
    let ih = sum-slots cs in
    let here = slots-of c.progress in
    let all = counted-cons (λ (d : Call). is_some d.progress) c cs (is_some c.progress) refl in
    let s0 = counted-cons (λ (d : Call). holds_slot 0 d.progress) c cs (holds_slot 0 c.progress) refl in
    let s1 = counted-cons (λ (d : Call). holds_slot 1 d.progress) c cs (holds_slot 1 c.progress) refl in
    let s2 = counted-cons (λ (d : Call). holds_slot 2 d.progress) c cs (holds_slot 2 c.progress) refl in
    let s3 = counted-cons (λ (d : Call). holds_slot 3 d.progress) c cs (holds_slot 3 c.progress) refl in
    let s4 = counted-cons (λ (d : Call). holds_slot 4 d.progress) c cs (holds_slot 4 c.progress) refl in
    let s5 = counted-cons (λ (d : Call). holds_slot 5 d.progress) c cs (holds_slot 5 c.progress) refl in
    let s6 = counted-cons (λ (d : Call). holds_slot 6 d.progress) c cs (holds_slot 6 c.progress) refl in
    let s7 = counted-cons (λ (d : Call). holds_slot 7 d.progress) c cs (holds_slot 7 c.progress) refl in
    omega arith

taken-once : (calls : List Call) (slot : ℕ) → is_taken calls slot ≡ true → in_slot slot calls ≤ 1
    → in_slot slot calls ≡ 1
taken-once calls slot taken few =
    let some = any-counted (λ (c : Call). holds_slot slot c.progress) calls in
    let one : cond {A = ℕ} (is_taken calls slot) 1 0 ≡ 1 = ap {B = ℕ} (λ (b : Bool). cond b 1 0) taken in
    omega arith

pub eight-active : (x : Client) → Sound x → lowest_free x.calls ≡ None → active_calls x ≡ 8
eight-active x sound h =
    let all = not-found (λ slot. not (is_taken x.calls slot)) (0 ∷ 1 ∷ 2 ∷ 3 ∷ 4 ∷ 5 ∷ 6 ∷ 7 ∷ []) h in
    let one = λ (slot : ℕ) (t : not (not (is_taken x.calls slot)) ≡ true). taken-once x.calls slot (not-not _ t)
    (sound.apart slot) in
    let a = one 0 all.0 in
    let b = one 1 all.1.0 in
    let c = one 2 all.1.1.0 in
    let d = one 3 all.1.1.1.0 in
    let e = one 4 all.1.1.1.1.0 in
    let f = one 5 all.1.1.1.1.1.0 in
    let g = one 6 all.1.1.1.1.1.1.0 in
    let i = one 7 all.1.1.1.1.1.1.1.0 in
    let sum = sum-slots x.calls in
    omega arith
