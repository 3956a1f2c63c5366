-- Truth values and options: what a test that came out so says of its parts.
use Rattle.std.proofs.Common.{◌≡◌, ◌<◌, ◌≤◌, ◌+◌, ℕ, Bool, true, false, not, ◌&&◌, ◌||◌, cond, ltb}
use Rattle.std.proofs.Common.{ltb-true, Option, Some, None, refl, arith, rules, tests}
use Rattle.std.specs.Prelude.{IfSome, is_none}
use Rattle.std.specs.Option.{option_or}

pub false-true : {A : Type 0} → false ≡ true → A
false-true e = cc

pub not-true : (b : Bool) → not b ≡ true → b ≡ false
not-true true e = cc
not-true false e = refl

pub not-false : (b : Bool) → not b ≡ false → b ≡ true
not-false true e = refl
not-false false e = cc

pub unless-true : (b : Bool) → (b ≡ true → ⊥) → b ≡ false
unless-true true h = absurd (h refl)
unless-true false h = refl

pub and-false : (b : Bool) → (b && false) ≡ false
and-false true = refl
and-false false = refl

pub or-false : (a b : Bool) → (a || b) ≡ false → (a ≡ false) × (b ≡ false)
or-false true b e = cc
or-false false b e = (refl, e)

pub or-true : (b : Bool) → (b || true) ≡ true
or-true true = refl
or-true false = refl

pub or-right : (a b : Bool) → b ≡ true → (a || b) ≡ true
or-right true b t = refl
or-right false b t = t

pub some-of : {A : Type 0} (b : Bool) (o : Option A) (x : A) → cond b o None ≡ Some x → o ≡ Some x
some-of true o x h = h
some-of false o x h = cc

pub or-none : {A : Type 0} (o : Option A) → option_or o None ≡ o
or-none None = refl
or-none (Some x) = refl

pub none-is : {A : Type 0} (o : Option A) → is_none o ≡ true → o ≡ None
none-is None e = refl
none-is (Some x) e = cc

-- a claim about what is there, where another implies it
pub if-map : {A : Type 0} (P Q : A → Type 0) (o : Option A) → ((x : A) → P x → Q x) → IfSome o P → IfSome o Q
if-map P Q None step h = tt
if-map P Q (Some x) step h = step x h

-- one is counted at most, of a number that may be there
pub at-most-one : (b : Bool) → 0 + cond b 1 0 ≤ 1
at-most-one true = omega arith
at-most-one false = omega arith

-- a number that is told where it is below another
pub found-at : (n m i : ℕ) (b : Bool) → ltb n m ≡ b → cond b (Some n) None ≡ Some i → (i ≡ n) × (n < m)
found-at n m i true t e = let same : i ≡ n = cc in (same, ltb-true n m t)
found-at n m i false t e = cc

pub found-below : (n m i : ℕ) (b : Bool) → ltb n m ≡ b → cond b (Some n) None ≡ Some i → (i ≡ n) × (i < m)
found-below n m i true t e = let same : i ≡ n = cc in (same, rw same (ltb-true n m t))
found-below n m i false t e = cc

pub found-none : (n m : ℕ) (b : Bool) → ltb n m ≡ b → cond b (Some n) None ≡ None → m ≤ n
found-none n m true t e = cc
found-none n m false t e = search (rules, tests)
