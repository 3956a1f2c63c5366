-- Right answers, by the manner of a type.
use Rattle.std.proofs.Common.{◌≡◌, ℕ, ◌+◌, ◌%◌, ◌≤◌, ◌<◌, ◌^◌, ◌==◌, Bool, true, false, ◌||◌, List}
use Rattle.std.proofs.Common.{[], ◌∷◌, length, map, reverse, suc, zero, refl, ap, ap₂, subst, arith}
use Rattle.std.proofs.Common.{◌∙◌, append-nil}
use Rattle.std.specs.List.{range_with_len}
use Rattle.std.specs.Str.{bytes_eq}
use Rattle.std.proofs.lemmas.Bool.{eqb-true, le-leb}
use Rattle.std.specs.Prelude.{nat_le}
use Rattle.byteorder.specs.Numbers.{big_number-reads_back}
use Rattle.byteorder.specs.Endian.{big_bytes, big_number}
use Rattle.command_line.specs.Numbers.{is_type}
use Rattle.load_plan.specs.Calls.{Calls, counted_from, is_right, manner_of}
use Rattle.load_plan.specs.declared.plan.Manner.TheVariants.{Echo, Reverse, Tally, Fill}
use Rattle.rpc_outside.specs.PlainAnswer.{counted, fill}

-- a number is the first of a list, or any of the rest
one-of : (P : ℕ → Type 0) (k y : ℕ) (rest : Bool) → P k → (rest ≡ true → P y)
    → (k == y) || rest ≡ true → P y
one-of P k y rest own more h = by (k == y) refl
  where
    by : (b : Bool) → (k == y) ≡ b → P y
    by true e = subst P (eqb-true k y e) own
    by false e = more (rw e at h)

-- what holds of each type of the list holds of a type in it
by-type : (P : ℕ → Type 0) → P 1 → P 2 → P 3 → P 4 → P 129 → P 130 → P 132 → (y : ℕ)
    → is_type y ≡ true → P y
by-type P a b c d e f g y h =
    one-of P 1 y _ a (λ h. one-of P 2 y _ b (λ h. one-of P 3 y _ c (λ h. one-of P 4 y _ d
    (λ h. one-of P 129 y _ e (λ h. one-of P 130 y _ f (λ h. one-of P 132 y _ g
    (λ h. cc) h) h) h) h) h) h) h

abbrev calls_as : (calls y size seed : ℕ) → Calls
calls_as calls y size seed = record { calls = calls; req_type = y; size = size; seed = seed }

pub right-echo : (c : Calls) (i : ℕ) (answer : List ℕ) → is_type c.req_type ≡ true
    → manner_of c.req_type ≡ Echo
    → is_right c i answer ≡ bytes_eq answer (counted_from (c.seed + i) c.size)
right-echo c i answer known =
    by-type (λ y. manner_of y ≡ Echo → is_right (calls_as c.calls y c.size c.seed) i answer
    ≡ bytes_eq answer (counted_from (c.seed + i) c.size))
    (λ m. refl) (λ m. cc) (λ m. cc) (λ m. cc) (λ m. refl) (λ m. cc) (λ m. cc) c.req_type known

pub right-reverse : (c : Calls) (i : ℕ) (answer : List ℕ) → is_type c.req_type ≡ true
    → manner_of c.req_type ≡ Reverse
    → is_right c i answer ≡ bytes_eq answer (reverse (counted_from (c.seed + i) c.size))
right-reverse c i answer known =
    by-type (λ y. manner_of y ≡ Reverse → is_right (calls_as c.calls y c.size c.seed) i answer
    ≡ bytes_eq answer (reverse (counted_from (c.seed + i) c.size)))
    (λ m. cc) (λ m. refl) (λ m. cc) (λ m. cc) (λ m. cc) (λ m. refl) (λ m. cc) c.req_type known

pub right-tally : (c : Calls) (i : ℕ) (answer : List ℕ) → is_type c.req_type ≡ true
    → manner_of c.req_type ≡ Tally → is_right c i answer ≡ (length answer == 8)
right-tally c i answer known =
    by-type (λ y. manner_of y ≡ Tally → is_right (calls_as c.calls y c.size c.seed) i answer
    ≡ (length answer == 8))
    (λ m. cc) (λ m. cc) (λ m. refl) (λ m. cc) (λ m. cc) (λ m. cc) (λ m. cc) c.req_type known

same-counted : (n : ℕ) → counted n ≡ counted_from 0 n
same-counted n = same 0 n
  where
    same : (s k : ℕ) → map (λ j. j % 256) (range_with_len s k)
        ≡ map (λ j. (0 + j) % 256) (range_with_len s k)
    same s zero = refl
    same s (suc k) =
        let one : s ≡ 0 + s = omega arith in ap₂ (λ x xs. x % 256 ∷ xs) one (same (s + 1) k)

-- a request to fill is answered with as many bytes as it says
fill-is : (n : ℕ) → n ≤ 1048576 → fill (big_bytes 4 n) ≡ counted_from 0 n
fill-is n h =
    let few : n < 256 ^ 4 = omega (arith, h) in
    let read : big_number 4 (big_bytes 4 n) ≡ n =
    subst (λ bs. big_number 4 bs ≡ n) (append-nil (big_bytes 4 n))
    (big_number-reads_back 4 n [] few) in
    let within : nat_le n 1048576 ≡ true = le-leb n 1048576 h in
    rw (read, within) (same-counted n)

pub right-fill : (c : Calls) (i : ℕ) (answer : List ℕ) → is_type c.req_type ≡ true
    → c.size ≤ 1048576 → manner_of c.req_type ≡ Fill
    → is_right c i answer ≡ bytes_eq answer (counted_from 0 c.size)
right-fill c i answer known few m =
    by-type (λ y. manner_of y ≡ Fill → is_right (calls_as c.calls y c.size c.seed) i answer
    ≡ bytes_eq answer (fill (big_bytes 4 c.size)))
    (λ m. cc) (λ m. cc) (λ m. cc) (λ m. refl) (λ m. cc) (λ m. cc) (λ m. refl) c.req_type known m
    ∙ ap (bytes_eq answer) (fill-is c.size few)
