-- The plain service's answers.
use Rattle.std.proofs.Common.{◌≡◌, ◌≢◌, ◌<◌, ◌≤◌, ◌-◌, ◌%◌, ℕ, cond, nat_le, ne_eqb, [], Bool, true, false, List, length, refl, sym, ap, ◌∙◌, arith, subst, true≢false}
use Rattle.std.specs.Prelude.{◌↔◌, Result, Ok, Err, IfOk}
use Rattle.rpc_outside.proofs.Filling.{counts-up, fill-counted}
use Rattle.std.specs.Prelude.{slice_index}
use Rattle.std.proofs.lemmas.List.FromFn.{get_or-map-range_with_len}
use Rattle.rpc_outside.specs.PlainAnswer.{counted, fill, is_in_background, steady_answer}
use Rattle.rpc_laws.specs.Service.{answer_with}
use Rattle.node_audit.specs.Steady.{steady_kind}

-- each of them is its place, modulo 256
pub counted-at : (bytes : List ℕ) (k : ℕ) → k < length bytes → bytes ≡ counted (length bytes)
    → slice_index bytes k ≡ k % 256
counted-at bytes k below e =
    ap (λ (l : List ℕ). slice_index l k) e
    ∙ get_or-map-range_with_len (λ j. j % 256) 0 (length bytes) k k 0 below (omega arith)

pub counts-all : (bytes : List ℕ) (n : ℕ) → length bytes ≤ n
    → ((k : ℕ) → k < n → slice_index bytes k ≡ k % 256) → (true ≡ true) ↔ (bytes ≡ counted (length bytes))
counts-all bytes n e h = (
  λ yes. counts-up bytes (length bytes) refl (λ k below. let less : k < n = omega (arith, e, below) in h k less),
  λ same. refl,
)

pub counts-not : (bytes : List ℕ) (k : ℕ) → k < length bytes → (slice_index bytes k ≡ k % 256 → ⊥)
    → (false ≡ true) ↔ (bytes ≡ counted (length bytes))
counts-not bytes k below h = (
  λ e. absurd (true≢false (sym e)),
  λ same. absurd (h (counted-at bytes k below same)),
)

-- a fill is one of its length
pub fill-is : (ask answer : List ℕ) (b : Bool) → length answer ≡ length (fill ask)
    → ((b ≡ true) ↔ (answer ≡ counted (length answer))) → (b ≡ true) ↔ (answer ≡ fill ask)
fill-is ask answer b e h =
    subst (λ (w : List ℕ). (b ≡ true) ↔ (answer ≡ w)) (ap counted e ∙ fill-counted ask) h

-- but for tallies they look at the request alone
steady-is : (total t : ℕ) (ask : List ℕ) → t ≢ 3 → steady_answer (steady_kind t) ask ≡ answer_with total t ask
steady-is total t ask other = rw (ne_eqb t 3 other) (by (nat_le t 4) (is_in_background t))
  where
    by : (b c : Bool)
        → steady_answer (cond b t (cond c (t - 128) 0)) ask
        ≡ cond b (steady_answer t ask) (cond c (steady_answer (t - 128) ask) [])
    by true c = refl
    by false true = refl
    by false false = refl

pub steady-all : {E : Type 0} (r : Result Bool E) (total t kind : ℕ) (ask answer : List ℕ) → t ≢ 3
    → kind ≡ steady_kind t → IfOk r (λ (b : Bool). (b ≡ true) ↔ (answer ≡ steady_answer kind ask))
    → IfOk r (λ (b : Bool). (b ≡ true) ↔ (answer ≡ answer_with total t ask))
steady-all (Err error) total t kind ask answer other e h = tt
steady-all (Ok b) total t kind ask answer other e h =
    subst (λ (w : List ℕ). (b ≡ true) ↔ (answer ≡ w))
    (ap (λ (k : ℕ). steady_answer k ask) e ∙ steady-is total t ask other) h
