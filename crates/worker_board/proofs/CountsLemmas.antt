-- Sums over lists that change at one place.
use Rattle.std.proofs.Common.{◌≡◌, ℕ, zero, suc, ◌+◌, ◌<◌, ◌≤◌, ◌≢◌, List, [], ◌∷◌, ◌++◌, length}
use Rattle.std.proofs.Common.{set, sym, refl, ap, ◌∙◌, arith, cond, inl, inr, ⊎_elim, ◌⊎◌, eqb}
use Rattle.std.proofs.Common.{eq-eqb, ne_eqb, true, false}
use mathlib.Core.Logic.{dite}
use native.Mathlib.Decide.{ℕ_discrete}
use mathlib.Core.Option.{some, some-injective, some-ne-none}
use lib.ListN.{get_elem?}
use Rattle.rpc_base.proofs.TotalsLemmas.{only-other}
use Rattle.rpc_base.specs.Totals.{only, total}
use Rattle.worker_board.specs.declared.view.Claim.{Claim}
use Rattle.worker_board.specs.Counts.{without, times, removed}

pub suc_inj : {a b : ℕ} → suc a ≡ suc b → a ≡ b
suc_inj e = omega arith

-- what stands at a place stands below the length
pub at_lt : {A : Type 0} (l : List A) (i : ℕ) (a : A) → get_elem? l i ≡ some a → i < length l
at_lt [] i a e = absurd (some-ne-none a (sym e))
at_lt (x ∷ xs) zero a e = omega arith
at_lt (x ∷ xs) (suc i) a e = omega (arith, at_lt xs i a e)

-- what two lists that are one have at a place is the one's or the other's
pub at_append : {A : Type 0} (l m : List A) (k : ℕ) (a : A) → get_elem? (l ++ m) k ≡ some a
    → ((i : ℕ) × (get_elem? l i ≡ some a)) ⊎ ((i : ℕ) × (get_elem? m i ≡ some a))
at_append [] m k a e = inr (k, e)
at_append (x ∷ l) m zero a e = inl (0, e)
at_append (x ∷ l) m (suc k) a e = ⊎_elim (λ t. inl (suc t.0, t.1)) (λ t. inr t) (at_append l m k a e)

module _ {A : Type 0} (g : A → ℕ) where
  pub total-append : (l m : List A) → total g (l ++ m) ≡ total g l + total g m
  total-append [] m = omega arith
  total-append (x ∷ xs) m = omega (arith, total-append xs m)

  pub total-set : (l : List A) (j : ℕ) (v w : A) → get_elem? l j ≡ some v
      → total g (set l j w) + g v ≡ total g l + g w
  total-set [] j v w e = absurd (some-ne-none v (sym e))
  total-set (x ∷ xs) zero v w e = omega (arith, ap g (some-injective x v e))
  total-set (x ∷ xs) (suc j) v w e = omega (arith, total-set xs j v w e)

  pub term_le : (l : List A) (j : ℕ) (v : A) → get_elem? l j ≡ some v → g v ≤ total g l
  term_le [] j v e = absurd (some-ne-none v (sym e))
  term_le (x ∷ xs) zero v e = omega (arith, ap g (some-injective x v e))
  term_le (x ∷ xs) (suc j) v e = omega (arith, term_le xs j v e)

  pub terms_le : (l : List A) (j k : ℕ) (v u : A) → k ≢ j → get_elem? l j ≡ some v
      → get_elem? l k ≡ some u → g v + g u ≤ total g l
  terms_le [] j k v u n e d = absurd (some-ne-none v (sym e))
  terms_le (x ∷ xs) zero zero v u n e d = absurd (n refl)
  terms_le (x ∷ xs) zero (suc k) v u n e d = omega (arith, ap g (some-injective x v e), term_le xs k u d)
  terms_le (x ∷ xs) (suc j) zero v u n e d = omega (arith, ap g (some-injective x u d), term_le xs j v e)
  terms_le (x ∷ xs) (suc j) (suc k) v u n e d = omega (arith, terms_le xs j k v u (λ h. n (ap suc h)) e d)

-- what a list without a place holds
pub at_without : (p : ℕ) (l : List Claim) (k : ℕ) (c : Claim) → get_elem? (without p l) k ≡ some c
    → (i : ℕ) × (get_elem? l i ≡ some c)
at_without p [] k c e = absurd (some-ne-none c (sym e))
at_without p (x ∷ l) k c e = go (λ j h. at_without p l j c h) (eqb x.ticket.place p) k e
  where
    go : ((j : ℕ) → get_elem? (without p l) j ≡ some c → (i : ℕ) × (get_elem? l i ≡ some c))
        → (b : _) (j : ℕ) → get_elem? (cond b (without p l) (x ∷ without p l)) j ≡ some c → (i : ℕ)
        × (get_elem? (x ∷ l) i ≡ some c)
    go below true j h = let t = below j h in (suc t.0, t.1)
    go below false zero h = (0, h)
    go below false (suc j) h = let t = below j h in (suc t.0, t.1)

pub total-without : (p q : ℕ) (l : List Claim) → q ≢ p
    → total (λ (c : Claim). only q c.ticket.place) (without p l)
    ≡ total (λ (c : Claim). only q c.ticket.place) l
total-without p q [] n = refl
total-without p q (x ∷ l) n = dite (ℕ_discrete x.ticket.place p)
    (λ e. let z = only-other q x.ticket.place (λ h. n (sym h ∙ e)) in ap (λ b. total (λ (c : Claim). only q c.ticket.place) (cond b (without p l) (x ∷ without p l))) (eq-eqb x.ticket.place p e) ∙ (omega (arith, total-without p q l n)))
    (λ ne. ap (λ b. total (λ (c : Claim). only q c.ticket.place)
    (cond b (without p l) (x ∷ without p l))) (ne_eqb x.ticket.place p ne)
    ∙ (omega (arith, total-without p q l n)))

pub none-without : (p : ℕ) (l : List Claim) → total (λ (c : Claim). only p c.ticket.place) (without p l) ≡ 0
none-without p [] = refl
none-without p (x ∷ l) = dite (ℕ_discrete x.ticket.place p)
    (λ e. ap (λ b. total (λ (c : Claim). only p c.ticket.place)
    (cond b (without p l) (x ∷ without p l))) (eq-eqb x.ticket.place p e) ∙ none-without p l)
    (λ ne. ap (λ b. total (λ (c : Claim). only p c.ticket.place)
    (cond b (without p l) (x ∷ without p l))) (ne_eqb x.ticket.place p ne)
    ∙ (omega (arith, none-without p l, only-other p x.ticket.place ne)))

pub times-removed : (n k : ℕ) (l : List ℕ) → 0 < times n l → times k (removed n l) + only k n ≡ times k l
times-removed n k [] h = absurd (omega arith)
times-removed n k (x ∷ l) h = dite (ℕ_discrete x n)
    (λ e. ap (λ b. times k (cond b l (x ∷ removed n l)) + only k n) (eq-eqb x n e) ∙ (omega (arith, ap (only k) e)))
    (λ ne. ap (λ b. times k (cond b l (x ∷ removed n l)) + only k n) (ne_eqb x n ne)
    ∙ (omega (
      arith,
      only-other n x ne,
      times-removed n k l
          (omega (arith, only-other n x ne)),
    )))
