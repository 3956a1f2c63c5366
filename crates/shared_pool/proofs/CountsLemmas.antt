-- Sums over lists that change at one place.
use Rattle.std.proofs.Common.{◌≡◌, ℕ, zero, suc, ◌+◌, ◌≢◌, List, [], ◌∷◌}
use Rattle.std.proofs.Common.{sym, refl, ap, ◌∙◌, arith, cond}
use Rattle.std.proofs.Common.{eq-eqb, ne_eqb, subst}
use mathlib.Core.Logic.{dite}
use native.Mathlib.Decide.{ℕ_discrete}
use mathlib.Core.Option.{some, some-injective, some-ne-none}
use lib.ListN.{get_elem?}
use Rattle.rpc_base.specs.Totals.{only}
use Rattle.rpc_base.proofs.TotalsLemmas.{only-same, only-other}
use Rattle.shared_pool.specs.Loans.{LoanNo}
use Rattle.shared_pool.specs.Counts.{is_loan, of_place, without, IsOnceBelow}

-- a loan counts at its own place alone
pub is_loan-here : (p g : ℕ) (l : LoanNo) → l.place ≡ p → is_loan p g l ≡ only g l.generation
is_loan-here p g l e = ap (λ b. cond b (only g l.generation) 0) (eq-eqb l.place p e)

pub is_loan-else : (p g : ℕ) (l : LoanNo) → l.place ≢ p → is_loan p g l ≡ 0
is_loan-else p g l n = ap (λ b. cond b (only g l.generation) 0) (ne_eqb l.place p n)

-- where one more generation is counted
pub once_more : (n m : ℕ) (f h : ℕ → ℕ) → m ≡ suc n → IsOnceBelow n f → ((g : ℕ) → h g ≡ f g + only g n) → IsOnceBelow m h
once_more n m f h is once more g = (
  (λ below. dite (ℕ_discrete n g)
      (λ e. let z = (once g).1 (omega arith) in omega (arith, more g, only-same g n e))
      (λ ne. let z = (once g).0 (omega arith) in omega (arith, more g, only-other g n ne))),
  (λ above. let z = (once g).1 (omega arith) in omega (arith, more g, only-other g n (λ e. omega arith))),
)

-- where none is
pub once_same : (n m : ℕ) (f h : ℕ → ℕ) → m ≡ n → IsOnceBelow n f → ((g : ℕ) → h g ≡ f g) → IsOnceBelow m h
once_same n m f h is once same g = (
  (λ below. same g ∙ (once g).0 (omega arith)),
  (λ above. same g ∙ (once g).1 (omega arith)),
)

-- what a list without a place holds
pub at_without : (p : ℕ) (l : List LoanNo) (k : ℕ) (c : LoanNo) → get_elem? (without p l) k ≡ some c
    → (c.place ≢ p) × ((i : ℕ) × (get_elem? l i ≡ some c))
at_without p [] k c e = absurd (some-ne-none c (sym e))
at_without p (x ∷ l) k c e = dite (ℕ_discrete x.place p)
    (λ is. let t = at_without p l k c (subst (λ b. get_elem? (cond b (without p l) (x ∷ without p l)) k ≡ some c) (eq-eqb x.place p is) e) in (t.0, (suc t.1.0, t.1.1)))
    (λ ne. go (λ i h. at_without p l i c h) ne k (subst (λ b. get_elem? (cond b (without p l) (x ∷ without p l)) k ≡ some c) (ne_eqb x.place p ne) e))
  where
    go : ((i : ℕ) → get_elem? (without p l) i ≡ some c → (c.place ≢ p) × ((i : ℕ) × (get_elem? l i ≡ some c)))
        → x.place ≢ p → (j : ℕ) → get_elem? (x ∷ without p l) j ≡ some c → (c.place ≢ p) × ((i : ℕ) × (get_elem? (x ∷ l) i ≡ some c))
    go below ne zero h = ((λ is. ne (ap (λ (y : LoanNo). y.place) (some-injective x c h) ∙ is)), (0, h))
    go below ne (suc j) h = let t = below j h in (t.0, (suc t.1.0, t.1.1))

pub total-without : (p q : ℕ) (l : List LoanNo) → q ≢ p → of_place q (without p l) ≡ of_place q l
total-without p q [] n = refl
total-without p q (x ∷ l) n = dite (ℕ_discrete x.place p)
    (λ e. let z = only-other q x.place (λ h. n (sym h ∙ e)) in ap (λ b. of_place q (cond b (without p l) (x ∷ without p l))) (eq-eqb x.place p e) ∙ (omega (arith, total-without p q l n)))
    (λ ne. ap (λ b. of_place q (cond b (without p l) (x ∷ without p l))) (ne_eqb x.place p ne)
    ∙ (omega (arith, total-without p q l n)))

pub none-without : (p : ℕ) (l : List LoanNo) → of_place p (without p l) ≡ 0
none-without p [] = refl
none-without p (x ∷ l) = dite (ℕ_discrete x.place p)
    (λ e. ap (λ b. of_place p (cond b (without p l) (x ∷ without p l))) (eq-eqb x.place p e) ∙ none-without p l)
    (λ ne. ap (λ b. of_place p (cond b (without p l) (x ∷ without p l))) (ne_eqb x.place p ne)
    ∙ (omega (arith, none-without p l, only-other p x.place ne)))

pub without-none : (p : ℕ) (l : List LoanNo) → of_place p l ≡ 0 → without p l ≡ l
without-none p [] h = refl
without-none p (x ∷ l) h = dite (ℕ_discrete x.place p)
    (λ e. absurd (omega (arith, only-same p x.place e)))
    (λ ne. ap (λ b. cond b (without p l) (x ∷ without p l)) (ne_eqb x.place p ne)
    ∙ ap (λ (ls : List LoanNo). x ∷ ls) (without-none p l (omega arith)))
