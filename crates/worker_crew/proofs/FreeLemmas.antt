-- The places of a board that was never used.
use Rattle.std.proofs.Common.{◌≡◌, ℕ, zero, suc, ◌+◌, ◌<◌, ◌≤◌, List, [], ◌∷◌, ◌++◌, length}
use Rattle.std.proofs.Common.{refl, sym, ap, ◌∙◌, subst, arith, length-append, replicate}
use mathlib.Core.Logic.{dite}
use native.Mathlib.Decide.{ℕ_discrete}
use Rattle.std.proofs.lemmas.List.{get_or-replicate, length-replicate}
use Rattle.rpc_base.specs.Totals.{only}
use Rattle.rpc_base.proofs.TotalsLemmas.{only-same, only-other}
use Rattle.worker_board.specs.declared.view.Offer.{Offer}
use Rattle.worker_board.specs.Counts.{times}
use Rattle.worker_board.specs.Word.{offers_at}
use Rattle.worker_board.proofs.CountsLemmas.{total-append}
use Rattle.worker_crew.specs.Places.{is_open, AreFree, IsKept}

pub free-more : {n : ℕ} {l l' : List ℕ} → AreFree n l → l' ≡ l ++ n ∷ [] → AreFree (n + 1) l'
free-more {n} {l} {l'} f e =
    let counts : (p : ℕ) → times p l' ≡ times p l + only p n =
    λ p. ap (times p) e ∙ (omega (arith, total-append (only p) l (n ∷ []))) in
    let absent : times n l ≡ 0 = dite (ℕ_discrete (times n l) 0) (λ z. z)
    (λ nz. absurd (omega (arith, f.inside n (omega arith)))) in
    record {
      count = omega (arith, ap length e, length-append l (n ∷ []), f.count);
      inside = λ p h. dite (ℕ_discrete n p)
          (λ same. omega arith)
          (λ ne. omega (arith, counts p, only-other p n ne, f.inside p));
      once = λ p. dite (ℕ_discrete n p)
          (λ same. subst (λ (q : ℕ). times q l' ≤ 1) same
          (omega (arith, counts n, only-same n n refl, absent)))
          (λ ne. omega (arith, counts p, only-other p n ne, f.once p));
    }

never : (n p : ℕ) → p < n → offers_at (replicate n []) p ≡ []
never n p near = get_or-replicate n p [] [] near

none-offered : (n p : ℕ) → length (offers_at (replicate n []) p) ≤ 0
none-offered zero p = omega arith
none-offered (suc n) zero = omega arith
none-offered (suc n) (suc p) = none-offered n p

pub kept-first : {places : ℕ} {free : List ℕ} {lg : List (List Offer)} → AreFree places free
    → lg ≡ replicate places [] → IsKept places 0 lg free []
kept-first {places} {free} {lg} f e = subst (λ (x : List (List Offer)). IsKept places 0 x free []) (sym e) (record {
  inside = λ p h. f.inside p (omega arith);
  once = λ p. omega (arith, f.once p);
  opened = λ p h. absurd (omega arith);
  closed = λ p h. ap is_open (never places p (f.inside p h));
  few = λ p. none-offered places p;
  wide = length-replicate places [];
})
