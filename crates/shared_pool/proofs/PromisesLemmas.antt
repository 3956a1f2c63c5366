-- What the pool law says in its sentences.
use Rattle.std.proofs.Common.{◌≡◌, ℕ, ◌+◌, ◌%◌, ◌<◌, ◌≤◌, length, get_or, sym, subst, arith}
use mathlib.Core.Logic.{dite}
use mathlib.Core.Option.{some}
use native.Mathlib.Decide.{ℕ_discrete, dec_le}
use lib.ListN.{get_elem?}
use Rattle.rpc_base.proofs.TotalsLemmas.{only-is}
use Rattle.shared_pool.specs.Loans.{LoanNo}
use Rattle.shared_pool.specs.declared.view.View.{View}
use Rattle.rpc_base.specs.Totals.{only, total}
use Rattle.worker_board.proofs.CountsLemmas.{term_le, terms_le}
use Rattle.worker_board.proofs.WordLemmas.{some_term}
use Rattle.shared_pool.specs.Counts.{holds, got, gave, IsOnceBelow}
use Rattle.shared_pool.specs.Rule.{Home, HasBuffer, PoolLaw, Stands, Whereabouts, home, out}
use Rattle.shared_pool.specs.Rule.{loans_in, word_of}
use Rattle.shared_pool.specs.Promises.{KeepsPromises}
use Rattle.shared_pool.proofs.FrameLemmas.{Table}

one_at_most : (x : Whereabouts) → loans_in x ≤ 1
one_at_most home = omega arith
one_at_most out = omega arith

once_at_most : (n : ℕ) (f : ℕ → ℕ) → IsOnceBelow n f → (g : ℕ) → f g ≤ 1
once_at_most n f once g = dite (dec_le n g) (λ le. omega (arith, (once g).1 le)) (λ gt. omega (arith, (once g).0 (omega arith)))

-- what is over was begun
over_begun : (n m : ℕ) (f h : ℕ → ℕ) → n ≤ m → IsOnceBelow n f → IsOnceBelow m h → (g : ℕ) → f g ≤ h g
over_begun n m f h below over begun g = dite (dec_le n g)
    (λ le. omega (arith, (over g).1 le))
    (λ gt. omega (arith, (over g).0 (omega arith), (begun g).0 (omega arith)))

even_home : (capacity w g t : ℕ) (h : Home) (x : Whereabouts) → w ≡ word_of g x → w % 2 ≡ 0 → Stands capacity h t x
    → HasBuffer capacity h
even_home capacity w g t h home is even stands = stands.0
even_home capacity w g t h out is even stands = absurd (omega arith)

module _ (capacity : ℕ) (s : Table) (r : PoolLaw capacity s) where
  -- who holds a place holds one of the pool's
  near : (p i : ℕ) (v : View) → get_elem? s.views i ≡ some v → 0 < holds p v → p < length s.homes
  near p i v at some-held = let t = some_term (λ (l : LoanNo). only p l.place) v.held some-held in
      let inside = (r.loans i t.0 v t.1.0 at t.1.1).0 in
      subst (λ (q : ℕ). q < length s.homes) (only-is p t.1.0.place t.1.2) inside

  few : (p : ℕ) → p < length s.homes → total (holds p) s.views ≤ 1
  few p inside = let k = r.places p inside in omega (arith, k.held, one_at_most k.where_is)

  pub keeps_promises : KeepsPromises capacity s
  keeps_promises = record {
    one_holder = λ p i j v w me them mine theirs. dite (ℕ_discrete i j) (λ e. e)
        (λ ne. absurd (omega (arith, few p (near p i v me mine), terms_le (holds p) s.views i j v w (λ e. ne (sym e)) me them)));
    one_loan = λ p i v me. dite (dec_le (holds p v) 1) (λ le. le)
        (λ gt. absurd (omega (arith, few p (near p i v me (omega arith)), term_le (holds p) s.views i v me)));
    lent_once = λ p g inside. let k = r.places p inside in
        once_at_most (k.generation + loans_in k.where_is) (λ x. total (got p x) s.views) k.lent g;
    back_once = λ p g inside. let k = r.places p inside in
        over_begun k.generation (k.generation + loans_in k.where_is) (λ x. total (gave p x) s.views) (λ x. total (got p x) s.views)
        (omega arith) k.back k.lent g;
    at_home = λ p inside even. let k = r.places p inside in
        even_home capacity (get_or s.words p 0) k.generation _ (get_elem? s.homes p) k.where_is k.word_is even k.stands;
  }
