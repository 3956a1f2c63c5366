-- What a seat holds after tries whose buffers are given back at once.
use Rattle.std.proofs.Common.{◌≡◌, ℕ, ◌*◌, [], ◌∷◌, ap, ◌∙◌}
use Rattle.shared_pool.specs.Counts.{holds, of_place}
use Rattle.shared_pool.specs.Loans.{LoanNo}
use Rattle.shared_pool.specs.Moves.{note, noted, returned}
use Rattle.shared_pool.specs.Seats.{LentFrom, lent_at}
use Rattle.shared_pool.specs.declared.view.View.{View}
use Rattle.shared_pool.proofs.NotesLemmas.{back_again}

-- a loan of a place that is given back
pub kept_at : (l : LoanNo) (v w x : View) → holds l.place v ≡ 0 → w ≡ lent_at l v
    → x ≡ returned l w → x.held ≡ v.held
kept_at l v w x none lent back =
    ap (λ (z : View). z.held) back ∙ ap (λ (z : View). (returned l z).held) lent
    ∙ back_again l (noted (note l.place (2 * l.generation) ∷ []) v) none

-- a loan of any place that is given back
pub kept_any : (places start : ℕ) (l : LoanNo) (v w x : View) → holds l.place v ≡ 0
    → LentFrom places start l v w → x ≡ returned l w → x.held ≡ v.held
kept_any places start l v w x none lent back =
    let same = ap (λ (z : View). z.held) lent.4.2 in
    kept_at l lent.1 w x (ap (of_place l.place) same ∙ none) lent.5 back ∙ same
