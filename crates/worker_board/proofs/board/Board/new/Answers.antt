use Rattle.std.proofs.Common.{subst, sym, ap, ◌∙◌, ◌≡◌, ℕ, List, get_or, length}
use Rattle.std.proofs.lemmas.List.{get_or-replicate}
use lib.ListN.{length-replicate}
use Rattle.worker_board.proofs.StartLemmas.{starts}
use Rattle.worker_board.proofs.board.Board.new.Goals as goal

pub vacant-requires : goal.vacant-requires
vacant-requires g c = let all = c.as_slice.ensures.value ∙ c.in_ok-words.ensures.words in
    starts g.D.Duty.answer _ _
    (ap (λ (ws : List ℕ). length ws) all ∙ length-replicate c.args.places 0)
    (λ i near. subst (λ (ws : List ℕ). get_or ws i 0 ≡ 0) (sym all)
    (get_or-replicate c.args.places i 0 0 near))
