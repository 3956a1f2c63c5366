use Rattle.std.proofs.Common.{rules, ◌∷◌, ap, ◌∙◌}
use Rattle.worker_board.proofs.DispatcherLemmas.{sums}
use Rattle.worker_board.proofs.SeatsLemmas.{takes_in}
use Rattle.worker_board.proofs.board.Board.retire.Goals as goal
use Rattle.worker_board.proofs.NotesLemmas.{grows_one}
use Rattle.worker_board.specs.Moves.{note}

pub take_in-requires : goal.take_in-requires
take_in-requires g c = (
  search rules,
  search rules,
  c.args.hand.empty,
  search rules,
  takes_in g.D.Duty.answer _ _ _ _ _ c.args.seat.now.dispatches c.args.seat.now.idle
      c.args.hand.works c.args.hand.idle c.requires.free,
)

pub sum-requires : goal.sum-requires
sum-requires g c = let same = c.take_in.ensures.2 in (
  search rules,
  search rules,
  sums g.D.Duty.answer _ _ _ (search rules)
      (ap (λ m. m.0.role) same ∙ c.args.seat.now.dispatches)
      (ap (λ m. m.0.turn) same ∙ c.args.seat.now.idle),
)

pub returns-clause-notes : goal.returns-clause-notes
returns-clause-notes g c =
    grows_one _ _ _ _ (ap (λ m. m.0.notes) c.sum.ensures.2.0
    ∙ ap (λ m. note 0 c.sum.result ∷ m.0.notes) c.take_in.ensures.2)
