use Rattle.std.proofs.Common.{rules, ap, ◌∙◌}
use Rattle.worker_board.specs.Counts.{times}
use Rattle.worker_board.proofs.DispatcherLemmas.{names}
use Rattle.worker_board.proofs.SeatsLemmas.{sends_out}
use Rattle.worker_board.proofs.board.Board.hand.Goals as goal
use Rattle.worker_board.proofs.NotesLemmas.{grows_one}

pub name-requires : goal.name-requires
name-requires g c = (
  search rules,
  search rules,
  names g.D.Duty.answer _ _ _ c.args.number (search rules)
      c.args.seat.now.dispatches c.args.seat.now.idle,
)

pub send_out-seat-requires : goal.send_out-seat-requires
send_out-seat-requires g c = let same = c.name.ensures.2 in (
  search rules,
  search rules,
  sends_out g.D.Duty.answer _ _ (ap (λ m. m.0.role) same ∙ c.args.seat.now.dispatches)
      (ap (λ m. m.0.turn) same ∙ c.args.seat.now.idle)
      (ap (λ m. times m.0.next m.0.used) same ∙ c.requires.unused),
)

pub returns-clause-notes : goal.returns-clause-notes
returns-clause-notes g c =
    grows_one _ _ _ _ (ap (λ m. m.0.notes) c.send_out-seat.ensures.2
    ∙ ap (λ m. m.0.notes) c.name.ensures.2)
