use Rattle.std.proofs.Common.{rules, arith, ap, sym, refl, subst, ◌∙◌, ◌≡◌}
use mathlib.Core.Option.{some}
use lib.ListN.{get_elem?}
use Rattle.worker_board.specs.Word.{job_of}
use Rattle.worker_board.specs.Moves.{claim}
use Rattle.worker_board.proofs.HandLemmas.{reopens, finishes, hand_is, has_counts}
use Rattle.worker_board.proofs.board.Board.finish.Goals as goal
use Rattle.worker_board.proofs.NotesLemmas.{note_at, grows_one, saw_one, then_saw}

pub reopen-requires : goal.reopen-requires
reopen-requires g c = (
  search rules,
  search rules,
  reopens g.D.Duty.answer _ _ _ _ (search rules) (hand_is _ _ c.args.seat.now.works) c.args.seat.now.idle
      (has_counts c.args.seat.now.seat.me.0 c.place-index.result c.args.ticket.place _ _
      c.place-index.ensures c.requires.claim),
)

pub finish-requires : goal.finish-requires
finish-requires g c = let now = c.exchange-empty.ensures.3 in let same = ap (λ m. m.0) now ∙ ap (λ m. m.0) c.reopen.ensures.2 in
    let of = claim c.args.ticket.place c.args.ticket.generation (job_of c.args.parcel) in
    let at = subst (λ v. get_elem? v.held c.requires.claim.0 ≡ some of) (sym same) c.requires.claim.1 in (
      search rules,
      search rules,
      finishes g.D.Duty.answer _ _ _ _ _ _ of c.args.parcel _ (ap (λ m. m.1) now) (search rules)
          (hand_is _ _ (ap (λ v. v.role) same ∙ c.args.seat.now.works))
          (ap (λ v. v.turn) same) at (sym c.place-index.ensures) refl c.requires.answer
          (omega (arith, c.generation.ensures)),
    )

pub returns-clause-left : goal.returns-clause-left
returns-clause-left g c = let now = c.exchange-empty.ensures.3 in
    then_saw c.args.ticket.place _ _ _ _ (grows_one _ _ _ _
    (ap (λ m. m.0.notes) now ∙ ap (λ m. m.0.notes) c.reopen.ensures.2))
    (saw_one c.args.ticket.place _ _ _ _ (ap (λ m. m.0.notes) c.finish.ensures.2
    ∙ note_at _ _ _ _ c.place-index.ensures) (omega (arith, c.generation.ensures)))
