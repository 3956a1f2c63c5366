use Rattle.std.proofs.Common.{rules, ap, ◌∙◌, Some}
use Rattle.worker_board.proofs.DispatcherLemmas.{looks, releases}
use Rattle.worker_board.proofs.board.Board.collect.Goals as goal
use Rattle.worker_board.proofs.WordLemmas.{taken_first}
use Rattle.worker_board.proofs.NotesLemmas.{if_some, grows_one, saw_one, saw_then}

pub look-found-requires : goal.look-found-requires
look-found-requires g c = (
  search rules,
  search rules,
  looks g.D.Duty.answer _ _ _ _ (search rules)
      c.args.seat.now.dispatches c.args.seat.now.idle c.requires.offered,
)

pub exchange-parcel-requires : goal.exchange-parcel-requires
exchange-parcel-requires g c = let t = c.look-found.ensures.2.0 c.if-found-ne-OVER.false in (search rules, (Some t.0, taken_first _ _ _ _ (ap (λ m. m.1) t.2)))

pub release-requires : goal.release-requires
release-requires g c = let t = c.look-found.ensures.2.0 c.if-found-ne-OVER.false in let now = c.exchange-parcel.ensures.3 in (
  search rules,
  search rules,
  releases g.D.Duty.answer _ _ _ _ _ (ap (λ m. m.1) now)
      (search rules) (ap (λ m. m.0.role) now ∙ ap (λ m. m.0.role) t.2
      ∙ c.args.seat.now.dispatches) (ap (λ m. m.0.turn) now ∙ ap (λ m. m.0.turn) t.2),
)

pub returns-then-found-ne-OVER-clause-found : goal.returns-then-found-ne-OVER-clause-found
returns-then-found-ne-OVER-clause-found g c = let t = c.look-found.ensures.2 in
    saw_one c.args.place _ _ _ _ (ap (λ m. m.0.notes) (t.1 c.if-found-ne-OVER.true)) (t.4 c.if-found-ne-OVER.true)

pub returns-clause-left : goal.returns-clause-left
returns-clause-left g c = let t = c.look-found.ensures.2 in let no = c.if-found-ne-OVER.false in
    if_some c.exchange-parcel.result (saw_then c.args.place _ _ _ _
    (saw_one c.args.place _ _ _ _ (ap (λ m. m.0.notes) c.exchange-parcel.ensures.3
    ∙ ap (λ m. m.0.notes) (t.0 no).2) (t.3 no))
    (grows_one _ _ _ _ (ap (λ m. m.0.notes) c.release.ensures.2)))

pub returns-then-found-ne-OVER-clause-unclaimed : goal.returns-then-found-ne-OVER-clause-unclaimed
returns-then-found-ne-OVER-clause-unclaimed g c = λ none-out. let t = c.look-found.ensures.2 in
    saw_one c.args.place _ _ _ _ (ap (λ m. m.0.notes) (t.1 c.if-found-ne-OVER.true))
    (t.5 c.if-found-ne-OVER.true none-out)
