use Rattle.std.proofs.Common.{rules, arith, ap, sym, subst, ◌∙◌, Some}
use Rattle.worker_board.specs.Word.{IsOpen, offers_at}
use Rattle.worker_board.specs.Word.{newest}
use Rattle.worker_board.proofs.DispatcherLemmas.{numbers, takes_back, releases}
use Rattle.worker_board.proofs.board.Board.take_back.Goals as goal
use Rattle.worker_board.proofs.WordLemmas.{taken_first}
use Rattle.worker_board.proofs.NotesLemmas.{if_some, grows_one, saw_one, saw_then, then_saw}

pub number-requires : goal.number-requires
number-requires g c = (
  search rules,
  search rules,
  numbers g.D.Duty.answer _ _ _ _ (search rules) c.args.seat.now.dispatches c.args.seat.now.idle
      c.requires.offered,
)

pub take_back-found-requires : goal.take_back-found-requires
take_back-found-requires g c = let same = c.number.ensures.2.0 in (
  search rules,
  search rules,
  takes_back g.D.Duty.answer _ _ _ _ _ _ (search rules)
      (ap (λ m. m.0.role) same ∙ c.args.seat.now.dispatches)
      (ap (λ m. m.0.turn) same ∙ c.args.seat.now.idle)
      (subst (λ m. IsOpen (offers_at m.0.ledger c.args.place)) (sym same) c.requires.offered)
      (omega (
        arith,
        c.number.ensures.2.1,
        ap (λ m. newest (offers_at m.0.ledger c.args.place))
            same,
      )) (omega arith),
)

pub exchange-job-requires : goal.exchange-job-requires
exchange-job-requires g c = let t = c.take_back-found.ensures.2.0 c.if-found-ready.false in (search rules, (Some t.0, taken_first _ _ _ _ (ap (λ m. m.1) t.2)))

pub release-requires : goal.release-requires
release-requires g c = let t = c.take_back-found.ensures.2.0 c.if-found-ready.false in let now = c.exchange-job.ensures.3 in let same = c.number.ensures.2.0 in (
  search rules,
  search rules,
  releases g.D.Duty.answer _ _ _ _ _ (ap (λ m. m.1) now)
      (search rules) (ap (λ m. m.0.role) now ∙ ap (λ m. m.0.role) t.2 ∙ ap (λ m. m.0.role) same
      ∙ c.args.seat.now.dispatches) (ap (λ m. m.0.turn) now ∙ ap (λ m. m.0.turn) t.2),
)

pub returns-then-found-ready-clause-found : goal.returns-then-found-ready-clause-found
returns-then-found-ready-clause-found g c = let t = c.take_back-found.ensures.2 in let not = c.if-found-ready.true in
    then_saw c.args.place _ _ _ _ (grows_one _ _ _ _ (ap (λ m. m.0.notes) c.number.ensures.2.0))
    (saw_one c.args.place _ _ _ _ (ap (λ m. m.0.notes) (t.1 not)) (λ e. not (e ∙ omega (arith, c.number.ensures.2.1))))

pub returns-clause-left : goal.returns-clause-left
returns-clause-left g c = let t = c.take_back-found.ensures.2 in let no = c.if-found-ready.false in
    if_some c.exchange-job.result (then_saw c.args.place _ _ _ _
    (grows_one _ _ _ _ (ap (λ m. m.0.notes) c.number.ensures.2.0))
    (saw_then c.args.place _ _ _ _
    (saw_one c.args.place _ _ _ _ (ap (λ m. m.0.notes) c.exchange-job.ensures.3
    ∙ ap (λ m. m.0.notes) (t.0 no).2) (omega (arith, c.number.ensures.2.1)))
    (grows_one _ _ _ _ (ap (λ m. m.0.notes) c.release.ensures.2))))
