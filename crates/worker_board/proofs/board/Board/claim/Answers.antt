use Rattle.std.proofs.Common.{rules, arith, ℕ, ap, subst, ◌∙◌, Some}
use Rattle.worker_board.specs.Word.{IsOtherWord}
use Rattle.worker_board.proofs.HandLemmas.{tries, gives_back, hand_is, holds_now}
use Rattle.worker_board.proofs.board.Board.claim.Goals as goal
use Rattle.worker_board.proofs.WordLemmas.{taken_first}
use Rattle.worker_board.proofs.NotesLemmas.{note_at, if_some, grows_one, saw_one, saw_then}

pub claim-found-requires : goal.claim-found-requires
claim-found-requires g c = (
  search rules,
  search rules,
  tries g.D.Duty.answer _ _ _ _ c.generation-first.result _ _
      (search rules) (hand_is _ _ c.args.seat.now.works) c.args.seat.now.idle (search rules)
      (search rules),
)

pub exchange-parcel-requires : goal.exchange-parcel-requires
exchange-parcel-requires g c = let t = c.claim-found.ensures.2.0 c.if-found-ready.false in (search rules, (Some t.0, taken_first _ _ _ _ (ap (λ m. m.1) t.2)))

pub release-requires : goal.release-requires
release-requires g c = let t = c.claim-found.ensures.2.0 c.if-found-ready.false in let now = c.exchange-parcel.ensures.3 in let p = c.place-index.result in
    let same = ap (λ m. m.0) now ∙ ap (λ m. m.0) t.2 in (
      search rules,
      search rules,
      gives_back g.D.Duty.answer _ _ _ _ _ (ap (λ m. m.1) now) (search rules)
          (hand_is _ _ (ap (λ v. v.role) same ∙ c.args.seat.now.works)) (ap (λ v. v.turn) same)
          (holds_now c.exchange-parcel.new.seat.me.0 c.args.seat.now.seat.me.0.held
          c.place-index.result _ _ (ap (λ v. v.held) same)),
    )

pub returns-then-found-ready-clause-found : goal.returns-then-found-ready-clause-found
returns-then-found-ready-clause-found g c = let t = c.claim-found.ensures.2 in let not = c.if-found-ready.true in
    saw_one c.args.ticket.place _ _ _ _ (ap (λ m. m.0.notes) (t.1 not)
    ∙ note_at _ _ _ _ c.place-index.ensures)
    (subst (λ (n : ℕ). IsOtherWord n c.claim-found.result)
    (omega (arith, c.generation-first.ensures)) (t.2 not))

pub returns-clause-left : goal.returns-clause-left
returns-clause-left g c = let t = c.claim-found.ensures.2 in let no = c.if-found-ready.false in
    if_some c.exchange-parcel.result (saw_then c.args.ticket.place _ _ _ _
    (saw_one c.args.ticket.place _ _ _ _ (ap (λ m. m.0.notes) c.exchange-parcel.ensures.3
    ∙ ap (λ m. m.0.notes) (t.0 no).2 ∙ note_at _ _ _ _ c.place-index.ensures)
    (omega (arith, c.generation-first.ensures)))
    (grows_one _ _ _ _ (ap (λ m. m.0.notes) c.release.ensures.2)))
