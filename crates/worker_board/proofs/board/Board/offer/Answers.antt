use Rattle.std.proofs.Common.{rules, arith, ap, sym, subst, ◌∙◌, ◌∷◌, Some, ◌≡◌, length}
use Rattle.atomic_table.specs.Table.{rest}
use Rattle.worker_board.specs.Word.{IsClosed, offers_at}
use Rattle.worker_board.proofs.DispatcherLemmas.{opens, readies}
use Rattle.worker_board.proofs.WordLemmas.{next_generation}
use Rattle.worker_board.proofs.board.Board.offer.Goals as goal
use Rattle.worker_board.proofs.board.Board.offer.Goals.{then-found-eq0, else-found-eq0}
use Rattle.worker_board.proofs.NotesLemmas.{grows_one, saw_one, then_saw}

pub open-found-requires : goal.open-found-requires
open-found-requires g c = (
  search rules,
  search rules,
  opens g.D.Duty.answer _ _ _ _ (search rules)
      c.args.seat.now.dispatches c.args.seat.now.idle c.requires.free,
)

pub ready-requires : goal.ready-requires
ready-requires g c = let now = c.exchange-empty.ensures.3 in let did = c.open-found.ensures.2.0 in let next = next_generation (offers_at c.args.seat.now.seat.me.0.ledger c.args.place) _ c.open-found.ensures.2.1 in
    let same = now ∙ ap (λ m. (m.0, (c.args.place, Some c.args.parcel) ∷ rest m.1)) did in
    let generation : c.if-found-eq0.generation ≡ length (offers_at c.args.seat.now.seat.me.0.ledger c.args.place) =
    elim c.if-found-eq0.branch [
      | then-found-eq0 w ↦ omega
          (arith, next.0 w.if-found-eq0.true, w.generation-is)
      | else-found-eq0 w ↦ omega
          (arith, next.1 w.if-found-eq0.false, w.generation-is)
    ] in (
      search rules,
      search rules,
      readies g.D.Duty.answer _ _ _ _ c.args.parcel _ _ (ap (λ m. m.1) now) (search rules)
          (ap (λ m. m.0.role) same ∙ c.args.seat.now.dispatches) (ap (λ m. m.0.turn) same)
          (subst (λ m. IsClosed (offers_at m.0.ledger c.args.place)) (sym same) c.requires.free)
          c.requires.room (omega (
            arith,
            generation,
            ap (λ m. length (offers_at m.0.ledger c.args.place)) same,
          )),
    )

pub invariant_of-seat : goal.invariant_of-seat
invariant_of-seat g c = let now = c.exchange-empty.ensures.3 in let did = c.open-found.ensures.2.0 in let has = ap (λ m. m.1) now in
    let same = now ∙ ap (λ m. (m.0, (c.args.place, Some c.args.parcel) ∷ rest m.1)) did in
    let r = c.ready.ensures.2 c.args.parcel (has
    ∙ ap (λ l. (c.args.place, Some c.args.parcel) ∷ rest l) (sym has)) in record {
      empty = ap (λ m. m.1) r ∙ ap (λ m. rest m.1) same ∙ c.args.seat.now.empty;
      idle = ap (λ m. m.0.turn) r;
      dispatches = ap (λ m. m.0.role) r ∙ ap (λ m. m.0.role) same ∙ c.args.seat.now.dispatches;
    }

pub returns-clause-left : goal.returns-clause-left
returns-clause-left g c = let now = c.exchange-empty.ensures.3 in let did = c.open-found.ensures.2.0 in let has = ap (λ m. m.1) now in
    let same = now ∙ ap (λ m. (m.0, (c.args.place, Some c.args.parcel) ∷ rest m.1)) did in let next = next_generation (offers_at c.args.seat.now.seat.me.0.ledger c.args.place) _ c.open-found.ensures.2.1 in
    let r = c.ready.ensures.2 c.args.parcel (has ∙ ap (λ l. (c.args.place, Some c.args.parcel) ∷ rest l) (sym has)) in
    let generation : c.if-found-eq0.generation ≡ length (offers_at c.args.seat.now.seat.me.0.ledger c.args.place) =
    elim c.if-found-eq0.branch [
      | then-found-eq0 w ↦ omega
          (arith, next.0 w.if-found-eq0.true, w.generation-is)
      | else-found-eq0 w ↦ omega
          (arith, next.1 w.if-found-eq0.false, w.generation-is)
    ] in
    then_saw c.args.place _ _ _ _ (grows_one _ _ _ _ (ap (λ m. m.0.notes) same))
    (saw_one c.args.place _ _ _ _ (ap (λ m. m.0.notes) r) (omega (arith, generation)))
