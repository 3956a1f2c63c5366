use Rattle.std.proofs.Common.{rules, ap, sym, subst, ◌∙◌, ◌≡◌}
use mathlib.Core.Option.{some}
use lib.ListN.{get_elem?}
use Rattle.shared_pool.specs.Loans.{loan_no, AllInside}
use Rattle.shared_pool.proofs.StepLemmas.{reopens, returns, held_counts}
use Rattle.shared_pool.proofs.NotesLemmas.{loan_is, returned_view, returned_inside, returned_slots}
use Rattle.shared_pool.proofs.pool.SharedPool.give_back.Goals as goal

pub load-requires : goal.load-requires
load-requires c = let at = c.requires.loan in (
  search rules,
  search rules,
  reopens c.args.self.now.table.shared.key _ _ _ _ (search rules) c.args.seat.now.idle
      (held_counts c.spend-place.result.0 c.args.seat.now.seat.me.0 at.0 c.args.loan at.1
      (sym c.spend-place.ensures.place)),
)

pub store-requires : goal.store-requires
store-requires c = let now = c.exchange-empty.ensures.3 in let same = ap (λ m. m.0) now ∙ ap (λ m. m.0) c.load.ensures.2 in
    let is = loan_is c.spend-place.result.0 c.spend-place.result.1 c.args.loan c.spend-place.ensures.place c.spend-place.ensures.generation in
    let at = subst (λ v. get_elem? v.held c.requires.loan.0 ≡ some (loan_no c.spend-place.result.0 c.spend-place.result.1)) (sym same) (c.requires.loan.1 ∙ ap some (sym is)) in (
      search rules,
      search rules,
      returns c.args.self.now.table.shared.key _ _ _ _ c.spend-place.result.1 c.requires.loan.0 _ c.args.buf _ (ap (λ m. m.1) now) (search rules)
          (ap (λ v. v.turn) same) at (c.requires.capacity ∙ sym c.args.self.now.sized) (search rules),
    )

pub returns-clause-back : goal.returns-clause-back
returns-clause-back c = let now = c.exchange-empty.ensures.3 in
    let is = loan_is c.spend-place.result.0 c.spend-place.result.1 c.args.loan c.spend-place.ensures.place c.spend-place.ensures.generation in
    returned_view c.spend-place.result.0 c.spend-place.result.1 c.args.loan c.args.seat.now.seat.me.0 c.exchange-empty.new.seat.me c.store.new.seat.me
    (ap (λ m. m.0) now ∙ ap (λ m. m.0) c.load.ensures.2) (c.store.ensures.2 c.spend-place.result.1 (search rules)) is

pub returns-clause-seat : goal.returns-clause-seat
returns-clause-seat c = let now = c.exchange-empty.ensures.3 in (
  search rules,
  ap (λ m. m.0.capacity) (c.store.ensures.2 c.spend-place.result.1 (search rules))
      ∙ ap (λ m. m.0.capacity) now ∙ ap (λ m. m.0.capacity) c.load.ensures.2 ∙ c.requires.seat.1,
)

pub invariant_of-seat : goal.invariant_of-seat
invariant_of-seat c = let now = c.exchange-empty.ensures.3 in let told = c.store.ensures.2 c.spend-place.result.1 (search rules) in record {
  empty = returned_slots c.spend-place.result.0 c.spend-place.result.1 _ _ c.args.seat.now.seat.me c.load.new.seat.me c.exchange-empty.new.seat.me c.store.new.seat.me _
      c.load.ensures.2 now told ∙ c.args.seat.now.empty;
  idle = ap (λ m. m.0.turn) told;
  inside = returned_inside c.spend-place.result.0 c.spend-place.result.1 c.store.new.seat.table_id.words c.args.seat.now.seat.me.0 c.exchange-empty.new.seat.me c.store.new.seat.me
      (ap (λ m. m.0) now ∙ ap (λ m. m.0) c.load.ensures.2) told
      (subst (λ z. AllInside z.words c.args.seat.now.seat.me.0.held)
      (sym (c.store.ensures.0 ∙ c.exchange-empty.ensures.0 ∙ c.load.ensures.0)) c.args.seat.now.inside);
}
