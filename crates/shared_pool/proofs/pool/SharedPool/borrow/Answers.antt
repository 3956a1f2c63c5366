use Rattle.std.proofs.Common.{rules, ap, sym, refl, ◌∙◌, Some, ◌/◌}
use Rattle.shared_pool.specs.Loans.{loan_no}
use Rattle.shared_pool.proofs.StepLemmas.{looks, tries, releases}
use Rattle.worker_board.proofs.WordLemmas.{taken_first}
use Rattle.shared_pool.proofs.NotesLemmas.{shut_miss, other_miss, lent_counts}
use Rattle.shared_pool.proofs.pool.SharedPool.borrow.Goals as goal

pub load-found-requires : goal.load-found-requires
load-found-requires c = (
  search rules,
  search rules,
  looks c.args.self.now.table.shared.key _ _ _ _ (search rules) c.args.seat.now.idle,
)

pub compare_exchange-requires : goal.compare_exchange-requires
compare_exchange-requires c = let same = c.load-found.ensures.2.0 in (
  search rules,
  search rules,
  tries c.args.self.now.table.shared.key _ _ _ _ _ _ (search rules)
      (ap (λ m. m.0.turn) same ∙ c.args.seat.now.idle)
      (ap (λ m. m.0.capacity) same ∙ c.requires.seat.1 ∙ sym c.args.self.now.sized)
      (search rules) (search rules) (search rules),
)

pub exchange-slot-requires : goal.exchange-slot-requires
exchange-slot-requires c = let t = c.compare_exchange.ensures.2.0 c.if-compare_exchange-found.false in (search rules, (Some t.0, taken_first _ _ _ _ (ap (λ m. m.1) t.2)))

pub load-requires : goal.load-requires
load-requires c = let t = c.compare_exchange.ensures.2.0 c.if-compare_exchange-found.false in let now = c.exchange-slot.ensures.3 in (
  search rules,
  search rules,
  releases c.args.self.now.table.shared.key _ _ _ _ _ (ap (λ m. m.1) now) (search rules)
      (ap (λ m. m.0.turn) now ∙ ap (λ m. m.0.turn) t.2)
      (lent_counts c.args.place (loan_no c.args.place (c.load-found.result / 2)) c.load-found.new.seat.me.0 c.exchange-slot.new.seat.me.0 (ap (λ m. m.0) now ∙ ap (λ m. m.0) t.2) refl),
)

pub returns-then-not-may_be_lent-clause-none : goal.returns-then-not-may_be_lent-clause-none
returns-then-not-may_be_lent-clause-none c = let t = c.load-found.ensures.2 in shut_miss _ _ _ _ t.0 t.1 (search rules)

pub returns-then-compare_exchange-found-clause-none : goal.returns-then-compare_exchange-found-clause-none
returns-then-compare_exchange-found-clause-none c = let t = c.load-found.ensures.2 in let not = c.if-compare_exchange-found.true in
    other_miss _ _ _ _ _ _ t.0 (c.compare_exchange.ensures.2.1 not) not
