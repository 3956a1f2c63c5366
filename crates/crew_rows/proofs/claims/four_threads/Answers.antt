use Rattle.std.proofs.Common.{ap, ◌∙◌}
use Rattle.worker_board.specs.declared.view.View.{View}
use Rattle.crew_rows.proofs.claims.four_threads.Goals as goal

pub offer_all-requires-clause-new : goal.offer_all-requires-clause-new
offer_all-requires-clause-new g c = let ledger : View → _ = λ v. v.ledger in
    ap ledger c.hand-four.ensures.view ∙ ap ledger c.hand-three.ensures.view
    ∙ ap ledger c.hand-two.ensures.view ∙ ap ledger c.hand-one.ensures.view
    ∙ ap ledger c.in-Ok.ensures.view
