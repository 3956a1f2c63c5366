use Rattle.std.proofs.Common.{sym, ap, subst, length, ◌≡◌, ◌∙◌}
use Rattle.rpc_outside.specs.PlainAnswer.{plain_answer, tally}
use Rattle.rpc_outside.proofs.Filling.{steady-inline}
use Rattle.rpc_outside.proofs.plain.service.PlainServiceService.serve.Goals as goal

pub tally-self-inside-requires : goal.tally-self-inside-requires
tally-self-inside-requires c =
    let (served, stands) = c.requires.stands in
    let room = c.requires.room served stands in
    subst (λ n. length (tally n c.args.ask.now) ≡ length c.args.out.now) (sym (c.self.view_is ∙ stands))
    (subst (λ t. length (plain_answer served t c.args.ask.now) ≡ length c.args.out.now)
    c.if-req_type-eq-TALLY.true room)

pub answer_steadily-requires : goal.answer_steadily-requires
answer_steadily-requires c =
    let (served, stands) = c.requires.stands in
    sym (ap length (steady-inline served c.args.req_type c.args.ask.now c.if-req_type-eq-TALLY.false
    c.requires.inline)) ∙ c.requires.room served stands
