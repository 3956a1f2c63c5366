use Rattle.std.proofs.Common.{sym, ap, subst, length, ◌≡◌, ◌∙◌}
use Rattle.rpc_outside.specs.PlainAnswer.{counted, fill, steady_answer}
use Rattle.rpc_outside.proofs.Filling.{fill-counted}
use Rattle.rpc_outside.proofs.plain.answers.answer_steadily.Goals as goal

pub returns-in-4 : goal.returns-in-4
returns-in-4 c =
    let room : length (fill c.args.ask.now) ≡ length c.args.out.now =
    subst (λ t. length (steady_answer t c.args.ask.now) ≡ length c.args.out.now) c.in-4.is
    c.requires in
    let own : c.count_up.new.out ≡ fill c.args.ask.now =
    c.count_up.ensures ∙ ap counted (sym room) ∙ fill-counted c.args.ask.now in
    subst (λ t. c.count_up.new.out ≡ steady_answer t c.args.ask.now) (sym c.in-4.is) own
