use Rattle.std.proofs.Common.{◌==◌, not, rules, ap, ◌∙◌}
use Rattle.std.proofs.lemmas.Fn.{filter_same}
use Rattle.history_audit.proofs.PollLemmas.{among-less}
use Rattle.history_audit.specs.OpenPolls.{is_among}
use Rattle.history_audit.proofs.polls.shut.Goals as goal

pub returns : goal.returns
returns c = λ n.
    ap (is_among n) (filter_same _ (λ j. not (j == c.args.node)) _ (λ x b f k. search rules) _ _
    c.retain.ensures.filtered)
    ∙ among-less n c.args.node c.args.nodes.now.items
