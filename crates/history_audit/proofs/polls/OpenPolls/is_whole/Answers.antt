use Rattle.std.proofs.Common.{◌≡◌, length, rules, ap}
use Rattle.history_audit.proofs.PollLemmas.{no-length, none-open, whole-none}
use Rattle.history_audit.proofs.polls.OpenPolls.is_whole.Goals as goal

pub returns : goal.returns
returns c = λ h a. (
  (λ e. let none : length c.args.self.now.nodes.items ≡ 0 = search rules in
      none-open _ h a (no-length c.args.self.now.nodes.items none)),
  (λ w. let none : length c.args.self.now.nodes.items ≡ 0 = ap length (whole-none c.args.self.now.nodes.items h a w) in
      search rules),
)
