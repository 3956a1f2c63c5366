use Rattle.std.proofs.Common.{sym, ◌∙◌}
use Rattle.history_audit.proofs.NetLemmas.{net-last, net-next}
use Rattle.history_audit.proofs.net.keeps_net.Goals as goal

pub returns-in-Net : goal.returns-in-Net
returns-in-Net c = λ h a. (
  λ e. net-next h c.args.fact.now a (λ w. sym c.is_of_net.ensures ∙ e),
  λ n. c.is_of_net.ensures ∙ net-last h c.args.fact.now n c.in-Net.is,
)
