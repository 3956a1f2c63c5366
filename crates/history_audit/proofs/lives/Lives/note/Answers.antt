use Rattle.std.proofs.Common.{◌<◌, ap, arith, length, sym, ◌∙◌}
use Rattle.rpc_base.specs.declared.fact.Who.TheVariants.{Node}
use Rattle.history_audit.proofs.LivesLemmas.{lives-node, lives-stay, quiet-net}
use Rattle.history_audit.proofs.lives.Lives.note.Goals as goal

pub returns-in-Node : goal.returns-in-Node
returns-in-Node c = λ h a tells.
    let old = c.args.self.now in
    let within : c.node.inside.0 < length old.lives.items = omega (arith, old.many, old.lives.ok.0) in
    lives-node old.lives.items c.restart.new.self.lives.items h c.args.fact.now c.node.inside.0 c.begun_life.result
    (c.in-Node.is ∙ ap Node (sym c.node.view_is)) c.begun_life.ensures c.restart.ensures within a tells

pub returns-in-Net : goal.returns-in-Net
returns-in-Net c = λ h a tells.
    lives-stay c.args.self.now.lives.items h c.args.fact.now (quiet-net c.args.fact.now c.in-Net.is) a
