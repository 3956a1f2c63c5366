use Rattle.std.proofs.Common.{◌≡◌, ◌<◌, ap, arith, sym, ◌∙◌}
use Rattle.rpc_base.specs.declared.fact.Who.TheVariants.{Node}
use Rattle.history_audit.proofs.NodesLemmas.{keeps-net, keeps-node}
use Rattle.history_audit.proofs.nodes.Nodes.note.Goals as goal

pub returns-in_ok-note-in-Node-clause-noted : goal.returns-in_ok-note-in-Node-clause-noted
returns-in_ok-note-in-Node-clause-noted c = λ h k.
    let same : c.node.inside.0 ≡ c.from-place.result = omega arith in
    let few : c.from-place.result < 256 = omega arith in
    let who = c.in-Node.is ∙ ap Node (sym c.node.view_is) ∙ ap Node same in
    keeps-node c.args.self.now.nodes h c.args.fact.now c.from-place.result c.at_mut.result.now c.note.new.self
    who few c.at_mut.ensures.value c.in_ok-note-in-Node.ensures.noted k

pub returns-in-Net-clause-noted : goal.returns-in-Net-clause-noted
returns-in-Net-clause-noted c = λ h k. keeps-net c.args.self.now.nodes h c.args.fact.now c.in-Net.is k
