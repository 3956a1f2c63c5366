use Rattle.std.proofs.Common.{◌≡◌, ◌∙◌}
use Rattle.rpc_world.proofs.StandLemmas.{node-stands, node-there}
use Rattle.rpc_world.proofs.world.World.node.Goals as goal

pub at-requires : goal.at-requires
at-requires c =
    let is_n : c.from.result ≡ c.args.n = c.from.ensures ∙ c.n.view_is in
    rw is_n (node-there c.self.inside.history c.self.inside.nodes c.args.n c.self.invariant
    (rw (← c.self.view_is) at c.requires.declared))

pub returns : goal.returns
returns c =
    let is_n : c.from.result ≡ c.args.n = c.from.ensures ∙ c.n.view_is in
    record {
      stands = rw (← c.self.view_is) (node-stands c.self.inside.history c.self.inside.nodes c.args.n
          c.at.result.now c.self.invariant (rw is_n at c.at.ensures));
    }
