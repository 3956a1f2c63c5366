use Rattle.rpc_world.proofs.NetLemmas.{of-net}
use Rattle.rpc_world.proofs.network.perform_net.Goals as goal

pub returns-clause-performed : goal.returns-clause-performed
returns-clause-performed c =
    of-net c.args.event.now _ _ _ _ _ c.stage.view_is c.requires c.in_ok-change.ensures.changed
    c.in_ok-note_of_net.ensures.noted
