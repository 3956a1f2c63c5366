use Rattle.std.proofs.Common.{◌+◌, ap}
use Rattle.rpc_world.proofs.NetLemmas.{ticks}
use Rattle.rpc_world.proofs.command.tick.Goals as goal

pub returns-clause-performed : goal.returns-clause-performed
returns-clause-performed c =
    ticks c.args.by _ _ _ _ _ c.stage.view_is (ap (λ n. c.stage.inside.clock + n) c.from.ensures)
    c.in_ok-note_of_net.ensures.noted
