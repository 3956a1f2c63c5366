use Rattle.rpc_world.proofs.ServedLaws.{follows-lawful, follows-one, follows-requests}
use Rattle.rpc_world.proofs.ServedLaws.{follows-no-stall, follows-stands-once}
use Rattle.rpc_world.proofs.world.World.run.Goals as goal

pub returns-clause-lawful : goal.returns-clause-lawful
returns-clause-lawful c =
    follows-lawful _ _ c.in_ok-world.ensures.script c.in_ok-world.ensures.follows

pub returns-clause-requests : goal.returns-clause-requests
returns-clause-requests c = follows-requests _ _ c.in_ok-world.ensures.script

pub returns-clause-one : goal.returns-clause-one
returns-clause-one c = follows-one _ _ c.in_ok-world.ensures.follows

pub returns-clause-no_stall : goal.returns-clause-no_stall
returns-clause-no_stall c =
    follows-no-stall _ _ c.in_ok-world.ensures.script c.in_ok-world.ensures.follows

pub returns-clause-stands_once : goal.returns-clause-stands_once
returns-clause-stands_once c =
    follows-stands-once _ _ c.in_ok-world.ensures.script c.in_ok-world.ensures.follows
