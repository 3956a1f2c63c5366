use Rattle.std.proofs.Common.{sym}
use Rattle.rpc_world.proofs.NetLemmas.{arrives-carried, arrives-missed, copy-among, flight-numbered}
use Rattle.rpc_world.proofs.stepping.arrive.Goals as goal

pub deliver_to-requires-clause-numbered : goal.deliver_to-requires-clause-numbered
deliver_to-requires-clause-numbered c =
    flight-numbered _ _ c.args.copy _ c.stage.view_is c.in-Some.ensures.others c.requires.numbered

pub deliver_to-requires-clause-among : goal.deliver_to-requires-clause-among
deliver_to-requires-clause-among c =
    copy-among _ _ c.args.copy c.in-Some.taken c.stage.view_is (sym c.in-Some.ensures.copy)
    c.requires.numbered

pub returns-clause-performed : goal.returns-clause-performed
returns-clause-performed c =
    arrives-carried c.args.copy c.in-Some.taken _ _ _ _ _ _ c.stage.view_is (sym c.in-Some.ensures.copy)
    c.in_ok-note_of_net.ensures.noted
    (rw c.in-Some.ensures.others at c.in_ok-deliver_to.ensures.performed)

pub returns-in_default-clause-performed : goal.returns-in_default-clause-performed
returns-in_default-clause-performed c =
    arrives-missed c.args.copy _ _ _ _ _ _ c.stage.view_is (c.carry.ensures.missed.0 c.in_default.is)
    c.carry.ensures.others c.in_ok-perform_net.ensures.performed
