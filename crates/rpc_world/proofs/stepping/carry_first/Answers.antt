use Rattle.std.proofs.Common.{sym}
use Rattle.rpc_world.proofs.NetLemmas.{carried, copy-among, flight-numbered}
use Rattle.rpc_world.proofs.stepping.carry_first.Goals as goal

pub deliver_to-requires-clause-numbered : goal.deliver_to-requires-clause-numbered
deliver_to-requires-clause-numbered c =
    flight-numbered _ _ 0 _ c.stage.view_is c.in-Some.ensures.others c.requires.numbered

pub deliver_to-requires-clause-among : goal.deliver_to-requires-clause-among
deliver_to-requires-clause-among c =
    copy-among _ _ 0 c.in-Some.taken c.stage.view_is (sym c.in-Some.ensures.copy) c.requires.numbered

pub returns-clause-performed : goal.returns-clause-performed
returns-clause-performed c =
    carried 0 c.in-Some.taken _ _ _ _ _ _ c.stage.view_is (sym c.in-Some.ensures.copy)
    c.in_ok-note_of_net.ensures.noted
    (rw c.in-Some.ensures.others at c.in_ok-deliver_to.ensures.performed)
