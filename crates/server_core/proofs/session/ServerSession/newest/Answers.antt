use Rattle.std.proofs.Common.{ap, ◌∙◌}
use Rattle.std.specs.List.{find}
use Rattle.server_core.specs.Session.{is_in_slot, newest}
use Rattle.server_core.proofs.session.ServerSession.newest.Goals as goal

pub returns : goal.returns
returns c =
    c.of_slot.ensures ∙ ap (λ i. find (is_in_slot i) c.self.inside.slots) c.slot.ensures
    ∙ ap (newest c.args.request) c.self.view_is
