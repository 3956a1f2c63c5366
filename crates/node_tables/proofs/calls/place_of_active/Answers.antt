use Rattle.std.proofs.Common.{◌∙◌}
use Rattle.rpc_laws.specs.Calls.{is_active}
use Rattle.rpc_laws.proofs.BegunLemmas.{begun-position}
use Rattle.node_tables.proofs.ActiveLemmas.{waits-inactive}
use Rattle.node_tables.proofs.calls.place_of_active.Goals as goal

pub returns : goal.returns
returns c =
    c.place_among.ensures
    ∙ begun-position (is_active c.args.request)
    (waits-inactive c.args.request) c.begun.result.now c.args.calls.now c.begun.ensures
