use Rattle.std.proofs.Common.{◌∙◌}
use Rattle.rpc_laws.specs.Calls.{is_call}
use Rattle.rpc_laws.proofs.PartsLemmas.{any-place}
use Rattle.rpc_laws.proofs.calls.Calls.has.Goals as goal

pub returns : goal.returns
returns c = c.is_some.ensures
    ∙ any-place (is_call c.args.number) c.args.self.now c.place_of.result c.place_of.ensures
