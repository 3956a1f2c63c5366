use Rattle.std.proofs.Common.{sym, rules}
use Rattle.rpc_base.proofs.TablesLemmas.{without_first-found, without_first-missing}
use Rattle.rpc_laws.specs.Calls.{is_call}
use Rattle.rpc_laws.proofs.calls.end_behind.Goals as goal

pub returns-in-Some : goal.returns-in-Some
returns-in-Some c =
    rw (without_first-found (is_call c.args.number) c.args.waiting.now.items c.in-Some.place
    (sym c.in-Some.ensures))
    (search rules)

pub returns-in_default : goal.returns-in_default
returns-in_default c =
    sym (without_first-missing (is_call c.args.number) c.args.waiting.now.items
    (sym c.in_default.ensures))
