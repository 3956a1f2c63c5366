use Rattle.std.proofs.Common.{◌<◌, sym, ◌∙◌, length, arith}
use Rattle.rpc_base.proofs.TablesLemmas.{at_first-missing}
use Rattle.rpc_laws.specs.BegunPart.{with_progress}
use Rattle.rpc_laws.specs.Calls.{is_call}
use Rattle.rpc_laws.proofs.PartsLemmas.{changed-front, read-at}
use Rattle.rpc_laws.proofs.calls.Calls.begin.Goals as goal

pub returns-in_default-clause-calls : goal.returns-in_default-clause-calls
returns-in_default-clause-calls c =
    sym (at_first-missing (is_call c.args.number) (with_progress c.args.progress) c.args.self.now
    (sym c.in_default.ensures))

pub returns-clause-calls : goal.returns-clause-calls
returns-clause-calls c =
    let below : c.in-Some.place < length c.bring.new.begun.items =
    omega (arith, c.in_ok-bring.ensures.count, c.saturating_sub-count.ensures, c.len.ensures) in
    changed-front (is_call c.args.number) (with_progress c.args.progress) c.bring.new.begun.items
    c.bring.new.waiting.items c.args.self.now c.in-Some.place c.index_mut.result.now
    (c.in_ok-bring.ensures.calls ∙ c.self.view_is) (sym c.in-Some.ensures) below
    (read-at c.bring.new.begun.items c.in-Some.place c.index_mut.result.now below
    c.index_mut.ensures.value)
