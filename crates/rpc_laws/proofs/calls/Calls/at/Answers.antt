use Rattle.std.proofs.Common.{◌≡◌, ◌+◌, ◌-◌, length, arith}
use Rattle.rpc_laws.proofs.PartsLemmas.{read-front, read-behind}
use Rattle.rpc_laws.proofs.calls.Calls.at.Goals as goal

pub returns-then-i-begun : goal.returns-then-i-begun
returns-then-i-begun c =
    read-front c.self.inside.begun.items c.self.inside.waiting.items c.args.self.now c.args.i
    c.index.result.now c.self.view_is (omega arith) c.index.ensures

pub returns : goal.returns
returns c =
    let place : c.args.i
    ≡ length c.self.inside.begun.items + (c.args.i - c.len-begun.result) = omega arith in
    read-behind c.self.inside.begun.items c.self.inside.waiting.items c.args.self.now c.args.i _
    c.index-2.result.now c.self.view_is place c.requires c.index-2.ensures
