use Rattle.std.proofs.Common.{sym, ◌∙◌}
use Rattle.endpoint_rows.proofs.Counted.{eight, so_many, stands-for}
use Rattle.endpoint_rows.proofs.counter.CounterService.serve.Goals as goal

pub write_u64-requires : goal.write_u64-requires
write_u64-requires c =
    let count = c.self.inside.count in
    let known = stands-for count c.self.invariant in
    eight (so_many count) c.args.out.now (c.requires.room (so_many count) (sym c.self.view_is ∙ known))
