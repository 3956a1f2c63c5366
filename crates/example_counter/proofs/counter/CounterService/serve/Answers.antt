-- the service stands for some requests, and there is room for their count
use Rattle.example_counter.proofs.Room.{eight}
use Rattle.example_counter.proofs.counter.CounterService.serve.Goals as goal

pub write_u64-requires : goal.write_u64-requires
write_u64-requires c =
    let stands = c.requires.stands in
    eight stands.0 c.args.out.now (c.requires.room stands.0 stands.1)
