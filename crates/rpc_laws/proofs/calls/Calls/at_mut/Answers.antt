use Rattle.std.proofs.Common.{refl}
use Rattle.rpc_laws.proofs.BegunLemmas.{begun-below}
use Rattle.rpc_laws.proofs.PartsLemmas.{read-front, set-front}
use Rattle.rpc_laws.proofs.calls.Calls.at_mut.Goals as goal

pub returns : goal.returns
returns c =
    let xs = c.self.inside.begun.items in
    let ys = c.self.inside.waiting.items in
    let below = begun-below xs ys c.args.self.now c.args.i c.self.view_is c.self.invariant
    c.requires in (
      (refl, λ w. set-front xs ys c.args.self.now c.args.i w c.self.view_is below),
      record {
        writes_back = tt;
        value =
            read-front xs ys c.args.self.now c.args.i c.index_mut.result.now c.self.view_is below
            c.index_mut.ensures.value;
      },
    )
