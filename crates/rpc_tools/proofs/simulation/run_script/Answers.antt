use Rattle.rpc_tools.proofs.simulation.run_script.Goals as goal

pub returns-in-Ok-print-clause-runs : goal.returns-in-Ok-print-clause-runs
returns-in-Ok-print-clause-runs g c =
    let r = c.in-Ok.ensures in
    record {
      history = c.in-Ok.world;
      follows = r.follows;
      one = r.one;
      lawful = r.lawful;
      stands_once = r.stands_once;
      no_stall = r.no_stall;
      requests = r.requests;
      wrote = rw c.history.ensures at c.in-Ok-print.ensures;
    }
