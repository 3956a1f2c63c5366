use Rattle.std.proofs.Common.{refl}
use Rattle.load_run.proofs.TallyLemmas.{counts-one}
use Rattle.load_run.proofs.ledger.Ledger.count_one.Goals as goal

pub returns : goal.returns
returns c =
    counts-one c.args.self.now
    (record { plan = c.args.self.now.plan; tally = c.add.new.self }) c.args.done.now
    c.ending-ending.result refl c.ending-ending.ensures c.add.ensures.own c.add.ensures.others
