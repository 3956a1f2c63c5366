-- What is lawful follows from the runs of the nodes, and a few claims of all their facts together.
use Rattle.std.proofs.Common.{List}
use Rattle.rpc_base.specs.declared.fact.Fact.{Fact}
use Rattle.one_history.specs.NetFacts.{AllOfNet}
use Rattle.report_text.specs.Told.{AllTold}
use Rattle.ring_laws.specs.CalmRing.{MessagesFit}
use Rattle.rpc_laws.specs.OwnAnswer.{Own}
use Rattle.rpc_laws.specs.Service.{plain_serving}
use Rattle.lawful_history.specs.Lawful.{Lawful}
use Rattle.world_laws.proofs.NodeLaws.{credit-each, ended-each, older-each, once-each, ring-each}
use Rattle.world_laws.proofs.NodeLaws.{sends-each, sessions-each}
use Rattle.world_laws.proofs.OneCallLaws.{numbers-each, one-call-each}
use Rattle.world_laws.specs.NodeFacts.{EachRuns}

pub lawful-by : (h : List Fact) → EachRuns h → AllOfNet h → Own h → MessagesFit h → AllTold h
    → Lawful h
lawful-by h runs net own fits told =
    let numbers = numbers-each h runs in
    let once = once-each h runs in
    record {
      nodes = runs;
      net = net;
      once = once;
      own = own;
      one_call = one-call-each (λ n. plain_serving) h numbers once own;
      numbers = numbers;
      credit = credit-each h runs;
      fits = fits;
      ring = ring-each h runs;
      ends_clean = ended-each h runs;
      begins_clean = older-each h runs;
      sessions_clean = sessions-each h runs;
      sends_own = sends-each h runs;
      told = told;
    }
