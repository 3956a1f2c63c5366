use Rattle.std.proofs.Common.{ap, ◌∙◌, arith}
use Rattle.std.specs.Prelude.{map}
use Rattle.std.proofs.lemmas.List.{map-append}
use Rattle.node_steps.specs.Seen.{unasked}
use Rattle.node_poll.proofs.jobs.put_job.Goals as goal

pub push_back_reserved-requires : goal.push_back_reserved-requires
push_back_reserved-requires c = omega (arith, c.requires.room, c.args.jobs.now.ok.0)

pub returns-clause-named : goal.returns-clause-named
returns-clause-named c =
    ap (map unasked) c.push_back_reserved.ensures.items
    ∙ map-append unasked c.args.jobs.now.items _
