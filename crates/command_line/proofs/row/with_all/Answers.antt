use Rattle.command_line.proofs.ArgLemmas.{made-so}
use Rattle.command_line.proofs.row.with_all.Goals as goal

pub returns-clause-added : goal.returns-clause-added
returns-clause-added c = λ rules are.
    made-so c.args.command c.args.args.items rules c.args-made.result c.of.result
    c.args-made.ensures c.of.ensures.made are
