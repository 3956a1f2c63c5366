use Rattle.std.proofs.Common.{[], ◌∷◌, codes}
use Rattle.command_line.specs.Rows.{positional}
use Rattle.command_line.proofs.ArgLemmas.{kept-is, row-made}
use Rattle.command_line.proofs.row.drill.Goals as goal

pub returns-clause-row : goal.returns-clause-row
returns-clause-row c =
    row-made c.row.result (codes "drill") c.in_ok-args.args.items
    (c.positional.result ∷ c.positional-2.result ∷ [])
    (positional (codes "SEED") ∷ positional (codes "CALLS") ∷ [])
    c.with_all.result c.with_all.ensures.added c.row.ensures
    (kept-is _ _ c.vec-args.result c.map_err.result c.in_ok-args.args c.vec-args.ensures.items
    c.map_err.ensures.cases c.in_ok-args.ensures.made)
    (c.positional.ensures, (c.positional-2.ensures, tt))
