use Rattle.std.proofs.Common.{[], ◌∷◌, codes}
use Rattle.command_line.specs.Rows.{flag, named, needed, optional, positional}
use Rattle.command_line.proofs.ArgLemmas.{kept-is, row-made}
use Rattle.command_line.proofs.row.serve.Goals as goal

pub returns-clause-row : goal.returns-clause-row
returns-clause-row c =
    row-made c.row.result (codes "serve") c.in_ok-args.args.items
    (c.positional.result ∷ c.needed.result ∷ c.optional.result ∷ c.named.result ∷
    c.optional-2.result ∷ c.optional-3.result ∷ c.flag.result ∷ [])
    (positional (codes "ADDR") ∷ needed (codes "turns") ∷ optional (codes "workers") (codes "0") ∷
    named (codes "relay") ∷ optional (codes "life") (codes "1") ∷
    optional (codes "timeout") (codes "5000") ∷ flag (codes "spin") ∷ [])
    c.with_all.result c.with_all.ensures.added c.row.ensures
    (kept-is _ _ c.vec-args.result c.map_err.result c.in_ok-args.args c.vec-args.ensures.items
    c.map_err.ensures.cases c.in_ok-args.ensures.made) (
      c.positional.ensures,
      (
        c.needed.ensures,
        (
          c.optional.ensures,
          (
            c.named.ensures,
            (c.optional-2.ensures, (c.optional-3.ensures, (c.flag.ensures, tt))),
          ),
        ),
      ),
    )
