use Rattle.std.proofs.Common.{[], ◌∷◌, ◌++◌}
use Rattle.history_audit.proofs.FairLemmas.{outside-next, tells-next, told-next, wrong-here}
use Rattle.history_audit.proofs.tables.Tables.note.Goals as goal

pub returns-in-Some-clause-judged : goal.returns-in-Some-clause-judged
returns-in-Some-clause-judged c = λ h told n busy fair.
    wrong-here c.in-Some.wrong (h ++ c.args.fact.now ∷ []) (c.in-Some.ensures h n fair.claimed)

pub returns-in-Some-broken_run-clause-judged : goal.returns-in-Some-broken_run-clause-judged
returns-in-Some-broken_run-clause-judged c = λ h told n busy fair.
    let g = h ++ c.args.fact.now ∷ [] in
    let keeps = c.in_ok-note.ensures.noted h n.nodes in
    wrong-here c.in-Some-broken_run.wrong g (c.in-Some-broken_run.ensures g keeps busy)

pub returns-clause-judged : goal.returns-clause-judged
returns-clause-judged c = λ h told n busy fair.
    let f = c.args.fact.now in
    let g = h ++ f ∷ [] in
    let keeps = c.in_ok-note.ensures.noted h n.nodes in
    let claimed = c.in_default.ensures h n fair.claimed in
    let at = c.in_default-broken_run.ensures g keeps busy in (
      record {
        nodes = keeps;
        lives = c.note-3.ensures h n.lives (tells-next h f fair.runs at);
        rough = c.note-4.ensures h n.rough;
        book = c.in_ok-note-2.ensures.noted h (c.at-life.ensures h n.lives) n.book;
      },
      record {
        runs = outside-next h f fair.runs at;
        claimed = claimed;
        told = told-next h f fair.told told;
      },
    )
