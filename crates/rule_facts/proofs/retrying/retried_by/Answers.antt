use Rattle.std.proofs.Common.{Some, subst, sym}
use Rattle.std.specs.Prelude.{map}
use Rattle.rpc_laws.specs.declared.rows.RetryRow.{RetryRow}
use Rattle.rpc_laws.specs.ControlSteps.{given_up, RetriesBy}
use Rattle.rpc_laws.specs.Facts.{plain}
use Rattle.rule_facts.specs.Retrying.{IsFront}
use Rattle.rule_facts.proofs.RetryLemmas.{none-front, noted-front, spoken-front}
use Rattle.rule_facts.proofs.retrying.retried_by.Goals as goal

pub returns-in-Rests : goal.returns-in-Rests
returns-in-Rests c =
    subst (λ (r : RetryRow).
    IsFront (RetriesBy r c.args.me c.args.client.now c.args.head.now) c.args.facts.now (Some 0))
    (sym c.in-Rests.is) (none-front c.args.facts.now)

pub returns-in-Asks : goal.returns-in-Asks
returns-in-Asks c =
    subst (λ (r : RetryRow).
    IsFront (RetriesBy r c.args.me c.args.client.now c.args.head.now) c.args.facts.now
    c.spoken.result)
    (sym c.in-Asks.is)
    (spoken-front c.args.me c.args.client.now.way.peer c.args.head.now c.args.facts.now
    c.spoken.result c.spoken.ensures.some c.spoken.ensures.only c.spoken.ensures.within)

pub returns-in-GivesUp : goal.returns-in-GivesUp
returns-in-GivesUp c =
    let x = c.args.client.now in
    let y = map (plain c.args.me) (given_up x.state x.way.number) in
    subst (λ (r : RetryRow).
    IsFront (RetriesBy r c.args.me x c.args.head.now) c.args.facts.now c.gave_up.result)
    (sym c.in-GivesUp.is)
    (noted-front y c.args.facts.now c.gave_up.result c.gave_up.ensures)
