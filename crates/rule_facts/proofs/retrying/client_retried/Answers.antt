use Rattle.std.proofs.Common.{Option, Some, subst}
use Rattle.packet_header.specs.declared.packet.ControlHeader.{ControlHeader}
use Rattle.rpc_laws.specs.declared.rows.RetryRow.{RetryRow}
use Rattle.rpc_laws.specs.ControlSteps.{RetriesAs, RetriesBy}
use Rattle.rule_facts.specs.Retrying.{IsFront}
use Rattle.rule_facts.proofs.RetryLemmas.{none-front}
use Rattle.rule_facts.proofs.retrying.client_retried.Goals as goal

pub returns-in_default : goal.returns-in_default
returns-in_default c =
    subst (λ (o : Option ControlHeader).
    IsFront (RetriesAs o c.args.clock c.args.timeout c.args.me c.args.client.now) c.args.facts.now
    (Some 0))
    c.in_default.ensures (none-front c.args.facts.now)

pub returns : goal.returns
returns c =
    let by =
    subst (λ (r : RetryRow).
    IsFront (RetriesBy r c.args.me c.args.client.now c.in-Some.head) c.args.facts.now
    c.retried_by.result)
    c.retry_row-row.ensures c.retried_by.ensures in
    subst (λ (o : Option ControlHeader).
    IsFront (RetriesAs o c.args.clock c.args.timeout c.args.me c.args.client.now) c.args.facts.now
    c.retried_by.result)
    c.in-Some.ensures by
