use Rattle.std.proofs.Common.{subst, sym}
use Rattle.rpc_base.specs.declared.fact.Who.{Who}
use Rattle.history_audit.proofs.FairLemmas.{denied}
use Rattle.history_audit.specs.Tables.{RunsAt}
use Rattle.history_audit.proofs.tables.Tables.broken_run.Goals as goal

pub returns-then-runs_outside : goal.returns-then-runs_outside
returns-then-runs_outside c = λ h keeps busy.
    subst (λ (w : Who). RunsAt w h) (sym c.in-Node.is)
    ((c.runs_outside.ensures h keeps busy).0 c.if-runs_outside.true)

pub returns-else-runs_outside : goal.returns-else-runs_outside
returns-else-runs_outside c = λ h keeps busy.
    denied _ (c.runs_outside.ensures h keeps busy) c.if-runs_outside.false

pub returns-in-Net : goal.returns-in-Net
returns-in-Net c = λ h keeps busy. subst (λ (w : Who). RunsAt w h) (sym c.in-Net.is) tt
