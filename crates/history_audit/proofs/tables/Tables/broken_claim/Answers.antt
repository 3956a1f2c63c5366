use Rattle.history_audit.proofs.FairLemmas.{denied}
use Rattle.history_audit.proofs.tables.Tables.broken_claim.Goals as goal

pub returns-then-not-keeps_net : goal.returns-then-not-keeps_net
returns-then-not-keeps_net c = λ h n k. denied _ (c.keeps_net.ensures h k.net) c.if-not-keeps_net.true

pub returns-then-not-keeps_own : goal.returns-then-not-keeps_own
returns-then-not-keeps_own c = λ h n k.
    denied _ (c.keeps_own.ensures h (c.at-life.ensures h n.lives) n.book k.calls) c.if-not-keeps_own.true

pub returns-then-not-keeps_fit : goal.returns-then-not-keeps_fit
returns-then-not-keeps_fit c = λ h n k.
    denied _ (c.keeps_fit.ensures h n.rough k.fits) c.if-not-keeps_fit.true

pub returns : goal.returns
returns c = λ h n k. record {
  net = (c.keeps_net.ensures h k.net).0 c.if-not-keeps_net.false;
  calls = (c.keeps_own.ensures h (c.at-life.ensures h n.lives) n.book k.calls).0 c.if-not-keeps_own.false;
  fits = (c.keeps_fit.ensures h n.rough k.fits).0 c.if-not-keeps_fit.false;
}
