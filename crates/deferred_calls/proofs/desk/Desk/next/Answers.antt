use Rattle.std.proofs.Common.{◌≡◌, List, [], subst, sym, ap, ◌∙◌}
use Rattle.deferred_calls.specs.declared.job.Numbered.{Numbered}
use Rattle.deferred_calls.specs.Desks.{out_of}
use Rattle.deferred_calls.proofs.DeskLemmas.{jobs}
use Rattle.deferred_calls.proofs.desk.Desk.next.Goals as goal

pub returns-in_default : goal.returns-in_default
returns-in_default g c = let d = c.self.inside in let e = c.in_default.ensures.none in record {
  hands_out = (
    subst (λ s. s.waiting ≡ []) c.self.view_is e.0,
    ap (λ (w : List Numbered). jobs d.jobs d.given w d.handled.items d.answered.items) (e.1 ∙ sym e.0) ∙ c.self.view_is,
  );
  handle = tt;
  out = ap out_of (ap (λ (w : List Numbered). jobs d.jobs d.given w d.handled.items d.answered.items) (e.1 ∙ sym e.0) ∙ c.self.view_is);
}
