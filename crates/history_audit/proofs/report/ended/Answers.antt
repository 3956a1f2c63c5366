use Rattle.std.proofs.Common.{ap, inl, inr, refl, sym, ◌∙◌, ℕ, ◌+◌}
use Rattle.poll_steps.proofs.HearLemmas.{no-items, some-items}
use Rattle.report_reader.specs.Lines.{end_line}
use Rattle.history_audit.proofs.report.ended.Goals as goal

pub returns-then-not-is_end : goal.returns-then-not-is_end
returns-then-not-is_end c = λ facts e.
    let counted = c.facts-count.ensures ∙ e in
    inl (
      ap (λ (n : ℕ). n + 2) counted,
      λ is. c.is_end.ensures.no c.if-not-is_end.true (is ∙ ap end_line (sym counted)),
    )

pub returns-then-not-is_empty : goal.returns-then-not-is_empty
returns-then-not-is_empty c = λ facts e.
    let counted = c.facts-count.ensures ∙ e in
    inr (
      ap (λ (n : ℕ). n + 3) counted,
      c.is_end.ensures.yes c.if-not-is_end.false ∙ ap end_line counted,
      some-items c.args.after.now (sym c.is_empty.ensures ∙ c.if-not-is_empty.true),
    )

pub returns : goal.returns
returns c = λ facts e.
    let counted = c.facts-count.ensures ∙ e in (
      refl,
      (
        refl,
        c.is_end.ensures.yes c.if-not-is_end.false ∙ ap end_line counted,
        no-items c.args.after.now (sym c.is_empty.ensures ∙ c.if-not-is_empty.false),
      ),
    )
