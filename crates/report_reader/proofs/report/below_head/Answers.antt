use Rattle.std.proofs.Common.{List, ℕ, ◌∷◌, ap, inl, inr, refl, sym, ◌∙◌}
use Rattle.report_reader.specs.Lines.{parts_of}
use Rattle.report_reader.proofs.ReportLemmas.{without-head, word-other, word-same}
use Rattle.report_reader.proofs.report.below_head.Goals as goal

pub returns-in_default-clause-none : goal.returns-in_default-clause-none
returns-in_default-clause-none c =
    without-head c.args.bytes.now _ _ c.requires c.in_default.ensures.none (inl refl)

pub returns-then-not-is_word-clause-none : goal.returns-then-not-is_word-clause-none
returns-then-not-is_word-clause-none c =
    without-head c.args.bytes.now c.in-Some.head.now (parts_of c.in-Some.rest.now) c.requires
    c.in-Some.ensures.line (inr (word-other _ _ (sym c.is_word.ensures ∙ c.if-not-is_word.true)))

pub returns-clause-some : goal.returns-clause-some
returns-clause-some c =
    c.in-Some.ensures.line ∙ ap (λ (l : List ℕ). l ∷ parts_of c.in-Some.rest.now)
    (word-same _ _ (sym c.is_word.ensures ∙ c.if-not-is_word.false))
