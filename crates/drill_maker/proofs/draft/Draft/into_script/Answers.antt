use Rattle.std.proofs.Common.{All, List, sym, subst}
use Rattle.drill_maker.proofs.DraftLemmas.{draft_keeps, draft_script}
use Rattle.drill_maker.specs.Draft.{KeepsSessions}
use Rattle.script_grammar.specs.declared.line.Line.{Line}
use Rattle.drill_maker.proofs.draft.Draft.into_script.Goals as goal

pub of-requires : goal.of-requires
of-requires c = draft_script c.self.inside.lines.items c.self.invariant

pub returns-clause-keeps : goal.returns-clause-keeps
returns-clause-keeps c =
    subst (λ (ls : List Line). All (λ line. KeepsSessions line.command) ls) (sym c.of.ensures)
    (draft_keeps c.self.inside.lines.items c.self.invariant)
