use Rattle.std.proofs.Common.{List, ap, arith, ◌+◌, length, sym, subst}
use Rattle.std.proofs.lemmas.List.{length-map}
use Rattle.script_grammar.specs.declared.line.Command.{Command}
use Rattle.script_grammar.specs.declared.line.Line.{Line}
use Rattle.drill_maker.proofs.DraftLemmas.{draft_added}
use Rattle.drill_maker.specs.Draft.{IsDraft}
use Rattle.drill_maker.proofs.draft.Draft.add.Goals as goal

pub invariant_of-self-2 : goal.invariant_of-self-2
invariant_of-self-2 c =
    let lines = c.self.inside.lines.items in
    subst (λ (ls : List Line). IsDraft ls) (sym c.in_ok-push.ensures.pushed)
    (draft_added lines c.args.command (c.len.result + 2) c.self.invariant (omega arith)
    (omega (
      arith,
      length-map lines (λ line. line.command),
      ap (λ (cs : List Command). length cs)
          c.self.view_is,
    )) c.requires.drilled)
