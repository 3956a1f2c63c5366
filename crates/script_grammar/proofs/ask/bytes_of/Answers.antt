use Rattle.std.proofs.Common.{arith, rules, tests, sym, ◌∙◌}
use Rattle.std.proofs.lemmas.Grind.{common_steps}
use Rattle.script_grammar.proofs.AskLemmas.{hex_more, hex_wrong, hex_odd, hex_end}
use Rattle.script_grammar.proofs.ask.bytes_of.Goals as goal

pub loop-rest-preserved : goal.loop-rest-preserved
loop-rest-preserved c = (
  hex_more _ _ _ _ _ c.in-len2-up.len_at_least (sym c.hex_byte.ensures ∙ c.in-Some.is)
      c.in_ok-push-in-Some.ensures.pushed c.loop-rest.invariant.0,
  grind (arith, common_steps),
  search rules,
)

pub returns-in-None-clause-err : goal.returns-in-None-clause-err
returns-in-None-clause-err c =
    hex_wrong _ _ _ c.in-len2-up.len_at_least (sym c.hex_byte.ensures ∙ c.in-None.is) c.loop-rest.invariant.0

pub returns-then-not-is_empty-clause-err : goal.returns-then-not-is_empty-clause-err
returns-then-not-is_empty-clause-err c =
    hex_odd _ _ _ (search (rules, tests)) c.in_default.len_below c.loop-rest.invariant.0

pub returns-clause-ok : goal.returns-clause-ok
returns-clause-ok c = hex_end _ _ _ (search (rules, tests)) c.loop-rest.invariant.0
