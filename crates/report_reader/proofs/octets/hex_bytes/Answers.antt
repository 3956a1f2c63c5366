use Rattle.std.proofs.Common.{rules, tests, sym, ap, ◌∙◌, ◌≡◌, ℕ, List, Some}
use Rattle.report_reader.proofs.HexLemmas.{more, wrong, odd, end}
use Rattle.report_reader.proofs.octets.hex_bytes.Goals as goal

pub loop-rest-preserved : goal.loop-rest-preserved
loop-rest-preserved c = (
  more _ _ _ _ _ c.in-len2-up.len_at_least (sym c.hex_byte.ensures ∙ c.in-Some.is)
      c.in_ok-push-in-Some.ensures.pushed c.loop-rest.invariant.0,
  search rules,
)

pub returns-in-None-clause-value : goal.returns-in-None-clause-value
returns-in-None-clause-value c =
    wrong _ _ _ c.in-len2-up.len_at_least (sym c.hex_byte.ensures ∙ c.in-None.is) c.loop-rest.invariant.0

pub returns-then-not-is_empty-clause-value : goal.returns-then-not-is_empty-clause-value
returns-then-not-is_empty-clause-value c =
    odd _ _ _ (search (rules, tests)) c.in_default.len_below c.loop-rest.invariant.0

pub returns-clause-value : goal.returns-clause-value
returns-clause-value c =
    let held : c.from.result ≡ c.loop-rest.bytes.items = search (rules, tests) in
    ap (λ (x : List ℕ). Some x) held ∙ end _ _ _ (search (rules, tests)) c.loop-rest.invariant.0
