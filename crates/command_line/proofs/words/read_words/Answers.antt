use Rattle.std.proofs.Common.{◌∙◌, map, rules, sym}
use Rattle.std.specs.String.{string_bytes}
use Rattle.command_line.proofs.SubcommandLemmas.{task-none, task-read}
use Rattle.command_line.proofs.words.read_words.Goals as goal

pub returns-in_default-named-clause-value : goal.returns-in_default-named-clause-value
returns-in_default-named-clause-value c =
    task-none (map string_bytes c.args.words.now) c.as_str.result.now
    (map string_bytes c.in-Some.rest.now) (search rules)
    (sym c.named.ensures ∙ c.in_default-named.is)

pub returns-clause-value : goal.returns-clause-value
returns-clause-value c =
    task-read (map string_bytes c.args.words.now) c.as_str.result.now
    (map string_bytes c.in-Some.rest.now) c.in-Some-named.of
    c.read_rest.result (search rules) (sym c.named.ensures ∙ c.in-Some-named.is)
    c.read_rest.ensures.value
