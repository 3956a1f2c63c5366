use Rattle.std.proofs.Common.{◌≡◌, ◌∙◌, map}
use Rattle.std.specs.String.{string_bytes}
use Rattle.clap.specs.Words.{app_of}
use Rattle.command_line.proofs.RowLemmas.{refused, taken_whole}
use Rattle.command_line.specs.declared.task.WordsError.TheVariants.{NoMemory}
use Rattle.command_line.proofs.row.take.Goals as goal

pub returns-in-Ok-clause-takes : goal.returns-in-Ok-clause-takes
returns-in-Ok-clause-takes c =
    taken_whole (app_of c.args.command) (map string_bytes c.args.words.now) c.in-Ok.matches c.requires
    (c.in-Ok.ensures.kinds c.requires) c.in-Ok.ensures.matches

pub returns-in-Err-clause-takes : goal.returns-in-Err-clause-takes
returns-in-Err-clause-takes c =
    refused (app_of c.args.command) (map string_bytes c.args.words.now) c.in-Err.error c.refusal.result
    (c.in-Err.ensures.kinds c.requires)
    (λ usage memory. let no : c.refusal.result ≡ NoMemory = c.refusal.ensures.kind.1 (c.kind.ensures ∙ memory) in cc)
