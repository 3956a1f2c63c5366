use Rattle.std.proofs.Common.{◌≡◌, Err, Result, true, map, rules, subst, sym}
use Rattle.std.specs.String.{string_bytes}
use Rattle.clap.specs.Words.{App, app_of, found_of, is_simple_and_free, rows_of}
use Rattle.command_line.proofs.SubcommandLemmas.{read-in, refused-in, simple}
use Rattle.command_line.specs.Answers.{Reads}
use Rattle.command_line.specs.Subcommands.{words_in}
use Rattle.command_line.specs.declared.task.Task.{Task}
use Rattle.command_line.specs.declared.task.WordsError.{WordsError}
use Rattle.command_line.proofs.words.read_rest.Goals as goal

pub take-requires : goal.take-requires
take-requires c =
    subst (λ (app : App). is_simple_and_free app ≡ true) (sym c.in_ok-command.ensures.row)
    (simple c.args.of)

pub returns-in_err-matches-clause-value : goal.returns-in_err-matches-clause-value
returns-in_err-matches-clause-value c =
    let words = map string_bytes c.args.words.now in
    let is : c.from_residual-in_err-matches.result ≡ Err c.in_err-matches.field-0.0 =
    search rules in
    subst (λ (result : Result Task WordsError). Reads result (words_in c.args.of words)) (sym is)
    (refused-in c.args.of words (app_of c.in_ok-command.command) c.in_err-matches.field-0.0
    c.in_ok-command.ensures.row c.in_err-matches.ensures.takes)

pub returns-clause-value : goal.returns-clause-value
returns-clause-value c =
    read-in c.args.of (map string_bytes c.args.words.now) (app_of c.in_ok-command.command)
    (rows_of (found_of c.in_ok-matches.matches)) c.asked_of.result c.in_ok-command.ensures.row
    c.in_ok-matches.ensures.takes c.asked_of.ensures.value
