-- A command with arguments added in turn.
use Rattle.std.proofs.Common.{◌≡◌, ◌∙◌, List, [], ◌∷◌, Some, Result, Ok, Err, IfOk, ap, sym, subst}
use Rattle.std.specs.Prelude.{IsErrAnd, MatchResult}
use Rattle.std.specs.Result.{result_ok}
use Rattle.std.specs.declared.alloc.AllocError.{AllocError}
use Rattle.clap.specs.Words.{AddsArg, AddsInTurn, App, Rule, Text, app_of, with_rule}
use Rattle.clap.specs.declared.builder.arg.Arg.{Arg}
use Rattle.clap.specs.declared.builder.command.Command.{Command}
use Rattle.memory_count.specs.declared.no_memory.NoMemory.{NoMemory}
use Rattle.command_line.specs.Args.{AreArgs, with_rules}
use Rattle.command_line.specs.Rows.{row}

added : (old : Command) (args : List Arg) (new : Command) (rules : List Rule)
    → AddsInTurn AddsArg old args new → AreArgs args rules
    → app_of new ≡ with_rules (app_of old) rules
added old [] new [] same are = sym (ap app_of same)
added old [] new (rule ∷ rules) same are = absurd are
added old (arg ∷ args) new [] turn are = absurd are
added old (arg ∷ args) new (rule ∷ rules) turn are =
    let first = turn.1.shape are.0.local ∙ ap (with_rule (app_of old)) are.0.goes_by in
    added turn.0 args new rules turn.2 are.1 ∙ ap (λ (app : App). with_rules app rules) first

pub made-so : (old : Command) (args : List Arg) (rules : List Rule)
    (made : Result Command AllocError) (result : Result Command NoMemory)
    → IfOk made (λ new. AddsInTurn AddsArg old args new)
    → result_ok result ≡ result_ok made → AreArgs args rules
    → IfOk result (λ new. app_of new ≡ with_rules (app_of old) rules)
made-so old args rules (Ok new) (Ok made) turn same are =
    let is : new ≡ made = cc in
    subst (λ (c : Command). app_of c ≡ with_rules (app_of old) rules) is
    (added old args new rules turn are)
made-so old args rules (Err error) (Ok made) turn same are = cc
made-so old args rules made (Err error) turn same are = tt

-- a row is made of the command that has its name alone
pub row-made : (command : Command) (name : Text) (list args : List Arg) (rules : List Rule)
    (result : Result Command NoMemory)
    → ((rules : List Rule) → AreArgs list rules
    → IfOk result (λ made. app_of made ≡ with_rules (app_of command) rules))
    → app_of command ≡ row name → list ≡ args → AreArgs args rules
    → IfOk result (λ made. app_of made ≡ with_rules (row name) rules)
row-made command name list args rules result made called same are =
    subst (λ (app : App). IfOk result (λ made. app_of made ≡ with_rules app rules)) called
    (made rules (subst (λ (list : List Arg). AreArgs list rules) (sym same) are))

-- what was made and kept is what it was made to be
pub kept-is : {V X : Type 0} (holds : V → Type 0) (told : X → AllocError → Type 0)
    (made : Result V X) (asked : Result V AllocError) (kept : V) → IfOk made holds
    → MatchResult made (λ value. asked ≡ Ok value) (λ error. IsErrAnd asked (told error))
    → Some kept ≡ result_ok asked → holds kept
kept-is holds told (Ok value) asked kept is same of =
    let some : Some kept ≡ Some value = of ∙ ap result_ok same in
    let whole : value ≡ kept = cc in subst holds whole is
kept-is holds told (Err error) (Ok value) kept is same of = absurd same
kept-is holds told (Err error) (Err other) kept is same of = cc
