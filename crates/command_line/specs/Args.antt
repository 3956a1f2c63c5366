-- Arguments of a command, by their rules.
use Rattle.std.specs.Prelude.{◌≡◌, false, List, [], ◌∷◌}
use Rattle.clap.specs.Words.{App, Rule, rule_of, with_rule}
use Rattle.clap.specs.declared.builder.arg.Arg.{Arg}

-- an argument of its own command alone, by this rule
pub record IsArg (arg : Arg) (rule : Rule) : Type 0 where
  pub goes_by : rule_of arg ≡ rule
  pub local : arg.global ≡ false

-- these arguments go by these rules, one by one
abbrev pub AreArgs : List Arg → List Rule → Type 0
AreArgs [] [] = Unit {0}
AreArgs (arg ∷ args) (rule ∷ rules) = IsArg arg rule × AreArgs args rules
AreArgs _ _ = ⊥

-- a command with an argument more for each rule, in turn
abbrev pub with_rules : App → List Rule → App
with_rules app [] = app
with_rules app (rule ∷ rules) = with_rules (with_rule app rule) rules
