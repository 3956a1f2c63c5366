-- What the words of `serve` and `load` say, each text as its bytes.
use Rattle.std.specs.Prelude.{ℕ, Option}
use Rattle.clap.specs.Words.{Text}
use Rattle.command_line.specs.declared.task.Idle.{Idle}

pub record ServeWords : Type 0 where
  pub addr : Text
  pub turns : ℕ
  pub workers : ℕ
  pub life : ℕ
  pub relay : Option Text
  pub timeout : ℕ
  pub idle : Idle

pub record LoadWords : Type 0 where
  pub addr : Text
  pub calls : ℕ
  pub req_type : ℕ
  pub size : ℕ
  pub seed : ℕ
  pub turns : ℕ
  pub bind : Text
  pub frame : Option ℕ
  pub life : ℕ
  pub timeout : ℕ
  pub idle : Idle
