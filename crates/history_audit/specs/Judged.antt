-- What the tables tell of the facts so far.
use Rattle.std.specs.Prelude.{Option, Some, None, List}
use Rattle.history_audit.specs.declared.fault.Wrong.{Wrong}
use Rattle.history_audit.specs.declared.tables.Tables.{Tables}
use Rattle.history_audit.specs.Tables.{HaveNoted, IsFair}
use Rattle.history_audit.specs.Wrong.{IsWrong}
use Rattle.rpc_base.specs.declared.fact.Fact.{Fact}

-- that the history is fair still, which the tables have then; otherwise which claim it breaks
abbrev pub IsJudged : Option Wrong → Tables → List Fact → Type 0
IsJudged None t h = HaveNoted t h × IsFair h
IsJudged (Some w) t h = IsWrong w h
