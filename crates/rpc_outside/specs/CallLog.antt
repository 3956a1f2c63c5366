-- The calls of an object in memory, numbered from 0, some of which are told to fail.
use Rattle.std.specs.Prelude.{◌≡◌, ℕ, List, Contains, Result, MatchResult}
use Rattle.memory_count.specs.Faults.{one_more}

-- which calls are to fail, how many were made, and how many of those failed
pub record CallLog : Type 0 where
  pub fails : List ℕ
  pub made : ℕ
  pub faults : ℕ

-- no call was made yet
abbrev pub fresh : List ℕ → CallLog
fresh fails = record { fails = fails; made = 0; faults = 0 }

-- the call that comes next is one of those that are to fail
abbrev pub IsNamed : CallLog → Type 0
IsNamed log = Contains log.fails log.made

-- one call more was made, and went well
abbrev pub passed : CallLog → CallLog
passed log = record log { made = one_more log.made }

-- one call more was made, and failed
abbrev pub failed : CallLog → CallLog
failed log = record log { made = one_more log.made; faults = one_more log.faults }

-- the log has one call more, with this answer
abbrev pub IsLogged : {T E : Type 0} → CallLog → CallLog → Result T E → Type 0
IsLogged old new result = MatchResult result (λ _. new ≡ passed old) (λ _. new ≡ failed old)
