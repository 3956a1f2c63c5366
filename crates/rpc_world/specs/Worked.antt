-- What the working of an endpoint's jobs does.
use Rattle.std.specs.Prelude.{◌≡◌, List}
use Rattle.rpc_world.specs.Logged.{log_of}
use Rattle.rpc_base.specs.declared.fact.Fact.{Fact}
use Rattle.rpc_laws.specs.declared.tables.WorkedJob.{WorkedJob}
use Rattle.rpc_laws.specs.Working.{worked_after_all, WorksAll}
use Rattle.rpc_outside.specs.Recording.{Grew}
use Rattle.rpc_outside.specs.declared.memory.recorder.MemRecorder.{MemRecorder}
use Rattle.rpc_world.specs.Answered.{End, told_end}
use Rattle.rpc_world.specs.Before.{IsPlaying}

-- the waiting jobs of an endpoint were worked and noted, the oldest first, until none waited; then
-- its workers still have what the world says
pub record WorksAllAt (old new : End) (before now : MemRecorder) : Type 0 where
  pub noted : List Fact
  pub grew : Grew (log_of before) (log_of now) noted
  pub service : new.service ≡ old.service
  pub works : (worked : List WorkedJob) → IsPlaying worked old.timed.lists.me old
      → WorksAll worked (told_end old) noted (told_end new)
  pub plays : (worked : List WorkedJob) → IsPlaying worked old.timed.lists.me old
      → IsPlaying (worked_after_all worked noted) old.timed.lists.me new
