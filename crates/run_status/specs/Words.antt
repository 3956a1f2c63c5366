-- What a run does by its words, and why it couldn't start.
use Rattle.std.specs.Prelude.{◌≡◌, ℕ, Bool, true, false}
use Rattle.command_line.specs.declared.task.Idle.{Idle}
use Rattle.command_line.specs.declared.task.Idle.TheVariants.{Sleep, Spin}
use Rattle.memory_count.specs.Faults.{HasRisen}
use Rattle.run_status.specs.declared.going.Going.{Going}
use Rattle.run_status.specs.declared.going.Going.TheVariants.{On, Over}
use Rattle.run_status.specs.declared.status.Status.{Status}
use Rattle.run_status.specs.declared.status.Status.TheVariants.{LinkFault, NoMemory}

-- it may sleep where nothing comes
abbrev pub sleeps : Idle → Bool
sleeps Sleep = true
sleeps Spin = false

-- why a run couldn't start: the link failed, or there was no memory and it didn't
abbrev pub WhyNot : (before now : ℕ) → Status → Type 0
WhyNot before now LinkFault = HasRisen before now
WhyNot before now NoMemory = now ≡ before
WhyNot before now _ = ⊥

-- how many wants of memory a status tells of
abbrev pub lacks : Status → ℕ
lacks NoMemory = 1
lacks _ = 0

-- and what a turn answers
abbrev pub lacks_told : Going → ℕ
lacks_told On = 0
lacks_told (Over status) = lacks status
