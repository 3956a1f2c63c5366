-- Which tasks leave the link, the clock, the recorder and the spawner as they are.
use Rattle.std.specs.Prelude.{◌≡◌, Option, Some, None}
use Rattle.command_line.specs.declared.task.Task.{Task}
use Rattle.command_line.specs.declared.task.Task.TheVariants.{Sim, Drill, Serve, Load}
use Rattle.command_line.specs.declared.task.Task.TheVariants.{Audit}

-- nothing was done with them
pub record Alone {L C R : Type 0} (link then_link : L) (clock then_clock : C) (before now : R)
    : Type 0 where
  pub link_same : then_link ≡ link
  pub clock_same : then_clock ≡ clock
  pub recorder_same : now ≡ before

-- only serving starts hands: all other words leave the spawner as it was
abbrev pub StartsNone : {P : Type 0} → Option Task → (spawner then_spawner : P) → Type 0
StartsNone (Some (Serve words)) spawner then_spawner = Unit {0}
StartsNone _ spawner then_spawner = then_spawner ≡ spawner

-- words that are in no row, a simulation, a drill and an audit do nothing with them
abbrev pub StaysAlone : {L C R : Type 0} → Option Task → (link then_link : L)
    → (clock then_clock : C) → (before now : R) → Type 0
StaysAlone None link then_link clock then_clock before now =
    Alone link then_link clock then_clock before now
StaysAlone (Some Sim) link then_link clock then_clock before now =
    Alone link then_link clock then_clock before now
StaysAlone (Some (Drill seed calls)) link then_link clock then_clock before now =
    Alone link then_link clock then_clock before now
StaysAlone (Some Audit) link then_link clock then_clock before now =
    Alone link then_link clock then_clock before now
StaysAlone (Some (Serve words)) link then_link clock then_clock before now = Unit {0}
StaysAlone (Some (Load words)) link then_link clock then_clock before now = Unit {0}
