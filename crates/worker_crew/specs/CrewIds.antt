-- What names a crew.
use Rattle.atomic_table.specs.Seated.{TableId}

-- a crew is named by its board and by its queue of tickets
pub record CrewId : Type 0 where
  pub board : TableId
  pub queue : TableId
