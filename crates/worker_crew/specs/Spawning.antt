-- What a spawner answers.
use Rattle.std.specs.Prelude.{◌≡◌, ℕ, List, ◌++◌, ◌∷◌, [], Option, Some, None, Result, Ok, Err}
use Rattle.memory_count.specs.Faults.{HasRisen}

module _ {H N : Type 0} (name : H → N) (n : N) (refused later : ℕ) (out left : List N) where
  -- the hand of this name is out, or was handed back and counted
  abbrev pub Started : Result (Unit {0}) H → Type 0
  Started (Ok _) = (left ≡ out ++ n ∷ []) × (later ≡ refused)
  Started (Err h) = (name h ≡ n) × (left ≡ out) × HasRisen refused later

module _ {H N : Type 0} (name : H → N) (refused later : ℕ) (out left : List N) where
  -- one of the hands that are out is back, or none was out
  abbrev pub CameBack : Option H → Type 0
  CameBack None = (out ≡ []) × (left ≡ []) × (later ≡ refused)
  CameBack (Some h) = ((front : List N) × (back : List N) × (out ≡ front ++ name h ∷ back)
      × (left ≡ front ++ back)) × (later ≡ refused)
