-- The calls that a continuation was given.
use Rattle.std.specs.Prelude.{List, ◌++◌}
use Rattle.client_core.specs.declared.outcome.Done.{Done}

-- it was given these calls more: where others may be all that it was given before, those and then
-- these may be now
abbrev pub Gave : {K : Type 0} → (given : K → List Done → Type 0) → (from to : K) → List Done
    → Type 0
Gave given from to more = (before : List Done) → given from before → given to (before ++ more)
