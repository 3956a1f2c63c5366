-- What a recorder keeps: facts, in order, as long as it is whole.
use Rattle.std.specs.Prelude.{◌≡◌, Bool, true, List, ◌++◌, Option, option_map}
use Rattle.rpc_base.specs.declared.fact.Fact.{Fact}

-- what contracts see of a recorder: its facts, where it tells them, and whether every one was kept
pub record Log : Type 0 where
  pub facts : Option (List Fact)
  pub whole : Bool

-- a recorder came to keep x too. Once it isn't whole it stays so; where it is whole and tells its
-- facts, they are those that it told before, and x
pub record Grew (old new : Log) (x : List Fact) : Type 0 where
  pub since : new.whole ≡ true → old.whole ≡ true
  pub told : new.whole ≡ true → new.facts ≡ option_map (λ fs. fs ++ x) old.facts
