-- Each node's facts are its Made, which uses no number, and a run.
use Rattle.world_laws.proofs.OneCallLaws.{numbers-once}
use Rattle.world_laws.proofs.laws.numbers_are_used_once.Goals as goal

pub returns : goal.returns
returns c = numbers-once
