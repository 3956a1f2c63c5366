-- the numbers of a desk's jobs rise
use Rattle.deferred_calls.proofs.DeskLemmas.{rises_first}
use Rattle.relay_turns.proofs.turn.numbers_of.Goals as goal

pub returns : goal.returns
returns g c = (
  c.args.desk.now.given,
  rises_first 0 c.args.desk.now.handled c.args.desk.now.waiting c.args.desk.now.given
      c.sound.ensures.sound.rises,
)
