-- the calls so far were settled
use Rattle.std.proofs.Common.{◌≡◌, [], length}
use Rattle.desk_laws.specs.Staying.{with_desk}
use Rattle.relay_turns.proofs.TurnLemmas.{SettledSoFar}
use Rattle.relays.specs.Relaying.{Stands}
use Rattle.relay_turns.proofs.turn.settle_all.Given as goal

abbrev pub invariant-ends : goal.invariant-ends
invariant-ends g l =
    Stands l.endpoint.workers [] l.relays
    × (l.endpoint ≡ with_desk l.initial.endpoint l.endpoint.workers)
    × SettledSoFar g.D.Duty.answer l.initial.ended.dones.items l.ended.dones.items
    l.initial.endpoint.workers l.endpoint.workers l.initial.relays l.relays

abbrev pub decreases-ends : goal.decreases-ends
decreases-ends g l = length l.ended.dones.items
