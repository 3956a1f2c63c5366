-- How a node's facts leave it. The clock of a poll is told by its last fact, so each of its facts
-- happens at the clock that its Polled tells.
use Rattle.std.specs.Prelude.{ℕ, List, [], ◌∷◌, if◌then◌else◌}
use Rattle.rpc_base.specs.declared.event.Event.{Event}
use Rattle.rpc_base.specs.declared.event.Event.TheVariants.{Polled}
use Rattle.rpc_base.specs.declared.fact.Fact.{Fact}
use Rattle.rpc_laws.specs.declared.tables.Timed.{Timed}
use Rattle.rpc_laws.specs.Endpoints.{begins_life}
use Rattle.rpc_laws.specs.NodeLists.{after, restarted}
use Rattle.front_laws.specs.Whole.{is_polls}

-- the clock that an event tells, and otherwise this one
abbrev pub polled_clock : ℕ → Event → ℕ
polled_clock clock (Polled now) = now
polled_clock clock _ = clock

-- the clock at which the first of these facts happens, at a node of this clock
abbrev pub told_clock : ℕ → List Fact → ℕ
told_clock clock [] = clock
told_clock clock (f ∷ facts) =
    if is_polls f.event then told_clock clock facts else polled_clock clock f.event

-- a node after a fact that happens at this clock: a restarted one is as it is then
abbrev pub left_at : ℕ → Timed → Fact → Timed
left_at now s f =
    if begins_life f.event then restarted s
    else record { lists = after now s.lists f; clock = now }

-- a node after some facts, the clock of each of them being told
abbrev pub left_by : Timed → List Fact → Timed
left_by s [] = s
left_by s (f ∷ facts) = left_by (left_at (told_clock s.clock (f ∷ facts)) s f) facts
