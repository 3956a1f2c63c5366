-- The stages of a client session.
use Rattle.std.specs.Prelude.{ℕ, ◌+◌, Bool, true, false}
use Rattle.session_ends.specs.declared.stage.Stage.{Stage}
use Rattle.session_ends.specs.declared.stage.Stage.TheVariants.{Connecting, Connected, Closing}
use Rattle.session_ends.specs.declared.stage.Stage.TheVariants.{Broken}

abbrev pub is_connected : Stage → Bool
is_connected Connected = true
is_connected stage = false

abbrev pub is_broken : Stage → Bool
is_broken Broken = true
is_broken stage = false

-- how many requests of its own a session sent
abbrev pub sends_at : Stage → ℕ
sends_at (Connecting sends sent_at) = sends
sends_at (Closing sends sent_at) = sends
sends_at stage = 0

-- and the clock of the last one
abbrev pub sent_at : Stage → ℕ
sent_at (Connecting sends clock) = clock
sent_at (Closing sends clock) = clock
sent_at stage = 0

-- one more was sent, at this clock
abbrev pub asked : (clock : ℕ) → Stage → Stage
asked clock (Connecting sends sent_at) = Connecting (sends + 1) clock
asked clock (Closing sends sent_at) = Closing (sends + 1) clock
asked clock stage = stage
