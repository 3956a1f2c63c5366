-- Want of memory among what a node notes, and among what it answers.
use Rattle.std.specs.Prelude.{ℕ, Bool, true, false, List, count_by, Result, Ok, Err}
use Rattle.node_steps.specs.declared.refusals.AskError.{AskError}
use Rattle.node_steps.specs.declared.refusals.AskError.TheVariants.{NoMemory as NoCallMemory}
use Rattle.node_steps.specs.declared.refusals.Refused.{Refused}
use Rattle.rpc_base.specs.declared.event.Event.{Event}
use Rattle.rpc_base.specs.declared.event.Event.TheVariants.{Dropped, Starved}
use Rattle.rpc_base.specs.declared.fact.Fact.{Fact}
use Rattle.rpc_base.specs.declared.state.DropReason.TheVariants.{NoMemory}

-- a packet was dropped, or a session not made, for want of memory
abbrev pub is_lack : Event → Bool
is_lack (Dropped NoMemory) = true
is_lack (Starved peer client credits) = true
is_lack _ = false

-- how many of these facts tell of such a want
abbrev pub lacks_in : List Fact → ℕ
lacks_in x = count_by (λ f. is_lack f.event) x

-- how many refusals of memory the refusal of a call tells
abbrev pub lacks_for : AskError → ℕ
lacks_for NoCallMemory = 1
lacks_for why = 0

-- and how many the answer to a call does
abbrev pub lacks_asked : Result ℕ Refused → ℕ
lacks_asked (Ok call) = 0
lacks_asked (Err r) = lacks_for r.why
