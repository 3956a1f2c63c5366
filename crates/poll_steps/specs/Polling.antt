-- Whether all of some facts are a poll.
use Rattle.std.specs.Prelude.{ℕ, ◌-◌, Option, Some, None, IfSome, IsNone, List, length}
use Rattle.std.specs.Prelude.{option_and_then, slice_get}
use Rattle.rpc_base.specs.declared.event.Event.{Event}
use Rattle.rpc_base.specs.declared.event.Event.TheVariants.{Polled}
use Rattle.rpc_base.specs.declared.fact.Fact.{Fact}
use Rattle.rpc_laws.specs.declared.tables.Lists.{Lists}
use Rattle.rpc_laws.specs.declared.tables.Timed.{Timed}
use Rattle.rpc_laws.specs.ControlSteps.{HearsAll, TimesAll}
use Rattle.rpc_laws.specs.PollOrder.{Closes, FinishesSome, HandlesAll, Poll, PostsAll, SendsSome}
use Rattle.rpc_laws.specs.Steps.{Rel, Then}
use Rattle.rpc_outside.specs.PlainAnswer.{plain_mode}
use Rattle.node_rules.specs.SingleFacts.{at_clock}

-- what is left of a poll of the plain service from each of its steps on, once its clock is known
abbrev pub FromSending : Rel
FromSending = Then SendsSome Closes

abbrev pub FromPosting : Rel
FromPosting = Then PostsAll FromSending

abbrev pub FromTimers : Rel
FromTimers = Then TimesAll FromPosting

abbrev pub FromRing : Rel
FromRing = Then (HandlesAll plain_mode) FromTimers

abbrev pub FromInbox : Rel
FromInbox = Then HearsAll FromRing

abbrev pub FromJobs : Rel
FromJobs = Then FinishesSome FromInbox

-- the clock that the end of a poll tells
abbrev pub end_clock : Event → Option ℕ
end_clock (Polled now) = Some now
end_clock _ = None

-- and the last of some facts
abbrev pub last_clock : List Fact → Option ℕ
last_clock facts = option_and_then (λ f. end_clock f.event) (slice_get facts (length facts - 1))

-- the answer is the clock at which a node with these lists is left, where all of the facts are a
-- poll of it that leaves it with these others; it is None where they are none
pub record IsPoll (clock : ℕ) (s : Lists) (facts : List Fact) (t : Lists) (answer : Option ℕ)
    : Type 0 where
  pub some : IfSome answer (λ now. Poll plain_mode now (at_clock clock s) facts (at_clock now t))
  pub only : IsNone answer → (now : ℕ) → (u : Timed)
      → Poll plain_mode now (at_clock clock s) facts u → ⊥
