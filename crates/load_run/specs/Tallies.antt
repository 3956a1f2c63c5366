-- How the calls of a load ended.
use Rattle.std.specs.Prelude.{ℕ, Bool, true, false, not, List, ◌++◌, ◌≡◌, count_by, min}
use Rattle.load_plan.specs.Calls.{Calls, is_right}
use Rattle.load_run.specs.declared.ledger.Ledger.{Ledger}
use Rattle.load_run.specs.declared.tally.Ending.{Ending}
use Rattle.load_run.specs.declared.tally.Ending.TheVariants.{Right, Small, Lost, Wrong}
use Rattle.load_run.specs.declared.tally.Tally.{Tally}
use Rattle.rpc_base.specs.declared.event.Event.{Event}
use Rattle.rpc_base.specs.declared.event.Event.TheVariants.{DoneOk, DoneTooSmall, DonePeerLost}
use Rattle.rpc_base.specs.declared.fact.Fact.{Fact}
use Rattle.memory_count.specs.Faults.{end_of_count}

-- whether a fact ends a call so: well, with a right answer or a wrong one; with an answer that was
-- too large; or without its peer
abbrev pub ends_so : Calls → Ending → Event → List ℕ → Bool
ends_so c Right (DoneOk call) bytes = is_right c call bytes
ends_so c Wrong (DoneOk call) bytes = not (is_right c call bytes)
ends_so c Small (DoneTooSmall call size) bytes = true
ends_so c Lost (DonePeerLost call) bytes = true
ends_so c _ _ bytes = false

-- how many of these facts do
abbrev pub endings : Calls → Ending → List Fact → ℕ
endings c e facts = count_by (λ f. ends_so c e f.event f.first) facts

abbrev pub tally_at : Ending → Tally → ℕ
tally_at Right t = t.ok
tally_at Small t = t.small
tally_at Lost t = t.lost
tally_at Wrong t = t.wrong

-- the tally counts the ends of calls among these facts; a count stops at 2^64 - 1
abbrev pub Tallies : Calls → Tally → List Fact → Type 0
Tallies c t facts = (e : Ending) → tally_at e t ≡ min (endings c e facts) end_of_count

-- the ends of calls among these facts were counted too
pub record Counts (x : List Fact) (from to : Ledger) : Type 0 where
  pub plan : to.plan ≡ from.plan
  pub tally : (past : List Fact) → Tallies from.plan from.tally past
      → Tallies from.plan to.tally (past ++ x)
