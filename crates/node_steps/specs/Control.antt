-- Step 2 of a poll: the control packets of the inbox are handled, and answered.
use Rattle.std.specs.Prelude.{◌≡◌, ℕ, Bool, true, false, Option, count_by, Result}
use Rattle.std.specs.Prelude.{Ok, Err}
use Rattle.memory_count.specs.Faults.{HasRisenBy}
use Rattle.rpc_outside.specs.Recording.{Log}
use Rattle.packet_header.specs.declared.packet.ControlHeader.{ControlHeader}
use Rattle.rpc_laws.specs.declared.tables.Timed.{Timed}
use Rattle.rpc_laws.specs.ControlSteps.{EndsAllOutdated, TakesControl}
use Rattle.rpc_laws.specs.Steps.{Rel, Then}
use Rattle.rpc_outside.specs.declared.link.Link as Link
use Rattle.node_steps.specs.Changes.{Change}
use Rattle.node_steps.specs.ControlRows.{Controls}
use Rattle.node_steps.specs.Counts.{is_handled, is_sent}
use Rattle.node_steps.specs.Lacks.{lacks_in}
use Rattle.node_steps.specs.Notes.{MakesSent}
use Rattle.node_steps.specs.Links.{CountsUnsent, troubles_of}
use Rattle.node_steps.specs.declared.told.Listening.{Listening}

-- the front packet of the inbox, which is of this peer and has this header, is taken out, the
-- sessions that it outdates end, and it is handled by the control rule; the packet that answers it
-- is not yet handed to the link
abbrev pub Handles : (peer : ℕ) → ControlHeader → (reply : Option ControlHeader)
    → (memory : Change ℕ) → Rel
Handles peer h reply memory =
    Then TakesControl (Then (EndsAllOutdated peer h) (Controls peer h reply memory))

-- what is told of one packet whose answer was handed to the link
abbrev pub told_of : {E : Type 0} → Result Bool E → Listening
told_of (Ok true) = record { heard = 1; sent = 1; failed = false }
told_of (Ok false) = record { heard = 1; sent = 0; failed = false }
told_of (Err fault) = record { heard = 1; sent = 0; failed = true }

-- control packets were handled: it is told how many, how many answers were sent, and whether the
-- link failed; the link, where it tells what it sent, sent exactly the datagrams of the Sent facts,
-- and each session that wasn't made for want of memory has a refusal
pub record Listens {R L : Type 0} (log : R → Log) (net : Link.Ghosts L) (P : Rel) (told : Listening)
    (node : Change Timed) (rec : Change R) (link : Change L) (memory : Change ℕ) : Type 0 where
  pub sends : MakesSent log net.sent P node.old node.new rec.old rec.new link.old link.new
  pub heard : told.heard ≡ count_by (λ f. is_handled f.event) sends.makes.noted
  pub went : told.sent ≡ count_by (λ f. is_sent f.event) sends.makes.noted
  pub counts : CountsUnsent sends.makes.noted told.failed (troubles_of net link.old)
      (troubles_of net link.new)
  pub wants : HasRisenBy (lacks_in sends.makes.noted) memory.old memory.new
