-- What the world has before each command of a script, and what that command may name.
use Rattle.std.specs.Prelude.{ℕ, ◌≡◌, ◌+◌, ◌<◌, ◌≤◌, List, None, Some, length, slice_get}
use Rattle.std.specs.List.{AllByRecursion}
use Rattle.node_steps.specs.Jobs.{staff_of}
use Rattle.endpoint_loop.specs.Endpoints.{IsStaffed}
use Rattle.packet_header.specs.Ranges.{Within, lives}
use Rattle.rpc_base.specs.Limits.{Fits}
use Rattle.rpc_laws.specs.declared.tables.WorkedJob.{WorkedJob}
use Rattle.rpc_laws.specs.NodeLists.{limits_of}
use Rattle.rpc_outside.specs.PlainAnswer.{background_answer}
use Rattle.rpc_world.specs.Answered.{End, Play, told_end}
use Rattle.rpc_world.specs.Peers.{CopiesAmong, PeersAmong}
use Rattle.script_grammar.specs.declared.line.Command.{Command}
use Rattle.script_grammar.specs.declared.line.Command.TheVariants.{Node}
use Rattle.script_grammar.specs.declared.before.TheConstants.{MOST_NODES}
use Rattle.script_grammar.specs.Conditions.{IsAmong}
use Rattle.work_laws.specs.Known.{KnowsWork}
use Rattle.worker_crew.specs.Local.{Local, out_of}
use Rattle.worker_crew.specs.declared.workers.Workers as Workers

-- the workers of an endpoint, by what contracts see of workers
abbrev pub local_members : Workers.Ghosts Local
local_members = record {
  answer = background_answer;
  limit = λ w. w.limit;
  out = out_of;
  given = λ w. w.given;
  worked = λ w. Some w.worked;
  waiting = λ w. Some w.waiting;
  looks = λ _. 0;
  team = λ _. None;
}

-- the endpoint in place n has this number, and its workers have exactly its jobs: those that wait
-- and those that were worked are the ones that the world says
pub record IsPlaying (worked : List WorkedJob) (n : ℕ) (e : End) : Type 0 where
  pub me : e.timed.lists.me ≡ n
  pub staffed : IsStaffed background_answer (staff_of local_members e.workers) e.timed
  pub knows : KnowsWork worked (told_end e) e.workers

-- so it is of each endpoint, and each job that was worked is one of theirs. Their peers are among
-- them, and each copy in flight goes from one of them to one
pub record AllPlay (s : Play) : Type 0 where
  pub each : (n : ℕ) (e : End) → slice_get s.ends n ≡ Some e → IsPlaying s.worked n e
  pub theirs : AllByRecursion (λ w. w.node < length s.ends) s.worked
  pub peers : (n : ℕ) (e : End) → slice_get s.ends n ≡ Some e
      → PeersAmong (length s.ends) e.timed.lists
  pub copies : CopiesAmong (length s.ends) s.flight

-- and there are at most eight
pub record IsNumbered (s : Play) : Type 0 where
  pub playing : AllPlay s
  pub few : length s.ends ≤ MOST_NODES

-- an endpoint can be made anew: there is a life behind its own, and its limits are in their ranges
pub record CanRestart (e : End) : Type 0 where
  pub life : Within lives (e.timed.lists.life + 1)
  pub limits : Fits (limits_of e.timed.lists)

-- so can each
abbrev pub AllCanRestart : Play → Type 0
AllCanRestart s = (n : ℕ) (e : End) → slice_get s.ends n ≡ Some e → CanRestart e

-- a `node` command while fewer than eight nodes are there, else a command among those that are
abbrev pub Names : ℕ → Command → Type 0
Names nodes (Node ring) = nodes < MOST_NODES
Names nodes command = IsAmong nodes command
