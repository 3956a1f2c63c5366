-- How `serve` ends, by its words.
use Rattle.std.specs.Prelude.{ℕ, List, Option, Some, None}
use Rattle.command_line.specs.Words.{ServeWords}
use Rattle.relay_run.specs.Runs.{Relays}
use Rattle.rpc_outside.specs.Writing.{Written}
use Rattle.rpc_turns.specs.Moments.{Edges, Outside}
use Rattle.run_status.specs.declared.status.Status.{Status}
use Rattle.serve_run.specs.Serving.{Serves as ServesByHands}

-- its jobs are worked by hands, or asked of the server that `--relay` names
abbrev pub ServesBy : {L C R : Type 0} → (relay : Option (List ℕ)) → Status → Outside L C R
    → ServeWords → (old new : Edges L C R) → (page then_page : Written) → Type 0
ServesBy None told o words old new page then_page =
    ServesByHands told o words old new page then_page
ServesBy (Some other) told o words old new page then_page =
    Relays told o words other old new page then_page

abbrev pub Serves : {L C R : Type 0} → Status → Outside L C R → ServeWords
    → (old new : Edges L C R) → (page then_page : Written) → Type 0
Serves told o words old new page then_page =
    ServesBy words.relay told o words old new page then_page
