-- How a server ends, by its words.
use Rattle.std.proofs.Common.{◌≡◌, ℕ, List, Option, Some, None, subst, sym}
use Rattle.command_line.specs.Words.{ServeWords}
use Rattle.relay_run.specs.Runs.{Relays}
use Rattle.rpc_outside.specs.Writing.{Written}
use Rattle.rpc_tools.specs.Servers.{Serves, ServesBy}
use Rattle.rpc_turns.specs.Moments.{Edges, Outside}
use Rattle.run_status.specs.declared.status.Status.{Status}
use Rattle.serve_run.specs.Serving.{Serves as ServesByHands}

module _ {L C R : Type 0} (told : Status) (o : Outside L C R) (words : ServeWords)
    (old new : Edges L C R) (page then_page : Written) where
  pub by-hands : words.relay ≡ None → ServesByHands told o words old new page then_page
      → Serves told o words old new page then_page
  by-hands none serves =
      subst (λ (relay : Option (List ℕ)). ServesBy relay told o words old new page then_page)
      (sym none) serves

  pub by-relay : (other : List ℕ) → words.relay ≡ Some other
      → Relays told o words other old new page then_page
      → Serves told o words old new page then_page
  by-relay other some relays =
      subst (λ (relay : Option (List ℕ)). ServesBy relay told o words old new page then_page)
      (sym some) relays
