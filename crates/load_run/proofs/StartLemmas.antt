-- What a run noted since its start.
use Rattle.std.proofs.Common.{◌++◌}
use Rattle.std.proofs.Common.{inr, ◌∙◌}
use Rattle.rpc_outside.specs.Recording.{Log}
use Rattle.load_run.specs.Loading.{LoadsSoFar, NotesRun, StartsAs}
use Rattle.command_line.specs.Words.{LoadWords}
use Rattle.rpc_turns.specs.Plain.{GoesOnBy, limits_at}
use Rattle.rpc_outside.specs.declared.link.Link as Link
use Rattle.server_core.proofs.FlushLemmas.{grew-then}

module _ {R : Type 0} (log : R → Log) where
  -- what was noted since the start
  pub notes-run : {L : Type 0} (net : Link.Ghosts L) (words : LoadWords) (link via : L)
      (before mid later : R) (start run : LoadsSoFar)
      → StartsAs log net words link via before mid start
      → GoesOnBy log start.endpoint run.endpoint mid later
      → NotesRun log words.life (limits_at words.timeout) before later
  notes-run net words link via before mid later start run starts goes = record {
    noted = starts.noted ++ goes.noted;
    grew = grew-then log before mid later starts.noted goes.noted starts.grew goes.grew;
    runs = inr (
      run.endpoint,
      goes.lives (limits_at words.timeout) starts.noted starts.stands ∙ starts.life,
      goes.goes_on (limits_at words.timeout) starts.noted starts.stands,
    );
  }
