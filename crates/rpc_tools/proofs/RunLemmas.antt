-- What a run did, task by task.
use Rattle.std.proofs.Common.{◌≡◌, ◌≢◌, ℕ, ◌≤◌, ◌==◌, Bool, true, false, if◌then◌else◌}
use Rattle.std.proofs.Common.{Option, Some, None, List, [], Ok, ap, inl, refl, subst, sym, arith}
use Rattle.std.proofs.KnownBytes.{Keeps-refl}
use Rattle.command_line.specs.declared.task.Task.{Task}
use Rattle.command_line.specs.declared.task.Task.TheVariants.{Sim, Drill, Serve, Load}
use Rattle.command_line.specs.declared.task.Task.TheVariants.{Audit}
use Rattle.command_line.specs.Words.{LoadWords, ServeWords}
use Rattle.count_line.specs.declared.audit.AuditLine.{AuditLine}
use Rattle.load_run.specs.Loading.{Loads, is_clean, is_over, state_in}
use Rattle.memory_count.specs.Faults.{HasRisenBy, IsQuiet}
use Rattle.rpc_outside.specs.Reading.{Unread}
use Rattle.rpc_outside.specs.Writing.{Written}
use Rattle.rpc_tools.proofs.Headline.{later-risen, no-fault, not-lacking}
use Rattle.rpc_tools.specs.Alone.{Alone, StartsNone, StaysAlone}
use Rattle.rpc_tools.specs.Audits.{Answers, Audits, Says}
use Rattle.rpc_tools.specs.Drills.{Drills, Succeeds as DrillSucceeds}
use Rattle.rpc_tools.specs.Outcomes.{Simulates, Succeeds, Unmoved, Untouched}
use Rattle.rpc_tools.specs.Runs.{Around, Runs, around}
use Rattle.rpc_tools.specs.Servers.{Serves, ServesBy}
use Rattle.rpc_turns.specs.Moments.{Edges, Outside}
use Rattle.run_status.specs.declared.going.Going.TheVariants.{On, Over}
use Rattle.run_status.specs.declared.status.Status.{Status}
use Rattle.run_status.specs.declared.status.Status.TheVariants as status
use Rattle.run_status.specs.declared.status.Status.TheVariants.{Done, NoMemory, Usage, WriteFault}
use Rattle.run_status.specs.Words.{lacks}
use Rattle.script_grammar.specs.declared.line.Line.{Line}
use Rattle.script_grammar.specs.Script.{script_of}
use Rattle.serve_run.specs.Serving.{HasNotRun}
use Rattle.server_core.proofs.FlushLemmas.{grew-none}

unmoved : (input : Unread) → Unmoved input input
unmoved input = record { kept = Keeps-refl _; quiet = refl }

untouched : (page : Written) → Untouched page page
untouched page = record { kept = Keeps-refl _; quiet = refl }

-- one drill is one seed and so many calls
same-drill : (F : ℕ → ℕ → Type 0) (seed calls s c : ℕ)
    → Some (Drill seed calls) ≡ Some (Drill s c) → F seed calls → F s c
same-drill F seed calls s c e did =
    let one : seed ≡ s = cc in
    let two : calls ≡ c = cc in
    subst (λ (n : ℕ). F n c) one (subst (λ (n : ℕ). F seed n) two did)

-- a drill that met no fault, and was refused no memory, is Done
drill-done : (told : Status) (seed calls : ℕ) (page then_page : Written) (memory then_memory : ℕ)
    → Drills told seed calls page then_page → HasRisenBy (lacks told) memory then_memory
    → IsQuiet page.faults then_page.faults → IsQuiet memory then_memory
    → DrillSucceeds told seed calls page then_page
drill-done Done seed calls page then_page m n did risen sink quiet =
    record { done = refl; line = did }
drill-done WriteFault seed calls page then_page m n did risen sink quiet =
    absurd (no-fault _ _ did.broke.fault sink)
drill-done NoMemory seed calls page then_page m n did risen sink quiet =
    absurd (not-lacking NoMemory m n risen quiet refl)
drill-done _ seed calls page then_page m n did risen sink quiet = absurd did

module _ {L C R : Type 0} (o : Outside L C R) (words : ServeWords) (old new : Edges L C R)
    (page then_page : Written) where
  served-by : (relay : Option (List ℕ)) → ServesBy relay Usage o words old new page then_page → ⊥
  served-by None did = did
  served-by (Some other) did = did

  -- what is read is no word that isn't in the grammar
  served : (told : Status) → Serves told o words old new page then_page → told ≡ Usage → ⊥
  served told did e =
      served-by words.relay (subst (λ (t : Status). Serves t o words old new page then_page) e did)

-- how a load is to end is no word that isn't in the grammar
going-on : (over clean spent : Bool)
    → (if over then Over (if clean then status.Done else status.CallsFailed)
    else (if spent then Over status.TurnsSpent else On)) ≡ Over Usage → ⊥
going-on true true spent e = cc
going-on true false spent e = cc
going-on false clean true e = cc
going-on false clean false e = cc

module _ {L C R : Type 0} (o : Outside L C R) (words : LoadWords) (old new : Edges L C R)
    (page then_page : Written) where
  loaded-by : Loads Usage o words old new page then_page → ⊥
  loaded-by did =
      going-on (is_over (state_in did.0)) (is_clean did.0) (did.0.made == did.0.turns) did.2.0

  loaded : (told : Status) → Loads told o words old new page then_page → told ≡ Usage → ⊥
  loaded told did e =
      loaded-by (subst (λ (t : Status). Loads t o words old new page then_page) e did)

module _ {L C R P : Type 0} (o : Outside L C R) (told : Status) (input then_input : Unread)
    (page then_page : Written) (edges : Edges L C R) (spawner : P) (memory then_memory : ℕ) where
  pub ran-sim : Simulates told input then_input page then_page
      → ((bytes : List ℕ) (script : List Line) → input.left ≡ Some bytes
      → script_of bytes ≡ Ok script → IsQuiet input.faults then_input.faults
      → IsQuiet page.faults then_page.faults → IsQuiet memory then_memory
      → Succeeds script told then_input page then_page)
      → HasRisenBy (lacks told) memory then_memory
      → Runs o (Some Sim) told (around input page edges spawner memory)
      (around then_input then_page edges spawner then_memory)
  ran-sim did succeeds risen = record {
    starts_none = refl;
    usage = λ e. absurd (rw e at did);
    no_task = λ e quiet. absurd cc;
    cause = risen;
    refuses = λ e. absurd (rw e at did);
    simulates = λ e. did;
    headline = λ bytes script e. succeeds bytes script;
    drills = λ seed calls e. absurd cc;
    audits = λ e. absurd cc;
    answers = λ bytes line e. absurd cc;
    reads_nothing = λ no_sim no_audit. absurd (no_sim refl);
    serves = λ words e. absurd cc;
    loads = λ words e. absurd cc;
    alone = record { link_same = refl; clock_same = refl; recorder_same = refl };
    drilled = λ seed calls e. absurd cc;
  }

  pub ran-audit : Audits told input then_input page then_page
      → ((bytes : List ℕ) (line : AuditLine) → input.left ≡ Some bytes → Says bytes line
      → IsQuiet input.faults then_input.faults → IsQuiet page.faults then_page.faults
      → told ≢ NoMemory → Answers line told then_input page then_page)
      → HasRisenBy (lacks told) memory then_memory
      → Runs o (Some Audit) told (around input page edges spawner memory)
      (around then_input then_page edges spawner then_memory)
  ran-audit did says risen = record {
    starts_none = refl;
    usage = λ e. absurd (rw e at did);
    no_task = λ e quiet. absurd cc;
    cause = risen;
    refuses = λ e. absurd (rw e at did);
    simulates = λ e. absurd cc;
    headline = λ bytes script e. absurd cc;
    drills = λ seed calls e. absurd cc;
    audits = λ e. did;
    answers = λ bytes line e. says bytes line;
    reads_nothing = λ no_sim no_audit. absurd (no_audit refl);
    serves = λ words e. absurd cc;
    loads = λ words e. absurd cc;
    alone = record { link_same = refl; clock_same = refl; recorder_same = refl };
    drilled = λ seed calls e. absurd cc;
  }

module _ {L C R P : Type 0} (o : Outside L C R) (told : Status) (input : Unread)
    (page then_page : Written) (edges : Edges L C R) (spawner : P) (memory then_memory : ℕ)
    (risen : HasRisenBy (lacks told) memory then_memory) where
  pub ran-drill : (seed calls : ℕ) → Drills told seed calls page then_page
      → Runs o (Some (Drill seed calls)) told (around input page edges spawner memory)
      (around input then_page edges spawner then_memory)
  ran-drill seed calls did = record {
    starts_none = refl;
    usage = λ e. absurd (rw e at did);
    no_task = λ e quiet. absurd cc;
    cause = risen;
    refuses = λ e. absurd (rw e at did);
    simulates = λ e. absurd cc;
    headline = λ bytes script e. absurd cc;
    drills = λ s c e. same-drill (λ s c. Drills told s c page then_page) seed calls s c e did;
    audits = λ e. absurd cc;
    answers = λ bytes line e. absurd cc;
    reads_nothing = λ no_sim no_audit. unmoved input;
    serves = λ words e. absurd cc;
    loads = λ words e. absurd cc;
    alone = record { link_same = refl; clock_same = refl; recorder_same = refl };
    drilled = λ s c e sink quiet.
        same-drill (λ s c. DrillSucceeds told s c page then_page) seed calls s c e
        (drill-done told seed calls page then_page memory then_memory did risen sink quiet);
  }

  pub ran-load : (words : LoadWords) (then_edges : Edges L C R)
      → Loads told o words edges then_edges page then_page
      → Runs o (Some (Load words)) told (around input page edges spawner memory)
      (around input then_page then_edges spawner then_memory)
  ran-load words then_edges did = record {
    starts_none = refl;
    usage = λ e. absurd (loaded o words edges then_edges page then_page told did e);
    no_task = λ e quiet. absurd cc;
    cause = risen;
    refuses = λ e. absurd (loaded o words edges then_edges page then_page told did e);
    simulates = λ e. absurd cc;
    headline = λ bytes script e. absurd cc;
    drills = λ seed calls e. absurd cc;
    audits = λ e. absurd cc;
    answers = λ bytes line e. absurd cc;
    reads_nothing = λ no_sim no_audit. unmoved input;
    serves = λ words e. absurd cc;
    loads = λ other e. let same : words ≡ other = cc in
        subst (λ (w : LoadWords). Loads told o w edges then_edges page then_page) same did;
    alone = tt;
    drilled = λ seed calls e. absurd cc;
  }

  pub ran-serve : (words : ServeWords) (then_edges : Edges L C R) (then_spawner : P)
      → Serves told o words edges then_edges page then_page
      → Runs o (Some (Serve words)) told (around input page edges spawner memory)
      (around input then_page then_edges then_spawner then_memory)
  ran-serve words then_edges then_spawner did = record {
    starts_none = tt;
    usage = λ e. absurd (served o words edges then_edges page then_page told did e);
    no_task = λ e quiet. absurd cc;
    cause = risen;
    refuses = λ e. absurd (served o words edges then_edges page then_page told did e);
    simulates = λ e. absurd cc;
    headline = λ bytes script e. absurd cc;
    drills = λ seed calls e. absurd cc;
    audits = λ e. absurd cc;
    answers = λ bytes line e. absurd cc;
    reads_nothing = λ no_sim no_audit. unmoved input;
    serves = λ other e. let same : words ≡ other = cc in
        subst (λ (w : ServeWords). Serves told o w edges then_edges page then_page) same did;
    loads = λ words e. absurd cc;
    alone = tt;
    drilled = λ seed calls e. absurd cc;
  }

later-quiet : (memory mid then_memory : ℕ) → memory ≤ mid → mid ≤ then_memory
    → IsQuiet memory then_memory → IsQuiet mid then_memory
later-quiet memory mid then_memory less more quiet =
    record { same = omega (arith, quiet.same); room = omega (arith, quiet.same, quiet.room) }

-- a task that was read from words, for which memory may have been refused too
module _ {L C R P : Type 0} (o : Outside L C R) (task : Task) (told : Status) (input : Unread)
    (page : Written) (edges : Edges L C R) (spawner : P) (memory mid : ℕ)
    (less : memory ≤ mid) where
  pub ran-read : (new : Around L C R P)
      → Runs o (Some task) told (around input page edges spawner mid) new
      → Runs o (Some task) told (around input page edges spawner memory) new
  ran-read new runs = record {
    starts_none = runs.starts_none;
    usage = runs.usage;
    no_task = λ e quiet. absurd cc;
    cause = later-risen (lacks told) memory mid new.memory less runs.cause;
    refuses = runs.refuses;
    simulates = runs.simulates;
    headline = λ bytes script e left is source sink quiet.
        runs.headline bytes script e left is source sink
        (later-quiet memory mid new.memory less runs.cause.no_less quiet);
    drills = runs.drills;
    audits = runs.audits;
    answers = runs.answers;
    reads_nothing = runs.reads_nothing;
    serves = runs.serves;
    loads = runs.loads;
    alone = runs.alone;
    drilled = λ seed calls e sink quiet.
        runs.drilled seed calls e sink
        (later-quiet memory mid new.memory less runs.cause.no_less quiet);
  }

-- words that are in no row
pub ran-nothing : {L C R P : Type 0} (o : Outside L C R) (input : Unread) (page : Written)
    (edges : Edges L C R) (spawner : P) (memory then_memory : ℕ)
    → HasRisenBy 0 memory then_memory
    → Runs o None Usage (around input page edges spawner memory)
    (around input page edges spawner then_memory)
ran-nothing o input page edges spawner memory then_memory risen = record {
  starts_none = refl;
  usage = λ e. refl;
  no_task = λ e quiet. refl;
  cause = risen;
  refuses = λ e. record { source = unmoved input; sink = untouched page };
  simulates = λ e. absurd cc;
  headline = λ bytes script e. absurd cc;
  drills = λ seed calls e. absurd cc;
  audits = λ e. absurd cc;
  answers = λ bytes line e. absurd cc;
  reads_nothing = λ no_sim no_audit. unmoved input;
  serves = λ words e. absurd cc;
  loads = λ words e. absurd cc;
  alone = record { link_same = refl; clock_same = refl; recorder_same = refl };
  drilled = λ seed calls e. absurd cc;
}

starts-same : {P : Type 0} (asked : Option Task) (spawner : P) → StartsNone asked spawner spawner
starts-same None spawner = refl
starts-same (Some Sim) spawner = refl
starts-same (Some Audit) spawner = refl
starts-same (Some (Drill seed calls)) spawner = refl
starts-same (Some (Serve words)) spawner = tt
starts-same (Some (Load words)) spawner = refl

module _ {L C R : Type 0} (edges : Edges L C R) where
  left-alone : Alone edges.link edges.link edges.clock edges.clock edges.rec edges.rec
  left-alone = record { link_same = refl; clock_same = refl; recorder_same = refl }

  alone-same : (asked : Option Task)
      → StaysAlone asked edges.link edges.link edges.clock edges.clock edges.rec edges.rec
  alone-same None = left-alone
  alone-same (Some Sim) = left-alone
  alone-same (Some Audit) = left-alone
  alone-same (Some (Drill seed calls)) = left-alone
  alone-same (Some (Serve words)) = tt
  alone-same (Some (Load words)) = tt

  not-run : (o : Outside L C R) → HasNotRun o edges edges
  not-run o = record { sent = refl; ticks = refl; noted = refl }

  serves-unread : (o : Outside L C R) (words : ServeWords) (page : Written)
      (relay : Option (List ℕ)) → ServesBy relay NoMemory o words edges edges page page
  serves-unread o words page None = (refl, not-run o, refl)
  serves-unread o words page (Some other) = (inl (not-run o), refl)

-- words that weren't read for want of memory
pub ran-unread : {L C R P : Type 0} (o : Outside L C R) (asked : Option Task) (input : Unread)
    (page : Written) (edges : Edges L C R) (spawner : P) (memory then_memory : ℕ)
    → HasRisenBy 1 memory then_memory
    → Runs o asked NoMemory (around input page edges spawner memory)
    (around input page edges spawner then_memory)
ran-unread o asked input page edges spawner memory then_memory risen =
    let lacking : IsQuiet memory then_memory → ⊥ =
    λ quiet. not-lacking NoMemory memory then_memory risen quiet refl in
    record {
      starts_none = starts-same asked spawner;
      usage = λ e. absurd cc;
      no_task = λ e quiet. absurd (lacking quiet);
      cause = risen;
      refuses = λ e. absurd cc;
      simulates = λ e. (refl, untouched page);
      headline = λ bytes script e left is source sink quiet. absurd (lacking quiet);
      drills = λ seed calls e. untouched page;
      audits = λ e. untouched page;
      answers = λ bytes line e left says source sink memory. absurd (memory refl);
      reads_nothing = λ no_sim no_audit. unmoved input;
      serves = λ words e. serves-unread edges o words page words.relay;
      loads = λ words e. (
        refl,
        record { noted = []; grew = grew-none o.log edges.rec; runs = inl refl },
        refl,
      );
      alone = alone-same edges asked;
      drilled = λ seed calls e sink quiet. absurd (lacking quiet);
    }

-- it is asked for this
pub as-asked : {L C R P : Type 0} {o : Outside L C R} {asked other : Option Task} {told : Status}
    {old new : Around L C R P} → asked ≡ other → Runs o other told old new
    → Runs o asked told old new
as-asked {L} {C} {R} {P} {o} {asked} {other} {told} {old} {new} e runs =
    subst (λ (a : Option Task). Runs o a told old new) (sym e) runs

pub as-task : {L C R P : Type 0} {o : Outside L C R} {task other : Task} {told : Status}
    {old new : Around L C R P} → task ≡ other → Runs o (Some other) told old new
    → Runs o (Some task) told old new
as-task e runs = as-asked (ap (λ (t : Task). Some t) e) runs
