-- What `load` did, from its start to its end.
use Rattle.std.proofs.Common.{◌≡◌, ◌≢◌, ◌⊎◌, inl, inr, ℕ, List, [], ◌∷◌, ◌++◌, refl}
use Rattle.std.proofs.Common.{sym, ap, subst}
use Rattle.std.proofs.Common.{◌∙◌, arith}
use Rattle.std.specs.Prelude.{option_map}
use Rattle.rpc_outside.specs.Writing.{Written}
use Rattle.command_line.specs.Words.{LoadWords}
use Rattle.node_steps.specs.Notes.{is_asked, sent_of}
use Rattle.node_steps.proofs.NoteSteps.{sent-append}
use Rattle.node_steps.proofs.NoteCounts.{many-append}
use Rattle.load_plan.specs.Calls.{Calls}
use Rattle.load_run.specs.declared.tally.Tally.{Tally}
use Rattle.load_run.specs.Loading.{HasLoadedOnce, HasRun, Loads, LoadsSoFar, LoadsTurns, NotesRun}
use Rattle.load_run.specs.Loading.{Prints, StartsAs}
use Rattle.rpc_turns.specs.Chains.{Turns}
use Rattle.rpc_turns.specs.Moments.{Edges, Moment, Outside, where_at}
use Rattle.rpc_turns.specs.Plain.{limits_at}
use Rattle.load_run.specs.Loading.{TurnsEnd, going_at}
use Rattle.load_run.specs.Tallies.{Tallies}
use Rattle.load_run.proofs.EndLemmas.{end-known}
use Rattle.load_run.proofs.OrderLemmas.{order-none, order-then}
use Rattle.load_run.proofs.TallyLemmas.{counts-silent, tallies-none}
use Rattle.load_run.specs.declared.run.TheConstants.{LOAD_CREDITS}
use Rattle.rpc_base.specs.declared.event.Event.TheVariants.{Opened}
use Rattle.rpc_base.specs.declared.fact.Fact.{Fact}
use Rattle.rpc_laws.specs.Facts.{plain}
use Rattle.memory_count.specs.Faults.{HasRisen}
use Rattle.run_status.specs.declared.going.Going.TheVariants.{On, Over}
use Rattle.run_status.specs.declared.status.Status.{Status}
use Rattle.run_status.specs.declared.status.Status.TheVariants.{LinkFault, NoMemory}
use Rattle.server_core.proofs.FlushLemmas.{grew-then}

module _ {L C R : Type 0} (o : Outside L C R) (words : LoadWords) (old : Edges L C R) (via : L)
    (mid : R) (start : LoadsSoFar) (last : Moment LoadsSoFar L C R)
    (starts : StartsAs o.log o.net words old.link via old.rec mid start) where
  abbrev first : Moment LoadsSoFar L C R
  first = where_at start via old.clock mid

  abbrev run : LoadsSoFar
  run = last.run

  -- turns were made since the start
  ran : (told : Status) (many : ℕ) → going_at run ≡ Over told
      → o.net.faults last.edges.link ≡ o.net.faults via
      → LoadsTurns o many first last → HasRun o words old last
  ran told many e still turns =
      let limits = limits_at words.timeout in
      let on = turns.on in
      let counts = on.counts limits starts.noted starts.stands in
      let all : many ≡ run.made = let made = on.made in let none = starts.made in
      omega (arith, made, none) in
      let first : Tallies start.ledger.plan start.ledger.tally [] =
      subst (λ (t : Tally). Tallies start.ledger.plan t []) (sym starts.tally)
      (tallies-none start.ledger.plan) in
      let opened : Tallies start.ledger.plan start.ledger.tally starts.noted =
      (counts-silent starts.noted start.ledger starts.ends).tally [] first in
      record {
        ready = via;
        mid = mid;
        start = start;
        starts = starts;
        each = subst (λ n. Turns (HasLoadedOnce o) n (where_at start via old.clock mid) last) all
            turns.each;
        over = λ on. let both : Over told ≡ On = sym e ∙ on in cc;
        plan = counts.plan ∙ starts.plan;
        turns = on.turns ∙ starts.turns;
        turned = record {
          noted = starts.noted ++ on.runs.goes.noted;
          grew = grew-then o.log old.rec mid last.edges.rec starts.noted on.runs.goes.noted
              starts.grew on.runs.goes.grew;
          in_life = on.runs.goes.lives limits starts.noted starts.stands ∙ starts.life;
          stands = on.runs.goes.goes_on limits starts.noted starts.stands;
          sends = on.runs.sends limits starts.noted starts.stands
              ∙ ap (option_map (λ ds. ds ++ sent_of on.runs.goes.noted)) starts.traffic.sent
              ∙ ap (λ x. option_map (λ ds. ds ++ x) (o.net.sent old.link))
              (sym (sent-append starts.noted on.runs.goes.noted
              ∙ ap (λ x. x ++ sent_of on.runs.goes.noted) starts.sends));
          times = on.runs.times;
          count = let count = on.runs.count in let made = on.made in let none = starts.made in
              omega arith;
          ticks = on.runs.ticks;
        };
        opens = (
          starts.peer,
          on.runs.goes.noted,
          ap (λ (x : List Fact). x ++ on.runs.goes.noted) starts.opens
              ∙ ap (λ n. plain 0 (Opened n starts.peer LOAD_CREDITS)
              ∷ on.runs.goes.noted) (sym on.session),
        );
        asked =
            let more = on.asks limits starts.noted starts.stands in
            let first = starts.asked in
            let none = starts.none in
            omega (arith, more, first, none, many-append is_asked starts.noted on.runs.goes.noted);
        order =
            let order = on.order limits starts.noted starts.stands (starts.asked ∙ sym starts.none) in
            let none = starts.none in
            order-then run.ledger.plan run.session 0 0 starts.noted on.runs.goes.noted
            (omega (arith, none)) (order-none run.ledger.plan run.session 0 starts.noted starts.none)
            (rw (← counts.plan, ← on.session, starts.asked) at order);
        tallies = subst (λ (c : Calls). Tallies c run.ledger.tally
            (starts.noted ++ on.runs.goes.noted)) (sym counts.plan)
            (counts.tally starts.noted opened);
        quiet = still ∙ starts.faults;
      }

  pub has-run : (told : Status) → told ≢ NoMemory → told ≢ LinkFault
      → TurnsEnd told o first last → HasRun o words old last
  has-run NoMemory kept held ends = absurd (kept refl)
  has-run LinkFault kept held ends = absurd (held refl)
  has-run told kept held ends = ran told ends.2 ends.0 ends.1 ends.3

  -- the link failed, or there was no memory, and nothing was written
  pub loads-stopped : (page : Written) (told : Status) → (told ≡ LinkFault) ⊎ (told ≡ NoMemory)
      → TurnsEnd told o first last
      → NotesRun o.log words.life (limits_at words.timeout) old.rec last.edges.rec
      → Loads told o words old last.edges page page
  loads-stopped page LinkFault which ends notes =
      (subst (λ n. HasRisen n (o.net.faults last.edges.link)) starts.faults ends, notes, refl)
  loads-stopped page NoMemory which ends notes = (ends ∙ starts.faults, notes, refl)
  loads-stopped page told (inl e) ends notes = cc
  loads-stopped page told (inr e) ends notes = cc

-- and its line was written
pub loads-printed : {L C R : Type 0} (o : Outside L C R) (words : LoadWords) (old : Edges L C R)
    (last : Moment LoadsSoFar L C R) (page then_page : Written)
    → HasRun o words old last → (told : Status) → Prints last.run told page then_page
    → Loads told o words old last.edges page then_page
loads-printed o words old last page then_page has LinkFault prints =
    absurd (end-known last.run LinkFault prints.0)
loads-printed o words old last page then_page has NoMemory prints =
    absurd (end-known last.run NoMemory prints.0)
loads-printed o words old last page then_page has told prints = (last.run, has, prints)
