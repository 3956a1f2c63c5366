-- Turns of a server, one after another.
use Rattle.std.proofs.Common.{◌≡◌, ◌≢◌, inl, inr, ℕ, suc, ◌+◌, ◌<◌, ◌≤◌, Bool, true, false}
use Rattle.std.proofs.Common.{[], ◌++◌, refl, ap, subst, ◌∙◌, arith}
use Rattle.std.specs.Prelude.{◌==◌, option_map}
use Rattle.std.proofs.lemmas.Bool.{eqb-false, eqb-true}
use Rattle.command_line.specs.Words.{ServeWords}
use Rattle.node_steps.specs.Changes.{Change}
use Rattle.node_steps.specs.Notes.{sent_of}
use Rattle.endpoint_loop.specs.PlainMembers.{plain_members}
use Rattle.rpc_laws.specs.declared.tables.Timed.{Timed}
use Rattle.memory_count.proofs.Risen.{none-risen-by}
use Rattle.memory_count.specs.Faults.{HasRisen, HasRisenBy}
use Rattle.rpc_outside.specs.Writing.{Written}
use Rattle.rpc_turns.proofs.RunLemmas.{none-made, runs-then}
use Rattle.rpc_turns.specs.Moments.{Edges, Moment, Outside, where_at}
use Rattle.rpc_turns.specs.Plain.{crew_members, limits_at}
use Rattle.rpc_turns.specs.Turns.{RunsOn}
use Rattle.run_status.specs.Words.{lacks}
use Rattle.run_status.specs.declared.going.Going.{Going}
use Rattle.run_status.specs.declared.going.Going.TheVariants.{On, Over}
use Rattle.run_status.specs.declared.status.Status.{Status}
use Rattle.run_status.specs.declared.status.Status.TheVariants as statuses
use Rattle.serve_run.specs.Serving.{Answers, HasServed, HasServedAll, HasServedSome, Serves, ServesOn}
use Rattle.serve_run.specs.Serving.{ServesSoFar, StartsServing, TurnsEnd, Writes, end_at}
use Rattle.serve_run.specs.Serving.{turns_line}

module _ {L C R : Type 0} (o : Outside L C R) where
  abbrev At : Type 0
  At = Moment ServesSoFar L C R

  -- what one turn follows from
  abbrev Goes : ℕ → (a b : At) → Type 0
  Goes n a b = RunsOn plain_members crew_members o (end_at a) (end_at b) n

  abbrev faults : At → ℕ
  faults a = o.net.faults a.edges.link

  pub serves-none : (a : At) → ServesOn o a a
  serves-none a = record {
    many = 0;
    made = omega arith;
    turns = refl;
    each = refl;
    runs = none-made o (end_at a);
  }

  -- one turn more
  serves-more : (a b c : At) (memory : Change ℕ) → ServesOn o a b → HasServed o b c memory
      → Goes 1 b c → ServesOn o a c
  serves-more a b c memory on one goes =
      let next : on.many + 1 ≡ suc on.many = omega arith in
      let count = ap (λ (s : ServesSoFar). s.made) one.counted in
      record {
        many = suc on.many;
        made = omega (arith, on.made, count);
        turns = ap (λ (s : ServesSoFar). s.turns) one.counted ∙ on.turns;
        each = (b, on.each, (memory, one));
        runs = subst (λ n. Goes n a c) next
            (runs-then o (end_at a) (end_at b) (end_at c) on.many 1 on.runs goes);
      }

  module _ (a b c : At) (memory : Change ℕ) (on : ServesOn o a b)
      (still : faults b ≡ faults a) (left : b.run.made < b.run.turns)
      (one : HasServed o b c memory) (goes : Goes 1 b c) where
    made : c.run.made ≡ b.run.made + 1
    made = ap (λ (s : ServesSoFar). s.made) one.counted

    turns : c.run.turns ≡ b.run.turns
    turns = ap (λ (s : ServesSoFar). s.turns) one.counted

    -- the run is over
    pub turns-over : (status : Status)
        → Answers (faults b) (faults c) c.run (Over status)
        → TurnsEnd status o a c
    turns-over status (inl (same, risen)) =
        let failed : status ≡ statuses.LinkFault = cc in
        rw failed (
          omega (arith, left, made, turns),
          subst (λ n. HasRisen n (faults c)) still risen,
          serves-more a b c memory on one goes,
        )
    turns-over status (inr (same, quiet)) = by (c.run.made == c.run.turns) refl
      where
        by : (t : Bool) → (c.run.made == c.run.turns) ≡ t → TurnsEnd status o a c
        by true e =
            let told : Over status ≡ Over statuses.Done = rw e at same in
            let done : status ≡ statuses.Done = cc in
            rw done (
              eqb-true c.run.made c.run.turns e,
              quiet ∙ still,
              serves-more a b c memory on one goes,
            )
        by false e = let told : Over status ≡ On = rw e at same in cc

    -- it goes on: turns are left, and the link didn't fail
    pub turns-on : (going : Going) → ((status : Status) → going ≡ Over status → ⊥)
        → Answers (faults b) (faults c) c.run going
        → ServesOn o a c × (faults c ≡ faults a) × (c.run.made < c.run.turns)
    turns-on going not (inl (same, risen)) = absurd (not statuses.LinkFault same)
    turns-on going not (inr (same, quiet)) = by (c.run.made == c.run.turns) refl
      where
        by : (t : Bool) → (c.run.made == c.run.turns) ≡ t
            → ServesOn o a c × (faults c ≡ faults a) × (c.run.made < c.run.turns)
        by true e = absurd (not statuses.Done (rw e at same))
        by false e =
            let other = eqb-false c.run.made c.run.turns e in (
              serves-more a b c memory on one goes,
              quiet ∙ still,
              omega (arith, left, made, turns, other),
            )

-- the turns of a run never end for want of memory
pub ends-none : {L C R : Type 0} (o : Outside L C R) (told : Status) (a b : Moment ServesSoFar L C R)
    (m n : ℕ) → TurnsEnd told o a b → m ≤ n → HasRisenBy (lacks told) m n
ends-none o statuses.Done a b m n ends le = none-risen-by m n le
ends-none o statuses.LinkFault a b m n ends le = none-risen-by m n le
ends-none o _ a b m n ends le = absurd ends

module _ {L C R : Type 0} (o : Outside L C R) (words : ServeWords) (old : Edges L C R) (via : L)
    (fresh : ServesSoFar) (last : Moment ServesSoFar L C R)
    (starts : StartsServing o.net words old.link via fresh) where
  abbrev first : Moment ServesSoFar L C R
  first = where_at fresh via old.clock old.rec

  abbrev new : ServesSoFar
  new = last.run

  abbrev then_faults : ℕ
  then_faults = o.net.faults last.edges.link

  -- turns were made
  served : ServesOn o first last → HasServedSome o words new.made old last
  served on =
      let many : on.many ≡ new.made = let made = on.made in let none = starts.made in
      omega (arith, made, none) in
      subst (λ n. HasServedSome o words n old last) many
      (record {
        ready = via;
        start = fresh;
        starts = starts;
        each = on.each;
        turned = record {
          noted = on.runs.goes.noted;
          grew = on.runs.goes.grew;
          in_life = on.runs.goes.lives (limits_at words.timeout) [] starts.stands
              ∙ ap (λ (t : Timed). t.lists.life) starts.timed;
          stands = on.runs.goes.goes_on (limits_at words.timeout) [] starts.stands;
          sends = on.runs.sends (limits_at words.timeout) [] starts.stands
              ∙ ap (option_map (λ ds. ds ++ sent_of on.runs.goes.noted)) starts.traffic.sent;
          times = on.runs.times;
          count = on.runs.count;
          ticks = on.runs.ticks;
        };
      })

  -- all of them
  served-all : new.made ≡ new.turns → then_faults ≡ o.net.faults via → ServesOn o first last
      → HasServedAll o words old last.edges
      (turns_line new.turns new.endpoint.timed.lists.counts)
  served-all all still on = record {
    run = new;
    served = subst (λ n. HasServedSome o words n old last) (all ∙ on.turns ∙ starts.turns)
        (served on);
    quiet = still ∙ starts.faults;
    counts = ap (λ n. turns_line n new.endpoint.timed.lists.counts) (on.turns ∙ starts.turns);
  }

  -- the link failed in the last of them
  ends-early : (page then_page : Written) → new.made ≤ new.turns
      → HasRisen (o.net.faults via) then_faults → ServesOn o first last → then_page ≡ page
      → Serves statuses.LinkFault o words old last.edges page then_page
  ends-early page then_page most risen on same =
      let turns = on.turns in
      let words_turns = starts.turns in (
        subst (λ n. HasRisen n then_faults) starts.faults risen,
        inr (new.made, new, omega (arith, most, turns, words_turns), served on),
        same,
      )

  -- so it is where not all were made
  pub stops : (told : Status) (page : Written) → told ≢ statuses.Done
      → TurnsEnd told o first last → Serves told o words old last.edges page page
  stops statuses.Done page not ends = absurd (not refl)
  stops statuses.LinkFault page not ends = ends-early page page ends.0 ends.1 ends.2 refl
  stops _ page not ends = absurd ends

  -- and the line was written, or a front of it
  pub ends-well : (told : Status) (page then_page : Written) → new.made ≡ new.turns
      → then_faults ≡ o.net.faults via
      → ServesOn o first last
      → Writes told (turns_line new.turns new.endpoint.timed.lists.counts) page then_page
      → Serves told o words old last.edges page then_page
  ends-well statuses.Done page then_page all still on wrote =
      (turns_line new.turns new.endpoint.timed.lists.counts, served-all all still on, wrote)
  ends-well statuses.WriteFault page then_page all still on wrote =
      (turns_line new.turns new.endpoint.timed.lists.counts, served-all all still on, wrote)
  ends-well _ page then_page all still on wrote = absurd wrote
